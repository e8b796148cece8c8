-- What travels between butler and process, as the definitions of the engine have it.
use Rattle.engine_model.specs.Items as engine
use Rattle.engine_model.specs.Due as due
use Rattle.piece_item.specs.declared.kind.Kind.{Kind}
use Rattle.piece_item.specs.declared.kind.Kind.TheVariants.{Blank, Piece, Settled}
use Rattle.piece_item.specs.declared.item.Item.{Item}
use Rattle.piece_item.specs.declared.ack.Ack.{Ack}

abbrev pub kind_of : Kind → engine.Kind
kind_of Blank = engine.Blank
kind_of (Piece track generation seq touched) = engine.Piece track generation seq touched
kind_of (Settled edition generation from) = engine.Settled edition generation from

abbrev pub item_of : Item → engine.Item
item_of item = record { kind = kind_of item.kind; samples = item.samples.items }

abbrev pub ack_of : Ack → due.Ack
ack_of ack = record { cycle = ack.cycle; generation = ack.generation; next = ack.next; settled = ack.settled }
