-- Empty boxes, whose samples are 0, and boxes that are filled again.
use Rattle.std.specs.Prelude.{ℕ, ℤ, List}
use Rattle.ses_io.specs.FixedList.{with_items}
use Rattle.piece_item.specs.Silence.{silence_of}
use Rattle.piece_item.specs.declared.kind.Kind.{Kind}
use Rattle.piece_item.specs.declared.kind.Kind.TheVariants.{Blank}
use Rattle.piece_item.specs.declared.item.Item.{Item}
use Rattle.piece_item.specs.declared.take_block.TakeBlock.{TakeBlock}
use Rattle.piece_item.specs.declared.ack.Ack.{Ack}

abbrev pub blank_item : ℕ → Item
blank_item samples = record { kind = Blank; samples = silence_of samples }

abbrev pub blank_block : ℕ → TakeBlock
blank_block samples = record { take = 0; index = 0; samples = silence_of samples }

abbrev pub blank_ack : Ack
blank_ack = record { cycle = 0; generation = 0; next = 0; settled = 0 }

-- the box as this kind of item, with these samples in the place of the ones that it had
abbrev pub filled : Item → Kind → List ℤ → Item
filled item kind samples = record { kind = kind; samples = with_items item.samples samples }
