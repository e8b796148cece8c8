use Rattle.std.proofs.Common.{refl, ap, sym, ◌∙◌, rules}
use Rattle.piece_item.specs.declared.item.Item.{Item}
use Rattle.piece_item.specs.Views.{item_of, kind_of}
use Rattle.play_window.specs.Offers.{is_later}
use Rattle.play_window.proofs.PassLemmas.{goes_on_in, goes_on_unchanged, not_later}
use Rattle.play_window.proofs.window.Window.offer.Goals as goal

pub returns-then-is_later-clause-answer : goal.returns-then-is_later-clause-answer
returns-then-is_later-clause-answer c = record {
  later = ap (λ (x : Item). is_later c.args.generation (kind_of x.kind)) (sym c.deref.ensures) ∙ sym c.is_later.ensures ∙ c.if-is_later.true;
  item_back = refl;
  same = refl;
}

pub returns-then-is_later-clause-goes_on : goal.returns-then-is_later-clause-goes_on
returns-then-is_later-clause-goes_on c = goes_on_unchanged c.args.self.now c.args.generation c.args.next c.requires.since

pub take_in-requires-clause-now : goal.take_in-requires-clause-now
take_in-requires-clause-now c = not_later c.args.generation c.args.item.value c.deref.result.now c.is_later.result c.deref.ensures c.is_later.ensures (search rules)

pub returns-clause-answer : goal.returns-clause-answer
returns-clause-answer c = c.take_in.ensures

pub returns-clause-goes_on : goal.returns-clause-goes_on
returns-clause-goes_on c = goes_on_in c.args.self.now c.take_in.new.self (record { generation = c.args.generation; next = c.args.next; item = item_of c.args.item.value }) c.take_in.result c.requires.since c.take_in.ensures
