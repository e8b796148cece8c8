-- The table of the acknowledgements taken, with one more.
use Rattle.std.proofs.Common.{◌≡◌, ℕ, ◌<◌, ◌≤◌, List, [], ◌∷◌, ◌++◌, length, set, get_or, max, refl, sym, ap, ◌∙◌, subst, arith, get_or-set_same, get_or-set_other, length-set}
use Rattle.std.specs.Prelude.{◌==◌, if◌then◌else◌}
use Rattle.std.proofs.lemmas.List.{map-append}
use base.Growing.{prefix_trans}
use mathlib.Core.List.{IsPrefix}
use mathlib.Core.Logic.{dite}
use native.Mathlib.Decide.{ℕ_discrete}
use Rattle.engine_model.specs.Due.{Ack, next_block}
use Rattle.piece_item.specs.declared.ack.Ack.{Ack as Acknowledgement}
use Rattle.piece_item.specs.Views.{ack_of}
use Rattle.disk_ring.specs.Receiver.{Receiver, GoesOnOut}
use Rattle.disk_ring.proofs.GoesOn.{goes_on_out_trans}
use Rattle.butler.specs.Sends.{acks_of}
use Rattle.butler.specs.Table.{IsTable}
use Rattle.capture_drain.specs.Drains.{IsDrained}

pub next_more : (acks : List Ack) (a : Ack) (g : ℕ) → next_block (acks ++ a ∷ []) g ≡ (if a.generation == g then max a.next (next_block acks g) else next_block acks g)
next_more [] a g = refl
next_more (x ∷ acks) a g = grind (arith, next_more acks a g)

-- a block that is passed stays passed
pub next_rises : (acks : List Ack) (more : List Ack) (g : ℕ) → next_block acks g ≤ next_block (acks ++ more) g
next_rises [] more g = omega arith
next_rises (x ∷ acks) more g = grind (arith, next_rises acks more g)

pub noted : (nexts : List ℕ) (acks : List Ack) (a : Ack) (n : ℕ) → n ≡ max (get_or nexts a.generation 0) a.next → a.generation < length nexts → IsTable nexts acks → IsTable (set nexts a.generation n) (acks ++ a ∷ [])
noted nexts acks a n is near table = record {
  generations = length-set nexts a.generation n ∙ table.generations;
  each = λ g within. let here = next_more acks a g in dite (ℕ_discrete g a.generation)
      (λ same. subst (λ j. get_or (set nexts a.generation n) j 0 ≡ next_block (acks ++ a ∷ []) j) (sym same)
      (get_or-set_same nexts a.generation n 0 near ∙ grind (arith, is, table.each a.generation near, next_more acks a a.generation)))
      (λ other. get_or-set_other nexts a.generation g n 0 other ∙ table.each g (let long = length-set nexts a.generation n in omega arith) ∙ grind (arith, here, other));
}

pub left_out : (nexts : List ℕ) (acks : List Ack) (a : Ack) → length nexts ≤ a.generation → IsTable nexts acks → IsTable nexts (acks ++ a ∷ [])
left_out nexts acks a far table = record { generations = table.generations; each = λ g within. table.each g within ∙ grind (arith, next_more acks a g, far, within) }

pub acks_more : (acks : List Acknowledgement) (a : Acknowledgement) → acks_of (acks ++ a ∷ []) ≡ acks_of acks ++ ack_of a ∷ []
acks_more acks a = map-append ack_of acks (a ∷ [])

-- the last look found nothing
pub took_all : (z a b : Receiver Acknowledgement) (tail : ℕ) → GoesOnOut z a → a.tails ≡ z.tails → GoesOnOut a b → tail ≡ length a.received → b.tails ≡ a.tails ++ tail ∷ [] → b.received ≡ a.received → IsPrefix a.heard a.received → IsDrained z b
took_all z a b tail before same ring tail_is tails received heard = record {
  goes_on = goes_on_out_trans z a b before ring;
  tails = tails ∙ ap (λ ts. ts ++ tail ∷ []) same ∙ ap (λ n. z.tails ++ n ∷ []) (tail_is ∙ ap length (sym received));
  told = subst (IsPrefix z.heard) (sym received) (prefix_trans z.heard a.heard a.received before.heard heard);
}
