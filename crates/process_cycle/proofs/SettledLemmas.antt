-- What was told of an entry names it, and what it has settled.
use Rattle.std.proofs.Common.{◌≡◌, inl, inr, ℕ, suc, ◌-◌, List, [], ◌∷◌, ◌++◌, length, reverse, sym, ap, subst, arith, ◌∙◌}
use Rattle.std.specs.Prelude.{All, Some, slice_get}
use Rattle.std.specs.Option.{option_map_or}
use Rattle.std.proofs.lemmas.List.{length-reverse, reverse-append}
use Rattle.std.proofs.lemmas.List.Elements.{All-cons, All-nil, All-weaker}
use Rattle.std.proofs.lemmas.Option.{slice_get_within}
use Rattle.session_model.specs.declared.edit.Edit.{Edit}
use Rattle.engine_model.specs.Journal.{Entry}
use Rattle.engine_model.specs.Due.{Ack}
use Rattle.engine_laws.proofs.EditionLemmas.{at_the_end, get_stays}
use Rattle.machine_model.specs.Events.{ack_of}
use Rattle.process_cycle.specs.Told.{AreTold, IsSettledBy}

some_is : {X : Type 0} (x y : X) → Some x ≡ Some y → x ≡ y
some_is x y h = ap (λ o. option_map_or (λ z. z) o x) h

-- the newest entry stands at the end
newest_at : (e : Entry) (before : List Entry) → slice_get (reverse (e ∷ before)) (length before) ≡ Some e
newest_at e before = ap (λ l. slice_get l (length before)) (reverse-append (e ∷ []) before)
    ∙ ap (slice_get (reverse before ++ e ∷ [])) (sym (length-reverse before)) ∙ at_the_end (reverse before) e

-- with one entry more
settled_more : (e : Entry) (before : List Entry) (a : Ack) → IsSettledBy (reverse before) a → IsSettledBy (reverse (e ∷ before)) a
settled_more e before a is = record {
  some = is.some;
  entry = is.entry;
  there = ap (λ l. slice_get l (a.cycle - 1)) (reverse-append (e ∷ []) before)
      ∙ get_stays (reverse before) (e ∷ []) (a.cycle - 1) (slice_get_within (reverse before) (a.cycle - 1) is.entry is.there) ∙ is.there;
  settled = is.settled;
}

settled_first : (edits : List Edit) (e : Entry) (before : List Entry) (a : Ack) → ack_of edits (e ∷ before) ≡ Some a → IsSettledBy (reverse (e ∷ before)) a
settled_first edits e before a is = let same = some_is _ _ is in let number : a.cycle ≡ suc (length before) = sym (ap (λ k. k.cycle) same) in record {
  some = omega (arith, number);
  entry = e;
  there = ap (slice_get (reverse (e ∷ before))) (omega (arith, number)) ∙ newest_at e before;
  settled = sym (ap (λ k. k.settled) same);
}

pub told_is_settled : (edits : List Edit) (depth : ℕ) (entries : List Entry) (acks : List Ack) (heads : List ℕ) → AreTold edits depth entries acks heads → All (IsSettledBy (reverse entries)) acks
told_is_settled edits depth [] acks heads told = subst (All (IsSettledBy (reverse []))) (sym told.0) (All-nil (IsSettledBy (reverse [])))
told_is_settled edits depth (e ∷ before) acks heads (inl put) = subst (All (IsSettledBy (reverse (e ∷ before)))) (sym put.newest)
    (All-cons (IsSettledBy (reverse (e ∷ before))) put.ack put.earlier (settled_first edits e before put.ack put.is)
    (All-weaker (IsSettledBy (reverse before)) (IsSettledBy (reverse (e ∷ before))) (settled_more e before) put.earlier (told_is_settled edits depth before put.earlier heads put.told)))
told_is_settled edits depth (e ∷ before) acks heads (inr full) =
    All-weaker (IsSettledBy (reverse before)) (IsSettledBy (reverse (e ∷ before))) (settled_more e before) acks (told_is_settled edits depth before acks full.earlier full.told)
