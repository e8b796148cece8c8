-- No edition records while no edit starts it.
use Rattle.std.proofs.Common.{◌≡◌, ℕ, zero, suc, ◌≤◌, List, [], ◌∷◌, ◌++◌, length, inl, inr, refl, ap, subst, ◌∙◌, arith}
use Rattle.std.specs.Prelude.{Bool, true, false, nat_le, Option, Some, None, Ok, Err, slice_get}
use Rattle.std.proofs.lemmas.Bool.{cases_lt}
use Rattle.std.proofs.lemmas.Option.{same_Some}
use Rattle.session_model.specs.declared.session.Session.{Session}
use Rattle.session_model.specs.declared.edit.Edit.{Edit}
use Rattle.session_model.specs.declared.edit.Edit.TheVariants.{Recording}
use Rattle.engine_model.specs.Transport.{Transport, moved}
use Rattle.engine_model.specs.Refusals.{Edits, Limit, Checked, ◌>>=◌, refused_if}
use Rattle.engine_model.specs.Changes.{Change}
use Rattle.engine_model.specs.Commands.{change_of}
use Rattle.engine_model.specs.Editions.{Edition, after_one, apply, changed, edition, taken_up}
use Rattle.engine_laws.proofs.EditionLemmas.{edition_stays}
use Rattle.worker_pair.specs.Never.{NeverRecords, starts_recording}

-- a transport that doesn't record stays so by an edit that doesn't start it
moved_never : (c : Transport) (e : Edit) → starts_recording e ≡ false → c.recording ≡ false → (moved c e).recording ≡ false
moved_never c (Recording on) quiet never = quiet
moved_never c _ quiet never = never

-- and so does an edition, whether the edit is accepted or not
after_never : (e : Edition) (edit : Edit) → starts_recording edit ≡ false → e.transport.recording ≡ false → (taken_up e (apply e edit)).transport.recording ≡ false
after_never e edit quiet never = by (nat_le 10000 e.number) (change_of e.session e.transport.wrap edit)
  where
    by : (full : Bool) (change : Checked Change) → (taken_up e (refused_if full (Limit Edits) >>= (λ room. change >>= (λ c. Ok (changed e edit c))))).transport.recording ≡ false
    by true change = never
    by false (Ok c) = moved_never e.transport edit quiet never
    by false (Err why) = never

-- the edit behind those of a list
behind : (xs : List Edit) (x : Edit) (k : ℕ) (y : Edit) → length xs ≤ k → slice_get (xs ++ x ∷ []) k ≡ Some y → x ≡ y
behind [] x zero y past here = same_Some x y here
behind [] x (suc k) y past here = absurd cc
behind (z ∷ xs) x zero y past here = absurd (omega (arith, past))
behind (z ∷ xs) x (suc k) y past here = behind xs x k y (omega (arith, past)) here

-- no edition of no edit records
pub never_first : (s : Session) → NeverRecords s []
never_first s zero = refl
never_first s (suc k) = never_first s k

-- and none does with one edit more that doesn't start it
pub never_more : (s : Session) (edits : List Edit) (edit : Edit) → NeverRecords s edits → starts_recording edit ≡ false → NeverRecords s (edits ++ edit ∷ [])
never_more s edits edit never quiet = each
  where
    by_edit : (k : ℕ) (o : Option Edit) → length edits ≤ k → slice_get (edits ++ edit ∷ []) k ≡ o → (edition s (edits ++ edit ∷ []) k).transport.recording ≡ false →
        (after_one (edition s (edits ++ edit ∷ []) k) o).transport.recording ≡ false
    by_edit k None past here before = before
    by_edit k (Some x) past here before = after_never (edition s (edits ++ edit ∷ []) k) x (subst (λ y. starts_recording y ≡ false) (behind edits edit k x past here) quiet) before

    each : (k : ℕ) → (edition s (edits ++ edit ∷ []) k).transport.recording ≡ false
    each zero = refl
    each (suc k) = elim (cases_lt k (length edits)) [
      | inl early ↦ ap (λ e. e.transport.recording) (edition_stays s edits (edit ∷ []) (suc k) (omega (arith, early))) ∙ never (suc k)
      | inr past ↦ by_edit k (slice_get (edits ++ edit ∷ []) k) past refl (each k)
    ]
