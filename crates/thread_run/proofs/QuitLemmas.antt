-- A quit among the first edits of a list is one of all.
use Rattle.std.proofs.Common.{◌≡◌, ℕ, zero, suc, ◌+◌, ◌-◌, List, length, refl, sym, ap, subst, ◌∙◌, arith}
use Rattle.std.specs.Prelude.{Bool, true, false, if◌then◌else◌}
use Rattle.std.proofs.lemmas.List.{length-append}
use mathlib.Core.List.{IsPrefix}
use Rattle.session_model.specs.declared.session.Session.{Session}
use Rattle.session_model.specs.declared.edit.Edit.{Edit}
use Rattle.engine_model.specs.Edits.{has_quit, holds_at, is_quit}
use Rattle.edition_log.specs.EditionState.{EditionState as Edition, IsEditionOf}
use Rattle.edition_log.proofs.PlayLaws.{editions_play_their_places}
use Rattle.worker_pair.proofs.LongerLemmas.{quit_longer}

-- a quit among the first edits is among more of them
quit_later : (edits : List Edit) (k more n : ℕ) → n ≡ more + k → has_quit edits k ≡ true → has_quit edits n ≡ true
quit_later edits k zero n is quit = let same : n ≡ k = omega (arith, is) in subst (λ z. has_quit edits z ≡ true) (sym same) quit
quit_later edits k (suc more) n is quit = let same : n ≡ suc (more + k) = omega (arith, is) in
    subst (λ z. has_quit edits z ≡ true) (sym same) (by (holds_at is_quit edits (more + k)) (quit_later edits k more (more + k) refl quit))
  where
    by : (b : Bool) → has_quit edits (more + k) ≡ true → (if b then true else has_quit edits (more + k)) ≡ true
    by true later = refl
    by false later = later

-- a quit of an edition is one of each that goes on from it
pub quit_of : (s : Session) (e : Edition) (edits : List Edit) → IsEditionOf s e → IsPrefix e.edits edits → e.transport.quit ≡ true → has_quit edits (length edits) ≡ true
quit_of s e edits of begins quit = quit_later edits (length e.edits) (length edits - length e.edits) (length edits) (omega (arith, ap length begins.1, length-append e.edits begins.0))
    (quit_longer e.edits edits begins ∙ sym (editions_play_their_places s e of).quit ∙ quit)
