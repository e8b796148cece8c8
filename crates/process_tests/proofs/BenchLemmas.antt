-- Why a process on a bench may look, and how it stands then.
use Rattle.std.proofs.Common.{◌≡◌, ℕ, List, [], length, refl, sym, ap, ◌∙◌, subst, arith}
use Rattle.std.specs.Prelude.{Bool, Option, true, false, take, drop}
use Rattle.std.proofs.lemmas.List.{take-append-drop}
use Rattle.std.proofs.Math.Seq.{take-length}
use mathlib.Core.List.{IsPrefix}
use Rattle.ses_io.specs.Outside.{SourceOutside, SinkOutside}
use Rattle.session_model.specs.declared.session.Session.{Session}
use Rattle.session_model.specs.declared.edit.Edit.{Edit}
use Rattle.edition_log.specs.EditionState.{EditionState as Edition}
use Rattle.process_cycle.specs.ProcessState.{ProcessState, Playing, entered}
use Rattle.wav_codec.specs.declared.info.WavInfo.{WavInfo}
use Rattle.process_ends.specs.declared.ends.ProcessEnds.{ProcessEnds}
use Rattle.process_cycle.specs.Playing.{HasBegun, IsPlaying}
use Rattle.process_cycle.specs.Looked.{MayLook, HasLooked}
use Rattle.process_tests.specs.Bench.{IsOnBench, IsOpened, Stand, playing_by}

-- ---- the edits that were given last are a front of the edition's

front : (n : ℕ) (xs : List Edit) → IsPrefix (take n xs) xs
front n xs = (drop n xs, take-append-drop n xs)

pub all_taken : (n : ℕ) (xs : List Edit) → n ≡ length xs → take n xs ≡ xs
all_taken n xs all = ap (λ k. take k xs) all ∙ take-length xs

-- a flag isn't both
pub never : {A : Type 0} (b : Bool) → b ≡ false → b ≡ true → A
never b is_off is_on = absurd cc

-- a new one: it was given no edit, and may look in the edition that was opened
pub new_bench : {I W : Type 0} (inputs : SourceOutside I) (sinks : SinkOutside W) (s : Session) (e : Edition) (cycles : ℕ) (start : List ℕ) (input : I) (form : Option WavInfo) (master : W) (rings : ProcessEnds) (p : ProcessState I W)
    → IsOpened s e → inputs.left input ≡ start → sinks.held master ≡ [] → HasBegun inputs sinks e.session cycles input form master rings p → IsOnBench inputs sinks s e 0 start (record { fresh = true; looked = false; stopped = false }) p
new_bench inputs sinks s e cycles start input form master rings p opened has empty begun = record {
  few = omega arith;
  edition_of = opened.edition_of;
  fresh = λ _. record { goes_on = refl; no_look = refl; none = ap (λ j. j.items) begun.journal; empty = ap sinks.held begun.master_is ∙ empty };
  playing = λ _. subst (λ y. IsPlaying inputs y p) (λ i. record { session = opened.session_is i; edits = []; start = has i; before = empty i }) begun.playing;
  looked = λ is_on. never false refl is_on;
}

-- ---- how it goes on

module _ {I W : Type 0} (inputs : SourceOutside I) (sinks : SinkOutside W) (s : Session) (e : Edition) (n : ℕ) (start : List ℕ) (at : Stand) (p : ProcessState I W)
    (is : IsOnBench inputs sinks s e n start at p) (x : Playing) (same : playing_by s e n start ≡ x) where
  pub may_look : at.stopped ≡ false → MayLook inputs x p e
  may_look goes = subst (λ y. MayLook inputs y p e) same record { playing = is.playing goes; edition = is.edition_of; more = front n e.edits }

  -- it looked,
  pub has_looked : at.fresh ≡ false → (q : ProcessState I W) → IsPlaying inputs (entered e.edits x) q → HasLooked (entered e.edits x) q → (many : ℕ) → many ≡ length e.edits →
      IsOnBench inputs sinks s e many start (record { fresh = at.fresh; looked = true; stopped = at.stopped }) q
  has_looked is_off q playing looked many all = record {
    few = omega (arith, all);
    edition_of = is.edition_of;
    fresh = λ is_on. never at.fresh is_off is_on;
    playing = λ goes. subst (λ y. IsPlaying inputs y q) place playing;
    looked = λ is_on. subst (λ y. HasLooked y q) place looked;
  }
    where
      place : entered e.edits x ≡ playing_by s e many start
      place = ap (λ y. entered e.edits y) (sym same) ∙ ap (λ xs. record { session = s; edits = xs; start = start; before = [] }) (sym (all_taken many e.edits all))
