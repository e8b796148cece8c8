-- Files that have fronts of a journal's takes still have them after a take was closed, whole or in part.
use Rattle.std.proofs.Common.{inl, inr, ℕ, ◌<◌, List, length, sym, ap, subst, arith, ◌∙◌, drop}
use Rattle.std.specs.Prelude.{IfSome}
use Rattle.std.specs.Str.{bytes_eq}
use Rattle.std.proofs.lemmas.Bool.{cases_Bool}
use Rattle.std.proofs.Math.Seq.{take-length}
use Rattle.ses_io.specs.Files.{Files, content, with_file}
use Rattle.ses_io.proofs.Files.{bytes_eq-true, with_file-other, with_file-same}
use Rattle.engine_model.specs.Journal.{Entry}
use Rattle.engine_model.specs.Takes.{take_file, take_name}
use Rattle.capture_flush.specs.declared.run.Run.{Run}
use Rattle.capture_flush.specs.Closing.{ClosesInPart, closed, closed_file}
use Rattle.capture_flush.specs.Finished.{AreTakesInPart, Recorded}
use Rattle.capture_flush.specs.Flushed.{IsFront}
use Rattle.capture_flush.proofs.CloseLemmas.{CanClose, IsTake, Ready}
use Rattle.capture_flush.proofs.NameLemmas.{names_apart}
use Rattle.capture_flush.proofs.TakeFileLemmas.{behind_closed}

-- the bytes of a file are, from byte 44 on, a front of take n
abbrev pub FrontOfTake : Recorded → List Entry → ℕ → ℕ → List ℕ → Type 0
FrontOfTake run journal t n bytes = IsFront (drop 44 bytes) (drop 44 (take_file run.session run.input t n journal))

-- ---- one take

-- one file of a take was written, and has a front of it
written : (run : Recorded) (journal : List Entry) (t : ℕ) (r : Run) (old : Files) (bytes : List ℕ) → CanClose run journal → t < length run.session.tracks.items → IsTake run journal t r →
    FrontOfTake run journal t r.take bytes → AreTakesInPart run journal old → AreTakesInPart run journal (with_file old (take_name run.session t r.take) bytes)
written run journal t r old bytes can lt is front part = record {
  takes = λ u n there named. elim (cases_Bool (bytes_eq name (take_name run.session u n))) [
    | inl same ↦ let equal = bytes_eq-true name (take_name run.session u n) same in
        let which = names_apart run.session t u r.take n (omega (arith, is.low, can.small)) can.valid can.named lt there equal in
        subst (λ k. IfSome (with_file old name bytes k) (FrontOfTake run journal u n)) equal
        (subst (λ o. IfSome o (FrontOfTake run journal u n)) (sym (with_file-same old name bytes))
        (subst (λ k. FrontOfTake run journal u k bytes) which.1 (subst (λ k. FrontOfTake run journal k r.take bytes) which.0 front)))
    | inr other ↦ subst (λ o. IfSome o (FrontOfTake run journal u n)) (sym (with_file-other old name bytes (take_name run.session u n) other)) (part.takes u n there named)
  ];
  others = λ q not_named. elim (cases_Bool (bytes_eq name q)) [
    | inl same ↦ absurd (not_named (t, r.take, lt, is.named, bytes_eq-true name q same))
    | inr other ↦ with_file-other old name bytes q other ∙ part.others q not_named
  ];
}
  where
    name : List ℕ
    name = take_name run.session t r.take

pub closes_one : (run : Recorded) (journal : List Entry) (t : ℕ) (r : Run) (old new : Files) → CanClose run journal → t < length run.session.tracks.items → IsTake run journal t r →
    Ready run journal old t r → AreTakesInPart run journal old → ClosesInPart run.session t r old new → AreTakesInPart run journal new
closes_one run journal t r old new can lt is ready part (inl same) = subst (AreTakesInPart run journal) (sym same) part
closes_one run journal t r old new can lt is ready part (inr it) = let held = content old (take_name run.session t r.take) in
    subst (AreTakesInPart run journal) (sym it.1) (written run journal t r old it.0 can lt is
    (subst (IsFront (drop 44 it.0)) (sym (behind_closed run.session t r held) ∙ ap (drop 44) ready) it.3) part)

pub closed_one : (run : Recorded) (journal : List Entry) (t : ℕ) (r : Run) (old : Files) → CanClose run journal → t < length run.session.tracks.items → IsTake run journal t r →
    Ready run journal old t r → AreTakesInPart run journal old → AreTakesInPart run journal (closed run.session t r old)
closed_one run journal t r old can lt is ready part = let bytes = closed_file run.session t r (content old (take_name run.session t r.take)) in
    written run journal t r old bytes can lt is (subst (IsFront (drop 44 bytes)) (ap (drop 44) ready) (length (drop 44 bytes), sym (take-length (drop 44 bytes)))) part
