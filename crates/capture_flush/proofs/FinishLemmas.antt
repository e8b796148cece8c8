-- Files that were flushed whole and then closed hold the takes of the journal; closed in part, they have fronts of them.
use Rattle.std.proofs.Common.{◌≡◌, ℕ, ◌^◌, ◌≤◌, ◌<◌, List, [], ◌++◌, length, refl, sym, ap, subst, arith, ◌∙◌}
use Rattle.std.specs.Prelude.{Bool, true, false, if◌then◌else◌, Some, None, All, unwrap_or}
use Rattle.std.proofs.lemmas.Bool.{ne_eqb}
use Rattle.std.proofs.lemmas.List.{length-append}
use Rattle.std.proofs.lemmas.List.Elements.{All-weaker}
use Rattle.ses_io.specs.Files.{Files}
use Rattle.ses_io.specs.Outside.{MediaOutside}
use Rattle.engine_model.specs.Journal.{Entry}
use Rattle.engine_model.specs.Takes.{take_file, take_name}
use Rattle.capture_flush.specs.declared.run.Run.{Run}
use Rattle.capture_flush.specs.Blocks.{blocks_in, taken_blocks}
use Rattle.capture_flush.specs.Closing.{ClosesBut, Ends, HasHeadUnless, all_runs, closed_file, runs_of}
use Rattle.capture_flush.specs.Finished.{AreTakesBut, AreTakesInPart, AreWholeBut, IsCounted, Recorded, is_among, names_take, tape_of}
use Rattle.capture_flush.specs.Flushed.{IsFlushed, flushed_file, flushed_sound, head_of}
use Rattle.capture_flush.specs.Taking.{IsTakingOf, Taking, has_failed}
use Rattle.capture_flush.proofs.CloseLemmas.{CanClose, IsTake, takes_of}
use Rattle.capture_flush.proofs.EarlyLemmas.{flushed_part}
use Rattle.capture_flush.proofs.FlushLemmas.{named_tracks}
use Rattle.capture_flush.proofs.HeaderLemmas.{head_long}
use Rattle.capture_flush.proofs.NamedRunLemmas.{runs_of_it}
use Rattle.capture_flush.proofs.TakeFileLemmas.{closed_is_take, flushed_bytes}
use Rattle.capture_flush.proofs.TakenLemmas.{taken_kept}
use Rattle.capture_flush.proofs.WholeLemmas.{ReadyUnless, all_ended}

-- ---- what was flushed

module _ (run : Recorded) (journal : List Entry) (f : Taking) (files : Files) (counted : IsCounted run.session journal) (flushed : IsFlushed (tape_of run journal) f files) where
  -- each file has all blocks that the journal took, unless its take has failed
  pub held_of : (t n : ℕ) → t < length run.session.tracks.items → has_failed f t n ≡ false → files (take_name run.session t n) ≡ flushed_file run.session t n (taken_blocks run.session run.input t journal)
  held_of t n lt fine = flushed.takes t n lt fine ∙ ap (flushed_file run.session t n) (taken_kept run.session run.input t journal (counted.takes t lt))

  pub all_ready : (can : CanClose run journal) (t : ℕ) → t < length run.session.tracks.items → All (ReadyUnless f run journal can files t) (runs_of t journal)
  all_ready can t lt = All-weaker (IsTake run journal t) (ReadyUnless f run journal can files t)
      (λ r is fine. ap (λ o. closed_file run.session t r (unwrap_or o [])) (held_of t r.take lt fine) ∙ closed_is_take run.session run.input t journal r is) (runs_of t journal) (takes_of run journal t can lt)

can_close : (run : Recorded) (journal : List Entry) (f : Taking) → IsTakingOf run.session f → IsCounted run.session journal → length journal < 2 ^ 64 → CanClose run journal
can_close run journal f of counted small = record { valid = of.valid; named = named_tracks run.session f of; counted = counted; small = small }

-- all its takes were closed, but some
closed_but : (run : Recorded) (journal : List Entry) (f : Taking) (cut : List (ℕ × ℕ)) (files files' : Files) → length journal < 2 ^ 64 → IsTakingOf run.session f → IsCounted run.session journal →
    IsFlushed (tape_of run journal) f files → ClosesBut run.session (all_runs f journal 0 (length run.session.tracks.items)) cut files files' → AreTakesInPart run journal files' ×
    ((t n : ℕ) → t < length run.session.tracks.items → names_take t n journal ≡ true → has_failed f t n ≡ false → is_among t n cut ≡ false →
    files' (take_name run.session t n) ≡ Some (take_file run.session run.input t n journal))
closed_but run journal f cut files files' small of counted flushed but = let can = can_close run journal f of counted small in
    all_ended f run journal can cut files files' (all_ready run journal f files counted flushed can) (flushed_part run journal files counted flushed.in_part) but

-- what a media holds once they are
module _ {V : Type 0} (outside : MediaOutside V) (run : Recorded) (journal : List Entry) (f : Taking) (old new : V) (small : length journal < 2 ^ 64) (of : IsTakingOf run.session f) (counted : IsCounted run.session journal)
    (told : outside.tells) (flushed : IsFlushed (tape_of run journal) f (outside.files old)) where
  abbrev Closed : Bool → Type 0
  Closed failed = Ends outside run.session (all_runs f journal 0 (length run.session.tracks.items)) old new failed

  pub finished : Closed false → AreTakesBut run journal f (outside.files new)
  finished ends = let it = closed_but run journal f ends.cut (outside.files old) (outside.files new) small of counted flushed (ends.files told) in record {
    takes = λ t n lt named fine. it.1 t n lt named fine (ap (is_among t n) (ends.fine refl).0);
    in_part = it.0;
  }

  pub finished_in_part : Closed true → AreTakesInPart run journal (outside.files new)
  finished_in_part ends = (closed_but run journal f ends.cut (outside.files old) (outside.files new) small of counted flushed (ends.files told)).0

  pub finished_but : Closed true → AreWholeBut run journal f (outside.write_faults old) (outside.write_faults new) (outside.files new)
  finished_but ends = let it = closed_but run journal f ends.cut (outside.files old) (outside.files new) small of counted flushed (ends.files told) in record { cut = ends.cut; many = ends.many; whole = it.1 }

pub has_heads : (run : Recorded) (journal : List Entry) (f : Taking) (files : Files) (t : ℕ) → IsTakingOf run.session f → IsCounted run.session journal → IsFlushed (tape_of run journal) f files →
    t < length run.session.tracks.items → All (HasHeadUnless f run.session t files) (runs_of t journal)
has_heads run journal f files t of counted flushed lt = All-weaker (IsTake run journal t) (HasHeadUnless f run.session t files)
    (λ r is fine some. subst (λ o. 44 ≤ length (unwrap_or o [])) (sym (held_of run journal f files counted flushed t r.take lt fine)) (room t r (omega (arith, is.filled, some))))
    (runs_of t journal) (runs_of_it run.session run.input t journal (counted.takes t lt))
  where
    room : (t : ℕ) (r : Run) → 0 < blocks_in r.take (taken_blocks run.session run.input t journal) →
        44 ≤ length (flushed_bytes run.session t r.take (taken_blocks run.session run.input t journal))
    room t r some = let bs = taken_blocks run.session run.input t journal in let head = head_of run.session t (blocks_in r.take bs) in
        subst (λ b. 44 ≤ length (unwrap_or (if b then None else Some (head ++ flushed_sound run.session t r.take bs)) [])) (sym (ne_eqb (blocks_in r.take bs) 0 (λ none. absurd (omega arith))))
        (omega (arith, length-append head (flushed_sound run.session t r.take bs), head_long run.session t (blocks_in r.take bs)))
