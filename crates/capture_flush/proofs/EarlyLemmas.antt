-- Where flushing ended early, the files have a front of each take of the journal.
use Rattle.std.proofs.Common.{◌≡◌, inl, inr, ℕ, ◌<◌, List, [], ◌++◌, length, drop, append-nil, refl, sym, ap, subst, arith, ◌∙◌}
use Rattle.std.specs.Prelude.{true, false, ◌==◌, nat_lt, max, Option, Some, None, IfSome}
use Rattle.std.specs.List.{list_any}
use Rattle.std.specs.Str.{bytes_eq}
use Rattle.std.proofs.lemmas.Bool.{and_parts, cases_Bool, false≢true, ltb-true}
use Rattle.std.proofs.lemmas.Slice.Eq.{bytes_eq-Decides}
use Rattle.ses_io.specs.Files.{Files}
use Rattle.ses_io.proofs.Files.{bytes_eq-true}
use Rattle.engine_model.specs.Journal.{Entry, note_of}
use Rattle.engine_model.specs.Fits.{take_number}
use Rattle.engine_model.specs.Takes.{take_file, take_name}
use Rattle.capture_flush.specs.Blocks.{Block, blocks_in, kept, kept_from, last_from, taken_blocks}
use Rattle.capture_flush.specs.Finished.{AreTakesInPart, IsCounted, IsNamed, Recorded, names_take, tape_of}
use Rattle.capture_flush.specs.Flushed.{IsFlushedInPart, IsFresh, IsFront, IsTakeName, Tape, flushed_sound}
use Rattle.capture_flush.specs.Laws.{AnEarlyEndIsInPart, PassesFirst}
use Rattle.capture_flush.proofs.CountedLemmas.{follows}
use Rattle.capture_flush.proofs.KeptLemmas.{blocks_joined, kept_joined}
use Rattle.capture_flush.proofs.NameLemmas.{no_take_held}
use Rattle.capture_flush.proofs.NamedRunLemmas.{unnamed}
use Rattle.capture_flush.proofs.NoteLemmas.{counts_up, none_came}
use Rattle.capture_flush.proofs.PartLemmas.{FrontOfTake}
use Rattle.capture_flush.proofs.SampleLemmas.{sound_front}
use Rattle.capture_flush.proofs.TakeFileLemmas.{flushed_front_of_take, front_of_front}
use Rattle.capture_flush.proofs.TakenLemmas.{taken_kept}

-- ---- files that no take of the journal has

same_unless : (o h : Option (List ℕ)) → ((o ≡ h → ⊥) → ⊥) → o ≡ h
same_unless None None twice = refl
same_unless None (Some h) twice = absurd (twice (λ same. cc))
same_unless (Some o) None twice = absurd (twice (λ same. cc))
same_unless (Some o) (Some h) twice = elim (cases_Bool (bytes_eq o h)) [
  | inl same ↦ ap (λ bytes. Some bytes) (bytes_eq-true o h same)
  | inr other ↦ absurd (twice (λ is. false≢true (sym other ∙ (bytes_eq-Decides o h).1 (some_same o h is))))
]
  where
    some_same : (o h : List ℕ) → ◌≡◌ {A = Option (List ℕ)} (Some o) (Some h) → o ≡ h
    some_same o h is = cc

-- such a file is as it was, where none is there of a take that isn't named
pub unnamed_stay : (run : Recorded) (journal : List Entry) (files : Files) → IsFresh (tape_of run journal) →
    ((t n : ℕ) → t < length run.session.tracks.items → names_take t n journal ≡ false → files (take_name run.session t n) ≡ None) →
    ((q : List ℕ) → (IsTakeName run.session q → ⊥) → files q ≡ run.held q) → (q : List ℕ) → (IsNamed run.session journal q → ⊥) → files q ≡ run.held q
unnamed_stay run journal files fresh none others q not_named = same_unless (files q) (run.held q) (λ differ. differ (others q (λ it. differ (of_take it))))
  where
    of_take : IsTakeName run.session q → files q ≡ run.held q
    of_take it = elim (cases_Bool (names_take it.0 it.1 journal)) [
      | inl is ↦ absurd (not_named (it.0, it.1, it.2, is, it.3))
      | inr is ↦ subst (λ k. files k ≡ run.held k) it.3 (none it.0 it.1 it.2 is ∙ sym (no_take_held (tape_of run journal) it.0 it.1 fresh))
    ]

-- ---- fronts

weaker : (o : Option (List ℕ)) (P Q : List ℕ → Type 0) → ((bytes : List ℕ) → P bytes → Q bytes) → IfSome o P → IfSome o Q
weaker None P Q then_ some = tt
weaker (Some bytes) P Q then_ some = then_ bytes some

-- the tape of these blocks
abbrev passed : Recorded → (ℕ → List Block) → Tape
passed run blocks = record { session = run.session; held = run.held; blocks = blocks }

module _ (run : Recorded) (journal : List Entry) (blocks : ℕ → List Block) (files : Files) (counted : IsCounted run.session journal) (first : PassesFirst (passed run blocks) run journal)
    (part : IsFlushedInPart (passed run blocks) files) where
  -- the blocks of the journal are those passed and the rest, all kept
  all_passed : (t : ℕ) (lt : t < length run.session.tracks.items) → kept run.session t (blocks t ++ (first t lt).0) ≡ taken_blocks run.session run.input t journal
  all_passed t lt = ap (kept run.session t) (sym (first t lt).1) ∙ taken_kept run.session run.input t journal (counted.takes t lt)

  front_here : (t n : ℕ) → t < length run.session.tracks.items → names_take t n journal ≡ true → IfSome (files (take_name run.session t n)) (FrontOfTake run journal t n)
  front_here t n lt named = weaker (files (take_name run.session t n)) (λ bytes. IsFront (drop 44 bytes) (flushed_sound run.session t n (kept run.session t (blocks t)))) (FrontOfTake run journal t n)
      (λ bytes front. front_of_front (drop 44 bytes) (flushed_sound run.session t n (kept run.session t (blocks t))) (drop 44 (take_file run.session run.input t n journal)) front of_take)
      (part.takes t n lt)
    where
      some : 0 < n
      some = ltb-true 0 n (and_parts (nat_lt 0 n) (list_any (λ e. take_number (note_of t e).take == n) journal) named).0

      of_take : IsFront (flushed_sound run.session t n (kept run.session t (blocks t))) (drop 44 (take_file run.session run.input t n journal))
      of_take = front_of_front _ (flushed_sound run.session t n (taken_blocks run.session run.input t journal)) _
          (subst (λ bs. IsFront (flushed_sound run.session t n (kept run.session t (blocks t))) (flushed_sound run.session t n bs)) (all_passed t lt)
          (sound_front run.session t n (blocks t) (first t lt).0))
          (flushed_front_of_take run.session run.input t n journal (counts_up t n journal (follows t journal (counted.takes t lt)) some))

  none_here : (t n : ℕ) → t < length run.session.tracks.items → names_take t n journal ≡ false → files (take_name run.session t n) ≡ None
  none_here t n lt not_named = part.none t n lt (fewer (blocks_in n (kept run.session t (blocks t))) (blocks_in n more) (sym (blocks_joined n (kept run.session t (blocks t)) more)
      ∙ ap (blocks_in n) (sym (kept_joined run.session t None (blocks t) (first t lt).0) ∙ all_passed t lt)
      ∙ none_came run.session run.input t n 0 journal (unnamed t n journal (counted.takes t lt) not_named)))
    where
      more : List Block
      more = kept_from run.session t (last_from run.session t None (blocks t)) (first t lt).0

      fewer : (a b : ℕ) → max a b ≡ 0 → a ≡ 0
      fewer a b none = grind (arith, none)

  early : AreTakesInPart run journal files
  early = record { takes = front_here; others = unnamed_stay run journal files part.fresh none_here part.others }

-- files that were flushed have a front of each take of the journal
pub flushed_part : (run : Recorded) (journal : List Entry) (files : Files) → IsCounted run.session journal → IsFlushedInPart (tape_of run journal) files → AreTakesInPart run journal files
flushed_part run journal files counted part = early run journal (λ t. taken_blocks run.session run.input t journal) files counted
    (λ t lt. ([], sym (append-nil (taken_blocks run.session run.input t journal)))) part

pub an_early_end_is_in_part : AnEarlyEndIsInPart
an_early_end_is_in_part tape run journal files same held valid named counted first part = early run journal tape.blocks files counted first
    (subst (λ h. IsFlushedInPart (record { session = run.session; held = h; blocks = tape.blocks }) files) held
    (subst (λ s. IsFlushedInPart (record { session = s; held = tape.held; blocks = tape.blocks }) files) same part))
