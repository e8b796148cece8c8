-- What was heard of the input stands while ends meet, and with each entry: the block of its cycle is put into that sound.
use Rattle.std.proofs.Common.{◌≡◌, inl, inr, ℕ, suc, ◌+◌, ◌*◌, ◌<◌, ◌≤◌, List, [], ◌∷◌, ◌++◌, length, map, reverse, refl, sym, ap, arith, ◌∙◌}
use Rattle.std.specs.Prelude.{◌-◌, ◌&&◌, true, false, ℤ, pos, nat_le, nat_lt, if◌then◌else◌}
use Rattle.std.proofs.Math.Path.{fun_ext}
use Rattle.std.proofs.lemmas.Bool.{cases_lt}
use Rattle.std.proofs.lemmas.Bool.Decides.{nat_tests}
use Rattle.std.proofs.lemmas.List.{length-reverse}
use Rattle.std.proofs.lemmas.Nat.{mul-add-lt}
use Rattle.session_model.specs.declared.session.Session.{Session}
use Rattle.session_model.specs.Formed.{channels_at}
use Rattle.session_model.specs.Frames.{interleaved}
use Rattle.engine_model.specs.Journal as engine
use Rattle.engine_model.specs.Journal.{Entry, note_of}
use Rattle.engine_model.specs.Takes.{Input, first_channel, input_block}
use Rattle.engine_laws.proofs.JournalInvariantLemmas.{get_new}
use Rattle.piece_item.specs.declared.butler_ends.ButlerEnds.{ButlerEnds}
use Rattle.capture_flush.specs.Blocks.{block_of, taken_in, taken_from, taken_blocks}
use Rattle.track_capture.specs.Picked.{picked, sample_of}
use Rattle.track_capture.proofs.PickLemmas.{input_sample, same_frames}
use Rattle.process_ends.specs.declared.ends.ProcessEnds.{ProcessEnds}
use Rattle.process_cycle.specs.Captured.{AreOfInput, Hears}
use Rattle.process_ends.specs.Ends.{AreOtherEnds, EndsMeet}
use Rattle.process_cycle.specs.ProcessState.{Playing}
use Rattle.process_cycle.proofs.CapturedLemmas.{of_input_more}
use Rattle.process_cycle.proofs.PromiseLemmas.{MakesOne}
use Rattle.process_cycle.proofs.MeetPromiseLemmas.{met_in}

-- ---- while ends meet

pub hears_while_meeting : (told : Type 0) (sound : Input) (s : Session) (entries : List Entry) (ours ours_now : ProcessEnds) (theirs theirs_now : ButlerEnds) → AreOtherEnds ours theirs →
    EndsMeet ours theirs ours_now theirs_now → Hears told sound s entries ours.takes.items → Hears told sound s entries ours_now.takes.items
hears_while_meeting told sound s entries ours ours_now theirs theirs_now others met was = record {
  input = was.input;
  told_so = was.told_so;
  of_input = λ t d there. let a = get_new ours.takes.items ours_now.takes.items t d met.takes.senders there in
      ap (map block_of) (met_in ours.takes.items ours_now.takes.items theirs.takes.items theirs_now.takes.items met.takes others.takes.count t a.0 d a.1 there).sent ∙ was.of_input t a.0 a.1;
}

-- ---- a sound with one block of it replaced

-- so many frames from one on are those of a block of so many channels
abbrev pub with_block : Input → ℕ → ℕ → ℕ → List ℤ → Input
with_block input from frames channels samples i k = if nat_le from i && nat_lt i (from + frames) then sample_of channels samples (i - from) k else input i k

module _ (input : Input) (from frames channels : ℕ) (samples : List ℤ) where
  abbrev now : Input
  now = with_block input from frames channels samples

  beside : (i k : ℕ) → (nat_le from i && nat_lt i (from + frames)) ≡ false → now i k ≡ input i k
  beside i k out = ap (λ b. if b then sample_of channels samples (i - from) k else input i k) out

  -- frames before the block stand
  pub before : (i k : ℕ) → i < from → now i k ≡ input i k
  before i k lt = let is : nat_le from i ≡ false = grind (arith, nat_tests, lt) in beside i k (ap (λ b. b && nat_lt i (from + frames)) is)

  -- and so do those after it
  behind : (i k : ℕ) → from ≤ i → from + frames ≤ i → now i k ≡ input i k
  behind i k le past = let starts : nat_le from i ≡ true = grind (arith, nat_tests, le) in let ends : nat_lt i (from + frames) ≡ false = grind (arith, nat_tests, past) in
      beside i k (ap (λ b. b && nat_lt i (from + frames)) starts ∙ ends)

  pub inside : (i k : ℕ) → from ≤ i → i < from + frames → now i k ≡ sample_of channels samples (i - from) k
  inside i k le lt = let starts : nat_le from i ≡ true = grind (arith, nat_tests, le) in let goes : nat_lt i (from + frames) ≡ true = grind (arith, nat_tests, lt) in
      ap (λ b. if b then sample_of channels samples (i - from) k else input i k) (ap (λ b. b && nat_lt i (from + frames)) starts ∙ goes)

  -- where the block is that of the sound, all of it is the sound still
  pub same_sound : (sound : Input) → ((i k : ℕ) → channels ≤ k → sound i k ≡ pos 0) → samples ≡ interleaved sound channels from (frames * channels) → input ≡ sound → now ≡ sound
  same_sound sound silent same is = fun_ext (λ i. fun_ext (λ k. each i k))
    where
      stands : (i k : ℕ) → input i k ≡ sound i k
      stands i k = ap (λ (f : Input). f i k) is

      each : (i k : ℕ) → now i k ≡ sound i k
      each i k = elim (cases_lt i from) [
        | inl lt ↦ (before i k lt ∙ stands i k)
        | inr ge ↦ elim (cases_lt i (from + frames)) [
          | inl lt ↦ (let back : from + (i - from) ≡ i = omega (arith, ge) in
              inside i k ge lt ∙ input_sample sound channels from frames samples silent same (i - from) k (omega (arith, ge, lt)) ∙ ap (λ j. sound j k) back)
          | inr past ↦ (behind i k ge past ∙ stands i k)
        ]
      ]

-- ---- the blocks of two sounds

-- sounds that agree on the frames of the first cycles have the same blocks there
module _ (s : Session) (t n : ℕ) (a b : Input) (agree : (i k : ℕ) → i < n * s.block → a i k ≡ b i k) where
  same_block : (c : ℕ) → c < n → input_block s a t c ≡ input_block s b t c
  same_block c lt = same_frames (λ i k. a i (first_channel s t + k)) (λ i k. b i (first_channel s t + k)) (channels_at s t) (c * s.block) (c * s.block) s.block
      (λ i k within near. let turned : s.block * n ≡ n * s.block = grind arith in agree (c * s.block + i) (first_channel s t + k) (omega (arith, mul-add-lt c s.block i n lt within, turned)))

  same_in : (c : ℕ) (take : engine.Take) → c < n → taken_in s a t c take ≡ taken_in s b t c take
  same_in c engine.Off lt = refl
  same_in c (engine.Taken m i) lt = ap (λ l. record { take = m; index = i; samples = l } ∷ []) (same_block c lt)
  same_in c (engine.Lost m i head) lt = refl

  same_from : (c : ℕ) (journal : List Entry) → c + length journal ≤ n → taken_from s a t c journal ≡ taken_from s b t c journal
  same_from c [] le = refl
  same_from c (e ∷ es) le = ap (λ l. l ++ taken_from s a t (suc c) es) (same_in c (note_of t e).take (omega (arith, le)))
      ∙ ap (λ l. taken_in s b t c (note_of t e).take ++ l) (same_from (suc c) es (omega (arith, le)))

  pub same_taken : (entries : List Entry) → length entries ≤ n → taken_blocks s a t (reverse entries) ≡ taken_blocks s b t (reverse entries)
  same_taken entries le = same_from 0 (reverse entries) (omega (arith, le, length-reverse entries))

-- ---- with an entry

module _ (at : Playing) (entries : List Entry) (channels : ℕ) (samples : List ℤ) (e : Entry) (takes : List engine.Take) (old new : ProcessEnds) (made : MakesOne at entries channels samples e takes old new) where
  -- the first frame of its cycle
  abbrev from : ℕ
  from = length entries * at.session.block

  abbrev sound_with : Input → Input
  sound_with input = with_block input from at.session.block channels samples

  -- a track's block of that cycle is what was picked for it
  picked_now : (input : Input) (t : ℕ) → picked at.session t channels samples ≡ input_block at.session (sound_with input) t (length entries)
  picked_now input t = let s : Session = at.session in
      same_frames (λ i k. sample_of channels samples i (first_channel s t + k)) (λ i k. sound_with input i (first_channel s t + k)) (channels_at s t) 0 from s.block
      (λ i k lt near. let back : 0 + i ≡ (from + i) - from = omega arith in ap (λ j. sample_of channels samples j (first_channel s t + k)) back
      ∙ sym (inside input from s.block channels samples (from + i) (first_channel s t + k) (omega arith) (omega (arith, lt))))

  with_entry : (input : Input) → AreOfInput input at.session entries old.takes.items → AreOfInput (sound_with input) at.session (e ∷ entries) new.takes.items
  with_entry input was t f there = let s : Session = at.session in
      let d = get_new old.takes.items new.takes.items t f made.rings there in let one = made.taken t d.0 f d.1 there in
      of_input_more s t channels samples (sound_with input) e entries one.take d.0 f one.noted (picked_now input t) one.captured
      (was t d.0 d.1 ∙ same_taken s t (length entries) input (sound_with input) (λ i k lt. sym (before input from s.block channels samples i k lt)) entries (omega arith))

  -- where the input tells, the block is the next of its sound
  pub hears_with_entry : (told : Type 0) (sound : Input) → ((i k : ℕ) → channels ≤ k → sound i k ≡ pos 0) →
      (told → samples ≡ interleaved sound channels from (at.session.block * channels)) → Hears told sound at.session entries old.takes.items → Hears told sound at.session (e ∷ entries) new.takes.items
  hears_with_entry told sound silent next was = record {
    input = sound_with was.input;
    told_so = λ tells. same_sound was.input from at.session.block channels samples sound silent (next tells) (was.told_so tells);
    of_input = with_entry was.input was.of_input;
  }
