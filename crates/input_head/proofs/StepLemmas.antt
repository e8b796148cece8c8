-- What was skipped, read and given to the scan, by the bytes of the stream.
use Rattle.std.proofs.Common.{◌≡◌, ℕ, ◌+◌, ◌-◌, ◌<◌, ◌≤◌, ◌⊎◌, inl, inr, ap, arith, ◌∙◌, sym, subst, false, List, [], ◌∷◌, ◌++◌, length, take, drop, replicate, Some, None, Result, Ok, Err, length-take, length-drop, drop-drop}
use Rattle.std.specs.Prelude.{is_some, IsErrAnd}
use Rattle.std.proofs.lemmas.List.{take_all, take-append-le, length-take-le}
use Rattle.sound_model.specs.Wav.{Head, Refusal, head}
use Rattle.session_model.specs.declared.session.Session.{Session}
use Rattle.wav_codec.specs.Info.{head_of}
use Rattle.wav_codec.specs.Progress.{Progress, Agrees, wanted, wanted_at, wanted_long, wanted_end, told}
use Rattle.wav_codec.specs.Refusal.{refusal_of}
use Rattle.wav_codec.specs.Step.{AnswersFor, IfMore, IfDone}
use Rattle.wav_codec.specs.declared.info.WavInfo.{WavInfo}
use Rattle.wav_codec.specs.declared.refusal.WavRefusal.{WavRefusal}
use Rattle.wav_codec.specs.declared.scan.Step.{Step}
use Rattle.wav_codec.specs.declared.scan.Step.TheVariants.{More, Done}
use Rattle.input_head.specs.declared.heading.Unread.{Unread}
use Rattle.input_head.specs.declared.heading.Unread.TheVariants.{Empty, Refused, Fault}
use Rattle.input_head.specs.Answers.{HasHead, IsRefused}
use Rattle.input_head.specs.Input.{InputWrong, read, fitting, input_head, ◌>>=◌ as inputs}
use Rattle.input_head.specs.Steps.{IsReading, TellsStep}
use Rattle.input_head.specs.Taken.{LosesFewer, TakesNoData}
use Rattle.input_head.proofs.FrontLemmas.{same_bytes}
use Rattle.input_head.proofs.WantedBytes.{wanted_before_data}

-- ---- what a scan wants

-- A scan without a size asks for so many bytes from a place on.
pub record IsAsked (scan : Progress) (taken at long : ℕ) : Type 0 where
  pub size : scan.size ≡ None
  pub before : taken ≤ wanted_at scan
  pub place : at ≡ wanted_at scan
  pub some : 1 ≤ long
  pub many : long ≡ wanted_long scan

abbrev pub sixteen : List ℕ
sixteen = replicate 16 0

-- up to 16 bytes are asked for, by a front of 16
pub asked_by : (scan : Progress) (taken at many : ℕ) → scan.size ≡ None → taken ≤ wanted_at scan → at ≡ wanted_at scan → many ≡ wanted_long scan → 1 ≤ many → many ≤ 16
    → IsAsked scan taken at (length (take many sixteen))
asked_by scan taken at many none before place same some few = let long : length (take many sixteen) ≡ many = length-take-le many sixteen few in
    record {
      size = none;
      before = before;
      place = place;
      some = omega (arith, some, long);
      many = long ∙ same;
    }

-- The bytes that were asked for were read into the front of a piece, as far as the stream has them.
pub record IsGiven (scan : Progress) (start left after part : List ℕ) (taken at long n : ℕ) : Type 0 where
  pub asked : IsAsked scan taken at long
  pub reading : IsReading start taken scan left
  pub within : n ≤ length part
  pub bytes : take n part ≡ take long (drop (at - taken) left)
  pub rest : after ≡ drop (at - taken + long) left

module _ (scan : Progress) (start left after : List ℕ) (taken at long : ℕ) (asked : IsAsked scan taken at long) (reading : IsReading start taken scan left) where
  -- what stands behind what was taken, by its place in the stream
  further : (k : ℕ) → drop k left ≡ drop (taken + k) start
  further k = ap (drop k) reading.place ∙ drop-drop k taken start

  -- a fault on the way takes no byte of the data
  pub fault_told : LosesFewer (at - taken + long) left after → TakesNoData start after
  fault_told (n, less, rest) = record {
    taken = taken + n;
    rest = rest ∙ further n;
    outside_data = λ h found. omega (arith, less, asked.before, asked.place, asked.many, wanted_before_data scan start h asked.size (omega (arith, asked.some, asked.many)) reading.agrees found);
  }

  -- what is wanted of the stream
  wanted_there : take long (drop (at - taken) left) ≡ wanted scan start
  wanted_there = ap (λ k. take k (drop (at - taken) left)) asked.many ∙ ap (take (wanted_long scan)) (further (at - taken) ∙ ap (λ k. drop k start) (omega (arith, asked.before, asked.place)))

  -- and what is left behind it
  behind : after ≡ drop (at - taken + long) left → after ≡ drop (wanted_end scan) start
  behind rest = rest ∙ further (at - taken + long) ∙ ap (λ k. drop k start) (omega (arith, asked.before, asked.place, asked.many))

-- ---- what it answers

pub fault_answered : (r : Result Step Unread) (start left : List ℕ) (taken : ℕ) → IsErrAnd r (λ e. e ≡ Fault) → TakesNoData start left → TellsStep start taken left r
fault_answered (Ok step) start left taken never lost = absurd never
fault_answered (Err Empty) start left taken e lost = absurd cc
fault_answered (Err (Refused why)) start left taken e lost = absurd cc
fault_answered (Err Fault) start left taken e lost = lost

untold : (scan : Progress) → scan.size ≡ None → told scan ≡ false
untold scan none = ap is_some none

other : {h : Head} {r : Refusal} (given : Result Head Refusal) → given ≡ Err r → given ≡ Ok h → ⊥
other given one two = cc

module _ (scan : Progress) (start left after part rest : List ℕ) (taken at long n : ℕ) (given : IsGiven scan start left after part taken at long n) where
  pub piece_wanted : take n (part ++ rest) ≡ wanted scan start
  piece_wanted = take-append-le n part rest given.within ∙ given.bytes ∙ wanted_there scan start left after taken at long given.asked given.reading

  left_behind : after ≡ drop (wanted_end scan) start
  left_behind = behind scan start left after taken at long given.asked given.reading given.rest

  -- the whole stream is one of its fronts
  agrees_whole : Agrees scan start
  agrees_whole = subst (Agrees scan) (take_all (length start + wanted_at scan) start (omega arith)) (given.reading.agrees (length start + wanted_at scan) (omega arith))

  -- a byte was there: one was asked for before, or one was read
  some_byte : ((at ≡ 0) × (n ≡ 0 → ⊥)) ⊎ (at ≡ 0 → ⊥) → 0 < length start
  some_byte (inl (first, read)) = omega (
    arith,
    read,
    given.within,
    length-take n part,
    ap length given.bytes,
    length-take long (drop (at - taken) left),
    length-drop (at - taken) left,
    ap length given.reading.place,
    length-drop taken start,
  )
  some_byte (inr later) = go given.reading.begun
    where
      go : (wanted_at scan ≡ 0) ⊎ (0 < length start) → 0 < length start
      go (inl first) = absurd (later (given.asked.place ∙ first))
      go (inr some) = some

  -- a further piece is wanted, or it was the last
  pub step_told : (step : Step) → ((at ≡ 0) × (n ≡ 0 → ⊥)) ⊎ (at ≡ 0 → ⊥)
      → IfMore (Ok step) (λ next. wanted_end scan ≤ wanted_at next) → IfDone (Ok step) (λ info. info.data_at ≡ wanted_end scan)
      → ((b : List ℕ) → Agrees scan b → take n (part ++ rest) ≡ wanted scan b → AnswersFor (told scan) b (Ok step)) → TellsStep start (wanted_end scan) after (Ok step)
  step_told (More next) came rises reached answer = record {
    place = left_behind;
    agrees = λ m further. answer (take m start) (given.reading.agrees m (omega (arith, rises)))
        (piece_wanted ∙ sym (same_bytes (wanted_long scan) (wanted_at scan) m start (omega (arith, rises))));
    begun = inr (some_byte came);
  }
  step_told (Done info) came rises reached answer = record {
    head = ap (λ t. head t start) (sym (untold scan given.asked.size)) ∙ answer start agrees_whole piece_wanted;
    rest = left_behind ∙ ap (λ k. drop k start) (sym reached);
  }

  -- or the stream isn't read
  pub refusal_told : (e : WavRefusal) → ((at ≡ 0) × (n ≡ 0 → ⊥)) ⊎ (at ≡ 0 → ⊥)
      → ((b : List ℕ) → Agrees scan b → take n (part ++ rest) ≡ wanted scan b → head (told scan) b ≡ Err (refusal_of e)) → IsRefused start after (head false start ≡ Err (refusal_of e))
  refusal_told e came answer = let why = ap (λ t. head t start) (sym (untold scan given.asked.size)) ∙ answer start agrees_whole piece_wanted in
      record {
        some = some_byte came;
        why = why;
        taken = record {
          taken = wanted_end scan;
          rest = left_behind;
          outside_data = λ h found. absurd (other (head false start) why found);
        };
      }

-- ---- the head, judged

no_head : (h : Head) → head false [] ≡ Ok h → ⊥
unfolding head
no_head h e = cc

pub fits_told : (s : Session) (before after : List ℕ) (info it : WavInfo) → HasHead before after info → fitting s (head_of info) ≡ Ok (head_of it) → input_head s before ≡ Ok (Some (head_of it))
fits_told s [] after info it has fits = absurd (no_head (head_of info) has.head)
fits_told s (x ∷ b) after info it has fits = ap (λ r. inputs (read r) (λ h. inputs (fitting s h) (λ fit. Ok (Some fit)))) has.head ∙ ap (λ r. inputs r (λ fit. Ok (Some fit))) fits

pub misfit_told : (s : Session) (before after : List ℕ) (info : WavInfo) (wrong : InputWrong) → HasHead before after info → fitting s (head_of info) ≡ Err wrong → input_head s before ≡ Err wrong
misfit_told s [] after info wrong has misfit = absurd (no_head (head_of info) has.head)
misfit_told s (x ∷ b) after info wrong has misfit = ap (λ r. inputs (read r) (λ h. inputs (fitting s h) (λ fit. Ok (Some fit)))) has.head ∙ ap (λ r. inputs r (λ fit. Ok (Some fit))) misfit
