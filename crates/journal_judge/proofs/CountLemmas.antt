-- The numbers behind one more lawful entry.
use Rattle.std.proofs.Common.{◌≡◌, ℕ, zero, suc, ◌+◌, ◌<◌, ◌≤◌, max, List, [], ◌∷◌, length, refl, sym, ap, subst, add-one, arith, ◌∙◌}
use Rattle.std.specs.Prelude.{Bool, true, false, ◌&&◌, nat_eq, if◌then◌else◌}
use Rattle.std.specs.Prelude.{replicate}
use Rattle.std.proofs.lemmas.Bool.{and_parts, and_from, eqb-true}
use Rattle.std.proofs.lemmas.List.{length-map}
use Rattle.session_model.specs.declared.session.Session.{Session}
use Rattle.session_model.specs.declared.edit.Edit.{Edit}
use Rattle.session_model.specs.Valid.{IsValid}
use Rattle.engine_model.specs.Edits.{generation}
use Rattle.engine_model.specs.Editions.{Edition, edition}
use Rattle.engine_model.specs.Journal.{Entry, Note, State, Stopped, Seeking, Rolling, Take, Off, Taken, Lost, is_rolling, is_rolling_in, note_at, note_of, rolled}
use Rattle.engine_model.specs.Fits.{fits_note, fits_notes, fits_play, fits_state, fits_take, greatest_take, is_lawful_after, is_lawful_newest, next_take, records, take_after, take_number}
use Rattle.cycle_journal.specs.declared.entry.Entry as code
use Rattle.cycle_journal.specs.JournalView.{seen_entry, seen_note}
use Rattle.edition_log.specs.EditionState.{EditionState, IsEditionOf}
use Rattle.edit_history.specs.History.{HistoryState}
use Rattle.journal_judge.specs.declared.tracks.TrackCount.{TrackCount}
use Rattle.journal_judge.specs.Counts.{heard_number, no_count, note_after}
use Rattle.journal_judge.specs.Numbers.{greatest_heard, IsCounted}
use Rattle.journal_judge.specs.Judged.{JudgeState, count_at, HasEntered, HasJudged, IsAt}
use Rattle.journal_judge.specs.Noting.{AreNoted, HasRoom, rolled_after}
use Rattle.journal_judge.proofs.OrderLemmas.{FitsIn, fits_in}

-- ---- a track

-- what follows a take that fits
follows : (recorded : Bool) (next : ℕ × ℕ) (n i : ℕ) → (recorded && nat_eq n next.0 && nat_eq i next.1) ≡ true → (n ≡ next.0) × (i ≡ next.1)
follows recorded next n i fit = let two = and_parts (recorded && nat_eq n next.0) (nat_eq i next.1) fit in
    (eqb-true n next.0 (and_parts recorded (nat_eq n next.0) two.0).1, eqb-true i next.1 two.1)

module _ (t : ℕ) (before : List Entry) (e : Entry) (c : TrackCount) (its : IsCounted t before c) (recorded : Bool) where
  -- behind a block of a take
  block_after : (n i : ℕ) → n ≡ (next_take t before).0 → i ≡ (next_take t before).1 → (new : TrackCount) → new.heard ≡ greatest_heard t (e ∷ before) →
      new.takes.greatest ≡ max c.takes.greatest c.takes.take → new.takes.take ≡ c.takes.take → new.takes.index ≡ c.takes.index + 1 →
      greatest_take t (e ∷ before) ≡ max n (greatest_take t before) → next_take t (e ∷ before) ≡ (n, suc i) → IsCounted t (e ∷ before) new
  block_after n i first second new heard greatest take index most next = let same : n ≡ c.takes.take = first ∙ sym its.take in let at : i ≡ c.takes.index = second ∙ sym its.index in record {
    heard = heard;
    greatest = grind (arith, greatest, most, same, its.greatest);
    take = take ∙ sym same ∙ sym (ap (λ p. p.0) next);
    index = index ∙ add-one c.takes.index ∙ ap (λ k. suc k) (sym at) ∙ sym (ap (λ p. p.1) next);
    few = omega (arith, greatest, its.few, its.few_takes);
    few_takes = omega (arith, take, its.few_takes);
    few_blocks = omega (arith, index, its.few_blocks);
  }

  counted_by : (take : Take) → (note_of t e).take ≡ take → fits_take recorded (next_take t before) take ≡ true → IsCounted t (e ∷ before) (note_after c (record { play = (note_of t e).play; take = take }))
  counted_by Off is fit = record {
    heard = heard_is;
    greatest = its.greatest ∙ sym most;
    take = add-one c.takes.greatest ∙ ap (λ n. suc n) (its.greatest ∙ sym most) ∙ sym (ap (λ p. p.0) next);
    index = sym (ap (λ p. p.1) next);
    few = omega (arith, its.few);
    few_takes = omega (arith, its.few);
    few_blocks = omega arith;
  }
    where
      heard_is : max (heard_number (note_of t e).play) c.heard ≡ greatest_heard t (e ∷ before)
      heard_is = ap (λ n. max (heard_number (note_of t e).play) n) its.heard

      most : greatest_take t (e ∷ before) ≡ greatest_take t before
      most = ap (λ x. max (take_number x) (greatest_take t before)) is ∙ grind arith

      next : next_take t (e ∷ before) ≡ (suc (greatest_take t (e ∷ before)), 0)
      next = ap (λ x. take_after x (greatest_take t (e ∷ before))) is
  counted_by (Taken n i) is fit = let at = follows recorded (next_take t before) n i fit in
      block_after n i at.0 at.1 _ (ap (λ m. max (heard_number (note_of t e).play) m) its.heard) refl refl refl
      (ap (λ x. max (take_number x) (greatest_take t before)) is) (ap (λ x. take_after x (greatest_take t (e ∷ before))) is)
  counted_by (Lost n i head) is fit = let at = follows recorded (next_take t before) n i fit in
      block_after n i at.0 at.1 _ (ap (λ m. max (heard_number (note_of t e).play) m) its.heard) refl refl refl
      (ap (λ x. max (take_number x) (greatest_take t before)) is) (ap (λ x. take_after x (greatest_take t (e ∷ before))) is)

  pub counted_after : fits_take recorded (next_take t before) (note_of t e).take ≡ true → IsCounted t (e ∷ before) (note_after c (note_of t e))
  counted_after fit = counted_by (note_of t e).take refl fit

-- ---- the notes of an entry

fits_at : (now : Edition) (rolling : Bool) (n : ℕ) (before : List Entry) (u : ℕ) (notes : List Note) (i : ℕ) → fits_notes now rolling n before u notes ≡ true → i < length notes →
    fits_take (rolling && records now (u + i)) (next_take (u + i) before) (note_at i notes).take ≡ true
fits_at now rolling n before u [] i fit lt = absurd (omega arith)
fits_at now rolling n before u (note ∷ notes) zero fit lt =
    subst (λ t. fits_take (rolling && records now t) (next_take t before) note.take ≡ true) {x = u} {y = u + 0} (omega arith)
    (and_parts (fits_play rolling n note.play) (fits_take (rolling && records now u) (next_take u before) note.take)
    (and_parts (fits_note now rolling n before u note) (fits_notes now rolling n before (suc u) notes) fit).0).1
fits_at now rolling n before u (note ∷ notes) (suc i) fit lt =
    subst (λ t. fits_take (rolling && records now t) (next_take t before) (note_at i notes).take ≡ true) {x = suc u + i} {y = u + suc i} (omega arith)
    (fits_at now rolling n before (suc u) notes i (and_parts (fits_note now rolling n before u note) (fits_notes now rolling n before (suc u) notes) fit).1 (omega (arith, lt)))

-- ---- the blocks of the generation

one_rolled : (rolls : Bool) (tracks g n : ℕ) (state : State) (es : List Entry) → fits_state rolls tracks g n state ≡ true → is_rolling_in g state ≡ is_rolling state
one_rolled rolls tracks g n Stopped es fit = refl
one_rolled rolls tracks g n (Seeking t tail) es fit = refl
one_rolled rolls tracks g n (Rolling h q) es fit = (and_parts rolls (nat_eq h g) (and_parts (rolls && nat_eq h g) (nat_eq q n) fit).0).1

rolled_one : (b : Bool) (n m : ℕ) → n ≡ m → (if b then n + 1 else n) ≡ (if b then suc m else m)
rolled_one true n m same = add-one n ∙ ap (λ k. suc k) same
rolled_one false n m same = same

at_most_one : (b : Bool) (n m : ℕ) → n ≤ m → (if b then n + 1 else n) ≤ suc m
at_most_one true n m le = omega (arith, le)
at_most_one false n m le = omega (arith, le)

-- ---- the whole

pub has_room : (s : Session) (edits : List Edit) (before : List Entry) (k settled many : ℕ) (j : JudgeState) → HasEntered s edits before k settled j → length before < 100000 →
    many ≤ length s.tracks.items → HasRoom many j.tracks
has_room s edits before k settled many j has few le = λ t lt.
    let its : IsCounted t before (count_at j.tracks t) = has.tracks t (omega (arith, lt, le, has.valid.formed.limits.tracks)) (omega (arith, lt, le)) in
    (omega (arith, its.few, few), omega (arith, its.few_blocks, few))

module _ (s : Session) (h : HistoryState) (before : List Entry) (e : Entry) (old new : JudgeState) (has : HasEntered s h.edits before e.edition e.settled old)
    (lawful : is_lawful_after s h.edits before e ≡ true) (entered : new.entered ≡ old.entered) (floor : new.settled ≡ old.settled)
    (noted : AreNoted old.tracks e.notes new.tracks) (rolls : new.rolled ≡ rolled_after e.state old.rolled) where
  fit : FitsIn s h.edits before e
  fit = fits_in s h.edits before e lawful

  abbrev g : ℕ
  g = generation h.edits e.edition

  tracks : (t : ℕ) → t < 32 → t < length s.tracks.items → IsCounted t (e ∷ before) (count_at new.tracks t)
  tracks t small lt = let within : t < length e.notes = subst (λ n. t < n) (sym fit.many) lt in
      let now = edition s h.edits e.edition in let rolling = is_rolling e.state in
      let taken = subst (λ u. fits_take (rolling && records now u) (next_take u before) (note_at t e.notes).take ≡ true) {x = 0 + t} {y = t} (omega arith)
      (fits_at now rolling (rolled g before) before 0 e.notes t fit.notes within) in
      subst (IsCounted t (e ∷ before)) (sym (noted t within)) (counted_after t before e (count_at old.tracks t) (has.tracks t small lt) (rolling && records now t) taken)

  rolled_on : new.rolled ≡ rolled g (e ∷ before)
  rolled_on = rolls ∙ rolled_one (is_rolling e.state) old.rolled (rolled g before) has.rolled
      ∙ ap (λ b. if b then suc (rolled g before) else rolled g before)
      (sym (one_rolled (edition s h.edits e.edition).transport.rolling (length s.tracks.items) g (rolled g before) e.state before fit.state))

  pub judged_after : HasJudged s h.edits (e ∷ before) new
  judged_after = record {
    valid = has.valid;
    lawful = and_from (is_lawful_after s h.edits before e) (is_lawful_newest s h.edits before) lawful has.lawful;
    entered = subst (IsAt s h.edits e.edition) (sym entered) has.entered;
    floor = subst (IsAt s h.edits e.settled) (sym floor) has.floor;
    on = omega arith;
    settled_on = omega arith;
    tracks = tracks;
    rolled = rolled_on;
    few = subst (λ n. n ≤ length (e ∷ before)) (sym rolls) (at_most_one (is_rolling e.state) old.rolled (length before) has.few);
  }

-- ---- behind no entry

each_none : (c : TrackCount) (many t : ℕ) → c ≡ no_count → count_at (replicate many c) t ≡ no_count
each_none c zero t none = refl
each_none c (suc many) zero none = none
each_none c (suc many) (suc t) none = each_none c many t none

first_at : (s : Session) (edits : List Edit) (e : EditionState) → IsEditionOf s e → e.edits ≡ [] → e.ended ≡ false → IsAt s edits 0 e
first_at s edits e of none ended = record { edition_of = of; ended = ended; first = none; within = omega arith }

pub nothing_judged : (s : Session) (edits : List Edit) (j : JudgeState) (c : TrackCount) → IsValid s → IsEditionOf s j.entered → j.entered.edits ≡ [] → j.entered.ended ≡ false →
    IsEditionOf s j.settled → j.settled.edits ≡ [] → j.settled.ended ≡ false → j.tracks ≡ replicate 32 c → c ≡ no_count → j.rolled ≡ 0 → HasJudged s edits [] j
nothing_judged s edits j c valid one one_none one_ended two two_none two_ended tracks none rolls = record {
  valid = valid;
  lawful = refl;
  entered = first_at s edits j.entered one one_none one_ended;
  floor = first_at s edits j.settled two two_none two_ended;
  on = omega arith;
  settled_on = omega arith;
  tracks = λ t small lt. subst (IsCounted t []) (sym (ap (λ l. count_at l t) tracks ∙ each_none c 32 t none)) record {
    heard = refl;
    greatest = refl;
    take = refl;
    index = refl;
    few = omega arith;
    few_takes = omega arith;
    few_blocks = omega arith;
  };
  rolled = rolls;
  few = omega (arith, rolls);
}

-- as many notes as tracks
pub as_many : (s : Session) (edits : List Edit) (before : List Entry) (e : code.Entry) → is_lawful_after s edits before (seen_entry e) ≡ true → length e.notes.items ≡ length s.tracks.items
as_many s edits before e lawful = sym (length-map e.notes.items seen_note) ∙ (fits_in s edits before (seen_entry e) lawful).many
