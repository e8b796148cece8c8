-- An entry is lawful behind others exactly where the numbers say so.
use Rattle.std.proofs.Common.{◌≡◌, ℕ, ◌+◌, ◌<◌, ◌≤◌, List, length, true≢false, refl, sym, ap, subst, arith, ◌∙◌}
use Rattle.std.specs.Prelude.{Bool, true, false, ◌&&◌, not, nat_eq, nat_le}
use Rattle.std.proofs.lemmas.Bool.{and_parts, and_from, leb-true, le-leb, eqb-true, eq-eqb}
use Rattle.session_model.specs.declared.session.Session.{Session}
use Rattle.engine_model.specs.Edits.{generation, starts}
use Rattle.engine_model.specs.Editions.{edition}
use Rattle.engine_model.specs.Journal.{Entry, is_rolling, rolled}
use Rattle.engine_model.specs.Fits.{fits_notes, fits_state, is_lawful_after}
use Rattle.engine_laws.proofs.LawfulLemmas.{fits_from, fits_parts, lawful_from, lawful_parts}
use Rattle.engine_laws.proofs.NumberLemmas.{count_rises}
use Rattle.edit_history.specs.History.{HistoryState, IsHistoryOf}
use Rattle.journal_judge.specs.Numbers.{newest_edition, newest_settled, IsCounted}
use Rattle.journal_judge.specs.Judged.{JudgeState, count_at, HasEntered, HasJudged, IsAt}
use Rattle.journal_judge.specs.Deciding.{are_good_notes, goes_on, is_good}
use Rattle.journal_judge.proofs.AtLemmas.{generation_at, number_at, quit_at, state_at, tracks_at}
use Rattle.journal_judge.proofs.NoteLemmas.{good_notes, notes_good}
use Rattle.journal_judge.proofs.OrderLemmas.{fits_in, lawful_low, none_newer, none_rolled}

-- ---- the numbers of an entry

pub record GoesOn (many : ℕ) (j : JudgeState) (e : Entry) : Type 0 where
  pub within : e.edition ≤ many
  pub settled : e.settled ≤ e.edition
  pub on : length j.entered.edits ≤ e.edition
  pub settled_on : length j.settled.edits ≤ e.settled

pub goes_parts : (many : ℕ) (j : JudgeState) (e : Entry) → goes_on many j e ≡ true → GoesOn many j e
goes_parts many j e h = let a = nat_le e.edition many in let b = nat_le e.settled e.edition in let c = nat_le (length j.entered.edits) e.edition in let d = nat_le (length j.settled.edits) e.settled in
    let three = and_parts (a && b && c) d h in let two = and_parts (a && b) c three.0 in let one = and_parts a b two.0 in
    record {
      within = leb-true e.edition many one.0;
      settled = leb-true e.settled e.edition one.1;
      on = leb-true (length j.entered.edits) e.edition two.1;
      settled_on = leb-true (length j.settled.edits) e.settled three.1;
    }

goes_from : (many : ℕ) (j : JudgeState) (e : Entry) → GoesOn many j e → goes_on many j e ≡ true
goes_from many j e g = let a = nat_le e.edition many in let b = nat_le e.settled e.edition in let c = nat_le (length j.entered.edits) e.edition in let d = nat_le (length j.settled.edits) e.settled in
    and_from (a && b && c) d (and_from (a && b) c (and_from a b (le-leb e.edition many g.within) (le-leb e.settled e.edition g.settled))
    (le-leb (length j.entered.edits) e.edition g.on)) (le-leb (length j.settled.edits) e.settled g.settled_on)

pub lawful_goes_on : (s : Session) (h : HistoryState) (before : List Entry) (e : Entry) (j : JudgeState) → HasJudged s h.edits before j → is_lawful_after s h.edits before e ≡ true →
    goes_on (length h.edits) j e ≡ true
lawful_goes_on s h before e j has lawful = let parts = lawful_parts s h.edits before e lawful in let low = lawful_low s h.edits before e lawful in
    goes_from (length h.edits) j e record {
      within = (fits_parts s h.edits before e parts.fit).0;
      settled = parts.settled;
      on = subst (λ n. n ≤ e.edition) (sym (number_at s h.edits (newest_edition before) j.entered has.entered)) low.0;
      settled_on = subst (λ n. n ≤ e.settled) (sym (number_at s h.edits (newest_settled before) j.settled has.floor)) low.1;
    }

-- ---- entering its edition

module _ (s : Session) (h : HistoryState) (is : IsHistoryOf s h) (before : List Entry) (e : Entry) (old new : JudgeState) (has : HasJudged s h.edits before old)
    (on : goes_on (length h.edits) old e ≡ true) (entered : IsAt s h.edits e.edition new.entered) (floor : IsAt s h.edits e.settled new.settled) (same : new.tracks ≡ old.tracks) where
  reached : newest_edition before ≤ e.edition
  reached = subst (λ n. n ≤ e.edition) (number_at s h.edits (newest_edition before) old.entered has.entered) (goes_parts (length h.edits) old e on).on

  reached_floor : newest_settled before ≤ e.settled
  reached_floor = subst (λ n. n ≤ e.settled) (number_at s h.edits (newest_settled before) old.settled has.floor) (goes_parts (length h.edits) old e on).settled_on

  has_entered : new.rolled ≡ rolled (generation h.edits e.edition) before → new.rolled ≤ length before → HasEntered s h.edits before e.edition e.settled new
  has_entered rolls few = record {
    valid = has.valid;
    lawful = has.lawful;
    entered = entered;
    floor = floor;
    on = reached;
    settled_on = reached_floor;
    tracks = subst (λ l. (t : ℕ) → t < 32 → t < length s.tracks.items → IsCounted t before (count_at l t)) (sym same) has.tracks;
    rolled = rolls;
    few = few;
  }

  -- in the same generation
  pub entered_on : new.entered.transport.generation ≡ old.entered.transport.generation → new.rolled ≡ old.rolled → HasEntered s h.edits before e.edition e.settled new
  entered_on generation_same rolls = let own : generation h.edits (newest_edition before) ≡ generation h.edits e.edition =
      sym (generation_at s h (newest_edition before) old.entered is has.entered) ∙ sym generation_same ∙ generation_at s h e.edition new.entered is entered in
      has_entered (rolls ∙ has.rolled ∙ ap (λ g. rolled g before) own) (subst (λ n. n ≤ length before) (sym rolls) has.few)

  -- in another one, which is later
  pub entered_anew : (new.entered.transport.generation ≡ old.entered.transport.generation → ⊥) → new.rolled ≡ 0 → HasEntered s h.edits before e.edition e.settled new
  entered_anew other rolls = let low : generation h.edits (newest_edition before) ≤ generation h.edits e.edition = count_rises starts h.edits (newest_edition before) e.edition reached in
      let was = generation_at s h (newest_edition before) old.entered is has.entered in let now_is = generation_at s h e.edition new.entered is entered in
      let apart : generation h.edits e.edition ≡ generation h.edits (newest_edition before) → ⊥ = λ x. other (now_is ∙ x ∙ sym was) in
      let later : generation h.edits (newest_edition before) < generation h.edits e.edition = omega (arith, low, apart) in
      has_entered (rolls ∙ sym (none_rolled s h.edits (newest_edition before) (generation h.edits e.edition) before has.lawful (omega arith) later)) (subst (λ n. n ≤ length before) (sym rolls) (omega arith))

-- ---- in its edition

module _ (s : Session) (h : HistoryState) (is : IsHistoryOf s h) (before : List Entry) (e : Entry) (j : JudgeState) (has : HasEntered s h.edits before e.edition e.settled j) where
  state_same : fits_state j.entered.transport.rolling (length j.entered.session.tracks.items) j.entered.transport.generation j.rolled e.state
      ≡ fits_state (edition s h.edits e.edition).transport.rolling (length s.tracks.items) (generation h.edits e.edition) (rolled (generation h.edits e.edition) before) e.state
  state_same = let now = edition s h.edits e.edition in let g = generation h.edits e.edition in let x = j.entered in
      ap (λ b. fits_state b (length x.session.tracks.items) x.transport.generation j.rolled e.state) (ap (λ y. y.transport.rolling) (state_at s h.edits e.edition x has.entered))
      ∙ ap (λ n. fits_state now.transport.rolling n x.transport.generation j.rolled e.state) (tracks_at s h.edits e.edition x has.entered)
      ∙ ap (λ n. fits_state now.transport.rolling (length s.tracks.items) n j.rolled e.state) (generation_at s h e.edition x is has.entered)
      ∙ ap (λ n. fits_state now.transport.rolling (length s.tracks.items) g n e.state) has.rolled

  abbrev tracks : ℕ
  tracks = length j.entered.session.tracks.items

  tracks_same : tracks ≡ length s.tracks.items
  tracks_same = tracks_at s h.edits e.edition j.entered has.entered

  abbrev quits : Bool
  quits = j.entered.transport.quit

  abbrev fits_here : Bool
  fits_here = fits_state j.entered.transport.rolling (length j.entered.session.tracks.items) j.entered.transport.generation j.rolled e.state

  pub lawful_is_good : is_lawful_after s h.edits before e ≡ true → is_good h.changes j e ≡ true
  lawful_is_good lawful = let fit = fits_in s h.edits before e lawful in let parts = lawful_parts s h.edits before e lawful in
      and_from (not quits && fits_here && nat_eq (length e.notes) tracks) (are_good_notes h.changes j (is_rolling e.state) 0 e.notes)
      (and_from (not quits && fits_here) (nat_eq (length e.notes) tracks)
      (and_from (not quits) fits_here (ap (λ q. not q) (quit_at s h e.edition j.entered is has.entered) ∙ (fits_parts s h.edits before e parts.fit).1) (state_same ∙ fit.state))
      (eq-eqb (length e.notes) tracks (fit.many ∙ sym tracks_same)))
      (notes_good s h is before e.edition e.settled j has (is_rolling e.state) 0 e.notes (subst (λ n. 0 + length e.notes ≡ n) fit.many (omega arith)) fit.notes parts.heard)

  pub good_is_lawful : e.edition ≤ length h.edits → e.settled ≤ e.edition → is_good h.changes j e ≡ true → is_lawful_after s h.edits before e ≡ true
  good_is_lawful within settled good = let now = edition s h.edits e.edition in let g = generation h.edits e.edition in let n = rolled (generation h.edits e.edition) before in
      let three = and_parts (not quits && fits_here && nat_eq (length e.notes) tracks) (are_good_notes h.changes j (is_rolling e.state) 0 e.notes) good in
      let two = and_parts (not quits && fits_here) (nat_eq (length e.notes) tracks) three.0 in let one = and_parts (not quits) fits_here two.0 in
      let many : length e.notes ≡ length s.tracks.items = eqb-true (length e.notes) tracks two.1 ∙ tracks_same in
      let notes = good_notes s h is before e.edition e.settled j has (is_rolling e.state) 0 e.notes (subst (λ m. 0 + length e.notes ≡ m) many (omega arith)) three.1 in
      lawful_from s h.edits before e record {
        fit = fits_from s h.edits before e within (sym (ap (λ q. not q) (quit_at s h e.edition j.entered is has.entered)) ∙ one.0)
            (and_from (fits_state now.transport.rolling (length s.tracks.items) g n e.state && nat_eq (length e.notes) (length s.tracks.items)) (fits_notes now (is_rolling e.state) n before 0 e.notes)
            (and_from (fits_state now.transport.rolling (length s.tracks.items) g n e.state) (nat_eq (length e.notes) (length s.tracks.items)) (sym state_same ∙ one.1)
            (eq-eqb (length e.notes) (length s.tracks.items) many)) notes.0);
        no_older = none_newer s h.edits before e has.lawful has.on has.settled_on;
        settled = settled;
        heard = notes.1;
      }

-- ---- refusals

pub not_lawful : (lawful test : Bool) → (lawful ≡ true → test ≡ true) → test ≡ false → false ≡ lawful
not_lawful true test gives fails = absurd (true≢false (sym (gives refl) ∙ fails))
not_lawful false test gives fails = refl
