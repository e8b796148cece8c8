-- The entry of a cycle keeps the journal lawful.
use Rattle.std.proofs.Common.{◌≡◌, inl, inr, ℕ, zero, suc, ◌+◌, ◌≤◌, List, [], ◌∷◌, length, refl, sym, ap, subst, le_trans, arith, ◌∙◌}
use Rattle.std.specs.Prelude.{◌⊎◌, Bool, true, false, nat_le, if◌then◌else◌, Some, None, slice_get}
use Rattle.std.specs.List.{list_all}
use Rattle.std.proofs.lemmas.List.{length-replicate}
use Rattle.std.proofs.lemmas.Bool.{and_parts, and_from, le-leb, leb-true}
use Rattle.session_model.specs.declared.edit.Edit.{Edit}
use Rattle.session_model.specs.declared.session.Session.{Session}
use Rattle.engine_model.specs.Edits.{generation, has_quit, touches}
use Rattle.engine_model.specs.Editions.{Edition, edition}
use Rattle.engine_model.specs.Items.{Kind, newest}
use Rattle.engine_model.specs.Order.{is_ordered_newest}
use Rattle.engine_model.specs.Journal.{Play, Silent, Heard, Short, Take, Off, State, Stopped, Seeking, Rolling, Entry, is_rolling, is_rolling_in, rolled, note_of}
use Rattle.engine_model.specs.Fits.{is_heard_after, is_heard_well, are_heard_well, is_lawful_after, is_lawful_newest, is_no_older}
use Rattle.engine_model.specs.Cycle.{force, settled_number, has_piece, state_of, play_of, notes_of, entry_of}
use Rattle.engine_model.specs.Made.{fit_takes}
use Rattle.engine_laws.specs.Entered.{HeardAt}
use Rattle.engine_laws.specs.JournalInvariant.{EntryStands, EntriesStand, AreOrdered, JournalInvariant, no_takes}
use Rattle.engine_laws.proofs.LawfulLemmas.{lawful_parts, lawful_from, fits_parts, heard_from, note_from}
use Rattle.engine_laws.proofs.NumberLemmas.{last_in}
use Rattle.engine_laws.proofs.OlderLemmas.{settled_next, heard_next, newest_names}
use Rattle.engine_laws.proofs.SettledLemmas.{heard_high}
use Rattle.engine_laws.proofs.MixedLemmas.{note_is}
use Rattle.engine_laws.proofs.JournalInvariantLemmas.{entries_go_on}
use Rattle.engine_laws.proofs.EntryNotesLemmas.{PlaysAs, plays_as, none_fit, entry_fits}

-- ---- the settled number

settled_low : (r g s t : ℕ) (tracks : List (List Kind)) (xs : List Kind) → slice_get tracks t ≡ Some xs → settled_number r g s tracks ≤ force g s xs
settled_low r g s t [] xs there = absurd (none_is_some there)
  where
    none_is_some : None ≡ Some xs → ⊥
    none_is_some e = cc
settled_low r g s zero (y ∷ ys) xs there = let same : y ≡ xs = cc in subst (λ l. settled_number r g s (y ∷ ys) ≤ force g s l) same (grind arith)
settled_low r g s (suc t) (y ∷ ys) xs there = let low : settled_number r g s (y ∷ ys) ≤ settled_number r g s ys = grind arith in le_trans low (settled_low r g s t ys xs there)

settled_most : (r g s : ℕ) (tracks : List (List Kind)) → settled_number r g s tracks ≤ r
settled_most r g s [] = omega arith
settled_most r g s (y ∷ ys) = let low : settled_number r g s (y ∷ ys) ≤ settled_number r g s ys = grind arith in le_trans low (settled_most r g s ys)

settled_high : (k r g s : ℕ) (tracks : List (List Kind)) → k ≤ r → ((t : ℕ) (xs : List Kind) → slice_get tracks t ≡ Some xs → k ≤ force g s xs) → k ≤ settled_number r g s tracks
settled_high k r g s [] le each = le
settled_high k r g s (y ∷ ys) le each = grind (arith, each 0 y refl, settled_high k r g s ys le (λ t xs there. each (suc t) xs there))

none_newer : (session : Session) (edits : List Edit) (r : ℕ) (tracks : List (List Kind)) (g s : ℕ) (entries : List Entry) (e : Entry) → e.edition ≡ r → e.settled ≡ settled_number r g s tracks →
    list_all (λ old. nat_le old.edition r) entries ≡ true → is_lawful_newest session edits entries ≡ true → EntriesStand edits tracks g s entries → list_all (λ old. is_no_older old e) entries ≡ true
none_newer session edits r tracks g s [] e at settled until lawful stand = refl
none_newer session edits r tracks g s (old ∷ before) e at settled until lawful stand = let step = and_parts (is_lawful_after session edits before old)
    (is_lawful_newest session edits before) lawful in
    let p = lawful_parts session edits before old step.0 in let lows = and_parts (nat_le old.edition r) (list_all (λ o. nat_le o.edition r) before) until in let low = leb-true old.edition r lows.0 in
    and_from (is_no_older old e) (list_all (λ o. is_no_older o e) before)
    (and_from (nat_le old.edition e.edition) (nat_le old.settled e.settled)
    (le-leb old.edition e.edition (subst (λ n. old.edition ≤ n) (sym at) low))
    (le-leb old.settled e.settled (subst (λ n. old.settled ≤ n) (sym settled) (settled_high old.settled r g s tracks (le_trans p.settled low)
    (λ t xs there. settled_next (generation edits old.edition) (rolled (generation edits old.edition) before) g s old.settled xs stand.0.on (stand.0.backed t xs there))))))
    (none_newer session edits r tracks g s before e at settled lows.1 step.1 stand.1)

-- ---- what is heard

heard_after : (session : Session) (edits : List Edit) (tracks : List (List Kind)) (g s t : ℕ) (xs : List Kind) (entries : List Entry) → slice_get tracks t ≡ Some xs → is_ordered_newest session edits t xs ≡ true →
    EntriesStand edits tracks g s entries → has_piece g s xs ≡ true → list_all (λ old. is_heard_after (note_of t old).play (Heard (newest g s xs))) entries ≡ true
heard_after session edits tracks g s t xs [] there order stand has = refl
heard_after session edits tracks g s t xs (old ∷ before) there order stand has = and_from (is_heard_after (note_of t old).play (Heard (newest g s xs)))
    (list_all (λ o. is_heard_after (note_of t o).play (Heard (newest g s xs))) before)
    (by (note_of t old).play refl) (heard_after session edits tracks g s t xs before there order stand.1 has)
  where
    by : (play : Play) → (note_of t old).play ≡ play → is_heard_after play (Heard (newest g s xs)) ≡ true
    by Silent is = refl
    by (Short tail) is = refl
    by (Heard q) is = le-leb q (newest g s xs) (heard_next session edits t (generation edits old.edition) (rolled (generation edits old.edition) before) g s q xs order stand.0.on (stand.0.heard t q xs there is) has)

unheard_after : (t : ℕ) (play : Play) (entries : List Entry) → ((p : ℕ) → play ≡ Heard p → ⊥) → list_all (λ old. is_heard_after (note_of t old).play play) entries ≡ true
unheard_after t play [] none = refl
unheard_after t play (old ∷ before) none = and_from (is_heard_after (note_of t old).play play) (list_all (λ o. is_heard_after (note_of t o).play play) before)
    (by (note_of t old).play play none) (unheard_after t play before none)
  where
    by : (a b : Play) → ((p : ℕ) → b ≡ Heard p → ⊥) → is_heard_after a b ≡ true
    by Silent b n = refl
    by (Short tail) b n = refl
    by (Heard q) Silent n = refl
    by (Heard q) (Short tail) n = refl
    by (Heard q) (Heard p) n = absurd (n p refl)

-- what a track plays is heard well, and no older than what it played
play_well : (session : Session) (edits : List Edit) (g s t settled : ℕ) (xs : List Kind) → is_ordered_newest session edits t xs ≡ true → settled ≤ force g s xs → has_piece g s xs ≡ true →
    is_heard_well session edits settled t (Heard (newest g s xs)) ≡ true
play_well session edits g s t settled xs order low has = let named = newest_names session edits t g s xs order has in
    heard_from session edits settled t (newest g s xs) named (subst (λ n. n ≤ length edits) (sym named) (last_in (touches session t) edits (newest g s xs)))
    (heard_high session edits t g s settled xs order has low)

-- a note that is no piece says nothing
silent_well : (session : Session) (edits : List Edit) (settled t : ℕ) (play : Play) → ((p : ℕ) → play ≡ Heard p → ⊥) → is_heard_well session edits settled t play ≡ true
silent_well session edits settled t Silent none = refl
silent_well session edits settled t (Short tail) none = refl
silent_well session edits settled t (Heard p) none = absurd (none p refl)

-- where a track plays a piece, it is the newest of the block
play_is : (g n : ℕ) (tracks : List (List Kind)) (state : State) (xs : List Kind) → PlaysAs g n tracks state →
    ((has_piece g n xs ≡ true) × (play_of state xs ≡ Heard (newest g n xs))) ⊎ ((p : ℕ) → play_of state xs ≡ Heard p → ⊥)
unfolding PlaysAs
play_is g n tracks Stopped xs plays = inr (λ p e. cc)
play_is g n tracks (Seeking t tail) xs plays = inr (λ p e. cc)
play_is g n tracks (Rolling h s) xs plays = by (has_piece h s xs) refl
  where
    by : (b : Bool) → has_piece h s xs ≡ b → ((has_piece g n xs ≡ true) × ((if b then Heard (newest h s xs) else Short (length xs)) ≡ Heard (newest g n xs)))
        ⊎ ((p : ℕ) → (if b then Heard (newest h s xs) else Short (length xs)) ≡ Heard p → ⊥)
    by true e = inl (sym (ap (λ k. has_piece k s xs) plays.0 ∙ ap (λ k. has_piece g k xs) plays.1) ∙ e, ap (λ k. Heard (newest k s xs)) plays.0 ∙ ap (λ k. Heard (newest g k xs)) plays.1)
    by false e = inr (λ p e. cc)

notes_well : (session : Session) (edits : List Edit) (g n settled : ℕ) (all tracks : List (List Kind)) (takes : List Take) (state : State) (entries : List Entry) (t : ℕ) →
    AreOrdered session edits all →
    EntriesStand edits all g n entries → PlaysAs g n all state → ((i : ℕ) (xs : List Kind) → slice_get all i ≡ Some xs → settled ≤ force g n xs) →
    ((i : ℕ) (xs : List Kind) → slice_get tracks i ≡ Some xs → slice_get all (t + i) ≡ Some xs) →
    are_heard_well session edits settled entries t (notes_of state tracks takes) ≡ true
notes_well session edits g n settled all [] takes state entries t order stand plays low there = refl
notes_well session edits g n settled all (xs ∷ tracks) [] state entries t order stand plays low there = refl
notes_well session edits g n settled all (xs ∷ tracks) (take ∷ takes) state entries t order stand plays low there =
    let here : slice_get all t ≡ Some xs = subst (λ k. slice_get all k ≡ Some xs) {x = t + 0} {y = t} (omega arith) (there 0 xs refl) in
    let rest = notes_well session edits g n settled all tracks takes state entries (suc t) order stand plays low
    (λ i ys at. subst (λ k. slice_get all k ≡ Some ys) {x = t + suc i} {y = suc t + i} (omega arith) (there (suc i) ys at)) in
    elim (play_is g n all state xs plays) [
      | inl is ↦ note_from session edits settled t entries (record { play = play_of state xs; take = take }) (notes_of state tracks takes)
          (subst (λ p. is_heard_well session edits settled t p ≡ true) (sym is.1) (play_well session edits g n t settled xs (order t xs here) (low t xs here) is.0))
          (subst (λ p. list_all (λ old. is_heard_after (note_of t old).play p) entries ≡ true) (sym is.1) (heard_after session edits all g n t xs entries here (order t xs here) stand is.0))
          rest
      | inr none ↦ note_from session edits settled t entries (record { play = play_of state xs; take = take }) (notes_of state tracks takes)
          (silent_well session edits settled t (play_of state xs) none) (unheard_after t (play_of state xs) entries none) rest
    ]

-- ---- the entry

rolls_on : (g : ℕ) (e : Entry) (entries : List Entry) → rolled g entries ≤ rolled g (e ∷ entries)
rolls_on g e entries = by (is_rolling_in g e.state)
  where
    by : (b : Bool) → rolled g entries ≤ (if b then suc (rolled g entries) else rolled g entries)
    by true = omega arith
    by false = omega arith

entry_stands : (session : Session) (edits : List Edit) (tracks : List (List Kind)) (takes : List Take) (entries : List Entry) (r settled q : ℕ) (state : State) → length takes ≡ length tracks →
    PlaysAs (generation edits r) (rolled (generation edits r) entries) tracks state → rolled (generation edits r) entries ≤ q →
    ((i : ℕ) (xs : List Kind) → slice_get tracks i ≡ Some xs → settled ≤ force (generation edits r) (rolled (generation edits r) entries) xs) →
    EntryStands tracks (generation edits r) q (generation edits r) (rolled (generation edits r) entries)
    (record { edition = r; settled = settled; state = state; notes = notes_of state tracks takes })
entry_stands session edits tracks takes entries r settled q state each plays on low = record {
  on = inr (refl, on);
  backed = λ t xs there. record { settled = low t xs there };
  heard = λ t p xs there is. by t p xs there (play_is (generation edits r) (rolled (generation edits r) entries) tracks state xs plays)
      (sym (note_is state tracks takes t xs each there) ∙ is);
}
  where
    by : (t p : ℕ) (xs : List Kind) → slice_get tracks t ≡ Some xs →
        ((has_piece (generation edits r) (rolled (generation edits r) entries) xs ≡ true) × (play_of state xs ≡ Heard (newest (generation edits r) (rolled (generation edits r) entries) xs)))
        ⊎ ((k : ℕ) → play_of state xs ≡ Heard k → ⊥) → play_of state xs ≡ Heard p → HeardAt (generation edits r) (rolled (generation edits r) entries) p xs
    by t p xs there (inl has) is = let same : Heard p ≡ Heard (newest (generation edits r) (rolled (generation edits r) entries) xs) = sym is ∙ has.1 in
        let le : p ≡ newest (generation edits r) (rolled (generation edits r) entries) xs = cc in
        record { here = has.0; at_most = subst (λ k. p ≤ k) le (omega arith) }
    by t p xs there (inr none) is = absurd (none p is)

-- What stands of the entries of a process that has entered edition r, in whichever edition it made them.
pub record Standing (session : Session) (edits : List Edit) (r : ℕ) (tracks : List (List Kind)) (entries : List Entry) : Type 0 where
  pub lawful : is_lawful_newest session edits entries ≡ true
  pub many : length tracks ≡ length session.tracks.items
  pub ordered : AreOrdered session edits tracks
  pub until : list_all (λ e. nat_le e.edition r) entries ≡ true
  pub stand : EntriesStand edits tracks (generation edits r) (rolled (generation edits r) entries) entries

pub standing_more : (session : Session) (edits : List Edit) (r : ℕ) (tracks : List (List Kind)) (takes : List Take) (entries : List Entry) → Standing session edits r tracks entries →
    r ≤ length edits →
    length takes ≡ length session.tracks.items → has_quit edits r ≡ false →
    fit_takes (edition session edits r) (is_rolling (entry_of session edits entries tracks takes r).state) entries 0 takes ≡ true →
    Standing session edits r tracks (entry_of session edits entries tracks takes r ∷ entries)
standing_more session edits r tracks takes entries old within each open_still fit =
    let now : Edition = edition session edits r in let g : ℕ = generation edits r in let n : ℕ = rolled g entries in
    let state : State = state_of now.transport.rolling g n tracks in let e : Entry = entry_of session edits entries tracks takes r in
    let plays = plays_as now.transport.rolling g n tracks in let as_many : length takes ≡ length tracks = each ∙ sym old.many in
    let low : (i : ℕ) (xs : List Kind) → slice_get tracks i ≡ Some xs → e.settled ≤ force g n xs = λ i xs there. settled_low r g n i tracks xs there in
    record {
      lawful = and_from (is_lawful_after session edits entries e) (is_lawful_newest session edits entries) (lawful_from session edits entries e record {
        fit = entry_fits session edits r tracks takes entries within old.many as_many open_still fit;
        no_older = none_newer session edits r tracks g n entries e refl refl old.until old.lawful old.stand;
        settled = settled_most r g n tracks;
        heard = notes_well session edits g n e.settled tracks tracks takes state entries 0 old.ordered old.stand plays low
            (λ i xs at. subst (λ k. slice_get tracks k ≡ Some xs) {x = i} {y = 0 + i} (omega arith) at);
      }) old.lawful;
      many = old.many;
      ordered = old.ordered;
      until = and_from (nat_le r r) (list_all (λ k. nat_le k.edition r) entries) (le-leb r r (omega arith)) old.until;
      stand = (
        entry_stands session edits tracks takes entries r e.settled (rolled g (e ∷ entries)) state as_many plays (rolls_on g e entries) low,
        entries_go_on edits tracks g n g (rolled g (e ∷ entries)) entries (inr (refl, rolls_on g e entries)) old.stand,
      );
    }

-- ---- in the newest edition

pub none_later : (session : Session) (edits : List Edit) (entries : List Entry) → is_lawful_newest session edits entries ≡ true → list_all (λ e. nat_le e.edition (length edits)) entries ≡ true
none_later session edits [] lawful = refl
none_later session edits (e ∷ before) lawful = let step = and_parts (is_lawful_after session edits before e) (is_lawful_newest session edits before) lawful in
    and_from (nat_le e.edition (length edits)) (list_all (λ k. nat_le k.edition (length edits)) before)
    (le-leb e.edition (length edits) (fits_parts session edits before e (lawful_parts session edits before e step.0).fit).0) (none_later session edits before step.1)

pub stands_with_its_entry : (session : Session) (edits : List Edit) (tracks : List (List Kind)) (entries : List Entry) → JournalInvariant session edits tracks entries →
    has_quit edits (length edits) ≡ false → (edition session edits (length edits)).transport.recording ≡ false →
    JournalInvariant session edits tracks (entry_of session edits entries tracks (no_takes session) (length edits) ∷ entries)
stands_with_its_entry session edits tracks entries old open_still still =
    let all : Standing session edits (length edits) tracks entries = record {
      lawful = old.lawful;
      many = old.many;
      ordered = old.ordered;
      until = none_later session edits entries old.lawful;
      stand = old.stand;
    } in
    let new = standing_more session edits (length edits) tracks (no_takes session) entries all (omega arith) (length-replicate (length session.tracks.items) Off) open_still
    (none_fit (edition session edits (length edits)) (is_rolling (entry_of session edits entries tracks (no_takes session) (length edits)).state) entries 0 (length session.tracks.items) still) in
    record { lawful = new.lawful; many = new.many; ordered = new.ordered; stand = new.stand }
