-- The takes of a lawful journal are the runs of entries in which a track is recorded.
use Rattle.std.proofs.Common.{◌≡◌, inl, inr, ℕ, zero, suc, ◌+◌, ◌≤◌, ◌<◌, List, [], ◌∷◌, ◌++◌, length, refl, sym, ap, subst, arith, ◌∙◌}
use Rattle.std.specs.Prelude.{Bool, true, ◌&&◌, not, nat_eq, max, reverse, Option, Some, None, All}
use Rattle.std.proofs.lemmas.Bool.{and_parts, cases_eq, cases_lt}
use Rattle.std.proofs.lemmas.List.{reverse-reverse}
use Rattle.std.proofs.lemmas.List.Elements.{All-cons, All-nil}
use Rattle.std.proofs.lemmas.Option.{some_pair_parts}
use Rattle.session_model.specs.declared.edit.Edit.{Edit}
use Rattle.session_model.specs.declared.session.Session.{Session}
use Rattle.engine_model.specs.Editions.{Edition, edition}
use Rattle.engine_model.specs.Edits.{generation}
use Rattle.engine_model.specs.Journal.{Take, Off, Taken, Lost, Note, Entry, is_rolling, rolled, note_at, note_of}
use Rattle.engine_model.specs.Fits.{fits_note, fits_notes, fits_play, fits_take, greatest_take, is_lawful_after, is_lawful_newest, last_take, next_take, records, take_after, take_number}
use Rattle.journal_laws.specs.TakeRuns.{take_at, numbered, is_off, IsTakeOf, TakesAreRuns}
use Rattle.journal_laws.proofs.JournalLemmas.{All-reverse, fits_in_parts, turned}
use Rattle.journal_laws.proofs.TakeRunLemmas.{number_is, off_is, next_is, after_none, after_some, at_new, at_each, one_longer, keeps, Ends, grows, starts_anew}

-- ---- one entry more

record RunsIn (t : ℕ) (js : List Entry) (most : ℕ) (last : Take) : Type 0 where
  takes : (n : ℕ) → 1 ≤ n → n ≤ most → IsTakeOf t n js
  below : (c : ℕ) → take_number (take_at t c js) ≤ most
  counted : (c n i : ℕ) → numbered (take_at t c js) ≡ Some (n, i) → 1 ≤ n
  at_end : (c : ℕ) → suc c ≡ length js → take_at t c js ≡ last
  ends : (n i : ℕ) → numbered last ≡ Some (n, i) → (n ≡ most) × Ends t n i js

-- the run that one more entry begins or goes on with
record NewRun (t m j most : ℕ) (js : List Entry) : Type 0 where
  rises : most ≤ m
  next_to : m ≤ suc most
  ends : Ends t m j js

new_run : (t m j most : ℕ) (js : List Entry) (e : Entry) (last : Take) (o : Option (ℕ × ℕ)) → numbered last ≡ o → RunsIn t js most last → numbered (note_of t e).take ≡ Some (m, j) →
    m ≡ (take_after last most).0 → j ≡ (take_after last most).1 → NewRun t m j most (js ++ e ∷ [])
new_run t m j most js e last None none old here number index = let after = after_none last most none in let is : m ≡ suc most = number ∙ after.0 in let at : j ≡ 0 = index ∙ after.1 in
    let low : 1 ≤ m = omega arith in record {
      rises = omega arith;
      next_to = omega arith;
      ends = subst (λ k. Ends t m k (js ++ e ∷ [])) (sym at)
          (starts_anew t m js e low (here ∙ ap (λ k. Some (m, k)) at) (λ c. omega (arith, old.below c)) (λ c end. old.at_end c end ∙ off_is last none));
    }
new_run t m j most js e last (Some (p, q)) some old here number index = let after = after_some last most p q some in let was = old.ends p q some in
    let is : p ≡ m = sym (number ∙ after.0) in let at : j ≡ suc q = index ∙ after.1 in let run : Ends t m q js = subst (λ n. Ends t n q js) is was.1 in record {
      rises = omega (arith, was.0);
      next_to = omega (arith, was.0);
      ends = subst (λ k. Ends t m k (js ++ e ∷ [])) (sym at) (grows t m q js e run (here ∙ ap (λ k. Some (m, k)) at));
    }

runs_more : (t most : ℕ) (js : List Entry) (e : Entry) (last : Take) (recorded : Bool) → RunsIn t js most last → fits_take recorded (take_after last most) (note_of t e).take ≡ true →
    RunsIn t (js ++ e ∷ []) (max (take_number (note_of t e).take) most) (note_of t e).take
runs_more t most js e last recorded old fit = by (numbered (note_of t e).take) refl
  where
    new : Take
    new = (note_of t e).take

    below : (c : ℕ) → take_number (take_at t c (js ++ e ∷ [])) ≤ max (take_number new) most
    below c = at_each t c js e (λ k. take_number k ≤ max (take_number new) most) (λ lt. let low = old.below c in grind (arith, low)) (λ here. grind arith) (λ past. grind arith)

    by : (o : Option (ℕ × ℕ)) → numbered new ≡ o → RunsIn t (js ++ e ∷ []) (max (take_number new) most) new
    by None none = let zero_is : take_number new ≡ 0 = ap take_number (off_is new none) in record {
      takes = λ n low le. keeps t n js e low (λ of. absurd (omega arith)) (old.takes n low (grind (arith, zero_is, le)));
      below = below;
      counted = λ c n i. at_each t c js e (λ k. numbered k ≡ Some (n, i) → 1 ≤ n) (λ lt is. old.counted c n i is) (λ here is. absurd (none_is (sym none ∙ is))) (λ past is. absurd (none_is is));
      at_end = λ c end. at_new t c js e (omega (arith, one_longer js e));
      ends = λ n i is. absurd (none_is (sym none ∙ is));
    }
      where
        none_is : {n i : ℕ} → ◌≡◌ {A = Option (ℕ × ℕ)} None (Some (n, i)) → ⊥
        none_is e = cc
    by (Some (m, j)) some = let fits = next_is recorded (take_after last most) new m j fit some in
        let run = new_run t m j most js e last (numbered last) refl old some fits.0 fits.1 in
        let number : take_number new ≡ m = number_is new m j some in
        let top : max (take_number new) most ≡ m = grind (arith, number, run.rises) in record {
          takes = λ n low le. elim (cases_eq n m) [
            | inl same ↦ subst (λ k. IsTakeOf t k (js ++ e ∷ [])) (sym same) run.ends.the
            | inr other ↦ keeps t n js e low (λ of. other (sym of ∙ number)) (old.takes n low (under n m le top run.next_to other))
          ];
          below = below;
          counted = λ c n i. at_each t c js e (λ k. numbered k ≡ Some (n, i) → 1 ≤ n) (λ lt is. old.counted c n i is)
              (λ here is. let same = some_pair_parts m n j i (sym some ∙ is) in subst (λ k. 1 ≤ k) same.0 run.ends.low) (λ past is. absurd (none_is is));
          at_end = λ c end. at_new t c js e (omega (arith, one_longer js e));
          ends = λ n i is. let same = some_pair_parts m n j i (sym some ∙ is) in
              (sym same.0 ∙ sym top, subst (λ k. Ends t k i (js ++ e ∷ [])) same.0 (subst (λ k. Ends t m k (js ++ e ∷ [])) same.1 run.ends));
        }
      where
        none_is : {n i : ℕ} → ◌≡◌ {A = Option (ℕ × ℕ)} None (Some (n, i)) → ⊥
        none_is e = cc

        under : (n m : ℕ) → n ≤ max (take_number new) most → max (take_number new) most ≡ m → m ≤ suc most → (n ≡ m → ⊥) → n ≤ most
        under n m le top next other = elim (cases_eq n (suc most)) [ inl same ↦ absurd (other (omega (arith, le, top, next, same))) | inr less ↦ below_it n (omega (arith, le, top, next)) less ]
          where
            below_it : (n : ℕ) → n ≤ suc most → (n ≡ suc most → ⊥) → n ≤ most
            below_it n le less = elim (cases_lt n (suc most)) [ inl lt ↦ omega arith | inr ge ↦ absurd (less (omega arith)) ]

-- ---- all entries, the newest first

-- the take note of a track fits
note_fits : (now : Edition) (rolling : Bool) (n : ℕ) (before : List Entry) (u i : ℕ) (notes : List Note) → i < length notes → fits_notes now rolling n before u notes ≡ true →
    fits_take (rolling && records now (u + i)) (next_take (u + i) before) (note_at i notes).take ≡ true
note_fits now rolling n before u i [] lt fit = absurd (omega arith)
note_fits now rolling n before u zero (note ∷ notes) lt fit = let parts = and_parts (fits_note now rolling n before u note) (fits_notes now rolling n before (suc u) notes) fit in
    subst (λ k. fits_take (rolling && records now k) (next_take k before) note.take ≡ true) {x = u} {y = u + 0} (omega arith)
    (and_parts (fits_play rolling n note.play) (fits_take (rolling && records now u) (next_take u before) note.take) parts.0).1
note_fits now rolling n before u (suc i) (note ∷ notes) lt fit = let parts = and_parts (fits_note now rolling n before u note) (fits_notes now rolling n before (suc u) notes) fit in
    subst (λ k. fits_take (rolling && records now k) (next_take k before) (note_at i notes).take ≡ true) {x = suc u + i} {y = u + suc i} (omega arith)
    (note_fits now rolling n before (suc u) i notes (omega arith) parts.1)

take_fits : (session : Session) (edits : List Edit) (t : ℕ) (before : List Entry) (e : Entry) → t < length session.tracks.items → is_lawful_after session edits before e ≡ true →
    fits_take (is_rolling e.state && records (edition session edits e.edition) t) (next_take t before) (note_of t e).take ≡ true
take_fits session edits t before e lt lawful = let parts = fits_in_parts session edits before e lawful in let now = edition session edits e.edition in
    subst (λ k. fits_take (is_rolling e.state && records now k) (next_take k before) (note_at t e.notes).take ≡ true) {x = 0 + t} {y = t} (omega arith)
    (note_fits now (is_rolling e.state) (rolled (generation edits e.edition) before) before 0 t e.notes (omega (arith, parts.many)) parts.notes)

runs : (session : Session) (edits : List Edit) (t : ℕ) (entries : List Entry) → t < length session.tracks.items → is_lawful_newest session edits entries ≡ true →
    RunsIn t (reverse entries) (greatest_take t entries) (last_take t entries)
runs session edits t [] lt lawful = record {
  takes = λ n low le. absurd (omega arith);
  below = λ c. omega arith;
  counted = λ c n i is. absurd (none_is is);
  at_end = λ c end. refl;
  ends = λ n i is. absurd (none_is is);
}
  where
    none_is : {n i : ℕ} → ◌≡◌ {A = Option (ℕ × ℕ)} None (Some (n, i)) → ⊥
    none_is e = cc
runs session edits t (e ∷ before) lt lawful = let step = and_parts (is_lawful_after session edits before e) (is_lawful_newest session edits before) lawful in
    subst (λ js. RunsIn t js (greatest_take t (e ∷ before)) (note_of t e).take) (sym (turned e before))
    (runs_more t (greatest_take t before) (reverse before) e (last_take t before) (is_rolling e.state && records (edition session edits e.edition) t)
    (runs session edits t before lt step.1) (take_fits session edits t before e lt step.0))

-- ---- the journal

off_where : (recorded : Bool) (next : ℕ × ℕ) (k : Take) → fits_take recorded next k ≡ true → is_off k ≡ not recorded
off_where recorded next Off fit = sym fit
off_where recorded next (Taken n i) fit = sym (ap not (and_parts recorded (nat_eq n next.0) (and_parts (recorded && nat_eq n next.0) (nat_eq i next.1) fit).0).0)
off_where recorded next (Lost n i head) fit = sym (ap not (and_parts recorded (nat_eq n next.0) (and_parts (recorded && nat_eq n next.0) (nat_eq i next.1) fit).0).0)

IsRecorded : Session → List Edit → ℕ → Entry → Type 0
IsRecorded session edits t e = is_off (note_of t e).take ≡ not (is_rolling e.state && records (edition session edits e.edition) t)

all_recorded : (session : Session) (edits : List Edit) (t : ℕ) (entries : List Entry) → t < length session.tracks.items → is_lawful_newest session edits entries ≡ true →
    All (IsRecorded session edits t) entries
unfolding IsRecorded
all_recorded session edits t [] lt lawful = All-nil (IsRecorded session edits t)
all_recorded session edits t (e ∷ before) lt lawful = let step = and_parts (is_lawful_after session edits before e) (is_lawful_newest session edits before) lawful in
    All-cons (IsRecorded session edits t) e before
    (off_where (is_rolling e.state && records (edition session edits e.edition) t) (next_take t before) (note_of t e).take (take_fits session edits t before e lt step.0))
    (all_recorded session edits t before lt step.1)

greatest_more : (t : ℕ) (es : List Entry) (e : Entry) → greatest_take t (es ++ e ∷ []) ≡ greatest_take t (e ∷ es)
greatest_more t [] e = refl
greatest_more t (d ∷ es) e = ap (max (take_number (note_of t d).take)) (greatest_more t es e) ∙ swapped (take_number (note_of t d).take) (take_number (note_of t e).take) (greatest_take t es)
  where
    swapped : (a b c : ℕ) → max a (max b c) ≡ max b (max a c)
    swapped a b c = grind arith

greatest_turned : (t : ℕ) (es : List Entry) → greatest_take t (reverse es) ≡ greatest_take t es
greatest_turned t [] = refl
greatest_turned t (e ∷ es) = ap (greatest_take t) (turned e es) ∙ greatest_more t (reverse es) e ∙ ap (max (take_number (note_of t e).take)) (greatest_turned t es)

pub takes_are_runs : TakesAreRuns
unfolding IsRecorded
takes_are_runs session edits t journal lt lawful = let all = runs session edits t (reverse journal) lt lawful in let same = reverse-reverse journal in let most = greatest_turned t journal in record {
  recorded = subst (λ l. All (IsRecorded session edits t) l) same (All-reverse (IsRecorded session edits t) (reverse journal) (all_recorded session edits t (reverse journal) lt lawful));
  takes = λ n low le. subst (λ l. IsTakeOf t n l) same (all.takes n low (subst (λ m. n ≤ m) (sym most) le));
  counted = λ c n i is. let at : numbered (take_at t c (reverse (reverse journal))) ≡ Some (n, i) = ap (λ l. numbered (take_at t c l)) same ∙ is in
      (all.counted c n i at, subst (λ m. n ≤ m) most (subst (λ m. m ≤ greatest_take t (reverse journal)) (number_is (take_at t c (reverse (reverse journal))) n i at) (all.below c)));
}
