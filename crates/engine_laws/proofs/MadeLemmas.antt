-- Made entries stay made, make a lawful journal, and name as missing what hadn't been received.
use Rattle.std.proofs.Common.{◌≡◌, ℕ, ◌≤◌, List, [], ◌∷◌, ◌++◌, length, refl, sym, ap, subst, le_trans, ◌∙◌}
use Rattle.std.specs.Prelude.{Bool, true, nat_le, slice_get, Some, reverse}
use Rattle.std.specs.List.{list_all}
use Rattle.std.proofs.lemmas.Bool.{leb-true, le-leb}
use Rattle.std.proofs.lemmas.List.{append_assoc, reverse-append, reverse-reverse}
use Rattle.session_model.specs.declared.edit.Edit.{Edit}
use Rattle.session_model.specs.declared.session.Session.{Session}
use Rattle.engine_model.specs.Edits.{generation, starts}
use Rattle.engine_model.specs.Editions.{edition}
use Rattle.engine_model.specs.Items.{Kind}
use Rattle.engine_model.specs.Journal.{Take, Entry, is_rolling, rolled}
use Rattle.engine_model.specs.Order.{is_ordered_newest}
use Rattle.engine_model.specs.Fits.{is_lawful_newest}
use Rattle.engine_model.specs.Cycle.{settled_number, state_of, notes_of, entry_of}
use Rattle.engine_model.specs.Truth.{Miss, misses, is_missing}
use Rattle.engine_model.specs.Made.{Receives, fit_takes, AreMade}
use Rattle.engine_laws.specs.JournalInvariant.{AreOrdered}
use Rattle.engine_laws.specs.MadeLaws.{MadeGoesOn, MadeStays, WhatIsMadeIsLawful, WhatIsMadeIsMissing}
use Rattle.engine_laws.proofs.EditionLemmas.{edition_stays, quit_stays}
use Rattle.engine_laws.proofs.GrowLemmas.{earlier}
use Rattle.engine_laws.proofs.NumberLemmas.{count_rises, count_stays}
use Rattle.engine_laws.proofs.ListLemmas.{all_weaken}
use Rattle.engine_laws.proofs.JournalInvariantLemmas.{get_new, entries_receive, entries_go_on, place_by}
use Rattle.engine_laws.proofs.EntryLemmas.{Standing, standing_more}
use Rattle.engine_laws.proofs.TruthfulLemmas.{all_missing, all_within}
use Rattle.engine_laws.proofs.TruthLemmas.{more_missing}
use Rattle.engine_laws.proofs.LooksLemmas.{new_entry_misses}

-- ---- more is received

-- what was received earlier of a track
record Earlier (old : List (List Kind)) (t : ℕ) (ys : List Kind) : Type 0 where
  xs : List Kind
  there : slice_get old t ≡ Some xs
  more : List Kind
  is : ys ≡ more ++ xs

had : (old new : List (List Kind)) (t : ℕ) (ys : List Kind) → Receives old new → slice_get new t ≡ Some ys → Earlier old t ys
had old new t ys more there = let xs = get_new old new t ys more.many there in let rest = more.each t xs.0 ys xs.1 there in
    record { xs = xs.0; there = xs.1; more = rest.0; is = rest.1 }

pub receives_on : (old mid new : List (List Kind)) → Receives old mid → Receives mid new → Receives old new
receives_on old mid new first then_more = record {
  many = then_more.many ∙ first.many;
  each = λ t xs zs was now. let ys = get_new mid new t zs then_more.many now in
      let a = first.each t xs ys.0 was ys.1 in let b = then_more.each t ys.0 zs ys.1 now in
      (b.0 ++ a.0, b.1 ∙ ap (λ l. b.0 ++ l) a.1 ∙ sym (append_assoc b.0 a.0 xs));
}

pub made_goes_on : MadeGoesOn
made_goes_on session edits q r old new [] le more is = more.many ∙ is
made_goes_on session edits q r old new (e ∷ before) le more made = record {
  entered = made.entered;
  in_time = le_trans made.in_time le;
  unended = made.unended;
  by = made.by;
  many = made.many;
  received = receives_on made.by old new made.received more;
  takes = made.takes;
  one_each = made.one_each;
  fit = made.fit;
  is = made.is;
  earlier = made.earlier;
}

-- ---- more edits come

-- the entry of a cycle in a state of its transport and in a generation
abbrev entry_in : List Entry → List (List Kind) → List Take → ℕ → Bool → ℕ → Entry
entry_in before tracks takes r rolls g = record {
  edition = r;
  settled = settled_number r g (rolled g before) tracks;
  state = state_of rolls g (rolled g before) tracks;
  notes = notes_of (state_of rolls g (rolled g before) tracks) tracks takes;
}

entry_stays : (session : Session) (edits more : List Edit) (before : List Entry) (tracks : List (List Kind)) (takes : List Take) (k : ℕ) → k ≤ length edits →
    entry_of session (edits ++ more) before tracks takes k ≡ entry_of session edits before tracks takes k
entry_stays session edits more before tracks takes k low = ap (λ now. entry_in before tracks takes k now.transport.rolling (generation (edits ++ more) k)) (edition_stays session edits more k low)
    ∙ ap (entry_in before tracks takes k (edition session edits k).transport.rolling) (count_stays starts edits more k low)

pub made_stays : MadeStays
made_stays session edits more r tracks [] le is = is
made_stays session edits more r tracks (e ∷ before) le made = let low = le_trans made.in_time le in record {
  entered = made.entered;
  in_time = made.in_time;
  unended = quit_stays edits more made.entered low ∙ made.unended;
  by = made.by;
  many = made.many;
  received = made.received;
  takes = made.takes;
  one_each = made.one_each;
  fit = ap (λ now. fit_takes now (is_rolling e.state) before 0 made.takes) (edition_stays session edits more made.entered low) ∙ made.fit;
  is = made.is ∙ sym (entry_stays session edits more before made.by made.takes made.entered low);
  earlier = made_stays session edits more made.entered made.by before low made.earlier;
}

-- ---- they make a lawful journal

ordered_earlier : (session : Session) (edits : List Edit) (old new : List (List Kind)) → Receives old new → length old ≡ length new → AreOrdered session edits new → AreOrdered session edits old
ordered_earlier session edits old new more many order t xs there = let ys = get_new new old t xs many there in let rest = more.each t xs ys.0 there ys.1 in
    earlier session edits t rest.0 xs (subst (λ l. is_ordered_newest session edits t l ≡ true) rest.1 (order t ys.0 ys.1))

pub made_stand : (session : Session) (edits : List Edit) (r : ℕ) (tracks : List (List Kind)) (entries : List Entry) → r ≤ length edits → AreOrdered session edits tracks →
    AreMade session edits r tracks entries → Standing session edits r tracks entries
made_stand session edits r tracks [] le order is = record { lawful = refl; many = is; ordered = order; until = refl; stand = tt }
made_stand session edits r tracks (e ∷ before) le order made =
    let q : ℕ = made.entered in let low : q ≤ length edits = le_trans made.in_time le in let by : List (List Kind) = made.by in
    let old = made_stand session edits q by before low (ordered_earlier session edits by tracks made.received (sym made.received.many) order) made.earlier in
    let new : Standing session edits q by (e ∷ before) = subst (λ x. Standing session edits q by (x ∷ before)) (sym made.is)
    (standing_more session edits q by made.takes before old low made.one_each made.unended
    (subst (λ (x : Entry). fit_takes (edition session edits q) (is_rolling x.state) before 0 made.takes ≡ true) made.is made.fit)) in
    let g : ℕ = generation edits q in let h : ℕ = generation edits r in record {
      lawful = new.lawful;
      many = made.received.many ∙ made.many;
      ordered = order;
      until = all_weaken (λ (x : Entry). nat_le x.edition q) (λ (x : Entry). nat_le x.edition r) (λ x at. le-leb x.edition r (le_trans (leb-true x.edition q at) made.in_time)) (e ∷ before) new.until;
      stand = entries_go_on edits tracks g (rolled g (e ∷ before)) h (rolled h (e ∷ before)) (e ∷ before) (place_by g h (e ∷ before) (count_rises starts edits q r made.in_time))
          (entries_receive session edits by tracks g (rolled g (e ∷ before)) (e ∷ before) made.received order new.stand);
    }

pub what_is_made_is_lawful : WhatIsMadeIsLawful
what_is_made_is_lawful session edits r tracks entries le order made = ap (is_lawful_newest session edits) (reverse-reverse entries) ∙ (made_stand session edits r tracks entries le order made).lawful

-- ---- and name what is missing

record Missed (edits : List Edit) (t : ℕ) (xs : List Kind) (entries : List Entry) : Type 0 where
  missing : list_all (is_missing (reverse xs)) (misses edits t (reverse entries)) ≡ true
  within : list_all (λ m. nat_le m.tail (length (reverse xs))) (misses edits t (reverse entries)) ≡ true

made_miss : (session : Session) (edits : List Edit) (r t : ℕ) (tracks : List (List Kind)) (xs : List Kind) (entries : List Entry) → slice_get tracks t ≡ Some xs →
    AreMade session edits r tracks entries → Missed edits t xs entries
made_miss session edits r t tracks xs [] there made = record { missing = refl; within = refl }
made_miss session edits r t tracks xs (e ∷ before) there made =
    let by : List (List Kind) = made.by in let ys = had by tracks t xs made.received there in
    let old = made_miss session edits made.entered t by ys.xs before ys.there made.earlier in
    let new = new_entry_misses session edits t made.entered by ys.xs made.takes before ys.there made.many made.one_each in
    let all = more_missing (generation edits made.entered) (rolled (generation edits made.entered) before) ys.xs (misses edits t (reverse before)) new.0 new.2 old.missing old.within in
    let ms : List Miss = misses edits t (reverse (e ∷ before)) in
    let is : ms ≡ misses edits t (reverse before) ++ new.0 = ap (λ x. misses edits t (reverse (x ∷ before))) made.is ∙ new.1 in
    let missing : list_all (is_missing (reverse ys.xs)) ms ≡ true = ap (list_all (is_missing (reverse ys.xs))) is ∙ all.0 in
    let within : list_all (λ m. nat_le m.tail (length (reverse ys.xs))) ms ≡ true = ap (list_all (λ m. nat_le m.tail (length (reverse ys.xs)))) is ∙ all.1 in
    let whole : reverse xs ≡ reverse ys.xs ++ reverse ys.more = ap reverse ys.is ∙ reverse-append ys.more ys.xs in record {
      missing = ap (λ l. list_all (is_missing l) ms) whole ∙ all_missing (reverse ys.xs) (reverse ys.more) ms within missing;
      within = ap (λ l. list_all (λ m. nat_le m.tail (length l)) ms) whole ∙ all_within (reverse ys.xs) (reverse ys.more) ms within;
    }

pub what_is_made_is_missing : WhatIsMadeIsMissing
what_is_made_is_missing session edits r t tracks xs entries there made = (made_miss session edits r t tracks xs entries there made).missing
