-- What is true of a ring stays true as more is received and more edits come.
use Rattle.std.proofs.Common.{◌≡◌, ℕ, zero, suc, ◌+◌, ◌-◌, ◌<◌, ◌≤◌, List, [], ◌∷◌, ◌++◌, length, take, map, refl, sym, ap, arith, ◌∙◌, length-append}
use Rattle.std.specs.Prelude.{Bool, true, false, ◌&&◌, not, ◌==◌, nat_le, nat_lt, if◌then◌else◌}
use Rattle.std.specs.List.{list_all}
use Rattle.std.proofs.lemmas.Bool.{and_parts, and_from, le-leb, leb-true, eq-eqb, ltb-true, true≢false}
use Rattle.session_model.specs.declared.edit.Edit.{Edit}
use Rattle.engine_model.specs.Edits.{generation, starts}
use Rattle.engine_model.specs.Items.{Kind, among, blocks}
use Rattle.engine_model.specs.Journal.{State, Stopped, Seeking, Rolling, Entry}
use Rattle.engine_model.specs.Cycle.{is_held}
use Rattle.engine_model.specs.Truth.{Miss, miss_in, misses, item_at, was_held, looked, is_missing, is_within, IsTruthful}
use Rattle.engine_laws.specs.TruthLaws.{TruthStands}
use Rattle.engine_laws.proofs.NumberLemmas.{count_stays}

-- ---- more is received

take_stays : (n : ℕ) (xs ys : List Kind) → n ≤ length xs → take n (xs ++ ys) ≡ take n xs
take_stays zero xs ys le = refl
take_stays (suc n) [] ys le = absurd (omega arith)
take_stays (suc n) (x ∷ xs) ys le = ap (λ l. x ∷ l) (take_stays n xs ys (omega arith))

item_stays : (n : ℕ) (xs ys : List Kind) → n < length xs → item_at n (xs ++ ys) ≡ item_at n xs
item_stays n [] ys lt = absurd (omega arith)
item_stays zero (x ∷ xs) ys lt = refl
item_stays (suc n) (x ∷ xs) ys lt = item_stays n xs ys (omega arith)

miss_stays : (xs ys : List Kind) (m : Miss) → nat_le m.tail (length xs) ≡ true → is_missing (xs ++ ys) m ≡ is_missing xs m
miss_stays xs ys m le = ap (λ l. not (among m.block (blocks m.generation l))) (take_stays m.tail xs ys (leb-true m.tail (length xs) le))

tail_stays : (n : ℕ) (xs ys : List Kind) → nat_le n (length xs) ≡ true → nat_le n (length (xs ++ ys)) ≡ true
tail_stays n xs ys le = le-leb n (length (xs ++ ys)) (grind (arith, length-append xs ys, leb-true n (length xs) le))

held_by : (depth : ℕ) (xs ys : List Kind) (m : Miss) (b : Bool) → nat_lt 0 m.tail ≡ b → nat_le m.tail (length xs) ≡ true → was_held depth (xs ++ ys) m ≡ was_held depth xs m
held_by depth xs ys m false zero_is le = ap (λ b. b && nat_le m.tail (length (xs ++ ys)) && is_held depth m.generation m.block (item_at (m.tail - 1) (xs ++ ys))) zero_is
    ∙ sym (ap (λ b. b && nat_le m.tail (length xs) && is_held depth m.generation m.block (item_at (m.tail - 1) xs)) zero_is)
held_by depth xs ys m true some le = ap (λ b. nat_lt 0 m.tail && b && is_held depth m.generation m.block (item_at (m.tail - 1) (xs ++ ys))) (tail_stays m.tail xs ys le ∙ sym le)
    ∙ ap (λ x. nat_lt 0 m.tail && nat_le m.tail (length xs) && is_held depth m.generation m.block x)
    (item_stays (m.tail - 1) xs ys (grind (arith, leb-true m.tail (length xs) le, ltb-true 0 m.tail some)))

pub all_missing : (xs ys : List Kind) (ms : List Miss) → list_all (λ m. nat_le m.tail (length xs)) ms ≡ true → list_all (is_missing xs) ms ≡ true → list_all (is_missing (xs ++ ys)) ms ≡ true
all_missing xs ys [] le all = refl
all_missing xs ys (m ∷ ms) le all = let low = and_parts (nat_le m.tail (length xs)) (list_all (λ k. nat_le k.tail (length xs)) ms) le in let here = and_parts (is_missing xs m) (list_all (is_missing xs) ms) all in
    and_from (is_missing (xs ++ ys) m) (list_all (is_missing (xs ++ ys)) ms) (miss_stays xs ys m low.0 ∙ here.0) (all_missing xs ys ms low.1 here.1)

pub all_within : (xs ys : List Kind) (ms : List Miss) → list_all (λ m. nat_le m.tail (length xs)) ms ≡ true → list_all (λ m. nat_le m.tail (length (xs ++ ys))) ms ≡ true
all_within xs ys [] le = refl
all_within xs ys (m ∷ ms) le = let low = and_parts (nat_le m.tail (length xs)) (list_all (λ k. nat_le k.tail (length xs)) ms) le in
    and_from (nat_le m.tail (length (xs ++ ys))) (list_all (λ k. nat_le k.tail (length (xs ++ ys))) ms) (tail_stays m.tail xs ys low.0) (all_within xs ys ms low.1)

pub looked_stays : (depth : ℕ) (xs ys : List Kind) (ms : List Miss) → list_all (λ m. nat_le m.tail (length xs)) ms ≡ true → looked depth (xs ++ ys) ms ≡ looked depth xs ms
looked_stays depth xs ys [] le = refl
looked_stays depth xs ys (m ∷ ms) le = let low = and_parts (nat_le m.tail (length xs)) (list_all (λ k. nat_le k.tail (length xs)) ms) le in
    ap (λ b. if b then looked depth (xs ++ ys) ms else m.tail ∷ looked depth (xs ++ ys) ms) (held_by depth xs ys m (nat_lt 0 m.tail) refl low.0)
    ∙ ap (λ l. if was_held depth xs m then l else m.tail ∷ l) (looked_stays depth xs ys ms low.1)

-- ---- the first list is the second with some left out

pub within_more : (xs ys zs : List ℕ) → is_within xs ys ≡ true → is_within xs (ys ++ zs) ≡ true
within_more [] ys zs h = refl
within_more (x ∷ xs) [] zs h = absurd (true≢false (sym h))
within_more (x ∷ xs) (y ∷ ys) zs h = by (x == y) h (within_more xs ys zs) (within_more (x ∷ xs) ys zs)
  where
    by : (b : Bool) → (if b then is_within xs ys else is_within (x ∷ xs) ys) ≡ true → (is_within xs ys ≡ true → is_within xs (ys ++ zs) ≡ true) → (is_within (x ∷ xs) ys ≡ true → is_within (x ∷ xs) (ys ++ zs) ≡ true) →
        (if b then is_within xs (ys ++ zs) else is_within (x ∷ xs) (ys ++ zs)) ≡ true
    by true e f g = f e
    by false e f g = g e

within_one : (n : ℕ) (zs : List ℕ) → is_within (n ∷ []) (zs ++ n ∷ []) ≡ true
within_one n [] = ap (λ b. if b then true else false) (eq-eqb n n refl)
within_one n (z ∷ zs) = by (n == z) (within_one n zs)
  where
    by : (b : Bool) → is_within (n ∷ []) (zs ++ n ∷ []) ≡ true → (if b then true else is_within (n ∷ []) (zs ++ n ∷ [])) ≡ true
    by true e = refl
    by false e = e

pub within_both : (xs ys zs : List ℕ) (n : ℕ) → is_within xs ys ≡ true → is_within (xs ++ n ∷ []) (ys ++ zs ++ n ∷ []) ≡ true
within_both [] [] zs n h = within_one n zs
within_both [] (y ∷ ys) zs n h = by (n == y) (within_both [] ys zs n refl)
  where
    by : (b : Bool) → is_within (n ∷ []) (ys ++ zs ++ n ∷ []) ≡ true → (if b then is_within [] (ys ++ zs ++ n ∷ []) else is_within (n ∷ []) (ys ++ zs ++ n ∷ [])) ≡ true
    by true e = refl
    by false e = e
within_both (x ∷ xs) [] zs n h = absurd (true≢false (sym h))
within_both (x ∷ xs) (y ∷ ys) zs n h = by (x == y) h (within_both xs ys zs n) (within_both (x ∷ xs) ys zs n)
  where
    by : (b : Bool) → (if b then is_within xs ys else is_within (x ∷ xs) ys) ≡ true → (is_within xs ys ≡ true → is_within (xs ++ n ∷ []) (ys ++ zs ++ n ∷ []) ≡ true) →
        (is_within (x ∷ xs) ys ≡ true → is_within (x ∷ xs ++ n ∷ []) (ys ++ zs ++ n ∷ []) ≡ true) →
        (if b then is_within (xs ++ n ∷ []) (ys ++ zs ++ n ∷ []) else is_within (x ∷ xs ++ n ∷ []) (ys ++ zs ++ n ∷ [])) ≡ true
    by true e f g = f e
    by false e f g = g e

pub truth_stands_while_receiving : (edits : List Edit) (depth t : ℕ) (received more : List Kind) (tails further : List ℕ) (journal : List Entry) →
    TruthStands edits depth t received tails journal → TruthStands edits depth t (received ++ more) (tails ++ further) journal
truth_stands_while_receiving edits depth t received more tails further journal old = record {
  missing = all_missing received more (misses edits t journal) old.within old.missing;
  looked_for = ap (λ l. is_within l (tails ++ further)) (looked_stays depth received more (misses edits t journal) old.within)
      ∙ within_more (looked depth received (misses edits t journal)) tails further old.looked_for;
  within = all_within received more (misses edits t journal) old.within;
  none_lost = old.none_lost;
}

-- ---- more edits come

same_state : (edits extra : List Edit) (t : ℕ) (e : Entry) (state : State) → generation (edits ++ extra) e.edition ≡ generation edits e.edition → miss_in (edits ++ extra) t e state ≡ miss_in edits t e state
same_state edits extra t e Stopped is = refl
same_state edits extra t e (Seeking u tail) is = ap (λ g. if u == t then record { generation = g; block = 0; tail = tail } ∷ [] else []) is
same_state edits extra t e (Rolling g s) is = refl

pub misses_stay : (edits extra : List Edit) (t : ℕ) (journal : List Entry) → list_all (λ e. nat_le e.edition (length edits)) journal ≡ true →
    misses (edits ++ extra) t journal ≡ misses edits t journal
misses_stay edits extra t [] all = refl
misses_stay edits extra t (e ∷ es) all = let low = and_parts (nat_le e.edition (length edits)) (list_all (λ k. nat_le k.edition (length edits)) es) all in
    ap (λ l. l ++ misses (edits ++ extra) t es) (same_state edits extra t e e.state (count_stays starts edits extra e.edition (leb-true e.edition (length edits) low.0)))
    ∙ ap (λ l. miss_in edits t e e.state ++ l) (misses_stay edits extra t es low.1)

pub truth_stands_while_editing : (edits extra : List Edit) (depth t : ℕ) (received : List Kind) (tails : List ℕ) (journal : List Entry) →
    list_all (λ e. nat_le e.edition (length edits)) journal ≡ true → TruthStands edits depth t received tails journal → TruthStands (edits ++ extra) depth t received tails journal
truth_stands_while_editing edits extra depth t received tails journal all old = let same = misses_stay edits extra t journal all in record {
  missing = ap (λ ms. list_all (is_missing received) ms) same ∙ old.missing;
  looked_for = ap (λ ms. is_within (looked depth received ms) tails) same ∙ old.looked_for;
  within = ap (λ ms. list_all (λ m. nat_le m.tail (length received)) ms) same ∙ old.within;
  none_lost = old.none_lost;
}

-- ---- the ring

pub truth_stands_of_the_ring : (edits : List Edit) (depth t : ℕ) (received unreceived : List Kind) (tails heads : List ℕ) (journal : List Entry) →
    TruthStands edits depth t received tails journal → IsTruthful edits depth t (received ++ unreceived) tails heads journal
truth_stands_of_the_ring edits depth t received unreceived tails heads journal old = record {
  missing = all_missing received unreceived (misses edits t journal) old.within old.missing;
  looked_for = ap (λ l. is_within l tails) (looked_stays depth received unreceived (misses edits t journal) old.within) ∙ old.looked_for;
  full = ap (λ ls. list_all (λ l. l.taken == l.head + depth) ls) old.none_lost;
  found_full = ap (λ ls. is_within (map (λ l. l.head) ls) heads) old.none_lost;
}
