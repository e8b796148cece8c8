-- Few items are ever sent of a track: the numbers of its pieces are apart and bounded, and the editions of its marks rise.
use Rattle.std.proofs.Common.{◌≡◌, inl, inr, ℕ, zero, suc, ◌+◌, ◌*◌, ◌<◌, ◌≤◌, List, [], ◌∷◌, length, refl, sym, arith, ◌∙◌, le_trans}
use Rattle.std.specs.Prelude.{Bool, true, false, ◌&&◌, not, ◌==◌, nat_lt, nat_le, if◌then◌else◌}
use Rattle.std.specs.List.{list_all, list_any}
use Rattle.std.proofs.lemmas.Bool.{and_parts, and_from, ltb-true, lt-ltb, leb-true, le-leb, eqb-true, eq-eqb}
use Rattle.std.proofs.lemmas.Bool.{or_cases, or_left, or_right, not-true, not_from_false, false_from_ne_true, true≢false, false≢true}
use Rattle.session_model.specs.declared.session.Session.{Session}
use Rattle.session_model.specs.declared.edit.Edit.{Edit}
use Rattle.engine_model.specs.Edits.{generation, playlist_edition, count_where, holds_at, starts, touches}
use Rattle.engine_model.specs.Items.{Kind, Piece, Settled, Blank, among}
use Rattle.engine_model.specs.Order.{is_ordered_newest, may_follow, precedes_mark}
use Rattle.engine_laws.specs.Kept.{Kept, is_from}
use Rattle.engine_laws.proofs.NumberLemmas.{last_low}
use Rattle.engine_laws.proofs.OrderLemmas.{mark_parts}
use Rattle.machine_laws.specs.Stands.{is_piece, each_once}
use Rattle.machine_laws.proofs.ApartLemmas.{apart, pigeons, digits, below_digits}

-- ---- marks

abbrev marks_of : List Kind → List ℕ
marks_of [] = []
marks_of (Piece u g s p ∷ xs) = marks_of xs
marks_of (Settled k g s ∷ xs) = k ∷ marks_of xs
marks_of (Blank ∷ xs) = marks_of xs

marks_low : (k g : ℕ) (xs : List Kind) → list_all (precedes_mark k g) xs ≡ true → list_all (λ j. nat_lt j k) (marks_of xs) ≡ true
marks_low k g [] h = refl
marks_low k g (Piece u i s p ∷ xs) h = marks_low k g xs (and_parts (nat_le i g) (list_all (precedes_mark k g) xs) h).1
marks_low k g (Settled j i s ∷ xs) h = let parts = and_parts (nat_le i g && nat_lt j k) (list_all (precedes_mark k g) xs) h in
    and_from (nat_lt j k) (list_all (λ n. nat_lt n k) (marks_of xs)) (and_parts (nat_le i g) (nat_lt j k) parts.0).1 (marks_low k g xs parts.1)
marks_low k g (Blank ∷ xs) h = marks_low k g xs h

few_marks : (session : Session) (edits : List Edit) (t n : ℕ) (xs : List Kind) → is_ordered_newest session edits t xs ≡ true → list_all (λ j. nat_lt j n) (marks_of xs) ≡ true →
    length (marks_of xs) ≤ n
few_marks session edits t n [] o low = omega arith
few_marks session edits t n (Piece u g s p ∷ xs) o low = few_marks session edits t n xs (and_parts (may_follow session edits t xs (Piece u g s p)) (is_ordered_newest session edits t xs) o).1 low
few_marks session edits t n (Settled k g s ∷ xs) o low = let step = and_parts (may_follow session edits t xs (Settled k g s)) (is_ordered_newest session edits t xs) o in
    let first = ltb-true k n (and_parts (nat_lt k n) (list_all (λ j. nat_lt j n) (marks_of xs)) low).0 in
    let rest = few_marks session edits t k xs step.1 (marks_low k g xs (mark_parts session edits t k g s xs step.0).0) in omega (arith, first, rest)
few_marks session edits t n (Blank ∷ xs) o low = few_marks session edits t n xs (and_parts (may_follow session edits t xs Blank) (is_ordered_newest session edits t xs) o).1 low

-- ---- pieces

-- the number of a piece, where blocks are below b and playlist editions below e
abbrev number : ℕ → ℕ → ℕ → ℕ → ℕ → ℕ
number b e g s p = (g * b + s) * e + p

abbrev numbers : ℕ → ℕ → List Kind → List ℕ
numbers b e [] = []
numbers b e (Piece u g s p ∷ xs) = number b e g s p ∷ numbers b e xs
numbers b e (Settled k g s ∷ xs) = numbers b e xs
numbers b e (Blank ∷ xs) = numbers b e xs

-- pieces with generations and playlist editions of at most k
abbrev is_below : ℕ → ℕ → Kind → Bool
is_below b k (Piece u g s p) = nat_le g k && nat_lt s b && nat_le p k
is_below b k (Settled j g s) = true
is_below b k Blank = true

numbers_low : (b k : ℕ) (xs : List Kind) → list_all (is_below b k) xs ≡ true → list_all (λ n. nat_lt n ((k + 1) * b * (k + 1))) (numbers b (k + 1) xs) ≡ true
numbers_low b k [] h = refl
numbers_low b k (Piece u g s p ∷ xs) h = let parts = and_parts (nat_le g k && nat_lt s b && nat_le p k) (list_all (is_below b k) xs) h in
    let two = and_parts (nat_le g k && nat_lt s b) (nat_le p k) parts.0 in
    let one = and_parts (nat_le g k) (nat_lt s b) two.0 in
    and_from (nat_lt (number b (k + 1) g s p) ((k + 1) * b * (k + 1))) (list_all (λ n. nat_lt n ((k + 1) * b * (k + 1))) (numbers b (k + 1) xs))
    (lt-ltb (number b (k + 1) g s p) ((k + 1) * b * (k + 1))
    (below_digits (k + 1) (g * b + s) p ((k + 1) * b) (below_digits b g s (k + 1) (more g (leb-true g k one.0)) (ltb-true s b one.1)) (more p (leb-true p k two.1))))
    (numbers_low b k xs parts.1)
  where
    more : (n : ℕ) → n ≤ k → n < k + 1
    more n le = omega (arith, le)
numbers_low b k (Settled j g s ∷ xs) h = numbers_low b k xs h
numbers_low b k (Blank ∷ xs) h = numbers_low b k xs h

-- a number that stands among those of the pieces is of a piece that was sent
number_of : (b k u g s p : ℕ) (xs : List Kind) → list_all (is_below b k) (Piece u g s p ∷ xs) ≡ true → among (number b (k + 1) g s p) (numbers b (k + 1) xs) ≡ true →
    list_any (is_piece g s p) xs ≡ true
number_of b k u g s p [] h m = absurd (false≢true m)
number_of b k u g s p (Piece v i r q ∷ xs) h m = let parts = and_parts (nat_le g k && nat_lt s b && nat_le p k) (list_all (is_below b k) (Piece v i r q ∷ xs)) h in
    let there = and_parts (nat_le i k && nat_lt r b && nat_le q k) (list_all (is_below b k) xs) parts.1 in
    elim (or_cases (number b (k + 1) i r q == number b (k + 1) g s p) (among (number b (k + 1) g s p) (numbers b (k + 1) xs)) m) [
      | inl same ↦ or_left (is_piece g s p (Piece v i r q)) (list_any (is_piece g s p) xs)
          (by (is_of g s p parts.0) (is_of i r q there.0) (eqb-true (number b (k + 1) i r q) (number b (k + 1) g s p) same))
      | inr later ↦ or_right (is_piece g s p (Piece v i r q)) (list_any (is_piece g s p) xs)
          (number_of b k u g s p xs (and_from (nat_le g k && nat_lt s b && nat_le p k) (list_all (is_below b k) xs) parts.0 there.1) later)
    ]
  where
    is_of : (g s p : ℕ) → nat_le g k && nat_lt s b && nat_le p k ≡ true → (s < b) × (p < k + 1)
    is_of g s p e = let two = and_parts (nat_le g k && nat_lt s b) (nat_le p k) e in let le = leb-true p k two.1 in (ltb-true s b (and_parts (nat_le g k) (nat_lt s b) two.0).1, omega (arith, le))

    by : (s < b) × (p < k + 1) → (r < b) × (q < k + 1) → number b (k + 1) i r q ≡ number b (k + 1) g s p → (i == g) && (r == s) && (q == p) ≡ true
    by here there e = let outer = digits (k + 1) (i * b + r) q (g * b + s) p there.1 here.1 e in let inner = digits b i r g s there.0 here.0 outer.0 in
        and_from ((i == g) && (r == s)) (q == p) (and_from (i == g) (r == s) (eq-eqb i g inner.0) (eq-eqb r s inner.1)) (eq-eqb q p outer.1)
number_of b k u g s p (Settled j i r ∷ xs) h m = number_of b k u g s p xs h m
number_of b k u g s p (Blank ∷ xs) h m = number_of b k u g s p xs h m

numbers_apart : (b k : ℕ) (xs : List Kind) → each_once b xs ≡ true → list_all (is_below b k) xs ≡ true → apart (numbers b (k + 1) xs) ≡ true
numbers_apart b k [] o h = refl
numbers_apart b k (Piece u g s p ∷ xs) o h = let one = and_parts (nat_lt s b && not (list_any (is_piece g s p) xs)) (each_once b xs) o in
    let new = not-true (list_any (is_piece g s p) xs) (and_parts (nat_lt s b) (not (list_any (is_piece g s p) xs)) one.0).1 in
    and_from (not (among (number b (k + 1) g s p) (numbers b (k + 1) xs))) (apart (numbers b (k + 1) xs))
    (not_from_false (among (number b (k + 1) g s p) (numbers b (k + 1) xs))
    (false_from_ne_true (among (number b (k + 1) g s p) (numbers b (k + 1) xs)) (λ m. true≢false (sym (number_of b k u g s p xs h m) ∙ new))))
    (numbers_apart b k xs one.1 (and_parts (nat_le g k && nat_lt s b && nat_le p k) (list_all (is_below b k) xs) h).1)
numbers_apart b k (Settled j g s ∷ xs) o h = numbers_apart b k xs o h
numbers_apart b k (Blank ∷ xs) o h = absurd (false≢true o)

-- ---- both

pieces_and_marks : (b e : ℕ) (xs : List Kind) → each_once b xs ≡ true → length xs ≡ length (numbers b e xs) + length (marks_of xs)
pieces_and_marks b e [] o = refl
pieces_and_marks b e (Piece u g s p ∷ xs) o = let rest = pieces_and_marks b e xs (and_parts (nat_lt s b && not (list_any (is_piece g s p) xs)) (each_once b xs) o).1 in omega (arith, rest)
pieces_and_marks b e (Settled k g s ∷ xs) o = let rest = pieces_and_marks b e xs o in omega (arith, rest)
pieces_and_marks b e (Blank ∷ xs) o = absurd (false≢true o)

count_low : (f : Edit → Bool) (edits : List Edit) (k : ℕ) → count_where f edits k ≤ k
count_low f edits zero = omega arith
count_low f edits (suc k) = by (holds_at f edits k) (count_low f edits k)
  where
    by : (b : Bool) → count_where f edits k ≤ k → (if b then suc (count_where f edits k) else count_where f edits k) ≤ suc k
    by true h = omega (arith, h)
    by false h = omega (arith, h)

all_below : (session : Session) (edits : List Edit) (t k b : ℕ) (xs : List Kind) → k ≤ length edits → list_all (is_from session edits t k) xs ≡ true → each_once b xs ≡ true →
    list_all (is_below b (length edits)) xs ≡ true
all_below session edits t k b [] le h o = refl
all_below session edits t k b (Piece u g s p ∷ xs) le h o = let parts =
    and_parts (nat_le g (generation edits k) && nat_le p (playlist_edition session edits t k)) (list_all (is_from session edits t k) xs) h in
    let two = and_parts (nat_le g (generation edits k)) (nat_le p (playlist_edition session edits t k)) parts.0 in
    let one = and_parts (nat_lt s b && not (list_any (is_piece g s p) xs)) (each_once b xs) o in
    and_from (nat_le g (length edits) && nat_lt s b && nat_le p (length edits)) (list_all (is_below b (length edits)) xs)
    (and_from (nat_le g (length edits) && nat_lt s b) (nat_le p (length edits))
    (and_from (nat_le g (length edits)) (nat_lt s b)
    (le-leb g (length edits) (le_trans (le_trans (leb-true g (generation edits k) two.0) (count_low starts edits k)) le))
    (and_parts (nat_lt s b) (not (list_any (is_piece g s p) xs)) one.0).0)
    (le-leb p (length edits) (le_trans (le_trans (leb-true p (playlist_edition session edits t k) two.1) (last_low (touches session t) edits k)) le)))
    (all_below session edits t k b xs le parts.1 one.1)
all_below session edits t k b (Settled j g s ∷ xs) le h o =
    all_below session edits t k b xs le (and_parts (nat_le g (generation edits k) && nat_le j k) (list_all (is_from session edits t k) xs) h).1 o
all_below session edits t k b (Blank ∷ xs) le h o = absurd (false≢true o)

marks_from : (session : Session) (edits : List Edit) (t k : ℕ) (xs : List Kind) → list_all (is_from session edits t k) xs ≡ true → list_all (λ j. nat_lt j (k + 1)) (marks_of xs) ≡ true
marks_from session edits t k [] h = refl
marks_from session edits t k (Piece u g s p ∷ xs) h =
    marks_from session edits t k xs (and_parts (nat_le g (generation edits k) && nat_le p (playlist_edition session edits t k)) (list_all (is_from session edits t k) xs) h).1
marks_from session edits t k (Settled j g s ∷ xs) h = let parts = and_parts (nat_le g (generation edits k) && nat_le j k) (list_all (is_from session edits t k) xs) h in
    and_from (nat_lt j (k + 1)) (list_all (λ n. nat_lt n (k + 1)) (marks_of xs)) (lt-ltb j (k + 1) (more (leb-true j k (and_parts (nat_le g (generation edits k)) (nat_le j k) parts.0).1)))
    (marks_from session edits t k xs parts.1)
  where
    more : j ≤ k → j < k + 1
    more le = omega (arith, le)
marks_from session edits t k (Blank ∷ xs) h = marks_from session edits t k xs (and_parts true (list_all (is_from session edits t k) xs) h).1

pub few_sent : (session : Session) (edits : List Edit) (cycles t k : ℕ) (xs : List Kind) → Kept session edits t k xs → each_once cycles xs ≡ true →
    length xs ≤ (length edits + 1) * cycles * (length edits + 1) + (length edits + 1)
few_sent session edits cycles t k xs keep o = let n : ℕ = length edits in let low = all_below session edits t k cycles xs keep.entered keep.from o in
    by (pieces_and_marks cycles (n + 1) xs o) (pigeons ((n + 1) * cycles * (n + 1)) (numbers cycles (n + 1) xs) (numbers_apart cycles n xs o low) (numbers_low cycles n xs low))
    (few_marks session edits t (k + 1) xs keep.in_order (marks_from session edits t k xs keep.from)) keep.entered
  where
    by : length xs ≡ length (numbers cycles (length edits + 1) xs) + length (marks_of xs) → length (numbers cycles (length edits + 1) xs) ≤ (length edits + 1) * cycles * (length edits + 1) →
        length (marks_of xs) ≤ k + 1 → k ≤ length edits → length xs ≤ (length edits + 1) * cycles * (length edits + 1) + (length edits + 1)
    by both pieces marks le = add_bound (length xs) (length (numbers cycles (length edits + 1) xs)) (length (marks_of xs)) ((length edits + 1) * cycles * (length edits + 1)) (length edits + 1)
        both pieces (omega (arith, marks, le))
      where
        add_bound : (l a m p q : ℕ) → l ≡ a + m → a ≤ p → m ≤ q → l ≤ p + q
        add_bound l a m p q e x y = omega (arith, e, x, y)
