-- Four samples of 24 bits in four lanes of 32.
use Rattle.std.proofs.Common.{◌≡◌, ℕ, suc, ◌+◌, ◌-◌, ◌*◌, ◌/◌, ◌%◌, ◌<◌, ◌≤◌, ℤ, pos, negsuc, refl, sym, ap, ◌∙◌, ⊎_elim, arith, rules, w32, to_z, of_z, FitsSigned, List, [], ◌∷◌, get_or, drop, take, length, ◌++◌, replicate, zero}
use Rattle.std.specs.Int.Signed.{shr_z}
use Rattle.std.proofs.lemmas.Int.{to_z-of_z}
use Rattle.std.proofs.lemmas.Bool.{cases_lt, lt-ltb, le-ltb}
use Rattle.std.proofs.lemmas.List.{get_or-drop, get_or-take, get_or-append_right, get_or_append_left, get_or_past, length-take, length-take-le, length-drop}
use Rattle.sound_model.specs.Numbers.{number, signed, sample_at}

fits_pos : (a : ℕ) → a < 2147483648 → FitsSigned w32 (pos a)
fits_pos a h = search rules

fits_neg : (a : ℕ) → a < 2147483648 → FitsSigned w32 (negsuc a)
fits_neg a h = search rules

below : (n : ℕ) → n < 8388608 → to_z w32 (of_z w32 (shr_z (to_z w32 (256 * n)) 256)) ≡ pos n
below n h =
    let same : 256 * n / 256 ≡ n = omega arith in
    ap (λ z. to_z w32 (of_z w32 (shr_z z 256))) (to_z-of_z w32 (pos (256 * n)) (fits_pos (256 * n) (omega arith)))
    ∙ to_z-of_z w32 (pos (256 * n / 256)) (fits_pos (256 * n / 256) (omega arith)) ∙ ap pos same

above : (n k : ℕ) → n < 16777216 → 8388608 ≤ n → 256 * n ≡ 4294967296 - suc k → k < 2147483648 → to_z w32 (of_z w32 (shr_z (to_z w32 (256 * n)) 256)) ≡ negsuc (16777216 - suc n)
above n k h l e b =
    let same : k / 256 ≡ 16777216 - suc n = omega (arith, e) in
    ap (λ m. to_z w32 (of_z w32 (shr_z (to_z w32 m) 256))) e
    ∙ ap (λ z. to_z w32 (of_z w32 (shr_z z 256))) (to_z-of_z w32 (negsuc k) (fits_neg k b))
    ∙ to_z-of_z w32 (negsuc (k / 256)) (fits_neg (k / 256) (omega arith)) ∙ ap negsuc same

pub value : (n : ℕ) → n < 16777216 → to_z w32 (of_z w32 (shr_z (to_z w32 (256 * n)) 256)) ≡ signed 24 n
value n h = ⊎_elim (λ low. rw (lt-ltb n 8388608 low) (below n low))
    (λ high. rw (le-ltb n 8388608 high) (above n (4294967295 - 256 * n) h high (omega arith) (omega arith))) (cases_lt n 8388608)

pub low : (z l m h n : ℕ) → z ≡ 0 → l < 256 → m < 256 → h < 256 → (z + 256 * (l + 256 * (m + 256 * (h + 256 * n)))) % 4294967296 ≡ 256 * (l + 256 * m + 65536 * h)
low z l m h n e a b c = omega (arith, e)

pub high : (z l m h n : ℕ) → z ≡ 0 → l < 256 → m < 256 → h < 256 → (z + 256 * (l + 256 * (m + 256 * (h + 256 * n)))) / 4294967296 ≡ n
high z l m h n e a b c = omega (arith, e)

-- ---- four lanes of a wide number

abbrev lane : ℕ → ℤ
lane x = to_z w32 (of_z w32 (shr_z (to_z w32 x) 256))

abbrev wide : ℕ → ℕ → ℕ → ℕ → ℕ → ℕ
wide z l m h n = z + 256 * (l + 256 * (m + 256 * (h + 256 * n)))

lane_is : (z l m h n x : ℕ) → x ≡ wide z l m h n → z ≡ 0 → l < 256 → m < 256 → h < 256 → lane (x % 4294967296) ≡ signed 24 (l + 256 * m + 65536 * h)
lane_is z l m h n x is e a b c = ap (λ y. lane (y % 4294967296)) is ∙ ap lane (low z l m h n e a b c) ∙ value (l + 256 * m + 65536 * h) (omega arith)

-- ---- bytes of a piece, with zeros after it

byte_at : (xs zeros : List ℕ) (at i k : ℕ) → k ≡ at + i → i < 16 → at + 16 ≤ length xs → get_or (take 16 (drop at xs) ++ zeros) i 0 ≡ get_or xs k 0
byte_at xs zeros at i k e h long =
    let whole : length (take 16 (drop at xs)) ≡ 16 = length-take-le 16 (drop at xs) (omega (arith, length-drop at xs)) in
    get_or_append_left (take 16 (drop at xs)) zeros 0 i (omega (arith, whole))
    ∙ get_or-take 16 (drop at xs) i 0 h ∙ get_or-drop at xs i 0 ∙ ap (λ j. get_or xs j 0) (sym e)

pub zero_at : (xs zeros : List ℕ) (at : ℕ) → at + 16 ≤ length xs → get_or (take 16 (drop at xs) ++ 0 ∷ zeros) 16 0 ≡ 0
zero_at xs zeros at long =
    let whole : length (take 16 (drop at xs)) ≡ 16 = length-take-le 16 (drop at xs) (omega (arith, length-drop at xs)) in
    get_or-append_right (take 16 (drop at xs)) (0 ∷ zeros) 16 16 0 whole (omega arith)

number_is : (xs : List ℕ) → number 3 xs ≡ get_or xs 0 0 + 256 * get_or xs 1 0 + 65536 * get_or xs 2 0
number_is xs = omega arith

-- the sample whose bytes stand from place i of the piece on
pub three_is : (xs zeros : List ℕ) (at i j h k : ℕ) → k ≡ at + i → j ≡ i + 1 → h ≡ i + 2 → h < 16 → at + 16 ≤ length xs →
    signed 24 (get_or (take 16 (drop at xs) ++ zeros) i 0 + 256 * get_or (take 16 (drop at xs) ++ zeros) j 0 + 65536 * get_or (take 16 (drop at xs) ++ zeros) h 0) ≡ sample_at 24 (drop k xs)
three_is xs zeros at i j h k e f g low long = ap (signed 24) (omega (
  arith,
  number_is (drop k xs),
  byte_at xs zeros at i (k + 0) (omega (arith, e)) (omega (arith, low, g)) long,
  byte_at xs zeros at j (k + 1) (omega (arith, e, f)) (omega (arith, low, f, g)) long,
  byte_at xs zeros at h (k + 2) (omega (arith, e, g)) low long,
  get_or-drop k xs 0 0,
  get_or-drop k xs 1 0,
  get_or-drop k xs 2 0,
))

pub four_are : (b : ℕ → ℕ) (z : ℕ) → z ≡ 0 → ((i : ℕ) → b i < 256) → (x : ℕ) →
    x ≡ wide z (b 0) (b 1) (b 2) (wide z (b 3) (b 4) (b 5) (wide z (b 6) (b 7) (b 8) (wide z (b 9) (b 10) (b 11) 0))) →
    lane (x % 4294967296) ∷ lane (x / 4294967296 % 4294967296) ∷ lane (x / 4294967296 / 4294967296 % 4294967296) ∷ lane (x / 4294967296 / 4294967296 / 4294967296 % 4294967296) ∷ []
    ≡ signed 24 (b 0 + 256 * b 1 + 65536 * b 2) ∷ signed 24 (b 3 + 256 * b 4 + 65536 * b 5) ∷ signed 24 (b 6 + 256 * b 7 + 65536 * b 8) ∷ signed 24 (b 9 + 256 * b 10 + 65536 * b 11) ∷ []
four_are b z e small x is =
    rw (
      lane_is z (b 0) (b 1) (b 2) (wide z (b 3) (b 4) (b 5) (wide z (b 6) (b 7) (b 8) (wide z (b 9) (b 10) (b 11) 0))) x is e (small 0) (small 1) (small 2),
      lane_is z (b 3) (b 4) (b 5) (wide z (b 6) (b 7) (b 8) (wide z (b 9) (b 10) (b 11) 0)) (x / 4294967296) first e (small 3) (small 4) (small 5),
      lane_is z (b 6) (b 7) (b 8) (wide z (b 9) (b 10) (b 11) 0) (x / 4294967296 / 4294967296) second e (small 6) (small 7) (small 8),
      lane_is z (b 9) (b 10) (b 11) 0 (x / 4294967296 / 4294967296 / 4294967296) third e (small 9) (small 10) (small 11),
    ) refl
  where
    first : x / 4294967296 ≡ wide z (b 3) (b 4) (b 5) (wide z (b 6) (b 7) (b 8) (wide z (b 9) (b 10) (b 11) 0))
    first = ap (λ y. y / 4294967296) is ∙ high z (b 0) (b 1) (b 2) _ e (small 0) (small 1) (small 2)

    second : x / 4294967296 / 4294967296 ≡ wide z (b 6) (b 7) (b 8) (wide z (b 9) (b 10) (b 11) 0)
    second = ap (λ y. y / 4294967296) first ∙ high z (b 3) (b 4) (b 5) _ e (small 3) (small 4) (small 5)

    third : x / 4294967296 / 4294967296 / 4294967296 ≡ wide z (b 9) (b 10) (b 11) 0
    third = ap (λ y. y / 4294967296) second ∙ high z (b 6) (b 7) (b 8) _ e (small 6) (small 7) (small 8)

-- bytes stay bytes in a piece with bytes after it
pub piece_is_small : (xs zeros : List ℕ) (at : ℕ) → ((i : ℕ) → get_or xs i 0 < 256) → ((i : ℕ) → get_or zeros i 0 < 256) → (i : ℕ) → get_or (take 16 (drop at xs) ++ zeros) i 0 < 256
piece_is_small xs zeros at few none i = ⊎_elim
    (λ here. omega (arith, get_or_append_left (take 16 (drop at xs)) zeros 0 i here, taken))
    (λ after. omega (arith, get_or-append_right (take 16 (drop at xs)) zeros (length (take 16 (drop at xs))) i 0 refl after, none (i - length (take 16 (drop at xs)))))
    (cases_lt i (length (take 16 (drop at xs))))
  where
    taken : get_or (take 16 (drop at xs)) i 0 < 256
    taken = ⊎_elim (λ low. omega (arith, get_or-take 16 (drop at xs) i 0 low, get_or-drop at xs i 0, few (at + i)))
        (λ far. omega (arith, past far)) (cases_lt i 16)
      where
        past : 16 ≤ i → get_or (take 16 (drop at xs)) i 0 ≡ 0
        past far = get_or_past (take 16 (drop at xs)) i 0 (omega (arith, length-take 16 (drop at xs)))

pub zeros_are : (n i : ℕ) → let none : ℕ = 0 in get_or (replicate n none) i none ≡ none
zeros_are zero i = refl
zeros_are (suc n) zero = refl
zeros_are (suc n) (suc i) = zeros_are n i
