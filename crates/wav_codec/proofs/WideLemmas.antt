-- Samples of 24 bits as the low bytes of four, sixteen of them in three vectors.
use Rattle.std.proofs.Common.{◌≡◌, ℕ, suc, ◌+◌, ◌-◌, ◌*◌, ◌/◌, ◌%◌, ◌<◌, ◌≤◌, ℤ, pos, negsuc, refl, sym, ap, ◌∙◌, arith, List, [], ◌∷◌, ◌++◌, length, take, drop, get_or, map}
use Rattle.std.specs.Int.{bytes_low_first}
use Rattle.std.specs.List.{flat_map}
use Rattle.std.specs.Simd.Lanes.{digits_l, put_chunk}
use Rattle.std.proofs.lemmas.Simd.{put_chunk_whole, length-put_chunk}
use Rattle.std.proofs.lemmas.Slice.{take-put_mid}
use borrow.Rule.Slice.PartMut.{put_mid, same_len_mid}
use Rattle.std.proofs.lemmas.Int.{ints}
use Rattle.std.proofs.lemmas.List.{drop-drop, get_or-take, get_or-drop, length-take-le, length-drop}
use Rattle.std.proofs.Math.Seq.{take-add}
use Rattle.sound_model.specs.Numbers.{twos_complement, file_sample}
use Rattle.sound_model.specs.Wav.{sound_bytes}
use Rattle.wav_codec.specs.Samples.{wide_bytes, IsInside}

-- ---- a number of 32 bits in four bytes

-- the first four bytes of lanes that follow one another are those of the first lane
pub lane_bytes : (a r x n : ℕ) → x ≡ a + 4294967296 * r → a < 4294967296 →
    x % 256 ∷ x / 256 % 256 ∷ x / 256 / 256 % 256 ∷ x / 256 / 256 / 256 % 256 ∷ digits_l 256 n (x / 256 / 256 / 256 / 256) ≡ bytes_low_first 0 4 a ++ digits_l 256 n r
lane_bytes a r x n is small =
    let e0 : x % 256 ≡ a % 256 = omega (arith, is) in
    let e1 : x / 256 % 256 ≡ a / 256 % 256 = omega (arith, is) in
    let e2 : x / 256 / 256 % 256 ≡ a / 65536 % 256 = omega (arith, is) in
    let e3 : x / 256 / 256 / 256 % 256 ≡ a / 16777216 % 256 = omega (arith, is, small) in
    let e4 : x / 256 / 256 / 256 / 256 ≡ r = omega (arith, is, small) in
    rw (e0, e1, e2, e3, e4) refl

-- ---- the low three bytes

inside_file : (v : ℤ) → IsInside (file_sample 24 v)
inside_file v = (grind (arith, ints), grind (arith, ints))

low_three : (z : ℤ) → IsInside z → bytes_low_first 0 3 (twos_complement 32 z) ≡ bytes_low_first 0 3 (twos_complement 24 z)
low_three (pos n) h = refl
low_three (negsuc n) h =
    let few : n < 8388608 = omega (arith, ints, h.0) in
    let e0 : (4294967296 - suc n) % 256 ≡ (16777216 - suc n) % 256 = omega (arith, few) in
    let e1 : (4294967296 - suc n) / 256 % 256 ≡ (16777216 - suc n) / 256 % 256 = omega (arith, few) in
    let e2 : (4294967296 - suc n) / 65536 % 256 ≡ (16777216 - suc n) / 65536 % 256 = omega (arith, few) in
    rw (e0, e1, e2) refl

abbrev wide : ℤ → ℕ
wide v = twos_complement 32 (file_sample 24 v)

low_bytes : (vs : List ℤ) → flat_map (λ v. bytes_low_first 0 3 (wide v)) vs ≡ sound_bytes 24 vs
low_bytes [] = refl
low_bytes (v ∷ vs) =
    ap (λ bs. bs ++ flat_map (λ u. bytes_low_first 0 3 (wide u)) vs) (low_three (file_sample 24 v) (inside_file v))
    ∙ ap (λ bs. bytes_low_first 0 3 (twos_complement 24 (file_sample 24 v)) ++ bs) (low_bytes vs)

-- ---- four and sixteen samples

pub four_of : (xs : List ℤ) → length xs ≡ 4 → xs ≡ get_or xs 0 (pos 0) ∷ get_or xs 1 (pos 0) ∷ get_or xs 2 (pos 0) ∷ get_or xs 3 (pos 0) ∷ []
four_of [] e = absurd (omega (arith, e))
four_of (a ∷ []) e = absurd (omega (arith, e))
four_of (a ∷ b ∷ []) e = absurd (omega (arith, e))
four_of (a ∷ b ∷ c ∷ []) e = absurd (omega (arith, e))
four_of (a ∷ b ∷ c ∷ d ∷ []) e = refl
four_of (a ∷ b ∷ c ∷ d ∷ x ∷ xs) e = absurd (omega (arith, e))

pub by_fours : (at : ℕ) (xs : List ℤ) → take 16 (drop at xs) ≡ take 4 (drop at xs) ++ (take 4 (drop (at + 4) xs) ++ (take 4 (drop (at + 8) xs) ++ take 4 (drop (at + 12) xs)))
by_fours at xs =
    take-add 4 12 (drop at xs)
    ∙ ap (λ vs. take 4 (drop at xs) ++ vs) (rest 4 12 at (at + 4) (omega arith)
    ∙ take-add 4 8 (drop (at + 4) xs)
    ∙ ap (λ vs. take 4 (drop (at + 4) xs) ++ vs) (rest 4 8 (at + 4) (at + 8) (omega arith)
    ∙ take-add 4 4 (drop (at + 8) xs)
    ∙ ap (λ vs. take 4 (drop (at + 8) xs) ++ vs) (rest 4 4 (at + 8) (at + 12) (omega arith))))
  where
    rest : (n m i k : ℕ) → k ≡ i + n → take m (drop n (drop i xs)) ≡ take m (drop k xs)
    rest n m i k e = ap (take m) (drop-drop n i xs ∙ ap (λ j. drop j xs) (omega (arith, e)))

pub take_four : (at : ℕ) (xs : List ℤ) → at + 4 ≤ length xs →
    take 4 (drop at xs) ≡ get_or xs at (pos 0) ∷ get_or xs (at + 1) (pos 0) ∷ get_or xs (at + 2) (pos 0) ∷ get_or xs (at + 3) (pos 0) ∷ []
take_four at xs long =
    four_of (take 4 (drop at xs)) (length-take-le 4 (drop at xs) (omega (arith, length-drop at xs, long)))
    ∙ rw (item 0 at (omega arith) (omega arith), item 1 (at + 1) refl (omega arith), item 2 (at + 2) refl (omega arith), item 3 (at + 3) refl (omega arith)) refl
  where
    item : (i k : ℕ) → k ≡ at + i → i < 4 → get_or (take 4 (drop at xs)) i (pos 0) ≡ get_or xs k (pos 0)
    item i k e h = get_or-take 4 (drop at xs) i (pos 0) h ∙ get_or-drop at xs i (pos 0) ∙ ap (λ j. get_or xs j (pos 0)) (sym e)

-- ---- four samples in four lanes of 32 bits

wide_small : (v : ℤ) → wide v < 4294967296
wide_small v = go (file_sample 24 v) (inside_file v)
  where
    go : (z : ℤ) → IsInside z → twos_complement 32 z < 4294967296
    go (pos n) h = omega (arith, ints, h.1)
    go (negsuc n) h = omega arith

pub four_wide_are : (vs : List ℤ) (a b c d : ℤ) (p q r s : ℕ) → vs ≡ a ∷ b ∷ c ∷ d ∷ [] → p ≡ wide a → q ≡ wide b → r ≡ wide c → s ≡ wide d →
    digits_l 256 16 (p + 4294967296 * (q + 4294967296 * (r + 4294967296 * (s + 0)))) ≡ wide_bytes vs
four_wide_are vs a b c d p q r s e ep eq er es =
    rw (e, ep, eq, er, es)
    (lane_bytes (wide a) (wide b + 4294967296 * (wide c + 4294967296 * (wide d + 0))) _ 12 refl (wide_small a)
    ∙ ap (λ bs. bytes_low_first 0 4 (wide a) ++ bs) (lane_bytes (wide b) (wide c + 4294967296 * (wide d + 0)) _ 8 refl (wide_small b)
    ∙ ap (λ bs. bytes_low_first 0 4 (wide b) ++ bs) (lane_bytes (wide c) (wide d + 0) _ 4 refl (wide_small c)
    ∙ ap (λ bs. bytes_low_first 0 4 (wide c) ++ bs) (lane_bytes (wide d) 0 (wide d + 0) 0 (omega arith) (wide_small d)))))

-- ---- sixteen samples, picked out of the four bytes of each

abbrev pick : List ℕ → List ℕ → List ℕ
pick bytes places = map (λ k. get_or bytes k 0) places

abbrev pub picked : List ℕ → List ℕ → List ℕ → List ℕ → List ℕ
picked p q r s = (pick (p ++ q) (0 ∷ 1 ∷ 2 ∷ 4 ∷ 5 ∷ 6 ∷ 8 ∷ 9 ∷ 10 ∷ 12 ∷ 13 ∷ 14 ∷ 16 ∷ 17 ∷ 18 ∷ 20 ∷ []) ++ pick (q ++ r) (5 ∷ 6 ∷ 8 ∷ 9 ∷ 10 ∷ 12 ∷ 13 ∷ 14 ∷ 16 ∷ 17 ∷ 18 ∷ 20 ∷ 21 ∷ 22 ∷ 24 ∷ 25 ∷ [])) ++ pick (r ++ s) (10 ∷ 12 ∷ 13 ∷ 14 ∷ 16 ∷ 17 ∷ 18 ∷ 20 ∷ 21 ∷ 22 ∷ 24 ∷ 25 ∷ 26 ∷ 28 ∷ 29 ∷ 30 ∷ [])

abbrev items : List ℤ → List ℤ
items vs = get_or vs 0 (pos 0) ∷ get_or vs 1 (pos 0) ∷ get_or vs 2 (pos 0) ∷ get_or vs 3 (pos 0) ∷ []

abbrev all : List ℤ → List ℤ → List ℤ → List ℤ → List ℤ
all vs us ws zs = items vs ++ (items us ++ (items ws ++ items zs))

pub sixteen_are : (vs us ws zs : List ℤ) (p q r s : List ℕ) → length vs ≡ 4 → length us ≡ 4 → length ws ≡ 4 → length zs ≡ 4 →
    p ≡ wide_bytes vs → q ≡ wide_bytes us → r ≡ wide_bytes ws → s ≡ wide_bytes zs → picked p q r s ≡ sound_bytes 24 (vs ++ (us ++ (ws ++ zs)))
sixteen_are vs us ws zs p q r s la lb lc ld ep eq er es =
    rw (ep, eq, er, es) (rw (four_of vs la, four_of us lb, four_of ws lc, four_of zs ld) (low_bytes (all vs us ws zs)))

-- ---- a vector of bytes stored

abbrev pub stored : ℕ → ℕ → List ℕ → List ℕ → List ℕ
stored at k out bytes = put_mid at k out (put_chunk 0 (take k (drop at out)) bytes)

chunk_is : (at k : ℕ) (out bytes : List ℕ) → k ≡ 16 → length bytes ≡ 16 → at + 16 ≤ length out → put_chunk 0 (take k (drop at out)) bytes ≡ bytes
chunk_is at k out bytes e long room =
    put_chunk_whole (take k (drop at out)) bytes (length-take-le k (drop at out) (omega (arith, e, length-drop at out, room)) ∙ e ∙ sym long)

pub take-stored : (at k n : ℕ) (out bytes : List ℕ) → k ≡ 16 → length bytes ≡ 16 → at + 16 ≤ length out → n ≡ at + 16 → take n (stored at k out bytes) ≡ take at out ++ bytes
take-stored at k n out bytes e long room end =
    ap (λ ys. take n (put_mid at k out ys)) (chunk_is at k out bytes e long room)
    ∙ take-put_mid at k out bytes n (omega (arith, long, end)) (omega (arith, room))

pub length-stored : (at k : ℕ) (out bytes : List ℕ) → k ≡ 16 → length bytes ≡ 16 → at + 16 ≤ length out → length (stored at k out bytes) ≡ length out
length-stored at k out bytes e long room =
    same_len_mid at k out (put_chunk 0 (take k (drop at out)) bytes) (length-put_chunk 0 (take k (drop at out)) bytes)
