-- The names of take files: no two takes have one name, and each begins as all of them do.
use Rattle.std.proofs.Common.{◌≡◌, inl, inr, ℕ, zero, suc, ◌+◌, ◌*◌, ◌/◌, ◌%◌, ◌^◌, ◌≤◌, ◌<◌, Bool, true, false, ◌&&◌, cond, eqb, List, [], ◌∷◌, ◌++◌, length, map, decimal, Option, Some, None, refl, sym, ap, ◌∙◌, append_assoc, arith}
use Rattle.std.specs.Prelude.{codes, nat_eq, nat_le, slice_get, slice_index, slice_index_or, IsSome, IsTrue}
use Rattle.std.specs.List.{list_all, starts_with}
use Rattle.std.specs.Option.{option_map_or}
use Rattle.std.specs.Str.{bytes_eq}
use Rattle.std.specs.Fmt.{digits_onto, digit_glyph}
use Rattle.std.specs.Str.Parse.{digits_value}
use Rattle.std.proofs.Math.Nat.{pow-succ'}
use Rattle.std.proofs.Math.Seq.{take-append_seam}
use Rattle.std.proofs.lemmas.Bool.{and_parts, cases_lt, cases_order, eqb-true, eqb-false, false≢true}
use Rattle.std.proofs.lemmas.Fmt.{decimal_is_IsNumeral_wide, length-decimal-le}
use Rattle.std.proofs.lemmas.List.{append_cancel_left, append_cancel_right, length-map}
use Rattle.std.proofs.DigitsParse.{digits_onto-nil}
use Rattle.ses_units.specs.Name.{is_letter, is_name, is_name_byte}
use Rattle.ses_io.proofs.Files.{bytes_eq-same}
use Rattle.session_model.specs.declared.route.Route.{Route}
use Rattle.session_model.specs.declared.session.Session.{Session}
use Rattle.session_model.specs.Valid.{IsValid}
use Rattle.engine_model.specs.Takes.{route_name, take_name}
use Rattle.capture_flush.specs.Flushed.{Tape, IsFresh}
use Rattle.capture_flush.specs.Laws.{HasNamedTracks}

-- ---- numbers; a text has at most 64 digits, so those from 10 ^ 64 on share theirs

by_test : {A : Type 0} (P : A → Type 0) (b : Bool) (x y : A) → (b ≡ true → P x) → (b ≡ false → P y) → P (cond b x y)
by_test P true x y here there = here refl
by_test P false x y here there = there refl

tens : (k n : ℕ) → 10 ^ k ≤ n → 10 ≤ n → 10 ^ k ≤ n / 10 * 10
tens zero n low ten = omega arith
tens (suc k) n low ten = omega (arith, pow-succ' 10 k)

one : (k n : ℕ) → 10 ^ k ≤ n → n < 10 → k ≡ 0
one zero n low ten = refl
one (suc k) n low ten = absurd (omega (arith, pow-succ' 10 k, some k))
  where
    some : (k : ℕ) → 1 ≤ 10 ^ k
    some zero = omega arith
    some (suc k) = omega (arith, pow-succ' 10 k, some k)

-- a number that is large enough fills all the digits
filled : (k n : ℕ) (acc : List ℕ) → 10 ^ k ≤ n * 10 → length (digits_onto k 10 false n acc) ≡ k + length acc
filled zero n acc large = omega arith
filled (suc k) n acc large = let low : 10 ^ k ≤ n = omega (arith, pow-succ' 10 k) in
    by_test (λ l. length l ≡ suc k + length acc) (eqb (n / 10) 0) (digit_glyph false (n % 10) ∷ acc) (digits_onto k 10 false (n / 10) (digit_glyph false (n % 10) ∷ acc))
    (λ last. let same = eqb-true (n / 10) 0 last in let none : k ≡ 0 = one k n low (omega arith) in omega arith)
    (λ more. filled k (n / 10) (digit_glyph false (n % 10) ∷ acc) (tens k n low (omega (arith, eqb-false (n / 10) 0 more))) ∙ omega arith)

decimal_same : (n m : ℕ) → n < 2 ^ 64 → decimal n ≡ decimal m → n ≡ m
decimal_same n m small same = elim (cases_lt m (10 ^ 64)) [
  | inl less ↦ sym (decimal_is_IsNumeral_wide n (omega arith)).1 ∙ ap (digits_value 10) same ∙ (decimal_is_IsNumeral_wide m less).1
  | inr large ↦ absurd (omega (arith, long large, length-decimal-le 20 n (omega arith) (omega arith) small, ap length same))
]
  where
    long : 10 ^ 64 ≤ m → length (decimal m) ≡ 64
    long large = ap length (sym (digits_onto-nil 10 false m)) ∙ filled 64 m [] (omega arith)

-- two numbers with one text, so a take's name tells its number only where one of the two is small
shared_text : decimal (10 ^ 64) ≡ decimal (2 * 10 ^ 64)
shared_text = sym (digits_onto-nil 10 false (10 ^ 64)) ∙ digits_onto-nil 10 false (2 * 10 ^ 64)

-- ---- the bytes of a name

no_dash : (b : ℕ) → is_name_byte b ≡ true → 45 ≡ b → ⊥
no_dash b is same = false≢true (ap is_name_byte same ∙ is)

-- a byte that no name has parts two texts in one way
parted : (xs ys us vs : List ℕ) → list_all is_name_byte xs ≡ true → list_all is_name_byte ys ≡ true → xs ++ 45 ∷ us ≡ ys ++ 45 ∷ vs → (xs ≡ ys) × (us ≡ vs)
parted [] [] us vs p q same = (refl, cc)
parted [] (y ∷ ys) us vs p q same = let dash : 45 ≡ y = cc in absurd (no_dash y (and_parts (is_name_byte y) (list_all is_name_byte ys) q).0 dash)
parted (x ∷ xs) [] us vs p q same = let dash : 45 ≡ x = cc in absurd (no_dash x (and_parts (is_name_byte x) (list_all is_name_byte xs) p).0 dash)
parted (x ∷ xs) (y ∷ ys) us vs p q same = let first : x ≡ y = cc in let others : xs ++ 45 ∷ us ≡ ys ++ 45 ∷ vs = cc in
    let rest = parted xs ys us vs (and_parts (is_name_byte x) (list_all is_name_byte xs) p).1 (and_parts (is_name_byte y) (list_all is_name_byte ys) q).1 others in
    ((λ i. first i ∷ rest.0 i), rest.1)

name_bytes : (name : List ℕ) → IsTrue (is_name name) → list_all is_name_byte name ≡ true
name_bytes name is = (and_parts (nat_le 1 (length name) && nat_le (length name) 24 && is_letter (slice_index name 0)) (list_all is_name_byte name) is).1

-- ---- take files

abbrev name_end : ℕ → List ℕ
name_end n = decimal n ++ codes ".wav"

grouped : (s : Session) (t n : ℕ) → take_name s t n ≡ (s.takes ++ codes "-") ++ (route_name s t ++ 45 ∷ name_end n)
grouped s t n = simp append_assoc

name_at : (qs : List Route) (t : ℕ) → option_map_or (λ q. q.name) (slice_get qs t) [] ≡ slice_index_or (map (λ q. q.name) qs) t []
name_at [] t = refl
name_at (q ∷ qs) zero = refl
name_at (q ∷ qs) (suc t) = name_at qs t

-- of two tracks the names of their routes are apart
apart : (s : Session) (t u : ℕ) → IsValid s → t < u → u < length s.tracks.items → route_name s t ≡ route_name s u → ⊥
apart s t u valid before lt same = valid.formed.names.routes t u [] before (omega (arith, valid.formed.limits.master, length-map s.routes.items (λ (q : Route). q.name)))
    (sym (name_at s.routes.items t) ∙ same ∙ name_at s.routes.items u)

same_track : (s : Session) (t u : ℕ) → IsValid s → t < length s.tracks.items → u < length s.tracks.items → route_name s t ≡ route_name s u → t ≡ u
same_track s t u valid lt there same = elim (cases_order t u) [
  | inl one ↦ one
  | inr (inl before) ↦ absurd (apart s t u valid before there same)
  | inr (inr behind) ↦ absurd (apart s u t valid behind lt (sym same))
]

-- the number of one take is in range; that of the other may be any
pub names_apart : (s : Session) (t u n m : ℕ) → n < 2 ^ 64 → IsValid s → HasNamedTracks s → t < length s.tracks.items → u < length s.tracks.items → take_name s t n ≡ take_name s u m →
    (t ≡ u) × (n ≡ m)
names_apart s t u n m small valid named lt there same =
    let behind = append_cancel_left (s.takes ++ codes "-") _ _ (sym (grouped s t n) ∙ same ∙ grouped s u m) in
    let parts = parted (route_name s t) (route_name s u) (name_end n) (name_end m) (name_bytes (route_name s t) (named t lt)) (name_bytes (route_name s u) (named u there)) behind in
    (same_track s t u valid lt there parts.0, decimal_same n m small (append_cancel_right (decimal n) (decimal m) (codes ".wav") parts.1))

pub under_prefix : (s : Session) (t n : ℕ) → IsTrue (starts_with nat_eq (take_name s t n) (s.takes ++ codes "-"))
under_prefix s t n = let rest = route_name s t ++ 45 ∷ name_end n in let prefix = s.takes ++ codes "-" in
    ap (λ name. starts_with nat_eq name prefix) (grouped s t n) ∙ ap (bytes_eq prefix) (take-append_seam prefix rest) ∙ bytes_eq-same prefix

-- in a fresh media no take file is there
pub no_take_held : (tape : Tape) (t n : ℕ) → IsFresh tape → tape.held (take_name tape.session t n) ≡ None
no_take_held tape t n fresh = absent (tape.held (take_name tape.session t n)) (λ some. fresh (take_name tape.session t n, some, under_prefix tape.session t n))
  where
    absent : (o : Option (List ℕ)) → (IsSome o → ⊥) → o ≡ None
    absent None none = refl
    absent (Some bytes) none = absurd (none refl)
