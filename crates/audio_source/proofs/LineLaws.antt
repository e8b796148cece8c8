-- Frames that lie in one line or in two.
use Rattle.std.proofs.Common.{◌≡◌, ℕ, ◌+◌, ◌-◌, ◌*◌, ◌/◌, ◌%◌, min, ◌≤◌, ◌<◌, ◌⊎◌, inl, inr, Bool, true, false, ◌||◌, cond, refl, ap, arith, ◌∙◌, sym, subst, List, [], ◌∷◌, ◌++◌, length, take, drop, Some, None, IfSome, append-nil}
use Rattle.std.specs.Prelude.{ℤ, All, Contains}
use Rattle.std.specs.Map.{keys_of, lookup}
use Rattle.std.proofs.Math.Nat.{mul-mod_left}
use Rattle.std.proofs.lemmas.Bool.{cases_lt}
use Rattle.std.proofs.lemmas.Nat.{div-mul-add}
use Rattle.std.proofs.lemmas.List.{take_at, drop_all, length-drop}
use Rattle.std.proofs.lemmas.List.Elements.{All-head, All-tail, All-weaker, All-contains}
use borrow.Rule.Slice.PartMut.{post_of}
use Rattle.session_model.specs.Frames.{interleaved}
use Rattle.audio_source.specs.declared.line.LineName.{LineName}
use Rattle.audio_source.specs.Lines.{same_line, is_held, after_asking, IsFaultAt}
use Rattle.audio_source.specs.Slots.{StaysHeld, IsMissed}
use Rattle.audio_source.proofs.PieceLaws.{is_same}
use Rattle.audio_source.proofs.StretchLaws.{interleaved-append}

-- ---- lines that were held or read

pub after_more : (before rest names : List LineName) → after_asking (before ++ rest) names ≡ after_asking rest (after_asking before names)
after_more [] rest names = refl
after_more (line ∷ before) rest names = after_more before rest _

abbrev Line : Type 0
Line = LineName × List ℤ

-- what holds of all lines holds of the one that is found
pub found_holds : (P : LineName × List ℤ → Type 0) (name : LineName) (held : List (LineName × List ℤ)) → All P held → IfSome (lookup (same_line name) held) (λ samples. P (name, samples))
found_holds P name [] all = tt
found_holds P name (l ∷ ls) all = go (found_holds P name ls (All-tail P l ls all)) (same_line name l.0) refl
  where
    go : IfSome (lookup (same_line name) ls) (λ samples. P (name, samples)) → (b : Bool) → same_line name l.0 ≡ b → IfSome (cond b (Some l.1) (lookup (same_line name) ls)) (λ samples. P (name, samples))
    go later true t = subst (λ n. P (n, l.1)) (sym (is_same name l.0 t)) (All-head P l ls all)
    go later false t = later

pub none_held : (name : LineName) (held : List (LineName × List ℤ)) → lookup (same_line name) held ≡ None → is_held name (keys_of held) ≡ false
none_held name [] none = refl
none_held name (l ∷ ls) none = go (none_held name ls) (same_line name l.0) none
  where
    go : (lookup (same_line name) ls ≡ None → is_held name (keys_of ls) ≡ false) → (b : Bool) → cond b (Some l.1) (lookup (same_line name) ls) ≡ None → (b || is_held name (keys_of ls)) ≡ false
    go later true n = absurd cc
    go later false n = later n

module _ (R : LineName × List ℤ → Type 0) where
  pub stays_once : (name : LineName) (Q : List ℤ → Type 0) (old new : List (LineName × List ℤ)) → StaysHeld name Q old new → ((s : List ℤ) → Q s → R (name, s)) → All (λ l. Contains old l ⊎ R l) new
  stays_once name Q old new stays read = All-weaker (λ l. Contains old l ⊎ ((l.0 ≡ name) × Q l.1)) (λ l. Contains old l ⊎ R l) (λ l is. by l is) new stays
    where
      by : (l : LineName × List ℤ) → Contains old l ⊎ ((l.0 ≡ name) × Q l.1) → Contains old l ⊎ R l
      by l (inl there) = inl there
      by l (inr is) = inr (subst (λ n. R (n, l.1)) (sym is.0) (read l.1 is.1))

  pub stays_twice : (old mid new : List (LineName × List ℤ)) → All (λ l. Contains old l ⊎ R l) mid → All (λ l. Contains mid l ⊎ R l) new → All (λ l. Contains old l ⊎ R l) new
  stays_twice old mid new first second = All-weaker (λ l. Contains mid l ⊎ R l) (λ l. Contains old l ⊎ R l) (λ l is. by l is) new second
    where
      by : (l : LineName × List ℤ) → Contains mid l ⊎ R l → Contains old l ⊎ R l
      by l (inl there) = All-contains (λ x. Contains old x ⊎ R x) mid l first there
      by l (inr r) = inr r

  -- so what holds of all that were held, and of what is read, holds of all
  pub holds_still : (P : LineName × List ℤ → Type 0) (old new : List (LineName × List ℤ)) → All P old → ((l : LineName × List ℤ) → R l → P l) → All (λ l. Contains old l ⊎ R l) new → All P new
  holds_still P old new was read stays = All-weaker (λ l. Contains old l ⊎ R l) P (λ l is. by l is) new stays
    where
      by : (l : LineName × List ℤ) → Contains old l ⊎ R l → P l
      by l (inl there) = All-contains P old l was there
      by l (inr r) = read l r

-- ---- faults

pub fault_first : (name : LineName) (frames many : ℕ) (old new : List (LineName × List ℤ)) (asked second : List LineName) → IsMissed name frames many old new → asked ≡ name ∷ [] →
    IsFaultAt (asked ++ second) (keys_of old) (keys_of new)
fault_first name frames many old new asked second is e = record {
  before = [];
  line = name;
  rest = second;
  asked = ap (λ l. l ++ second) e;
  missed = ap (λ l. is_held name (keys_of l)) is.same ∙ none_held name old is.missed;
  kept = ap keys_of is.same;
}

pub fault_second : (name : LineName) (frames many : ℕ) (old mid new : List (LineName × List ℤ)) (first asked : List LineName) → IsMissed name frames many mid new → asked ≡ name ∷ [] →
    keys_of mid ≡ after_asking first (keys_of old) → IsFaultAt (first ++ asked) (keys_of old) (keys_of new)
fault_second name frames many old mid new first asked is e after = record {
  before = first;
  line = name;
  rest = [];
  asked = ap (λ l. first ++ l) e;
  missed = ap (λ l. is_held name (keys_of l)) is.same ∙ none_held name mid is.missed;
  kept = ap keys_of is.same ∙ after;
}

-- ---- samples of both lines

-- What is known of the place where the first line ends.
pub record IsSplit (channels from long split : ℕ) : Type 0 where
  pub low : 1 ≤ channels
  pub whole : long % channels ≡ 0
  pub few : long ≤ 4096 * channels
  pub at : split ≡ min long (4096 * channels - from % 4096 * channels)

module _ (channels from long split : ℕ) (is : IsSplit channels from long split) where
  abbrev skip : ℕ
  skip = from % 4096 * channels

  abbrev left : ℕ
  left = 4096 - from % 4096

  rest : 4096 * channels ≡ skip + left * channels
  rest = let d = left in let sum : 4096 ≡ from % 4096 + d = omega arith in ap (λ n. n * channels) sum ∙ grind arith

  pub skip_whole : skip % channels ≡ 0
  skip_whole = mul-mod_left (from % 4096) channels

  pub skip_inside : skip + split ≤ 4096 * channels
  skip_inside = omega (arith, is.at, rest)

  pub split_inside : split ≤ long
  split_inside = omega (arith, is.at)

  quotient : (n : ℕ) → n * channels / channels ≡ n
  quotient n = ap (λ m. m / channels) (omega arith) ∙ div-mul-add n channels 0 is.low

  pub first_from : 4096 * (from / 4096) + skip / channels ≡ from
  first_from = omega (arith, quotient (from % 4096))

  -- the first line ends with the samples, or they go on at the next line
  ends : (split ≡ long) ⊎ (split ≡ left * channels)
  ends = by (cases_lt (left * channels) long)
    where
      by : (left * channels < long) ⊎ (long ≤ left * channels) → (split ≡ long) ⊎ (split ≡ left * channels)
      by (inl more) = inr (omega (arith, is.at, rest))
      by (inr all) = inl (omega (arith, is.at, rest))

  split_whole : split % channels ≡ 0
  split_whole = by ends
    where
      by : (split ≡ long) ⊎ (split ≡ left * channels) → split % channels ≡ 0
      by (inl e) = ap (λ n. n % channels) e ∙ is.whole
      by (inr e) = ap (λ n. n % channels) e ∙ mul-mod_left left channels

  second_from : (f : ℕ → ℕ → ℤ) → interleaved f channels (4096 * (from / 4096 + 1) + 0 / channels) (long - split) ≡ interleaved f channels (from + split / channels) (long - split)
  second_from f = by ends
    where
      zero_of : 0 / channels ≡ 0
      zero_of = ap (λ m. m / channels) (omega arith) ∙ quotient 0

      by : (split ≡ long) ⊎ (split ≡ left * channels) → interleaved f channels (4096 * (from / 4096 + 1) + 0 / channels) (long - split) ≡ interleaved f channels (from + split / channels) (long - split)
      by (inl e) = let none : long - split ≡ 0 = omega arith in
          ap (interleaved f channels (4096 * (from / 4096 + 1) + 0 / channels)) none ∙ sym (ap (interleaved f channels (from + split / channels)) none)
      by (inr e) = let over : split / channels ≡ left = ap (λ m. m / channels) e ∙ quotient left in
          ap (λ m. interleaved f channels m (long - split)) (omega (arith, over, zero_of))

  -- what was written is the frames of both
  pub both_lines : (f : ℕ → ℕ → ℤ) (out one two : List ℤ) → length out ≡ long → length one ≡ split → one ≡ interleaved f channels (4096 * (from / 4096) + skip / channels) split →
      two ≡ interleaved f channels (4096 * (from / 4096 + 1) + 0 / channels) (long - split) → one ++ two ≡ interleaved f channels from long
  both_lines f out one two all long_one is_one is_two =
      ap (λ l. l ++ two) (is_one ∙ ap (λ m. interleaved f channels m split) first_from) ∙ ap (λ l. interleaved f channels from split ++ l) (is_two ∙ second_from f)
      ∙ interleaved-append f channels from split (long - split) is.low split_whole ∙ ap (interleaved f channels from) (omega (arith, split_inside))

-- the two parts, as they are written
pub both_written : {A : Type 0} (split n : ℕ) (out one two : List A) → split ≤ length out → length one ≡ split → n ≡ length (one ++ drop split out) →
    take split (one ++ drop split out) ++ (two ++ post_of split (n - split) (one ++ drop split out)) ≡ one ++ two
both_written split n out one two inside long e =
    ap (λ l. l ++ (two ++ post_of split (n - split) (one ++ drop split out))) (take_at one (drop split out) split long)
    ∙ ap (λ l. one ++ (two ++ l)) (drop_all (n - split) (drop split (one ++ drop split out)) (omega (arith, length-drop split (one ++ drop split out), e)))
    ∙ ap (λ l. one ++ l) (append-nil two)
