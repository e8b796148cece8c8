-- A file whose first chunk is its format and whose second is its sound: its head is read.
use Rattle.std.proofs.Common.{◌≡◌, ℕ, suc, ◌+◌, ◌-◌, ◌/◌, ◌%◌, ◌≤◌, ◌⊎◌, inl, inr, Bool, true, false, cond, ◌&&◌, ◌||◌, nat_lt, nat_le, refl, ap, arith, ◌∙◌, List, length, drop, Some, None, Ok}
use Rattle.std.specs.Prelude.{codes, not, ◌==◌}
use Rattle.std.proofs.lemmas.Bool.Decides.{nat_tests}
use Rattle.sound_model.specs.Numbers.{number}
use Rattle.sound_model.specs.Wav.{Form, ◌>>=◌, align, begins_at, last_place, stands, size_at, after, extensible, is_pcm, form_of, format_at, head_at, walk, head}
use Rattle.sound_laws.specs.Files.{IsRead}
use Rattle.sound_laws.proofs.WalkLaws.{walk-data, walk-goes_on}

-- what stands in a file with a format of n bytes and then so many bytes of data
pub record Stands (b : List ℕ) (form : Form) (n bytes : ℕ) : Type 0 where
  pub riff : begins_at b 0 (codes "RIFF") ≡ true
  pub wave : begins_at b 8 (codes "WAVE") ≡ true
  pub format : begins_at b 12 (codes "fmt ") ≡ true
  pub no_data : begins_at b 12 (codes "data") ≡ false
  pub data_after : begins_at b (20 + n) (codes "data") ≡ true
  pub told : 20 + n ≤ number 4 (drop 4 b)
  pub long : size_at b 12 ≡ n
  pub even : n % 2 ≡ 0
  pub some : 16 ≤ n
  pub few : n ≤ 40
  -- an extensible format has 40 bytes
  pub all : (number 2 (drop 20 b) == extensible && nat_lt n 40) ≡ false
  pub pcm : is_pcm (drop 20 b) ≡ true
  pub channels : number 2 (drop 2 (drop 20 b)) ≡ form.channels
  pub rate : number 4 (drop 4 (drop 20 b)) ≡ form.rate
  pub block : number 2 (drop 12 (drop 20 b)) ≡ align form
  pub bits : number 2 (drop 14 (drop 20 b)) ≡ form.bits
  pub size : size_at b (20 + n) ≡ bytes
  pub whole : 28 + n + bytes ≤ length b

form_is : (tag : ℕ) (form : Form) → IsRead form → form_of true tag form.channels form.rate (align form) form.bits ≡ Ok form
form_is tag form h = rw (few, slow, depth h.bits, same) refl
  where
    few : (nat_lt form.channels 1 || nat_lt 8 form.channels) ≡ false
    few = grind (arith, nat_tests, h.channels.0, h.channels.1)

    slow : (nat_lt form.rate 8000 || nat_lt 192000 form.rate) ≡ false
    slow = grind (arith, nat_tests, h.rate.0, h.rate.1)

    depth : (form.bits ≡ 8) ⊎ ((form.bits ≡ 16) ⊎ (form.bits ≡ 24)) → not (form.bits == 8 || form.bits == 16 || form.bits == 24) ≡ false
    depth (inl e) = rw e refl
    depth (inr (inl e)) = rw e refl
    depth (inr (inr e)) = rw e refl

    same : not (align form == align form) ≡ false
    same = grind (arith, nat_tests)

format_is : (b : List ℕ) (form : Form) (n bytes : ℕ) → Stands b form n bytes → IsRead form → format_at b 12 ≡ Ok form
format_is b form n bytes s h = rw (s.long, enough, there, s.all, s.pcm, s.channels, s.rate, s.block, s.bits) (form_is (number 2 (drop 20 b)) form h)
  where
    enough : nat_lt n 16 ≡ false
    enough = grind (arith, nat_tests, s.some)

    there : nat_lt (length b) (20 + n) ≡ false
    there = grind (arith, nat_tests, s.whole)

stands_at : (b : List ℕ) (p told : ℕ) → p ≤ 60 → told ≡ number 4 (drop 4 b) → p ≤ told → p + 8 ≤ length b → (nat_lt last_place p || not (stands b p)) ≡ false
stands_at b p told low is within there = rw (near, inside, whole) refl
  where
    near : nat_lt last_place p ≡ false
    near = grind (arith, nat_tests)

    inside : nat_le (p + 8) (8 + number 4 (drop 4 b)) ≡ true
    inside = rw (← is) (grind (arith, nat_tests))

    whole : nat_le (p + 8) (length b) ≡ true
    whole = grind (arith, nat_tests)

-- the chunk at 12 is the format, and the next stands behind it
to_data : (chunks : ℕ) (told : Bool) (b : List ℕ) (form : Form) (n bytes : ℕ) → Stands b form n bytes → IsRead form →
    walk (suc chunks) told b 12 None ≡ walk chunks told b (20 + n) (Some form)
to_data chunks told b form n bytes s h =
    walk-goes_on chunks told b 12 None (stands_at b 12 (number 4 (drop 4 b)) (omega arith) refl (omega (arith, s.told)) (omega (arith, s.whole))) s.no_data
    ∙ ap (λ t. cond t (format_at b 12 >>= λ f. Ok (Some f)) (Ok None) >>= λ found. walk chunks told b (after b 12) found) s.format
    ∙ ap (λ r. (r >>= λ f. Ok (Some f)) >>= λ found. walk chunks told b (after b 12) found) (format_is b form n bytes s h)
    ∙ ap (λ p. walk chunks told b p (Some form)) next
  where
    next : after b 12 ≡ 20 + n
    next = rw (s.long, s.even) (omega arith)

data_is : (told : Bool) (b : List ℕ) (form : Form) (n bytes : ℕ) → Stands b form n bytes →
    head_at told b (20 + n) (Some form) ≡ Ok (record { form = form; data_at = 28 + n; frames = bytes / align form })
data_is told b form n bytes s = rw (s.size, there told) (ap (λ at. Ok (record { form = form; data_at = at; frames = bytes / align form })) place)
  where
    fits : nat_lt (length b) (20 + n + 8 + bytes) ≡ false
    fits = grind (arith, nat_tests, s.whole)

    there : (t : Bool) → (t && nat_lt (length b) (20 + n + 8 + bytes)) ≡ false
    there true = fits
    there false = refl

    place : 20 + n + 8 ≡ 28 + n
    place = omega arith

pub head_stands : (told : Bool) (b : List ℕ) (form : Form) (n bytes : ℕ) → Stands b form n bytes → IsRead form →
    head told b ≡ Ok (record { form = form; data_at = 28 + n; frames = bytes / align form })
unfolding head
head_stands told b form n bytes s h = rw (long, s.riff, s.wave)
    (ap (λ k. walk k told b 12 None) two ∙ to_data (suc (length b - 2)) told b form n bytes s h
    ∙ walk-data (length b - 2) told b (20 + n) (Some form) (stands_at b (20 + n) (number 4 (drop 4 b)) (omega (arith, s.few)) refl s.told (omega (arith, s.whole))) s.data_after
    ∙ data_is told b form n bytes s)
  where
    long : nat_lt (length b) 12 ≡ false
    long = grind (arith, nat_tests, s.whole)

    two : length b ≡ suc (suc (length b - 2))
    two = omega (arith, s.whole)
