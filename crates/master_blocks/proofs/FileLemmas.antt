-- The bytes of the master's file: how many they are, those of silence, and the file piece by piece.
use Rattle.std.proofs.Common.{◌≡◌, ℕ, zero, suc, ◌+◌, ◌-◌, ◌*◌, ◌/◌, ◌%◌, ◌≤◌, List, [], ◌∷◌, ◌++◌, length, refl, sym, ap, arith, ◌∙◌, length-append, append_assoc}
use Rattle.std.specs.Prelude.{ℤ, pos, replicate}
use Rattle.std.specs.List.{flat_map}
use Rattle.std.proofs.Math.Nat.{mul-le-mul}
use Rattle.std.proofs.lemmas.Grind.{flat_map-append}
use Rattle.std.proofs.lemmas.List.{length-replicate}
use Rattle.std.proofs.lemmas.List.FromFn.{length-map-range_with_len}
use Rattle.sound_model.specs.Numbers.{sample_bytes}
use Rattle.sound_model.specs.Wav.{Form, canon, header, sound_bytes}
use Rattle.sound_laws.proofs.WrittenLaws.{length-sound_bytes}
use Rattle.ses_units.specs.declared.bits.Bits.{Bits}
use Rattle.ses_units.specs.declared.bits.Bits.TheVariants.{B16, B24}
use Rattle.ses_units.specs.Bits.{bits_of}
use Rattle.session_model.specs.declared.session.Session.{Session}
use Rattle.session_model.specs.declared.edit.Edit.{Edit}
use Rattle.engine_model.specs.Journal.{State, Stopped, Seeking, Rolling, Entry}
use Rattle.engine_model.specs.Played.{Samples, block, block_in, master_at, master_channels, master_form, master_samples}
use Rattle.master_blocks.specs.Bytes.{block_samples, data_bytes, entry_bytes, silent_bytes}
use Rattle.master_blocks.specs.Laws.{TheMasterIsItsBlocks}

-- ---- silence

two_more : (k : ℕ) → suc (suc (k * 2)) ≡ suc k * 2
two_more k = omega arith

three_more : (k : ℕ) → suc (suc (suc (k * 3))) ≡ suc k * 3
three_more k = omega arith

by_16 : (n : ℕ) → sound_bytes 16 (replicate n (pos 0)) ≡ replicate (n * 2) 0
by_16 zero = refl
by_16 (suc n) = ap (λ l. 0 ∷ 0 ∷ l) (by_16 n) ∙ ap (λ k. replicate k 0) (two_more n)

by_24 : (n : ℕ) → sound_bytes 24 (replicate n (pos 0)) ≡ replicate (n * 3) 0
by_24 zero = refl
by_24 (suc n) = ap (λ l. 0 ∷ 0 ∷ 0 ∷ l) (by_24 n) ∙ ap (λ k. replicate k 0) (three_more n)

-- the bytes of silence
pub silence_is : (b : Bits) (n : ℕ) → sound_bytes (bits_of b) (replicate n (pos 0)) ≡ replicate (n * (bits_of b / 8)) 0
silence_is B16 n = by_16 n
silence_is B24 n = by_24 n

-- ---- sizes

pub few_bytes : (b : Bits) → bits_of b / 8 ≤ 3
few_bytes B16 = omega arith
few_bytes B24 = omega arith

-- how many bytes so many blocks have
pub all_bytes : (blocks block channels bytes : ℕ) → blocks ≤ 100000 → block ≤ 4096 → channels ≤ 2 → bytes ≤ 3 → blocks * (block * channels) * bytes ≤ 2457600000
all_bytes blocks block channels bytes few short wide size =
    let one : block * channels ≤ 4096 * 2 = mul-le-mul short wide in let two : blocks * (block * channels) ≤ 100000 * (4096 * 2) = mul-le-mul few one in
    let three : blocks * (block * channels) * bytes ≤ 100000 * (4096 * 2) * 3 = mul-le-mul two size in omega (arith, three)

-- ---- the file

module _ (s : Session) (edits : List Edit) (samples : Samples) where
  -- the bytes of blocks, one after another
  bytes_of_blocks : (journal : List Entry) → sound_bytes (bits_of s.bits) (flat_map (block s edits samples) journal) ≡ flat_map (entry_bytes s edits samples) journal
  bytes_of_blocks [] = refl
  bytes_of_blocks (e ∷ es) = flat_map-append (sample_bytes (bits_of s.bits)) (block s edits samples e) (flat_map (block s edits samples) es)
      ∙ ap (λ l. entry_bytes s edits samples e ++ l) (bytes_of_blocks es)

  -- how many samples a block has
  block_long : (e : Entry) (state : State) → length (block_in s edits samples e state) ≡ block_samples s
  block_long e Stopped = length-replicate (s.block * master_channels s) (pos 0)
  block_long e (Seeking t tail) = length-replicate (s.block * master_channels s) (pos 0)
  block_long e (Rolling g n) = length-map-range_with_len
      (λ k. master_at s edits samples e g (n * s.block + k / master_channels s) (k % master_channels s)) 0 (s.block * master_channels s)

  blocks_long : (journal : List Entry) → length (flat_map (block s edits samples) journal) ≡ length journal * block_samples s
  blocks_long [] = sym (none_of (block_samples s))
    where
      none_of : (n : ℕ) → 0 * n ≡ 0
      none_of n = omega arith
  blocks_long (e ∷ es) = length-append (block s edits samples e) (flat_map (block s edits samples) es)
      ∙ ap (λ n. n + length (flat_map (block s edits samples) es)) (block_long e e.state)
      ∙ ap (λ n. block_samples s + n) (blocks_long es) ∙ one_more (length es) (block_samples s)
    where
      one_more : (n b : ℕ) → b + n * b ≡ suc n * b
      one_more n b = grind arith

  all_cycles : (made cycles b : ℕ) → made ≤ cycles → made * b + (cycles - made) * b ≡ cycles * b
  all_cycles made cycles b le = let rest : ℕ = cycles - made in let whole : cycles ≡ made + rest = omega arith in
      both made rest b ∙ ap (λ n. n * b) (sym whole)
    where
      both : (x y c : ℕ) → x * c + y * c ≡ (x + y) * c
      both x y c = grind arith

  sound_long : (cycles : ℕ) (journal : List Entry) → length journal ≤ cycles → length (sound_bytes (bits_of s.bits) (master_samples s edits samples cycles journal)) ≡ data_bytes s cycles
  sound_long cycles journal le = length-sound_bytes (bits_of s.bits) (master_samples s edits samples cycles journal)
      ∙ ap (λ n. n * (bits_of s.bits / 8)) (length-append (flat_map (block s edits samples) journal) (replicate ((cycles - length journal) * block_samples s) (pos 0))
      ∙ ap (λ n. n + length (replicate ((cycles - length journal) * block_samples s) (pos 0))) (blocks_long journal)
      ∙ ap (λ n. length journal * block_samples s + n) (length-replicate ((cycles - length journal) * block_samples s) (pos 0))
      ∙ all_cycles (length journal) cycles (block_samples s) le)

  -- the bytes of all samples
  sound_is : (cycles : ℕ) (journal : List Entry) → sound_bytes (bits_of s.bits) (master_samples s edits samples cycles journal)
      ≡ flat_map (entry_bytes s edits samples) journal ++ silent_bytes s (cycles - length journal)
  sound_is cycles journal = flat_map-append (sample_bytes (bits_of s.bits)) (flat_map (block s edits samples) journal) (replicate ((cycles - length journal) * block_samples s) (pos 0))
      ∙ ap (λ l. l ++ silent_bytes s (cycles - length journal)) (bytes_of_blocks journal)

-- a file whose sound is so many bytes
file_is : (form : Form) (n : ℕ) (samples : List ℤ) (blocks silence : List ℕ) → sound_bytes form.bits samples ≡ blocks ++ silence → length (sound_bytes form.bits samples) ≡ n →
    canon form samples ≡ header form n ++ blocks ++ (silence ++ replicate (n % 2) 0)
unfolding canon
file_is form n samples blocks silence is long =
    ap (λ k. header form k ++ sound_bytes form.bits samples ++ replicate (k % 2) 0) long
    ∙ ap (λ l. header form n ++ l ++ replicate (n % 2) 0) is
    ∙ ap (λ l. l ++ replicate (n % 2) 0) (sym (append_assoc (header form n) blocks silence))
    ∙ append_assoc (header form n ++ blocks) silence (replicate (n % 2) 0)

pub the_master_is_its_blocks : TheMasterIsItsBlocks
the_master_is_its_blocks s edits samples cycles journal valid le =
    file_is (master_form s) (data_bytes s cycles) (master_samples s edits samples cycles journal) (flat_map (entry_bytes s edits samples) journal) (silent_bytes s (cycles - length journal))
    (sound_is s edits samples cycles journal) (sound_long s edits samples cycles journal le)
