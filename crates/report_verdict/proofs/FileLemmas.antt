-- How long the parts of a master's file are.
use Rattle.std.proofs.Common.{◌≡◌, ℕ, ◌+◌, ◌-◌, ◌*◌, ◌/◌, ◌%◌, ◌≤◌, ap, arith, ◌∙◌, length}
use Rattle.std.specs.Prelude.{pos, replicate}
use Rattle.std.proofs.lemmas.List.{length-replicate}
use Rattle.sound_model.specs.Wav.{Form, header}
use Rattle.sound_laws.proofs.WrittenLaws.{length-sound_bytes}
use Rattle.ses_units.specs.Bits.{bits_of}
use Rattle.session_model.specs.declared.session.Session.{Session}
use Rattle.engine_model.specs.Played.{master_form}
use Rattle.master_blocks.specs.Bytes.{block_samples, data_bytes, head_bytes, pad_bytes, silent_bytes}
use Rattle.report_verdict.specs.Master.{block_place}

header_long : (form : Form) (bytes : ℕ) → length (header form bytes) ≡ 44
unfolding header
header_long form bytes = omega arith

module _ (s : Session) where
  pub head_long : (cycles : ℕ) → length (head_bytes s cycles) ≡ 44
  head_long cycles = header_long (master_form s) (data_bytes s cycles)

  pub silence_long : (blocks : ℕ) → length (silent_bytes s blocks) ≡ data_bytes s blocks
  silence_long blocks = length-sound_bytes (bits_of s.bits) (replicate (blocks * block_samples s) (pos 0)) ∙ ap (λ n. n * (bits_of s.bits / 8)) (length-replicate (blocks * block_samples s) (pos 0))

  pub pad_long : (cycles : ℕ) → length (pad_bytes s cycles) ≡ data_bytes s cycles % 2
  pad_long cycles = length-replicate (data_bytes s cycles % 2) 0

  -- those of the entries and those behind them are all
  pub all_bytes : (made cycles : ℕ) → made ≤ cycles → data_bytes s made + data_bytes s (cycles - made) ≡ data_bytes s cycles
  all_bytes made cycles order = let rest : ℕ = cycles - made in let sum : made + rest ≡ cycles = omega (arith, order) in
      go made rest (block_samples s) (bits_of s.bits / 8) ∙ ap (data_bytes s) sum
    where
      go : (n m b w : ℕ) → n * b * w + m * b * w ≡ (n + m) * b * w
      go n m b w = grind arith

  pub end_place : (made cycles : ℕ) → made ≤ cycles → block_place s made + length (silent_bytes s (cycles - made)) ≡ 44 + data_bytes s cycles
  end_place made cycles order = omega (arith, silence_long (cycles - made), all_bytes made cycles order)
