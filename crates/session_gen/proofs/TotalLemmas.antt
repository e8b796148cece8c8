-- The master of a made session is a file of 16 bits.
use Rattle.std.proofs.Common.{◌≡◌, ℕ, ◌≤◌, ℤ, refl, arith, List, length}
use Rattle.sound_model.specs.Wav.{Form, canon, header}
use Rattle.engine_model.specs.Played.{master_form}
use Rattle.made_session.specs.Made.{made_session}
use Rattle.session_gen.specs.Gen.{master, master_samples, master_sum}
use Rattle.session_gen.specs.Sums.{IsSumOf}

header_first : (form : Form) (samples : List ℤ) → 44 ≤ length (canon form samples)
unfolding canon header
header_first form samples = omega arith

pub header_stands : (n : ℕ) (bytes : List ℕ) → bytes ≡ master n → 44 ≤ length bytes
header_stands n bytes e = rw e (header_first (master_form (made_session n)) (master_samples n))

pub sum_is : (n : ℕ) (bytes : List ℕ) (sum : ℤ) → IsSumOf bytes sum → bytes ≡ master n → sum ≡ master_sum n
unfolding made_session master_sum
sum_is n bytes sum summed e = summed (master_form (made_session n)) (master_samples n) refl e
