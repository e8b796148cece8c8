-- What the fields of a master are, and the sizes of what is written.
use Rattle.std.proofs.Common.{◌≡◌, ℕ, ◌+◌, ◌*◌, ◌/◌, ◌%◌, ◌<◌, ◌≤◌, ◌^◌, List, [], ◌++◌, length, get_or, set, take, drop, ap, ap₂, sym, ◌∙◌, subst, arith, replicate}
use Rattle.std.proofs.lemmas.Grind.{common_steps}
use Rattle.ses_units.specs.Bits.{bits_of}
use Rattle.sound_model.specs.Wav.{Form, align, header}
use Rattle.wav_codec.specs.declared.form.WavForm.{WavForm}
use Rattle.wav_codec.specs.Form as codec
use Rattle.wav_codec.specs.Form.{written_form}
use Rattle.session_model.specs.declared.session.Session.{Session}
use Rattle.session_model.specs.Formed.{channels_at}
use Rattle.session_model.specs.Valid.{IsValid}
use Rattle.engine_model.specs.Played.{master_channels, master_form}
use Rattle.route_mix.specs.Blocks.{silence}
use Rattle.route_mix.specs.Desks.{DeskState, IsDeskOf, master_block}
use Rattle.master_blocks.specs.State.{MasterState, IsMasterOf}
use Rattle.master_blocks.specs.Bytes.{block_samples, data_bytes, head_bytes, silent_bytes}
use Rattle.master_blocks.proofs.FileLemmas.{all_bytes, few_bytes, silence_is}
use Rattle.master_blocks.proofs.DeskLemmas.{master_least, master_long, master_most, track_long}

-- what a slice of a whole list leaves in it
pub rewritten : {X : Type 0} (n : ℕ) (new old : List X) → length new ≡ n → take n (new ++ drop (length new) old) ≡ new
rewritten n new old long = grind (arith, long, common_steps)

pub is_kept : {X : Type 0} (n : ℕ) (now new taken old : List X) → now ≡ take n (new ++ drop (length new) old) → length new ≡ length taken → length taken ≡ n → now ≡ new
is_kept n now new taken old shown long whole = shown ∙ rewritten n new old (long ∙ whole)

-- ---- the header

module _ (s : Session) (form : WavForm) (valid : IsValid s) (same : written_form form ≡ master_form s) where
  pub some_channel : 1 ≤ form.channels
  some_channel = subst (λ n. 1 ≤ n) (sym (ap (λ f. f.channels) same)) (master_least s valid)

  pub two_channels : form.channels ≤ 2
  two_channels = subst (λ n. n ≤ 2) (sym (ap (λ f. f.channels) same)) (master_most s valid)

  pub eight_channels : form.channels ≤ 8
  eight_channels = omega (arith, two_channels)

  bytes_are : (frames blocks : ℕ) → frames ≡ blocks * s.block → codec.data_bytes form frames ≡ data_bytes s blocks
  bytes_are frames blocks is = ap₂ (λ n f. n * align f) is same ∙ turned blocks s.block (master_channels s) (bits_of s.bits / 8)
    where
      turned : (a b c d : ℕ) → a * b * (c * d) ≡ a * (b * c) * d
      turned a b c d = grind arith

  pub head_fits : (frames blocks : ℕ) → frames ≡ blocks * s.block → blocks ≤ 100000 → 36 + codec.data_bytes form frames + codec.data_bytes form frames % 2 < 2 ^ 32
  head_fits frames blocks is few = let limits = valid.formed.limits in
      let most = all_bytes blocks s.block (master_channels s) (bits_of s.bits / 8) few limits.block.most (master_most s valid) (few_bytes s.bits) in
      subst (λ n. 36 + n + n % 2 < 2 ^ 32) (sym (bytes_are frames blocks is)) (fits (data_bytes s blocks) most)
    where
      fits : (n : ℕ) → n ≤ 2457600000 → 36 + n + n % 2 < 2 ^ 32
      fits n most = omega (arith, most)

  pub head_is : (frames blocks : ℕ) → frames ≡ blocks * s.block → header (written_form form) (codec.data_bytes form frames) ≡ head_bytes s blocks
  head_is frames blocks is = ap₂ header same (bytes_are frames blocks is)

  -- ---- a block

  width_is : bits_of form.bits / 8 ≡ bits_of s.bits / 8
  width_is = ap (λ f. f.bits / 8) same

  -- the bytes of a block
  pub bytes_long : (d : DeskState) (n : ℕ) → IsDeskOf s d → n ≡ length (master_block d) * (bits_of form.bits / 8) → n ≡ block_samples s * (bits_of s.bits / 8)
  bytes_long d n is long = long ∙ ap₂ (λ a b. a * b) (master_long s d valid is) width_is

  pub bytes_due : (d : DeskState) (n : ℕ) → IsDeskOf s d → n ≡ block_samples s * (bits_of s.bits / 8) → n ≡ length (master_block d) * (bits_of form.bits / 8)
  bytes_due d n is long = long ∙ sym (ap₂ (λ a b. a * b) (master_long s d valid is) width_is)

  pub new_bytes : (d : DeskState) (n block width : ℕ) → IsDeskOf s d → n ≡ block * form.channels * width → block ≡ s.block → width ≡ bits_of s.bits / 8 → n ≡ length (master_block d) * (bits_of form.bits / 8)
  new_bytes d n block width is long frames size = bytes_due d n is (long ∙ ap₂ (λ a b. a * b) (ap₂ (λ a b. a * b) frames (ap (λ f. f.channels) same)) size)

-- the bytes that are shown after a write of all of them
pub slice_long : {W : Type 0} (s : Session) (sink : W) (form : WavForm) (d : DeskState) (m : MasterState W) (n : ℕ) (now new taken old : List ℕ)
    → record { sink = sink; form = written_form form; desk = d } ≡ m → IsMasterOf s m → length old ≡ length (master_block d) * (bits_of form.bits / 8)
    → now ≡ take n (new ++ drop (length new) old) → length new ≡ length taken → length taken ≡ n → taken ≡ old → length now ≡ block_samples s * (bits_of s.bits / 8)
slice_long s sink form d m n now new taken old seen of room shown long whole same = let stands = subst (IsMasterOf s) (sym seen) of in
    ap length (is_kept n now new taken old shown long whole) ∙ long ∙ ap length same ∙ bytes_long s form stands.valid stands.form d (length old) stands.desk room

-- the bytes that the block of another desk of the session has
pub room_stays : {W : Type 0} (s : Session) (sink : W) (form : WavForm) (d e : DeskState) (m : MasterState W) (n : ℕ)
    → record { sink = sink; form = written_form form; desk = d } ≡ m → IsMasterOf s m → ((z : Session) → IsDeskOf z d → IsDeskOf z e)
    → n ≡ length (master_block d) * (bits_of form.bits / 8) → n ≡ length (master_block e) * (bits_of form.bits / 8)
room_stays s sink form d e m n seen of mixed room = let stands = subst (IsMasterOf s) (sym seen) of in
    bytes_due s form stands.valid stands.form e n (mixed s stands.desk) (bytes_long s form stands.valid stands.form d n stands.desk room)

-- ---- silence

pub silent_is : (s : Session) (zeros : List ℕ) (blocks n : ℕ) → zeros ≡ replicate (blocks * n) 0 → n ≡ block_samples s * (bits_of s.bits / 8) → zeros ≡ silent_bytes s blocks
silent_is s zeros blocks n are long = are ∙ ap (λ k. replicate (blocks * k) 0) long ∙ ap (λ k. replicate k 0) (turned blocks (block_samples s) (bits_of s.bits / 8)) ∙ sym (silence_is s.bits (blocks * block_samples s))
  where
    turned : (a b c : ℕ) → a * (b * c) ≡ a * b * c
    turned a b c = grind arith

pub one_silent : (s : Session) (zeros : List ℕ) (n : ℕ) → zeros ≡ replicate n 0 → n ≡ block_samples s * (bits_of s.bits / 8) → zeros ≡ silent_bytes s 1
one_silent s zeros n are long = silent_is s zeros 1 n (are ∙ ap (λ k. replicate k 0) (once n)) long
  where
    once : (n : ℕ) → n ≡ 1 * n
    once n = omega arith

-- ---- one track's block

pub quiet_is : {W : Type 0} (s : Session) (t : ℕ) (sink : W) (form : Form) (old new : DeskState) (m : MasterState W) → IsValid s → IsDeskOf s old → t < length s.tracks.items
    → record { sink = sink; form = form; desk = old } ≡ m → new ≡ record old { inputs = set old.inputs t (silence (length (get_or old.inputs t []))) }
    → record { sink = sink; form = form; desk = new } ≡ record m { desk = record m.desk { inputs = set m.desk.inputs t (silence (s.block * channels_at s t)) } }
quiet_is {W = W} s t sink form old new m valid is within seen put =
    ap (λ (d : DeskState). record { sink = sink; form = form; desk = d }) (put ∙ ap (λ n. record old { inputs = set old.inputs t (silence n) }) (track_long s old t valid is within))
    ∙ ap (λ (x : MasterState W). record x { desk = record x.desk { inputs = set x.desk.inputs t (silence (s.block * channels_at s t)) } }) seen
