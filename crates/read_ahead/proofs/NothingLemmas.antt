-- A track without regions says nothing: each of its blocks is silence.
use Rattle.std.proofs.Common.{◌≡◌, ℕ, ◌+◌, ◌*◌, ◌/◌, ◌%◌, List, [], length, get_or, refl, ap, sym, subst, ◌∙◌}
use Rattle.std.specs.Prelude.{ℤ, pos}
use Rattle.std.proofs.lemmas.List.FromFn.{fill_by_all}
use Rattle.std.proofs.lemmas.List.{get_or-replicate, length-replicate}
use Rattle.sound_model.specs.Regions.{Sounds}
use Rattle.sound_model.specs.Layers.{track_sample}
use Rattle.session_model.specs.Formed.{channels_at}
use Rattle.session_model.specs.Views.{track_regions}
use Rattle.locate_loop.specs.Transport.{transport_of}
use Rattle.engine_model.specs.Items.{Kind, Piece, Settled, Blank}
use Rattle.engine_model.specs.Transport.{place_of}
use Rattle.edition_log.specs.EditionState.{EditionState as Edition}
use Rattle.piece_item.specs.Silence.{zeros}
use Rattle.read_ahead.specs.Items.{IsBlockOf, block_of, block_room}
use Rattle.read_ahead.specs.Serves.{IsInReach}

-- no region is heard anywhere
says_nothing : (sounds : Sounds) (c x : ℕ) → track_sample sounds [] c x ≡ pos 0
unfolding track_sample
says_nothing sounds c x = refl

-- so a block of silence is that of such a track
pub silent_block : (sounds : Sounds) (e : Edition) (t s : ℕ) (out : List ℤ) → track_regions e.session t ≡ [] → out ≡ zeros (block_room e t) → out ≡ block_of sounds e t s
silent_block sounds e t s out none silent = let channels = channels_at e.session t in let long : length out ≡ block_room e t = ap length silent ∙ length-replicate (block_room e t) (pos 0) in
    fill_by_all (λ k. track_sample sounds (track_regions e.session t) (k % channels) (place_of (transport_of e.transport) (s * e.session.block + k / channels))) out (block_room e t) (pos 0) long
    (λ k within. ap (λ l. get_or l k (pos 0)) silent ∙ get_or-replicate (block_room e t) k (pos 0) (pos 0) within
    ∙ sym (ap (λ rs. track_sample sounds rs (k % channels) (place_of (transport_of e.transport) (s * e.session.block + k / channels))) none
    ∙ says_nothing sounds (k % channels) (place_of (transport_of e.transport) (s * e.session.block + k / channels))))

-- and an item of silence is one of it
pub silent_item : (sounds : Sounds) (e : Edition) (t : ℕ) (k : Kind) (out : List ℤ) → IsInReach t k → track_regions e.session t ≡ [] → out ≡ zeros (block_room e t) → IsBlockOf sounds e k out
silent_item sounds e t (Piece u g s p) out near none silent = subst (λ v. out ≡ block_of sounds e v s) (sym near.0) (silent_block sounds e t s out none silent)
silent_item sounds e t (Settled j g s) out near none silent = tt
silent_item sounds e t Blank out near none silent = tt
