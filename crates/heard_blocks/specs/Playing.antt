-- The blocks of tracks that are put for one block of the master: that of the playlist edition heard, else silence.
use Rattle.std.specs.Prelude.{◌≡◌, ℕ, ◌*◌, ◌<◌, ◌≤◌, ℤ, List, [], length, slice_index_or}
use Rattle.sound_model.specs.Regions.{Sounds}
use Rattle.session_model.specs.declared.session.Session.{Session}
use Rattle.session_model.specs.declared.edit.Edit.{Edit}
use Rattle.session_model.specs.Formed.{channels_at}
use Rattle.session_model.specs.Views.{track_regions}
use Rattle.engine_model.specs.Editions.{edition}
use Rattle.engine_model.specs.Journal.{Play, Heard, Silent, Short}
use Rattle.engine_model.specs.Transport.{Transport}
use Rattle.locate_loop.specs.Transport.{transport_of}
use Rattle.edition_log.specs.EditionState.{EditionState}
use Rattle.route_mix.specs.Blocks.{silence}
use Rattle.track_render.specs.Blocks.{placed_block}
use Rattle.heard_blocks.specs.State.{HeardState, IsReady, heard_or}

-- a session with its edits, the sound of its sources, and which block of a transport's generation is played
pub record Playing : Type 0 where
  pub session : Session
  pub edits : List Edit
  pub sounds : Sounds
  pub transport : Transport
  pub seq : ℕ

-- those of an edition that plays
abbrev pub playing : Session → List Edit → Sounds → EditionState → ℕ → Playing
playing s edits sounds now seq = record { session = s; edits = edits; sounds = sounds; transport = transport_of now.transport; seq = seq }

-- how many samples a block of a track has
abbrev pub track_samples : Session → ℕ → ℕ
track_samples s t = s.block * channels_at s t

-- a block of a track by the playlist of a session, as a transport plays it
abbrev pub session_block : Sounds → Session → ℕ → Transport → ℕ → List ℤ
session_block sounds z t transport seq = placed_block sounds (track_regions z t) (channels_at z t) transport (seq * z.block) (track_samples z t)

-- the block of a track by its playlist in an edition
abbrev pub played_block : Playing → ℕ → ℕ → List ℤ
played_block on t p = placed_block on.sounds (track_regions (edition on.session on.edits p).session t) (channels_at on.session t)
    on.transport (on.seq * on.session.block) (track_samples on.session t)

-- a block is what is heard of a track, where the sound of the sources is told
abbrev pub IsPlayed : Type 0 → Playing → ℕ → Play → List ℤ → Type 0
IsPlayed told on t (Heard p) block = told → block ≡ played_block on t p
IsPlayed told on t Silent block = block ≡ silence (track_samples on.session t)
IsPlayed told on t (Short tail) block = block ≡ silence (track_samples on.session t)

-- a playlist edition that is heard is none before the one of the list, and an edition of the edits
abbrev pub MayHear : List Edit → ℕ → Play → Type 0
MayHear edits at (Heard p) = (at ≤ p) × (p ≤ length edits)
MayHear edits at Silent = Unit {0}
MayHear edits at (Short tail) = Unit {0}

-- the block of a track that was put
abbrev pub put_block : HeardState → ℕ → List ℤ
put_block h t = slice_index_or h.master.desk.inputs t []

-- the edition whose playlist a track has
abbrev pub edition_at : HeardState → ℕ → ℕ
edition_at h t = slice_index_or h.lists.at t 0

-- The block of one track was put.
pub record PutsTrack (told : Type 0) (on : Playing) (t : ℕ) (play : Play) (old new : HeardState) : Type 0 where
  pub ready : IsReady on.session on.edits new
  pub played : IsPlayed told on t play (put_block new t)
  pub at : edition_at new t ≡ heard_or play (edition_at old t)
  -- the other tracks are as they were
  pub others : (u : ℕ) → ¬ (u ≡ t) → put_block new u ≡ put_block old u
  pub others_at : (u : ℕ) → ¬ (u ≡ t) → edition_at new u ≡ edition_at old u

-- The blocks of the tracks below a number were put.
pub record PutsTracks (told : Type 0) (on : Playing) (plays : ℕ → Play) (many : ℕ) (old new : HeardState) : Type 0 where
  pub ready : IsReady on.session on.edits new
  pub played : (t : ℕ) → t < many → IsPlayed told on t (plays t) (put_block new t)
  pub at : (t : ℕ) → t < many → edition_at new t ≡ heard_or (plays t) (edition_at old t)
  pub later : (t : ℕ) → many ≤ t → edition_at new t ≡ edition_at old t
