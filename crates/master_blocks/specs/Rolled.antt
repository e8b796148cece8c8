-- The block of the master that was received pieces make: what is put of each track, and the bytes that are written.
use Rattle.std.specs.Prelude.{◌≡◌, ℕ, ◌<◌, ℤ, pos, List, [], length, slice_index_or}
use Rattle.sound_model.specs.Wav.{sound_bytes}
use Rattle.ses_units.specs.Bits.{bits_of}
use Rattle.session_model.specs.declared.session.Session.{Session}
use Rattle.engine_model.specs.Items.{Item}
use Rattle.engine_model.specs.Journal.{Rolling}
use Rattle.engine_model.specs.Mixed.{mixed_in, newest_samples}
use Rattle.edition_log.specs.EditionState.{EditionState as Edition}

-- what no code holds and clauses speak of: the session, and what was received of each track, the newest first
pub record Heard : Type 0 where
  pub session : Session
  pub tracks : List (List Item)

-- The block of each track that was put is the newest piece of a block of a generation, or silence where none was received.
abbrev pub ArePut : Heard → ℕ → ℕ → List (List ℤ) → Type 0
ArePut heard g s inputs = (t k : ℕ) → t < length heard.session.tracks.items →
    slice_index_or (slice_index_or inputs t []) k (pos 0) ≡ slice_index_or (newest_samples g s (slice_index_or heard.tracks t [])) k (pos 0)

-- the bytes of the master's block of these pieces, in an edition that rolls
abbrev pub rolled_bytes : Heard → Edition → ℕ → List ℕ
rolled_bytes heard e s = sound_bytes (bits_of heard.session.bits)
    (mixed_in heard.session e.edits heard.tracks (length e.edits) (Rolling e.transport.generation s))
