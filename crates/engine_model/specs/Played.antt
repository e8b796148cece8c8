-- What a run plays, from editions and entries alone: no ring, window or turn is in it (own).
use Rattle.std.specs.Prelude.{◌≡◌, ℕ, ◌-◌, ◌*◌, ℤ, pos, List, length, replicate, ◌++◌, ⊤}
use Rattle.std.specs.List.{flat_map}
use Rattle.sound_model.specs.Regions.{Sounds}
use Rattle.sound_model.specs.Layers.{track_sample}
use Rattle.sound_model.specs.Routes.{master_sample}
use Rattle.sound_model.specs.Wav.{Form, canon}
use Rattle.session_model.specs.declared.session.Session.{Session}
use Rattle.session_model.specs.declared.edit.Edit.{Edit}
use Rattle.ses_units.specs.Bits.{bits_of}
use Rattle.session_model.specs.Views.{routes_of, track_regions}
use Rattle.session_model.specs.Formed.{channels_at}
use Rattle.session_model.specs.Frames.{interleaved}
use Rattle.engine_model.specs.Transport.{place}
use Rattle.engine_model.specs.Editions.{edition}
use Rattle.engine_model.specs.Items.{Kind, Piece, Item}
use Rattle.engine_model.specs.Journal.{Play, Heard, State, Rolling, Entry, note_of}

-- the samples of tracks: by track, playlist edition, channel and place
abbrev pub Samples : Type 0
Samples = ℕ → ℕ → ℕ → ℕ → ℤ

-- those of a session's tracks: playlist edition p is the playlist after p edits
abbrev pub samples_of : Sounds → Session → List Edit → Samples
samples_of sounds session edits t p c x = track_sample sounds (track_regions (edition session edits p).session t) c x

-- ---- pieces

-- the block of track t that a piece has: frame i of it is the sample at the place of its generation's frame
abbrev pub piece_samples : Session → List Edit → Samples → ℕ → ℕ → ℕ → ℕ → List ℤ
piece_samples session edits samples t g s p = let channels = channels_at session t in
    interleaved (λ n c. samples t p c (place edits g n)) channels (s * session.block) (session.block * channels)

-- an item is genuine: a piece has its block's samples
abbrev pub IsGenuineAs : Session → List Edit → Samples → Kind → List ℤ → Type 0
IsGenuineAs session edits samples (Piece t g s p) block = block ≡ piece_samples session edits samples t g s p
IsGenuineAs session edits samples _ block = ⊤

abbrev pub IsGenuine : Session → List Edit → Samples → Item → Type 0
IsGenuine session edits samples item = IsGenuineAs session edits samples item.kind item.samples

-- ---- blocks of the master

-- what is played of a track: the sample of the playlist edition heard, else silence
abbrev pub heard : Samples → ℕ → ℕ → ℕ → Play → ℤ
heard samples t c x (Heard p) = samples t p c x
heard samples t c x _ = pos 0

abbrev pub master_channels : Session → ℕ
master_channels session = channels_at session (length session.routes.items - 1)

-- one channel of the master at frame n of generation g, in an entry's edition
abbrev pub master_at : Session → List Edit → Samples → Entry → ℕ → ℕ → ℕ → ℤ
master_at session edits samples e g n c = let x = place edits g n in
    master_sample (routes_of (edition session edits e.edition).session) (λ t k. heard samples t k x (note_of t e).play) x c

abbrev pub block_in : Session → List Edit → Samples → Entry → State → List ℤ
block_in session edits samples e (Rolling g s) = let channels = master_channels session in
    interleaved (master_at session edits samples e g) channels (s * session.block) (session.block * channels)
block_in session edits samples e _ = replicate (session.block * master_channels session) (pos 0)

-- the block of the master that an entry stands for, frame by frame: silence unless it rolls
abbrev pub block : Session → List Edit → Samples → Entry → List ℤ
block session edits samples e = block_in session edits samples e e.state

-- the form of the master's file
abbrev pub master_form : Session → Form
master_form session = record { channels = master_channels session; rate = session.rate; bits = bits_of session.bits }

-- the blocks of all entries, and silence for the cycles that were asked and not made
abbrev pub master_samples : Session → List Edit → Samples → ℕ → List Entry → List ℤ
master_samples session edits samples cycles journal = flat_map (block session edits samples) journal
    ++ replicate ((cycles - length journal) * (session.block * master_channels session)) (pos 0)

-- the master's file
abbrev pub master_file : Session → List Edit → Samples → ℕ → List Entry → List ℕ
master_file session edits samples cycles journal = canon (master_form session) (master_samples session edits samples cycles journal)
