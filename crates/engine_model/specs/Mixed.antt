-- The block of the master that pieces make, whatever samples they hold (own).
use Rattle.std.specs.Prelude.{ℕ, ◌+◌, ◌-◌, ◌*◌, ℤ, pos, ◌&&◌, ◌==◌, if◌then◌else◌, Bool, false, List, [], ◌∷◌, replicate, slice_index_or}
use Rattle.sound_model.specs.Routes.{master_sample}
use Rattle.session_model.specs.declared.session.Session.{Session}
use Rattle.session_model.specs.declared.edit.Edit.{Edit}
use Rattle.session_model.specs.Views.{routes_of}
use Rattle.session_model.specs.Formed.{channels_at}
use Rattle.session_model.specs.Frames.{interleaved}
use Rattle.engine_model.specs.Transport.{place}
use Rattle.engine_model.specs.Editions.{edition}
use Rattle.engine_model.specs.Items.{Kind, Item, Piece, Settled, Blank}
use Rattle.engine_model.specs.Journal.{State, Rolling, Entry}
use Rattle.engine_model.specs.Played.{master_channels}

abbrev pub is_block : ℕ → ℕ → Kind → Bool
is_block g s (Piece t h r p) = h == g && r == s
is_block g s (Settled k h r) = false
is_block g s Blank = false

-- the samples of the newest piece of block s of generation g, none where there is none; items stand newest first
abbrev pub newest_samples : ℕ → ℕ → List Item → List ℤ
newest_samples g s [] = []
newest_samples g s (x ∷ xs) = if is_block g s x.kind then x.samples else newest_samples g s xs

-- channel c of track t at frame i of block s, by what was received of each track: 0 where no piece of it was
abbrev pub received_sample : Session → List (List Item) → ℕ → ℕ → ℕ → ℕ → ℕ → ℤ
received_sample session tracks g s i t c = slice_index_or (newest_samples g s (slice_index_or tracks t [])) (i * channels_at session t + c) (pos 0)

-- one channel of the master at frame n of generation g, which is of block s, in edition r
abbrev pub mixed_at : Session → List Edit → List (List Item) → ℕ → ℕ → ℕ → ℕ → ℕ → ℤ
mixed_at session edits tracks r g s n c = master_sample (routes_of (edition session edits r).session)
    (received_sample session tracks g s (n - s * session.block)) (place edits g n) c

abbrev pub mixed_in : Session → List Edit → List (List Item) → ℕ → State → List ℤ
mixed_in session edits tracks r (Rolling g s) = let channels = master_channels session in
    interleaved (mixed_at session edits tracks r g s) channels (s * session.block) (session.block * channels)
mixed_in session edits tracks r _ = replicate (session.block * master_channels session) (pos 0)

-- the block of the master that an entry makes of what was received of each track
abbrev pub mixed : Session → List Edit → List (List Item) → Entry → List ℤ
mixed session edits tracks e = mixed_in session edits tracks e.edition e.state
