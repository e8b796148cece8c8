-- What a take is: the input of the cycles that recorded a track (Ardour's manual, recording; zeros for lost blocks, and the names, are
-- own). Takes count from 1, blocks and frames from 0.
use Rattle.std.specs.Prelude.{ℕ, suc, ◌+◌, ◌*◌, ℤ, pos, ◌==◌, if◌then◌else◌, List, [], ◌∷◌, ◌++◌, replicate, slice_get, decimal, codes}
use Rattle.std.specs.Option.{option_map_or}
use Rattle.sound_model.specs.Wav.{Form, canon}
use Rattle.ses_units.specs.Bits.{bits_of}
use Rattle.session_model.specs.declared.session.Session.{Session}
use Rattle.session_model.specs.Formed.{channels_at}
use Rattle.session_model.specs.Frames.{interleaved}
use Rattle.engine_model.specs.Journal.{Take, Off, Taken, Lost, Entry, note_of}

-- the input by frame and channel, silence past its end
abbrev pub Input : Type 0
Input = ℕ → ℕ → ℤ

-- the first channel of the input that a track records; the second of two is the next one
abbrev pub first_channel : Session → ℕ → ℕ
first_channel session t = option_map_or (λ k. option_map_or (λ c. c) k.input 0) (slice_get session.tracks.items t) 0

-- the block of track t that the input has in cycle c, frame by frame; cycles count from 0 here
abbrev pub input_block : Session → Input → ℕ → ℕ → List ℤ
input_block session input t c = let channels = channels_at session t in
    interleaved (λ i k. input i (first_channel session t + k)) channels (c * session.block) (session.block * channels)

abbrev pub silent_block : Session → ℕ → List ℤ
silent_block session t = replicate (session.block * channels_at session t) (pos 0)

-- what a note adds to take n: its block of the input, silence where it was lost, and nothing to another take
abbrev pub take_block : Session → Input → ℕ → ℕ → ℕ → Take → List ℤ
take_block session input t n c Off = []
take_block session input t n c (Taken m i) = if m == n then input_block session input t c else []
take_block session input t n c (Lost m i head) = if m == n then silent_block session t else []

-- the same of a journal whose first entry is that of cycle c
abbrev pub take_from : Session → Input → ℕ → ℕ → ℕ → List Entry → List ℤ
take_from session input t n c [] = []
take_from session input t n c (e ∷ es) = take_block session input t n c (note_of t e).take ++ take_from session input t n (suc c) es

-- the samples of take n of track t
abbrev pub take_samples : Session → Input → ℕ → ℕ → List Entry → List ℤ
take_samples session input t n journal = take_from session input t n 0 journal

abbrev pub take_form : Session → ℕ → Form
take_form session t = record { channels = channels_at session t; rate = session.rate; bits = bits_of session.bits }

-- its file
abbrev pub take_file : Session → Input → ℕ → ℕ → List Entry → List ℕ
take_file session input t n journal = canon (take_form session t) (take_samples session input t n journal)

abbrev pub route_name : Session → ℕ → List ℕ
route_name session r = option_map_or (λ q. q.name) (slice_get session.routes.items r) []

-- and the name of its file
abbrev pub take_name : Session → ℕ → ℕ → List ℕ
take_name session t n = session.takes ++ codes "-" ++ route_name session t ++ codes "-" ++ decimal n ++ codes ".wav"
