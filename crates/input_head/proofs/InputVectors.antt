-- Worked values of what inputs are for a session.
use Rattle.std.proofs.Common.{◌≡◌, ℕ, List, [], ◌∷◌, ◌++◌, refl, take, drop, replicate, Option, Some, None, Ok, Err}
use Rattle.std.specs.Prelude.{codes}
use Rattle.sound_model.specs.Wav.{Form, Head, NotRiff, NoData, head, walk, header}
use Rattle.session_model.specs.declared.session.Session.{Session}
use Rattle.session_model.specs.declared.route.RouteKind.TheVariants.{Track as OfTrack}
use Rattle.session_model.specs.declared.track.Track.{Track}
use Rattle.session_model.proofs.SessionVectors.{session, base, stereo, track, with_track, a, route, master}
use Rattle.input_head.specs.Input.{NotRead, OtherRate, FewerChannels, wanted_channels, input_head}

abbrev form : ℕ → ℕ → Form
form channels rate = record { channels = channels; rate = rate; bits = 16 }

-- an input of so many bytes of data
abbrev input : ℕ → ℕ → ℕ → List ℕ
input channels rate bytes = header (form channels rate) bytes ++ replicate bytes 1

abbrev found : ℕ → ℕ → Head
found channels frames = record { form = form channels 48000; data_at = 44; frames = frames }

-- a mono track that takes the input from a channel on
abbrev from : Option ℕ → Track
from first = record (track 0 []) { input = first }

-- ---- the channels that are wanted

no_track : wanted_channels (session [] (master ∷ []) []) ≡ 0
unfolding wanted_channels
no_track = refl

no_input : wanted_channels (with_track (from None)) ≡ 0
unfolding wanted_channels
no_input = refl

second_channel : wanted_channels (with_track (from (Some 1))) ≡ 2
unfolding wanted_channels
second_channel = refl

last_channels : wanted_channels (stereo 6) ≡ 8
unfolding wanted_channels
last_channels = refl

-- the first of two tracks takes more than the second
abbrev two_tracks : Session
two_tracks = session (a ∷ []) (route (codes "t") (OfTrack 0) (Some 2) ∷ route (codes "u") (OfTrack 1) (Some 2) ∷ master ∷ []) (from (Some 3) ∷ record (from (Some 1)) { route = 1 } ∷ [])

greatest_of_two : wanted_channels two_tracks ≡ 4
unfolding wanted_channels
greatest_of_two = refl

-- ---- inputs that are played with, and none

no_byte : input_head base [] ≡ Ok None
no_byte = refl

mono : input_head base (input 1 48000 8) ≡ Ok (Some (found 1 4))
unfolding head walk header wanted_channels
mono = refl

more_channels : input_head base (input 2 48000 8) ≡ Ok (Some (found 2 2))
unfolding head walk header wanted_channels
more_channels = refl

stereo_track : input_head (stereo 0) (input 2 48000 8) ≡ Ok (Some (found 2 2))
unfolding head walk header wanted_channels
stereo_track = refl

-- a head without frames isn't an empty input
no_frame : input_head base (input 1 48000 0) ≡ Ok (Some (found 1 0))
unfolding head walk header wanted_channels
no_frame = refl

-- an input may end within its data
cut_data : input_head base (take 46 (input 1 48000 8)) ≡ Ok (Some (found 1 4))
unfolding head walk header wanted_channels
cut_data = refl

-- ---- inputs that aren't

one_byte : input_head base (82 ∷ []) ≡ Err (NotRead NotRiff)
unfolding head
one_byte = refl

other_bytes : input_head base (codes "RIFX" ++ drop 4 (input 1 48000 8)) ≡ Err (NotRead NotRiff)
unfolding head header
other_bytes = refl

cut_head : input_head base (take 43 (input 1 48000 8)) ≡ Err (NotRead NoData)
unfolding head walk header
cut_head = refl

other_rate : input_head base (input 1 44100 8) ≡ Err (OtherRate 44100 48000)
unfolding head walk header
other_rate = refl

too_few : input_head (stereo 0) (input 1 48000 8) ≡ Err (FewerChannels 1 2)
unfolding head walk header wanted_channels
too_few = refl

no_second_channel : input_head (with_track (from (Some 1))) (input 1 48000 8) ≡ Err (FewerChannels 1 2)
unfolding head walk header wanted_channels
no_second_channel = refl

-- the rate is judged before the channels
rate_first : input_head (stereo 0) (input 1 44100 8) ≡ Err (OtherRate 44100 48000)
unfolding head walk header
rate_first = refl
