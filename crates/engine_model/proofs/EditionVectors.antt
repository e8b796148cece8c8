-- Editions, generations and places of worked runs.
use Rattle.std.proofs.Common.{◌≡◌, ℕ, List, [], ◌∷◌, refl, true, false, codes, map, None}
use Rattle.std.specs.List.{range_with_len}
use Rattle.ses_units.specs.declared.mode.Mode.TheVariants.{Play as ByLane}
use Rattle.ses_units.specs.declared.shape.Shape.TheVariants.{Linear, Slow}
use Rattle.session_model.specs.declared.edit.Edit.{Edit}
use Rattle.session_model.specs.declared.edit.Edit.TheVariants.{Roll, Stop, Quit, Recording, Locate, Loop, LoopOff, Arm, Solo, Mute, Gain, Pan, Mode, Point, Unpoint, Connect, Send, Unsend, Add, Remove, Move, Trim, Layer, Opaque, RegionGain, Fade, Shape}
use Rattle.session_model.proofs.SessionVectors.{base}
use Rattle.engine_model.specs.Edits.{touches, starts, playlist_edition, generation, has_quit}
use Rattle.engine_model.specs.Transport.{at_rest, place}
use Rattle.engine_model.specs.Editions.{edition}
use Rattle.engine_model.proofs.Worked.{two_tracks, quieter, wait_then_locate, overwrite_heard}

-- ---- which edits touch which playlist, and which start a generation: one of each command

a_name : List ℕ
a_name = codes "t"

one_of_each : List Edit
one_of_each = Roll ∷ Stop ∷ Quit ∷ Recording true ∷ Locate 0 ∷ Loop 0 1 ∷ LoopOff ∷ Arm a_name true ∷ Solo a_name true ∷ Mute a_name true
    ∷ Gain a_name 0 ∷ Pan a_name 0 0 ∷ Mode a_name ByLane ∷ Point a_name 0 0 ∷ Unpoint a_name 0 ∷ Connect a_name a_name
    ∷ Send a_name a_name true 0 ∷ Unsend a_name a_name ∷ Add a_name 2 a_name 0 1 0 0 ∷ Remove a_name 1 ∷ Move a_name 1 0 ∷ Trim a_name 1 0 1
    ∷ Layer a_name 1 0 ∷ Opaque a_name 1 true ∷ RegionGain a_name 1 0 ∷ Fade a_name 1 0 0 ∷ Shape a_name 1 Linear Slow ∷ []

region_commands_touch : map (touches two_tracks 0) one_of_each
    ≡ false ∷ false ∷ false ∷ false ∷ false ∷ false ∷ false ∷ false ∷ false ∷ false ∷ false ∷ false ∷ false ∷ false ∷ false ∷ false ∷ false ∷ false
    ∷ true ∷ true ∷ true ∷ true ∷ true ∷ true ∷ true ∷ true ∷ true ∷ []
unfolding a_name one_of_each
region_commands_touch = refl

of_their_track_alone : map (touches two_tracks 1) one_of_each ≡ map (λ e. false) one_of_each
unfolding a_name one_of_each
of_their_track_alone = refl

locates_and_loops_start : map starts one_of_each
    ≡ false ∷ false ∷ false ∷ false ∷ true ∷ true ∷ true ∷ false ∷ false ∷ false ∷ false ∷ false ∷ false ∷ false ∷ false ∷ false ∷ false ∷ false
    ∷ false ∷ false ∷ false ∷ false ∷ false ∷ false ∷ false ∷ false ∷ false ∷ []
unfolding a_name one_of_each
locates_and_loops_start = refl

-- ---- playlist editions and generations

a_region_of_each : List Edit
a_region_of_each = Roll ∷ quieter ∷ Remove (codes "u") 1 ∷ []

playlist_editions : map (playlist_edition two_tracks a_region_of_each 0) (range_with_len 0 4) ≡ 0 ∷ 0 ∷ 2 ∷ 2 ∷ []
unfolding a_region_of_each
playlist_editions = refl

of_the_other_track : map (playlist_edition two_tracks a_region_of_each 1) (range_with_len 0 4) ≡ 0 ∷ 0 ∷ 0 ∷ 3 ∷ []
unfolding a_region_of_each
of_the_other_track = refl

overwritten : map (playlist_edition base overwrite_heard 0) (range_with_len 0 3) ≡ 0 ∷ 0 ∷ 2 ∷ []
overwritten = refl

generations : map (generation wait_then_locate) (range_with_len 0 4) ≡ 0 ∷ 0 ∷ 1 ∷ 1 ∷ []
generations = refl

generations_of_loops : map (generation (Loop 2 5 ∷ Roll ∷ LoopOff ∷ [])) (range_with_len 0 4) ≡ 0 ∷ 1 ∷ 1 ∷ 2 ∷ []
generations_of_loops = refl

quits : map (has_quit wait_then_locate) (range_with_len 0 4) ≡ false ∷ false ∷ false ∷ true ∷ []
quits = refl

-- ---- places: those of the first frames of a generation

places : List Edit → ℕ → ℕ → List ℕ
places edits g n = map (place edits g) (range_with_len 0 n)

loop_from_start : places (Loop 2 5 ∷ Roll ∷ []) 1 8 ≡ 2 ∷ 3 ∷ 4 ∷ 2 ∷ 3 ∷ 4 ∷ 2 ∷ 3 ∷ []
unfolding places
loop_from_start = refl

target_past_the_loop : places (Loop 2 5 ∷ Locate 6 ∷ Roll ∷ []) 2 8 ≡ 6 ∷ 7 ∷ 8 ∷ 9 ∷ 10 ∷ 11 ∷ 12 ∷ 13 ∷ []
unfolding places
target_past_the_loop = refl

-- a locate keeps the loop: a target before its end comes round to its start
target_before_the_loop : places (Loop 2 5 ∷ Locate 0 ∷ Roll ∷ []) 2 9 ≡ 0 ∷ 1 ∷ 2 ∷ 3 ∷ 4 ∷ 2 ∷ 3 ∷ 4 ∷ 2 ∷ []
unfolding places
target_before_the_loop = refl

target_at_the_loop's_end : places (Loop 2 5 ∷ Locate 5 ∷ Roll ∷ []) 2 3 ≡ 5 ∷ 6 ∷ 7 ∷ []
unfolding places
target_at_the_loop's_end = refl

loop_off : places (Loop 2 5 ∷ LoopOff ∷ Roll ∷ []) 2 3 ≡ 5 ∷ 6 ∷ 7 ∷ []
unfolding places
loop_off = refl

before_the_locate : places wait_then_locate 0 4 ≡ 0 ∷ 1 ∷ 2 ∷ 3 ∷ []
unfolding places
before_the_locate = refl

after_the_locate : places wait_then_locate 1 4 ≡ 4 ∷ 5 ∷ 6 ∷ 7 ∷ []
unfolding places
after_the_locate = refl

-- ---- editions

edition_two : (edition base wait_then_locate 2).transport ≡ record { rolling = true; recording = false; generation = 1; target = 4; wrap = None; quit = false }
edition_two = refl

edition_three : (edition base wait_then_locate 3).transport ≡ record { rolling = true; recording = false; generation = 1; target = 4; wrap = None; quit = true }
edition_three = refl

stopped_again : (edition base (Roll ∷ Recording true ∷ Stop ∷ []) 3).transport ≡ record at_rest { recording = true }
stopped_again = refl
