-- The rules of each command, in the order in which they are asked, each with the refusal that names it. A row says when its
-- rule is broken; what it speaks of counts only where the rows above it are kept.
use Rattle.std.specs.Prelude.{ℕ, ◌+◌, Bool, not, ◌&&◌, ◌==◌, nat_le, nat_lt, if◌then◌else◌, List, [], ◌∷◌, length, find, Option, Some, None, is_none}
use Rattle.std.specs.Option.{option_map_or}
use Rattle.std.specs.List.{list_any, position_or_len}
use Rattle.std.specs.Str.{bytes_eq}
use Rattle.sound_model.specs.Regions.{Region}
use Rattle.session_model.specs.declared.session.Session.{Session}
use Rattle.session_model.specs.declared.edit.Edit.{Edit}
use Rattle.session_model.specs.declared.edit.Edit.TheVariants as edit
use Rattle.session_model.specs.Formed.{channels_at}
use Rattle.session_model.specs.Playlist.{has_id, has_region}
use Rattle.session_model.specs.Views.{track_regions}
use Rattle.engine_model.specs.Transport.{Wrap}
use Rattle.engine_model.specs.Editions.{Edition}
use Rattle.engine_model.specs.Refusals.{Edits, Points, Sends, Regions, Refusal, Limit, NoRoute, NotTrack, NotBus, NoSource, NoRegion, RegionTwice, NoInput, OnMaster, Gain, Far, LoopEmpty, NoLoop, NoPoint, NoSend, Channels, Cycle, Fades}
use Rattle.engine_model.specs.Commands.{is_far, ends_far, is_loud, is_track, is_master, has_input, source_channels, narrows, closes, other_points, has_point, other_sends, has_send, added}

-- whether a rule is broken, and the refusal that says so
abbrev pub Row : Type 0
Row = Bool × Refusal

-- the refusal of the first rule that is broken
abbrev pub first_broken : List Row → Option Refusal
first_broken [] = None
first_broken (row ∷ rows) = if row.0 then Some row.1 else first_broken rows

-- ---- what a name names

-- some route has the name, and the first place where one has
abbrev pub has_route : Session → List ℕ → Bool
has_route s name = list_any (λ q. bytes_eq q.name name) s.routes.items

abbrev pub route_place : Session → List ℕ → ℕ
route_place s name = position_or_len (λ q. bytes_eq q.name name) s.routes.items

abbrev pub has_source : Session → List ℕ → Bool
has_source s name = list_any (λ d. bytes_eq d.name name) s.sources.items

abbrev pub source_place : Session → List ℕ → ℕ
source_place s name = position_or_len (λ d. bytes_eq d.name name) s.sources.items

-- a track's region of an id, any other where it has none
abbrev pub region_of_id : Session → ℕ → ℕ → Region
region_of_id s t id = option_map_or (λ r. r) (find (has_id id) (track_regions s t)) (added id 0 0 0 0 0)

-- ---- rows that several commands have

abbrev pub is_route : Session → List ℕ → List Row → List Row
is_route s name rows = (not (has_route s name), NoRoute name) ∷ rows

abbrev pub is_track_name : Session → List ℕ → List Row → List Row
is_track_name s name rows = is_route s name ((not (is_track s (route_place s name)), NotTrack name) ∷ rows)

-- a bus or the master
abbrev pub is_bus_name : Session → List ℕ → List Row → List Row
is_bus_name s name rows = is_route s name ((is_track s (route_place s name), NotBus name) ∷ rows)

-- a route other than the master
abbrev pub is_sender : Session → List ℕ → List Row → List Row
is_sender s name rows = is_route s name ((is_master s (route_place s name), OnMaster) ∷ rows)

abbrev pub is_region : Session → List ℕ → ℕ → List Row → List Row
is_region s track id rows = is_track_name s track ((not (has_region (track_regions s (route_place s track)) id), NoRegion id) ∷ rows)

-- ---- the rows of each command

abbrev pub rows_of : Session → Option Wrap → Edit → List Row
rows_of s wrap edit.Roll = []
rows_of s wrap edit.Stop = []
rows_of s wrap edit.Quit = []
rows_of s wrap (edit.Recording on) = []
rows_of s wrap (edit.Locate to) = (is_far to, Far to) ∷ []
rows_of s wrap (edit.Loop from to) = (is_far from, Far from) ∷ (is_far to, Far to) ∷ (nat_le to from, LoopEmpty) ∷ []
rows_of s wrap edit.LoopOff = (is_none wrap, NoLoop) ∷ []
rows_of s wrap (edit.Arm track on) = is_track_name s track ((on && not (has_input s (route_place s track)), NoInput track) ∷ [])
rows_of s wrap (edit.Solo track on) = is_track_name s track []
rows_of s wrap (edit.Mute route on) = is_route s route []
rows_of s wrap (edit.Gain route gain) = is_route s route ((is_loud gain, Gain gain) ∷ [])
rows_of s wrap (edit.Pan route left right) = is_sender s route ((is_loud left, Gain left) ∷ (is_loud right, Gain right) ∷ [])
rows_of s wrap (edit.Mode route mode) = is_route s route []
rows_of s wrap (edit.Point route place gain) = is_route s route ((is_far place, Far place) ∷ (is_loud gain, Gain gain)
    ∷ (nat_le 1024 (other_points s (route_place s route) place), Limit Points) ∷ [])
rows_of s wrap (edit.Unpoint route place) = is_route s route ((not (has_point s (route_place s route) place), NoPoint place) ∷ [])
rows_of s wrap (edit.Connect route target) = is_sender s route (is_bus_name s target ((narrows s (route_place s route) (route_place s target), Channels route)
    ∷ (closes s (route_place s route) (route_place s target), Cycle route) ∷ []))
rows_of s wrap (edit.Send route target pre gain) = is_sender s route (is_bus_name s target ((is_loud gain, Gain gain)
    ∷ (narrows s (route_place s route) (route_place s target), Channels route) ∷ (closes s (route_place s route) (route_place s target), Cycle route)
    ∷ (nat_le 8 (other_sends s (route_place s route) (route_place s target)), Limit Sends) ∷ []))
rows_of s wrap (edit.Unsend route target) = is_sender s route (is_route s target ((not (has_send s (route_place s route) (route_place s target)), NoSend target) ∷ []))
rows_of s wrap (edit.Add track id source start long place layer) = let t = route_place s track in is_track_name s track (
    (has_region (track_regions s t) id, RegionTwice id) ∷ (not (has_source s source), NoSource source)
    ∷ (not (source_channels s (source_place s source) == channels_at s t), Channels track)
    ∷ (ends_far start long, Far start) ∷ (ends_far place long, Far place) ∷ (nat_le 256 (length (track_regions s t)), Limit Regions) ∷ [])
rows_of s wrap (edit.Remove track id) = is_region s track id []
rows_of s wrap (edit.Move track id place) = let r = region_of_id s (route_place s track) id in is_region s track id ((ends_far place r.long, Far place) ∷ [])
rows_of s wrap (edit.Trim track id start long) = let r = region_of_id s (route_place s track) id in is_region s track id ((ends_far start long, Far start)
    ∷ (ends_far r.at long, Far r.at) ∷ (nat_lt long (r.fade_in + r.fade_out), Fades id) ∷ [])
rows_of s wrap (edit.Layer track id layer) = is_region s track id []
rows_of s wrap (edit.Opaque track id on) = is_region s track id []
rows_of s wrap (edit.RegionGain track id gain) = is_region s track id ((is_loud gain, Gain gain) ∷ [])
rows_of s wrap (edit.Fade track id fade_in fade_out) = let r = region_of_id s (route_place s track) id in is_region s track id ((nat_lt r.long (fade_in + fade_out), Fades id) ∷ [])
rows_of s wrap (edit.Shape track id shape_in shape_out) = is_region s track id []

-- the rows of any edit: none is accepted after 10,000
abbrev pub all_rows : Edition → Edit → List Row
all_rows e edit = (nat_le 10000 e.number, Limit Edits) ∷ rows_of e.session e.transport.wrap edit
