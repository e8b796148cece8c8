-- What a list of accepted edits says of playlists and generations (own). Edits count from 1: edition k is the state
-- after the first k of them.
use Rattle.std.specs.Prelude.{ℕ, zero, suc, Bool, true, false, ◌&&◌, nat_le, if◌then◌else◌, List, [], ◌∷◌, Option, Some, None, slice_get}
use Rattle.std.specs.Option.{option_map_or}
use Rattle.std.specs.Str.{bytes_eq}
use Rattle.session_model.specs.declared.session.Session.{Session}
use Rattle.session_model.specs.declared.edit.Edit.{Edit}
use Rattle.session_model.specs.declared.edit.Edit.TheVariants.{Roll, Stop, Quit, Recording, Locate, Loop, LoopOff, Arm, Solo, Mute, Gain, Pan, Mode, Point, Unpoint, Connect, Send, Unsend, Add, Remove, Move, Trim, Layer, Opaque, RegionGain, Fade, Shape}

-- ---- one edit

-- the track whose playlist a region command changes, by its name; none of another command
abbrev pub region_track : Edit → Option (List ℕ)
region_track Roll = None
region_track Stop = None
region_track Quit = None
region_track (Recording on) = None
region_track (Locate to) = None
region_track (Loop from to) = None
region_track LoopOff = None
region_track (Arm track on) = None
region_track (Solo track on) = None
region_track (Mute route on) = None
region_track (Gain route gain) = None
region_track (Pan route left right) = None
region_track (Mode route mode) = None
region_track (Point route at gain) = None
region_track (Unpoint route at) = None
region_track (Connect route target) = None
region_track (Send route target pre gain) = None
region_track (Unsend route target) = None
region_track (Add track id source start long at layer) = Some track
region_track (Remove track id) = Some track
region_track (Move track id at) = Some track
region_track (Trim track id start long) = Some track
region_track (Layer track id layer) = Some track
region_track (Opaque track id on) = Some track
region_track (RegionGain track id gain) = Some track
region_track (Fade track id fade_in fade_out) = Some track
region_track (Shape track id shape_in shape_out) = Some track

-- the name of a track is the name of its route
abbrev pub is_named : Session → ℕ → List ℕ → Bool
is_named session t name = option_map_or (λ q. bytes_eq q.name name) (slice_get session.routes.items t) false

-- the edit is a region command on track t
abbrev pub touches : Session → ℕ → Edit → Bool
touches session t edit = option_map_or (is_named session t) (region_track edit) false

-- the edit starts a generation
abbrev pub starts : Edit → Bool
starts Roll = false
starts Stop = false
starts Quit = false
starts (Recording on) = false
starts (Locate to) = true
starts (Loop from to) = true
starts LoopOff = true
starts (Arm track on) = false
starts (Solo track on) = false
starts (Mute route on) = false
starts (Gain route gain) = false
starts (Pan route left right) = false
starts (Mode route mode) = false
starts (Point route at gain) = false
starts (Unpoint route at) = false
starts (Connect route target) = false
starts (Send route target pre gain) = false
starts (Unsend route target) = false
starts (Add track id source start long at layer) = false
starts (Remove track id) = false
starts (Move track id at) = false
starts (Trim track id start long) = false
starts (Layer track id layer) = false
starts (Opaque track id on) = false
starts (RegionGain track id gain) = false
starts (Fade track id fade_in fade_out) = false
starts (Shape track id shape_in shape_out) = false

abbrev pub is_quit : Edit → Bool
is_quit Roll = false
is_quit Stop = false
is_quit Quit = true
is_quit (Recording on) = false
is_quit (Locate to) = false
is_quit (Loop from to) = false
is_quit LoopOff = false
is_quit (Arm track on) = false
is_quit (Solo track on) = false
is_quit (Mute route on) = false
is_quit (Gain route gain) = false
is_quit (Pan route left right) = false
is_quit (Mode route mode) = false
is_quit (Point route at gain) = false
is_quit (Unpoint route at) = false
is_quit (Connect route target) = false
is_quit (Send route target pre gain) = false
is_quit (Unsend route target) = false
is_quit (Add track id source start long at layer) = false
is_quit (Remove track id) = false
is_quit (Move track id at) = false
is_quit (Trim track id start long) = false
is_quit (Layer track id layer) = false
is_quit (Opaque track id on) = false
is_quit (RegionGain track id gain) = false
is_quit (Fade track id fade_in fade_out) = false
is_quit (Shape track id shape_in shape_out) = false

-- ---- what the forms of a control line say of an edit's numbers; that they fit 64 bits, and what a name is, its types say

abbrev pub is_id : ℕ → Bool
is_id id = nat_le 1 id && nat_le id 999999

abbrev pub is_layer : ℕ → Bool
is_layer layer = nat_le layer 65535

abbrev pub keeps_forms : Edit → Bool
keeps_forms Roll = true
keeps_forms Stop = true
keeps_forms Quit = true
keeps_forms (Recording on) = true
keeps_forms (Locate to) = true
keeps_forms (Loop from to) = true
keeps_forms LoopOff = true
keeps_forms (Arm track on) = true
keeps_forms (Solo track on) = true
keeps_forms (Mute route on) = true
keeps_forms (Gain route gain) = true
keeps_forms (Pan route left right) = true
keeps_forms (Mode route mode) = true
keeps_forms (Point route at gain) = true
keeps_forms (Unpoint route at) = true
keeps_forms (Connect route target) = true
keeps_forms (Send route target pre gain) = true
keeps_forms (Unsend route target) = true
keeps_forms (Add track id source start long at layer) = is_id id && nat_le 1 long && is_layer layer
keeps_forms (Remove track id) = is_id id
keeps_forms (Move track id at) = is_id id
keeps_forms (Trim track id start long) = is_id id && nat_le 1 long
keeps_forms (Layer track id layer) = is_id id && is_layer layer
keeps_forms (Opaque track id on) = is_id id
keeps_forms (RegionGain track id gain) = is_id id
keeps_forms (Fade track id fade_in fade_out) = is_id id
keeps_forms (Shape track id shape_in shape_out) = is_id id

-- ---- the first k edits of a list

-- the edit at a place, counted from 0, has a property; false past the end
abbrev pub holds_at : (Edit → Bool) → List Edit → ℕ → Bool
holds_at f [] k = false
holds_at f (e ∷ es) zero = f e
holds_at f (e ∷ es) (suc k) = holds_at f es k

-- the number of the last of the first k edits that has a property, else 0
abbrev pub last_where : (Edit → Bool) → List Edit → ℕ → ℕ
last_where f edits zero = 0
last_where f edits (suc k) = if holds_at f edits k then suc k else last_where f edits k

-- how many of the first k edits have a property
abbrev pub count_where : (Edit → Bool) → List Edit → ℕ → ℕ
count_where f edits zero = 0
count_where f edits (suc k) = if holds_at f edits k then suc (count_where f edits k) else count_where f edits k

-- the number of the last of the first k edits that is a region command on track t, else 0
abbrev pub playlist_edition : Session → List Edit → ℕ → ℕ → ℕ
playlist_edition session edits t k = last_where (touches session t) edits k

-- how many of the first k edits start a generation
abbrev pub generation : List Edit → ℕ → ℕ
generation edits k = count_where starts edits k

-- a quit is among the first k edits
abbrev pub has_quit : List Edit → ℕ → Bool
has_quit edits zero = false
has_quit edits (suc k) = if holds_at is_quit edits k then true else has_quit edits k
