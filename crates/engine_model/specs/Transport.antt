-- The transport: what rolls, from which place, and round which loop (Ardour's manual, transport; generations are own).
use Rattle.std.specs.Prelude.{ℕ, zero, suc, ◌+◌, ◌-◌, ◌%◌, Bool, true, false, ◌&&◌, nat_lt, nat_le, if◌then◌else◌, List, [], ◌∷◌, Option, Some, None}
use Rattle.session_model.specs.declared.edit.Edit.{Edit}
use Rattle.session_model.specs.declared.edit.Edit.TheVariants.{Roll, Stop, Quit, Recording, Locate, Loop, LoopOff, Arm, Solo, Mute, Gain, Pan, Mode, Point, Unpoint, Connect, Send, Unsend, Add, Remove, Move, Trim, Layer, Opaque, RegionGain, Fade, Shape}
use Rattle.engine_model.specs.Edits.{starts}

-- a loop plays the places from one to before another, again and again
pub record Wrap : Type 0 where
  pub from : ℕ
  pub to : ℕ

pub record Transport : Type 0 where
  pub rolling : Bool
  pub recording : Bool
  -- how often a place was located, a loop begun or ended
  pub generation : ℕ
  -- the place of the generation's first frame
  pub target : ℕ
  pub wrap : Option Wrap
  pub quit : Bool

-- a run begins stopped, at place 0
abbrev pub at_rest : Transport
at_rest = record { rolling = false; recording = false; generation = 0; target = 0; wrap = None; quit = false }

-- a generation starts at a place
abbrev pub started : Transport → ℕ → Option Wrap → Transport
started c target wrap = record { rolling = c.rolling; recording = c.recording; generation = suc c.generation; target = target; wrap = wrap; quit = c.quit }

-- the end of a loop; without a loop none is ended, and there is no such place
abbrev pub end_of : Option Wrap → ℕ
end_of (Some w) = w.to
end_of None = 0

-- what an accepted edit does to the transport; a locate keeps the loop, and the end of a loop goes on where the loop ends
abbrev pub moved : Transport → Edit → Transport
moved c Roll = record { rolling = true; recording = c.recording; generation = c.generation; target = c.target; wrap = c.wrap; quit = c.quit }
moved c Stop = record { rolling = false; recording = c.recording; generation = c.generation; target = c.target; wrap = c.wrap; quit = c.quit }
moved c Quit = record { rolling = c.rolling; recording = c.recording; generation = c.generation; target = c.target; wrap = c.wrap; quit = true }
moved c (Recording on) = record { rolling = c.rolling; recording = on; generation = c.generation; target = c.target; wrap = c.wrap; quit = c.quit }
moved c (Locate to) = started c to c.wrap
moved c (Loop from to) = started c from (Some (record { from = from; to = to }))
moved c LoopOff = started c (end_of c.wrap) None
moved c (Arm track on) = c
moved c (Solo track on) = c
moved c (Mute route on) = c
moved c (Gain route gain) = c
moved c (Pan route left right) = c
moved c (Mode route mode) = c
moved c (Point route at gain) = c
moved c (Unpoint route at) = c
moved c (Connect route target) = c
moved c (Send route target pre gain) = c
moved c (Unsend route target) = c
moved c (Add track id source start long at layer) = c
moved c (Remove track id) = c
moved c (Move track id at) = c
moved c (Trim track id start long) = c
moved c (Layer track id layer) = c
moved c (Opaque track id on) = c
moved c (RegionGain track id gain) = c
moved c (Fade track id fade_in fade_out) = c
moved c (Shape track id shape_in shape_out) = c

abbrev pub moved_by : Transport → List Edit → Transport
moved_by c [] = c
moved_by c (e ∷ es) = moved_by (moved c e) es

-- the place of frame n from a target on, round the loop if one is in force and the target lies before its end
abbrev pub place_from : ℕ → Option Wrap → ℕ → ℕ
place_from target None n = target + n
place_from target (Some w) n = if nat_lt target w.to && nat_le w.to (target + n)
    then w.from + (target + n - w.to) % (w.to - w.from) else target + n

-- the place of frame n of the transport's generation
abbrev pub place_of : Transport → ℕ → ℕ
place_of c n = place_from c.target c.wrap n

-- the edits up to and with the one that starts generation g, all where none does
abbrev pub until_start : ℕ → List Edit → List Edit
until_start zero es = []
until_start (suc g) [] = []
until_start (suc g) (e ∷ es) = e ∷ until_start (if starts e then g else suc g) es

-- the place of frame n of generation g
abbrev pub place : List Edit → ℕ → ℕ → ℕ
place edits g n = place_of (moved_by at_rest (until_start g edits)) n
