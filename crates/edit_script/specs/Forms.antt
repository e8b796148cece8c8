-- What a word of a command may be, and what it then says (own).
use Rattle.std.specs.Prelude.{ℕ, Bool, true, false, ◌&&◌, nat_le, if◌then◌else◌, List, length, Option, Some, None, codes, bytes_eq}
use Rattle.std.specs.Option.{option_map}
use Rattle.std.specs.Char.{is_ascii_digit}
use Rattle.std.specs.List.{list_all}
use Rattle.std.specs.Str.Parse.{digits_value}
use Rattle.ses_units.specs.Name.{is_name}
use Rattle.ses_units.specs.declared.mode.Mode as unit_mode
use Rattle.ses_units.specs.declared.mode.Mode.TheVariants.{Manual, Play}
use Rattle.ses_units.specs.declared.shape.Shape as unit_shape
use Rattle.ses_units.specs.declared.shape.Shape.TheVariants.{Linear, Slow}
use Rattle.edit_script.specs.declared.refusal.LineRefusal as code
use Rattle.edit_script.specs.declared.refusal.LineRefusal.TheVariants as refused

pub data Form : Type 0 where
  -- a name of a track, a route or a source
  Name : Form
  -- a whole number from a least to a most
  Whole : ℕ → ℕ → Form
  -- `on` or `off`
  OnOff : Form
  -- `manual` or `play`
  ManualPlay : Form
  -- `pre` or `post`
  PrePost : Form
  -- `linear` or `slow`
  LinearSlow : Form
  -- `off` alone
  JustOff : Form

pub data Value : Type 0 where
  Named : List ℕ → Value
  Number : ℕ → Value
  -- on, or off
  Switch : Bool → Value
  Mode : unit_mode.Mode → Value
  -- before the fader, or after it
  Pre : Bool → Value
  Shape : unit_shape.Shape → Value
  -- nothing but that something ends
  Off : Value

-- ---- numbers

-- the number that 1 to 20 decimal digits stand for; they may begin with zeros
abbrev pub number : List ℕ → Option ℕ
number word = if nat_le 1 (length word) && nat_le (length word) 20 && list_all is_ascii_digit word then Some (digits_value 10 word) else None

-- a number that lies in a range
abbrev pub within : ℕ → ℕ → Option ℕ → Option ℕ
within least most None = None
within least most (Some n) = if nat_le least n && nat_le n most then Some n else None

-- the most that 64 bits hold
abbrev pub largest : ℕ
largest = 18446744073709551615

-- any number, the id of a region, a length in frames, a layer, a number of cycles
abbrev pub any : Form
any = Whole 0 largest

abbrev pub region_id : Form
region_id = Whole 1 999999

abbrev pub long : Form
long = Whole 1 largest

abbrev pub layer : Form
layer = Whole 0 65535

abbrev pub cycles : Form
cycles = Whole 1 100000

-- ---- choices

-- what one of two words stands for
abbrev pub choice : {A : Type 0} → List ℕ → A → List ℕ → A → List ℕ → Option A
choice first one second other word = if bytes_eq word first then Some one else (if bytes_eq word second then Some other else None)

-- ---- words

-- what a word of a form says; nothing where the form fails
abbrev pub value_of : Form → List ℕ → Option Value
value_of Name word = if is_name word then Some (Named word) else None
value_of (Whole least most) word = option_map Number (within least most (number word))
value_of OnOff word = option_map Switch (choice (codes "on") true (codes "off") false word)
value_of ManualPlay word = option_map Mode (choice (codes "manual") Manual (codes "play") Play word)
value_of PrePost word = option_map Pre (choice (codes "pre") true (codes "post") false word)
value_of LinearSlow word = option_map Shape (choice (codes "linear") Linear (codes "slow") Slow word)
value_of JustOff word = if bytes_eq word (codes "off") then Some Off else None

-- what is said of word i where its form fails
abbrev pub wrong : Form → ℕ → code.LineRefusal
wrong Name i = refused.BadName i
wrong (Whole least most) i = refused.Number i
wrong OnOff i = refused.Choice i
wrong ManualPlay i = refused.Choice i
wrong PrePost i = refused.Choice i
wrong LinearSlow i = refused.Choice i
wrong JustOff i = refused.Choice i
