-- The value at a key: missing, of another kind, out of range, or read (own).
use Rattle.std.specs.Prelude.{ℕ, ℤ, pos, negsuc, Bool, ◌&&◌, ◌==◌, nat_le, if◌then◌else◌, List, Option, Some, None, Ok, codes, bytes_eq}
use Rattle.std.specs.Option.{ok_or}
use Rattle.sound_model.specs.Numbers.{unity}
use Rattle.ses_units.specs.Name.{is_name}
use Rattle.ses_units.specs.declared.bits.Bits.{Bits}
use Rattle.ses_units.specs.declared.bits.Bits.TheVariants.{B16, B24}
use Rattle.ses_units.specs.declared.mode.Mode.{Mode}
use Rattle.ses_units.specs.declared.mode.Mode.TheVariants.{Manual, Play}
use Rattle.ses_units.specs.declared.shape.Shape.{Shape}
use Rattle.ses_units.specs.declared.shape.Shape.TheVariants.{Linear, Slow}
use Rattle.toml.specs.Data.{Data, as_integer, as_str, as_bool}
use Rattle.session_model.specs.FileName.{is_file_name}
use Rattle.session_model.specs.declared.key.Key.{Key}
use Rattle.session_model.specs.declared.refusal.SessionRefusal.TheVariants.{Missing, Kind, Range}
use Rattle.session_walk.specs.declared.said.Version.{Version}
use Rattle.session_walk.specs.declared.said.Version.TheVariants.{One, Two}
use Rattle.session_walk.specs.Section.{Section, Read, ◌>>=◌, value_at}

-- the value of a key that has no default
abbrev pub needed : Section → Key → Read Data
needed s key = ok_or (value_at s key) (Missing s.place key)

-- what is read of the value where the key stands, else the default
abbrev pub or_default : {A : Type 0} → A → (Data → Read A) → Option Data → Read A
or_default default read None = Ok default
or_default default read (Some value) = read value

-- ---- whole numbers

abbrev pub in_range : ℕ → ℕ → ℤ → Option ℕ
in_range low high (pos n) = if nat_le low n && nat_le n high then Some n else None
in_range low high (negsuc n) = None

abbrev pub integer_of : Section → Key → Data → Read ℤ
integer_of s key value = ok_or (as_integer value) (Kind s.place key)

-- a whole number from low to high
abbrev pub whole_of : Section → Key → ℕ → ℕ → Data → Read ℕ
whole_of s key low high value = integer_of s key value >>= λ z. ok_or (in_range low high z) (Range s.place key)

abbrev pub whole : Section → Key → ℕ → ℕ → Read ℕ
whole s key low high = needed s key >>= whole_of s key low high

abbrev pub whole_or : Section → Key → ℕ → ℕ → ℕ → Read ℕ
whole_or s key default low high = or_default default (whole_of s key low high) (value_at s key)

-- a gain, unity by default
abbrev pub gain_or : Section → Key → Read ℕ
gain_or s key = whole_or s key unity 0 262144

abbrev pub bits_in : ℤ → Option Bits
bits_in (pos n) = if n == 16 then Some B16 else (if n == 24 then Some B24 else None)
bits_in (negsuc n) = None

abbrev pub bits_of : Section → Key → Data → Read Bits
bits_of s key value = integer_of s key value >>= λ z. ok_or (bits_in z) (Range s.place key)

abbrev pub bits : Section → Key → Read Bits
bits s key = needed s key >>= bits_of s key

-- the version of the rules by which a text is read
abbrev pub version_in : ℤ → Option Version
version_in (pos n) = if n == 1 then Some One else (if n == 2 then Some Two else None)
version_in (negsuc n) = None

abbrev pub version_of : Section → Key → Data → Read Version
version_of s key value = integer_of s key value >>= λ z. ok_or (version_in z) (Range s.place key)

abbrev pub version : Section → Key → Read Version
version s key = needed s key >>= version_of s key

-- ---- truth values

abbrev pub flag_of : Section → Key → Data → Read Bool
flag_of s key value = ok_or (as_bool value) (Kind s.place key)

abbrev pub flag_or : Section → Key → Bool → Read Bool
flag_or s key default = or_default default (flag_of s key) (value_at s key)

-- ---- texts

abbrev pub keeping : (List ℕ → Bool) → List ℕ → Option (List ℕ)
keeping rule text = if rule text then Some text else None

abbrev pub string_of : Section → Key → Data → Read (List ℕ)
string_of s key value = ok_or (as_str value) (Kind s.place key)

abbrev pub text_of : (List ℕ → Bool) → Section → Key → Data → Read (List ℕ)
text_of rule s key value = string_of s key value >>= λ text. ok_or (keeping rule text) (Range s.place key)

-- a name of a route or a source
abbrev pub name : Section → Key → Read (List ℕ)
name s key = needed s key >>= text_of is_name s key

abbrev pub name_or : Section → Key → List ℕ → Read (List ℕ)
name_or s key default = or_default default (text_of is_name s key) (value_at s key)

-- a name of a file
abbrev pub file : Section → Key → Read (List ℕ)
file s key = needed s key >>= text_of is_file_name s key

abbrev pub mode_in : List ℕ → Option Mode
mode_in text = if bytes_eq text (codes "manual") then Some Manual else (if bytes_eq text (codes "play") then Some Play else None)

abbrev pub mode_of : Section → Key → Data → Read Mode
mode_of s key value = string_of s key value >>= λ text. ok_or (mode_in text) (Range s.place key)

abbrev pub mode_or : Section → Key → Read Mode
mode_or s key = or_default Manual (mode_of s key) (value_at s key)

abbrev pub shape_in : List ℕ → Option Shape
shape_in text = if bytes_eq text (codes "linear") then Some Linear else (if bytes_eq text (codes "slow") then Some Slow else None)

abbrev pub shape_of : Section → Key → Data → Read Shape
shape_of s key value = string_of s key value >>= λ text. ok_or (shape_in text) (Range s.place key)

abbrev pub shape_or : Section → Key → Read Shape
shape_or s key = or_default Linear (shape_of s key) (value_at s key)
