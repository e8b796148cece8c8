-- Words of the command line, parted into positional words and options (own). Words are lists of bytes.
use Rattle.std.specs.Prelude.{ℕ, ◌+◌, Bool, true, false, ◌&&◌, ◌==◌, if◌then◌else◌, List, [], ◌∷◌, ◌++◌, take, drop, Option, Some, None, position, codes, bytes_eq}
use Rattle.std.specs.Option.{option_map}

-- ---- words

-- a word that begins with `-` and isn't `-` alone
abbrev pub is_option : List ℕ → Bool
is_option [] = false
is_option (b ∷ []) = false
is_option (b ∷ c ∷ bs) = b == 45

-- a word that is no value where it stands behind its option
abbrev pub begins_with_dash : List ℕ → Bool
begins_with_dash [] = false
begins_with_dash (b ∷ bs) = b == 45

-- ---- options

-- the options that take a value
pub data Kind : Type 0 where
  Seed : Kind
  Steps : Kind
  Patience : Kind

-- an option, with the value that it takes
pub data Setting : Type 0 where
  Serial : Setting
  With : Kind → List ℕ → Setting

abbrev pub kind_of : List ℕ → Option Kind
kind_of name = if bytes_eq name (codes "--seed") then Some Seed
    else (if bytes_eq name (codes "--steps") then Some Steps
    else (if bytes_eq name (codes "--patience") then Some Patience else None))

-- what a word is that is no value
pub data Word : Type 0 where
  -- `--`: all later words are positional
  Marker : Word
  Positional : Word
  -- an option, whole in this word
  Whole : Setting → Word
  -- an option whose value is the next word
  Awaits : Kind → Word
  -- an option that there isn't
  Unknown : Word

-- an option with the value behind its `=`
abbrev pub with_value : Option Kind → List ℕ → Word
with_value None value = Unknown
with_value (Some kind) value = Whole (With kind value)

-- an option without `=`
abbrev pub without_value : Option Kind → Word
without_value None = Unknown
without_value (Some kind) = Awaits kind

-- an option, by the place of the first `=` (61)
abbrev pub option_word : List ℕ → Option ℕ → Word
option_word w None = if bytes_eq w (codes "--serial") then Whole Serial else without_value (kind_of w)
option_word w (Some i) = with_value (kind_of (take i w)) (drop (i + 1) w)

abbrev pub word_of : List ℕ → Word
word_of w = if bytes_eq w (codes "--") then Marker
    else (if is_option w then option_word w (position (λ b. b == 61) w) else Positional)

-- ---- the words of a command

-- Positional words and options, each in their order.
pub record Parts : Type 0 where
  pub positional : List (List ℕ)
  pub settings : List Setting

-- all words behind a marker
abbrev pub marked : List (List ℕ) → Parts
marked ws = record { positional = ws; settings = [] }

-- a word, or an option, before others
abbrev pub with_positional : List ℕ → Parts → Parts
with_positional w p = record { positional = w ∷ p.positional; settings = p.settings }

abbrev pub with_setting : Setting → Parts → Parts
with_setting s p = record { positional = p.positional; settings = s ∷ p.settings }

-- what a word makes of the later words; these are read by the option whose value comes first, if there is one
abbrev pub read_as : Word → List ℕ → List (List ℕ) → (Option Kind → Option Parts) → Option Parts
read_as Marker w ws later = Some (marked ws)
read_as Positional w ws later = option_map (with_positional w) (later None)
read_as (Whole s) w ws later = option_map (with_setting s) (later None)
read_as (Awaits kind) w ws later = later (Some kind)
read_as Unknown w ws later = None

-- The parts of some words, behind an option whose value comes first, if there is one.
unfoldable pub parted : List (List ℕ) → Option Kind → Option Parts
parted [] None = Some (marked [])
parted [] (Some kind) = None
parted (w ∷ ws) None = read_as (word_of w) w ws (parted ws)
parted (w ∷ ws) (Some kind) = if begins_with_dash w then None else option_map (with_setting (With kind w)) (parted ws None)

-- ---- few parts

-- parts, and later ones
abbrev pub joined : Parts → Parts → Parts
joined p q = record { positional = p.positional ++ q.positional; settings = p.settings ++ q.settings }

abbrev pub are_at_most_three : List (List ℕ) → Bool
are_at_most_three (a ∷ b ∷ c ∷ d ∷ ws) = false
are_at_most_three _ = true

abbrev pub are_at_most_one : List Setting → Bool
are_at_most_one (s ∷ t ∷ ss) = false
are_at_most_one _ = true

-- the parts where there are at most three positional words and one option: no command has more
abbrev pub few : Option Parts → Option Parts
few None = None
few (Some p) = if are_at_most_three p.positional && are_at_most_one p.settings then Some p else None
