-- Lines of 4,096 frames that are held: which, in which order, and that they are those of the files.
use Rattle.std.specs.Prelude.{◌≡◌, ℕ, ◌+◌, ◌-◌, ◌*◌, ◌/◌, ◌%◌, min, ◌==◌, ◌&&◌, nat_lt, ℤ, Bool, false, if◌then◌else◌, List, [], ◌∷◌, ◌++◌, map, take, slice_get, slice_index, All, Result, Ok, Err}
use Rattle.std.specs.List.{list_any}
use Rattle.std.specs.Option.{option_map_or}
use Rattle.ses_io.specs.Files.{Files}
use Rattle.session_model.specs.Frames.{interleaved}
use Rattle.audio_source.specs.declared.line.LineName.{LineName}
use Rattle.audio_source.specs.Opened.{OpenedSource, channels_of}
use Rattle.audio_source.specs.Told.{source_sound}

-- a line of a source that is held, and its samples
pub record HeldLine : Type 0 where
  pub source : ℕ
  pub line : ℕ
  pub samples : List ℤ

-- What contracts see of sources: those that were opened, and the lines that are held, the most recently used first.
pub record SourcesState : Type 0 where
  pub opened : List OpenedSource
  pub held : List HeldLine

-- ---- what they hold

-- the samples are those of the file
abbrev pub IsAsRead : Files → List OpenedSource → HeldLine → Type 0
IsAsRead files opened h = let channels = slice_index (channels_of opened) h.source in
    h.samples ≡ interleaved (source_sound files opened h.source) channels (4096 * h.line) (4096 * channels)

-- each held line is as the files have it
abbrev pub HoldsAsRead : Files → SourcesState → Type 0
HoldsAsRead files s = All (IsAsRead files s.opened) s.held

-- ---- which they are, and in which order

abbrev pub line_name : ℕ → ℕ → LineName
line_name source line = record { source = source; line = line }

abbrev pub same_line : LineName → LineName → Bool
same_line a b = (a.source == b.source) && (a.line == b.line)

abbrev pub names_of : List HeldLine → List LineName
names_of held = map (λ h. line_name h.source h.line) held

abbrev pub is_held : LineName → List LineName → Bool
is_held name names = list_any (same_line name) names

-- the lines without that one
abbrev pub without : LineName → List LineName → List LineName
without name [] = []
without name (n ∷ ns) = if same_line name n then ns else (n ∷ without name ns)

-- that line first, the others as they stood, cut at 64
abbrev pub touched : LineName → List LineName → List LineName
touched name names = take 64 (name ∷ without name names)

-- after these lines were asked, one after the other
abbrev pub after_asking : List LineName → List LineName → List LineName
after_asking [] names = names
after_asking (line ∷ lines) names = after_asking lines (touched line names)

-- a line, where some frames of it are asked and its first frame is one of so many
abbrev pub asked_line : ℕ → ℕ → ℕ → ℕ → List LineName
asked_line source frames line many = if nat_lt 0 many && nat_lt (4096 * line) frames then line_name source line ∷ [] else []

-- the lines of a source that are asked by so many samples from a frame on: the one that this frame lies in, and the next
abbrev pub asked_of : ℕ → ℕ → ℕ → ℕ → ℕ → List LineName
asked_of source channels frames from many = let first = min many (4096 * channels - from % 4096 * channels) in
    asked_line source frames (from / 4096) first ++ asked_line source frames (from / 4096 + 1) (many - first)

-- the same by the source's head
abbrev pub asked_in : List OpenedSource → ℕ → ℕ → ℕ → List LineName
asked_in opened source from many = option_map_or (λ o. asked_of source o.head.form.channels o.head.frames from many) (slice_get opened source) []

-- A line that was asked wasn't held when its turn came. Those before it were asked, and nothing else changed.
pub record IsFaultAt (lines old new : List LineName) : Type 0 where
  pub before : List LineName
  pub line : LineName
  pub rest : List LineName
  pub asked : lines ≡ before ++ line ∷ rest
  pub missed : is_held line new ≡ false
  pub kept : new ≡ after_asking before old

-- What a call leaves of the lines: at Ok each was asked in its turn, and after a fault those before one that wasn't held.
abbrev pub HasAsked : {T E : Type 0} → List LineName → List LineName → Result T E → List LineName → Type 0
HasAsked lines old (Ok done) new = new ≡ after_asking lines old
HasAsked lines old (Err fault) new = IsFaultAt lines old new
