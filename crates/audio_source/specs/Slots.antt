-- Where held lines stand: each of 64 slots is empty or has a line, whose samples are those from slot * room on.
use Rattle.std.specs.Prelude.{◌≡◌, ℕ, ◌*◌, ◌<◌, ◌≤◌, nat_eq, ℤ, List, [], ◌∷◌, length, map, take, drop, All, Contains, ◌⊎◌, Option, Some, None, IfSome}
use Rattle.std.specs.List.{IsDistinct}
use Rattle.std.specs.Map.{keys_of, lookup}
use Rattle.lru.specs.LruCache.{last_entry}
use Rattle.sound_model.specs.Wav.{sound}
use Rattle.ses_io.specs.Files.{Files, content}
use Rattle.wav_codec.specs.Info.{head_of}
use Rattle.session_model.specs.Frames.{interleaved, IsSample}
use Rattle.audio_source.specs.declared.entry.Entry.{Entry}
use Rattle.audio_source.specs.Lines.{same_line, asked_line}
use Rattle.audio_source.specs.declared.line.LineName.{LineName}

-- the slots with a line, up to the first that is empty: the name of the line, and the slot
abbrev pub used : List (ℕ × Option LineName) → List (LineName × ℕ)
used [] = []
used ((slot, None) ∷ slots) = []
used ((slot, Some name) ∷ slots) = (name, slot) ∷ used slots

-- the samples of a slot
abbrev pub slot_samples : ℕ → List ℤ → ℕ → List ℤ
slot_samples room samples slot = take room (drop (slot * room) samples)

-- each line with its samples
abbrev pub lines_in : ℕ → List ℤ → List (LineName × ℕ) → List (LineName × List ℤ)
lines_in room samples slots = map (λ u. (u.0, slot_samples room samples u.1)) slots

-- What contracts see of lines: the samples that each has room for, and the names and samples, the most recently used first.
pub record LineStore : Type 0 where
  pub room : ℕ
  pub held : List (LineName × List ℤ)

abbrev pub line_store : ℕ → List (LineName × List ℤ) → LineStore
line_store room held = record { room = room; held = held }

-- There are 64 slots, of the numbers 0 to 63.
pub record AreSlots (slots : List (ℕ × Option LineName)) : Type 0 where
  pub many : length slots ≡ 64
  pub low : All (λ e. e.0 < 64) slots

-- What is kept of slots and samples.
pub record IsStore (room : ℕ) (samples : List ℤ) (entries : List (ℕ × Option LineName)) : Type 0 where
  pub slots : AreSlots entries
  pub few : room ≤ 4096 * 65535
  pub long : length samples ≡ 64 * room
  pub range : All IsSample samples

-- A slot is the last one, and no other.
pub record IsLast (slots : List (ℕ × Option LineName)) (slot : ℕ) : Type 0 where
  pub below : slot < 64
  pub last : IfSome (last_entry slots) (λ e. e.0 ≡ slot)
  pub apart : IsDistinct nat_eq (keys_of slots)

-- A line was read: it is the first with samples of which P holds, and the others stand as they stood, but the last of 64.
pub record IsRead (name : LineName) (old new : List (LineName × List ℤ)) (P : List ℤ → Type 0) : Type 0 where
  pub samples : List ℤ
  pub held : new ≡ (name, samples) ∷ take 63 old
  pub read : P samples

-- the front of the samples is the line of the source's file
abbrev pub IsLineOf : Files → Entry → ℕ → List ℤ → Type 0
IsLineOf files e line samples = take (4096 * e.info.channels) samples ≡
    interleaved (sound (head_of e.info) (content files e.file)) e.info.channels (4096 * line) (4096 * e.info.channels)

-- each line that is held was held, or is this one with samples of which Q holds
abbrev pub StaysHeld : LineName → (List ℤ → Type 0) → List (LineName × List ℤ) → List (LineName × List ℤ) → Type 0
StaysHeld name Q old new = All (λ l. Contains old l ⊎ ((l.0 ≡ name) × Q l.1)) new

-- A line of the file was asked and not held, and the lines stand as they stood.
pub record IsMissed (name : LineName) (frames many : ℕ) (old new : List (LineName × List ℤ)) : Type 0 where
  pub asked : asked_line name.source frames name.line many ≡ name ∷ []
  pub missed : lookup (same_line name) old ≡ None
  pub same : new ≡ old

-- Q holds of each line of the source that is held
abbrev pub AreLinesOf : ℕ → (ℕ → List ℤ → Type 0) → List (LineName × List ℤ) → Type 0
AreLinesOf source Q held = All (λ l. l.0.source ≡ source → Q l.0.line l.1) held

-- each line that is held was held, or is one of the source with samples of which Q holds
abbrev pub StayHeld : ℕ → (ℕ → List ℤ → Type 0) → List (LineName × List ℤ) → List (LineName × List ℤ) → Type 0
StayHeld source Q old new = All (λ l. Contains old l ⊎ ((l.0.source ≡ source) × Q l.0.line l.1)) new
