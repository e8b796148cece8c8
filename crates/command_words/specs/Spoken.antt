-- The words of a command as the definitions have them.
use Rattle.std.specs.Prelude.{ℕ, ◌^◌, ◌<◌, ◌≤◌, List, [], ◌∷◌, length, map, Option, Some, None, IsTrue}
use Rattle.std.specs.Borrow.{Bor}
use Rattle.std.specs.List.{list_all}
use Rattle.std.specs.Option.{option_map}
use Rattle.command_words.specs.declared.asked.Export as code
use Rattle.command_words.specs.declared.asked.Render as code_render
use Rattle.command_words.specs.declared.asked.Play as code_play
use Rattle.command_words.specs.declared.asked.Verify as code_verify
use Rattle.command_words.specs.declared.asked.Mode as code_mode
use Rattle.command_words.specs.declared.asked.Mode.TheVariants as mode
use Rattle.command_words.specs.declared.asked.Command as code_command
use Rattle.command_words.specs.declared.asked.Command.TheVariants as of_code
use Rattle.command_words.specs.declared.options.Kind as code_kind
use Rattle.command_words.specs.declared.options.Kind.TheVariants as kind
use Rattle.command_words.specs.declared.options.Setting as code_setting
use Rattle.command_words.specs.declared.options.Setting.TheVariants as setting
use Rattle.command_words.specs.declared.options.Word as code_word
use Rattle.command_words.specs.declared.options.Word.TheVariants as word
use Rattle.command_words.specs.declared.parts.Parts as code_parts
use Rattle.command_words.specs.declared.parts.Place as code_place
use Rattle.command_words.specs.declared.parts.Place.TheVariants as place
use Rattle.command_words.specs.declared.parts.Found as code_found
use Rattle.command_words.specs.declared.verbs.Verb as code_verb
use Rattle.command_words.specs.declared.verbs.Verb.TheVariants as verb
use Rattle.command_words.specs.Options as option
use Rattle.command_words.specs.Options.{Parts, few, joined, marked, parted}
use Rattle.command_words.specs.Verbs as named
use Rattle.command_words.specs.Words as asked
use Rattle.command_words.specs.Words.{Export, Render, Play, Verify, Command, ToExport, ToMigrate, ToCheck, ToRender, ToPlay, ToVerify, ToGen, is_letter}

-- ---- what is asked

-- the bytes of words
abbrev pub texts : List (Bor (List ℕ)) → List (List ℕ)
texts words = map (λ w. w.now) words

abbrev pub export_view : code.Export → Export
export_view e = record { session = e.session.now; from = e.from; cycles = e.cycles }

abbrev pub render_view : code_render.Render → Render
render_view r = record { session = r.session.now; from = r.from; frames = r.frames }

abbrev pub mode_view : code_mode.Mode → asked.Mode
mode_view mode.Serial = asked.Serial
mode_view (mode.Steps letters) = asked.Steps letters.now
mode_view (mode.Seed n) = asked.Seed n
mode_view (mode.Threads patience) = asked.Threads patience

abbrev pub play_view : code_play.Play → Play
play_view p = record { session = p.session.now; cycles = p.cycles; mode = mode_view p.mode }

abbrev pub verify_view : code_verify.Verify → Verify
verify_view v = record { session = v.session.now; report = v.report.now; master = v.master.now }

abbrev pub command_view : code_command.Command → Command
command_view (of_code.Check session) = ToCheck session.now
command_view (of_code.Render r) = ToRender (render_view r)
command_view (of_code.Export e) = ToExport (export_view e)
command_view (of_code.Migrate session) = ToMigrate session.now
command_view (of_code.Play p) = ToPlay (play_view p)
command_view (of_code.Verify v) = ToVerify (verify_view v)
command_view (of_code.Gen number) = ToGen number

-- ---- ranges

-- The numbers of an export lie in their ranges.
pub record IsInRange (e : code.Export) : Type 0 where
  pub from : e.from < 2 ^ 40
  pub some : 1 ≤ e.cycles
  pub few : e.cycles ≤ 100000

-- and those of a render
pub record IsRenderInRange (r : code_render.Render) : Type 0 where
  pub from : r.from < 2 ^ 40
  pub some : 1 ≤ r.frames
  pub few : r.frames ≤ 409600000

-- There are 1 to 10,000 letters, each of them one of the five.
pub record AreSteps (letters : List ℕ) : Type 0 where
  pub some : 1 ≤ length letters
  pub few : length letters ≤ 10000
  pub known : IsTrue (list_all is_letter letters)

-- It is 1 to 100,000,000.
pub record IsPatience (n : ℕ) : Type 0 where
  pub some : 1 ≤ n
  pub few : n ≤ 100000000

abbrev pub IsModeInRange : code_mode.Mode → Type 0
IsModeInRange mode.Serial = Unit {0}
IsModeInRange (mode.Steps letters) = AreSteps letters.now
IsModeInRange (mode.Seed n) = n < 2 ^ 64
IsModeInRange (mode.Threads patience) = IsPatience patience

-- The numbers of a play lie in their ranges, and so does what its mode says.
pub record IsPlayInRange (p : code_play.Play) : Type 0 where
  pub some : 1 ≤ p.cycles
  pub few : p.cycles ≤ 100000
  pub mode : IsModeInRange p.mode

-- those of each command
abbrev pub KeepsRanges : code_command.Command → Type 0
KeepsRanges (of_code.Check session) = Unit {0}
KeepsRanges (of_code.Render r) = IsRenderInRange r
KeepsRanges (of_code.Export e) = IsInRange e
KeepsRanges (of_code.Migrate session) = Unit {0}
KeepsRanges (of_code.Play p) = IsPlayInRange p
KeepsRanges (of_code.Verify v) = Unit {0}
KeepsRanges (of_code.Gen number) = number ≤ 8191

-- ---- words as they are looked at

abbrev pub verb_view : code_verb.Verb → named.Verb
verb_view verb.Check = named.Check
verb_view verb.Render = named.Render
verb_view verb.Export = named.Export
verb_view verb.Migrate = named.Migrate
verb_view verb.Play = named.Play
verb_view verb.Verify = named.Verify
verb_view verb.Gen = named.Gen

abbrev pub kind_view : code_kind.Kind → option.Kind
kind_view kind.Seed = option.Seed
kind_view kind.Steps = option.Steps
kind_view kind.Patience = option.Patience

abbrev pub setting_view : code_setting.Setting → option.Setting
setting_view setting.Serial = option.Serial
setting_view (setting.With k value) = option.With (kind_view k) value.now

abbrev pub word_view : code_word.Word → option.Word
word_view word.Marker = option.Marker
word_view word.Positional = option.Positional
word_view (word.Whole s) = option.Whole (setting_view s)
word_view (word.Awaits k) = option.Awaits (kind_view k)
word_view word.Unknown = option.Unknown

abbrev pub settings_view : Option code_setting.Setting → List option.Setting
settings_view None = []
settings_view (Some s) = setting_view s ∷ []

abbrev pub parts_view : code_parts.Parts → Parts
parts_view p = record { positional = texts p.positional.items; settings = settings_view p.setting }

-- what the words to come add, at this place
abbrev pub parts_behind : code_place.Place → List (List ℕ) → Option Parts
parts_behind place.Free rest = parted rest None
parts_behind (place.Awaits k) rest = parted rest (Some (kind_view k))
parts_behind place.Marked rest = Some (marked rest)

-- the parts found so far with later ones, where they are few
abbrev pub few_with : code_parts.Parts → Option Parts → Option Parts
few_with p later = few (option_map (joined (parts_view p)) later)

-- and with those of the words to come
abbrev pub few_from : code_found.Found → List (List ℕ) → Option Parts
few_from f rest = few_with f.parts (parts_behind f.place rest)
