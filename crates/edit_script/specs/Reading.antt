-- What a control line says (own).
use Rattle.std.specs.Prelude.{ℕ, suc, Bool, true, false, not, ◌==◌, nat_lt, if◌then◌else◌, List, [], ◌∷◌, length, filter, find, Option, Some, None, Result, Ok, Err, codes, bytes_eq, nat_eq}
use Rattle.std.specs.List.{list_all, starts_with}
use Rattle.engine_model.specs.Plain as plain
use Rattle.engine_model.specs.Lines as engine
use Rattle.edit_script.specs.declared.command.Command.{Command}
use Rattle.edit_script.specs.declared.command.Command.TheVariants.{Do, Wait, Sync, Nothing}
use Rattle.edit_script.specs.declared.refusal.LineRefusal.{LineRefusal}
use Rattle.edit_script.specs.declared.refusal.LineRefusal.TheVariants.{Long, NotText, NotCommand, Words, BadName, Number, Choice}
use Rattle.edit_script.specs.declared.verb.Verb.{Verb}
use Rattle.edit_script.specs.Words.{longest, is_text, words_of, word_at}
use Rattle.edit_script.specs.Forms.{Form, Value, value_of, wrong}
use Rattle.edit_script.specs.Table.{verbs, word_of, forms_of, makes}

-- what is read, or the first refusal
abbrev pub Read : Type 0 → Type 0
Read A = Result A LineRefusal

infixl 10 ◌>>=◌
abbrev pub ◌>>=◌ : {A B : Type 0} → Read A → (A → Read B) → Read B
(Ok x) >>= f = f x
(Err why) >>= f = Err why

-- what is read, seen as something else
abbrev pub seen_as : {A B : Type 0} → (A → B) → Read A → Read B
seen_as f (Ok x) = Ok (f x)
seen_as f (Err why) = Err why

abbrev pub refused_if : Bool → LineRefusal → Read (Unit {0})
refused_if true why = Err why
refused_if false why = Ok tt

abbrev pub found : {A : Type 0} → LineRefusal → Option A → Read A
found why None = Err why
found why (Some x) = Ok x

-- ---- the command of a word

-- the words of a command, its own among them
abbrev pub width : Verb → ℕ
width v = suc (length (forms_of v))

-- of the verbs of one word, the one that takes so many words
abbrev pub verb_among : ℕ → List Verb → Read Verb
verb_among n [] = Err NotCommand
verb_among n (v ∷ vs) = found (Words n) (find (λ u. width u == n) (v ∷ vs))

-- the verb of a word, in a line of so many words
unfoldable pub verb_by : List ℕ → ℕ → Read Verb
verb_by word n = verb_among n (filter (λ v. bytes_eq (word_of v) word) verbs)

-- ---- the words behind it

abbrev pub value_at : Form → ℕ → List (List ℕ) → Read Value
value_at form i words = found (wrong form i) (value_of form (word_at words i))

-- the values of the words of a line from word i on
abbrev pub values_from : ℕ → List Form → List (List ℕ) → Read (List Value)
values_from i [] words = Ok []
values_from i (form ∷ forms) words = do
  value ← value_at form i words
  values ← values_from (suc i) forms words
  Ok (value ∷ values)

-- ---- a line

-- the command of a verb; its words are as many as it takes
abbrev pub command_of : Verb → List (List ℕ) → Read Command
command_of verb words = do
  values ← values_from 2 (forms_of verb) words
  found NotCommand (makes verb values)

-- what words say whose first isn't a comment
abbrev pub command_in : List (List ℕ) → Read Command
command_in words = do
  verb ← verb_by (word_at words 1) (length words)
  command_of verb words

abbrev pub is_comment : List ℕ → Bool
is_comment word = starts_with nat_eq word (codes "#")

abbrev pub said_by : List (List ℕ) → Read Command
said_by [] = Ok Nothing
said_by (word ∷ words) = if is_comment word then Ok Nothing else command_in (word ∷ words)

-- what a line says, or why it isn't read
abbrev pub said : List ℕ → Read Command
said line = do
  short ← refused_if (nat_lt longest (length line)) Long
  text ← refused_if (not (list_all is_text line)) NotText
  said_by (words_of line)

-- ---- in the words of the engine

abbrev pub refusal_of : LineRefusal → engine.LineRefusal
refusal_of Long = engine.Long
refusal_of NotText = engine.NotText
refusal_of NotCommand = engine.NotCommand
refusal_of (Words n) = engine.Words n
refusal_of (BadName i) = engine.BadName i
refusal_of (Number i) = engine.Number i
refusal_of (Choice i) = engine.Choice i

abbrev pub line_of : Read Command → engine.Line
line_of (Ok (Do edit)) = engine.Says (plain.Do edit)
line_of (Ok (Wait n)) = engine.Says (plain.Wait n)
line_of (Ok Sync) = engine.Says plain.Sync
line_of (Ok Nothing) = engine.Nothing
line_of (Err why) = engine.Unread (refusal_of why)

-- what one line says to the engine
unfoldable pub read_line : List ℕ → engine.Line
read_line line = line_of (said line)
