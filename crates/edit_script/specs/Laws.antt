-- Reading and writing are one another's inverse (own).
use Rattle.std.specs.Prelude.{◌≡◌, ℕ, ◌+◌, ◌<◌, ◌≤◌, Bool, true, nat_le, List, length, slice_get, Some, None, IsSome, Ok, Err}
use Rattle.std.specs.List.{list_all}
use Rattle.ses_units.specs.Name.{is_name}
use Rattle.session_model.specs.declared.edit.Edit.{Edit}
use Rattle.engine_model.specs.Edits.{keeps_forms}
use Rattle.engine_model.specs.Lines.{Says}
use Rattle.engine_model.specs.Plain.{Do, Wait}
use Rattle.edit_script.specs.declared.refusal.LineRefusal.{LineRefusal}
use Rattle.edit_script.specs.declared.verb.Verb.{Verb}
use Rattle.edit_script.specs.Words.{word_at}
use Rattle.edit_script.specs.Forms.{Form, value_of, wrong, Value, Named, Number, Switch, Mode, Pre, Shape, Off, largest}
use Rattle.edit_script.specs.Table.{forms_of, makes}
use Rattle.edit_script.specs.Reading.{read_line, values_from}
use Rattle.edit_script.specs.Printing.{values_of, line_of_edit}

-- a word can say the value: a name keeps its rule, and 64 bits hold a number
abbrev pub can_be_said : Value → Bool
can_be_said (Named name) = is_name name
can_be_said (Number n) = nat_le n largest
can_be_said (Switch on) = true
can_be_said (Mode mode) = true
can_be_said (Pre pre) = true
can_be_said (Shape shape) = true
can_be_said Off = true

-- words can say the names and numbers of the edit; that they can, the types of its fields say
abbrev pub has_words : Edit → Bool
has_words e = list_all can_be_said (values_of e)

-- a line can say the edit
pub record IsSayable (e : Edit) : Type 0 where
  -- its id, length and layer are of their ranges
  pub forms : keeps_forms e ≡ true
  pub words : has_words e ≡ true

-- what is printed is read
abbrev pub PrintedIsRead : Type 0
PrintedIsRead = (e : Edit) → IsSayable e → read_line (line_of_edit e) ≡ Says (Do e)

-- no two edits have one line
abbrev pub LinesTellEdits : Type 0
LinesTellEdits = (e f : Edit) → IsSayable e → IsSayable f → line_of_edit e ≡ line_of_edit f → e ≡ f

-- an edit that is read can be printed
abbrev pub ReadCanBeSaid : Type 0
ReadCanBeSaid = (line : List ℕ) (e : Edit) → read_line line ≡ Says (Do e) → IsSayable e

-- a wait that is read is 1 to 100,000 cycles
abbrev pub WaitsAreFew : Type 0
WaitsAreFew = (line : List ℕ) (n : ℕ) → read_line line ≡ Says (Wait n) → (1 ≤ n) × (n ≤ 100000)

-- word i + k of a line is the first whose form fails, of the words from i on, and it is what the refusal names
pub record IsFirstWrong (i : ℕ) (forms : List Form) (words : List (List ℕ)) (why : LineRefusal) (k : ℕ) (form : Form) : Type 0 where
  pub its_form : slice_get forms k ≡ Some form
  pub fails : value_of form (word_at words (i + k)) ≡ None
  pub named : why ≡ wrong form (i + k)
  pub before : (j : ℕ) (other : Form) → j < k → slice_get forms j ≡ Some other → IsSome (value_of other (word_at words (i + j)))

-- a word that is refused is the first from the left whose form fails
abbrev pub FirstWrongIsNamed : Type 0
FirstWrongIsNamed = (v : Verb) (words : List (List ℕ)) (why : LineRefusal) → values_from 2 (forms_of v) words ≡ Err why →
    (k : ℕ) × (form : Form) × IsFirstWrong 2 (forms_of v) words why k form

-- each command makes something of words that keep its forms
abbrev pub EachVerbMakes : Type 0
EachVerbMakes = (v : Verb) (words : List (List ℕ)) (values : List Value) → values_from 2 (forms_of v) words ≡ Ok values → IsSome (makes v values)

-- the longest canonical line, in bytes
abbrev pub LinesAreShort : Type 0
LinesAreShort = (e : Edit) → IsSayable e → length (line_of_edit e) ≤ 129
