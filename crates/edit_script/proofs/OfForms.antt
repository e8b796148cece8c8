-- What is read can be printed: the values of words keep their forms, and so does the edit that they make.
use Rattle.std.proofs.Common.{◌≡◌, ℕ, suc, ◌≤◌, Bool, true, false, ◌&&◌, nat_le, List, [], ◌∷◌, Option, Some, None, Ok, Err, refl, subst, arith}
use Rattle.std.specs.Prelude.{if◌then◌else◌, codes, bytes_eq}
use Rattle.std.specs.Option.{option_map}
use Rattle.std.proofs.lemmas.Bool.Decides.{nat_tests}
use Rattle.ses_units.specs.declared.mode.Mode.TheVariants.{Manual, Play}
use Rattle.ses_units.specs.declared.shape.Shape.TheVariants.{Linear, Slow}
use Rattle.ses_units.specs.Name.{is_name}
use Rattle.session_model.specs.declared.edit.Edit.{Edit}
use Rattle.session_model.specs.declared.edit.Edit.TheVariants as edit
use Rattle.edit_script.specs.declared.refusal.LineRefusal.{LineRefusal}
use Rattle.edit_script.specs.declared.verb.Transport.{Transport}
use Rattle.edit_script.specs.declared.verb.Transport.TheVariants.{Roll, Stop, Quit, Record, Locate, Loop, LoopOff}
use Rattle.edit_script.specs.declared.verb.Strip.{Strip}
use Rattle.edit_script.specs.declared.verb.Strip.TheVariants as strip
use Rattle.edit_script.specs.declared.verb.Desk.{Desk}
use Rattle.edit_script.specs.declared.verb.Desk.TheVariants.{Point, Unpoint, Connect, Send, Unsend}
use Rattle.edit_script.specs.declared.verb.Region.{Region}
use Rattle.edit_script.specs.declared.verb.Region.TheVariants.{Add, Remove, Move, Trim}
use Rattle.edit_script.specs.declared.verb.Blend.{Blend}
use Rattle.edit_script.specs.declared.verb.Blend.TheVariants as blend
use Rattle.edit_script.specs.Words.{word_at}
use Rattle.edit_script.specs.Forms.{Form, Name, Whole, OnOff, ManualPlay, PrePost, LinearSlow, JustOff, Value, Named, Number, Switch, Mode, Pre, Shape, Off, number, within, largest, value_of, wrong}
use Rattle.edit_script.specs.Table.{transport_forms, transport_makes, strip_forms, strip_makes, desk_forms, desk_makes, region_forms, region_makes, blend_forms, blend_makes}
use Rattle.edit_script.specs.Reading.{Read, ◌>>=◌, found, values_from}
use Rattle.std.specs.List.{list_all}
use Rattle.edit_script.specs.Laws.{can_be_said, IsSayable}
use Rattle.edit_script.proofs.BackLemmas.{AllSaid}

-- a value that a word of a form may say
abbrev pub IsOf : Form → Value → Type 0
IsOf Name (Named name) = is_name name ≡ true
IsOf (Whole least most) (Number n) = (nat_le least n ≡ true) × (nat_le n most ≡ true)
IsOf OnOff (Switch on) = Unit {0}
IsOf ManualPlay (Mode mode) = Unit {0}
IsOf PrePost (Pre pre) = Unit {0}
IsOf LinearSlow (Shape shape) = Unit {0}
IsOf JustOff Off = Unit {0}
IsOf _ _ = ⊥

abbrev pub AreOf : List Form → List Value → Type 0
AreOf [] [] = Unit {0}
AreOf [] (value ∷ values) = ⊥
AreOf (form ∷ forms) [] = ⊥
AreOf (form ∷ forms) (value ∷ values) = IsOf form value × AreOf forms values

-- ---- one word

name_of : (named : Bool) (word : List ℕ) (value : Value) → is_name word ≡ named → (if named then Some (Named word) else None) ≡ Some value → IsOf Name value
name_of true word value is one = let same : Named word ≡ value = cc in subst (λ v. IsOf Name v) same is
name_of false word value is one = absurd (cc)

whole_of : (low high : Bool) (least most n : ℕ) (value : Value) → nat_le least n ≡ low → nat_le n most ≡ high → option_map Number (if low && high then Some n else None) ≡ Some value → IsOf (Whole least most) value
whole_of true true least most n value low high one = let same : Number n ≡ value = cc in subst (λ v. IsOf (Whole least most) v) same (low, high)
whole_of true false least most n value low high one = absurd (cc)
whole_of false high least most n value low is one = absurd (cc)

number_of : (o : Option ℕ) (least most : ℕ) (value : Value) → option_map Number (within least most o) ≡ Some value → IsOf (Whole least most) value
number_of None least most value one = absurd (cc)
number_of (Some n) least most value one = whole_of (nat_le least n) (nat_le n most) least most n value refl refl one

switch_of : (a b : Bool) (value : Value) → option_map Switch (if a then Some true else (if b then Some false else None)) ≡ Some value → IsOf OnOff value
switch_of true b value one = let same : Switch true ≡ value = cc in subst (λ v. IsOf OnOff v) same tt
switch_of false true value one = let same : Switch false ≡ value = cc in subst (λ v. IsOf OnOff v) same tt
switch_of false false value one = absurd (cc)

mode_of : (a b : Bool) (value : Value) → option_map Mode (if a then Some Manual else (if b then Some Play else None)) ≡ Some value → IsOf ManualPlay value
mode_of true b value one = let same : Mode Manual ≡ value = cc in subst (λ v. IsOf ManualPlay v) same tt
mode_of false true value one = let same : Mode Play ≡ value = cc in subst (λ v. IsOf ManualPlay v) same tt
mode_of false false value one = absurd (cc)

pre_of : (a b : Bool) (value : Value) → option_map Pre (if a then Some true else (if b then Some false else None)) ≡ Some value → IsOf PrePost value
pre_of true b value one = let same : Pre true ≡ value = cc in subst (λ v. IsOf PrePost v) same tt
pre_of false true value one = let same : Pre false ≡ value = cc in subst (λ v. IsOf PrePost v) same tt
pre_of false false value one = absurd (cc)

shape_of : (a b : Bool) (value : Value) → option_map Shape (if a then Some Linear else (if b then Some Slow else None)) ≡ Some value → IsOf LinearSlow value
shape_of true b value one = let same : Shape Linear ≡ value = cc in subst (λ v. IsOf LinearSlow v) same tt
shape_of false true value one = let same : Shape Slow ≡ value = cc in subst (λ v. IsOf LinearSlow v) same tt
shape_of false false value one = absurd (cc)

off_of : (a : Bool) (value : Value) → (if a then Some Off else None) ≡ Some value → IsOf JustOff value
off_of true value one = let same : Off ≡ value = cc in subst (λ v. IsOf JustOff v) same tt
off_of false value one = absurd (cc)

pub is_of : (form : Form) (word : List ℕ) (value : Value) → value_of form word ≡ Some value → IsOf form value
is_of Name word value one = name_of (is_name word) word value refl one
is_of (Whole least most) word value one = number_of (number word) least most value one
is_of OnOff word value one = switch_of (bytes_eq word (codes "on")) (bytes_eq word (codes "off")) value one
is_of ManualPlay word value one = mode_of (bytes_eq word (codes "manual")) (bytes_eq word (codes "play")) value one
is_of PrePost word value one = pre_of (bytes_eq word (codes "pre")) (bytes_eq word (codes "post")) value one
is_of LinearSlow word value one = shape_of (bytes_eq word (codes "linear")) (bytes_eq word (codes "slow")) value one
is_of JustOff word value one = off_of (bytes_eq word (codes "off")) value one

-- ---- the words of a line

first_of : (form : Form) (why : LineRefusal) (word : List ℕ) (o : Option Value) (rest : Read (List Value)) (forms : List Form) (values : List Value) → value_of form word ≡ o →
    ((others : List Value) → rest ≡ Ok others → AreOf forms others) → (found why o >>= λ v. rest >>= λ vs. Ok (v ∷ vs)) ≡ Ok values → AreOf (form ∷ forms) values
first_of form why word None rest forms values is later one = absurd (cc)
first_of form why word (Some value) (Err other) forms values is later one = absurd (cc)
first_of form why word (Some value) (Ok others) forms values is later one = let same : (value ∷ others) ≡ values = cc in
    subst (λ vs. AreOf (form ∷ forms) vs) same (is_of form word value is, later others refl)

pub are_of : (forms : List Form) (i : ℕ) (words : List (List ℕ)) (values : List Value) → values_from i forms words ≡ Ok values → AreOf forms values
are_of [] i words values one = let same : [] ≡ values = cc in subst (λ vs. AreOf [] vs) same tt
are_of (form ∷ forms) i words values one = first_of form (wrong form i) (word_at words i) (value_of form (word_at words i)) (values_from (suc i) forms words) forms values refl
    (λ others rest. are_of forms (suc i) words others rest) one
