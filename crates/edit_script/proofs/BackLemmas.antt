-- The word of each value is read back by its form.
use Rattle.std.proofs.Common.{◌≡◌, ℕ, suc, ◌-◌, ◌<◌, ◌≤◌, ◌^◌, Bool, true, false, ◌&&◌, nat_le, List, [], ◌∷◌, ◌++◌, append_assoc, length, map, decimal, Some, Ok, refl, ap, sym, ◌∙◌, arith}
use Rattle.std.specs.Prelude.{slice_get, unwrap_or}
use Rattle.std.specs.List.{list_all}
use Rattle.std.specs.Option.{option_map}
use Rattle.std.specs.Char.{is_ascii_digit}
use Rattle.std.proofs.lemmas.Bool.Decides.{nat_tests}
use Rattle.std.proofs.lemmas.List.{length-append}
use Rattle.std.proofs.lemmas.Fmt.{digits_decimal, digits_value-decimal, decimal_nonempty, length-decimal-le}
use Rattle.ses_units.specs.declared.mode.Mode as unit_mode
use Rattle.ses_units.specs.declared.mode.Mode.TheVariants.{Manual, Play}
use Rattle.ses_units.specs.declared.shape.Shape as unit_shape
use Rattle.ses_units.specs.declared.shape.Shape.TheVariants.{Linear, Slow}
use Rattle.ses_units.specs.Name.{is_name}
use Rattle.session_model.specs.declared.edit.Edit.{Edit}
use Rattle.session_model.specs.declared.edit.Edit.TheVariants as edit
use Rattle.edit_script.specs.Words.{word_at}
use Rattle.edit_script.specs.Forms.{Form, Name, Whole, OnOff, ManualPlay, PrePost, LinearSlow, Value, Named, Number, Switch, Mode, Pre, Shape, number, within, largest, any, value_of, wrong}
use Rattle.edit_script.specs.Table.{forms_of}
use Rattle.edit_script.specs.Reading.{Read, ◌>>=◌, found, value_at, values_from}
use Rattle.edit_script.specs.Printing.{text_of, verb_of, values_of}
use Rattle.edit_script.specs.Laws.{can_be_said, IsSayable}
use Rattle.edit_script.proofs.NumberLemmas.{numerals, all_digits, left, right}
use Rattle.edit_script.proofs.PlainWords.{small}

-- ---- one word

-- the form reads the word of the value as that value
abbrev pub Back : Form → Value → Type 0
Back form value = value_of form (text_of value) ≡ Some value

name_back : (name : List ℕ) → is_name name ≡ true → Back Name (Named name)
name_back name named = rw named refl

number_back : (n : ℕ) → nat_le n largest ≡ true → number (decimal n) ≡ Some n
number_back n fits = let in_range : n < 2 ^ 64 = small n fits in
    let some : nat_le 1 (length (decimal n)) ≡ true = grind (arith, nat_tests, decimal_nonempty n in_range) in
    let short : length (decimal n) ≤ 20 = length-decimal-le 20 n (omega arith) (omega arith) in_range in
    let few : nat_le (length (decimal n)) 20 ≡ true = grind (arith, nat_tests, short) in
    let digits : list_all is_ascii_digit (decimal n) ≡ true = all_digits (decimal n) ∙ digits_decimal numerals n in_range in
    rw (some, few, digits) (ap (λ k. Some k) (digits_value-decimal numerals n in_range))

within_is : (least most n : ℕ) → nat_le least n ≡ true → nat_le n most ≡ true → within least most (Some n) ≡ Some n
within_is least most n low high = rw (low, high) refl

whole_back : (least most n : ℕ) → nat_le n largest ≡ true → nat_le least n ≡ true → nat_le n most ≡ true → Back (Whole least most) (Number n)
whole_back least most n fits low high = ap (λ o. option_map Number (within least most o)) (number_back n fits) ∙ ap (option_map Number) (within_is least most n low high)

least_zero : (n : ℕ) → nat_le 0 n ≡ true
least_zero n = grind (arith, nat_tests)

any_back : (n : ℕ) → nat_le n largest ≡ true → Back any (Number n)
any_back n fits = whole_back 0 largest n fits (least_zero n) fits

switch_back : (on : Bool) → Back OnOff (Switch on)
switch_back true = refl
switch_back false = refl

mode_back : (mode : unit_mode.Mode) → Back ManualPlay (Mode mode)
mode_back Manual = refl
mode_back Play = refl

pre_back : (pre : Bool) → Back PrePost (Pre pre)
pre_back true = refl
pre_back false = refl

shape_back : (shape : unit_shape.Shape) → Back LinearSlow (Shape shape)
shape_back Linear = refl
shape_back Slow = refl

-- ---- the words of an edit

abbrev pub AllBack : List Form → List Value → Type 0
AllBack [] [] = Unit {0}
AllBack [] (value ∷ values) = ⊥
AllBack (form ∷ forms) [] = ⊥
AllBack (form ∷ forms) (value ∷ values) = Back form value × AllBack forms values

-- each of the values can be said
abbrev pub AllSaid : List Value → Type 0
AllSaid [] = Unit {0}
AllSaid (value ∷ values) = (can_be_said value ≡ true) × AllSaid values

pub all_said : (values : List Value) → list_all can_be_said values ≡ true → AllSaid values
all_said [] said = tt
all_said (value ∷ values) said = (left (can_be_said value) (list_all can_be_said values) said, all_said values (right (can_be_said value) (list_all can_be_said values) said))

id_back : (id : ℕ) → nat_le id largest ≡ true → (nat_le 1 id && nat_le id 999999) ≡ true → Back (Whole 1 999999) (Number id)
id_back id fits range = whole_back 1 999999 id fits (left (nat_le 1 id) (nat_le id 999999) range) (right (nat_le 1 id) (nat_le id 999999) range)

long_back : (n : ℕ) → nat_le n largest ≡ true → nat_le 1 n ≡ true → Back (Whole 1 largest) (Number n)
long_back n fits some = whole_back 1 largest n fits some fits

layer_back : (n : ℕ) → nat_le n largest ≡ true → nat_le n 65535 ≡ true → Back (Whole 0 65535) (Number n)
layer_back n fits range = whole_back 0 65535 n fits (least_zero n) range

abbrev id_range : ℕ → Bool
id_range id = nat_le 1 id && nat_le id 999999

pub edit_back : (e : Edit) → AllSaid (values_of e) → IsSayable e → AllBack (forms_of (verb_of e)) (values_of e)
edit_back edit.Roll p s = tt
edit_back edit.Stop p s = tt
edit_back edit.Quit p s = tt
edit_back (edit.Recording on) p s = (switch_back on, tt)
edit_back (edit.Locate to) p s = (any_back to p.0, tt)
edit_back (edit.Loop from to) p s = (any_back from p.0, (any_back to p.1.0, tt))
edit_back edit.LoopOff p s = (refl, tt)
edit_back (edit.Arm track on) p s = (name_back track p.0, (switch_back on, tt))
edit_back (edit.Solo track on) p s = (name_back track p.0, (switch_back on, tt))
edit_back (edit.Mute route on) p s = (name_back route p.0, (switch_back on, tt))
edit_back (edit.Gain route gain) p s = (name_back route p.0, (any_back gain p.1.0, tt))
edit_back (edit.Pan route to_left to_right) p s = (name_back route p.0, (any_back to_left p.1.0, (any_back to_right p.1.1.0, tt)))
edit_back (edit.Mode route mode) p s = (name_back route p.0, (mode_back mode, tt))
edit_back (edit.Point route at gain) p s = (name_back route p.0, (any_back at p.1.0, (any_back gain p.1.1.0, tt)))
edit_back (edit.Unpoint route at) p s = (name_back route p.0, (any_back at p.1.0, tt))
edit_back (edit.Connect route target) p s = (name_back route p.0, (name_back target p.1.0, tt))
edit_back (edit.Send route target pre gain) p s = (name_back route p.0, (name_back target p.1.0, (pre_back pre, (any_back gain p.1.1.1.0, tt))))
edit_back (edit.Unsend route target) p s = (name_back route p.0, (name_back target p.1.0, tt))
edit_back (edit.Add track id source start long at layer) p s = let both = left (id_range id && nat_le 1 long) (nat_le layer 65535) s.forms in (
  name_back track p.0,
  (
    id_back id p.1.0 (left (id_range id) (nat_le 1 long) both),
    (
      name_back source p.1.1.0,
      (
        any_back start p.1.1.1.0,
        (
          long_back long p.1.1.1.1.0 (right (id_range id) (nat_le 1 long) both),
          (
            any_back at p.1.1.1.1.1.0,
            (layer_back layer p.1.1.1.1.1.1.0 (right (id_range id && nat_le 1 long) (nat_le layer 65535) s.forms), tt),
          ),
        ),
      ),
    ),
  ),
)
edit_back (edit.Remove track id) p s = (name_back track p.0, (id_back id p.1.0 s.forms, tt))
edit_back (edit.Move track id at) p s = (name_back track p.0, (id_back id p.1.0 s.forms, (any_back at p.1.1.0, tt)))
edit_back (edit.Trim track id start long) p s = (
  name_back track p.0,
  (
    id_back id p.1.0 (left (id_range id) (nat_le 1 long) s.forms),
    (
      any_back start p.1.1.0,
      (long_back long p.1.1.1.0 (right (id_range id) (nat_le 1 long) s.forms), tt),
    ),
  ),
)
edit_back (edit.Layer track id layer) p s = (name_back track p.0, (id_back id p.1.0 (left (id_range id) (nat_le layer 65535) s.forms), (layer_back layer p.1.1.0 (right (id_range id) (nat_le layer 65535) s.forms), tt)))
edit_back (edit.Opaque track id on) p s = (name_back track p.0, (id_back id p.1.0 s.forms, (switch_back on, tt)))
edit_back (edit.RegionGain track id gain) p s = (name_back track p.0, (id_back id p.1.0 s.forms, (any_back gain p.1.1.0, tt)))
edit_back (edit.Fade track id fade_in fade_out) p s = (name_back track p.0, (id_back id p.1.0 s.forms, (any_back fade_in p.1.1.0, (any_back fade_out p.1.1.1.0, tt))))
edit_back (edit.Shape track id shape_in shape_out) p s = (name_back track p.0, (id_back id p.1.0 s.forms, (shape_back shape_in, (shape_back shape_out, tt))))

-- ---- in a line

next_word : (before : List (List ℕ)) (w : List ℕ) (words : List (List ℕ)) → slice_get (before ++ w ∷ words) (length before) ≡ Some w
next_word [] w words = refl
next_word (b ∷ before) w words = next_word before w words

word_at_end : (before : List (List ℕ)) (w : List ℕ) (words : List (List ℕ)) (i : ℕ) → i ≡ suc (length before) → word_at (before ++ w ∷ words) i ≡ w
word_at_end before w words i place = let before_it : i - 1 ≡ length before = omega arith in
    ap (λ k. unwrap_or (slice_get (before ++ w ∷ words) k) []) before_it ∙ ap (λ o. unwrap_or o []) (next_word before w words)

read_first : (form : Form) (value : Value) (i : ℕ) (words : List (List ℕ)) → word_at words i ≡ text_of value → Back form value → value_at form i words ≡ Ok value
read_first form value i words is back = ap (found (wrong form i)) (ap (value_of form) is ∙ back)

read_on : (r : Read Value) (rest : Read (List Value)) (value : Value) (values : List Value) → r ≡ Ok value → rest ≡ Ok values →
    (r >>= λ v. rest >>= λ vs. Ok (v ∷ vs)) ≡ Ok (value ∷ values)
read_on r rest value values first others = rw (first, others) refl

values_back : (forms : List Form) (values : List Value) (i : ℕ) (before : List (List ℕ)) → AllBack forms values → i ≡ suc (length before) →
    values_from i forms (before ++ map text_of values) ≡ Ok values
values_back [] [] i before back place = refl
values_back [] (value ∷ values) i before back place = absurd back
values_back (form ∷ forms) [] i before back place = absurd back
values_back (form ∷ forms) (value ∷ values) i before back place =
    let words = before ++ map text_of (value ∷ values) in
    let moved : before ++ map text_of (value ∷ values) ≡ (before ++ text_of value ∷ []) ++ map text_of values = sym (append_assoc before (text_of value ∷ []) (map text_of values)) in
    read_on (value_at form i words) (values_from (suc i) forms words) value values
    (read_first form value i words (word_at_end before (text_of value) (map text_of values) i place) back.0)
    (ap (values_from (suc i) forms) moved ∙ values_back forms values (suc i) (before ++ text_of value ∷ []) back.1 (omega (arith, length-append before (text_of value ∷ []))))

as_many : (forms : List Form) (values : List Value) → AllBack forms values → length (map text_of values) ≡ length forms
as_many [] [] back = refl
as_many [] (value ∷ values) back = absurd back
as_many (form ∷ forms) [] back = absurd back
as_many (form ∷ forms) (value ∷ values) back = ap suc (as_many forms values back.1)

-- an edit has as many values as its command has forms
pub edit_width : (e : Edit) → IsSayable e → length (map text_of (values_of e)) ≡ length (forms_of (verb_of e))
edit_width e s = as_many (forms_of (verb_of e)) (values_of e) (edit_back e (all_said (values_of e) s.words) s)

-- the words of an edit, behind the first, are read as its values
pub edit_values : (e : Edit) (first : List ℕ) → IsSayable e → values_from 2 (forms_of (verb_of e)) (first ∷ map text_of (values_of e)) ≡ Ok (values_of e)
edit_values e first s = values_back (forms_of (verb_of e)) (values_of e) 2 (first ∷ []) (edit_back e (all_said (values_of e) s.words) s) refl
