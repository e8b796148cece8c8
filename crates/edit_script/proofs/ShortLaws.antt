-- The longest canonical line.
use Rattle.std.proofs.Common.{◌≡◌, ℕ, suc, ◌+◌, ◌<◌, ◌≤◌, ◌^◌, Bool, true, false, nat_le, List, [], ◌∷◌, length, decimal, refl, arith}
use Rattle.std.specs.Prelude.{if◌then◌else◌}
use Rattle.std.proofs.lemmas.Bool.Decides.{nat_tests}
use Rattle.std.proofs.lemmas.Fmt.{length-decimal-le}
use Rattle.std.proofs.lemmas.List.{length-append}
use Rattle.ses_units.specs.declared.mode.Mode.TheVariants.{Manual, Play}
use Rattle.ses_units.specs.declared.shape.Shape.TheVariants.{Linear, Slow}
use Rattle.edit_script.specs.declared.verb.Verb.{Verb}
use Rattle.edit_script.specs.declared.verb.Verb.TheVariants as verb
use Rattle.edit_script.specs.declared.verb.Transport.{Transport}
use Rattle.edit_script.specs.declared.verb.Transport.TheVariants.{Roll, Stop, Quit, Record, Locate, Loop, LoopOff}
use Rattle.edit_script.specs.declared.verb.Strip.{Strip}
use Rattle.edit_script.specs.declared.verb.Strip.TheVariants as strip
use Rattle.edit_script.specs.declared.verb.Desk.{Desk}
use Rattle.edit_script.specs.declared.verb.Desk.TheVariants.{Point, Unpoint, Connect, Send, Unsend}
use Rattle.edit_script.specs.declared.verb.Region.{Region}
use Rattle.edit_script.specs.declared.verb.Region.TheVariants.{Add, Remove, Move, Trim}
use Rattle.edit_script.specs.declared.verb.Blend.{Blend}
use Rattle.edit_script.specs.declared.verb.Blend.TheVariants as blend
use Rattle.edit_script.specs.Forms.{Form, Name, Whole, OnOff, ManualPlay, PrePost, LinearSlow, JustOff, Value, Named, Number, Switch, Mode, Pre, Shape, Off, largest}
use Rattle.edit_script.specs.Table.{word_of, forms_of, transport_word, transport_forms, strip_word, strip_forms, desk_word, desk_forms, region_word, region_forms, blend_word, blend_forms}
use Rattle.edit_script.specs.Printing.{text_of, with_word, with_values, verb_of, values_of, line_of_edit}
use Rattle.edit_script.specs.Laws.{can_be_said, LinesAreShort}
use Rattle.edit_script.proofs.PlainWords.{small, IsPlain, text_plain}
use Rattle.edit_script.proofs.BackLemmas.{AllSaid, all_said, AllBack, edit_back}
use Rattle.edit_script.proofs.OfForms.{IsOf, is_of}

-- the most digits of a number up to one
abbrev digits_up_to : ℕ → ℕ
digits_up_to most = if nat_le most 65535 then 5 else if nat_le most 999999 then 6 else 20

-- the most bytes of a word of a form
abbrev most_of : Form → ℕ
most_of Name = 24
most_of (Whole least most) = digits_up_to most
most_of OnOff = 3
most_of ManualPlay = 6
most_of PrePost = 4
most_of LinearSlow = 6
most_of JustOff = 3

few_digits : (low middle : Bool) (most n : ℕ) → nat_le most 65535 ≡ low → nat_le most 999999 ≡ middle → n ≤ most → n < 2 ^ 64 →
    length (decimal n) ≤ (if low then 5 else if middle then 6 else 20)
few_digits true middle most n low mid range fits = let high : most ≤ 65535 = grind (arith, nat_tests) in length-decimal-le 5 n (omega arith) (omega arith) fits
few_digits false true most n low mid range fits = let high : most ≤ 999999 = grind (arith, nat_tests) in length-decimal-le 6 n (omega arith) (omega arith) fits
few_digits false false most n low mid range fits = length-decimal-le 20 n (omega arith) (omega arith) fits

short_name : (name : List ℕ) → IsPlain name → length name ≤ 24
short_name name plain = grind (arith, nat_tests, plain.short)

short_number : (least most n : ℕ) → nat_le n most ≡ true → nat_le n largest ≡ true → length (decimal n) ≤ digits_up_to most
short_number least most n range fits = let in_range : n ≤ most = grind (arith, nat_tests) in few_digits (nat_le most 65535) (nat_le most 999999) most n refl refl in_range (small n fits)

short_value : (form : Form) (value : Value) → IsOf form value → can_be_said value ≡ true → length (text_of value) ≤ most_of form
short_value Name (Named name) is said = short_name name (text_plain (Named name) said)
short_value (Whole least most) (Number n) is said = short_number least most n is.1 said
short_value OnOff (Switch true) is said = omega arith
short_value OnOff (Switch false) is said = omega arith
short_value ManualPlay (Mode Manual) is said = omega arith
short_value ManualPlay (Mode Play) is said = omega arith
short_value PrePost (Pre true) is said = omega arith
short_value PrePost (Pre false) is said = omega arith
short_value LinearSlow (Shape Linear) is said = omega arith
short_value LinearSlow (Shape Slow) is said = omega arith
short_value JustOff Off is said = omega arith
short_value form value is said = absurd (assumption)

-- the most bytes of words of forms, each with a space before it
abbrev room : List Form → ℕ
room [] = 0
room (form ∷ forms) = suc (most_of form) + room forms

short_values : (forms : List Form) (values : List Value) (line : List ℕ) → AllBack forms values → AllSaid values → length (with_values line values) ≤ length line + room forms
short_values [] [] line back said = omega arith
short_values [] (value ∷ values) line back said = absurd back
short_values (form ∷ forms) [] line back said = absurd back
short_values (form ∷ forms) (value ∷ values) line back said = let more : length (with_values (with_word line (text_of value)) values) ≤ length (with_word line (text_of value)) + room forms =
    short_values forms values (with_word line (text_of value)) back.1 said.1 in
    let word : length (text_of value) ≤ most_of form = short_value form value (is_of form (text_of value) value back.0) said.0 in
    omega (arith, length-append line (32 ∷ text_of value))

-- ---- each command

transport_room : (v : Transport) → nat_le (length (transport_word v) + room (transport_forms v)) 129 ≡ true
transport_room Roll = refl
transport_room Stop = refl
transport_room Quit = refl
transport_room Record = refl
transport_room Locate = refl
transport_room Loop = refl
transport_room LoopOff = refl

strip_room : (v : Strip) → nat_le (length (strip_word v) + room (strip_forms v)) 129 ≡ true
strip_room strip.Arm = refl
strip_room strip.Solo = refl
strip_room strip.Mute = refl
strip_room strip.Gain = refl
strip_room strip.Pan = refl
strip_room strip.Mode = refl

desk_room : (v : Desk) → nat_le (length (desk_word v) + room (desk_forms v)) 129 ≡ true
desk_room Point = refl
desk_room Unpoint = refl
desk_room Connect = refl
desk_room Send = refl
desk_room Unsend = refl

region_room : (v : Region) → nat_le (length (region_word v) + room (region_forms v)) 129 ≡ true
region_room Add = refl
region_room Remove = refl
region_room Move = refl
region_room Trim = refl

blend_room : (v : Blend) → nat_le (length (blend_word v) + room (blend_forms v)) 129 ≡ true
blend_room blend.Layer = refl
blend_room blend.Opaque = refl
blend_room blend.Gain = refl
blend_room blend.Fade = refl
blend_room blend.Shape = refl

verb_room : (v : Verb) → nat_le (length (word_of v) + room (forms_of v)) 129 ≡ true
verb_room (verb.Transport v) = transport_room v
verb_room (verb.Strip v) = strip_room v
verb_room (verb.Desk v) = desk_room v
verb_room (verb.Region v) = region_room v
verb_room (verb.Blend v) = blend_room v
verb_room verb.Wait = refl
verb_room verb.Sync = refl

fits_room : (n : ℕ) → nat_le n 129 ≡ true → n ≤ 129
fits_room n fits = grind (arith, nat_tests)

pub lines_are_short : LinesAreShort
lines_are_short e s = let said = all_said (values_of e) s.words in
    let all : length (line_of_edit e) ≤ length (word_of (verb_of e)) + room (forms_of (verb_of e)) =
    short_values (forms_of (verb_of e)) (values_of e) (word_of (verb_of e)) (edit_back e said s) said in
    let most : length (word_of (verb_of e)) + room (forms_of (verb_of e)) ≤ 129 = fits_room _ (verb_room (verb_of e)) in
    omega arith
