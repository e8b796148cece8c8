-- The words of canonical lines: none is empty, and none has a blank in it.
use Rattle.std.proofs.Common.{◌≡◌, ℕ, ◌<◌, ◌≤◌, ◌^◌, Bool, true, false, ◌&&◌, nat_le, List, [], ◌∷◌, length, decimal, refl, ◌∙◌, arith, slice_index}
use Rattle.std.specs.Char.{is_ascii_digit}
use Rattle.std.specs.List.{list_all}
use Rattle.std.proofs.lemmas.Bool.Decides.{nat_tests}
use Rattle.std.proofs.lemmas.Fmt.{digits_decimal, decimal_nonempty, length-decimal-le}
use Rattle.ses_units.specs.declared.mode.Mode.TheVariants.{Manual, Play}
use Rattle.ses_units.specs.declared.shape.Shape.TheVariants.{Linear, Slow}
use Rattle.ses_units.specs.Name.{is_name, is_name_byte, is_letter}
use Rattle.edit_script.specs.declared.verb.Verb.{Verb}
use Rattle.edit_script.specs.declared.verb.Verb.TheVariants as verb
use Rattle.edit_script.specs.declared.verb.Transport.{Transport}
use Rattle.edit_script.specs.declared.verb.Transport.TheVariants.{Roll, Stop, Quit, Record, Locate, Loop, LoopOff}
use Rattle.edit_script.specs.declared.verb.Strip.{Strip}
use Rattle.edit_script.specs.declared.verb.Strip.TheVariants as strip
use Rattle.edit_script.specs.declared.verb.Desk.{Desk}
use Rattle.edit_script.specs.declared.verb.Desk.TheVariants.{Point, Unpoint, Connect, Send, Unsend}
use Rattle.edit_script.specs.declared.verb.Region.{Region}
use Rattle.edit_script.specs.declared.verb.Region.TheVariants.{Add, Remove, Move, Trim}
use Rattle.edit_script.specs.declared.verb.Blend.{Blend}
use Rattle.edit_script.specs.declared.verb.Blend.TheVariants as blend
use Rattle.edit_script.specs.Words.{is_text, is_blank, has_bytes}
use Rattle.edit_script.specs.Forms.{Value, Named, Number, Switch, Mode, Pre, Shape, Off, largest}
use Rattle.edit_script.specs.Table.{word_of, transport_word, strip_word, desk_word, region_word, blend_word}
use Rattle.edit_script.specs.Printing.{text_of}
use Rattle.edit_script.specs.Laws.{can_be_said}
use Rattle.edit_script.proofs.NumberLemmas.{numerals, all_digits, left, right}

-- a byte that is seen
abbrev pub is_plain : ℕ → Bool
is_plain b = nat_le 33 b && nat_le b 126

pub plain_is_text : (b : ℕ) → is_plain b ≡ true → is_text b ≡ true
plain_is_text b plain = grind (arith, nat_tests)

pub plain_is_no_blank : (b : ℕ) → is_plain b ≡ true → is_blank b ≡ false
plain_is_no_blank b plain = grind (arith, nat_tests)

pub record IsPlain (word : List ℕ) : Type 0 where
  pub some : has_bytes word ≡ true
  pub plain : list_all is_plain word ≡ true
  pub short : nat_le (length word) 24 ≡ true

-- a test that passes what another passes
pub all_pass : (p q : ℕ → Bool) → ((b : ℕ) → p b ≡ true → q b ≡ true) → (bs : List ℕ) → list_all p bs ≡ true → list_all q bs ≡ true
all_pass p q more [] all = refl
all_pass p q more (b ∷ bs) all = rw (more b (left (p b) (list_all p bs) all), all_pass p q more bs (right (p b) (list_all p bs) all)) refl

name_byte_plain : (b : ℕ) → is_name_byte b ≡ true → is_plain b ≡ true
name_byte_plain b named = grind (arith, nat_tests)

digit_plain : (b : ℕ) → is_ascii_digit b ≡ true → is_plain b ≡ true
digit_plain b digit = grind (arith, nat_tests)

-- the parts of the rule of names
rule_parts : (a b c d : Bool) → (a && b && c && d) ≡ true → (a ≡ true) × (b ≡ true) × (d ≡ true)
rule_parts true true true d all = (refl, refl, all)
rule_parts true true false d all = absurd (cc)
rule_parts true false c d all = absurd (cc)
rule_parts false b c d all = absurd (cc)

name_plain : (name : List ℕ) → is_name name ≡ true → IsPlain name
name_plain name named = let parts = rule_parts (nat_le 1 (length name)) (nat_le (length name) 24) (is_letter (slice_index name 0)) (list_all is_name_byte name) named in
    record { some = parts.0; plain = all_pass is_name_byte is_plain name_byte_plain name parts.2; short = parts.1 }

pub small : (n : ℕ) → nat_le n largest ≡ true → n < 2 ^ 64
small n fits = grind (arith, nat_tests)

decimal_plain : (n : ℕ) → nat_le n largest ≡ true → IsPlain (decimal n)
decimal_plain n fits = let in_range : n < 2 ^ 64 = small n fits in
    let some : 0 < length (decimal n) = decimal_nonempty n in_range in
    let short : length (decimal n) ≤ 20 = length-decimal-le 20 n (omega arith) (omega arith) in_range in
    record {
      some = grind (arith, nat_tests, some);
      plain = all_pass is_ascii_digit is_plain digit_plain (decimal n) (all_digits (decimal n) ∙ digits_decimal numerals n in_range);
      short = grind (arith, nat_tests, short);
    }

-- the word of a value
pub text_plain : (value : Value) → can_be_said value ≡ true → IsPlain (text_of value)
text_plain (Named name) said = name_plain name said
text_plain (Number n) said = decimal_plain n said
text_plain (Switch true) said = record { some = refl; plain = refl; short = refl }
text_plain (Switch false) said = record { some = refl; plain = refl; short = refl }
text_plain (Mode Manual) said = record { some = refl; plain = refl; short = refl }
text_plain (Mode Play) said = record { some = refl; plain = refl; short = refl }
text_plain (Pre true) said = record { some = refl; plain = refl; short = refl }
text_plain (Pre false) said = record { some = refl; plain = refl; short = refl }
text_plain (Shape Linear) said = record { some = refl; plain = refl; short = refl }
text_plain (Shape Slow) said = record { some = refl; plain = refl; short = refl }
text_plain Off said = record { some = refl; plain = refl; short = refl }

-- the words of the commands
transport_plain : (v : Transport) → IsPlain (transport_word v)
transport_plain Roll = record { some = refl; plain = refl; short = refl }
transport_plain Stop = record { some = refl; plain = refl; short = refl }
transport_plain Quit = record { some = refl; plain = refl; short = refl }
transport_plain Record = record { some = refl; plain = refl; short = refl }
transport_plain Locate = record { some = refl; plain = refl; short = refl }
transport_plain Loop = record { some = refl; plain = refl; short = refl }
transport_plain LoopOff = record { some = refl; plain = refl; short = refl }

strip_plain : (v : Strip) → IsPlain (strip_word v)
strip_plain strip.Arm = record { some = refl; plain = refl; short = refl }
strip_plain strip.Solo = record { some = refl; plain = refl; short = refl }
strip_plain strip.Mute = record { some = refl; plain = refl; short = refl }
strip_plain strip.Gain = record { some = refl; plain = refl; short = refl }
strip_plain strip.Pan = record { some = refl; plain = refl; short = refl }
strip_plain strip.Mode = record { some = refl; plain = refl; short = refl }

desk_plain : (v : Desk) → IsPlain (desk_word v)
desk_plain Point = record { some = refl; plain = refl; short = refl }
desk_plain Unpoint = record { some = refl; plain = refl; short = refl }
desk_plain Connect = record { some = refl; plain = refl; short = refl }
desk_plain Send = record { some = refl; plain = refl; short = refl }
desk_plain Unsend = record { some = refl; plain = refl; short = refl }

region_plain : (v : Region) → IsPlain (region_word v)
region_plain Add = record { some = refl; plain = refl; short = refl }
region_plain Remove = record { some = refl; plain = refl; short = refl }
region_plain Move = record { some = refl; plain = refl; short = refl }
region_plain Trim = record { some = refl; plain = refl; short = refl }

blend_plain : (v : Blend) → IsPlain (blend_word v)
blend_plain blend.Layer = record { some = refl; plain = refl; short = refl }
blend_plain blend.Opaque = record { some = refl; plain = refl; short = refl }
blend_plain blend.Gain = record { some = refl; plain = refl; short = refl }
blend_plain blend.Fade = record { some = refl; plain = refl; short = refl }
blend_plain blend.Shape = record { some = refl; plain = refl; short = refl }

pub word_plain : (v : Verb) → IsPlain (word_of v)
word_plain (verb.Transport v) = transport_plain v
word_plain (verb.Strip v) = strip_plain v
word_plain (verb.Desk v) = desk_plain v
word_plain (verb.Region v) = region_plain v
word_plain (verb.Blend v) = blend_plain v
word_plain verb.Wait = record { some = refl; plain = refl; short = refl }
word_plain verb.Sync = record { some = refl; plain = refl; short = refl }
