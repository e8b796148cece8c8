-- Why lines aren't read, in worked lines: the first reason that holds.
use Rattle.std.proofs.Common.{◌≡◌, [], ◌∷◌, ◌++◌, refl, codes}
use Rattle.std.specs.Prelude.{replicate}
use Rattle.std.specs.Fmt.{digits}
use Rattle.session_model.specs.declared.edit.Edit.TheVariants as edit
use Rattle.engine_model.specs.Lines.{Nothing, Says, Unread, Long, NotText, NotCommand, Words, BadName, Number, Choice}
use Rattle.engine_model.specs.Plain.{Do}
use Rattle.edit_script.specs.Reading.{read_line, verb_by}
use Rattle.edit_script.specs.Refusals.{refusal_text}

too_long : read_line (replicate 4097 7) ≡ Unread Long
unfolding read_line verb_by
too_long = refl

-- 4,096 bytes aren't
the_longest : read_line (replicate 4096 32) ≡ Nothing
unfolding read_line verb_by
the_longest = refl

-- a comment is text too
not_text : read_line (codes "# " ++ 127 ∷ []) ≡ Unread NotText
unfolding read_line verb_by
not_text = refl

control_byte : read_line (codes "roll" ++ 13 ∷ []) ≡ Unread NotText
unfolding read_line verb_by
control_byte = refl

not_command : read_line (codes "rolls 1 2") ≡ Unread NotCommand
unfolding read_line verb_by
not_command = refl

-- the words of a command are small letters
capital : read_line (codes "Roll") ≡ Unread NotCommand
unfolding read_line verb_by
capital = refl

no_value : read_line (codes "locate") ≡ Unread (Words 1)
unfolding read_line verb_by
no_value = refl

a_word_more : read_line (codes "roll on") ≡ Unread (Words 2)
unfolding read_line verb_by
a_word_more = refl

-- its number of words before the forms of them
number_first : read_line (codes "gain T 1 2") ≡ Unread (Words 4)
unfolding read_line verb_by
number_first = refl

-- the number of words says which `loop` it is
loop_of_two : read_line (codes "loop 5") ≡ Unread (Choice 2)
unfolding read_line verb_by
loop_of_two = refl

loop_of_three : read_line (codes "loop off 5") ≡ Unread (Number 2)
unfolding read_line verb_by
loop_of_three = refl

loop_alone : read_line (codes "loop") ≡ Unread (Words 1)
unfolding read_line verb_by
loop_alone = refl

loop_of_four : read_line (codes "loop 1 2 3") ≡ Unread (Words 4)
unfolding read_line verb_by
loop_of_four = refl

bad_name : read_line (codes "arm T maybe") ≡ Unread (BadName 2)
unfolding read_line verb_by
bad_name = refl

bad_switch : read_line (codes "arm t maybe") ≡ Unread (Choice 3)
unfolding read_line verb_by
bad_switch = refl

-- the first of several from the left
first_of_two : read_line (codes "add t 0 A 1 1 1 1") ≡ Unread (Number 3)
unfolding read_line verb_by
first_of_two = refl

layer_too_high : read_line (codes "add t 1 a 0 1 0 65536") ≡ Unread (Number 8)
unfolding read_line verb_by
layer_too_high = refl

no_length : read_line (codes "trim t 1 0 0") ≡ Unread (Number 5)
unfolding read_line verb_by
no_length = refl

large_id : read_line (codes "remove t 1000000") ≡ Unread (Number 3)
unfolding read_line verb_by
large_id = refl

-- 2^64
past_64_bits : read_line (codes "locate 18446744073709551616") ≡ Unread (Number 2)
unfolding read_line verb_by
past_64_bits = refl

twenty_digits : read_line (codes "locate 00000000000000000001") ≡ Says (Do (edit.Locate 1))
unfolding read_line verb_by
twenty_digits = refl

twenty_one_digits : read_line (codes "locate 000000000000000000001") ≡ Unread (Number 2)
unfolding read_line verb_by
twenty_one_digits = refl

signed : read_line (codes "locate +1") ≡ Unread (Number 2)
unfolding read_line verb_by
signed = refl

no_cycles : read_line (codes "wait 0") ≡ Unread (Number 2)
unfolding read_line verb_by
no_cycles = refl

too_many_cycles : read_line (codes "wait 100001") ≡ Unread (Number 2)
unfolding read_line verb_by
too_many_cycles = refl

-- ---- their words

says_long : refusal_text Long ≡ codes "long"
says_long = refl

says_words : refusal_text (Words 3) ≡ codes "words 3"
unfolding digits
says_words = refl

says_name : refusal_text (BadName 2) ≡ codes "name 2"
unfolding digits
says_name = refl

says_number : refusal_text (Number 10) ≡ codes "number 10"
unfolding digits
says_number = refl

says_choice : refusal_text (Choice 5) ≡ codes "choice 5"
unfolding digits
says_choice = refl
