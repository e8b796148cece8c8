-- What is printed is read.
use Rattle.std.proofs.Common.{◌≡◌, suc, ◌+◌, ◌*◌, ◌≤◌, true, false, List, ◌∷◌, ◌++◌, length, map, Some, Ok, refl, ap, sym, ◌∙◌, arith}
use Rattle.std.specs.List.{list_all}
use Rattle.std.proofs.lemmas.Bool.Decides.{nat_tests}
use Rattle.std.proofs.lemmas.List.{length-map}
use Rattle.session_model.specs.declared.edit.Edit.{Edit}
use Rattle.session_model.specs.declared.edit.Edit.TheVariants as edit
use Rattle.engine_model.specs.Lines.{Says}
use Rattle.engine_model.specs.Plain as plain
use Rattle.edit_script.specs.declared.command.Command.{Command}
use Rattle.edit_script.specs.declared.command.Command.TheVariants.{Do, Nothing}
use Rattle.edit_script.specs.declared.refusal.LineRefusal.TheVariants.{NotCommand}
use Rattle.edit_script.specs.declared.verb.Verb.{Verb}
use Rattle.edit_script.specs.Words.{longest, is_text, words_of}
use Rattle.edit_script.specs.Forms.{Value}
use Rattle.edit_script.specs.Table.{word_of, forms_of, makes}
use Rattle.edit_script.specs.Reading.{Read, ◌>>=◌, found, width, verb_by, values_from, command_of, command_in, is_comment, said_by, said, line_of, read_line}
use Rattle.edit_script.specs.Printing.{text_of, verb_of, values_of, line_of_edit}
use Rattle.edit_script.specs.Laws.{IsSayable, PrintedIsRead, LinesTellEdits}
use Rattle.edit_script.proofs.PlainWords.{IsPlain, word_plain}
use Rattle.edit_script.proofs.SplitLemmas.{one_word, words_of_values, word_is_text, values_are_text, values_are_short}
use Rattle.edit_script.proofs.BackLemmas.{edit_values, edit_width}
use Rattle.edit_script.proofs.ReadingLemmas.{few, not_a_comment, said_is}

-- the command of an edit: its word is no comment, the table has it there, and its values make the edit
record IsVerbOf (e : Edit) : Type 0 where
  plain : is_comment (word_of (verb_of e)) ≡ false
  by_word : verb_by (word_of (verb_of e)) (width (verb_of e)) ≡ Ok (verb_of e)
  made : makes (verb_of e) (values_of e) ≡ Some (Do e)

verb_is : (e : Edit) → IsVerbOf e
unfolding verb_by
verb_is edit.Roll = record { plain = refl; by_word = refl; made = refl }
verb_is edit.Stop = record { plain = refl; by_word = refl; made = refl }
verb_is edit.Quit = record { plain = refl; by_word = refl; made = refl }
verb_is (edit.Recording on) = record { plain = refl; by_word = refl; made = refl }
verb_is (edit.Locate to) = record { plain = refl; by_word = refl; made = refl }
verb_is (edit.Loop from to) = record { plain = refl; by_word = refl; made = refl }
verb_is edit.LoopOff = record { plain = refl; by_word = refl; made = refl }
verb_is (edit.Arm track on) = record { plain = refl; by_word = refl; made = refl }
verb_is (edit.Solo track on) = record { plain = refl; by_word = refl; made = refl }
verb_is (edit.Mute route on) = record { plain = refl; by_word = refl; made = refl }
verb_is (edit.Gain route gain) = record { plain = refl; by_word = refl; made = refl }
verb_is (edit.Pan route left right) = record { plain = refl; by_word = refl; made = refl }
verb_is (edit.Mode route mode) = record { plain = refl; by_word = refl; made = refl }
verb_is (edit.Point route at gain) = record { plain = refl; by_word = refl; made = refl }
verb_is (edit.Unpoint route at) = record { plain = refl; by_word = refl; made = refl }
verb_is (edit.Connect route target) = record { plain = refl; by_word = refl; made = refl }
verb_is (edit.Send route target pre gain) = record { plain = refl; by_word = refl; made = refl }
verb_is (edit.Unsend route target) = record { plain = refl; by_word = refl; made = refl }
verb_is (edit.Add track id source start long at layer) = record { plain = refl; by_word = refl; made = refl }
verb_is (edit.Remove track id) = record { plain = refl; by_word = refl; made = refl }
verb_is (edit.Move track id at) = record { plain = refl; by_word = refl; made = refl }
verb_is (edit.Trim track id start long) = record { plain = refl; by_word = refl; made = refl }
verb_is (edit.Layer track id layer) = record { plain = refl; by_word = refl; made = refl }
verb_is (edit.Opaque track id on) = record { plain = refl; by_word = refl; made = refl }
verb_is (edit.RegionGain track id gain) = record { plain = refl; by_word = refl; made = refl }
verb_is (edit.Fade track id fade_in fade_out) = record { plain = refl; by_word = refl; made = refl }
verb_is (edit.Shape track id shape_in shape_out) = record { plain = refl; by_word = refl; made = refl }

edit_words : (e : Edit) → IsSayable e → words_of (line_of_edit e) ≡ word_of (verb_of e) ∷ map text_of (values_of e)
edit_words e s = let w = word_of (verb_of e) in
    words_of_values w (values_of e) s.words ∙ ap (λ ws. ws ++ map text_of (values_of e)) (one_word w (word_plain (verb_of e)))

edit_short : (e : Edit) → IsSayable e → length (line_of_edit e) ≤ longest
edit_short e s = let plain : IsPlain (word_of (verb_of e)) = word_plain (verb_of e) in
    let word : length (word_of (verb_of e)) ≤ 24 = grind (arith, nat_tests, plain.short) in
    let all : length (line_of_edit e) ≤ length (word_of (verb_of e)) + 25 * length (values_of e) = values_are_short (word_of (verb_of e)) (values_of e) s.words in
    let wide : length (map text_of (values_of e)) ≡ length (forms_of (verb_of e)) = edit_width e s in
    let most : width (verb_of e) ≤ 8 = few (verb_of e) in
    omega (arith, length-map (values_of e) text_of)

edit_text : (e : Edit) → IsSayable e → list_all is_text (line_of_edit e) ≡ true
edit_text e s = values_are_text (word_of (verb_of e)) (values_of e) s.words (word_is_text (word_of (verb_of e)) (word_plain (verb_of e)))

command_back : (r : Read (List Value)) (v : Verb) (values : List Value) (command : Command) → r ≡ Ok values → makes v values ≡ Some command → (r >>= λ vs. found NotCommand (makes v vs)) ≡ Ok command
command_back r v values command read made = ap (λ q. q >>= λ vs. found NotCommand (makes v vs)) read ∙ ap (found NotCommand) made

edit_command : (e : Edit) → IsSayable e → command_in (word_of (verb_of e) ∷ map text_of (values_of e)) ≡ Ok (Do e)
edit_command e s = let v = verb_of e in let words = word_of v ∷ map text_of (values_of e) in
    ap (λ n. verb_by (word_of v) n >>= λ u. command_of u words) (ap suc (edit_width e s))
    ∙ ap (λ r. r >>= λ u. command_of u words) (verb_is e).by_word
    ∙ command_back (values_from 2 (forms_of v) words) v (values_of e) (Do e) (edit_values e (word_of v) s) (verb_is e).made

said_edit : (e : Edit) → IsSayable e → said (line_of_edit e) ≡ Ok (Do e)
said_edit e s = let w = word_of (verb_of e) in let words = map text_of (values_of e) in
    said_is (line_of_edit e) (edit_short e s) (edit_text e s)
    ∙ ap said_by (edit_words e s)
    ∙ not_a_comment (is_comment w) (Ok Nothing) (command_in (w ∷ words)) (verb_is e).plain
    ∙ edit_command e s

pub printed_is_read : PrintedIsRead
unfolding read_line
printed_is_read e s = ap line_of (said_edit e s)

pub lines_tell_edits : LinesTellEdits
lines_tell_edits e f s t same = let one : Says (plain.Do e) ≡ Says (plain.Do f) = sym (printed_is_read e s) ∙ ap read_line same ∙ printed_is_read f t in cc
