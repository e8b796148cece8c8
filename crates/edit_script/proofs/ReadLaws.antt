-- What a line says keeps the forms of its words.
use Rattle.std.proofs.Common.{◌≡◌, ℕ, ◌≤◌, Bool, true, false, not, nat_lt, List, [], ◌∷◌, length, Option, Some, is_some, Ok, Err, refl, ap, subst, arith}
use Rattle.std.specs.Prelude.{if◌then◌else◌}
use Rattle.std.specs.List.{list_all}
use Rattle.std.proofs.lemmas.Bool.Decides.{nat_tests}
use Rattle.session_model.specs.declared.edit.Edit.{Edit}
use Rattle.engine_model.specs.Lines.{Says}
use Rattle.engine_model.specs.Plain as plain
use Rattle.edit_script.specs.declared.command.Command.{Command}
use Rattle.edit_script.specs.declared.command.Command.TheVariants.{Do, Wait, Sync, Nothing}
use Rattle.edit_script.specs.declared.refusal.LineRefusal.TheVariants.{Long, NotText, NotCommand}
use Rattle.edit_script.specs.declared.verb.Verb.{Verb}
use Rattle.edit_script.specs.declared.verb.Verb.TheVariants as verb
use Rattle.edit_script.specs.Words.{longest, is_text, words_of, word_at}
use Rattle.edit_script.specs.Forms.{Value, Number}
use Rattle.edit_script.specs.Table.{forms_of, makes, done}
use Rattle.edit_script.specs.Reading.{Read, ◌>>=◌, refused_if, found, verb_by, values_from, command_of, command_in, is_comment, said_by, said, line_of, read_line}
use Rattle.edit_script.specs.Laws.{IsSayable, ReadCanBeSaid, WaitsAreFew, EachVerbMakes}
use Rattle.edit_script.proofs.OfForms.{AreOf, are_of}
use Rattle.edit_script.proofs.MadeOf.{Makes, transport_made, strip_made, desk_made, region_made, blend_made}

-- a command that a line may say
abbrev Keeps : Command → Type 0
Keeps (Do e) = IsSayable e
Keeps (Wait n) = (1 ≤ n) × (n ≤ 100000)
Keeps Sync = Unit {0}
Keeps Nothing = Unit {0}

abbrev MakesCommand : Option Command → Type 0
MakesCommand made = (c : Command) × (made ≡ Some c) × Keeps c

done_made : (made : Option Edit) → Makes made → MakesCommand (done made)
done_made made p = (Do p.0, ap done p.1, p.2)

command_made : (v : Verb) (values : List Value) → AreOf (forms_of v) values → MakesCommand (makes v values)
command_made (verb.Transport v) values p = done_made _ (transport_made v values p)
command_made (verb.Strip v) values p = done_made _ (strip_made v values p)
command_made (verb.Desk v) values p = done_made _ (desk_made v values p)
command_made (verb.Region v) values p = done_made _ (region_made v values p)
command_made (verb.Blend v) values p = done_made _ (blend_made v values p)
command_made verb.Wait (Number n ∷ []) p = let low = p.0.0 in let high = p.0.1 in (Wait n, refl, (grind (arith, nat_tests), grind (arith, nat_tests)))
command_made verb.Wait values p = absurd (assumption)
command_made verb.Sync [] p = (Sync, refl, tt)
command_made verb.Sync values p = absurd (assumption)

pub each_verb_makes : EachVerbMakes
each_verb_makes v words values read = let made = command_made v values (are_of (forms_of v) 2 words values read) in ap is_some made.1

-- ---- step by step

step : {A : Type 0} (r : Read A) (f : A → Read Command) (c : Command) → (r >>= f) ≡ Ok c → (a : A) × (r ≡ Ok a) × (f a ≡ Ok c)
step (Ok a) f c one = (a, refl, one)
step (Err why) f c one = absurd (cc)

found_keeps : (made : Option Command) (c : Command) → MakesCommand made → found NotCommand made ≡ Ok c → Keeps c
found_keeps made c p one = let same : p.0 ≡ c = cc (ap (found NotCommand) p.1) in subst Keeps same p.2

command_keeps : (v : Verb) (words : List (List ℕ)) (c : Command) → command_of v words ≡ Ok c → Keeps c
command_keeps v words c one = let p = step (values_from 2 (forms_of v) words) (λ values. found NotCommand (makes v values)) c one in
    found_keeps (makes v p.0) c (command_made v p.0 (are_of (forms_of v) 2 words p.0 p.1)) p.2

in_keeps : (words : List (List ℕ)) (c : Command) → command_in words ≡ Ok c → Keeps c
in_keeps words c one = let p = step (verb_by (word_at words 1) (length words)) (λ v. command_of v words) c one in command_keeps p.0 words c p.2

comment_keeps : (comment : Bool) (r : Read Command) (c : Command) → (r ≡ Ok c → Keeps c) → (if comment then Ok Nothing else r) ≡ Ok c → Keeps c
comment_keeps true r c keeps one = let same : Nothing ≡ c = cc in subst Keeps same tt
comment_keeps false r c keeps one = keeps one

words_keep : (words : List (List ℕ)) (c : Command) → said_by words ≡ Ok c → Keeps c
words_keep [] c one = let same : Nothing ≡ c = cc in subst Keeps same tt
words_keep (word ∷ words) c one = comment_keeps (is_comment word) (command_in (word ∷ words)) c (in_keeps (word ∷ words) c) one

line_keeps : (line : List ℕ) (c : Command) → said line ≡ Ok c → Keeps c
line_keeps line c one =
    let p = step (refused_if (nat_lt longest (length line)) Long) (λ short. refused_if (not (list_all is_text line)) NotText >>= λ text. said_by (words_of line)) c one in
    let q = step (refused_if (not (list_all is_text line)) NotText) (λ text. said_by (words_of line)) c p.2 in
    words_keep (words_of line) c q.2

-- ---- in the words of the engine

says_edit : (r : Read Command) (e : Edit) → line_of r ≡ Says (plain.Do e) → r ≡ Ok (Do e)
says_edit (Ok (Do f)) e one = let same : f ≡ e = cc in ap (λ g. Ok (Do g)) same
says_edit (Ok (Wait n)) e one = absurd (cc)
says_edit (Ok Sync) e one = absurd (cc)
says_edit (Ok Nothing) e one = absurd (cc)
says_edit (Err why) e one = absurd (cc)

says_wait : (r : Read Command) (n : ℕ) → line_of r ≡ Says (plain.Wait n) → r ≡ Ok (Wait n)
says_wait (Ok (Do f)) n one = absurd (cc)
says_wait (Ok (Wait m)) n one = let same : m ≡ n = cc in ap (λ k. Ok (Wait k)) same
says_wait (Ok Sync) n one = absurd (cc)
says_wait (Ok Nothing) n one = absurd (cc)
says_wait (Err why) n one = absurd (cc)

pub read_can_be_said : ReadCanBeSaid
unfolding read_line
read_can_be_said line e one = line_keeps line (Do e) (says_edit (said line) e one)

pub waits_are_few : WaitsAreFew
unfolding read_line
waits_are_few line n one = line_keeps line (Wait n) (says_wait (said line) n one)
