-- What is answered of an edit, as the definitions of the engine have it.
use Rattle.std.specs.Prelude.{◌≡◌, Option, Result, Ok, Err}
use Rattle.std.specs.Option.{option_map}
use Rattle.session_model.specs.declared.session.Session.{Session}
use Rattle.session_model.specs.declared.edit.Edit.{Edit}
use Rattle.engine_model.specs.Refusals.{Checked}
use Rattle.engine_model.specs.Commands.{change_of}
use Rattle.locate_loop.specs.declared.transport.Wrap.{Wrap}
use Rattle.locate_loop.specs.Transport.{wrap_of}
use Rattle.session_change.specs.declared.change.Change.{Change}
use Rattle.session_change.specs.Change.{change_seen}
use Rattle.edit_resolve.specs.declared.reason.Refusal.{Refusal}
use Rattle.edit_resolve.specs.Reason.{refusal_of}

-- the answer is what checks come to: what its value stands for, or the same refusal
abbrev pub Tells : {A B : Type 0} → (A → B) → Checked B → Result A Refusal → Type 0
Tells seen checked (Ok x) = checked ≡ Ok (seen x)
Tells seen checked (Err why) = checked ≡ Err (refusal_of why)

-- the answer is what a rule comes to: that it is kept, or the same refusal
abbrev pub Asks : {A : Type 0} → Checked (Unit {0}) → Result A Refusal → Type 0
Asks rule (Ok x) = rule ≡ Ok tt
Asks rule (Err why) = rule ≡ Err (refusal_of why)

-- the answer is what an edit changes of a session in which this loop is in force, or the first rule that it breaks
abbrev pub Resolves : Session → Option Wrap → Edit → Result Change Refusal → Type 0
Resolves s wrap edit (Ok c) = change_of s (option_map wrap_of wrap) edit ≡ Ok (change_seen c)
Resolves s wrap edit (Err why) = change_of s (option_map wrap_of wrap) edit ≡ Err (refusal_of why)
