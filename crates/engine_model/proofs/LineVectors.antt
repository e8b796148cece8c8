-- Control's lines and what is answered to them, in worked runs.
use Rattle.std.proofs.Common.{◌≡◌, ℕ, List, [], ◌∷◌, ◌++◌, refl, true, false, codes, if◌then◌else◌}
use Rattle.std.specs.Str.{bytes_eq}
use Rattle.session_model.specs.declared.edit.Edit.TheVariants.{Roll, Stop, Quit, Locate}
use Rattle.session_model.proofs.SessionVectors.{base}
use Rattle.engine_model.specs.Due.{Ack}
use Rattle.engine_model.specs.Journal.{Heard, Entry}
use Rattle.engine_model.specs.Lines.{Line, Nothing, Says, Unread, NotCommand, NotText, lines_from, lines_of, accepted_of, is_too_long, commands_of}
use Rattle.engine_model.specs.Plain.{Do, Wait, Sync}
use Rattle.engine_model.specs.Refusals.{Far}
use Rattle.engine_model.specs.Replies.{Reply, Accepted, Refused, LineRefused, Done, Synced, NotSynced, AreReplies, is_acknowledged, plain_replies}
use Rattle.engine_model.proofs.Worked.{rolling}

-- ---- from bytes to lines

two_lines : lines_from [] (codes "roll" ++ 10 ∷ codes "stop" ++ 10 ∷ []) ≡ codes "roll" ∷ codes "stop" ∷ []
two_lines = refl

-- the last line needs no line feed
no_last_line_feed : lines_from [] (codes "roll" ++ 10 ∷ codes "stop") ≡ codes "roll" ∷ codes "stop" ∷ []
no_last_line_feed = refl

-- one carriage return before a line feed is dropped,
carriage_returns : lines_from [] (codes "roll" ++ 13 ∷ 10 ∷ codes "stop" ++ 13 ∷ 13 ∷ 10 ∷ []) ≡ codes "roll" ∷ (codes "stop" ++ 13 ∷ []) ∷ []
carriage_returns = refl

-- but none that ends the bytes
a_last_carriage_return : lines_from [] (codes "roll" ++ 13 ∷ []) ≡ (codes "roll" ++ 13 ∷ []) ∷ []
a_last_carriage_return = refl

empty_lines : lines_from [] (10 ∷ 13 ∷ 10 ∷ []) ≡ [] ∷ [] ∷ []
empty_lines = refl

no_line : lines_from [] [] ≡ []
no_line = refl

-- ---- what lines say, by a reader of a few words

says : List ℕ → Line
says line = if bytes_eq line (codes "roll") then Says (Do Roll) else if bytes_eq line (codes "stop") then Says (Do Stop) else if bytes_eq line (codes "quit") then Says (Do Quit)
    else if bytes_eq line [] then Nothing else Unread NotCommand

read : lines_of says (codes "roll" ++ 10 ∷ 10 ∷ codes "rool" ++ 10 ∷ codes "quit") ≡ Says (Do Roll) ∷ Nothing ∷ Unread NotCommand ∷ Says (Do Quit) ∷ []
unfolding says
read = refl

-- few bytes are never too many
short_control : is_too_long says base (codes "roll" ++ 10 ∷ []) ≡ false
unfolding says
short_control = refl

-- ---- which edits are accepted

-- a quit cuts what follows, and a line that is refused or isn't read changes nothing
a_quit_cuts : accepted_of base (Unread NotText ∷ Says (Do (Locate 1099511627776)) ∷ Says (Do Roll) ∷ Says (Wait 1) ∷ Nothing ∷ Says (Do Quit) ∷ Says (Do Stop) ∷ []) ≡ Roll ∷ Quit ∷ []
a_quit_cuts = refl

without_a_quit : accepted_of base (Says (Do Roll) ∷ Says Sync ∷ Says (Do Stop) ∷ []) ≡ Roll ∷ Stop ∷ []
without_a_quit = refl

their_commands : commands_of (Unread NotText ∷ Says (Do Roll) ∷ Nothing ∷ Says Sync ∷ []) ≡ Do Roll ∷ Sync ∷ []
their_commands = refl

-- ---- replies

abbrev wait_then_locate : List Line
wait_then_locate = Says (Do Roll) ∷ Says (Wait 1) ∷ Says (Do (Locate 4)) ∷ Says (Wait 1) ∷ Says (Do Quit) ∷ []

waited_and_located : plain_replies base 2 wait_then_locate ≡ Accepted 1 ∷ Done ∷ Accepted 2 ∷ Done ∷ Accepted 3 ∷ []
waited_and_located = refl

-- each kind of line has its reply, and nothing is answered after a quit
each_kind : plain_replies base 2 (Nothing ∷ Says (Do Roll) ∷ Says Sync ∷ Unread NotCommand ∷ Says (Do (Locate 1099511627776)) ∷ Says (Do Quit) ∷ Says (Do Stop) ∷ [])
    ≡ Accepted 1 ∷ Synced 1 1 ∷ LineRefused NotCommand ∷ Refused (Far 1099511627776) ∷ Accepted 2 ∷ []
each_kind = refl

-- a second sync names the entry that was there
synced_again : plain_replies base 3 (Says (Do Roll) ∷ Says (Wait 2) ∷ Says Sync ∷ Says (Do Stop) ∷ Says Sync ∷ []) ≡ Accepted 1 ∷ Done ∷ Synced 1 2 ∷ Accepted 2 ∷ Synced 2 3 ∷ []
synced_again = refl

-- where no cycle is left, none is synced
no_cycle_left : plain_replies base 1 (Says (Wait 1) ∷ Says (Do Roll) ∷ Says Sync ∷ []) ≡ Done ∷ Accepted 1 ∷ NotSynced 1 ∷ []
no_cycle_left = refl

they_are_replies : AreReplies base [] (Says (Do Roll) ∷ Says Sync ∷ []) (Accepted 1 ∷ Synced 1 7 ∷ [])
they_are_replies = (Synced 1 7 ∷ [], refl, (refl, refl))

not_synced_is_one : AreReplies base [] (Says (Do Roll) ∷ Says Sync ∷ []) (Accepted 1 ∷ NotSynced 1 ∷ [])
not_synced_is_one = (NotSynced 1 ∷ [], refl, (refl, refl))

-- after a quit nothing is answered
none_after_a_quit : AreReplies base [] (Says (Do Quit) ∷ Says (Do Roll) ∷ []) (Accepted 1 ∷ [])
none_after_a_quit = ([], refl, refl)

answered_after_a_quit : AreReplies base [] (Says (Do Quit) ∷ Says (Do Roll) ∷ []) (Accepted 1 ∷ Accepted 2 ∷ []) → ⊥
answered_after_a_quit told = cc (told.1, told.2)

-- another edition isn't that of the reply,
of_another_edition : AreReplies base [] (Says (Do Roll) ∷ []) (Accepted 2 ∷ []) → ⊥
of_another_edition told = cc told.1

-- a line isn't passed over,
none_is_answered : AreReplies base [] (Says (Wait 1) ∷ []) [] → ⊥
none_is_answered told = cc told.1

-- and a sync is of the edition that was accepted before it
a_sync_of_another : AreReplies base [] (Says (Do Roll) ∷ Says Sync ∷ []) (Accepted 1 ∷ Synced 2 1 ∷ []) → ⊥
a_sync_of_another told = none told.0 told.1 told.2
  where
    none : (rest : List Reply) → ◌≡◌ {A = List Reply} (Accepted 1 ∷ Synced 2 1 ∷ []) (Accepted 1 ∷ rest) → AreReplies base (Roll ∷ []) (Says Sync ∷ []) rest → ⊥
    none (Synced j e ∷ rest) is told = cc (is, told.0)
    none (NotSynced j ∷ rest) is told = cc is
    none [] is told = told
    none (Accepted k ∷ rest) is told = told
    none (Refused why ∷ rest) is told = told
    none (LineRefused why ∷ rest) is told = told
    none (Done ∷ rest) is told = told

-- ---- replies and the journal

abbrev journal : List Entry
journal = rolling 1 1 0 0 (Heard 0) ∷ rolling 2 2 1 0 (Heard 0) ∷ []

ack : ℕ → Ack
ack settled = record { cycle = 1; generation = 0; next = 1; settled = settled }

the_entry_has_it : is_acknowledged [] journal (Synced 2 2) ≡ true
the_entry_has_it = refl

-- entry 1 hasn't edition 2 settled, and entries 0 and 3 aren't there
the_entry_has_it_not : is_acknowledged [] journal (Synced 2 1) ≡ false
the_entry_has_it_not = refl

no_entry_at_all : is_acknowledged [] journal (Synced 0 0) ≡ false
no_entry_at_all = refl

no_such_entry : is_acknowledged [] journal (Synced 2 3) ≡ false
no_such_entry = refl

-- a reply that it wasn't synced is true where no acknowledgement had it
none_had_it : is_acknowledged (ack 0 ∷ ack 1 ∷ []) journal (NotSynced 2) ≡ true
unfolding ack
none_had_it = refl

one_had_it : is_acknowledged (ack 1 ∷ ack 2 ∷ []) journal (NotSynced 2) ≡ false
unfolding ack
one_had_it = refl
