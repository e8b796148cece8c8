-- Why control follows the core machine.
use Rattle.std.proofs.Common.{◌≡◌, ℕ, ◌+◌, List, [], ◌∷◌, ◌++◌, length, refl, sym, ap, ◌∙◌}
use Rattle.std.specs.Prelude.{Bool, true, false, ◌||◌, ◌&&◌, nat_le, if◌then◌else◌, Some, None, Ok, Err}
use Rattle.std.proofs.lemmas.Option.{none-some, same_Some}
use Rattle.engine_model.specs.Edits.{is_quit}
use Rattle.engine_model.specs.Journal.{Entry}
use Rattle.engine_model.specs.Lines.{Line, Nothing, Says, Unread}
use Rattle.engine_model.specs.Plain.{Do, Wait, Sync}
use Rattle.engine_model.specs.Replies.{Reply, Refused, Synced, NotSynced, synced_by}
use Rattle.machine_model.specs.Core.{Core}
use Rattle.machine_model.specs.Control.{Awaited, Entries, SettledIn, answer_to, edit_done, is_last_settled, is_over, next_line_done, next_published, waiting_for}
use Rattle.control_desk.specs.declared.progress.Progress.{Progress}
use Rattle.control_desk.specs.Laws.{control, WhatIsAwaitedStands, WhatIsOverIsAnswered, LinesAreDone, EditsAreSaid, EditsAreDone}
use Rattle.control_desk.specs.Seen.{IsSeenOf, is_over_by, is_settled_by, last_settled, replies_by, reply_by}
use Rattle.control_desk.specs.Standing.{Ready, Awaits, awaits_of, awaiting}
use Rattle.control_desk.specs.Texts.{edit_reply}

module _ (k : ℕ) (c : Core) (seen : Progress) (is_seen : IsSeenOf k c seen) where
  settled_is : (n : ℕ) (entries : List Entry) → is_last_settled n entries ≡ is_settled_by (last_settled entries) n
  settled_is n [] = refl
  settled_is n (e ∷ before) = refl

  -- what is awaited is over by what is seen exactly where it is in the core machine
  over_so : (awaited : Awaited) → is_over k c awaited ≡ is_over_by seen awaited
  over_so (Entries n) = λ i. nat_le n (sym is_seen.entries i) || sym is_seen.played_out i
  over_so (SettledIn n) = λ i. (settled_is n c.entries ∙ ap (λ o. is_settled_by o n) (sym is_seen.settled)) i || sym is_seen.played_out i

  answer_of : (n : ℕ) (entries : List Entry) → synced_by n entries ≡ (if is_settled_by (last_settled entries) n then Synced n (length entries) else NotSynced n)
  answer_of n [] = refl
  answer_of n (e ∷ before) = refl

  -- and so is its answer
  answer_so : (awaited : Awaited) → answer_to c awaited ≡ reply_by seen awaited
  answer_so (Entries n) = refl
  answer_so (SettledIn n) = answer_of n c.entries ∙ (λ i. if is_settled_by (sym is_seen.settled i) n then Synced n (sym is_seen.entries i) else NotSynced n)

pub over_is : (k : ℕ) (c : Core) (seen : Progress) (awaited : Awaited) → IsSeenOf k c seen → is_over k c awaited ≡ is_over_by seen awaited
over_is k c seen awaited is_seen = over_so k c seen is_seen awaited

pub what_is_awaited_stands : WhatIsAwaitedStands
what_is_awaited_stands s k c seen awaited lines replies is_seen not_over = let is = over_so k c seen is_seen awaited ∙ not_over in (
  ap (λ b. if b then next_line_done s k c (control lines None (answer_to c awaited ∷ replies)) lines else control lines (Some awaited) replies) is,
  ap (λ b. if b then next_published s c lines else []) is,
)

pub what_is_over_is_answered : WhatIsOverIsAnswered
what_is_over_is_answered s k c seen awaited lines replies is_seen over = let is = over_so k c seen is_seen awaited ∙ over in (
  ap (λ b. if b then next_line_done s k c (control lines None (answer_to c awaited ∷ replies)) lines else control lines (Some awaited) replies) is
      ∙ ap (λ r. next_line_done s k c (control lines None (r ∷ replies)) lines) (answer_so k c seen is_seen awaited),
  ap (λ b. if b then next_published s c lines else []) is,
)

-- a wait, by whether it is over
waits_so : (k : ℕ) (c : Core) (seen : Progress) → IsSeenOf k c seen → (awaited : Awaited) (lines : List Line) (replies : List Reply) →
    waiting_for k c awaited (control lines None replies) ≡ control lines (awaits_of (awaiting seen (Some awaited))) (replies_by seen awaited ++ replies)
waits_so k c seen is_seen awaited lines replies = ap (λ b. if b then control lines None (answer_to c awaited ∷ replies) else control lines (Some awaited) replies) (over_so k c seen is_seen awaited)
    ∙ ap (λ r. if is_over_by seen awaited then control lines None (r ∷ replies) else control lines (Some awaited) replies) (answer_so k c seen is_seen awaited) ∙ by (is_over_by seen awaited)
  where
    by : (b : Bool) → (if b then control lines None (reply_by seen awaited ∷ replies) else control lines (Some awaited) replies)
        ≡ control lines (awaits_of (if b then Ready else Awaits awaited)) ((if b then reply_by seen awaited ∷ [] else []) ++ replies)
    by true = refl
    by false = refl

pub lines_are_done : LinesAreDone
lines_are_done s k c seen Nothing lines replies is_seen none = (refl, refl)
lines_are_done s k c seen (Unread why) lines replies is_seen none = (refl, refl)
lines_are_done s k c seen (Says (Do edit)) lines replies is_seen none = absurd (none-some edit (sym none))
lines_are_done s k c seen (Says (Wait n)) lines replies is_seen none = (
  ap (λ m. waiting_for k c (Entries (m + n)) (control lines None replies)) (sym is_seen.entries) ∙ waits_so k c seen is_seen (Entries (seen.entries + n)) lines replies,
  refl,
)
lines_are_done s k c seen (Says Sync) lines replies is_seen none = (
  ap (λ m. waiting_for k c (SettledIn m) (control lines None replies)) (sym is_seen.edits) ∙ waits_so k c seen is_seen (SettledIn seen.edits) lines replies,
  refl,
)

pub edits_are_said : EditsAreSaid
edits_are_said Nothing edit is = absurd (none-some edit is)
edits_are_said (Unread why) edit is = absurd (none-some edit is)
edits_are_said (Says (Do e)) edit is = ap (λ x. Says (Do x)) (same_Some e edit is)
edits_are_said (Says (Wait n)) edit is = absurd (none-some edit is)
edits_are_said (Says Sync) edit is = absurd (none-some edit is)

pub edits_are_done : EditsAreDone
edits_are_done (Ok next) edit (Ok k) lines replies answers = by (is_quit edit)
  where
    by : (b : Bool) → edit_done (Ok next) b (control lines None replies) ≡ control (if b && true then [] else lines) None (edit_reply (Ok k) ∷ replies)
    by true = ap (λ n. control [] None (edit_reply (Ok n) ∷ replies)) answers
    by false = ap (λ n. control lines None (edit_reply (Ok n) ∷ replies)) answers
edits_are_done (Err why) edit (Err given) lines replies answers = by (is_quit edit)
  where
    by : (b : Bool) → edit_done (Err why) b (control lines None replies) ≡ control (if b && false then [] else lines) None (edit_reply (Err given) ∷ replies)
    by true = ap (λ w. control lines None (Refused w ∷ replies)) answers
    by false = ap (λ w. control lines None (Refused w ∷ replies)) answers
edits_are_done (Ok next) edit (Err given) lines replies answers = absurd answers
edits_are_done (Err why) edit (Ok k) lines replies answers = absurd answers
