-- The replies of a run on one thread are replies to its lines.
use Rattle.std.proofs.Common.{◌≡◌, ℕ, suc, List, [], ◌∷◌, ◌++◌, length, refl, subst}
use Rattle.std.specs.Prelude.{Bool, true, false, nat_le, if◌then◌else◌, Ok, Err}
use Rattle.session_model.specs.declared.session.Session.{Session}
use Rattle.engine_model.specs.Edits.{is_quit}
use Rattle.engine_model.specs.Editions.{Edition, edition, apply}
use Rattle.engine_model.specs.Refusals.{Checked}
use Rattle.engine_model.specs.Journal.{Entry}
use Rattle.engine_model.specs.Lines.{Line, Nothing, Says, Unread}
use Rattle.engine_model.specs.Plain.{Do, Wait, Sync, Run, needs_cycle, with_cycles, with_edit}
use Rattle.engine_model.specs.Replies.{Reply, Synced, NotSynced, BeginSynced, AnswerEdit, AreReplies, edit_answered, plain_replies_from, synced_by, with_sync}

-- what is answered to a sync
sync_begins : (k : ℕ) (entries : List Entry) (Rest : List Reply → Type 0) (rest : List Reply) → Rest rest → BeginSynced k Rest (synced_by k entries ∷ rest)
sync_begins k [] Rest rest on = (refl, on)
sync_begins k (e ∷ before) Rest rest on = by (nat_le k e.settled)
  where
    by : (b : Bool) → BeginSynced k Rest ((if b then Synced k (suc (length before)) else NotSynced k) ∷ rest)
    by true = (refl, on)
    by false = (refl, on)

-- what is answered to an edit
edit_begins : (made : Checked Edition) (quits : Bool) (Next Same : List Reply → Type 0) (after same : List Reply) → Next after → Same same →
    AnswerEdit made quits Next Same (edit_answered made (if quits then [] else after) same)
edit_begins (Ok next) true Next Same after same on not_on = ([], refl, refl)
edit_begins (Ok next) false Next Same after same on not_on = (after, refl, on)
edit_begins (Err why) true Next Same after same on not_on = (same, refl, not_on)
edit_begins (Err why) false Next Same after same on not_on = (same, refl, not_on)

-- a sync changes no edit
sync_edits : (session : Session) (cycles : ℕ) (run : Run) → (with_sync session cycles run).edits ≡ run.edits
sync_edits session cycles run = by (needs_cycle (length run.edits) run.entries)
  where
    by : (b : Bool) → (if b then with_cycles session cycles 1 run else run).edits ≡ run.edits
    by true = refl
    by false = refl

pub are_replies : (session : Session) (cycles : ℕ) (ls : List Line) (run : Run) → AreReplies session run.edits ls (plain_replies_from session cycles run ls)
are_replies session cycles [] run = refl
are_replies session cycles (Nothing ∷ ls) run = are_replies session cycles ls run
are_replies session cycles (Unread why ∷ ls) run = (plain_replies_from session cycles run ls, refl, are_replies session cycles ls run)
are_replies session cycles (Says (Wait n) ∷ ls) run = (plain_replies_from session cycles (with_cycles session cycles n run) ls, refl, are_replies session cycles ls (with_cycles session cycles n run))
are_replies session cycles (Says Sync ∷ ls) run = let new = with_sync session cycles run in
    sync_begins (length run.edits) new.entries (AreReplies session run.edits ls) (plain_replies_from session cycles new ls)
    (subst (λ edits. AreReplies session edits ls (plain_replies_from session cycles new ls)) (sync_edits session cycles run) (are_replies session cycles ls new))
are_replies session cycles (Says (Do edit) ∷ ls) run = edit_begins (apply (edition session run.edits (length run.edits)) edit) (is_quit edit)
    (AreReplies session (run.edits ++ edit ∷ []) ls) (AreReplies session run.edits ls) (plain_replies_from session cycles (with_edit run edit) ls) (plain_replies_from session cycles run ls)
    (are_replies session cycles ls (with_edit run edit)) (are_replies session cycles ls run)
