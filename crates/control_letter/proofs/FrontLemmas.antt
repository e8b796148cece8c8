-- What control does before its next line, and where it stops there.
use Rattle.std.proofs.Common.{◌≡◌, inl, inr, ℕ, List, [], ◌∷◌, ◌++◌, refl, ap, ◌∙◌}
use Rattle.std.specs.Prelude.{◌⊎◌, true, false, if◌then◌else◌, Some, None}
use Rattle.session_model.specs.declared.session.Session.{Session}
use Rattle.engine_model.specs.Lines.{Line}
use Rattle.engine_model.specs.Replies.{Reply}
use Rattle.machine_model.specs.Core.{Core}
use Rattle.machine_model.specs.Control as machine
use Rattle.machine_model.specs.Control.{Awaited, control_done, control_moves, is_over, next_line_done, next_published}
use Rattle.machine_model.specs.Events.{Event, after}
use Rattle.machine_model.specs.Letters.{C, by_letter}
use Rattle.machine_model.specs.Rest.{Carry, Play, next_task}
use Rattle.control_desk.specs.declared.progress.Progress.{Progress}
use Rattle.control_desk.specs.declared.standing.End.{End}
use Rattle.control_desk.specs.Laws.{control}
use Rattle.control_desk.specs.Seen.{IsSeenOf, is_over_by, reply_by}
use Rattle.control_desk.specs.Standing.{Awaits, Ended, Ready, Standing, awaits_of, is_ended}
use Rattle.control_desk.proofs.LawLemmas.{over_is, what_is_awaited_stands, what_is_over_is_answered}
use Rattle.serial_laws.specs.Leads.{Carries, StaysPut}
use Rattle.control_letter.specs.Shown.{standing_by}

module _ (s : Session) (k : ℕ) (c : Core) where
  -- the letter C, by what control becomes and what it publishes
  pub by_control : (at now : machine.Control) (events : List Event) (d : Core) → control_done s k c at ≡ now → control_moves s k c at ≡ events → after s k c events ≡ d →
      by_letter s k (record { core = c; control = at }) C ≡ record { core = d; control = now }
  by_control at now events d done moves core = λ i. record { core = (ap (after s k c) moves ∙ core) i; control = done i }

  -- control that has ended does nothing
  pub ended_carries : (why : End) (replies : List Reply) → Carries s k (standing_by c (Ended why) replies) [] (standing_by c (Ended why) replies)
  ended_carries why replies = record { may = λ more may. may; letter = λ more may. refl }

  pub stays_put : (st : Standing) (replies : List Reply) → StaysPut (standing_by c st replies) (standing_by c st replies)
  stays_put st replies = record { may = λ more may. may; same = λ more may. refl }

  module _ (seen : Progress) (is_seen : IsSeenOf k c seen) where
    -- what is awaited and isn't over stands
    pub waiting_carries : (awaited : Awaited) (replies : List Reply) → is_over_by seen awaited ≡ false → Carries s k (standing_by c (Awaits awaited) replies) [] (standing_by c (Awaits awaited) replies)
    waiting_carries awaited replies not_over = record {
      may = λ more may. may;
      letter = λ more may. let does = what_is_awaited_stands s k c seen awaited more replies is_seen not_over in
          by_control (control more (Some awaited) replies) (control more (Some awaited) replies) [] c does.0 does.1 refl;
    }

  -- ---- the next line

  -- Before its next line control answers this much, the newest first: nothing where it is ready, and what it awaited where that is over.
  pub record IsFront (st : Standing) (given : List Reply) : Type 0 where
    pub reads : is_ended st ≡ false
    pub done : (lines : List Line) (replies : List Reply) → control_done s k c (control lines (awaits_of st) replies) ≡ next_line_done s k c (control lines None (given ++ replies)) lines
    pub moves : (lines : List Line) (replies : List Reply) → control_moves s k c (control lines (awaits_of st) replies) ≡ next_published s c lines
    -- a line is due then, and without one what is answered
    pub due : (line : Line) (lines : List Line) → next_task k c (awaits_of st) (line ∷ lines) ≡ Carry
    pub at_end : ((st ≡ Ready) × (given ≡ [])) ⊎ ((lines : List Line) → next_task k c (awaits_of st) lines ≡ Carry)

  pub ready_front : IsFront Ready []
  ready_front = record { reads = refl; done = λ lines replies. refl; moves = λ lines replies. refl; due = λ line lines. refl; at_end = inl (refl, refl) }

  pub over_front : (seen : Progress) → IsSeenOf k c seen → (awaited : Awaited) → is_over_by seen awaited ≡ true → IsFront (Awaits awaited) (reply_by seen awaited ∷ [])
  over_front seen is_seen awaited over = record {
    reads = refl;
    done = λ lines replies. (what_is_over_is_answered s k c seen awaited lines replies is_seen over).0;
    moves = λ lines replies. (what_is_over_is_answered s k c seen awaited lines replies is_seen over).1;
    due = λ line lines. is_due;
    at_end = inr (λ lines. is_due);
  }
    where
      is_due : (if is_over k c awaited then Carry else Play) ≡ Carry
      is_due = ap (λ b. if b then Carry else Play) (over_is k c seen awaited is_seen ∙ over)
