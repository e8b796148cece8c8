-- Control goes on line by line, and what it leaves.
use Rattle.std.proofs.Common.{◌≡◌, inl, inr, ℕ, List, [], ◌∷◌, ◌++◌, length, refl, sym, ap, subst, ◌∙◌, append-nil}
use Rattle.std.specs.Prelude.{◌⊎◌, Bool, true, false, ◌&&◌, if◌then◌else◌, reverse, Some, None}
use Rattle.std.specs.List.{list_all}
use Rattle.std.proofs.lemmas.Bool.{and_parts, false≢true, true≢false}
use Rattle.std.proofs.lemmas.List.{reverse-append}
use Rattle.std.proofs.lemmas.List.Folds.{list_all-append}
use Rattle.ses_io.specs.Outside.{SourceOutside, SinkOutside}
use Rattle.session_model.specs.declared.session.Session.{Session}
use Rattle.session_model.specs.declared.edit.Edit.{Edit}
use Rattle.engine_model.specs.Edits.{has_quit}
use Rattle.engine_model.specs.Lines.{Line, Says, accepted_from, accepted_of}
use Rattle.engine_model.specs.Plain.{Do}
use Rattle.engine_model.specs.Replies.{Reply, AreReplies}
use Rattle.engine_model.specs.Waited.{AreGranted, Pace, go_through, is_last_grant, paces_from, was_full}
use Rattle.edition_log.specs.EditionState.{IsEditionOf}
use Rattle.run_world.specs.declared.finished.Grant.{Grant}
use Rattle.control_desk.specs.declared.standing.End.TheVariants.{NoLine}
use Rattle.control_desk.specs.GoesOn.{GoesOn}
use Rattle.control_desk.specs.State.{ControlState}
use Rattle.control_desk.specs.Standing as desk
use Rattle.control_desk.specs.Standing.{Awaits, Ended, Ready, awaits_of, is_ended}
use Rattle.control_desk.proofs.ControlLemmas.{goes_nowhere}
use Rattle.control_letter.specs.Shown.{shown_core}
use Rattle.serial_laws.specs.Answered.{HasAnswered, StillToAnswer}
use Rattle.serial_laws.specs.Standing.{at_first}
use Rattle.serial_laws.proofs.AnsweredLemmas.{it_goes_by_the_edits, nothing_is_answered_at_first}
use Rattle.route_lists.specs.Lists.{Published}
use Rattle.cycle_grants.specs.Grants.{grants_put, shown_of}
use Rattle.cycle_grants.specs.Granting.{is_full}
use Rattle.lead_worker.specs.declared.link.ProcessLink.{ProcessLink}
use Rattle.lead_worker.specs.Heard.{acks_in, is_heard}
use Rattle.lead_worker.specs.Leads.{Adds, AreHeard, BeginsToLead, Carries, HasSaid, IsLed, IsLedUntil, IsSettled, LeadLeaves, Settles, TakesALine, WantsMemory}
use Rattle.lead_worker.specs.Links.{GoesOnLink, IsPaced, IsPacedWhole}
use Rattle.lead_worker.proofs.AnsweredLemmas.{at}
use Rattle.lead_worker.proofs.SettleLemmas.{stays_heard}

-- where nothing is awaited and control hasn't ended it is ready
pub ready_of : (st : desk.Standing) → awaits_of st ≡ None → is_ended st ≡ false → st ≡ Ready
ready_of Ready free going = refl
ready_of (Awaits a) free going = absurd (some_awaited free)
  where
    some_awaited : Some a ≡ None → ⊥
    some_awaited is = cc
ready_of (Ended why) free going = absurd (false≢true (sym going))

abbrev no_line : List Line
no_line = []

-- where no line follows none is carried out
none_follow : (b : Bool) → (if b then no_line else no_line) ≡ no_line
none_follow true = refl
none_follow false = refl

-- what holds of all replies holds of them in their order
reversed_too : (p : Reply → Bool) (replies : List Reply) → list_all p replies ≡ true → list_all p (reverse replies) ≡ true
reversed_too p [] all = refl
reversed_too p (r ∷ replies) all = let parts = and_parts (p r) (list_all p replies) all in
    ap (list_all p) (reverse-append (r ∷ []) replies) ∙ list_all-append p (reverse replies) (r ∷ [])
    ∙ ap (λ b. b && (p r && true)) (reversed_too p replies parts.1) ∙ ap (λ b. b && true) parts.0

module _ {C O : Type 0} (source : SourceOutside C) (sink : SinkOutside O) (s : Session) where
  -- ---- at first

  module _ (list : Published) (control : ControlState C O) (link : ProcessLink) (begins : BeginsToLead s list control link) where
    said_nothing : HasSaid source sink s control [] [] list.edition.edits control
    said_nothing = record {
      goes = goes_nowhere source sink control;
      last = λ ended. absurd (not_ended (sym begins.ready ∙ ended));
      answered = subst (λ st. HasAnswered s [] (at s list.edition.edits st [])) (sym begins.ready)
          (it_goes_by_the_edits s [] (shown_core s list.edition.edits []) (at_first s) begins.no_edit (nothing_is_answered_at_first s));
      unquit = λ going. unquit;
      quits = ap desk.has_quit begins.ready ∙ sym unquit;
    }
      where
        not_ended : Ready ≡ Ended NoLine → ⊥
        not_ended is = cc

        unquit : has_quit list.edition.edits (length list.edition.edits) ≡ false
        unquit = ap (λ (l : List Edit). has_quit l (length l)) begins.no_edit

    pub led_at_first : IsLed source sink s control list control link
    led_at_first = record {
      lines = [];
      replies = [];
      said = said_nothing;
      free = ap awaits_of begins.ready;
      paced = record {
        asked = [];
        are_asked = refl;
        keeps = record {
          left_out = [];
          are = append-nil (grants_put link.granting.to) ∙ ap (λ (l : List Grant). grants_put (record link.granting.to { sent = l })) begins.no_grant;
          none = λ free. refl;
          ended = λ over. absurd (false≢true (sym begins.none_left_out ∙ over));
        };
      };
      heard = refl;
      edition_of = begins.edition_of;
      not_ended = begins.not_ended;
    }

  -- ---- a line

  module _ (from : ControlState C O) (list list_now : Published) (old mid : ControlState C O) (link : ProcessLink) (led : IsLed source sink s from list old link) (edition_of : IsEditionOf s list_now.edition) (not_ended : list_now.edition.ended ≡ false) where
    -- it was carried out, and what it awaits was answered
    pub led_on : (new : ControlState C O) (link_now : ProcessLink) (edition : ℕ) → edition ≡ length list_now.edition.edits → Carries source sink s list.edition.edits old false list_now.edition.edits mid →
        Settles source sink edition mid link new link_now → IsLed source sink s from list_now new link_now
    led_on new link_now edition is carries settles = record {
      lines = led.lines ++ takes.taken;
      replies = settled.given ++ (takes.given ++ led.replies);
      said = settled.said;
      free = settled.free;
      paced = settled.paced;
      heard = settled.heard;
      edition_of = edition_of;
      not_ended = not_ended;
    }
      where
        takes : TakesALine source sink s from led.lines led.replies list_now.edition.edits mid
        takes = carries from led.lines led.replies led.said

        heard_too : AreHeard link (takes.given ++ led.replies)
        heard_too = list_all-append (is_heard (acks_in link.hearing) link.hearing.ended) takes.given led.replies
            ∙ ap (λ b. b && list_all (is_heard (acks_in link.hearing) link.hearing.ended) led.replies) (takes.plain (acks_in link.hearing) link.hearing.ended) ∙ led.heard

        settled : IsSettled source sink s from (led.lines ++ takes.taken) (takes.given ++ led.replies) list_now.edition.edits new link_now
        settled = settles s from (led.lines ++ takes.taken) (takes.given ++ led.replies) list_now.edition.edits (paces_from s [] led.lines) is takes.said
            (subst (λ n. Adds n (awaits_of mid.standing) (paces_from s [] led.lines) (paces_from s [] (led.lines ++ takes.taken))) (sym is) takes.adds) led.paced heard_too

    -- or there was no memory for it
    pub led_until : Carries source sink s list.edition.edits old true list_now.edition.edits mid → WantsMemory source sink s from list_now mid link
    led_until carries = record {
      before = old;
      led = record {
        lines = led.lines;
        replies = led.replies;
        said = subst (λ edits. HasSaid source sink s from led.lines led.replies edits old) (sym carries.0) led.said;
        free = led.free;
        paced = led.paced;
        heard = led.heard;
        edition_of = edition_of;
        not_ended = not_ended;
      };
      loses = carries.1 from led.lines led.replies led.said;
    }

  -- ---- the end

  module _ (cycles : ℕ) (from : ControlState C O) (list : Published) (link link_now : ProcessLink) (first : ProcessLink) (depth : first.granting.to.depth ≡ s.depth) (goes : GoesOnLink first link) (on : GoesOnLink link link_now)
      (full : link_now.granting.over ≡ true → is_full link_now.granting ≡ true) where
    module _ (control : ControlState C O) (led : IsLed source sink s from list control link) (whole : IsPacedWhole cycles (length list.edition.edits) (paces_from s [] led.lines) link_now) where
      abbrev pub Granted : Type 0
      Granted = AreGranted s cycles list.edition.edits led.lines (shown_of link_now.granting.to)

      depth_now : link_now.granting.to.depth ≡ s.depth
      depth_now = on.grants.depth ∙ goes.grants.depth ∙ depth

      only : (b : Bool) → link_now.granting.over ≡ b → (whole.keeps.left_out ≡ []) ⊎ (was_full s.depth (shown_of link_now.granting.to) ≡ true)
      only false free = inl (whole.keeps.none free)
      only true over = inr (subst (λ d. was_full d (shown_of link_now.granting.to) ≡ true) depth_now (full over))

      pub granted : Granted
      granted = record {
        rest = whole.keeps.left_out;
        in_order = ap (λ l. go_through (is_last_grant cycles (length list.edition.edits)) (paces_from s [] led.lines) l) whole.keeps.are ∙ whole.all_asked;
        only_where_full = only link_now.granting.over refl;
      }

      none_left : link_now.hearing.ended ≡ false → whole.keeps.left_out ≡ []
      none_left going = by link_now.granting.over refl
        where
          by : (b : Bool) → link_now.granting.over ≡ b → whole.keeps.left_out ≡ []
          by false free = whole.keeps.none free
          by true over = absurd (false≢true (sym going ∙ whole.keeps.ended over))

      -- edits and replies are those of the lines
      abbrev pub AreMade : List Line → Type 0
      AreMade lines = (list.edition.edits ≡ accepted_of s lines) × AreReplies s [] lines (reverse led.replies)

      -- with lines that aren't carried out
      pub made_with : (left : List Line) → (is_ended control.standing ≡ true → desk.has_quit control.standing ≡ false → left ≡ []) → (if is_ended control.standing then no_line else left) ≡ no_line → AreMade (led.lines ++ left)
      made_with left may none = let h = led.said.answered left may in (
        sym (ap (λ l. accepted_from s list.edition.edits l) none) ∙ h.accepted,
        subst (AreReplies s [] (led.lines ++ left)) (append-nil (reverse led.replies))
            (h.replies [] (subst (λ l. StillToAnswer s (awaits_of control.standing) list.edition.edits l []) (sym none) (subst (λ a. StillToAnswer s a list.edition.edits [] []) (sym led.free) refl))),
      )

      pub made_alone : AreMade (led.lines ++ [])
      made_alone = made_with [] (λ ended quit. refl) (none_follow (is_ended control.standing))

      made : AreMade led.lines
      made = subst AreMade (append-nil led.lines) made_alone

      heard_now : list_all (is_heard (acks_in link_now.hearing) link_now.hearing.ended) (reverse led.replies) ≡ true
      heard_now = reversed_too (is_heard (acks_in link_now.hearing) link_now.hearing.ended) led.replies (stays_heard link link_now led.replies on led.heard)

      pub leaves : (memory : Bool) (now : ControlState C O) (unsaid : List Line) → (memory ≡ false → (unsaid ≡ []) × (now ≡ control) × (is_ended control.standing ≡ true)) →
          (memory ≡ true → (edit : Edit) × (unsaid ≡ Says (Do edit) ∷ [])) → ((left : List Line) → (desk.has_quit now.standing ≡ false → left ≡ []) → AreMade (led.lines ++ left)) → GoesOn source sink from (led.lines ++ unsaid) (reverse led.replies) now →
          LeadLeaves source sink s cycles from memory list now link_now.granting.to link_now.hearing
      unfolding granted
      leaves memory now unsaid plainly one further goes_on = record {
        lines = led.lines;
        replies = reverse led.replies;
        unsaid = unsaid;
        whole = λ enough. (plainly enough).0;
        one = one;
        goes = goes_on;
        ended = λ enough. ap (λ (c : ControlState C O). is_ended c.standing) (plainly enough).1 ∙ (plainly enough).2;
        quits = λ enough. ap (λ (c : ControlState C O). desk.has_quit c.standing) (plainly enough).1 ∙ led.said.quits;
        last = λ enough is. led.said.last (sym (ap (λ (c : ControlState C O). c.standing) (plainly enough).1) ∙ is);
        edits = made.0;
        answered = made.1;
        further = further;
        granted = granted;
        left_out = none_left;
        heard = heard_now;
        edition_of = led.edition_of;
        not_ended = led.not_ended;
      }

    -- **What control leaves**
    pub lead_leaves : (memory : Bool) (control : ControlState C O) (number : ℕ) → number ≡ length list.edition.edits → IsLedUntil source sink s from list control link memory →
        ((paces : List Pace) → IsPaced paces link → IsPacedWhole cycles number paces link_now) → LeadLeaves source sink s cycles from memory list control link_now.granting.to link_now.hearing
    lead_leaves false control number is (led, ended) paced = let whole = subst (λ n. IsPacedWhole cycles n (paces_from s [] led.lines) link_now) is (paced (paces_from s [] led.lines) led.paced) in
        leaves control led whole false control [] (λ enough. (refl, refl, ended)) (λ short. absurd (false≢true short))
        (λ left quit. made_with control led whole left (λ e. quit) (ap (λ b. if b then no_line else left) ended)) (subst (λ l. GoesOn source sink from l (reverse led.replies) control) (sym (append-nil led.lines)) led.said.goes)
    lead_leaves true control number is wants paced = let led = wants.led in
        let whole = subst (λ n. IsPacedWhole cycles n (paces_from s [] led.lines) link_now) is (paced (paces_from s [] led.lines) led.paced) in
        leaves wants.before led whole true control (Says (Do wants.loses.edit) ∷ []) (λ enough. absurd (true≢false enough)) (λ short. (wants.loses.edit, refl))
        (λ left quit. subst (λ l. AreMade wants.before led whole (led.lines ++ l)) (sym (quit (ap desk.has_quit wants.loses.ready))) (made_alone wants.before led whole)) wants.loses.goes
