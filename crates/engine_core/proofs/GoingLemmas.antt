-- A run with its control goes on, letter by letter.
use Rattle.std.proofs.Common.{◌≡◌, ◌≢◌, List, [], ◌∷◌, ◌++◌, refl, sym, ap, subst, ◌∙◌, append-nil}
use Rattle.std.specs.Prelude.{Bool, true, false, reverse}
use Rattle.std.proofs.lemmas.Bool.{false≢true}
use Rattle.std.proofs.lemmas.List.{reverse-append}
use Rattle.ses_io.specs.Outside.{MediaOutside, SourceOutside, SinkOutside}
use Rattle.session_model.specs.declared.session.Session.{Session}
use Rattle.session_model.specs.declared.edit.Edit.{Edit}
use Rattle.engine_model.specs.Lines.{Line}
use Rattle.engine_model.specs.Replies.{Reply}
use Rattle.machine_model.specs.Core.{Core}
use Rattle.machine_model.specs.Control as machine
use Rattle.machine_model.specs.Events.{after}
use Rattle.machine_model.specs.Letters as machine_letters
use Rattle.machine_model.specs.Letters.{Letter, Machine, moves}
use Rattle.edition_log.specs.EditionState.{EditionState}
use Rattle.control_desk.specs.declared.standing.End.TheVariants.{NoLine}
use Rattle.control_desk.specs.GoesOn.{GoesOn}
use Rattle.control_desk.specs.Seen.{IsSeenOf}
use Rattle.control_desk.specs.State.{ControlState, Tells, ahead}
use Rattle.control_desk.specs.Standing as desk
use Rattle.control_desk.specs.Standing.{Awaits, Ended, Ready, is_ended, read_failed}
use Rattle.control_desk.proofs.ControlLemmas.{ahead_of, goes_on, tells_on}
use Rattle.control_letter.specs.Letter.{DoesLetter}
use Rattle.control_letter.specs.Shown.{shown_core, shown_cycles, standing_by}
use Rattle.control_letter.proofs.PublishLemmas.{unread_yet}
use Rattle.control_letter.proofs.WholeLemmas.{the_letter_is_done}
use Rattle.serial_laws.specs.Answered.{HasAnswered}
use Rattle.serial_laws.specs.Paced.{HasPaced}
use Rattle.serial_laws.specs.Standing.{Standing, machine_of}
use Rattle.serial_laws.specs.Truth.{AllHold}
use Rattle.serial_laws.proofs.AnsweredLemmas.{each_line_is_answered, it_goes_by_the_edits}
use Rattle.serial_laws.proofs.GivenLemmas.{control_goes_on, the_workers_go_on}
use Rattle.serial_laws.proofs.PacedLemmas.{each_line_is_paced}
use Rattle.serial_laws.proofs.TruthLemmas.{answers_hold, answers_hold_on}
use Rattle.worker_pair.specs.Tied.{IsTied}
use Rattle.engine_core.specs.declared.run.Run.{Run}
use Rattle.run_end.specs.Failures.{nothing_failed}
use Rattle.engine_core.specs.Now.{is_played_out, now_of}
use Rattle.engine_core.specs.UnderWay.{IsUnderWay}
use Rattle.engine_core.specs.declared.engine.Engine.{Engine}
use Rattle.engine_core.specs.Carrying.{CarriesALine, MayCarry, OnlyTheEdition, PublishesAsMachine}
use Rattle.engine_core.specs.Going.{Follows, HasSaid, IsGoing, LeadsTo, MayGoOn}
use Rattle.engine_core.specs.Fed.{AllHeard, IsFed, PlayAsPlain}
use Rattle.engine_core.specs.Lost.{NoneIsLost, captures_of}
use Rattle.engine_core.specs.Opening.{Given, Opening, Way}
use Rattle.engine_core.specs.Serial.{KeepsUp, letters_of}
use Rattle.engine_core.specs.Shows.{edits_of, made_of, shows}
use Rattle.engine_core.specs.WentOn.{WentOn}
use Rattle.engine_core.proofs.FedBeginLemmas.{letter_begins, plain_longer}
use Rattle.engine_core.proofs.LawfulLemmas.{journal_is_lawful}
use Rattle.engine_core.proofs.ShownLemmas.{seen_of, shown_of, shown_over}

-- ---- where control stands

-- where a letter was given, some was
some_letter : (letters : List Letter) (letter : Letter) → letters ++ letter ∷ [] ≡ [] → ⊥
some_letter [] letter none = cc
some_letter (l ∷ letters) letter none = cc

module _ {V I C W O : Type 0} (media : MediaOutside V) (inputs : SourceOutside I) (source : SourceOutside C) (sinks : SinkOutside W) (sink : SinkOutside O) (opening : Opening V I C W O) where
  abbrev s : Session
  s = opening.started.begun.session

  abbrev pub Goes : Way → Engine V I C W O → Type 0
  Goes way e = IsGoing media inputs source sinks sink (record { opening = opening; way = way }) e

  abbrev Says : Run V I W → List Line → List Reply → ControlState C O → Type 0
  Says r lines replies control = HasSaid source sink s (edits_of r) (is_played_out r) (made_of r) opening.control lines replies control

  -- where the core machine is by lines and replies
  abbrev pub FollowsBy : Way → List Line → List Reply → ControlState C O → Run V I W → Type 0
  FollowsBy way lines replies control r = Follows s opening.cycles way lines (λ core. standing_by core control.standing replies) r.pair

  -- ---- a letter of the workers

  said_on : (old new : Run V I W) (lines : List Line) (replies : List Reply) (control : ControlState C O) → WentOn old new → Says old lines replies control → Says new lines replies control
  said_on old new lines replies control went said = record {
    goes = said.goes;
    last = said.last;
    answered = it_goes_by_the_edits s lines (shown_core s (edits_of new) (made_of new)) (standing_by (shown_core s (edits_of old) (made_of old)) control.standing replies)
        (ap (λ (e : EditionState). e.edits) went.edition) said.answered;
    holds = answers_hold_on (is_played_out old) (is_played_out new) (made_of old) (made_of new) replies went.grows said.holds;
  }

  -- any letter may follow
  pub may_go_on : (old : Engine V I C W O) (run : Run V I W) → WentOn old.run run → IsUnderWay media inputs sinks opening.started run → MayGoOn media inputs sinks opening.started old →
      MayGoOn media inputs sinks opening.started (record { run = run; control = old.control })
  may_go_on old run went under_way may = record {
    under_way = under_way;
    may_carry = subst (λ l. MayCarry opening.started.begun.records l old.control) (sym (ap (λ (e : EditionState). e.edits) went.edition)) may.may_carry;
  }

  -- whatever way it is on, by where that leads
  pub worker_goes : (way now : Way) (old : Engine V I C W O) (run : Run V I W) → WentOn old.run run → IsUnderWay media inputs sinks opening.started run →
      ((lines : List Line) (replies : List Reply) → nothing_failed run.failed ≡ true → FollowsBy way lines replies old.control old.run → FollowsBy now lines replies old.control run) →
      ((lines : List Line) (replies : List Reply) → letters_of now ≡ [] → (letters_of way ≡ [] → KeepsUp s opening.cycles lines replies old.control.standing old.run) →
      KeepsUp s opening.cycles lines replies old.control.standing run) →
      Goes way old → Goes now (record { run = run; control = old.control })
  worker_goes way now old run went under_way leads keeps is = record {
    may = may_go_on old run went under_way is.may;
    asked = went.asked ∙ is.asked;
    lines = is.lines;
    replies = is.replies;
    said = said_on old.run run is.lines is.replies old.control went is.said;
    follows = λ fine. leads is.lines is.replies fine (is.follows (went.fine fine));
    serial = λ none. keeps is.lines is.replies none is.serial;
  }

  -- a letter that was given
  pub letter_goes : (letters : List Letter) (letter : Letter) → letter ≢ machine_letters.C → (old : Engine V I C W O) (run : Run V I W) → WentOn old.run run → IsUnderWay media inputs sinks opening.started run →
      ((m : Machine) → nothing_failed run.failed ≡ true → IsTied s m.core old.run.pair → IsTied s (after s old.run.pair.butler.cycles m.core (moves s old.run.pair.butler.cycles m letter)) run.pair) →
      Goes (Given letters) old → Goes (Given (letters ++ letter ∷ [])) (record { run = run; control = old.control })
  letter_goes letters letter no_line old run went under_way ties is = worker_goes (Given letters) (Given (letters ++ letter ∷ [])) old run went under_way
      (λ lines replies fine f. let st = standing_by f.core old.control.standing replies in record {
        core = after s opening.cycles f.core (moves s opening.cycles (machine_of st []) letter);
        tied = subst (λ k. IsTied s (after s k f.core (moves s k (machine_of st []) letter)) run.pair) is.asked (ties (machine_of st []) fine f.tied);
        leads = the_workers_go_on s opening.cycles (record { letters = letters; lines = lines }) st letter no_line f.leads;
      }) (λ lines replies none was. absurd (some_letter letters letter none)) is

  -- ---- a letter of control

  module _ (old new : Engine V I C W O) (way : Way) (is : Goes way old) (carried : CarriesALine source sink s old new) where
    abbrev pub Does : Type 0
    Does = DoesLetter source sink s (shows old.run) (edits_of old.run) old.control (edits_of new.run) new.control

    pub does : Does
    does = the_letter_is_done source sink s (shows old.run) (edits_of old.run) (edits_of new.run) old.control new.control is.may.may_carry.unquit carried.letter

    -- before and after, by a state of the core machine
    abbrev pub before : Core → List Reply → Standing
    before c replies = standing_by c old.control.standing replies

    abbrev pub then : Core → List Reply → Standing
    then c replies = standing_by (record c { edits = edits_of new.run }) new.control.standing (does.given ++ replies)

    made_same : made_of new.run ≡ made_of old.run
    made_same = ap made_of carried.only

    over_same : is_played_out new.run ≡ is_played_out old.run
    over_same = ap is_played_out carried.only

    -- all lines that were to come were taken where control found none
    all_taken : new.control.standing ≡ Ended NoLine → Tells source opening.control.script → ahead source opening.control ≡ is.lines ++ does.taken
    all_taken ended tells = by (is_ended old.control.standing) refl
      where
        by : (b : Bool) → is_ended old.control.standing ≡ b → ahead source opening.control ≡ is.lines ++ does.taken
        by true e = let o = does.goes.over e in is.said.last (ap (λ (c : ControlState C O). c.standing) (sym o.2) ∙ ended) tells ∙ sym (append-nil is.lines) ∙ ap (λ l. is.lines ++ l) (sym o.0)
        by false e = ahead_of source sink is.lines (reverse is.replies) opening.control old.control is.said.goes tells (unread_yet old.control.standing e)
            ∙ ap (λ l. is.lines ++ l) (does.last e ended (tells_on source sink is.lines (reverse is.replies) opening.control old.control is.said.goes tells))

    said_now : Says new.run (is.lines ++ does.taken) (does.given ++ is.replies) new.control
    said_now = let shown = shown_core s (edits_of old.run) (made_of old.run) in let cycles = shown_cycles (is_played_out old.run) (made_of old.run) in
        let carries = does.carries cycles shown is.replies (shown_of s old.run) refl in record {
          goes = subst (λ l. GoesOn source sink opening.control (is.lines ++ does.taken) l new.control) (sym (reverse-append does.given is.replies))
              (goes_on source sink is.lines does.taken (reverse is.replies) (reverse does.given) opening.control old.control new.control is.said.goes does.goes);
          last = all_taken;
          answered = subst (λ l. HasAnswered s (is.lines ++ does.taken) (standing_by (shown_core s (edits_of new.run) l) new.control.standing (does.given ++ is.replies))) (sym made_same)
              (each_line_is_answered s cycles is.lines does.taken (before shown is.replies) (then shown is.replies) carries is.said.answered);
          holds = subst (λ b. AllHold b (made_of new.run) (does.given ++ is.replies)) (shown_over s (edits_of old.run) (is_played_out old.run) (made_of old.run) ∙ sym over_same)
              (subst (λ l. AllHold (machine.is_played_out cycles shown) l (does.given ++ is.replies)) (sym made_same)
              (answers_hold s cycles (before shown is.replies) (then shown is.replies) does.taken carries
              (journal_is_lawful media (now_of opening.started old.run) old.run.pair is.may.under_way.rests)
              (subst (λ b. AllHold b (made_of old.run) is.replies) (sym (shown_over s (edits_of old.run) (is_played_out old.run) (made_of old.run))) is.said.holds)));
        }

    -- playback goes by nothing that a line changes
    fed_edited : OnlyTheEdition old.run new.run → IsFed s old.run → IsFed s new.run
    fed_edited only fed = subst (IsFed s) (sym only) (record { from = fed.from; reached = fed.reached; free = fed.free; once = fed.once; acks = fed.acks })

    heard_edited : OnlyTheEdition old.run new.run → AllHeard old.run → AllHeard new.run
    heard_edited only heard = subst AllHeard (sym only) heard

    -- a run without letters keeps up with the lines that were taken
    keeps_up_now : KeepsUp s opening.cycles is.lines is.replies old.control.standing old.run → KeepsUp s opening.cycles (is.lines ++ does.taken) (does.given ++ is.replies) new.control.standing new.run
    keeps_up_now was = let shown = shown_core s (edits_of old.run) (made_of old.run) in let over = is_played_out old.run in let seen = shown_cycles over (made_of old.run) in
        let flag = shown_over s (edits_of old.run) over (made_of old.run) in record {
          shut = ap (λ (r : Run V I W). r.pair.in_cycle) carried.only ∙ was.shut;
          unquit = ap (λ (r : Run V I W). r.pair.playing.transport.quit) carried.only ∙ was.unquit;
          fed = λ fine. let before = was.fed (sym (ap (λ (r : Run V I W). r.failed.read) carried.only) ∙ fine) in (fed_edited carried.only before.0, heard_edited carried.only before.1);
          plays = λ fine. let begins = letter_begins source sink s (shows old.run) (edits_of old.run) (edits_of new.run) old.control new.control carried.letter in
              subst (PlayAsPlain s (edits_of new.run)) (sym made_same) (subst (λ (l : List Edit). PlayAsPlain s l (made_of old.run)) begins.1
              (plain_longer s (edits_of old.run) begins.0 (made_of old.run) (was.plays (sym (ap (λ (r : Run V I W). r.failed.read) carried.only) ∙ fine))));
          none_lost = subst NoneIsLost (sym (ap captures_of carried.only)) was.none_lost;
          paced = subst (λ b. HasPaced s opening.cycles b (is.lines ++ does.taken) (standing_by (shown_core s (edits_of new.run) (made_of new.run)) new.control.standing (does.given ++ is.replies)))
              (flag ∙ sym over_same)
              (subst (λ l. HasPaced s opening.cycles (machine.is_played_out seen shown) (is.lines ++ does.taken) (standing_by (shown_core s (edits_of new.run) l) new.control.standing (does.given ++ is.replies)))
              (sym made_same)
              (each_line_is_paced s opening.cycles seen is.lines does.taken (before shown is.replies) (then shown is.replies) (does.carries seen shown is.replies (shown_of s old.run) refl) is.may.may_carry.unquit
              (subst (λ b. HasPaced s opening.cycles b is.lines (before shown is.replies)) (sym flag) was.paced)));
        }

    -- **Control has carried out its letter**, whatever way the run is on, by where that leads.
    pub control_goes : (now : Way) → MayGoOn media inputs sinks opening.started new → PublishesAsMachine s old new →
        ((c : Core) → IsSeenOf opening.cycles c (shows old.run) → c.edits ≡ edits_of old.run → LeadsTo s opening.cycles way is.lines (before c is.replies) →
        LeadsTo s opening.cycles now (is.lines ++ does.taken) (then c is.replies)) → (letters_of now ≡ [] → letters_of way ≡ []) → Goes now new
    control_goes now may ties leads before_it = record {
      may = may;
      asked = ap (λ (r : Run V I W). r.pair.butler.cycles) carried.only ∙ is.asked;
      lines = is.lines ++ does.taken;
      replies = does.given ++ is.replies;
      said = said_now;
      follows = λ fine. let old_fine = sym (ap (λ (r : Run V I W). nothing_failed r.failed) carried.only) ∙ fine in let f = is.follows old_fine in record {
        core = record f.core { edits = edits_of new.run };
        tied = ties f.core f.tied;
        leads = leads f.core (seen_of s media inputs sinks opening.started old.run refl is.may.under_way opening.cycles f.core is.asked old_fine f.tied) f.tied.rings.edits f.leads;
      };
      serial = λ none. keeps_up_now (is.serial (before_it none));
    }

  -- a letter of control that was given
  pub carry_goes : (letters : List Letter) (old new : Engine V I C W O) → CarriesALine source sink s old new → MayGoOn media inputs sinks opening.started new → PublishesAsMachine s old new → Goes (Given letters) old → Goes (Given (letters ++ machine_letters.C ∷ [])) new
  carry_goes letters old new carried may ties is = control_goes old new (Given letters) is carried (Given (letters ++ machine_letters.C ∷ [])) may ties
      (λ c seen edits come. let d = does old new (Given letters) is carried in
      control_goes_on s opening.cycles (record { letters = letters; lines = is.lines }) (before old new (Given letters) is carried c is.replies) (then old new (Given letters) is carried c is.replies) d.taken
      (d.carries opening.cycles c is.replies seen edits) come) (λ none. absurd (some_letter letters machine_letters.C none))
