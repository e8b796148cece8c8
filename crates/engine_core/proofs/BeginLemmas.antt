-- A run that has begun goes on, by no letter and no line.
use Rattle.std.proofs.Common.{◌≡◌, ◌≢◌, ℕ, arith, List, [], ◌∷◌, ◌++◌, length, refl, sym, ap, subst, ◌∙◌}
use Rattle.std.specs.Prelude.{Bool, true, false, map, not, is_none, is_some, reverse, Option, Some, None}
use Rattle.std.proofs.lemmas.Bool.{false≢true}
use Rattle.ses_io.specs.FixedList.{Listed}
use Rattle.ses_io.specs.Outside.{MediaOutside, SourceOutside, SinkOutside}
use Rattle.session_model.specs.declared.session.Session.{Session}
use Rattle.session_model.specs.declared.edit.Edit.{Edit}
use Rattle.engine_model.specs.Edits.{has_quit}
use Rattle.engine_model.specs.Journal as engine
use Rattle.engine_model.specs.Truth.{losses}
use Rattle.machine_model.specs.Core as machine
use Rattle.machine_model.specs.Core.{Core}
use Rattle.edition_log.specs.EditionState.{EditionState}
use Rattle.edition_log.proofs.PlayLaws.{editions_play_their_places}
use Rattle.cycle_journal.specs.declared.entry.Entry.{Entry}
use Rattle.cycle_journal.specs.JournalView.{seen_entries}
use Rattle.process_cycle.specs.ProcessState.{entries_of}
use Rattle.control_desk.specs.declared.standing.End.{End}
use Rattle.control_desk.specs.declared.standing.End.TheVariants.{NoLine}
use Rattle.control_desk.specs.Standing as desk
use Rattle.control_desk.specs.Standing.{Ended, Ready}
use Rattle.control_desk.proofs.ControlLemmas.{goes_nowhere}
use Rattle.control_letter.specs.Shown.{shown_core, standing_by}
use Rattle.serial_laws.specs.Answered.{HasAnswered}
use Rattle.serial_laws.specs.Leads.{HasCome}
use Rattle.serial_laws.specs.Paced.{HasPaced}
use Rattle.serial_laws.proofs.AnsweredLemmas.{nothing_is_answered_at_first}
use Rattle.serial_laws.proofs.GivenLemmas.{a_run_begins}
use Rattle.serial_laws.proofs.PacedLemmas.{nothing_is_paced_at_first}
use Rattle.run_world.specs.declared.opened.Opened.{Opened}
use Rattle.run_world.specs.declared.opened.Script.{Script}
use Rattle.worker_pair.specs.declared.pair.Pair.{Pair}
use Rattle.worker_pair.specs.Plays.{OnlyTheMaster}
use Rattle.worker_pair.specs.Starts.{HaveBegun, IsBegunBy, MayBegin}
use Rattle.worker_pair.specs.Tied.{IsTied}
use Rattle.engine_core.specs.declared.run.Run.{Run}
use Rattle.engine_core.specs.Now.{is_played_out}
use Rattle.engine_core.specs.Fed.{PlayAsPlain}
use Rattle.engine_core.specs.UnderWay.{IsFresh, IsUnderWay}
use Rattle.engine_core.specs.Carrying.{IsQuietScript}
use Rattle.engine_core.specs.Events.{given}
use Rattle.engine_core.specs.Going.{IsGoing}
use Rattle.run_end.specs.declared.lists.RunLists.{RunLists}
use Rattle.run_end.specs.Lists.{HaveRoomFor, no_lists}
use Rattle.engine_core.proofs.FedBeginLemmas.{first_fed, first_heard}
use Rattle.run_end.specs.Beginning.{MayRun, started_of}
use Rattle.run_end.specs.Lines.{control_of}
use Rattle.engine_core.specs.Beginning.{opening_of, start_of, unlettered}

ready_isnt_ended : (why : End) → Ready ≢ Ended why
ready_isnt_ended why e = absurd cc

-- ---- the workers

module _ {M I C W O : Type 0} (media : MediaOutside M) (inputs : SourceOutside I) (sinks : SinkOutside W) (o : Opened M I C W O) where
  abbrev s : Session
  s = o.edition.session

  read_only : (script : Option Script) → is_none script ≡ true → script ≡ None
  read_only None e = refl
  read_only (Some script) e = absurd (false≢true e)

  pub may_begin : MayRun media o → MayBegin s (start_of o)
  may_begin may = record {
    valid = may.valid;
    edition_of = may.edition_of;
    first = may.first;
    not_ended = may.not_ended;
    listed = may.listed;
    held = may.held;
    some_cycle = may.some_cycle;
    near = may.near;
    form_found = may.form_found;
  }

  pub begun_by : MayRun media o → IsBegunBy media inputs sinks (started_of media inputs sinks o).begun (start_of o)
  begun_by may = record { told = refl; may_record = λ records tells. may.may_record (read_only o.script records) tells }

  -- workers that did nothing yet
  pub fresh : (p : Pair M I W) → HaveBegun media inputs sinks (started_of media inputs sinks o).begun (start_of o) p → IsFresh media inputs sinks (started_of media inputs sinks o) p
  fresh p b = record {
    runs = b.runs;
    none = ap (λ (j : Listed Entry). j.items) b.journal;
    not_entered = b.entered;
    not_looked = b.played;
    shut = b.in_cycle;
    media_is = b.media_is;
    opened = b.sources_are;
    input_is = b.input_is;
    stream_is = b.stream;
    master_is = b.master_is;
    held = refl;
    none_read = b.none_read;
    none_written = b.none_written;
  }

-- where only the master has changed, the core machine is where it was
pub tied_still : {V I W : Type 0} (s : Session) (c : Core) (old new : Pair V I W) → OnlyTheMaster old new → IsTied s c old → IsTied s c new
tied_still s c old new only tied = subst (IsTied s c) (sym only) (record {
  rings = record {
    edits = tied.rings.edits;
    entered = tied.rings.entered;
    many = tied.rings.many;
    tracks = tied.rings.tracks;
    acks = tied.rings.acks;
    taken = tied.rings.taken;
    none_read = tied.rings.none_read;
    none_written = tied.rings.none_written;
  };
  entries = tied.entries;
  playing = tied.playing;
  in_cycle = tied.in_cycle;
  control = tied.control;
  told_butler = tied.told_butler;
  told_control = tied.told_control;
})

-- the front of an empty list is empty
front_of_none : {X : Type 0} (xs ys : List X) → xs ++ ys ≡ [] → xs ≡ []
front_of_none [] ys e = refl
front_of_none (x ∷ xs) ys e = absurd (some_item e)
  where
    some_item : x ∷ (xs ++ ys) ≡ [] → ⊥
    some_item e = cc

-- ---- with its control

module _ {M I C W O : Type 0} (media : MediaOutside M) (inputs : SourceOutside I) (source : SourceOutside C) (sinks : SinkOutside W) (sink : SinkOutside O) (o : Opened M I C W O) (may : MayRun media o) where
  -- control waits for nothing, and hasn't ended
  ready : (script : Option Script) → (control_of {C = C} {O = O} o.world.control o.world.out script).standing ≡ Ready
  ready (Some script) = refl
  ready None = refl

  -- a script lets no transport record
  quiet : (script : Option Script) → is_none script ≡ false → IsQuietScript (control_of {C = C} {O = O} o.world.control o.world.out script).script
  quiet (Some script) e = refl
  quiet None e = absurd (false≢true (sym e))

  pub begins_going : (p : Pair M I W) → HaveBegun media inputs sinks (started_of media inputs sinks o).begun (start_of o) p → (run : Run M I W) →
      IsUnderWay media inputs sinks (started_of media inputs sinks o) run → OnlyTheMaster p run.pair →
      IsGoing media inputs source sinks sink (given (unlettered (opening_of media inputs sinks o))) (record { run = run; control = control_of o.world.control o.world.out o.script })
  begins_going p b run under_way only = record {
    may = record {
      under_way = under_way;
      may_carry = record {
        unquit = λ reading. ap (λ (l : List Edit). has_quit l (length l)) none;
        quits = ap desk.has_quit (ready o.script) ∙ sym (ap (λ (l : List Edit). has_quit l (length l)) none);
        quiet = λ records. quiet o.script records;
      };
    };
    asked = ap (λ (q : Pair M I W). q.butler.cycles) only ∙ b.cycles_are;
    lines = [];
    replies = [];
    said = record {
      goes = goes_nowhere source sink (control_of o.world.control o.world.out o.script);
      last = λ ended tells. absurd (ready_isnt_ended NoLine (sym (ready o.script) ∙ ended));
      answered = subst (λ l. HasAnswered (s media inputs sinks o) [] (standing_by (shown_core (s media inputs sinks o) l (entries_of run.pair.process)) (control_of o.world.control o.world.out o.script).standing [])) (sym none)
          (subst (λ l. HasAnswered (s media inputs sinks o) [] (standing_by (shown_core (s media inputs sinks o) [] l) (control_of o.world.control o.world.out o.script).standing [])) (sym none_made)
          (subst (λ st. HasAnswered (s media inputs sinks o) [] (standing_by (shown_core (s media inputs sinks o) [] []) st [])) (sym (ready o.script)) (nothing_is_answered_at_first (s media inputs sinks o))));
      holds = tt;
    };
    follows = λ fine. record {
      core = machine.at_first (s media inputs sinks o);
      tied = tied_still (s media inputs sinks o) (machine.at_first (s media inputs sinks o)) p run.pair only b.tied;
      leads = subst (λ st. HasCome (s media inputs sinks o) o.cycles (record { letters = []; lines = [] }) (standing_by (machine.at_first (s media inputs sinks o)) st [])) (sym (ready o.script))
          (a_run_begins (s media inputs sinks o) o.cycles);
    };
    serial = λ unlettered. record {
      shut = ap (λ (q : Pair M I W). q.in_cycle) only ∙ b.in_cycle;
      unquit = (editions_play_their_places (s media inputs sinks o) run.pair.playing under_way.rests.entered.edition_of).quit ∙ ap (λ (l : List Edit). has_quit l (length l)) none_played;
      fed = λ fine. (
        first_fed media inputs sinks (started_of media inputs sinks o) run under_way tied_now none_made,
        first_heard media inputs sinks (started_of media inputs sinks o) run under_way tied_now none_made,
      );
      plays = λ fine. subst (PlayAsPlain (s media inputs sinks o) run.pair.edition.edits) (sym none_made) tt;
      none_lost = λ t d here. (under_way.rests.promises.captured t d here).heads ∙ ap (λ (es : List engine.Entry). map (λ l. l.head) (losses t (reverse es))) none_made;
      paced = subst (λ l. HasPaced (s media inputs sinks o) o.cycles (is_played_out run) []
          (standing_by (shown_core (s media inputs sinks o) l (entries_of run.pair.process)) (control_of o.world.control o.world.out o.script).standing [])) (sym none)
          (subst (λ l. HasPaced (s media inputs sinks o) o.cycles (is_played_out run) [] (standing_by (shown_core (s media inputs sinks o) [] l) (control_of o.world.control o.world.out o.script).standing [])) (sym none_made)
          (subst (λ st. HasPaced (s media inputs sinks o) o.cycles (is_played_out run) [] (standing_by (shown_core (s media inputs sinks o) [] []) st [])) (sym (ready o.script))
          (nothing_is_paced_at_first (s media inputs sinks o) o.cycles (is_played_out run))));
    };
  }
    where
      none : run.pair.edition.edits ≡ []
      none = ap (λ (q : Pair M I W). q.edition.edits) only ∙ ap (λ (e : EditionState). e.edits) b.edition ∙ may.first

      tied_now : IsTied (s media inputs sinks o) (machine.at_first (s media inputs sinks o)) run.pair
      tied_now = tied_still (s media inputs sinks o) (machine.at_first (s media inputs sinks o)) p run.pair only b.tied

      none_played : run.pair.playing.edits ≡ []
      none_played = front_of_none run.pair.playing.edits under_way.rests.entered.begins.0 (under_way.rests.entered.begins.1 ∙ none)

      none_made : entries_of run.pair.process ≡ []
      none_made = ap (λ (q : Pair M I W). entries_of q.process) only ∙ ap (λ (j : Listed Entry). reverse (seen_entries j.items)) b.journal

-- ---- the lists

pub has_room : (s : Session) (lists : RunLists) (tracks : ℕ) → lists ≡ no_lists tracks → tracks ≡ length s.tracks.items → HaveRoomFor s lists
has_room s lists tracks is many = subst (HaveRoomFor s) (sym is) (record { no_rings = refl; rings_room = omega (arith, many); no_edits = refl; edits_room = omega arith })

-- ---- whether lines are read

pub none_by : {X : Type 0} (o : Option X) (b : Bool) → is_some o ≡ not b → b ≡ is_none o
none_by None true e = refl
none_by None false e = absurd (false≢true e)
none_by (Some x) true e = absurd (false≢true (sym e))
none_by (Some x) false e = refl
