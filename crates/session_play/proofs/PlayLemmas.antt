-- What a run that is ready may begin with and plays, and what one leaves that isn't played.
use Rattle.std.proofs.Common.{◌≡◌, ℕ, refl, sym, ap, subst, ◌∙◌, ◌<◌, ◌≤◌, inl, inr, List, ◌++◌, length, arith, get_or}
use Rattle.std.specs.Prelude.{◌⊎◌, false, map, Option, Some, None, is_none, Result, Ok, Err, IsSome, codes, slice_get}
use Rattle.std.specs.Option.{option_map}
use Rattle.sound_model.specs.Wav.{Head, Refusal, head}
use Rattle.ses_io.specs.Files.{Files, HasNameUnder}
use Rattle.ses_io.specs.Outside.{MediaOutside, SourceOutside, SinkOutside, OnlyReads}
use Rattle.ses_io.specs.declared.world.World.{World}
use Rattle.wav_codec.specs.Info.{head_of as wav_head}
use Rattle.wav_codec.specs.declared.info.WavInfo.{WavInfo}
use Rattle.session_model.specs.declared.session.Session.{Session}
use Rattle.session_model.specs.declared.session.SourceDecl.{SourceDecl}
use Rattle.machine_model.specs.Letters.{Letter}
use Rattle.audio_source.specs.Opened.{OpenedSource, IsOpened}
use Rattle.audio_source.specs.Refusals.{NoFile, source_head}
use Rattle.cycle_journal.specs.declared.status.Status.{Status}
use Rattle.cycle_journal.specs.declared.status.Status.TheVariants.{ReadFault, InputFault, BadInput, NoMemory}
use Rattle.run_end.specs.Beginning.{MayRun}
use Rattle.run_letters.specs.Events.{letter_of}
use Rattle.run_letters.specs.declared.event.Event.{Event}
use Rattle.std.proofs.lemmas.Option.{slice_get_cases, slice_get_within}
use Rattle.fault_lines.specs.Fault.{fault_line}
use Rattle.input_blocks.specs.Laws.{SoundOfTheRest}
use Rattle.input_head.specs.Input.{input_head}
use Rattle.input_head.specs.Taken.{StandsBehind, TakesNoData}
use Rattle.run_world.specs.declared.finished.Finished.{Finished}
use Rattle.run_world.specs.declared.opened.Script.{Script}
use Rattle.session_opening.specs.declared.loading.Loaded.{Loaded}
use Rattle.session_opening.proofs.FileLemmas.{have_files}
use Rattle.session_play.specs.declared.asked.Request as code
use Rattle.session_play.specs.declared.outcome.Outcome.{Outcome}
use Rattle.session_play.specs.declared.playing.Ready.{Ready}
use Rattle.session_play.specs.Causes.{HasCauses}
use Rattle.session_play.specs.Complete.{IsComplete}
use Rattle.session_play.specs.Ending.{with_report}
use Rattle.session_play.specs.Loading.{HearCause, IsHeard, IsLoadedFor, IsUnheard}
use Rattle.session_play.specs.Opening.{IsTold}
use Rattle.session_play.specs.Played.{HandsOn, IsRun, WasPlayed}
use Rattle.session_play.specs.Ready.{IsKept, IsReady, OnlyOpens, loaded_of}
use Rattle.session_play.specs.Reported.{Reports, head_of}
use Rattle.session_play.specs.Request.{IsAsked, Request, request_view}
use Rattle.session_play.specs.Unplayed.{CountsBefore, Gets, GetsAFront, IsAfterHead, IsBeforePlay, IsRefusal, IsUnplayed}
use Rattle.session_play.proofs.CauseLemmas.{SaysOf, ends_so, has_causes, is_complete, says_of}
use Rattle.session_play.proofs.InputLemmas.{head_is}
use Rattle.session_play.proofs.OpeningLemmas.{told_by_memory, told_by_play, told_by_unheard}
use Rattle.session_play.proofs.PlayedLemmas.{Leaves, is_played}

-- ---- the head of the input was taken, and none of its data

head_alone : (s : Session) (before after : List ℕ) (form : Option WavInfo) → input_head s before ≡ Ok (option_map wav_head form) → StandsBehind before after form → TakesNoData before after
head_alone s before after None told behind = record { taken = 0; rest = behind; outside_data = λ h e. omega arith }
head_alone s before after (Some info) told behind = record { taken = info.data_at; rest = behind; outside_data = λ h e. the_data h (head false before) (head_is s before (wav_head info) told) e } where
  the_data : (h : Head) (r : Result Head Refusal) → r ≡ Ok (wav_head info) → r ≡ Ok h → info.data_at ≤ h.data_at
  the_data h r one two = let same : wav_head info ≡ h = (let e = sym one ∙ two in cc) in subst (λ (k : Head). info.data_at ≤ k.data_at) same (omega arith)

module _ {M I C W O : Type 0} (media : MediaOutside M) (inputs : SourceOutside I) (old : World M I C W O) (q : code.Request) where
  -- ---- what keeps it from being played

  kept_by_memory : (new : World M I C W O) → OnlyOpens media old new → media.read_faults new.media ≡ media.read_faults old.media → (inputs.tells → TakesNoData (inputs.left old.input) (inputs.left new.input)) →
      inputs.faults new.input ≡ inputs.faults old.input → IsKept media inputs old q NoMemory new
  kept_by_memory new only reads_same taken inputs_same = record {
    before = tt;
    told = told_by_memory media inputs old.media old.input (request_view q);
    only = only;
    input = taken;
    untouched = λ other. absurd (other tt);
    reads = record { rose = λ e. absurd (cc); same = λ _. reads_same };
    inputs_are = record { rose = λ e. absurd (cc); same = λ _. inputs_same };
  }

  module _ (o : Loaded) (loaded : IsLoadedFor media old.media (request_view q) o) (m : M) (reads : OnlyReads media old.media m) (reads_same : media.read_faults m ≡ media.read_faults old.media) (i : I) where
    abbrev opened_so_far : World M I C W O
    opened_so_far = record old { media = m; input = i }

    only_opens : OnlyOpens media old opened_so_far
    only_opens = record { files = reads; rest = refl }

    -- its input isn't one to play with, or a read of it failed
    pub kept_by_unheard : (s : Status) → IsUnheard inputs o.edition.session old.input i s → HearCause {A = Option WavInfo} (inputs.faults old.input) (inputs.faults i) (Err s) → IsKept media inputs old q s opened_so_far
    kept_by_unheard (BadInput why) u cause = record {
      before = tt;
      told = told_by_unheard media inputs old.media old.input (request_view q) o loaded i (BadInput why) u;
      only = only_opens;
      input = u.rest;
      untouched = λ other. absurd (other tt);
      reads = record { rose = λ e. absurd (cc); same = λ _. reads_same };
      inputs_are = record { rose = λ e. absurd (cc); same = λ _. cause };
    }
    kept_by_unheard InputFault u cause = record {
      before = tt;
      told = told_by_unheard media inputs old.media old.input (request_view q) o loaded i InputFault u;
      only = only_opens;
      input = u.rest;
      untouched = λ other. absurd (other tt);
      reads = record { rose = λ e. absurd (cc); same = λ _. reads_same };
      inputs_are = record { rose = λ _. cause; same = λ other. absurd (other refl) };
    }
    kept_by_unheard _ u cause = absurd u.says

    -- memory runs out once it was heard
    pub kept_by_heard : (form : Option WavInfo) → IsHeard inputs o.edition.session old.input i form → inputs.faults i ≡ inputs.faults old.input → IsKept media inputs old q NoMemory opened_so_far
    kept_by_heard form heard same = kept_by_memory opened_so_far only_opens reads_same
        (λ t. head_alone o.edition.session (inputs.left old.input) (inputs.left i) form (heard.told t) (heard.rest t)) same

  -- ---- a run that is ready

  module _ (x : Ready M I C W O) (is : IsReady media inputs old q x) where
    -- it may begin
    pub may_run : IsAsked q → MayRun media x.opened
    may_run asked = let l = is.loaded.loaded in record {
      valid = l.valid;
      edition_of = l.edition;
      first = l.edits;
      not_ended = l.ended;
      listed = l.listed;
      held = l.held;
      some_cycle = subst (λ n. 1 ≤ n) (sym is.cycles) asked.some;
      near = subst (λ n. n ≤ 100000) (sym is.cycles) asked.few;
      form_found = is.heard.found;
      may_record = λ none t. record {
        fresh = λ under. is.loaded.fresh t (ap (λ (a : Option Script). is_none (option_map (λ k. k.from) a)) (sym is.script ∙ none))
            (subst (λ (fs : Files). HasNameUnder fs (x.opened.edition.session.takes ++ codes "-")) is.only.files.files under);
        there = λ i o at. subst (λ (fs : Files). IsSome (fs o.file)) (sym is.only.files.files)
            (have_files (media.files old.media) x.opened.edition.session.rate x.opened.edition.session.sources.items x.opened.sources.opened (is.loaded.heads t) i o at);
      };
    }

    -- or memory runs out
    pub kept_by_ready : IsKept media inputs old q NoMemory x.opened.world
    kept_by_ready = kept_by_memory x.opened.world is.only is.reads_same
        (λ t. head_alone x.opened.edition.session (inputs.left old.input) (inputs.left x.opened.world.input) x.opened.form (is.heard.told t) (is.heard.rest t)) is.inputs_same

    -- or it is played
    module _ (controls : SourceOutside C) (masters : SinkOutside W) (outs : SinkOutside O) (events : List Event) (given : events ≡ x.events.items) (f : Finished M I C W O)
        (leaves : Leaves media inputs controls masters outs x.opened events f) where
      abbrev view : Request
      view = record { session = q.session.now; cycles = x.opened.cycles; script = option_map (λ k. k.from) x.opened.script; letters = map letter_of events }

      view_is : view ≡ request_view q
      view_is = ap (λ n. record { session = q.session.now; cycles = n; script = option_map (λ k. k.from) x.opened.script; letters = map letter_of events }) is.cycles
          ∙ ap (λ (a : Option Script). record { session = q.session.now; cycles = q.cycles; script = option_map (λ k. k.from) a; letters = map letter_of events }) is.script
          ∙ ap (λ (l : List Letter). record { session = q.session.now; cycles = q.cycles; script = option_map (λ k. k.from) q.script; letters = l }) (ap (λ es. map letter_of es) given ∙ is.letters)

      pub played_by : SoundOfTheRest → (new : Outcome M I C W O) → HandsOn f new → Reports outs x.head f new.status new.world.out → IsRun media inputs controls masters outs old (request_view q) new
      played_by law new hands_on reports = subst (λ (w : World M I C W O). IsRun media inputs controls masters outs w (request_view q) new) is.only.rest
          (subst (λ (r : Request). IsRun media inputs controls masters outs (record x.opened.world { media = old.media; input = old.input }) r new) view_is
          (is_played media inputs controls masters outs x.opened events f leaves old.media old.input q.session.now
          (subst (λ (r : Request). IsLoadedFor media old.media r (loaded_of x.opened)) (sym view_is) is.loaded) is.heard is.only.files is.reads_same is.inputs_same law
          new hands_on x.head head_is_of reports)) where
            head_is_of : x.head ≡ head_of x.opened.edition.session x.opened.cycles
            head_is_of = is.head ∙ ap (λ n. head_of x.opened.edition.session n) (sym is.cycles)

      pub was_played : SoundOfTheRest → (new : Outcome M I C W O) → HandsOn f new → Reports outs x.head f new.status new.world.out → WasPlayed media inputs controls masters outs old (request_view q) new new.journal
      was_played law new hands_on reports = subst (λ j. WasPlayed media inputs controls masters outs old (request_view q) new j) (sym hands_on.journal) (played_by law new hands_on reports)

    -- nothing that was wrong before is told then
    pub told_by_report : (outs : SinkOutside O) (f : Finished M I C W O) (status : Status) (new : O) → Reports outs x.head f status new → IsTold media inputs (media.files old.media) old.input (request_view q) status
    told_by_report outs f status new reports = told_by_play media inputs old.media old.input (request_view q) (loaded_of x.opened) is.loaded x.opened.world.input x.opened.form is.heard status
        (let said = with_report reports.unreported f.faults in ends_so said status (subst (SaysOf said) (sym reports.status_is) (says_of said)))

  -- ---- a run that isn't played

  pub unplayed_by : (outs : SinkOutside O) (s : Status) (kept : World M I C W O) (new : Outcome M I C W O) → IsKept media inputs old q s kept → IsRefusal outs s kept new → IsUnplayed media inputs outs old new
  unplayed_by outs s kept new is refusal = record {
    status = subst IsBeforePlay (sym refusal.status_is) is.before;
    files = subst (λ (w : World M I C W O). OnlyReads media old.media w.media) (sym refusal.same) is.only.files;
    master = ap (λ (w : World M I C W O). w.master) refusal.same ∙ ap (λ (w : World M I C W O). w.master) is.only.rest;
    control = ap (λ (w : World M I C W O). w.control) refusal.same ∙ ap (λ (w : World M I C W O). w.control) is.only.rest;
    input = λ t. subst (λ (w : World M I C W O). TakesNoData (inputs.left old.input) (inputs.left w.input)) (sym refusal.same) (is.input t);
    untouched = λ not. ap (λ (w : World M I C W O). w.input) refusal.same ∙ is.untouched (λ after. not (subst IsAfterHead (sym refusal.status_is) after));
    out = subst (λ st. Gets outs (fault_line st) old.out new.world.out ⊎ GetsAFront outs (fault_line st) old.out new.world.out) (sym refusal.status_is)
        (subst (λ (o : O). Gets outs (fault_line s) o new.world.out ⊎ GetsAFront outs (fault_line s) o new.world.out) out_is refusal.out);
    outs_later = subst (λ (o : O). outs.faults o ≤ outs.faults new.world.out) out_is refusal.later;
    reads = subst (λ st. CountsBefore ReadFault (media.read_faults old.media) (media.read_faults new.world.media) st) (sym refusal.status_is)
        (subst (λ (w : World M I C W O). CountsBefore ReadFault (media.read_faults old.media) (media.read_faults w.media) s) (sym refusal.same) is.reads);
    inputs_are = subst (λ st. CountsBefore InputFault (inputs.faults old.input) (inputs.faults new.world.input) st) (sym refusal.status_is)
        (subst (λ (w : World M I C W O). CountsBefore InputFault (inputs.faults old.input) (inputs.faults w.input) s) (sym refusal.same) is.inputs_are);
    journal = refusal.journal;
    rings = refusal.rings;
    acks = refusal.acks;
    grants = refusal.grants;
  } where
    out_is : kept.out ≡ old.out
    out_is = ap (λ (w : World M I C W O). w.out) is.only.rest

  pub was_unplayed : (controls : SourceOutside C) (masters : SinkOutside W) (outs : SinkOutside O) (s : Status) (kept : World M I C W O) (new : Outcome M I C W O) → IsKept media inputs old q s kept →
      IsRefusal outs s kept new → WasPlayed media inputs controls masters outs old (request_view q) new new.journal
  was_unplayed controls masters outs s kept new is refusal = subst (λ j. WasPlayed media inputs controls masters outs old (request_view q) new j) (sym refusal.journal) (unplayed_by outs s kept new is refusal)

  module _ (controls : SourceOutside C) (masters : SinkOutside W) (outs : SinkOutside O) (s : Status) (kept : World M I C W O) (new : Outcome M I C W O) (is : IsKept media inputs old q s kept) (refusal : IsRefusal outs s kept new) where
    pub told_unplayed : IsTold media inputs (media.files old.media) old.input (request_view q) new.status
    told_unplayed = subst (IsTold media inputs (media.files old.media) old.input (request_view q)) (sym refusal.status_is) is.told

    pub causes_unplayed : HasCauses media inputs controls masters outs old new
    causes_unplayed = has_causes media inputs controls masters outs old (request_view q) new None (unplayed_by outs s kept new is refusal)

    pub complete_unplayed : IsComplete media inputs controls masters outs old (request_view q) new
    complete_unplayed = is_complete media inputs controls masters outs old (request_view q) new None refusal.journal (unplayed_by outs s kept new is refusal) told_unplayed
