-- What a run leaves that was played, from what the engine says of it.
use Rattle.std.proofs.Common.{◌≡◌, ℕ, suc, ◌*◌, ◌<◌, ◌≤◌, ◌⊎◌, inl, inr, refl, sym, ap, subst, ◌∙◌, arith, List, [], ◌++◌, length, drop}
use Rattle.std.specs.Prelude.{min, Bool, true, false, ◌||◌, Option, Some, None, is_none, is_ok}
use Rattle.std.proofs.lemmas.Bool.{true≢false}
use Rattle.std.specs.Option.{option_map}
use Rattle.std.proofs.lemmas.List.{append_assoc}
use Rattle.sound_model.specs.Regions.{Sounds}
use Rattle.sound_model.specs.Wav.{head}
use Rattle.ses_io.specs.Faults.{risen}
use Rattle.ses_io.specs.Files.{Files}
use Rattle.ses_io.specs.Outside.{MediaOutside, SourceOutside, SinkOutside, OnlyReads}
use Rattle.ses_io.specs.Streams.{AppendsSome}
use Rattle.ses_io.specs.declared.world.World.{World}
use Rattle.session_model.specs.declared.session.Session.{Session}
use Rattle.audio_source.specs.Told.{source_sound}
use Rattle.engine_model.specs.Played.{master_file, samples_of}
use Rattle.engine_model.specs.Replies.{Reply}
use Rattle.cycle_journal.specs.declared.head.ReportHead.{ReportHead}
use Rattle.cycle_journal.specs.declared.status.Status.{Status}
use Rattle.cycle_journal.specs.Report.{report}
use Rattle.cycle_journal.specs.RunReport.{reported}
use Rattle.capture_flush.specs.Finished.{AreTakes, AreTakesInPart}
use Rattle.fault_lines.specs.Fault.{fault_line}
use Rattle.input_blocks.specs.Laws.{SoundOfTheRest}
use Rattle.input_blocks.specs.Rest.{stream_told}
use Rattle.run_world.specs.declared.finished.Finished.{Finished}
use Rattle.run_world.specs.declared.opened.Opened.{Opened}
use Rattle.run_world.specs.declared.opened.Script.{Script}
use Rattle.run_end.specs.Beginning.{started_of}
use Rattle.run_end.specs.Failures.{IsFaultCount}
use Rattle.run_end.specs.Finished.{FaultsAreCounted, LeavesRings, SendsGenuine, run_end_of, journal_of}
use Rattle.engine_core.specs.Lines.{GoesByItsLines}
use Rattle.run_end.specs.Mastered.{InputGave, IsCutOff, MakesItsCycles, MasterIsCutOff, MasterIsWhole, after_blocks}
use Rattle.run_end.specs.Passed.{AllGenuine}
use Rattle.run_end.specs.Takes.{AreCut, LeavesTakes}
use Rattle.run_letters.specs.declared.event.Event.{Event}
use Rattle.session_play.specs.declared.outcome.Outcome.{Outcome}
use Rattle.session_play.specs.Counted.{AreCounted}
use Rattle.session_play.specs.Loading.{IsHeard, IsLoadedFor}
use Rattle.session_play.specs.Played.{HandsOn, IsRun}
use Rattle.session_play.specs.Ready.{loaded_of}
use Rattle.session_play.specs.Recorded.{GetsItsMaster, LeavesItsRings, LeavesItsTakes, ReadsItsInput, recorded_by}
use Rattle.control_desk.specs.GoesOn.{HasLastInPart}
use Rattle.session_play.specs.Reported.{IsStill, Reports, TellsOut, head_of, reported_with, said, told}
use Rattle.session_play.specs.Request.{Request}
use Rattle.session_opening.specs.Sounds.{bytes_of_block, input_left, sounds_in}
use Rattle.session_play.proofs.ControlLemmas.{HasReplies, asked, by_lines, has_replies, none_given}
use Rattle.session_play.proofs.InputLemmas.{block_is, left_is, sound_is}
use Rattle.session_play.proofs.ReportLemmas.{both_whole, front_behind, front_of_more}
use Rattle.session_opening.proofs.SoundLemmas.{sounds_are}

-- ---- out

record_script : (x : Option Script) → is_none (option_map (λ q. q.from) x) ≡ is_none x
record_script None = refl
record_script (Some q) = refl

both : (a b : Bool) → (a || b) ≡ true → (a ≡ true) ⊎ (b ≡ true)
both true b e = inl refl
both false b e = inr e

neither : (a b : Bool) → (a || b) ≡ false → a ≡ false
neither true b e = e
neither false b e = refl

-- What the engine says of a run.
pub record Leaves {M I C W O : Type 0} (media : MediaOutside M) (inputs : SourceOutside I) (controls : SourceOutside C) (masters : SinkOutside W) (outs : SinkOutside O) (o : Opened M I C W O) (events : List Event)
    (f : Finished M I C W O) : Type 0 where
  pub lines : GoesByItsLines controls outs o events f
  pub rings : LeavesRings o f
  pub genuine : media.tells → SendsGenuine media o f
  pub master : media.tells → masters.tells → MasterIsWhole media masters o f
  pub cut_off : media.tells → masters.tells → MasterIsCutOff media masters o f
  pub cycles : MakesItsCycles o f
  pub input : InputGave inputs o f
  pub takes : LeavesTakes media inputs (started_of media inputs masters o) (run_end_of f)
  pub counts : FaultsAreCounted media inputs controls masters outs o f

module _ {M I C W O : Type 0} (media : MediaOutside M) (inputs : SourceOutside I) (controls : SourceOutside C) (masters : SinkOutside W) (outs : SinkOutside O) (o : Opened M I C W O) (events : List Event)
    (f : Finished M I C W O) (leaves : Leaves media inputs controls masters outs o events f) (m : M) (i : I) (name : List ℕ) where
  abbrev s : Session
  s = o.edition.session

  -- the world before session and input were read
  abbrev pub before : World M I C W O
  before = record o.world { media = m; input = i }

  abbrev pub request : Request
  request = asked controls outs o events f leaves.lines name

  abbrev replies : List Reply
  replies = leaves.lines.replies

  -- ---- out

  module _ (head : ReportHead) (head_is : head ≡ head_of s o.cycles) (status : Status) (new : O) (reports : Reports outs head f status new) where
    abbrev heard_so_far : List ℕ
    heard_so_far = said request.script replies

    abbrev behind : List ℕ
    behind = reported_with head f status

    has : HasReplies controls outs o events f leaves.lines heard_so_far
    has = has_replies controls outs o events f leaves.lines

    told_is : told request s f replies status ≡ heard_so_far ++ behind
    told_is = append_assoc heard_so_far (report (reported (head_of s o.cycles) f.edits.items f.journal.items)) (fault_line status)
        ∙ ap (λ h. heard_so_far ++ reported_with h f status) (sym head_is)

    whole : (b : Bool) → f.faults.out ≡ b → outs.tells → IsStill (outs.faults o.world.out) (outs.faults new) → outs.held new ≡ outs.held o.world.out ++ told request s f replies status
    whole true is t still = absurd (omega (arith, leaves.counts.outs.raised is, reports.later, still.same, still.short))
    whole false is t still = both_whole (outs.held o.world.out) (outs.held f.world.out) (outs.held new) heard_so_far behind (has.all t is)
        (reports.whole is t (record { same = omega (arith, still.same, leaves.counts.outs.kept is); short = omega (arith, still.short, leaves.counts.outs.kept is) }))
        ∙ ap (λ xs. outs.held o.world.out ++ xs) (sym told_is)

    front : (b : Bool) → f.faults.out ≡ b → outs.tells → AppendsSome (outs.held o.world.out) (outs.held new) (told request s f replies status)
    front true is t = subst (λ xs. AppendsSome (outs.held o.world.out) (outs.held new) xs) (sym told_is)
        (subst (λ (x : O). AppendsSome (outs.held o.world.out) (outs.held x) (heard_so_far ++ behind)) (sym (reports.silent is))
        (front_of_more (outs.held o.world.out) (outs.held f.world.out) heard_so_far behind (has.front t)))
    front false is t = subst (λ xs. AppendsSome (outs.held o.world.out) (outs.held new) xs) (sym told_is)
        (front_behind (outs.held o.world.out) (outs.held f.world.out) (outs.held new) heard_so_far behind (has.all t is) (reports.front is t))

    sure : (b : Bool) → f.faults.out ≡ b → outs.tells → (f.faults.out || reports.unreported) ≡ false → fault_line status ≡ [] → outs.held new ≡ outs.held o.world.out ++ told request s f replies status
    sure true is t good none = absurd (true≢false (sym is ∙ neither f.faults.out reports.unreported good))
    sure false is t good none = both_whole (outs.held o.world.out) (outs.held f.world.out) (outs.held new) heard_so_far behind (has.all t is) (reports.sure good none t) ∙ ap (λ xs. outs.held o.world.out ++ xs) (sym told_is)

    raised : (b : Bool) → f.faults.out ≡ b → (f.faults.out || reports.unreported) ≡ true → risen (outs.faults o.world.out) ≤ outs.faults new
    raised true is some = omega (arith, leaves.counts.outs.raised is, reports.later)
    raised false is some = subst (λ n. risen n ≤ outs.faults new) (leaves.counts.outs.kept is) (reports.raised (ap (λ b. b || reports.unreported) (sym is) ∙ some))

    tells_out : TellsOut outs o.world.out new request s f replies status
    tells_out = record {
      unreported = reports.unreported;
      status_is = reports.status_is;
      whole = whole f.faults.out refl;
      sure = sure f.faults.out refl;
      front = front f.faults.out refl;
      silent = λ is. subst (HasLastInPart outs replies o.world.out) (sym (reports.silent is)) (has.cut is);
      later = omega (arith, leaves.counts.outs.later, reports.later);
      raised = raised f.faults.out refl;
      kept = λ none silent. reports.kept none silent ∙ leaves.counts.outs.kept (neither f.faults.out reports.unreported none);
    }

  -- ---- what was opened

  module _ (loaded : IsLoadedFor media m request (loaded_of o)) (heard : IsHeard inputs s i o.world.input o.form) (files : OnlyReads media m o.world.media)
      (reads_same : media.read_faults o.world.media ≡ media.read_faults m) (inputs_same : inputs.faults o.world.input ≡ inputs.faults i) (law : SoundOfTheRest) where
    sounds : media.tells → source_sound (media.files o.world.media) o.sources.opened ≡ sounds_in (media.files m) s
    sounds t = ap (λ fs. source_sound fs o.sources.opened) files.files ∙ sounds_are (media.files m) s o.sources.opened (loaded.heads t)

    gets_master : GetsItsMaster media masters before request s f
    gets_master = record {
      written = λ t u fine. leaves.master t u fine ∙ ap (λ (h : Sounds). masters.held o.world.master ++ master_file s f.edits.items (samples_of h s f.edits.items) o.cycles (journal_of f)) (sounds t);
      cut_off = λ t u failed. subst (λ (h : Sounds). IsCutOff f.faults.input (masters.held o.world.master) (masters.held f.world.master) s f.edits.items (samples_of h s f.edits.items) o.cycles (journal_of f)) (sounds t)
          (leaves.cut_off t u failed);
      most = leaves.cycles.most;
      all = λ none no_input no_master. leaves.cycles.all none (ap (λ b. b || f.faults.master) no_input ∙ no_master);
    }

    -- ---- the input

    abbrev made : ℕ
    made = length (journal_of f)

    -- what so many blocks leave
    after : (n : ℕ) → inputs.tells → after_blocks inputs o n ≡ input_left s n (inputs.left i)
    after n t = left_is s (inputs.left i) (inputs.left o.world.input) o.form n (heard.told t) (heard.rest t)

    fell_by : inputs.tells → f.faults.input ≡ true → (n : ℕ) × (n < bytes_of_block (head false (inputs.left i)) s made) × (inputs.left f.world.input ≡ drop n (input_left s made (inputs.left i)))
    fell_by t failed = let lost = leaves.input.fell t failed in (
      lost.0,
      block_is s (inputs.left i) o.form made (min (made * s.block) (stream_told o.form).frames) lost.0 (heard.told t) refl lost.1,
      lost.2 ∙ ap (drop lost.0) (after made t),
    )

    cut_by : (inputs.left f.world.input ≡ after_blocks inputs o made) ⊎ (inputs.left f.world.input ≡ after_blocks inputs o (suc made)) → inputs.tells →
        (inputs.left f.world.input ≡ input_left s made (inputs.left i)) ⊎ (inputs.left f.world.input ≡ input_left s (suc made) (inputs.left i))
    cut_by (inl left) t = inl (left ∙ after made t)
    cut_by (inr left) t = inr (left ∙ after (suc made) t)

    reads_input : ReadsItsInput inputs i s f
    reads_input = record {
      read = λ t no_input no_master. leaves.input.read t (ap (λ b. b || f.faults.master) no_input ∙ no_master) ∙ after made t;
      fell = λ t failed. fell_by t failed;
      cut = λ t no_input failed. cut_by (leaves.input.cut t no_input failed) t;
    }

    -- ---- takes and rings

    leaves_takes : LeavesItsTakes media inputs before request s f
    leaves_takes = let journal = journal_of f in let input = leaves.takes.input in let now = media.files f.world.media in record {
      input = input;
      told_so = λ t. leaves.takes.told_so t ∙ sound_is law s (inputs.left i) (inputs.left o.world.input) o.form (heard.told t) (heard.rest t);
      captured = leaves.takes.captured;
      whole = λ rec t fine. subst (λ (fs : Files). AreTakes (record { session = s; input = input; held = fs }) journal now) files.files (leaves.takes.whole (sym (record_script o.script) ∙ rec) t fine);
      in_part = λ rec t failed. subst (λ (fs : Files). AreTakesInPart (record { session = s; input = input; held = fs }) journal now) files.files (leaves.takes.in_part (sym (record_script o.script) ∙ rec) t failed);
      others = λ rec t. subst (λ n. AreCut (recorded_by media before s input) journal n (media.write_faults f.world.media) now) files.other_count
          (subst (λ (fs : Files). AreCut (record { session = s; input = input; held = fs }) journal (media.write_faults o.world.media) (media.write_faults f.world.media) now) files.files
          (leaves.takes.others (sym (record_script o.script) ∙ rec) t));
      same = λ rec. leaves.takes.same (sym (record_script o.script) ∙ rec) ∙ files.files;
      unwritten = λ rec. leaves.takes.unwritten (sym (record_script o.script) ∙ rec);
    }

    leaves_rings : LeavesItsRings media before s f
    leaves_rings = record {
      passed = leaves.rings.passed;
      genuine = λ t. subst (λ (h : Sounds). AllGenuine h s f.edits.items f.rings.items) (sounds t) (leaves.genuine t);
      spent = leaves.rings.spent;
      acks = leaves.rings.acks_are;
      none_taken = leaves.lines.alone.none_taken;
      ungranted = leaves.lines.alone.ungranted;
    }

    are_counted : AreCounted media inputs controls masters before f
    are_counted = record {
      reads = subst (λ n. IsFaultCount n (media.read_faults f.world.media) f.faults.read) reads_same leaves.counts.reads;
      writes = subst (λ n. IsFaultCount n (media.write_faults f.world.media) f.faults.write) files.other_count leaves.counts.writes;
      inputs_are = subst (λ n. IsFaultCount n (inputs.faults f.world.input) f.faults.input) inputs_same leaves.counts.inputs_are;
      masters_are = leaves.counts.masters;
      controls_are = leaves.counts.controls;
      memory = leaves.lines.alone.memory;
    }

    -- **it was played**
    pub is_played : (new : Outcome M I C W O) → HandsOn f new → (head : ReportHead) → head ≡ head_of s o.cycles → Reports outs head f new.status new.world.out →
        IsRun media inputs controls masters outs before request new
    is_played new hands_on head head_is reports = record {
      session = s;
      valid = loaded.loaded.valid;
      of_file = loaded.of_file;
      fresh = loaded.fresh;
      heard = λ t. ap is_ok (heard.told t);
      finished = f;
      hands_on = hands_on;
      lines = leaves.lines.lines;
      replies = replies;
      by_lines = by_lines controls outs o events f leaves.lines name;
      serial = λ none. leaves.lines.alone.serially (none_given controls outs o events f leaves.lines events none);
      master = gets_master;
      input = reads_input;
      takes = leaves_takes;
      rings = leaves_rings;
      counted = are_counted;
      out = tells_out head head_is new.status new.world.out reports;
    }
