-- What a play on threads says of its lines, of patience and of allowances.
use Rattle.std.proofs.Common.{◌≡◌, inl, inr, ◌-◌, List, [], ◌∷◌, ◌++◌, length, refl, sym, ap, subst, ◌∙◌, append-nil}
use Rattle.std.specs.Prelude.{◌⊎◌, Bool, true, false, All, map, reverse, slice_get, Some}
use Rattle.std.specs.List.{list_all}
use Rattle.std.proofs.lemmas.List.Elements.{All-append, All-cons, All-head, All-nil, All-tail, All-weaker}
use Rattle.std.proofs.lemmas.List.{map-append, reverse-append, reverse-reverse}
use mathlib.Core.List.{IsPrefix}
use Rattle.ses_io.specs.FixedList.{Listed}
use Rattle.ses_io.specs.Outside.{MediaOutside, SourceOutside, SinkOutside}
use Rattle.session_model.specs.declared.session.Session.{Session}
use Rattle.session_model.specs.declared.edit.Edit.{Edit}
use Rattle.engine_model.specs.Due.{Ack}
use Rattle.engine_model.specs.Edits.{has_quit}
use Rattle.engine_model.specs.Lines.{Line, Says, accepted_of}
use Rattle.engine_model.specs.Plain.{Do}
use Rattle.engine_model.specs.Replies.{AreReplies, is_acknowledged}
use Rattle.engine_model.specs.Waited.{AreGranted, are_all_grants, are_allowed}
use Rattle.disk_ring.specs.Receiver.{Receiver}
use Rattle.disk_ring.specs.Sender.{Sender}
use Rattle.disk_ring.specs.Rings.{Joined as Ring, joined_of}
use Rattle.piece_item.specs.declared.ack.Ack as boxed
use Rattle.piece_item.specs.Views.{ack_of}
use Rattle.cycle_journal.specs.declared.entry.Entry as made
use Rattle.cycle_journal.specs.JournalView.{seen_entries}
use Rattle.control_desk.specs.GoesOn.{GoesOn}
use Rattle.control_desk.specs.State.{ControlState, Tells, ahead, reading}
use Rattle.control_desk.specs.Standing.{read_failed, write_failed}
use Rattle.process_cycle.specs.Told.{IsSettledBy}
use Rattle.process_cycle.proofs.SettledLemmas.{told_is_settled}
use Rattle.cycle_grants.specs.Grants.{grant_of, grants_in}
use Rattle.cycle_grants.proofs.AllowedLemmas.{allowances_are_kept}
use Rattle.lead_worker.specs.Heard.{HeardIsTrue, IsOfItsEntry, acks_in, is_heard}
use Rattle.lead_worker.specs.Leads.{LeadLeaves}
use Rattle.play_worker.specs.declared.worker.PlayWorker.{PlayWorker}
use Rattle.run_world.specs.declared.finished.Finished.{Finished}
use Rattle.run_world.specs.declared.finished.Grant.{Grant}
use Rattle.run_world.specs.declared.opened.Opened.{Opened}
use Rattle.run_end.specs.Failures.{IsFaultCount}
use Rattle.run_end.specs.Finished.{FaultsAreCounted, journal_of}
use Rattle.run_end.specs.Lines.{TakesItsLines, control_of}
use Rattle.thread_run.specs.Leaving.{Asked, IsLeft, input_failed}
use Rattle.thread_run.specs.Playing.{GrantsItsLines, MakesCyclesAsAllowed, PlaysItsLines, SaysItsLines, grants_of}
use Rattle.thread_run.proofs.ControlLemmas as control
use Rattle.thread_run.proofs.CycleLemmas as cycles
use Rattle.thread_run.proofs.MasterLemmas as master
use Rattle.thread_run.proofs.WaitLemmas as wait

-- what is so of each is so of each from the other end
all_turned : {X : Type 0} (P : X → Type 0) (xs : List X) → All P xs → All P (reverse xs)
all_turned P [] all = All-nil P
all_turned P (x ∷ xs) all = subst (All P) (sym (reverse-append (x ∷ []) xs))
    (All-append P (reverse xs) (x ∷ []) (all_turned P xs (All-tail P x xs all)) (All-cons P x [] (All-head P x xs all) (All-nil P)))

module _ {R M I C W O : Type 0} (media : MediaOutside M) (inputs : SourceOutside I) (source : SourceOutside C) (sinks : SinkOutside W) (sink : SinkOutside O) (on : Asked M I C W O) (f : Finished M I C W O)
    (x : IsLeft R media inputs source sinks sink on f) where
  abbrev o : Opened M I C W O
  o = on.opened

  abbrev s : Session
  s = o.edition.session

  abbrev now : Finished M I C W O
  now = cycles.now media inputs source sinks sink on f x

  abbrev led : LeadLeaves source sink x.all.crew.told.session.value o.cycles x.all.crew.leading.control x.joined.led.memory x.joined.led.lists x.joined.led.control x.joined.led.grants x.joined.led.acks
  led = x.all.led.leaves

  -- of what was opened
  abbrev Leads : Session → ControlState C O → Type 0
  Leads z from = LeadLeaves source sink z o.cycles from x.joined.led.memory x.joined.led.lists x.joined.led.control x.joined.led.grants x.joined.led.acks

  pub leads : Leads s (reading o.world.control o.world.out)
  leads = subst (λ z. Leads z (reading o.world.control o.world.out)) x.all.begun.ready.served (subst (Leads x.all.crew.told.session.value) x.all.begun.control_is led)

  -- ---- counts of faults

  pub faults_are_counted : FaultsAreCounted media inputs source sinks sink o now
  faults_are_counted = let counted = control.reading_counted source sink o.world.control o.world.out x.joined.led.control (leads.lines ++ leads.unsaid) leads.replies leads.goes in let last = x.all.played.leaves in
      let told = cycles.told_is media inputs source sinks sink on f x in record {
        reads = x.given.counts.reads;
        writes = x.given.counts.writes;
        inputs_are = subst (IsFaultCount (inputs.faults o.world.input) (inputs.faults x.ended.input)) (sym x.given.input_failed)
            (subst (λ n. IsFaultCount (inputs.faults o.world.input) n (input_failed x.joined.played.ended)) (ap inputs.faults (sym (cycles.input_is media inputs source sinks sink on f x)))
            (subst (λ n. IsFaultCount n (inputs.faults last.last.process.input.input) (input_failed x.joined.played.ended)) (ap (λ t. inputs.faults t.input.value) told ∙ ap inputs.faults x.all.begun.ready.input)
            (cycles.input_counted x.joined.played.ended (inputs.faults last.last.told.input.value) (inputs.faults last.last.process.input.input) last.input.faults)));
        masters = subst (IsFaultCount (sinks.faults o.world.master) (sinks.faults x.ended.master)) (sym x.given.master_failed)
            (subst (λ n. IsFaultCount (sinks.faults o.world.master) n x.joined.played.cut_off) (ap sinks.faults (sym (cycles.master_is media inputs source sinks sink on f x)))
            (subst (λ n. IsFaultCount n (sinks.faults last.last.process.master.sink) x.joined.played.cut_off) (ap (λ t. sinks.faults t.sink.value) told ∙ ap sinks.faults x.all.begun.ready.master)
            (cycles.master_counted x.joined.played.cut_off (sinks.faults last.last.told.sink.value) (sinks.faults last.last.process.master.sink) last.master_faults)));
        controls = counted.reads;
        outs = counted.writes;
      }

  -- ---- whatever was wanted

  edits_are : x.ended.edits.items ≡ x.joined.led.lists.edition.edits
  edits_are = cycles.edits_are media inputs source sinks sink on f x ∙ x.edits

  received_is : x.ended.acks.received ≡ x.joined.led.acks.received
  received_is = x.given.received ∙ ap (λ (z : Receiver boxed.Ack). z.received) x.met.control.receiver

  ended_is : x.ended.acks.ended ≡ x.joined.led.acks.ended
  ended_is = x.given.ended ∙ ap (λ (z : Receiver boxed.Ack). z.ended) x.met.control.receiver

  -- it reads its lines
  begins_so : control_of o.world.control o.world.out o.script ≡ reading o.world.control o.world.out
  begins_so = ap (control_of o.world.control o.world.out) x.all.reads

  heard : list_all (is_heard (map ack_of x.ended.acks.received) x.ended.acks.ended) leads.replies ≡ true
  heard = subst (λ l. list_all (is_heard (map ack_of l) x.ended.acks.ended) leads.replies ≡ true) (sym received_is)
      (subst (λ b. list_all (is_heard (acks_in x.joined.led.acks) b) leads.replies ≡ true) (sym ended_is) leads.heard)

  -- no line is unsaid where an edit had memory
  one : (b : Bool) → x.joined.led.memory ≡ b → (leads.unsaid ≡ []) ⊎ ((edit : Edit) × (leads.unsaid ≡ Says (Do edit) ∷ []))
  one true wanted = inr (leads.one wanted)
  one false fine = inl (leads.whole fine)

  says_its_lines : SaysItsLines source sink o leads.lines leads.unsaid leads.replies now
  says_its_lines = record {
    control = x.joined.led.control;
    goes = subst (λ (c : ControlState C O). GoesOn source sink c (leads.lines ++ leads.unsaid) leads.replies x.joined.led.control) (sym begins_so) leads.goes;
    parts = refl;
    none = λ enough. leads.whole (x.enough enough).0;
    one = one x.joined.led.memory refl;
    edits = edits_are ∙ leads.edits;
    answered = leads.answered;
    heard = heard;
  }

  -- ---- allowances

  abbrev ring : Ring Grant
  ring = joined_of x.joined.led.grants x.joined.played.grants.from

  allowed : are_allowed on.patience o.cycles (grants_of ring) (journal_of now) ≡ true
  allowed = subst (λ (l : Listed made.Entry). are_allowed on.patience o.cycles (grants_of ring) (seen_entries l.items) ≡ true) (sym (cycles.journal_is media inputs source sinks sink on f x))
      (subst (λ (r : Receiver Grant). are_allowed on.patience o.cycles (record { sent = map grant_of x.joined.led.grants.sent; received = length r.received; tails = r.tails; heads = x.joined.led.grants.heads })
      (seen_entries last.process.journal.items) ≡ true) (sym x.all.played.leaves.gives.grants)
      (allowances_are_kept on.patience o.cycles (seen_entries last.process.journal.items) last.grants (map grant_of x.joined.led.grants.sent) x.joined.led.grants.heads x.all.played.leaves.rests.allowed received_first))
    where
      last : PlayWorker I W
      last = x.all.played.leaves.last

      received_first : IsPrefix (grants_in last.grants.from) (map grant_of x.joined.led.grants.sent)
      received_first = let first = x.grants_whole.begins in
          subst (λ (r : Receiver Grant). IsPrefix (grants_in r) (map grant_of x.joined.led.grants.sent)) x.all.played.leaves.gives.grants
          (map grant_of first.0, sym (map-append grant_of x.joined.played.grants.from.received first.0) ∙ ap (map grant_of) first.1)

  makes_cycles : MakesCyclesAsAllowed on.patience o now
  makes_cycles = record {
    most = cycles.most_made media inputs source sinks sink on f x;
    ring = ring;
    is = refl;
    depth = x.all.led.grants.depth ∙ ap (λ (z : Sender Grant). z.depth) x.all.begun.ready.grants_are.ring.sender;
    whole = x.grants_whole;
    open_still = x.all.led.grants.closed ∙ ap (λ (z : Sender Grant). z.closed) x.all.begun.ready.grants_are.ring.sender;
    allowed = allowed;
  }

  granted : AreGranted s o.cycles x.ended.edits.items leads.lines (grants_of ring)
  granted = record {
    rest = leads.granted.rest;
    in_order = ap (λ l. are_all_grants s o.cycles l leads.lines (map grant_of x.joined.led.grants.sent ++ leads.granted.rest)) edits_are ∙ leads.granted.in_order;
    only_where_full = leads.granted.only_where_full;
  }

  grants_its_lines : GrantsItsLines o leads.lines now
  unfolding granted leads
  grants_its_lines = record { ring = ring; is = refl; granted = granted; left_out = left_by x.joined.led.acks.ended refl }
    where
      left_by : (b : Bool) → x.joined.led.acks.ended ≡ b → ¬ (granted.rest ≡ []) → x.ended.acks.ended ≡ true
      left_by true ended some = ended_is ∙ ended
      left_by false going some = absurd (some (leads.left_out going))

  -- ---- where memory was enough

  abbrev left : List Line
  left = control.lines_left source sink x.joined.led.control

  module _ (law : HeardIsTrue) (enough : x.memory ≡ false) where
    fine : x.joined.led.memory ≡ false
    fine = (x.enough enough).0

    further : (x.joined.led.lists.edition.edits ≡ accepted_of s (leads.lines ++ left)) × AreReplies s [] (leads.lines ++ left) leads.replies
    further = leads.further left (control.only_a_quit source sink x.joined.led.control)

    goes : GoesOn source sink (reading o.world.control o.world.out) leads.lines leads.replies x.joined.led.control
    goes = subst (λ l. GoesOn source sink (reading o.world.control o.world.out) l leads.replies x.joined.led.control)
        (ap (λ l. leads.lines ++ l) (leads.whole fine) ∙ append-nil leads.lines) leads.goes

    -- the ring to control, as its two ends left it
    sent_is : x.ended.acks.sent ≡ x.joined.played.process.ends.to_control.sent
    sent_is = (master.end media inputs source sinks sink on f x enough).over.sent ∙ ap (λ (z : Sender boxed.Ack). z.sent) x.met.control.sender

    all_heard : x.joined.led.acks.ended ≡ true → x.ended.acks.received ≡ x.ended.acks.sent
    all_heard ended = received_is ∙ (x.met.control.met.passed.all ended).1 ∙ sym sent_is

    begins : IsPrefix x.joined.led.acks.received x.ended.acks.sent
    begins = subst (IsPrefix x.joined.led.acks.received) (sym sent_is) x.met.control.met.passed.begins

    -- each that was sent is of its entry
    of_entries : All (IsOfItsEntry (journal_of now)) (map ack_of x.ended.acks.sent)
    of_entries = let rings = (master.end media inputs source sinks sink on f x enough).rings in let sent = map ack_of x.ended.acks.sent in
        subst (All (IsOfItsEntry (journal_of now))) (reverse-reverse sent) (all_turned (IsOfItsEntry (journal_of now)) (reverse sent)
        (All-weaker (IsSettledBy (reverse (reverse (journal_of now)))) (IsOfItsEntry (journal_of now)) of_its (reverse sent)
        (told_is_settled x.ended.edits.items s.depth (reverse (journal_of now)) (reverse sent) (reverse x.ended.acks.heads) rings.acks_are.told)))
      where
        of_its : (a : Ack) → IsSettledBy (reverse (reverse (journal_of now))) a → IsOfItsEntry (journal_of now) a
        of_its a is = (is.some, (is.entry, subst (λ l. slice_get l (a.cycle - 1) ≡ Some is.entry) (reverse-reverse (journal_of now)) is.there, is.settled))

    acknowledged : list_all (is_acknowledged (reverse (map ack_of x.ended.acks.sent)) (journal_of now)) leads.replies ≡ true
    acknowledged = law (journal_of now) (map ack_of x.ended.acks.sent) (acks_in x.joined.led.acks) x.joined.led.acks.ended leads.replies of_entries
        (map ack_of begins.0, sym (map-append ack_of x.joined.led.acks.received begins.0) ∙ ap (map ack_of) begins.1)
        (λ ended. ap (map ack_of) (sym received_is ∙ all_heard ended)) leads.heard

    takes_its_lines : TakesItsLines source sink o leads.lines left leads.replies now
    takes_its_lines = record {
      control = x.joined.led.control;
      goes = subst (λ (c : ControlState C O). GoesOn source sink c leads.lines leads.replies x.joined.led.control) (sym begins_so) goes;
      parts = refl;
      quits = control.only_a_quit source sink x.joined.led.control;
      all = subst (λ (c : ControlState C O). Tells source c.script → read_failed x.joined.led.control.standing ≡ false → write_failed x.joined.led.control.standing ≡ false → ahead source c ≡ leads.lines ++ left) (sym begins_so)
          (λ tells unread unwritten. control.all_taken source sink (reading o.world.control o.world.out) x.joined.led.control leads.lines leads.replies goes (leads.last fine) (leads.ended fine) tells unread unwritten);
      ended_by = leads.quits fine ∙ ap (λ l. has_quit l (length l)) (sym edits_are);
      taken = edits_are ∙ leads.edits;
      replied = leads.answered;
      edits = edits_are ∙ further.0;
      answered = further.1;
      acknowledged = acknowledged;
    }

  -- ---- all of it

  -- what no want of memory is noted of it had enough
  pub plays_its_lines : HeardIsTrue → PlaysItsLines on.patience source sink o now
  plays_its_lines law = record {
    lines = leads.lines;
    unsaid = leads.unsaid;
    replies = leads.replies;
    says = says_its_lines;
    allowed = makes_cycles;
    granted = grants_its_lines;
    left = left;
    takes = takes_its_lines law;
    waits = wait.waits media inputs source sinks sink on f x;
  }
