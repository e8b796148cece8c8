-- Why a crew that did nothing yet is one.
use Rattle.std.proofs.Common.{◌≡◌, ℕ, length, arith, refl, sym, ap, subst, ◌∙◌}
use Rattle.ses_io.specs.Outside.{MediaOutside, SourceOutside, SinkOutside}
use Rattle.session_model.specs.declared.session.Session.{Session}
use Rattle.edition_log.specs.EditionState.{EditionState as Edition, IsEditionOf}
use Rattle.disk_ring.specs.Receiver.{Receiver}
use Rattle.piece_item.specs.declared.ack.Ack.{Ack}
use Rattle.control_desk.specs.State.{ControlState, reading}
use Rattle.cycle_grants.specs.Granting.{GrantingState}
use Rattle.lead_worker.specs.Leads.{BeginsToLead}
use Rattle.play_worker.specs.declared.worker.PlayWorker.{PlayWorker}
use Rattle.route_lists.specs.Lists.{Published}
use Rattle.run_end.specs.Beginning.{MayRun}
use Rattle.run_end.specs.Lists.{HaveRoomFor, no_lists}
use Rattle.run_end.specs.declared.lists.RunLists.{RunLists}
use Rattle.run_world.specs.declared.opened.Opened.{Opened}
use Rattle.serve_worker.specs.declared.told.ServeTold.{ServeTold}
use Rattle.serve_worker.specs.declared.worker.ServeWorker.{ServeWorker}
use Rattle.thread_start.specs.Ready.{AreReady}
use Rattle.worker_pair.specs.declared.beginning.Start.{Start}
use Rattle.thread_run.specs.declared.beginning.Crew.{Crew}
use Rattle.thread_run.specs.Beginning.{HaveAllBegun, start_of}

pub has_room : (s : Session) (lists : RunLists) (tracks : ℕ) → lists ≡ no_lists tracks → tracks ≡ length s.tracks.items → HaveRoomFor s lists
has_room s lists tracks is many = subst (HaveRoomFor s) (sym is) (record { no_rings = refl; rings_room = omega (arith, many); no_edits = refl; edits_room = omega arith })

-- it is of a start and workers that are these
pub ready_as : {V I W : Type 0} (media : MediaOutside V) (inputs : SourceOutside I) (sinks : SinkOutside W) (a b : Start V I W) (p q : PlayWorker I W) (w x : ServeWorker V) (told told_now : ServeTold V) (list list_now : Published)
    (grants grants_now : GrantingState) (acks acks_now : Receiver Ack) → a ≡ b → q ≡ p → x ≡ w → told_now ≡ told → list_now ≡ list → grants_now ≡ grants → acks_now ≡ acks →
    AreReady media inputs sinks a p w told list grants acks → AreReady media inputs sinks b q x told_now list_now grants_now acks_now
ready_as media inputs sinks a b p q w x told told_now list list_now grants grants_now acks acks_now start playing serving told_is list_is grants_are acks_are was =
    subst (λ z. AreReady media inputs sinks z q x told_now list_now grants_now acks_now) start
    (subst (λ z. AreReady media inputs sinks a z x told_now list_now grants_now acks_now) (sym playing)
    (subst (λ z. AreReady media inputs sinks a p z told_now list_now grants_now acks_now) (sym serving)
    (subst (λ z. AreReady media inputs sinks a p w z list_now grants_now acks_now) (sym told_is)
    (subst (λ z. AreReady media inputs sinks a p w told z grants_now acks_now) (sym list_is)
    (subst (λ z. AreReady media inputs sinks a p w told list z acks_now) (sym grants_are)
    (subst (λ z. AreReady media inputs sinks a p w told list grants z) (sym acks_are) was))))))

module _ {R M I C W O : Type 0} (media : MediaOutside M) (inputs : SourceOutside I) (sinks : SinkOutside W) (o : Opened M I C W O) (may : MayRun media o) (crew : Crew R M I C W O)
    (ready : AreReady media inputs sinks (start_of o) crew.playing crew.serving crew.told crew.leading.lists crew.leading.link.granting crew.leading.link.hearing)
    (control : crew.leading.control ≡ reading o.world.control o.world.out) where
  begins : BeginsToLead o.edition.session crew.leading.lists crew.leading.control crew.leading.link
  begins = record {
    edition_of = subst (IsEditionOf o.edition.session) (sym ready.list_is) may.edition_of;
    no_edit = ap (λ (e : Edition). e.edits) ready.list_is ∙ may.first;
    not_ended = ap (λ (e : Edition). e.ended) ready.list_is ∙ may.not_ended;
    ready = ap (λ (c : ControlState C O). c.standing) control;
    depth = ap (λ z. z.depth) ready.grants_are.ring.sender;
    no_grant = ap (λ z. z.sent) ready.grants_are.ring.sender;
    none_left_out = ready.grants_are.none_left_out;
  }

  pub have_begun : HaveRoomFor o.edition.session crew.lists → HaveAllBegun media inputs sinks o crew
  have_begun room = record { ready = ready; control_is = control; begins = begins; room = room }
