-- A turn of the butler, of one item, and a meeting after it are the letter B of the core machine.
use Rattle.std.proofs.Common.{◌≡◌, ◌≢◌, ℕ, suc, ◌+◌, ◌≤◌, List, [], ◌++◌, length, refl, sym, ap, subst, ◌∙◌, arith}
use Rattle.std.specs.Prelude.{Bool, true, is_none, if◌then◌else◌, map, reverse, slice_get, Option, Some, None, Result, Ok, Err}
use Rattle.std.proofs.lemmas.Bool.{false≢true, eq-eqb, ne_eqb}
use Rattle.std.proofs.lemmas.List.{length-map, length-reverse}
use mathlib.Core.Logic.{dite}
use native.Mathlib.Decide.{ℕ_discrete}
use Rattle.ses_io.specs.Outside.{MediaOutside}
use Rattle.session_model.specs.declared.session.Session.{Session}
use Rattle.engine_model.specs.Changes.{changed_at}
use Rattle.engine_model.specs.Due.{due}
use Rattle.engine_model.specs.Items.{Kind}
use Rattle.machine_model.specs.Core.{TrackState, Core}
use Rattle.machine_model.specs.Events as machine
use Rattle.machine_model.specs.Events.{Event, Publish, EnterButler, Send, Flush, EnterProcess, Look, Capture, End, AckSend, AckTake, can, done, after, sent_one}
use Rattle.machine_model.specs.Letters as letters
use Rattle.machine_model.specs.Letters.{butler_moves, one_move, is_idle, track_places}
use Rattle.machine_laws.proofs.SerialTurns.{moves_so}
use Rattle.machine_laws.proofs.Tracks.{also_there, long_changed}
use Rattle.machine_laws.proofs.TurnLemmas.{begun_turn, all_taken}
use Rattle.disk_ring.specs.Sender.{Sender}
use Rattle.disk_ring.specs.Receiver.{Receiver}
use Rattle.disk_ring.proofs.Beginnings.{begins_length}
use Rattle.piece_item.specs.declared.item.Item.{Item}
use Rattle.piece_item.specs.declared.take_block.TakeBlock.{TakeBlock}
use Rattle.piece_item.specs.declared.butler_ends.ButlerEnds.{ButlerEnds}
use Rattle.piece_item.specs.Views.{ack_of}
use Rattle.read_ahead.specs.Items.{kinds}
use Rattle.butler.specs.declared.turning.Turn.{Turn}
use Rattle.butler.specs.declared.faults.ButlerFault.{ButlerFault}
use Rattle.butler.specs.ButlerState.{ButlerState}
use Rattle.butler.specs.Sends.{acks_of}
use Rattle.butler.specs.Moves as moving
use Rattle.butler.specs.Moves.{MakesMove, one_of, sent_by, flushed_by, answer_of}
use Rattle.butler.specs.CoreMoves as cores
use Rattle.butler.specs.CoreMoves.{IsCoreOf}
use Rattle.butler.proofs.CoreMoveLemmas.{due_reversed, the_move_is_the_core_machines}
use Rattle.process_ends.specs.declared.ends.ProcessEnds.{ProcessEnds}
use Rattle.process_ends.specs.Ends.{EndsMeet}
use Rattle.worker_pair.specs.declared.ending.Ending.{Ending}
use Rattle.worker_pair.specs.Begun.{At}
use Rattle.worker_pair.specs.Runs.{Serves}
use Rattle.worker_pair.specs.Steps.{IsTurned, is_idle_turn, TurnsAsMachine}
use Rattle.worker_pair.specs.Tied.{captured_of, IsTrackOf, AreRingsOf}
use Rattle.worker_pair.proofs.MetLemmas.{with_ends, rings_met}
use Rattle.worker_pair.proofs.TurnLemmas.{with_butler, many_sends, others_turned}
use Rattle.worker_pair.proofs.AloneLemmas.{acks_are, made}
use Rattle.worker_pair.proofs.MachineTurnLemmas.{found_passes, was_at, turn_moves, turn_idles, sent_track, flushed_track}

-- a move is none where the turn is Idle
idle_of : (move : Option Event) → is_idle_turn (answer_of move) ≡ is_none move
idle_of None = refl
idle_of (Some event) = refl

module _ {V : Type 0} (media : MediaOutside V) (at : At) (e : Ending V) (t : Turn) (b : ButlerState V) (serves : Serves media at e) (turn : IsTurned media at e (Ok t) b) (ours : ProcessEnds) (theirs : ButlerEnds)
    (meet : EndsMeet e.ends b.ends ours theirs) where
  abbrev s : Session
  s = at.begun.session

  abbrev cycles : ℕ
  cycles = e.butler.cycles

  module _ (c : Core) (tied : AreRingsOf s c e) where
    abbrev begun : Core
    begun = begun_turn c

    -- all acknowledgements were taken
    acks_now : b.ends.acks.received ≡ e.ends.to_butler.sent
    acks_now = acks_are media at e t b serves turn ours theirs meet

    -- as many were sent as it took by then
    long_acks : length c.to_butler.sent ≡ length b.ends.acks.received
    long_acks = ap length tied.acks ∙ length-reverse (map ack_of e.ends.to_butler.sent) ∙ length-map e.ends.to_butler.sent ack_of ∙ sym (ap length acks_now)

    -- no more were taken than were sent
    pub taken_few : c.to_butler.taken ≤ length c.to_butler.sent
    taken_few = omega (arith, tied.taken, long_acks, ap length acks_now, begins_length e.butler.ends.acks.received e.ends.to_butler.sent serves.met.acks.passed.begins)

    -- a track as the core machine has it
    track : (u : ℕ) (x : TrackState) (d : Sender Item) (f : Receiver TakeBlock) → slice_get c.tracks u ≡ Some x → slice_get e.butler.ends.sends.items u ≡ Some d →
        slice_get e.butler.ends.takes.items u ≡ Some f → cores.IsTrackOf s x d f
    track u x d f hx hd hf = let r = also_there e.butler.ends.sends.items e.ends.plays.items u d (sym serves.others.plays.count) hd in
        let k = also_there e.butler.ends.takes.items e.ends.takes.items u f serves.others.takes.count hf in
        let p = also_there e.butler.ends.sends.items e.butler.supplies u d (serves.serving.sends ∙ sym serves.serving.supplies) hd in
        let was = tied.tracks u x d r.0 k.0 f hx hd r.1 k.1 hf in record {
          sent = was.sent;
          received = was.received ∙ sym (serves.met.plays u d r.0 hd r.1).got;
          depth = (serves.serving.tracks u p.0 d p.1 hd).depth;
          put = ap length was.put ∙ length-reverse (map captured_of k.0.sent) ∙ length-map k.0.sent captured_of ∙ sym (ap length (serves.met.takes u k.0 f k.1 hf).heard);
          flushed = was.flushed;
        }

    -- the state that the ends stand for
    core : IsCoreOf s e.edition e.butler b begun
    core = record {
      edits = tied.edits;
      entered = ap length tied.edits;
      acks = all_taken c.to_butler ∙ tied.acks ∙ sym (ap (λ l. reverse (acks_of l)) acks_now);
      many = tied.many ∙ sym serves.serving.sends;
      many_takes = tied.many ∙ sym serves.serving.takes;
      each = track;
      none_read = tied.none_read;
    }

    -- the move is the core machine's
    same_move : moving.first_move s e.edition e.butler b ≡ letters.first_move s cycles begun
    same_move = the_move_is_the_core_machines s e.edition e.butler b begun serves.serving.valid core

    -- what is due of a track is the same
    same_due : (u : ℕ) (d : Sender Item) (x : TrackState) → x.sent ≡ reverse (kinds d.sent) → moving.due_of s e.edition e.butler b u d ≡ machine.due_of s cycles begun u x
    same_due u d x sent = sym (due_reversed s e.edition.edits cycles u (length e.edition.edits) (acks_of b.ends.acks.received) (reverse (kinds d.sent)))
        ∙ (λ i. due s (sym core.edits i) cycles u (sym core.entered i) (sym core.acks i) (sym sent i))

    -- the rings after it, by what became of each track
    rings_with : (tracks : List TrackState) → length tracks ≡ length c.tracks →
        ((u : ℕ) (x : TrackState) (d : Sender Item) (r : Receiver Item) (k : Sender TakeBlock) (f : Receiver TakeBlock) → slice_get tracks u ≡ Some x → slice_get b.ends.sends.items u ≡ Some d →
        slice_get e.ends.plays.items u ≡ Some r → slice_get e.ends.takes.items u ≡ Some k → slice_get b.ends.takes.items u ≡ Some f → IsTrackOf x d r k f) →
        AreRingsOf s (record begun { tracks = tracks }) (with_butler media e b)
    rings_with tracks many each = record {
      edits = tied.edits;
      entered = ap length tied.edits ∙ sym turn.serving.entered;
      many = many ∙ tied.many;
      tracks = each;
      acks = tied.acks;
      taken = long_acks;
      none_read = turn.fails.hushed ∙ tied.none_read;
      none_written = turn.fails.write_failed ∙ tied.none_written;
    }

    -- a track before the turn, by one after it, where this was flushed of it and that sent
    record WasTrack (move : Option Event) (u : ℕ) (x : TrackState) (d : Sender Item) (r : Receiver Item) (k : Sender TakeBlock) (f : Receiver TakeBlock) : Type 0 where
      send : Sender Item
      flush : Receiver TakeBlock
      was : IsTrackOf x send r k flush
      sends : kinds d.sent ≡ kinds send.sent ++ sent_by move u (moving.due_of s e.edition e.butler b u send)
      flushes : length f.received ≡ length flush.received + flushed_by move u

    -- each has one
    was_track : (move : Option Event) → MakesMove s e.edition e.butler t b move → (u : ℕ) (x : TrackState) (d : Sender Item) (r : Receiver Item) (k : Sender TakeBlock) (f : Receiver TakeBlock) →
        slice_get c.tracks u ≡ Some x → slice_get b.ends.sends.items u ≡ Some d → slice_get e.ends.plays.items u ≡ Some r → slice_get e.ends.takes.items u ≡ Some k → slice_get b.ends.takes.items u ≡ Some f →
        WasTrack move u x d r k f
    was_track move makes u x d r k f hx hd hr hk hf = let d' = also_there b.ends.sends.items e.butler.ends.sends.items u d (many_sends media at e (Ok t) b serves turn) hd in
        let f' = also_there b.ends.takes.items e.butler.ends.takes.items u f turn.receives.takes.many hf in record {
          send = d'.0;
          flush = f'.0;
          was = tied.tracks u x d'.0 r k f'.0 hx d'.1 hr hk f'.1;
          sends = makes.sends u d'.0 d d'.1 hd;
          flushes = makes.takes u f'.0 f f'.1 hf;
        }

    -- a send of the core machine
    abbrev put : ℕ → TrackState → TrackState
    put u x = sent_one (machine.due_of s cycles begun u x) x

    -- and a flush
    abbrev flush_one : TrackState → TrackState
    flush_one x = record x { flushed = suc x.flushed }

    -- what stands of a track that the move isn't of
    stands : (move : Option Event) (v : ℕ) (x : TrackState) (d : Sender Item) (r : Receiver Item) (k : Sender TakeBlock) (f : Receiver TakeBlock) → WasTrack move v x d r k f →
        ((o : Option Kind) → sent_by move v o ≡ []) → flushed_by move v ≡ 0 → IsTrackOf x d r k f
    stands move v x d r k f w no_send no_flush = sent_track None x w.send d r k w.flush f w.was (w.sends ∙ ap (λ l. kinds w.send.sent ++ l) (no_send (moving.due_of s e.edition e.butler b v w.send)))
        (omega (arith, w.flushes, no_flush))

    -- what was found can be done
    allowed : (event : Event) → letters.first_move s cycles begun ≡ Some event → can s cycles begun event ≡ true
    allowed event is = found_passes (can s cycles begun) (map Flush (track_places begun) ++ map Send (track_places begun)) event is

    -- the core machine makes the move
    moved : (move : Option Event) → letters.first_move s cycles begun ≡ move → MakesMove s e.edition e.butler t b move → AreRingsOf s (after s cycles begun (one_move move)) (with_butler media e b)
    moved None is makes = rings_with c.tracks refl (λ u x d r k f hx hd hr hk hf. stands None u x d r k f (was_track None makes u x d r k f hx hd hr hk hf) (λ o. refl) refl)
    moved (Some (Send u)) is makes = subst (λ (z : Core). AreRingsOf s z (with_butler media e b)) (sym (ap (λ x. if x then done s cycles begun (Send u) else begun) (allowed (Send u) is)))
        (rings_with (changed_at (put u) u c.tracks) (long_changed (put u) u c.tracks) (λ v x d r k f hx hd hr hk hf. let w = was_at (put u) u c.tracks v x hx in
        let o = was_track (Some (Send u)) makes v w.was d r k f w.there hd hr hk hf in
        dite (ℕ_discrete u v)
        (λ (same : u ≡ v). subst (λ (y : TrackState). IsTrackOf y d r k f) (sym (w.here same ∙ ap (λ (n : ℕ). sent_one (machine.due_of s cycles begun n w.was) w.was) same))
        (sent_track (machine.due_of s cycles begun v w.was) w.was o.send d r k o.flush f o.was
        (o.sends ∙ ap (λ l. kinds o.send.sent ++ l)
        (ap (λ (x : Bool). if x then one_of (moving.due_of s e.edition e.butler b v o.send) else []) (eq-eqb u v same) ∙ ap one_of (same_due v o.send w.was o.was.sent)))
        (omega (arith, o.flushes))))
        (λ (other : u ≢ v). subst (λ (y : TrackState). IsTrackOf y d r k f) (sym (w.other other))
        (stands (Some (Send u)) v w.was d r k f o (λ o. ap (λ (x : Bool). if x then one_of o else []) (ne_eqb u v other)) refl))))
    moved (Some (Flush u)) is makes = subst (λ (z : Core). AreRingsOf s z (with_butler media e b)) (sym (ap (λ x. if x then done s cycles begun (Flush u) else begun) (allowed (Flush u) is)))
        (rings_with (changed_at flush_one u c.tracks) (long_changed flush_one u c.tracks) (λ v x d r k f hx hd hr hk hf. let w = was_at flush_one u c.tracks v x hx in
        let o = was_track (Some (Flush u)) makes v w.was d r k f w.there hd hr hk hf in
        dite (ℕ_discrete u v)
        (λ (same : u ≡ v). subst (λ (y : TrackState). IsTrackOf y d r k f) (sym (w.here same))
        (flushed_track w.was o.send d r k o.flush f o.was o.sends (omega (arith, o.flushes, ap {B = ℕ} (λ (x : Bool). if x then 1 else 0) (eq-eqb u v same)))))
        (λ (other : u ≢ v). subst (λ (y : TrackState). IsTrackOf y d r k f) (sym (w.other other))
        (stands (Some (Flush u)) v w.was d r k f o (λ o. refl) (ap {B = ℕ} (λ (x : Bool). if x then 1 else 0) (ne_eqb u v other))))))
    moved (Some (Publish edit)) is makes = absurd (false≢true (moves_so s cycles begun (Publish edit) is))
    moved (Some EnterButler) is makes = absurd (false≢true (moves_so s cycles begun EnterButler is))
    moved (Some EnterProcess) is makes = absurd (false≢true (moves_so s cycles begun EnterProcess is))
    moved (Some (Look u)) is makes = absurd (false≢true (moves_so s cycles begun (Look u) is))
    moved (Some (Capture u)) is makes = absurd (false≢true (moves_so s cycles begun (Capture u) is))
    moved (Some End) is makes = absurd (false≢true (moves_so s cycles begun End is))
    moved (Some (AckSend side)) is makes = absurd (false≢true (moves_so s cycles begun (AckSend side) is))
    moved (Some (AckTake side)) is makes = absurd (false≢true (moves_so s cycles begun (AckTake side) is))

    -- after the turn the rings are those of the state after the letter,
    turned_rings : AreRingsOf s (after s cycles c (butler_moves s cycles c)) (with_butler media e b)
    turned_rings = subst (λ (z : Core). AreRingsOf s z (with_butler media e b)) (sym (turn_moves s cycles c taken_few))
        (moved (letters.first_move s cycles begun) refl (subst (MakesMove s e.edition e.butler t b) same_move (made media at e t b serves turn ours theirs meet)))

    -- and after the meeting
    pub rings_now : AreRingsOf s (after s cycles c (butler_moves s cycles c)) (with_ends (with_butler media e b) ours theirs)
    rings_now = rings_met s (after s cycles c (butler_moves s cycles c)) (with_butler media e b) ours theirs (others_turned media at e (Ok t) b serves turn) meet turned_rings

    -- the turn is Idle where the letter moves nothing
    pub idle_now : is_idle_turn t ≡ is_idle s cycles c
    idle_now = ap is_idle_turn (made media at e t b serves turn ours theirs meet).answer ∙ idle_of (moving.first_move s e.edition e.butler b) ∙ ap is_none same_move ∙ sym (turn_idles s cycles c taken_few)

-- a turn of an ending
ending_now : {V : Type 0} (media : MediaOutside V) (at : At) (e : Ending V) (answer : Result Turn ButlerFault) (b : ButlerState V) → Serves media at e → IsTurned media at e answer b →
    (ours : ProcessEnds) (theirs : ButlerEnds) → EndsMeet e.ends b.ends ours theirs → TurnsAsMachine at.begun.session e answer (with_ends (with_butler media e b) ours theirs)
ending_now media at e (Ok t) b serves turn ours theirs meet c tied = (rings_now media at e t b serves turn ours theirs meet c tied, idle_now media at e t b serves turn ours theirs meet c tied)
ending_now media at e (Err fault) b serves turn ours theirs meet c tied = tt

pub ending_turned : {V : Type 0} (media : MediaOutside V) (at : At) (e : Ending V) (answer : Result Turn ButlerFault) (b : ButlerState V) → Serves media at e → IsTurned media at e answer b →
    (ours : ProcessEnds) (theirs : ButlerEnds) → EndsMeet e.ends b.ends ours theirs → (c : ButlerState V) → c ≡ record b { ends = theirs } →
    TurnsAsMachine at.begun.session e answer record { edition = e.edition; butler = c; ends = ours }
ending_turned media at e answer b serves turn ours theirs meet c same = subst (λ z. TurnsAsMachine at.begun.session e answer record { edition = e.edition; butler = z; ends = ours }) (sym same)
    (ending_now media at e answer b serves turn ours theirs meet)
