-- A process plays on after a meeting, which changes only what ends know of each other.
use Rattle.std.proofs.Common.{◌≡◌, ℕ, suc, ◌<◌, List, [], ◌∷◌, length, refl, ap, ◌∙◌, sym, subst, slice_index_or, arith}
use Rattle.std.specs.Prelude.{Bool, false, map, reverse, slice_get, Some}
use Rattle.std.proofs.lemmas.Option.{slice_get_within, get_or_from_slice_get}
use Rattle.ses_io.specs.Outside.{SourceOutside, SinkOutside}
use Rattle.engine_model.specs.Journal.{Entry}
use Rattle.engine_laws.proofs.ListLemmas.{item_at}
use Rattle.session_model.specs.declared.session.Session.{Session}
use Rattle.disk_ring.specs.Sender.{Sender}
use Rattle.disk_ring.specs.Receiver.{Receiver}
use Rattle.piece_item.specs.declared.item.Item.{Item}
use Rattle.piece_item.specs.declared.take_block.TakeBlock.{TakeBlock}
use Rattle.piece_item.specs.declared.butler_ends.ButlerEnds.{ButlerEnds}
use Rattle.cycle_journal.specs.JournalView.{seen_entries}
use Rattle.track_capture.specs.declared.capture.TrackCapture.{TrackCapture}
use Rattle.track_capture.specs.Counted.{Counts}
use Rattle.track_playback.specs.declared.playback.TrackPlayback.{TrackPlayback}
use Rattle.track_playback.specs.declared.play_position.PlayPosition.{PlayPosition}
use Rattle.track_playback.specs.Played.{IsPlayed, KnowsTheEnds}
use Rattle.track_playback.specs.SpareBoxes.{received_items, received_kinds}
use Rattle.process_ends.specs.declared.ends.ProcessEnds.{ProcessEnds}
use Rattle.process_ends.specs.Ends.{AllMeet, EndsMeet, block_of, AreOtherEnds}
use Rattle.process_cycle.specs.Looked.{HasLooked, IsLookedUp}
use Rattle.process_cycle.specs.Meetings.{MeetsOthers}
use Rattle.process_cycle.specs.Playing.{IsPlaying, IsOpenIn, IsRecorded}
use Rattle.process_cycle.specs.ProcessState.{ProcessState, Playing, entries_of, position_of, sound_of}
use Rattle.process_cycle.specs.Promised.{HoldsBlocks}
use Rattle.process_cycle.proofs.HearsLemmas.{hears_while_meeting}
use Rattle.process_cycle.proofs.MeetPromiseLemmas.{promises_while_meeting}

-- some other end of the same ring, for lists that are read past their end
some_sender : {T : Type 0} → Receiver T → Sender T
some_sender r = record { ring = r.ring; depth = r.depth; room = r.room; sent = []; closed = false; heads = []; got = 0 }

some_receiver : {T : Type 0} → Sender T → Receiver T
some_receiver a = record { ring = a.ring; depth = a.depth; room = a.room; received = []; tails = []; ended = false; heard = []; over = false }

-- ---- one end

-- an end that takes was told more
record IsToldMore {T : Type 0} (a b : Receiver T) : Type 0 where
  heard : List T
  over : Bool
  is : b ≡ record a { heard = heard; over = over }

-- an end that puts got to know more
record HasGot {T : Type 0} (a b : Sender T) : Type 0 where
  got : ℕ
  is : b ≡ record a { got = got }

told_at : {T : Type 0} (x : List (Sender T)) (a : List (Receiver T)) (y : List (Sender T)) (b : List (Receiver T)) → AllMeet x a y b → length a ≡ length x → (t : ℕ) (r : Receiver T) → t < length a →
    IsToldMore (slice_index_or a t r) (slice_index_or b t r)
told_at x a y b meet count t r within = let one = meet.each t (some_sender r) r (omega (arith, within, count)) in
    record { heard = (slice_index_or x t (some_sender r)).sent; over = (slice_index_or x t (some_sender r)).closed; is = one.receiver }

got_at : {T : Type 0} (a : List (Sender T)) (x : List (Receiver T)) (b : List (Sender T)) (y : List (Receiver T)) → AllMeet a x b y → (t : ℕ) (d : Sender T) → t < length a →
    HasGot (slice_index_or a t d) (slice_index_or b t d)
got_at a x b y meet t d within = record { got = length (slice_index_or x t (some_receiver d)).received; is = (meet.each t d (some_receiver d) within).sender }

-- the end that it was
record WasEnd {E : Type 0} (Changed : E → E → Type 0) (a : List E) (t : ℕ) (now : E) : Type 0 where
  was : E
  there : slice_get a t ≡ Some was
  changed : Changed was now

was_end : {E : Type 0} (Changed : E → E → Type 0) (a b : List E) → length b ≡ length a → ((t : ℕ) (r : E) → t < length a → Changed (slice_index_or a t r) (slice_index_or b t r)) →
    (t : ℕ) (now : E) → slice_get b t ≡ Some now → WasEnd Changed a t now
was_end Changed a b long each t now is = let within : t < length a = omega (arith, slice_get_within b t now is, long) in let x = item_at a t within in record {
  was = x.0;
  there = x.1;
  changed = subst (Changed x.0) (get_or_from_slice_get b t now x.0 is) (subst (λ z. Changed z (slice_index_or b t x.0)) (get_or_from_slice_get a t x.0 x.0 x.1) (each t x.0 within));
}

-- ---- what stands

told_more : (at : PlayPosition) (samples : ℕ) (r : Receiver Item) (d : TrackPlayback) (heard : List Item) (over : Bool) → IsPlayed at samples r d → IsPlayed at samples (record r { heard = heard; over = over }) d
told_more at samples r d heard over was = record {
  depth = was.depth;
  window_depth = was.window_depth;
  room = was.room;
  window_room = was.window_room;
  spare = was.spare;
  until = was.until;
  last = was.last;
  shows = record { given = was.shows.given; window = was.shows.window; items = was.shows.items };
  tail = was.tail;
}

plays_told : (at : PlayPosition) (samples : ℕ) (a b : Receiver Item) (d : TrackPlayback) → IsToldMore a b → IsPlayed at samples a d → IsPlayed at samples b d
plays_told at samples a b d told was = subst (λ z. IsPlayed at samples z d) (sym told.is) (told_more at samples a d told.heard told.over was)

open_got : {T : Type 0} (items samples : ℕ) (a b : Sender T) → HasGot a b → IsOpenIn items samples a → IsOpenIn items samples b
open_got items samples a b more was = subst (IsOpenIn items samples) (sym more.is) (record { depth = was.depth; room = was.room; still_open = was.still_open })

recorded_got : {I W : Type 0} (s : Session) (t : ℕ) (p q : ProcessState I W) (k : TrackCapture) (a b : Sender TakeBlock) → entries_of q ≡ entries_of p → HasGot a b → IsRecorded s t p k a → IsRecorded s t q k b
recorded_got s t p q k a b same more was = subst (IsRecorded s t q k) (sym more.is) (record {
  depth = was.depth;
  fits = record { room = was.fits.room; box = was.fits.box; still_open = was.fits.still_open };
  counts = subst (λ es. Counts es t k) (sym same) was.counts;
})

-- the same was received of each track
same_items : (a b : List (Receiver Item)) → length b ≡ length a → ((t : ℕ) (r : Receiver Item) → t < length a → IsToldMore (slice_index_or a t r) (slice_index_or b t r)) → map received_items b ≡ map received_items a
same_items [] [] long each = refl
same_items [] (y ∷ b) long each = absurd (omega (arith, long))
same_items (x ∷ a) [] long each = absurd (omega (arith, long))
same_items (x ∷ a) (y ∷ b) long each = ap (λ i. i ∷ map received_items b) (ap received_items (each 0 x (omega arith)).is)
    ∙ ap (λ l. received_items x ∷ l) (same_items a b (omega (arith, long)) (λ t r within. each (suc t) r (omega (arith, within))))

pub knows_after_a_meeting : (x : List (Sender Item)) (a : List (Receiver Item)) (y : List (Sender Item)) (b : List (Receiver Item)) (d : List TrackPlayback) → AllMeet x a y b → length a ≡ length x → KnowsTheEnds a d → KnowsTheEnds b d
knows_after_a_meeting x a y b d meet count knew = record {
  count = knew.count ∙ sym meet.receivers;
  closed = λ t r k within. knew.closed t r k (omega (arith, within, meet.receivers)) ∙ sym (ap (λ z. z.ended) (told_at x a y b meet count t r (omega (arith, within, meet.receivers))).is);
}

module _ {I W : Type 0} (at : Playing) (p : ProcessState I W) (ends : ProcessEnds) (theirs theirs_now : ButlerEnds) (met : EndsMeet p.ends theirs ends theirs_now) (others : AreOtherEnds p.ends theirs) where
  abbrev after : ProcessState I W
  after = record p { ends = ends }

  count : length p.ends.plays.items ≡ length theirs.sends.items
  count = others.plays.count

  told : (t : ℕ) (r : Receiver Item) → t < length p.ends.plays.items → IsToldMore (slice_index_or p.ends.plays.items t r) (slice_index_or ends.plays.items t r)
  told t r within = told_at theirs.sends.items p.ends.plays.items theirs_now.sends.items ends.plays.items met.plays count t r within

  got : (t : ℕ) (d : Sender TakeBlock) → t < length p.ends.takes.items → HasGot (slice_index_or p.ends.takes.items t d) (slice_index_or ends.takes.items t d)
  got t d within = got_at p.ends.takes.items theirs.takes.items ends.takes.items theirs_now.takes.items met.takes t d within

  pub plays_after_a_meeting : (inputs : SourceOutside I) → IsPlaying inputs at p → IsPlaying inputs at after
  plays_after_a_meeting inputs playing = record {
    valid = playing.valid;
    plays = met.plays.receivers ∙ playing.plays;
    takes = met.takes.senders ∙ playing.takes;
    playbacks = playing.playbacks;
    captures = playing.captures;
    depth = playing.depth;
    entered = playing.entered;
    generation = playing.generation;
    next = playing.next;
    later = playing.later;
    played = λ t r k within. plays_told (position_of p) (block_of at.session t) (slice_index_or p.ends.plays.items t r) (slice_index_or ends.plays.items t r) (slice_index_or p.playbacks t k)
        (told t r (omega (arith, within, playing.plays))) (playing.played t r k within);
    recorded = λ t d k within. recorded_got at.session t p after (slice_index_or p.captures t k) (slice_index_or p.ends.takes.items t d) (slice_index_or ends.takes.items t d) refl
        (got t d (omega (arith, within, playing.takes))) (playing.recorded t d k within);
    to_butler = open_got at.session.depth 0 p.ends.to_butler ends.to_butler (record { got = length theirs.acks.received; is = met.acks.sender }) playing.to_butler;
    to_control = subst (IsOpenIn at.session.depth 0) (sym met.to_control) playing.to_control;
    master = playing.master;
    frames = playing.frames;
    read = playing.read;
    cycles = playing.cycles;
    within = playing.within;
    promises = promises_while_meeting at (entries_of p) p.ends ends theirs theirs_now others met playing.promises;
    hears = hears_while_meeting inputs.tells (sound_of at p) at.session (entries_of p) p.ends ends theirs theirs_now others met playing.hears;
  }

  pub looked_after_a_meeting : HasLooked at p → HasLooked at after
  looked_after_a_meeting was = record {
    held = was.held;
    looked_up = λ t r is. let o = was_end IsToldMore p.ends.plays.items ends.plays.items met.plays.receivers told t r is in
        subst (λ (z : Receiver Item). IsLookedUp at.edits (position_of p) t (received_kinds z) (reverse z.tails) (entries_of p)) (sym o.changed.is) (was.looked_up t o.was o.there);
  }

-- what the master holds stands, by what was received
pub mastered_after_a_meeting : {W : Type 0} (outside : SinkOutside W) (at : Playing) (cycles : ℕ) (entries : List Entry) (sink : W) (ours ours_now : ProcessEnds) (theirs theirs_now : ButlerEnds) →
    EndsMeet ours theirs ours_now theirs_now → length ours.plays.items ≡ length theirs.sends.items → (outside.tells → HoldsBlocks outside at cycles entries (map received_items ours.plays.items) sink) →
    outside.tells → HoldsBlocks outside at cycles entries (map received_items ours_now.plays.items) sink
mastered_after_a_meeting outside at cycles entries sink ours ours_now theirs theirs_now met count was tells = subst (λ items. HoldsBlocks outside at cycles entries items sink)
    (sym (same_items ours.plays.items ours_now.plays.items met.plays.receivers (λ t r within. told_at theirs.sends.items ours.plays.items theirs_now.sends.items ours_now.plays.items met.plays count t r within))) (was tells)

-- so all of it is as a contract says it, of a process that is seen as this one
pub meets_others : {I W : Type 0} (inputs : SourceOutside I) (sinks : SinkOutside W) (p old : ProcessState I W) (theirs theirs_now : ButlerEnds) (ends : ProcessEnds) → p ≡ old → AreOtherEnds old.ends theirs →
    EndsMeet p.ends theirs ends theirs_now → MeetsOthers inputs sinks old theirs (record p { ends = ends }) theirs_now
meets_others {I} {W} inputs sinks p old theirs theirs_now ends is others met = subst (λ q. MeetsOthers inputs sinks q theirs (record p { ends = ends }) theirs_now) is (record {
  same = refl;
  ends = met;
  playing = λ at. plays_after_a_meeting at p ends theirs theirs_now met other inputs;
  looked = λ at. looked_after_a_meeting at p ends theirs theirs_now met other;
  master = λ at. mastered_after_a_meeting sinks at p.journal.room (reverse (seen_entries p.journal.items)) p.master.sink p.ends ends theirs theirs_now met other.plays.count;
}) where
  other : AreOtherEnds p.ends theirs
  other = subst (λ (q : ProcessState I W). AreOtherEnds q.ends theirs) (sym is) others
