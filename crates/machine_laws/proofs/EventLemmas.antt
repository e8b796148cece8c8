-- What stands at first stands after every list of events.
use Rattle.std.proofs.Common.{◌≡◌, ℕ, zero, suc, List, [], ◌∷◌, length, refl, subst, arith, ◌∙◌}
use Rattle.std.specs.Prelude.{Bool, true, false, if◌then◌else◌, Some, slice_get, replicate}
use Rattle.std.proofs.lemmas.Bool.{false≢true}
use Rattle.std.proofs.lemmas.List.{length-replicate, length-map}
use Rattle.std.proofs.lemmas.Option.{none-some, same_Some}
use Rattle.session_model.specs.declared.session.Session.{Session}
use Rattle.machine_model.specs.Core.{Core, TrackState, idle_track, at_first, received_of}
use Rattle.machine_model.specs.Events.{Event, Publish, EnterButler, Send, Flush, EnterProcess, Look, Capture, End, AckSend, AckTake, can, done, step, after}
use Rattle.machine_laws.specs.Stands.{Stands, PlaybackStands, TrackLooked, CaptureStands}
use Rattle.machine_laws.specs.MachineLaws.{EveryEventKeepsIt, EveryListKeepsIt}
use Rattle.machine_laws.proofs.Acknowledging.{by_ack_send, by_ack_take}
use Rattle.machine_laws.proofs.ByCapture.{by_capture}
use Rattle.machine_laws.proofs.ByEnd.{by_end}
use Rattle.machine_laws.proofs.ByPublish.{by_publish}
use Rattle.machine_laws.proofs.Entering.{by_enter_butler, by_enter_process}
use Rattle.machine_laws.proofs.OneTrack.{by_send, by_flush, by_look}

pub is_idle_track : (n i : ℕ) (x : TrackState) → slice_get (replicate n idle_track) i ≡ Some x → idle_track ≡ x
is_idle_track zero i x e = absurd (none-some x e)
is_idle_track (suc n) zero x e = same_Some idle_track x e
is_idle_track (suc n) (suc i) x e = is_idle_track n i x e

pub stands_at_first : (session : Session) (cycles : ℕ) → Stands session cycles (at_first session)
stands_at_first session cycles = record {
  accepted = record { each = λ k e here. absurd (none-some e here); unended = λ k e here. absurd (none-some e here) };
  entered = omega arith;
  playing = omega arith;
  unended = λ no. absurd (false≢true no);
  asked = omega arith;
  asked_now = λ no. absurd (false≢true no);
  many = length-replicate (length session.tracks.items) idle_track;
  playback = λ t x e. subst (PlaybackStands session [] cycles 0 t) (is_idle_track (length session.tracks.items) t x e)
      (record { kept = record { entered = omega arith; in_order = refl; from = refl }; once = refl; received = omega arith; room = omega arith });
  made = length-map (replicate (length session.tracks.items) idle_track) received_of ∙ length-replicate (length session.tracks.items) idle_track;
  looks = λ t x e. subst (TrackLooked session (at_first session) t) (is_idle_track (length session.tracks.items) t x e)
      (record { true_now = record { missing = refl; looked_for = refl; within = refl }; noted = λ no. absurd (false≢true no) });
  captures = λ t x e. subst (CaptureStands session (at_first session) t) (is_idle_track (length session.tracks.items) t x e)
      (record { put = refl; heads = refl; flushed = omega arith; room = omega arith; full = refl; full_now = refl; next = λ take is. absurd (none-some take is) });
  to_butler = record { of_entries = tt; taken = omega arith; room = omega arith; told = omega arith; none_newer = refl };
  to_control = record { of_entries = tt; taken = omega arith; room = omega arith; told = omega arith; none_newer = refl };
}

does : (session : Session) (cycles : ℕ) (c : Core) (event : Event) → Stands session cycles c → can session cycles c event ≡ true → Stands session cycles (done session cycles c event)
does session cycles c (Publish edit) s may = by_publish session cycles c edit s may
does session cycles c EnterButler s may = by_enter_butler session cycles c s
does session cycles c (Send t) s may = by_send session cycles c t s may
does session cycles c (Flush t) s may = by_flush session cycles c t s may
does session cycles c EnterProcess s may = by_enter_process session cycles c s may
does session cycles c (Look t) s may = by_look session cycles c t s may
does session cycles c (Capture t) s may = by_capture session cycles c t s may
does session cycles c End s may = by_end session cycles c s may
does session cycles c (AckSend side) s may = by_ack_send session cycles c side s may
does session cycles c (AckTake side) s may = by_ack_take session cycles c side s may

pub every_event : (session : Session) (cycles : ℕ) (c : Core) (event : Event) → Stands session cycles c → Stands session cycles (step session cycles c event)
every_event session cycles c event s = by (can session cycles c event) refl
  where
    by : (b : Bool) → can session cycles c event ≡ b → Stands session cycles (if b then done session cycles c event else c)
    by true may = does session cycles c event s may
    by false may = s

pub every_list_on : (session : Session) (cycles : ℕ) (c : Core) (events : List Event) → Stands session cycles c → Stands session cycles (after session cycles c events)
every_list_on session cycles c [] s = s
every_list_on session cycles c (event ∷ events) s = every_list_on session cycles (step session cycles c event) events (every_event session cycles c event s)

-- ---- as the laws have it

pub every_event_keeps_it : EveryEventKeepsIt
every_event_keeps_it session cycles c event s = every_event session cycles c event s

pub every_list_keeps_it : EveryListKeepsIt
every_list_keeps_it session cycles events = every_list_on session cycles (at_first session) events (stands_at_first session cycles)
