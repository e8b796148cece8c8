-- Butler and process enter the newest edition.
use Rattle.std.proofs.Common.{◌≡◌, ℕ, ◌<◌, ◌++◌, length, refl, sym, ap, arith, ◌∙◌}
use Rattle.std.specs.Prelude.{true, false, ◌&&◌, not, nat_lt, Option, Some, None, map}
use Rattle.std.proofs.lemmas.Bool.{and_parts, ltb-true, not-true, true≢false, false≢true}
use Rattle.std.proofs.lemmas.List.{length-map}
use Rattle.std.proofs.lemmas.Option.{none-some}
use Rattle.session_model.specs.declared.session.Session.{Session}
use Rattle.engine_model.specs.Edits.{has_quit}
use Rattle.engine_model.specs.Journal.{Take}
use Rattle.engine_laws.proofs.SendLemmas.{enter_keeps}
use Rattle.engine_laws.proofs.MadeLemmas.{made_goes_on}
use Rattle.machine_model.specs.Core.{Core, TrackState, received_of}
use Rattle.machine_model.specs.Events.{EnterButler, EnterProcess, can, done, begun}
use Rattle.machine_laws.specs.Stands.{Stands, PlaybackStands, TrackLooked, CaptureStands, blocks_taken, heads_lost, pending, block_of_take, head_of_take}
use Rattle.machine_laws.proofs.Keeping.{captures_same, looked_same, acks_same}
use Rattle.machine_laws.proofs.Received.{receives_same}
use Rattle.machine_laws.proofs.Tracks.{each_mapped, same_twice}

pub by_enter_butler : (session : Session) (cycles : ℕ) (c : Core) → Stands session cycles c → Stands session cycles (done session cycles c EnterButler)
by_enter_butler session cycles c s = record {
  accepted = s.accepted;
  entered = omega arith;
  playing = s.playing;
  unended = s.unended;
  asked = s.asked;
  asked_now = s.asked_now;
  many = s.many;
  playback = λ t x e. let p = s.playback t x e in record {
    kept = enter_keeps session c.edits t c.entered (length c.edits) x.sent s.entered (omega arith) p.kept;
    once = p.once;
    received = p.received;
    room = p.room;
  };
  made = s.made;
  looks = λ t x e. looked_same session c (record c { entered = length c.edits }) t x refl refl (s.looks t x e);
  captures = λ t x e. captures_same session c (record c { entered = length c.edits }) t x refl (λ o. o) (λ r. r) (s.captures t x e);
  to_butler = acks_same session c (record c { entered = length c.edits }) c.to_butler refl refl s.to_butler;
  to_control = acks_same session c (record c { entered = length c.edits }) c.to_control refl refl s.to_control;
}

-- where no cycle is open, nothing is pending
pub none_pending : (session : Session) (c : Core) (t : ℕ) (x : TrackState) → c.in_cycle ≡ false → CaptureStands session c t x → x.taking ≡ None
none_pending session c t x shut h = by x.taking refl
  where
    by : (o : Option Take) → x.taking ≡ o → o ≡ None
    by None is = refl
    by (Some take) is = absurd (true≢false (sym (h.next take is).0 ∙ shut))

abbrev entering : Core → Core
entering c = record c { playing = length c.edits; in_cycle = not (has_quit c.edits (length c.edits)); tracks = map begun c.tracks }

pub by_enter_process : (session : Session) (cycles : ℕ) (c : Core) → Stands session cycles c → can session cycles c EnterProcess ≡ true → Stands session cycles (done session cycles c EnterProcess)
by_enter_process session cycles c s may = record {
  accepted = s.accepted;
  entered = s.entered;
  playing = omega arith;
  unended = λ o. not-true (has_quit c.edits (length c.edits)) o;
  asked = s.asked;
  asked_now = λ o. fewer;
  many = length-map c.tracks begun ∙ s.many;
  playback = each_mapped (PlaybackStands session c.edits cycles c.entered) begun c.tracks
      (λ t x e. let p = s.playback t x e in record { kept = p.kept; once = p.once; received = p.received; room = p.room });
  made = made_goes_on session c.edits c.playing (length c.edits) (map received_of c.tracks) (map received_of (map begun c.tracks)) c.entries s.playing
      (receives_same (map received_of c.tracks) (map received_of (map begun c.tracks)) (same_twice received_of begun c.tracks (λ x. refl))) s.made;
  looks = each_mapped (TrackLooked session (entering c)) begun c.tracks (λ t x e. let l = s.looks t x e in record { true_now = l.true_now; noted = λ no. absurd (false≢true no) });
  captures = each_mapped (CaptureStands session (entering c)) begun c.tracks (λ t x e. captures t x (s.captures t x e));
  to_butler = acks_same session c (entering c) c.to_butler refl refl s.to_butler;
  to_control = acks_same session c (entering c) c.to_control refl refl s.to_control;
}
  where
    shut : c.in_cycle ≡ false
    shut = not-true c.in_cycle (and_parts (not c.in_cycle) (nat_lt (length c.entries) cycles)
        (and_parts (not c.in_cycle && nat_lt (length c.entries) cycles) (not (has_quit c.edits c.playing)) may).0).0

    fewer : length c.entries < cycles
    fewer = ltb-true (length c.entries) cycles
        (and_parts (not c.in_cycle) (nat_lt (length c.entries) cycles) (and_parts (not c.in_cycle && nat_lt (length c.entries) cycles) (not (has_quit c.edits c.playing)) may).0).1

    captures : (t : ℕ) (x : TrackState) → CaptureStands session c t x → CaptureStands session (entering c) t (begun x)
    captures t x h = let none = none_pending session c t x shut h in record {
      put = h.put ∙ ap (λ o. pending block_of_take o ++ blocks_taken t c.entries) none;
      heads = h.heads ∙ ap (λ o. pending head_of_take o ++ heads_lost t c.entries) none;
      flushed = h.flushed;
      room = h.room;
      full = h.full;
      full_now = refl;
      next = λ take is. absurd (none-some take is);
    }
