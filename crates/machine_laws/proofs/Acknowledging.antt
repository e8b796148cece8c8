-- The process acknowledges its last entry, and an acknowledgement is taken.
use Rattle.std.proofs.Common.{◌≡◌, inl, inr, ℕ, suc, ◌-◌, ◌<◌, ◌≤◌, List, [], ◌∷◌, length, refl, sym, ap, subst, arith}
use Rattle.std.specs.Prelude.{Bool, true, false, not, nat_lt, if◌then◌else◌}
use Rattle.std.specs.List.{list_all}
use Rattle.std.proofs.lemmas.Bool.{and_parts, and_from, ltb-true, ltb-false, le-ltb, not-true, not_from_false}
use Rattle.std.proofs.lemmas.Option.{same_Some}
use Rattle.session_model.specs.declared.session.Session.{Session}
use Rattle.session_model.specs.declared.edit.Edit.{Edit}
use Rattle.engine_model.specs.Edits.{generation}
use Rattle.engine_model.specs.Due.{Ack}
use Rattle.engine_model.specs.Journal.{Entry, rolled}
use Rattle.engine_laws.proofs.ListLemmas.{all_weaken}
use Rattle.machine_model.specs.Core.{Core, TrackState, AckRing}
use Rattle.machine_model.specs.Events.{Side, ToButler, ToControl, AckSend, AckTake, can, done, ring_of, ack_of, acknowledged, with_ring}
use Rattle.machine_laws.specs.Stands.{Stands, AcksStand, AreAcksOf, TrackLooked, CaptureStands}

-- the acknowledgement of an entry
abbrev pub ack_with : List Edit → Entry → List Entry → Ack
ack_with edits e before = let g = generation edits e.edition in record { cycle = suc (length before); generation = g; next = rolled g (e ∷ before); settled = e.settled }

-- what stands of the tracks stands whatever becomes of the acknowledgements
looked_by : (session : Session) (c : Core) (side : Side) (f : AckRing → AckRing) (i : ℕ) (x : TrackState) → TrackLooked session c i x → TrackLooked session (with_ring f side c) i x
looked_by session c ToButler f i x l = record { true_now = l.true_now; noted = l.noted }
looked_by session c ToControl f i x l = record { true_now = l.true_now; noted = l.noted }

captured_by : (session : Session) (c : Core) (side : Side) (f : AckRing → AckRing) (i : ℕ) (x : TrackState) → CaptureStands session c i x → CaptureStands session (with_ring f side c) i x
captured_by session c ToButler f i x h = record { put = h.put; heads = h.heads; flushed = h.flushed; room = h.room; full = h.full; full_now = h.full_now; next = h.next }
captured_by session c ToControl f i x h = record { put = h.put; heads = h.heads; flushed = h.flushed; room = h.room; full = h.full; full_now = h.full_now; next = h.next }

acks_by : (session : Session) (c : Core) (side : Side) (f : AckRing → AckRing) (ring : AckRing) → AcksStand session c ring → AcksStand session (with_ring f side c) ring
acks_by session c ToButler f ring h = record { of_entries = h.of_entries; taken = h.taken; room = h.room; told = h.told; none_newer = h.none_newer }
acks_by session c ToControl f ring h = record { of_entries = h.of_entries; taken = h.taken; room = h.room; told = h.told; none_newer = h.none_newer }

-- all stands where it stands of the ring that is changed
one_ring : (session : Session) (cycles : ℕ) (c : Core) (side : Side) (f : AckRing → AckRing) → Stands session cycles c →
    (AcksStand session c (ring_of c side) → AcksStand session c (f (ring_of c side))) →
    Stands session cycles (with_ring f side c)
one_ring session cycles c ToButler f s step = record {
  accepted = s.accepted;
  entered = s.entered;
  playing = s.playing;
  unended = s.unended;
  asked = s.asked;
  asked_now = s.asked_now;
  many = s.many;
  playback = s.playback;
  made = s.made;
  looks = λ i x e. looked_by session c ToButler f i x (s.looks i x e);
  captures = λ i x e. captured_by session c ToButler f i x (s.captures i x e);
  to_butler = acks_by session c ToButler f (f c.to_butler) (step s.to_butler);
  to_control = acks_by session c ToButler f c.to_control s.to_control;
}
one_ring session cycles c ToControl f s step = record {
  accepted = s.accepted;
  entered = s.entered;
  playing = s.playing;
  unended = s.unended;
  asked = s.asked;
  asked_now = s.asked_now;
  many = s.many;
  playback = s.playback;
  made = s.made;
  looks = λ i x e. looked_by session c ToControl f i x (s.looks i x e);
  captures = λ i x e. captured_by session c ToControl f i x (s.captures i x e);
  to_butler = acks_by session c ToControl f c.to_butler s.to_butler;
  to_control = acks_by session c ToControl f (f c.to_control) (step s.to_control);
}

-- ---- sending

-- acknowledgements that aren't newer than the entries before the last are of these
older : (edits : List Edit) (told : ℕ) (e : Entry) (before : List Entry) (acks : List Ack) → list_all (λ a. not (nat_lt told a.cycle)) acks ≡ true → told ≤ length before →
    AreAcksOf edits (e ∷ before) acks → AreAcksOf edits before acks
older edits told e before [] none le h = tt
older edits told e before (a ∷ acks) none le (inl h) = let first = and_parts (not (nat_lt told a.cycle)) (list_all (λ b. not (nat_lt told b.cycle)) acks) none in
    let low = ltb-false told a.cycle (not-true (nat_lt told a.cycle) first.0) in
    let is = ap (λ b. b.cycle) (same_Some (ack_with edits e before) a h.0) in
    absurd (omega (arith, low, is, le))
older edits told e before (a ∷ acks) none le (inr h) = h

still_none_newer : (told n : ℕ) (acks : List Ack) → told ≤ n → list_all (λ a. not (nat_lt told a.cycle)) acks ≡ true → list_all (λ a. not (nat_lt n a.cycle)) acks ≡ true
still_none_newer told n acks le h = all_weaken (λ a. not (nat_lt told a.cycle)) (λ a. not (nat_lt n a.cycle)) (λ a e. not_from_false (nat_lt n a.cycle) (le-ltb n a.cycle (by a e))) acks h
  where
    by : (a : Ack) → not (nat_lt told a.cycle) ≡ true → a.cycle ≤ n
    by a e = let low = ltb-false told a.cycle (not-true (nat_lt told a.cycle) e) in omega (arith, low, le)

acks_sent : (session : Session) (c : Core) (ring : AckRing) → ring.told < length c.entries → AcksStand session c ring →
    AcksStand session c (acknowledged session.depth (length c.entries) (ack_of c.edits c.entries) ring)
acks_sent session c ring new h = by c.entries refl new
  where
    by : (es : List Entry) → c.entries ≡ es → ring.told < length es → AcksStand session c (acknowledged session.depth (length c.entries) (ack_of c.edits es) ring)
    by [] is lt = absurd (omega (arith, lt))
    by (e ∷ before) is lt = by_room (nat_lt (length ring.sent - ring.taken) session.depth) refl
      where
        long : length c.entries ≡ suc (length before)
        long = ap length is

        by_room : (b : Bool) → nat_lt (length ring.sent - ring.taken) session.depth ≡ b → AcksStand session c
            (if b then record { sent = ack_with c.edits e before ∷ ring.sent; taken = ring.taken; told = length c.entries } else record ring { told = length c.entries })
        by_room true room = let free = ltb-true (length ring.sent - ring.taken) session.depth room in record {
          of_entries = subst (λ es. AreAcksOf c.edits es (ack_with c.edits e before ∷ ring.sent)) (sym is)
              (inl (refl, older c.edits ring.told e before ring.sent h.none_newer (omega (arith, lt)) (subst (λ es. AreAcksOf c.edits es ring.sent) is h.of_entries)));
          taken = omega (arith, h.taken);
          room = omega (arith, h.taken, free);
          told = omega (arith);
          none_newer = and_from (not (nat_lt (length c.entries) (suc (length before)))) (list_all (λ a. not (nat_lt (length c.entries) a.cycle)) ring.sent)
              (not_from_false (nat_lt (length c.entries) (suc (length before))) (le-ltb (length c.entries) (suc (length before)) (omega (arith, long))))
              (still_none_newer ring.told (length c.entries) ring.sent h.told h.none_newer);
        }
        by_room false none = record {
          of_entries = h.of_entries;
          taken = h.taken;
          room = h.room;
          told = omega (arith);
          none_newer = still_none_newer ring.told (length c.entries) ring.sent h.told h.none_newer;
        }

pub by_ack_send : (session : Session) (cycles : ℕ) (c : Core) (side : Side) → Stands session cycles c → can session cycles c (AckSend side) ≡ true →
    Stands session cycles (done session cycles c (AckSend side))
by_ack_send session cycles c side s may = one_ring session cycles c side (acknowledged session.depth (length c.entries) (ack_of c.edits c.entries)) s
    (λ h. acks_sent session c (ring_of c side) (ltb-true (ring_of c side).told (length c.entries) may) h)

-- ---- taking

acks_took : (session : Session) (c : Core) (ring : AckRing) → ring.taken < length ring.sent → AcksStand session c ring → AcksStand session c (record ring { taken = suc ring.taken })
acks_took session c ring some h = record { of_entries = h.of_entries; taken = omega (arith, some); room = omega (arith, h.room); told = h.told; none_newer = h.none_newer }

pub by_ack_take : (session : Session) (cycles : ℕ) (c : Core) (side : Side) → Stands session cycles c → can session cycles c (AckTake side) ≡ true →
    Stands session cycles (done session cycles c (AckTake side))
by_ack_take session cycles c side s may = one_ring session cycles c side (λ ring. record ring { taken = suc ring.taken }) s
    (λ h. acks_took session c (ring_of c side) (ltb-true (ring_of c side).taken (length (ring_of c side).sent) may) h)
