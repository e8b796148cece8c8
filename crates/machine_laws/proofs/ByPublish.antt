-- Control publishes an edit: all stands over the longer list.
use Rattle.std.proofs.Common.{◌≡◌, inl, inr, ℕ, suc, ◌≤◌, List, [], ◌∷◌, ◌++◌, length, refl, ap, arith, ◌∙◌, length-append}
use Rattle.std.specs.Prelude.{Bool, true, false, ◌&&◌, nat_le, not, Some, map}
use Rattle.std.specs.List.{list_all}
use Rattle.std.proofs.lemmas.Bool.{and_parts, leb-true, not-true}
use Rattle.session_model.specs.declared.session.Session.{Session}
use Rattle.session_model.specs.declared.edit.Edit.{Edit}
use Rattle.engine_model.specs.Edits.{generation, starts, has_quit}
use Rattle.engine_model.specs.Editions.{Edition, edition}
use Rattle.engine_model.specs.Journal.{Entry, is_rolling, rolled}
use Rattle.engine_model.specs.Cycle.{state_of}
use Rattle.engine_model.specs.Due.{Ack}
use Rattle.engine_model.specs.Fits.{records}
use Rattle.engine_model.specs.Lines.{accepts_after}
use Rattle.engine_laws.proofs.EditionLemmas.{accepted_more, edition_stays, quit_is, quit_stays}
use Rattle.engine_laws.proofs.GrowLemmas.{publish_keeps}
use Rattle.engine_laws.proofs.NumberLemmas.{count_stays}
use Rattle.engine_laws.proofs.MadeLemmas.{made_stays}
use Rattle.engine_laws.proofs.LooksLemmas.{looks_stand_while_editing}
use Rattle.machine_model.specs.Core.{Core, AckRing, received_of}
use Rattle.machine_model.specs.Events.{Publish, can, done, is_recorded, ack_of}
use Rattle.machine_laws.specs.Stands.{Stands, AcksStand, AreAcksOf}
use Rattle.machine_laws.proofs.Keeping.{captures_same}
use Rattle.machine_laws.proofs.MadeFacts.{made_low, low_rises}

ack_stays : (edits more : List Edit) (e : Entry) (before : List Entry) → e.edition ≤ length edits → ack_of (edits ++ more) (e ∷ before) ≡ ack_of edits (e ∷ before)
ack_stays edits more e before le = ap (λ g. Some (record { cycle = suc (length before); generation = g; next = rolled g (e ∷ before); settled = e.settled }))
    (count_stays starts edits more e.edition le)

acks_stay : (edits more : List Edit) (entries : List Entry) (acks : List Ack) → list_all (λ e. nat_le e.edition (length edits)) entries ≡ true → AreAcksOf edits entries acks →
    AreAcksOf (edits ++ more) entries acks
acks_stay edits more entries [] low h = tt
acks_stay edits more [] (a ∷ acks) low h = h
acks_stay edits more (e ∷ before) (a ∷ acks) low (inl h) = let parts = and_parts (nat_le e.edition (length edits)) (list_all (λ o. nat_le o.edition (length edits)) before) low in
    inl (ack_stays edits more e before (leb-true e.edition (length edits) parts.0) ∙ h.0, acks_stay edits more before acks parts.1 h.1)
acks_stay edits more (e ∷ before) (a ∷ acks) low (inr h) = let parts = and_parts (nat_le e.edition (length edits)) (list_all (λ o. nat_le o.edition (length edits)) before) low in
    inr (acks_stay edits more before (a ∷ acks) parts.1 h)

recorded_stays : (session : Session) (c : Core) (more : List Edit) (t : ℕ) → c.playing ≤ length c.edits → is_recorded session (record c { edits = c.edits ++ more }) t ≡ is_recorded session c t
recorded_stays session c more t le = ap (λ n. by n (generation (c.edits ++ more) c.playing)) (edition_stays session c.edits more c.playing le)
    ∙ ap (by (edition session c.edits c.playing)) (count_stays starts c.edits more c.playing le)
  where
    by : Edition → ℕ → Bool
    by now g = is_rolling (state_of now.transport.rolling g (rolled g c.entries) (map received_of c.tracks)) && records now t

published : (session : Session) (cycles : ℕ) (c : Core) (edit : Edit) → Stands session cycles c → has_quit c.edits (length c.edits) ≡ false → accepts_after session c.edits edit ≡ true →
    Stands session cycles (record c { edits = c.edits ++ edit ∷ [] })
published session cycles c edit s unquit ok = record {
  accepted = accepted_more session c.edits edit s.accepted (quit_is session c.edits (length c.edits) s.accepted (omega arith) ∙ unquit) ok;
  entered = longer c.entered s.entered;
  playing = longer c.playing s.playing;
  unended = λ o. quit_stays c.edits (edit ∷ []) c.playing s.playing ∙ s.unended o;
  asked = s.asked;
  asked_now = s.asked_now;
  many = s.many;
  playback = λ t x e. let p = s.playback t x e in record {
    kept = publish_keeps session c.edits (edit ∷ []) t c.entered x.sent p.kept;
    once = p.once;
    received = p.received;
    room = p.room;
  };
  made = made_stays session c.edits (edit ∷ []) c.playing (map received_of c.tracks) c.entries s.playing s.made;
  looks = λ t x e. let l = s.looks t x e in record {
    true_now = looks_stand_while_editing c.edits (edit ∷ []) session.depth t (received_of x) x.tails c.entries low l.true_now;
    noted = λ ended. let n = l.noted ended in (n.0, n.1, looks_stand_while_editing c.edits (edit ∷ []) session.depth t (received_of x) n.0 c.entries low n.2);
  };
  captures = λ t x e. captures_same session c (record c { edits = c.edits ++ edit ∷ [] }) t x refl (λ o. o) (λ r. recorded_stays session c (edit ∷ []) t s.playing ∙ r) (s.captures t x e);
  to_butler = acks c.to_butler s.to_butler;
  to_control = acks c.to_control s.to_control;
}
  where
    longer : (n : ℕ) → n ≤ length c.edits → n ≤ length (c.edits ++ edit ∷ [])
    longer n le = grind (arith, le, length-append c.edits (edit ∷ []))

    low : list_all (λ e. nat_le e.edition (length c.edits)) c.entries ≡ true
    low = low_rises c.playing (length c.edits) c.entries s.playing (made_low session c.edits c.playing (map received_of c.tracks) c.entries s.made)

    acks : (ring : AckRing) → AcksStand session c ring → AcksStand session (record c { edits = c.edits ++ edit ∷ [] }) ring
    acks ring h = record {
      of_entries = acks_stay c.edits (edit ∷ []) c.entries ring.sent low h.of_entries;
      taken = h.taken;
      room = h.room;
      told = h.told;
      none_newer = h.none_newer;
    }

pub by_publish : (session : Session) (cycles : ℕ) (c : Core) (edit : Edit) → Stands session cycles c → can session cycles c (Publish edit) ≡ true →
    Stands session cycles (done session cycles c (Publish edit))
by_publish session cycles c edit s may = let parts = and_parts (not (has_quit c.edits (length c.edits))) (accepts_after session c.edits edit) may in
    published session cycles c edit s (not-true (has_quit c.edits (length c.edits)) parts.0) parts.1
