-- What stands of tracks and acknowledgements, seen from another state.
use Rattle.std.proofs.Common.{◌≡◌, inr, ℕ, ◌+◌, ◌≤◌, List, [], ◌∷◌, ◌++◌, length, sym, subst, arith}
use Rattle.std.specs.Prelude.{true, reverse, ◌==◌}
use Rattle.std.specs.List.{list_all}
use Rattle.session_model.specs.declared.session.Session.{Session}
use Rattle.session_model.specs.declared.edit.Edit.{Edit}
use Rattle.engine_model.specs.Due.{Ack}
use Rattle.engine_model.specs.Journal.{Entry}
use Rattle.engine_laws.specs.MadeLaws.{LooksStand}
use Rattle.machine_model.specs.Core.{TrackState, AckRing, Core, received_of}
use Rattle.machine_model.specs.Events.{is_recorded}
use Rattle.machine_laws.specs.Stands.{TrackLooked, CaptureStands, AcksStand, AreAcksOf, block_of_take, head_of_take, blocks_taken, heads_lost, pending, is_next_take, met_full}
use Rattle.engine_model.specs.Fits.{next_take}
use Rattle.engine_model.specs.Truth.{losses}

-- ---- states that have the same edits and entries

pub looked_same : (session : Session) (c d : Core) (t : ℕ) (x : TrackState) → d.edits ≡ c.edits → d.entries ≡ c.entries → TrackLooked session c t x → TrackLooked session d t x
looked_same session c d t x e f l = record {
  true_now = to x.tails l.true_now;
  noted = λ ended. let n = l.noted ended in (n.0, n.1, to n.0 n.2);
}
  where
    to : (tails : List ℕ) → LooksStand c.edits session.depth t (received_of x) tails c.entries → LooksStand d.edits session.depth t (received_of x) tails d.entries
    to tails h = subst (λ es. LooksStand es session.depth t (received_of x) tails d.entries) (sym e) (subst (λ es. LooksStand c.edits session.depth t (received_of x) tails es) (sym f) h)

pub captures_same : (session : Session) (c d : Core) (t : ℕ) (x : TrackState) → d.entries ≡ c.entries → (c.in_cycle ≡ true → d.in_cycle ≡ true) →
    (is_recorded session c t ≡ true → is_recorded session d t ≡ true) → CaptureStands session c t x → CaptureStands session d t x
captures_same session c d t x e open_too recorded h = record {
  put = subst (λ es. x.put ≡ pending block_of_take x.taking ++ blocks_taken t es) (sym e) h.put;
  heads = subst (λ es. x.heads ≡ pending head_of_take x.taking ++ heads_lost t es) (sym e) h.heads;
  flushed = h.flushed;
  room = h.room;
  full = subst (λ es. list_all (λ l. l.taken == l.head + session.depth) (losses t (reverse es)) ≡ true) (sym e) h.full;
  full_now = subst (λ es. met_full session.depth (length (blocks_taken t es)) x.taking ≡ true) (sym e) h.full_now;
  next = λ take is. let n = h.next take is in (open_too n.0, recorded n.1, subst (λ es. is_next_take (next_take t es) take ≡ true) (sym e) n.2);
}

pub acks_same : (session : Session) (c d : Core) (ring : AckRing) → d.edits ≡ c.edits → d.entries ≡ c.entries → AcksStand session c ring → AcksStand session d ring
acks_same session c d ring e f h = record {
  of_entries = subst (λ es. AreAcksOf es d.entries ring.sent) (sym e) (subst (λ es. AreAcksOf c.edits es ring.sent) (sym f) h.of_entries);
  taken = h.taken;
  room = h.room;
  told = subst (λ es. ring.told ≤ length es) (sym f) h.told;
  none_newer = h.none_newer;
}

-- ---- one entry more

pub acks_weaken : (edits : List Edit) (e : Entry) (entries : List Entry) (acks : List Ack) → AreAcksOf edits entries acks → AreAcksOf edits (e ∷ entries) acks
acks_weaken edits e entries [] h = tt
acks_weaken edits e entries (a ∷ acks) h = inr h

pub acks_later : (session : Session) (c d : Core) (e : Entry) (ring : AckRing) → d.edits ≡ c.edits → d.entries ≡ e ∷ c.entries → AcksStand session c ring → AcksStand session d ring
acks_later session c d e ring same more h = record {
  of_entries = subst (λ es. AreAcksOf es d.entries ring.sent) (sym same) (subst (λ es. AreAcksOf c.edits es ring.sent) (sym more) (acks_weaken c.edits e c.entries ring.sent h.of_entries));
  taken = h.taken;
  room = h.room;
  told = subst (λ es. ring.told ≤ length es) (sym more) (omega (arith, h.told));
  none_newer = h.none_newer;
}
