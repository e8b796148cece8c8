-- What the sending part of a turn leaves of a track, in the words of a session.
use Rattle.std.proofs.Common.{◌≡◌, ℕ, List, [], ◌++◌, length, get_or, refl, sym, ap, ◌∙◌, subst, arith, true, false, inl, inr, le_refl, append-nil}
use Rattle.std.specs.Prelude.{Bool, reverse, slice_get, Some}
use Rattle.std.proofs.lemmas.List.{map-append, reverse-append}
use Rattle.std.proofs.lemmas.Option.{slice_get-get_or, slice_get_within, slice_get_cases}
use Rattle.sound_model.specs.Regions.{Sounds}
use Rattle.session_model.specs.declared.session.Session.{Session}
use Rattle.engine_model.specs.Edits.{generation}
use Rattle.engine_model.specs.Due.{Ack, Needs, needs, next_block}
use Rattle.edition_log.specs.EditionState.{EditionState as Edition, IsEditionState, IsEditionOf}
use Rattle.disk_ring.specs.Sender.{Sender}
use Rattle.piece_item.specs.declared.item.Item.{Item}
use Rattle.piece_item.specs.Views.{kind_of}
use Rattle.read_ahead.specs.declared.supply.TrackSupply.{TrackSupply}
use Rattle.read_ahead.specs.SendProgress.{needs_of, target_of}
use Rattle.read_ahead.specs.Items.{kinds}
use Rattle.read_ahead.specs.Reader.{IsReady}
use Rattle.read_ahead.specs.Serves.{Serves, IsServed}
use Rattle.read_ahead.specs.AllServes.{AllStocked, AllServe}
use Rattle.butler.specs.Sends.{acks_of, SendsOf, IsDone}
use Rattle.butler.specs.ButlerState.{ButlerState}
use Rattle.butler.specs.Serving.{StandsFor, IsTended, IsServing, AreStocked}
use Rattle.butler.specs.Turns.{pass_of}
use Rattle.butler.specs.Steps.{reader_of}
use Rattle.butler.proofs.StandLemmas.{run_stands, due_is, due_from}
use Rattle.butler.proofs.KeepLemmas.{block_is, tracks_are, room_is, listed_is, generation_is, targets_are, few_tracks}

module _ (s : Session) (e : Edition) (is : IsEditionOf s e) (cycles t : ℕ) (acks : List Ack) where
  abbrev N : Needs
  N = needs s e.edits cycles t (length e.edits) acks

  -- of what was sent with some items more
  more_before : (old items : List Item) → reverse (kinds items) ++ reverse (kinds old) ≡ reverse (kinds (old ++ items))
  more_before old items = sym (ap reverse (map-append (λ (item : Item). kind_of item.kind) old items) ∙ reverse-append (kinds old) (kinds items))

  served_sends : (told : Type 0) (sounds : Sounds) (failed : Bool) (p q : TrackSupply) (d f : Sender Item) → IsTended s e.edits cycles t acks failed p d → Serves told sounds e N p d q f →
      SendsOf s e.edits cycles t acks d f
  served_sends told sounds failed p q d f tended serves =
      let ran = run_stands s e.edits cycles t acks p.progress q.progress (reverse (kinds d.sent)) (kinds serves.items) tended.stands serves.run in record {
        items = serves.items;
        sent = ap (λ (z : Sender Item). z.sent) serves.ring;
        were_due = ran.0;
        ring = ap (λ (z : Sender Item). z.ring) serves.ring;
        depth = ap (λ (z : Sender Item). z.depth) serves.ring;
        room = ap (λ (z : Sender Item). z.room) serves.ring;
        full = serves.full;
        heads = ap (λ (z : Sender Item). z.heads) serves.ring;
        once = serves.once;
        got = serves.got;
      }

  -- the numbers stand for all that was sent then
  pub served_stands : (told : Type 0) (sounds : Sounds) (failed : Bool) (p q : TrackSupply) (d f : Sender Item) → IsTended s e.edits cycles t acks failed p d → Serves told sounds e N p d q f →
      StandsFor s e.edits cycles t acks q.progress (reverse (kinds f.sent))
  served_stands told sounds failed p q d f tended serves =
      let ran = run_stands s e.edits cycles t acks p.progress q.progress (reverse (kinds d.sent)) (kinds serves.items) tended.stands serves.run in
      subst (StandsFor s e.edits cycles t acks q.progress)
      (more_before d.sent serves.items ∙ ap (λ (z : Sender Item). reverse (kinds z.sent)) (sym serves.ring)) ran.1

  served_tended : (told : Type 0) (sounds : Sounds) (failed : Bool) (p q : TrackSupply) (d f : Sender Item) → IsTended s e.edits cycles t acks failed p d → Serves told sounds e N p d q f →
      IsTended s e.edits cycles t acks failed q f
  served_tended told sounds failed p q d f tended serves = let stands = served_stands told sounds failed p q d f tended serves in record {
    depth = ap (λ (z : Sender Item). z.depth) serves.ring ∙ tended.depth;
    room = ap (λ (z : Sender Item). z.room) serves.ring ∙ tended.room;
    closed = ap (λ (z : Sender Item). z.closed) serves.ring ∙ tended.closed;
    stands = stands;
    made = λ item has. elim (serves.made item has) [
      | inl had ↦ tended.made item had
      | inr new ↦ (due_from s e.edits cycles t acks q.progress (reverse (kinds f.sent)) (kind_of item.kind) stands new.0).0
    ];
  }

  -- a track that was served has all that a turn can give it
  served_done : (failed : Bool) (q : TrackSupply) (d f : Sender Item) → IsTended s e.edits cycles t acks failed q f → IsServed N d q f → IsDone s e.edits cycles t acks d f
  served_done failed q d f tended (inl full) = inr (inl full.0)
  served_done failed q d f tended (inr none) = inr (inr (due_is s e.edits cycles t acks q.progress (reverse (kinds f.sent)) tended.stands ∙ none))

  pub shut_tended : (p : TrackSupply) (d f : Sender Item) → f ≡ record d { closed = true } → IsTended s e.edits cycles t acks false p d → IsTended s e.edits cycles t acks true p f
  shut_tended p d f same tended = subst (IsTended s e.edits cycles t acks true p) (sym same)
      record { depth = tended.depth; room = tended.room; closed = refl; stands = tended.stands; made = tended.made }

  pub shut_sends : (b d f : Sender Item) → f ≡ record d { closed = true } → SendsOf s e.edits cycles t acks b d → SendsOf s e.edits cycles t acks b f
  shut_sends b d f same sends = subst (SendsOf s e.edits cycles t acks b) (sym same) record {
    items = sends.items;
    sent = sends.sent;
    were_due = sends.were_due;
    ring = sends.ring;
    depth = sends.depth;
    room = sends.room;
    full = sends.full;
    heads = sends.heads;
    once = sends.once;
    got = sends.got;
  }

  pub no_sends : (d : Sender Item) → SendsOf s e.edits cycles t acks d d
  no_sends d = record {
    items = [];
    sent = sym (append-nil d.sent);
    were_due = tt;
    ring = refl;
    depth = refl;
    room = refl;
    full = [];
    heads = sym (append-nil d.heads);
    once = omega arith;
    got = le_refl d.got;
  }

-- ---- all tracks, of a butler that entered the edition

module _ {V : Type 0} (s : Session) (e : Edition) (is : IsEditionOf s e) (seen : IsEditionState e) (b : ButlerState V) (serving : IsServing s e.edits b) where
  abbrev A : List Ack
  A = acks_of b.ends.acks.received

  next_is : (pass_of e b).next ≡ next_block A (generation e.edits (length e.edits))
  next_is = serving.table.each e.transport.generation (let few = seen.few in let counted = seen.counted in let many = serving.table.generations in omega arith)
      ∙ ap (next_block A) (generation_is s e is)

  needs_are : (t : ℕ) (d : Sender Item) → slice_get b.ends.sends.items t ≡ Some d → needs_of (target_of (pass_of e b) t) ≡ needs s e.edits b.cycles t (length e.edits) A
  needs_are t d hd = targets_are s e is t (pass_of e b).next b.cycles A
      (few_tracks s t serving.valid (let near = slice_get_within b.ends.sends.items t d hd in let many = serving.sends in omega arith)) next_is

  -- what may be read from, and what can be served
  pub ready : IsReady (reader_of b) (pass_of e b)
  ready = record { valid = seen.valid; listed = listed_is s e is b.sources.opened serving.sources; room = serving.room ∙ sym (block_is s e is); near = serving.cycles }

  pub as_many : length b.supplies ≡ length e.session.tracks.items
  as_many = serving.supplies ∙ sym (tracks_are s e is)

  pub all_stocked : AreStocked b.supplies b.drain b.ends → b.hushed ≡ false → AllStocked e b.supplies b.ends.sends.items
  all_stocked stocked fine = record {
    many = stocked.many;
    each = λ t p d hp hd. let tended = serving.tracks t p d hp hd in let st = tended.stands in let bounded = st.tracked.bounded in let far = st.near in let most = serving.cycles in (
      record { room = tended.room ∙ sym (room_is s e is t); spare = stocked.each t p d hp hd; near = omega arith },
      tended.closed ∙ fine,
    );
  }

  module _ (told : Type 0) (sounds : Sounds) (qs : List TrackSupply) (fs : List (Sender Item)) (serves : AllServe told sounds (pass_of e b) b.supplies b.ends.sends.items qs fs)
      (many : length b.supplies ≡ length b.ends.sends.items) where
    pub served_at : (t : ℕ) (q : TrackSupply) (d f : Sender Item) → slice_get qs t ≡ Some q → slice_get b.ends.sends.items t ≡ Some d → slice_get fs t ≡ Some f →
        (p : TrackSupply) × ((slice_get b.supplies t ≡ Some p) × IsTended s e.edits b.cycles t A b.hushed p d × Serves told sounds e (needs s e.edits b.cycles t (length e.edits) A) p d q f)
    served_at t q d f hq hd hf = let sized = serves.supplies in let near = slice_get_within qs t q hq in let p = get_or b.supplies t q in let hp = slice_get-get_or b.supplies t q (omega arith) in
        (p, (hp, serving.tracks t p d hp hd, subst (λ n. Serves told sounds e n p d q f) (needs_are t d hd) (serves.each t p q d f hp hq hd hf).0))

    pub supply_at : (t : ℕ) (f : Sender Item) → slice_get fs t ≡ Some f → (q : TrackSupply) × (slice_get qs t ≡ Some q)
    supply_at t f hf = let sized = serves.supplies in let ringed = serves.sends in let near = slice_get_within fs t f hf in elim (slice_get_cases qs t).1 [
      | inl found ↦ (found.0, found.2)
      | inr past ↦ (let end = past.0 in absurd (omega arith))
    ]

    pub tended_after : (t : ℕ) (q : TrackSupply) (f : Sender Item) → slice_get qs t ≡ Some q → slice_get fs t ≡ Some f → IsTended s e.edits b.cycles t A b.hushed q f
    tended_after t q f hq hf = let ringed = serves.sends in let near = slice_get_within fs t f hf in let d = get_or b.ends.sends.items t f in let hd = slice_get-get_or b.ends.sends.items t f (omega arith) in
        let at = served_at t q d f hq hd hf in served_tended s e is b.cycles t A told sounds b.hushed at.0 q d f at.1.1 at.1.2

    pub sends_after : (t : ℕ) (d f : Sender Item) → slice_get b.ends.sends.items t ≡ Some d → slice_get fs t ≡ Some f → SendsOf s e.edits b.cycles t A d f
    sends_after t d f hd hf = let has = supply_at t f hf in let at = served_at t has.0 d f has.1 hd hf in served_sends s e is b.cycles t A told sounds b.hushed at.0 has.0 d f at.1.1 at.1.2

    pub open_after : (t : ℕ) (d f : Sender Item) → slice_get b.ends.sends.items t ≡ Some d → slice_get fs t ≡ Some f → f.closed ≡ d.closed
    open_after t d f hd hf = let has = supply_at t f hf in let at = served_at t has.0 d f has.1 hd hf in ap (λ (z : Sender Item). z.closed) at.1.2.ring

    pub done_after : (t : ℕ) (d f : Sender Item) → slice_get b.ends.sends.items t ≡ Some d → slice_get fs t ≡ Some f →
        ((q : TrackSupply) → slice_get qs t ≡ Some q → IsServed (needs_of (target_of (pass_of e b) t)) d q f) → IsDone s e.edits b.cycles t A d f
    done_after t d f hd hf served = let has = supply_at t f hf in
        served_done s e is b.cycles t A b.hushed has.0 d f (tended_after t has.0 f has.1 hf) (subst (λ n. IsServed n d has.0 f) (needs_are t d hd) (served has.0 has.1))
