-- The end of a cycle in the core machine: tracks are captured, the entry is made, and acknowledged.
use Rattle.std.proofs.Common.{◌≡◌, ℕ, suc, ◌-◌, ◌<◌, ◌≤◌, List, [], ◌∷◌, ◌++◌, length, refl, sym, ap, arith, ◌∙◌}
use Rattle.std.specs.Prelude.{Bool, true, false, ◌&&◌, ◌==◌, nat_lt, if◌then◌else◌, Some, filter, map, slice_get}
use Rattle.std.specs.Option.{option_map_or}
use Rattle.std.proofs.lemmas.Bool.{and_from, and_parts, false≢true, lt-ltb, le-ltb}
use Rattle.session_model.specs.Lists.{each_from}
use Rattle.session_model.specs.declared.session.Session.{Session}
use Rattle.session_model.specs.declared.edit.Edit.{Edit}
use Rattle.engine_model.specs.Cycle.{entry_of, notes_of, play_of}
use Rattle.engine_model.specs.Due.{Ack}
use Rattle.engine_model.specs.Edits.{generation}
use Rattle.engine_model.specs.Editions.{Edition}
use Rattle.engine_model.specs.Fits.{fits_take, records}
use Rattle.engine_model.specs.Items.{Kind}
use Rattle.engine_model.specs.Journal.{Entry, Note, Off, State, Take, Taken, Lost, rolled}
use Rattle.machine_model.specs.Core.{AckRing, Core, received_of}
use Rattle.machine_model.specs.Events.{AckSend, Capture, End, ToButler, ToControl, ack_of, acknowledged, after, begun, can, has_its_capture, have_looked, is_recorded, step, take_made}
use Rattle.machine_model.specs.Letters.{ends_cycle, track_places}
use Rattle.machine_laws.proofs.CaptureLemmas.{all_have_theirs, captured_from, captured_looked, captured_received, captures_done, recorded_same}
use Rattle.machine_laws.proofs.EventLists.{after_append}

-- ---- takes

-- what isn't recorded takes nothing
pub takes_nothing : (recorded : Bool) (next : ℕ × ℕ) (take : Take) → recorded ≡ false → fits_take recorded next take ≡ true → take ≡ Off
takes_nothing recorded next Off idle fit = refl
takes_nothing recorded next (Taken n i) idle fit = absurd (false≢true (sym idle ∙ (and_parts recorded (n == next.0) (and_parts (recorded && n == next.0) (i == next.1) fit).0).0))
takes_nothing recorded next (Lost n i head) idle fit = absurd (false≢true (sym idle ∙ (and_parts recorded (n == next.0) (and_parts (recorded && n == next.0) (i == next.1) fit).0).0))

-- an edition whose transport doesn't record records no track
pub records_none : (rolls : Bool) (now : Edition) (t : ℕ) → now.transport.recording ≡ false → (rolls && records now t) ≡ false
records_none rolls now t never = ap (λ b. rolls && (b && option_map_or (λ k. k.armed) (slice_get now.session.tracks.items t) false)) never ∙ both rolls
  where
    both : (b : Bool) → (b && false) ≡ false
    both true = refl
    both false = refl

-- notes are those of whichever list has their takes
pub same_notes : (state : State) (tracks : List (List Kind)) (takes others : List Take) → length (notes_of state tracks takes) ≡ length tracks → length others ≡ length tracks →
    ((t : ℕ) (note : Note) (other : Take) → slice_get (notes_of state tracks takes) t ≡ Some note → slice_get others t ≡ Some other → note.take ≡ other) →
    notes_of state tracks takes ≡ notes_of state tracks others
same_notes state [] takes others long many each = refl
same_notes state (xs ∷ tracks) [] others long many each = absurd (omega (arith, long))
same_notes state (xs ∷ tracks) (take ∷ takes) [] long many each = absurd (omega (arith, many))
same_notes state (xs ∷ tracks) (take ∷ takes) (other ∷ others) long many each =
    ap (λ k. record { play = play_of state xs; take = k } ∷ notes_of state tracks takes) (each 0 (record { play = play_of state xs; take = take }) other refl refl)
    ∙ ap (λ l. record { play = play_of state xs; take = other } ∷ l)
    (same_notes state tracks takes others (omega (arith, long)) (omega (arith, many)) (λ t note x at_note at_x. each (suc t) note x at_note at_x))

-- two lists that stand for one another, place by place
pub same_maps : {X Y Z : Type 0} (f : X → Z) (g : Y → Z) (xs : List X) (ys : List Y) → length xs ≡ length ys → ((t : ℕ) (x : X) (y : Y) → slice_get xs t ≡ Some x → slice_get ys t ≡ Some y → f x ≡ g y) →
    map f xs ≡ map g ys
same_maps f g [] [] many each = refl
same_maps f g [] (y ∷ ys) many each = absurd (omega (arith, many))
same_maps f g (x ∷ xs) [] many each = absurd (omega (arith, many))
same_maps f g (x ∷ xs) (y ∷ ys) many each = ap (λ z. z ∷ map f xs) (each 0 x y refl refl) ∙ ap (λ l. g y ∷ l) (same_maps f g xs ys (omega (arith, many)) (λ t a b at_a at_b. each (suc t) a b at_a at_b))

-- ---- the end of a cycle

module _ (s : Session) (cycles : ℕ) (c : Core) where
  -- the state after the captures
  abbrev pub captured_core : Core
  captured_core = record c { tracks = captured_from s c 0 c.tracks }

  -- the entry of the cycle
  abbrev pub entry_now : Entry
  entry_now = entry_of s c.edits c.entries (map received_of captured_core.tracks) (map take_made captured_core.tracks) c.playing

  -- the state with the entry
  abbrev pub ended_core : Core
  ended_core = record c { in_cycle = false; tracks = map begun captured_core.tracks; entries = entry_now ∷ c.entries }

  module _ (open_now : c.in_cycle ≡ true) (looked : have_looked s c ≡ true) where
    -- all is there for the end
    can_end : can s cycles captured_core End ≡ true
    can_end = and_from (c.in_cycle && have_looked s captured_core) (each_from (has_its_capture s captured_core) 0 captured_core.tracks)
        (and_from c.in_cycle (have_looked s captured_core) open_now (captured_looked s c 0 c.tracks ∙ looked))
        (all_have_theirs s c captured_core 0 c.tracks (λ n. recorded_same s c captured_core.tracks n (captured_received s c 0 c.tracks)))

    -- so the cycle captures, makes the entry, and acknowledges it to both
    pub ends_so : after s cycles c (ends_cycle s c) ≡ step s cycles (step s cycles ended_core (AckSend ToButler)) (AckSend ToControl)
    ends_so = ap (λ b. after s cycles c (if b then map Capture (filter (is_recorded s c) (track_places c)) ++ End ∷ AckSend ToButler ∷ AckSend ToControl ∷ [] else [])) open_now
        ∙ after_append s cycles c (map Capture (filter (is_recorded s c) (track_places c))) (End ∷ AckSend ToButler ∷ AckSend ToControl ∷ [])
        ∙ ap (λ d. after s cycles d (End ∷ AckSend ToButler ∷ AckSend ToControl ∷ [])) (captures_done s cycles c [] c.tracks open_now looked refl)
        ∙ ap (λ b. after s cycles (if b then ended_core else captured_core) (AckSend ToButler ∷ AckSend ToControl ∷ [])) can_end

-- ---- the acknowledgements

-- the acknowledgement of the newest entry
abbrev pub ack_now : List Edit → Entry → List Entry → Ack
ack_now edits e before = record { cycle = suc (length before); generation = generation edits e.edition; next = rolled (generation edits e.edition) (e ∷ before); settled = e.settled }

module _ (s : Session) (cycles : ℕ) (c : Core) (e : Entry) (before : List Entry) (entries : c.entries ≡ e ∷ before) where
  -- a ring after it
  abbrev pub acked : AckRing → AckRing
  acked ring = acknowledged s.depth (length c.entries) (ack_of c.edits c.entries) ring

  -- both are told
  pub acks_told : c.to_butler.told < length c.entries → c.to_control.told < length c.entries →
      step s cycles (step s cycles c (AckSend ToButler)) (AckSend ToControl) ≡ record c { to_butler = acked c.to_butler; to_control = acked c.to_control }
  acks_told new new_too = ap (λ b. step s cycles (if b then record c { to_butler = acked c.to_butler } else c) (AckSend ToControl)) (lt-ltb c.to_butler.told (length c.entries) new)
      ∙ ap (λ b. if b then record c { to_butler = acked c.to_butler; to_control = acked c.to_control } else record c { to_butler = acked c.to_butler })
      (lt-ltb c.to_control.told (length c.entries) new_too)

  -- whether or not it has room, as many were taken of it, and it was told of all entries
  pub acked_told : (ring : AckRing) → ((acked ring).taken ≡ ring.taken) × ((acked ring).told ≡ length c.entries)
  acked_told ring = by (nat_lt (length ring.sent - ring.taken) s.depth) (ap (λ (es : List Entry). acknowledged s.depth (length c.entries) (ack_of c.edits es) ring) entries)
    where
      by : (b : Bool) → acked ring ≡ (if b then record { sent = ack_now c.edits e before ∷ ring.sent; taken = ring.taken; told = length c.entries } else record ring { told = length c.entries }) →
          ((acked ring).taken ≡ ring.taken) × ((acked ring).told ≡ length c.entries)
      by true is = (ap (λ (x : AckRing). x.taken) is, ap (λ (x : AckRing). x.told) is)
      by false is = (ap (λ (x : AckRing). x.taken) is, ap (λ (x : AckRing). x.told) is)

  -- where a ring has room the acknowledgement is the newest,
  pub acked_put : (ring : AckRing) → length ring.sent - ring.taken < s.depth → acked ring ≡ record { sent = ack_now c.edits e before ∷ ring.sent; taken = ring.taken; told = length c.entries }
  acked_put ring room = ap (λ (es : List Entry). acknowledged s.depth (length c.entries) (ack_of c.edits es) ring) entries
      ∙ ap (λ b. if b then record { sent = ack_now c.edits e before ∷ ring.sent; taken = ring.taken; told = length c.entries } else record ring { told = length c.entries })
      (lt-ltb (length ring.sent - ring.taken) s.depth room)

  -- and where it is full none is
  pub acked_full : (ring : AckRing) → s.depth ≤ length ring.sent - ring.taken → acked ring ≡ record ring { told = length c.entries }
  acked_full ring full = ap (λ (es : List Entry). acknowledged s.depth (length c.entries) (ack_of c.edits es) ring) entries
      ∙ ap (λ b. if b then record { sent = ack_now c.edits e before ∷ ring.sent; taken = ring.taken; told = length c.entries } else record ring { told = length c.entries })
      (le-ltb (length ring.sent - ring.taken) s.depth full)
