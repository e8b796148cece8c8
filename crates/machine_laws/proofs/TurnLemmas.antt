-- A turn that has taken all acknowledgements goes by the newest of them.
use Rattle.std.proofs.Common.{◌≡◌, inl, inr, ℕ, zero, suc, ◌+◌, ◌-◌, ◌<◌, ◌≤◌, List, [], ◌∷◌, length, drop, refl, sym, ap, subst, arith, ◌∙◌, le_trans}
use Rattle.std.specs.Prelude.{Bool, true, false, ◌==◌, nat_le, max, if◌then◌else◌, replicate, map}
use Rattle.std.specs.List.{list_all}
use Rattle.std.proofs.lemmas.Bool.{and_parts, lt-ltb, leb-true, eqb-true, eqb-false, cases_order}
use Rattle.std.proofs.lemmas.Option.{same_Some}
use Rattle.session_model.specs.declared.session.Session.{Session}
use Rattle.session_model.specs.declared.edit.Edit.{Edit}
use Rattle.engine_model.specs.Edits.{generation, starts}
use Rattle.engine_model.specs.Items.{Kind}
use Rattle.engine_model.specs.Journal.{Entry, is_rolling_in, rolled}
use Rattle.engine_model.specs.Due.{Ack, next_block}
use Rattle.engine_model.specs.Made.{AreMade}
use Rattle.engine_laws.proofs.NumberLemmas.{count_rises}
use Rattle.machine_model.specs.Core.{Core, AckRing, acks_taken, received_of}
use Rattle.machine_model.specs.Events.{AckTake, ToButler, done, step, after}
use Rattle.machine_model.specs.Letters.{butler_begins}
use Rattle.machine_laws.specs.Stands.{AreAcksOf}
use Rattle.machine_laws.specs.MachineLaws.{newest_next, TurnsGoByTheNewest}
use Rattle.machine_laws.proofs.Acknowledging.{ack_with}
use Rattle.machine_laws.proofs.MadeFacts.{made_low}

-- ---- all are taken

takes : (session : Session) (cycles n : ℕ) (c : Core) → c.to_butler.taken + n ≡ length c.to_butler.sent →
    after session cycles c (replicate n (AckTake ToButler)) ≡ record c { to_butler = record c.to_butler { taken = length c.to_butler.sent } }
takes session cycles zero c e = ap (λ k. record c { to_butler = record c.to_butler { taken = k } }) (omega (arith, e))
takes session cycles (suc n) c e = ap (λ d. after session cycles d (replicate n (AckTake ToButler))) now
    ∙ takes session cycles n (record c { to_butler = record c.to_butler { taken = suc c.to_butler.taken } }) (omega (arith, e))
  where
    now : step session cycles c (AckTake ToButler) ≡ record c { to_butler = record c.to_butler { taken = suc c.to_butler.taken } }
    now = ap (λ b. if b then done session cycles c (AckTake ToButler) else c) (lt-ltb c.to_butler.taken (length c.to_butler.sent) (omega (arith, e)))

-- a turn begins in the newest edition with all acknowledgements taken
abbrev pub begun_turn : Core → Core
begun_turn c = record c { entered = length c.edits; to_butler = record c.to_butler { taken = length c.to_butler.sent } }

pub turn_begins : (session : Session) (cycles : ℕ) (c : Core) → c.to_butler.taken ≤ length c.to_butler.sent → after session cycles c (butler_begins c) ≡ begun_turn c
turn_begins session cycles c le = takes session cycles (length c.to_butler.sent - c.to_butler.taken) (record c { entered = length c.edits }) (omega (arith, le))

pub all_taken : (ring : AckRing) → acks_taken (record ring { taken = length ring.sent }) ≡ ring.sent
all_taken ring = ap (λ n. drop n ring.sent) (none (length ring.sent))
  where
    none : (n : ℕ) → n - n ≡ 0
    none n = omega arith

-- ---- the newest names the greatest block

pub rolled_rises : (g : ℕ) (e : Entry) (before : List Entry) → rolled g before ≤ rolled g (e ∷ before)
rolled_rises g e before = by (is_rolling_in g e.state)
  where
    by : (b : Bool) → rolled g before ≤ (if b then suc (rolled g before) else rolled g before)
    by true = omega arith
    by false = omega arith

-- no acknowledgement names more blocks than the entries rolled
within_rolled : (edits : List Edit) (g : ℕ) (entries : List Entry) (acks : List Ack) → AreAcksOf edits entries acks → next_block acks g ≤ rolled g entries
within_rolled edits g entries [] h = omega arith
within_rolled edits g [] (a ∷ acks) h = absurd h
within_rolled edits g (e ∷ before) (a ∷ acks) (inl h) =
    subst (λ b. next_block (b ∷ acks) g ≤ rolled g (e ∷ before))
    (same_Some (ack_with edits e before) a h.0)
    (by (generation edits e.edition) (generation edits e.edition == g) refl (le_trans (within_rolled edits g before acks h.1) (rolled_rises g e before)))
  where
    by : (k : ℕ) (b : Bool) → (k == g) ≡ b → next_block acks g ≤ rolled g (e ∷ before) → (if b then max (rolled k (e ∷ before)) (next_block acks g) else next_block acks g) ≤ rolled g (e ∷ before)
    by k true is low = let same : rolled k (e ∷ before) ≡ rolled g (e ∷ before) = ap (λ n. rolled n (e ∷ before)) (eqb-true k g is) in omega (arith, same, low)
    by k false is low = low
within_rolled edits g (e ∷ before) (a ∷ acks) (inr h) = le_trans (within_rolled edits g before (a ∷ acks) h) (rolled_rises g e before)

-- and none is of a generation that no entry's edition has
none_of : (edits : List Edit) (g k : ℕ) (entries : List Entry) (acks : List Ack) → generation edits k < g → list_all (λ e. nat_le e.edition k) entries ≡ true → AreAcksOf edits entries acks →
    next_block acks g ≡ 0
none_of edits g k entries [] lt low h = refl
none_of edits g k [] (a ∷ acks) lt low h = absurd h
none_of edits g k (e ∷ before) (a ∷ acks) lt low (inl h) = let parts = and_parts (nat_le e.edition k) (list_all (λ o. nat_le o.edition k) before) low in
    subst (λ b. next_block (b ∷ acks) g ≡ 0) (same_Some (ack_with edits e before) a h.0)
    (by (generation edits e.edition == g) refl (count_rises starts edits e.edition k (leb-true e.edition k parts.0)) (none_of edits g k before acks lt parts.1 h.1))
  where
    by : (b : Bool) → (generation edits e.edition == g) ≡ b → generation edits e.edition ≤ generation edits k → next_block acks g ≡ 0 →
        (if b then max (rolled (generation edits e.edition) (e ∷ before)) (next_block acks g) else next_block acks g) ≡ 0
    by true is le rest = let same = eqb-true (generation edits e.edition) g is in absurd (omega (arith, same, le, lt))
    by false is le rest = rest
none_of edits g k (e ∷ before) (a ∷ acks) lt low (inr h) = none_of edits g k before (a ∷ acks) lt (and_parts (nat_le e.edition k) (list_all (λ o. nat_le o.edition k) before) low).1 h

newest_is : (session : Session) (edits : List Edit) (r : ℕ) (tracks : List (List Kind)) (entries : List Entry) (acks : List Ack) → r ≤ length edits → AreMade session edits r tracks entries →
    AreAcksOf edits entries acks → next_block acks (generation edits (length edits)) ≡ newest_next acks (generation edits (length edits))
newest_is session edits r tracks entries [] le made h = refl
newest_is session edits r tracks [] (a ∷ acks) le made h = absurd h
newest_is session edits r tracks (e ∷ before) (a ∷ acks) le made (inr h) = newest_is session edits made.entered made.by before (a ∷ acks) (le_trans made.in_time le) made.earlier h
newest_is session edits r tracks (e ∷ before) (a ∷ acks) le made (inl h) =
    subst (λ b. next_block (b ∷ acks) (generation edits (length edits)) ≡ newest_next (b ∷ acks) (generation edits (length edits)))
    (same_Some (ack_with edits e before) a h.0)
    (by (generation edits e.edition == generation edits (length edits)) refl)
  where
    entered : e.edition ≡ made.entered
    entered = ap (λ o. o.edition) made.is

    low : list_all (λ o. nat_le o.edition e.edition) before ≡ true
    low = subst (λ k. list_all (λ o. nat_le o.edition k) before ≡ true) (sym (ap (λ o. o.edition) made.is)) (made_low session edits made.entered made.by before made.earlier)

    in_list : e.edition ≤ length edits
    in_list = subst (λ k. k ≤ length edits) (sym (ap (λ o. o.edition) made.is)) (le_trans made.in_time le)

    by : (b : Bool) → (generation edits e.edition == generation edits (length edits)) ≡ b →
        (if b then max (rolled (generation edits e.edition) (e ∷ before)) (next_block acks (generation edits (length edits))) else next_block acks (generation edits (length edits)))
        ≡ (if b then rolled (generation edits e.edition) (e ∷ before) else 0)
    by true is = let same : rolled (generation edits e.edition) (e ∷ before) ≡ rolled (generation edits (length edits)) (e ∷ before) =
        ap (λ n. rolled n (e ∷ before)) (eqb-true (generation edits e.edition) (generation edits (length edits)) is) in
        let most = within_rolled edits (generation edits (length edits)) before acks h.1 in let more = rolled_rises (generation edits (length edits)) e before in
        greater_first (rolled (generation edits e.edition) (e ∷ before)) (next_block acks (generation edits (length edits))) (rolled (generation edits (length edits)) before)
        (rolled (generation edits (length edits)) (e ∷ before)) same most more
      where
        greater_first : (a b m n : ℕ) → a ≡ n → b ≤ m → m ≤ n → max a b ≡ a
        greater_first a b m n x y z = omega (arith, x, y, z)
    by false is = none_of edits (generation edits (length edits)) e.edition before acks
        (less (generation edits e.edition) (generation edits (length edits)) (count_rises starts edits e.edition (length edits) in_list)
        (eqb-false (generation edits e.edition) (generation edits (length edits)) is)) low h.1
      where
        less : (a b : ℕ) → a ≤ b → (a ≡ b → ⊥) → a < b
        less a b le' ne = elim (cases_order a b) [ inl e' ↦ absurd (ne e') | inr (inl l) ↦ l | inr (inr g) ↦ omega (arith, le', g) ]

pub turns_go_by_the_newest : TurnsGoByTheNewest
turns_go_by_the_newest session cycles c s = subst (λ d. next_block (acks_taken d.to_butler) (generation d.edits d.entered) ≡ newest_next (acks_taken d.to_butler) (generation d.edits d.entered))
    (sym (turn_begins session cycles c s.to_butler.taken))
    (subst (λ l. next_block l (generation c.edits (length c.edits)) ≡ newest_next l (generation c.edits (length c.edits))) (sym (all_taken c.to_butler))
    (newest_is session c.edits c.playing (map received_of c.tracks) c.entries c.to_butler.sent s.playing s.made s.to_butler.of_entries))
