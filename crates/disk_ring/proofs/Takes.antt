-- The consumer's steps keep the rule of a ring.
use Rattle.std.proofs.Common.{◌≡◌, ◌≢◌, ℕ, ◌+◌, ◌*◌, ◌/◌, ◌%◌, ◌<◌, Bool, true, false, ◌==◌, List, [], ◌∷◌, ◌++◌, length, get_or, set, sym, refl, ap, ◌∙◌, subst, arith, mod-lt, le_refl, length-set, length-append, append-nil, get_or-set_same, get_or-set_other}
use mathlib.Core.List.{IsPrefix, cons≢nil}
use mathlib.Core.Logic.{dite}
use mathlib.Core.Option.{none, some}
use native.Mathlib.Decide.{ℕ_discrete}
use native.Mathlib.Nat.{add-mod_right}
use lib.ListN.{get_elem?}
use base.Growing.{prefix_refl}
use Rattle.atomic_table.specs.Table.{State, Me, step, keeps, takes, gives, Allows}
use Rattle.atomic_table.proofs.Lists.{set_here, set_else}
use Rattle.disk_ring.specs.declared.ring_table.Known.{Known}
use Rattle.disk_ring.specs.Rule.{Flow, Ruled, Law, bit}
use Rattle.disk_ring.specs.Steps.{close_bit, SawTail, GlancedAt, Received, RecalledOut}
use Rattle.disk_ring.proofs.Beginnings.{begins_length, whole, shorter, next_at}
use Rattle.disk_ring.proofs.Seats.{Moves, seated, still_sends}
use Rattle.disk_ring.proofs.Slots.{apart, Goes, looks, unread, sized}

-- the number and the bit of a tail word
number_of : (n : ℕ) (b : Bool) → (2 * n + bit b) / 2 ≡ n
number_of n false = omega arith
number_of n true = omega arith

bit_of : (n : ℕ) (b : Bool) → close_bit (2 * n + bit b) ≡ b
bit_of n false = let e : (2 * n + 0) % 2 ≡ 0 = omega arith in ap (λ z. z == 1) e
bit_of n true = let e : (2 * n + 1) % 2 ≡ 1 = omega arith in ap (λ z. z == 1) e

module _ {S T : Type 0} (value : S → T) (room_of : T → ℕ) where
  abbrev K : Type 0
  K = Known T

  abbrev R : ℕ → ℕ → State S K → Type 0
  R = Ruled value room_of

  abbrev Saw : ℕ → Me S K → ℕ → Me S K → Type 0
  Saw n me = SawTail value room_of (step n 1 0 0 none) me

  sees_nothing : (room n : ℕ) (s : State S K) (r : R room n s) (id : ℕ) (me : Me S K) → get_elem? s.views id ≡ some me.0 → me.0.takes ≡ true → me.0.held ≡ []
      → get_or s.words 1 0 / 2 ≡ length me.0.received → Goes value room_of room s 1 id me (Saw n me) (get_or s.words 1 0)
  sees_nothing room n s r id me at mine empty none_left =
      let f = r.each_seat id me.0 at in let c = f.takes mine in let w = r.flow in let x : ℕ = get_or s.words 1 0 in let xs = me.0.received in
      let number : x / 2 ≡ length w.log = ap (λ z. z / 2) r.tail ∙ number_of (length w.log) w.shut in let shut : close_bit x ≡ w.shut = ap close_bit r.tail ∙ bit_of (length w.log) w.shut in
      let begun : IsPrefix xs w.log = subst (λ (z : List T). IsPrefix z w.log) (ap (λ z. xs ++ z) empty ∙ append-nil xs) c.begins in
      let all : xs ≡ w.log = whole xs w.log begun (sym none_left ∙ number) in
      let v : K = record me.0 { tails = me.0.tails ++ (x / 2) ∷ []; ended = close_bit x; heard = xs; over = close_bit x } in (
        v,
        keeps,
        tt,
        looks value room_of room n s r 1 id v record {
          heard = begun;
          over = λ e. (sym shut ∙ e, all);
          got = f.got;
          sends = f.sends;
          takes = λ _. record { mine = c.mine; room_is = c.room_is; counted = c.counted; held_is = c.held_is; begins = c.begins; all = λ e. (sym shut ∙ e, all) };
        },
        record {
          behind = omega arith;
          small = let most = r.small in omega arith;
          heard = let le = begins_length me.0.heard w.log f.heard in omega arith;
          over = λ e. let o = f.over e in (shut ∙ o.0, number ∙ ap length (sym o.1));
          ended = λ e. let o = c.all e in (shut ∙ o.0, none_left);
          nothing = λ _. (subst (IsPrefix me.0.heard) (sym all) f.heard, refl);
          item = λ other. absurd (other none_left);
        },
      )

  -- the consumer takes a slot
  holding : Flow T → T → Flow T
  holding w x = record w { held = x ∷ [] }

  holds_one : (w : Flow T) (id : ℕ) (x : T) → id ≡ w.consumer → Moves w (holding w x) id
  unfolding holding
  holds_one w id x mine = record { log = prefix_refl w.log; shut = λ e. (e, refl); got = le_refl w.got; producer = refl; consumer = refl; not_producer = λ _. (refl, refl, refl); not_consumer = λ other. absurd (other mine) }

  sees_item : (room n : ℕ) (s : State S K) (r : R room n s) (id : ℕ) (me : Me S K) → get_elem? s.views id ≡ some me.0 → me.0.takes ≡ true → me.0.held ≡ []
      → get_or s.words 1 0 / 2 ≢ length me.0.received → Goes value room_of room s 1 id me (Saw n me) (get_or s.words 1 0)
  unfolding holding
  sees_item room n s r id me at mine empty more =
      let f = r.each_seat id me.0 at in let c = f.takes mine in let w = r.flow in let x : ℕ = get_or s.words 1 0 in let xs = me.0.received in let counted = c.counted in
      let number : x / 2 ≡ length w.log = ap (λ z. z / 2) r.tail ∙ number_of (length w.log) w.shut in let shut : close_bit x ≡ w.shut = ap close_bit r.tail ∙ bit_of (length w.log) w.shut in
      let begun : IsPrefix xs w.log = subst (λ (z : List T). IsPrefix z w.log) (ap (λ z. xs ++ z) empty ∙ append-nil xs) c.begins in
      let behind = r.behind in let within = r.within in let pos = r.some_slot in let told = begins_length me.0.heard w.log f.heard in
      let before : w.got < length w.log = omega arith in
      let item = r.stocked w.got (le_refl w.got) (omega arith) (λ _. sym c.held_is ∙ empty) (λ e. absurd (omega arith)) in let y : T = value item.0 in
      let longer : IsPrefix (xs ++ y ∷ []) w.log = next_at xs w.log w.got y begun counted (item.3 before) in
      let w' = holding w y in let v : K = record me.0 { held = y ∷ [] } in let moves = holds_one w id y c.mine in
      let slot : ℕ = length xs % n in let there : slot ≡ w.got % n = ap (λ z. z % n) counted in (
        v,
        takes slot item.0,
        ap (get_elem? s.homes) there ∙ item.1,
        unread value room_of room n s.words 1 (set s.homes slot none) (set s.views id v) record {
          flow = w';
          some_slot = r.some_slot;
          deep = length-set s.homes slot none ∙ r.deep;
          wide = r.wide;
          head = r.head;
          tail = r.tail;
          behind = omega arith;
          within = r.within;
          small = r.small;
          fillable = r.fillable;
          stocked = λ j a b d e. let other : j ≢ w.got = λ same. cons≢nil (d same) in let old = r.stocked j a b (λ same. absurd (other same)) e in
              (old.0, set_else s.homes slot (j % n) none (λ same. apart w.got j w.got n a b (le_refl w.got) (omega arith) other (same ∙ there)) ∙ old.1, old.2, old.3);
          each_seat = seated room w w' id s.views v moves r.each_seat record {
            heard = f.heard;
            over = f.over;
            got = f.got;
            sends = λ m. still_sends room id w w' id v.room v.sent v.closed v.filling moves (refl, refl, refl) (f.sends m);
            takes = λ _. record { mine = c.mine; room_is = c.room_is; counted = c.counted; held_is = refl; begins = longer; all = c.all };
          };
        },
        record {
          behind = omega arith;
          small = let most = r.small in omega arith;
          heard = omega arith;
          over = λ e. let o = f.over e in (shut ∙ o.0, number ∙ ap length (sym o.1));
          ended = λ e. let o = c.all e in absurd (more (number ∙ ap length (sym o.1)));
          nothing = λ e. absurd (more e);
          item = λ _. (item.0, item.2 ∙ sym c.room_is, λ short. let one = length-append xs (y ∷ []) in shorter (xs ++ y ∷ []) me.0.heard w.log longer f.heard (omega arith), refl);
        },
      )

  pub sees_tail : (room n id : ℕ) (me : Me S K) → me.0.takes ≡ true → me.0.held ≡ [] → Allows (Law value room_of room) n id me 1 (λ x. x) (Saw n me)
  sees_tail room n id me mine empty s law wide at _ = let r = sized value room_of room n s law wide in
      dite (ℕ_discrete (get_or s.words 1 0 / 2) (length me.0.received)) (sees_nothing room n s r id me at mine empty) (sees_item room n s r id me at mine empty)

  glances_nothing : (room n : ℕ) (s : State S K) (r : R room n s) (id : ℕ) (me : Me S K) → get_elem? s.views id ≡ some me.0 → me.0.takes ≡ true → me.0.held ≡ []
      → get_or s.words 1 0 ≡ 2 * length me.0.received → Goes value room_of room s 1 id me (GlancedAt me) (get_or s.words 1 0)
  glances_nothing room n s r id me at mine empty none_left =
      let f = r.each_seat id me.0 at in let c = f.takes mine in let w = r.flow in let x : ℕ = get_or s.words 1 0 in let xs = me.0.received in
      let number : x / 2 ≡ length w.log = ap (λ z. z / 2) r.tail ∙ number_of (length w.log) w.shut in let shut : close_bit x ≡ w.shut = ap close_bit r.tail ∙ bit_of (length w.log) w.shut in
      let begun : IsPrefix xs w.log = subst (λ (z : List T). IsPrefix z w.log) (ap (λ z. xs ++ z) empty ∙ append-nil xs) c.begins in
      let all : xs ≡ w.log = whole xs w.log begun (omega (arith, number, none_left)) in
      let v : K = record me.0 { tails = me.0.tails ++ length xs ∷ []; heard = xs } in (
        v,
        keeps,
        tt,
        looks value room_of room n s r 1 id v record { heard = begun; over = λ e. let o = f.over e in (o.0, all); got = f.got; sends = f.sends; takes = f.takes },
        record {
          small = let most = r.small in omega arith;
          over = λ e. let o = f.over e in (shut ∙ o.0, number ∙ ap length (sym o.1));
          ended = λ e. let o = c.all e in (shut ∙ o.0, number ∙ ap length (sym o.1));
          heard = subst (IsPrefix me.0.heard) (sym all) f.heard;
          begins = prefix_refl xs;
          told = ap length all ∙ sym number;
          empty = λ _. refl;
          more = λ other. absurd (other none_left);
        },
      )

  glances_more : (room n : ℕ) (s : State S K) (r : R room n s) (id : ℕ) (me : Me S K) → get_elem? s.views id ≡ some me.0 → me.0.takes ≡ true → me.0.held ≡ []
      → get_or s.words 1 0 ≢ 2 * length me.0.received → Goes value room_of room s 1 id me (GlancedAt me) (get_or s.words 1 0)
  glances_more room n s r id me at mine empty more =
      let f = r.each_seat id me.0 at in let c = f.takes mine in let w = r.flow in let x : ℕ = get_or s.words 1 0 in let xs = me.0.received in
      let number : x / 2 ≡ length w.log = ap (λ z. z / 2) r.tail ∙ number_of (length w.log) w.shut in let shut : close_bit x ≡ w.shut = ap close_bit r.tail ∙ bit_of (length w.log) w.shut in
      let begun : IsPrefix xs w.log = subst (λ (z : List T). IsPrefix z w.log) (ap (λ z. xs ++ z) empty ∙ append-nil xs) c.begins in
      let v : K = record me.0 { heard = w.log; over = close_bit x } in (
        v,
        keeps,
        tt,
        looks value room_of room n s r 1 id v record { heard = prefix_refl w.log; over = λ e. (sym shut ∙ e, refl); got = f.got; sends = f.sends; takes = f.takes },
        record {
          small = let most = r.small in omega arith;
          over = λ e. let o = f.over e in (shut ∙ o.0, number ∙ ap length (sym o.1));
          ended = λ e. let o = c.all e in (shut ∙ o.0, number ∙ ap length (sym o.1));
          heard = f.heard;
          begins = begun;
          told = sym number;
          empty = λ none_left. absurd (more none_left);
          more = λ _. refl;
        },
      )

  pub glances : (room n id : ℕ) (me : Me S K) → me.0.takes ≡ true → me.0.held ≡ [] → Allows (Law value room_of room) n id me 1 (λ x. x) (GlancedAt me)
  glances room n id me mine empty s law wide at _ = let r = sized value room_of room n s law wide in
      dite (ℕ_discrete (get_or s.words 1 0) (2 * length me.0.received)) (glances_nothing room n s r id me at mine empty) (glances_more room n s r id me at mine empty)

  -- the item in hand is received
  freed : Flow T → Flow T
  freed w = record w { got = w.got + 1; held = [] }

  frees : (w : Flow T) (id : ℕ) → id ≡ w.consumer → Moves w (freed w) id
  unfolding freed
  frees w id mine = record { log = prefix_refl w.log; shut = λ e. (e, refl); got = omega arith; producer = refl; consumer = refl; not_producer = λ _. (refl, refl, refl); not_consumer = λ other. absurd (other mine) }

  received : (room n id : ℕ) (v : K) (x : T) (y : S) (s : State S K) (r : R room n s) → get_elem? s.views id ≡ some v → v.takes ≡ true → v.held ≡ x ∷ [] → room_of (value y) ≡ v.room
      → R room n record {
        words = set s.words 0 (length v.received + 1);
        homes = set s.homes (length v.received % n) (some y);
        views = set s.views id (record v { received = v.received ++ v.held; held = [] });
      }
  unfolding freed
  received room n id v x y s r at mine holds roomy =
      let f = r.each_seat id v at in let c = f.takes mine in let w = r.flow in let xs = v.received in let counted = c.counted in let new : ℕ = length xs + 1 in
      let one : length w.held ≡ 1 = ap length (sym c.held_is ∙ holds) in let behind = r.behind in let within = r.within in let deep = r.deep in let wide = r.wide in
      let moves = frees w id c.mine in let w' = freed w in let slot : ℕ = length xs % n in let near : slot < n = mod-lt (length xs) r.some_slot in
      let there : slot ≡ w.got % n = ap (λ z. z % n) counted in let v' : K = record v { received = xs ++ v.held; held = [] } in
      let held_one : length v.held ≡ 1 = ap length holds in let longer = length-append xs v.held in record {
        flow = w';
        some_slot = r.some_slot;
        deep = length-set s.homes slot (some y) ∙ deep;
        wide = length-set s.words 0 new ∙ wide;
        head = get_or-set_same s.words 0 new 0 (omega arith) ∙ omega arith;
        tail = get_or-set_other s.words 0 1 new 0 (λ e. omega arith) ∙ r.tail;
        behind = omega arith;
        within = omega arith;
        small = r.small;
        fillable = λ e. let ready = r.fillable e in let here = ready.0 in (omega arith, ready.1);
        stocked = λ j a b d e. dite (ℕ_discrete j (w.got + n))
            (λ same. (
              y,
              ap (get_elem? (set s.homes slot (some y))) (ap (λ z. z % n) same ∙ add-mod_right w.got n ∙ sym there) ∙ set_here s.homes slot (some y) (omega arith),
              roomy ∙ c.room_is,
              λ before. absurd (omega arith),
            ))
            (λ last. let other : j ≢ w.got = λ same. omega arith in let old = r.stocked j (omega arith) (omega arith) (λ same. absurd (other same)) e in (
              old.0,
              set_else s.homes slot (j % n) (some y) (λ same. apart w.got j w.got n (omega arith) (omega arith) (le_refl w.got) (omega arith) other (same ∙ there)) ∙ old.1,
              old.2,
              old.3,
            ));
        each_seat = seated room w w' id s.views v' moves r.each_seat record {
          heard = f.heard;
          over = f.over;
          got = let up = f.got in omega arith;
          sends = λ m. still_sends room id w w' id v.room v.sent v.closed v.filling moves (refl, refl, refl) (f.sends m);
          takes = λ _. record {
            mine = c.mine;
            room_is = c.room_is;
            counted = omega arith;
            held_is = refl;
            begins = subst (λ (z : List T). IsPrefix z w.log) (sym (append-nil (xs ++ v.held))) c.begins;
            all = λ e. let o = c.all e in absurd (let whole_log = ap length o.1 in omega arith);
          };
        };
      }

  receives_in_hand : (room n id : ℕ) (v : K) (x : T) (y : S) → v.takes ≡ true → v.held ≡ x ∷ [] → room_of (value y) ≡ v.room
      → Allows (Law value room_of room) n id (v, (length v.received % n, y) ∷ []) 0 (λ _. length v.received + 1) (λ _. Received (v, (length v.received % n, y) ∷ []))
  receives_in_hand room n id v x y mine holds roomy s law wide at _ =
      (record v { received = v.received ++ v.held; held = [] }, gives, tt, (n, received room n id v x y s (sized value room_of room n s law wide) at mine holds roomy), refl)

  pub receives : (room n id : ℕ) (me : Me S K) (slot new : ℕ) (x : T) (y : S) → me.0.takes ≡ true → me.0.held ≡ x ∷ [] → room_of (value y) ≡ me.0.room → slot ≡ length me.0.received % n
      → me.1 ≡ (slot, y) ∷ [] → new ≡ length me.0.received + 1 → Allows (Law value room_of room) n id me 0 (λ _. new) (λ _. Received me)
  receives room n id me slot new x y mine holds roomy slot_is hand new_is =
      subst (λ (z : ℕ × List (ℕ × S)). Allows (Law value room_of room) n id (me.0, z.1) 0 (λ _. z.0) (λ _. Received (me.0, z.1)))
      (λ i. (sym new_is i, sym (hand ∙ ap (λ (k : ℕ). (k, y) ∷ []) slot_is) i)) (receives_in_hand room n id me.0 x y mine holds roomy)

  pub recalls_out : (room n id : ℕ) (me : Me S K) → me.0.takes ≡ true → Allows (Law value room_of room) n id me 1 (λ x. x) (λ _. RecalledOut (step n 1 0 0 none) me)
  recalls_out room n id me mine s law wide at _ =
      let r = sized value room_of room n s law wide in let f = r.each_seat id me.0 at in let c = f.takes mine in let w = r.flow in let counted = c.counted in let up = f.got in
      let told = begins_length me.0.heard w.log f.heard in let within = r.within in
      (me.0, keeps, tt, looks value room_of room n s r 1 id me.0 f, record { within = omega arith; got = omega arith; same = refl })
