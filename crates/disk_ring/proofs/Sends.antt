-- The producer's steps keep the rule of a ring.
use Rattle.std.proofs.Common.{◌≡◌, ℕ, ◌+◌, ◌*◌, ◌%◌, ◌^◌, ◌<◌, ◌≤◌, true, false, List, [], ◌∷◌, ◌++◌, length, get_or, set, sym, refl, ap, ◌∙◌, subst, inl, inr, ⊎_elim, arith, mod-lt, length-set, length-append, get_or-set_same, get_or-set_other, true≢false, le_refl}
use mathlib.Core.List.{IsPrefix, prefix-append}
use mathlib.Core.Logic.{dite}
use mathlib.Core.Option.{none, some}
use native.Mathlib.Decide.{ℕ_discrete}
use lib.ListN.{get_elem?}
use base.Growing.{prefix_refl, prefix_trans}
use Rattle.std.proofs.lemmas.List.{nil_from_length}
use Rattle.atomic_table.specs.Table.{State, Me, step, keeps, takes, gives, Allows}
use Rattle.atomic_table.proofs.Lists.{set_here, set_else, at_last, at_longer}
use Rattle.disk_ring.specs.declared.ring_table.Known.{Known}
use Rattle.disk_ring.specs.Rule.{Flow, Ruled, Law, bit}
use Rattle.disk_ring.specs.Steps.{NoRoom, SawHead, Sent, Shut, RecalledIn}
use Rattle.disk_ring.proofs.Seats.{Moves, seated, still_takes, still_told}
use Rattle.disk_ring.proofs.Slots.{apart, Goes, looks, sized, unread}

no_room : {T : Type 0} (depth : ℕ) (sent : List T) (head : ℕ) → Dec (NoRoom depth sent head)
no_room depth sent head = dite (ℕ_discrete (length sent) (head + depth)) (λ e. yes (inl e))
    (λ a. dite (ℕ_discrete (length sent) (2 ^ 62)) (λ e. yes (inr e)) (λ b. no (λ h. ⊎_elim a b h)))

module _ {S T : Type 0} (value : S → T) (room_of : T → ℕ) where
  abbrev K : Type 0
  K = Known T

  abbrev R : ℕ → ℕ → State S K → Type 0
  R = Ruled value room_of

  abbrev Saw : ℕ → Me S K → ℕ → Me S K → Type 0
  Saw n me = SawHead value room_of (step n 0 0 0 none) me

  -- the producer takes a slot
  fills : (w : Flow T) (id : ℕ) → id ≡ w.producer → Moves w (record w { filling = true }) id
  fills w id mine = record { log = prefix_refl w.log; shut = λ e. (e, refl); got = le_refl w.got; producer = refl; consumer = refl; not_producer = λ other. absurd (other mine); not_consumer = λ _. (refl, refl) }

  sees_full : (room n : ℕ) (s : State S K) (r : R room n s) (id : ℕ) (me : Me S K) → get_elem? s.views id ≡ some me.0 → me.0.sends ≡ true
      → NoRoom n me.0.sent (get_or s.words 0 0) → Goes value room_of room s 0 id me (Saw n me) (get_or s.words 0 0)
  sees_full room n s r id me at sends full =
      let f = r.each_seat id me.0 at in let w = r.flow in let x : ℕ = get_or s.words 0 0 in let is : x ≡ w.got = r.head in
      let long : length me.0.sent ≡ length w.log = ap length (f.sends sends).sent_is in let behind = r.behind in let within = r.within in let up = f.got in
      let v : K = record me.0 { got = x; heads = me.0.heads ++ x ∷ [] } in (
        v,
        keeps,
        tt,
        looks value room_of room n s r 0 id v record { heard = f.heard; over = f.over; got = omega arith; sends = f.sends; takes = f.takes },
        record { behind = omega arith; rises = omega arith; within = omega arith; full = λ _. refl; free = λ not. absurd (not full) },
      )

  sees_free : (room n : ℕ) (s : State S K) (r : R room n s) (id : ℕ) (me : Me S K) → get_elem? s.views id ≡ some me.0 → me.0.sends ≡ true → me.0.filling ≡ false
      → ¬ NoRoom n me.0.sent (get_or s.words 0 0) → Goes value room_of room s 0 id me (Saw n me) (get_or s.words 0 0)
  sees_free room n s r id me at sends resting free =
      let f = r.each_seat id me.0 at in let p = f.sends sends in let w = r.flow in let x : ℕ = get_or s.words 0 0 in let is : x ≡ w.got = r.head in let k : ℕ = length w.log in
      let long : length me.0.sent ≡ k = ap length p.sent_is in let behind = r.behind in let within = r.within in let small = r.small in let up = f.got in
      let not_deep : ¬ (k ≡ w.got + n) = λ e. free (inl (omega arith)) in let not_most : ¬ (k ≡ 2 ^ 62) = λ e. free (inr (long ∙ e)) in
      let item = r.stocked k (omega arith) (omega arith) (λ e. nil_from_length w.held (omega arith)) (λ _. sym p.filling_is ∙ resting) in
      let w' : Flow T = record w { filling = true } in let v : K = record me.0 { got = x; filling = true } in let moves = fills w id p.mine in
      let slot : ℕ = length me.0.sent % n in let there : slot ≡ k % n = ap (λ z. z % n) long in (
        v,
        takes slot item.0,
        ap (get_elem? s.homes) there ∙ item.1,
        unread value room_of room n s.words 0 (set s.homes slot none) (set s.views id v) record {
          flow = w';
          some_slot = r.some_slot;
          deep = length-set s.homes slot none ∙ r.deep;
          wide = r.wide;
          head = r.head;
          tail = r.tail;
          behind = r.behind;
          within = r.within;
          small = r.small;
          fillable = λ _. (omega arith, omega arith);
          stocked = λ j a b c d. let old = r.stocked j a b c (λ e. absurd (true≢false (d e))) in
              (old.0, set_else s.homes slot (j % n) none (λ e. apart w.got j k n a b (omega arith) (omega arith) (λ same. true≢false (d same)) (e ∙ there)) ∙ old.1, old.2, old.3);
          each_seat = seated room w w' id s.views v moves r.each_seat record {
            heard = f.heard;
            over = f.over;
            got = omega arith;
            sends = λ _. record { mine = p.mine; room_is = p.room_is; sent_is = p.sent_is; closed_is = p.closed_is; filling_is = refl };
            takes = λ m. still_takes room id w w' id v.room v.received v.held v.ended moves (refl, refl) (f.takes m);
          };
        },
        record { behind = omega arith; rises = omega arith; within = omega arith; full = λ e. absurd (free e); free = λ _. (item.0, item.2 ∙ sym p.room_is, refl) },
      )

  pub sees_head : (room n id : ℕ) (me : Me S K) → me.0.sends ≡ true → me.0.filling ≡ false → Allows (Law value room_of room) n id me 0 (λ x. x) (Saw n me)
  sees_head room n id me sends resting s law wide at _ = let r = sized value room_of room n s law wide in
      dite (no_room n me.0.sent (get_or s.words 0 0)) (sees_full room n s r id me at sends) (sees_free room n s r id me at sends resting)

  -- the log grows by the item in hand
  grown : Flow T → T → Flow T
  grown w x = record w { log = w.log ++ x ∷ []; filling = false }

  grows : (w : Flow T) (id : ℕ) (x : T) → id ≡ w.producer → w.shut ≡ false → Moves w (grown w x) id
  unfolding grown
  grows w id x mine still_open = record {
    log = prefix-append w.log (x ∷ []);
    shut = λ e. absurd (true≢false (sym e ∙ still_open));
    got = le_refl w.got;
    producer = refl;
    consumer = refl;
    not_producer = λ other. absurd (other mine);
    not_consumer = λ _. (refl, refl);
  }

  appended : (room n id : ℕ) (v : K) (y : S) (s : State S K) (r : R room n s) → get_elem? s.views id ≡ some v → v.sends ≡ true → v.filling ≡ true → v.closed ≡ false → room_of (value y) ≡ v.room
      → R room n record {
        words = set s.words 1 (2 * (length v.sent + 1));
        homes = set s.homes (length v.sent % n) (some y);
        views = set s.views id (record v { sent = v.sent ++ value y ∷ []; filling = false });
      }
  unfolding grown
  appended room n id v y s r at sends filling still_open roomy =
      let f = r.each_seat id v at in let p = f.sends sends in let w = r.flow in let k : ℕ = length w.log in let x : T = value y in
      let long : length v.sent ≡ k = ap length p.sent_is in let behind = r.behind in let ready = r.fillable (sym p.filling_is ∙ filling) in let here = ready.0 in let small = ready.1 in
      let shut : w.shut ≡ false = sym p.closed_is ∙ still_open in let moves = grows w id x p.mine shut in let w' = grown w x in let slot : ℕ = length v.sent % n in
      let there : slot ≡ k % n = ap (λ z. z % n) long in let more : length (w.log ++ x ∷ []) ≡ k + 1 = length-append w.log (x ∷ []) in let bit_is : bit w.shut ≡ 0 = ap bit shut in
      let deep = r.deep in let wide = r.wide in let near : slot < n = mod-lt (length v.sent) r.some_slot in let new : ℕ = 2 * (length v.sent + 1) in
      let v' : K = record v { sent = v.sent ++ x ∷ []; filling = false } in record {
        flow = w';
        some_slot = r.some_slot;
        deep = length-set s.homes slot (some y) ∙ deep;
        wide = length-set s.words 1 new ∙ wide;
        head = get_or-set_other s.words 1 0 new 0 (λ e. omega arith) ∙ r.head;
        tail = get_or-set_same s.words 1 new 0 (omega arith) ∙ omega arith;
        behind = omega arith;
        within = omega arith;
        small = omega arith;
        fillable = λ e. absurd (true≢false (sym e));
        stocked = λ j a b c d. dite (ℕ_discrete j k)
            (λ same. (
              y,
              ap (get_elem? (set s.homes slot (some y))) (ap (λ z. z % n) same ∙ sym there) ∙ set_here s.homes slot (some y) (omega arith),
              roomy ∙ p.room_is,
              λ _. ap (get_elem? (w.log ++ x ∷ [])) same ∙ at_last w.log x k refl,
            ))
            (λ other. let old = r.stocked j a b c (λ e. absurd (other e)) in (
              old.0,
              set_else s.homes slot (j % n) (some y) (λ e. apart w.got j k n a b (omega arith) here other (e ∙ there)) ∙ old.1,
              old.2,
              λ before. at_longer w.log (x ∷ []) j (value old.0) (old.3 (omega arith)),
            ));
        each_seat = seated room w w' id s.views v' moves r.each_seat record {
          heard = prefix_trans v.heard w.log (w.log ++ x ∷ []) f.heard moves.log;
          over = still_told w w' id v.heard v.over moves f.over;
          got = f.got;
          sends = λ _. record { mine = p.mine; room_is = p.room_is; sent_is = ap (λ z. z ++ x ∷ []) p.sent_is; closed_is = p.closed_is; filling_is = refl };
          takes = λ m. still_takes room id w w' id v.room v.received v.held v.ended moves (refl, refl) (f.takes m);
        };
      }

  appends_in_hand : (room n id : ℕ) (v : K) (y : S) → v.sends ≡ true → v.filling ≡ true → v.closed ≡ false → room_of (value y) ≡ v.room
      → Allows (Law value room_of room) n id (v, (length v.sent % n, y) ∷ []) 1 (λ _. 2 * (length v.sent + 1)) (λ _. Sent value (v, (length v.sent % n, y) ∷ []))
  appends_in_hand room n id v y sends filling still_open roomy s law wide at _ =
      (record v { sent = v.sent ++ value y ∷ []; filling = false }, gives, tt, (n, appended room n id v y s (sized value room_of room n s law wide) at sends filling still_open roomy), refl)

  pub appends : (room n id : ℕ) (me : Me S K) (slot new : ℕ) (y : S) → me.0.sends ≡ true → me.0.filling ≡ true → me.0.closed ≡ false → room_of (value y) ≡ me.0.room → slot ≡ length me.0.sent % n
      → me.1 ≡ (slot, y) ∷ [] → new ≡ 2 * (length me.0.sent + 1) → Allows (Law value room_of room) n id me 1 (λ _. new) (λ _. Sent value me)
  appends room n id me slot new y sends filling still_open roomy slot_is hand new_is =
      subst (λ (z : ℕ × List (ℕ × S)). Allows (Law value room_of room) n id (me.0, z.1) 1 (λ _. z.0) (λ _. Sent value (me.0, z.1)))
      (λ i. (sym new_is i, sym (hand ∙ ap (λ (k : ℕ). (k, y) ∷ []) slot_is) i)) (appends_in_hand room n id me.0 y sends filling still_open roomy)

  -- the ring is closed
  closes : (w : Flow T) (id : ℕ) → id ≡ w.producer → Moves w (record w { shut = true }) id
  closes w id mine = record { log = prefix_refl w.log; shut = λ e. (refl, refl); got = le_refl w.got; producer = refl; consumer = refl; not_producer = λ other. absurd (other mine); not_consumer = λ _. (refl, refl) }

  pub shuts : (room n id : ℕ) (me : Me S K) (new : ℕ) → me.0.sends ≡ true → new ≡ 2 * length me.0.sent + 1 → Allows (Law value room_of room) n id me 1 (λ _. new) (λ _. Shut me)
  shuts room n id me new sends new_is s law wide at _ =
      let r = sized value room_of room n s law wide in let f = r.each_seat id me.0 at in let p = f.sends sends in let w = r.flow in let w' : Flow T = record w { shut = true } in let moves = closes w id p.mine in
      let long : length me.0.sent ≡ length w.log = ap length p.sent_is in let words = r.wide in let v : K = record me.0 { closed = true } in (
        v,
        keeps,
        tt,
        (
          n,
          record {
            flow = w';
            some_slot = r.some_slot;
            deep = r.deep;
            wide = length-set s.words 1 new ∙ r.wide;
            head = get_or-set_other s.words 1 0 new 0 (λ e. omega arith) ∙ r.head;
            tail = get_or-set_same s.words 1 new 0 (omega arith) ∙ omega arith;
            behind = r.behind;
            within = r.within;
            small = r.small;
            fillable = r.fillable;
            stocked = r.stocked;
            each_seat = seated room w w' id s.views v moves r.each_seat record {
              heard = f.heard;
              over = still_told w w' id v.heard v.over moves f.over;
              got = f.got;
              sends = λ _. record { mine = p.mine; room_is = p.room_is; sent_is = p.sent_is; closed_is = refl; filling_is = p.filling_is };
              takes = λ m. still_takes room id w w' id v.room v.received v.held v.ended moves (refl, refl) (f.takes m);
            };
          },
        ),
        refl,
      )

  pub recalls_in : (room n id : ℕ) (me : Me S K) → me.0.sends ≡ true → Allows (Law value room_of room) n id me 0 (λ x. x) (λ _. RecalledIn me)
  recalls_in room n id me sends s law wide at _ =
      let r = sized value room_of room n s law wide in let f = r.each_seat id me.0 at in let p = f.sends sends in (
        me.0,
        keeps,
        tt,
        looks value room_of room n s r 0 id me.0 f,
        record {
          heard = subst (IsPrefix me.0.heard) (sym p.sent_is) f.heard;
          over = λ told. let o = f.over told in (p.closed_is ∙ o.0, o.1 ∙ sym p.sent_is);
          small = subst (λ (l : List T). length l ≤ 2 ^ 62) (sym p.sent_is) r.small;
          same = refl;
        },
      )
