-- How a ring starts, and how its seats are split and told of one another.
use Rattle.std.proofs.Common.{◌≡◌, ◌≢◌, ℕ, ◌%◌, ◌<◌, ◌≤◌, Bool, true, false, List, [], ◌∷◌, ◌++◌, length, get_or, set, All, sym, refl, ap, ◌∙◌, subst, ⊎_elim, arith, mod-lt, le_refl, zero-le, append-nil, true≢false}
use mathlib.Core.List.{IsPrefix}
use mathlib.Core.Option.{some, some-ne-none}
use lib.ListN.{get_elem?, length-map}
use base.Growing.{prefix_refl}
use Rattle.atomic_table.specs.Table.{State, Splits, Joins, opening}
use Rattle.atomic_table.proofs.Lists.{at_set, at_snoc}
use Rattle.disk_ring.specs.declared.ring_table.Known.{Known}
use Rattle.disk_ring.specs.Rule.{Flow, Fits, Ruled, Law, opening_view}
use Rattle.disk_ring.specs.Steps.{note, hears, hears_list}
use Rattle.disk_ring.proofs.Beginnings.{last_at, item_there}

-- a seat of no end fits where it tells what is so
fits_note : {T : Type 0} (room : ℕ) (w : Flow T) (j : ℕ) (heard : List T) (over : Bool) (got : ℕ) → IsPrefix heard w.log
    → (over ≡ true → (w.shut ≡ true) × (heard ≡ w.log)) → got ≤ w.got → Fits room w j (note heard over got)
fits_note room w j heard over got begins all up = record { heard = begins; over = all; got = up; sends = λ e. absurd (true≢false (sym e)); takes = λ e. absurd (true≢false (sym e)) }

module _ {S T : Type 0} (value : S → T) (room_of : T → ℕ) where
  abbrev K : Type 0
  K = Known T

  -- the same ring with other seats, the consumer's at c
  reseated : (room n : ℕ) (s : State S K) (r : Ruled value room_of room n s) (c : ℕ) (views : List K) → ((j : ℕ) (v : K) → get_elem? views j ≡ some v → Fits room (record r.flow { consumer = c }) j v)
      → Law value room_of room record { words = s.words; homes = s.homes; views = views }
  reseated room n s r c views each = (
    n,
    record {
      flow = record r.flow { consumer = c };
      some_slot = r.some_slot;
      deep = r.deep;
      wide = r.wide;
      head = r.head;
      tail = r.tail;
      behind = r.behind;
      within = r.within;
      small = r.small;
      fillable = r.fillable;
      stocked = r.stocked;
      each_seat = each;
    },
  )

  pub parts : (room id : ℕ) (v : K) → v.sends ≡ true → v.takes ≡ true → Splits (Law value room_of room) id v (record v { takes = false }) (record v { sends = false })
  parts room id v sends takes s law at =
      let r = law.1 in let w = r.flow in let f = r.each_seat id v at in let p = f.sends sends in let c = f.takes takes in
      let left : K = record v { takes = false } in let right : K = record v { sends = false } in let vs = set s.views id left in let w' : Flow T = record w { consumer = length vs } in
      let its_left : Fits room w' id left = record {
        heard = f.heard;
        over = f.over;
        got = f.got;
        takes = λ e. absurd (true≢false (sym e));
        sends = λ _. record { mine = p.mine; room_is = p.room_is; sent_is = p.sent_is; closed_is = p.closed_is; filling_is = p.filling_is };
      } in
      let its_right : Fits room w' (length vs) right = record {
        heard = f.heard;
        over = f.over;
        got = f.got;
        sends = λ e. absurd (true≢false (sym e));
        takes = λ _. record { mine = refl; room_is = c.room_is; counted = c.counted; held_is = c.held_is; begins = c.begins; all = c.all };
      } in
      reseated room law.0 s r (length vs) (vs ++ right ∷ []) (λ j u there. ⊎_elim
      (λ before. ⊎_elim (λ (t : (j ≡ id) × (left ≡ u)). subst (λ (z : ℕ × K). Fits room w' z.0 z.1) (λ i. (sym t.0 i, t.1 i)) its_left)
      (λ (t : (j ≢ id) × (get_elem? s.views j ≡ some u)). let g = r.each_seat j u t.1 in record {
        heard = g.heard;
        over = g.over;
        got = g.got;
        sends = λ e. absurd (t.0 ((g.sends e).mine ∙ sym p.mine));
        takes = λ e. absurd (t.0 ((g.takes e).mine ∙ sym c.mine));
      })
      (at_set s.views id j left u before))
      (λ (t : (j ≡ length vs) × (right ≡ u)). subst (λ (z : ℕ × K). Fits room w' z.0 z.1) (λ i. (sym t.0 i, t.1 i)) its_right)
      (last_at vs right u j there))

  -- a seat tells another what the rule says of all
  noted : (room n id : ℕ) (v told : K) (s : State S K) (r : Ruled value room_of room n s) → get_elem? s.views id ≡ some v → ((j : ℕ) → Fits room r.flow j told)
      → Law value room_of room record { words = s.words; homes = s.homes; views = set s.views id v ++ told ∷ [] }
  noted room n id v told s r at fits = reseated room n s r r.flow.consumer (set s.views id v ++ told ∷ []) (λ j u there. ⊎_elim
      (λ before. ⊎_elim (λ (t : (j ≡ id) × (v ≡ u)). subst (λ (z : ℕ × K). Fits room r.flow z.0 z.1) (λ i. (sym t.0 i, t.1 i)) (r.each_seat id v at))
      (λ (t : (j ≢ id) × (get_elem? s.views j ≡ some u)). r.each_seat j u t.1) (at_set s.views id j v u before))
      (λ (t : told ≡ u). subst (Fits room r.flow j) t (fits j))
      (at_snoc (set s.views id v) told u j there))

  pub notes_in : (room id : ℕ) (v : K) → v.sends ≡ true → Splits (Law value room_of room) id v v (note v.sent v.closed v.got)
  notes_in room id v sends s law at = let r = law.1 in let f = r.each_seat id v at in let p = f.sends sends in noted room law.0 id v (note v.sent v.closed v.got) s r at
      (λ j. fits_note room r.flow j v.sent v.closed v.got (subst (IsPrefix v.sent) p.sent_is (prefix_refl v.sent)) (λ e. (sym p.closed_is ∙ e, p.sent_is)) f.got)

  pub notes_out : (room id : ℕ) (v : K) → v.takes ≡ true → v.held ≡ [] → Splits (Law value room_of room) id v v (note v.received v.ended (length v.received))
  notes_out room id v takes empty s law at = let r = law.1 in let f = r.each_seat id v at in let c = f.takes takes in
      let begun : IsPrefix v.received r.flow.log = subst (λ (z : List T). IsPrefix z r.flow.log) (ap (λ z. v.received ++ z) empty ∙ append-nil v.received) c.begins in
      noted room law.0 id v (note v.received v.ended (length v.received)) s r at
      (λ j. fits_note room r.flow j v.received v.ended (length v.received) begun c.all (subst (λ (z : ℕ). length v.received ≤ z) c.counted (le_refl (length v.received))))

  pub notes_on : (room id : ℕ) (v : K) → Splits (Law value room_of room) id v v (note v.heard v.over v.got)
  notes_on room id v s law at = let r = law.1 in let f = r.each_seat id v at in noted room law.0 id v (note v.heard v.over v.got) s r at
      (λ j. fits_note room r.flow j v.heard v.over v.got f.heard f.over f.got)

  -- a seat takes over what another was told, and the other is spent
  taken_over : (room id : ℕ) (v : K) (other : ℕ) (u both : K) → ((w : Flow T) → Fits room w id v → Fits room w other u → Fits room w id both)
      → Joins (Law value room_of room) id v other u both (note [] false 0)
  taken_over room id v other u both fit s law at apart there = let r = law.1 in let w = r.flow in let vs = set s.views id both in
      let told : Fits room w other u = ⊎_elim (λ (t : (other ≡ id) × (both ≡ u)). absurd (apart t.0)) (λ (t : (other ≢ id) × (get_elem? s.views other ≡ some u)). r.each_seat other u t.1) (at_set s.views id other both u there) in
      let mine : Fits room w id both = fit w (r.each_seat id v at) told in
      reseated room law.0 s r w.consumer (set vs other (note [] false 0)) (λ j x here. ⊎_elim
      (λ (t : (j ≡ other) × (note [] false 0 ≡ x)). subst (Fits room w j) t.1 (fits_note room w j [] false 0 (w.log, refl) (λ e. absurd (true≢false (sym e))) zero-le))
      (λ (t : (j ≢ other) × (get_elem? vs j ≡ some x)). ⊎_elim (λ (q : (j ≡ id) × (both ≡ x)). subst (λ (z : ℕ × K). Fits room w z.0 z.1) (λ i. (sym q.0 i, q.1 i)) mine)
      (λ (q : (j ≢ id) × (get_elem? s.views j ≡ some x)). r.each_seat j x q.1) (at_set s.views id j both x t.1))
      (at_set vs other j (note [] false 0) x here))

  pub joins : (room id : ℕ) (v : K) (other : ℕ) (u : K) → Joins (Law value room_of room) id v other u (hears v u) (note [] false 0)
  joins room id v other u = taken_over room id v other u (hears v u) (λ w f told. record { heard = told.heard; over = told.over; got = told.got; sends = f.sends; takes = f.takes })

  pub joins_list : (room id : ℕ) (v : K) (other : ℕ) (u : K) → Joins (Law value room_of room) id v other u (hears_list v u) (note [] false 0)
  joins_list room id v other u = taken_over room id v other u (hears_list v u) (λ w f told. record { heard = told.heard; over = told.over; got = f.got; sends = f.sends; takes = f.takes })

  pub starts : (room : ℕ) (words : List ℕ) (husks : List S) → words ≡ 0 ∷ 0 ∷ [] → 0 < length husks → All (λ b. room_of (value b) ≡ room) husks → Law value room_of room (opening words husks (opening_view room))
  starts room words husks words_are some_husk roomy =
      let n : ℕ = length husks in let v : K = opening_view room in let w : Flow T = record { log = []; got = 0; shut = false; producer = 0; consumer = 0; filling = false; held = [] } in
      let at_first : Fits room w 0 v = record {
        heard = prefix_refl [];
        over = λ e. absurd (true≢false (sym e));
        got = le_refl 0;
        sends = λ _. record { mine = refl; room_is = refl; sent_is = refl; closed_is = refl; filling_is = refl };
        takes = λ _. record { mine = refl; room_is = refl; counted = refl; held_is = refl; begins = prefix_refl []; all = λ e. absurd (true≢false (sym e)) };
      } in (
        n,
        record {
          flow = w;
          some_slot = some_husk;
          deep = length-map husks some;
          wide = ap length words_are;
          head = ap (λ z. get_or z 0 0) words_are;
          tail = ap (λ z. get_or z 1 0) words_are;
          behind = le_refl 0;
          within = zero-le;
          small = zero-le;
          fillable = λ e. absurd (true≢false (sym e));
          stocked = λ k a b c d. let there = item_there (λ b. room_of (value b) ≡ room) husks (k % n) roomy (mod-lt k some_husk) in (there.0, there.1, there.2, λ before. absurd (omega arith));
          each_seat = λ j x here. ⊎_elim (λ (e : get_elem? [] j ≡ some x). absurd (some-ne-none x (sym e)))
              (λ (t : (j ≡ 0) × (v ≡ x)). subst (λ (z : ℕ × K). Fits room w z.0 z.1) (λ i. (sym t.0 i, t.1 i)) at_first) (last_at [] v x j here);
        },
      )
