-- What stays of each seat when one of them steps.
use Rattle.std.proofs.Common.{◌≡◌, ◌≢◌, ℕ, ◌≤◌, Bool, true, List, ◌++◌, set, sym, refl, ◌∙◌, subst, ⊎_elim, le_refl, le_trans}
use mathlib.Core.List.{IsPrefix}
use mathlib.Core.Option.{some}
use lib.ListN.{get_elem?}
use base.Growing.{prefix_refl, prefix_trans}
use Rattle.atomic_table.proofs.Lists.{at_set}
use Rattle.disk_ring.specs.declared.ring_table.Known.{Known}
use Rattle.disk_ring.specs.Rule.{Flow, Fits, Produces, Consumes}

module _ {T : Type 0} where
  -- from w to w', by a step of the seat me
  pub record Moves (w w' : Flow T) (me : ℕ) : Type 0 where
    pub log : IsPrefix w.log w'.log
    pub shut : w.shut ≡ true → (w'.shut ≡ true) × (w'.log ≡ w.log)
    pub got : w.got ≤ w'.got
    pub producer : w'.producer ≡ w.producer
    pub consumer : w'.consumer ≡ w.consumer
    pub not_producer : me ≢ w.producer → (w'.log ≡ w.log) × (w'.shut ≡ w.shut) × (w'.filling ≡ w.filling)
    pub not_consumer : me ≢ w.consumer → (w'.got ≡ w.got) × (w'.held ≡ w.held)

  -- a step that lets nothing through
  pub still : (w : Flow T) (me : ℕ) → Moves w w me
  still w me = record { log = prefix_refl w.log; shut = λ e. (e, refl); got = le_refl w.got; producer = refl; consumer = refl; not_producer = λ _. (refl, refl, refl); not_consumer = λ _. (refl, refl) }

  -- an end knows its list after a step that leaves it
  pub still_sends : (room seat : ℕ) (w w' : Flow T) (me : ℕ) (told : ℕ) (sent : List T) (closed filling : Bool) → Moves w w' me → (w'.log ≡ w.log) × (w'.shut ≡ w.shut) × (w'.filling ≡ w.filling)
      → Produces room w seat told sent closed filling → Produces room w' seat told sent closed filling
  still_sends room seat w w' me told sent closed filling m s p = record {
    mine = p.mine ∙ sym m.producer;
    room_is = p.room_is;
    sent_is = p.sent_is ∙ sym s.0;
    closed_is = p.closed_is ∙ sym s.1;
    filling_is = p.filling_is ∙ sym s.2;
  }

  pub still_takes : (room seat : ℕ) (w w' : Flow T) (me : ℕ) (told : ℕ) (received held : List T) (ended : Bool) → Moves w w' me → (w'.got ≡ w.got) × (w'.held ≡ w.held)
      → Consumes room w seat told received held ended → Consumes room w' seat told received held ended
  still_takes room seat w w' me told received held ended m s c = record {
    mine = c.mine ∙ sym m.consumer;
    room_is = c.room_is;
    counted = c.counted ∙ sym s.0;
    held_is = c.held_is ∙ sym s.1;
    begins = prefix_trans (received ++ held) w.log w'.log c.begins m.log;
    all = λ e. let o = c.all e in let t = m.shut o.0 in (t.0, o.1 ∙ sym t.1);
  }

  -- what a seat was told stays true
  pub still_told : (w w' : Flow T) (me : ℕ) (heard : List T) (over : Bool) → Moves w w' me → (over ≡ true → (w.shut ≡ true) × (heard ≡ w.log)) → over ≡ true → (w'.shut ≡ true) × (heard ≡ w'.log)
  still_told w w' me heard over m h told = let o = h told in let s = m.shut o.0 in (s.0, o.1 ∙ sym s.1)

  stays : (room : ℕ) (w w' : Flow T) (me j : ℕ) (v : Known T) → Moves w w' me → j ≢ me → Fits room w j v → Fits room w' j v
  stays room w w' me j v m other f = record {
    heard = prefix_trans v.heard w.log w'.log f.heard m.log;
    over = still_told w w' me v.heard v.over m f.over;
    got = le_trans f.got m.got;
    sends = λ mine. let p = f.sends mine in still_sends room j w w' me v.room v.sent v.closed v.filling m (m.not_producer (λ e. other (p.mine ∙ sym e))) p;
    takes = λ mine. let c = f.takes mine in still_takes room j w w' me v.room v.received v.held v.ended m (m.not_consumer (λ e. other (c.mine ∙ sym e))) c;
  }

  -- all seats after the step
  pub seated : (room : ℕ) (w w' : Flow T) (me : ℕ) (vs : List (Known T)) (v' : Known T) → Moves w w' me → ((j : ℕ) (v : Known T) → get_elem? vs j ≡ some v → Fits room w j v)
      → Fits room w' me v' → (j : ℕ) (v : Known T) → get_elem? (set vs me v') j ≡ some v → Fits room w' j v
  seated room w w' me vs v' m each mine j v at = ⊎_elim (λ (t : (j ≡ me) × (v' ≡ v)). subst (λ (x : ℕ × Known T). Fits room w' x.0 x.1) (λ i. (sym t.0 i, t.1 i)) mine)
      (λ (t : (j ≢ me) × (get_elem? vs j ≡ some v)). stays room w w' me j v m t.0 (each j v t.1)) (at_set vs me j v' v at)
