-- What of the rule a step has to show again, and the slots that it doesn't touch.
use Rattle.std.proofs.Common.{◌≡◌, ◌≢◌, ℕ, ◌+◌, ◌%◌, ◌<◌, ◌≤◌, List, length, get_or, set, sym, ◌∙◌, subst, arith}
use mathlib.Core.Option.{some}
use mathlib.Core.Option as maybe
use mathlib.Core.Logic.{dite}
use native.Mathlib.Decide.{dec_le}
use lib.Seq.{set-get_or}
use Rattle.atomic_table.specs.Table.{State, Me, Act, Valid, stepped, carried_after}
use Rattle.atomic_table.proofs.Lists.{one_turn}
use Rattle.disk_ring.specs.declared.ring_table.Known.{Known}
use Rattle.disk_ring.specs.Rule.{Fits, Ruled, Law}
use Rattle.disk_ring.proofs.Seats.{seated, still}

-- two items of one turn go through two slots
pub apart : (from k p n : ℕ) → from ≤ k → k < from + n → from ≤ p → p < from + n → k ≢ p → k % n ≢ p % n
apart from k p n a b c d other same = dite (dec_le k p) (λ le. other (one_turn k p n le (omega arith) same)) (λ not. other (sym (one_turn p k n (omega arith) (omega arith) (sym same))))

module _ {S T : Type 0} (value : S → T) (room_of : T → ℕ) where
  -- what Allows asks, once the state and the word are known
  abbrev pub Goes : ℕ → State S (Known T) → ℕ → ℕ → Me S (Known T) → (ℕ → Me S (Known T) → Type 0) → ℕ → Type 0
  Goes room s i id me then x = (w : Known T) × (a : Act S) × Valid s.homes me.1 a × Law value room_of room (stepped s i x id me.1 w a) × then (get_or s.words i 0) (w, carried_after me.1 a)

  -- a load writes what it read
  pub unread : (room n : ℕ) (words : List ℕ) (i : ℕ) (homes : List (maybe.Option S)) (views : List (Known T)) → Ruled value room_of room n record { words = words; homes = homes; views = views }
      → Law value room_of room record { words = set words i (get_or words i 0); homes = homes; views = views }
  unread room n words i homes views r =
      subst (λ (ws : List ℕ). Law value room_of room record { words = ws; homes = homes; views = views }) (sym (set-get_or words i 0)) (n, r)

  -- a load that changes no more than what its seat knows
  pub looks : (room n : ℕ) (s : State S (Known T)) (r : Ruled value room_of room n s) (i id : ℕ) (v : Known T) → Fits room r.flow id v
      → Law value room_of room record { words = set s.words i (get_or s.words i 0); homes = s.homes; views = set s.views id v }
  looks room n s r i id v mine = unread room n s.words i s.homes (set s.views id v) record {
    flow = r.flow;
    some_slot = r.some_slot;
    deep = r.deep;
    wide = r.wide;
    head = r.head;
    tail = r.tail;
    behind = r.behind;
    within = r.within;
    small = r.small;
    fillable = r.fillable;
    stocked = r.stocked;
    each_seat = seated room r.flow r.flow id s.views v (still r.flow id) r.each_seat mine;
  }

  -- the rule at the number of slots that the table has
  pub sized : (room n : ℕ) (s : State S (Known T)) → Law value room_of room s → length s.homes ≡ n → Ruled value room_of room n s
  sized room n s law wide = subst (λ (m : ℕ). Ruled value room_of room m s) (sym law.1.deep ∙ wide) law.1
