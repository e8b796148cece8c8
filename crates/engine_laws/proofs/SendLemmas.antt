-- Sending what is due keeps a track's order.
use Rattle.std.proofs.Common.{◌≡◌, ℕ, ◌+◌, ◌≤◌, List, [], ◌∷◌, length, refl, sym, ap, subst, arith}
use Rattle.std.specs.Prelude.{Bool, true, false, ◌&&◌, ◌||◌, not, nat_lt, nat_le, nat_eq, if◌then◌else◌, Option, Some, None}
use Rattle.std.specs.List.{list_all}
use Rattle.std.proofs.lemmas.Bool.{and_parts, and_from, le-leb, leb-true, or_left, or_right, eq-eqb}
use Rattle.session_model.specs.declared.edit.Edit.{Edit}
use Rattle.session_model.specs.declared.session.Session.{Session}
use Rattle.engine_model.specs.Due.{Ack, due, due_by, greatest, is_stale, needs, next_block, past}
use Rattle.engine_model.specs.Edits.{generation, playlist_edition, starts, touches}
use Rattle.engine_model.specs.Items.{Blank, Kind, Piece, Settled, among, blocks, has_mark, newest}
use Rattle.engine_model.specs.Order.{is_ordered_newest, may_follow, precedes_mark, precedes_piece}
use Rattle.engine_laws.specs.Kept.{Kept, is_from}
use Rattle.engine_laws.proofs.ListLemmas.{Found, all_below, all_weaken, found}
use Rattle.engine_laws.proofs.NumberLemmas.{count_rises, last_again, last_rises}

may_precede_piece : (session : Session) (edits : List Edit) (t k : ℕ) (x : Kind) → is_from session edits t k x ≡ true → precedes_piece session edits t (generation edits k) (playlist_edition session edits t k) x ≡ true
may_precede_piece session edits t k (Piece u g s p) h = h
may_precede_piece session edits t k (Settled j g s) h = let parts = and_parts (nat_le g (generation edits k)) (nat_le j k) h in
    and_from (nat_le g (generation edits k)) (nat_le (playlist_edition session edits t j) (playlist_edition session edits t k)) parts.0 (le-leb (playlist_edition session edits t j) (playlist_edition session edits t k) (last_rises (touches session t) edits j k (leb-true j k parts.1)))
may_precede_piece session edits t k Blank h = refl

may_precede_mark : (session : Session) (edits : List Edit) (t k : ℕ) (xs : List Kind) → has_mark k xs ≡ false → list_all (is_from session edits t k) xs ≡ true → list_all (precedes_mark k (generation edits k)) xs ≡ true
may_precede_mark session edits t k [] none h = refl
may_precede_mark session edits t k (Piece u g s p ∷ xs) none h = grind (arith, may_precede_mark session edits t k xs none)
may_precede_mark session edits t k (Settled j g s ∷ xs) none h = grind (arith, may_precede_mark session edits t k xs)
may_precede_mark session edits t k (Blank ∷ xs) none h = may_precede_mark session edits t k xs none h

fresh_or_passed : (r s next n p : ℕ) → next ≤ s → nat_le r s || not (nat_le next r && nat_lt n p) ≡ true → nat_le r s || nat_le p n ≡ true
fresh_or_passed r s next n p le h = grind (arith, h)

fresh_or_before : (r next n p : ℕ) → not (nat_le next r && nat_lt n p) ≡ true → nat_lt r next || nat_le p n ≡ true
fresh_or_before r next n p h = grind (arith, h)

pub six : (a b c d e f : Bool) → a ≡ true → b ≡ true → c ≡ true → d ≡ true → e ≡ true → f ≡ true → a && b && c && d && e && f ≡ true
six a b c d e f ha hb hc hd he hf = grind (arith, ha, hb, hc, hd, he, hf)

pub four : (a b c d : Bool) → a ≡ true → b ≡ true → c ≡ true → d ≡ true → a && b && c && d ≡ true
four a b c d ha hb hc hd = grind (arith, ha, hb, hc, hd)

-- what the invariant's step has to show of a new item
abbrev Follows : Session → List Edit → ℕ → ℕ → List Kind → Kind → Type 0
Follows session edits t k before x = (may_follow session edits t before x ≡ true) × (is_from session edits t k x ≡ true)

piece_follows : (session : Session) (edits : List Edit) (t k s : ℕ) (before : List Kind) → Kept session edits t k before →
    among s (blocks (generation edits k) before) || list_all (λ r. nat_lt r s) (blocks (generation edits k) before) ≡ true →
    list_all (λ r. nat_le r s || nat_le (playlist_edition session edits t k) (newest (generation edits k) r before)) (blocks (generation edits k) before) ≡ true →
    Follows session edits t k before (Piece t (generation edits k) s (playlist_edition session edits t k))
piece_follows session edits t k s before keep e f = let g = generation edits k in let p = playlist_edition session edits t k in (
  six (nat_eq t t) (nat_eq p (playlist_edition session edits t p)) (nat_le g (generation edits (length edits)))
      (list_all (precedes_piece session edits t g p) before)
      (among s (blocks g before) || list_all (λ r. nat_lt r s) (blocks g before))
      (list_all (λ r. nat_le r s || nat_le p (newest g r before)) (blocks g before))
      (eq-eqb t t refl) (eq-eqb p (playlist_edition session edits t p) (sym (last_again (touches session t) edits k)))
      (le-leb g (generation edits (length edits)) (count_rises starts edits k (length edits) keep.entered))
      (all_weaken (is_from session edits t k) (precedes_piece session edits t g p) (may_precede_piece session edits t k) before keep.from)
      e f,
  and_from (nat_le g g) (nat_le p p) (le-leb g g (omega arith)) (le-leb p p (omega arith)),
)

mark_follows : (session : Session) (edits : List Edit) (t k s : ℕ) (before : List Kind) → Kept session edits t k before → has_mark k before ≡ false →
    list_all (λ r. nat_lt r s || nat_le (playlist_edition session edits t k) (newest (generation edits k) r before)) (blocks (generation edits k) before) ≡ true →
    Follows session edits t k before (Settled k (generation edits k) s)
mark_follows session edits t k s before keep none d = let g = generation edits k in (
  four (nat_le k (length edits)) (nat_eq g (generation edits k)) (list_all (precedes_mark k g) before)
      (list_all (λ r. nat_lt r s || nat_le (playlist_edition session edits t k) (newest g r before)) (blocks g before))
      (le-leb k (length edits) keep.entered) (eq-eqb g g refl) (may_precede_mark session edits t k before none keep.from) d,
  and_from (nat_le g g) (nat_le k k) (le-leb g g (omega arith)) (le-leb k k (omega arith)),
)

the : Option Kind → Kind
the None = Blank
the (Some x) = x

pub it_is : (x y : Kind) → Some x ≡ Some y → x ≡ y
unfolding the
it_is x y h = ap the h

pub it_is_if : (c : Bool) (x y : Kind) → (if c then Some x else None) ≡ Some y → x ≡ y
it_is_if true x y h = it_is x y h
it_is_if false x y h = grind (arith, h)

due_by_follows : (session : Session) (edits : List Edit) (t k cycles : ℕ) (acks : List Ack) (before : List Kind) (x : Kind) (o : Option ℕ) (m : Bool) → Kept session edits t k before →
    Found (is_stale (generation edits k) (playlist_edition session edits t k) (next_block acks (generation edits k)) before) (blocks (generation edits k) before) o → has_mark k before ≡ m →
    due_by (needs session edits cycles t k acks) o m (past (next_block acks (generation edits k)) (blocks (generation edits k) before)) ≡ Some x → Follows session edits t k before x
due_by_follows session edits t k cycles acks before x (Some s) m keep f e h = let g = generation edits k in let p = playlist_edition session edits t k in let next = next_block acks g in
    subst (Follows session edits t k before) (it_is (Piece t g s p) x h)
    (piece_follows session edits t k s before keep
    (or_left (among s (blocks g before)) (list_all (λ r. nat_lt r s) (blocks g before)) f.1)
    (all_weaken (λ r. nat_le r s || not (is_stale g p next before r)) (λ r. nat_le r s || nat_le p (newest g r before))
    (λ r q. fresh_or_passed r s next (newest g r before) p (leb-true next s (and_parts (nat_le next s) (nat_lt (newest g s before) p) f.0).0) q)
    (blocks g before) f.2))
due_by_follows session edits t k cycles acks before x None false keep f e h = let g = generation edits k in let p = playlist_edition session edits t k in let next = next_block acks g in
    subst (Follows session edits t k before) (it_is (Settled k g next) x h)
    (mark_follows session edits t k next before keep e
    (all_weaken (λ r. not (is_stale g p next before r)) (λ r. nat_lt r next || nat_le p (newest g r before))
    (λ r q. fresh_or_before r next (newest g r before) p q) (blocks g before) f))
due_by_follows session edits t k cycles acks before x None true keep f e h = let g = generation edits k in let p = playlist_edition session edits t k in let next = next_block acks g in
    let s = past next (blocks g before) in let low = all_below next s (blocks g before) (omega arith) in
    subst (Follows session edits t k before) (it_is_if (nat_lt s (next + session.depth) && nat_lt s cycles) (Piece t g s p) x h)
    (piece_follows session edits t k s before keep
    (or_right (among s (blocks g before)) (list_all (λ r. nat_lt r s) (blocks g before)) low)
    (all_weaken (λ r. nat_lt r s) (λ r. nat_le r s || nat_le p (newest g r before))
    (λ r q. or_left (nat_le r s) (nat_le p (newest g r before)) (grind (arith, q))) (blocks g before) low))

-- sending what is due keeps all
pub send_keeps : (session : Session) (edits : List Edit) (cycles t k : ℕ) (acks : List Ack) (before : List Kind) (x : Kind) →
    Kept session edits t k before → due session edits cycles t k acks before ≡ Some x → Kept session edits t k (x ∷ before)
send_keeps session edits cycles t k acks before x keep h = let g = generation edits k in let p = playlist_edition session edits t k in let next = next_block acks g in
    let new = due_by_follows session edits t k cycles acks before x (greatest (is_stale g p next before) (blocks g before)) (has_mark k before) keep
    (found (is_stale g p next before) (blocks g before)) refl h in
    record { entered = keep.entered; in_order = and_from (may_follow session edits t before x) (is_ordered_newest session edits t before) new.0 keep.in_order; from = and_from (is_from session edits t k x) (list_all (is_from session edits t k) before) new.1 keep.from }

-- entering a later edition keeps all
still_from : (session : Session) (edits : List Edit) (t j k : ℕ) → j ≤ k → (x : Kind) → is_from session edits t j x ≡ true → is_from session edits t k x ≡ true
still_from session edits t j k le (Piece u g s p) h = grind (arith, h, last_rises (touches session t) edits j k le, count_rises starts edits j k le)
still_from session edits t j k le (Settled i g s) h = grind (arith, h, count_rises starts edits j k le)
still_from session edits t j k le Blank h = refl

pub enter_keeps : (session : Session) (edits : List Edit) (t j k : ℕ) (before : List Kind) → j ≤ k → k ≤ length edits → Kept session edits t j before → Kept session edits t k before
enter_keeps session edits t j k before le in_list keep = record { entered = in_list; in_order = keep.in_order; from = all_weaken (is_from session edits t j) (is_from session edits t k) (still_from session edits t j k le) before keep.from }
