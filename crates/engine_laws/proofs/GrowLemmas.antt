-- The order stands when the list of edits grows, and for what a process received of a list; the list as rings have it, oldest first.
use Rattle.std.proofs.Common.{◌≡◌, ℕ, ◌≤◌, List, [], ◌∷◌, ◌++◌, length, refl, sym, subst, le_trans, arith, ◌∙◌, length-append}
use Rattle.std.specs.Prelude.{Bool, true, ◌&&◌, ◌||◌, nat_lt, nat_le, nat_eq, reverse}
use Rattle.std.specs.List.{list_all}
use Rattle.std.proofs.lemmas.Bool.{and_parts, and_from, leb-true, le-leb, eqb-true, eq-eqb}
use Rattle.std.proofs.lemmas.List.{reverse-append}
use Rattle.session_model.specs.declared.edit.Edit.{Edit}
use Rattle.session_model.specs.declared.session.Session.{Session}
use Rattle.engine_model.specs.Edits.{generation, playlist_edition, starts, touches}
use Rattle.engine_model.specs.Items.{Blank, Kind, Piece, Settled, among, blocks, newest}
use Rattle.engine_model.specs.Order.{is_ordered, is_ordered_newest, may_follow, precedes_mark, precedes_piece}
use Rattle.engine_laws.specs.Kept.{Kept, is_from}
use Rattle.engine_laws.proofs.OrderLemmas.{mark_parts, piece_parts}
use Rattle.engine_laws.proofs.ListLemmas.{all_weaken}
use Rattle.engine_laws.proofs.NumberLemmas.{count_rises, count_stays, last_in, last_stays}
use Rattle.engine_laws.proofs.SendLemmas.{four, six}

-- each item of an ordered list may follow those before it
pub each_follows : (session : Session) (edits : List Edit) (t : ℕ) (ys : List Kind) (x : Kind) (xs : List Kind) → is_ordered_newest session edits t (ys ++ x ∷ xs) ≡ true → may_follow session edits t xs x ≡ true
each_follows session edits t [] x xs o = (and_parts (may_follow session edits t xs x) (is_ordered_newest session edits t xs) o).0
each_follows session edits t (y ∷ ys) x xs o = each_follows session edits t ys x xs (and_parts (may_follow session edits t (ys ++ x ∷ xs) y) (is_ordered_newest session edits t (ys ++ x ∷ xs)) o).1

-- what stood earlier is ordered
pub earlier : (session : Session) (edits : List Edit) (t : ℕ) (ys xs : List Kind) → is_ordered_newest session edits t (ys ++ xs) ≡ true → is_ordered_newest session edits t xs ≡ true
earlier session edits t [] xs o = o
earlier session edits t (y ∷ ys) xs o = earlier session edits t ys xs (and_parts (may_follow session edits t (ys ++ xs) y) (is_ordered_newest session edits t (ys ++ xs)) o).1

-- items that name edits of the list
abbrev pub names : List Edit → Kind → Bool
names edits (Piece u g s p) = nat_le p (length edits)
names edits (Settled k g s) = nat_le k (length edits)
names edits Blank = true

heads6 : (a b c d e f : Bool) → a && b && c && d && e && f ≡ true → (a ≡ true) × (b ≡ true) × (c ≡ true)
heads6 a b c d e f h = let three = and_parts (a && b && c) d (and_parts (a && b && c && d) e (and_parts (a && b && c && d && e) f h).0).0 in
    let two = and_parts (a && b) c three.0 in let one = and_parts a b two.0 in (one.0, one.1, two.1)

heads4 : (a b c d : Bool) → a && b && c && d ≡ true → (a ≡ true) × (b ≡ true)
heads4 a b c d h = and_parts a b (and_parts (a && b) c (and_parts (a && b && c) d h).0).0

pub piece_heads : (session : Session) (edits : List Edit) (t u g s p : ℕ) (xs : List Kind) → may_follow session edits t xs (Piece u g s p) ≡ true →
    (nat_eq u t ≡ true) × (nat_eq p (playlist_edition session edits t p) ≡ true) × (nat_le g (generation edits (length edits)) ≡ true)
piece_heads session edits t u g s p xs h = heads6 (nat_eq u t) (nat_eq p (playlist_edition session edits t p)) (nat_le g (generation edits (length edits)))
    (list_all (precedes_piece session edits t g p) xs) (among s (blocks g xs) || list_all (λ r. nat_lt r s) (blocks g xs)) (list_all (λ r. nat_le r s || nat_le p (newest g r xs)) (blocks g xs)) h

pub mark_heads : (session : Session) (edits : List Edit) (t k g s : ℕ) (xs : List Kind) → may_follow session edits t xs (Settled k g s) ≡ true →
    (nat_le k (length edits) ≡ true) × (nat_eq g (generation edits k) ≡ true)
mark_heads session edits t k g s xs h = heads4 (nat_le k (length edits)) (nat_eq g (generation edits k)) (list_all (precedes_mark k g) xs) (list_all (λ r. nat_lt r s || nat_le (playlist_edition session edits t k) (newest g r xs)) (blocks g xs)) h

names_new : (session : Session) (edits : List Edit) (t : ℕ) (xs : List Kind) (x : Kind) → may_follow session edits t xs x ≡ true → names edits x ≡ true
names_new session edits t xs (Piece u g s p) o = le-leb p (length edits) (subst (λ n. n ≤ length edits) (sym (eqb-true p (playlist_edition session edits t p) (piece_heads session edits t u g s p xs o).1)) (last_in (touches session t) edits p))
names_new session edits t xs (Settled k g s) o = (mark_heads session edits t k g s xs o).0
names_new session edits t xs Blank o = refl

names_all : (session : Session) (edits : List Edit) (t : ℕ) (xs : List Kind) → is_ordered_newest session edits t xs ≡ true → list_all (names edits) xs ≡ true
names_all session edits t [] o = refl
names_all session edits t (x ∷ xs) o = let step = and_parts (may_follow session edits t xs x) (is_ordered_newest session edits t xs) o in
    and_from (names edits x) (list_all (names edits) xs) (names_new session edits t xs x step.0) (names_all session edits t xs step.1)

before_stays : (session : Session) (edits more : List Edit) (t g p : ℕ) (xs : List Kind) → list_all (names edits) xs ≡ true → list_all (precedes_piece session edits t g p) xs ≡ true → list_all (precedes_piece session (edits ++ more) t g p) xs ≡ true
before_stays session edits more t g p [] n e = refl
before_stays session edits more t g p (Piece u i r q ∷ xs) n e = grind (arith, n, e, before_stays session edits more t g p xs)
before_stays session edits more t g p (Settled j i r ∷ xs) n e = grind (arith, n, e, before_stays session edits more t g p xs, last_stays (touches session t) edits more j)
before_stays session edits more t g p (Blank ∷ xs) n e = before_stays session edits more t g p xs n e

follow_stays : (session : Session) (edits more : List Edit) (t : ℕ) (xs : List Kind) (x : Kind) → list_all (names edits) xs ≡ true → may_follow session edits t xs x ≡ true → may_follow session (edits ++ more) t xs x ≡ true
follow_stays session edits more t xs (Piece u g s p) n o = let heads = piece_heads session edits t u g s p xs o in let tails = piece_parts session edits t u g s p xs o in
    let low = leb-true p (length edits) (names_new session edits t xs (Piece u g s p) o) in
    let far : length edits ≤ length (edits ++ more) = grind (arith, length-append edits more) in
    six (nat_eq u t) (nat_eq p (playlist_edition session (edits ++ more) t p)) (nat_le g (generation (edits ++ more) (length (edits ++ more))))
    (list_all (precedes_piece session (edits ++ more) t g p) xs) (among s (blocks g xs) || list_all (λ r. nat_lt r s) (blocks g xs)) (list_all (λ r. nat_le r s || nat_le p (newest g r xs)) (blocks g xs))
    heads.0 (eq-eqb p (playlist_edition session (edits ++ more) t p) (eqb-true p (playlist_edition session edits t p) heads.1 ∙ sym (last_stays (touches session t) edits more p low)))
    (le-leb g (generation (edits ++ more) (length (edits ++ more))) (grind (arith, leb-true g (generation edits (length edits)) heads.2, count_stays starts edits more (length edits) (omega arith), count_rises starts (edits ++ more) (length edits) (length (edits ++ more)) far)))
    (before_stays session edits more t g p xs n tails.0) tails.1 tails.2
follow_stays session edits more t xs (Settled k g s) n o = let heads = mark_heads session edits t k g s xs o in let tails = mark_parts session edits t k g s xs o in
    let low = leb-true k (length edits) heads.0 in
    let far : length edits ≤ length (edits ++ more) = grind (arith, length-append edits more) in
    four (nat_le k (length (edits ++ more))) (nat_eq g (generation (edits ++ more) k)) (list_all (precedes_mark k g) xs) (list_all (λ r. nat_lt r s || nat_le (playlist_edition session (edits ++ more) t k) (newest g r xs)) (blocks g xs))
    (le-leb k (length (edits ++ more)) (le_trans low far)) (eq-eqb g (generation (edits ++ more) k) (eqb-true g (generation edits k) heads.1 ∙ sym (count_stays starts edits more k low)))
    tails.0 (subst (λ n. list_all (λ r. nat_lt r s || nat_le n (newest g r xs)) (blocks g xs) ≡ true) (sym (last_stays (touches session t) edits more k low)) tails.1)
follow_stays session edits more t xs Blank n o = refl

pub ordered_stays : (session : Session) (edits more : List Edit) (t : ℕ) (xs : List Kind) → is_ordered_newest session edits t xs ≡ true → is_ordered_newest session (edits ++ more) t xs ≡ true
ordered_stays session edits more t [] o = refl
ordered_stays session edits more t (x ∷ xs) o = let step = and_parts (may_follow session edits t xs x) (is_ordered_newest session edits t xs) o in
    and_from (may_follow session (edits ++ more) t xs x) (is_ordered_newest session (edits ++ more) t xs) (follow_stays session edits more t xs x (names_all session edits t xs step.1) step.0) (ordered_stays session edits more t xs step.1)

from_stays : (session : Session) (edits more : List Edit) (t k : ℕ) → k ≤ length edits → (x : Kind) → is_from session edits t k x ≡ true → is_from session (edits ++ more) t k x ≡ true
from_stays session edits more t k le (Piece u g s p) h = grind (arith, h, last_stays (touches session t) edits more k le, count_stays starts edits more k le)
from_stays session edits more t k le (Settled j g s) h = grind (arith, h, count_stays starts edits more k le)
from_stays session edits more t k le Blank h = refl

-- publishing an edit keeps all
pub publish_keeps : (session : Session) (edits more : List Edit) (t k : ℕ) (xs : List Kind) → Kept session edits t k xs → Kept session (edits ++ more) t k xs
publish_keeps session edits more t k xs keep = record {
  entered = grind (arith, keep.entered, length-append edits more);
  in_order = ordered_stays session edits more t xs keep.in_order;
  from = all_weaken (is_from session edits t k) (is_from session (edits ++ more) t k) (from_stays session edits more t k keep.entered) xs keep.from;
}

-- the list as a ring has it, oldest first: one more item, and what was received of it
pub ordered_push : (session : Session) (edits : List Edit) (t : ℕ) (sent : List Kind) (x : Kind) → is_ordered session edits t sent ≡ true → may_follow session edits t (reverse sent) x ≡ true → is_ordered session edits t (sent ++ x ∷ []) ≡ true
ordered_push session edits t sent x o m = subst (λ l. is_ordered_newest session edits t l ≡ true) (sym (reverse-append sent (x ∷ []))) (and_from (may_follow session edits t (reverse sent) x) (is_ordered_newest session edits t (reverse sent)) m o)

pub ordered_received : (session : Session) (edits : List Edit) (t : ℕ) (received rest : List Kind) → is_ordered session edits t (received ++ rest) ≡ true → is_ordered session edits t received ≡ true
ordered_received session edits t received rest o = earlier session edits t (reverse rest) (reverse received) (subst (λ l. is_ordered_newest session edits t l ≡ true) (reverse-append received rest) o)
