-- What stands before an item, as lists that are turned round have it.
use Rattle.std.proofs.Common.{◌≡◌, ℕ, ◌<◌, List, [], ◌∷◌, ◌++◌, refl, sym, ap, subst, ◌∙◌, append_assoc}
use Rattle.std.specs.Prelude.{Bool, true, false, ◌&&◌, ◌||◌, ◌==◌, nat_eq, nat_lt, if◌then◌else◌, reverse, All}
use Rattle.std.specs.List.{list_all}
use Rattle.std.proofs.lemmas.Bool.{and_parts, and_from, eqb-true, ltb-true, eq-eqb, or_left, or_right, true≢false}
use Rattle.std.proofs.lemmas.List.{reverse-append, reverse-reverse}
use Rattle.std.proofs.lemmas.List.Elements.{All-cons, All-head, All-nil, All-push, All-tail}
use Rattle.session_model.specs.declared.edit.Edit.{Edit}
use Rattle.session_model.specs.declared.session.Session.{Session}
use Rattle.engine_model.specs.Items.{Blank, Kind, Piece, Settled, among, blocks, newest}
use Rattle.engine_model.specs.Mixed.{is_block}
use Rattle.engine_model.specs.Order.{is_ordered, is_ordered_newest, may_follow}
use Rattle.engine_laws.proofs.GrowLemmas.{each_follows, earlier}
use Rattle.journal_laws.specs.OrderWords.{HasLast, HasNone}
use Rattle.journal_laws.proofs.JournalLemmas.{All-reverse, turned, turned_round}

-- ---- tests of lists turned round

pub all_from : {X : Type 0} (p : X → Bool) (xs : List X) → list_all p xs ≡ true → All (λ x. p x ≡ true) xs
all_from p [] h = All-nil (λ x. p x ≡ true)
all_from p (x ∷ xs) h = let parts = and_parts (p x) (list_all p xs) h in All-cons (λ y. p y ≡ true) x xs parts.0 (all_from p xs parts.1)

pub all_to : {X : Type 0} (p : X → Bool) (xs : List X) → All (λ x. p x ≡ true) xs → list_all p xs ≡ true
all_to p [] h = refl
all_to p (x ∷ xs) h = and_from (p x) (list_all p xs) (All-head (λ y. p y ≡ true) x xs h) (all_to p xs (All-tail (λ y. p y ≡ true) x xs h))

pub each_before : (p : Kind → Bool) (before : List Kind) → list_all p (reverse before) ≡ true → All (λ x. p x ≡ true) before
each_before p before h = subst (λ l. All (λ x. p x ≡ true) l) (reverse-reverse before) (All-reverse (λ x. p x ≡ true) (reverse before) (all_from p (reverse before) h))

pub from_each : (p : Kind → Bool) (before : List Kind) → All (λ x. p x ≡ true) before → list_all p (reverse before) ≡ true
from_each p before h = all_to p (reverse before) (All-reverse (λ x. p x ≡ true) before h)

pub in_it : {X : Type 0} (P : X → Type 0) (xs ys : List X) (x : X) → All P (xs ++ x ∷ ys) → P x
in_it P [] ys x all = All-head P x ys all
in_it P (y ∷ xs) ys x all = in_it P xs ys x (All-tail P y (xs ++ x ∷ ys) all)

pub all_both : {X : Type 0} (P Q R : X → Type 0) → ((x : X) → P x → Q x → R x) → (xs : List X) → All P xs → All Q xs → All R xs
all_both P Q R f [] ps qs = All-nil R
all_both P Q R f (x ∷ xs) ps qs = All-cons R x xs (f x (All-head P x xs ps) (All-head Q x xs qs)) (all_both P Q R f xs (All-tail P x xs ps) (All-tail Q x xs qs))

-- a test that holds of each number among a list holds of the list
pub all_among : (p : ℕ → Bool) (xs : List ℕ) → ((r : ℕ) → among r xs ≡ true → p r ≡ true) → list_all p xs ≡ true
all_among p [] each = refl
all_among p (x ∷ xs) each = and_from (p x) (list_all p xs) (each x (or_left (nat_eq x x) (among x xs) (eq-eqb x x refl))) (all_among p xs (λ r at. each r (or_right (nat_eq x r) (among r xs) at)))

-- ---- the order, item by item

pub follows : (session : Session) (edits : List Edit) (t : ℕ) (sent before after : List Kind) (x : Kind) → is_ordered session edits t sent ≡ true → sent ≡ before ++ x ∷ after →
    may_follow session edits t (reverse before) x ≡ true
follows session edits t sent before after x order is = each_follows session edits t (reverse after) x (reverse before)
    (subst (λ l. is_ordered_newest session edits t l ≡ true) (ap reverse is ∙ turned_round before after x) order)

pub front_ordered : (session : Session) (edits : List Edit) (t : ℕ) (sent front rest : List Kind) → is_ordered session edits t sent ≡ true → sent ≡ front ++ rest →
    is_ordered_newest session edits t (reverse front) ≡ true
front_ordered session edits t sent front rest order is = earlier session edits t (reverse rest) (reverse front)
    (subst (λ l. is_ordered_newest session edits t l ≡ true) (ap reverse is ∙ reverse-append front rest) order)

ordered_newest : (session : Session) (edits : List Edit) (t : ℕ) (items : List Kind) →
    ((before after : List Kind) (x : Kind) → reverse items ≡ before ++ x ∷ after → may_follow session edits t (reverse before) x ≡ true) →
    is_ordered_newest session edits t items ≡ true
ordered_newest session edits t [] each = refl
ordered_newest session edits t (x ∷ xs) each = and_from (may_follow session edits t xs x) (is_ordered_newest session edits t xs)
    (subst (λ l. may_follow session edits t l x ≡ true) (reverse-reverse xs) (each (reverse xs) [] x (turned x xs)))
    (ordered_newest session edits t xs (λ before after y is. each before (after ++ x ∷ []) y (turned x xs ∙ ap (λ l. l ++ x ∷ []) is ∙ append_assoc before (y ∷ after) (x ∷ []))))

pub ordered_from : (session : Session) (edits : List Edit) (t : ℕ) (sent : List Kind) →
    ((before after : List Kind) (x : Kind) → sent ≡ before ++ x ∷ after → may_follow session edits t (reverse before) x ≡ true) →
    is_ordered session edits t sent ≡ true
ordered_from session edits t sent each = ordered_newest session edits t (reverse sent) (λ before after x is. each before after x (sym (reverse-reverse sent) ∙ is))

-- ---- the last piece of a block

-- a piece of a block stands on top of others
piece_on_top : (g s u p : ℕ) (xs : List Kind) → (among s (blocks g (Piece u g s p ∷ xs)) ≡ true) × (newest g s (Piece u g s p ∷ xs) ≡ p)
piece_on_top g s u p xs = (
  ap (λ b. among s (if b then s ∷ blocks g xs else blocks g xs)) (eq-eqb g g refl) ∙ or_left (nat_eq s s) (among s (blocks g xs)) (eq-eqb s s refl),
  ap (λ b. if b then p else newest g s xs) (and_from (nat_eq g g) (nat_eq s s) (eq-eqb g g refl) (eq-eqb s s refl)),
)

-- another item changes nothing
other_on_top : (g s : ℕ) (x : Kind) (xs : List Kind) → is_block g s x ≡ false → (among s (blocks g (x ∷ xs)) ≡ among s (blocks g xs)) × (newest g s (x ∷ xs) ≡ newest g s xs)
other_on_top g s (Piece u h r p) xs other = (by (h == g) other, ap (λ b. if b then p else newest g s xs) other)
  where
    by : (b : Bool) → b && (r == s) ≡ false → among s (if b then r ∷ blocks g xs else blocks g xs) ≡ among s (blocks g xs)
    by false e = refl
    by true e = ap (λ c. c || among s (blocks g xs)) e
other_on_top g s (Settled k h r) xs other = (refl, refl)
other_on_top g s Blank xs other = (refl, refl)

over_others : (g s u p : ℕ) (xs ys : List Kind) → HasNone g s xs → (among s (blocks g (xs ++ Piece u g s p ∷ ys)) ≡ true) × (newest g s (xs ++ Piece u g s p ∷ ys) ≡ p)
over_others g s u p [] ys none = piece_on_top g s u p ys
over_others g s u p (x ∷ xs) ys none = let rest = over_others g s u p xs ys (All-tail (λ y. is_block g s y ≡ false) x xs none) in
    let top = other_on_top g s x (xs ++ Piece u g s p ∷ ys) (All-head (λ y. is_block g s y ≡ false) x xs none) in (top.0 ∙ rest.0, top.1 ∙ rest.1)

-- the last piece is the newest,
pub last_is : (g s p : ℕ) (items : List Kind) → HasLast g s p items → (among s (blocks g (reverse items)) ≡ true) × (newest g s (reverse items) ≡ p)
last_is g s p items last = let same : reverse items ≡ reverse last.after ++ Piece last.track g s p ∷ reverse last.before = ap reverse last.at
    ∙ turned_round last.before last.after (Piece last.track g s p) in
    let is = over_others g s last.track p (reverse last.after) (reverse last.before) (All-reverse (λ y. is_block g s y ≡ false) last.after last.none_after) in
    (ap (λ l. among s (blocks g l)) same ∙ is.0, ap (newest g s) same ∙ is.1)

-- one more item keeps the last piece of another block
pub last_kept : (g s p : ℕ) (items : List Kind) (x : Kind) → is_block g s x ≡ false → HasLast g s p items → HasLast g s p (items ++ x ∷ [])
last_kept g s p items x other last = record {
  track = last.track;
  before = last.before;
  after = last.after ++ x ∷ [];
  at = ap (λ l. l ++ x ∷ []) last.at ∙ append_assoc last.before (Piece last.track g s p ∷ last.after) (x ∷ []);
  none_after = All-push (λ y. is_block g s y ≡ false) last.after x last.none_after other;
}

pub last_new : (g s u p : ℕ) (items : List Kind) → HasLast g s p (items ++ Piece u g s p ∷ [])
last_new g s u p items = record { track = u; before = items; after = []; at = refl; none_after = All-nil (λ y. is_block g s y ≡ false) }

-- and a block that has a piece has a last one
last_newest : (g s : ℕ) (xs : List Kind) → among s (blocks g xs) ≡ true → HasLast g s (newest g s xs) (reverse xs)
last_newest g s [] here = absurd (true≢false (sym here))
last_newest g s (x ∷ xs) here = by (is_block g s x) refl (last_newest g s xs)
  where
    it_is : (y : Kind) → is_block g s y ≡ true → HasLast g s (newest g s (y ∷ xs)) (reverse xs ++ y ∷ [])
    it_is (Piece u h r p) is = let at = and_parts (nat_eq h g) (nat_eq r s) is in
        subst (λ n. HasLast g s n (reverse xs ++ Piece u h r p ∷ [])) (sym (ap (λ b. if b then p else newest g s xs) is))
        (subst (λ k. HasLast g s p (reverse xs ++ Piece u k r p ∷ [])) (sym (eqb-true h g at.0))
        (subst (λ k. HasLast g s p (reverse xs ++ Piece u g k p ∷ [])) (sym (eqb-true r s at.1)) (last_new g s u p (reverse xs))))
    it_is (Settled k h r) is = absurd (true≢false (sym is))
    it_is Blank is = absurd (true≢false (sym is))

    by : (b : Bool) → is_block g s x ≡ b → (among s (blocks g xs) ≡ true → HasLast g s (newest g s xs) (reverse xs)) → HasLast g s (newest g s (x ∷ xs)) (reverse (x ∷ xs))
    by true is rest = subst (λ l. HasLast g s (newest g s (x ∷ xs)) l) (sym (turned x xs)) (it_is x is)
    by false is rest = let top = other_on_top g s x xs is in subst (λ l. HasLast g s (newest g s (x ∷ xs)) l) (sym (turned x xs))
        (subst (λ n. HasLast g s n (reverse xs ++ x ∷ [])) (sym top.1) (last_kept g s (newest g s xs) (reverse xs) x is (rest (sym top.0 ∙ here))))

pub last_there : (g s : ℕ) (items : List Kind) → among s (blocks g (reverse items)) ≡ true → HasLast g s (newest g s (reverse items)) items
last_there g s items here = subst (λ l. HasLast g s (newest g s (reverse items)) l) (reverse-reverse items) (last_newest g s (reverse items) here)

-- a block of which none is among the pieces has none
none_newest : (g s : ℕ) (xs : List Kind) → among s (blocks g xs) ≡ false → HasNone g s xs
none_newest g s [] none = All-nil (λ y. is_block g s y ≡ false)
none_newest g s (x ∷ xs) none = by (is_block g s x) refl (none_newest g s xs)
  where
    by : (b : Bool) → is_block g s x ≡ b → (among s (blocks g xs) ≡ false → HasNone g s xs) → HasNone g s (x ∷ xs)
    by false is rest = All-cons (λ y. is_block g s y ≡ false) x xs is (rest (sym (other_on_top g s x xs is).0 ∙ none))
    by true is rest = absurd (true≢false (sym (it_is x is) ∙ none))
      where
        it_is : (y : Kind) → is_block g s y ≡ true → among s (blocks g (y ∷ xs)) ≡ true
        it_is (Piece u h r p) is = let at = and_parts (nat_eq h g) (nat_eq r s) is in
            ap (λ b. among s (if b then r ∷ blocks g xs else blocks g xs)) at.0 ∙ or_left (nat_eq r s) (among s (blocks g xs)) at.1
        it_is (Settled k h r) is = absurd (true≢false (sym is))
        it_is Blank is = absurd (true≢false (sym is))

pub none_there : (g s : ℕ) (items : List Kind) → among s (blocks g (reverse items)) ≡ false → HasNone g s items
none_there g s items none = subst (λ l. HasNone g s l) (reverse-reverse items) (All-reverse (λ y. is_block g s y ≡ false) (reverse items) (none_newest g s (reverse items) none))

none_among : (g s : ℕ) (xs : List Kind) → HasNone g s xs → among s (blocks g xs) ≡ false
none_among g s [] none = refl
none_among g s (x ∷ xs) none = (other_on_top g s x xs (All-head (λ y. is_block g s y ≡ false) x xs none)).0 ∙ none_among g s xs (All-tail (λ y. is_block g s y ≡ false) x xs none)

pub none_is : (g s : ℕ) (items : List Kind) → HasNone g s items → among s (blocks g (reverse items)) ≡ false
none_is g s items none = none_among g s (reverse items) (All-reverse (λ y. is_block g s y ≡ false) items none)

-- the blocks of a list lie below a number, and so does each
all_lower : (g s : ℕ) (xs : List Kind) → list_all (λ r. nat_lt r s) (blocks g xs) ≡ true → All (λ x. (r : ℕ) → is_block g r x ≡ true → r < s) xs
all_lower g s [] low = All-nil (λ x. (r : ℕ) → is_block g r x ≡ true → r < s)
all_lower g s (Piece u h q p ∷ xs) low = by (h == g) refl low (all_lower g s xs)
  where
    by : (b : Bool) → (h == g) ≡ b → list_all (λ r. nat_lt r s) (if b then q ∷ blocks g xs else blocks g xs) ≡ true →
        (list_all (λ r. nat_lt r s) (blocks g xs) ≡ true → All (λ x. (r : ℕ) → is_block g r x ≡ true → r < s) xs) → All (λ x. (r : ℕ) → is_block g r x ≡ true → r < s) (Piece u h q p ∷ xs)
    by false is e rest = All-cons (λ x. (r : ℕ) → is_block g r x ≡ true → r < s) (Piece u h q p) xs (λ r at. absurd (true≢false (sym (and_parts (nat_eq h g) (nat_eq q r) at).0 ∙ is))) (rest e)
    by true is e rest = let parts = and_parts (nat_lt q s) (list_all (λ r. nat_lt r s) (blocks g xs)) e in
        All-cons (λ x. (r : ℕ) → is_block g r x ≡ true → r < s) (Piece u h q p) xs
        (λ r at. subst (λ n. n < s) (eqb-true q r (and_parts (nat_eq h g) (nat_eq q r) at).1) (ltb-true q s parts.0)) (rest parts.1)
all_lower g s (Settled k h q ∷ xs) low = All-cons (λ x. (r : ℕ) → is_block g r x ≡ true → r < s) (Settled k h q) xs (λ r at. absurd (true≢false (sym at))) (all_lower g s xs low)
all_lower g s (Blank ∷ xs) low = All-cons (λ x. (r : ℕ) → is_block g r x ≡ true → r < s) Blank xs (λ r at. absurd (true≢false (sym at))) (all_lower g s xs low)

pub each_lower : (g s : ℕ) (items : List Kind) → list_all (λ r. nat_lt r s) (blocks g (reverse items)) ≡ true → All (λ x. (r : ℕ) → is_block g r x ≡ true → r < s) items
each_lower g s items low = subst (λ l. All (λ x. (r : ℕ) → is_block g r x ≡ true → r < s) l) (reverse-reverse items)
    (All-reverse (λ x. (r : ℕ) → is_block g r x ≡ true → r < s) (reverse items) (all_lower g s (reverse items) low))
