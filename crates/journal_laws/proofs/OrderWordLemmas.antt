-- The order is what its sentences say, both ways.
use Rattle.std.proofs.Common.{◌≡◌, inl, inr, ℕ, ◌≤◌, ◌<◌, List, [], ◌∷◌, ◌++◌, length, refl, sym, ap, subst, arith, ◌∙◌, append_assoc}
use Rattle.std.specs.Prelude.{◌≢◌, ◌⊎◌, Bool, true, false, ◌&&◌, ◌||◌, ◌==◌, nat_eq, nat_le, nat_lt, reverse, Option, Some, None, All}
use Rattle.std.specs.List.{list_all}
use Rattle.std.proofs.lemmas.Bool.{and_parts, and_from, cases_lt, eqb-true, eq-eqb, leb-true, le-leb, ltb-true, lt-ltb, or_cases, or_left, or_right, true≢false, ne_eqb}
use Rattle.std.proofs.lemmas.List.Elements.{All-weaker}
use Rattle.session_model.specs.declared.edit.Edit.{Edit}
use Rattle.session_model.specs.declared.session.Session.{Session}
use Rattle.engine_model.specs.Edits.{generation, playlist_edition}
use Rattle.engine_model.specs.Items.{Blank, Kind, Piece, Settled, among, blocks, newest}
use Rattle.engine_model.specs.Mixed.{is_block}
use Rattle.engine_model.specs.Order.{is_ordered, may_follow, precedes_mark, precedes_piece}
use Rattle.engine_laws.proofs.GrowLemmas.{mark_heads, piece_heads}
use Rattle.engine_laws.proofs.OrderLemmas.{all_at, mark_parts, newest_rises, piece_parts}
use Rattle.engine_laws.proofs.SendLemmas.{four, six}
use Rattle.journal_laws.specs.OrderWords.{generation_of, touched_of, edition_of, HasNone, HasLast, IsOrderedAsWorded, OrderedAsWorded}
use Rattle.journal_laws.proofs.OrderListLemmas.{all_both, all_among, each_before, each_lower, follows, from_each, front_ordered}
use Rattle.journal_laws.proofs.OrderListLemmas.{in_it, last_is, last_kept, last_new, last_there, none_is, none_there, ordered_from}

same : {m n : ℕ} → Some m ≡ Some n → m ≡ n
same e = cc

nothing : {n : ℕ} → ◌≡◌ {A = Option ℕ} None (Some n) → ⊥
nothing e = cc

-- ---- from the order to its sentences

-- what an item before a piece says
record OfPiece (session : Session) (edits : List Edit) (t g p : ℕ) (x : Kind) : Type 0 where
  generation : (m : ℕ) → generation_of x ≡ Some m → m ≤ g
  touched : (m : ℕ) → touched_of x ≡ Some m → m ≤ p
  mark : (k : ℕ) → edition_of x ≡ Some k → playlist_edition session edits t k ≤ p

of_piece : (session : Session) (edits : List Edit) (t g p : ℕ) (x : Kind) → precedes_piece session edits t g p x ≡ true → OfPiece session edits t g p x
of_piece session edits t g p (Piece u h r q) is = let parts = and_parts (nat_le h g) (nat_le q p) is in record {
  generation = λ m e. subst (λ n. n ≤ g) (same e) (leb-true h g parts.0);
  touched = λ m e. subst (λ n. n ≤ p) (same e) (leb-true q p parts.1);
  mark = λ k e. absurd (nothing e);
}
of_piece session edits t g p (Settled j h r) is = let parts = and_parts (nat_le h g) (nat_le (playlist_edition session edits t j) p) is in record {
  generation = λ m e. subst (λ n. n ≤ g) (same e) (leb-true h g parts.0);
  touched = λ m e. absurd (nothing e);
  mark = λ k e. subst (λ n. playlist_edition session edits t n ≤ p) (same e) (leb-true (playlist_edition session edits t j) p parts.1);
}
of_piece session edits t g p Blank is = record { generation = λ m e. absurd (nothing e); touched = λ m e. absurd (nothing e); mark = λ k e. absurd (nothing e) }

-- and before a mark
record OfMark (k g : ℕ) (x : Kind) : Type 0 where
  generation : (m : ℕ) → generation_of x ≡ Some m → m ≤ g
  mark : (j : ℕ) → edition_of x ≡ Some j → j < k

of_mark : (k g : ℕ) (x : Kind) → precedes_mark k g x ≡ true → OfMark k g x
of_mark k g (Piece u h r q) is = record { generation = λ m e. subst (λ n. n ≤ g) (same e) (leb-true h g is); mark = λ j e. absurd (nothing e) }
of_mark k g (Settled j h r) is = let parts = and_parts (nat_le h g) (nat_lt j k) is in record {
  generation = λ m e. subst (λ n. n ≤ g) (same e) (leb-true h g parts.0);
  mark = λ i e. subst (λ n. n < k) (same e) (ltb-true j k parts.1);
}
of_mark k g Blank is = record { generation = λ m e. absurd (nothing e); mark = λ j e. absurd (nothing e) }

module _ (session : Session) (edits : List Edit) (t : ℕ) (sent : List Kind) (order : is_ordered session edits t sent ≡ true) where
  at_piece : (before after : List Kind) (u g s p : ℕ) → sent ≡ before ++ Piece u g s p ∷ after → may_follow session edits t (reverse before) (Piece u g s p) ≡ true
  at_piece before after u g s p is = follows session edits t sent before after (Piece u g s p) order is

  at_mark : (before after : List Kind) (k g s : ℕ) → sent ≡ before ++ Settled k g s ∷ after → may_follow session edits t (reverse before) (Settled k g s) ≡ true
  at_mark before after k g s is = follows session edits t sent before after (Settled k g s) order is

  before_piece : (before after : List Kind) (u g s p : ℕ) → sent ≡ before ++ Piece u g s p ∷ after → All (OfPiece session edits t g p) before
  before_piece before after u g s p is = All-weaker (λ x. precedes_piece session edits t g p x ≡ true) (OfPiece session edits t g p) (of_piece session edits t g p) before
      (each_before (precedes_piece session edits t g p) before (piece_parts session edits t u g s p (reverse before) (at_piece before after u g s p is)).0)

  before_mark : (before after : List Kind) (k g s : ℕ) → sent ≡ before ++ Settled k g s ∷ after → All (OfMark k g) before
  before_mark before after k g s is = All-weaker (λ x. precedes_mark k g x ≡ true) (OfMark k g) (of_mark k g) before
      (each_before (precedes_mark k g) before (mark_parts session edits t k g s (reverse before) (at_mark before after k g s is)).0)

  generations : (before after : List Kind) (y : Kind) → sent ≡ before ++ y ∷ after → All (λ x. (m n : ℕ) → generation_of x ≡ Some m → generation_of y ≡ Some n → m ≤ n) before
  generations before after (Piece u g s p) is = All-weaker (OfPiece session edits t g p) (λ x. (m n : ℕ) → generation_of x ≡ Some m → Some g ≡ Some n → m ≤ n)
      (λ x h m n a b. subst (λ k. m ≤ k) (same b) (h.generation m a)) before (before_piece before after u g s p is)
  generations before after (Settled k g s) is = All-weaker (OfMark k g) (λ x. (m n : ℕ) → generation_of x ≡ Some m → Some g ≡ Some n → m ≤ n)
      (λ x h m n a b. subst (λ k. m ≤ k) (same b) (h.generation m a)) before (before_mark before after k g s is)
  generations before after Blank is = λ k d lt m n a b. absurd (nothing b)

  touched : (before after : List Kind) (y : Kind) → sent ≡ before ++ y ∷ after → All (λ x. (m n : ℕ) → touched_of x ≡ Some m → touched_of y ≡ Some n → m ≤ n) before
  touched before after (Piece u g s p) is = All-weaker (OfPiece session edits t g p) (λ x. (m n : ℕ) → touched_of x ≡ Some m → Some p ≡ Some n → m ≤ n)
      (λ x h m n a b. subst (λ k. m ≤ k) (same b) (h.touched m a)) before (before_piece before after u g s p is)
  touched before after (Settled k g s) is = λ k d lt m n a b. absurd (nothing b)
  touched before after Blank is = λ k d lt m n a b. absurd (nothing b)

  marks : (before after : List Kind) (y : Kind) → sent ≡ before ++ y ∷ after → All (λ x. (m n : ℕ) → edition_of x ≡ Some m → edition_of y ≡ Some n → m ≤ n) before
  marks before after (Piece u g s p) is = λ k d lt m n a b. absurd (nothing b)
  marks before after (Settled k g s) is = All-weaker (OfMark k g) (λ x. (m n : ℕ) → edition_of x ≡ Some m → Some k ≡ Some n → m ≤ n)
      (λ x h m n a b. let lt = h.mark m a in omega (arith, same b)) before (before_mark before after k g s is)
  marks before after Blank is = λ k d lt m n a b. absurd (nothing b)

  under : (before after : List Kind) (k g s : ℕ) → sent ≡ before ++ Settled k g s ∷ after → (r p : ℕ) → s ≤ r → HasLast g r p before → playlist_edition session edits t k ≤ p
  under before after k g s is r p le last = let here = last_is g r p before last in let low = playlist_edition session edits t k in
      elim (or_cases (nat_lt r s) (nat_le low (newest g r (reverse before)))
      (all_at (λ q. nat_lt q s || nat_le low (newest g q (reverse before))) (blocks g (reverse before)) r
      (mark_parts session edits t k g s (reverse before) (at_mark before after k g s is)).1 here.0)) [
        | inl less ↦ absurd (omega (arith, ltb-true r s less))
        | inr more ↦ subst (λ n. low ≤ n) here.1 (leb-true low (newest g r (reverse before)) more)
      ]

  rising : (before after : List Kind) (u g s p : ℕ) → sent ≡ before ++ Piece u g s p ∷ after → HasNone g s before → All (λ x. (r : ℕ) → is_block g r x ≡ true → r < s) before
  rising before after u g s p is none = elim (or_cases (among s (blocks g (reverse before))) (list_all (λ r. nat_lt r s) (blocks g (reverse before)))
      (piece_parts session edits t u g s p (reverse before) (at_piece before after u g s p is)).1) [
        | inl here ↦ absurd (true≢false (sym here ∙ none_is g s before none))
        | inr low ↦ each_lower g s before low
      ]

  along : (front rest : List Kind) → sent ≡ front ++ rest → (g r s p q : ℕ) → r ≤ s → HasLast g r p front → HasLast g s q front → p ≤ q
  along front rest is g r s p q le one other = let a = last_is g r p front one in let b = last_is g s q front other in
      subst (λ n. n ≤ q) a.1 (subst (λ n. newest g r (reverse front) ≤ n) b.1 (newest_rises session edits t g r s (reverse front) (front_ordered session edits t sent front rest order is) le a.0 b.0))

  worded : IsOrderedAsWorded session edits t sent
  worded = record {
    generations = generations;
    touched = touched;
    marks = marks;
    pieces = λ before after u g s p is. let heads = piece_heads session edits t u g s p (reverse before) (at_piece before after u g s p is) in
        (eqb-true u t heads.0, eqb-true p (playlist_edition session edits t p) heads.1, leb-true g (generation edits (length edits)) heads.2);
    settled = λ before after k g s is. let heads = mark_heads session edits t k g s (reverse before) (at_mark before after k g s is) in (
      leb-true k (length edits) heads.0,
      eqb-true g (generation edits k) heads.1,
      All-weaker (OfMark k g) (λ x. edition_of x ≢ Some k) (λ x h e. let lt = h.mark k e in absurd (omega arith)) before (before_mark before after k g s is),
    );
    after_marks = λ before after u g s p is. All-weaker (OfPiece session edits t g p) (λ x. (k : ℕ) → edition_of x ≡ Some k → playlist_edition session edits t k ≤ p)
        (λ x h. h.mark) before (before_piece before after u g s p is);
    under_marks = under;
    rising = rising;
    along = along;
  }

-- ---- from its sentences to the order

module _ (session : Session) (edits : List Edit) (t : ℕ) (sent : List Kind) (words : IsOrderedAsWorded session edits t sent) where
  precedes_a_piece : (g p : ℕ) (x : Kind) → ((m n : ℕ) → generation_of x ≡ Some m → Some g ≡ Some n → m ≤ n) → ((m n : ℕ) → touched_of x ≡ Some m → Some p ≡ Some n → m ≤ n) →
      ((k : ℕ) → edition_of x ≡ Some k → playlist_edition session edits t k ≤ p) → precedes_piece session edits t g p x ≡ true
  precedes_a_piece g p (Piece u h r q) gen touch mark = and_from (nat_le h g) (nat_le q p) (le-leb h g (gen h g refl refl)) (le-leb q p (touch q p refl refl))
  precedes_a_piece g p (Settled j h r) gen touch mark = and_from (nat_le h g) (nat_le (playlist_edition session edits t j) p) (le-leb h g (gen h g refl refl))
      (le-leb (playlist_edition session edits t j) p (mark j refl))
  precedes_a_piece g p Blank gen touch mark = refl

  precedes_a_mark : (k g : ℕ) (x : Kind) → ((m n : ℕ) → generation_of x ≡ Some m → Some g ≡ Some n → m ≤ n) → ((m n : ℕ) → edition_of x ≡ Some m → Some k ≡ Some n → m ≤ n) → edition_of x ≢ Some k →
      precedes_mark k g x ≡ true
  precedes_a_mark k g (Piece u h r q) gen mark other = le-leb h g (gen h g refl refl)
  precedes_a_mark k g (Settled j h r) gen mark other = and_from (nat_le h g) (nat_lt j k) (le-leb h g (gen h g refl refl)) (below j (mark j k refl refl) (λ e. other (ap Some e)))
    where
      below : (j : ℕ) → j ≤ k → (j ≡ k → ⊥) → nat_lt j k ≡ true
      below j le ne = elim (cases_lt j k) [ inl lt ↦ lt-ltb j k lt | inr ge ↦ absurd (ne (omega arith)) ]
  precedes_a_mark k g Blank gen mark other = refl

  piece_follows : (before after : List Kind) (u g s p : ℕ) → sent ≡ before ++ Piece u g s p ∷ after → may_follow session edits t (reverse before) (Piece u g s p) ≡ true
  piece_follows before after u g s p is = let named = words.pieces before after u g s p is in let rb = reverse before in
      six (nat_eq u t) (nat_eq p (playlist_edition session edits t p)) (nat_le g (generation edits (length edits)))
      (list_all (precedes_piece session edits t g p) rb) (among s (blocks g rb) || list_all (λ r. nat_lt r s) (blocks g rb)) (list_all (λ r. nat_le r s || nat_le p (newest g r rb)) (blocks g rb))
      (eq-eqb u t named.0) (eq-eqb p (playlist_edition session edits t p) named.1) (le-leb g (generation edits (length edits)) named.2)
      (from_each (precedes_piece session edits t g p) before (all_both
      (λ x. (m n : ℕ) → generation_of x ≡ Some m → Some g ≡ Some n → m ≤ n)
      (λ x. ((m n : ℕ) → touched_of x ≡ Some m → Some p ≡ Some n → m ≤ n) × ((k : ℕ) → edition_of x ≡ Some k → playlist_edition session edits t k ≤ p))
      (λ x. precedes_piece session edits t g p x ≡ true) (λ x a b. precedes_a_piece g p x a b.0 b.1) before (words.generations before after (Piece u g s p) is)
      (all_both (λ x. (m n : ℕ) → touched_of x ≡ Some m → Some p ≡ Some n → m ≤ n) (λ x. (k : ℕ) → edition_of x ≡ Some k → playlist_edition session edits t k ≤ p)
      (λ x. ((m n : ℕ) → touched_of x ≡ Some m → Some p ≡ Some n → m ≤ n) × ((k : ℕ) → edition_of x ≡ Some k → playlist_edition session edits t k ≤ p)) (λ x a b. (a, b)) before
      (words.touched before after (Piece u g s p) is) (words.after_marks before after u g s p is))))
      (first_or_past (among s (blocks g rb)) refl)
      (all_among (λ r. nat_le r s || nat_le p (newest g r rb)) (blocks g rb) (λ r here. later r here (cases_lt s r)))
    where
      first_or_past : (b : Bool) → among s (blocks g (reverse before)) ≡ b → b || list_all (λ r. nat_lt r s) (blocks g (reverse before)) ≡ true
      first_or_past true here = refl
      first_or_past false none = all_among (λ r. nat_lt r s) (blocks g (reverse before)) (λ r there. lt-ltb r s (lower r (last_there g r before there)))
        where
          lower : (r : ℕ) {q : ℕ} → HasLast g r q before → r < s
          lower r {q} last = in_it (λ x. (r : ℕ) → is_block g r x ≡ true → r < s) last.before last.after (Piece last.track g r q)
              (subst (λ l. All (λ x. (r : ℕ) → is_block g r x ≡ true → r < s) l) last.at (words.rising before after u g s p is (none_there g s before none))) r
              (and_from (nat_eq g g) (nat_eq r r) (eq-eqb g g refl) (eq-eqb r r refl))

      later : (r : ℕ) → among r (blocks g (reverse before)) ≡ true → (s < r) ⊎ (r ≤ s) → nat_le r s || nat_le p (newest g r (reverse before)) ≡ true
      later r here (inr le) = or_left (nat_le r s) (nat_le p (newest g r (reverse before))) (le-leb r s le)
      later r here (inl lt) = or_right (nat_le r s) (nat_le p (newest g r (reverse before))) (le-leb p (newest g r (reverse before))
          (words.along (before ++ Piece u g s p ∷ []) after (is ∙ sym (append_assoc before (Piece u g s p ∷ []) after)) g s r p (newest g r (reverse before)) (omega arith) (last_new g s u p before)
          (last_kept g r (newest g r (reverse before)) before (Piece u g s p) (ap (λ b. (g == g) && b) (ne_eqb s r (λ e. absurd (omega arith))) ∙ never (g == g)) (last_there g r before here))))
        where
          never : (b : Bool) → b && false ≡ false
          never true = refl
          never false = refl

  mark_follows : (before after : List Kind) (k g s : ℕ) → sent ≡ before ++ Settled k g s ∷ after → may_follow session edits t (reverse before) (Settled k g s) ≡ true
  mark_follows before after k g s is = let named = words.settled before after k g s is in let rb = reverse before in let low = playlist_edition session edits t k in
      four (nat_le k (length edits)) (nat_eq g (generation edits k)) (list_all (precedes_mark k g) rb) (list_all (λ r. nat_lt r s || nat_le low (newest g r rb)) (blocks g rb))
      (le-leb k (length edits) named.0) (eq-eqb g (generation edits k) named.1)
      (from_each (precedes_mark k g) before (all_both
      (λ x. (m n : ℕ) → generation_of x ≡ Some m → Some g ≡ Some n → m ≤ n) (λ x. ((m n : ℕ) → edition_of x ≡ Some m → Some k ≡ Some n → m ≤ n) × (edition_of x ≢ Some k))
      (λ x. precedes_mark k g x ≡ true) (λ x a b. precedes_a_mark k g x a b.0 b.1) before (words.generations before after (Settled k g s) is)
      (all_both (λ x. (m n : ℕ) → edition_of x ≡ Some m → Some k ≡ Some n → m ≤ n) (λ x. edition_of x ≢ Some k)
      (λ x. ((m n : ℕ) → edition_of x ≡ Some m → Some k ≡ Some n → m ≤ n) × (edition_of x ≢ Some k)) (λ x a b. (a, b)) before
      (words.marks before after (Settled k g s) is) named.2)))
      (all_among (λ r. nat_lt r s || nat_le low (newest g r rb)) (blocks g rb) (λ r here. at r here (cases_lt r s)))
    where
      at : (r : ℕ) → among r (blocks g (reverse before)) ≡ true → (r < s) ⊎ (s ≤ r) → nat_lt r s || nat_le (playlist_edition session edits t k) (newest g r (reverse before)) ≡ true
      at r here (inl lt) = or_left (nat_lt r s) (nat_le (playlist_edition session edits t k) (newest g r (reverse before))) (lt-ltb r s lt)
      at r here (inr le) = or_right (nat_lt r s) (nat_le (playlist_edition session edits t k) (newest g r (reverse before))) (le-leb (playlist_edition session edits t k) (newest g r (reverse before))
          (words.under_marks before after k g s is r (newest g r (reverse before)) le (last_there g r before here)))

  all_follow : (before after : List Kind) (x : Kind) → sent ≡ before ++ x ∷ after → may_follow session edits t (reverse before) x ≡ true
  all_follow before after (Piece u g s p) is = piece_follows before after u g s p is
  all_follow before after (Settled k g s) is = mark_follows before after k g s is
  all_follow before after Blank is = refl

pub ordered_as_worded : OrderedAsWorded
ordered_as_worded session edits t sent = (worded session edits t sent, λ words. ordered_from session edits t sent (all_follow session edits t sent words))
