-- Ends that are taken off the front of their lists and joined.
use Rattle.std.proofs.Common.{◌≡◌, ℕ, suc, ◌+◌, List, [], ◌∷◌, ◌++◌, length, refl, sym, ap, subst, arith, ◌∙◌}
use Rattle.std.proofs.lemmas.List.{length_push, append_assoc, append-nil}
use Rattle.std.proofs.lemmas.List.Elements.{All-nil, All-cons, All-append}
use Rattle.disk_ring.specs.Sender.{Sender}
use Rattle.disk_ring.specs.Receiver.{Receiver}
use Rattle.disk_ring.specs.Rings.{Joined, Whole, joined_of}
use Rattle.piece_item.specs.declared.item.Item.{Item}
use Rattle.piece_item.specs.declared.take_block.TakeBlock.{TakeBlock}
use Rattle.run_rings.specs.declared.joining.TrackRings.{TrackRings}
use Rattle.process_ends.specs.Ends.{AreOfOneRing}
use Rattle.run_rings.specs.declared.joining.TrackEnds.{TrackEnds}
use Rattle.run_rings.specs.Rings.{joined_all, AllWhole}

pub empty_of : {X : Type 0} (xs : List X) → length xs ≡ 0 → xs ≡ []
empty_of [] is = refl
empty_of (x ∷ xs) is = absurd (omega (arith, is))

-- ---- two lists of ends

module _ {T : Type 0} (a rest : List (Sender T)) (b others : List (Receiver T)) (x : Sender T) (y : Receiver T) (first : a ≡ x ∷ rest) (second : b ≡ y ∷ others) (one : AreOfOneRing a b) where
  both : AreOfOneRing (x ∷ rest) (y ∷ others)
  both = subst (λ l. AreOfOneRing l (y ∷ others)) first (subst (AreOfOneRing a) second one)

  -- the first ends are of one ring
  pub first_ring : y.ring ≡ x.ring
  first_ring = both.ring 0 x y (omega arith)

  -- and so are the others
  pub other_rings : AreOfOneRing rest others
  other_rings = record { count = omega (arith, both.count); ring = λ t p q within. both.ring (suc t) p q (omega (arith, within)) }

-- ---- the rings of all tracks

-- the rings of so many tracks were joined, and these ends are left
pub record AreJoined (old : TrackEnds) (a : List (Sender Item)) (b : List (Receiver Item)) (c : List (Sender TakeBlock)) (d : List (Receiver TakeBlock)) (rings : List TrackRings) (n : ℕ) : Type 0 where
  pub all : joined_all old.sends.items old.plays.items old.captures.items old.flushes.items ≡ rings ++ joined_all a b c d
  pub items : AreOfOneRing a b
  pub takes : AreOfOneRing c d
  pub tracks : length c ≡ length a
  pub left : n + length a ≡ length old.sends.items
  pub long : length rings ≡ n
  pub whole : AllWhole rings

pub none_joined : (old : TrackEnds) (a : List (Sender Item)) (b : List (Receiver Item)) (c : List (Sender TakeBlock)) (d : List (Receiver TakeBlock)) (rings : List TrackRings) → rings ≡ [] →
    a ≡ old.sends.items → b ≡ old.plays.items → c ≡ old.captures.items → d ≡ old.flushes.items → AreOfOneRing old.sends.items old.plays.items → AreOfOneRing old.captures.items old.flushes.items →
    length old.captures.items ≡ length old.sends.items → AreJoined old a b c d rings 0
none_joined old a b c d rings none sends plays captures flushes items takes tracks =
    subst (λ l. AreJoined old l b c d rings 0) (sym sends) (subst (λ l. AreJoined old old.sends.items l c d rings 0) (sym plays)
    (subst (λ l. AreJoined old old.sends.items old.plays.items l d rings 0) (sym captures) (subst (λ l. AreJoined old old.sends.items old.plays.items old.captures.items l rings 0) (sym flushes)
    (subst (λ l. AreJoined old old.sends.items old.plays.items old.captures.items old.flushes.items l 0) (sym none)
    (record { all = refl; items = items; takes = takes; tracks = tracks; left = omega arith; long = refl; whole = All-nil (λ (r : TrackRings). Whole r.plays × Whole r.takes) })))))

module _ (old : TrackEnds) (a a2 : List (Sender Item)) (b b2 : List (Receiver Item)) (c c2 : List (Sender TakeBlock)) (d d2 : List (Receiver TakeBlock)) (rings : List TrackRings) (n : ℕ)
    (was : AreJoined old a b c d rings n) (x : Sender Item) (y : Receiver Item) (z : Sender TakeBlock) (w : Receiver TakeBlock)
    (sends : a ≡ x ∷ a2) (plays : b ≡ y ∷ b2) (captures : c ≡ z ∷ c2) (flushes : d ≡ w ∷ d2) where
  joined_more : (more : List TrackRings) → more ≡ rings ++ record { plays = joined_of x y; takes = joined_of z w } ∷ [] → Whole (joined_of x y) → Whole (joined_of z w) → AreJoined old a2 b2 c2 d2 more (n + 1)
  joined_more more pushed one two = let r : TrackRings = record { plays = joined_of x y; takes = joined_of z w } in let P : TrackRings → Type 0 = λ k. Whole k.plays × Whole k.takes in
      let rest = joined_all a2 b2 c2 d2 in record {
        all = was.all ∙ ap (λ l. rings ++ joined_all l b c d) sends ∙ ap (λ l. rings ++ joined_all (x ∷ a2) l c d) plays ∙ ap (λ l. rings ++ joined_all (x ∷ a2) (y ∷ b2) l d) captures
            ∙ ap (λ l. rings ++ joined_all (x ∷ a2) (y ∷ b2) (z ∷ c2) l) flushes ∙ sym (append_assoc rings (r ∷ []) rest) ∙ ap (λ l. l ++ rest) (sym pushed);
        items = other_rings a a2 b b2 x y sends plays was.items;
        takes = other_rings c c2 d d2 z w captures flushes was.takes;
        tracks = omega (arith, was.tracks, ap length sends, ap length captures);
        left = omega (arith, was.left, ap length sends);
        long = ap length pushed ∙ length_push rings r ∙ ap (λ k. k + 1) was.long;
        whole = subst AllWhole (sym pushed) (All-append P rings (r ∷ []) was.whole (All-cons P r [] (one, two) (All-nil P)));
      }

  -- as they were joined
  pub one_more_joined : (more : List TrackRings) (p : Joined Item) (q : Joined TakeBlock) → p ≡ joined_of x y → q ≡ joined_of z w → more ≡ rings ++ record { plays = p; takes = q } ∷ [] → Whole p → Whole q →
      AreJoined old a2 b2 c2 d2 more (n + 1)
  one_more_joined more p q first second pushed one two = joined_more more
      (pushed ∙ ap (λ (k : Joined Item). rings ++ record { plays = k; takes = q } ∷ []) first ∙ ap (λ (k : Joined TakeBlock). rings ++ record { plays = joined_of x y; takes = k } ∷ []) second)
      (subst Whole first one) (subst Whole second two)

-- where no ends are left all are joined
pub all_joined : (old : TrackEnds) (a : List (Sender Item)) (b : List (Receiver Item)) (c : List (Sender TakeBlock)) (d : List (Receiver TakeBlock)) (rings : List TrackRings) (n : ℕ) → AreJoined old a b c d rings n →
    length a ≡ 0 → rings ≡ joined_all old.sends.items old.plays.items old.captures.items old.flushes.items
all_joined old a b c d rings n was none = sym (was.all ∙ ap (λ l. rings ++ joined_all l b c d) (empty_of a none) ∙ append-nil rings)
