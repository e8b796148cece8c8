-- What serving a track does, step by step.
use Rattle.std.proofs.Common.{◌≡◌, ℕ, ◌+◌, ◌≤◌, List, [], ◌∷◌, ◌++◌, length, refl, sym, ap, ◌∙◌, subst, arith, le_refl, le_trans, append-nil, append_assoc, length-append, true≢false, inl, inr}
use Rattle.std.specs.Prelude.{◌⊎◌, All, Some, Bool, true, false, Ok}
use Rattle.std.proofs.lemmas.List.{map-append}
use Rattle.std.proofs.lemmas.List.Elements.{All-append, All-push, All-weaker}
use Rattle.sound_model.specs.Regions.{Sounds}
use Rattle.engine_model.specs.Items as engine
use Rattle.engine_model.specs.Due.{Needs}
use Rattle.edition_log.specs.EditionState.{EditionState as Edition}
use Rattle.disk_ring.specs.Sender.{Sender, Puts, Refuses}
use Rattle.piece_item.specs.declared.item.Item.{Item}
use Rattle.piece_item.specs.Views.{kind_of}
use Rattle.read_ahead.specs.declared.progress.SendProgress.{SendProgress}
use Rattle.read_ahead.specs.declared.supply.TrackSupply.{TrackSupply}
use Rattle.read_ahead.specs.SendProgress.{now_due, advanced, AreDueInOrder}
use Rattle.read_ahead.specs.Items.{kinds, IsBlockOf, IsMadeBy, HasMade}
use Rattle.read_ahead.specs.Serves.{Serves, IsKept, HasSent}

-- one run after another
run_more : (n : Needs) (a b c : SendProgress) (xs ys : List engine.Kind) → AreDueInOrder n a xs b → AreDueInOrder n b ys c → AreDueInOrder n a (xs ++ ys) c
run_more n a b c [] ys first next = subst (λ (z : SendProgress). AreDueInOrder n z ys c) first next
run_more n a b c (x ∷ xs) ys first next = (first.0, run_more n (advanced n.next a x) b c xs ys first.1 next)

kinds_more : (xs ys : List Item) → kinds (xs ++ ys) ≡ kinds xs ++ kinds ys
kinds_more xs ys = map-append (λ (item : Item). kind_of item.kind) xs ys

none_all : {X : Type 0} (P : X → Type 0) → All P []
none_all P k d near = absurd (omega arith)

one_all : {X : Type 0} (P : X → Type 0) (x : X) → P x → All P (x ∷ [])
one_all P x p = All-push P [] x (none_all P) p

pub not_made : (q : TrackSupply) (item : Item) {X : Type 0} → q.made ≡ false → HasMade q item → X
not_made q item none has = absurd (true≢false (sym has.made ∙ none))

module _ (told : Type 0) (sounds : Sounds) (e : Edition) (n : Needs) where
  abbrev S : TrackSupply → Sender Item → TrackSupply → Sender Item → Type 0
  S = Serves told sounds e n

  abbrev pub B : Item → Type 0
  B item = IsBlockOf sounds e (kind_of item.kind) item.samples.items

  -- what is in the box now was in it before, or was made now and is due
  abbrev pub MadeNow : TrackSupply → TrackSupply → Type 0
  MadeNow p q = (item : Item) → HasMade q item → HasMade p item ⊎ ((now_due n q.progress ≡ Some (kind_of item.kind)) × (told → B item))

  -- nothing was sent, and the ring wasn't touched
  pub serves_none : (p q : TrackSupply) (d : Sender Item) → q.progress ≡ p.progress → MadeNow p q → (IsKept n p → q ≡ p) → S p d q d
  serves_none p q d same made keeps = record {
    items = [];
    full = [];
    ring = λ i. record d { sent = sym (append-nil d.sent) i; heads = sym (append-nil d.heads) i; got = d.got };
    run = same;
    blocks = λ t. none_all (IsMadeBy sounds e p);
    made = made;
    once = omega arith;
    got = le_refl d.got;
    keeps = λ none. keeps;
  }

  pub serves_nothing : (p : TrackSupply) (d : Sender Item) → S p d p d
  serves_nothing p d = serves_none p p d refl (λ item has. inl has) (λ kept. refl)

  pub serves_one : (room_of : Item → ℕ) (p : TrackSupply) (d : Sender Item) (q : TrackSupply) (f : Sender Item) (item husk : Item) → Puts room_of d item husk f →
      now_due n p.progress ≡ Some (kind_of item.kind) → q.progress ≡ advanced n.next p.progress (kind_of item.kind) → q.made ≡ false → (told → IsMadeBy sounds e p item) → S p d q f
  serves_one room_of p d q f item husk puts is_due then none block = record {
    items = item ∷ [];
    full = [];
    ring = puts.sent ∙ (λ i. record d { sent = d.sent ++ item ∷ []; heads = sym (append-nil d.heads) i; got = f.got });
    run = (is_due, then);
    blocks = λ t. one_all (IsMadeBy sounds e p) item (block t);
    made = λ it has. not_made q it none has;
    once = omega arith;
    got = puts.head.rises;
    keeps = λ none. let more = ap (λ (z : Sender Item). length z.sent) puts.sent ∙ length-append d.sent (item ∷ []) in absurd (omega (arith, none, more));
  }

  pub serves_full : (p : TrackSupply) (d : Sender Item) (q : TrackSupply) (head : ℕ) (f : Sender Item) → Refuses d head f → q.progress ≡ p.progress → MadeNow p q → (IsKept n p → q ≡ p) → S p d q f
  serves_full p d q head f refuses same made keeps = record {
    items = [];
    full = head ∷ [];
    ring = refuses.heads ∙ (λ i. record d { sent = sym (append-nil d.sent) i; heads = d.heads ++ head ∷ []; got = sym (ap (λ z. z.got) refuses.heads) i });
    run = same;
    blocks = λ t. none_all (IsMadeBy sounds e p);
    made = made;
    once = omega arith;
    got = subst (λ g. d.got ≤ g) (sym (ap (λ z. z.got) refuses.heads)) refuses.head_is.rises;
    keeps = λ none. keeps;
  }

  -- what was made by then was made before, or has its block
  made_since : (p q : TrackSupply) → told → MadeNow p q → (item : Item) → IsMadeBy sounds e q item → IsMadeBy sounds e p item
  made_since p q t made item (inl block) = inl block
  made_since p q t made item (inr has) = elim (made item has) [ inl was ↦ inr was | inr now ↦ inl (now.1 t) ]

  -- nothing was sent before, or the box that came back is empty
  made_later : (p q r : TrackSupply) → (q ≡ p) ⊎ (q.made ≡ false) → MadeNow q r → MadeNow p r
  made_later p q r before next item has = elim (next item has) [
    | inl was ↦ elim before [
      | inl same ↦ inl (subst (λ (z : TrackSupply). HasMade z item) same was)
      | inr none ↦ not_made q item none was
    ]
    | inr now ↦ inr now
  ]

  pub serves_more : (p : TrackSupply) (d : Sender Item) (q : TrackSupply) (f : Sender Item) (r : TrackSupply) (g : Sender Item) → (q ≡ p) ⊎ (q.made ≡ false) →
      S p d q f → f.heads ≡ d.heads → S q f r g → S p d r g
  serves_more p d q f r g before first same next = record {
    items = first.items ++ next.items;
    full = next.full;
    ring = next.ring ∙ (λ i. record {
      ring = (first.ring i).ring;
      depth = (first.ring i).depth;
      room = (first.ring i).room;
      sent = (ap (λ z. z.sent ++ next.items) first.ring ∙ append_assoc d.sent first.items next.items) i;
      closed = (first.ring i).closed;
      heads = same i ++ next.full;
      got = g.got;
    });
    run = subst (λ xs. AreDueInOrder n p.progress xs r.progress) (sym (kinds_more first.items next.items))
        (run_more n p.progress q.progress r.progress (kinds first.items) (kinds next.items) first.run next.run);
    blocks = λ t. All-append (IsMadeBy sounds e p) first.items next.items (first.blocks t)
        (All-weaker (IsMadeBy sounds e q) (IsMadeBy sounds e p) (made_since p q t first.made) next.items (next.blocks t));
    made = made_later p q r before next.made;
    once = next.once;
    got = le_trans first.got next.got;
    keeps = λ none kept. let here = ap (λ (z : Sender Item). length z.sent) first.ring ∙ length-append d.sent first.items in
        let then = ap (λ (z : Sender Item). length z.sent) next.ring ∙ length-append f.sent next.items in
        let same : q ≡ p = first.keeps (omega (arith, none, here, then)) kept in
        next.keeps (omega (arith, none, here, then)) (subst (IsKept n) (sym same) kept) ∙ same;
  }

-- a ring is as closed as it was
pub still_closed : (told : Type 0) (sounds : Sounds) (e : Edition) (n : Needs) (p : TrackSupply) (d : Sender Item) (q : TrackSupply) (f : Sender Item) →
    Serves told sounds e n p d q f → f.closed ≡ d.closed
still_closed told sounds e n p d q f serves = ap (λ (z : Sender Item). z.closed) serves.ring

-- what is told by less is told by more
pub serves_by : (told more : Type 0) (sounds : Sounds) (e : Edition) (n : Needs) (p : TrackSupply) (d : Sender Item) (q : TrackSupply) (f : Sender Item) →
    (more → told) → Serves told sounds e n p d q f → Serves more sounds e n p d q f
serves_by told more sounds e n p d q f lead serves = record {
  items = serves.items;
  full = serves.full;
  ring = serves.ring;
  run = serves.run;
  blocks = λ t. serves.blocks (lead t);
  made = λ item has. elim (serves.made item has) [ inl was ↦ inl was | inr now ↦ inr (now.0, λ t. now.1 (lead t)) ];
  once = serves.once;
  got = serves.got;
  keeps = serves.keeps;
}

pub has_sent : (n : Needs) (old : Sender Item) (q : TrackSupply) (new : Sender Item) (r : Bool) → r ≡ true → HasSent n old q new (Ok r) →
    (length new.sent ≡ length old.sent + 1) × (new.heads ≡ old.heads) × (q.made ≡ false)
has_sent n old q new true e answer = answer
has_sent n old q new false e answer = absurd (true≢false (sym e))
