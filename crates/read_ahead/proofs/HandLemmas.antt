-- What is made and is due isn't made again.
use Rattle.std.proofs.Common.{◌≡◌, ◌∙◌, sym, subst, inl, inr, Bool, true, false, true≢false, Box, Option}
use Rattle.std.specs.Prelude.{Some, IsSomeAnd}
use Rattle.std.specs.Global.{Global}
use Rattle.engine_model.specs.Items as engine
use Rattle.engine_model.specs.Due.{Needs}
use Rattle.piece_item.specs.declared.item.Item.{Item}
use Rattle.piece_item.specs.declared.kind.Kind.{Kind}
use Rattle.piece_item.specs.declared.kind.Kind.TheVariants.{Blank, Piece, Settled}
use Rattle.piece_item.specs.Views.{kind_of}
use Rattle.read_ahead.specs.declared.supply.TrackSupply.{TrackSupply}
use Rattle.read_ahead.specs.SendProgress.{now_due}
use Rattle.read_ahead.specs.Serves.{IsAtHand, IsKept}

-- a kind is known by what it is in the engine's words
pub same_kind : (a b : Kind) → kind_of a ≡ kind_of b → a ≡ b
same_kind Blank Blank e = cc
same_kind Blank (Piece t g s p) e = absurd (cc)
same_kind Blank (Settled k g s) e = absurd (cc)
same_kind (Piece t g s p) Blank e = absurd (cc)
same_kind (Piece t g s p) (Piece u h r q) e = cc
same_kind (Piece t g s p) (Settled k h r) e = absurd (cc)
same_kind (Settled k g s) Blank e = absurd (cc)
same_kind (Settled k g s) (Piece u h r q) e = absurd (cc)
same_kind (Settled k g s) (Settled j h r) e = cc

some_kind : (a b : engine.Kind) → Some a ≡ Some b → a ≡ b
some_kind a b e = cc

module _ (n : Needs) (p : TrackSupply) (item : Box Item Global) (kind : Kind) (like : Bool) (box : p.spare ≡ Some item) (due : now_due n p.progress ≡ Some (kind_of kind))
    (is_like : p.made ≡ true → item.value.kind ≡ kind → like ≡ true) (unlike : like ≡ false) where
  kept_is_like : IsKept n p → like ≡ true
  kept_is_like kept = is_like kept.made (same_kind item.value.kind kind (some_kind (kind_of item.value.kind) (kind_of kind)
      (sym (subst (λ (o : Option (Box Item Global)). IsSomeAnd o (λ b. now_due n p.progress ≡ Some (kind_of b.value.kind))) box kept.due) ∙ due)))

  -- where what is in the box isn't what is due, something has to be read
  pub not_at_hand : {X : Type 0} → IsAtHand n p → X
  not_at_hand (inl kept) = absurd (true≢false (sym (kept_is_like kept) ∙ unlike))
  not_at_hand (inr none) = absurd (let e = sym due ∙ none in cc)
