-- An item that isn't kept is noted, and its box goes back; and what any offer leaves.
use Rattle.std.proofs.Common.{◌≡◌, ℕ, ◌<◌, ◌≤◌, ◌∷◌, length, refl, sym, ap, subst, ◌∙◌, arith, Box, ◌⊎◌, inl, inr}
use Rattle.std.specs.Prelude.{Bool, true, false, ◌&&◌, ◌==◌, nat_le, nat_lt, max}
use Rattle.std.specs.Global.{Global}
use Rattle.piece_item.specs.declared.item.Item.{Item}
use Rattle.piece_item.specs.Views.{item_of, kind_of}
use Rattle.play_window.specs.Answers.{GoesOn, TakesIn}
use Rattle.play_window.specs.Offers.{Offered, IsNear, is_later}
use Rattle.play_window.specs.WindowState.{WindowState, IsWindowOf, IsNoEarlier}
use Rattle.play_window.proofs.GivenLemmas.{is_kept}
use Rattle.play_window.proofs.KeepLemmas.{drops}
use Rattle.play_window.proofs.MarkLemmas.{marked}

-- a piece of an older generation or of a passed block isn't kept, one of this generation is
pub is_past : (g n h r : ℕ) → (h < g) ⊎ (r < n) → (h == g && nat_le n r) ≡ false
is_past g n h r (inl older) = grind (arith, older)
is_past g n h r (inr passed) = grind (arith, passed)

pub is_this : (g s h : ℕ) → g ≤ h → nat_lt g h ≡ false → (h == g && s == s) ≡ true
is_this g s h since now = grind (arith, since, now)

-- what a look at the item's kind says
pub not_later : (g : ℕ) (x y : Item) (later : Bool) → y ≡ x → later ≡ is_later g (kind_of y.kind) → later ≡ false → is_later g (kind_of x.kind) ≡ false
not_later g x y later same is none = ap (λ (z : Item). is_later g (kind_of z.kind)) (sym same) ∙ sym is ∙ none

module _ (w new : WindowState) (g n mark : ℕ) (item husk : Box Item Global) where
  abbrev noted : ℕ → WindowState
  noted m = record w { generation = g; next = n; mark = m }

  abbrev given : Offered
  given = record { generation = g; next = n; item = item_of item.value }

  pub passes : IsNoEarlier w.generation w.next g n → IsNear w.depth g n (kind_of item.value.kind) → is_later g (kind_of item.value.kind) ≡ false → length item.value.samples.items ≡ w.samples
      → is_kept g n (kind_of item.value.kind) ≡ false → marked (kind_of item.value.kind) w.mark ≡ max w.mark mark → new ≡ noted (max w.mark mark) → husk ≡ item → TakesIn w given husk new
  passes since near now samples dropped marks is back = record {
    now = now;
    husk_samples = ap (λ (b : Box Item Global). length b.value.samples.items) back ∙ samples;
    depth = ap (λ v. v.depth) is;
    samples = ap (λ v. v.samples) is;
    generation = ap (λ v. v.generation) is;
    next = ap (λ v. v.next) is;
    offers = λ offers of. subst (IsWindowOf (given ∷ offers)) (sym (is ∙ ap noted (sym marks))) (drops w given offers of
        (record { generation = omega (arith, of.generation, since.generation); next = λ e. omega (arith, of.next, since.block (of.generation ∙ e)); now = now; near = near }) dropped);
  }

-- what was asked for never falls
pub goes_on_in : (old new : WindowState) (o : Offered) (husk : Box Item Global) → IsNoEarlier old.generation old.next o.generation o.next → TakesIn old o husk new → GoesOn old o.generation o.next new
goes_on_in old new o husk since takes = record {
  depth = takes.depth;
  samples = takes.samples;
  since = record { generation = omega (arith, takes.generation, since.generation); block = λ e. omega (arith, takes.next, since.block (e ∙ takes.generation)) };
  until = record { generation = omega (arith, takes.generation); block = λ e. omega (arith, takes.next) };
}

pub goes_on_unchanged : (w : WindowState) (g n : ℕ) → IsNoEarlier w.generation w.next g n → GoesOn w g n w
goes_on_unchanged w g n since = record { depth = refl; samples = refl; since = record { generation = omega arith; block = λ e. omega arith }; until = since }
