-- A list that only grows, and stands after its end, keeps the rule.
use Rattle.std.proofs.Common.{◌≡◌, ℕ, Bool, true, List, set, refl, subst, ◌∙◌, ⊎_elim}
use mathlib.Core.List.{IsPrefix}
use mathlib.Core.Option.{some}
use lib.ListN.{get_elem?}
use base.Growing.{prefix_refl, prefix_trans}
use Rattle.std.proofs.lemmas.Bool.{false≢true}
use Rattle.left_right.specs.Register.{Admits, TurnsAt, Forks, Merges}
use Rattle.atomic_table.proofs.Lists.{at_set, at_snoc}
use Rattle.session_model.specs.declared.edit.Edit.{Edit}
use Rattle.route_lists.specs.declared.known.Known.{Known}
use Rattle.route_lists.specs.declared.shelf.Shelf.{Shelf}
use Rattle.route_lists.specs.Rule.{Fits, AllFit, Sees, newcomer, informed}

abbrev pub Rule : Shelf → List Known → Type 0
Rule s = AllFit s.edits.items s.ended

abbrev pub Then : Known → Shelf → Shelf → Known → Type 0
Then v x y w = Sees v y.edits.items y.ended w

-- from one list to the next
pub record Grows (before : List Edit) (was : Bool) (after : List Edit) (is : Bool) : Type 0 where
  pub more : IsPrefix before after
  pub stands : was ≡ true → (is ≡ true) × (after ≡ before)

pub fits_later : (before after : List Edit) (was is : Bool) (v : Known) → Grows before was after is → Fits before was v → Fits after is v
fits_later before after was is v g f = record {
  seen = prefix_trans v.seen before after f.seen g.more;
  told = prefix_trans v.told before after f.told g.more;
  stands = λ e. let now = g.stands (f.stands e).0 in (now.0, now.1 ∙ (f.stands e).1);
  stands_told = λ e. let now = g.stands (f.stands_told e).0 in (now.0, now.1 ∙ (f.stands_told e).1);
}

pub unmoved : (edits : List Edit) (ended : Bool) → Grows edits ended edits ended
unmoved edits ended = record { more = prefix_refl edits; stands = λ e. (e, refl) }

abbrev pub seeing : Known → List Edit → Bool → Known
seeing v edits ended = record { seen = edits; ended = ended; told = v.told; told_end = v.told_end }

pub fits_now : (edits : List Edit) (ended : Bool) (v : Known) → Fits edits ended v → Fits edits ended (seeing v edits ended)
fits_now edits ended v f = record { seen = prefix_refl edits; told = f.told; stands = λ e. (e, refl); stands_told = f.stands_told }

-- of every seat, where one of them now knows w
all_set : (edits : List Edit) (ended : Bool) (views : List Known) (seat : ℕ) (w : Known) → AllFit edits ended views → Fits edits ended w → AllFit edits ended (set views seat w)
all_set edits ended views seat w all f j u at = ⊎_elim (λ t. subst (λ (z : Known). Fits edits ended z) t.1 f) (λ t. all j u t.1) (at_set views seat j w u at)

pub turns : (seat : ℕ) (v : Known) (x y : Shelf) → Grows x.edits.items x.ended y.edits.items y.ended → TurnsAt Rule seat v x y Then
turns seat v x y g views all at =
    let later : (j : ℕ) (u : Known) → get_elem? views j ≡ some u → Fits y.edits.items y.ended u = λ j u is. fits_later x.edits.items y.edits.items x.ended y.ended u g (all j u is) in
    let mine = later seat v at in
    (seeing v y.edits.items y.ended, all_set y.edits.items y.ended views seat _ later (fits_now y.edits.items y.ended v mine), record { fits = mine; seen = refl })

fits_newcomer : (edits : List Edit) (ended : Bool) → Fits edits ended newcomer
fits_newcomer edits ended = record {
  seen = (edits, refl);
  told = (edits, refl);
  stands = λ e. absurd (false≢true e);
  stands_told = λ e. absurd (false≢true e);
}

pub admits : Admits Rule newcomer
admits x views all j u at = ⊎_elim (all j u) (λ e. subst (λ (z : Known). Fits x.edits.items x.ended z) e (fits_newcomer x.edits.items x.ended)) (at_snoc views newcomer u j at)

pub forks : (seat : ℕ) (v : Known) → Forks Rule seat v v v
forks seat v x views all at j u is =
    let mine = all seat v at in
    ⊎_elim (all_set x.edits.items x.ended views seat v all mine j u) (λ e. subst (λ (z : Known). Fits x.edits.items x.ended z) e mine) (at_snoc (set views seat v) v u j is)

pub merges : (seat : ℕ) (v : Known) (other : ℕ) (w : Known) → Merges Rule seat v other w (informed v w) newcomer
merges seat v other w x views all at apart there =
    let edits = x.edits.items in let ended = x.ended in let mine = all seat v at in
    let theirs : Fits edits ended w = ⊎_elim (λ t. absurd (apart t.0)) (λ t. all other w t.1) (at_set views seat other (informed v w) w there) in
    all_set edits ended (set views seat (informed v w)) other newcomer
    (all_set edits ended views seat (informed v w) all (record { seen = mine.seen; told = theirs.seen; stands = mine.stands; stands_told = theirs.stands }))
    (fits_newcomer edits ended)
