-- What a reader's editions are after a look at the list.
use Rattle.std.proofs.Common.{◌≡◌, ◌<◌, Bool, true, false, List, [], ◌∷◌, ◌++◌, length, get_or, refl, sym, ap, subst, ◌∙◌, arith}
use Rattle.std.proofs.lemmas.Bool.{false≢true}
use mathlib.Core.List.{IsPrefix}
use base.Growing.{prefix_refl, prefix_trans}
use Rattle.session_model.specs.declared.edit.Edit.{Edit}
use Rattle.edition_log.specs.EditionState.{EditionState}
use Rattle.route_lists.specs.declared.known.Known.{Known}
use Rattle.route_lists.specs.Rule.{Sees, newcomer}
use Rattle.route_lists.specs.Lists.{Reading, Follows, IsAt, IsKept}
use Rattle.route_lists.specs.Answers.{Enters}
use Rattle.route_lists.proofs.ListLemmas.{next_begins}

is_false : (b : Bool) → (b ≡ true → ⊥) → b ≡ false
is_false true never = absurd (never refl)
is_false false never = refl

-- ---- catching up

module _ (edits : List Edit) (ended : Bool) (e : EditionState) (f : Follows edits ended e) where
  -- it didn't end, where an edit is left
  pub is_not_ended : length e.edits < length edits → e.ended ≡ false
  is_not_ended h = is_false e.ended (λ t. let same : length edits ≡ length e.edits = ap length (f.stands t).1 in omega arith)

  pub next_follows : (e' : EditionState) (edit : Edit) → length e.edits < length edits → e'.edits ≡ e.edits ++ edit ∷ [] → e'.ended ≡ e.ended → edit ≡ get_or edits (length e.edits) edit → Follows edits ended e'
  next_follows e' edit h longer same is = record {
    begins = subst (λ l. IsPrefix l edits) (ap (λ x. e.edits ++ x ∷ []) (sym is) ∙ sym longer) (next_begins e.edits edits edit f.begins h);
    stands = λ t. let as_long : length edits ≡ length e.edits = ap length (f.stands (sym same ∙ t)).1 in absurd (omega arith);
  }

-- ---- a look

module _ (v w : Known) (edits : List Edit) (ended : Bool) (sees : Sees v edits ended w) where
  pub follows_on : (e : EditionState) → Follows v.seen v.ended e → Follows edits ended e
  follows_on e f = record {
    begins = prefix_trans e.edits v.seen edits f.begins sees.fits.seen;
    stands = λ t. let was = f.stands t in let now = sees.fits.stands was.0 in (now.0, now.1 ∙ was.1);
  }

  -- both editions follow what is seen now
  pub kept_on : (now : Known) (e spare : EditionState) → now ≡ w → Follows edits ended e → Follows edits ended spare → IsKept now e spare
  kept_on now e spare is f g = subst (λ z. IsKept z e spare) (sym (is ∙ sees.seen)) (record { seen = f; behind = g })

  -- the reader, which was told what v was
  module _ (before after : Reading) (e : EditionState) (f : Follows v.seen v.ended e) (is : e ≡ before.edition) (told : v.told ≡ before.told) (told_end : v.told_end ≡ before.told_end) where
    begins_told : IsPrefix before.told edits
    begins_told = subst (λ l. IsPrefix l edits) told sees.fits.told

    stands_told : before.told_end ≡ true → (ended ≡ true) × (edits ≡ before.told)
    stands_told t = let now = sees.fits.stands_told (told_end ∙ t) in (now.0, now.1 ∙ told)

    follows_before : Follows edits ended before.edition
    follows_before = subst (Follows edits ended) is (follows_on e f)

    -- an edition that ended has all
    pub stands_still : e.ended ≡ true → after.edition ≡ e → Enters before after
    stands_still t same_as =
        let same : after.edition ≡ before.edition = same_as ∙ is in let was_ended : before.edition.ended ≡ true = ap (λ x. x.ended) (sym is) ∙ t in
        let same_edits : after.edition.edits ≡ edits = ap (λ x. x.edits) same ∙ sym (follows_before.stands was_ended).1 in
        record {
          more = subst (IsPrefix before.edition.edits) (ap (λ x. x.edits) (sym same)) (prefix_refl before.edition.edits);
          more_told = subst (IsPrefix before.told) (sym same_edits) begins_told;
          stands = λ _. same;
          stands_told = λ u. (same_edits ∙ (stands_told u).1, ap (λ x. x.ended) same ∙ was_ended);
        }

    -- one that took in all is seen in its place
    pub takes_over : e.ended ≡ false → IsAt edits ended after.edition → Enters before after
    takes_over unended all = record {
      more = subst (IsPrefix before.edition.edits) (sym all.0) follows_before.begins;
      more_told = subst (IsPrefix before.told) (sym all.0) begins_told;
      stands = λ t. absurd (false≢true (sym unended ∙ ap (λ x. x.ended) is ∙ t));
      stands_told = λ u. (all.0 ∙ (stands_told u).1, all.1 ∙ (stands_told u).0);
    }

-- ---- a new reader

follows_nothing : (e : EditionState) → e.edits ≡ [] → e.ended ≡ false → Follows [] false e
follows_nothing e none unended = record {
  begins = subst (λ l. IsPrefix l []) (sym none) (prefix_refl []);
  stands = λ t. absurd (false≢true (sym unended ∙ t));
}

pub kept_new : (v : Known) (e spare first : EditionState) → v ≡ newcomer → e ≡ first → spare ≡ first → first.edits ≡ [] → first.ended ≡ false → IsKept v e spare
kept_new v e spare first is same spare_same none unended =
    let follows = follows_nothing first none unended in
    subst (λ z. IsKept z e spare) (sym is) (record { seen = subst (Follows [] false) (sym same) follows; behind = subst (Follows [] false) (sym spare_same) follows })
