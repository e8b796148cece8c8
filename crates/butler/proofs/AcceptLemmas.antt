-- A butler keeps serving while it takes acknowledgements and enters editions.
use Rattle.std.proofs.Common.{◌≡◌, ℕ, ◌+◌, ◌<◌, ◌≤◌, List, ◌++◌, length, refl, sym, ap, ◌∙◌, subst, arith, le_refl, le_trans, length-append}
use Rattle.std.specs.Prelude.{Bool, true, false, ◌==◌, if◌then◌else◌, reverse, map}
use Rattle.std.specs.List.{list_all}
use Rattle.std.proofs.lemmas.Bool.{eqb-true}
use Rattle.std.proofs.lemmas.List.{map-append}
use mathlib.Core.List.{IsPrefix}
use Rattle.session_model.specs.declared.session.Session.{Session}
use Rattle.session_model.specs.declared.edit.Edit.{Edit}
use Rattle.engine_model.specs.Edits.{playlist_edition, generation, starts, touches}
use Rattle.engine_model.specs.Items.{Kind, Piece, Settled, Blank}
use Rattle.engine_model.specs.Due.{Ack, next_block}
use Rattle.engine_laws.specs.Kept.{Kept, is_from}
use Rattle.engine_laws.specs.Tracked.{Tracked}
use Rattle.engine_laws.proofs.DueLemmas.{start_keeps, touch_keeps}
use Rattle.engine_laws.proofs.GrowLemmas.{publish_keeps}
use Rattle.engine_laws.proofs.SendLemmas.{enter_keeps}
use Rattle.engine_laws.proofs.NumberLemmas.{count_rises, count_stays, last_rises, last_stays}
use Rattle.disk_ring.specs.Sender.{Sender}
use Rattle.piece_item.specs.declared.item.Item.{Item}
use Rattle.piece_item.specs.declared.ack.Ack.{Ack as Acknowledgement}
use Rattle.piece_item.specs.Views.{ack_of, kind_of}
use Rattle.read_ahead.specs.declared.progress.SendProgress.{SendProgress}
use Rattle.read_ahead.specs.declared.supply.TrackSupply.{TrackSupply}
use Rattle.read_ahead.specs.SendProgress.{entered}
use Rattle.read_ahead.specs.Items.{kinds}
use Rattle.butler.specs.Sends.{acks_of}
use Rattle.butler.specs.Serving.{StandsFor, IsTended}
use Rattle.butler.proofs.TableLemmas.{next_rises}

-- ---- more acknowledgements

acks_grow : (old new : List Acknowledgement) → IsPrefix old new → (more : List Ack) × (acks_of old ++ more ≡ acks_of new)
acks_grow old new grows = (map ack_of grows.0, sym (map-append ack_of old grows.0) ∙ ap acks_of grows.1)

pub stands_later : (s : Session) (edits : List Edit) (cycles t : ℕ) (acks acks' : List Ack) (a : SendProgress) (before : List Kind) →
    ((more : List Ack) × (acks ++ more ≡ acks')) → StandsFor s edits cycles t acks a before → StandsFor s edits cycles t acks' a before
stands_later s edits cycles t acks acks' a before grows st = record {
  kept = st.kept;
  generation_is = st.generation_is;
  touched_is = st.touched_is;
  mark_is = st.mark_is;
  base = st.base;
  tracked = st.tracked;
  passed = subst (λ xs. st.base ≤ next_block xs a.generation) grows.1 (le_trans st.passed (next_rises acks grows.0 a.generation));
  near = st.near;
}

pub tended_later : (s : Session) (edits : List Edit) (cycles t : ℕ) (old new : List Acknowledgement) (failed : Bool) (p : TrackSupply) (d : Sender Item) → IsPrefix old new →
    IsTended s edits cycles t (acks_of old) failed p d → IsTended s edits cycles t (acks_of new) failed p d
tended_later s edits cycles t old new failed p d grows is = record {
  depth = is.depth;
  room = is.room;
  closed = is.closed;
  stands = stands_later s edits cycles t (acks_of old) (acks_of new) p.progress (reverse (kinds d.sent)) (acks_grow old new grows) is.stands;
  made = is.made;
}

-- ---- a later edition

module _ (s : Session) (edits : List Edit) (cycles t : ℕ) (acks : List Ack) (before : List Kind) where
  abbrev Fits : SendProgress → Type 0
  Fits a = (base : ℕ) × (Tracked a.generation a.touched base a.fresh a.far before × (base ≤ next_block acks a.generation) × (a.far ≤ cycles)
      × (a.generation ≡ generation edits (length edits)) × (a.touched ≡ playlist_edition s edits t (length edits)))

  not_same : (m n : ℕ) → (m == n) ≡ false → m ≤ n → m < n
  not_same m n other le = grind (arith, other, le)

  -- by whether it is of the generation, and by the playlist edition, of the edition that is entered
  fits_by : (j : ℕ) (a : SendProgress) (base : ℕ) (c m : Bool) → j ≤ length edits → list_all (is_from s edits t j) before ≡ true →
      a.generation ≡ generation edits j → a.touched ≡ playlist_edition s edits t j → Tracked a.generation a.touched base a.fresh a.far before → base ≤ next_block acks a.generation → a.far ≤ cycles →
      (a.generation == generation edits (length edits)) ≡ c → (a.touched == playlist_edition s edits t (length edits)) ≡ m →
      Fits (if c then (if m then a else record a { touched = playlist_edition s edits t (length edits); fresh = a.far })
      else record a { generation = generation edits (length edits); touched = playlist_edition s edits t (length edits); fresh = 0; far = 0 })
  fits_by j a base false m le from g p tr passed near c_is m_is = let later : generation edits j < generation edits (length edits) =
      not_same (generation edits j) (generation edits (length edits)) (ap (λ n. n == generation edits (length edits)) (sym g) ∙ c_is) (count_rises starts edits j (length edits) le) in
      (0, (start_keeps s edits t j (generation edits (length edits)) (playlist_edition s edits t (length edits)) before from later, omega arith, omega arith, refl, refl))
  fits_by j a base true false le from g p tr passed near c_is m_is = let later : playlist_edition s edits t j < playlist_edition s edits t (length edits) =
      not_same (playlist_edition s edits t j) (playlist_edition s edits t (length edits)) (ap (λ n. n == playlist_edition s edits t (length edits)) (sym p) ∙ m_is) (last_rises (touches s t) edits j (length edits) le) in (
        base,
        (
          subst (λ n. Tracked n (playlist_edition s edits t (length edits)) base a.far a.far before) (sym g)
              (touch_keeps s edits t j (length edits) base a.fresh a.far before from later
              (subst (λ n. Tracked n (playlist_edition s edits t j) base a.fresh a.far before) g (subst (λ q. Tracked a.generation q base a.fresh a.far before) p tr))),
          passed,
          near,
          eqb-true a.generation (generation edits (length edits)) c_is,
          refl,
        ),
      )
  fits_by j a base true true le from g p tr passed near c_is m_is =
      (base, (tr, passed, near, eqb-true a.generation (generation edits (length edits)) c_is, eqb-true a.touched (playlist_edition s edits t (length edits)) m_is))

  keeps_mark : (g p : ℕ) (a : SendProgress) → (entered g p a).mark ≡ a.mark
  keeps_mark g p a = by_test (a.generation == g) (a.touched == p) where
    by_test : (c m : Bool) → (if c then (if m then a else record a { touched = p; fresh = a.far }) else record a { generation = g; touched = p; fresh = 0; far = 0 }).mark ≡ a.mark
    by_test false m = refl
    by_test true false = refl
    by_test true true = refl

  pub stands_entered : (old more : List Edit) (a : SendProgress) (g p : ℕ) → old ++ more ≡ edits → g ≡ generation edits (length edits) → p ≡ playlist_edition s edits t (length edits) →
      StandsFor s old cycles t acks a before → StandsFor s edits cycles t acks (entered g p a) before
  stands_entered old more a g p grows g_is p_is st =
      let j = length old in let long : length old + length more ≡ length edits = sym (length-append old more) ∙ ap length grows in let le : j ≤ length edits = omega arith in
      let kept : Kept s edits t j before = subst (λ es. Kept s es t j before) grows (publish_keeps s old more t j before st.kept) in
      let gen : generation edits j ≡ generation old j = ap (λ es. generation es j) (sym grows) ∙ count_stays starts old more j (le_refl j) in
      let list : playlist_edition s edits t j ≡ playlist_edition s old t j = ap (λ es. playlist_edition s es t j) (sym grows) ∙ last_stays (touches s t) old more j (le_refl j) in
      let fits = fits_by j a st.base (a.generation == generation edits (length edits)) (a.touched == playlist_edition s edits t (length edits)) le kept.from
      (st.generation_is ∙ sym gen) (st.touched_is ∙ sym list) st.tracked st.passed st.near refl refl in
      let fits' : Fits (entered g p a) = subst (λ n. Fits (entered n p a)) (sym g_is) (subst (λ q. Fits (entered (generation edits (length edits)) q a)) (sym p_is) fits) in record {
        kept = enter_keeps s edits t j (length edits) before le (le_refl (length edits)) kept;
        generation_is = fits'.1.3;
        touched_is = fits'.1.4;
        mark_is = keeps_mark g p a ∙ st.mark_is;
        base = fits'.0;
        tracked = fits'.1.0;
        passed = fits'.1.1;
        near = fits'.1.2;
      }

-- what is from the edition of some edits is from the edition of more
from_by : (s : Session) (old edits : List Edit) (t : ℕ) (x : Kind) → length old ≤ length edits → generation old (length old) ≤ generation edits (length edits) →
    playlist_edition s old t (length old) ≤ playlist_edition s edits t (length edits) → is_from s old t (length old) x ≡ true → is_from s edits t (length edits) x ≡ true
from_by s old edits t (Piece u g r p) long gen list h = grind (arith, h, gen, list)
from_by s old edits t (Settled j g r) long gen list h = grind (arith, h, gen, long)
from_by s old edits t Blank long gen list h = refl

pub from_grows : (s : Session) (old more edits : List Edit) (t : ℕ) (x : Kind) → old ++ more ≡ edits → is_from s old t (length old) x ≡ true → is_from s edits t (length edits) x ≡ true
from_grows s old more edits t x grows h =
    let j = length old in let long : length old + length more ≡ length edits = sym (length-append old more) ∙ ap length grows in let le : j ≤ length edits = omega arith in
    let gen : generation edits j ≡ generation old j = ap (λ es. generation es j) (sym grows) ∙ count_stays starts old more j (le_refl j) in
    let list : playlist_edition s edits t j ≡ playlist_edition s old t j = ap (λ es. playlist_edition s es t j) (sym grows) ∙ last_stays (touches s t) old more j (le_refl j) in
    from_by s old edits t x le
    (subst (λ n. n ≤ generation edits (length edits)) gen (count_rises starts edits j (length edits) le))
    (subst (λ n. n ≤ playlist_edition s edits t (length edits)) list (last_rises (touches s t) edits j (length edits) le)) h

-- a track that entered an edition with its box as it was
pub tended_entered : (s : Session) (old more edits : List Edit) (cycles t : ℕ) (acks : List Ack) (failed : Bool) (p q : TrackSupply) (d : Sender Item) (g n : ℕ) →
    old ++ more ≡ edits → g ≡ generation edits (length edits) → n ≡ playlist_edition s edits t (length edits) → q ≡ record p { progress = entered g n p.progress } →
    IsTended s old cycles t acks failed p d → IsTended s edits cycles t acks failed q d
tended_entered s old more edits cycles t acks failed p q d g n grows g_is n_is is tended = subst (λ (z : TrackSupply). IsTended s edits cycles t acks failed z d) (sym is) record {
  depth = tended.depth;
  room = tended.room;
  closed = tended.closed;
  stands = stands_entered s edits cycles t acks (reverse (kinds d.sent)) old more p.progress g n grows g_is n_is tended.stands;
  made = λ item has. from_grows s old more edits t (kind_of item.kind) grows (tended.made item record { made = has.made; box = has.box });
}
