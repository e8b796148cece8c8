-- Tracks are looked at one after the other.
use Rattle.std.proofs.Common.{◌≡◌, ℕ, ◌+◌, ◌<◌, ◌≤◌, List, length, set, refl, sym, subst, slice_index_or, arith, ◌∙◌, length-set}
use Rattle.std.proofs.lemmas.List.{get_or_default, get_or-set_same, get_or-set_other}
use Rattle.std.specs.Prelude.{Bool, true, false}
use mathlib.Core.Logic.{dite}
use native.Mathlib.Decide.{ℕ_discrete}
use Rattle.engine_model.specs.Cycle.{has_piece}
use Rattle.engine_laws.proofs.ListLemmas.{item_at}
use Rattle.disk_ring.specs.Receiver.{Receiver}
use Rattle.piece_item.specs.declared.item.Item.{Item}
use Rattle.play_window.specs.Offers.{Offered, kinds}
use Rattle.play_window.specs.WindowState.{IsNoEarlier, IsWindowOf}
use Rattle.track_playback.specs.declared.playback.TrackPlayback.{TrackPlayback}
use Rattle.track_playback.specs.declared.play_position.PlayPosition.{PlayPosition}
use Rattle.track_playback.specs.Answers.{AllShow, IsMissing, is_there}
use Rattle.track_playback.specs.Looks.{Looks}
use Rattle.track_playback.specs.Played.{AllPlayed, IsPlayed}
use Rattle.track_playback.proofs.TrackLemmas.{plays_on, told_by_all}

-- the tracks below a number were looked at, and the others are as they were
pub record LookedBelow (at : PlayPosition) (a : List (Receiver Item)) (d : List TrackPlayback) (b : List (Receiver Item)) (e : List TrackPlayback) (n : ℕ) : Type 0 where
  pub plays : length b ≡ length a
  pub playbacks : length e ≡ length d
  pub looked : (t : ℕ) (x : Receiver Item) (y : TrackPlayback) → t < n → Looks at (slice_index_or a t x) (slice_index_or d t y) (slice_index_or b t x) (slice_index_or e t y)
  pub play_left : (t : ℕ) (x : Receiver Item) → n ≤ t → slice_index_or b t x ≡ slice_index_or a t x
  pub playback_left : (t : ℕ) (y : TrackPlayback) → n ≤ t → slice_index_or e t y ≡ slice_index_or d t y

module _ (at : PlayPosition) (a : List (Receiver Item)) (d : List TrackPlayback) (b : List (Receiver Item)) (e : List TrackPlayback) (n : ℕ) (below : LookedBelow at a d b e n) where
  pub played_left : AllPlayed at a d → n < length a → (x : Receiver Item) (y : TrackPlayback) → (samples : ℕ) × IsPlayed at samples (slice_index_or b n x) (slice_index_or e n y)
  played_left played within x y = let was = played n x y within in (
    was.0,
    subst (λ r. IsPlayed at was.0 r (slice_index_or e n y)) (sym (below.play_left n x (omega arith)))
        (subst (λ k. IsPlayed at was.0 (slice_index_or a n x) k) (sym (below.playback_left n y (omega arith))) was.1),
  )

  -- once all were looked at their windows tell what was received,
  pub all_show : 0 < at.depth → AllPlayed at a d → length d ≡ length a → n ≡ length d → AllShow at b e
  all_show some played count whole = record {
    count = omega (arith, below.playbacks, below.plays, count);
    each = λ t x y within. let lt : t < n = omega (arith, within, below.plays, count, whole) in let was = played t x y (omega (arith, within, below.plays)) in
        let looks = below.looked t x y lt in record {
          until = (plays_on at was.0 _ _ _ _ was.1 looks).until;
          tells = λ there shown. told_by_all at was.0 _ _ _ _ was.1 looks there some shown;
        };
  }

  looked_here : (r : Receiver Item) (k : TrackPlayback) → n < length b → n < length e → ((x : Receiver Item) × ((y : TrackPlayback) × Looks at (slice_index_or b n x) (slice_index_or e n y) r k))
      → (x : Receiver Item) (y : TrackPlayback) → Looks at (slice_index_or a n x) (slice_index_or d n y) (slice_index_or (set b n r) n x) (slice_index_or (set e n k) n y)
  looked_here r k play playback looks x y =
      subst (λ (q : TrackPlayback). Looks at (slice_index_or a n x) (slice_index_or d n y) (slice_index_or (set b n r) n x) q) (sym (get_or-set_same e n k y playback))
      (subst (λ (q : Receiver Item). Looks at (slice_index_or a n x) (slice_index_or d n y) q k) (sym (get_or-set_same b n r x play))
      (subst (λ (q : TrackPlayback). Looks at (slice_index_or a n x) q r k) (get_or_default e n looks.1.0 y playback ∙ below.playback_left n y (omega arith))
      (subst (λ (q : Receiver Item). Looks at q (slice_index_or e n looks.1.0) r k) (get_or_default b n looks.0 x play ∙ below.play_left n x (omega arith)) looks.1.1)))

  -- and one more
  pub looked_more : (r : Receiver Item) (k : TrackPlayback) → n < length b → n < length e → ((x : Receiver Item) × ((y : TrackPlayback) × Looks at (slice_index_or b n x) (slice_index_or e n y) r k))
      → LookedBelow at a d (set b n r) (set e n k) (n + 1)
  looked_more r k play playback looks = record {
    plays = length-set b n r ∙ below.plays;
    playbacks = length-set e n k ∙ below.playbacks;
    looked = λ t x y under. dite (ℕ_discrete t n) (λ here. subst (λ (z : ℕ). Looks at (slice_index_or a z x) (slice_index_or d z y) (slice_index_or (set b n r) z x) (slice_index_or (set e n k) z y)) (sym here) (looked_here r k play playback looks x y))
        (λ other. subst (λ (q : Receiver Item). Looks at (slice_index_or a t x) (slice_index_or d t y) q (slice_index_or (set e n k) t y)) (sym (get_or-set_other b n t r x other))
        (subst (λ (q : TrackPlayback). Looks at (slice_index_or a t x) (slice_index_or d t y) (slice_index_or b t x) q) (sym (get_or-set_other e n t k y other)) (below.looked t x y (omega (arith, other)))));
    play_left = λ t x far. get_or-set_other b n t r x (λ same. omega arith) ∙ below.play_left t x (omega arith);
    playback_left = λ t y far. get_or-set_other e n t k y (λ same. omega arith) ∙ below.playback_left t y (omega arith);
  }

pub looked_none : (at : PlayPosition) (a : List (Receiver Item)) (d : List TrackPlayback) → LookedBelow at a d a d 0
looked_none at a d = record { plays = refl; playbacks = refl; looked = λ t x y under. absurd (omega arith); play_left = λ t x far. refl; playback_left = λ t y far. refl }

-- ---- the windows are asked, the last one first

-- those from a number on have their piece
abbrev pub ThereFrom : PlayPosition → List (Receiver Item) → ℕ → Type 0
ThereFrom at b n = (t : ℕ) (x : Receiver Item) → n ≤ t → t < length b → is_there at (slice_index_or b t x) ≡ true

module _ (at : PlayPosition) (b : List (Receiver Item)) (e : List TrackPlayback) (show : AllShow at b e) (n : ℕ) (d : TrackPlayback) (within : n < length e) (is : d ≡ slice_index_or e n d) where
  pub asked_until : IsNoEarlier d.window.generation d.window.next at.generation at.next
  asked_until = let r = item_at b n (omega (arith, within, show.count)) in subst (λ k. IsNoEarlier k.window.generation k.window.next at.generation at.next) (sym is) (show.each n r.0 d (omega (arith, within, show.count))).until

  module _ (there : Bool) (shown : (given : List Offered) → IsWindowOf given d.window → there ≡ has_piece at.generation at.next (kinds given)) where
    -- what one window answers
    pub asked_there : (x : Receiver Item) → there ≡ is_there at (slice_index_or b n x)
    asked_there x = (show.each n x d (omega (arith, within, show.count))).tells there (subst (λ k. (given : List Offered) → IsWindowOf given k.window → there ≡ has_piece at.generation at.next (kinds given)) is shown)

    pub asked_missing : there ≡ false → IsMissing at b
    asked_missing none = (n, omega (arith, within, show.count), λ x. sym (asked_there x) ∙ none)

    pub asked_from : there ≡ true → (m : ℕ) → m ≡ n + 1 → ThereFrom at b m → ThereFrom at b n
    asked_from has m next from t x low high = dite (ℕ_discrete t n) (λ here. subst (λ k. is_there at (slice_index_or b k x) ≡ true) (sym here) (sym (asked_there x) ∙ has))
        (λ other. from t x (omega (arith, low, other, next)) high)
