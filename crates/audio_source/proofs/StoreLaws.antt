-- The samples of slots, and the lines that they are.
use Rattle.std.proofs.Common.{◌≡◌, ℕ, ◌+◌, ◌-◌, ◌*◌, ◌≤◌, ◌<◌, ◌⊎◌, inl, inr, Bool, true, false, cond, refl, ap, arith, ◌∙◌, sym, List, [], ◌∷◌, ◌++◌, length, take, drop, Option, Some, None}
use Rattle.std.specs.Prelude.{◌≢◌, ℤ, All}
use Rattle.std.specs.Map.{lookup, lookup_entry, remove_entry}
use Rattle.std.specs.Option.{option_map, option_map_or}
use Rattle.std.proofs.Math.Nat.{mul-le-mul_left}
use Rattle.std.proofs.lemmas.Bool.{cases_lt}
use Rattle.std.proofs.lemmas.List.{drop-take, take_all, take-take, drop-drop, length-take-le, drop_at, drop_all, take-map, append-nil}
use Rattle.std.proofs.lemmas.List.Elements.{All-head, All-tail, All-append, All-take, All-drop}
use Rattle.std.proofs.lemmas.Slice.{take-put_mid_below, take-put_mid, drop-put_mid}
use borrow.Rule.Slice.PartMut.{put_mid}
use Rattle.lru.specs.LruCache.{promoted}
use Rattle.session_model.specs.Frames.{IsSample}
use Rattle.audio_source.specs.declared.line.LineName.{LineName}
use Rattle.audio_source.specs.Lines.{same_line}
use Rattle.audio_source.specs.Slots.{slot_samples, lines_in}

-- ---- lines by name

module _ (room : ℕ) (samples : List ℤ) (name : LineName) where
  pub lookup_lines : (us : List (LineName × ℕ)) → lookup (same_line name) (lines_in room samples us) ≡ option_map (slot_samples room samples) (lookup (same_line name) us)
  lookup_lines [] = refl
  lookup_lines (u ∷ us) = go (lookup_lines us) (same_line name u.0)
    where
      go : lookup (same_line name) (lines_in room samples us) ≡ option_map (slot_samples room samples) (lookup (same_line name) us) → (b : Bool) →
          cond b (Some (slot_samples room samples u.1)) (lookup (same_line name) (lines_in room samples us)) ≡ option_map (slot_samples room samples) (cond b (Some u.1) (lookup (same_line name) us))
      go later true = refl
      go later false = later

  abbrev line_in : LineName × ℕ → LineName × List ℤ
  line_in u = (u.0, slot_samples room samples u.1)

  entry_lines : (us : List (LineName × ℕ)) → lookup_entry (same_line name) (lines_in room samples us) ≡ option_map line_in (lookup_entry (same_line name) us)
  entry_lines [] = refl
  entry_lines (u ∷ us) = go (entry_lines us) (same_line name u.0)
    where
      go : lookup_entry (same_line name) (lines_in room samples us) ≡ option_map line_in (lookup_entry (same_line name) us) → (b : Bool) →
          cond b (Some (line_in u)) (lookup_entry (same_line name) (lines_in room samples us)) ≡ option_map line_in (cond b (Some u) (lookup_entry (same_line name) us))
      go later true = refl
      go later false = later

  removed_lines : (us : List (LineName × ℕ)) → remove_entry (same_line name) (lines_in room samples us) ≡ lines_in room samples (remove_entry (same_line name) us)
  removed_lines [] = refl
  removed_lines (u ∷ us) = go (removed_lines us) (same_line name u.0)
    where
      go : remove_entry (same_line name) (lines_in room samples us) ≡ lines_in room samples (remove_entry (same_line name) us) → (b : Bool) →
          cond b (lines_in room samples us) (line_in u ∷ remove_entry (same_line name) (lines_in room samples us)) ≡ lines_in room samples (cond b us (u ∷ remove_entry (same_line name) us))
      go later true = refl
      go later false = ap (λ l. line_in u ∷ l) later

  pub promoted_lines : (us : List (LineName × ℕ)) → promoted (same_line name) (lines_in room samples us) ≡ lines_in room samples (promoted (same_line name) us)
  promoted_lines us = ap (λ o. option_map_or (λ e. e ∷ remove_entry (same_line name) (lines_in room samples us)) o (lines_in room samples us)) (entry_lines us)
      ∙ by (lookup_entry (same_line name) us)
    where
      by : (o : Option (LineName × ℕ)) → option_map_or (λ e. e ∷ remove_entry (same_line name) (lines_in room samples us)) (option_map line_in o) (lines_in room samples us)
          ≡ lines_in room samples (option_map_or (λ e. e ∷ remove_entry (same_line name) us) o us)
      by None = refl
      by (Some u) = ap (λ l. line_in u ∷ l) (removed_lines us)

-- ---- samples of a line

-- some samples of a slot
pub some_samples : (room first from n : ℕ) (samples : List ℤ) → from + n ≤ room → take n (drop (first + from) samples) ≡ take n (drop from (take room (drop first samples)))
some_samples room first from n samples fits = sym (
    ap (λ m. take n (drop from (take m (drop first samples)))) rest
    ∙ ap (take n) (drop-take from (room - from) (drop first samples))
    ∙ shorter
    ∙ ap (take n) (drop-drop from first samples ∙ ap (λ m. drop m samples) (omega arith)))
  where
    rest : room ≡ from + (room - from)
    rest = omega arith

    shorter : take n (take (room - from) (drop from (drop first samples))) ≡ take n (drop from (drop first samples))
    shorter = take-take n (room - from) (drop from (drop first samples)) (omega arith)

-- a slot ends before the one behind it
pub row : (room k top : ℕ) → k < top → k * room + room ≤ top * room
row room k top h =
    let up : room * (k + 1) ≤ room * top = mul-le-mul_left room (omega arith) in
    let one : room * (k + 1) ≡ k * room + room = grind arith in
    let all : room * top ≡ top * room = grind arith in
    omega (arith, up, one, all)

above : (j k : ℕ) → j ≢ k → k ≤ j → k < j
above j k other behind = by (cases_lt k j)
  where
    by : (k < j) ⊎ (j ≤ k) → k < j
    by (inl l) = l
    by (inr m) = absurd (other (omega arith))

-- Samples that are written to a slot.
module _ (room k n : ℕ) (samples piece : List ℤ) (fits : n ≤ room) (long : length piece ≡ n) (all : length samples ≡ 64 * room) (below : k < 64) where
  abbrev pub written : List ℤ
  written = put_mid (k * room) n samples piece

  first_inside : k * room + n ≤ length samples
  first_inside = omega (arith, all, row room k 64 below)

  -- another slot is as it was
  pub others_stay : (j : ℕ) → j ≢ k → slot_samples room written j ≡ slot_samples room samples j
  others_stay j other = go (cases_lt j k)
    where
      go : (j < k) ⊎ (k ≤ j) → slot_samples room written j ≡ slot_samples room samples j
      go (inl before) = let rows = row room j k before in
          sym (drop-take (j * room) room written) ∙ ap (drop (j * room)) (take-put_mid_below (k * room) n samples piece (j * room + room) (omega (arith, rows)) (omega (arith, first_inside))) ∙ drop-take (j * room) room samples
      go (inr behind) = let rows = row room k j (above j k other behind) in
          ap (take room) (drop-put_mid (k * room) n samples piece (j * room) (omega (arith, rows)) (omega (arith, first_inside)) long)

  -- this one begins with what was written
  pub this_is : take n (slot_samples room written k) ≡ piece
  this_is = take-take n room (drop (k * room) written) fits
      ∙ sym (drop-take (k * room) n written)
      ∙ ap (drop (k * room)) (take-put_mid (k * room) n samples piece (k * room + n) (omega (arith, long)) (omega (arith, first_inside)))
      ∙ drop_at (take (k * room) samples) piece (k * room) (length-take-le (k * room) samples (omega (arith, first_inside)))

  pub range_stays : All IsSample samples → All IsSample piece → All IsSample written
  range_stays old new = All-append IsSample (take (k * room) samples) (piece ++ drop n (drop (k * room) samples)) (All-take IsSample (k * room) samples old)
      (All-append IsSample piece (drop n (drop (k * room) samples)) new (All-drop IsSample n (drop (k * room) samples) (All-drop IsSample (k * room) samples old)))

pub take_lines : (room n : ℕ) (samples : List ℤ) (us : List (LineName × ℕ)) → lines_in room samples (take n us) ≡ take n (lines_in room samples us)
take_lines room n samples us = sym (take-map (λ u. (u.0, slot_samples room samples u.1)) n us)

-- ---- lines that are found, or not

module _ (room : ℕ) (samples : List ℤ) (name : LineName) (us : List (LineName × ℕ)) (held : List (LineName × List ℤ)) (view : lines_in room samples us ≡ held) where
  pub held_found : (slot : ℕ) → lookup (same_line name) us ≡ Some slot → lookup (same_line name) held ≡ Some (slot_samples room samples slot)
  held_found slot found = ap (lookup (same_line name)) (sym view) ∙ lookup_lines room samples name us ∙ ap (option_map (slot_samples room samples)) found

  pub held_none : lookup (same_line name) us ≡ None → lookup (same_line name) held ≡ None
  held_none none = ap (lookup (same_line name)) (sym view) ∙ lookup_lines room samples name us ∙ ap (option_map (slot_samples room samples)) none

  pub held_promoted : promoted (same_line name) held ≡ lines_in room samples (promoted (same_line name) us)
  held_promoted = ap (promoted (same_line name)) (sym view) ∙ promoted_lines room samples name us

pub lookup_by : {K V : Type 0} (test : K → Bool) (es : List (K × V)) → lookup test es ≡ option_map (λ x. x.1) (lookup_entry test es)
lookup_by test [] = refl
lookup_by {K} {V} test (e ∷ es) = go (lookup_by test es) (test e.0)
  where
    go : lookup test es ≡ option_map (λ x. x.1) (lookup_entry test es) → (b : Bool) → cond b (Some e.1) (lookup test es) ≡ option_map (λ x. x.1) (cond b (Some e) (lookup_entry test es))
    go later true = refl
    go later false = later

pub promoted_none : {K V : Type 0} (test : K → Bool) (es : List (K × V)) → lookup test es ≡ None → promoted test es ≡ es
promoted_none {K} {V} test es none = by (lookup_entry test es) (sym (lookup_by test es) ∙ none)
  where
    by : (o : Option (K × V)) → option_map (λ x. x.1) o ≡ None → option_map_or (λ e. e ∷ remove_entry test es) o es ≡ es
    by None h = refl
    by (Some e) h = absurd cc

-- lines in other slots are as they were
pub lines_stay : (room k : ℕ) (old new : List ℤ) → ((j : ℕ) → j ≢ k → slot_samples room new j ≡ slot_samples room old j) → (us : List (LineName × ℕ)) → All (λ u. u.1 ≢ k) us →
    lines_in room new us ≡ lines_in room old us
lines_stay room k old new same [] apart = refl
lines_stay room k old new same (u ∷ us) apart = ap (λ l. (u.0, l) ∷ lines_in room new us) (same u.1 (All-head (λ x. x.1 ≢ k) u us apart))
    ∙ ap (λ l. (u.0, slot_samples room old u.1) ∷ l) (lines_stay room k old new same us (All-tail (λ x. x.1 ≢ k) u us apart))

-- a list of the same length that is written back to where the old one stood
pub written_back : {A : Type 0} (len : ℕ) (old new : List A) → len ≡ length old → length new ≡ length old → take len (new ++ drop (length new) old) ≡ new
written_back len old new e same = ap (λ l. take len (new ++ l)) (drop_all (length new) old (omega arith)) ∙ ap (take len) (append-nil new) ∙ take_all len new (omega arith)
