-- What is heard of regions over a span, looked for from the highest down.
use Rattle.std.proofs.Common.{◌≡◌, ℕ, ◌+◌, ◌-◌, ◌<◌, ◌≤◌, inl, inr, true, false, List, [], ◌∷◌, ◌++◌, length, get_or, take, drop, reverse, All, ap, sym, ◌∙◌, arith, append_assoc}
use Rattle.std.proofs.lemmas.List.{reverse-append, map-append, append-nil, take-append-drop}
use Rattle.std.proofs.lemmas.List.Elements.{All-same, All-push}
use Rattle.std.proofs.lemmas.Bool.Decides.{nat_tests}
use Rattle.sound_model.specs.Numbers.{unity}
use Rattle.sound_model.specs.Regions.{Region, Sounds, covers, fade}
use Rattle.sound_model.specs.Layers.{lay}
use Rattle.sound_laws.proofs.LayerLaws.{lay-elsewhere, lay-above, hides_all_below}
use Rattle.ramp_fixed.specs.Fades.{IsUnfaded}
use Rattle.ramp_fixed.proofs.FadeValues.{fade_full}
use Rattle.playlist_layers.specs.Spans.{IsWhole, CoversSpan, SoundAlike, no_region, picked}
use Rattle.playlist_layers.proofs.LayerSteps.{covers_there}
use Rattle.playlist_layers.proofs.Places.{dropped}

-- ---- cut spans

pub covers_all : (r : Region) (here count : ℕ) → IsWhole here (here + count) r → covers r here ≡ true → CoversSpan here count r
covers_all r here count whole there = record { begun = grind (arith, nat_tests); lasts = let end : here < r.at + r.long = grind (arith, nat_tests) in whole.ends end }

pub covers_none : (r : Region) (here count x : ℕ) → IsWhole here (here + count) r → covers r here ≡ false → here ≤ x → x < here + count → covers r x ≡ false
covers_none r here count x whole none low high = let b = whole.begins in let e = whole.ends in grind (arith, nat_tests)

-- ---- the walk down

-- over a span, regions with any below them sound as others do with these below them
abbrev pub StandsFor : ℕ → ℕ → List Region → List Region → Type 0
StandsFor here count regions others = (sounds : Sounds) (c x : ℕ) → here ≤ x → x < here + count → (below : List Region) → lay sounds c x (regions ++ below) ≡ lay sounds c x (others ++ below)

pub turned : (r : Region) (rs below : List Region) → reverse (r ∷ rs) ++ below ≡ reverse rs ++ r ∷ below
turned r rs below = ap (λ l. l ++ below) (reverse-append (r ∷ []) rs) ∙ append_assoc (reverse rs) (r ∷ []) below

stands_with : (here count : ℕ) (out rs : List Region) (r : Region) → StandsFor here count out (reverse rs) → StandsFor here count (out ++ r ∷ []) (reverse (r ∷ rs))
stands_with here count out rs r so_far sounds c x low high below =
    ap (lay sounds c x) (append_assoc out (r ∷ []) below) ∙ so_far sounds c x low high (r ∷ below) ∙ ap (lay sounds c x) (sym (turned r rs below))

stands_without : (here count : ℕ) (out rs : List Region) (r : Region) → IsWhole here (here + count) r → covers r here ≡ false → StandsFor here count out (reverse rs) → StandsFor here count out (reverse (r ∷ rs))
stands_without here count out rs r whole none so_far sounds c x low high below =
    so_far sounds c x low high below
    ∙ lay-above sounds c x (reverse rs) below (r ∷ below) (sym (lay-elsewhere sounds c x r below (covers_none r here count x whole none low high)))
    ∙ ap (lay sounds c x) (sym (turned r rs below))

hidden : (here count : ℕ) (out rs rest : List Region) (r : Region) → CoversSpan here count r → r.opaque ≡ true → IsUnfaded r.long r.fade_in r.fade_out (here - r.at) count
    → StandsFor here count out (reverse rs) → SoundAlike here count (out ++ r ∷ []) (reverse (rest ++ r ∷ rs))
hidden here count out rs rest r span opaque full so_far sounds c x low high =
    sym (hides_all_below sounds out (reverse rest) r c x (record { there = covers_there r here count x span low high; opaque = opaque; full = full_there full }))
    ∙ so_far sounds c x low high (r ∷ reverse rest)
    ∙ ap (lay sounds c x) (sym (reverse-append rest (r ∷ rs) ∙ turned r rs (reverse rest)))
  where
    full_there : IsUnfaded r.long r.fade_in r.fade_out (here - r.at) count → fade r (x - r.at) ≡ unity
    full_there (inl none) = absurd (omega arith)
    full_there (inr (within, before)) = let b = span.begun in fade_full r (x - r.at) (omega arith) (omega arith)

-- ---- the same, of places of a playlist

module _ (here count : ℕ) (regions : List Region) (places out new : List ℕ) (i : ℕ) (some : 0 < i) (within : i ≤ length places) (so_far : StandsFor here count (picked regions out) (reverse (picked regions (drop i places)))) where
  abbrev now : Region
  now = get_or regions (get_or places (i - 1) 0) no_region

  pushed : new ≡ out ++ get_or places (i - 1) 0 ∷ [] → picked regions new ≡ picked regions out ++ now ∷ []
  pushed e = ap (picked regions) e ∙ map-append (λ p. get_or regions p no_region) out (get_or places (i - 1) 0 ∷ [])

  pub with_place : new ≡ out ++ get_or places (i - 1) 0 ∷ [] → StandsFor here count (picked regions new) (reverse (picked regions (drop (i - 1) places)))
  with_place e sounds c x low high below =
      ap (λ rs. lay sounds c x (rs ++ below)) (pushed e)
      ∙ stands_with here count (picked regions out) (picked regions (drop i places)) now so_far sounds c x low high below
      ∙ ap (λ ps. lay sounds c x (reverse (picked regions ps) ++ below)) (sym (dropped places i some within))

  pub without_place : IsWhole here (here + count) now → covers now here ≡ false → StandsFor here count (picked regions out) (reverse (picked regions (drop (i - 1) places)))
  without_place whole none sounds c x low high below =
      stands_without here count (picked regions out) (picked regions (drop i places)) now whole none so_far sounds c x low high below
      ∙ ap (λ ps. lay sounds c x (reverse (picked regions ps) ++ below)) (sym (dropped places i some within))

  pub hiding_place : new ≡ out ++ get_or places (i - 1) 0 ∷ [] → CoversSpan here count now → now.opaque ≡ true → IsUnfaded now.long now.fade_in now.fade_out (here - now.at) count
      → SoundAlike here count (picked regions new) (reverse (picked regions places))
  hiding_place e span opaque full sounds c x low high =
      ap (lay sounds c x) (pushed e)
      ∙ hidden here count (picked regions out) (picked regions (drop i places)) (picked regions (take (i - 1) places)) now span opaque full so_far sounds c x low high
      ∙ ap (λ rs. lay sounds c x (reverse rs))
      (sym (map-append (λ p. get_or regions p no_region) (take (i - 1) places) (get_or places (i - 1) 0 ∷ drop i places))
      ∙ ap (picked regions) (ap (λ ps. take (i - 1) places ++ ps) (sym (dropped places i some within)) ∙ take-append-drop (i - 1) places))

  pub covers_more : (P : Region → Type 0) → new ≡ out ++ get_or places (i - 1) 0 ∷ [] → P now → All P (picked regions out) → All P (picked regions new)
  covers_more P e here_too before = All-same P (picked regions new) (picked regions out ++ now ∷ []) (pushed e) (All-push P (picked regions out) now before here_too)

pub all_looked_at : (here count : ℕ) (regions : List Region) (places out : List ℕ) (i : ℕ) → i ≡ 0 → StandsFor here count (picked regions out) (reverse (picked regions (drop i places)))
    → SoundAlike here count (picked regions out) (reverse (picked regions places))
all_looked_at here count regions places out i none so_far sounds c x low high =
    ap (lay sounds c x) (sym (append-nil (picked regions out))) ∙ so_far sounds c x low high []
    ∙ ap (lay sounds c x) (append-nil (reverse (picked regions (drop i places))) ∙ ap (λ k. reverse (picked regions (drop k places))) none)
