-- Three sources of one number of channels.
use Rattle.std.proofs.Common.{◌≡◌, ℕ, zero, suc, ◌<◌, List, [], ◌∷◌, All, refl, arith, subst, sym}
use Rattle.std.specs.Prelude.{slice_index}
use Rattle.std.proofs.lemmas.List.Elements.{All-weaker}
use Rattle.sound_model.specs.Regions.{Region}
use Rattle.playlist_layers.specs.Reads.{HasSource}

each_of_three : (channels s : ℕ) → s < 3 → slice_index (channels ∷ channels ∷ channels ∷ []) s ≡ channels
each_of_three channels zero h = refl
each_of_three channels (suc zero) h = refl
each_of_three channels (suc (suc zero)) h = refl
each_of_three channels (suc (suc (suc s))) h = absurd (omega arith)

one_of_three : (channels : ℕ) (r : Region) → r.source < 3 → HasSource (channels ∷ channels ∷ channels ∷ []) channels r
one_of_three channels r h = record { there = h; same = each_of_three channels r.source h }

pub three_sources : (sources : List ℕ) (channels : ℕ) (rs : List Region) → sources ≡ channels ∷ channels ∷ channels ∷ [] → All (λ r. r.source < 3) rs → All (HasSource sources channels) rs
three_sources sources channels rs e few = subst (λ cs. All (HasSource cs channels) rs) (sym e) (All-weaker (λ r. r.source < 3) (HasSource (channels ∷ channels ∷ channels ∷ []) channels) (one_of_three channels) rs few)
