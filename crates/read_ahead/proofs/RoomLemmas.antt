-- A block of a track: whole frames of one channel or two.
use Rattle.std.proofs.Common.{◌≡◌, ℕ, ◌*◌, ◌<◌, ◌≤◌, ◌⊎◌, inl, inr, le_refl, length, sym, ap, subst, arith}
use Rattle.std.specs.Prelude.{Option, Some, slice_get}
use Rattle.std.specs.Option.{option_map_or}
use Rattle.std.proofs.lemmas.Option.{slice_get_cases}
use Rattle.session_model.specs.declared.session.Session.{Session}
use Rattle.session_model.specs.declared.route.Route.{Route}
use Rattle.session_model.specs.Formed.{channels_at}
use Rattle.session_model.specs.Valid.{IsValid}
use Rattle.track_render.specs.Blocks.{IsBlock}
use Rattle.track_render.proofs.TrackLemmas.{few_channels}

abbrev pub OneOrTwo : ℕ → Type 0
OneOrTwo n = (n ≡ 1) ⊎ (n ≡ 2)

-- a track has one channel or two
pub track_channels : (s : Session) (t : ℕ) → IsValid s → t < length s.tracks.items → OneOrTwo (channels_at s t)
track_channels s t valid near = let master = valid.formed.limits.master in elim (slice_get_cases s.routes.items t).1 [
  | inl found ↦ subst OneOrTwo (sym (ap (λ (o : Option Route). option_map_or (λ q. q.channels) o 0) found.2)) (few_channels s t found.0 valid.formed found.2)
  | inr past ↦ (let end = past.0 in absurd (omega arith))
]

pub channels_read : (s : Session) (t : ℕ) (q : Route) → slice_get s.routes.items t ≡ Some q → channels_at s t ≡ q.channels
channels_read s t q there = ap (λ (o : Option Route). option_map_or (λ (r : Route). r.channels) o 0) there

pub whole_block : (block c : ℕ) → OneOrTwo c → IsBlock c block (block * c)
whole_block block c (inl one) = subst (λ (n : ℕ). IsBlock n block (block * n)) (sym one) (record { whole = omega arith; room = le_refl (block * 1) })
whole_block block c (inr two) = subst (λ (n : ℕ). IsBlock n block (block * n)) (sym two) (record { whole = omega arith; room = le_refl (block * 2) })

pub few_samples : (block c : ℕ) → OneOrTwo c → block ≤ 4096 → block * c ≤ 8192
few_samples block c (inl one) near = subst (λ (n : ℕ). block * n ≤ 8192) (sym one) (omega arith)
few_samples block c (inr two) near = subst (λ (n : ℕ). block * n ≤ 8192) (sym two) (omega arith)
