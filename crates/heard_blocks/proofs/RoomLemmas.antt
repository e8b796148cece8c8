-- A block of a track: whole frames of one channel or two, for which there is room.
use Rattle.std.proofs.lemmas.Grind.{common_steps}
use Rattle.std.proofs.Common.{drop, take, List, ◌++◌, ◌≡◌, ℕ, ◌+◌, ◌*◌, ◌^◌, ◌<◌, ◌≤◌, ◌⊎◌, inl, inr, le_refl, length, sym, ap, subst, ◌∙◌, arith}
use Rattle.std.specs.Prelude.{Option}
use Rattle.std.specs.Option.{option_map_or}
use Rattle.std.proofs.lemmas.Option.{slice_get_cases}
use Rattle.session_model.specs.declared.session.Session.{Session}
use Rattle.session_model.specs.declared.route.Route.{Route}
use Rattle.session_model.specs.Formed.{channels_at}
use Rattle.session_model.specs.Valid.{IsValid}
use Rattle.track_render.specs.Blocks.{IsBlock}
use Rattle.track_render.proofs.TrackLemmas.{few_channels}
use Rattle.heard_blocks.specs.Playing.{track_samples}

abbrev OneOrTwo : ℕ → Type 0
OneOrTwo n = (n ≡ 1) ⊎ (n ≡ 2)

-- a track has one channel or two
track_channels : (s : Session) (t : ℕ) → IsValid s → t < length s.tracks.items → OneOrTwo (channels_at s t)
track_channels s t valid near = let master = valid.formed.limits.master in elim (slice_get_cases s.routes.items t).1 [
  | inl found ↦ subst OneOrTwo (sym (ap (λ (o : Option Route). option_map_or (λ q. q.channels) o 0) found.2)) (few_channels s t found.0 valid.formed found.2)
  | inr past ↦ (let end = past.0 in absurd (omega arith))
]

whole : (block c : ℕ) → OneOrTwo c → IsBlock c block (block * c)
whole block c (inl one) = subst (λ (n : ℕ). IsBlock n block (block * n)) (sym one) (record { whole = omega arith; room = le_refl (block * 1) })
whole block c (inr two) = subst (λ (n : ℕ). IsBlock n block (block * n)) (sym two) (record { whole = omega arith; room = le_refl (block * 2) })

within : (block c : ℕ) → OneOrTwo c → block * c ≤ 2 * block
within block c (inl one) = subst (λ (n : ℕ). block * n ≤ 2 * block) (sym one) (omega arith)
within block c (inr two) = subst (λ (n : ℕ). block * n ≤ 2 * block) (sym two) (omega arith)

module _ (s : Session) (t : ℕ) (valid : IsValid s) (near : t < length s.tracks.items) where
  pub whole_block : IsBlock (channels_at s t) s.block (track_samples s t)
  whole_block = whole s.block (channels_at s t) (track_channels s t valid near)

  pub within_room : track_samples s t ≤ 2 * s.block
  within_room = within s.block (channels_at s t) (track_channels s t valid near)

  -- its frames are near the start of their generation
  pub frames_near : (first n : ℕ) → first ≤ 409595904 → n ≡ track_samples s t → first + n < 2 ^ 30
  frames_near first n low is = let most = valid.formed.limits.block.most in let few = within_room in omega (arith, low, is, most, few)

  -- and none is without samples
  pub some_samples : ¬ (track_samples s t ≡ 0)
  some_samples none = some s.block (channels_at s t) valid.formed.limits.block.least (track_channels s t valid near) none
    where
      some : (block c : ℕ) → 1 ≤ block → OneOrTwo c → block * c ≡ 0 → ⊥
      some block c least (inl one) none = let is : block * 1 ≡ 0 = ap (λ n. block * n) (sym one) ∙ none in omega (arith, least, is)
      some block c least (inr two) none = let is : block * 2 ≡ 0 = ap (λ n. block * n) (sym two) ∙ none in omega (arith, least, is)

-- ---- a room that was filled

filled : {X : Type 0} (n : ℕ) (new old : List X) → length new ≡ n → take n (new ++ drop (length new) old) ≡ new
filled n new old long = grind (arith, long, common_steps)

-- it holds what it was filled with
pub is_kept : {X : Type 0} (n : ℕ) (now new taken old : List X) → now ≡ take n (new ++ drop (length new) old) → length new ≡ length taken → length taken ≡ n → now ≡ new
is_kept n now new taken old shown long whole = shown ∙ filled n new old (long ∙ whole)
