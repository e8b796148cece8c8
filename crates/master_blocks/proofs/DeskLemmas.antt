-- The desk of a session is one of each of its editions, and the size of the master's block.
use Rattle.std.proofs.Common.{◌≡◌, ℕ, ◌-◌, ◌*◌, ◌<◌, ◌≤◌, inl, inr, List, [], ◌∷◌, length, get_or, map, refl, ap, sym, ◌∙◌, arith}
use Rattle.session_model.specs.declared.route.Route.{Route}
use Rattle.session_model.specs.declared.session.Session.{Session}
use Rattle.session_model.specs.Formed.{channels_at}
use Rattle.session_model.specs.Valid.{IsValid}
use Rattle.engine_model.specs.Fixed.{FixedRoute, fixed_of}
use Rattle.engine_model.specs.Played.{master_channels}
use Rattle.engine_laws.proofs.FixedLemmas.{fixed_route}
use Rattle.engine_laws.proofs.PlayedLemmas.{fixed_stands}
use Rattle.edition_log.specs.EditionState.{EditionState, IsEditionOf}
use Rattle.route_mix.specs.Blocks.{AreFew}
use Rattle.route_mix.specs.Desks.{DeskState, IsDeskOf, block_sizes, master_block}
use Rattle.route_mix.proofs.DeskLemmas.{a_route, sizes_of}
use Rattle.route_mix.proofs.RouteLemmas.{few_at, most_at}
use Rattle.master_blocks.specs.Bytes.{block_samples}

-- ---- the sizes of blocks

-- by what no edit changes
sizes_by_fixed : (b : ℕ) (qs : List Route) → map (λ (q : Route). b * q.channels) qs ≡ map (λ (f : FixedRoute). b * f.channels) (map fixed_route qs)
sizes_by_fixed b [] = refl
sizes_by_fixed b (q ∷ qs) = ap (λ ns. b * q.channels ∷ ns) (sizes_by_fixed b qs)

module _ (s z : Session) (same : fixed_of z ≡ fixed_of s) where
  pub block_stays : z.block ≡ s.block
  block_stays = ap (λ x. x.block) same

  sizes_stay : block_sizes z ≡ block_sizes s
  sizes_stay = sizes_by_fixed z.block z.routes.items
      ∙ ap (λ x. map (λ (f : FixedRoute). x.block * f.channels) x.routes) same
      ∙ sym (sizes_by_fixed s.block s.routes.items)

  -- a desk of one is a desk of the other
  pub desk_stays : (d : DeskState) → IsDeskOf s d → IsDeskOf z d
  desk_stays d is = record { block = is.block ∙ sym block_stays; inputs = is.inputs ∙ sym sizes_stay; posts = is.posts ∙ sym sizes_stay }

-- an edition has what no edit changes
pub fixed_in : (s : Session) (e : EditionState) → IsEditionOf s e → fixed_of e.session ≡ fixed_of s
fixed_in s e is = ap (λ x. fixed_of x.session) is.state ∙ fixed_stands s e.edits (length e.edits)

-- ---- the master's block

pub last_there : (s : Session) → IsValid s → length s.routes.items - 1 < length s.routes.items
last_there s valid = omega (arith, valid.formed.limits.master)

pub master_few : (s : Session) → IsValid s → AreFew (master_channels s)
master_few s valid = few_at s valid.formed (length s.routes.items - 1) (last_there s valid) (a_route s valid.formed)

pub master_most : (s : Session) → IsValid s → master_channels s ≤ 2
master_most s valid = most_at s valid.formed (length s.routes.items - 1) (last_there s valid) (a_route s valid.formed)

pub master_least : (s : Session) → IsValid s → 1 ≤ master_channels s
master_least s valid = some (master_few s valid)
  where
    some : AreFew (master_channels s) → 1 ≤ master_channels s
    some (inl one) = omega (arith, one)
    some (inr two) = omega (arith, two)

-- how many samples it has
pub master_long : (s : Session) (d : DeskState) → IsValid s → IsDeskOf s d → length (master_block d) ≡ block_samples s
master_long s d valid is = let sizes = sizes_of s (a_route s valid.formed) d.posts is.posts in
    ap (λ n. length (get_or d.posts (n - 1) [])) sizes.all ∙ sizes.each (length s.routes.items - 1) (last_there s valid)

-- the block of a track is one of the desk's
pub track_long : (s : Session) (d : DeskState) (t : ℕ) → IsValid s → IsDeskOf s d → t < length s.tracks.items → length (get_or d.inputs t []) ≡ s.block * channels_at s t
track_long s d t valid is h = (sizes_of s (a_route s valid.formed) d.inputs is.inputs).each t (omega (arith, h, valid.formed.limits.master))

pub track_there : (s : Session) (d : DeskState) (t : ℕ) → IsValid s → IsDeskOf s d → t < length s.tracks.items → t < length d.inputs
track_there s d t valid is h = omega (arith, h, valid.formed.limits.master, (sizes_of s (a_route s valid.formed) d.inputs is.inputs).all)
