-- The form of the master.
use Rattle.std.proofs.Common.{◌≡◌, ◌-◌, ◌≤◌, ◌⊎◌, ⊎_elim, length, ap, arith, sym, subst, List}
use Rattle.std.specs.Option.{option_map_or}
use Rattle.std.proofs.lemmas.Option.{slice_get_cases}
use Rattle.engine_model.specs.Played.{master_channels}
use Rattle.offline_render.proofs.FrameLemmas.{one_or_two}
use Rattle.std.specs.Prelude.{slice_index_or}
use Rattle.session_model.specs.declared.route.Route.{Route}
use Rattle.session_model.specs.declared.session.Session.{Session}
use Rattle.session_model.specs.Formed.{IsFormed, IsBetween}
use Rattle.route_graph.proofs.GraphLaws.{item_at}

-- the channels of the last route
pub last_channels : (s : Session) → IsFormed s → (items : List Route) (q : Route) → items ≡ s.routes.items → q ≡ slice_index_or items (length items - 1) q
    → IsBetween 1 (slice_index_or items (length items - 1) q).channels 2
last_channels s formed items q same is = subst (λ n. IsBetween 1 n 2) (ap (λ x. x.channels) is)
    (formed.routes (length items - 1) q (item_at s items (length items - 1) q same (omega (arith, ap length same, formed.limits.master)) is)).channels

-- the master has one channel or two
pub master_few : (s : Session) → IsFormed s → (master_channels s ≡ 1) ⊎ (master_channels s ≡ 2)
master_few s formed = ⊎_elim
    (λ w. let wide = ap (λ o. option_map_or (λ q. q.channels) o 0) w.2 in let channels = (formed.routes (length s.routes.items - 1) w.0 w.2).channels in
    subst (λ n. (n ≡ 1) ⊎ (n ≡ 2)) (sym wide) (one_or_two w.0.channels channels.least channels.most))
    (λ w. absurd (omega (arith, w.0, formed.limits.master))) (slice_get_cases s.routes.items (length s.routes.items - 1)).1

pub master_most : (s : Session) → IsFormed s → master_channels s ≤ 2
master_most s formed = ⊎_elim (λ one. omega (arith, one)) (λ two. omega (arith, two)) (master_few s formed)
