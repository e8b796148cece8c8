-- A change of one route leaves a whole session.
use Rattle.std.proofs.Common.{◌≡◌, ℕ, zero, suc, ◌≤◌, ◌<◌, ◌+◌, ◌^◌, List, [], ◌∷◌, length, filter, refl, ap, subst, arith}
use Rattle.std.specs.Prelude.{Bool, true, not, ◌==◌, Option, Some, None, slice_get, IsSomeAnd}
use Rattle.std.specs.Option.{option_map_or}
use Rattle.std.proofs.lemmas.List.Elements.{All-filter, All-weaker}
use Rattle.sound_model.specs.Lanes.{Point}
use Rattle.sound_model.specs.Routes.{NoCycle}
use Rattle.ses_units.specs.declared.mode.Mode.{Mode}
use Rattle.ses_units.specs.Lane.{with_point, without_point}
use Rattle.ses_units.proofs.LaneLemmas.{IsLane-with, IsLane-without}
use Rattle.session_model.specs.declared.route.SendLink.{SendLink}
use Rattle.session_model.specs.declared.route.Route.{Route}
use Rattle.session_model.specs.declared.session.Session.{Session}
use Rattle.session_model.specs.Formed.{MayFeed, IsFormedRoute, channels_at}
use Rattle.session_model.specs.Views.{routes_of}
use Rattle.engine_model.specs.Changes.{Muted, Faded, Panned, InMode, PointSet, PointUnset, Leads, SendSet, SendUnset, with_route, with_send, without_send, sending, made}
use Rattle.engine_model.specs.MayMake.{HasQuietGains, MayLink}
use Rattle.engine_model.specs.Commands.{other_points, other_sends}
use Rattle.engine_model.specs.Fixed.{fixed_of}
use Rattle.edit_laws.specs.CommandLaws.{IsWhole}
use Rattle.edit_laws.proofs.FrameLemmas.{IsLike, same_route, each_changed, all_changed, formed_by, route_stays, route_leads, tracks_stay, feed_stays, output_of, some_and}
use Rattle.edit_laws.proofs.SendLemmas.{All-with_send, few_with_send, apart_with_send, few_without_send, apart_without_send, points_elsewhere}
use Rattle.edit_laws.proofs.LinkLemmas.{feeds_on, no_cycle_left, no_cycle_more, feeds_with, feeds_without, feeds_target}

-- what the route at a place keeps, and the whole session with it
module _ (s : Session) (f : Route → Route) (r : ℕ) (whole : IsWhole s) (same : fixed_of (with_route f r s) ≡ fixed_of s) where
  abbrev Z : Session
  Z = with_route f r s

  by_route : ((q : Route) → slice_get s.routes.items r ≡ Some q → IsFormedRoute s r q → IsFormedRoute Z r (f q)) →
      ((q : Route) → slice_get s.routes.items r ≡ Some q → HasQuietGains q → HasQuietGains (f q)) → NoCycle (routes_of Z) → IsWhole Z
  by_route formed quiet none = record {
    valid = record {
      formed = formed_by s Z same whole.valid.formed
          (each_changed (IsFormedRoute s) (IsFormedRoute Z) f r s.routes.items (λ i q h. route_stays s Z same i q q (same_route q) refl refl refl refl h) formed whole.valid.formed.routes)
          (tracks_stay s Z same whole.valid.formed.tracks);
      no_cycle = none;
    };
    types = record { routes = all_changed HasQuietGains f r s.routes.items quiet whole.types.routes; tracks = whole.types.tracks };
  }

  -- a setting that is no link and doesn't tell one channel's way into two
  by_setting : ((q : Route) → IsLike q (f q)) → ((q : Route) → (f q).left ≡ q.left) → ((q : Route) → (f q).right ≡ q.right) → ((q : Route) → (f q).target ≡ q.target) → ((q : Route) →
      (f q).sends ≡ q.sends) →
      ((q : Route) (to : ℕ) → feeds_on to (f q) ≡ true → feeds_on to q ≡ true) → ((q : Route) → slice_get s.routes.items r ≡ Some q → HasQuietGains q → HasQuietGains (f q)) → IsWhole Z
  by_setting like left right target sends links quiet = by_route (λ q here h. route_stays s Z same r q (f q) (like q) (left q) (right q) (target q) (sends q) h) quiet
      (no_cycle_left s Z f r refl links whole.valid.no_cycle)

past_none : {X : Type 0} (xs : List X) (i : ℕ) → i < length xs → slice_get xs i ≡ None → ⊥
past_none [] i lt none = omega arith
past_none (x ∷ xs) zero lt none = cc
past_none (x ∷ xs) (suc i) lt none = past_none xs i (omega arith) none

-- a number of the route at a place
at_place : (f : Route → ℕ) (r : ℕ) (s : Session) (q : Route) → slice_get s.routes.items r ≡ Some q → option_map_or f (slice_get s.routes.items r) 0 ≡ f q
at_place f r s q here = ap (λ o. option_map_or f o 0) here

module _ (s : Session) (r : ℕ) (whole : IsWhole s) where
  pub muted_whole : (on : Bool) → fixed_of (made s (Muted r on)) ≡ fixed_of s → IsWhole (made s (Muted r on))
  muted_whole on same = by_setting s (λ q. record q { muted = on }) r whole same (λ q. record { name = refl; kind = refl; channels = refl }) (λ q. refl) (λ q. refl) (λ q. refl)
      (λ q. refl) (λ q to l. l)
      (λ q here h. record { fader = h.fader; left = h.left; right = h.right; lane = h.lane; sends = h.sends })

  pub faded_whole : (gain : ℕ) → gain ≤ 262144 → fixed_of (made s (Faded r gain)) ≡ fixed_of s → IsWhole (made s (Faded r gain))
  faded_whole gain quiet same = by_setting s (λ q. record q { fader = gain }) r whole same (λ q. record { name = refl; kind = refl; channels = refl }) (λ q. refl) (λ q. refl) (λ q. refl)
      (λ q. refl) (λ q to l. l)
      (λ q here h. record { fader = quiet; left = h.left; right = h.right; lane = h.lane; sends = h.sends })

  pub mode_whole : (mode : Mode) → fixed_of (made s (InMode r mode)) ≡ fixed_of s → IsWhole (made s (InMode r mode))
  mode_whole mode same = by_setting s (λ q. record q { mode = mode }) r whole same (λ q. record { name = refl; kind = refl; channels = refl }) (λ q. refl) (λ q. refl) (λ q. refl)
      (λ q. refl) (λ q to l. l)
      (λ q here h. record { fader = h.fader; left = h.left; right = h.right; lane = h.lane; sends = h.sends })

  pub point_set_whole : (p : Point) → p.at < 2 ^ 40 → p.gain ≤ 262144 → other_points s r p.at < 1024 → fixed_of (made s (PointSet r p)) ≡ fixed_of s → IsWhole (made s (PointSet r p))
  point_set_whole p near quiet room same = by_setting s (λ q. record q { lane = with_point q.lane p }) r whole same (λ q. record { name = refl; kind = refl; channels = refl }) (λ q. refl)
      (λ q. refl) (λ q. refl) (λ q. refl) (λ q to l. l)
      (λ q here h. record {
        fader = h.fader;
        left = h.left;
        right = h.right;
        sends = h.sends;
        lane = IsLane-with q.lane p h.lane near quiet (fits q (at_place (λ q. length (filter (λ x. not (x.at == p.at)) q.lane)) r s q here));
      })
    where
      fits : (q : Route) → other_points s r p.at ≡ length (filter (λ x. not (x.at == p.at)) q.lane) → length (without_point q.lane p.at) < 1024
      fits q is = omega (arith, points_elsewhere p.at q.lane, is, room)

  pub point_unset_whole : (place : ℕ) → fixed_of (made s (PointUnset r place)) ≡ fixed_of s → IsWhole (made s (PointUnset r place))
  point_unset_whole place same = by_setting s (λ q. record q { lane = without_point q.lane place }) r whole same (λ q. record { name = refl; kind = refl; channels = refl }) (λ q. refl)
      (λ q. refl) (λ q. refl) (λ q. refl) (λ q to l. l)
      (λ q here h. record { fader = h.fader; left = h.left; right = h.right; lane = IsLane-without q.lane place h.lane; sends = h.sends })

  -- ---- what only a route but the master has

  -- such a route has an output
  has_output : (q : Route) → r + 1 < length s.routes.items → IsFormedRoute s r q → IsSomeAnd q.target (MayFeed s q)
  has_output q sender h = output_of s r q sender h.kind h.output

  pub panned_whole : (left right : ℕ) → r + 1 < length s.routes.items → left ≤ 262144 → right ≤ 262144 → fixed_of (made s (Panned r left right)) ≡ fixed_of s → IsWhole (made s (Panned r left right))
  panned_whole left right sender quiet quiet_right same = let f : Route → Route = λ q. record q { left = left; right = right } in let z = with_route f r s in by_route s f r whole same
      (λ q here h. route_leads s z same r q (f q) (record { name = refl; kind = refl; channels = refl }) sender (some_and q.target
      (λ to m. feed_stays s z same q (f q) to refl m) (has_output q sender h))
      h.few h.room (All-weaker (λ l. MayFeed s q l.to) (λ l. MayFeed z (f q) l.to) (λ l m. feed_stays s z same q (f q) l.to refl m) q.sends.items h.sends) h.apart h)
      (λ q here h. record { fader = h.fader; left = quiet; right = quiet_right; lane = h.lane; sends = h.sends })
      (no_cycle_left s z f r refl (λ q to l. l) whole.valid.no_cycle)

  -- the route at a place may feed another
  may_feed : (q : Route) (to : ℕ) → slice_get s.routes.items r ≡ Some q → MayLink s r to → MayFeed s q to
  may_feed q to here may = record { no_track = may.no_track; wide = by_next (slice_get s.routes.items to) refl }
    where
      by_next : (o : Option Route) → slice_get s.routes.items to ≡ o → IsSomeAnd o (λ next. q.channels ≤ next.channels)
      by_next None none = absurd (past_none s.routes.items to may.there none)
      by_next (Some next) is = subst (λ n. n ≤ next.channels) (at_place (λ x. x.channels) r s q here) (subst (λ n. channels_at s r ≤ n) (at_place (λ x. x.channels) to s next is) may.wide)

  pub leads_whole : (to : ℕ) → MayLink s r to → fixed_of (made s (Leads r to)) ≡ fixed_of s → IsWhole (made s (Leads r to))
  leads_whole to may same = let f : Route → Route = λ q. record q { target = Some to } in let z = with_route f r s in by_route s f r whole same
      (λ q here h. route_leads s z same r q (f q) (record { name = refl; kind = refl; channels = refl }) may.sender (feed_stays s z same q (f q) to refl (may_feed q to here may))
      h.few h.room (All-weaker (λ l. MayFeed s q l.to) (λ l. MayFeed z (f q) l.to) (λ l m. feed_stays s z same q (f q) l.to refl m) q.sends.items h.sends) h.apart h)
      (λ q here h. record { fader = h.fader; left = h.left; right = h.right; lane = h.lane; sends = h.sends })
      (no_cycle_more s z f r to refl (λ q next. feeds_target to q next) may.no_cycle whole.valid.no_cycle)

  pub send_set_whole : (link : SendLink) → MayLink s r link.to → link.gain ≤ 262144 → other_sends s r link.to < 8 → fixed_of (made s (SendSet r link)) ≡ fixed_of s →
      IsWhole (made s (SendSet r link))
  send_set_whole link may quiet room same = let f : Route → Route = sending (with_send link) in let z = with_route f r s in by_route s f r whole same
      (λ q here h. route_leads s z same r q (f q) (record { name = refl; kind = refl; channels = refl }) may.sender (some_and q.target
      (λ to m. feed_stays s z same q (f q) to refl m) (has_output q may.sender h))
      (few_with_send link q.sends.items h.few (fits q (at_place (λ x. length (filter (λ l. not (l.to == link.to)) x.sends.items)) r s q here))) h.room
      (All-with_send (λ l. MayFeed z (f q) l.to) link q.sends.items (feed_stays s z same q (f q) link.to refl (may_feed q link.to here may))
      (All-weaker (λ l. MayFeed s q l.to) (λ l. MayFeed z (f q) l.to) (λ l m. feed_stays s z same q (f q) l.to refl m) q.sends.items h.sends))
      (apart_with_send link q.sends.items h.apart) h)
      (λ q here h. record { fader = h.fader; left = h.left; right = h.right; lane = h.lane; sends = All-with_send (λ l. l.gain ≤ 262144) link q.sends.items quiet h.sends })
      (no_cycle_more s z f r link.to refl (λ q next. feeds_with link q next) may.no_cycle whole.valid.no_cycle)
    where
      fits : (q : Route) → other_sends s r link.to ≡ length (filter (λ l. not (l.to == link.to)) q.sends.items) → length (filter (λ l. not (l.to == link.to)) q.sends.items) < 8
      fits q is = subst (λ n. n < 8) is room

  pub send_unset_whole : (to : ℕ) → r + 1 < length s.routes.items → fixed_of (made s (SendUnset r to)) ≡ fixed_of s → IsWhole (made s (SendUnset r to))
  send_unset_whole to sender same = let f : Route → Route = sending (without_send to) in let z = with_route f r s in by_route s f r whole same
      (λ q here h. route_leads s z same r q (f q) (record { name = refl; kind = refl; channels = refl }) sender (some_and q.target
      (λ x m. feed_stays s z same q (f q) x refl m) (has_output q sender h))
      (few_without_send to q.sends.items h.few) h.room
      (All-filter (λ l. not (l.to == to)) (λ l. MayFeed z (f q) l.to) q.sends.items (All-weaker (λ l. MayFeed s q l.to) (λ l. MayFeed z (f q) l.to)
      (λ l m. feed_stays s z same q (f q) l.to refl m) q.sends.items h.sends))
      (apart_without_send to q.sends.items h.apart) h)
      (λ q here h. record { fader = h.fader; left = h.left; right = h.right; lane = h.lane; sends = All-filter (λ l. not (l.to == to)) (λ l. l.gain ≤ 262144) q.sends.items h.sends })
      (no_cycle_left s z f r refl (λ q next. feeds_without to q next) whole.valid.no_cycle)
