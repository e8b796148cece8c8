-- The tests of a formed and of a valid session are the records of facts.
use Rattle.std.proofs.Common.{◌≡◌, ℕ, Bool, true, false, not, refl, ap, List}
use Rattle.std.specs.Prelude.{codes}
use Rattle.sound_model.specs.Numbers.{unity}
use Rattle.sound_model.specs.Regions.{Region}
use Rattle.sound_model.specs.Routes as sound
use Rattle.sound_laws.proofs.CycleLaws.{cycles_are_found}
use Rattle.session_model.specs.declared.route.RouteKind.{RouteKind}
use Rattle.session_model.specs.declared.route.RouteKind.TheVariants.{Track as OfTrack, Bus, Master}
use Rattle.session_model.specs.declared.route.Route.{Route}
use Rattle.session_model.specs.declared.track.Track.{Track}
use Rattle.session_model.specs.declared.session.SourceDecl.{SourceDecl}
use Rattle.session_model.specs.declared.session.Session.{Session}
use Rattle.session_model.specs.Formed.{IsBetween, HasLimits, HasNames, IsFormedSource, MayFeed, IsMaster, LeadsOn, IsFormedRoute, channels_at, HasSource, IsFormedTrack, IsFormed}
use Rattle.session_model.specs.Valid.{IsValid}
use Rattle.session_model.specs.Views.{routes_of}
use Rattle.session_model.specs.Tests.{is_between, has_limits, has_names, is_formed_source, same_kind, may_feed, is_master, leads_on, is_formed_route, has_source, is_formed_track, is_formed, valid_where, is_valid}
use Rattle.session_model.specs.Laws.{FormIsTested, ValidityIsTested}
use Rattle.session_model.proofs.TestLemmas.{IsTest, ◌also◌, other_words, implied, le_tested, lt_tested, eq_tested, bytes_tested, is_none_tested, some_tested, if_some_tested, none_tested, all_tested, each_tested, apart_tested}

between : (low n high : ℕ) → IsTest (is_between low n high) (IsBetween low n high)
between low n high = other_words (le_tested low n also le_tested n high)
    (λ h. record { least = h.0; most = h.1 }) (λ h. (h.least, h.most))

limits : (s : Session) → IsTest (has_limits s) (HasLimits s)
limits s = other_words
    (between 8000 s.rate 192000 also between 1 s.block 4096 also between 2 s.depth 256 also le_tested _ 65536
    also le_tested _ 64 also le_tested _ 32 also le_tested _ 64 also lt_tested _ _)
    (λ (((((((rate, block), depth), ring), sources), tracks), routes), master).
    record { rate = rate; block = block; depth = depth; ring = ring; sources = sources; tracks = tracks; routes = routes; master = master })
    (λ h. (((((((h.rate, h.block), h.depth), h.ring), h.sources), h.tracks), h.routes), h.master))

names : (s : Session) → IsTest (has_names s) (HasNames s)
names s = other_words (apart_tested bytes_tested _ also apart_tested bytes_tested _)
    (λ h. record { sources = h.0; routes = h.1 }) (λ h. (h.sources, h.routes))

source : (d : SourceDecl) → IsTest (is_formed_source d) (IsFormedSource d)
source d = other_words (between 1 d.channels 2) (λ h. record { channels = h }) (λ h. h.channels)

-- ---- routes

kinds : (k j : RouteKind) → IsTest (same_kind k j) (k ≡ j)
kinds (OfTrack t) (OfTrack u) = other_words (eq_tested t u) (λ e. ap OfTrack e) (λ e. cc)
kinds (OfTrack t) Bus = record { sound = λ e. cc; complete = λ e. cc }
kinds (OfTrack t) Master = record { sound = λ e. cc; complete = λ e. cc }
kinds Bus (OfTrack u) = record { sound = λ e. cc; complete = λ e. cc }
kinds Bus Bus = record { sound = λ e. refl; complete = λ e. refl }
kinds Bus Master = record { sound = λ e. cc; complete = λ e. cc }
kinds Master (OfTrack u) = record { sound = λ e. cc; complete = λ e. cc }
kinds Master Bus = record { sound = λ e. cc; complete = λ e. cc }
kinds Master Master = record { sound = λ e. refl; complete = λ e. refl }

feeding : (s : Session) (q : Route) (to : ℕ) → IsTest (may_feed s q to) (MayFeed s q to)
feeding s q to = other_words (le_tested _ to also some_tested (λ next. le_tested q.channels next.channels) _)
    (λ h. record { no_track = h.0; wide = h.1 }) (λ h. (h.no_track, h.wide))

master : (q : Route) → IsTest (is_master q) (IsMaster q)
master q = other_words
    (bytes_tested q.name (codes "master") also eq_tested q.left unity also eq_tested q.right unity also is_none_tested q.target also none_tested q.sends.items)
    (λ ((((name, left), right), target), sends). record { name = name; left = left; right = right; target = target; sends = sends })
    (λ h. ((((h.name, h.left), h.right), h.target), h.sends))

leading : (s : Session) (q : Route) (kind : RouteKind) → IsTest (leads_on s q kind) (LeadsOn s q kind)
leading s q (OfTrack t) = some_tested (feeding s q) q.target
leading s q Bus = some_tested (feeding s q) q.target
leading s q Master = master q

route : (s : Session) (place : ℕ) (q : Route) → IsTest (is_formed_route s place q) (IsFormedRoute s place q)
route s place q = other_words
    (kinds q.kind _ also between 1 q.channels 2 also leading s q q.kind also le_tested _ 8 also le_tested 8 _
    also all_tested (λ l. feeding s q l.to) q.sends.items also apart_tested eq_tested _)
    (λ ((((((kind, channels), output), few), room), sends), apart).
    record { kind = kind; channels = channels; output = output; few = few; room = room; sends = sends; apart = apart })
    (λ h. ((((((h.kind, h.channels), h.output), h.few), h.room), h.sends), h.apart))

-- ---- tracks

shown : (s : Session) (channels : ℕ) (r : Region) → IsTest (has_source s channels r) (HasSource s channels r)
shown s channels r = some_tested (λ d. eq_tested d.channels channels) _

track : (s : Session) (place : ℕ) (k : Track) → IsTest (is_formed_track s place k) (IsFormedTrack s place k)
track s place k = other_words
    (eq_tested k.route place also if_some_tested (λ first. le_tested _ 8) k.input also implied k.armed _
    also all_tested (shown s (channels_at s place)) k.list)
    (λ (((route, input), armed), regions). record { route = route; input = input; armed = armed; regions = regions })
    (λ h. (((h.route, h.input), h.armed), h.regions))

-- ---- the session

formed : (s : Session) → IsTest (is_formed s) (IsFormed s)
unfolding is_formed
formed s = other_words
    (limits s also names s also all_tested source s.sources.items also each_tested (route s) s.routes.items also each_tested (track s) s.tracks.items)
    (λ ((((limits, names), sources), routes), tracks). record { limits = limits; names = names; sources = sources; routes = routes; tracks = tracks })
    (λ h. ((((h.limits, h.names), h.sources), h.routes), h.tracks))

no_cycle : (routes : List sound.Route) → IsTest (not (sound.has_cycle routes)) (sound.NoCycle routes)
no_cycle routes = record {
  sound = λ e. (cycles_are_found routes).0 (found e);
  complete = λ h. ap not ((cycles_are_found routes).1 h);
}
  where
    found : not (sound.has_cycle routes) ≡ true → sound.has_cycle routes ≡ false
    found e = elim (sound.has_cycle routes) as (λ b. not b ≡ true → b ≡ false) [ true ↦ λ h. cc | false ↦ λ h. refl ] e

valid_after : {F : Type 0} (b : Bool) (s : Session) → IsTest b F → IsTest (valid_where b s) (F × sound.NoCycle (routes_of s))
valid_after true s t = other_words (no_cycle (routes_of s)) (λ h. (t.sound refl, h)) (λ h. h.1)
valid_after false s t = record { sound = λ e. cc; complete = λ h. t.complete h.0 }

valid : (s : Session) → IsTest (is_valid s) (IsValid s)
unfolding is_valid
valid s = other_words (valid_after (is_formed s) s (formed s)) (λ h. record { formed = h.0; no_cycle = h.1 }) (λ h. (h.formed, h.no_cycle))

pub form_is_tested : FormIsTested
form_is_tested s = ((formed s).sound, (formed s).complete)

pub validity_is_tested : ValidityIsTested
validity_is_tested s = ((valid s).sound, (valid s).complete)
