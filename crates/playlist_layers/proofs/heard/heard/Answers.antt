use Rattle.std.proofs.Common.{◌≡◌, ℕ, true, false, ◌+◌, ◌-◌, ◌<◌, ◌∙◌, length, get_or, sym, arith, rules}
use Rattle.std.proofs.lemmas.List.Elements.{All-same, All-push}
use Rattle.sound_model.specs.Regions.{Region, covers}
use Rattle.session_model.specs.Region.{region_of, regions_of, IsRegion}
use Rattle.ramp_fixed.specs.Fades.{IsUnfaded}
use Rattle.playlist_layers.specs.Spans.{IsWhole, CoversSpan}
use Rattle.playlist_layers.proofs.Places.{holds_at, holds_picked, at_place}
use Rattle.playlist_layers.proofs.HeardLemmas.{covers_all, with_place, without_place, hiding_place, covers_more, all_looked_at}
use Rattle.playlist_layers.proofs.heard.heard.Goals as goal
use Rattle.playlist_layers.proofs.heard.heard.Goals.{After-covers}

inside : (c : After-covers) → get_or c.args.places.now (c.loop-i.i - 1) 0 < length c.args.regions.now
inside c = c.requires.places (c.loop-i.i - 1) 0 (omega arith)

pub covers-requires : goal.covers-requires
covers-requires c =
    holds_at IsRegion c.args.regions.now (get_or c.args.places.now (c.loop-i.i - 1) 0) c.index-regions-places.result (c.requires.places (c.loop-i.i - 1) 0 (omega arith)) c.index-regions-places.is c.requires.limits

pub hides-requires-clause-limits : goal.hides-requires-clause-limits
hides-requires-clause-limits c =
    holds_at IsRegion c.args.regions.now (get_or c.args.places.now (c.loop-i.i - 1) 0) c.index-regions-places.result (c.requires.places (c.loop-i.i - 1) 0 (omega arith)) c.index-regions-places.is c.requires.limits

whole : (c : After-covers) → IsWhole c.args.here (c.args.here + c.args.count) (region_of c.index-regions-places.result)
whole c = holds_picked (IsWhole c.args.here (c.args.here + c.args.count)) c.args.regions.now c.args.places.now (c.loop-i.i - 1) c.index-regions-places.result (omega arith) (inside c) c.index-regions-places.is c.requires.whole

span : (c : After-covers) → c.covers.result ≡ true → CoversSpan c.args.here c.args.count (region_of c.index-regions-places.result)
span c there = covers_all (region_of c.index-regions-places.result) c.args.here c.args.count (whole c) (sym c.covers.ensures ∙ there)

pub hides-requires-clause-covers : goal.hides-requires-clause-covers
hides-requires-clause-covers c = span (goal.at.hides-requires-clause-covers c).After-covers c.if-covers.true

pub returns-then-hides-clause-covers : goal.returns-then-hides-clause-covers
returns-then-hides-clause-covers c = let at = (goal.at.returns-then-hides-clause-covers c).After-covers in
    covers_more c.args.here c.args.count (regions_of c.args.regions.now) c.args.places.now c.loop-i.out.items c.push.new.self.items c.loop-i.i (omega arith) (omega arith) c.loop-i.invariant.stands
    (CoversSpan c.args.here c.args.count) c.push.ensures.items
    (at_place (CoversSpan c.args.here c.args.count) c.args.regions.now (get_or c.args.places.now (c.loop-i.i - 1) 0) c.index-regions-places.result (inside at) c.index-regions-places.is (span at c.if-covers.true))
    c.loop-i.invariant.covers

pub returns-then-hides-clause-heard : goal.returns-then-hides-clause-heard
returns-then-hides-clause-heard c = let at = (goal.at.returns-then-hides-clause-heard c).After-covers in
    let place : ℕ = get_or c.args.places.now (c.loop-i.i - 1) 0 in
    let r = c.index-regions-places.result in
    let hidden = c.if-hides.ensures.0 (search rules) in
    hiding_place c.args.here c.args.count (regions_of c.args.regions.now) c.args.places.now c.loop-i.out.items c.push.new.self.items c.loop-i.i (omega arith) (omega arith) c.loop-i.invariant.stands
    c.push.ensures.items
    (at_place (CoversSpan c.args.here c.args.count) c.args.regions.now place r (inside at) c.index-regions-places.is (span at c.if-covers.true))
    (at_place (λ (q : Region). q.opaque ≡ true) c.args.regions.now place r (inside at) c.index-regions-places.is hidden.0)
    (at_place (λ (q : Region). IsUnfaded q.long q.fade_in q.fade_out (c.args.here - q.at) c.args.count) c.args.regions.now place r (inside at) c.index-regions-places.is hidden.1)

pub loop-i-preserved-else-hides : goal.loop-i-preserved-else-hides
loop-i-preserved-else-hides c = let at = (goal.at.loop-i-preserved-else-hides c).After-covers in
    let place : ℕ = get_or c.args.places.now (c.loop-i.i - 1) 0 in record {
      places = All-same (λ p. p < length c.args.regions.now) _ _ c.push.ensures.items (All-push (λ p. p < length c.args.regions.now) c.loop-i.out.items place c.loop-i.invariant.places (inside at));
      few = omega (arith, c.push.ensures.len, c.loop-i.invariant.few);
      covers = covers_more c.args.here c.args.count (regions_of c.args.regions.now) c.args.places.now c.loop-i.out.items c.push.new.self.items c.loop-i.i (omega arith) (omega arith) c.loop-i.invariant.stands
          (CoversSpan c.args.here c.args.count) c.push.ensures.items
          (at_place (CoversSpan c.args.here c.args.count) c.args.regions.now place c.index-regions-places.result (inside at) c.index-regions-places.is (span at c.if-covers.true))
          c.loop-i.invariant.covers;
      stands = with_place c.args.here c.args.count (regions_of c.args.regions.now) c.args.places.now c.loop-i.out.items c.push.new.self.items c.loop-i.i (omega arith) (omega arith) c.loop-i.invariant.stands c.push.ensures.items;
    }

pub loop-i-preserved : goal.loop-i-preserved
loop-i-preserved c = let at = (goal.at.loop-i-preserved c).After-covers in
    let place : ℕ = get_or c.args.places.now (c.loop-i.i - 1) 0 in record {
      places = c.loop-i.invariant.places;
      few = omega (arith, c.loop-i.invariant.few);
      covers = c.loop-i.invariant.covers;
      stands = without_place c.args.here c.args.count (regions_of c.args.regions.now) c.args.places.now c.loop-i.out.items c.loop-i.out.items c.loop-i.i (omega arith) (omega arith) c.loop-i.invariant.stands
          (at_place (IsWhole c.args.here (c.args.here + c.args.count)) c.args.regions.now place c.index-regions-places.result (inside at) c.index-regions-places.is (whole at))
          (at_place (λ (q : Region). covers q c.args.here ≡ false) c.args.regions.now place c.index-regions-places.result (inside at) c.index-regions-places.is (sym c.covers.ensures ∙ c.if-covers.false));
    }

pub returns-clause-heard : goal.returns-clause-heard
returns-clause-heard c =
    all_looked_at c.args.here c.args.count (regions_of c.args.regions.now) c.args.places.now c.loop-i.out.items c.loop-i.i (omega arith) c.loop-i.invariant.stands
