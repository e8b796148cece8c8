use Rattle.std.proofs.Common.{◌≡◌, ℕ, ◌+◌, ◌-◌, ◌/◌, ◌%◌, ◌<◌, ◌∙◌, length, get_or, All, ap, sym, subst, arith, rules}
use Rattle.std.specs.Prelude.{pos, replicate}
use Rattle.std.proofs.lemmas.Bool.Decides.{nat_tests}
use Rattle.sound_model.specs.Regions.{Region, Sounds}
use Rattle.session_model.specs.Frames.{sounds_of, interleaved, IsSample}
use Rattle.session_model.specs.Region.{region_of, regions_of, IsRegion}
use Rattle.playlist_layers.specs.Blocks.{heard_block}
use Rattle.playlist_layers.specs.Reads.{HasSource}
use Rattle.playlist_layers.specs.Spans.{CoversSpan, picked}
use Rattle.playlist_layers.proofs.Places.{holds_at, holds_picked, no_places, one_picked}
use Rattle.mix_kernel.proofs.Ranges.{whole_frames}
use Rattle.playlist_layers.proofs.Reading.{on_ok_both}
use Rattle.playlist_layers.proofs.SpanLemmas.{no_sound, plain_heard}
use Rattle.playlist_layers.proofs.rendering.hear.Goals as goal
use Rattle.playlist_layers.proofs.rendering.hear.Given.{Over}
use Rattle.playlist_layers.proofs.rendering.hear.Goals.{After-index-regions-places}

pub returns-then-is_empty-clause-told : goal.returns-then-is_empty-clause-told
returns-then-is_empty-clause-told g c = λ t.
    let sounds : Sounds = sounds_of (g.F.Frames.outside.frames c.args.frames.now) in
    let n : ℕ = length c.args.out.now in
    let filled : c.fill.new.self ≡ replicate n (pos 0) = search rules in
    let none : length c.args.places.now ≡ 0 = grind (arith, nat_tests) in
    filled ∙ no_sound sounds c.args.channels c.args.here n
    ∙ ap (λ ps. heard_block sounds (picked (regions_of c.args.regions.now) ps) c.args.channels c.args.here n) (sym (no_places c.args.places.now none))

inside : (g : Over) (c : After-index-regions-places g) → length c.args.places.now ≡ 1 → get_or c.args.places.now 0 0 < length c.args.regions.now
inside g c one = c.requires.places 0 0 (omega arith)

limits : (g : Over) (c : After-index-regions-places g) → length c.args.places.now ≡ 1 → IsRegion (region_of c.index-regions-places.result)
limits g c one = holds_at IsRegion c.args.regions.now (get_or c.args.places.now 0 0) c.index-regions-places.result (inside g c one) c.index-regions-places.is c.requires.limits

covers : (g : Over) (c : After-index-regions-places g) → length c.args.places.now ≡ 1 → CoversSpan c.args.here (length c.args.out.now / c.args.channels) (region_of c.index-regions-places.result)
covers g c one =
    holds_picked (CoversSpan c.args.here (length c.args.out.now / c.args.channels)) c.args.regions.now c.args.places.now 0 c.index-regions-places.result (omega arith) (inside g c one) c.index-regions-places.is c.requires.covers

source : (g : Over) (c : After-index-regions-places g) → length c.args.places.now ≡ 1 → HasSource (g.F.Frames.outside.channels c.args.frames.now) c.args.channels (region_of c.index-regions-places.result)
source g c one =
    holds_at (HasSource (g.F.Frames.outside.channels c.args.frames.now) c.args.channels) c.args.regions.now (get_or c.args.places.now 0 0) c.index-regions-places.result (inside g c one) c.index-regions-places.is c.requires.sources

pub is_plain-requires-clause-limits : goal.is_plain-requires-clause-limits
is_plain-requires-clause-limits g c = limits g (goal.at.is_plain-requires-clause-limits g c).After-index-regions-places c.if-places-eq1.true

pub is_plain-requires-clause-covers : goal.is_plain-requires-clause-covers
is_plain-requires-clause-covers g c = covers g (goal.at.is_plain-requires-clause-covers g c).After-index-regions-places c.if-places-eq1.true

pub overflow_sub-here : goal.overflow_sub-here
overflow_sub-here g c = (covers g (goal.at.overflow_sub-here g c).After-index-regions-places c.if-places-eq1.true).begun

pub overflow_add-top : goal.overflow_add-top
overflow_add-top g c = let at = (goal.at.overflow_add-top g c).After-index-regions-places in
    let span = covers g at c.if-places-eq1.true in let own = limits g at c.if-places-eq1.true in
    omega (arith, span.begun, span.lasts, own.source_end, own.start)

pub frames-requires-clause-source : goal.frames-requires-clause-source
frames-requires-clause-source g c = (source g (goal.at.frames-requires-clause-source g c).After-index-regions-places c.if-places-eq1.true).there

pub frames-requires-clause-whole : goal.frames-requires-clause-whole
frames-requires-clause-whole g c =
    ap (λ n. length c.args.out.now % n) (source g (goal.at.frames-requires-clause-whole g c).After-index-regions-places c.if-places-eq1.true).same ∙ c.requires.whole

pub returns-then-is_plain-clause-told : goal.returns-then-is_plain-clause-told
returns-then-is_plain-clause-told g c = λ t.
    let at = (goal.at.returns-then-is_plain-clause-told g c).After-index-regions-places in
    let one = c.if-places-eq1.true in
    let r : Region = region_of c.index-regions-places.result in
    let n : ℕ = length c.args.out.now in
    let first : ℕ = r.start + (c.args.here - r.at) in
    let sounds : Sounds = sounds_of (g.F.Frames.outside.frames c.args.frames.now) in
    let plain = c.if-is_plain.ensures.0 (search rules) in
    on_ok_both c.frames.result
    (λ (e : c.frames.new.out ≡ interleaved (sounds r.source) _ first (length c.frames.new.out)) (range : All IsSample c.frames.new.out).
    plain_heard sounds r c.args.channels c.args.here (n / c.args.channels) n c.requires.channels (whole_frames n c.args.channels c.requires.channels c.requires.whole) (covers g at one) plain.0 plain.1 c.frames.new.out
    (subst (λ channels. c.frames.new.out ≡ interleaved (sounds r.source) channels first (length c.frames.new.out)) (source g at one).same e ∙ ap (interleaved (sounds r.source) c.args.channels first) c.frames.auto.out) range
    ∙ ap (λ rs. heard_block sounds rs c.args.channels c.args.here n) (one_picked c.args.regions.now c.args.places.now c.index-regions-places.result one (inside g at one) c.index-regions-places.is))
    (c.frames.ensures.told t) c.frames.ensures.range
