use Rattle.std.proofs.Common.{◌≡◌, ℕ, ◌+◌, ◌-◌, ◌*◌, ◌/◌, ◌∙◌, ◌∷◌, List, length, get_or, drop, refl, ap, sym, subst, arith, rules}
use Rattle.std.specs.Prelude.{ℤ, pos, replicate}
use Rattle.std.proofs.lemmas.List.Elements.{All-same, All-replicate}
use Rattle.std.proofs.lemmas.List.{drop_all}
use Rattle.std.proofs.lemmas.Int.{ints}
use Rattle.sound_model.specs.Regions.{Region, Sounds}
use Rattle.sound_model.specs.Layers.{lay, over}
use Rattle.session_model.specs.Frames.{Told, sounds_of, interleaved}
use Rattle.session_model.specs.Region.{region_of, regions_of, IsRegion}
use Rattle.mix_kernel.specs.Bounds.{IsNear}
use Rattle.mix_kernel.specs.Blocks.{clipped}
use Rattle.playlist_layers.specs.Blocks.{layer_block}
use Rattle.playlist_layers.specs.Reads.{HasSource}
use Rattle.playlist_layers.specs.Spans.{CoversSpan, picked}
use Rattle.mix_kernel.proofs.NearLemmas.{near_more}
use Rattle.playlist_layers.proofs.Places.{region_at, holds_at, holds_picked, dropped}
use Rattle.mix_kernel.proofs.Ranges.{whole_frames}
use Rattle.playlist_layers.proofs.Reading.{read_none, read_on, went}
use Rattle.playlist_layers.proofs.SpanLemmas.{no_layers, layers_clipped, layer_more}
use Rattle.playlist_layers.proofs.scratch.mix.Goals as goal

pub loop-i-init : goal.loop-i-init
loop-i-init g c =
    let n : ℕ = length c.args.out.now in
    let sounds : Sounds = sounds_of (g.F.Frames.outside.frames c.args.frames.now) in
    let filled : c.fill.new.self ≡ replicate (length c.fill.new.self) (pos 0) = search rules in
    let long : length c.fill.new.self ≡ n = search rules in
    record {
      within = omega arith;
      told = λ t. filled ∙ ap (λ m. replicate m (pos 0)) long ∙ no_layers sounds c.args.channels c.args.here n
          ∙ ap (λ ps. layer_block sounds (picked (regions_of c.args.regions.now) ps) c.args.channels c.args.here n) (sym (drop_all (length c.args.places.now) c.args.places.now (omega arith)));
      near = near_more 0 _ c.fill.new.self (omega arith)
          (All-same (IsNear 0) _ _ filled (All-replicate (IsNear 0) (length c.fill.new.self) (pos 0) (omega (arith, ints), omega (arith, ints))));
      room = refl;
      read = read_none g.F.Frames.outside g.F.Frames.rest c.args.frames.now tt;
    }

pub lay-requires-clause-source : goal.lay-requires-clause-source
lay-requires-clause-source g c =
    subst (λ cs. HasSource cs c.args.channels (region_of c.index-regions-places.result)) (sym c.loop-i.invariant.read.channels)
    (holds_at (HasSource (g.F.Frames.outside.channels c.args.frames.now) c.args.channels) c.args.regions.now (get_or c.args.places.now (c.loop-i.i - 1) 0) c.index-regions-places.result
    (c.requires.places (c.loop-i.i - 1) 0 (omega arith)) c.index-regions-places.is c.requires.sources)

pub lay-requires-clause-limits : goal.lay-requires-clause-limits
lay-requires-clause-limits g c =
    holds_at IsRegion c.args.regions.now (get_or c.args.places.now (c.loop-i.i - 1) 0) c.index-regions-places.result
    (c.requires.places (c.loop-i.i - 1) 0 (omega arith)) c.index-regions-places.is c.requires.limits

pub lay-requires-clause-covers : goal.lay-requires-clause-covers
lay-requires-clause-covers g c =
    let long : length c.loop-i.sums ≡ length c.args.out.now = search rules in
    subst (λ n. CoversSpan c.args.here (n / c.args.channels) (region_of c.index-regions-places.result)) (sym long)
    (holds_picked (CoversSpan c.args.here (length c.args.out.now / c.args.channels)) c.args.regions.now c.args.places.now (c.loop-i.i - 1) c.index-regions-places.result (omega arith)
    (c.requires.places (c.loop-i.i - 1) 0 (omega arith)) c.index-regions-places.is c.requires.covers)

pub loop-i-preserved : goal.loop-i-preserved
loop-i-preserved g c =
    let i : ℕ = c.loop-i.i in
    let place : ℕ = get_or c.args.places.now (i - 1) 0 in
    let n : ℕ = length c.args.out.now in
    let inside = c.requires.places (i - 1) 0 (omega arith) in
    let r : Region = region_of c.index-regions-places.result in
    let sounds : Sounds = sounds_of (g.F.Frames.outside.frames c.args.frames.now) in
    let under : List Region = picked (regions_of c.args.regions.now) (drop i c.args.places.now) in
    let below : ℕ → ℕ → ℤ = λ x c'. lay sounds c' x under in
    let long : length c.loop-i.sums ≡ n = search rules in
    let span = holds_picked (CoversSpan c.args.here (n / c.args.channels)) c.args.regions.now c.args.places.now (i - 1) c.index-regions-places.result (omega arith) inside c.index-regions-places.is c.requires.covers in
    record {
      within = omega arith;
      told = λ t.
          subst (λ (fs : List Told). c.lay.new.sums ≡ interleaved (λ x c'. over (sounds_of fs) c' x r (below x c')) c.args.channels c.args.here (length c.loop-i.sums)) (c.loop-i.invariant.read.kept t)
          (c.in_ok-lay.ensures.told (c.loop-i.invariant.read.tells t) below (c.loop-i.invariant.told t ∙ ap (layer_block sounds under c.args.channels c.args.here) (sym long)))
          ∙ ap (interleaved (λ x c'. over sounds c' x r (below x c')) c.args.channels c.args.here) long
          ∙ layer_more sounds r under c.args.channels c.args.here (n / c.args.channels) n c.requires.channels (whole_frames n c.args.channels c.requires.channels c.requires.whole) span
          ∙ ap (λ rs. layer_block sounds rs c.args.channels c.args.here n)
          (sym (ap (picked (regions_of c.args.regions.now)) (dropped c.args.places.now i (omega arith) (omega arith))
          ∙ ap (λ q. q ∷ under) (region_at c.args.regions.now place c.index-regions-places.result inside c.index-regions-places.is)));
      near = near_more ((length c.args.places.now - i) * 8589934592 + 8589934592) _ c.lay.new.sums (omega arith)
          (c.in_ok-lay.ensures.near ((length c.args.places.now - i) * 8589934592) c.loop-i.invariant.near);
      room = c.in_ok-lay.ensures.room ∙ c.loop-i.invariant.room;
      read = read_on g.F.Frames.outside g.F.Frames.rest c.args.frames.now c.loop-i.frames c.lay.new.frames tt went c.loop-i.invariant.read c.in_ok-lay.ensures.read;
    }

pub returns-clause-told : goal.returns-clause-told
returns-clause-told g c = λ t.
    let sounds : Sounds = sounds_of (g.F.Frames.outside.frames c.args.frames.now) in
    let none : c.loop-i.i ≡ 0 = omega arith in
    c.clip_all.ensures ∙ ap clipped (c.loop-i.invariant.told t ∙ ap (λ i. layer_block sounds (picked (regions_of c.args.regions.now) (drop i c.args.places.now)) c.args.channels c.args.here (length c.args.out.now)) none)
    ∙ layers_clipped sounds (picked (regions_of c.args.regions.now) c.args.places.now) c.args.channels c.args.here (length c.args.out.now)
