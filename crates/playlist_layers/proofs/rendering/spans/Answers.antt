use Rattle.std.proofs.Common.{◌≡◌, ℕ, ◌+◌, ◌-◌, ◌*◌, ◌/◌, ◌≤◌, ◌∙◌, List, length, reverse, ap, sym, subst, arith, rules}
use Rattle.std.proofs.Math.Nat.{mul-le-mul}
use Rattle.sound_model.specs.Numbers.{clip}
use Rattle.sound_model.specs.Regions.{Region, Sounds}
use Rattle.sound_model.specs.Layers.{lay}
use Rattle.session_model.specs.Frames.{Told, sounds_of}
use Rattle.session_model.specs.Region.{regions_of}
use Rattle.playlist_layers.specs.Blocks.{heard_block}
use Rattle.playlist_layers.specs.Spans.{picked}
use Rattle.mix_kernel.proofs.Ranges.{whole_frames}
use Rattle.playlist_layers.proofs.Reading.{read_on, went}
use Rattle.playlist_layers.proofs.SpanLemmas.{span_more}
use Rattle.playlist_layers.proofs.rendering.spans.Goals as goal

pub loop-done-preserved : goal.loop-done-preserved
loop-done-preserved g c =
    let channels : ℕ = c.args.channels in
    let done : ℕ = c.loop-done.done in
    let end : ℕ = c.span_end.result - c.args.from in
    let within : end ≤ length c.args.out.now / channels = omega (arith, c.span_end.ensures.most) in
    let rises : done ≤ end = omega (arith, c.span_end.ensures.some) in
    let sounds : Sounds = sounds_of (g.F.Frames.outside.frames c.args.frames.now) in
    let rs : List Region = reverse (picked (regions_of c.args.regions.now) c.args.places.now) in
    let whole = whole_frames (length c.args.out.now) channels c.requires.channels c.requires.whole in
    let product : end * channels ≤ length c.args.out.now / channels * channels = mul-le-mul within (omega arith) in
    let inside : end * channels ≤ length c.loop-done.out = omega (arith, whole, product, c.loop-done.auto.out) in
    let long : length c.span.new.out ≡ end * channels - done * channels = search rules in
    record {
      within = within;
      told = λ t. span_more (λ x c'. clip (lay sounds c' x rs)) channels c.args.from done end c.loop-done.out c.span.new.out c.requires.channels rises inside (c.loop-done.invariant.told t)
          (subst (λ (fs : List Told). c.span.new.out ≡ heard_block (sounds_of fs) rs channels (c.args.from + done) (end * channels - done * channels)) (c.loop-done.invariant.read.kept t)
          (c.in_ok-span.ensures.told (c.loop-done.invariant.read.tells t)
          ∙ ap (heard_block (sounds_of (g.F.Frames.outside.frames c.loop-done.frames)) rs channels (c.args.from + done)) (sym c.span.auto.out ∙ long)));
      room = c.in_ok-span.ensures.room ∙ c.loop-done.invariant.room;
      read = read_on g.F.Frames.outside g.F.Frames.rest c.args.frames.now c.loop-done.frames c.span.new.frames tt went c.loop-done.invariant.read c.in_ok-span.ensures.read;
    }
