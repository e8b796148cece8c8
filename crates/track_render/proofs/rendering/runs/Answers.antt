use Rattle.std.proofs.Common.{◌≡◌, ◌+◌, ◌-◌, ◌*◌, ◌/◌, ◌%◌, ◌∙◌, sym, subst, ap, arith, length, take, drop}
use Rattle.ses_io.specs.Files.{Files}
use Rattle.sound_model.specs.Regions.{Sounds}
use Rattle.playlist_layers.specs.Blocks.{track_block}
use Rattle.audio_source.specs.Told.{source_sound}
use Rattle.audio_source.specs.Lines.{HoldsAsRead}
use Rattle.track_render.proofs.RunLemmas as laws
use Rattle.track_render.proofs.RunLemmas.{IsRun}
use Rattle.track_render.proofs.ReadLemmas.{read_on, went}
use Rattle.track_render.proofs.rendering.runs.Goals as goal

pub loop-done-preserved : goal.loop-done-preserved
loop-done-preserved g c = let out = c.loop-done.out in let done = c.loop-done.done in let end = done + c.following.result in let channels = c.args.channels in let place = c.place-place.result in
    let is : IsRun channels done end out = record {
      few = c.requires.channels;
      whole = ap (λ n. n % channels) c.loop-done.auto.out ∙ c.requires.block.whole;
      rises = omega arith;
      most = omega (arith, c.following.ensures.most, c.loop-done-test.true, ap (λ n. n / channels) c.loop-done.auto.out);
    } in
    let read = c.loop-done.invariant.read in
    let same : source_sound (g.M.Media.outside.files c.loop-done.media) c.loop-done.sources.opened ≡ source_sound (g.M.Media.outside.files c.args.media.now) c.args.sources.now.opened =
    ap (λ files. source_sound files c.loop-done.sources.opened) read.only_reads.files ∙ ap (source_sound (g.M.Media.outside.files c.args.media.now)) read.opened in
    let as_now : g.M.Media.outside.tells → HoldsAsRead (g.M.Media.outside.files c.args.media.now) c.args.sources.now → HoldsAsRead (g.M.Media.outside.files c.loop-done.media) c.loop-done.sources =
    λ t h. subst (λ (fs : Files). HoldsAsRead fs c.loop-done.sources) (sym read.only_reads.files) (read.holds t h) in
    record {
      within = omega (arith, c.following.ensures.most, c.loop-done-test.true);
      told = λ t h. laws.run_more (source_sound (g.M.Media.outside.files c.args.media.now) c.args.sources.now.opened) c.args.list.now channels c.args.transport.now c.args.first place done end out c.run.new.out
          c.requires.transport is c.place-place.ensures (λ k below. c.following.ensures.follow k (omega arith)) (c.loop-done.invariant.told t h)
          (subst (λ (sounds : Sounds). c.run.new.out ≡ track_block sounds c.args.list.now channels place (length (take (end * channels - done * channels) (drop (done * channels) out)))) same
          (c.in_ok-run.ensures.told t (as_now t h)));
      room = c.in_ok-run.ensures.room ∙ c.loop-done.invariant.room;
      read = read_on g.M.Media.outside c.args.media.now c.loop-done.media c.run.new.media c.args.sources.now c.loop-done.sources c.run.new.sources tt went read c.in_ok-run.ensures.read;
    }
