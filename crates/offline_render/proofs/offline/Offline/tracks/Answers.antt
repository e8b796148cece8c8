use Rattle.std.proofs.Common.{◌≡◌, ℕ, ◌∙◌, length, ap, sym, subst, arith, List}
use Rattle.std.specs.Prelude.{All}
use Rattle.session_model.specs.Formed as formed
use Rattle.session_model.specs.Frames.{Told, sounds_of}
use Rattle.playlist_layers.proofs.Reading.{read_on, went}
use Rattle.offline_render.specs.Frame.{track_frame}
use Rattle.offline_render.proofs.FrameLemmas.{sources_there, one_heard, channels_few, track_read}
use Rattle.offline_render.proofs.offline.Offline.tracks.Goals as goal

pub track-requires-clause-sources : goal.track-requires-clause-sources
track-requires-clause-sources g c = let s = c.args.s.now in let t = c.loop-t.t in let track = c.track-item.result in
    let there = track_read s c.as_slice-track-items.result.now t track c.as_slice-track-items.ensures.items c.loop-t-test.true c.track-item.is in
    sources_there s (g.F.Frames.outside.channels c.loop-t.frames) c.channels_of-channels.result track.list (c.loop-t.invariant.read.channels ∙ c.requires.sources)
    (subst (λ n. All (formed.HasSource s n) track.list) (sym c.channels_of-channels.ensures.channels) (c.requires.valid.formed.tracks t track there).regions)

pub loop-t-preserved : goal.loop-t-preserved
loop-t-preserved g c = let s = c.args.s.now in let n = c.loop-t.t in let track = c.track-item.result in let channels : ℕ = c.channels_of-channels.result in
    let there = track_read s c.as_slice-track-items.result.now n track c.as_slice-track-items.ensures.items c.loop-t-test.true c.track-item.is in
    record {
      told = λ t. one_heard (sounds_of (g.F.Frames.outside.frames c.args.frames.now)) s c.args.place (channels_few s c.requires.valid.formed) n channels track c.loop-t.out c.track.new.out there
          (sym c.channels_of-channels.ensures.channels) (omega (arith, ap length c.as_slice-track-items.ensures.items, c.channels_of-channels.ensures.few, c.requires.out))
          (subst (λ (fs : List Told). c.track.new.out ≡ track_frame (sounds_of fs) track.list channels c.args.place) (c.loop-t.invariant.read.kept t) (c.in_ok-track.ensures.told (c.loop-t.invariant.read.tells t)))
          (c.loop-t.invariant.told t);
      read = read_on g.F.Frames.outside g.F.Frames.rest c.args.frames.now c.loop-t.frames c.track.new.frames tt went c.loop-t.invariant.read c.in_ok-track.ensures.read;
    }
