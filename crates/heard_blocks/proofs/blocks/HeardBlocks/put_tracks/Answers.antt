use Rattle.std.proofs.Common.{◌<◌, List, ap, arith, length, sym, subst}
use Rattle.audio_source.specs.Opened.{IsListed, OpenedSource}
use Rattle.audio_source.specs.Told.{source_sound}
use Rattle.engine_model.specs.Journal.{note_of}
use Rattle.cycle_journal.specs.JournalView.{seen_entry}
use Rattle.track_render.proofs.ReadLemmas.{read_on, went}
use Rattle.heard_blocks.specs.Playing.{MayHear, playing}
use Rattle.heard_blocks.specs.Reading.{IsTold}
use Rattle.heard_blocks.proofs.ReadLemmas.{play_seen, puts_by, sounds_on, told_on}
use Rattle.heard_blocks.proofs.PutLemmas.{puts_more}
use Rattle.heard_blocks.proofs.blocks.HeardBlocks.put_tracks.Goals as goal

pub put_track-requires : goal.put_track-requires
put_track-requires g c κs within = let asks = c.requires.1 in let l = c.loop-t in let edits = c.args.history.now.edits in
    let there : l.t < length c.as_slice.result.now = omega (arith, l.auto.t-end, c.loop-t-test.true, c.len-t-end.ensures.value, ap length c.as_slice.ensures.value) in
    let lt : l.t < length g.s.tracks.items = omega (arith, there, ap length c.as_slice.ensures.value, asks.1.1.1.0) in (
      within,
      (
        asks.0,
        (
          l.invariant.put.ready,
          (
            subst (λ (opened : List OpenedSource). IsListed g.s.rate g.s.sources.items opened) (sym l.invariant.read.opened) asks.1.1.0,
            (
              lt,
              (
                subst (MayHear edits _) (play_seen c.args.entry.now c.as_slice.result.now l.t _ c.as_slice.ensures.value there)
                    (subst (λ n. MayHear edits n (note_of l.t (seen_entry c.args.entry.now)).play) (sym (l.invariant.put.later l.t (omega arith))) (asks.1.1.1.1.0 l.t lt)),
                asks.1.1.1.1.1,
              ),
            ),
          ),
        ),
      ),
    )

pub loop-t-preserved : goal.loop-t-preserved
loop-t-preserved g c = let l = c.loop-t in let outside = g.M.Media.outside in let edits = c.args.history.now.edits in
    let there : l.t < length c.as_slice.result.now = omega (arith, l.auto.t-end, c.loop-t-test.true, c.len-t-end.ensures.value, ap length c.as_slice.ensures.value) in
    let read = l.invariant.read in record {
      put = puts_more (IsTold outside c.args.media.now c.args.sources.now)
          (playing g.s edits (source_sound (outside.files c.args.media.now) c.args.sources.now.opened) c.args.now.now c.args.seq)
          (λ t. (note_of t (seen_entry c.args.entry.now)).play) l.t c.args.self.now l.self c.put_track.new.self l.invariant.put
          (puts_by (IsTold outside l.media l.sources) (IsTold outside c.args.media.now c.args.sources.now) _ _ l.t _ _ l.self c.put_track.new.self
          (told_on outside c.args.media.now l.media c.args.sources.now l.sources went read)
          (ap (λ sounds. playing g.s edits sounds c.args.now.now c.args.seq) (sounds_on outside c.args.media.now l.media c.args.sources.now l.sources went read))
          (sym (play_seen c.args.entry.now c.as_slice.result.now l.t _ c.as_slice.ensures.value there))
          c.in_ok-put_track.ensures.put);
      read = read_on outside c.args.media.now l.media c.put_track.new.media c.args.sources.now l.sources c.put_track.new.sources tt went read c.in_ok-put_track.ensures.read;
    }
