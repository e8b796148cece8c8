use Rattle.std.proofs.Common.{◌≡◌, ◌^◌, ◌-◌, ◌%◌, ◌∙◌, arith, List, length, take, drop, subst, ap, sym}
use Rattle.std.specs.Prelude.{slice_index}
use borrow.Rule.Slice.PartMut.{put_mid}
use Rattle.ses_io.specs.Files.{Files}
use Rattle.session_model.specs.Frames.{interleaved}
use Rattle.audio_source.specs.Opened.{OpenedSource, channels_of}
use Rattle.audio_source.specs.Told.{source_sound}
use Rattle.audio_source.specs.Lines.{HoldsAsRead}
use Rattle.audio_source.proofs.SourceLaws as sources
use Rattle.audio_source.proofs.StretchLaws as laws
use Rattle.audio_source.proofs.StretchLaws.{IsSpanOn}
use Rattle.audio_source.proofs.long.frames_by_spans.Goals as goal
use Rattle.audio_source.proofs.long.frames_by_spans.Given.{Over}
use Rattle.audio_source.proofs.long.frames_by_spans.Goals.{After-min-end, In_ok-frames}

channels : (g : Over) (c : After-min-end g) → slice_index (channels_of c.loop-turn.sources.opened) c.args.source ≡ c.width-channels.result
channels g c = ap (λ (l : List OpenedSource). slice_index (channels_of l) c.args.source) c.loop-turn.invariant.opened ∙ sym c.width-channels.ensures.width

whole : (g : Over) (c : After-min-end g) → length c.loop-turn.out % c.width-channels.result ≡ 0
whole g c = ap (λ n. n % c.width-channels.result) c.loop-turn.auto.out ∙ ap (λ n. length c.args.out.now % n) c.width-channels.ensures.width ∙ c.requires.whole

pub frames-requires-clause-whole : goal.frames-requires-clause-whole
frames-requires-clause-whole g c = let at = (goal.at.frames-requires-clause-whole g c).After-min-end in
    ap (λ n. length (take (c.min-end.result - c.loop-turn.done) (drop c.loop-turn.done c.loop-turn.out)) % n) (channels g at)
    ∙ laws.span_whole c.min-end.result c.loop-turn.done c.width-channels.result c.loop-turn.out c.width-channels.ensures.some c.min-end.ensures c.loop-turn.invariant.within (whole g at) c.loop-turn.invariant.whole

told : (g : Over) (c : In_ok-frames g) → g.M.Media.outside.tells → HoldsAsRead (g.M.Media.outside.files c.args.media.now) c.args.sources.now →
    take c.min-end.result (put_mid c.loop-turn.done (c.min-end.result - c.loop-turn.done) c.loop-turn.out c.frames.new.out)
    ≡ interleaved (source_sound (g.M.Media.outside.files c.args.media.now) c.args.sources.now.opened c.args.source) c.width-channels.result c.args.from c.min-end.result
told g c = λ t h. let at = (goal.at.In_ok-frames g c).After-min-end in let files = g.M.Media.outside.files c.args.media.now in let opened = c.args.sources.now.opened in
    let on : IsSpanOn c.min-end.result c.loop-turn.done c.loop-turn.out c.frames.new.out =
    record { inside = omega (arith, c.min-end.ensures); rises = omega (arith, c.min-end.ensures, c.loop-turn.invariant.within); same = c.frames.auto.out } in
    let now = c.in_ok-frames.ensures.told t (subst (λ (fs : Files). HoldsAsRead fs c.loop-turn.sources) (sym c.loop-turn.invariant.files) (c.loop-turn.invariant.holds t h)) in
    let by_files = subst (λ (fs : Files). c.frames.new.out ≡ interleaved (source_sound fs c.loop-turn.sources.opened c.args.source) (slice_index (channels_of c.loop-turn.sources.opened) c.args.source) c.saturating_add-first.result (length c.frames.new.out))
    c.loop-turn.invariant.files now in
    let by_opened = subst (λ (l : List OpenedSource). c.frames.new.out ≡ interleaved (source_sound files l c.args.source) (slice_index (channels_of l) c.args.source) c.saturating_add-first.result (length c.frames.new.out))
    c.loop-turn.invariant.opened by_files in
    let piece = subst (λ n. c.frames.new.out ≡ interleaved (source_sound files opened c.args.source) n c.saturating_add-first.result (length c.frames.new.out)) (sym c.width-channels.ensures.width) by_opened in
    laws.told_more (source_sound files opened c.args.source) (2 ^ 32) c.width-channels.result c.args.from c.saturating_add-first.result (2 ^ 64 - 1) c.min-end.result c.loop-turn.done c.loop-turn.out c.frames.new.out
    (λ i k past. sources.source_end files opened c.args.source i k c.width-channels.ensures.few past) (omega arith) c.width-channels.ensures.some on c.loop-turn.invariant.whole c.saturating_add-first.ensures
    (c.loop-turn.invariant.told t h) piece

pub loop-turn-preserved : goal.loop-turn-preserved
loop-turn-preserved g c = let at = (goal.at.loop-turn-preserved g c).After-min-end in let done = c.loop-turn.done in let end = c.min-end.result in let out = c.loop-turn.out in
    let on : IsSpanOn end done out c.frames.new.out = record { inside = omega (arith, c.min-end.ensures); rises = omega (arith, c.min-end.ensures, c.loop-turn.invariant.within); same = c.frames.auto.out } in
    let low = c.width-channels.ensures.some in
    record {
      within = laws.inside_still end done out c.frames.new.out on;
      turns = omega (arith, c.min-end.ensures, c.loop-turn.invariant.turns, c.loop-turn.invariant.within, c.if-done-out.false, low);
      whole = laws.end_whole end done c.width-channels.result out low c.min-end.ensures c.loop-turn.invariant.within (whole g at) c.loop-turn.invariant.whole;
      told = told g c;
      holds = λ t h. subst (λ (fs : Files). HoldsAsRead fs c.frames.new.self) c.loop-turn.invariant.files (c.in_ok-frames.ensures.holds t (subst (λ (fs : Files). HoldsAsRead fs c.loop-turn.sources) (sym c.loop-turn.invariant.files) (c.loop-turn.invariant.holds t h)));
      range = laws.range_more end done out c.frames.new.out on c.loop-turn.invariant.range c.in_ok-frames.ensures.range;
      opened = c.in_ok-frames.ensures.opened ∙ c.loop-turn.invariant.opened;
      files = c.in_ok-frames.ensures.only_reads.files ∙ c.loop-turn.invariant.files;
      reads = c.in_ok-frames.ensures.cause.kept ∙ c.loop-turn.invariant.reads;
      writes = c.in_ok-frames.ensures.only_reads.other_count ∙ c.loop-turn.invariant.writes;
    }

pub returns-after-loop-turn-clause-range : goal.returns-after-loop-turn-clause-range
returns-after-loop-turn-clause-range g c = laws.range_all c.loop-turn.done c.loop-turn.out (omega (arith, c.loop-turn-test.false, c.loop-turn.invariant.turns, c.loop-turn.auto.out)) c.loop-turn.invariant.range

pub returns-then-done-out-clause-range : goal.returns-then-done-out-clause-range
returns-then-done-out-clause-range g c = laws.range_all c.loop-turn.done c.loop-turn.out (omega (arith, c.if-done-out.true)) c.loop-turn.invariant.range
