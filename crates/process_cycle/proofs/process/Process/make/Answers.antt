use Rattle.std.proofs.Common.{suc, ◌*◌, ◌<◌, ◌++◌, take, drop, length, refl, ap, ◌∙◌, sym, subst, arith}
use Rattle.ses_io.specs.FixedList.{with_items}
use Rattle.input_blocks.specs.State.{IsReadTo, next_block}
use Rattle.track_playback.specs.Heard.{IsAt, entry_made}
use Rattle.master_blocks.specs.State.{IsMasterOf}
use Rattle.process_cycle.specs.ProcessState.{ProcessState, position_of}
use Rattle.process_cycle.proofs.EntryLemmas.{all_counted, all_fit, are_heard, captured_again, entries_few, entries_many, few_tracks, first_notes, frames_same, generation_told, have_rooms, next_few, tracks_same}
use Rattle.process_cycle.proofs.PlayingLemmas.{rewritten}
use Rattle.process_cycle.proofs.process.Process.make.Goals as goal

pub entry-made-requires : goal.entry-made-requires
entry-made-requires g c = let may = c.requires.1.1.0 in let these = c.as_slice.ensures.items ∙ ap (λ p. p.playbacks) c.self.view_is in
    (are_heard g.I.Source.outside g.on.at c.args.e.now c.args.self.now may _ _ _ c.position-at.ensures c.requires.1.1.1.plays these, few_tracks g.I.Source.outside g.on.at c.args.e.now c.args.self.now may _ these)

pub write_block-requires : goal.write_block-requires
write_block-requires g c κs within = let may = c.requires.1.1.0 in let of = c.requires.1.1.1 in let inputs = g.I.Source.outside in let e = c.args.e.now in let p = c.args.self.now in (
  within,
  (
    are_heard inputs g.on.at e p may _ _ _ c.position-at.ensures of.plays (c.as_slice-2.ensures.items ∙ ap (λ p. p.playbacks) c.self.view_is),
    (
      ap length of.plays ∙ may.playing.plays,
      (
        have_rooms inputs g.on.at e p may _ of.plays,
        (
          subst (λ p. IsMasterOf g.on.at.session p.master) (sym c.self.view_is) may.playing.master,
          (
            may.edition,
            (
              ap (λ x. x.generation) c.position-at.ensures ∙ generation_told inputs g.on.at e p may,
              (subst (λ x. x.next < 100000) (sym c.position-at.ensures) (next_few inputs g.on.at e p may), c.entry-made.ensures.rolls),
            ),
          ),
        ),
      ),
    ),
  ),
)

pub capture_all-requires : goal.capture_all-requires
capture_all-requires g c = let may = c.requires.1.1.0 in let of = c.requires.1.1.1 in let inputs = g.I.Source.outside in let e = c.args.e.now in let p = c.args.self.now in
    let captures = c.as_mut_slice.ensures.items ∙ ap (λ p. p.captures) c.self.view_is in
    let rings = c.as_mut_slice-2.ensures.items ∙ ap (λ p. p.ends.takes.items) c.self.view_is in
    let many = ap length captures ∙ may.playing.captures in (
      many ∙ sym (tracks_same inputs g.on.at e p may),
      (
        ap length rings ∙ may.playing.takes ∙ sym many,
        (
          ap length c.as_mut_slice-3.ensures.value ∙ first_notes c.number.result c.transport.result.now.rolling c.position-at.result g.on.plays c.entry-made.result c.entry-made.ensures.seen ∙ ap length of.plays ∙ may.playing.plays ∙ sym many,
          (
            omega (arith, ap length of.entries, entries_few inputs g.on.at e p may),
            (
              c.samples.ensures.long ∙ ap (λ b. b * c.read.new.self.stream.form.channels) (c.read.ensures.block ∙ ap (λ p. p.input.block) c.self.view_is ∙ may.playing.frames ∙ sym (frames_same inputs g.on.at e p may))
                  ∙ ap (λ n. e.session.block * n) (sym c.channels.ensures.channels),
              (all_counted inputs g.on.at e p may _ _ of.entries captures, all_fit inputs g.on.at e p may _ _ captures rings),
            ),
          ),
        ),
      ),
    )

pub returns-clause-made : goal.returns-clause-made
returns-clause-made g c = let of = c.requires.1.1.1 in let e = c.args.e.now in let p = c.args.self.now in
    let captures = c.as_mut_slice.ensures.items in let rings = c.as_mut_slice-2.ensures.items in
    let captures_is = rewritten (length c.self.inside.captures.items) c.capture_all.new.captures c.self.inside.captures.items (c.capture_all.auto.captures ∙ ap length c.as_mut_slice.ensures.items) in
    let rings_is = rewritten (length c.self.inside.ends.takes.items) c.capture_all.new.rings c.self.inside.ends.takes.items (c.capture_all.auto.rings ∙ ap length rings) in
    let notes_is = rewritten (length c.entry-made.result.notes.items) c.capture_all.new.notes c.entry-made.result.notes.items (c.capture_all.auto.notes ∙ ap length c.as_mut_slice-3.ensures.value) in record {
      valid = c.session-session.ensures.seen.valid;
      first = c.entry-made.result;
      seen = c.entry-made.ensures.seen ∙ ap (λ n. entry_made n c.transport.result.now.rolling c.position-at.result g.on.plays) c.number.ensures.number
          ∙ ap (λ b. entry_made (length e.edits) b c.position-at.result g.on.plays) (ap (λ x. x.rolling) c.transport.ensures.transport)
          ∙ ap (λ x. entry_made (length e.edits) e.transport.rolling x g.on.plays) c.position-at.ensures ∙ ap (entry_made (length e.edits) e.transport.rolling (position_of p)) of.plays;
      rolls = subst (λ x. IsAt x c.entry-made.result.state) c.position-at.ensures c.entry-made.ensures.rolls;
      same_entry = refl;
      notes = ap length notes_is ∙ c.capture_all.auto.notes ∙ ap length c.as_mut_slice-3.ensures.value;
      captures = ap length captures_is ∙ c.capture_all.auto.captures ∙ ap length captures ∙ ap (λ p. length p.captures) c.self.view_is;
      takes = ap length rings_is ∙ c.capture_all.auto.rings ∙ ap length rings ∙ ap (λ p. length p.ends.takes.items) c.self.view_is;
      takes_room = ap (λ p. p.ends.takes.room) c.self.view_is;
      captured = captured_again e _ _ _ _ _ _ _ _ _ _ _ _ _ _ _ _ _ _ c.rolls.ensures of.entries c.channels.ensures.channels c.samples.ensures.samples (sym captures_is) c.as_mut_slice-3.ensures.value (sym notes_is)
          (rings ∙ ap (λ p. p.ends.takes.items) c.self.view_is) (sym rings_is) c.capture_all.ensures.captured;
      frames = c.read.ensures.block ∙ ap (λ p. p.input.block) c.self.view_is;
      same = ap (λ (q : ProcessState g.row.I.Denot g.row.W.Denot). record q {
        input = c.read.new.self;
        master = c.write_block.new.master;
        ends = record { plays = q.ends.plays; takes = with_items c.self.inside.ends.takes c.capture_all.new.rings; to_butler = q.ends.to_butler; to_control = q.ends.to_control };
        captures = take (length c.self.inside.captures.items) (c.capture_all.new.captures ++ drop (length c.capture_all.new.captures) c.self.inside.captures.items);
      }) c.self.view_is;
    }

pub returns-clause-reads : goal.returns-clause-reads
returns-clause-reads g c = let inputs = g.I.Source.outside in let p = c.args.self.now in let many = ap length c.requires.1.1.1.entries ∙ entries_many p in record {
  place = subst (λ n. IsReadTo inputs (record { start = g.on.at.start; blocks = suc n }) c.read.new.self) many c.in_ok-read.ensures.place;
  samples = λ tells. c.in_ok-read.ensures.samples tells ∙ ap (λ n. next_block (record { start = g.on.at.start; blocks = n }) c.self.inside.input) many
      ∙ ap (λ (q : ProcessState g.row.I.Denot g.row.W.Denot). next_block (record { start = g.on.at.start; blocks = length p.journal.items }) q.input) c.self.view_is;
  stream = c.read.ensures.stream ∙ ap (λ q. q.input.stream) c.self.view_is;
  block = c.read.ensures.block ∙ ap (λ q. q.input.block) c.self.view_is;
  ended = λ over. c.read.ensures.ended (ap (λ q. q.input.done) c.self.view_is ∙ over ∙ sym (ap (λ q. q.input.stream.frames) c.self.view_is)) ∙ ap (λ q. q.input.input) c.self.view_is;
  no_fault = c.in_ok-read.ensures.cause.kept ∙ ap (λ q. inputs.faults q.input.input) c.self.view_is;
}
