use Rattle.std.proofs.Common.{◌+◌, ◌++◌, ◌∙◌, ap, arith, map, length}
use Rattle.std.proofs.lemmas.List.{length_push}
use Rattle.cycle_journal.specs.declared.note.Note.{Note}
use Rattle.cycle_journal.specs.declared.note.Take.TheVariants.{Off}
use Rattle.engine_model.specs.Journal as journal
use Rattle.cycle_journal.specs.JournalView.{seen_note, seen_state}
use Rattle.track_playback.specs.SpareBoxes.{received_kinds}
use Rattle.track_playback.proofs.HeardLemmas.{ring_of}
use Rattle.track_playback.proofs.NotingLemmas.{left, noted, noted_more, noted_all}
use Rattle.track_playback.proofs.noting.notes.Goals as goal

pub play-requires-clause-shown : goal.play-requires-clause-shown
play-requires-clause-shown g c =
    let r = ring_of c.args.at g.plays c.args.playbacks.now c.loop-playback.playback-index c.playback-item.result c.requires.0 c.loop-playback-test.true c.playback-item.is in (r.ring, r.heard)

pub loop-playback-preserved : goal.loop-playback-preserved
loop-playback-preserved g c = let l = c.loop-playback in let at = c.args.at in let note : Note = record { play = c.play.result; take = Off } in record {
  count = ap length c.push.ensures.items ∙ length_push l.notes.items note ∙ ap (λ n. n + 1) l.invariant.count;
  notes = ap (λ xs. map seen_note xs ++ map (noted (seen_state c.args.state)) (left g.plays (l.playback-index + 1))) c.push.ensures.items
      ∙ noted_more at c.args.state g.plays c.args.playbacks.now l.playback-index l.notes.items note (map (noted (seen_state c.args.state)) (map received_kinds g.plays)) c.playback-item.result
      c.requires.0 c.loop-playback-test.true c.playback-item.is (λ r is. ap (λ p. record { play = p; take = journal.Off }) (c.play.ensures r is)) l.invariant.notes;
}

pub returns : goal.returns
returns g c = let l = c.loop-playback in noted_all c.args.state g.plays l.playback-index l.notes.items (omega (arith, c.loop-playback-test.false, c.requires.0.count)) l.invariant.notes
