-- What is kept of each track is in the lists that were made of the tables.
use Rattle.std.proofs.Common.{ap, subst, sym, slice_index_or, ◌∙◌}
use Rattle.std.specs.Prelude.{slice_get}
use Rattle.track_playback.specs.Played.{IsNewPlayback}
use Rattle.process_ends.specs.Ends.{block_of}
use Rattle.process_cycle.proofs.process.stores.new_stores.Goals as goal

pub returns-clause-each : goal.returns-clause-each
returns-clause-each c = λ t d within. subst (λ xs. IsNewPlayback c.args.s.now.depth (block_of c.args.s.now t) (slice_index_or xs t d)) (sym c.from_vec.ensures.items)
    (c.in_ok-new_playbacks.ensures.each t d within)

pub returns-clause-each_capture : goal.returns-clause-each_capture
returns-clause-each_capture c = λ t k there. c.in_ok-new_captures.ensures.each t k (ap (λ xs. slice_get xs t) (sym c.from_vec-2.ensures.items) ∙ there)
