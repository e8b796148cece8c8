use Rattle.std.proofs.Common.{rules, ◌∙◌, ◌∷◌, [], ◌++◌, length, arith, ap, subst, None, IsTrue}
use Rattle.ses_units.specs.Name.{is_name}
use Rattle.std.proofs.lemmas.List.FromFn.{length-map-range_with_len}
use Rattle.capture_flush.specs.Taking.{at_first}
use Rattle.capture_flush.proofs.TakingLemmas.{one_track_more, name_more}
use Rattle.capture_flush.proofs.takes.tracks_of.Goals as goal

pub push-requires : goal.push-requires
push-requires c = let long = ap length c.loop-t.invariant.items ∙ length-map-range_with_len (at_first c.args.s.now) 0 c.loop-t.t in omega (arith, long, c.loop-t.invariant.room, c.loop-t-test.true)

pub loop-t-preserved : goal.loop-t-preserved
loop-t-preserved c = record { within = search rules; items = ap (λ l. l.items) c.push.ensures ∙ ap (λ n. c.loop-t.tracks.items ++ record { name = n; channels = c.index-routes-t.result.channels; last = None } ∷ []) c.named.ensures.name ∙ one_track_more c.args.s.now c.loop-t.t c.loop-t.tracks.items c.index-routes-t.result (search rules) (search rules) c.loop-t.invariant.items; named = name_more c.args.s.now c.loop-t.t c.index-routes-t.result (search rules) (search rules) c.loop-t.invariant.named (subst (λ n. IsTrue (is_name n)) c.named.ensures.name c.named.ensures.rule); room = search rules; routes = search rules }
