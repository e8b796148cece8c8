use Rattle.std.proofs.Common.{length, ap, sym, subst, ◌∙◌}
use Rattle.process_ends.specs.Ends.{AreOtherEnds}
use Rattle.process_cycle.proofs.MeetingLemmas.{knows_after_a_meeting, meets_others}
use Rattle.process_cycle.proofs.TellingLemmas.{ends_told}
use Rattle.process_cycle.proofs.process.parts.ProcessOtherEnds.meet_plays.Goals as goal

pub invariant_of-self : goal.invariant_of-self
invariant_of-self g c = knows_after_a_meeting _ _ _ _ c.self.inside.playbacks.items c.meet_plays.ensures.plays (ap (λ p. length p.ends.plays.items) c.self.view_is ∙ c.requires.others.plays.count) c.self.invariant

pub returns-clause-told : goal.returns-clause-told
returns-clause-told g c = ends_told c.self.inside.ends _ c.args.ends.now _ (subst (λ p. AreOtherEnds p.ends c.args.ends.now) (sym c.self.view_is) c.requires.others) c.meet_plays.ensures

pub returns-clause-meets : goal.returns-clause-meets
returns-clause-meets g c = meets_others g.I.Source.outside g.W.Sink.outside _ c.args.self.now c.args.ends.now _ _ c.self.view_is c.requires.others c.meet_plays.ensures
