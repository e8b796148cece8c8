use Rattle.lead_worker.specs.Leads.{IsLed}
use Rattle.lead_worker.specs.Links.{GoesOnLink}
use Rattle.lead_worker.proofs.leading.all_lines.Given as goal

abbrev pub invariant-loop-line : goal.invariant-loop-line
invariant-loop-line g l = record {
  led : IsLed g.C.Source.outside g.O.Sink.outside l.session.value l.initial.control l.lists l.control l.link;
  goes : GoesOnLink l.initial.link l.link;
}
