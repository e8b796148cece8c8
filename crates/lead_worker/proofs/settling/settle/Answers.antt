use Rattle.std.proofs.Common.{ap, sym, ◌∙◌}
use Rattle.std.specs.Prelude.{Some}
use Rattle.std.specs.Option.{option_map}
use Rattle.control_desk.specs.Seen.{awaited_of}
use Rattle.lead_worker.proofs.LinkLemmas.{paced_seek}
use Rattle.lead_worker.proofs.SettleLemmas.{settled_none, settled_pause, settled_sync}
use Rattle.lead_worker.proofs.settling.settle.Goals as goal

-- src/settling.rt
pub returns-in-Some-Entries-clause-settles : goal.returns-in-Some-Entries-clause-settles
returns-in-Some-Entries-clause-settles g c s from lines replies edits before is was adds paced heard = let old = c.args.control.now in
    settled_pause g.C.Source.outside g.O.Sink.outside s from lines replies edits before c.args.edition old c.answer.new.self c.args.link.now c.pause.new.self is was adds paced heard
    c.after_pause.result c.pause.ensures.goes c.answer.ensures.replies c.answer.ensures.goes c.in-Some-Entries.cycles
    (sym c.awaits.ensures ∙ ap (option_map awaited_of) (c.in-Some-Entries.is ∙ ap Some c.in-Some-Entries.field-0-is)) c.after_pause.ensures (c.pause.ensures.paced before paced)

pub returns-in-Some-SettledIn-clause-settles : goal.returns-in-Some-SettledIn-clause-settles
returns-in-Some-SettledIn-clause-settles g c s from lines replies edits before is was adds paced heard = let old = c.args.control.now in
    settled_sync g.C.Source.outside g.O.Sink.outside s from lines replies edits before c.args.edition old c.answer-in-Some-SettledIn.new.self c.args.link.now c.seek-closed.new.self is was adds paced heard
    c.after_sync.result c.seek-closed.ensures.goes c.answer-in-Some-SettledIn.ensures.replies c.answer-in-Some-SettledIn.ensures.goes c.in-Some-SettledIn.field-0-0 c.best.result c.seek-closed.result
    (sym c.awaits.ensures ∙ ap (option_map awaited_of) (c.in-Some-SettledIn.is ∙ ap Some c.in-Some-SettledIn.field-0-is)) c.after_sync.ensures c.seek-closed.ensures.closed c.best.ensures c.seek-closed.ensures.found
    (c.seek-closed.ensures.paced before (paced_seek c.args.link.now before c.args.edition paced))

pub returns-in-None-clause-settles : goal.returns-in-None-clause-settles
returns-in-None-clause-settles g c s from lines replies edits before is was adds paced heard =
    settled_none g.C.Source.outside g.O.Sink.outside s from lines replies edits before c.args.edition c.args.control.now c.args.control.now c.args.link.now c.args.link.now is was adds paced heard
    (sym c.awaits.ensures ∙ ap (option_map awaited_of) c.in-None.is)
