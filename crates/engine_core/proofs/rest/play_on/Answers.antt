use Rattle.std.proofs.Common.{sym, ◌∙◌}
use Rattle.engine_core.proofs.RestLemmas as rest
use Rattle.engine_core.proofs.rest.play_on.Goals as goal

-- src/rest.rt
pub playing-init : goal.playing-init
playing-init g c = rest.rest_begins g.M.Media.outside g.I.Source.outside g.C.Source.outside g.W.Sink.outside g.O.Sink.outside g.on.opening g.on.letters c.args.engine.now c.requires.1.1.1.1.1

pub serial_cycle-requires : goal.serial_cycle-requires
serial_cycle-requires g c κs within = let is = c.playing.invariant in
    let next = rest.cycle_is_next_by c.playing.engine c.is_line_due.result c.is_finished.result c.is_line_due.ensures c.is_finished.ensures c.if-is_line_due.false c.playing-test.true is.may.may_carry.unquit in
    (within.0, (within.1.0, (within.1.1, (is.may.under_way, next.may))))

pub playing-preserved-then-is_line_due : goal.playing-preserved-then-is_line_due
playing-preserved-then-is_line_due g c = let did = c.carry.ensures in
    rest.line_rests g.M.Media.outside g.I.Source.outside g.C.Source.outside g.W.Sink.outside g.O.Sink.outside g.on.opening g.on.letters c.playing.engine c.carry.new.self
    did.carries did.may did.as_machine c.playing.invariant

pub playing-smaller-then-is_line_due : goal.playing-smaller-then-is_line_due
playing-smaller-then-is_line_due g c =
    rest.line_leaves_less g.M.Media.outside g.I.Source.outside g.C.Source.outside g.W.Sink.outside g.O.Sink.outside g.on.opening g.on.letters c.playing.engine c.carry.new.self c.carry.ensures.carries
    (sym c.is_line_due.ensures ∙ c.if-is_line_due.true)

pub playing-preserved : goal.playing-preserved
playing-preserved g c = let did = c.serial_cycle.ensures in let is = c.playing.invariant in
    let next = rest.cycle_is_next_by c.playing.engine c.is_line_due.result c.is_finished.result c.is_line_due.ensures c.is_finished.ensures c.if-is_line_due.false c.playing-test.true is.may.may_carry.unquit in
    rest.cycle_rests g.M.Media.outside g.I.Source.outside g.C.Source.outside g.W.Sink.outside g.O.Sink.outside g.on.opening g.on.letters c.playing.engine c.serial_cycle.new.run next.not_due next.unfinished
    did.under_way did.went_on did.as_machine next.may did.loses_none did.newest did.plays_plain is

pub playing-smaller : goal.playing-smaller
playing-smaller g c = let did = c.serial_cycle.ensures in let is = c.playing.invariant in
    let next = rest.cycle_is_next_by c.playing.engine c.is_line_due.result c.is_finished.result c.is_line_due.ensures c.is_finished.ensures c.if-is_line_due.false c.playing-test.true is.may.may_carry.unquit in
    rest.cycle_leaves_less g.M.Media.outside g.I.Source.outside g.C.Source.outside g.W.Sink.outside g.O.Sink.outside g.on.opening g.on.letters c.playing.engine c.serial_cycle.new.run next.may.can_run
    did.went_on did.makes is

pub returns-clause-finished : goal.returns-clause-finished
returns-clause-finished g c = rest.is_finished_then c.playing.engine (sym c.is_finished.ensures ∙ c.playing-test.false)
