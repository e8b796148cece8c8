-- What is accepted is valid, by the definition.
use Rattle.session_toml.proofs.SessionLaws.{laid-out-formed, given-valid}
use Rattle.session_toml.proofs.session.session_of.Goals as goal

pub without_cycle-requires : goal.without_cycle-requires
without_cycle-requires c = laid-out-formed c.args.bytes.now c.in_ok-session.session c.in_ok-session.ensures

pub returns-clause-valid : goal.returns-clause-valid
returns-clause-valid c = given-valid c.args.bytes.now c.in_ok-session.session c.without_cycle.result c.in_ok-session.ensures c.without_cycle.ensures
