use Rattle.session_run.proofs.top.run.Goals as goal

-- src/top.rt
pub returns-clause-usage : goal.returns-clause-usage
returns-clause-usage g c = c.run_alone.ensures.usage

pub returns-clause-ends : goal.returns-clause-ends
returns-clause-ends g c = c.run_alone.ensures.ends

pub returns-clause-status : goal.returns-clause-status
returns-clause-status g c = c.run_alone.ensures.status

pub returns-clause-played : goal.returns-clause-played
returns-clause-played g c = c.run_alone.ensures.played

pub returns-clause-rendered : goal.returns-clause-rendered
returns-clause-rendered g c = c.run_alone.ensures.rendered

pub returns-clause-replies : goal.returns-clause-replies
returns-clause-replies g c = c.run_alone.ensures.replies

pub returns-clause-complete : goal.returns-clause-complete
returns-clause-complete g c = c.run_alone.ensures.complete

pub returns-clause-causes : goal.returns-clause-causes
returns-clause-causes g c = c.run_alone.ensures.causes

pub returns-clause-rest : goal.returns-clause-rest
returns-clause-rest g c = c.run_alone.ensures.rest
