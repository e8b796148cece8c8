-- The law, as it was proved of the definitions.
use Rattle.session_walk.proofs.RangeLaws.{written_is_in_range}
use Rattle.session_walk.proofs.laws.written_is_in_range.Goals as goal

pub returns : goal.returns
returns c = written_is_in_range
