use Rattle.control_letter.proofs.WholeLemmas as laws
use Rattle.control_letter.proofs.laws.the_letter_is_done.Goals as goal

pub returns : goal.returns
returns g c = laws.the_letter_is_done g.C.Source.outside g.O.Sink.outside
