use Rattle.serial_laws.proofs.RestLemmas as laws
use Rattle.serial_laws.proofs.rest.the_next_letter_leads_on.Goals as goal

pub returns : goal.returns
returns c = laws.the_next_letter_leads_on
