-- A formed session's links lead to routes with no fewer channels.
use Rattle.engine_laws.proofs.WideLemmas.{leads_wide}
use Rattle.mix_laws.specs.Wide.{LinksLeadWide}

pub links_lead_wide : LinksLeadWide
links_lead_wide s formed = leads_wide s formed
