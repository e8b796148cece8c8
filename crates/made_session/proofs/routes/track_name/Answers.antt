-- The name keeps the rule.
use Rattle.std.proofs.Common.{◌≡◌, true, ap, ◌∙◌, rules}
use Rattle.ses_units.specs.Name.{is_name}
use Rattle.made_session.specs.Made.{track_name}
use Rattle.made_session.proofs.NameLemmas.{named}
use Rattle.made_session.proofs.routes.track_name.Goals as goal

pub unreachable-requires : goal.unreachable-requires
unreachable-requires c = let text : c.as_str.result.now ≡ track_name c.args.t = search rules in
    let judged : is_name c.as_str.result.now ≡ true = ap is_name text ∙ named c.args.t c.requires in search rules
