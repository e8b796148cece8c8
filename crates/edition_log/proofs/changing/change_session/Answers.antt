use Rattle.std.proofs.Common.{length, ap, sym, ◌∙◌}
use Rattle.std.proofs.lemmas.List.{length-map}
use Rattle.session_model.specs.Views.{route_of}
use Rattle.session_change.specs.Change.{change_seen}
use Rattle.edition_log.proofs.KeepLemmas.{as_many_routes}
use Rattle.edition_log.proofs.changing.change_session.Goals as goal

pub renew-requires-clause-long : goal.renew-requires-clause-long
renew-requires-clause-long c = let s = c.args.session.now in c.requires.order.long ∙ length-map s.routes.items (route_of s.tracks.items)
    ∙ sym (ap (λ z. length z.routes.items) c.make.ensures.made ∙ as_many_routes s (change_seen c.args.change.now))
