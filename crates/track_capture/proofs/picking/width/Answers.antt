-- A route has a channel.
use Rattle.std.proofs.Common.{◌≡◌, ◌<◌, length, ap, arith, subst, sym, ◌∙◌}
use Rattle.std.specs.Prelude.{slice_get, Some}
use Rattle.std.proofs.lemmas.Option.{slice_get_read}
use Rattle.track_capture.proofs.picking.width.Goals as goal

pub returns-clause-some : goal.returns-clause-some
returns-clause-some c = let s = c.args.session.now in let q = c.index-as_slice-track.result in let list = c.as_slice.result.now in let items = c.as_slice.ensures.items in
    let there : slice_get s.routes.items c.args.track ≡ Some q = ap (λ l. slice_get l c.args.track) (sym items)
    ∙ slice_get_read list (length s.routes.items) c.args.track q (ap length (sym items)) (omega (arith, c.requires.track, c.requires.valid.formed.limits.master)) c.index-as_slice-track.is in
    let some = (c.requires.valid.formed.routes c.args.track q there).channels.least in
    subst (λ n. 0 < n) (ap (λ x. x.channels) c.index-as_slice-track.is) (omega (arith, some))
