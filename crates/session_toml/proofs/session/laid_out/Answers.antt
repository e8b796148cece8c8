-- What the walk and the rules said of the text.
use Rattle.std.proofs.Common.{◌≡◌, ℕ, ◌≤◌, ◌∙◌, ap, sym, subst, arith, List, length, All}
use Rattle.std.proofs.lemmas.List.{length-map}
use Rattle.session_walk.specs.declared.said as text
use Rattle.session_walk.proofs.RangeLaws.{written_is_in_range}
use Rattle.std.specs.Prelude.{Ok}
use Rattle.session_toml.specs.Apart.{ArePlayable}
use Rattle.session_toml.specs.Rules.{rules}
use Rattle.session_toml.specs.Session.{routes_of, tracks_of, rules_of}
use Rattle.session_toml.proofs.FormLaws.{its-playlists, its-sends, routes-few}
use Rattle.session_toml.proofs.session.laid_out.Goals as goal

pub session_in-requires-clause-sources : goal.session_in-requires-clause-sources
session_in-requires-clause-sources c = (written_is_in_range c.args.bytes.now c.in_ok-text.text c.in_ok-text.ensures).few_sources

pub session_in-requires-clause-room : goal.session_in-requires-clause-room
session_in-requires-clause-room c = (written_is_in_range c.args.bytes.now c.in_ok-text.text c.in_ok-text.ensures).room

pub session_in-requires-clause-routes : goal.session_in-requires-clause-routes
session_in-requires-clause-routes c =
    let P : List text.RouteText.RouteText → Type 0 = λ qs. length qs ≤ 63 in
    subst P (sym c.in_ok-desk.ensures.routes) (routes-few c.in_ok-text.text (written_is_in_range c.args.bytes.now c.in_ok-text.text c.in_ok-text.ensures))

pub session_in-requires-clause-tracks : goal.session_in-requires-clause-tracks
session_in-requires-clause-tracks c =
    let range = written_is_in_range c.args.bytes.now c.in_ok-text.text c.in_ok-text.ensures in
    omega (arith, ap length c.in_ok-desk.ensures.tracks, length-map c.in_ok-text.text.tracks.items (λ k. k.own), range.few_tracks)

pub session_in-requires-clause-sends : goal.session_in-requires-clause-sends
session_in-requires-clause-sends c =
    let P : List text.RouteText.RouteText → Type 0 = All (λ q. length q.sends.items ≤ 8) in
    subst P (sym c.in_ok-desk.ensures.routes) (its-sends c.in_ok-text.text (written_is_in_range c.args.bytes.now c.in_ok-text.text c.in_ok-text.ensures))

pub session_in-requires-clause-playable : goal.session_in-requires-clause-playable
session_in-requires-clause-playable c =
    let P : List text.TrackOwn.TrackOwn → Type 0 = All (λ k. ArePlayable k.regions.items) in
    let w = c.in_ok-text.text in
    let channels : ℕ = w.head.channels in
    let routes : c.deref.result.now ≡ routes_of w = c.deref.ensures.value ∙ c.in_ok-desk.ensures.routes in
    let tracks : c.deref-2.result.now ≡ tracks_of w = c.deref-2.ensures.value ∙ c.in_ok-desk.ensures.tracks in
    let kept : rules_of w ≡ Ok c.in_ok-rules.field-0 = ap (λ qs. rules qs (tracks_of w) w.sources.items channels) (sym routes)
    ∙ ap (λ ks. rules c.deref.result.now ks w.sources.items channels) (sym tracks)
    ∙ ap (λ ds. rules c.deref.result.now c.deref-2.result.now ds channels) (sym c.as_slice.ensures.items) ∙ sym c.in_ok-rules.ensures in
    subst P (sym c.in_ok-desk.ensures.tracks) (its-playlists w c.in_ok-rules.field-0 (written_is_in_range c.args.bytes.now w c.in_ok-text.ensures) kept)
