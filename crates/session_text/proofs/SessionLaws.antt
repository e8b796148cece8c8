-- The text of a valid session is read as that session.
use Rattle.std.proofs.Common.{◌≡◌, ℕ, suc, refl, ap, sym, ◌∙◌, subst, List, [], ◌∷◌, length, map, None}
use Rattle.std.specs.Prelude.{Ok}
use Rattle.std.proofs.lemmas.List.{map-append}
use Rattle.route_graph.specs.Cycles.{first_on_cycle}
use Rattle.route_graph.proofs.CycleLaws.{none_is_found_without_cycle}
use Rattle.session_model.specs.declared.route.RouteKind.{RouteKind}
use Rattle.session_model.specs.declared.route.Route.{Route}
use Rattle.session_model.specs.declared.session.Session.{Session}
use Rattle.session_model.specs.Valid.{IsValid}
use Rattle.session_model.specs.Views as views
use Rattle.session_walk.specs.declared.said as text
use Rattle.session_walk.specs.Text.{document}
use Rattle.session_toml.specs.Built.{numbered, route_names, kind_in, route_in, master_in, routes_in, session_in}
use Rattle.session_toml.specs.Session.{routes_of, tracks_of, built, laid_out, without_cycle, session}
use Rattle.session_toml.proofs.SessionLaws.{accepted_is_said}
use Rattle.session_text.specs.Kept.{IsKept}
use Rattle.session_text.specs.Session.{session_table, route_as_read, as_read}
use Rattle.session_text.specs.Said.{said_of}
use Rattle.session_text.specs.Laws.{ReadSessionsStay}
use Rattle.session_text.proofs.ListLaws.{map-map}
use Rattle.session_text.proofs.DocumentLaws.{text-read}
use Rattle.session_text.proofs.DeskLaws.{Desk, desk}
use Rattle.session_text.proofs.SaidLaws.{said-range, said-text}
use Rattle.session_text.proofs.RuleLaws.{none-refused}
use Rattle.session_text.proofs.BuiltLaws.{built-back}

-- ---- no cycle

same-links : (s : Session) → views.routes_of (as_read s) ≡ views.routes_of s
unfolding as_read
same-links s = map-map route_as_read (views.route_of s.tracks.items) s.routes.items

pub no-cycle : (s : Session) → IsValid s → without_cycle (as_read s) ≡ Ok (as_read s)
no-cycle s valid =
    let none : first_on_cycle (views.routes_of (as_read s)) ≡ None = ap first_on_cycle (same-links s) ∙ (none_is_found_without_cycle (views.routes_of s)).1 valid.no_cycle in
    rw none refl

-- ---- the session

pub session-read : (bytes : List ℕ) (s : Session) → IsValid s → IsKept s → document bytes ≡ Ok (session_table s) → session bytes ≡ Ok (as_read s)
unfolding session laid_out
session-read bytes s valid kept doc =
    let d : Desk s = desk s valid.formed kept in
    rw (text-read bytes (said_of s) doc (said-range s d) (said-text s d), none-refused s d, built-back s d) (no-cycle s valid)

-- ---- a session that is read has its rooms already

routes-stay : (names : List (List ℕ)) (kind : ℕ → RouteKind) (n : ℕ) (qs : List text.RouteText.RouteText) →
    map route_as_read (numbered (λ place. route_in names (kind place)) n qs) ≡ numbered (λ place. route_in names (kind place)) n qs
unfolding route_in
routes-stay names kind n [] = refl
routes-stay names kind n (q ∷ qs) = ap (λ rs. route_in names (kind n) q ∷ rs) (routes-stay names kind (suc n) qs)

built-stays : (w : text.Written.Written) → as_read (built w) ≡ built w
unfolding as_read session_in master_in
built-stays w =
    let routes = routes_in (length (tracks_of w)) (routes_of w) in
    let last : Route = master_in w.head.channels w.master in
    rw (map-append route_as_read routes (last ∷ []), routes-stay (route_names (routes_of w)) (kind_in (length (tracks_of w))) 0 (routes_of w)) refl

pub read_sessions_stay : ReadSessionsStay
read_sessions_stay bytes s e =
    let (m, w, doc, said, is) = accepted_is_said bytes s e in
    let P : Session → Type 0 = λ t. as_read t ≡ t in
    subst P (sym is) (built-stays w)
