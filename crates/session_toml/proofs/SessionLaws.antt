-- An accepted session is valid.
use Rattle.std.proofs.Common.{◌≡◌, ℕ, ◌<◌, Bool, false, refl, sym, ◌∙◌, subst, arith, List, [], ◌∷◌, zero, suc, length, position, slice_get, nat_lt, Option, Some, None}
use Rattle.std.specs.Prelude.{Result, Ok, Err, IfOk}
use Rattle.std.specs.List.{position_or_len, range_with_len}
use Rattle.std.specs.Option.{option_and_then}
use Rattle.std.proofs.lemmas.Bool.Decides.{nat_tests}
use Rattle.std.proofs.lemmas.List.{length-map}
use Rattle.std.proofs.lemmas.List.FromFn.{length-range_with_len}
use Rattle.sound_laws.proofs.Cases.{by_test}
use Rattle.sound_model.specs.Routes as links
use Rattle.sound_model.specs.Reach.{reaches}
use Rattle.route_graph.specs.Cycles.{first_on_cycle}
use Rattle.route_graph.proofs.CycleLaws.{none_is_found_without_cycle}
use Rattle.session_model.specs.declared.route.Route.{Route}
use Rattle.session_model.specs.declared.session.Session.{Session}
use Rattle.session_model.specs.Formed.{IsFormed}
use Rattle.session_model.specs.Valid.{IsValid}
use Rattle.session_model.specs.Views as views
use Rattle.session_walk.specs.declared.fault.SessionFault.{SessionFault}
use Rattle.session_walk.specs.declared.said.Written.{Written}
use Rattle.session_walk.specs.Fault.{Gives}
use Rattle.session_walk.specs.Text.{written}
use Rattle.session_walk.proofs.PartRangeLaws.{after}
use Rattle.session_walk.proofs.RangeLaws.{written_is_in_range}
use Rattle.session_walk.proofs.SaysLaws.{written_is_said}
use Rattle.session_toml.specs.Session.{rules_of, built, laid_out, on_cycle, refuse_cycle, without_cycle, session}
use Rattle.session_toml.specs.Laws.{AcceptedIsValid, AcceptedIsSaid}
use Rattle.session_toml.proofs.FormLaws.{is-formed}

pub laid-out-formed : (bytes : List ℕ) (s : Session) → laid_out bytes ≡ Ok s → IsFormed s
unfolding laid_out
laid-out-formed bytes s e = after (written bytes) _ s e (λ w we e. after (rules_of w) _ s e (λ u ue e.
    let is : built w ≡ s = cc in
    subst IsFormed is (is-formed w u (written_is_in_range bytes w we) ue)))

-- ---- cycles

found-within : {X : Type 0} (p : X → Bool) (xs : List X) (i : ℕ) → position p xs ≡ Some i → i < length xs
found-within p xs i e = by_test (nat_lt (position_or_len p xs) (length xs))
    (λ t. let same : position_or_len p xs ≡ i = cc (rw t at e) in let below : position_or_len p xs < length xs = grind (arith, nat_tests) in omega (arith, same, below))
    (λ t. absurd (nothing t))
  where
    nothing : nat_lt (position_or_len p xs) (length xs) ≡ false → ⊥
    nothing t = cc (rw t at e)

first-within : (routes : List links.Route) (r : ℕ) → first_on_cycle routes ≡ Some r → r < length routes
unfolding first_on_cycle
first-within routes r e = omega (arith, found-within (λ q. reaches routes q q) (range_with_len 0 (length routes)) r e, length-range_with_len 0 (length routes))

there-within : {X : Type 0} (xs : List X) (i : ℕ) → i < length xs → (x : X) × (slice_get xs i ≡ Some x)
there-within [] i h = absurd (omega arith)
there-within (x ∷ xs) zero h = (x, refl)
there-within (x ∷ xs) (suc i) h = there-within xs i (omega arith)

none-on-cycle : (s : Session) → on_cycle s ≡ None → first_on_cycle (views.routes_of s) ≡ None
none-on-cycle s e = go (first_on_cycle (views.routes_of s)) refl e
  where
    go : (o : Option ℕ) → first_on_cycle (views.routes_of s) ≡ o → option_and_then (slice_get s.routes.items) o ≡ None → first_on_cycle (views.routes_of s) ≡ None
    go None is f = is
    go (Some r) is f =
        let below : r < length s.routes.items = omega (arith, first-within (views.routes_of s) r is, length-map s.routes.items (views.route_of s.tracks.items)) in
        let (q, at) = there-within s.routes.items r below in
        absurd (nothing q (sym at ∙ f))
      where
        nothing : (q : Route) → Some q ≡ None → ⊥
        nothing q g = cc

passed : (s t : Session) (o : Option Route) → refuse_cycle s o ≡ Ok t → (o ≡ None) × (s ≡ t)
passed s t None e = (refl, cc)
passed s t (Some q) e = cc

pub accepted_is_valid : AcceptedIsValid
unfolding session
accepted_is_valid bytes s e = after (laid_out bytes) _ s e (λ t te last.
    let (none, is) = passed t s (on_cycle t) last in
    subst IsValid is (record { formed = laid-out-formed bytes t te; no_cycle = (none_is_found_without_cycle (views.routes_of t)).0 (none-on-cycle t none) }))

session-is : (bytes : List ℕ) (s : Session) → laid_out bytes ≡ Ok s → session bytes ≡ without_cycle s
unfolding session
session-is bytes s e = rw e refl

pub given-valid : (bytes : List ℕ) (s : Session) (result : Result Session SessionFault) → laid_out bytes ≡ Ok s → Gives (without_cycle s) result → IfOk result IsValid
given-valid bytes s (Ok t) e given = accepted_is_valid bytes t (session-is bytes s e ∙ given)
given-valid bytes s (Err fault) e given = tt

-- an accepted session is built of what its text says
pub accepted-built : (bytes : List ℕ) (s : Session) → session bytes ≡ Ok s → (w : Written) × (written bytes ≡ Ok w) × (s ≡ built w)
unfolding session laid_out
accepted-built bytes s e = after (laid_out bytes) _ s e (λ t te last. after (written bytes) _ t te (λ w we kept. after (rules_of w) _ t kept (λ u ue made.
    let (none, same) = passed t s (on_cycle t) last in
    let is : built w ≡ t = cc in
    (w, we, sym same ∙ sym is))))

pub accepted_is_said : AcceptedIsSaid
accepted_is_said bytes s e =
    let (w, we, is) = accepted-built bytes s e in
    let (m, doc, said) = written_is_said bytes w we in
    (m, w, doc, said, is)
