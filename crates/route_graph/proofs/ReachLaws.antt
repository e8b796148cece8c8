-- What the walk from a route has found.
use Rattle.std.proofs.Common.{◌≡◌, ℕ, ◌+◌, ◌≤◌, ◌<◌, ◌⊎◌, inl, inr, Bool, true, false, ◌||◌, refl, ap, arith, ◌∙◌, sym, List, length, Some, None}
use Rattle.std.specs.Prelude.{slice_get, IsTrue, ◌↔◌}
use Rattle.std.proofs.lemmas.Bool.{cases_lt}
use Rattle.std.proofs.lemmas.Option.{slice_get_within, slice_get-get_or}
use Rattle.sound_model.specs.Routes.{Reaches, by_link, then_on, feeds, links}
use Rattle.session_model.specs.declared.route.Route.{Route}
use Rattle.session_model.specs.declared.session.Session.{Session}
use Rattle.session_model.specs.Formed.{IsFormed}
use Rattle.session_model.specs.Views.{routes_of}
use Rattle.route_graph.specs.Places.{stands, AreOnce, StartsWith}
use Rattle.route_graph.specs.Walks.{plain, LinksBelow}
use Rattle.route_graph.proofs.CycleLaws.{then_reaches}
use Rattle.route_graph.proofs.GraphLaws.{links_at, links_low, below_more, reached_low}
use Rattle.route_graph.proofs.WalkLaws.{at_turn, stands_at, get_front, stands_starts, longer, no_more}

-- The walk has found some, and of those of the first turns all that they lead to.
pub record IsWalked (s : Session) (from turn : ℕ) (found : List ℕ) : Type 0 where
  pub once : AreOnce found
  pub sound : (t : ℕ) → stands found t ≡ true → Reaches (routes_of s) from t
  pub first : (t : ℕ) → IsTrue (links (routes_of s) from t) → stands found t ≡ true
  pub closed : (k g t : ℕ) → k < turn → slice_get found k ≡ Some g → IsTrue (links (routes_of s) g t) → stands found t ≡ true
  pub seen : turn ≤ length found

pub low : (s : Session) → IsFormed s → (f : ℕ) (q : Route) → slice_get s.routes.items f ≡ Some q → LinksBelow 64 q
low s formed f q e = below_more (length s.routes.items) 64 q formed.limits.routes (links_low s formed f q e)

either : (a b : Bool) → (a || b) ≡ true → (a ≡ true) ⊎ (b ≡ true)
either true b e = inl refl
either false b e = inr e

pub begun : (s : Session) (from : ℕ) (q : Route) (found : List ℕ) → slice_get s.routes.items from ≡ Some q → AreOnce found →
    ((t : ℕ) → stands found t ≡ (false || feeds (plain q) t)) → IsWalked s from 0 found
begun s from q found e once stand = record {
  once = once;
  sound = λ t h. by_link (links_at s from q e t ∙ sym (stand t) ∙ h);
  first = λ t l. stand t ∙ sym (links_at s from q e t) ∙ l;
  closed = λ k g t h at l. absurd (omega arith);
  seen = omega arith;
}

pub here : (s : Session) → IsFormed s → (from turn place : ℕ) (found : List ℕ) → IsWalked s from turn found → slice_get found turn ≡ Some place → place < length s.routes.items
here s formed from turn place found walked at = reached_low s formed from place (walked.sound place (stands_at found turn place at))

pub went_on : (s : Session) (from turn place : ℕ) (q : Route) (found more : List ℕ) → IsWalked s from turn found → slice_get found turn ≡ Some place →
    slice_get s.routes.items place ≡ Some q → StartsWith more found → AreOnce more → ((t : ℕ) → stands more t ≡ (stands found t || feeds (plain q) t)) →
    IsWalked s from (turn + 1) more
went_on s from turn place q found more walked at e starts once stand = record {
  once = once;
  sound = λ t h. reached t (either (stands found t) (feeds (plain q) t) (sym (stand t) ∙ h));
  first = λ t l. stands_starts more found t starts (walked.first t l);
  closed = λ k g t h there l. closed k g t l there (cases_lt k turn) h;
  seen = let before = slice_get_within found turn place at in omega (arith, longer more found starts);
}
  where
    reached : (t : ℕ) → (stands found t ≡ true) ⊎ (feeds (plain q) t ≡ true) → Reaches (routes_of s) from t
    reached t (inl h) = walked.sound t h
    reached t (inr h) = then_reaches (routes_of s) from place t (walked.sound place (stands_at found turn place at)) (by_link (links_at s place q e t ∙ h))

    old : (k g : ℕ) → k < length found → slice_get more k ≡ Some g → slice_get found k ≡ Some g
    old k g h there = sym (ap (λ l. slice_get l k) starts.1 ∙ get_front found starts.0 k h) ∙ there

    or_true : (a b : Bool) → b ≡ true → (a || b) ≡ true
    or_true true b h = refl
    or_true false b h = h

    same_some : (a b : ℕ) → slice_get found turn ≡ Some a → slice_get found turn ≡ Some b → a ≡ b
    same_some a b h g = cc

    closed : (k g t : ℕ) → IsTrue (links (routes_of s) g t) → slice_get more k ≡ Some g → (k < turn) ⊎ (turn ≤ k) → k < turn + 1 → stands more t ≡ true
    closed k g t l there (inl before) h = stands_starts more found t starts (walked.closed k g t before (old k g (omega (arith, walked.seen)) there) l)
    closed k g t l there (inr last) h =
        let now : k ≡ turn = omega arith in
        let it : slice_get found turn ≡ Some g = ap (slice_get found) (sym now) ∙ old k g (omega (arith, slice_get_within found turn place at)) there in
        let same : g ≡ place = same_some g place it at in
        stand t ∙ or_true (stands found t) (feeds (plain q) t) (sym (links_at s place q e t) ∙ ap (λ f. links (routes_of s) f t) (sym same) ∙ l)

complete : (s : Session) (from turn : ℕ) (found : List ℕ) → IsWalked s from turn found → length found ≤ turn → (t : ℕ) → Reaches (routes_of s) from t → stands found t ≡ true
complete s from turn found walked all t way = go way
  where
    next : (g h : ℕ) → stands found g ≡ true → IsTrue (links (routes_of s) g h) → stands found h ≡ true
    next g h e l = let k = at_turn found g e in walked.closed k.0 g h (omega (arith, slice_get_within found k.0 g k.1)) k.1 l

    on : (g h : ℕ) → stands found g ≡ true → Reaches (routes_of s) g h → stands found h ≡ true
    on g h e (by_link l) = next g h e l
    on g h e (then_on {next = k} l rest) = on k h (next g k e l) rest

    go : Reaches (routes_of s) from t → stands found t ≡ true
    go (by_link l) = walked.first t l
    go (then_on {next = k} l rest) = on k t (walked.first k l) rest

pub found_all : (s : Session) (from turn : ℕ) (found : List ℕ) → IsWalked s from turn found → length found ≤ turn →
    (t : ℕ) → IsTrue (stands found t) ↔ Reaches (routes_of s) from t
found_all s from turn found walked all t = (walked.sound t, complete s from turn found walked all t)

-- of routes there are no more than turns
pub at_end : (s : Session) → IsFormed s → (from turn : ℕ) (found : List ℕ) → IsWalked s from turn found → length s.routes.items ≤ turn → length found ≤ turn
at_end s formed from turn found walked h =
    let few = no_more found (length s.routes.items) walked.once (λ t e. reached_low s formed from t (walked.sound t e)) in omega arith

pub past : (found : List ℕ) (turn : ℕ) → slice_get found turn ≡ None → length found ≤ turn
past found turn e = go (cases_lt turn (length found))
  where
    nothing : (x : ℕ) → slice_get found turn ≡ Some x → ⊥
    nothing x h = cc

    go : (turn < length found) ⊎ (length found ≤ turn) → length found ≤ turn
    go (inl h) = absurd (nothing _ (slice_get-get_or found turn 0 h))
    go (inr h) = h
