-- What the walk with feeders first keeps from turn to turn.
use Rattle.std.proofs.Common.{◌≡◌, ℕ, ◌+◌, ◌≤◌, ◌<◌, true, eqb, arith, ◌∙◌, sym, List, [], length, take, Some, slice_index}
use Rattle.std.specs.Prelude.{slice_get, IsTrue}
use Rattle.std.proofs.lemmas.Bool.Decides.{nat_tests}
use Rattle.std.proofs.lemmas.Option.{slice_get_within}
use Rattle.sound_model.specs.Routes.{links}
use Rattle.session_model.specs.declared.route.Route.{Route}
use Rattle.session_model.specs.declared.session.Session.{Session}
use Rattle.session_model.specs.Views.{routes_of}
use Rattle.route_graph.specs.Places.{stands, StartsWith}
use Rattle.route_graph.specs.Walks.{plain, ways, waiting, IsSettled, IsPeeled}
use Rattle.route_graph.proofs.GraphLaws.{as_many}
use Rattle.route_graph.proofs.PlaceLaws.{false_is_true}
use Rattle.route_graph.proofs.WaitLaws.{all_done}
use Rattle.route_graph.proofs.WalkLaws.{stands_at, longer, no_more, peeled_whole, fed_more}
use Rattle.route_graph.proofs.FeedLaws.{turn_waits, waits_more}

-- The links of the routes of the first turns are taken away, and all to which no link is left are placed.
pub record IsFed (s : Session) (turn : ℕ) (counts places : List ℕ) : Type 0 where
  pub long : length counts ≡ length s.routes.items
  pub settled : IsSettled counts places
  pub waits : (t : ℕ) → t < length counts → slice_index counts t ≡ waiting 0 (routes_of s) (take turn places) t
  pub fed : (k f t : ℕ) → slice_get places k ≡ Some t → IsTrue (links (routes_of s) f t) → stands (take k places) f ≡ true
  pub done : turn ≤ length places

pub begun : (s : Session) (counts places : List ℕ) → length counts ≡ length s.routes.items → IsSettled counts places →
    ((t : ℕ) → t < length counts → slice_index counts t ≡ waiting 0 (routes_of s) [] t) → IsFed s 0 counts places
begun s counts places long settled waits = record {
  long = long;
  settled = settled;
  waits = waits;
  fed = λ k f t at l. no_feeder k f t at l (settled.low t (stands_at places k t at));
  done = omega arith;
}
  where
    no_feeder : (k f t : ℕ) → slice_get places k ≡ Some t → IsTrue (links (routes_of s) f t) → t < length counts → stands (take k places) f ≡ true
    no_feeder k f t at l here =
        let z : eqb (slice_index counts t) 0 ≡ true = sym (settled.zero t here) ∙ stands_at places k t at in
        let none : slice_index counts t ≡ 0 = grind (arith, nat_tests) in
        let same : 0 + f ≡ f = omega arith in
        false_is_true (all_done 0 (routes_of s) [] t (sym (waits t here) ∙ none) f f same l)

pub here : (s : Session) (turn place : ℕ) (counts places : List ℕ) → IsFed s turn counts places → slice_get places turn ≡ Some place → place < length s.routes.items
here s turn place counts places fed at = let low = fed.settled.low place (stands_at places turn place at) in omega (arith, fed.long)

pub linked : (s : Session) (turn place : ℕ) (q : Route) (counts places : List ℕ) → IsFed s turn counts places → slice_get places turn ≡ Some place →
    slice_get s.routes.items place ≡ Some q → (t : ℕ) → t < length counts → ways (plain q) t ≤ slice_index counts t
linked s turn place q counts places fed at e t h = omega (arith, fed.waits t h, turn_waits s places turn place t q fed.settled.once at e)

pub went_on : (s : Session) (turn place : ℕ) (q : Route) (counts next places more : List ℕ) → IsFed s turn counts places → slice_get places turn ≡ Some place →
    slice_get s.routes.items place ≡ Some q → length next ≡ length counts → IsSettled next more → StartsWith more places →
    ((t : ℕ) → t < length counts → slice_index next t + ways (plain q) t ≡ slice_index counts t) → IsFed s (turn + 1) next more
went_on s turn place q counts next places more fed at e same settled starts less =
    let before = slice_get_within places turn place at in
    let long : length next ≡ length s.routes.items = same ∙ fed.long in
    let waits : (t : ℕ) → t < length next → slice_index next t ≡ waiting 0 (routes_of s) (take (turn + 1) more) t = λ t h.
    waits_more s places more counts next turn place t q fed.settled.once at e starts before (fed.waits t (omega arith)) (less t (omega arith)) in
    record {
      long = long;
      settled = settled;
      waits = waits;
      fed = fed_more (routes_of s) next more places (turn + 1) (long ∙ sym (as_many s)) settled starts waits fed.fed (omega arith);
      done = let now = longer more places starts in omega arith;
    }

pub ended : (s : Session) (turn : ℕ) (counts places : List ℕ) → IsFed s turn counts places → length places ≤ turn → IsPeeled (routes_of s) places
ended s turn counts places fed all = peeled_whole (routes_of s) counts places turn (fed.long ∙ sym (as_many s)) fed.settled fed.waits fed.fed all

pub at_end : (s : Session) (turn : ℕ) (counts places : List ℕ) → IsFed s turn counts places → length s.routes.items ≤ turn → length places ≤ turn
at_end s turn counts places fed h = let few = no_more places (length counts) fed.settled.once fed.settled.low in omega (arith, fed.long)
