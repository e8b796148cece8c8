-- What the counts of links keep.
use Rattle.std.proofs.Common.{◌≡◌, ◌==◌, ℕ, ◌+◌, ◌-◌, ◌≤◌, ◌<◌, Bool, true, false, cond, eqb, refl, ap, arith, ◌∙◌, sym, subst, List, [], length, take, get_or, set, Option, Some, None, slice_index}
use Rattle.std.specs.Prelude.{slice_get, IfSome, if◌then◌else◌}
use Rattle.std.specs.List.{count_by}
use Rattle.std.proofs.lemmas.Bool.Decides.{nat_tests}
use Rattle.std.proofs.lemmas.List.{get_or-set_same, get_or-set_other}
use Rattle.std.proofs.lemmas.List.Sums.{count_by-le-length, count_by_more_yes, count_by_more_no, sum_by-take-le}
use Rattle.sound_laws.proofs.Cases.{by_test}
use Rattle.sound_model.specs.Routes.{leads_to}
use Rattle.session_model.specs.declared.route.SendLink.{SendLink}
use Rattle.session_model.specs.declared.route.Route.{Route}
use Rattle.session_model.specs.declared.session.Session.{Session}
use Rattle.session_model.specs.Views.{send_of, route_of, routes_of}
use Rattle.route_graph.specs.Places.{AreOnce, StartsWith}
use Rattle.route_graph.specs.Walks.{plain, LinksBelow, ways, waiting}
use Rattle.route_graph.proofs.GraphLaws.{at-map, length-map, count-send}
use Rattle.route_graph.proofs.WaitLaws.{tally, one_if, none_if, one_more_done, few_ways, waiting_more}
use Rattle.route_graph.proofs.WalkLaws.{take_get, take_starts, fresh_at}

-- the links of a session's route, its output and its sends
ways_of : (q : Route) (t : ℕ) → ways (plain q) t ≡ tally (leads_to t q.target) + count_by (λ x. x.to == t) q.sends.items
ways_of q t = ap (λ n. tally (leads_to t q.target) + n) (count-send t q.sends.items)

-- one more or one less at a place
at_other : (xs : List ℕ) (i t v : ℕ) → eqb i t ≡ false → slice_index (set xs i v) t ≡ slice_index xs t
at_other xs i t v e = get_or-set_other xs i t v 0 (λ same. let K : ℕ → Type 0 = λ k. eqb k t ≡ false in self_apart t (subst K (sym same) e))
  where
    self_apart : (k : ℕ) → eqb k k ≡ false → ⊥
    self_apart k h = grind (arith, nat_tests)

at_same : (xs : List ℕ) (i t v : ℕ) → eqb i t ≡ true → i < length xs → slice_index (set xs i v) t ≡ v
at_same xs i t v e h = let same : t ≡ i = grind (arith, nat_tests) in ap (λ k. slice_index (set xs i v) k) same ∙ get_or-set_same xs i v 0 h

-- one link less
pub one_less : (xs : List ℕ) (i t : ℕ) → i < length xs → 0 < slice_index xs i → slice_index (set xs i (slice_index xs i - 1)) t + tally (eqb i t) ≡ slice_index xs t
one_less xs i t h some = by_test (eqb i t)
    (λ e. let same : t ≡ i = grind (arith, nat_tests) in omega (arith, one_if (eqb i t) e, at_same xs i t (slice_index xs i - 1) e h, ap (slice_index xs) same))
    (λ e. omega (arith, none_if (eqb i t) e, at_other xs i t (slice_index xs i - 1) e))

-- one send more of a list
count_next : (sends : List SendLink) (i t : ℕ) (l : SendLink) → i < length sends → l ≡ get_or sends i l →
    count_by (λ x. x.to == t) (take (i + 1) sends) ≡ count_by (λ x. x.to == t) (take i sends) + tally (eqb l.to t)
count_next sends i t l h it = by_test (eqb l.to t)
    (λ e. omega (arith, one_if (eqb l.to t) e, count_by_more_yes (λ x. x.to == t) sends i l h (ap (λ x. eqb x.to t) (sym it) ∙ e)))
    (λ e. omega (arith, none_if (eqb l.to t) e, count_by_more_no (λ x. x.to == t) sends i l h (ap (λ x. eqb x.to t) (sym it) ∙ e)))

self_same : (k : ℕ) → eqb k k ≡ true
self_same k = grind (arith, nat_tests)

-- the sends from one on still have their links
pub still_linked : (q : Route) (old mid now : List ℕ) (sends : List SendLink) (i : ℕ) (l : SendLink) → i < length sends → l ≡ get_or sends i l → sends ≡ q.sends.items →
    slice_index mid l.to + tally (leads_to l.to q.target) ≡ slice_index old l.to → ways (plain q) l.to ≤ slice_index old l.to →
    slice_index now l.to + count_by (λ x. x.to == l.to) (take i sends) ≡ slice_index mid l.to → 0 < slice_index now l.to
still_linked q old mid now sends i l h it same output enough so_far =
    let more = count_next sends i l.to l h it in
    let all = sum_by-take-le (λ x. cond (eqb x.to l.to) 1 0) sends (i + 1) in
    let whole : count_by (λ x. x.to == l.to) sends ≡ count_by (λ x. x.to == l.to) q.sends.items = ap (count_by (λ x. x.to == l.to)) same in
    omega (arith, one_if (eqb l.to l.to) (self_same l.to), more, all, whole, ways_of q l.to)

pub output_some : (old mid : List ℕ) (to t : ℕ) (target : Option ℕ) → target ≡ Some to → to < length old → 0 < slice_index old to →
    mid ≡ set old to (slice_index old to - 1) → slice_index mid t + tally (leads_to t target) ≡ slice_index old t
output_some old mid to t target e h some same =
    let less = one_less old to t h some in
    let now : slice_index mid t ≡ slice_index (set old to (slice_index old to - 1)) t = ap (λ xs. slice_index xs t) same in
    let one : tally (leads_to t target) ≡ tally (eqb to t) = ap (λ o. tally (leads_to t o)) e in
    omega arith

pub output_none : (old mid : List ℕ) (t : ℕ) (target : Option ℕ) → target ≡ None → mid ≡ old → slice_index mid t + tally (leads_to t target) ≡ slice_index old t
output_none old mid t target e same =
    let now : slice_index mid t ≡ slice_index old t = ap (λ xs. slice_index xs t) same in
    let one : tally (leads_to t target) ≡ tally false = ap (λ o. tally (leads_to t o)) e in
    let off : tally false ≡ 0 = refl in
    omega arith

pub sent_more : (mid now next : List ℕ) (sends : List SendLink) (i t : ℕ) (l : SendLink) → i < length sends → l ≡ get_or sends i l → l.to < length now →
    0 < slice_index now l.to → next ≡ set now l.to (slice_index now l.to - 1) →
    slice_index now t + count_by (λ x. x.to == t) (take i sends) ≡ slice_index mid t →
    slice_index next t + count_by (λ x. x.to == t) (take (i + 1) sends) ≡ slice_index mid t
sent_more mid now next sends i t l h it here some same so_far =
    let more = count_next sends i t l h it in
    let less = one_less now l.to t here some in
    let moved : slice_index next t ≡ slice_index (set now l.to (slice_index now l.to - 1)) t = ap (λ xs. slice_index xs t) same in
    omega arith

-- ---- the routes of a session

wayfarer : (s : Session) (place : ℕ) (q : Route) → slice_get s.routes.items place ≡ Some q → slice_get (routes_of s) place ≡ Some (route_of s.tracks.items q)
wayfarer s place q e = at-map (route_of s.tracks.items) s.routes.items place q e

-- the route whose turn it is still waits with all its links
pub turn_waits : (s : Session) (places : List ℕ) (turn place t : ℕ) (q : Route) → AreOnce places → slice_get places turn ≡ Some place → slice_get s.routes.items place ≡ Some q →
    waiting 0 (routes_of s) (take (turn + 1) places) t + ways (plain q) t ≡ waiting 0 (routes_of s) (take turn places) t
turn_waits s places turn place t q once at e =
    let same : 0 + place ≡ place = omega arith in
    ap (λ d. waiting 0 (routes_of s) d t + ways (plain q) t) (take_get places turn place at)
    ∙ one_more_done 0 (routes_of s) (take turn places) place place t (route_of s.tracks.items q) same (wayfarer s place q e) (fresh_at places turn place once at)

pub waits_more : (s : Session) (places more counts next : List ℕ) (turn place t : ℕ) (q : Route) → AreOnce places → slice_get places turn ≡ Some place →
    slice_get s.routes.items place ≡ Some q → StartsWith more places → turn < length places → slice_index counts t ≡ waiting 0 (routes_of s) (take turn places) t →
    slice_index next t + ways (plain q) t ≡ slice_index counts t → slice_index next t ≡ waiting 0 (routes_of s) (take (turn + 1) more) t
waits_more s places more counts next turn place t q once at e starts h waits less =
    let front : waiting 0 (routes_of s) (take (turn + 1) more) t ≡ waiting 0 (routes_of s) (take (turn + 1) places) t =
    ap (λ d. waiting 0 (routes_of s) d t) (take_starts more places (turn + 1) starts (omega arith)) in
    omega (arith, turn_waits s places turn place t q once at e)

-- counting route by route
pub counted_more : (s : Session) (i t : ℕ) (q : Route) → slice_get s.routes.items i ≡ Some q →
    waiting 0 (take (i + 1) (routes_of s)) [] t ≡ waiting 0 (take i (routes_of s)) [] t + ways (plain q) t
counted_more s i t q e = ap (λ qs. waiting 0 qs [] t) (take_get (routes_of s) i (route_of s.tracks.items q) (wayfarer s i q e))
    ∙ waiting_more 0 (take i (routes_of s)) (route_of s.tracks.items q) t

pub few_links : (q : Route) (t : ℕ) → length q.sends.items ≤ 8 → ways (plain q) t ≤ 9
few_links q t h = few_ways (plain q) t 8 (omega (arith, length-map send_of q.sends.items))

pub one_more_small : (xs : List ℕ) (i t : ℕ) → ((k : ℕ) → k < length xs → slice_index xs k ≤ 1000) → i < length xs → t < length xs →
    slice_index (set xs i (slice_index xs i + 1)) t ≤ 1001
one_more_small xs i t small h g = by_test (eqb i t)
    (λ e. omega (arith, at_same xs i t (slice_index xs i + 1) e h, small i h))
    (λ e. omega (arith, at_other xs i t (slice_index xs i + 1) e, small t g))

-- of at most 8 sends, at most 8 are counted
pub count_few : (sends items : List SendLink) (i t : ℕ) → sends ≡ items → length items ≤ 8 → count_by (λ x. x.to == t) (take i sends) ≤ 8
count_few sends items i t same few =
    let part = sum_by-take-le (λ x. cond (eqb x.to t) 1 0) sends i in omega (arith, count_by-le-length (λ x. x.to == t) sends, ap length same)

pub send_low : (high : ℕ) (q : Route) (sends : List SendLink) (i : ℕ) (l : SendLink) → LinksBelow high q → sends ≡ q.sends.items → i < length sends → l ≡ get_or sends i l → l.to < high
send_low high q sends i l low same h it =
    let there : get_or sends i l ≡ get_or q.sends.items i l = ap (λ xs. get_or xs i l) same in
    let K : SendLink → Type 0 = λ x. x.to < high in subst K (sym (it ∙ there)) (low.sends i l (omega (arith, ap length same)))

pub target_below : (high to : ℕ) (q : Route) → LinksBelow high q → q.target ≡ Some to → to < high
target_below high to q low e = let K : Option ℕ → Type 0 = λ o. IfSome o (λ t. t < high) in subst K e low.output

-- the output's link is among those counted
pub output_linked : (q : Route) (old : List ℕ) (to : ℕ) → q.target ≡ Some to → ways (plain q) to ≤ slice_index old to → 0 < slice_index old to
output_linked q old to e enough =
    let one : tally (leads_to to q.target) ≡ tally (eqb to to) = ap (λ o. tally (leads_to to o)) e in
    omega (arith, one_if (eqb to to) (self_same to), ways_of q to)
