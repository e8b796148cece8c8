-- What the links of a route give, one after another.
use Rattle.std.proofs.Common.{◌≡◌, ℕ, ◌+◌, ◌<◌, true, false, List, [], ◌∷◌, ◌++◌, length, map, take, get_or, set, Option, None, Some, ap, sym, subst, ◌∙◌, arith}
use Rattle.std.specs.Prelude.{ℤ, pos, ◌+ℤ◌, ◌==◌, if◌then◌else◌, IfSome, All}
use Rattle.std.proofs.Math.IntN.{+ℤ_comm, +ℤ_assoc, +ℤ_idl}
use Rattle.std.proofs.lemmas.Bool.Decides.{nat_tests}
use Rattle.std.proofs.lemmas.List.{map_more, get_or-set_same, get_or-set_other}
use Rattle.sound_model.specs.Numbers.{scale}
use Rattle.sound_model.specs.Routes.{Route, Send, leads_to, given, sent}
use Rattle.sound_laws.proofs.Cases.{by_test}
use Rattle.session_model.specs.declared.route.SendLink.{SendLink}
use Rattle.session_model.specs.declared.session.Session.{Session}
use Rattle.session_model.specs.Views.{send_of}
use Rattle.offline_render.specs.declared.routes.Taps.{Taps}
use Rattle.session_model.specs.Formed.{channels_at}
use Rattle.offline_render.specs.Links.{own, taken, given_at, sent_at, put_at, AreGiven}

no_more : (a : ℤ) → a +ℤ pos 0 ≡ a
no_more a = +ℤ_comm a (pos 0) ∙ +ℤ_idl a

pub none_given : (s : Session) (more : ℕ → ℤ) (sums : List ℤ) → ((r : ℕ) → more r ≡ pos 0) → AreGiven s more sums sums
none_given s more sums none r h = sym (no_more (get_or sums r (pos 0))) ∙ ap (λ v. get_or sums r (pos 0) +ℤ v) (sym (none r))

-- one thing given after another
pub given_then : (s : Session) (first second both : ℕ → ℤ) (old mid new : List ℤ) → AreGiven s first old mid → AreGiven s second mid new →
    ((r : ℕ) → both r ≡ first r +ℤ second r) → AreGiven s both old new
given_then s first second both old mid new a b joined r h =
    b r h ∙ ap (λ v. v +ℤ second r) (a r h) ∙ +ℤ_assoc (get_or old r (pos 0)) (first r) (second r) ∙ ap (λ v. get_or old r (pos 0) +ℤ v) (sym (joined r))

pub target_there : (high to : ℕ) (target : Option ℕ) → target ≡ Some to → IfSome target (λ r. r < high) → to < high
target_there high to None e low = cc
target_there high to (Some r) e low = let same : r ≡ to = cc in subst (λ k. k < high) same low

pub send_there : (high i : ℕ) (l : SendLink) (links all : List SendLink) → links ≡ all → i < length links → l ≡ get_or links i l → All (λ x. x.to < high) all → l.to < high
send_there high i l links all same h it low = subst (λ x. x.to < high) (sym (it ∙ ap (λ xs. get_or xs i l) same)) (low i l (omega (arith, ap length same)))

-- what is given to one place
abbrev pub given_one : Session → ℕ → Route → ℕ → ℤ → ℕ → ℤ
given_one s c q to value r = if to == r then given_at s c q r value else pos 0

pub one_given : (s : Session) (c : ℕ) (q : Route) (to : ℕ) (value : ℤ) (old new : List ℤ) → to < length old →
    new ≡ set old to (get_or old to (pos 0) +ℤ given_at s c q to value) → AreGiven s (given_one s c q to value) old new
one_given s c q to value old new low e r h = by_test (to == r) here elsewhere
  where
    sum : ℤ
    sum = get_or old to (pos 0) +ℤ given_at s c q to value

    here : (to == r) ≡ true → get_or new r (pos 0) ≡ get_or old r (pos 0) +ℤ given_one s c q to value r
    here t = let same : to ≡ r = grind (arith, nat_tests) in
        ap (λ xs. get_or xs r (pos 0)) e ∙ ap (λ k. get_or (set old to sum) k (pos 0)) (sym same) ∙ get_or-set_same old to sum (pos 0) low
        ∙ ap (λ k. get_or old k (pos 0) +ℤ given_at s c q k value) same
        ∙ ap (λ b. get_or old r (pos 0) +ℤ (if b then given_at s c q r value else pos 0)) (sym t)

    elsewhere : (to == r) ≡ false → get_or new r (pos 0) ≡ get_or old r (pos 0) +ℤ given_one s c q to value r
    elsewhere t = ap (λ xs. get_or xs r (pos 0)) e ∙ get_or-set_other old to r sum (pos 0) (λ same. apart to r t (sym same))
        ∙ sym (no_more (get_or old r (pos 0)))
        ∙ ap (λ b. get_or old r (pos 0) +ℤ (if b then given_at s c q r value else pos 0)) (sym t)
      where
        apart : (a b : ℕ) → (a == b) ≡ false → a ≡ b → ⊥
        apart a b f same = grind (arith, nat_tests)

-- ---- the sends, one by one

sent_more : (to : ℕ) (q : Route) (channels c : ℕ) (before behind : ℕ → ℤ) (ls : List Send) (l : Send) →
    sent to q channels c before behind (ls ++ l ∷ []) ≡ sent to q channels c before behind ls +ℤ (if l.to == to then given q channels c (λ k. scale (if l.pre then before k else behind k) l.gain) else pos 0)
sent_more to q channels c before behind [] l = +ℤ_comm (if l.to == to then given q channels c (λ k. scale (if l.pre then before k else behind k) l.gain) else pos 0) (pos 0)
sent_more to q channels c before behind (m ∷ ls) l =
    ap (λ v. first +ℤ v) (sent_more to q channels c before behind ls l) ∙ sym (+ℤ_assoc first (sent to q channels c before behind ls) last)
  where
    first : ℤ
    first = if m.to == to then given q channels c (λ k. scale (if m.pre then before k else behind k) m.gain) else pos 0

    last : ℤ
    last = if l.to == to then given q channels c (λ k. scale (if l.pre then before k else behind k) l.gain) else pos 0

pub send_given : (s : Session) (c : ℕ) (q : Route) (p : Taps) (links : List SendLink) (i : ℕ) (l : SendLink) (value : ℤ) (old mid new : List ℤ) →
    i < length links → l ≡ get_or links i l → value ≡ taken p (send_of l) →
    AreGiven s (λ r. sent_at s c q r p (map send_of (take i links))) old mid → AreGiven s (given_one s c q l.to value) mid new →
    AreGiven s (λ r. sent_at s c q r p (map send_of (take (i + 1) links))) old new
send_given s c q p links i l value old mid new h it is sofar one =
    given_then s (λ r. sent_at s c q r p (map send_of (take i links))) (given_one s c q l.to value) (λ r. sent_at s c q r p (map send_of (take (i + 1) links))) old mid new sofar one joined
  where
    listed : map send_of (take (i + 1) links) ≡ map send_of (take i links) ++ send_of l ∷ []
    listed = map_more send_of links i l h ∙ ap (λ x. map send_of (take i links) ++ send_of x ∷ []) (sym it)

    joined : (r : ℕ) → sent_at s c q r p (map send_of (take (i + 1) links)) ≡ sent_at s c q r p (map send_of (take i links)) +ℤ given_one s c q l.to value r
    joined r = ap (sent_at s c q r p) listed
        ∙ sent_more r q (channels_at s r) (own (channels_at s r) c) (λ k. p.before) (λ k. p.behind) (map send_of (take i links)) (send_of l)
        ∙ ap (λ v. sent_at s c q r p (map send_of (take i links)) +ℤ given_one s c q l.to v r) (sym is)

-- ---- the output

pub output_given : (s : Session) (c : ℕ) (q : Route) (p : Taps) (to : ℕ) (value : ℤ) (old new : List ℤ) → q.target ≡ Some to → value ≡ p.behind →
    AreGiven s (given_one s c q to value) old new → AreGiven s (λ r. put_at s c q r p) old new
output_given s c q p to value old new leads is one r h =
    one r h ∙ ap (λ v. get_or old r (pos 0) +ℤ given_one s c q to v r) is
    ∙ ap (λ o. get_or old r (pos 0) +ℤ (if leads_to r o then given_at s c q r p.behind else pos 0)) (sym leads)
