-- What a route gives depends on its own channel for the one that it is given to.
use Rattle.std.proofs.Common.{◌≡◌, ℕ, ◌<◌, ◌≤◌, Bool, true, false, ◌&&◌, List, [], ◌∷◌, refl, ap, ap₂, sym, ◌∙◌, arith}
use Rattle.std.specs.Prelude.{ℤ, pos, ◌+ℤ◌, ◌==◌, if◌then◌else◌}
use Rattle.std.proofs.lemmas.Bool.Decides.{nat_tests}
use Rattle.sound_model.specs.Numbers.{scale}
use Rattle.sound_model.specs.Routes.{Route, Send, leads_to, feeds, pre, post, given, sent, fed}
use Rattle.sound_laws.specs.Desks.{OnlyLinksFeed}
use Rattle.sound_laws.proofs.Cases.{by_test}
use Rattle.session_model.specs.declared.route.Route as raw
use Rattle.session_model.specs.declared.track.Track.{Track}
use Rattle.session_model.specs.declared.session.Session.{Session}
use Rattle.session_model.specs.Formed.{channels_at}
use Rattle.session_model.specs.Views.{route_of}
use Rattle.route_graph.specs.Walks.{plain}
use Rattle.offline_render.specs.declared.routes.Taps.{Taps}
use Rattle.offline_render.specs.Links.{own, gives_at}

pub own_within : (channels c : ℕ) → 1 ≤ channels → c < channels → channels ≤ 2 → own channels c ≡ c
own_within channels c some h few = by_test (channels == 1)
    (λ e. let none : 0 ≡ c = grind (arith, nat_tests) in ap (λ b. if b then 0 else c) e ∙ none)
    (λ e. ap (λ b. if b then 0 else c) e)

module _ (q : Route) (channels c : ℕ) (some : 1 ≤ q.channels) (wide : q.channels ≤ channels) (few : channels ≤ 2) where
  given_own : (f : ℕ → ℤ) → given q channels (own channels c) f ≡ given q channels (own channels c) (λ k. f (own q.channels c))
  given_own f = by_test (q.channels == 1 && channels == 2) one_to_two alike
    where
      sides : ℕ
      sides = if own channels c == 0 then q.left else q.right

      one_to_two : (q.channels == 1 && channels == 2) ≡ true → given q channels (own channels c) f ≡ given q channels (own channels c) (λ k. f (own q.channels c))
      one_to_two e = let one : (q.channels == 1) ≡ true = grind (arith, nat_tests) in
          let first : 0 ≡ own q.channels c = sym (ap (λ b. if b then 0 else c) one) in
          ap (λ k. if q.channels == 1 && channels == 2 then scale (f k) sides else f (own channels c)) first
          ∙ ap (λ b. if b then scale (f (own q.channels c)) sides else f (own channels c)) e
          ∙ sym (ap (λ b. if b then scale (f (own q.channels c)) sides else f (own q.channels c)) e)

      alike : (q.channels == 1 && channels == 2) ≡ false → given q channels (own channels c) f ≡ given q channels (own channels c) (λ k. f (own q.channels c))
      alike e = let same : channels ≡ q.channels = grind (arith, nat_tests) in
          ap (λ b. if b then scale (f 0) sides else f (own channels c)) e
          ∙ ap (λ n. f (own n c)) same
          ∙ sym (ap (λ b. if b then scale (f (own q.channels c)) sides else f (own q.channels c)) e)

  sent_own : (to : ℕ) (before behind : ℕ → ℤ) (ls : List Send) →
      sent to q channels (own channels c) before behind ls ≡ sent to q channels (own channels c) (λ k. before (own q.channels c)) (λ k. behind (own q.channels c)) ls
  sent_own to before behind [] = refl
  sent_own to before behind (l ∷ ls) = ap₂ (λ v w. (if l.to == to then v else pos 0) +ℤ w)
      (given_own (λ k. scale (if l.pre then before k else behind k) l.gain)) (sent_own to before behind ls)

  pub fed_linked : (solo : Bool) (x to : ℕ) (inputs : ℕ → ℤ) → fed solo x to channels (own channels c) q inputs ≡ fed solo x to channels (own channels c) q (λ k. inputs (own q.channels c))
  fed_linked solo x to inputs = ap₂ (λ v w. (if leads_to to q.target then v else pos 0) +ℤ w)
      (given_own (λ k. post solo q x (inputs k))) (sent_own to (λ k. pre solo q (inputs k)) (λ k. post solo q x (inputs k)) q.sends)

-- a route that doesn't lead there gives nothing at all
pub fed_own : OnlyLinksFeed → (solo : Bool) (x to channels c : ℕ) (q : Route) (inputs : ℕ → ℤ) → 1 ≤ q.channels → channels ≤ 2 → (feeds q to ≡ true → q.channels ≤ channels) →
    fed solo x to channels (own channels c) q inputs ≡ fed solo x to channels (own channels c) q (λ k. inputs (own q.channels c))
fed_own only solo x to channels c q inputs some few wide = by_test (feeds q to)
    (λ e. fed_linked q channels c some (wide e) few solo x to inputs)
    (λ e. only solo x to channels (own channels c) q inputs e ∙ sym (only solo x to channels (own channels c) q (λ k. inputs (own q.channels c)) e))

-- ---- a route of a session

sent_plain : (ks : List Track) (q : raw.Route) (to channels c : ℕ) (before behind : ℕ → ℤ) (ls : List Send) →
    sent to (route_of ks q) channels c before behind ls ≡ sent to (plain q) channels c before behind ls
sent_plain ks q to channels c before behind [] = refl
sent_plain ks q to channels c before behind (l ∷ ls) =
    ap (λ v. (if l.to == to then given (plain q) channels c (λ k. scale (if l.pre then before k else behind k) l.gain) else pos 0) +ℤ v) (sent_plain ks q to channels c before behind ls)

-- what a route gives of one input is what is given of its two values
pub fed_by_taps : (s : Session) (solo : Bool) (x to c : ℕ) (q : raw.Route) (input : ℤ) (p : Taps) →
    p.before ≡ pre solo (route_of s.tracks.items q) input → p.behind ≡ post solo (route_of s.tracks.items q) x input →
    fed solo x to (channels_at s to) (own (channels_at s to) c) (route_of s.tracks.items q) (λ k. input) ≡ gives_at s c (plain q) to p
fed_by_taps s solo x to c q input p before behind =
    sym (ap₂ (λ v w. (if leads_to to q.target then given (plain q) (channels_at s to) (own (channels_at s to) c) (λ k. w) else pos 0)
    +ℤ sent to (plain q) (channels_at s to) (own (channels_at s to) c) (λ k. v) (λ k. w) (plain q).sends) before behind
    ∙ ap (λ v. (if leads_to to q.target then given (plain q) (channels_at s to) (own (channels_at s to) c) (λ k. post solo (route_of s.tracks.items q) x input) else pos 0) +ℤ v)
    (sym (sent_plain s.tracks.items q to (channels_at s to) (own (channels_at s to) c) (λ k. pre solo (route_of s.tracks.items q) input) (λ k. post solo (route_of s.tracks.items q) x input) (plain q).sends)))
