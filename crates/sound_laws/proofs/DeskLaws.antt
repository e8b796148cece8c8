-- What is silent, what a plain desk gives, and that a deeper recursion gives the same.
use Rattle.std.proofs.Common.{◌≡◌, ℕ, Bool, true, false, cond, ◌&&◌, refl, ap, ◌∙◌, List, [], ◌∷◌, Some}
use Rattle.std.specs.Prelude.{ℤ, pos, ◌+ℤ◌, ◌==◌, not, slice_get}
use Rattle.std.specs.List.{list_any}
use Rattle.sound_model.specs.Numbers.{scale, clip}
use Rattle.sound_model.specs.Lanes.{gain_at}
use Rattle.sound_model.specs.Routes.{Route, Send, leads_to, any_solo, is_open, pre, post, given, sent, fed, post_of, route_input, route_post}
use Rattle.sound_laws.specs.Desks.{IsSilent, MutedIsSilent, SoloSilencesOtherTracks, OnlyLinksFeed}
use Rattle.sound_laws.proofs.Cases.{cond_same, or_parts}
use Rattle.sound_laws.proofs.NumberLaws.{scale-zero}

-- ---- a route that isn't open

abbrev Silent : (ℕ → ℤ) → Type 0
Silent value = (k : ℕ) → value k ≡ pos 0

given_silent : (q : Route) (channels c : ℕ) (value : ℕ → ℤ) → Silent value → given q channels c value ≡ pos 0
given_silent q channels c value h = cond_same (q.channels == 1 && channels == 2) (scale (value 0) side) (value c) (pos 0)
    (ap (λ s. scale s side) (h 0) ∙ scale-zero side) (h c)
  where
    side : ℕ
    side = cond (c == 0) q.left q.right

send_silent : (s : Send) (before behind : ℕ → ℤ) → Silent before → Silent behind → Silent (λ k. scale (cond s.pre (before k) (behind k)) s.gain)
send_silent s before behind h g k = ap (λ v. scale v s.gain) (cond_same s.pre (before k) (behind k) (pos 0) (h k) (g k)) ∙ scale-zero s.gain

no_sum : (a b : ℤ) → a ≡ pos 0 → b ≡ pos 0 → a +ℤ b ≡ pos 0
no_sum a b e f = rw (e, f) refl

sent_silent : (to : ℕ) (q : Route) (channels c : ℕ) (before behind : ℕ → ℤ) (ss : List Send) → Silent before → Silent behind →
    sent to q channels c before behind ss ≡ pos 0
sent_silent to q channels c before behind [] h g = refl
sent_silent to q channels c before behind (s ∷ ss) h g = no_sum _ _
    (cond_same (s.to == to) (given q channels c one) (pos 0) (pos 0) (given_silent q channels c one (send_silent s before behind h g)) refl)
    (sent_silent to q channels c before behind ss h g)
  where
    one : ℕ → ℤ
    one = λ k. scale (cond s.pre (before k) (behind k)) s.gain

closed_post : (solo : Bool) (q : Route) (x : ℕ) (v : ℤ) → is_open solo q ≡ false → post solo q x v ≡ pos 0
closed_post solo q x v e = ap (λ b. cond b (clip (scale v (gain_at q.mode q.fader q.lane x))) (pos 0)) e

closed_pre : (solo : Bool) (q : Route) (v : ℤ) → is_open solo q ≡ false → pre solo q v ≡ pos 0
closed_pre solo q v e = ap (λ b. cond b v (pos 0)) e

closed_fed : (solo : Bool) (x to channels c : ℕ) (q : Route) (input : ℕ → ℤ) → is_open solo q ≡ false → fed solo x to channels c q input ≡ pos 0
closed_fed solo x to channels c q input e = no_sum _ _
    (cond_same (leads_to to q.target) (given q channels c behind) (pos 0) (pos 0) (given_silent q channels c behind (λ k. closed_post solo q x (input k) e)) refl)
    (sent_silent to q channels c before behind q.sends (λ k. closed_pre solo q (input k) e) (λ k. closed_post solo q x (input k) e))
  where
    before : ℕ → ℤ
    before = λ k. pre solo q (input k)

    behind : ℕ → ℤ
    behind = λ k. post solo q x (input k)

pub post_there : (routes : List Route) (samples : ℕ → ℕ → ℤ) (x place c : ℕ) (q : Route) → slice_get routes place ≡ Some q →
    route_post routes samples x place c ≡ post (any_solo routes) q x (route_input routes samples x place c)
post_there routes samples x place c q there = ap (post_of (any_solo routes) x (route_input routes samples x place c)) there

closed_is_silent : (routes : List Route) (samples : ℕ → ℕ → ℤ) (x place : ℕ) (q : Route) → slice_get routes place ≡ Some q →
    is_open (any_solo routes) q ≡ false → IsSilent routes samples x place q
closed_is_silent routes samples x place q there e = record {
  output = λ c. post_there routes samples x place c q there ∙ closed_post (any_solo routes) q x (route_input routes samples x place c) e;
  links = λ to channels c. closed_fed (any_solo routes) x to channels c q (route_input routes samples x place) e;
}

pub muted_is_silent : MutedIsSilent
muted_is_silent routes samples x place q there muted = closed_is_silent routes samples x place q there (rw muted refl)

closed_by_solo : (solo : Bool) (q : Route) (t : ℕ) → q.track ≡ Some t → q.soloed ≡ false → solo ≡ true → is_open solo q ≡ false
closed_by_solo solo q t track soloed some_solo = rw (track, soloed, some_solo) (and_false (not q.muted))
  where
    and_false : (b : Bool) → (b && false) ≡ false
    and_false true = refl
    and_false false = refl

pub solo_silences_other_tracks : SoloSilencesOtherTracks
solo_silences_other_tracks routes samples x place t q there track soloed some_solo =
    closed_is_silent routes samples x place q there (closed_by_solo (any_solo routes) q t track soloed some_solo)

-- ---- what doesn't lead to a route gives it nothing

sent_elsewhere : (to : ℕ) (q : Route) (channels c : ℕ) (before behind : ℕ → ℤ) (ss : List Send) → list_any (λ s. s.to == to) ss ≡ false →
    sent to q channels c before behind ss ≡ pos 0
sent_elsewhere to q channels c before behind [] h = refl
sent_elsewhere to q channels c before behind (s ∷ ss) h =
    let first : (s.to == to) ≡ false = (or_parts (s.to == to) _ h).0 in
    let rest : list_any (λ s. s.to == to) ss ≡ false = (or_parts (s.to == to) _ h).1 in
    no_sum _ _ (ap (λ b. cond b (given q channels c (λ k. scale (cond s.pre (before k) (behind k)) s.gain)) (pos 0)) first)
    (sent_elsewhere to q channels c before behind ss rest)

pub only_links_feed : OnlyLinksFeed
only_links_feed solo x to channels c q input h =
    let first : leads_to to q.target ≡ false = (or_parts (leads_to to q.target) _ h).0 in
    let rest : list_any (λ s. s.to == to) q.sends ≡ false = (or_parts (leads_to to q.target) _ h).1 in
    no_sum _ _ (ap (λ b. cond b (given q channels c (λ k. post solo q x (input k))) (pos 0)) first)
    (sent_elsewhere to q channels c (λ k. pre solo q (input k)) (λ k. post solo q x (input k)) q.sends rest)
