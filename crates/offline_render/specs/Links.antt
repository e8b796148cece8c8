-- What routes give one another on a channel of the master: of a route with one channel its only one counts, of one with two that channel.
use Rattle.std.specs.Prelude.{◌≡◌, ℕ, ◌<◌, ◌==◌, ℤ, pos, ◌+ℤ◌, if◌then◌else◌, List, length, slice_index_or}
use Rattle.sound_model.specs.Numbers.{scale}
use Rattle.sound_model.specs.Routes.{Route, Send, leads_to, given, sent}
use Rattle.session_model.specs.declared.session.Session.{Session}
use Rattle.session_model.specs.Formed.{channels_at}
use Rattle.offline_render.specs.declared.routes.Taps.{Taps}

-- the channel of a route with so many that counts for channel c of the master
abbrev pub own : ℕ → ℕ → ℕ
own channels c = if channels == 1 then 0 else c

-- what a route gives the one at a place, of one value
abbrev pub given_at : Session → ℕ → Route → ℕ → ℤ → ℤ
given_at s c q to value = given q (channels_at s to) (own (channels_at s to) c) (λ k. value)

-- what a send takes of a route, at the send's gain
abbrev pub taken : Taps → Send → ℤ
taken p l = scale (if l.pre then p.before else p.behind) l.gain

-- what these sends of a route give the one at a place, of what the route has before its fader and behind it
abbrev pub sent_at : Session → ℕ → Route → ℕ → Taps → List Send → ℤ
sent_at s c q to p sends = sent to q (channels_at s to) (own (channels_at s to) c) (λ k. p.before) (λ k. p.behind) sends

-- and what its output gives
abbrev pub put_at : Session → ℕ → Route → ℕ → Taps → ℤ
put_at s c q to p = if leads_to to q.target then given_at s c q to p.behind else pos 0

-- what both give
abbrev pub gives_at : Session → ℕ → Route → ℕ → Taps → ℤ
gives_at s c q to p = put_at s c q to p +ℤ sent_at s c q to p q.sends

-- each route's sum is what it was, and what is given to the route at its place
abbrev pub AreGiven : Session → (ℕ → ℤ) → List ℤ → List ℤ → Type 0
AreGiven s more old new = (r : ℕ) → r < length s.routes.items → slice_index_or new r (pos 0) ≡ slice_index_or old r (pos 0) +ℤ more r
