-- A walk along an order of the routes, for one channel of the master.
use Rattle.std.specs.Prelude.{◌≡◌, ℕ, ◌*◌, ◌<◌, ℤ, pos, List, length, Option, Some, None, slice_index_or}
use Rattle.sound_model.specs.Numbers.{clip}
use Rattle.sound_model.specs.Routes.{route_input}
use Rattle.session_model.specs.declared.session.Session.{Session}
use Rattle.session_model.specs.Formed.{channels_at}
use Rattle.session_model.specs.Views.{routes_of}
use Rattle.mix_kernel.specs.Bounds.{AllNear}
use Rattle.mix_laws.specs.Mixing.{fed_along}
use Rattle.offline_render.specs.Frame.{samples}
use Rattle.offline_render.specs.Links.{own}

-- what a route takes in on a channel: its track's own sample, or the clip of a sum
abbrev pub taken_in : List ℤ → ℕ → ℤ → Option ℕ → ℤ
taken_in tracks c sum (Some t) = samples tracks t c
taken_in tracks c sum None = clip sum

-- The sums of a session's routes, for channel c of the master, where the routes of a list are done.
pub record AreFed (s : Session) (tracks : List ℤ) (place c : ℕ) (done : List ℕ) (sums : List ℤ) : Type 0 where
  -- there is one for each route
  pub room : length sums ≡ 64
  -- each is what the routes that are done give to its route
  pub each : (r : ℕ) → r < length s.routes.items → slice_index_or sums r (pos 0)
      ≡ fed_along (routes_of s) (route_input (routes_of s) (samples tracks) place) place r (channels_at s r) (own (channels_at s r) c) done
  -- and none is far from zero
  pub near : AllNear (length done * 309237645312) sums
