-- What contracts see of the end that puts grants, and which grants lines ask for. Lists stand oldest first.
use Rattle.std.specs.Prelude.{◌≡◌, ℕ, ◌^◌, Bool, true, false, List, [], ◌∷◌, ◌++◌, length, Result, Ok, Err}
use Rattle.session_model.specs.declared.session.Session.{Session}
use Rattle.engine_model.specs.Edits.{has_quit}
use Rattle.engine_model.specs.Lines.{Line, accepted_of}
use Rattle.engine_model.specs.Waited.{Grant, Grants, Pace, Pause, Sought, paces_from, go_through, is_last_grant, was_full}
use Rattle.disk_ring.specs.Sender.{Sender, IsHead, FoundFull, Refuses}
use Rattle.run_world.specs.declared.finished.Grant as ring
use Rattle.cycle_grants.specs.declared.granting.NotGranted.{NotGranted}
use Rattle.cycle_grants.specs.declared.granting.NotGranted.TheVariants.{Full, LeftOut}
use Rattle.cycle_grants.specs.Grants.{shown_of}

pub record GrantingState : Type 0 where
  pub to : Sender ring.Grant
  -- whether a grant was left out, after which none is put
  pub over : Bool

-- the last grant found the ring full, or the ring takes no more
abbrev pub is_full : GrantingState → Bool
is_full a = was_full a.to.depth (shown_of a.to)

-- the grant is the last one that was sent: by the head that was loaded the ring wasn't full
pub record IsPut (a : Sender ring.Grant) (grant : ring.Grant) (b : Sender ring.Grant) : Type 0 where
  pub sent : b ≡ record a { sent = a.sent ++ grant ∷ []; got = b.got }
  pub head : IsHead a b.got
  pub free : ¬ FoundFull a b.got

-- What is answered to a grant.
abbrev pub Allows : ring.Grant → GrantingState → Result (Unit {0}) NotGranted → GrantingState → Type 0
Allows grant a (Ok x) b = (a.over ≡ false) × (b ≡ record a { to = b.to }) × IsPut a.to grant b.to
Allows grant a (Err (Full head)) b = (a.over ≡ false) × (b ≡ record a { to = b.to }) × Refuses a.to head b.to × (is_full b ≡ true)
Allows grant a (Err LeftOut) b = (a.over ≡ true) × (b ≡ a)

-- ---- which grants lines ask for

-- none is left
abbrev pub is_none : List Grant → Bool
is_none [] = true
is_none (g ∷ gs) = false

-- the grants are just those that were asked for so far
abbrev pub AreAsked : List Pace → List Grant → Type 0
AreAsked paces grants = go_through is_none paces grants ≡ true

abbrev pub grant : ℕ → ℕ → Grant
grant n k = record { cycles = n; edition = k }

-- A wait asks for its cycles in one grant, a sync for none yet, and then for one cycle and one more; the end asks for all.
pub record GrantsGoOn (paces : List Pace) (grants : List Grant) : Type 0 where
  pub pause : (n k : ℕ) → AreAsked paces grants → AreAsked (paces ++ Pause n k ∷ []) (grants ++ grant n k ∷ [])
  pub seek : (k : ℕ) → AreAsked paces grants → AreAsked (paces ++ Sought k ∷ []) grants
  pub sought : (k : ℕ) → AreAsked (paces ++ Sought k ∷ []) grants → AreAsked (paces ++ Sought k ∷ []) (grants ++ grant 1 k ∷ [])
  pub last : (n k : ℕ) → AreAsked paces grants → go_through (is_last_grant n k) paces (grants ++ grant n k ∷ []) ≡ true

abbrev pub GrantsAreAsked : Type 0
GrantsAreAsked = (paces : List Pace) (grants : List Grant) → GrantsGoOn paces grants

-- While no quit was accepted one line more asks for its own, in the edition that the lines before it made.
abbrev pub PacesGoOn : Type 0
PacesGoOn = (s : Session) (lines : List Line) (line : Line) → has_quit (accepted_of s lines) (length (accepted_of s lines)) ≡ false →
    paces_from s [] (lines ++ line ∷ []) ≡ paces_from s [] lines ++ paces_from s (accepted_of s lines) (line ∷ [])

-- A ring that took 2^62 grants is full, whatever was noted.
abbrev pub TheLastGrantIsFull : Type 0
TheLastGrantIsFull = (depth : ℕ) (grants : Grants) → length grants.sent ≡ 2 ^ 62 → was_full depth grants ≡ true
