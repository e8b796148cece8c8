-- A few numbers that say of a track what is due, in place of the list of what was sent. That list stands newest first.
use Rattle.std.specs.Prelude.{◌≡◌, ℕ, ◌+◌, ◌-◌, ◌<◌, ◌≤◌, max, Bool, true, ◌&&◌, nat_lt, if◌then◌else◌, List, Option, Some, None}
use Rattle.engine_model.specs.Items.{Kind, Piece, Settled, among, blocks, newest}
use Rattle.engine_model.specs.Due.{Needs}

-- For the generation g and the playlist edition p that are served: `far` is one past the farthest block sent; the blocks
-- below `fresh` have older newest pieces than p, and those from it on have pieces of p; from `base` on none below `far`
-- was left out.
pub record Tracked (g p base fresh far : ℕ) (before : List Kind) : Type 0 where
  pub below : (s : ℕ) → among s (blocks g before) ≡ true → s < far
  pub whole : (s : ℕ) → base ≤ s → s < far → among s (blocks g before) ≡ true
  pub last : 0 < far → among (far - 1) (blocks g before) ≡ true
  pub bounded : fresh ≤ far
  pub stale : (s : ℕ) → among s (blocks g before) ≡ true → s < fresh → newest g s before < p
  pub new : (s : ℕ) → among s (blocks g before) ≡ true → fresh ≤ s → newest g s before ≡ p

-- the next block past all sent
abbrev pub due_past : Needs → ℕ → Option Kind
due_past n far = if nat_lt far (n.next + n.depth) && nat_lt far n.cycles then Some (Piece n.track n.generation far n.touched) else None

-- the three rules over these numbers, given whether the mark of the edition was sent
abbrev pub due_now : Needs → Bool → ℕ → ℕ → Option Kind
due_now n marked fresh far = if nat_lt n.next fresh then Some (Piece n.track n.generation (fresh - 1) n.touched)
    else (if marked then due_past n (max far n.next) else Some (Settled n.edition n.generation n.next))
