-- What stands of one track while a butler sends, enters editions and sees further edits. What was sent stands newest first.
use Rattle.std.specs.Prelude.{◌≡◌, ℕ, ◌≤◌, Bool, true, ◌&&◌, nat_le, List, length}
use Rattle.std.specs.List.{list_all}
use Rattle.session_model.specs.declared.session.Session.{Session}
use Rattle.session_model.specs.declared.edit.Edit.{Edit}
use Rattle.engine_model.specs.Edits.{playlist_edition, generation}
use Rattle.engine_model.specs.Items.{Kind, Piece, Settled, Blank}
use Rattle.engine_model.specs.Order.{is_ordered_newest}

-- an item was sent from an edition of at most k
abbrev pub is_from : Session → List Edit → ℕ → ℕ → Kind → Bool
is_from session edits t k (Piece u g s p) = nat_le g (generation edits k) && nat_le p (playlist_edition session edits t k)
is_from session edits t k (Settled j g s) = nat_le g (generation edits k) && nat_le j k
is_from session edits t k Blank = true

pub record Kept (session : Session) (edits : List Edit) (t k : ℕ) (before : List Kind) : Type 0 where
  -- the butler entered edition k of these edits
  pub entered : k ≤ length edits
  -- what it sent is ordered
  pub in_order : is_ordered_newest session edits t before ≡ true
  -- and all of it is from editions that it entered
  pub from : list_all (is_from session edits t k) before ≡ true
