-- The order that the butler keeps in what it sends of a track. What stands before an item is listed newest first.
use Rattle.std.specs.Prelude.{ℕ, Bool, true, ◌&&◌, ◌||◌, ◌==◌, nat_le, nat_lt, List, [], ◌∷◌, length, reverse}
use Rattle.std.specs.List.{list_all}
use Rattle.session_model.specs.declared.session.Session.{Session}
use Rattle.session_model.specs.declared.edit.Edit.{Edit}
use Rattle.engine_model.specs.Edits.{playlist_edition, generation}
use Rattle.engine_model.specs.Items.{Kind, Piece, Settled, Blank, among, blocks, newest}

-- what an older item is where a piece of generation g and playlist edition p follows it: generations and playlist
-- editions never fall, and a piece after a mark is as the mark's edition has the playlist, or newer
abbrev pub precedes_piece : Session → List Edit → ℕ → ℕ → ℕ → Kind → Bool
precedes_piece session edits t g p (Piece u h r q) = nat_le h g && nat_le q p
precedes_piece session edits t g p (Settled j h r) = nat_le h g && nat_le (playlist_edition session edits t j) p
precedes_piece session edits t g p Blank = true

-- what an older item is where a mark of edition k and generation g follows it: editions of marks rise
abbrev pub precedes_mark : ℕ → ℕ → Kind → Bool
precedes_mark k g (Piece u h r q) = nat_le h g
precedes_mark k g (Settled j h r) = nat_le h g && nat_lt j k
precedes_mark k g Blank = true

-- An item may follow those before it. A piece names its track, and a playlist edition and a generation that there are; it
-- is of a block sent before or past all those; and of no later block an older piece stands as the newest. A mark has an
-- edition that there is and its generation, and of each block from its own on the newest piece is as its edition has it.
abbrev pub may_follow : Session → List Edit → ℕ → List Kind → Kind → Bool
may_follow session edits t before (Piece u g s p) = u == t && p == playlist_edition session edits t p && nat_le g (generation edits (length edits))
    && list_all (precedes_piece session edits t g p) before
    && (among s (blocks g before) || list_all (λ r. nat_lt r s) (blocks g before))
    && list_all (λ r. nat_le r s || nat_le p (newest g r before)) (blocks g before)
may_follow session edits t before (Settled k g s) = nat_le k (length edits) && g == generation edits k
    && list_all (precedes_mark k g) before
    && list_all (λ r. nat_lt r s || nat_le (playlist_edition session edits t k) (newest g r before)) (blocks g before)
may_follow session edits t before Blank = true

abbrev pub is_ordered_newest : Session → List Edit → ℕ → List Kind → Bool
is_ordered_newest session edits t [] = true
is_ordered_newest session edits t (x ∷ before) = may_follow session edits t before x && is_ordered_newest session edits t before

-- what was sent of track t, the oldest first, is ordered: each item may follow those before it
abbrev pub is_ordered : Session → List Edit → ℕ → List Kind → Bool
is_ordered session edits t sent = is_ordered_newest session edits t (reverse sent)
