-- What is true of the shared list and of all that writer and readers know of it.
use Rattle.std.specs.Prelude.{◌≡◌, ℕ, List, [], Bool, true, false}
use mathlib.Core.List.{IsPrefix}
use mathlib.Core.Option.{some}
use lib.ListN.{get_elem?}
use Rattle.session_model.specs.declared.edit.Edit.{Edit}
use Rattle.route_lists.specs.declared.known.Known.{Known}

-- What was seen and what was told are beginnings of the list; after the end it stands.
pub record Fits (edits : List Edit) (ended : Bool) (v : Known) : Type 0 where
  pub seen : IsPrefix v.seen edits
  pub told : IsPrefix v.told edits
  pub stands : v.ended ≡ true → (ended ≡ true) × (edits ≡ v.seen)
  pub stands_told : v.told_end ≡ true → (ended ≡ true) × (edits ≡ v.told)

abbrev pub AllFit : List Edit → Bool → List Known → Type 0
AllFit edits ended views = (seat : ℕ) (v : Known) → get_elem? views seat ≡ some v → Fits edits ended v

-- who saw nothing and was told nothing
abbrev pub newcomer : Known
newcomer = record { seen = []; ended = false; told = []; told_end = false }

-- who knows v, and is told what w has seen
abbrev pub informed : Known → Known → Known
informed v w = record { seen = v.seen; ended = v.ended; told = w.seen; told_end = w.ended }

-- who knew v sees these edits now: they begin with what it saw and with what it was told, and stand after the end
pub record Sees (v : Known) (edits : List Edit) (ended : Bool) (w : Known) : Type 0 where
  pub fits : Fits edits ended v
  pub seen : w ≡ record { seen = edits; ended = ended; told = v.told; told_end = v.told_end }
