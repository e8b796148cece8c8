-- What writer and readers share: the accepted edits, and whether the end was published.
use Rattle.std.specs.Prelude.{◌≡◌, ◌++◌, List, [], ◌∷◌, length, Bool, true, nat_lt, if◌then◌else◌}
use Rattle.session_model.specs.declared.edit.Edit.{Edit}
use Rattle.route_lists.specs.declared.step.Step.{Step}
use Rattle.route_lists.specs.declared.step.Step.TheVariants.{Add, End}

-- What a step makes of them: an edit stands at the list's end, where there is room for it, and the end changes no edit.
abbrev pub taken_in : List Edit × Bool → Step → List Edit × Bool
taken_in s (Add accepted) = if nat_lt (length s.0) 10000 then (s.0 ++ accepted.edit ∷ [], s.1) else s
taken_in s End = (s.0, true)

-- the step adds this edit
abbrev pub Adds : Edit → Step → Type 0
Adds edit (Add accepted) = accepted.edit ≡ edit
Adds edit End = ⊥
