-- Worked values: what is shared after an edit and after the end, and what a reader knows that was told.
use Rattle.std.proofs.Common.{◌≡◌, true, false, [], ◌∷◌, refl}
use Rattle.session_model.specs.declared.edit.Edit.TheVariants.{Roll, Stop, Locate}
use Rattle.route_lists.specs.declared.step.Step.{Step}
use Rattle.route_lists.specs.declared.step.Step.TheVariants.{Add, End}
use Rattle.route_lists.specs.Shared.{taken_in}
use Rattle.route_lists.specs.Rule.{informed}

abbrev rolled : Step
rolled = Add (record { edit = Roll; forms = refl })

abbrev located : Step
located = Add (record { edit = Locate 480; forms = refl })

rolls_first : taken_in ([], false) rolled ≡ (Roll ∷ [], false)
rolls_first = refl

stands_last : taken_in (Roll ∷ Stop ∷ [], false) located ≡ (Roll ∷ Stop ∷ Locate 480 ∷ [], false)
stands_last = refl

keeps_the_edits : taken_in (Roll ∷ Stop ∷ [], false) End ≡ (Roll ∷ Stop ∷ [], true)
keeps_the_edits = refl

-- a reader that saw one edit is told of two and the end, and has still seen one
told_of_more : informed (record { seen = Roll ∷ []; ended = false; told = []; told_end = false }) (record { seen = Roll ∷ Stop ∷ []; ended = true; told = []; told_end = false })
    ≡ record { seen = Roll ∷ []; ended = false; told = Roll ∷ Stop ∷ []; told_end = true }
told_of_more = refl
