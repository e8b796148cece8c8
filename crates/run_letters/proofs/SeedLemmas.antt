-- One letter more of a seed.
use Rattle.std.proofs.Common.{◌≡◌, ℕ, suc, ◌+◌, ◌-◌, ◌<◌, sym, ap, ◌∙◌, arith, List, [], ◌∷◌, ◌++◌, map}
use Rattle.std.proofs.lemmas.List.{append_assoc, map-append}
use Rattle.machine_model.specs.Letters.{Letter}
use Rattle.run_letters.specs.Events.{letter_of}
use Rattle.run_letters.specs.declared.event.Event.{Event}
use Rattle.run_letters.specs.Letters.{letter_of_number, next_number, seed_letters}

pub one_more : (events now : List Event) (e : Event) (end k x : ℕ) (all : List Letter) → k < end → now ≡ events ++ e ∷ [] → letter_of e ≡ letter_of_number (next_number x) →
    map letter_of events ++ seed_letters (end - k) x ≡ all → map letter_of now ++ seed_letters (end - (k + 1)) (next_number x) ≡ all
one_more events now e end k x all within more is before =
    let left : end - k ≡ suc (end - (k + 1)) = omega arith in let rest = seed_letters (end - (k + 1)) (next_number x) in
    ap (λ es. map letter_of es ++ rest) more ∙ ap (λ ls. ls ++ rest) (map-append letter_of events (e ∷ []))
    ∙ append_assoc (map letter_of events) (letter_of e ∷ []) rest
    ∙ ap (λ l. map letter_of events ++ l ∷ rest) is
    ∙ ap (λ n. map letter_of events ++ seed_letters n x) (sym left) ∙ before
