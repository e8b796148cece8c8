-- The rows of the table as they are gone through.
use Rattle.std.specs.Prelude.{ℕ, Bool, true, false, ◌==◌, if◌then◌else◌, List, [], ◌∷◌, map, Ok, Err, bytes_eq}
use Rattle.std.specs.Borrow.{Bor}
use Rattle.edit_script.specs.declared.refusal.LineRefusal.TheVariants.{NotCommand, Words}
use Rattle.edit_script.specs.declared.verb.Verb.{Verb}
use Rattle.edit_script.specs.Reading.{Read}

-- a row: the word of a command, the number of its words, the command
abbrev pub Row : Type 0
Row = List ℕ × ℕ × Verb

abbrev pub rows_of : List (Bor (List ℕ) × ℕ × Verb) → List Row
rows_of rows = map (λ row. (row.0.now, row.1, row.2)) rows

-- what is said where no row is left, and whether one had the word
abbrev pub none_among : Bool → ℕ → Read Verb
none_among true n = Err (Words n)
none_among false n = Err NotCommand

-- the command that rows give, and whether one before them had the word
abbrev pub among_rows : Bool → List ℕ → ℕ → List Row → Read Verb
among_rows known first n [] = none_among known n
among_rows known first n (row ∷ rows) = if bytes_eq row.0 first
    then (if row.1 == n then Ok row.2 else among_rows true first n rows)
    else among_rows known first n rows
