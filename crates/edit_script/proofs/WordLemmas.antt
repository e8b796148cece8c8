-- All parts of a line were seen.
use Rattle.std.proofs.Common.{◌≡◌, ℕ, ◌≤◌, ◌<◌, ◌^◌, ◌-◌, List, length, take, filter, ap, ◌∙◌, arith}
use Rattle.std.specs.Borrow.{Bor}
use Rattle.std.specs.List.{slice_split}
use Rattle.std.proofs.lemmas.List.Splits.{length-slice_split}
use Rattle.std.proofs.lemmas.List.Sums.{length-filter, count_by-le-length}
use Rattle.edit_script.specs.declared.words.Words as code
use Rattle.edit_script.specs.Words.{longest, is_blank, has_bytes, words_of}
use Rattle.edit_script.specs.Kept.{kept, texts, Keeps}

pub first_kept : (words : code.Words) (parts : List (Bor (List ℕ))) (line : List ℕ) → texts parts ≡ slice_split is_blank line → Keeps (filter has_bytes (texts parts)) words →
    kept words ≡ take 8 (words_of line)
first_kept words parts line all keeps = keeps.first ∙ ap (λ ps. take 8 (filter has_bytes ps)) all

few_parts : (line : List ℕ) → length line ≤ longest → length (words_of line) < 2 ^ 32 - 1
few_parts line short =
    let parts = slice_split is_blank line in
    omega (arith, length-filter has_bytes parts, count_by-le-length has_bytes parts, length-slice_split is_blank line, count_by-le-length is_blank line)

pub counted : (words : code.Words) (parts : List (Bor (List ℕ))) (line : List ℕ) → texts parts ≡ slice_split is_blank line → Keeps (filter has_bytes (texts parts)) words →
    length line ≤ longest → words.count ≡ length (words_of line)
counted words parts line all keeps short = let few : length (words_of line) < 2 ^ 32 - 1 = few_parts line short in
    let same : length (filter has_bytes (texts parts)) ≡ length (words_of line) = ap (λ ps. length (filter has_bytes ps)) all in
    omega (arith, keeps.count)
