-- The rows of the table, gone through from the first to the last, give the verb of a word.
use Rattle.std.proofs.Common.{◌≡◌, ℕ, Bool, true, false, List, [], ◌∷◌, map, filter, bytes_eq, refl, ap, sym, ◌∙◌, Ok}
use Rattle.std.specs.Prelude.{if◌then◌else◌, ◌==◌, find}
use Rattle.edit_script.specs.declared.refusal.LineRefusal.TheVariants.{Words}
use Rattle.edit_script.specs.declared.verb.Verb.{Verb}
use Rattle.edit_script.specs.Table.{verbs, word_of}
use Rattle.edit_script.specs.Reading.{Read, found, width, verb_among, verb_by}
use Rattle.edit_script.specs.Rows.{Row, among_rows}

abbrev pub row_of : Verb → Row
row_of v = (word_of v, width v, v)

known_row : (has wide : Bool) (n : ℕ) (v : Verb) (vs : List Verb) (rest : Read Verb) → (width v == n) ≡ wide → found (Words n) (find (λ u. width u == n) vs) ≡ rest →
    found (Words n) (find (λ u. width u == n) (if has then v ∷ vs else vs)) ≡ (if has then (if wide then Ok v else rest) else rest)
known_row false wide n v vs rest is same = same
known_row true true n v vs rest is same = rw is refl
known_row true false n v vs rest is same = rw is same

known_rows : (first : List ℕ) (n : ℕ) (vs : List Verb) → found (Words n) (find (λ u. width u == n) (filter (λ v. bytes_eq (word_of v) first) vs)) ≡ among_rows true first n (map row_of vs)
known_rows first n [] = refl
known_rows first n (v ∷ vs) = known_row (bytes_eq (word_of v) first) (width v == n) n v (filter (λ u. bytes_eq (word_of u) first) vs) (among_rows true first n (map row_of vs)) refl (known_rows first n vs)

unknown_row : (has wide : Bool) (n : ℕ) (v : Verb) (vs : List Verb) (rest other : Read Verb) → (width v == n) ≡ wide → found (Words n) (find (λ u. width u == n) vs) ≡ rest → verb_among n vs ≡ other →
    verb_among n (if has then v ∷ vs else vs) ≡ (if has then (if wide then Ok v else rest) else other)
unknown_row false wide n v vs rest other is same unknown = unknown
unknown_row true true n v vs rest other is same unknown = rw is refl
unknown_row true false n v vs rest other is same unknown = rw is same

unknown_rows : (first : List ℕ) (n : ℕ) (vs : List Verb) → verb_among n (filter (λ v. bytes_eq (word_of v) first) vs) ≡ among_rows false first n (map row_of vs)
unknown_rows first n [] = refl
unknown_rows first n (v ∷ vs) = unknown_row (bytes_eq (word_of v) first) (width v == n) n v (filter (λ u. bytes_eq (word_of u) first) vs) (among_rows true first n (map row_of vs))
    (among_rows false first n (map row_of vs)) refl (known_rows first n vs) (unknown_rows first n vs)

pub all_rows : (first : List ℕ) (n : ℕ) (rows : List Row) → rows ≡ map row_of verbs → verb_by first n ≡ among_rows false first n rows
unfolding verb_by
all_rows first n rows same = unknown_rows first n verbs ∙ sym (ap (among_rows false first n) same)
