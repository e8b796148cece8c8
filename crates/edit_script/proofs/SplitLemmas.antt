-- A line that is written word by word has just those words, and is text.
use Rattle.std.proofs.Common.{◌≡◌, ℕ, ◌+◌, ◌*◌, ◌<◌, ◌≤◌, Bool, true, false, List, [], ◌∷◌, ◌++◌, append_assoc, length, map, filter, refl, ap, sym, ◌∙◌, arith}
use Rattle.std.specs.Prelude.{if◌then◌else◌}
use Rattle.std.specs.List.{list_all, slice_split, onto_first}
use Rattle.std.proofs.lemmas.Bool.Decides.{nat_tests}
use Rattle.std.proofs.lemmas.List.{append-nil, length-append}
use Rattle.std.proofs.lemmas.List.Folds.{list_all-append}
use Rattle.std.proofs.lemmas.List.Elements.{All-weaker, filter-append}
use Rattle.std.proofs.lemmas.List.Sums.{AllPass-from_list_all}
use Rattle.std.proofs.lemmas.List.Splits.{length-slice_split, slice_split_none}
use Rattle.edit_script.specs.Words.{is_text, is_blank, has_bytes, words_of}
use Rattle.edit_script.specs.Forms.{Value}
use Rattle.edit_script.specs.Printing.{text_of, with_word, with_values}
use Rattle.edit_script.specs.Laws.{can_be_said}
use Rattle.edit_script.proofs.NumberLemmas.{left, right}
use Rattle.edit_script.proofs.PlainWords.{is_plain, plain_is_text, plain_is_no_blank, IsPlain, all_pass, text_plain}

-- ---- parts

onto_append : (x : ℕ) (part : List ℕ) (parts others : List (List ℕ)) → onto_first x ((part ∷ parts) ++ others) ≡ onto_first x (part ∷ parts) ++ others
onto_append x part parts others = refl

onto_parts : (x : ℕ) (parts others : List (List ℕ)) → 0 < length parts → onto_first x (parts ++ others) ≡ onto_first x parts ++ others
onto_parts x [] others some = absurd (omega arith)
onto_parts x (part ∷ parts) others some = refl

split_more : (blank : Bool) (x : ℕ) (parts others both : List (List ℕ)) → both ≡ parts ++ others → 0 < length parts →
    (if blank then [] ∷ both else onto_first x both) ≡ (if blank then [] ∷ parts else onto_first x parts) ++ others
split_more true x parts others both same some = ap (λ ps. [] ∷ ps) same
split_more false x parts others both same some = ap (onto_first x) same ∙ onto_parts x parts others some

-- a blank parts a line in two
split_append : (line : List ℕ) (b : ℕ) (word : List ℕ) → is_blank b ≡ true → slice_split is_blank (line ++ b ∷ word) ≡ slice_split is_blank line ++ slice_split is_blank word
split_append [] b word blank = rw blank refl
split_append (x ∷ line) b word blank = split_more (is_blank x) x (slice_split is_blank line) (slice_split is_blank word) (slice_split is_blank (line ++ b ∷ word)) (split_append line b word blank)
    (omega (arith, length-slice_split is_blank line))

one_part : (word : List ℕ) → IsPlain word → slice_split is_blank word ≡ word ∷ []
one_part word plain = slice_split_none is_blank word (All-weaker (λ b. is_plain b ≡ true) (λ b. is_blank b ≡ false) plain_is_no_blank word (AllPass-from_list_all is_plain word plain.plain))

-- ---- words

pub one_word : (word : List ℕ) → IsPlain word → words_of word ≡ word ∷ []
one_word word plain = ap (filter has_bytes) (one_part word plain) ∙ ap (λ (some : Bool). if some then word ∷ [] else []) plain.some

more_words : (line word : List ℕ) → IsPlain word → words_of (with_word line word) ≡ words_of line ++ word ∷ []
more_words line word plain = ap (filter has_bytes) (split_append line 32 word refl) ∙ filter-append has_bytes (slice_split is_blank line) (slice_split is_blank word) ∙ ap (λ ws. words_of line ++ ws) (one_word word plain)

pub words_of_values : (line : List ℕ) (values : List Value) → list_all can_be_said values ≡ true → words_of (with_values line values) ≡ words_of line ++ map text_of values
words_of_values line [] said = sym (append-nil (words_of line))
words_of_values line (value ∷ values) said =
    words_of_values (with_word line (text_of value)) values (right (can_be_said value) (list_all can_be_said values) said)
    ∙ ap (λ ws. ws ++ map text_of values) (more_words line (text_of value) (text_plain value (left (can_be_said value) (list_all can_be_said values) said)))
    ∙ append_assoc (words_of line) (text_of value ∷ []) (map text_of values)

-- ---- text

pub word_is_text : (word : List ℕ) → IsPlain word → list_all is_text word ≡ true
word_is_text word plain = all_pass is_plain is_text plain_is_text word plain.plain

more_text : (line word : List ℕ) → list_all is_text line ≡ true → IsPlain word → list_all is_text (with_word line word) ≡ true
more_text line word text plain = list_all-append is_text line (32 ∷ word) ∙ rw (text, word_is_text word plain) refl

pub values_are_text : (line : List ℕ) (values : List Value) → list_all can_be_said values ≡ true → list_all is_text line ≡ true → list_all is_text (with_values line values) ≡ true
values_are_text line [] said text = text
values_are_text line (value ∷ values) said text = values_are_text (with_word line (text_of value)) values (right (can_be_said value) (list_all can_be_said values) said)
    (more_text line (text_of value) text (text_plain value (left (can_be_said value) (list_all can_be_said values) said)))

pub values_are_short : (line : List ℕ) (values : List Value) → list_all can_be_said values ≡ true → length (with_values line values) ≤ length line + 25 * length values
values_are_short line [] said = omega arith
values_are_short line (value ∷ values) said = let plain : IsPlain (text_of value) = text_plain value (left (can_be_said value) (list_all can_be_said values) said) in
    let short : length (text_of value) ≤ 24 = grind (arith, nat_tests, plain.short) in
    let more : length (with_values (with_word line (text_of value)) values) ≤ length (with_word line (text_of value)) + 25 * length values =
    values_are_short (with_word line (text_of value)) values (right (can_be_said value) (list_all can_be_said values) said) in
    omega (arith, length-append line (32 ∷ text_of value))
