-- No command has more than three positional words or more than one option.
use Rattle.std.proofs.Common.{◌≡◌, ◌∙◌, ℕ, Bool, true, false, ◌&&◌, cond, refl, sym, ap, arith, List, [], ◌∷◌, ◌++◌, length, Option, Some, None}
use Rattle.std.specs.Option.{option_map, option_and_then}
use Rattle.session_model.specs.FileName.{is_file_name}
use Rattle.command_words.specs.Options.{Parts, Setting, are_at_most_one, are_at_most_three, few, joined, parted, with_positional}
use Rattle.command_words.specs.Verbs as verb
use Rattle.command_words.specs.Verbs.{Verb, verb_of}
use Rattle.command_words.specs.Words.{ToPlay, both_in, command, made, number, play_of, within}

-- ---- a fourth word

four : (found : List (List ℕ)) (w : List ℕ) (later : List (List ℕ)) → length found ≡ 3 → are_at_most_three (found ++ w ∷ later) ≡ false
four [] w later h = absurd (omega arith)
four (a ∷ []) w later h = absurd (omega arith)
four (a ∷ b ∷ []) w later h = absurd (omega arith)
four (a ∷ b ∷ c ∷ []) w later h = refl
four (a ∷ b ∷ c ∷ d ∷ ws) w later h = absurd (omega arith)

-- one word more than three, whatever follows
pub four_words : (p : Parts) (w : List ℕ) (later : Option Parts) → length p.positional ≡ 3 → few (option_map (joined p) (option_map (with_positional w) later)) ≡ None
four_words p w None h = refl
four_words p w (Some q) h = rw (four p.positional w q.positional h) refl

none_of_four : (v : Verb) (a b c d : List ℕ) (ws : List (List ℕ)) (ss : List Setting) → made v (record { positional = a ∷ b ∷ c ∷ d ∷ ws; settings = ss }) ≡ None
none_of_four verb.Check a b c d ws [] = refl
none_of_four verb.Check a b c d ws (s ∷ ss) = refl
none_of_four verb.Render a b c d ws [] = refl
none_of_four verb.Render a b c d ws (s ∷ ss) = refl
none_of_four verb.Export a b c d ws [] = refl
none_of_four verb.Export a b c d ws (s ∷ ss) = refl
none_of_four verb.Migrate a b c d ws [] = refl
none_of_four verb.Migrate a b c d ws (s ∷ ss) = refl
none_of_four verb.Play a b c d ws ss = refl
none_of_four verb.Verify a b c d ws [] = refl
none_of_four verb.Verify a b c d ws (s ∷ ss) = refl
none_of_four verb.Gen a b c d ws [] = refl
none_of_four verb.Gen a b c d ws (s ∷ ss) = refl

-- ---- a second option

either_way : {A : Type 0} (b : Bool) (o : Option A) → o ≡ None → cond b o None ≡ None
either_way true o h = h
either_way false o h = refl

no_second : {A B C : Type 0} (make : A → B → C) (o : Option A) → both_in make o None ≡ None
no_second make None = refl
no_second make (Some a) = refl

play_of_two : (session cycles : List ℕ) (s t : Setting) (ss : List Setting) → play_of session cycles (s ∷ t ∷ ss) ≡ None
unfolding play_of
play_of_two session cycles s t ss = either_way (is_file_name session) _ (no_second _ (within 1 100000 (number cycles)))

none_of_two : (v : Verb) (ws : List (List ℕ)) (s t : Setting) (ss : List Setting) → made v (record { positional = ws; settings = s ∷ t ∷ ss }) ≡ None
none_of_two verb.Check ws s t ss = refl
none_of_two verb.Render ws s t ss = refl
none_of_two verb.Export ws s t ss = refl
none_of_two verb.Migrate ws s t ss = refl
none_of_two verb.Verify ws s t ss = refl
none_of_two verb.Gen ws s t ss = refl
none_of_two verb.Play [] s t ss = refl
none_of_two verb.Play (a ∷ []) s t ss = refl
none_of_two verb.Play (a ∷ b ∷ []) s t ss = ap (option_map ToPlay) (play_of_two a b s t ss)
none_of_two verb.Play (a ∷ b ∷ c ∷ ws) s t ss = refl

-- ---- few are enough

many : (v : Verb) (ws : List (List ℕ)) (ss : List Setting) → (are_at_most_three ws && are_at_most_one ss) ≡ false → made v (record { positional = ws; settings = ss }) ≡ None
many v (a ∷ b ∷ c ∷ d ∷ ws) ss h = none_of_four v a b c d ws ss
many v ws (s ∷ t ∷ ss) h = none_of_two v ws s t ss
many v ws ss h = absurd (cc)

chosen : (v : Verb) (p : Parts) (b : Bool) → (b ≡ false → made v p ≡ None) → option_and_then (made v) (cond b (Some p) None) ≡ made v p
chosen v p true h = refl
chosen v p false h = sym (h refl)

few_made : (v : Verb) (o : Option Parts) → option_and_then (made v) (few o) ≡ option_and_then (made v) o
few_made v None = refl
few_made v (Some p) = chosen v p (are_at_most_three p.positional && are_at_most_one p.settings) (many v p.positional p.settings)

-- the command of a name and of the words behind it
pub command_of : (w : List ℕ) (ws : List (List ℕ)) (v : Verb) (o : Option Parts) → verb_of w ≡ Some v → few o ≡ few (parted ws None) → option_and_then (made v) o ≡ command (w ∷ ws)
command_of w ws v o named same = sym (few_made v o) ∙ ap (λ (p : Option Parts). option_and_then (made v) p) same ∙ few_made v (parted ws None)
    ∙ ap (λ (n : Option Verb). option_and_then (λ u. option_and_then (made u) (parted ws None)) n) (sym named)
