-- Texts that are joined from the left, joined from the right.
use Rattle.std.proofs.Common.{◌≡◌, ℕ, List, [], ◌++◌, sym, ap, ◌∙◌, append_assoc, append-nil}

pub flat3 : (a b c rest : List ℕ) → a ++ b ++ c ++ rest ≡ a ++ (b ++ (c ++ rest))
flat3 a b c rest = append_assoc (a ++ b) c rest ∙ append_assoc a b (c ++ rest)

pub flat4 : (a b c d rest : List ℕ) → a ++ b ++ c ++ d ++ rest ≡ a ++ (b ++ (c ++ (d ++ rest)))
flat4 a b c d rest = append_assoc (a ++ b ++ c) d rest ∙ flat3 a b c (d ++ rest)

pub flat6 : (a b c d e f rest : List ℕ) → a ++ b ++ c ++ d ++ e ++ f ++ rest ≡ a ++ (b ++ (c ++ (d ++ (e ++ (f ++ rest)))))
flat6 a b c d e f rest = append_assoc (a ++ b ++ c ++ d ++ e) f rest ∙ append_assoc (a ++ b ++ c ++ d) e (f ++ rest) ∙ flat4 a b c d (e ++ (f ++ rest))

pub flat8 : (a b c d e f g h rest : List ℕ) → a ++ b ++ c ++ d ++ e ++ f ++ g ++ h ++ rest ≡ a ++ (b ++ (c ++ (d ++ (e ++ (f ++ (g ++ (h ++ rest)))))))
flat8 a b c d e f g h rest = append_assoc (a ++ b ++ c ++ d ++ e ++ f ++ g) h rest ∙ append_assoc (a ++ b ++ c ++ d ++ e ++ f) g (h ++ rest) ∙ flat6 a b c d e f (g ++ (h ++ rest))

-- ---- pieces that were read one after the other, joined

pub joined4 : (line r s a b c d : List ℕ) → line ≡ a ++ (b ++ r) → r ≡ c ++ s → s ≡ d → line ≡ a ++ b ++ c ++ d
joined4 line r s a b c d one two three = one ∙ ap (λ (x : List ℕ). a ++ (b ++ x)) (two ∙ ap (λ (x : List ℕ). c ++ x) three) ∙ sym (flat3 a b c d)

pub joined9 : (line r s t u v a b c d e f g h i : List ℕ) → line ≡ a ++ (b ++ r) → r ≡ c ++ (d ++ s) → s ≡ e ++ (f ++ t) → t ≡ g ++ u → u ≡ h ++ v → v ≡ i → line ≡ a ++ b ++ c ++ d ++ e ++ f ++ g ++ h ++ i
joined9 line r s t u v a b c d e f g h i one two three four five six =
    one ∙ ap (λ (x : List ℕ). a ++ (b ++ x)) (two ∙ ap (λ (x : List ℕ). c ++ (d ++ x)) (three ∙ ap (λ (x : List ℕ). e ++ (f ++ x)) (four ∙ ap (λ (x : List ℕ). g ++ x) (five ∙ ap (λ (x : List ℕ). h ++ x) six))))
    ∙ sym (flat8 a b c d e f g h i)

pub flat10 : (a b c d e f g h i j : List ℕ) → a ++ b ++ c ++ d ++ e ++ f ++ g ++ h ++ i ++ j ≡ a ++ (b ++ (c ++ (d ++ (e ++ (f ++ (g ++ (h ++ (i ++ j))))))))
flat10 a b c d e f g h i j = append_assoc (a ++ b ++ c ++ d ++ e ++ f ++ g ++ h) i j ∙ flat8 a b c d e f g h (i ++ j)

pub joined10 : (line r s t u v a b c d e f g h i j : List ℕ) → line ≡ a ++ (b ++ r) → r ≡ c ++ (d ++ s) → s ≡ e ++ (f ++ t) → t ≡ g ++ (h ++ u) → u ≡ i ++ (j ++ v) → v ≡ [] →
    line ≡ a ++ b ++ c ++ d ++ e ++ f ++ g ++ h ++ i ++ j
joined10 line r s t u v a b c d e f g h i j one two three four five six =
    one ∙ ap (λ (x : List ℕ). a ++ (b ++ x)) (two ∙ ap (λ (x : List ℕ). c ++ (d ++ x)) (three ∙ ap (λ (x : List ℕ). e ++ (f ++ x)) (four ∙ ap (λ (x : List ℕ). g ++ (h ++ x))
    (five ∙ ap (λ (x : List ℕ). i ++ (j ++ x)) six ∙ ap (λ (x : List ℕ). i ++ x) (append-nil j)))))
    ∙ sym (flat10 a b c d e f g h i j)
