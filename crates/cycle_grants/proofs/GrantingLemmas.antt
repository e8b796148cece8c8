-- The grants that lines ask for, line by line.
use Rattle.std.proofs.Common.{◌≡◌, ℕ, List, [], ◌∷◌, ◌++◌, refl, sym, ap, ◌∙◌, subst, append-nil}
use Rattle.std.specs.Prelude.{Bool, true, false, ◌&&◌, ◌||◌, ◌==◌}
use Rattle.std.proofs.lemmas.Bool.{and_parts, and_from, or_left, or_right, false≢true, eq-eqb}
use Rattle.engine_model.specs.Waited.{Grant, Pace, Pause, Sought, go_through, go_singly, is_grant, is_last_grant}
use Rattle.cycle_grants.specs.Granting.{GrantsAreAsked, grant, is_none}

begins : (k : ℕ) (r : List Grant → Bool) (gs : List Grant) → r gs ≡ true → go_singly k r gs ≡ true
begins k r [] h = h
begins k r (g ∷ gs) h = or_left (r (g ∷ gs)) (is_grant 1 k g && go_singly k r gs) h

-- by whether the rest begins here
singly_by : (k : ℕ) (r r' : List Grant → Bool) (more : List Grant) (g : Grant) (gs : List Grant) (b : Bool) → r (g ∷ gs) ≡ b → (r (g ∷ gs) ≡ true → r' (g ∷ gs ++ more) ≡ true) →
    (go_singly k r gs ≡ true → go_singly k r' (gs ++ more) ≡ true) → go_singly k r (g ∷ gs) ≡ true → go_singly k r' (g ∷ gs ++ more) ≡ true
singly_by k r r' more g gs true is f rest h = or_left (r' (g ∷ gs ++ more)) (is_grant 1 k g && go_singly k r' (gs ++ more)) (f is)
singly_by k r r' more g gs false is f rest h = let parts = and_parts (is_grant 1 k g) (go_singly k r gs) (sym (ap (λ b. b || (is_grant 1 k g && go_singly k r gs)) is) ∙ h) in
    or_right (r' (g ∷ gs ++ more)) (is_grant 1 k g && go_singly k r' (gs ++ more)) (and_from (is_grant 1 k g) (go_singly k r' (gs ++ more)) parts.0 (rest parts.1))

singly : (k : ℕ) (r r' : List Grant → Bool) (more : List Grant) → ((gs : List Grant) → r gs ≡ true → r' (gs ++ more) ≡ true) →
    (gs : List Grant) → go_singly k r gs ≡ true → go_singly k r' (gs ++ more) ≡ true
singly k r r' more f [] h = begins k r' more (f [] h)
singly k r r' more f (g ∷ gs) h = singly_by k r r' more g gs (r (g ∷ gs)) refl (f (g ∷ gs)) (singly k r r' more f gs) h

-- what goes through with one end goes on with another
through : (e e' : List Grant → Bool) (more : List Grant) → ((gs : List Grant) → e gs ≡ true → e' (gs ++ more) ≡ true) →
    (ps : List Pace) (gs : List Grant) → go_through e ps gs ≡ true → go_through e' ps (gs ++ more) ≡ true
through e e' more f [] gs h = f gs h
through e e' more f (Pause n k ∷ ps) [] h = absurd (false≢true h)
through e e' more f (Pause n k ∷ ps) (g ∷ gs) h = let parts = and_parts (is_grant n k g) (go_through e ps gs) h in
    and_from (is_grant n k g) (go_through e' ps (gs ++ more)) parts.0 (through e e' more f ps gs parts.1)
through e e' more f (Sought k ∷ ps) gs h = singly k (go_through e ps) (go_through e' ps) more (through e e' more f ps) gs h

-- the paces of two parts, one after the other
after : (e : List Grant → Bool) (ps qs : List Pace) (gs : List Grant) → go_through (go_through e qs) ps gs ≡ true → go_through e (ps ++ qs) gs ≡ true
after e [] qs gs h = h
after e (Pause n k ∷ ps) qs [] h = absurd (false≢true h)
after e (Pause n k ∷ ps) qs (g ∷ gs) h = let parts = and_parts (is_grant n k g) (go_through (go_through e qs) ps gs) h in
    and_from (is_grant n k g) (go_through e (ps ++ qs) gs) parts.0 (after e ps qs gs parts.1)
after e (Sought k ∷ ps) qs gs h = subst (λ l. go_singly k (go_through e (ps ++ qs)) l ≡ true) (append-nil gs)
    (singly k (go_through (go_through e qs) ps) (go_through e (ps ++ qs)) [] (λ l r. subst (λ x. go_through e (ps ++ qs) x ≡ true) (sym (append-nil l)) (after e ps qs l r)) gs h)

apart : (e : List Grant → Bool) (ps qs : List Pace) (gs : List Grant) → go_through e (ps ++ qs) gs ≡ true → go_through (go_through e qs) ps gs ≡ true
apart e [] qs gs h = h
apart e (Pause n k ∷ ps) qs [] h = absurd (false≢true h)
apart e (Pause n k ∷ ps) qs (g ∷ gs) h = let parts = and_parts (is_grant n k g) (go_through e (ps ++ qs) gs) h in
    and_from (is_grant n k g) (go_through (go_through e qs) ps gs) parts.0 (apart e ps qs gs parts.1)
apart e (Sought k ∷ ps) qs gs h = subst (λ l. go_singly k (go_through (go_through e qs) ps) l ≡ true) (append-nil gs)
    (singly k (go_through e (ps ++ qs)) (go_through (go_through e qs) ps) [] (λ l r. subst (λ x. go_through (go_through e qs) ps x ≡ true) (sym (append-nil l)) (apart e ps qs l r)) gs h)

is_it : (n k : ℕ) → is_grant n k (grant n k) ≡ true
is_it n k = and_from (n == n) (k == k) (eq-eqb n n refl) (eq-eqb k k refl)

-- ---- where nothing was left

one_pause : (n k : ℕ) (gs : List Grant) → is_none gs ≡ true → go_through is_none (Pause n k ∷ []) (gs ++ grant n k ∷ []) ≡ true
one_pause n k [] h = and_from (is_grant n k (grant n k)) true (is_it n k) refl
one_pause n k (g ∷ gs) h = absurd (false≢true h)

one_last : (n k : ℕ) (gs : List Grant) → is_none gs ≡ true → is_last_grant n k (gs ++ grant n k ∷ []) ≡ true
one_last n k [] h = is_it n k
one_last n k (g ∷ gs) h = absurd (false≢true h)

one_seek : (k : ℕ) (gs : List Grant) → is_none gs ≡ true → go_singly k is_none (gs ++ []) ≡ true
one_seek k [] h = refl
one_seek k (g ∷ gs) h = absurd (false≢true h)

sought_by : (k : ℕ) (g : Grant) (gs : List Grant) → go_singly k is_none (g ∷ gs) ≡ true → (go_singly k is_none gs ≡ true → go_singly k is_none (gs ++ grant 1 k ∷ []) ≡ true) →
    go_singly k is_none (g ∷ gs ++ grant 1 k ∷ []) ≡ true
sought_by k g gs h rest = let parts = and_parts (is_grant 1 k g) (go_singly k is_none gs) h in
    and_from (is_grant 1 k g) (go_singly k is_none (gs ++ grant 1 k ∷ [])) parts.0 (rest parts.1)

one_sought : (k : ℕ) (gs : List Grant) → go_singly k is_none gs ≡ true → go_singly k is_none (gs ++ grant 1 k ∷ []) ≡ true
one_sought k [] h = and_from (is_grant 1 k (grant 1 k)) true (is_it 1 k) refl
one_sought k (g ∷ gs) h = sought_by k g gs h (one_sought k gs)

pub grants_are_asked : GrantsAreAsked
grants_are_asked paces grants = record {
  pause = λ n k h. after is_none paces (Pause n k ∷ []) (grants ++ grant n k ∷ []) (through is_none (go_through is_none (Pause n k ∷ [])) (grant n k ∷ []) (one_pause n k) paces grants h);
  seek = λ k h. after is_none paces (Sought k ∷ []) grants (subst (λ l. go_through (go_through is_none (Sought k ∷ [])) paces l ≡ true) (append-nil grants)
      (through is_none (go_through is_none (Sought k ∷ [])) [] (one_seek k) paces grants h));
  sought = λ k h. after is_none paces (Sought k ∷ []) (grants ++ grant 1 k ∷ [])
      (through (go_through is_none (Sought k ∷ [])) (go_through is_none (Sought k ∷ [])) (grant 1 k ∷ []) (one_sought k) paces grants (apart is_none paces (Sought k ∷ []) grants h));
  last = λ n k h. through is_none (is_last_grant n k) (grant n k ∷ []) (one_last n k) paces grants h;
}
