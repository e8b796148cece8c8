-- What grants allow, and what stays of it when more are received.
use Rattle.std.proofs.Common.{◌≡◌, ℕ, zero, suc, ◌+◌, ◌<◌, ◌≤◌, List, [], ◌∷◌, ◌++◌, length, refl, sym, ap, ◌∙◌, subst, arith, length-append}
use Rattle.std.specs.Prelude.{Bool, true, false, ◌||◌, ◌==◌, nat_le, nat_lt, if◌then◌else◌, Option, Some, None, take, filter, find}
use Rattle.std.specs.List.{list_all, range_with_len}
use Rattle.std.proofs.lemmas.Bool.{and_parts, and_from, or_left, or_right, true≢false, false≢true}
use Rattle.std.proofs.lemmas.List.Elements.{filter-append}
use Rattle.std.proofs.lemmas.Option.{none-some as none_some, same_Some}
use mathlib.Core.Logic.{dite}
use native.Mathlib.Decide.{ℕ_discrete}
use Rattle.std.specs.Prelude.{◌≢◌}
use Rattle.engine_model.specs.Journal.{Entry}
use Rattle.engine_model.specs.Waited.{Grant, Grants, allowed, allowing_from, allowing, is_allowed_by, are_allowed_from, times}

-- ---- grants

-- a grant that is found allows the cycle; `n` of them, none newer than `floor`
abbrev Finds : ℕ → ℕ → ℕ → ℕ → List Grant → Type 0
Finds c j a floor gs = (found : ℕ × Grant) × ((allowing_from c j a gs ≡ Some found) × (found.0 ≤ j + length gs) × (found.1.edition ≤ floor))

finds_by : (c j a floor : ℕ) (g : Grant) (gs : List Grant) (b : Bool) → nat_le c (a + g.cycles) ≡ b → g.edition ≤ floor → (b ≡ false → Finds c (suc j) (a + g.cycles) floor gs) → Finds c j a floor (g ∷ gs)
finds_by c j a floor g gs true is old rest = ((suc j, g), (ap (λ b. if b then Some (suc j, g) else allowing_from c (suc j) (a + g.cycles) gs) is, omega arith, old))
finds_by c j a floor g gs false is old rest = let more = rest refl in
    (more.0, (ap (λ b. if b then Some (suc j, g) else allowing_from c (suc j) (a + g.cycles) gs) is ∙ more.1.0, omega (arith, more.1.1), more.1.2))

pub finds : (c j a floor : ℕ) (gs : List Grant) → a < c → c ≤ a + allowed gs → list_all (λ g. nat_le g.edition floor) gs ≡ true → Finds c j a floor gs
finds c j a floor [] above within old = absurd (omega (arith, above, within))
finds c j a floor (g ∷ gs) above within old = let parts = and_parts (nat_le g.edition floor) (list_all (λ g. nat_le g.edition floor) gs) old in
    finds_by c j a floor g gs (nat_le c (a + g.cycles)) refl (grind (arith, parts.0))
    (λ past. finds c (suc j) (a + g.cycles) floor gs (grind (arith, past)) (omega (arith, within)) parts.1)

-- a grant that is found is found however many more are sent
still_by : (c j a : ℕ) (g : Grant) (gs more : List Grant) (f : ℕ × Grant) (b : Bool) → nat_le c (a + g.cycles) ≡ b → allowing_from c j a (g ∷ gs) ≡ Some f →
    (allowing_from c (suc j) (a + g.cycles) gs ≡ Some f → allowing_from c (suc j) (a + g.cycles) (gs ++ more) ≡ Some f) → allowing_from c j a (g ∷ gs ++ more) ≡ Some f
still_by c j a g gs more f true e is rest = ap (λ b. if b then Some (suc j, g) else allowing_from c (suc j) (a + g.cycles) (gs ++ more)) e
    ∙ (sym (ap (λ b. if b then Some (suc j, g) else allowing_from c (suc j) (a + g.cycles) gs) e) ∙ is)
still_by c j a g gs more f false e is rest = ap (λ b. if b then Some (suc j, g) else allowing_from c (suc j) (a + g.cycles) (gs ++ more)) e
    ∙ rest (sym (ap (λ b. if b then Some (suc j, g) else allowing_from c (suc j) (a + g.cycles) gs) e) ∙ is)

pub found_still : (c j a : ℕ) (gs more : List Grant) (f : ℕ × Grant) → allowing_from c j a gs ≡ Some f → allowing_from c j a (gs ++ more) ≡ Some f
found_still c j a [] more f is = absurd (none_some f is)
found_still c j a (g ∷ gs) more f is = still_by c j a g gs more f (nat_le c (a + g.cycles)) refl is (found_still c (suc j) (a + g.cycles) gs more f)

pub allowed_append : (xs ys : List Grant) → allowed (xs ++ ys) ≡ allowed xs + allowed ys
allowed_append [] ys = omega arith
allowed_append (x ∷ xs) ys = omega (arith, allowed_append xs ys)

-- fewer of them allow no more
pub allowed_fewer : (n m : ℕ) (xs : List Grant) → n ≤ m → allowed (take n xs) ≤ allowed (take m xs)
allowed_fewer zero m xs le = omega arith
allowed_fewer (suc n) zero xs le = absurd (omega arith)
allowed_fewer (suc n) (suc m) [] le = omega arith
allowed_fewer (suc n) (suc m) (x ∷ xs) le = omega (arith, allowed_fewer n m xs (omega arith))

-- ---- looks

pub times_append : (n : ℕ) (xs ys : List ℕ) → times n (xs ++ ys) ≡ times n xs + times n ys
times_append n xs ys = ap length (filter-append (λ x. x == n) xs ys) ∙ length-append (filter (λ x. x == n) xs) (filter (λ x. x == n) ys)

pub times_one : (n : ℕ) → times n (n ∷ []) ≡ 1
times_one n = grind arith

pub times_snoc : (n : ℕ) (xs : List ℕ) → times n (xs ++ n ∷ []) ≡ suc (times n xs)
times_snoc n xs = omega (arith, times_append n xs (n ∷ []), times_one n)

-- ---- entries

-- where each of the first `top` entries that was allowed still is, all are
still_one : (g h : Grants) (m n c : ℕ) (e : Entry) (b : Bool) → nat_lt n c ≡ b →
    (c ≤ n → (nat_lt m c || is_allowed_by g e.edition (allowing c g.sent)) ≡ true → is_allowed_by h e.edition (allowing c h.sent) ≡ true) →
    (nat_lt m c || is_allowed_by g e.edition (allowing c g.sent)) ≡ true → (nat_lt n c || is_allowed_by h e.edition (allowing c h.sent)) ≡ true
still_one g h m n c e true is still was = or_left (nat_lt n c) (is_allowed_by h e.edition (allowing c h.sent)) is
still_one g h m n c e false is still was = or_right (nat_lt n c) (is_allowed_by h e.edition (allowing c h.sent)) (still (grind (arith, is)) was)

pub still_allowed : (g h : Grants) (m n top c : ℕ) (es : List Entry) → c + length es ≤ suc top →
    ((k : ℕ) (e : Entry) → k ≤ top → k ≤ n → (nat_lt m k || is_allowed_by g e.edition (allowing k g.sent)) ≡ true → is_allowed_by h e.edition (allowing k h.sent) ≡ true) →
    are_allowed_from g m c es ≡ true → are_allowed_from h n c es ≡ true
still_allowed g h m n top c [] few still all = refl
still_allowed g h m n top c (e ∷ es) few still all = let parts = and_parts (nat_lt m c || is_allowed_by g e.edition (allowing c g.sent)) (are_allowed_from g m (suc c) es) all in
    and_from (nat_lt n c || is_allowed_by h e.edition (allowing c h.sent)) (are_allowed_from h n (suc c) es)
    (still_one g h m n c e (nat_lt n c) refl (still c e (omega (arith, few))) parts.0) (still_allowed g h m n top (suc c) es (omega (arith, few)) still parts.1)

-- one more
pub one_more : (g : Grants) (m c k : ℕ) (es : List Entry) (e : Entry) → k ≡ c + length es → are_allowed_from g m c es ≡ true → (nat_lt m k || is_allowed_by g e.edition (allowing k g.sent)) ≡ true →
    are_allowed_from g m c (es ++ e ∷ []) ≡ true
one_more g m c k [] e at all may = let here : k ≡ c = omega (arith, at) in
    and_from (nat_lt m c || is_allowed_by g e.edition (allowing c g.sent)) true (subst (λ n. (nat_lt m n || is_allowed_by g e.edition (allowing n g.sent)) ≡ true) here may) refl
one_more g m c k (x ∷ es) e at all may = let parts = and_parts (nat_lt m c || is_allowed_by g x.edition (allowing c g.sent)) (are_allowed_from g m (suc c) es) all in
    and_from (nat_lt m c || is_allowed_by g x.edition (allowing c g.sent)) (are_allowed_from g m (suc c) (es ++ e ∷ [])) parts.0 (one_more g m (suc c) k es e (omega (arith, at)) parts.1 may)

-- what was allowed is allowed when more was sent and received
allowed_by : (g h : Grants) (more : List Grant) (k edition : ℕ) (o : Option (ℕ × Grant)) → allowing k g.sent ≡ o → g.sent ++ more ≡ h.sent → g.received ≤ h.received →
    is_allowed_by g edition o ≡ true → is_allowed_by h edition (allowing k h.sent) ≡ true
allowed_by g h more k edition None found sent received is = absurd (false≢true is)
allowed_by g h more k edition (Some f) found sent received is =
    let same : allowing k h.sent ≡ Some f = ap (allowing k) (sym sent) ∙ found_still k 0 0 g.sent more f found in
    let parts = and_parts (nat_le f.0 g.received) (nat_le f.1.edition edition) is in
    ap (is_allowed_by h edition) same ∙ and_from (nat_le f.0 h.received) (nat_le f.1.edition edition) (grind (arith, parts.0, received)) parts.1

pub allowed_later : (g h : Grants) (more : List Grant) (k edition : ℕ) → g.sent ++ more ≡ h.sent → g.received ≤ h.received →
    is_allowed_by g edition (allowing k g.sent) ≡ true → is_allowed_by h edition (allowing k h.sent) ≡ true
allowed_later g h more k edition sent received is = allowed_by g h more k edition (allowing k g.sent) refl sent received is

-- what grants allow together is allowed by one of them
pub is_allowed_now : (g : Grants) (k edition floor : ℕ) → 0 < k → k ≤ allowed g.sent → length g.sent ≤ g.received → list_all (λ x. nat_le x.edition floor) g.sent ≡ true → floor ≤ edition →
    is_allowed_by g edition (allowing k g.sent) ≡ true
is_allowed_now g k edition floor some within received old new = let f = finds k 0 0 floor g.sent some (omega (arith, within)) old in
    ap (is_allowed_by g edition) f.1.0 ∙ and_from (nat_le f.0.0 g.received) (nat_le f.0.1.edition edition) (grind (arith, f.1.1, received)) (grind (arith, f.1.2, new))

-- ---- which number is the least

apart : (a k : ℕ) → a ≤ k → a ≢ k → a + 1 ≤ k
apart a k low other = grind (arith, low, other)

pub none_before : (p : ℕ → Bool) (a n k : ℕ) → find p (range_with_len a n) ≡ None → a ≤ k → k < a + n → p k ≡ false
none_before p a zero k none low high = absurd (omega (arith, low, high))
none_before p a (suc n) k none low high = none_by p a n k (p a) refl none low high (none_before p (a + 1) n k)
  where
    none_by : (p : ℕ → Bool) (a n k : ℕ) (b : Bool) → p a ≡ b → find p (range_with_len a (suc n)) ≡ None → a ≤ k → k < a + suc n →
        (find p (range_with_len (a + 1) n) ≡ None → a + 1 ≤ k → k < a + 1 + n → p k ≡ false) → p k ≡ false
    none_by p a n k true is none low high rest = absurd (none_some a (sym none ∙ ap (λ b. if b then Some a else find p (range_with_len (a + 1) n)) is))
    none_by p a n k false is none low high rest = dite (ℕ_discrete a k) (λ same. ap p (sym same) ∙ is)
        (λ other. rest (sym (ap (λ b. if b then Some a else find p (range_with_len (a + 1) n)) is) ∙ none) (apart a k low other) (omega (arith, high)))

-- the number found is no greater than one that passes
pub least_first : (p : ℕ → Bool) (a n k m : ℕ) → find p (range_with_len a n) ≡ Some m → a ≤ k → k < a + n → p k ≡ true → m ≤ k
least_first p a zero k m found low high passes = absurd (omega (arith, low, high))
least_first p a (suc n) k m found low high passes = least_by p a n k m (p a) refl found low high passes (least_first p (a + 1) n k m)
  where
    least_by : (p : ℕ → Bool) (a n k m : ℕ) (b : Bool) → p a ≡ b → find p (range_with_len a (suc n)) ≡ Some m → a ≤ k → k < a + suc n → p k ≡ true →
        (find p (range_with_len (a + 1) n) ≡ Some m → a + 1 ≤ k → k < a + 1 + n → p k ≡ true → m ≤ k) → m ≤ k
    least_by p a n k m true is found low high passes rest = let same = same_Some a m (sym (ap (λ b. if b then Some a else find p (range_with_len (a + 1) n)) is) ∙ found) in omega (arith, sym same, low)
    least_by p a n k m false is found low high passes rest = dite (ℕ_discrete a k) (λ same. absurd (true≢false (sym passes ∙ ap p (sym same) ∙ is)))
        (λ other. rest (sym (ap (λ b. if b then Some a else find p (range_with_len (a + 1) n)) is) ∙ found) (apart a k low other) (omega (arith, high)) passes)
