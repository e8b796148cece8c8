-- The first that falls among what stands and what doesn't.
use Rattle.std.proofs.Common.{◌≡◌, suc, refl, ap, List, [], ◌∷◌, ◌++◌}
use Rattle.std.specs.Prelude.{Bool, true, false, ◌&&◌, Option, Some, None}
use Rattle.std.specs.List.{list_all}
use Rattle.std.specs.Option.{option_map}
use Rattle.report_verdict.specs.Lines.{first_fall}

-- all stand
abbrev pub AllStand : List Bool → Type 0
AllStand stand = list_all (λ b. b) stand ≡ true

pub both : {a b : Bool} → a ≡ true → b ≡ true → (a && b) ≡ true
both {a = true} one two = two
both {a = false} one two = one

pub first_of : (a b : Bool) → (a && b) ≡ true → a ≡ true
first_of true b e = refl
first_of false b e = e

pub second_of : (a b : Bool) → (a && b) ≡ true → b ≡ true
second_of true b e = e
second_of false b e = absurd cc

pub none_of : {A B : Type 0} (f : A → B) (x : Option A) → option_map f x ≡ None → x ≡ None
none_of f None e = refl
none_of f (Some x) e = absurd cc

pub none_mapped : {A B : Type 0} (f : A → B) (x : Option A) → x ≡ None → option_map f x ≡ None
none_mapped f x e = ap (option_map f) e

pub none_falls : (stand : List Bool) → first_fall stand ≡ None → AllStand stand
none_falls [] e = refl
none_falls (false ∷ stand) e = absurd cc
none_falls (true ∷ stand) e = none_falls stand (none_of suc (first_fall stand) e)

pub all_stand : (stand : List Bool) → AllStand stand → first_fall stand ≡ None
all_stand [] e = refl
all_stand (false ∷ stand) e = absurd cc
all_stand (true ∷ stand) e = none_mapped suc (first_fall stand) (all_stand stand e)

pub all_front : (one two : List Bool) → AllStand (one ++ two) → AllStand one
all_front [] two e = refl
all_front (b ∷ one) two e = both (first_of b (list_all (λ x. x) (one ++ two)) e) (all_front one two (second_of b (list_all (λ x. x) (one ++ two)) e))

pub all_behind : (one two : List Bool) → AllStand (one ++ two) → AllStand two
all_behind [] two e = e
all_behind (b ∷ one) two e = all_behind one two (second_of b (list_all (λ x. x) (one ++ two)) e)

pub all_both : (one two : List Bool) → AllStand one → AllStand two → AllStand (one ++ two)
all_both [] two e f = f
all_both (b ∷ one) two e f = both (first_of b (list_all (λ x. x) one) e) (all_both one two (second_of b (list_all (λ x. x) one) e) f)

pub all_one : (b : Bool) → AllStand (b ∷ []) → b ≡ true
all_one b e = first_of b true e
