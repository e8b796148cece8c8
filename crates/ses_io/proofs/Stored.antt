-- The list of files in memory, as the function from names to bytes that it stands for.
use Rattle.std.proofs.Common.{◌≡◌, ℕ, zero, suc, ◌+◌, ◌<◌, Bool, true, false, cond, List, [], ◌∷◌, ◌++◌, length, get_or, set, Option, None, Some, position, find, IsTrue, IsSome, ◌↔◌, ◌||◌, nat_eq, refl, sym, ap, ◌∙◌, arith, true≢false}
use Rattle.std.specs.Option.{option_map, unwrap_or}
use Rattle.std.specs.List.{starts_with, position_from}
use Rattle.std.specs.Str.{bytes_eq}
use Rattle.std.proofs.Math.Seq.{take_all}
use Rattle.std.proofs.lemmas.List.Quantifiers.{position-Some}
use Rattle.std.proofs.lemmas.Iterator.Adapters.{position_from-zero}
use Rattle.ses_io.specs.Files.{content, with_file, overwritten, HasNameUnder, AppendsTo, Overwrites}
use Rattle.ses_io.specs.Stored.{StoredFile, has_name, files_in, stored, any_under}
use Rattle.ses_io.proofs.Files.{bytes_eq-same, bytes_eq-true}

-- f is the first file of that name, at i
record IsFirst (fs : List StoredFile) (name : List ℕ) (i : ℕ) (f : StoredFile) : Type 0 where
  within : i < length fs
  here : f ≡ get_or fs i f
  named : has_name name f ≡ true
  before : (k : ℕ) → k < i → has_name name (get_or fs k f) ≡ false

first : {fs : List StoredFile} {name : List ℕ} {i : ℕ} {f : StoredFile} → Some i ≡ position (has_name name) fs → f ≡ get_or fs i f → IsFirst fs name i f
first {fs} {name} {i} {f} found here =
    let p = position-Some (has_name name) fs i f (sym found) in
    record { within = p.0; here = here; named = ap (has_name name) here ∙ p.1; before = p.2 }

rest_first : (x : StoredFile) (fs : List StoredFile) (name : List ℕ) (i : ℕ) (f : StoredFile) → IsFirst (x ∷ fs) name (suc i) f → IsFirst fs name i f
rest_first x fs name i f h = record {
  within = omega (arith, h.within);
  here = h.here;
  named = h.named;
  before = λ k less. h.before (suc k) (omega arith);
}

set-first : (fs : List StoredFile) (name bytes : List ℕ) (i : ℕ) (f : StoredFile) → IsFirst fs name i f → set fs i (record { name = f.name; bytes = bytes }) ≡ stored fs name bytes
set-first [] name bytes i f h = absurd (omega (arith, h.within))
set-first (x ∷ fs) name bytes zero f h = rw (← h.here, h.named)
set-first (x ∷ fs) name bytes (suc i) f h = rw (h.before zero (omega arith)) (ap (λ ys. x ∷ ys) (set-first fs name bytes i f (rest_first x fs name i f h)))

find-first : (fs : List StoredFile) (name : List ℕ) (i : ℕ) (f : StoredFile) → IsFirst fs name i f → find (has_name name) fs ≡ Some f
find-first [] name i f h = absurd (omega (arith, h.within))
find-first (x ∷ fs) name zero f h = rw (← h.here, h.named)
find-first (x ∷ fs) name (suc i) f h = rw (h.before zero (omega arith)) (find-first fs name i f (rest_first x fs name i f h))

-- at the place that `position` gives, a write of the file's bytes is the file put anew
pub stored-at : (gs fs : List StoredFile) (name bytes : List ℕ) {i : ℕ} {f : StoredFile} → gs ≡ fs → Some i ≡ position (has_name name) fs → f ≡ get_or gs i f → set gs i (record { name = f.name; bytes = bytes }) ≡ stored fs name bytes
stored-at gs fs name bytes {i} {f} same found here =
    ap (λ hs. set hs i (record { name = f.name; bytes = bytes })) same ∙ set-first fs name bytes i f (first found (here ∙ ap (λ hs. get_or hs i f) same))

pub files_in-at : (gs fs : List StoredFile) (name : List ℕ) {i : ℕ} {f : StoredFile} → gs ≡ fs → Some i ≡ position (has_name name) fs → f ≡ get_or gs i f → files_in fs name ≡ Some f.bytes
files_in-at gs fs name {i} {f} same found here = ap (option_map (λ g. g.bytes)) (find-first fs name i f (first found (here ∙ ap (λ hs. get_or hs i f) same)))

-- the same for a write of more behind the file's bytes
pub stored-extended : (gs fs : List StoredFile) (name more : List ℕ) {i : ℕ} {f : StoredFile} → gs ≡ fs → Some i ≡ position (has_name name) fs → f ≡ get_or gs i f → set gs i (record { name = f.name; bytes = f.bytes ++ more }) ≡ stored fs name (content (files_in fs) name ++ more)
stored-extended gs fs name more {i} {f} same found here =
    stored-at gs fs name (f.bytes ++ more) same found here ∙ ap (λ held. stored fs name (unwrap_or held [] ++ more)) (sym (files_in-at gs fs name same found here))

not_here : (b : Bool) (i : ℕ) (rest : Option ℕ) → cond b (Some i) rest ≡ None → (b ≡ false) × (rest ≡ None)
not_here true i rest h = cc
not_here false i rest h = (refl, h)

stored-none : (fs : List StoredFile) (name bytes : List ℕ) (i : ℕ) → position_from (has_name name) i fs ≡ None → stored fs name bytes ≡ fs ++ record { name = name; bytes = bytes } ∷ []
stored-none [] name bytes i h = refl
stored-none (x ∷ fs) name bytes i h =
    let p = not_here (has_name name x) i (position_from (has_name name) (i + 1) fs) h in
    rw p.0 (ap (λ ys. x ∷ ys) (stored-none fs name bytes (i + 1) p.1))

find-none : (fs : List StoredFile) (name : List ℕ) (i : ℕ) → position_from (has_name name) i fs ≡ None → find (has_name name) fs ≡ None
find-none [] name i h = refl
find-none (x ∷ fs) name i h =
    let p = not_here (has_name name x) i (position_from (has_name name) (i + 1) fs) h in
    rw p.0 (find-none fs name (i + 1) p.1)

-- where `position` finds none, the file is put at the end
pub stored-absent : (fs : List StoredFile) (name bytes : List ℕ) → None ≡ position (has_name name) fs → stored fs name bytes ≡ fs ++ record { name = name; bytes = bytes } ∷ []
stored-absent fs name bytes none = stored-none fs name bytes 0 (sym (position_from-zero (has_name name) fs) ∙ sym none)

pub files_in-absent : (fs : List StoredFile) (name : List ℕ) → None ≡ position (has_name name) fs → files_in fs name ≡ None
files_in-absent fs name none = ap (option_map (λ g. g.bytes)) (find-none fs name 0 (sym (position_from-zero (has_name name) fs) ∙ sym none))

put_none : (b : Bool) (y : StoredFile) → option_map (λ f. f.bytes) (cond b (Some y) None) ≡ cond b (Some y.bytes) None
put_none true y = refl
put_none false y = refl

-- the file put is the one looked up, or neither is
put_here : (b : Bool) (x y : StoredFile) (rest : Option StoredFile) → option_map (λ f. f.bytes) (cond b (Some y) rest) ≡ cond b (Some y.bytes) (option_map (λ f. f.bytes) (cond b (Some x) rest))
put_here true x y rest = refl
put_here false x y rest = refl

-- the first file is looked up, or the file put, but not both
put_below : (b c : Bool) (x : StoredFile) (bytes : List ℕ) (rest others : Option StoredFile) → (b ≡ true → c ≡ true → ⊥) → option_map (λ f. f.bytes) others ≡ cond c (Some bytes) (option_map (λ f. f.bytes) rest) → option_map (λ f. f.bytes) (cond b (Some x) others) ≡ cond c (Some bytes) (option_map (λ f. f.bytes) (cond b (Some x) rest))
put_below true true x bytes rest others apart below = absurd (apart refl refl)
put_below true false x bytes rest others apart below = refl
put_below false c x bytes rest others apart below = below

put_first : (b : Bool) (x : StoredFile) (fs : List StoredFile) (name bytes q : List ℕ) → has_name name x ≡ b → files_in (stored fs name bytes) q ≡ with_file (files_in fs) name bytes q → files_in (cond b (record x { bytes = bytes } ∷ fs) (x ∷ stored fs name bytes)) q ≡ with_file (files_in (x ∷ fs)) name bytes q
put_first true x fs name bytes q named below =
    put_here (bytes_eq x.name q) x (record x { bytes = bytes }) (find (has_name q) fs)
    ∙ ap (λ m. cond (bytes_eq m q) (Some bytes) (files_in (x ∷ fs) q)) (bytes_eq-true x.name name named)
put_first false x fs name bytes q named below =
    put_below (bytes_eq x.name q) (bytes_eq name q) x bytes (find (has_name q) fs) (find (has_name q) (stored fs name bytes))
    (λ e d. true≢false (sym (ap (λ m. bytes_eq x.name m) (sym (bytes_eq-true x.name q e ∙ sym (bytes_eq-true name q d))) ∙ bytes_eq-same x.name) ∙ named))
    below

files_at-stored : (fs : List StoredFile) (name bytes q : List ℕ) → files_in (stored fs name bytes) q ≡ with_file (files_in fs) name bytes q
files_at-stored [] name bytes q = put_none (bytes_eq name q) (record { name = name; bytes = bytes })
files_at-stored (x ∷ fs) name bytes q = put_first (has_name name x) x fs name bytes q refl (files_at-stored fs name bytes q)

-- a file that is put is the one file that changes
pub files_in-stored : (fs : List StoredFile) (name bytes : List ℕ) → files_in (stored fs name bytes) ≡ with_file (files_in fs) name bytes
files_in-stored fs name bytes = λ i q. files_at-stored fs name bytes q i

still_found : (b : Bool) (x : StoredFile) (rest : Option StoredFile) → IsSome (option_map (λ f. f.bytes) rest) → IsSome (option_map (λ f. f.bytes) (cond b (Some x) rest))
still_found true x rest some = refl
still_found false x rest some = some

under_first : (b : Bool) (x : StoredFile) (fs : List StoredFile) (prefix : List ℕ) → starts_with nat_eq x.name prefix ≡ b → (any_under prefix fs ≡ true → HasNameUnder (files_in fs) prefix) → (b || any_under prefix fs) ≡ true → HasNameUnder (files_in (x ∷ fs)) prefix
under_first true x fs prefix begins below found = (x.name, rw (bytes_eq-same x.name) refl, begins)
under_first false x fs prefix begins below found =
    let h = below found in (h.0, still_found (bytes_eq x.name h.0) x (find (has_name h.0) fs) h.1, h.2)

-- a name that some test finds is one
name_under : (fs : List StoredFile) (prefix : List ℕ) → any_under prefix fs ≡ true → HasNameUnder (files_in fs) prefix
name_under [] prefix found = absurd (true≢false (sym found))
name_under (x ∷ fs) prefix found = under_first (starts_with nat_eq x.name prefix) x fs prefix refl (name_under fs prefix) found

or_right : (b : Bool) → (b || true) ≡ true
or_right true = refl
or_right false = refl

found_first : (b : Bool) (x : StoredFile) (fs : List StoredFile) (prefix q : List ℕ) → bytes_eq x.name q ≡ b → IsSome (option_map (λ f. f.bytes) (cond b (Some x) (find (has_name q) fs))) → starts_with nat_eq q prefix ≡ true → (IsSome (files_in fs q) → any_under prefix fs ≡ true) → any_under prefix (x ∷ fs) ≡ true
found_first true x fs prefix q here some under below = ap (λ m. starts_with nat_eq m prefix || any_under prefix fs) (bytes_eq-true x.name q here) ∙ ap (λ b. b || any_under prefix fs) under
found_first false x fs prefix q here some under below = ap (λ b. starts_with nat_eq x.name prefix || b) (below some) ∙ or_right (starts_with nat_eq x.name prefix)

found_under : (fs : List StoredFile) (prefix q : List ℕ) → IsSome (files_in fs q) → starts_with nat_eq q prefix ≡ true → any_under prefix fs ≡ true
found_under [] prefix q some under = some
found_under (x ∷ fs) prefix q some under = found_first (bytes_eq x.name q) x fs prefix q refl some under (λ h. found_under fs prefix q h under)

-- the test is true exactly where there is such a name
pub any_under-is : (fs : List StoredFile) (prefix : List ℕ) → IsTrue (any_under prefix fs) ↔ HasNameUnder (files_in fs) prefix
any_under-is fs prefix = (name_under fs prefix, λ h. found_under fs prefix h.0 h.1 h.2)

-- the whole piece was put at the end
pub AppendsTo-stored : (fs gs : List StoredFile) (name piece : List ℕ) (n : ℕ) → n ≡ length piece → gs ≡ stored fs name (content (files_in fs) name ++ piece) → AppendsTo (files_in fs) (files_in gs) name piece n
AppendsTo-stored fs gs name piece n all put = record {
  within = omega arith;
  files = ap files_in put ∙ files_in-stored fs name (content (files_in fs) name ++ piece) ∙ ap (λ more. with_file (files_in fs) name (content (files_in fs) name ++ more)) (sym (take_all n piece (omega arith)));
}

-- the whole piece was put over the bytes from `at` on
pub Overwrites-stored : (fs gs : List StoredFile) (name : List ℕ) (at : ℕ) (piece : List ℕ) (n : ℕ) → n ≡ length piece → gs ≡ stored fs name (overwritten (content (files_in fs) name) at piece) → Overwrites (files_in fs) (files_in gs) name at piece n
Overwrites-stored fs gs name at piece n all put = record {
  within = omega arith;
  files = ap files_in put ∙ files_in-stored fs name (overwritten (content (files_in fs) name) at piece) ∙ ap (λ more. with_file (files_in fs) name (overwritten (content (files_in fs) name) at more)) (sym (take_all n piece (omega arith)));
}
