-- Lists whose items go together, one more at a time.
use Rattle.std.proofs.Common.{◌≡◌, ℕ, zero, suc, ◌+◌, ◌≤◌, ◌<◌, ◌⊎◌, inl, inr, refl, ap, arith, ◌∙◌, sym, subst, List, [], ◌∷◌, ◌++◌, length, map, take, get_or, Option, Some, None, length-append, rules}
use Rattle.std.specs.Prelude.{slice_get, All, IsSomeAnd, IsOk, Result, Ok, Err}
use Rattle.std.proofs.lemmas.Bool.{cases_lt}
use Rattle.std.proofs.lemmas.List.{take_more, take_all, length-take-le}
use Rattle.std.proofs.lemmas.Option.{slice_get_within, get_or_from_slice_get, slice_get_cases, slice_get_read}
use Rattle.std.proofs.lemmas.List.Elements.{All-push}
use Rattle.sound_model.specs.Wav.{Head}
use Rattle.ses_io.specs.Files.{Files}
use Rattle.session_model.specs.declared.session.SourceDecl.{SourceDecl}
use Rattle.audio_source.specs.declared.refusal.FileRefusal.{FileRefusal}
use Rattle.audio_source.specs.declared.refusal.OpenRefusal.{OpenRefusal}
use Rattle.audio_source.specs.declared.refusal.OpenRefusal.TheVariants.{File, ReadFault, NoMemory}
use Rattle.audio_source.specs.Answers.{IsFirstRefused, NamesFirst, IsRefusalOf}
use Rattle.audio_source.specs.Opened.{OpenedSource, ArePaired, IsOpened}
use Rattle.audio_source.specs.Refusals.{SourceRefusal, source_head, why_of}

take_get : {X : Type 0} (xs : List X) (i : ℕ) (x : X) → slice_get xs i ≡ Some x → take (i + 1) xs ≡ take i xs ++ x ∷ []
take_get xs i x e = take_more xs i x (slice_get_within xs i x e) ∙ ap (λ y. take i xs ++ y ∷ []) (get_or_from_slice_get xs i x x e)

get_front : {X : Type 0} (xs more : List X) (k : ℕ) → k < length xs → slice_get (xs ++ more) k ≡ slice_get xs k
get_front [] more k h = absurd (omega arith)
get_front (x ∷ xs) more zero h = refl
get_front (x ∷ xs) more (suc k) h = get_front xs more k (omega arith)

get_last : {X : Type 0} (xs : List X) (x : X) (k : ℕ) → k ≡ length xs → slice_get (xs ++ x ∷ []) k ≡ Some x
get_last [] x zero e = refl
get_last [] x (suc k) e = absurd (omega arith)
get_last (y ∷ ys) x zero e = absurd (omega arith)
get_last (y ∷ ys) x (suc k) e = get_last ys x k (omega arith)

same_some : {X : Type 0} (o : Option X) (a b : X) → o ≡ Some a → o ≡ Some b → a ≡ b
same_some o a b h g = cc

paired_append : {X Y : Type 0} (P : X → Y → Type 0) (xs : List X) (ys : List Y) (x : X) (y : Y) → ArePaired P xs ys → P x y → ArePaired P (xs ++ x ∷ []) (ys ++ y ∷ [])
paired_append {X} {Y} P xs ys x y pairs one = record {
  many = omega (arith, length-append xs (x ∷ []), length-append ys (y ∷ []), pairs.many);
  each = λ i a b at there. go i a b at there (cases_lt i (length xs));
}
  where
    go : (i : ℕ) (a : X) (b : Y) → slice_get (xs ++ x ∷ []) i ≡ Some a → slice_get (ys ++ y ∷ []) i ≡ Some b → (i < length xs) ⊎ (length xs ≤ i) → P a b
    go i a b at there (inl before) = pairs.each i a b (sym (get_front xs (x ∷ []) i before) ∙ at) (sym (get_front ys (y ∷ []) i (omega (arith, pairs.many))) ∙ there)
    go i a b at there (inr after) =
        let inside = slice_get_within (xs ++ x ∷ []) i a at in
        let last : i ≡ length xs = omega (arith, length-append xs (x ∷ [])) in
        let first : x ≡ a = same_some (slice_get (xs ++ x ∷ []) i) x a (get_last xs x i last) at in
        let second : y ≡ b = same_some (slice_get (ys ++ y ∷ []) i) y b (get_last ys y i (last ∙ sym pairs.many)) there in
        let K : X → Type 0 = λ v. P v b in let L : Y → Type 0 = λ v. P x v in subst K first (subst L second one)

pub paired_push : {X Y Z : Type 0} (P : X → Y → Type 0) (f : Z → Y) (xs : List X) (zs more : List Z) (i : ℕ) (x : X) (z : Z) → ArePaired P (take i xs) (map f zs) →
    slice_get xs i ≡ Some x → more ≡ zs ++ z ∷ [] → P x (f z) → ArePaired P (take (i + 1) xs) (map f more)
paired_push {X} {Y} {Z} P f xs zs more i x z pairs at added one =
    let K : List X → Type 0 = λ l. ArePaired P l (map f more) in let L : List Y → Type 0 = λ l. ArePaired P (take i xs ++ x ∷ []) l in
    subst K (sym (take_get xs i x at)) (subst L (sym (ap (map f) added ∙ map-push zs)) (paired_append P (take i xs) (map f zs) x (f z) pairs one))
  where
    map-push : (l : List Z) → map f (l ++ z ∷ []) ≡ map f l ++ f z ∷ []
    map-push [] = refl
    map-push (w ∷ ws) = ap (λ l. f w ∷ l) (map-push ws)

pub paired_none : {X Y : Type 0} (P : X → Y → Type 0) (xs : List X) (ys : List Y) → ys ≡ [] → ArePaired P (take 0 xs) ys
paired_none P xs ys e = record { many = ap length e; each = λ i x y at there. absurd (nothing i at) }
  where
    nothing : {X : Type 0} {x : X} (i : ℕ) → slice_get {X = X} [] i ≡ Some x → ⊥
    nothing i h = cc

pub paired_all : {X Y : Type 0} (P : X → Y → Type 0) (xs : List X) (ys : List Y) (i : ℕ) → ArePaired P (take i xs) ys → length xs ≤ i → ArePaired P xs ys
paired_all {X} {Y} P xs ys i pairs all = let K : List X → Type 0 = λ l. ArePaired P l ys in subst K (take_all i xs all) pairs

-- a refusal after as many opened sources
pub first_refused : (files : Files) (rate : ℕ) (list : List SourceDecl) (opened : List OpenedSource) (i : ℕ) (d : SourceDecl) (why : FileRefusal) → IsOpened files rate (take i list) opened →
    slice_get list i ≡ Some d → source_head rate d.channels (files d.file) ≡ Err (why_of why) → IsFirstRefused files rate list i why
first_refused files rate list opened i d why is at shown = record {
  refused = refused (slice_get list i) at;
  first = λ j q before there. ok j q before there (slice_get_cases opened j).1;
}
  where
    inside : i < length list
    inside = slice_get_within list i d at

    refused : (o : Option SourceDecl) → o ≡ Some d → IsSomeAnd o (λ q. source_head rate q.channels (files q.file) ≡ Err (why_of why))
    refused o e = let K : Option SourceDecl → Type 0 = λ p. IsSomeAnd p (λ q. source_head rate q.channels (files q.file) ≡ Err (why_of why)) in subst K (sym e) shown

    taken : (n j : ℕ) (l : List SourceDecl) → j < n → slice_get (take n l) j ≡ slice_get l j
    taken zero j l h = absurd (omega arith)
    taken (suc n) j [] h = refl
    taken (suc n) zero (p ∷ ps) h = refl
    taken (suc n) (suc j) (p ∷ ps) h = taken n j ps (omega arith)

    is_ok : (r : Result Head SourceRefusal) (h : Head) → r ≡ Ok h → IsOk r
    is_ok r h e = let K : Result Head SourceRefusal → Type 0 = λ s. IsOk s in subst K (sym e) (search rules)

    ok : (j : ℕ) (q : SourceDecl) → j < i → slice_get list j ≡ Some q → ((o : OpenedSource) × (j < length opened) × (slice_get opened j ≡ Some o) × (get_or opened j o ≡ o)) ⊎ ((length opened ≤ j) × (slice_get opened j ≡ None)) →
        IsOk (source_head rate q.channels (files q.file))
    ok j q before there (inl w) = let as_opened = is.each j q w.0 (taken i j list before ∙ there) w.2 in is_ok (source_head rate q.channels (files q.file)) w.0.head as_opened.head
    ok j q before there (inr w) = absurd (omega (arith, inside, w.0, is.many, length-take-le i list (omega (arith, inside))))

pub names_first : (files : Files) (rate : ℕ) (list : List SourceDecl) (opened : List OpenedSource) (i : ℕ) (d : SourceDecl) (r : OpenRefusal) → IsOpened files rate (take i list) opened →
    slice_get list i ≡ Some d → IsRefusalOf files rate d i r → NamesFirst files rate list r
names_first files rate list opened i d (File source why) is at shown =
    let K : ℕ → Type 0 = λ j. IsFirstRefused files rate list j why in subst K (sym shown.0) (first_refused files rate list opened i d why is at shown.1)
names_first files rate list opened i d ReadFault is at shown = tt
names_first files rate list opened i d NoMemory is at shown = tt

-- the item that was read
pub item_at : {X : Type 0} (xs ys : List X) (i : ℕ) (x : X) → xs ≡ ys → i < length xs → x ≡ get_or xs i x → slice_get ys i ≡ Some x
item_at xs ys i x same h it = ap (λ l. slice_get l i) (sym same) ∙ slice_get_read xs (length xs) i x refl h it

pub all_push : {X : Type 0} (P : X → Type 0) (xs more : List X) (x : X) → All P xs → more ≡ xs ++ x ∷ [] → P x → All P more
all_push {X} P xs more x all added one = let K : List X → Type 0 = λ l. All P l in subst K (sym added) (All-push P xs x all one)
