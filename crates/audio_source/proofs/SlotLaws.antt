-- What slots become as lines are shown and read.
use Rattle.std.proofs.Common.{◌≡◌, ℕ, zero, suc, ◌+◌, ◌-◌, ◌≤◌, ◌<◌, ◌⊎◌, inl, inr, Bool, true, false, cond, ◌&&◌, nat_eq, refl, ap, arith, ◌∙◌, sym, subst, List, [], ◌∷◌, ◌++◌, length, take, get_or, Option, Some, None, IfSome}
use Rattle.std.specs.Prelude.{◌≢◌, All, Contains, slice_get}
use Rattle.std.specs.List.{IsDistinct, AllByRecursion}
use Rattle.std.specs.Map.{keys_of, lookup, lookup_entry, remove_entry, set_value}
use Rattle.std.specs.Option.{option_map_or, option_map}
use Rattle.std.proofs.lemmas.Bool.{eqb-true, eqb-false}
use Rattle.std.proofs.lemmas.Bool.Decides.{nat_tests}
use Rattle.std.proofs.lemmas.List.{take_more, take_all, length-take-le}
use Rattle.std.proofs.lemmas.List.Elements.{All-nil, All-from_recursion, All-cons, All-head, All-tail, All-weaker, All-contains, All-contains_itself, All-take}
use Rattle.std.proofs.lemmas.Map.Keys.{IsDistinct-head, IsDistinct-tail}
use Rattle.std.proofs.lemmas.Option.{slice_get_cases}
use Rattle.lru.specs.LruCache.{LruCache, lru_cache, promoted, put_entries}
use Rattle.lru.proofs.CallerLemmas.{Contains-promoted, Contains-lookup_entry}
use Rattle.audio_source.specs.declared.line.LineName.{LineName}
use Rattle.audio_source.specs.Lines.{same_line}
use Rattle.audio_source.specs.Slots.{used, AreSlots, IsLast}

abbrev Slots : Type 0
Slots = List (ℕ × Option LineName)

same_number : (k : ℕ) → nat_eq k k ≡ true
same_number k = grind (arith, nat_tests)

-- ---- a slot that is new

pub none_there : (es : Slots) (n : ℕ) → All (λ e. e.0 < n) es → lookup_entry (nat_eq n) es ≡ None
none_there [] n low = refl
none_there (e ∷ es) n low =
    let here : e.0 < n = All-head (λ x. x.0 < n) e es low in
    let other : nat_eq n e.0 ≡ false = grind (arith, nat_tests) in
    rw other (none_there es n (All-tail (λ x. x.0 < n) e es low))

-- ---- the slot of a line that is held

differs : (j k : ℕ) (v : Option LineName) (es : Slots) → AllByRecursion (λ y. nat_eq j y ≡ false) (keys_of es) → lookup_entry (nat_eq k) es ≡ Some (k, v) → nat_eq j k ≡ false
differs j k v [] h e = absurd (nothing e)
  where
    nothing : ◌≡◌ {A = Option (ℕ × Option LineName)} None (Some (k, v)) → ⊥
    nothing n = cc
differs j k v (e ∷ es) h found = go (differs j k v es h.1) (nat_eq k e.0) refl found
  where
    go : (lookup_entry (nat_eq k) es ≡ Some (k, v) → nat_eq j k ≡ false) → (b : Bool) → nat_eq k e.0 ≡ b → cond b (Some e) (lookup_entry (nat_eq k) es) ≡ Some (k, v) → nat_eq j k ≡ false
    go later true t f = let same : k ≡ e.0 = eqb-true k e.0 t in subst (λ n. nat_eq j n ≡ false) (sym same) h.0
    go later false t f = later f

-- What is found of a line that is held, by its slot and by its name.
pub record IsFoundAt (es : Slots) (name : LineName) (k : ℕ) : Type 0 where
  pub held : LineName
  pub entry : lookup_entry (nat_eq k) es ≡ Some (k, Some held)
  pub named : lookup_entry (same_line name) (used es) ≡ Some (held, k)
  pub rest : used (remove_entry (nat_eq k) es) ≡ remove_entry (same_line name) (used es)

pub found_at : (es : Slots) (name : LineName) (k : ℕ) → IsDistinct nat_eq (keys_of es) → lookup (same_line name) (used es) ≡ Some k → IsFoundAt es name k
found_at [] name k apart found = absurd (nothing found)
  where
    nothing : ◌≡◌ {A = Option ℕ} None (Some k) → ⊥
    nothing n = cc
found_at ((j, None) ∷ es) name k apart found = absurd (nothing found)
  where
    nothing : ◌≡◌ {A = Option ℕ} None (Some k) → ⊥
    nothing n = cc
found_at ((j, Some m) ∷ es) name k apart found = go (found_at es name k (IsDistinct-tail nat_eq j (keys_of es) apart)) (same_line name m) refl found
  where
    go : (lookup (same_line name) (used es) ≡ Some k → IsFoundAt es name k) → (b : Bool) → same_line name m ≡ b → cond b (Some j) (lookup (same_line name) (used es)) ≡ Some k → IsFoundAt ((j, Some m) ∷ es) name k
    go later true t f = let same : j ≡ k = cc in subst (λ n. IsFoundAt ((j, Some m) ∷ es) name n) same (record {
      held = m;
      entry = rw (same_number j) refl;
      named = rw t refl;
      rest = rw (same_number j, t) refl;
    })
    go later false t f = let on = later f in
        let apart_here : nat_eq j k ≡ false = differs j k (Some on.held) es (IsDistinct-head nat_eq j (keys_of es) apart) on.entry in
        let other : nat_eq k j ≡ false = grind (arith, nat_tests) in
        record {
          held = on.held;
          entry = rw other on.entry;
          named = rw t on.named;
          rest = rw (other, t) (ap (λ us. (m, j) ∷ us) on.rest);
        }

pub used_promoted : (es : Slots) (name : LineName) (k : ℕ) → IsFoundAt es name k → used (promoted (nat_eq k) es) ≡ promoted (same_line name) (used es)
used_promoted es name k is = rw (is.entry, is.named) (ap (λ us. (is.held, k) ∷ us) is.rest)

pub length_removed : {K V : Type 0} (test : K → Bool) (es : List (K × V)) (e : K × V) → lookup_entry test es ≡ Some e → length (e ∷ remove_entry test es) ≡ length es
length_removed {K} {V} test [] e found = absurd (nothing found)
  where
    nothing : ◌≡◌ {A = Option (K × V)} None (Some e) → ⊥
    nothing n = cc
length_removed {K} {V} test (f ∷ es) e found = go (length_removed test es e) (test f.0) refl found
  where
    go : (lookup_entry test es ≡ Some e → length (e ∷ remove_entry test es) ≡ length es) → (b : Bool) → test f.0 ≡ b → cond b (Some f) (lookup_entry test es) ≡ Some e → length (e ∷ cond b es (f ∷ remove_entry test es)) ≡ length (f ∷ es)
    go later true t h = refl
    go later false t h = ap (λ n. suc n) (later h)

pub promoted_slots : (es : Slots) (k : ℕ) (e : ℕ × Option LineName) → lookup_entry (nat_eq k) es ≡ Some e → AreSlots es → AreSlots (promoted (nat_eq k) es)
promoted_slots es k e found are = record {
  many = ap (λ o. length (option_map_or (λ x. x ∷ remove_entry (nat_eq k) es) o es)) found ∙ length_removed (nat_eq k) es e found ∙ are.many;
  low = All-weaker (Contains (promoted (nat_eq k) es)) (λ x. x.0 < 64) (λ x there. All-contains (λ y. y.0 < 64) es x are.low (Contains-promoted (nat_eq k) es x there))
      (promoted (nat_eq k) es) (All-contains_itself (promoted (nat_eq k) es));
}

pub slot_below : (es : Slots) (name : LineName) (k : ℕ) → IsFoundAt es name k → AreSlots es → k < 64
slot_below es name k is are = All-contains (λ e. e.0 < 64) es (k, Some is.held) are.low (Contains-lookup_entry (nat_eq k) es (k, Some is.held) is.entry).0

-- ---- the last slot

-- the slots before the last, and that one
pub record EndsIn (es : Slots) (k : ℕ) : Type 0 where
  pub held : Option LineName
  pub is : es ≡ take 63 es ++ (k, held) ∷ []

pub ends_in : (es : Slots) (k : ℕ) → AreSlots es → IsLast es k → EndsIn es k
ends_in es k are last = go (slice_get_cases es 63).1
  where
    at : IfSome (slice_get es 63) (λ e. e.0 ≡ k)
    at = subst (λ n. IfSome (slice_get es (n - 1)) (λ e. e.0 ≡ k)) are.many last.last

    go : ((e : ℕ × Option LineName) × (63 < length es) × (slice_get es 63 ≡ Some e) × (get_or es 63 e ≡ e)) ⊎ ((length es ≤ 63) × (slice_get es 63 ≡ None)) → EndsIn es k
    go (inl w) = let e = w.0 in let same : e.0 ≡ k = subst (λ x. IfSome x (λ y. y.0 ≡ k)) w.2 at in record {
      held = e.1;
      is = sym (take_all 64 es (omega (arith, are.many))) ∙ take_more es 63 e w.1 ∙ ap (λ x. take 63 es ++ x ∷ []) w.3 ∙ ap (λ n. take 63 es ++ (n, e.1) ∷ []) same;
    }
    go (inr w) = absurd (omega (arith, are.many, w.0))

-- the last of distinct slots is found there
module _ (k : ℕ) (v : Option LineName) where
  last_found : (es : Slots) → IsDistinct nat_eq (keys_of (es ++ (k, v) ∷ [])) → lookup_entry (nat_eq k) (es ++ (k, v) ∷ []) ≡ Some (k, v)
  last_found [] apart = rw (same_number k) refl
  last_found (e ∷ es) apart =
      let found = last_found es (IsDistinct-tail nat_eq e.0 (keys_of (es ++ (k, v) ∷ [])) apart) in
      let other : nat_eq e.0 k ≡ false = differs e.0 k v (es ++ (k, v) ∷ []) (IsDistinct-head nat_eq e.0 (keys_of (es ++ (k, v) ∷ [])) apart) found in
      let turned : nat_eq k e.0 ≡ false = grind (arith, nat_tests) in
      rw turned found

  last_removed : (es : Slots) → IsDistinct nat_eq (keys_of (es ++ (k, v) ∷ [])) → remove_entry (nat_eq k) (es ++ (k, v) ∷ []) ≡ es
  last_removed [] apart = rw (same_number k) refl
  last_removed (e ∷ es) apart =
      let inner = IsDistinct-tail nat_eq e.0 (keys_of (es ++ (k, v) ∷ [])) apart in
      let other : nat_eq e.0 k ≡ false = differs e.0 k v (es ++ (k, v) ∷ []) (IsDistinct-head nat_eq e.0 (keys_of (es ++ (k, v) ∷ [])) apart) (last_found es inner) in
      let turned : nat_eq k e.0 ≡ false = grind (arith, nat_tests) in
      rw turned (ap (λ l. e ∷ l) (last_removed es inner))

  -- and no other slot is that one
  last_alone : (es : Slots) → IsDistinct nat_eq (keys_of (es ++ (k, v) ∷ [])) → AllByRecursion (λ u. u.1 ≢ k) (used es)
  last_alone [] apart = tt
  last_alone ((j, None) ∷ es) apart = tt
  last_alone ((j, Some m) ∷ es) apart =
      let inner = IsDistinct-tail nat_eq j (keys_of (es ++ (k, v) ∷ [])) apart in
      let other : nat_eq j k ≡ false = differs j k v (es ++ (k, v) ∷ []) (IsDistinct-head nat_eq j (keys_of (es ++ (k, v) ∷ [])) apart) (last_found es inner) in
      (eqb-false j k other, last_alone es inner)

  last_promoted : (es : Slots) (w : Option LineName) → IsDistinct nat_eq (keys_of (es ++ (k, v) ∷ [])) → set_value (nat_eq k) (promoted (nat_eq k) (es ++ (k, v) ∷ [])) w ≡ (k, w) ∷ es
  last_promoted es w apart = rw (last_found es apart) (rw (same_number k) (ap (λ l. (k, w) ∷ l) (last_removed es apart)))

pub used_front : (n : ℕ) (es : Slots) → used (take n es) ≡ take n (used es)
used_front zero es = refl
used_front (suc n) [] = refl
used_front (suc n) ((j, None) ∷ es) = refl
used_front (suc n) ((j, Some m) ∷ es) = ap (λ l. (m, j) ∷ l) (used_front n es)

lookup_found : (es : Slots) (e : ℕ × Option LineName) → lookup_entry (nat_eq e.0) es ≡ Some e → lookup (nat_eq e.0) es ≡ Some e.1
lookup_found es e found = lookup_by (nat_eq e.0) es ∙ ap (option_map (λ x. x.1)) found
  where
    lookup_by : (test : ℕ → Bool) (es : Slots) → lookup test es ≡ option_map (λ x. x.1) (lookup_entry test es)
    lookup_by test [] = refl
    lookup_by test (e ∷ es) = go (lookup_by test es) (test e.0)
      where
        go : lookup test es ≡ option_map (λ x. x.1) (lookup_entry test es) → (b : Bool) → cond b (Some e.1) (lookup test es) ≡ option_map (λ x. x.1) (cond b (Some e) (lookup_entry test es))
        go later true = refl
        go later false = later

-- What it is to give the last slot to a line.
module _ (es : Slots) (k : ℕ) (name : LineName) (are : AreSlots es) (last : IsLast es k) where
  given : set_value (nat_eq k) (promoted (nat_eq k) es) (Some name) ≡ (k, Some name) ∷ take 63 es
  given = let ends = ends_in es k are last in
      ap (λ l. set_value (nat_eq k) (promoted (nat_eq k) l) (Some name)) ends.is ∙ last_promoted k ends.held (take 63 es) (Some name) (subst (λ l. IsDistinct nat_eq (keys_of l)) ends.is last.apart)

  pub given_used : used (set_value (nat_eq k) (promoted (nat_eq k) es) (Some name)) ≡ (name, k) ∷ take 63 (used es)
  given_used = ap used given ∙ ap (λ l. (name, k) ∷ l) (used_front 63 es)

  pub given_slots : AreSlots (set_value (nat_eq k) (promoted (nat_eq k) es) (Some name))
  given_slots = subst AreSlots (sym given) (record {
    many = omega (arith, length-take-le 63 es (omega (arith, are.many)));
    low = All-cons (λ e. e.0 < 64) (k, Some name) (take 63 es) last.below (All-take (λ e. e.0 < 64) 63 es are.low);
  })

  pub given_alone : All (λ u. u.1 ≢ k) (take 63 (used es))
  given_alone = let ends = ends_in es k are last in
      subst (All (λ u. u.1 ≢ k)) (used_front 63 es) (All-from_recursion (λ u. u.1 ≢ k) (used (take 63 es)) (last_alone k ends.held (take 63 es) (subst (λ l. IsDistinct nat_eq (keys_of l)) ends.is last.apart)))

  -- it is found
  pub given_found : lookup (nat_eq k) es ≡ None → ⊥
  given_found none = let ends = ends_in es k are last in
      found_ends (take 63 es) ends.held (subst (λ l. IsDistinct nat_eq (keys_of l)) ends.is last.apart) (sym (ap (lookup (nat_eq k)) ends.is) ∙ none)
    where
      found_ends : (xs : Slots) (v : Option LineName) → IsDistinct nat_eq (keys_of (xs ++ (k, v) ∷ [])) → lookup (nat_eq k) (xs ++ (k, v) ∷ []) ≡ None → ⊥
      found_ends xs v apart none = let found = lookup_found (xs ++ (k, v) ∷ []) (k, v) (last_found k v xs apart) in cc

-- ---- slots that are looked through

pub same_names : (a b : LineName) → a.source ≡ b.source → a.line ≡ b.line → same_line a b ≡ true
same_names a b s l = let one : nat_eq a.source b.source ≡ true = grind (arith, nat_tests) in let two : nat_eq a.line b.line ≡ true = grind (arith, nat_tests) in rw (one, two) refl

pub found_first : (es rest : Slots) (k : ℕ) (held : Option LineName) (m name : LineName) → held ≡ Some m → es ≡ (k, held) ∷ rest → name.source ≡ m.source → name.line ≡ m.line →
    lookup (same_line name) (used es) ≡ Some k
found_first es rest k held m name h e s l = ap (λ x. lookup (same_line name) (used x)) (e ∙ ap (λ o. (k, o) ∷ rest) h) ∙ (rw (same_names name m s l) refl)

pub found_later : (es rest : Slots) (k : ℕ) (held : Option LineName) (m name : LineName) → held ≡ Some m → es ≡ (k, held) ∷ rest → same_line name m ≡ false →
    lookup (same_line name) (used es) ≡ lookup (same_line name) (used rest)
found_later es rest k held m name h e other = ap (λ x. lookup (same_line name) (used x)) (e ∙ ap (λ o. (k, o) ∷ rest) h) ∙ (rw other refl)

pub other_source : (a b : LineName) → (a.source ≡ b.source → ⊥) → same_line a b ≡ false
other_source a b s = let one : nat_eq a.source b.source ≡ false = grind (arith, nat_tests) in rw one refl

pub other_line : (a b : LineName) → (a.line ≡ b.line → ⊥) → same_line a b ≡ false
other_line a b s = let one : nat_eq a.line b.line ≡ false = grind (arith, nat_tests) in rw one (no (nat_eq a.source b.source))
  where
    no : (x : Bool) → (x && false) ≡ false
    no true = refl
    no false = refl

pub found_none : (es rest : Slots) (k : ℕ) (held : Option LineName) (name : LineName) → held ≡ None → es ≡ (k, held) ∷ rest → lookup (same_line name) (used es) ≡ None
found_none es rest k held name h e = ap (λ x. lookup (same_line name) (used x)) (e ∙ ap (λ o. (k, o) ∷ rest) h)

pub put_slot : (c : LruCache ℕ (Option LineName)) (n : ℕ) → c.cap ≡ 64 → length c.entries ≡ n → n < 64 → All (λ e. e.0 < n) c.entries → put_entries nat_eq c n None ≡ (n, None) ∷ c.entries
put_slot c n cap many below low = ap (λ o. option_map_or (λ e. (e.0, None) ∷ remove_entry (nat_eq n) c.entries) o ((n, None) ∷ take (c.cap - 1) c.entries)) (none_there c.entries n low)
    ∙ ap (λ l. (n, None) ∷ l) (ap (λ m. take (m - 1) c.entries) cap ∙ take_all 63 c.entries (omega (arith, many)))

-- What is kept while slots are made.
pub record AreMade (c : LruCache ℕ (Option LineName)) (n : ℕ) : Type 0 where
  pub cap : c.cap ≡ 64
  pub many : length c.entries ≡ n
  pub low : All (λ e. e.0 < n) c.entries
  pub empty : used c.entries ≡ []

pub made_more : (c d : LruCache ℕ (Option LineName)) (n : ℕ) → AreMade c n → n < 64 → d ≡ lru_cache (put_entries nat_eq c n None) c.cap → AreMade d (n + 1)
made_more c d n was below e = subst (λ x. AreMade x (n + 1)) (sym (e ∙ ap (λ l. lru_cache l c.cap) (put_slot c n was.cap was.many below was.low))) (record {
  cap = was.cap;
  many = omega (arith, was.many);
  low = All-cons (λ x. x.0 < n + 1) (n, None) c.entries (omega arith) (All-weaker (λ x. x.0 < n) (λ x. x.0 < n + 1) (λ x l. omega (arith, l)) c.entries was.low);
  empty = refl;
})

pub made_slots : (c : LruCache ℕ (Option LineName)) (n : ℕ) → AreMade c n → n ≤ 64 → 64 ≤ n → AreSlots c.entries
made_slots c n was most all = record {
  many = omega (arith, was.many);
  low = All-weaker (λ x. x.0 < n) (λ x. x.0 < 64) (λ x l. omega (arith, l, most)) c.entries was.low;
}

pub made_none : (c : LruCache ℕ (Option LineName)) (n : ℕ) → c ≡ lru_cache [] n → n ≡ 64 → AreMade c 0
made_none c n e many = subst (λ x. AreMade x 0) (sym e) (record { cap = many; many = refl; low = All-nil (λ x. x.0 < 0); empty = refl })

pub few_used : (es : Slots) → length (used es) ≤ length es
few_used [] = omega arith
few_used ((j, None) ∷ es) = omega arith
few_used ((j, Some m) ∷ es) = let later = few_used es in omega (arith, later)
