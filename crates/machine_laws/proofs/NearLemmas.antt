-- What a run on one thread sends of a track: no gap, and nothing that is held, so that the track is ready where nothing is due.
use Rattle.std.proofs.Common.{◌≡◌, inl, inr, ℕ, suc, ◌+◌, ◌<◌, ◌≤◌, List, [], ◌∷◌, refl, sym, ap, subst, arith, ◌∙◌, le_trans, le_antisymm}
use Rattle.std.specs.Prelude.{Bool, true, false, ◌&&◌, not, ◌==◌, nat_lt, nat_le, if◌then◌else◌, Option, Some, None}
use Rattle.std.specs.List.{list_all}
use Rattle.std.proofs.lemmas.Bool.{and_parts, and_from, leb-true, eqb-true, eq-eqb, or_cases, or_left, or_right, cases_lt, true≢false}
use Rattle.session_model.specs.declared.session.Session.{Session}
use Rattle.session_model.specs.declared.edit.Edit.{Edit}
use Rattle.engine_model.specs.Cycle.{is_held}
use Rattle.engine_model.specs.Due.{Ack, Needs, needs, due, due_by, greatest, is_stale, next_block, past}
use Rattle.engine_model.specs.Edits.{generation, playlist_edition, starts}
use Rattle.engine_model.specs.Items.{Kind, Piece, Settled, Blank, among, blocks, has_mark}
use Rattle.engine_model.specs.Journal.{Entry, rolled}
use Rattle.engine_laws.specs.Kept.{is_from}
use Rattle.engine_laws.specs.SerialLaws.{none_is_held}
use Rattle.engine_laws.proofs.HeldLemmas.{due_is_not_held, none_is_held_later}
use Rattle.engine_laws.proofs.ListLemmas.{Found, found}
use Rattle.engine_laws.proofs.NumberLemmas.{count_rises}
use Rattle.engine_laws.proofs.SendLemmas.{it_is, it_is_if}

-- from the next block on, each block below one that was sent was sent
abbrev pub Gapless : ℕ → ℕ → List Kind → Type 0
Gapless g next sent = (s r : ℕ) → next ≤ s → s ≤ r → among r (blocks g sent) ≡ true → among s (blocks g sent) ≡ true

-- What was sent of a track in a run on one thread, where block `next` of generation g is next.
pub record IsNear (depth g next : ℕ) (sent : List Kind) : Type 0 where
  pub gapless : Gapless g next sent
  pub free : none_is_held depth g next sent ≡ true

-- ---- while entries are made and editions entered

none_of_later : (session : Session) (edits : List Edit) (t k g r : ℕ) (xs : List Kind) → generation edits k < g → list_all (is_from session edits t k) xs ≡ true → among r (blocks g xs) ≡ false
none_of_later session edits t k g r [] lt h = refl
none_of_later session edits t k g r (Piece u h s p ∷ xs) lt h' = let parts =
    and_parts (nat_le h (generation edits k) && nat_le p (playlist_edition session edits t k)) (list_all (is_from session edits t k) xs) h' in
    by (h == g) refl (leb-true h (generation edits k) (and_parts (nat_le h (generation edits k)) (nat_le p (playlist_edition session edits t k)) parts.0).0)
    (none_of_later session edits t k g r xs lt parts.1)
  where
    by : (b : Bool) → (h == g) ≡ b → h ≤ generation edits k → among r (blocks g xs) ≡ false → among r (if b then s ∷ blocks g xs else blocks g xs) ≡ false
    by true e le rest = let same = eqb-true h g e in absurd (omega (arith, same, le, lt))
    by false e le rest = rest
none_of_later session edits t k g r (Settled j h s ∷ xs) lt h' =
    none_of_later session edits t k g r xs lt (and_parts (nat_le h (generation edits k) && nat_le j k) (list_all (is_from session edits t k) xs) h').1
none_of_later session edits t k g r (Blank ∷ xs) lt h' = none_of_later session edits t k g r xs lt (and_parts true (list_all (is_from session edits t k) xs) h').1

pub near_later : (depth g s r : ℕ) (sent : List Kind) → s ≤ r → IsNear depth g s sent → IsNear depth g r sent
near_later depth g s r sent le n = record {
  gapless = λ a b low. n.gapless a b (le_trans le low);
  free = none_is_held_later depth g s g r sent (inr (refl, le)) n.free;
}

pub near_entered : (session : Session) (edits : List Edit) (depth t j k : ℕ) (entries : List Entry) (sent : List Kind) → j ≤ k → list_all (is_from session edits t j) sent ≡ true →
    IsNear depth (generation edits j) (rolled (generation edits j) entries) sent → IsNear depth (generation edits k) (rolled (generation edits k) entries) sent
near_entered session edits depth t j k entries sent le from n = elim (cases_lt (generation edits j) (generation edits k)) [
  | inl lt ↦ record {
    gapless = λ s r low high there. absurd (true≢false (sym there ∙ none_of_later session edits t j (generation edits k) r sent lt from));
    free = none_is_held_later depth (generation edits j) (rolled (generation edits j) entries) (generation edits k) (rolled (generation edits k) entries) sent (inl lt) n.free;
  }
  | inr ge ↦ subst (λ g. IsNear depth g (rolled g entries) sent) (le_antisymm (count_rises starts edits j k le) ge) n
]

-- ---- while the butler sends what is due

-- below one past all there is one at or above
pub some_above : (next s : ℕ) (xs : List ℕ) → next ≤ s → s < past next xs → (r : ℕ) × (s ≤ r) × (among r xs ≡ true)
some_above next s [] low high = absurd (omega (arith, low, high))
some_above next s (x ∷ xs) low high = elim (cases_lt s (suc x)) [
  | inl le ↦ (x, omega (arith, le), or_left (x == x) (among x xs) (eq-eqb x x refl))
  | inr gt ↦ let rest = some_above next s xs low (omega (arith, gt, high)) in (rest.0, rest.1, or_right (x == rest.0) (among rest.0 xs) rest.2)
]

piece_first : (t g s p : ℕ) (xs : List Kind) → blocks g (Piece t g s p ∷ xs) ≡ s ∷ blocks g xs
piece_first t g s p xs = ap (λ b. if b then s ∷ blocks g xs else blocks g xs) (eq-eqb g g refl)

gapless_with : (g next x : ℕ) (bs : List ℕ) → ((s : ℕ) → next ≤ s → s < x → among s bs ≡ true) → ((s r : ℕ) → next ≤ s → s ≤ r → among r bs ≡ true → among s bs ≡ true) →
    (s r : ℕ) → next ≤ s → s ≤ r → among r (x ∷ bs) ≡ true → among s (x ∷ bs) ≡ true
gapless_with g next x bs new old s r low le there = elim (or_cases (x == r) (among r bs) there) [
  | inl here ↦ elim (cases_lt s x) [
    | inl lt ↦ or_right (x == s) (among s bs) (new s low lt)
    | inr ge ↦ or_left (x == s) (among s bs) (eq-eqb x s (same (eqb-true x r here) ge))
  ]
  | inr later ↦ or_right (x == s) (among s bs) (old s r low le later)
]
  where
    same : x ≡ r → x ≤ s → x ≡ s
    same e ge = omega (arith, e, ge, le)

due_by_gapless : (n : Needs) (before : List Kind) (o : Option ℕ) (m : Bool) (x : Kind) → Gapless n.generation n.next before →
    Found (is_stale n.generation n.touched n.next before) (blocks n.generation before) o → due_by n o m (past n.next (blocks n.generation before)) ≡ Some x → Gapless n.generation n.next (x ∷ before)
due_by_gapless n before (Some s) m x old f is = subst (λ k. Gapless n.generation n.next (k ∷ before)) (it_is (Piece n.track n.generation s n.touched) x is)
    (subst (λ l. (a b : ℕ) → n.next ≤ a → a ≤ b → among b l ≡ true → among a l ≡ true) (sym (piece_first n.track n.generation s n.touched before))
    (gapless_with n.generation n.next s (blocks n.generation before) (λ a low lt. old a s low (less a lt) f.1) old))
  where
    less : (a : ℕ) → a < s → a ≤ s
    less a lt = omega (arith, lt)
due_by_gapless n before None false x old f is = subst (λ k. Gapless n.generation n.next (k ∷ before)) (it_is (Settled n.edition n.generation n.next) x is) old
due_by_gapless n before None true x old f is = subst (λ k. Gapless n.generation n.next (k ∷ before))
    (it_is_if (nat_lt far (n.next + n.depth) && nat_lt far n.cycles) (Piece n.track n.generation far n.touched) x is)
    (subst (λ l. (a b : ℕ) → n.next ≤ a → a ≤ b → among b l ≡ true → among a l ≡ true) (sym (piece_first n.track n.generation far n.touched before))
    (gapless_with n.generation n.next far (blocks n.generation before) (λ a low lt. let up = some_above n.next a (blocks n.generation before) low lt in old a up.0 low up.1 up.2) old))
  where
    far : ℕ
    far = past n.next (blocks n.generation before)

pub near_sent : (session : Session) (edits : List Edit) (cycles t k : ℕ) (acks : List Ack) (before : List Kind) (x : Kind) → 0 < session.depth →
    IsNear session.depth (generation edits k) (next_block acks (generation edits k)) before → due session edits cycles t k acks before ≡ Some x →
    IsNear session.depth (generation edits k) (next_block acks (generation edits k)) (x ∷ before)
near_sent session edits cycles t k acks before x deep near is = let n = needs session edits cycles t k acks in record {
  gapless = due_by_gapless n before (greatest (is_stale n.generation n.touched n.next before) (blocks n.generation before)) (has_mark n.edition before) x near.gapless
      (found (is_stale n.generation n.touched n.next before) (blocks n.generation before)) is;
  free = and_from (not (is_held session.depth n.generation n.next x)) (none_is_held session.depth n.generation n.next before)
      (ap not (due_is_not_held session edits cycles t k acks before x deep near.free is)) near.free;
}
