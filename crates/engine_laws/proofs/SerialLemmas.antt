-- A run on one thread is plain: what is due isn't held, and where nothing is due each track is ready.
use Rattle.std.proofs.Common.{◌≡◌, inl, inr, ℕ, zero, suc, ◌+◌, ◌-◌, ◌<◌, ◌≤◌, List, [], ◌∷◌, length, map, le_antisymm, refl, sym, ap, subst, arith, ◌∙◌}
use Rattle.std.specs.Prelude.{◌⊎◌, Bool, true, false, ◌&&◌, ◌||◌, not, ◌==◌, max, nat_le, nat_lt, if◌then◌else◌, Some, None, slice_get, replicate}
use Rattle.std.specs.Option.{option_map_or}
use Rattle.std.specs.List.{list_all, range_with_len}
use Rattle.std.proofs.lemmas.Bool.{and_parts, eqb-true, eq-eqb, ltb-true, leb-true, true≢false}
use Rattle.session_model.specs.declared.edit.Edit.{Edit}
use Rattle.session_model.specs.declared.session.Session.{Session}
use Rattle.engine_model.specs.Edits.{generation, playlist_edition}
use Rattle.engine_model.specs.Items.{Kind, Piece, Settled, Blank, blocks, newest, has_mark}
use Rattle.engine_model.specs.Due.{Ack, Needs, due, due_by, greater, greatest, is_stale, needs, next_block, past}
use Rattle.engine_model.specs.Cycle.{is_held, is_in_force, force, has_piece, settled_number, waiting, first_state, state_of, play_of, notes_of, entry_of}
use Rattle.engine_model.specs.Editions.{Edition, edition}
use Rattle.engine_model.specs.Journal.{Play, Silent, Heard, Short, Take, Off, Note, State, Entry, rolled}
use Rattle.engine_model.specs.Fits.{records, next_take}
use Rattle.engine_model.specs.Plain.{plain_state, plain_take, plain_note, plain_entry}
use Rattle.engine_laws.specs.JournalInvariant.{no_takes}
use Rattle.engine_laws.specs.Kept.{Kept, is_from}
use Rattle.engine_laws.specs.Tracked.{Tracked, due_now, due_past}
use Rattle.engine_laws.specs.SerialLaws.{none_is_held, AreFew, IsReady}
use Rattle.engine_laws.proofs.DueLemmas.{due_after_is}
use Rattle.engine_laws.proofs.SendLemmas.{it_is}
use Rattle.engine_laws.proofs.MarkLemmas.{held_or_in_force}
use Rattle.engine_laws.proofs.PlainLemmas.{range_step}

-- ---- nothing is due

-- no mark is of a later edition
force_most : (session : Session) (edits : List Edit) (t k g s : ℕ) (xs : List Kind) → list_all (is_from session edits t k) xs ≡ true → force g s xs ≤ k
force_most session edits t k g s [] from = omega arith
force_most session edits t k g s (Piece u h r p ∷ xs) from = force_most session edits t k g s xs (and_parts (is_from session edits t k (Piece u h r p)) (list_all (is_from session edits t k) xs) from).1
force_most session edits t k g s (Settled j h r ∷ xs) from = let parts = and_parts (is_from session edits t k (Settled j h r)) (list_all (is_from session edits t k) xs) from in
    by (is_in_force h r g s) (leb-true j k (and_parts (nat_le h (generation edits k)) (nat_le j k) parts.0).1) (force_most session edits t k g s xs parts.1)
  where
    by : (b : Bool) → j ≤ k → force g s xs ≤ k → (if b then max j (force g s xs) else force g s xs) ≤ k
    by true low rest = grind (arith, low, rest)
    by false low rest = rest
force_most session edits t k g s (Blank ∷ xs) from = force_most session edits t k g s xs (and_parts (is_from session edits t k Blank) (list_all (is_from session edits t k) xs) from).1

-- a mark that isn't held is in force
force_least : (depth k g s : ℕ) (xs : List Kind) → none_is_held depth g s xs ≡ true → has_mark k xs ≡ true → k ≤ force g s xs
force_least depth k g s [] none has = absurd (true≢false (sym has))
force_least depth k g s (Piece u h r p ∷ xs) none has = force_least depth k g s xs (and_parts (not (is_held depth g s (Piece u h r p))) (none_is_held depth g s xs) none).1 has
force_least depth k g s (Settled j h r ∷ xs) none has = let parts = and_parts (not (is_held depth g s (Settled j h r))) (none_is_held depth g s xs) none in
    by (j == k) refl has (force_least depth k g s xs parts.1)
  where
    free : is_in_force h r g s ≡ true
    free = un_not (is_in_force h r g s) (ap not (sym (held_or_in_force depth g s j h r)) ∙ (and_parts (not (is_held depth g s (Settled j h r))) (none_is_held depth g s xs) none).0)
      where
        un_not : (b : Bool) → not (not b) ≡ true → b ≡ true
        un_not true e = refl
        un_not false e = absurd (true≢false (sym e))

    by : (b : Bool) → (j == k) ≡ b → b || has_mark k xs ≡ true → (has_mark k xs ≡ true → k ≤ force g s xs) → k ≤ (if is_in_force h r g s then max j (force g s xs) else force g s xs)
    by true e at rest = subst (λ b. k ≤ (if b then max j (force g s xs) else force g s xs)) (sym free) (grind (arith, eqb-true j k e))
    by false e at rest = subst (λ b. k ≤ (if b then max j (force g s xs) else force g s xs)) (sym free) (grind (arith, rest at))
force_least depth k g s (Blank ∷ xs) none has = force_least depth k g s xs (and_parts (not (is_held depth g s Blank)) (none_is_held depth g s xs) none).1 has

some_is_none : (x : Kind) → Some x ≡ None → ⊥
some_is_none x e = cc

past_none : (n : Needs) (far : ℕ) (a b : Bool) → nat_lt far (n.next + n.depth) ≡ a → nat_lt far n.cycles ≡ b → (if a && b then Some (Piece n.track n.generation far n.touched) else None) ≡ None →
    (n.next + n.depth ≤ far) ⊎ (n.cycles ≤ far)
past_none n far true true x y none = absurd (some_is_none (Piece n.track n.generation far n.touched) none)
past_none n far true false x y none = inr (grind (arith, y))
past_none n far false b x y none = inl (grind (arith, x))

now_none : (n : Needs) (m : Bool) (fresh far : ℕ) → due_now n m fresh far ≡ None → (fresh ≤ n.next) × (m ≡ true) × ((n.next + n.depth ≤ max far n.next) ⊎ (n.cycles ≤ max far n.next))
now_none n m fresh far none = by m (nat_lt n.next fresh) refl none
  where
    by : (m b : Bool) → nat_lt n.next fresh ≡ b → (if b then Some (Piece n.track n.generation (fresh - 1) n.touched) else (if m then due_past n (max far n.next) else Some (Settled n.edition n.generation n.next))) ≡ None →
        (fresh ≤ n.next) × (m ≡ true) × ((n.next + n.depth ≤ max far n.next) ⊎ (n.cycles ≤ max far n.next))
    by m true e is = absurd (some_is_none (Piece n.track n.generation (fresh - 1) n.touched) is)
    by false false e is = absurd (some_is_none (Settled n.edition n.generation n.next) is)
    by true false e is = (grind (arith, e), refl, past_none n (max far n.next) (nat_lt (max far n.next) (n.next + n.depth)) (nat_lt (max far n.next) n.cycles) refl refl is)

gone_far : (far next depth cycles : ℕ) → 0 < depth → next < cycles → (next + depth ≤ max far next) ⊎ (cycles ≤ max far next) → next < far
gone_far far next depth cycles deep more (inl low) = grind (arith, deep, low)
gone_far far next depth cycles deep more (inr low) = grind (arith, more, low)

pub nothing_due_is_ready : (session : Session) (edits : List Edit) (cycles t base fresh far : ℕ) (acks : List Ack) (sent : List Kind) → Kept session edits t (length edits) sent →
    Tracked (generation edits (length edits)) (playlist_edition session edits t (length edits)) base fresh far sent → base ≤ next_block acks (generation edits (length edits)) →
    0 < session.depth → next_block acks (generation edits (length edits)) < cycles → none_is_held session.depth (generation edits (length edits)) (next_block acks (generation edits (length edits))) sent ≡ true →
    due session edits cycles t (length edits) acks sent ≡ None → IsReady session edits t (generation edits (length edits)) (next_block acks (generation edits (length edits))) sent
nothing_due_is_ready session edits cycles t base fresh far acks sent kept tr low deep more none nothing = let k = length edits in let n = needs session edits cycles t k acks in
    let is = now_none n (has_mark k sent) fresh far (sym (due_after_is n base fresh far sent tr low) ∙ nothing) in
    let beyond = gone_far far n.next session.depth cycles deep more is.2 in
    let there = tr.whole n.next low beyond in
    record {
      there = there;
      fresh = tr.new n.next there is.0;
      settled = le_antisymm (force_most session edits t k n.generation n.next sent kept.from) (force_least session.depth k n.generation n.next sent none is.1);
    }

-- ---- the entry is plain

settled_all : (r g s : ℕ) (tracks : List (List Kind)) → ((t : ℕ) (xs : List Kind) → slice_get tracks t ≡ Some xs → force g s xs ≡ r) → settled_number r g s tracks ≡ r
settled_all r g s [] each = refl
settled_all r g s (y ∷ ys) each = grind (arith, each 0 y refl, settled_all r g s ys (λ t xs there. each (suc t) xs there))

none_wait : (g t : ℕ) (tracks : List (List Kind)) → ((i : ℕ) (xs : List Kind) → slice_get tracks i ≡ Some xs → has_piece g 0 xs ≡ true) → waiting g t tracks ≡ None
none_wait g t [] each = refl
none_wait g t (y ∷ ys) each = ap (λ b. if b then waiting g (suc t) ys else Some (t, length y)) (each 0 y refl) ∙ none_wait g (suc t) ys (λ i xs there. each (suc i) xs there)

state_plain : (rolls : Bool) (g s : ℕ) (tracks : List (List Kind)) → ((i : ℕ) (xs : List Kind) → slice_get tracks i ≡ Some xs → has_piece g s xs ≡ true) → state_of rolls g s tracks ≡ plain_state rolls g s
state_plain false g s tracks each = refl
state_plain true g zero tracks each = ap (first_state g) (none_wait g 0 tracks each)
state_plain true g (suc s) tracks each = refl

play_plain : (session : Session) (edits : List Edit) (rolls : Bool) (t g s : ℕ) (xs : List Kind) → IsReady session edits t g s xs →
    play_of (plain_state rolls g s) xs ≡ (if rolls then Heard (playlist_edition session edits t (length edits)) else Silent)
play_plain session edits false t g s xs ready = refl
play_plain session edits true t g s xs ready = ap (λ b. if b then Heard (newest g s xs) else Short (length xs)) ready.there ∙ ap Heard ready.fresh

take_plain : (rolls armed : Bool) (next : ℕ × ℕ) → plain_take (rolls && (false && armed)) next ≡ Off
take_plain true armed next = refl
take_plain false armed next = refl

same_note : (a b : Play) (c d : Take) → a ≡ b → c ≡ d → ◌≡◌ {A = Note} (record { play = a; take = c }) (record { play = b; take = d })
same_note a b c d h k = cc

same_notes : (a b : Note) (x y : List Note) → a ≡ b → x ≡ y → a ∷ x ≡ b ∷ y
same_notes a b x y h k = cc

notes_plain : (session : Session) (edits : List Edit) (now : Edition) (before : List Entry) (g s t : ℕ) (tracks : List (List Kind)) → now.transport.recording ≡ false →
    ((i : ℕ) (xs : List Kind) → slice_get tracks i ≡ Some xs → IsReady session edits (t + i) g s xs) →
    notes_of (plain_state now.transport.rolling g s) tracks (replicate (length tracks) Off) ≡ map (plain_note session edits now before) (range_with_len t (length tracks))
notes_plain session edits now before g s t [] still each = refl
notes_plain session edits now before g s t (xs ∷ tracks) still each =
    same_notes (record { play = play_of (plain_state now.transport.rolling g s) xs; take = Off }) (plain_note session edits now before t)
    (notes_of (plain_state now.transport.rolling g s) tracks (replicate (length tracks) Off)) (map (plain_note session edits now before) (range_with_len (suc t) (length tracks)))
    (same_note (play_of (plain_state now.transport.rolling g s) xs) (if now.transport.rolling then Heard (playlist_edition session edits t (length edits)) else Silent) Off
    (plain_take (now.transport.rolling && records now t) (next_take t before))
    (play_plain session edits now.transport.rolling t g s xs (subst (λ k. IsReady session edits k g s xs) {x = t + 0} {y = t} (omega arith) (each 0 xs refl)))
    (sym (ap (λ b. plain_take (now.transport.rolling && (b && armed)) (next_take t before)) still ∙ take_plain now.transport.rolling armed (next_take t before))))
    (notes_plain session edits now before g s (suc t) tracks still (λ i ys there. subst (λ k. IsReady session edits k g s ys) {x = t + suc i} {y = suc t + i} (omega arith) (each (suc i) ys there)))
    ∙ sym (ap (map (plain_note session edits now before)) (range_step t (length tracks)))
  where
    armed : Bool
    armed = option_map_or (λ k. k.armed) (slice_get now.session.tracks.items t) false

same_entry : (r a b : ℕ) (x y : State) (m n : List Note) → a ≡ b → x ≡ y → m ≡ n →
    ◌≡◌ {A = Entry} (record { edition = r; settled = a; state = x; notes = m }) (record { edition = r; settled = b; state = y; notes = n })
same_entry r a b x y m n h k l = cc

pub ready_entry_is_plain : (session : Session) (edits : List Edit) (before : List Entry) (tracks : List (List Kind)) → length tracks ≡ length session.tracks.items →
    (edition session edits (length edits)).transport.recording ≡ false →
    ((t : ℕ) (xs : List Kind) → slice_get tracks t ≡ Some xs → IsReady session edits t (generation edits (length edits)) (rolled (generation edits (length edits)) before) xs) →
    entry_of session edits before tracks (no_takes session) (length edits) ≡ plain_entry session edits before
ready_entry_is_plain session edits before tracks many still each =
    let r : ℕ = length edits in let now : Edition = edition session edits r in let g : ℕ = generation edits r in let s : ℕ = rolled g before in let rolls : Bool = now.transport.rolling in
    let state = state_plain rolls g s tracks (λ i xs there. (each i xs there).there) in
    same_entry r (settled_number r g s tracks) r (state_of rolls g s tracks) (plain_state rolls g s)
    (notes_of (state_of rolls g s tracks) tracks (no_takes session)) (map (plain_note session edits now before) (range_with_len 0 (length session.tracks.items)))
    (settled_all r g s tracks (λ t xs there. (each t xs there).settled)) state
    (ap (λ k. notes_of k tracks (no_takes session)) state
    ∙ ap (λ n. notes_of (plain_state rolls g s) tracks (replicate n Off)) (sym many)
    ∙ notes_plain session edits now before g s 0 tracks still (λ i xs there. subst (λ k. IsReady session edits k g s xs) {x = i} {y = 0 + i} (omega arith) (each i xs there))
    ∙ ap (λ n. map (plain_note session edits now before) (range_with_len 0 n)) many)

-- ---- few are sent

-- nothing is stale for a playlist that no edit has touched
none_stale : (g p next : ℕ) (xs : List Kind) (rs : List ℕ) → p ≡ 0 → greatest (is_stale g p next xs) rs ≡ None
none_stale g p next xs [] zero_is = refl
none_stale g p next xs (r ∷ rs) zero_is = ap (λ b. greater b r (greatest (is_stale g p next xs) rs)) (fresh (nat_le next r)) ∙ none_stale g p next xs rs zero_is
  where
    fresh : (b : Bool) → b && nat_lt (newest g r xs) p ≡ false
    fresh true = grind (arith, zero_is)
    fresh false = refl

past_low : (n : ℕ) (xs : List ℕ) → past 0 xs ≤ past n xs
past_low n [] = omega arith
past_low n (x ∷ xs) = grind (arith, past_low n xs)

few_by : (n : Needs) (before : List Kind) (m : Bool) (x : Kind) → has_mark n.edition before ≡ m → AreFew n.generation n.edition n.cycles before →
    due_by n None m (past n.next (blocks n.generation before)) ≡ Some x → AreFew n.generation n.edition n.cycles (x ∷ before)
few_by n before false x none few is = subst (λ k. AreFew n.generation n.edition n.cycles (k ∷ before)) (it_is (Settled n.edition n.generation n.next) x is) (record {
  each_once = subst (λ b. suc (length before) ≤ past 0 (blocks n.generation before) + (if b || has_mark n.edition before then 1 else 0)) (sym (eq-eqb n.edition n.edition refl))
      (let low = subst (λ b. length before ≤ past 0 (blocks n.generation before) + (if b then 1 else 0)) none few.each_once in omega (arith, low));
  within = few.within;
})
few_by n before true x some few is = by (past n.next (blocks n.generation before)) (nat_lt (past n.next (blocks n.generation before)) (n.next + n.depth)) (nat_lt (past n.next (blocks n.generation before)) n.cycles) refl
    (past_low n.next (blocks n.generation before)) is
  where
    none_is_some : None ≡ Some x → ⊥
    none_is_some e = cc

    piece : (far : ℕ) → past 0 (blocks n.generation before) ≤ far → far < n.cycles → AreFew n.generation n.edition n.cycles (Piece n.track n.generation far n.touched ∷ before)
    piece far low more = let top : blocks n.generation (Piece n.track n.generation far n.touched ∷ before) ≡ far ∷ blocks n.generation before = ap (λ b. if b then far ∷ blocks n.generation before else blocks n.generation before) (eq-eqb n.generation n.generation refl) in record {
      each_once = subst (λ l. suc (length before) ≤ past 0 l + (if has_mark n.edition before then 1 else 0)) (sym top) (grind (arith, few.each_once, low));
      within = subst (λ l. past 0 l ≤ n.cycles) (sym top) (grind (arith, low, more));
    }

    by : (far : ℕ) (a b : Bool) → nat_lt far n.cycles ≡ b → past 0 (blocks n.generation before) ≤ far → (if a && b then Some (Piece n.track n.generation far n.touched) else None) ≡ Some x → AreFew n.generation n.edition n.cycles (x ∷ before)
    by far true true e low at = subst (λ k. AreFew n.generation n.edition n.cycles (k ∷ before)) (it_is (Piece n.track n.generation far n.touched) x at) (piece far low (ltb-true far n.cycles e))
    by far true false e low at = absurd (none_is_some at)
    by far false b e low at = absurd (none_is_some at)

pub few_are_sent : (session : Session) (edits : List Edit) (cycles t k : ℕ) (acks : List Ack) (before : List Kind) (x : Kind) → playlist_edition session edits t k ≡ 0 →
    AreFew (generation edits k) k cycles before → due session edits cycles t k acks before ≡ Some x → AreFew (generation edits k) k cycles (x ∷ before)
few_are_sent session edits cycles t k acks before x untouched few is = let n = needs session edits cycles t k acks in
    few_by n before (has_mark k before) x refl few
    (sym (ap (λ o. due_by n o (has_mark k before) (past n.next (blocks n.generation before))) (none_stale n.generation n.touched n.next before (blocks n.generation before) untouched)) ∙ is)
