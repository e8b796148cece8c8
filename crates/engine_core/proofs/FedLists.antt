-- What the items and acknowledgements of a run without letters keep, one after another, and the entry that they make.
use Rattle.std.proofs.Common.{◌≡◌, inl, inr, ℕ, zero, suc, ◌+◌, ◌<◌, ◌≤◌, List, [], ◌∷◌, ◌++◌, length, refl, sym, ap, subst, arith, ◌∙◌, append_assoc}
use Rattle.std.specs.Prelude.{Bool, true, false, ◌&&◌, not, ◌==◌, max, if◌then◌else◌, map, reverse, slice_get, sum_by, Some}
use Rattle.std.specs.List.{list_all, range_with_len}
use Rattle.std.proofs.lemmas.Bool.{and_from, and_parts, not_from_false}
use Rattle.std.proofs.lemmas.List.{reverse-append}
use Rattle.std.proofs.lemmas.List.Folds.{list_all-append}
use Rattle.std.proofs.lemmas.List.Sums.{sum_by-cons}
use Rattle.std.proofs.lemmas.Option.{none-some, same_Some}
use Rattle.session_model.specs.declared.session.Session.{Session}
use Rattle.session_model.specs.declared.edit.Edit.{Edit}
use Rattle.engine_model.specs.Cycle.{entry_of, is_held, notes_of, play_of, state_of}
use Rattle.engine_model.specs.Due.{Ack, next_block}
use Rattle.engine_model.specs.Editions.{Edition, edition}
use Rattle.engine_model.specs.Edits.{generation}
use Rattle.engine_model.specs.Fits.{next_take, records}
use Rattle.engine_model.specs.Items.{Kind}
use Rattle.engine_model.specs.Journal.{Entry, Note, State, Take, rolled}
use Rattle.engine_model.specs.Order.{is_ordered_newest, may_follow}
use Rattle.engine_model.specs.Plain.{plain_entry, plain_take}
use Rattle.engine_laws.specs.Kept.{Kept, is_from}
use Rattle.engine_laws.specs.SerialLaws.{IsReady, none_is_held}
use Rattle.engine_laws.proofs.HeldLemmas.{due_is_not_held}
use Rattle.engine_laws.proofs.PlainLemmas.{range_step}
use Rattle.machine_laws.specs.Stands.{each_once}
use Rattle.machine_laws.proofs.OnceLemmas.{sending_once}
use Rattle.machine_laws.proofs.PlainEntryLemmas.{PlainTakes, ready_entry_with_takes}
use Rattle.butler.specs.Sends.{AreDue}
use Rattle.process_cycle.specs.Told.{AreTold}
use Rattle.engine_core.specs.Fed.{PlaysAs, plays_in}

-- ---- what is sent

turned_one : (x : Kind) (xs before : List Kind) → reverse (x ∷ xs) ++ before ≡ reverse xs ++ x ∷ before
turned_one x xs before = ap (λ l. l ++ before) (reverse-append (x ∷ []) xs) ∙ append_assoc (reverse xs) (x ∷ []) before

-- nothing that is due is held
pub sent_free : (s : Session) (edits : List Edit) (cycles t : ℕ) (acks : List Ack) (before items : List Kind) → 0 < s.depth → AreDue s edits cycles t acks before items →
    none_is_held s.depth (generation edits (length edits)) (next_block acks (generation edits (length edits))) before ≡ true →
    none_is_held s.depth (generation edits (length edits)) (next_block acks (generation edits (length edits))) (reverse items ++ before) ≡ true
sent_free s edits cycles t acks before [] deep are free = free
sent_free s edits cycles t acks before (x ∷ items) deep are free = let g = generation edits (length edits) in let n = next_block acks g in
    subst (λ l. none_is_held s.depth g n l ≡ true) (sym (turned_one x items before)) (sent_free s edits cycles t acks (x ∷ before) items deep are.1
    (and_from (not (is_held s.depth g n x)) (none_is_held s.depth g n before) (not_from_false (is_held s.depth g n x) (due_is_not_held s edits cycles t (length edits) acks before x deep free are.0)) free))

ordered_back : (s : Session) (edits : List Edit) (t : ℕ) (xs ys : List Kind) → is_ordered_newest s edits t (xs ++ ys) ≡ true → is_ordered_newest s edits t ys ≡ true
ordered_back s edits t [] ys ordered = ordered
ordered_back s edits t (x ∷ xs) ys ordered = ordered_back s edits t xs ys (and_parts (may_follow s edits t (xs ++ ys) x) (is_ordered_newest s edits t (xs ++ ys)) ordered).1

-- a front of what was kept was
kept_back : (s : Session) (edits : List Edit) (t k : ℕ) (xs ys : List Kind) → Kept s edits t k (xs ++ ys) → Kept s edits t k ys
kept_back s edits t k xs ys kept = record {
  entered = kept.entered;
  in_order = ordered_back s edits t xs ys kept.in_order;
  from = (and_parts (list_all (is_from s edits t k) xs) (list_all (is_from s edits t k) ys) (sym (list_all-append (is_from s edits t k) xs ys) ∙ kept.from)).1;
}

-- nothing is sent twice
pub sent_once : (s : Session) (edits : List Edit) (cycles t : ℕ) (acks : List Ack) (before items : List Kind) → AreDue s edits cycles t acks before items → Kept s edits t (length edits) (reverse items ++ before) →
    each_once cycles before ≡ true → each_once cycles (reverse items ++ before) ≡ true
sent_once s edits cycles t acks before [] are kept once = once
sent_once s edits cycles t acks before (x ∷ items) are kept once = let more = subst (Kept s edits t (length edits)) (turned_one x items before) kept in
    subst (λ l. each_once cycles l ≡ true) (sym (turned_one x items before)) (sent_once s edits cycles t acks (x ∷ before) items are.1 more
    (sending_once s edits cycles t (length edits) acks before x (kept_back s edits t (length edits) (x ∷ []) before (kept_back s edits t (length edits) (reverse items) (x ∷ before) more)) once are.0))

-- ---- acknowledgements

-- the next block with one acknowledgement more
pub next_with : (acks : List Ack) (a : Ack) (g : ℕ) → next_block (acks ++ a ∷ []) g ≡ (if a.generation == g then max a.next (next_block acks g) else next_block acks g)
next_with [] a g = refl
next_with (x ∷ acks) a g = ap (λ n. if x.generation == g then max x.next n else n) (next_with acks a g) ∙ by (x.generation == g) (a.generation == g) x.next a.next (next_block acks g)
  where
    turned : (n m r : ℕ) → max n (max m r) ≡ max m (max n r)
    turned n m r = omega arith

    by : (b c : Bool) (n m r : ℕ) → (if b then max n (if c then max m r else r) else (if c then max m r else r)) ≡ (if c then max m (if b then max n r else r) else (if b then max n r else r))
    by true true n m r = turned n m r
    by true false n m r = refl
    by false true n m r = refl
    by false false n m r = refl

-- no more acknowledgements than entries
pub told_few : (edits : List Edit) (depth : ℕ) (entries : List Entry) (acks : List Ack) (heads : List ℕ) → AreTold edits depth entries acks heads → length acks ≤ length entries
told_few edits depth [] acks heads told = omega (arith, ap length told.0)
told_few edits depth (e ∷ before) acks heads (inl put) = omega (arith, ap length put.newest, told_few edits depth before put.earlier heads put.told)
told_few edits depth (e ∷ before) acks heads (inr full) = omega (arith, told_few edits depth before acks full.earlier full.told)

-- ---- sums

-- where one grows and none falls the sum grows
pub sum_grows : {X : Type 0} (f : X → ℕ) (xs ys : List X) (t : ℕ) (x y : X) → length ys ≡ length xs → ((i : ℕ) (a b : X) → slice_get xs i ≡ Some a → slice_get ys i ≡ Some b → f a ≤ f b) →
    slice_get xs t ≡ Some x → slice_get ys t ≡ Some y → f x < f y → sum_by f xs < sum_by f ys
sum_grows f [] ys t x y many each hx hy more = absurd (none-some x hx)
sum_grows f (a ∷ xs) [] t x y many each hx hy more = absurd (none-some y hy)
sum_grows f (a ∷ xs) (b ∷ ys) zero x y many each hx hy more = omega (
  arith,
  sum_by-cons f a xs,
  sum_by-cons f b ys,
  ap f (same_Some a x hx),
  ap f (same_Some b y hy),
  more,
  sum_rises f xs ys (omega (arith, many)) (λ i. each (suc i)),
)
  where
    sum_rises : {X : Type 0} (f : X → ℕ) (xs ys : List X) → length ys ≡ length xs → ((i : ℕ) (a b : X) → slice_get xs i ≡ Some a → slice_get ys i ≡ Some b → f a ≤ f b) → sum_by f xs ≤ sum_by f ys
    sum_rises f [] [] many each = omega arith
    sum_rises f [] (b ∷ ys) many each = absurd (omega (arith, many))
    sum_rises f (a ∷ xs) [] many each = absurd (omega (arith, many))
    sum_rises f (a ∷ xs) (b ∷ ys) many each = omega (arith, sum_by-cons f a xs, sum_by-cons f b ys, each 0 a b refl refl, sum_rises f xs ys (omega (arith, many)) (λ i. each (suc i)))
sum_grows f (a ∷ xs) (b ∷ ys) (suc t) x y many each hx hy more = omega (
  arith,
  sum_by-cons f a xs,
  sum_by-cons f b ys,
  each 0 a b refl refl,
  sum_grows f xs ys t x y (omega (arith, many)) (λ i. each (suc i)) hx hy more,
)

-- ---- the entry

-- what is played goes by what was received
plays_are : (state : State) (tracks : List (List Kind)) (takes : List Take) → length (notes_of state tracks takes) ≡ length tracks → map (λ (n : Note). n.play) (notes_of state tracks takes) ≡ map (play_of state) tracks
plays_are state [] takes long = refl
plays_are state (xs ∷ tracks) [] long = absurd (omega (arith, long))
plays_are state (xs ∷ tracks) (take ∷ takes) long = ap (λ l. play_of state xs ∷ l) (plays_are state tracks takes (omega (arith, long)))

notes_long : (state : State) (tracks : List (List Kind)) (takes : List Take) → length takes ≡ length tracks → length (notes_of state tracks takes) ≡ length tracks
notes_long state [] takes long = refl
notes_long state (xs ∷ tracks) [] long = absurd (omega (arith, long))
notes_long state (xs ∷ tracks) (take ∷ takes) long = ap suc (notes_long state tracks takes (omega (arith, long)))

-- the plain takes of tracks, of which the first is track t
abbrev takes_from : Edition → List Entry → ℕ → ℕ → List Take
takes_from now before t n = map (λ i. plain_take (now.transport.rolling && records now i) (next_take i before)) (range_with_len t n)

takes_long : (now : Edition) (before : List Entry) (t n : ℕ) → length (takes_from now before t n) ≡ n
takes_long now before t zero = refl
takes_long now before t (suc n) = ap (λ l. length (map (λ i. plain_take (now.transport.rolling && records now i) (next_take i before)) l)) (range_step t n) ∙ ap suc (takes_long now before (suc t) n)

takes_plain : (now : Edition) (before : List Entry) (t n : ℕ) → PlainTakes now before t (takes_from now before t n)
takes_plain now before t zero i take here = absurd (none-some take here)
takes_plain now before t (suc n) zero take here = sym (same_Some (plain_take (now.transport.rolling && records now t) (next_take t before)) take
    (sym (ap (λ l. slice_get (map (λ i. plain_take (now.transport.rolling && records now i) (next_take i before)) l) 0) (range_step t n)) ∙ here))
    ∙ (let same : t ≡ 0 + t = omega arith in ap (λ k. plain_take (now.transport.rolling && records now k) (next_take k before)) same)
takes_plain now before t (suc n) (suc i) take here = takes_plain now before (suc t) n i take
    (sym (ap (λ l. slice_get (map (λ j. plain_take (now.transport.rolling && records now j) (next_take j before)) l) (suc i)) (range_step t n)) ∙ here)
    ∙ (let same : i + suc t ≡ suc i + t = omega arith in ap (λ k. plain_take (now.transport.rolling && records now k) (next_take k before)) same)

-- **Where each track is ready the entry plays as the plain one**, whatever it takes.
pub entry_plays : (s : Session) (edits : List Edit) (before : List Entry) (tracks : List (List Kind)) (takes : List Take) → length tracks ≡ length s.tracks.items →
    ((t : ℕ) (xs : List Kind) → slice_get tracks t ≡ Some xs → IsReady s edits t (generation edits (length edits)) (rolled (generation edits (length edits)) before) xs) →
    length (entry_of s edits before tracks takes (length edits)).notes ≡ length tracks → PlaysAs (plain_entry s edits before) (entry_of s edits before tracks takes (length edits))
entry_plays s edits before tracks takes many ready long = record {
  edition = refl;
  settled = ap (λ (e : Entry). e.settled) same;
  state = ap (λ (e : Entry). e.state) same;
  plays = plays_are state tracks takes long ∙ sym (plays_are state tracks plain (notes_long state tracks plain plain_long)) ∙ ap plays_in same;
}
  where
    now : Edition
    now = edition s edits (length edits)

    state : State
    state = state_of now.transport.rolling (generation edits (length edits)) (rolled (generation edits (length edits)) before) tracks

    plain : List Take
    plain = takes_from (edition s edits (length edits)) before 0 (length tracks)

    plain_long : length plain ≡ length tracks
    plain_long = takes_long (edition s edits (length edits)) before 0 (length tracks)

    same : entry_of s edits before tracks plain (length edits) ≡ plain_entry s edits before
    same = ready_entry_with_takes s edits before tracks plain many plain_long ready (takes_plain (edition s edits (length edits)) before 0 (length tracks))
