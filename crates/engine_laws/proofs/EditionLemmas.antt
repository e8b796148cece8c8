-- Editions don't change when the list grows, and their transport is that of the edits that are played.
use Rattle.std.proofs.lemmas.Bool.{cases_lt}
use Rattle.std.proofs.lemmas.Option.{slice_get_within}
use Rattle.std.proofs.Common.{◌≡◌, inl, inr, true≢false, ℕ, zero, suc, ◌+◌, ◌<◌, ◌≤◌, List, [], ◌∷◌, ◌++◌, length, take, refl, sym, ap, subst, arith, ◌∙◌}
use Rattle.std.specs.Prelude.{Bool, true, false, if◌then◌else◌, Some, slice_get, IsOk}
use Rattle.std.specs.Option.{option_map_or}
use Rattle.session_model.specs.declared.edit.Edit.TheVariants.{Roll, Stop, Quit, Recording, Locate, Loop, LoopOff}
use Rattle.session_model.specs.declared.edit.Edit.{Edit}
use Rattle.session_model.specs.declared.session.Session.{Session}
use Rattle.engine_model.specs.Changes.{Change}
use Rattle.engine_model.specs.Editions.{Edition, IsAccepted, after_one, apply, changed, edition, taken_up}
use Rattle.engine_model.specs.Edits.{count_where, generation, has_quit, holds_at, is_quit, starts}
use Rattle.engine_model.specs.Transport.{Transport, at_rest, moved, moved_by, place, place_from, place_of, until_start}
use Rattle.engine_laws.proofs.NumberLemmas.{same_at}
use Rattle.engine_laws.proofs.PlaceLemmas.{count_first}
use Rattle.engine_laws.proofs.SessionLemmas.{accepted_makes}

-- ---- the edit at a place

pub get_stays : {X : Type 0} (xs ys : List X) (k : ℕ) → k < length xs → slice_get (xs ++ ys) k ≡ slice_get xs k
get_stays [] ys k lt = absurd (omega arith)
get_stays (x ∷ xs) ys zero lt = refl
get_stays (x ∷ xs) ys (suc k) lt = get_stays xs ys k (omega arith)

some_is : {X : Type 0} (x y : X) → Some x ≡ Some y → x ≡ y
some_is x y h = ap (λ o. option_map_or (λ z. z) o x) h

-- a place below the end has an edit
get_there : (edits : List Edit) (k : ℕ) → suc k ≤ length edits → (e : Edit) × (slice_get edits k ≡ Some e)
get_there [] k le = absurd (omega arith)
get_there (e ∷ es) zero le = (e, refl)
get_there (e ∷ es) (suc k) le = get_there es k (omega arith)

pub holds_at_is : (f : Edit → Bool) (edits : List Edit) (k : ℕ) → holds_at f edits k ≡ option_map_or f (slice_get edits k) false
holds_at_is f [] k = refl
holds_at_is f (e ∷ es) zero = refl
holds_at_is f (e ∷ es) (suc k) = holds_at_is f es k

-- ---- a list that grows

pub edition_stays : (session : Session) (xs ys : List Edit) (k : ℕ) → k ≤ length xs → edition session (xs ++ ys) k ≡ edition session xs k
edition_stays session xs ys zero le = refl
edition_stays session xs ys (suc k) le = ap (after_one (edition session (xs ++ ys) k)) (get_stays xs ys k (omega arith))
    ∙ ap (λ e. after_one e (slice_get xs k)) (edition_stays session xs ys k (omega arith))

pub quit_stays : (xs ys : List Edit) (k : ℕ) → k ≤ length xs → has_quit (xs ++ ys) k ≡ has_quit xs k
quit_stays xs ys zero le = refl
quit_stays xs ys (suc k) le = ap (λ b. if b then true else has_quit (xs ++ ys) k) (same_at is_quit xs ys k (omega arith))
    ∙ ap (λ q. if holds_at is_quit xs k then true else q) (quit_stays xs ys k (omega arith))

-- ---- the transport of accepted edits

take_more : {X : Type 0} (xs : List X) (k : ℕ) (x : X) → slice_get xs k ≡ Some x → take (suc k) xs ≡ take k xs ++ x ∷ []
take_more [] k x h = absurd (grind (arith, h))
take_more (y ∷ ys) zero x h = ap (λ z. z ∷ []) (some_is y x h)
take_more (y ∷ ys) (suc k) x h = ap (λ zs. y ∷ zs) (take_more ys k x h)

moved_by_more : (c : Transport) (xs : List Edit) (e : Edit) → moved_by c (xs ++ e ∷ []) ≡ moved (moved_by c xs) e
moved_by_more c [] e = refl
moved_by_more c (x ∷ xs) e = moved_by_more (moved c x) xs e

pub one_more : (session : Session) (edits : List Edit) (k : ℕ) (e : Edit) → slice_get edits k ≡ Some e → IsOk (apply (edition session edits k) e) →
    (c : Change) × (edition session edits (suc k) ≡ changed (edition session edits k) e c)
one_more session edits k e here ok = let makes = accepted_makes (edition session edits k) e ok in
    (makes.0, ap (after_one (edition session edits k)) here ∙ ap (taken_up (edition session edits k)) makes.2)

pub transport_is : (session : Session) (edits : List Edit) (k : ℕ) → IsAccepted session edits → k ≤ length edits →
    (edition session edits k).transport ≡ moved_by at_rest (take k edits)
transport_is session edits zero each le = refl
transport_is session edits (suc k) each le = let here = get_there edits k le in
    ap (λ e. e.transport) (one_more session edits k here.0 here.1 (each.each k here.0 here.1)).1
    ∙ ap (λ c. moved c here.0) (transport_is session edits k each (omega arith))
    ∙ sym (moved_by_more at_rest (take k edits) here.0)
    ∙ sym (ap (moved_by at_rest) (take_more edits k here.0 here.1))

-- ---- a generation's place

-- an edit that starts none keeps the generation's course
abbrev Keeps : Transport → Transport → Type 0
Keeps c d = (d.target ≡ c.target) × (d.wrap ≡ c.wrap)

moved_keeps : (c : Transport) (e : Edit) → starts e ≡ false → Keeps c (moved c e)
moved_keeps c (Locate to) h = absurd (true≢false h)
moved_keeps c (Loop from to) h = absurd (true≢false h)
moved_keeps c LoopOff h = absurd (true≢false h)
moved_keeps c Roll h = (refl, refl)
moved_keeps c Stop h = (refl, refl)
moved_keeps c Quit h = (refl, refl)
moved_keeps c (Recording on) h = (refl, refl)
moved_keeps c _ h = (refl, refl)

pub moved_counts : (c : Transport) (e : Edit) → (moved c e).generation ≡ (if starts e then suc c.generation else c.generation)
moved_counts c Roll = refl
moved_counts c Stop = refl
moved_counts c Quit = refl
moved_counts c (Recording on) = refl
moved_counts c (Locate to) = refl
moved_counts c (Loop from to) = refl
moved_counts c LoopOff = refl
moved_counts c _ = refl

same_place : (c d : Transport) (n : ℕ) → Keeps c d → place_of d n ≡ place_of c n
same_place c d n same = ap (λ t. place_from t d.wrap n) same.0 ∙ ap (λ w. place_from c.target w n) same.1

both_keep : (b c d : Transport) → Keeps b c → Keeps c d → Keeps b d
both_keep b c d first next = (next.0 ∙ first.0, next.1 ∙ first.1)

none_of_two : (b : Bool) (n : ℕ) → (if b then suc n else n) ≡ 0 → (b ≡ false) × (n ≡ 0)
none_of_two true n h = absurd (grind (arith, h))
none_of_two false n h = (refl, h)

none_starts : (c : Transport) (edits : List Edit) (k : ℕ) → count_where starts edits k ≡ 0 → Keeps c (moved_by c (take k edits))
none_starts c edits zero h = (refl, refl)
none_starts c [] (suc k) h = (refl, refl)
none_starts c (e ∷ es) (suc k) h = let none = none_of_two (starts e) (count_where starts es k) (sym (count_first starts e es k) ∙ h) in
    both_keep c (moved c e) (moved_by (moved c e) (take k es)) (moved_keeps c e none.0) (none_starts (moved c e) es k none.1)

until_none : (g : ℕ) → until_start g [] ≡ []
until_none zero = refl
until_none (suc g) = refl

abbrev PlaysHere : Transport → List Edit → ℕ → ℕ → ℕ → Type 0
PlaysHere c edits k n g = place_of (moved_by c (take k edits)) n ≡ place_of (moved_by c (until_start g edits)) n

-- after an edit that starts a generation, and after one that starts none
plays_started : (c : Transport) (e : Edit) (es : List Edit) (k n g : ℕ) → starts e ≡ true → PlaysHere (moved c e) es k n g → PlaysHere c (e ∷ es) (suc k) n (suc g)
plays_started c e es k n g start there = there ∙ ap (λ b. place_of (moved_by (moved c e) (until_start (if b then g else suc g) es)) n) (sym start)

plays_on : (c : Transport) (e : Edit) (es : List Edit) (k n g : ℕ) → starts e ≡ false → count_where starts es k ≡ g → PlaysHere (moved c e) es k n g → PlaysHere c (e ∷ es) (suc k) n g
plays_on c e es k n zero start none there = same_place c (moved_by (moved c e) (take k es)) n
    (both_keep c (moved c e) (moved_by (moved c e) (take k es)) (moved_keeps c e start) (none_starts (moved c e) es k none))
plays_on c e es k n (suc g) start some there = there ∙ ap (λ b. place_of (moved_by (moved c e) (until_start (if b then g else suc g) es)) n) (sym start)

plays_by : (c : Transport) (e : Edit) (es : List Edit) (k n : ℕ) (b : Bool) → starts e ≡ b → PlaysHere (moved c e) es k n (count_where starts es k) →
    PlaysHere c (e ∷ es) (suc k) n (if b then suc (count_where starts es k) else count_where starts es k)
plays_by c e es k n true start there = plays_started c e es k n (count_where starts es k) start there
plays_by c e es k n false start there = plays_on c e es k n (count_where starts es k) start refl there

plays_here : (c : Transport) (edits : List Edit) (k n : ℕ) → PlaysHere c edits k n (count_where starts edits k)
plays_here c edits zero n = refl
plays_here c [] (suc k) n = ap (λ es. place_of (moved_by c es) n) (sym (until_none (count_where starts [] (suc k))))
plays_here c (e ∷ es) (suc k) n = subst (PlaysHere c (e ∷ es) (suc k) n) (sym (count_first starts e es k))
    (plays_by c e es k n (starts e) refl (plays_here (moved c e) es k n))

counts_none : (k : ℕ) → count_where starts [] k ≡ 0
counts_none zero = refl
counts_none (suc k) = counts_none k

counts_here : (c : Transport) (edits : List Edit) (k : ℕ) → (moved_by c (take k edits)).generation ≡ c.generation + count_where starts edits k
counts_here c edits zero = omega arith
counts_here c [] (suc k) = grind (arith, counts_none k)
counts_here c (e ∷ es) (suc k) = grind (arith, counts_here (moved c e) es k, moved_counts c e, count_first starts e es k)

nothing_before : (n : ℕ) → 0 + n ≡ n
nothing_before n = omega arith

-- the transport of an edition plays the places of the edition's generation
pub edition_plays : (session : Session) (edits : List Edit) (k n : ℕ) → IsAccepted session edits → k ≤ length edits →
    ((edition session edits k).transport.generation ≡ generation edits k) × (place_of (edition session edits k).transport n ≡ place edits (generation edits k) n)
edition_plays session edits k n each le = let same = transport_is session edits k each le in (
  ap (λ c. c.generation) same ∙ counts_here at_rest edits k ∙ nothing_before (count_where starts edits k),
  ap (λ c. place_of c n) same ∙ plays_here at_rest edits k n,
)

-- ---- one more accepted edit

moved_quits : (c : Transport) (e : Edit) → (moved c e).quit ≡ (if is_quit e then true else c.quit)
moved_quits c Roll = refl
moved_quits c Stop = refl
moved_quits c Quit = refl
moved_quits c (Recording on) = refl
moved_quits c (Locate to) = refl
moved_quits c (Loop from to) = refl
moved_quits c LoopOff = refl
moved_quits c _ = refl

-- the transport has quit exactly where a quit is among the edits
pub quit_is : (session : Session) (edits : List Edit) (k : ℕ) → IsAccepted session edits → k ≤ length edits → (edition session edits k).transport.quit ≡ has_quit edits k
quit_is session edits zero each le = refl
quit_is session edits (suc k) each le = let here = get_there edits k le in
    ap (λ e. e.transport.quit) (one_more session edits k here.0 here.1 (each.each k here.0 here.1)).1
    ∙ moved_quits (edition session edits k).transport here.0
    ∙ ap (λ q. if is_quit here.0 then true else q) (quit_is session edits k each (omega arith))
    ∙ ap (λ b. if b then true else has_quit edits k) (sym (holds_at_is is_quit edits k ∙ ap (λ o. option_map_or is_quit o false) here.1))

pub at_the_end : {X : Type 0} (xs : List X) (x : X) → slice_get (xs ++ x ∷ []) (length xs) ≡ Some x
at_the_end [] x = refl
at_the_end (y ∷ ys) x = at_the_end ys x

pub one_longer : {X : Type 0} (xs : List X) (x : X) → length (xs ++ x ∷ []) ≡ suc (length xs)
one_longer [] x = refl
one_longer (y ∷ ys) x = ap (λ n. suc n) (one_longer ys x)

-- an edit of the longer list is one of the list, or the new one
before_or_last : (session : Session) (edits : List Edit) (e : Edit) (P : Edition → Edit → Type 0) →
    ((k : ℕ) (x : Edit) → slice_get edits k ≡ Some x → P (edition session edits k) x) → P (edition session edits (length edits)) e →
    (k : ℕ) (x : Edit) → slice_get (edits ++ e ∷ []) k ≡ Some x → P (edition session (edits ++ e ∷ []) k) x
before_or_last session edits e P old new k x here = elim (cases_lt k (length edits)) [
  | inl lt ↦ subst (λ now. P now x) (sym (edition_stays session edits (e ∷ []) k (omega arith))) (old k x (sym (get_stays edits (e ∷ []) k lt) ∙ here))
  | inr ge ↦ let within : k < length (edits ++ e ∷ []) = slice_get_within (edits ++ e ∷ []) k x here in
      let last : length edits ≡ k = grind (arith, within, ge, one_longer edits e) in
      let same : e ≡ x = some_is e x (sym (at_the_end edits e) ∙ ap (slice_get (edits ++ e ∷ [])) last ∙ here) in
      subst (λ n. P (edition session (edits ++ e ∷ []) n) x) last
      (subst (λ now. P now x) (sym (edition_stays session edits (e ∷ []) (length edits) (omega arith))) (subst (P (edition session edits (length edits))) same new))
]

pub accepted_more : (session : Session) (edits : List Edit) (e : Edit) → IsAccepted session edits → (edition session edits (length edits)).transport.quit ≡ false →
    IsOk (apply (edition session edits (length edits)) e) → IsAccepted session (edits ++ e ∷ [])
accepted_more session edits e each unended ok = record {
  each = before_or_last session edits e (λ now x. IsOk (apply now x)) each.each ok;
  unended = before_or_last session edits e (λ now x. now.transport.quit ≡ false) each.unended unended;
}
