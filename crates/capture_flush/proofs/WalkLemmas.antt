-- The takes of a track, one entry after another.
use Rattle.std.proofs.Common.{◌≡◌, ℕ, zero, suc, ◌+◌, ◌<◌, ◌≤◌, List, [], ◌∷◌, ◌++◌, length, map, drop, get_or, refl, sym, ap, subst, ◌∙◌, arith, ◌^◌, Option, Some, None}
use Rattle.std.specs.Prelude.{All}
use Rattle.std.specs.Option.{option_map_or}
use Rattle.std.proofs.lemmas.List.Elements.{All-cons, All-nil, All-head, All-tail}
use Rattle.std.proofs.lemmas.List.{at_drop_more, at_drop_all, length-map}
use Rattle.ses_io.specs.Files.{Files}
use Rattle.session_model.specs.declared.session.Session.{Session}
use Rattle.engine_model.specs.Journal as engine
use Rattle.engine_model.specs.Journal.{note_at, note_of}
use Rattle.cycle_journal.specs.declared.note.Note.{Note}
use Rattle.cycle_journal.specs.declared.entry.Entry.{Entry}
use Rattle.cycle_journal.specs.JournalView.{seen_take, seen_note, seen_entry, seen_entries}
use Rattle.capture_flush.specs.declared.run.Run.{Run}
use Rattle.capture_flush.specs.Taking.{Taking}
use Rattle.capture_flush.specs.Closing.{open_after, ended_by, runs_from, HasHeadUnless}

-- ---- one note

runs_step : (before : Option Run) (t : ℕ) (e : engine.Entry) (es : List engine.Entry) → runs_from before t (e ∷ es) ≡ ended_by before (note_of t e).take ++ runs_from (open_after before (note_of t e).take) t es
runs_step None t e es = refl
runs_step (Some run) t e es = refl

runs_end : (before : Option Run) (t : ℕ) → runs_from before t [] ≡ ended_by before engine.Off
runs_end None t = refl
runs_end (Some run) t = refl

pub note_seen : (t : ℕ) (notes : List Note) (d : Note) → t < length notes → (note_at t (map seen_note notes)).take ≡ seen_take (get_or notes t d).take
note_seen t [] d lt = absurd (omega (arith, lt))
note_seen zero (n ∷ notes) d lt = refl
note_seen (suc t) (n ∷ notes) d lt = note_seen t notes d (omega arith)

-- what is still to be closed, at an entry and behind the last
pub runs_more : (before : Option Run) (t i : ℕ) (entries : List Entry) (e : Entry) (k : engine.Take) → i < length entries → e ≡ get_or entries i e → k ≡ (note_of t (seen_entry e)).take →
    runs_from before t (seen_entries (drop i entries)) ≡ ended_by before k ++ runs_from (open_after before k) t (seen_entries (drop (i + 1) entries))
runs_more before t i entries e k lt is note = at_drop_more (λ es. runs_from before t (seen_entries es)) entries i e lt
    ∙ ap (λ x. runs_from before t (seen_entry x ∷ seen_entries (drop (i + 1) entries))) (sym is)
    ∙ runs_step before t (seen_entry e) (seen_entries (drop (i + 1) entries))
    ∙ ap (λ j. ended_by before j ++ runs_from (open_after before j) t (seen_entries (drop (i + 1) entries))) (sym note)

pub runs_last : (before : Option Run) (t i : ℕ) (entries : List Entry) → length entries ≤ i → runs_from before t (seen_entries (drop i entries)) ≡ ended_by before engine.Off
runs_last before t i entries all = at_drop_all (λ es. runs_from before t (seen_entries es)) entries i all ∙ runs_end before t

-- one block more at most
pub one_longer : (before : Option Run) (k : engine.Take) → option_map_or (λ r. r.blocks) (open_after before k) 0 ≤ suc (option_map_or (λ r. r.blocks) before 0)
one_longer before engine.Off = omega arith
one_longer before (engine.Taken n i) = omega arith
one_longer before (engine.Lost n i head) = omega arith

-- ---- the parts of a list

pub all_first : {X : Type 0} (P : X → Type 0) (xs ys : List X) → All P (xs ++ ys) → All P xs
all_first P [] ys all = All-nil P
all_first P (x ∷ xs) ys all = All-cons P x xs (All-head P x (xs ++ ys) all) (all_first P xs ys (All-tail P x (xs ++ ys) all))

pub all_last : {X : Type 0} (P : X → Type 0) (xs ys : List X) → All P (xs ++ ys) → All P ys
all_last P [] ys all = all
all_last P (x ∷ xs) ys all = all_last P xs ys (All-tail P x (xs ++ ys) all)

-- the take that a note ends, where it ends one
pub ended_few : (before : Option Run) (r : Run) → before ≡ Some r → option_map_or (λ x. x.blocks) before 0 ≤ 100000 → r.blocks ≤ 100000
ended_few before r is few = subst (λ o. option_map_or (λ x. x.blocks) o 0 ≤ 100000) is few

pub ended_head : (f : Taking) (s : Session) (t : ℕ) (files : Files) (before : Option Run) (k : engine.Take) (r : Run) → before ≡ Some r → k ≡ engine.Off → All (HasHeadUnless f s t files) (ended_by before k) → HasHeadUnless f s t files r
ended_head f s t files before k r is off heads = let P : List Run → Type 0 = λ rs. All (HasHeadUnless f s t files) rs in
    All-head (HasHeadUnless f s t files) r [] (subst (λ o. P (ended_by o engine.Off)) is (subst (λ j. P (ended_by before j)) off heads))

-- heads of the first runs, and of those behind them
pub heads_of_first : (f : Taking) (s : Session) (t : ℕ) (rest first more : List Run) (files : Files) → rest ≡ first ++ more → All (HasHeadUnless f s t files) rest → All (HasHeadUnless f s t files) first
heads_of_first f s t rest first more files parts heads = let P : List Run → Type 0 = λ rs. All (HasHeadUnless f s t files) rs in all_first (HasHeadUnless f s t files) first more (subst P parts heads)

pub heads_of_more : (f : Taking) (s : Session) (t : ℕ) (rest first more : List Run) (files : Files) → rest ≡ first ++ more → All (HasHeadUnless f s t files) rest → All (HasHeadUnless f s t files) more
heads_of_more f s t rest first more files parts heads = let P : List Run → Type 0 = λ rs. All (HasHeadUnless f s t files) rs in all_last (HasHeadUnless f s t files) first more (subst P parts heads)

-- ---- a journal as the definitions have it

pub notes_of_seen : (many : ℕ) (entries : List Entry) → All (λ e. length e.notes ≡ many) (seen_entries entries) → All (λ e. length e.notes.items ≡ many) entries
notes_of_seen many [] all = All-nil (λ (e : Entry). length e.notes.items ≡ many)
notes_of_seen many (e ∷ es) all = All-cons (λ (x : Entry). length x.notes.items ≡ many) e es
    (sym (length-map e.notes.items seen_note) ∙ All-head (λ (x : engine.Entry). length x.notes ≡ many) (seen_entry e) (seen_entries es) all)
    (notes_of_seen many es (All-tail (λ (x : engine.Entry). length x.notes ≡ many) (seen_entry e) (seen_entries es) all))

pub few_seen : (entries : List Entry) → length entries ≤ 100000 → length (seen_entries entries) < 2 ^ 64
few_seen entries few = omega (arith, few, length-map entries seen_entry)
