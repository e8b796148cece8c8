-- The journal of a process stays lawful: while it receives, while edits come, and with each entry.
use Rattle.std.proofs.Common.{◌≡◌, inl, inr, ℕ, ◌<◌, ◌≤◌, List, [], ◌∷◌, ◌++◌, length, sym, subst, le_trans, arith, ◌∙◌, length-append}
use Rattle.std.proofs.lemmas.Option.{slice_get_within}
use Rattle.std.specs.Prelude.{true, Some, slice_get}
use Rattle.std.proofs.lemmas.Bool.{and_parts, cases_lt}
use Rattle.session_model.specs.declared.edit.Edit.{Edit}
use Rattle.session_model.specs.declared.session.Session.{Session}
use Rattle.engine_model.specs.Edits.{generation, starts}
use Rattle.engine_model.specs.Items.{Kind}
use Rattle.engine_model.specs.Order.{is_ordered_newest}
use Rattle.engine_model.specs.Journal.{Entry, rolled}
use Rattle.engine_model.specs.Fits.{is_lawful_after, is_lawful_newest}
use Rattle.engine_laws.specs.Entered.{GoneOn, Backed, HeardAt}
use Rattle.engine_laws.specs.JournalInvariant.{EntryStands, EntriesStand, AreOrdered, JournalInvariant, Receives}
use Rattle.engine_laws.proofs.GrowLemmas.{ordered_stays}
use Rattle.engine_laws.proofs.LawfulLemmas.{lawful_parts, fits_parts, lawful_stays}
use Rattle.engine_laws.proofs.NumberLemmas.{count_rises, count_stays}
use Rattle.engine_laws.proofs.OlderLemmas.{backed_grows, heard_grows}
use Rattle.engine_laws.proofs.ListLemmas.{item_at}

-- ---- more is received

pub get_new : {X : Type 0} (old new : List X) (t : ℕ) (x : X) → length new ≡ length old → slice_get new t ≡ Some x → (y : X) × (slice_get old t ≡ Some y)
get_new old new t x many there = let lt = slice_get_within new t x there in item_at old t (omega arith)

entry_receives : (session : Session) (edits : List Edit) (old new : List (List Kind)) (h r g s : ℕ) (e : Entry) → Receives old new → AreOrdered session edits new →
    EntryStands old h r g s e → EntryStands new h r g s e
entry_receives session edits old new h r g s e more order stands = record {
  on = stands.on;
  backed = λ t ys there. let xs = get_new old new t ys more.many there in let rest = more.each t xs.0 ys xs.1 there in
      subst (λ l. Backed g s e.settled l) (sym rest.1) (backed_grows g s e.settled rest.0 xs.0 (stands.backed t xs.0 xs.1));
  heard = λ t p ys there is. let xs = get_new old new t ys more.many there in let rest = more.each t xs.0 ys xs.1 there in
      subst (λ l. HeardAt g s p l) (sym rest.1) (heard_grows session edits t g s p rest.0 xs.0
      (subst (λ l. is_ordered_newest session edits t l ≡ true) rest.1 (order t ys there)) (stands.heard t p xs.0 xs.1 is));
}

pub entries_receive : (session : Session) (edits : List Edit) (old new : List (List Kind)) (h r : ℕ) (entries : List Entry) → Receives old new → AreOrdered session edits new →
    EntriesStand edits old h r entries → EntriesStand edits new h r entries
entries_receive session edits old new h r [] more order stand = tt
entries_receive session edits old new h r (e ∷ before) more order stand = (
  entry_receives session edits old new h r (generation edits e.edition) (rolled (generation edits e.edition) before) e more order stand.0,
  entries_receive session edits old new h r before more order stand.1,
)

pub stands_while_receiving : (session : Session) (edits : List Edit) (old new : List (List Kind)) (entries : List Entry) → JournalInvariant session edits old entries → Receives old new →
    AreOrdered session edits new → JournalInvariant session edits new entries
stands_while_receiving session edits old new entries old_stands more order = record {
  lawful = old_stands.lawful;
  many = more.many ∙ old_stands.many;
  ordered = order;
  stand = entries_receive session edits old new (generation edits (length edits)) (rolled (generation edits (length edits)) entries) entries more order old_stands.stand;
}

-- ---- the place goes on

gone_further : (g s h r i q : ℕ) → GoneOn g s h r → GoneOn h r i q → GoneOn g s i q
gone_further g s h r i q (inl lt) (inl more) = inl (omega arith)
gone_further g s h r i q (inl lt) (inr same) = inl (subst (λ n. g < n) same.0 lt)
gone_further g s h r i q (inr same) (inl more) = inl (subst (λ n. n < i) (sym same.0) more)
gone_further g s h r i q (inr same) (inr more) = inr (same.0 ∙ more.0, le_trans same.1 more.1)

entry_goes_on : (tracks : List (List Kind)) (h r i q g s : ℕ) (e : Entry) → GoneOn h r i q → EntryStands tracks h r g s e → EntryStands tracks i q g s e
entry_goes_on tracks h r i q g s e on stands = record { on = gone_further g s h r i q stands.on on; backed = stands.backed; heard = stands.heard }

pub entries_go_on : (edits : List Edit) (tracks : List (List Kind)) (h r i q : ℕ) (entries : List Entry) → GoneOn h r i q → EntriesStand edits tracks h r entries → EntriesStand edits tracks i q entries
entries_go_on edits tracks h r i q [] on stand = tt
entries_go_on edits tracks h r i q (e ∷ before) on stand = (
  entry_goes_on tracks h r i q (generation edits e.edition) (rolled (generation edits e.edition) before) e on stand.0,
  entries_go_on edits tracks h r i q before on stand.1,
)

-- ---- more edits come

entries_edited : (session : Session) (edits more : List Edit) (tracks : List (List Kind)) (h r : ℕ) (entries : List Entry) → is_lawful_newest session edits entries ≡ true →
    EntriesStand edits tracks h r entries → EntriesStand (edits ++ more) tracks h r entries
entries_edited session edits more tracks h r [] lawful stand = tt
entries_edited session edits more tracks h r (e ∷ before) lawful stand = let step = and_parts (is_lawful_after session edits before e) (is_lawful_newest session edits before) lawful in
    let low = (fits_parts session edits before e (lawful_parts session edits before e step.0).fit).0 in (
      subst (λ g. EntryStands tracks h r g (rolled g before) e) (sym (count_stays starts edits more e.edition low)) stand.0,
      entries_edited session edits more tracks h r before step.1 stand.1,
    )

-- the place in more edits is no earlier
pub place_by : (g h : ℕ) (entries : List Entry) → g ≤ h → GoneOn g (rolled g entries) h (rolled h entries)
place_by g h entries le = elim (cases_lt g h) [
  | inl lt ↦ inl lt
  | inr ge ↦ let same : g ≡ h = omega arith in inr (same, subst (λ n. rolled g entries ≤ rolled n entries) same (omega arith))
]

generation_rises : (edits more : List Edit) → generation edits (length edits) ≤ generation (edits ++ more) (length (edits ++ more))
generation_rises edits more = subst (λ n. n ≤ generation (edits ++ more) (length (edits ++ more))) (count_stays starts edits more (length edits) (omega arith))
    (count_rises starts (edits ++ more) (length edits) (length (edits ++ more)) (no_shorter edits more))
  where
    no_shorter : (xs ys : List Edit) → length xs ≤ length (xs ++ ys)
    no_shorter xs ys = grind (arith, length-append xs ys)

pub stands_while_editing : (session : Session) (edits more : List Edit) (tracks : List (List Kind)) (entries : List Entry) → JournalInvariant session edits tracks entries → JournalInvariant session (edits ++ more) tracks entries
stands_while_editing session edits more tracks entries old = record {
  lawful = lawful_stays session edits more entries old.lawful;
  many = old.many;
  ordered = λ t xs there. ordered_stays session edits more t xs (old.ordered t xs there);
  stand = entries_go_on (edits ++ more) tracks (generation edits (length edits)) (rolled (generation edits (length edits)) entries)
      (generation (edits ++ more) (length (edits ++ more))) (rolled (generation (edits ++ more) (length (edits ++ more))) entries) entries
      (place_by (generation edits (length edits)) (generation (edits ++ more) (length (edits ++ more))) entries (generation_rises edits more))
      (entries_edited session edits more tracks (generation edits (length edits)) (rolled (generation edits (length edits)) entries) entries old.lawful old.stand);
}
