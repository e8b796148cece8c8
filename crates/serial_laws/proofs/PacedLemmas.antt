-- Why the entries and replies of a run without letters are by the plain walk over its lines.
use Rattle.std.proofs.Common.{◌≡◌, inl, inr, ℕ, ◌+◌, List, [], ◌∷◌, ◌++◌, length, refl, sym, ap, subst, ◌∙◌, append-nil, append_assoc}
use Rattle.std.specs.Prelude.{Bool, true, false, ◌&&◌, ◌||◌, ◌==◌, not, nat_le, if◌then◌else◌, reverse, Option, Some, None, Ok, Err, is_ok}
use Rattle.std.specs.List.{list_all}
use Rattle.std.proofs.lemmas.Bool.{and_from, eq-eqb, false≢true, not_from_false, or_cases, or_left, or_right, true≢false}
use Rattle.std.proofs.lemmas.List.{reverse-append}
use Rattle.std.proofs.lemmas.Option.{none-some, same_Some}
use Rattle.session_model.specs.declared.session.Session.{Session}
use Rattle.session_model.specs.declared.edit.Edit.{Edit}
use Rattle.engine_model.specs.Edits.{has_quit, is_quit}
use Rattle.engine_model.specs.Refusals.{Checked}
use Rattle.engine_model.specs.Editions.{Edition, edition, apply}
use Rattle.engine_model.specs.Journal.{Entry}
use Rattle.engine_model.specs.Lines.{Line, Nothing, Says, Unread, accepts_after}
use Rattle.engine_model.specs.Plain.{Do, Wait, Sync}
use Rattle.engine_model.specs.Replies.{Reply, Accepted, Refused, LineRefused, Begin}
use Rattle.machine_model.specs.Core.{Core}
use Rattle.machine_model.specs.Control.{Control, Awaited, Entries, SettledIn, is_over, is_played_out, is_last_settled, answer_to, replying, waiting_for, edit_done, line_done, published, next_line_done, next_published, control_by, published_by, control_done, control_moves}
use Rattle.machine_model.specs.Events.{Publish, can, done, step, after}
use Rattle.machine_model.specs.Letters.{Machine}
use Rattle.machine_laws.proofs.CarryLemmas.{quit_after}
use Rattle.machine_laws.proofs.OwesLemmas.{one_reply}
use Rattle.serial_laws.specs.Standing.{Standing, at_first, carried_of, machine_of}
use Rattle.serial_laws.specs.Leads.{Carries}
use Rattle.serial_laws.specs.Paced.{has_come, answer_by, none_can_run, Either, PlaysUntil, EditIsPaced, IsPaced, IsStillPaced, MayFollow, HasPaced, IsNext}
use Rattle.serial_laws.specs.Paced.{NothingIsPacedAtFirst, EachLineIsPaced, EachEntryIsPaced, ItIsPacedStill, AllIsPacedAtTheEnd}

-- ---- what is waited for

-- where it is over, what follows follows at once
until_over : (come over : List Entry → Bool) (k : ℕ) (Then : List Entry → List Entry → Type 0) (before rest : List Entry) → (come before || over before) ≡ true → (come before ≡ false → rest ≡ []) →
    Then before rest → PlaysUntil come over k Then before rest
until_over come over k Then before [] is none follows = (is, follows)
until_over come over k Then before (e ∷ rest) is none follows = by (come before) none
  where
    by : (b : Bool) → (b ≡ false → e ∷ rest ≡ []) → Either b (Then before (e ∷ rest)) ((e.edition ≡ k) × PlaysUntil come over k Then (e ∷ before) rest)
    by true none = follows
    by false none = absurd (some_entry (none refl))
      where
        some_entry : e ∷ rest ≡ [] → ⊥
        some_entry is = cc

-- as the core machine has it
over_so : (shown : ℕ) (c : Core) (a : Awaited) → is_over shown c a ≡ (has_come a c.entries || is_played_out shown c)
over_so shown c (Entries n) = refl
over_so shown c (SettledIn k) = refl

answer_so : (c : Core) (a : Awaited) → answer_to c a ≡ answer_by a c.entries
answer_so c (Entries n) = refl
answer_so c (SettledIn k) = refl

-- what follows once it has come, and what is still to come before it
abbrev Follows : Session → ℕ → Bool → List Edit → List Line → Awaited → List Reply → List Entry → List Entry → Type 0
Follows s cycles stopped edits lines a later now left = Begin (answer_by a now) (IsPaced s cycles stopped edits now lines left) later

abbrev Waiting : Session → ℕ → Bool → List Edit → List Line → Awaited → List Reply → List Entry → List Entry → Type 0
Waiting s cycles stopped edits lines a later before rest = PlaysUntil (has_come a) (none_can_run cycles stopped) (length edits) (λ now left. Follows s cycles stopped edits lines a later now left) before rest

-- ---- a letter of control

module _ (s : Session) (cycles shown : ℕ) (all : List Line) (c : Core) where
  abbrev over : Bool
  over = is_played_out shown c

  -- with this control and state all that follows by the walk makes all follow
  abbrev Paces : Control → Core → Type 0
  Paces control d = (stopped : Bool) (rest : List Entry) (later : List Reply) → MayFollow cycles stopped over d rest →
      IsStillPaced s cycles stopped control.awaits d.edits d.entries control.lines rest later → IsPaced s cycles stopped [] [] all (reverse d.entries ++ rest) (reverse control.replies ++ later)

  abbrev free : List Line → List Reply → Control
  free lines replies = record { lines = lines; awaits = None; replies = replies }

  -- a reply is given
  replied : (stopped : Bool) (rest : List Entry) (later replies : List Reply) (reply : Reply) → IsPaced s cycles stopped [] [] all (reverse c.entries ++ rest) (reverse replies ++ reply ∷ later) →
      IsPaced s cycles stopped [] [] all (reverse c.entries ++ rest) (reverse (reply ∷ replies) ++ later)
  replied stopped rest later replies reply is = subst (IsPaced s cycles stopped [] [] all (reverse c.entries ++ rest)) (sym (one_reply reply replies later)) is

  -- what is awaited is over
  come_by : (a : Awaited) → is_over shown c a ≡ true → (stopped : Bool) (rest : List Entry) → MayFollow cycles stopped over c rest →
      ((has_come a c.entries || none_can_run cycles stopped c.entries) ≡ true) × (has_come a c.entries ≡ false → rest ≡ [])
  come_by a is stopped rest may = by (has_come a c.entries) (sym (over_so shown c a) ∙ is)
    where
      by : (b : Bool) → (b || over) ≡ true → ((b || none_can_run cycles stopped c.entries) ≡ true) × (b ≡ false → rest ≡ [])
      by true e = (refl, λ f. absurd (true≢false f))
      by false e = (may.out e, λ f. may.none (or_right (has_quit c.edits (length c.edits)) over e))

  answered : (lines : List Line) (replies : List Reply) (a : Awaited) → is_over shown c a ≡ true → Paces (record { lines = lines; awaits = Some a; replies = replies }) c → Paces (free lines (answer_to c a ∷ replies)) c
  answered lines replies a is was stopped rest later may still = replied stopped rest later replies (answer_to c a) (was stopped rest (answer_to c a ∷ later) may
      (until_over (has_come a) (none_can_run cycles stopped) (length c.edits) (λ now left. Begin (answer_by a now) (IsPaced s cycles stopped c.edits now lines left) (answer_to c a ∷ later)) c.entries rest
      (come_by a is stopped rest may).0 (come_by a is stopped rest may).1 (later, ap (λ r. r ∷ later) (answer_so c a), still)))

  -- ---- an edit

  edit_paces : (lines : List Line) (replies : List Reply) (edit : Edit) (answer : Checked Edition) (quits : Bool) → apply (edition s c.edits (length c.edits)) edit ≡ answer → is_quit edit ≡ quits →
      has_quit c.edits (length c.edits) ≡ false →
      ((stopped : Bool) (rest : List Entry) (later : List Reply) → MayFollow cycles stopped over c rest →
      EditIsPaced answer quits (IsPaced s cycles stopped (c.edits ++ edit ∷ []) c.entries lines) (IsPaced s cycles stopped c.edits c.entries lines) rest later →
      IsPaced s cycles stopped [] [] all (reverse c.entries ++ rest) (reverse replies ++ later)) →
      Paces (edit_done answer quits (free lines replies)) (after s shown c (if is_ok answer then Publish edit ∷ [] else []))
  edit_paces lines replies edit (Err why) quits is quit unquit was = λ stopped rest later may still. replied stopped rest later replies (Refused why) (was stopped rest (Refused why ∷ later) may (later, refl, still))
  edit_paces lines replies edit (Ok next) quits is quit unquit was = subst (Paces (edit_done (Ok next) quits (free lines replies))) (sym does) (by quits quit was)
    where
      published_now : Core
      published_now = record c { edits = c.edits ++ edit ∷ [] }

      does : step s shown c (Publish edit) ≡ published_now
      does = ap (λ b. if b then done s shown c (Publish edit) else c)
          (and_from (not (has_quit c.edits (length c.edits))) (accepts_after s c.edits edit) (not_from_false (has_quit c.edits (length c.edits)) unquit) (ap is_ok is))

      -- what may follow it might before it
      before : (stopped : Bool) (rest : List Entry) → MayFollow cycles stopped over published_now rest → MayFollow cycles stopped over c rest
      before stopped rest may = record {
        out = may.out;
        none = λ e. may.none (or_right (has_quit (c.edits ++ edit ∷ []) (length (c.edits ++ edit ∷ []))) over (sym (ap (λ b. b || over) unquit) ∙ e));
      }

      by : (quits : Bool) → is_quit edit ≡ quits → ((stopped : Bool) (rest : List Entry) (later : List Reply) → MayFollow cycles stopped over c rest →
          EditIsPaced (Ok next) quits (IsPaced s cycles stopped (c.edits ++ edit ∷ []) c.entries lines) (IsPaced s cycles stopped c.edits c.entries lines) rest later →
          IsPaced s cycles stopped [] [] all (reverse c.entries ++ rest) (reverse replies ++ later)) → Paces (edit_done (Ok next) quits (free lines replies)) published_now
      by true quit was stopped rest later may still = replied stopped rest later replies (Accepted next.number) (was stopped rest (Accepted next.number ∷ later) (before stopped rest may) (
        may.none (or_left (has_quit (c.edits ++ edit ∷ []) (length (c.edits ++ edit ∷ []))) over (quit_after c.edits edit ∙ ap (λ b. if b then true else has_quit c.edits (length c.edits)) quit)),
        (later, refl, still.1),
      ))
      by false quit was stopped rest later may still = replied stopped rest later replies (Accepted next.number) (was stopped rest (Accepted next.number ∷ later) (before stopped rest may) (later, refl, still))

  -- ---- the next line

  wait_paces : (lines : List Line) (replies : List Reply) (a : Awaited) → Paces (record { lines = lines; awaits = Some a; replies = replies }) c → Paces (waiting_for shown c a (free lines replies)) c
  wait_paces lines replies a was = by (is_over shown c a) refl
    where
      by : (b : Bool) → is_over shown c a ≡ b → Paces (if b then replying (answer_to c a) (free lines replies) else record (free lines replies) { awaits = Some a }) c
      by true is = answered lines replies a is was
      by false is = was

  line_paces : (lines : List Line) (replies : List Reply) (line : Line) → has_quit c.edits (length c.edits) ≡ false → Paces (free (line ∷ lines) replies) c →
      Paces (line_done s shown c (free lines replies) line) (after s shown c (published s c line))
  line_paces lines replies Nothing unquit was = was
  line_paces lines replies (Unread why) unquit was = λ stopped rest later may still. replied stopped rest later replies (LineRefused why) (was stopped rest (LineRefused why ∷ later) may (later, refl, still))
  line_paces lines replies (Says (Do edit)) unquit was = edit_paces lines replies edit (apply (edition s c.edits (length c.edits)) edit) (is_quit edit) refl refl unquit was
  line_paces lines replies (Says (Wait n)) unquit was = wait_paces lines replies (Entries (length c.entries + n)) was
  line_paces lines replies (Says Sync) unquit was = wait_paces lines replies (SettledIn (length c.edits)) was

  next_paces : (lines : List Line) (replies : List Reply) → ((line : Line) (rest : List Line) → lines ≡ line ∷ rest → has_quit c.edits (length c.edits) ≡ false) → Paces (free lines replies) c →
      Paces (next_line_done s shown c (free lines replies) lines) (after s shown c (next_published s c lines))
  next_paces [] replies unquit was = was
  next_paces (line ∷ lines) replies unquit was = line_paces lines replies line (unquit line lines refl) was

  control_paces : (control : Control) (awaits : Option Awaited) → control.awaits ≡ awaits → ((line : Line) (rest : List Line) → control.lines ≡ line ∷ rest → has_quit c.edits (length c.edits) ≡ false) →
      Paces control c → Paces (control_by s shown c control awaits) (after s shown c (published_by s shown c control.lines awaits))
  control_paces control None none unquit was = subst (λ k. Paces (next_line_done s shown c k control.lines) (after s shown c (next_published s c control.lines))) (sym same)
      (next_paces control.lines control.replies unquit (subst (λ k. Paces k c) same was))
    where
      same : control ≡ free control.lines control.replies
      same = ap (λ o. record control { awaits = o }) none
  control_paces control (Some a) some unquit was = by (is_over shown c a) refl
    where
      by : (b : Bool) → is_over shown c a ≡ b → Paces (if b then next_line_done s shown c (record (replying (answer_to c a) control) { awaits = None }) control.lines else control)
          (after s shown c (if b then next_published s c control.lines else []))
      by false is = was
      by true is = next_paces control.lines (answer_to c a ∷ control.replies) unquit
          (answered control.lines control.replies a is (subst (λ k. Paces k c) (ap (λ o. record control { awaits = o }) some) was))

-- ---- the laws

pub nothing_is_paced_at_first : NothingIsPacedAtFirst
nothing_is_paced_at_first s cycles out_of more may stopped rest later follows still = still

pub each_line_is_paced : EachLineIsPaced
each_line_is_paced s cycles shown lines taken old new carries unquit was more may = let came = taken ++ more in let m = machine_of old came in
    subst (λ l. (stopped : Bool) (rest : List Entry) (later : List Reply) → MayFollow cycles stopped (is_played_out shown old.core) new.core rest →
    IsStillPaced s cycles stopped new.awaits new.core.edits new.core.entries (carried_of new more) rest later → IsPaced s cycles stopped [] [] l (reverse new.core.entries ++ rest) (reverse new.replies ++ later))
    (sym (append_assoc lines taken more))
    (subst (λ (n : Machine). Paces s cycles shown (lines ++ came) old.core n.control n.core) (carries.letter more may)
    (control_paces s cycles shown (lines ++ came) old.core m.control m.control.awaits refl
    (λ line rest is. unquit (by old.ended line rest came is)) (was came (carries.may more may))))
  where
    by : (b : Bool) (line : Line) (rest came : List Line) → (if b then [] else came) ≡ line ∷ rest → b ≡ false
    by false line rest came is = refl
    by true line rest came is = absurd (no_line is)
      where
        no_line : [] ≡ line ∷ rest → ⊥
        no_line e = cc

pub each_entry_is_paced : EachEntryIsPaced
each_entry_is_paced s cycles over over_now lines st e core next edits entries was more may stopped rest later follows still =
    subst (λ es. IsPaced s cycles stopped [] [] (lines ++ more) (reverse es ++ rest) (reverse st.replies ++ later)) (sym entries)
    (subst (λ l. IsPaced s cycles stopped [] [] (lines ++ more) l (reverse st.replies ++ later)) (sym (ap (λ l. l ++ rest) (reverse-append (e ∷ []) st.core.entries) ∙ append_assoc (reverse st.core.entries) (e ∷ []) rest))
    (was more may stopped (e ∷ rest) later (record {
      out = λ o. absurd (false≢true (sym next.can_run ∙ or_right (has_quit st.core.edits (length st.core.edits)) over o));
      none = λ o. absurd (false≢true (sym next.can_run ∙ o));
    }) (by st.awaits refl (subst (λ es. IsStillPaced s cycles stopped st.awaits es core.entries (carried_of st more) rest later) edits still))))
  where
    in_newest : (b : Bool) → b ≡ true → (b && list_all (λ x. x.edition == length st.core.edits) rest) ≡ list_all (λ x. x.edition == length st.core.edits) rest
    in_newest true e = refl
    in_newest false e = absurd (false≢true e)

    by : (o : Option Awaited) → st.awaits ≡ o → IsStillPaced s cycles stopped o st.core.edits core.entries (carried_of st more) rest later →
        IsStillPaced s cycles stopped o st.core.edits st.core.entries (carried_of st more) (e ∷ rest) later
    by None none still = subst (λ ls. IsPaced s cycles stopped st.core.edits st.core.entries ls (e ∷ rest) later) (sym no_line)
        (let end = subst (λ ls. IsPaced s cycles stopped st.core.edits core.entries ls rest later) no_line still in
        (in_newest (e.edition == length st.core.edits) (eq-eqb e.edition (length st.core.edits) next.newest) ∙ end.0, end.1))
      where
        no_line : carried_of st more ≡ []
        no_line = ap (λ b. if b then [] else more) (next.ended none)
    by (Some a) some still = subst (λ b. Either b (Follows s cycles stopped st.core.edits (carried_of st more) a later st.core.entries (e ∷ rest))
        ((e.edition ≡ length st.core.edits) × Waiting s cycles stopped st.core.edits (carried_of st more) a later (e ∷ st.core.entries) rest)) (sym (next.waits a some))
        (next.newest, subst (λ es. Waiting s cycles stopped st.core.edits (carried_of st more) a later es rest) entries still)

pub it_is_paced_still : ItIsPacedStill
it_is_paced_still s cycles over over_now lines st core edits entries stays was more may stopped rest later follows still =
    subst (λ es. IsPaced s cycles stopped [] [] (lines ++ more) (reverse es ++ rest) (reverse st.replies ++ later)) (sym entries)
    (was more may stopped rest later (record {
      out = λ o. ap (none_can_run cycles stopped) (sym entries) ∙ follows.out (stays o);
      none = λ o. follows.none (by (has_quit core.edits (length core.edits)) over over_now stays (ap (λ es. has_quit es (length es) || over) edits ∙ o));
    }) (subst (λ es. IsStillPaced s cycles stopped st.awaits st.core.edits es (carried_of st more) rest later) entries
    (subst (λ es. IsStillPaced s cycles stopped st.awaits es core.entries (carried_of st more) rest later) edits still)))
  where
    by : (q a b : Bool) → (a ≡ true → b ≡ true) → (q || a) ≡ true → (q || b) ≡ true
    by true a b stays e = refl
    by false a b stays e = stays e

pub all_is_paced_at_the_end : AllIsPacedAtTheEnd
all_is_paced_at_the_end s cycles stopped out_of lines st ended free_now out was =
    subst (λ ls. IsPaced s cycles stopped [] [] ls (reverse st.core.entries) (reverse st.replies)) (append-nil lines)
    (subst (λ es. IsPaced s cycles stopped [] [] (lines ++ []) es (reverse st.replies)) (append-nil (reverse st.core.entries))
    (subst (λ rs. IsPaced s cycles stopped [] [] (lines ++ []) (reverse st.core.entries ++ []) rs) (append-nil (reverse st.replies))
    (was [] (λ e quit. refl) stopped [] [] (record { out = out; none = λ e. refl })
    (subst (λ o. IsStillPaced s cycles stopped o st.core.edits st.core.entries (carried_of st []) [] []) (sym free_now)
    (subst (λ ls. IsPaced s cycles stopped st.core.edits st.core.entries ls [] []) (sym (ap (λ b. if b then [] else []) ended)) (refl, refl))))))
