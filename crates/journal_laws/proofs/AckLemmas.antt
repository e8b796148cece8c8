-- Each reply of a run on one thread is true of its journal.
use Rattle.std.proofs.Common.{◌≡◌, ℕ, zero, suc, ◌+◌, ◌-◌, ◌≤◌, ◌<◌, List, [], ◌∷◌, ◌++◌, length, refl, sym, ap, subst, arith, ◌∙◌, length-append}
use Rattle.std.specs.Prelude.{Bool, true, false, min, nat_le, nat_lt, if◌then◌else◌, reverse, Some, Ok, Err, is_ok, slice_get, All}
use Rattle.std.specs.List.{list_all}
use Rattle.std.specs.Option.{option_map_or}
use Rattle.std.proofs.lemmas.Bool.{and_parts, and_from, le-leb, leb-true, leb-false, lt-ltb, ltb-false, true≢false}
use Rattle.std.proofs.lemmas.List.{length-reverse, reverse-reverse}
use Rattle.std.proofs.lemmas.List.Elements.{All-weaker}
use Rattle.std.proofs.lemmas.Option.{none-some, same_Some, slice_get_within}
use Rattle.session_model.specs.declared.edit.Edit.{Edit}
use Rattle.session_model.specs.declared.session.Session.{Session}
use Rattle.engine_model.specs.Edits.{is_quit}
use Rattle.engine_model.specs.Editions.{Edition, edition, apply}
use Rattle.engine_model.specs.Refusals.{Checked}
use Rattle.engine_model.specs.Journal.{Entry}
use Rattle.engine_model.specs.Due.{Ack}
use Rattle.engine_model.specs.Fits.{is_lawful_after, is_lawful_newest, is_no_older}
use Rattle.engine_model.specs.Lines.{Line, Nothing, Says, Unread, commands_of}
use Rattle.engine_model.specs.Plain.{Command, Do, Wait, Sync, Run, needs_cycle, plain_cycles, plain_entry, plain_from, plain_run, with_cycles, with_edit}
use Rattle.engine_model.specs.Replies.{Reply, Synced, NotSynced, edit_answered, is_acknowledged, plain_replies_from, synced_by, with_sync}
use Rattle.engine_laws.proofs.Laws.{plain_is_lawful}
use Rattle.engine_laws.proofs.LawfulLemmas.{lawful_parts}
use Rattle.engine_laws.proofs.ListLemmas.{all_weaken}
use Rattle.journal_laws.specs.LineLaws.{IsAckOf, PlainRepliesAreReplies}
use Rattle.journal_laws.proofs.JournalLemmas.{All-reverse, turned_round}
use Rattle.journal_laws.proofs.OrderListLemmas.{all_from, all_to}
use Rattle.journal_laws.proofs.OneThreadLemmas.{Further, from_further}
use Rattle.journal_laws.proofs.ReplyLemmas.{are_replies}

-- ---- no more cycles than were asked

pub cycles_long : (session : Session) (edits : List Edit) (n : ℕ) (before : List Entry) → length (plain_cycles session edits n before) ≡ n + length before
cycles_long session edits zero before = omega arith
cycles_long session edits (suc n) before = cycles_long session edits n (plain_entry session edits before ∷ before) ∙ one_on n (length before)
  where
    one_on : (n k : ℕ) → n + suc k ≡ suc n + k
    one_on n k = omega arith

within_cycles : (session : Session) (cycles n : ℕ) (run : Run) → length run.entries ≤ cycles → length (with_cycles session cycles n run).entries ≤ cycles
within_cycles session cycles n run le = subst (λ k. k ≤ cycles) (sym (cycles_long session run.edits (min n (cycles - length run.entries)) run.entries)) (most n cycles (length run.entries) le)
  where
    most : (n c l : ℕ) → l ≤ c → min n (c - l) + l ≤ c
    most n c l le = grind (arith, le)

within_sync : (session : Session) (cycles : ℕ) (run : Run) (b : Bool) → length run.entries ≤ cycles → length (if b then with_cycles session cycles 1 run else run).entries ≤ cycles
within_sync session cycles run true le = within_cycles session cycles 1 run le
within_sync session cycles run false le = le

within_edit : (session : Session) (cycles : ℕ) (run : Run) (e : Edit) (cs : List Command) (taken quits : Bool) → length run.entries ≤ cycles →
    length (plain_from session cycles run cs).entries ≤ cycles →
    length (plain_from session cycles (with_edit run e) cs).entries ≤ cycles →
    length (if taken then (if quits then with_edit run e else plain_from session cycles (with_edit run e) cs) else plain_from session cycles run cs).entries ≤ cycles
within_edit session cycles run e cs false quits le same on = same
within_edit session cycles run e cs true true le same on = le
within_edit session cycles run e cs true false le same on = on

pub within_all : (session : Session) (cycles : ℕ) (cs : List Command) (run : Run) → length run.entries ≤ cycles → length (plain_from session cycles run cs).entries ≤ cycles
within_all session cycles [] run le = within_cycles session cycles cycles run le
within_all session cycles (Do e ∷ cs) run le = within_edit session cycles run e cs (is_ok (apply (edition session run.edits (length run.edits)) e)) (is_quit e) le
    (within_all session cycles cs run le) (within_all session cycles cs (with_edit run e) le)
within_all session cycles (Wait n ∷ cs) run le = within_all session cycles cs (with_cycles session cycles n run) (within_cycles session cycles n run le)
within_all session cycles (Sync ∷ cs) run le = let b = needs_cycle (length run.edits) run.entries in
    within_all session cycles cs (if b then with_cycles session cycles 1 run else run) (within_sync session cycles run b le)

-- ---- what is answered to a sync

-- the newest entry has edition k settled
is_settled : ℕ → List Entry → Bool
is_settled k [] = false
is_settled k (e ∷ before) = nat_le k e.settled

-- where it hasn't after a sync, no cycle is left
none_left : (session : Session) (cycles : ℕ) (run : Run) (b : Bool) → needs_cycle (length run.edits) run.entries ≡ b →
    is_settled (length run.edits) (if b then with_cycles session cycles 1 run else run).entries ≡ false → cycles ≤ length (if b then with_cycles session cycles 1 run else run).entries
unfolding is_settled
none_left session cycles run false unneeded none = by run.entries unneeded none
  where
    by : (es : List Entry) → needs_cycle (length run.edits) es ≡ false → is_settled (length run.edits) es ≡ false → cycles ≤ length es
    by [] unneeded none = absurd (true≢false unneeded)
    by (e ∷ es) unneeded none = let low = ltb-false e.settled (length run.edits) unneeded in let high = leb-false (length run.edits) e.settled none in absurd (omega arith)
none_left session cycles run true needed none = by (min 1 (cycles - length run.entries)) refl none
  where
    full : (c l : ℕ) → min 1 (c - l) ≡ 0 → c ≤ l
    full c l e = grind (arith, e)

    one : (c l n : ℕ) → min 1 (c - l) ≡ suc n → n ≡ 0
    one c l n e = grind (arith, e)

    by : (n : ℕ) → min 1 (cycles - length run.entries) ≡ n → is_settled (length run.edits) (plain_cycles session run.edits n run.entries) ≡ false →
        cycles ≤ length (plain_cycles session run.edits n run.entries)
    by zero is none = full cycles (length run.entries) is
    by (suc n) is none = absurd (true≢false (sym (subst (λ m. is_settled (length run.edits)
        (plain_cycles session run.edits m (plain_entry session run.edits run.entries ∷ run.entries)) ≡ true) (sym (one cycles (length run.entries) n is))
        (le-leb (length run.edits) (length run.edits) (omega arith))) ∙ none))

at_the_place : {X : Type 0} (xs ys : List X) (x : X) → slice_get (xs ++ x ∷ ys) (length xs) ≡ Some x
at_the_place [] ys x = refl
at_the_place (y ∷ xs) ys x = at_the_place xs ys x

all_at : (p : Entry → Bool) (xs : List Entry) (i : ℕ) (x : Entry) → list_all p xs ≡ true → slice_get xs i ≡ Some x → p x ≡ true
all_at p [] i x all there = absurd (none-some x there)
all_at p (y ∷ xs) zero x all there = subst (λ z. p z ≡ true) (same_Some y x there) (and_parts (p y) (list_all p xs) all).0
all_at p (y ∷ xs) (suc i) x all there = all_at p xs i x (and_parts (p y) (list_all p xs) all).1 there

nothing_new : (new : List Entry) (n : ℕ) → length new + n ≤ n → new ≡ []
nothing_new [] n le = refl
nothing_new (e ∷ new) n le = absurd (omega arith)

-- all entries have settled less than k
record AllBelow (k : ℕ) (entries : List Entry) : Type 0 where
  each : (place : ℕ) (e : Entry) → slice_get (reverse entries) place ≡ Some e → e.settled < k

-- the newest entry of a lawful journal has settled the most
newest_most : (session : Session) (edits : List Edit) (k : ℕ) (e : Entry) (before : List Entry) → is_lawful_newest session edits (e ∷ before) ≡ true → e.settled < k → AllBelow k (e ∷ before)
newest_most session edits k e before lawful low = record {
  each = λ place x there. let at = leb-true x.settled e.settled
      (all_at (λ (o : Entry). nat_le o.settled e.settled) (reverse (e ∷ before)) place x turned_all there) in omega arith;
}
  where
    old : list_all (λ (o : Entry). nat_le o.settled e.settled) before ≡ true
    old = all_weaken (λ o. is_no_older o e) (λ (o : Entry). nat_le o.settled e.settled) (λ o h. (and_parts (nat_le o.edition e.edition) (nat_le o.settled e.settled) h).1) before
        (lawful_parts session edits before e (and_parts (is_lawful_after session edits before e) (is_lawful_newest session edits before) lawful).0).no_older

    turned_all : list_all (λ (o : Entry). nat_le o.settled e.settled) (reverse (e ∷ before)) ≡ true
    turned_all = all_to (λ (o : Entry). nat_le o.settled e.settled) (reverse (e ∷ before)) (All-reverse (λ (o : Entry). nat_le o.settled e.settled ≡ true) (e ∷ before)
        (all_from (λ (o : Entry). nat_le o.settled e.settled) (e ∷ before)
        (and_from (nat_le e.settled e.settled) (list_all (λ (o : Entry). nat_le o.settled e.settled) before) (le-leb e.settled e.settled (omega arith)) old)))

module _ (session : Session) (cycles : ℕ) (acks : List Ack) (final : Run) (lawful : is_lawful_newest session final.edits final.entries ≡ true) (few : length final.entries ≤ cycles)
    (given : All (IsAckOf (reverse final.entries)) acks) where
  none_acks : (k : ℕ) → AllBelow k final.entries → list_all (λ a. nat_lt a.settled k) acks ≡ true
  none_acks k below = all_to (λ (a : Ack). nat_lt a.settled k) acks (All-weaker (IsAckOf (reverse final.entries)) (λ (a : Ack). nat_lt a.settled k ≡ true)
      (λ a of. lt-ltb a.settled k (subst (λ n. n < k) (sym of.settled) (below.each of.place of.entry of.there))) acks given)

  sync_true : (j k : ℕ) (entries : List Entry) → Further j entries final.entries → (is_settled k entries ≡ false → cycles ≤ length entries) →
      is_acknowledged acks (reverse final.entries) (synced_by k entries) ≡ true
  unfolding is_settled
  sync_true j k [] more full = let none = full refl in
      none_acks k (record { each = λ place e there. let lt = slice_get_within (reverse final.entries) place e there in absurd (omega (arith, length-reverse final.entries, few)) })
  sync_true j k (e ∷ before) more full = by (nat_le k e.settled) refl
    where
      by : (b : Bool) → nat_le k e.settled ≡ b → is_acknowledged acks (reverse final.entries) (if b then Synced k (suc (length before)) else NotSynced k) ≡ true
      by true high = and_from (nat_lt 0 (suc (length before)))
          (option_map_or (λ (x : Entry). nat_le k x.settled) (slice_get (reverse final.entries) (suc (length before) - 1)) false) (lt-ltb 0 (suc (length before)) (omega arith))
          (ap (λ n. option_map_or (λ (x : Entry). nat_le k x.settled) (slice_get (reverse final.entries) n) false) {x = suc (length before) - 1} {y = length (reverse before)}
          (omega (arith, length-reverse before))
          ∙ ap (λ l. option_map_or (λ (x : Entry). nat_le k x.settled) (slice_get l (length (reverse before))) false) (ap reverse more.on ∙ turned_round more.new before e)
          ∙ ap (λ o. option_map_or (λ (x : Entry). nat_le k x.settled) o false) (at_the_place (reverse before) (reverse more.new) e) ∙ high)
      by false other = none_acks k (subst (λ es. AllBelow k es) (sym whole)
          (newest_most session final.edits k e before (sym (ap (is_lawful_newest session final.edits) whole) ∙ lawful) (leb-false k e.settled other)))
        where
          whole : final.entries ≡ e ∷ before
          whole = more.on ∙ ap (λ l. l ++ e ∷ before) (nothing_new more.new (length (e ∷ before)) (omega (arith, ap length more.on, length-append more.new (e ∷ before), few, full other)))

  acked : (ls : List Line) (run : Run) → plain_from session cycles run (commands_of ls) ≡ final →
      list_all (is_acknowledged acks (reverse final.entries)) (plain_replies_from session cycles run ls) ≡ true
  acked [] run is = refl
  acked (Nothing ∷ ls) run is = acked ls run is
  acked (Unread why ∷ ls) run is = acked ls run is
  acked (Says (Wait n) ∷ ls) run is = acked ls (with_cycles session cycles n run) is
  acked (Says Sync ∷ ls) run is = let new = with_sync session cycles run in
      and_from (is_acknowledged acks (reverse final.entries) (synced_by (length run.edits) new.entries))
      (list_all (is_acknowledged acks (reverse final.entries)) (plain_replies_from session cycles new ls))
      (sync_true (length new.edits) (length run.edits) new.entries (subst (λ (r : Run). Further (length new.edits) new.entries r.entries) is (from_further session cycles (commands_of ls) new))
      (none_left session cycles run (needs_cycle (length run.edits) run.entries) refl)) (acked ls new is)
  acked (Says (Do edit) ∷ ls) run is = by (apply (edition session run.edits (length run.edits)) edit) (is_quit edit) is (acked ls (with_edit run edit)) (acked ls run)
    where
      on : Run
      on = plain_from session cycles (with_edit run edit) (commands_of ls)

      Told : List Reply → Type 0
      Told replies = list_all (is_acknowledged acks (reverse final.entries)) replies ≡ true

      by : (made : Checked Edition) (quits : Bool) → (if is_ok made then (if quits then with_edit run edit else on) else plain_from session cycles run (commands_of ls)) ≡ final →
          (on ≡ final → Told (plain_replies_from session cycles (with_edit run edit) ls)) →
          (plain_from session cycles run (commands_of ls) ≡ final → Told (plain_replies_from session cycles run ls)) →
          Told (edit_answered made (if quits then [] else plain_replies_from session cycles (with_edit run edit) ls) (plain_replies_from session cycles run ls))
      by (Ok next) true at accepted refused = refl
      by (Ok next) false at accepted refused = accepted at
      by (Err why) quits at accepted refused = refused at

pub plain_replies_are_replies : PlainRepliesAreReplies
plain_replies_are_replies session cycles lines = let final = plain_run session cycles (commands_of lines) in record {
  replies = are_replies session cycles lines (record { edits = []; entries = [] });
  acknowledged = λ acks given. acked session cycles acks final
      (subst (λ l. is_lawful_newest session final.edits l ≡ true) (reverse-reverse final.entries) (plain_is_lawful session cycles (commands_of lines)))
      (within_all session cycles (commands_of lines) (record { edits = []; entries = [] }) (omega arith)) given lines (record { edits = []; entries = [] }) refl;
}
