-- On one thread each entry hears its own edition, and an edit is in the next cycle.
use Rattle.std.proofs.Common.{◌≡◌, ℕ, zero, suc, ◌+◌, ◌-◌, ◌≤◌, ◌<◌, List, [], ◌∷◌, ◌++◌, length, map, refl, sym, ap, le_trans, arith, ◌∙◌, append_assoc}
use Rattle.std.specs.Prelude.{Bool, true, false, min, if◌then◌else◌, All}
use Rattle.std.specs.List.{range_with_len}
use Rattle.std.proofs.lemmas.Bool.{true≢false}
use Rattle.std.proofs.lemmas.List.Elements.{All-append, All-cons, All-nil, All-weaker}
use Rattle.session_model.specs.declared.edit.Edit.{Edit}
use Rattle.session_model.specs.declared.session.Session.{Session}
use Rattle.engine_model.specs.Editions.{Edition, edition}
use Rattle.engine_model.specs.Edits.{generation, is_quit, playlist_edition, touches}
use Rattle.engine_model.specs.Journal.{Heard, Silent, Note, Entry, is_rolling, note_at, rolled}
use Rattle.engine_model.specs.Plain.{Command, Do, Wait, Sync, Run, accepted, accepts, needs_cycle, plain_cycles, plain_entry, plain_from, plain_note, plain_state, with_cycles, with_edit}
use Rattle.engine_laws.proofs.EditionLemmas.{one_longer}
use Rattle.engine_laws.proofs.NumberLemmas.{last_stays}
use Rattle.engine_laws.proofs.PlainLemmas.{range_step}
use Rattle.journal_laws.specs.OneThread.{HearsItsEdition, EachEntryHearsItsEdition}
use Rattle.journal_laws.proofs.JournalLemmas.{All-reverse}

-- ---- each entry

pub note_there : (f : ℕ → Note) (u i n : ℕ) → i < n → note_at i (map f (range_with_len u n)) ≡ f (u + i)
note_there f u i zero lt = absurd (omega arith)
note_there f u zero (suc n) lt = ap f {x = u} {y = u + 0} (omega arith)
note_there f u (suc i) (suc n) lt = ap (λ l. note_at (suc i) (map f l)) (range_step u n) ∙ note_there f (suc u) i n (omega arith) ∙ ap f {x = suc u + i} {y = u + suc i} (omega arith)

-- an entry hears its edition, which is one of these
record Hears (session : Session) (edits : List Edit) (e : Entry) : Type 0 where
  well : HearsItsEdition session edits e
  within : e.edition ≤ length edits

entry_hears : (session : Session) (edits : List Edit) (before : List Entry) → Hears session edits (plain_entry session edits before)
entry_hears session edits before = record {
  well = record {
    settled = refl;
    heard = λ rolls t lt. ap (λ (n : Note). n.play) (note_there (plain_note session edits now before) 0 t (length session.tracks.items) lt
        ∙ ap (plain_note session edits now before) {x = 0 + t} {y = t} (omega arith))
        ∙ ap (λ b. if b then Heard (playlist_edition session edits t (length edits)) else Silent) (rolling now.transport.rolling rolls);
  };
  within = omega arith;
}
  where
    now : Edition
    now = edition session edits (length edits)

    rolling : (b : Bool) → is_rolling (plain_state b (generation edits (length edits)) (rolled (generation edits (length edits)) before)) ≡ true → b ≡ true
    rolling true is = refl
    rolling false is = absurd (true≢false (sym is))

cycles_hear : (session : Session) (edits : List Edit) (n : ℕ) (before : List Entry) → All (Hears session edits) before → All (Hears session edits) (plain_cycles session edits n before)
cycles_hear session edits zero before all = all
cycles_hear session edits (suc n) before all = cycles_hear session edits n (plain_entry session edits before ∷ before)
    (All-cons (Hears session edits) (plain_entry session edits before) before (entry_hears session edits before) all)

edit_hears : (session : Session) (edits : List Edit) (e : Edit) (before : List Entry) → All (Hears session edits) before → All (Hears session (edits ++ e ∷ [])) before
edit_hears session edits e before all = All-weaker (Hears session edits) (Hears session (edits ++ e ∷ [])) (λ x old. record {
  well = record {
    settled = old.well.settled;
    heard = λ rolls t lt. old.well.heard rolls t lt ∙ ap Heard (sym (last_stays (touches session t) edits (e ∷ []) x.edition old.within));
  };
  within = omega (arith, old.within, one_longer edits e);
}) before all

AllHear : Session → Run → Type 0
AllHear session run = All (Hears session run.edits) run.entries

step_hears : (session : Session) (cycles : ℕ) (run : Run) (e : Edit) (cs : List Command) (taken quits : Bool) → AllHear session run → AllHear session (plain_from session cycles run cs) →
    (AllHear session (with_edit run e) → AllHear session (plain_from session cycles (with_edit run e) cs)) →
    AllHear session (if taken then (if quits then with_edit run e else plain_from session cycles (with_edit run e) cs) else plain_from session cycles run cs)
unfolding AllHear
step_hears session cycles run e cs false quits all same on = same
step_hears session cycles run e cs true true all same on = edit_hears session run.edits e run.entries all
step_hears session cycles run e cs true false all same on = on (edit_hears session run.edits e run.entries all)

sync_hears : (session : Session) (cycles : ℕ) (run : Run) (b : Bool) → AllHear session run → AllHear session (if b then with_cycles session cycles 1 run else run)
unfolding AllHear
sync_hears session cycles run true all = cycles_hear session run.edits (min 1 (cycles - length run.entries)) run.entries all
sync_hears session cycles run false all = all

from_hears : (session : Session) (cycles : ℕ) (cs : List Command) (run : Run) → AllHear session run → AllHear session (plain_from session cycles run cs)
unfolding AllHear
from_hears session cycles [] run all = cycles_hear session run.edits (min cycles (cycles - length run.entries)) run.entries all
from_hears session cycles (Do e ∷ cs) run all = step_hears session cycles run e cs (accepts session run e) (is_quit e) all (from_hears session cycles cs run all)
    (from_hears session cycles cs (with_edit run e))
from_hears session cycles (Wait n ∷ cs) run all = from_hears session cycles cs (with_cycles session cycles n run) (cycles_hear session run.edits (min n (cycles - length run.entries)) run.entries all)
from_hears session cycles (Sync ∷ cs) run all = let b = needs_cycle (length run.edits) run.entries in
    from_hears session cycles cs (if b then with_cycles session cycles 1 run else run) (sync_hears session cycles run b all)

pub each_entry_hears_its_edition : EachEntryHearsItsEdition
unfolding AllHear
each_entry_hears_its_edition session cycles commands = let edits = accepted session cycles commands in let run = plain_from session cycles (record { edits = []; entries = [] }) commands in
    All-reverse (HearsItsEdition session edits) run.entries (All-weaker (Hears session edits) (HearsItsEdition session edits) (λ e h. h.well) run.entries
    (from_hears session cycles commands (record { edits = []; entries = [] }) (All-nil (Hears session []))))

-- ---- the next cycle

-- entries go on from those before, in edition k or later
pub record Further (k : ℕ) (before after : List Entry) : Type 0 where
  pub new : List Entry
  pub on : after ≡ new ++ before
  pub edition : All (λ e. k ≤ e.edition) new

pub no_further : (k : ℕ) (before : List Entry) → Further k before before
no_further k before = record { new = []; on = refl; edition = All-nil (λ (e : Entry). k ≤ e.edition) }

pub further_on : (k : ℕ) (a b c : List Entry) → Further k a b → Further k b c → Further k a c
further_on k a b c first then_more = record {
  new = then_more.new ++ first.new;
  on = then_more.on ∙ ap (λ l. then_more.new ++ l) first.on ∙ sym (append_assoc then_more.new first.new a);
  edition = All-append (λ (e : Entry). k ≤ e.edition) then_more.new first.new then_more.edition first.edition;
}

one_further : (k : ℕ) (e : Entry) (before : List Entry) → k ≤ e.edition → Further k before (e ∷ before)
one_further k e before le = record { new = e ∷ []; on = refl; edition = All-cons (λ (x : Entry). k ≤ x.edition) e [] le (All-nil (λ (x : Entry). k ≤ x.edition)) }

pub cycles_further : (session : Session) (edits : List Edit) (n : ℕ) (before : List Entry) → Further (length edits) before (plain_cycles session edits n before)
cycles_further session edits zero before = no_further (length edits) before
cycles_further session edits (suc n) before = let e = plain_entry session edits before in
    further_on (length edits) before (e ∷ before) (plain_cycles session edits n (e ∷ before)) (one_further (length edits) e before (omega arith)) (cycles_further session edits n (e ∷ before))

further_less : (j k : ℕ) (before after : List Entry) → j ≤ k → Further k before after → Further j before after
further_less j k before after le more = record {
  new = more.new;
  on = more.on;
  edition = All-weaker (λ (e : Entry). k ≤ e.edition) (λ (e : Entry). j ≤ e.edition)
      (λ e h. le_trans le h) more.new more.edition;
}

step_further : (session : Session) (cycles : ℕ) (run : Run) (e : Edit) (cs : List Command) (taken quits : Bool) → Further (length run.edits) run.entries (plain_from session cycles run cs).entries →
    Further (length (run.edits ++ e ∷ [])) run.entries (plain_from session cycles (with_edit run e) cs).entries →
    Further (length run.edits) run.entries (if taken then (if quits then with_edit run e else plain_from session cycles (with_edit run e) cs) else plain_from session cycles run cs).entries
step_further session cycles run e cs false quits same on = same
step_further session cycles run e cs true true same on = no_further (length run.edits) run.entries
step_further session cycles run e cs true false same on = further_less (length run.edits) (length (run.edits ++ e ∷ [])) run.entries (plain_from session cycles (with_edit run e) cs).entries
    (omega (arith, one_longer run.edits e)) on

sync_further : (session : Session) (cycles : ℕ) (cs : List Command) (run : Run) (b : Bool) → Further (length run.edits) run.entries (plain_from session cycles run cs).entries →
    Further (length run.edits) (with_cycles session cycles 1 run).entries (plain_from session cycles (with_cycles session cycles 1 run) cs).entries →
    Further (length run.edits) run.entries (plain_from session cycles (if b then with_cycles session cycles 1 run else run) cs).entries
sync_further session cycles cs run false same on = same
sync_further session cycles cs run true same on = further_on (length run.edits) run.entries (with_cycles session cycles 1 run).entries
    (plain_from session cycles (with_cycles session cycles 1 run) cs).entries
    (cycles_further session run.edits (min 1 (cycles - length run.entries)) run.entries) on

pub from_further : (session : Session) (cycles : ℕ) (cs : List Command) (run : Run) → Further (length run.edits) run.entries (plain_from session cycles run cs).entries
from_further session cycles [] run = cycles_further session run.edits (min cycles (cycles - length run.entries)) run.entries
from_further session cycles (Do e ∷ cs) run = step_further session cycles run e cs (accepts session run e) (is_quit e) (from_further session cycles cs run)
    (from_further session cycles cs (with_edit run e))
from_further session cycles (Wait n ∷ cs) run = further_on (length run.edits) run.entries (with_cycles session cycles n run).entries
    (plain_from session cycles (with_cycles session cycles n run) cs).entries
    (cycles_further session run.edits (min n (cycles - length run.entries)) run.entries) (from_further session cycles cs (with_cycles session cycles n run))
from_further session cycles (Sync ∷ cs) run = sync_further session cycles cs run (needs_cycle (length run.edits) run.entries) (from_further session cycles cs run)
    (from_further session cycles cs (with_cycles session cycles 1 run))
