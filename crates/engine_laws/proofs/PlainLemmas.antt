-- The plain journal is lawful: each of its entries is, after those before it.
use Rattle.std.proofs.Common.{◌≡◌, ℕ, zero, suc, ◌+◌, List, [], ◌∷◌, ◌++◌, length, map, refl, sym, ap, subst, arith, ◌∙◌}
use Rattle.std.specs.Prelude.{Bool, true, false, ◌&&◌, nat_eq, min, ◌-◌, if◌then◌else◌}
use Rattle.std.specs.List.{list_all, range_with_len}
use Rattle.std.proofs.lemmas.Bool.{and_from, eq-eqb, not_from_false}
use Rattle.std.proofs.lemmas.List.FromFn.{length-map-range_with_len}
use Rattle.session_model.specs.declared.edit.Edit.{Edit}
use Rattle.session_model.specs.declared.session.Session.{Session}
use Rattle.engine_model.specs.Editions.{Edition, IsAccepted, edition}
use Rattle.engine_model.specs.Edits.{generation, has_quit, holds_at, is_quit, playlist_edition, touches}
use Rattle.engine_model.specs.Fits.{are_heard_well, fits_in, fits_note, fits_notes, fits_play, fits_state, fits_take, is_heard_after, is_heard_well, is_lawful_after, is_lawful_newest, next_take, records}
use Rattle.engine_model.specs.Journal.{Entry, Heard, Play, Short, Silent, is_rolling, note_of, rolled}
use Rattle.engine_model.specs.Plain.{Command, Do, Run, Sync, Wait, accepts, needs_cycle, plain_cycles, plain_entry, plain_entry_in, plain_from, plain_note, plain_state, plain_take, with_cycles, with_edit}
use Rattle.engine_laws.proofs.EditionLemmas.{accepted_more, one_longer, quit_is, quit_stays}
use Rattle.engine_laws.proofs.LawfulLemmas.{fits_from, heard_from, lawful_from, lawful_stays, newest_after_all, none_is_newer, note_from}
use Rattle.engine_laws.proofs.NumberLemmas.{last_again, last_in}

-- ---- one entry fits

state_fits : (rolls : Bool) (tracks g n : ℕ) → fits_state rolls tracks g n (plain_state rolls g n) ≡ true
state_fits true tracks g n = and_from (nat_eq g g) (nat_eq n n) (eq-eqb g g refl) (eq-eqb n n refl)
state_fits false tracks g n = refl

rolls_is : (rolls : Bool) (g n : ℕ) → is_rolling (plain_state rolls g n) ≡ rolls
rolls_is true g n = refl
rolls_is false g n = refl

take_fits : (recorded : Bool) (next : ℕ × ℕ) → fits_take recorded next (plain_take recorded next) ≡ true
take_fits true next = and_from (nat_eq next.0 next.0) (nat_eq next.1 next.1) (eq-eqb next.0 next.0 refl) (eq-eqb next.1 next.1 refl)
take_fits false next = refl

play_fits : (rolls : Bool) (n p : ℕ) → fits_play rolls n (if rolls then Heard p else Silent) ≡ true
play_fits true n p = refl
play_fits false n p = refl

pub range_step : (t n : ℕ) → range_with_len t (suc n) ≡ t ∷ range_with_len (suc t) n
range_step t n = ap (λ u. t ∷ range_with_len u n) {x = t + 1} {y = suc t} (omega arith)

notes_fit : (session : Session) (edits : List Edit) (now : Edition) (n : ℕ) (before : List Entry) (t tracks : ℕ) →
    fits_notes now now.transport.rolling n before t (map (plain_note session edits now before) (range_with_len t tracks)) ≡ true
notes_fit session edits now n before t zero = refl
notes_fit session edits now n before t (suc tracks) = subst (λ ts. fits_notes now now.transport.rolling n before t (map (plain_note session edits now before) ts) ≡ true) (sym (range_step t tracks)) (and_from (fits_note now now.transport.rolling n before t (plain_note session edits now before t))
    (fits_notes now now.transport.rolling n before (suc t) (map (plain_note session edits now before) (range_with_len (suc t) tracks)))
    (and_from (fits_play now.transport.rolling n (plain_note session edits now before t).play)
    (fits_take (now.transport.rolling && records now t) (next_take t before) (plain_note session edits now before t).take)
    (play_fits now.transport.rolling n (playlist_edition session edits t (length edits))) (take_fits (now.transport.rolling && records now t) (next_take t before)))
    (notes_fit session edits now n before (suc t) tracks))

entry_fits_in : (session : Session) (edits : List Edit) (now : Edition) (before : List Entry) →
    fits_in session now (generation edits (length edits)) before (plain_entry_in session edits now before) ≡ true
entry_fits_in session edits now before = let e = plain_entry_in session edits now before in let g = generation edits (length edits) in let n = rolled g before in
    let tracks = length session.tracks.items in
    and_from (fits_state now.transport.rolling tracks g n e.state && nat_eq (length e.notes) tracks) (fits_notes now (is_rolling e.state) n before 0 e.notes)
    (and_from (fits_state now.transport.rolling tracks g n e.state) (nat_eq (length e.notes) tracks)
    (state_fits now.transport.rolling tracks g n) (eq-eqb (length e.notes) tracks (length-map-range_with_len (plain_note session edits now before) 0 tracks)))
    (ap (λ r. fits_notes now r n before 0 e.notes) (rolls_is now.transport.rolling g n) ∙ notes_fit session edits now n before 0 tracks)

-- ---- one entry is lawful

play_well : (session : Session) (edits : List Edit) (rolls : Bool) (t : ℕ) →
    is_heard_well session edits (length edits) t (if rolls then Heard (playlist_edition session edits t (length edits)) else Silent) ≡ true
play_well session edits true t = let p = playlist_edition session edits t (length edits) in
    heard_from session edits (length edits) t p (sym (last_again (touches session t) edits (length edits))) (last_in (touches session t) edits (length edits)) (omega arith)
play_well session edits false t = refl

silent_after : (play : Play) → is_heard_after play Silent ≡ true
silent_after (Heard p) = refl
silent_after Silent = refl
silent_after (Short tail) = refl

silence_after : (before : List Entry) (t : ℕ) → list_all (λ old. is_heard_after (note_of t old).play Silent) before ≡ true
silence_after [] t = refl
silence_after (e ∷ before) t = and_from (is_heard_after (note_of t e).play Silent) (list_all (λ old. is_heard_after (note_of t old).play Silent) before) (silent_after (note_of t e).play) (silence_after before t)

play_after : (session : Session) (edits : List Edit) (rolls : Bool) (t : ℕ) (before : List Entry) → is_lawful_newest session edits before ≡ true →
    list_all (λ old. is_heard_after (note_of t old).play (if rolls then Heard (playlist_edition session edits t (length edits)) else Silent)) before ≡ true
play_after session edits true t before h = newest_after_all session edits t before h
play_after session edits false t before h = silence_after before t

notes_well : (session : Session) (edits : List Edit) (now : Edition) (before : List Entry) (t tracks : ℕ) → is_lawful_newest session edits before ≡ true →
    are_heard_well session edits (length edits) before t (map (plain_note session edits now before) (range_with_len t tracks)) ≡ true
notes_well session edits now before t zero h = refl
notes_well session edits now before t (suc tracks) h = subst (λ ts. are_heard_well session edits (length edits) before t (map (plain_note session edits now before) ts) ≡ true) (sym (range_step t tracks)) (note_from session edits (length edits) t before (plain_note session edits now before t)
    (map (plain_note session edits now before) (range_with_len (suc t) tracks))
    (play_well session edits now.transport.rolling t) (play_after session edits now.transport.rolling t before h) (notes_well session edits now before (suc t) tracks h))

entry_is_lawful : (session : Session) (edits : List Edit) (before : List Entry) → has_quit edits (length edits) ≡ false → is_lawful_newest session edits before ≡ true →
    is_lawful_newest session edits (plain_entry session edits before ∷ before) ≡ true
entry_is_lawful session edits before unended h = let e = plain_entry session edits before in
    and_from (is_lawful_after session edits before e) (is_lawful_newest session edits before)
    (lawful_from session edits before e record {
      fit = fits_from session edits before e (omega arith) (not_from_false (has_quit edits (length edits)) unended) (entry_fits_in session edits (edition session edits (length edits)) before);
      no_older = none_is_newer session edits before e refl refl h;
      settled = omega arith;
      heard = notes_well session edits (edition session edits (length edits)) before 0 (length session.tracks.items) h;
    }) h

cycles_are_lawful : (session : Session) (edits : List Edit) (n : ℕ) (before : List Entry) → has_quit edits (length edits) ≡ false → is_lawful_newest session edits before ≡ true →
    is_lawful_newest session edits (plain_cycles session edits n before) ≡ true
cycles_are_lawful session edits zero before unended h = h
cycles_are_lawful session edits (suc n) before unended h = cycles_are_lawful session edits n (plain_entry session edits before ∷ before) unended (entry_is_lawful session edits before unended h)

-- ---- a list of commands

abbrev IsLawful : Session → Run → Type 0
IsLawful session run = is_lawful_newest session run.edits run.entries ≡ true

abbrev IsOpen : Run → Type 0
IsOpen run = has_quit run.edits (length run.edits) ≡ false

pub held_at_the_end : (f : Edit → Bool) (edits : List Edit) (e : Edit) → holds_at f (edits ++ e ∷ []) (length edits) ≡ f e
held_at_the_end f [] e = refl
held_at_the_end f (x ∷ xs) e = held_at_the_end f xs e

no_quit_at_the_end : (edits : List Edit) (e : Edit) → is_quit e ≡ false → has_quit edits (length edits) ≡ false → has_quit (edits ++ e ∷ []) (length (edits ++ e ∷ [])) ≡ false
no_quit_at_the_end edits e other unended = subst (λ n. has_quit (edits ++ e ∷ []) n ≡ false) (sym (one_longer edits e))
    (ap (λ b. if b then true else has_quit (edits ++ e ∷ []) (length edits)) (held_at_the_end is_quit edits e ∙ other) ∙ quit_stays edits (e ∷ []) (length edits) (omega arith) ∙ unended)

edit_keeps : (session : Session) (run : Run) (e : Edit) → IsLawful session run → IsLawful session (with_edit run e)
edit_keeps session run e h = lawful_stays session run.edits (e ∷ []) run.entries h

cycles_keep : (session : Session) (cycles n : ℕ) (run : Run) → IsOpen run → IsLawful session run → IsLawful session (with_cycles session cycles n run)
cycles_keep session cycles n run unended h = cycles_are_lawful session run.edits (min n (cycles - length run.entries)) run.entries unended h

sync_keeps : (session : Session) (cycles : ℕ) (run : Run) (b : Bool) → IsOpen run → IsLawful session run → IsLawful session (if b then with_cycles session cycles 1 run else run)
sync_keeps session cycles run true unended h = cycles_keep session cycles 1 run unended h
sync_keeps session cycles run false unended h = h

sync_open : (session : Session) (cycles : ℕ) (run : Run) (b : Bool) → IsOpen run → IsOpen (if b then with_cycles session cycles 1 run else run)
sync_open session cycles run true unended = unended
sync_open session cycles run false unended = unended

-- what follows an edit that is accepted or not, and a quit or not
edit_step : (session : Session) (cycles : ℕ) (run : Run) (e : Edit) (cs : List Command) (accepted quits : Bool) → accepts session run e ≡ accepted → is_quit e ≡ quits →
    IsLawful session run → IsLawful session (plain_from session cycles run cs) → (quits ≡ false → IsLawful session (plain_from session cycles (with_edit run e) cs)) →
    IsLawful session (if accepted then (if quits then with_edit run e else plain_from session cycles (with_edit run e) cs) else plain_from session cycles run cs)
edit_step session cycles run e cs false quits a q h refused done = refused
edit_step session cycles run e cs true true a q h refused done = edit_keeps session run e h
edit_step session cycles run e cs true false a q h refused done = done refl

pub plain_from_is_lawful : (session : Session) (cycles : ℕ) (cs : List Command) (run : Run) → IsOpen run → IsLawful session run → IsLawful session (plain_from session cycles run cs)
plain_from_is_lawful session cycles [] run unended h = cycles_keep session cycles cycles run unended h
plain_from_is_lawful session cycles (Do e ∷ cs) run unended h = edit_step session cycles run e cs (accepts session run e) (is_quit e) refl refl h
    (plain_from_is_lawful session cycles cs run unended h)
    (λ other. plain_from_is_lawful session cycles cs (with_edit run e) (no_quit_at_the_end run.edits e other unended) (edit_keeps session run e h))
plain_from_is_lawful session cycles (Wait n ∷ cs) run unended h = plain_from_is_lawful session cycles cs (with_cycles session cycles n run) unended (cycles_keep session cycles n run unended h)
plain_from_is_lawful session cycles (Sync ∷ cs) run unended h = let b = needs_cycle (length run.edits) run.entries in
    plain_from_is_lawful session cycles cs (if b then with_cycles session cycles 1 run else run) (sync_open session cycles run b unended) (sync_keeps session cycles run b unended h)

-- ---- the edits of the commands

-- the edits of a run are accepted, and none of them is a quit
pub record IsRunOfEdits (session : Session) (run : Run) : Type 0 where
  pub edits : IsAccepted session run.edits
  pub unended : IsOpen run

next_accepted : (session : Session) (run : Run) (e : Edit) → IsRunOfEdits session run → accepts session run e ≡ true → IsAccepted session (with_edit run e).edits
next_accepted session run e h ok = accepted_more session run.edits e h.edits (quit_is session run.edits (length run.edits) h.edits (omega arith) ∙ h.unended) ok

sync_accepted : (session : Session) (cycles : ℕ) (cs : List Command) (run : Run) (b : Bool) → IsAccepted session (plain_from session cycles (with_cycles session cycles 1 run) cs).edits →
    IsAccepted session (plain_from session cycles run cs).edits → IsAccepted session (plain_from session cycles (if b then with_cycles session cycles 1 run else run) cs).edits
sync_accepted session cycles cs run true played not_played = played
sync_accepted session cycles cs run false played not_played = not_played

step_accepted : (session : Session) (cycles : ℕ) (run : Run) (e : Edit) (cs : List Command) (taken quits : Bool) → accepts session run e ≡ taken → is_quit e ≡ quits → IsRunOfEdits session run →
    IsAccepted session (plain_from session cycles run cs).edits → (IsAccepted session (with_edit run e).edits → quits ≡ false → IsAccepted session (plain_from session cycles (with_edit run e) cs).edits) →
    IsAccepted session (if taken then (if quits then with_edit run e else plain_from session cycles (with_edit run e) cs) else plain_from session cycles run cs).edits
step_accepted session cycles run e cs false quits a q h refused done = refused
step_accepted session cycles run e cs true true a q h refused done = next_accepted session run e h a
step_accepted session cycles run e cs true false a q h refused done = done (next_accepted session run e h a) refl

pub plain_edits_are_accepted : (session : Session) (cycles : ℕ) (cs : List Command) (run : Run) → IsRunOfEdits session run → IsAccepted session (plain_from session cycles run cs).edits
plain_edits_are_accepted session cycles [] run h = h.edits
plain_edits_are_accepted session cycles (Do e ∷ cs) run h = step_accepted session cycles run e cs (accepts session run e) (is_quit e) refl refl h
    (plain_edits_are_accepted session cycles cs run h)
    (λ next other. plain_edits_are_accepted session cycles cs (with_edit run e) record { edits = next; unended = no_quit_at_the_end run.edits e other h.unended })
plain_edits_are_accepted session cycles (Wait n ∷ cs) run h = plain_edits_are_accepted session cycles cs (with_cycles session cycles n run) record { edits = h.edits; unended = h.unended }
plain_edits_are_accepted session cycles (Sync ∷ cs) run h = sync_accepted session cycles cs run (needs_cycle (length run.edits) run.entries)
    (plain_edits_are_accepted session cycles cs (with_cycles session cycles 1 run) record { edits = h.edits; unended = h.unended }) (plain_edits_are_accepted session cycles cs run h)
