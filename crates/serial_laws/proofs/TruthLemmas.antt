-- Why replies hold, and are true.
use Rattle.std.proofs.Common.{◌≡◌, inl, inr, ℕ, zero, suc, ◌-◌, List, [], ◌∷◌, ◌++◌, refl, sym, ap, subst, ◌∙◌}
use Rattle.std.specs.Prelude.{true, false, nat_lt, nat_le, reverse, slice_get, Option, Some, None}
use Rattle.std.specs.List.{list_all}
use Rattle.std.specs.Option.{option_map_or}
use Rattle.std.proofs.lemmas.Bool.{and_from, and_parts, true≢false, false≢true}
use Rattle.std.proofs.lemmas.List.{reverse-append}
use Rattle.std.proofs.lemmas.Option.{none-some, same_Some, slice_get_within}
use Rattle.engine_model.specs.Due.{Ack}
use Rattle.engine_model.specs.Journal.{Entry}
use Rattle.engine_model.specs.Replies.{Reply, Accepted, Refused, LineRefused, Done, Synced, NotSynced, is_acknowledged}
use Rattle.engine_laws.proofs.EditionLemmas.{get_stays}
use Rattle.machine_model.specs.Control.{is_played_out}
use Rattle.machine_model.specs.Core.{Core}
use Rattle.machine_model.specs.Letters.{Machine}
use Rattle.machine_laws.proofs.TruthLemmas as machine
use Rattle.machine_laws.proofs.TrueReplies.{control_holds}
use Rattle.serial_laws.specs.Standing.{machine_of}
use Rattle.serial_laws.specs.Truth.{Holds, AllHold, AnswersHold, AnswersHoldOn, AreOfEntries, WhatHoldsIsTrue}

-- ---- as the core machine has it

to_machine : (cycles : ℕ) (c : Core) (replies : List Reply) → AllHold (is_played_out cycles c) c.entries replies → machine.AllHold cycles c replies
to_machine cycles c [] h = tt
to_machine cycles c (reply ∷ replies) h = (one reply h.0, to_machine cycles c replies h.1)
  where
    one : (r : Reply) → Holds (is_played_out cycles c) c.entries r → machine.Holds cycles c r
    one (Accepted k) h = tt
    one (Refused why) h = tt
    one (LineRefused why) h = tt
    one Done h = tt
    one (Synced k n) h = h
    one (NotSynced k) h = h

from_machine : (cycles : ℕ) (c : Core) (replies : List Reply) → machine.AllHold cycles c replies → AllHold (is_played_out cycles c) c.entries replies
from_machine cycles c [] h = tt
from_machine cycles c (reply ∷ replies) h = (one reply h.0, from_machine cycles c replies h.1)
  where
    one : (r : Reply) → machine.Holds cycles c r → Holds (is_played_out cycles c) c.entries r
    one (Accepted k) h = tt
    one (Refused why) h = tt
    one (LineRefused why) h = tt
    one Done h = tt
    one (Synced k n) h = h
    one (NotSynced k) h = h

pub answers_hold : AnswersHold
answers_hold s cycles old new taken carries lawful h = from_machine cycles old.core new.replies
    (subst (λ (m : Machine). machine.AllHold cycles old.core m.control.replies) (carries.letter [] (λ ended quit. refl))
    (control_holds s cycles old.core lawful (machine_of old (taken ++ [])).control old.awaits (to_machine cycles old.core old.replies h)))

-- ---- while the journal grows

there_still : (xs ys : List Entry) (k n : ℕ) → option_map_or (λ e. nat_le k e.settled) (slice_get xs n) false ≡ true → option_map_or (λ e. nat_le k e.settled) (slice_get (xs ++ ys) n) false ≡ true
there_still xs ys k n h = by (slice_get xs n) refl h
  where
    by : (o : Option Entry) → slice_get xs n ≡ o → option_map_or (λ e. nat_le k e.settled) o false ≡ true → option_map_or (λ e. nat_le k e.settled) (slice_get (xs ++ ys) n) false ≡ true
    by None is e = absurd (false≢true e)
    by (Some x) is e = ap (λ o. option_map_or (λ e. nat_le k e.settled) o false) (get_stays xs ys n (slice_get_within xs n x is) ∙ is) ∙ e

pub answers_hold_on : AnswersHoldOn
answers_hold_on over over_now entries now [] grows h = tt
answers_hold_on over over_now entries now (reply ∷ replies) grows h = (one reply h.0, answers_hold_on over over_now entries now replies grows h.1)
  where
    one : (r : Reply) → Holds over entries r → Holds over_now now r
    one (Accepted k) h = tt
    one (Refused why) h = tt
    one (LineRefused why) h = tt
    one Done h = tt
    one (Synced k n) h = (
      h.0,
      elim grows.entries_are [
        | inl same ↦ ap (λ es. option_map_or (λ e. nat_le k e.settled) (slice_get (reverse es) (n - 1)) false) same ∙ h.1
        | inr more ↦ ap (λ es. option_map_or (λ e. nat_le k e.settled) (slice_get es (n - 1)) false) (ap reverse more.1 ∙ reverse-append (more.0 ∷ []) entries)
            ∙ there_still (reverse entries) (more.0 ∷ []) k (n - 1) h.1
      ],
    )
    one (NotSynced k) h = (
      grows.stays_over h.0,
      elim grows.entries_are [
        | inl same ↦ ap (list_all (λ e. nat_lt e.settled k)) same ∙ h.1
        | inr more ↦ absurd (true≢false (sym h.0 ∙ more.2))
      ],
    )

-- ---- what holds is true

-- what is so of each entry is so of one of them
of_one : (k : ℕ) (entries : List Entry) (n : ℕ) (e : Entry) → list_all (λ o. nat_lt o.settled k) entries ≡ true → slice_get entries n ≡ Some e → nat_lt e.settled k ≡ true
of_one k [] n e low there = absurd (none-some e there)
of_one k (x ∷ entries) zero e low there = ap (λ o. nat_lt o.settled k) (sym (same_Some x e there)) ∙ (and_parts (nat_lt x.settled k) (list_all (λ o. nat_lt o.settled k) entries) low).0
of_one k (x ∷ entries) (suc n) e low there = of_one k entries n e (and_parts (nat_lt x.settled k) (list_all (λ o. nat_lt o.settled k) entries) low).1 there

low_acks : (k : ℕ) (entries : List Entry) (acks : List Ack) → AreOfEntries entries acks → list_all (λ e. nat_lt e.settled k) entries ≡ true → list_all (λ a. nat_lt a.settled k) acks ≡ true
low_acks k entries [] of low = refl
low_acks k entries (a ∷ acks) of low = and_from (nat_lt a.settled k) (list_all (λ b. nat_lt b.settled k) acks)
    (ap (λ n. nat_lt n k) of.0.settled ∙ of_one k entries of.0.place of.0.entry low of.0.there) (low_acks k entries acks of.1 low)

pub what_holds_is_true : WhatHoldsIsTrue
what_holds_is_true over entries acks [] of h = refl
what_holds_is_true over entries acks (reply ∷ replies) of h = and_from (is_acknowledged acks (reverse entries) reply) (list_all (is_acknowledged acks (reverse entries)) replies) (one reply h.0)
    (what_holds_is_true over entries acks replies of h.1)
  where
    one : (r : Reply) → Holds over entries r → is_acknowledged acks (reverse entries) r ≡ true
    one (Accepted k) h = refl
    one (Refused why) h = refl
    one (LineRefused why) h = refl
    one Done h = refl
    one (Synced k n) h = and_from (nat_lt 0 n) (option_map_or (λ e. nat_le k e.settled) (slice_get (reverse entries) (n - 1)) false) h.0 h.1
    one (NotSynced k) h = low_acks k entries acks of h.1
