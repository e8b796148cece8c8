-- Patience and allowances in worked runs.
use Rattle.std.proofs.Common.{◌≡◌, inl, inr, ℕ, List, [], ◌∷◌, refl, true, false, Some, None}
use Rattle.session_model.specs.declared.edit.Edit.TheVariants.{Roll, Quit, Locate}
use Rattle.session_model.proofs.SessionVectors.{base}
use Rattle.engine_model.specs.Journal.{Heard, Entry}
use Rattle.engine_model.specs.Lines.{Line, Says}
use Rattle.engine_model.specs.Plain.{Do, Wait, Sync}
use Rattle.engine_model.specs.Waited.{are_waited, Grant, Grants, allowing, given_up, are_allowed, Pause, Sought, paces_from, are_all_grants, was_full, AreGranted}
use Rattle.engine_model.proofs.Worked.{rolling, wait_then_locate}

-- ---- patience

one_look_each : are_waited 1 (2 ∷ 2 ∷ 3 ∷ []) (2 ∷ 2 ∷ 3 ∷ []) ≡ true
one_look_each = refl

-- with a patience of 2 each has two looks of its own, of which the last noted it
two_looks_each : are_waited 2 (3 ∷ 4 ∷ []) (3 ∷ 3 ∷ 4 ∷ 4 ∷ []) ≡ true
two_looks_each = refl

-- a look that noted fewer items may be the first of them
more_came_meanwhile : are_waited 2 (3 ∷ []) (2 ∷ 3 ∷ []) ≡ true
more_came_meanwhile = refl

given_up_at_once : are_waited 2 (3 ∷ []) (3 ∷ []) ≡ false
given_up_at_once = refl

one_look_for_the_second : are_waited 2 (3 ∷ 4 ∷ []) (3 ∷ 3 ∷ 4 ∷ []) ≡ false
one_look_for_the_second = refl

never_noted : are_waited 2 (3 ∷ []) (2 ∷ 2 ∷ 4 ∷ 4 ∷ []) ≡ false
never_noted = refl

-- ---- which grants are sent: `roll`, `wait 1`, `locate 4`, `wait 1`, `quit`, of 2 cycles

abbrev lines : List Line
lines = Says (Do Roll) ∷ Says (Wait 1) ∷ Says (Do (Locate 4)) ∷ Says (Wait 1) ∷ Says (Do Quit) ∷ []

abbrev grant : ℕ → ℕ → Grant
grant cycles edition = record { cycles = cycles; edition = edition }

abbrev waits : List Grant
waits = grant 1 1 ∷ grant 1 2 ∷ grant 2 3 ∷ []

paces : paces_from base [] lines ≡ Pause 1 1 ∷ Pause 1 2 ∷ []
paces = refl

their_grants : are_all_grants base 2 wait_then_locate lines waits ≡ true
their_grants = refl

-- the end gives all cycles, in the last edition
no_end : are_all_grants base 2 wait_then_locate lines (grant 1 1 ∷ grant 1 2 ∷ []) ≡ false
no_end = refl

an_end_of_an_older_edition : are_all_grants base 2 wait_then_locate lines (grant 1 1 ∷ grant 1 2 ∷ grant 2 2 ∷ []) ≡ false
an_end_of_an_older_edition = refl

-- each wait gives its own cycles in its own edition
a_wait_too_early : are_all_grants base 2 wait_then_locate lines (grant 1 1 ∷ grant 1 1 ∷ grant 2 3 ∷ []) ≡ false
a_wait_too_early = refl

-- a sync gives any number of single cycles
abbrev synced : List Line
synced = Says (Do Roll) ∷ Says Sync ∷ []

sought : paces_from base [] synced ≡ Sought 1 ∷ []
sought = refl

no_single_cycle : are_all_grants base 2 (Roll ∷ []) synced (grant 2 1 ∷ []) ≡ true
no_single_cycle = refl

two_single_cycles : are_all_grants base 2 (Roll ∷ []) synced (grant 1 1 ∷ grant 1 1 ∷ grant 2 1 ∷ []) ≡ true
two_single_cycles = refl

two_cycles_at_once : are_all_grants base 3 (Roll ∷ []) synced (grant 2 1 ∷ grant 3 1 ∷ []) ≡ false
two_cycles_at_once = refl

-- ---- only where the ring was full are grants left out

abbrev ring : List Grant → ℕ → List ℕ → List ℕ → Grants
ring sent received tails heads = record { sent = sent; received = received; tails = tails; heads = heads }

all_were_sent : AreGranted base 2 wait_then_locate lines (ring waits 3 [] [])
all_were_sent = record { rest = []; in_order = refl; only_where_full = inl refl }

-- a ring of 2 was found full when none had been taken
the_last_left_out : AreGranted base 2 wait_then_locate lines (ring (grant 1 1 ∷ grant 1 2 ∷ []) 0 [] (0 ∷ []))
the_last_left_out = record { rest = grant 2 3 ∷ []; in_order = refl; only_where_full = inr refl }

full_when_one_was_taken : was_full 2 (ring (grant 1 1 ∷ grant 1 2 ∷ []) 1 [] (1 ∷ [])) ≡ false
full_when_one_was_taken = refl

never_full : was_full 2 (ring (grant 1 1 ∷ grant 1 2 ∷ []) 0 [] []) ≡ false
never_full = refl

-- ---- which entries are allowed

allowed_by : allowing 2 waits ≡ Some (2, grant 1 2)
allowed_by = refl

allowed_by_none : allowing 5 waits ≡ None
allowed_by_none = refl

abbrev journal : ℕ → List Entry
journal second = rolling 1 1 0 0 (Heard 0) ∷ rolling second 1 0 1 (Heard 0) ∷ []

allowed_entries : are_allowed 2 2 (ring waits 3 [] []) (journal 2) ≡ true
allowed_entries = refl

a_newer_entry : are_allowed 2 2 (ring waits 3 [] []) (journal 3) ≡ true
a_newer_entry = refl

-- the second entry is older than its grant
an_older_entry : are_allowed 2 2 (ring waits 3 [] []) (journal 1) ≡ false
an_older_entry = refl

-- and here its grant wasn't received
before_its_grant : are_allowed 2 2 (ring waits 1 [] []) (journal 2) ≡ false
before_its_grant = refl

-- a process that looked twice after the first grant has lost its patience, and plays on
lost_patience : given_up 2 (ring waits 3 (1 ∷ 1 ∷ []) []) ≡ Some 1
lost_patience = refl

patience_is_kept : given_up 2 (ring waits 3 (0 ∷ 1 ∷ []) []) ≡ None
patience_is_kept = refl

on_without_a_grant : are_allowed 2 2 (ring waits 1 (1 ∷ 1 ∷ []) []) (journal 1) ≡ true
on_without_a_grant = refl

-- the first entry is still bound
the_first_is_bound : are_allowed 2 2 (ring waits 1 (1 ∷ 1 ∷ []) []) (rolling 0 0 0 0 (Heard 0) ∷ []) ≡ false
the_first_is_bound = refl
