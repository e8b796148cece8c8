-- Patience, and how control allows cycles to a process that runs beside it (own). Lists stand oldest first here.
use Rattle.std.specs.Prelude.{◌≡◌, ◌⊎◌, ℕ, zero, suc, ◌+◌, ◌-◌, ◌^◌, Bool, true, false, ◌&&◌, ◌||◌, ◌==◌, nat_le, nat_lt, if◌then◌else◌, List, [], ◌∷◌, ◌++◌, length, take, filter, find, Option, Some, None}
use Rattle.std.specs.List.{range_with_len}
use Rattle.std.specs.Option.{option_map_or}
use Rattle.session_model.specs.declared.session.Session.{Session}
use Rattle.session_model.specs.declared.edit.Edit.{Edit}
use Rattle.engine_model.specs.Edits.{is_quit}
use Rattle.engine_model.specs.Journal.{Entry}
use Rattle.engine_model.specs.Plain.{Do, Wait, Sync}
use Rattle.engine_model.specs.Lines.{Line, Nothing, Says, Unread, accepts_after}

-- ---- patience: a piece that isn't there is looked for so many times in its cycle

-- each number has so many looks of its own, in their order, of which the last one noted it; `left` are to be passed before the next
abbrev pub are_waited_from : ℕ → ℕ → List ℕ → List ℕ → Bool
are_waited_from patience left [] tails = true
are_waited_from patience left (n ∷ ns) [] = false
are_waited_from patience (suc left) (n ∷ ns) (tail ∷ tails) = are_waited_from patience left (n ∷ ns) tails
are_waited_from patience zero (n ∷ ns) (tail ∷ tails) = if tail == n then are_waited_from patience (patience - 1) ns tails
    else are_waited_from patience zero (n ∷ ns) tails

abbrev pub are_waited : ℕ → List ℕ → List ℕ → Bool
are_waited patience looked tails = are_waited_from patience (patience - 1) looked tails

-- ---- allowances

-- so many cycles more, given after so many edits were accepted
pub record Grant : Type 0 where
  pub cycles : ℕ
  pub edition : ℕ

-- what a ring of grants shows: what was sent, how much of it was received, and the numbers noted at looks that found none and at a full ring
pub record Grants : Type 0 where
  pub sent : List Grant
  pub received : ℕ
  pub tails : List ℕ
  pub heads : List ℕ

-- the cycles that grants allow together
abbrev pub allowed : List Grant → ℕ
allowed [] = 0
allowed (g ∷ gs) = g.cycles + allowed gs

-- the first grant by which entry c is allowed, with its number, both from 1; `j` grants stand before, that allow `a` cycles
abbrev pub allowing_from : ℕ → ℕ → ℕ → List Grant → Option (ℕ × Grant)
allowing_from c j a [] = None
allowing_from c j a (g ∷ gs) = if nat_le c (a + g.cycles) then Some (suc j, g) else allowing_from c (suc j) (a + g.cycles) gs

abbrev pub allowing : ℕ → List Grant → Option (ℕ × Grant)
allowing c grants = allowing_from c 0 0 grants

abbrev pub is_allowed_by : Grants → ℕ → Option (ℕ × Grant) → Bool
is_allowed_by grants edition None = false
is_allowed_by grants edition (Some found) = nat_le found.0 grants.received && nat_le found.1.edition edition

-- the entries, of which the first is entry c: those up to `most` are each allowed by a grant that was received, and are no older than it
abbrev pub are_allowed_from : Grants → ℕ → ℕ → List Entry → Bool
are_allowed_from grants most c [] = true
are_allowed_from grants most c (e ∷ es) = (nat_lt most c || is_allowed_by grants e.edition (allowing c grants.sent)) && are_allowed_from grants most (suc c) es

-- how often a number was noted
abbrev pub times : ℕ → List ℕ → ℕ
times n tails = length (filter (λ x. x == n) tails)

-- the least number of grants at which the process lost its patience
abbrev pub given_up : ℕ → Grants → Option ℕ
given_up patience grants = find (λ n. nat_le patience (times n grants.tails)) (range_with_len 0 (suc (length grants.sent)))

-- up to which entry the rule is said
abbrev pub bound_until : ℕ → Grants → Option ℕ → ℕ
bound_until cycles grants None = cycles
bound_until cycles grants (Some n) = allowed (take n grants.sent)

-- a journal keeps the allowances
abbrev pub are_allowed : ℕ → ℕ → Grants → List Entry → Bool
are_allowed patience cycles grants journal = are_allowed_from grants (bound_until cycles grants (given_up patience grants)) 1 journal

-- ---- which grants are sent

pub data Pace : Type 0 where
  -- so many cycles, in an edition
  Pause : ℕ → ℕ → Pace
  -- any number of single cycles, in an edition
  Sought : ℕ → Pace

-- what the lines ask for, after so many accepted edits
abbrev pub paces_from : Session → List Edit → List Line → List Pace
paces_from session edits [] = []
paces_from session edits (Nothing ∷ ls) = paces_from session edits ls
paces_from session edits (Unread why ∷ ls) = paces_from session edits ls
paces_from session edits (Says (Wait n) ∷ ls) = Pause n (length edits) ∷ paces_from session edits ls
paces_from session edits (Says Sync ∷ ls) = Sought (length edits) ∷ paces_from session edits ls
paces_from session edits (Says (Do edit) ∷ ls) = if accepts_after session edits edit
    then (if is_quit edit then [] else paces_from session (edits ++ edit ∷ []) ls)
    else paces_from session edits ls

abbrev pub is_grant : ℕ → ℕ → Grant → Bool
is_grant cycles edition g = g.cycles == cycles && g.edition == edition

-- any number of single cycles in edition k, and then as it is said
abbrev pub go_singly : ℕ → (List Grant → Bool) → List Grant → Bool
go_singly k rest [] = rest []
go_singly k rest (g ∷ gs) = rest (g ∷ gs) || (is_grant 1 k g && go_singly k rest gs)

-- the grants go through what is asked in its order; those of `ends` may follow
abbrev pub go_through : (List Grant → Bool) → List Pace → List Grant → Bool
go_through ends [] gs = ends gs
go_through ends (Pause n k ∷ ps) [] = false
go_through ends (Pause n k ∷ ps) (g ∷ gs) = is_grant n k g && go_through ends ps gs
go_through ends (Sought k ∷ ps) gs = go_singly k (go_through ends ps) gs

-- all that was asked, and at last all the cycles of the run in its last edition
abbrev pub is_last_grant : ℕ → ℕ → List Grant → Bool
is_last_grant cycles edition [] = false
is_last_grant cycles edition (g ∷ []) = is_grant cycles edition g
is_last_grant cycles edition (g ∷ h ∷ gs) = false

abbrev pub are_all_grants : Session → ℕ → List Edit → List Line → List Grant → Bool
are_all_grants session cycles edits lines grants = go_through (is_last_grant cycles (length edits)) (paces_from session [] lines) grants

-- the last number of a list
abbrev pub last_of : List ℕ → Option ℕ
last_of [] = None
last_of (n ∷ []) = Some n
last_of (n ∷ m ∷ ns) = last_of (m ∷ ns)

-- the ring was found full after so many had been sent, or can take no more
abbrev pub was_full : ℕ → Grants → Bool
was_full depth grants = option_map_or (λ h. h + depth == length grants.sent) (last_of grants.heads) false || length grants.sent == 2 ^ 62

-- The grants that were sent of the lines of a run with these accepted edits: all, or those before one that found the ring full.
pub record AreGranted (session : Session) (cycles : ℕ) (edits : List Edit) (lines : List Line) (grants : Grants) : Type 0 where
  pub rest : List Grant
  pub in_order : are_all_grants session cycles edits lines (grants.sent ++ rest) ≡ true
  pub only_where_full : (rest ≡ []) ⊎ (was_full session.depth grants ≡ true)
