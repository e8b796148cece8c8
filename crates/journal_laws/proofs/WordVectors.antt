-- Worked values of the words that the laws of journals use.
use Rattle.std.proofs.Common.{◌≡◌, ℕ, suc, pos, ◌*◌, ◌<◌, List, [], ◌∷◌, refl, map, nat_lt, if◌then◌else◌, arith, sym, ap, ◌∙◌}
use Rattle.std.specs.Prelude.{◌+◌, ◌≤◌, zero, false, Option, Some, None, get_or}
use Rattle.engine_model.specs.Mixed.{is_block}
use Rattle.sound_model.specs.Numbers.{file_sample}
use Rattle.sound_model.specs.Layers.{track_sample}
use Rattle.sound_model.specs.Regions.{Sounds}
use Rattle.sound_model.specs.Routes.{input_within}
use Rattle.session_model.specs.declared.edit.Edit.TheVariants.{Roll, Quit}
use Rattle.session_model.specs.Frames.{interleaved}
use Rattle.session_model.proofs.SessionVectors.{base}
use Rattle.engine_model.specs.Items.{Kind, Piece, Settled, Blank}
use Rattle.engine_model.specs.Journal.{Heard, Take, Off, Taken, Lost, Stopped, Rolling, Entry}
use Rattle.engine_model.specs.Plain.{Do, Wait}
use Rattle.engine_model.specs.Takes.{Input}
use Rattle.engine_model.proofs.Worked.{mark_held, overwrite_heard, rolling}
use Rattle.journal_laws.specs.Blocks.{blocks_played}
use Rattle.journal_laws.specs.Exports.{master_from}
use Rattle.journal_laws.specs.OneThread.{run_so_far}
use Rattle.journal_laws.specs.OrderWords.{IsOrderedAsWorded}
use Rattle.journal_laws.specs.TakeRuns.{take_at, numbered, IsTakeOf}
use Rattle.journal_laws.specs.TakeSounds.{recorded_sample}
use Rattle.journal_laws.proofs.OrderWordLemmas.{ordered_as_worded}

-- ---- blocks

abbrev located : List Entry
located = rolling 1 1 0 0 (Heard 0) ∷ record { edition = 1; settled = 1; state = Stopped; notes = [] } ∷ rolling 1 1 0 1 (Heard 0) ∷ rolling 2 2 1 0 (Heard 0) ∷ []

of_the_first_generation : blocks_played 0 located ≡ 0 ∷ 1 ∷ []
of_the_first_generation = refl

of_the_second : blocks_played 1 located ≡ 0 ∷ []
of_the_second = refl

-- ---- takes

abbrev taking : ℕ → Take → Entry
taking s take = record { edition = 3; settled = 3; state = Rolling 0 s; notes = record { play = Heard 0; take = take } ∷ [] }

at_places : map (λ c. numbered (take_at 0 c (taking 0 (Taken 1 0) ∷ taking 1 Off ∷ taking 2 (Lost 2 0 0) ∷ []))) (0 ∷ 1 ∷ 2 ∷ 3 ∷ []) ≡ Some (1, 0) ∷ None ∷ Some (2, 0) ∷ None ∷ []
at_places = refl

-- a take with an entry between that takes nothing isn't one run
not_one_run : IsTakeOf 0 1 (taking 0 (Taken 1 0) ∷ taking 1 Off ∷ taking 2 (Taken 1 1) ∷ []) → ⊥
not_one_run run = nothing (sym (ap (λ n. numbered (take_at 0 n journal)) first) ∙ run.each 1 many)
  where
    journal : List Entry
    journal = taking 0 (Taken 1 0) ∷ taking 1 Off ∷ taking 2 (Taken 1 1) ∷ []

    first : run.first + 1 ≡ 1
    first = omega (arith, (run.only 0 refl).0)

    many : 1 < run.many
    many = omega (arith, (run.only 0 refl).0, (run.only 2 refl).1)

    nothing : ◌≡◌ {A = Option (ℕ × ℕ)} None (Some (1, 1)) → ⊥
    nothing e = cc

input : Input
input i c = pos (suc i)

-- the second frame of the second block of a take that begins in the second entry; its first block was lost
recorded : recorded_sample base input 0 1 (taking 0 Off ∷ taking 1 (Lost 1 0 0) ∷ taking 2 (Taken 1 1) ∷ []) 5 0 ≡ pos 10
unfolding input
recorded = refl

lost : recorded_sample base input 0 1 (taking 0 Off ∷ taking 1 (Lost 1 0 0) ∷ taking 2 (Taken 1 1) ∷ []) 1 0 ≡ pos 0
lost = refl

-- ---- a run so far

so_far : run_so_far base 3 (Do Roll ∷ Wait 1 ∷ []) ≡ record { edits = Roll ∷ []; entries = rolling 1 1 0 0 (Heard 0) ∷ [] }
so_far = refl

-- a quit ends it
until_the_quit : run_so_far base 3 (Do Quit ∷ Do Roll ∷ Wait 1 ∷ []) ≡ record { edits = Quit ∷ []; entries = [] }
until_the_quit = refl

-- ---- the order: what was sent over `roll`, `locate 4`, and lists that one sentence each refuses

well_ordered : IsOrderedAsWorded base mark_held 0 (Settled 1 0 0 ∷ Piece 0 0 0 0 ∷ Blank ∷ Piece 0 0 1 0 ∷ Settled 2 1 0 ∷ Piece 0 1 0 0 ∷ [])
well_ordered = (ordered_as_worded base mark_held 0 (Settled 1 0 0 ∷ Piece 0 0 0 0 ∷ Blank ∷ Piece 0 0 1 0 ∷ Settled 2 1 0 ∷ Piece 0 1 0 0 ∷ [])).0 refl

none : 1 ≤ 0 → ⊥
none le = absurd (omega arith)

two_of_none : 2 ≤ 0 → ⊥
two_of_none le = absurd (omega arith)

one_is_none : ◌≡◌ {A = ℕ} 1 0 → ⊥
one_is_none e = cc

generations_fall : IsOrderedAsWorded base mark_held 0 (Piece 0 1 0 0 ∷ Piece 0 0 0 0 ∷ []) → ⊥
generations_fall words = none (words.generations (Piece 0 1 0 0 ∷ []) [] (Piece 0 0 0 0) refl 0 Blank (omega arith) 1 0 refl refl)

playlists_fall : IsOrderedAsWorded base overwrite_heard 0 (Piece 0 0 0 2 ∷ Piece 0 0 1 0 ∷ []) → ⊥
playlists_fall words = two_of_none (words.touched (Piece 0 0 0 2 ∷ []) [] (Piece 0 0 1 0) refl 0 Blank (omega arith) 2 0 refl refl)

marks_fall : IsOrderedAsWorded base overwrite_heard 0 (Settled 1 0 0 ∷ Settled 0 0 0 ∷ []) → ⊥
marks_fall words = none (words.marks (Settled 1 0 0 ∷ []) [] (Settled 0 0 0) refl 0 Blank (omega arith) 1 0 refl refl)

of_another_track : IsOrderedAsWorded base overwrite_heard 0 (Piece 1 0 0 0 ∷ []) → ⊥
of_another_track words = one_is_none (words.pieces [] [] 1 0 0 0 refl).0

no_playlist_edition : IsOrderedAsWorded base overwrite_heard 0 (Piece 0 0 0 1 ∷ []) → ⊥
no_playlist_edition words = one_is_none (words.pieces [] [] 0 0 0 1 refl).1

a_mark_twice : IsOrderedAsWorded base overwrite_heard 0 (Settled 1 0 0 ∷ Settled 1 0 0 ∷ []) → ⊥
a_mark_twice words = (words.settled (Settled 1 0 0 ∷ []) [] 1 0 0 refl).2 0 Blank (omega arith) refl

old_after_its_mark : IsOrderedAsWorded base overwrite_heard 0 (Settled 2 0 0 ∷ Piece 0 0 0 0 ∷ []) → ⊥
old_after_its_mark words = two_of_none (words.after_marks (Settled 2 0 0 ∷ []) [] 0 0 0 0 refl 0 Blank (omega arith) 2 refl)

-- the block of the overwrite wasn't sent again before its mark
old_under_its_mark : IsOrderedAsWorded base overwrite_heard 0 (Piece 0 0 0 0 ∷ Settled 2 0 0 ∷ []) → ⊥
old_under_its_mark words = two_of_none (words.under_marks (Piece 0 0 0 0 ∷ []) [] 2 0 0 refl 0 0 (omega arith)
    (record { track = 0; before = []; after = []; at = refl; none_after = λ k d lt. absurd (omega arith) }))

-- a first piece of a block that stands after a later block's
out_of_turn : IsOrderedAsWorded base mark_held 0 (Piece 0 0 1 0 ∷ Piece 0 0 0 0 ∷ []) → ⊥
out_of_turn words = two_of_none (words.rising (Piece 0 0 1 0 ∷ []) [] 0 0 0 0 refl not_yet 0 Blank (omega arith) 1 refl)
  where
    not_yet : (k : ℕ) (d : Kind) → k < 1 → is_block 0 0 (get_or (Piece 0 0 1 0 ∷ []) k d) ≡ false
    not_yet zero d lt = refl
    not_yet (suc k) d lt = absurd (omega arith)

-- the nearest block was sent again before the farther one
nearest_first : IsOrderedAsWorded base overwrite_heard 0 (Piece 0 0 0 0 ∷ Piece 0 0 1 0 ∷ Piece 0 0 0 2 ∷ []) → ⊥
nearest_first words = two_of_none (words.along (Piece 0 0 0 0 ∷ Piece 0 0 1 0 ∷ Piece 0 0 0 2 ∷ []) [] refl 0 0 1 2 0 (omega arith)
    (record { track = 0; before = Piece 0 0 0 0 ∷ Piece 0 0 1 0 ∷ []; after = []; at = refl; none_after = λ k d lt. absurd (omega arith) })
    (record { track = 0; before = Piece 0 0 0 0 ∷ []; after = Piece 0 0 0 2 ∷ []; at = refl; none_after = another }))
  where
    another : (k : ℕ) (d : Kind) → k < 1 → is_block 0 1 (get_or (Piece 0 0 0 2 ∷ []) k d) ≡ false
    another zero d lt = refl
    another (suc k) d lt = absurd (omega arith)

-- ---- an export

-- a source of 8 frames: 100, 200, and so on
counting : Sounds
counting s i c = if nat_lt i 8 then pos (suc i * 25600) else pos 0

two_blocks : map (file_sample 16) (interleaved (master_from counting base 0) 1 0 8) ≡ pos 100 ∷ pos 200 ∷ pos 300 ∷ pos 400 ∷ pos 500 ∷ pos 600 ∷ pos 700 ∷ pos 800 ∷ []
unfolding counting track_sample input_within
two_blocks = refl

from_the_middle : map (file_sample 16) (interleaved (master_from counting base 6) 1 0 4) ≡ pos 700 ∷ pos 800 ∷ pos 0 ∷ pos 0 ∷ []
unfolding counting track_sample input_within
from_the_middle = refl
