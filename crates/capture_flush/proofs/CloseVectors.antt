-- Worked values of the takes of a journal, and of the files when they are closed: blocks of 4 frames, 16 bits, one channel.
use Rattle.std.proofs.Common.{◌≡◌, ℕ, suc, pos, ◌*◌, List, [], ◌∷◌, ◌++◌, refl, true, false, if◌then◌else◌, nat_lt}
use Rattle.std.specs.Prelude.{Some, None, map, reverse, replicate}
use Rattle.sound_model.specs.Wav.{canon, header}
use Rattle.session_model.specs.declared.session.Session.{Session}
use Rattle.session_model.proofs.SessionVectors.{base}
use Rattle.engine_model.specs.Journal.{Heard, Take, Off, Taken, Lost, Rolling, Entry}
use Rattle.engine_model.specs.Takes.{Input, take_file, take_form}
use Rattle.capture_flush.specs.Blocks.{kept, taken_blocks}
use Rattle.capture_flush.specs.Closing.{closed_file, ending, runs_of}
use Rattle.capture_flush.specs.Finished.{are_counted, names_take}
use Rattle.capture_flush.specs.Flushed.{block_bytes, flushed_file, head_of, stated}

-- the frames 1, 2 and so on
counting : Input
counting i c = if nat_lt i 100 then pos (suc i * 256) else pos 0

abbrev taking : ℕ → Take → Entry
taking s take = record { edition = 3; settled = 3; state = Rolling 0 s; notes = record { play = Heard 0; take = take } ∷ [] }

-- the first block of take 1 and its last are lost, and so is all of take 2
abbrev journal : List Entry
journal = taking 0 (Lost 1 0 0) ∷ taking 1 (Taken 1 1) ∷ taking 2 (Lost 1 2 0) ∷ taking 3 Off ∷ taking 4 (Lost 2 0 0) ∷ []

two_takes : runs_of 0 journal ≡ record { take = 1; blocks = 3; filled = 2 } ∷ record { take = 2; blocks = 1; filled = 0 } ∷ []
two_takes = refl

counted : are_counted 0 (reverse journal) ≡ true
counted = refl

-- an index that is left out isn't counted
not_counted : are_counted 0 (reverse (taking 0 (Taken 1 0) ∷ taking 1 (Taken 1 2) ∷ [])) ≡ false
not_counted = refl

-- and neither is a take that goes on after a note of none
not_anew : are_counted 0 (reverse (taking 0 (Taken 1 0) ∷ taking 1 Off ∷ taking 2 (Taken 1 1) ∷ [])) ≡ false
not_anew = refl

named : map (λ n. names_take 0 n journal) (0 ∷ 1 ∷ 2 ∷ 3 ∷ []) ≡ false ∷ true ∷ true ∷ false ∷ []
named = refl

-- before it is closed the file of take 1 has a head, zeros for the first block, and the second, whose frames are 5 to 8; its blocks are shorter than a head, which tells of one
flushed : flushed_file base 0 1 (kept base 0 (taken_blocks base counting 0 journal))
    ≡ Some (header (take_form base 0) 8 ++ (0 ∷ 0 ∷ 0 ∷ 0 ∷ 0 ∷ 0 ∷ 0 ∷ 0 ∷ 5 ∷ 0 ∷ 6 ∷ 0 ∷ 7 ∷ 0 ∷ 8 ∷ 0 ∷ []))
unfolding counting header head_of
flushed = refl

no_file : flushed_file base 0 2 (kept base 0 (taken_blocks base counting 0 journal)) ≡ None
unfolding counting
no_file = refl

eight_bytes : block_bytes base 0 ≡ 8
eight_bytes = refl

one_more_block : ending base 0 (record { take = 1; blocks = 3; filled = 2 }) ≡ replicate 8 0
one_more_block = refl

head_and_a_block : ending base 0 (record { take = 2; blocks = 1; filled = 0 }) ≡ header (take_form base 0) 0 ++ replicate 8 0
head_and_a_block = refl

closed : closed_file base 0 (record { take = 1; blocks = 3; filled = 2 }) (header (take_form base 0) 8 ++ (0 ∷ 0 ∷ 0 ∷ 0 ∷ 0 ∷ 0 ∷ 0 ∷ 0 ∷ 5 ∷ 0 ∷ 6 ∷ 0 ∷ 7 ∷ 0 ∷ 8 ∷ 0 ∷ []))
    ≡ header (take_form base 0) 24 ++ (0 ∷ 0 ∷ 0 ∷ 0 ∷ 0 ∷ 0 ∷ 0 ∷ 0 ∷ 5 ∷ 0 ∷ 6 ∷ 0 ∷ 7 ∷ 0 ∷ 8 ∷ 0 ∷ 0 ∷ 0 ∷ 0 ∷ 0 ∷ 0 ∷ 0 ∷ 0 ∷ 0 ∷ [])
unfolding header
closed = refl

as_meant : take_file base counting 0 1 journal
    ≡ header (take_form base 0) 24 ++ (0 ∷ 0 ∷ 0 ∷ 0 ∷ 0 ∷ 0 ∷ 0 ∷ 0 ∷ 5 ∷ 0 ∷ 6 ∷ 0 ∷ 7 ∷ 0 ∷ 8 ∷ 0 ∷ 0 ∷ 0 ∷ 0 ∷ 0 ∷ 0 ∷ 0 ∷ 0 ∷ 0 ∷ [])
unfolding counting canon header
as_meant = refl

-- ---- of how many blocks heads tell

-- blocks of 1,024 frames at 48,000 a second: 46 are less than a second by less than one
long_blocks : Session
long_blocks = record base { rate = 48000; block = 1024 }

each_second : map (stated long_blocks 0) (0 ∷ 1 ∷ 2 ∷ 45 ∷ 46 ∷ 47 ∷ 91 ∷ 92 ∷ 100000 ∷ 100001 ∷ []) ≡ 0 ∷ 1 ∷ 1 ∷ 1 ∷ 46 ∷ 46 ∷ 46 ∷ 92 ∷ 99958 ∷ 99958 ∷ []
unfolding long_blocks
each_second = refl

one_of_short_blocks : map (stated base 0) (0 ∷ 1 ∷ 2 ∷ 100000 ∷ []) ≡ 0 ∷ 1 ∷ 1 ∷ 1 ∷ []
one_of_short_blocks = refl
