-- Takes of worked runs: the input has the file samples 1, 2 and so on.
use Rattle.std.proofs.Common.{◌≡◌, ℕ, suc, ℤ, pos, ◌*◌, ◌+◌, List, [], ◌∷◌, length, refl, map, nat_lt, if◌then◌else◌, codes, true, false, Some}
use Rattle.std.specs.Fmt.{digits}
use Rattle.sound_model.specs.Numbers.{file_sample}
use Rattle.sound_model.specs.Wav.{canon, header}
use Rattle.session_model.specs.declared.session.Session.{Session}
use Rattle.session_model.specs.declared.edit.Edit.TheVariants.{Roll, Recording, Arm}
use Rattle.session_model.proofs.SessionVectors.{base, with_track, track, whole}
use Rattle.engine_model.specs.Journal.{Play, Heard, Short, Take, Taken, Lost, Rolling, Entry}
use Rattle.engine_model.specs.Fits.{is_lawful}
use Rattle.engine_model.specs.Plain.{Command, Do, Wait, plain, accepted}
use Rattle.engine_model.specs.Takes.{Input, take_samples, take_file, take_name}

-- an input of so many frames: 1, 2, and so on in the first channel, 1001, 1002, and so on in the second
counting : ℕ → Input
counting frames i c = if nat_lt i frames then pos ((suc i + c * 1000) * 256) else pos 0

files : List ℤ → List ℤ
files samples = map (file_sample 16) samples

-- `arm t on`, `record on`, `roll`
abbrev record_it : List Command
record_it = Do (Arm (codes "t") true) ∷ Do (Recording true) ∷ Do Roll ∷ []

abbrev taking : ℕ → ℕ → Play → Take → Entry
taking r s play take = record { edition = r; settled = r; state = Rolling 0 s; notes = record { play = play; take = take } ∷ [] }

-- ---- one take

noted : plain base 2 record_it ≡ taking 3 0 (Heard 0) (Taken 1 0) ∷ taking 3 1 (Heard 0) (Taken 1 1) ∷ []
noted = refl

named : take_name base 0 1 ≡ codes "take-t-1.wav"
unfolding digits
named = refl

the_file : take_file base (counting 8) 0 1 (plain base 2 record_it)
    ≡ 0x52 ∷ 0x49 ∷ 0x46 ∷ 0x46 ∷ 0x34 ∷ 0 ∷ 0 ∷ 0 ∷ 0x57 ∷ 0x41 ∷ 0x56 ∷ 0x45
    ∷ 0x66 ∷ 0x6d ∷ 0x74 ∷ 0x20 ∷ 0x10 ∷ 0 ∷ 0 ∷ 0 ∷ 1 ∷ 0 ∷ 1 ∷ 0 ∷ 0x80 ∷ 0xbb ∷ 0 ∷ 0 ∷ 0 ∷ 0x77 ∷ 1 ∷ 0 ∷ 2 ∷ 0 ∷ 0x10 ∷ 0
    ∷ 0x64 ∷ 0x61 ∷ 0x74 ∷ 0x61 ∷ 0x10 ∷ 0 ∷ 0 ∷ 0
    ∷ 1 ∷ 0 ∷ 2 ∷ 0 ∷ 3 ∷ 0 ∷ 4 ∷ 0 ∷ 5 ∷ 0 ∷ 6 ∷ 0 ∷ 7 ∷ 0 ∷ 8 ∷ 0 ∷ []
unfolding counting canon header
the_file = refl

bytes_of_it : length (take_file base (counting 8) 0 1 (plain base 2 record_it)) ≡ 60
unfolding counting canon header
bytes_of_it = refl

-- past its end the input is silent
a_short_input : files (take_samples base (counting 6) 0 1 (plain base 2 record_it)) ≡ pos 1 ∷ pos 2 ∷ pos 3 ∷ pos 4 ∷ pos 5 ∷ pos 6 ∷ pos 0 ∷ pos 0 ∷ []
unfolding files counting
a_short_input = refl

-- a take that isn't there holds nothing
no_second_take : take_samples base (counting 8) 0 2 (plain base 2 record_it) ≡ []
no_second_take = refl

-- ---- the third block is lost: the take is as long as its run

abbrev with_a_loss : List Entry
with_a_loss = taking 3 0 (Heard 0) (Taken 1 0) ∷ taking 3 1 (Short 2) (Taken 1 1) ∷ taking 3 2 (Short 2) (Lost 1 2 0) ∷ []

a_loss_is_lawful : is_lawful base (accepted base 2 record_it) with_a_loss ≡ true
a_loss_is_lawful = refl

lost_block : files (take_samples base (counting 12) 0 1 with_a_loss) ≡ pos 1 ∷ pos 2 ∷ pos 3 ∷ pos 4 ∷ pos 5 ∷ pos 6 ∷ pos 7 ∷ pos 8 ∷ pos 0 ∷ pos 0 ∷ pos 0 ∷ pos 0 ∷ []
unfolding files counting
lost_block = refl

bytes_with_a_loss : length (take_file base (counting 12) 0 1 with_a_loss) ≡ 68
unfolding counting canon header
bytes_with_a_loss = refl

-- a block lost in the middle keeps the place of those after it
lost_in_the_middle : files (take_samples base (counting 12) 0 1 (taking 3 0 (Heard 0) (Taken 1 0) ∷ taking 3 1 (Heard 0) (Lost 1 1 0) ∷ taking 3 2 (Heard 0) (Taken 1 2) ∷ []))
    ≡ pos 1 ∷ pos 2 ∷ pos 3 ∷ pos 4 ∷ pos 0 ∷ pos 0 ∷ pos 0 ∷ pos 0 ∷ pos 9 ∷ pos 10 ∷ pos 11 ∷ pos 12 ∷ []
unfolding files counting
lost_in_the_middle = refl

-- ---- two takes: recording is off for one cycle

abbrev off_and_on : List Command
off_and_on = Do (Arm (codes "t") true) ∷ Do (Recording true) ∷ Do Roll ∷ Wait 1 ∷ Do (Recording false) ∷ Wait 1 ∷ Do (Recording true) ∷ []

first_take : files (take_samples base (counting 12) 0 1 (plain base 3 off_and_on)) ≡ pos 1 ∷ pos 2 ∷ pos 3 ∷ pos 4 ∷ []
unfolding files counting
first_take = refl

second_take : files (take_samples base (counting 12) 0 2 (plain base 3 off_and_on)) ≡ pos 9 ∷ pos 10 ∷ pos 11 ∷ pos 12 ∷ []
unfolding files counting
second_take = refl

-- where recording goes off and on again between two cycles, the take goes on
middle_edition_unheard : files (take_samples base (counting 8) 0 1
    (plain base 2 (Do (Arm (codes "t") true) ∷ Do (Recording true) ∷ Do Roll ∷ Wait 1 ∷ Do (Recording false) ∷ Do (Recording true) ∷ [])))
    ≡ pos 1 ∷ pos 2 ∷ pos 3 ∷ pos 4 ∷ pos 5 ∷ pos 6 ∷ pos 7 ∷ pos 8 ∷ []
unfolding files counting
middle_edition_unheard = refl

-- ---- a track that records the second channel

abbrev second_channel : Session
second_channel = with_track (record (track 0 (whole ∷ [])) { input = Some 1 })

of_the_second_channel : files (take_samples second_channel (counting 4) 0 1 (plain second_channel 1 record_it)) ≡ pos 1001 ∷ pos 1002 ∷ pos 1003 ∷ pos 1004 ∷ []
unfolding files counting
of_the_second_channel = refl
