-- Fields, notes and states, worked.
use Rattle.std.proofs.Common.{◌≡◌, [], ◌∷◌, Some, None, codes, refl}
use Rattle.engine_model.specs.Journal.{Silent, Heard, Short, Off, Taken, Lost, Stopped, Seeking, Rolling}
use Rattle.report_reader.specs.Fields.{after, numeral, digits, number_in, numbered}
use Rattle.report_reader.specs.Notes.{play_in, taken_in, lost_in, take_in, note_in, notes_in, seeking_in, rolling_in, state_in}

behind_a_word : after (codes "cycle ") (codes "cycle 7") ≡ Some (codes "7")
behind_a_word = refl

half_a_word : after (codes "cycle ") (codes "cyc") ≡ None
half_a_word = refl

three_digits : digits (codes "120.4") ≡ 3
three_digits = refl

zero : numeral (codes "0") ≡ Some 0
unfolding numeral
zero = refl

leading_zero : numeral (codes "07") ≡ None
unfolding numeral
leading_zero = refl

most : numeral (codes "18446744073709551615") ≡ Some 18446744073709551615
unfolding numeral
most = refl

past_the_most : numeral (codes "18446744073709551616") ≡ None
unfolding numeral
past_the_most = refl

no_digit : number_in 0 9 (codes "x") ≡ None
unfolding number_in numeral
no_digit = refl

out_of_range : number_in 0 9 (codes "10 ") ≡ None
unfolding number_in numeral
out_of_range = refl

in_range : numbered (codes "t") 1 10 (codes "t10.") ≡ Some (10, codes ".")
unfolding numbered number_in numeral
in_range = refl

silent : play_in (codes "-/-") ≡ Some (Silent, codes "/-")
unfolding play_in
silent = refl

short_of : play_in (codes "s2/-") ≡ Some (Short 2, codes "/-")
unfolding play_in number_in numeral
short_of = refl

lost : take_in (codes "l1.2.0 ") ≡ Some (Lost 1 2 0, codes " ")
unfolding take_in taken_in lost_in numbered number_in numeral
lost = refl

take_from_one : take_in (codes "t0.0") ≡ None
unfolding take_in taken_in lost_in numbered number_in numeral
take_from_one = refl

noted : note_in (codes "h0/t1.0") ≡ Some (record { play = Heard 0; take = Taken 1 0 }, [])
unfolding note_in play_in take_in taken_in lost_in numbered number_in numeral
noted = refl

two_notes : notes_in 32 (codes " -/- s2/-") ≡ Some (record { play = Silent; take = Off } ∷ record { play = Short 2; take = Off } ∷ [])
unfolding notes_in note_in play_in take_in taken_in lost_in numbered number_in numeral
two_notes = refl

one_too_many : notes_in 1 (codes " -/- -/-") ≡ None
unfolding notes_in note_in play_in take_in taken_in lost_in numbered number_in numeral
one_too_many = refl

stopped : state_in (codes "stopped -/-") ≡ Some (Stopped, codes " -/-")
unfolding state_in
stopped = refl

-- track 1 has index 0
seeking : state_in (codes "seeking 1 4") ≡ Some (Seeking 0 4, [])
unfolding state_in seeking_in rolling_in numbered number_in numeral
seeking = refl

no_track : state_in (codes "seeking 33 4") ≡ None
unfolding state_in seeking_in rolling_in numbered number_in numeral
no_track = refl

rolling : state_in (codes "rolling 1 0 h0/-") ≡ Some (Rolling 1 0, codes " h0/-")
unfolding state_in seeking_in rolling_in numbered number_in numeral
rolling = refl
