-- Worked values: what the words of `play` mean.
use Rattle.std.proofs.Common.{◌≡◌, refl, [], ◌∷◌, Some, None, codes}
use Rattle.command_words.specs.Options.{parted}
use Rattle.command_words.specs.Words.{Serial, Steps, Seed, Threads, ToPlay, command, play_of}

help_of_play : command (codes "play" ∷ codes "--help" ∷ []) ≡ None
unfolding parted
help_of_play = refl

by_steps_first : command (codes "play" ∷ codes "--steps=cbbpp" ∷ codes "s.toml" ∷ codes "3" ∷ []) ≡ Some (ToPlay (record { session = codes "s.toml"; cycles = 3; mode = Steps (codes "cbbpp") }))
unfolding parted play_of
by_steps_first = refl

by_steps_last : command (codes "play" ∷ codes "s.toml" ∷ codes "3" ∷ codes "--steps" ∷ codes "cbbpp" ∷ []) ≡ Some (ToPlay (record { session = codes "s.toml"; cycles = 3; mode = Steps (codes "cbbpp") }))
unfolding parted play_of
by_steps_last = refl

by_steps_between : command (codes "play" ∷ codes "s.toml" ∷ codes "--steps" ∷ codes "cbegp" ∷ codes "3" ∷ []) ≡ Some (ToPlay (record { session = codes "s.toml"; cycles = 3; mode = Steps (codes "cbegp") }))
unfolding parted play_of
by_steps_between = refl

no_letters : command (codes "play" ∷ codes "--steps=" ∷ codes "s.toml" ∷ codes "3" ∷ []) ≡ None
unfolding parted play_of
no_letters = refl

no_letter : command (codes "play" ∷ codes "--steps=cbC" ∷ codes "s.toml" ∷ codes "3" ∷ []) ≡ None
unfolding parted play_of
no_letter = refl

serial : command (codes "play" ∷ codes "s.toml" ∷ codes "2" ∷ codes "--serial" ∷ []) ≡ Some (ToPlay (record { session = codes "s.toml"; cycles = 2; mode = Serial }))
unfolding parted play_of
serial = refl

serial_twice : command (codes "play" ∷ codes "s.toml" ∷ codes "2" ∷ codes "--serial" ∷ codes "--serial" ∷ []) ≡ None
unfolding parted play_of
serial_twice = refl

serial_with_a_value : command (codes "play" ∷ codes "s.toml" ∷ codes "2" ∷ codes "--serial=" ∷ []) ≡ None
unfolding parted
serial_with_a_value = refl

serial_behind_the_marker : command (codes "play" ∷ codes "--" ∷ codes "s.toml" ∷ codes "2" ∷ codes "--serial" ∷ []) ≡ None
unfolding parted
serial_behind_the_marker = refl

on_threads : command (codes "play" ∷ codes "s.toml" ∷ codes "2" ∷ []) ≡ Some (ToPlay (record { session = codes "s.toml"; cycles = 2; mode = Threads 1000000 }))
unfolding parted play_of
on_threads = refl

with_patience : command (codes "play" ∷ codes "s.toml" ∷ codes "2" ∷ codes "--patience" ∷ codes "5" ∷ []) ≡ Some (ToPlay (record { session = codes "s.toml"; cycles = 2; mode = Threads 5 }))
unfolding parted play_of
with_patience = refl

the_most_patience : command (codes "play" ∷ codes "--patience=100000000" ∷ codes "s.toml" ∷ codes "2" ∷ []) ≡ Some (ToPlay (record { session = codes "s.toml"; cycles = 2; mode = Threads 100000000 }))
unfolding parted play_of
the_most_patience = refl

too_much_patience : command (codes "play" ∷ codes "--patience=100000001" ∷ codes "s.toml" ∷ codes "2" ∷ []) ≡ None
unfolding parted play_of
too_much_patience = refl

no_patience : command (codes "play" ∷ codes "--patience=0" ∷ codes "s.toml" ∷ codes "2" ∷ []) ≡ None
unfolding parted play_of
no_patience = refl

serial_with_patience : command (codes "play" ∷ codes "s.toml" ∷ codes "2" ∷ codes "--serial" ∷ codes "--patience" ∷ codes "5" ∷ []) ≡ None
unfolding parted play_of
serial_with_patience = refl

by_the_greatest_seed : command (codes "play" ∷ codes "s.toml" ∷ codes "2" ∷ codes "--seed" ∷ codes "18446744073709551615" ∷ []) ≡ Some (ToPlay (record { session = codes "s.toml"; cycles = 2; mode = Seed 18446744073709551615 }))
unfolding parted play_of
by_the_greatest_seed = refl

too_great_a_seed : command (codes "play" ∷ codes "s.toml" ∷ codes "2" ∷ codes "--seed" ∷ codes "18446744073709551616" ∷ []) ≡ None
unfolding parted play_of
too_great_a_seed = refl

by_a_seed : command (codes "play" ∷ codes "s.toml" ∷ codes "2" ∷ codes "--seed=5" ∷ []) ≡ Some (ToPlay (record { session = codes "s.toml"; cycles = 2; mode = Seed 5 }))
unfolding parted play_of
by_a_seed = refl

a_dash_as_seed : command (codes "play" ∷ codes "s.toml" ∷ codes "2" ∷ codes "--seed" ∷ codes "-" ∷ []) ≡ None
unfolding parted
a_dash_as_seed = refl

a_marker_as_seed : command (codes "play" ∷ codes "s.toml" ∷ codes "2" ∷ codes "--seed" ∷ codes "--" ∷ []) ≡ None
unfolding parted
a_marker_as_seed = refl

a_seed_missing : command (codes "play" ∷ codes "s.toml" ∷ codes "2" ∷ codes "--seed" ∷ []) ≡ None
unfolding parted
a_seed_missing = refl

serial_by_a_seed : command (codes "play" ∷ codes "--seed" ∷ codes "5" ∷ codes "s.toml" ∷ codes "--serial" ∷ codes "2" ∷ []) ≡ None
unfolding parted play_of
serial_by_a_seed = refl

seed_twice : command (codes "play" ∷ codes "s.toml" ∷ codes "2" ∷ codes "--seed=5" ∷ codes "--seed" ∷ codes "5" ∷ []) ≡ None
unfolding parted play_of
seed_twice = refl

steps_by_a_seed : command (codes "play" ∷ codes "s.toml" ∷ codes "2" ∷ codes "--steps=c" ∷ codes "--seed=5" ∷ []) ≡ None
unfolding parted play_of
steps_by_a_seed = refl

steps_with_patience : command (codes "play" ∷ codes "--patience=5" ∷ codes "--steps=c" ∷ codes "s.toml" ∷ codes "2" ∷ []) ≡ None
unfolding parted play_of
steps_with_patience = refl

patience_twice : command (codes "play" ∷ codes "--patience=5" ∷ codes "--patience=5" ∷ codes "s.toml" ∷ codes "2" ∷ []) ≡ None
unfolding parted play_of
patience_twice = refl

play_of_a_path : command (codes "play" ∷ codes "a/s.toml" ∷ codes "2" ∷ []) ≡ None
unfolding parted play_of
play_of_a_path = refl

play_of_three : command (codes "play" ∷ codes "s.toml" ∷ codes "2" ∷ codes "3" ∷ []) ≡ None
unfolding parted
play_of_three = refl

too_many_cycles : command (codes "play" ∷ codes "s.toml" ∷ codes "100001" ∷ []) ≡ None
unfolding parted play_of
too_many_cycles = refl
