-- Worked values: what words mean, of all commands but `play`.
use Rattle.std.proofs.Common.{◌≡◌, refl, [], ◌∷◌, Some, None, codes}
use Rattle.command_words.specs.Options.{parted}
use Rattle.command_words.specs.Words.{ToExport, ToMigrate, ToCheck, ToRender, ToVerify, ToGen, command, export_of, render_of, verify_of}

no_words : command [] ≡ None
no_words = refl

of_help : command (codes "--help" ∷ []) ≡ None
of_help = refl

no_such_name : command (codes "record" ∷ codes "s.toml" ∷ []) ≡ None
no_such_name = refl

-- ---- export

of_an_export : command (codes "export" ∷ codes "s.toml" ∷ codes "6" ∷ codes "2" ∷ []) ≡ Some (ToExport (record { session = codes "s.toml"; from = 6; cycles = 2 }))
unfolding parted export_of
of_an_export = refl

export_behind_the_marker : command (codes "export" ∷ codes "--" ∷ codes "s.toml" ∷ codes "0" ∷ codes "2" ∷ []) ≡ Some (ToExport (record { session = codes "s.toml"; from = 0; cycles = 2 }))
unfolding parted export_of
export_behind_the_marker = refl

a_marker_within : command (codes "export" ∷ codes "s.toml" ∷ codes "--" ∷ codes "0" ∷ codes "100000" ∷ []) ≡ Some (ToExport (record { session = codes "s.toml"; from = 0; cycles = 100000 }))
unfolding parted export_of
a_marker_within = refl

export_with_an_option : command (codes "export" ∷ codes "s.toml" ∷ codes "0" ∷ codes "2" ∷ codes "--serial" ∷ []) ≡ None
unfolding parted
export_with_an_option = refl

no_cycles : command (codes "export" ∷ codes "s.toml" ∷ codes "0" ∷ codes "0" ∷ []) ≡ None
unfolding parted export_of
no_cycles = refl

a_cycle_too_many : command (codes "export" ∷ codes "s.toml" ∷ codes "0" ∷ codes "100001" ∷ []) ≡ None
unfolding parted export_of
a_cycle_too_many = refl

export_of_one_word : command (codes "export" ∷ codes "s.toml" ∷ []) ≡ None
unfolding parted
export_of_one_word = refl

leading_zeros : command (codes "export" ∷ codes "s.toml" ∷ codes "00000000000000000006" ∷ codes "02" ∷ []) ≡ Some (ToExport (record { session = codes "s.toml"; from = 6; cycles = 2 }))
unfolding parted export_of
leading_zeros = refl

a_digit_too_many : command (codes "export" ∷ codes "s.toml" ∷ codes "000000000000000000006" ∷ codes "2" ∷ []) ≡ None
unfolding parted export_of
a_digit_too_many = refl

-- ---- migrate and check

of_a_migrate : command (codes "migrate" ∷ codes "s.toml" ∷ []) ≡ Some (ToMigrate (codes "s.toml"))
unfolding parted
of_a_migrate = refl

a_marker_first : command (codes "migrate" ∷ codes "--" ∷ codes "-s" ∷ []) ≡ Some (ToMigrate (codes "-s"))
unfolding parted
a_marker_first = refl

a_second_marker : command (codes "migrate" ∷ codes "--" ∷ codes "--" ∷ []) ≡ Some (ToMigrate (codes "--"))
unfolding parted
a_second_marker = refl

a_dash_alone : command (codes "migrate" ∷ codes "-" ∷ []) ≡ Some (ToMigrate (codes "-"))
unfolding parted
a_dash_alone = refl

an_option : command (codes "migrate" ∷ codes "-s" ∷ []) ≡ None
unfolding parted
an_option = refl

migrate_of_none : command (codes "migrate" ∷ []) ≡ None
unfolding parted
migrate_of_none = refl

migrate_of_two : command (codes "migrate" ∷ codes "a" ∷ codes "b" ∷ []) ≡ None
unfolding parted
migrate_of_two = refl

migrate_of_a_path : command (codes "migrate" ∷ codes "../s.toml" ∷ []) ≡ None
unfolding parted
migrate_of_a_path = refl

of_a_check : command (codes "check" ∷ codes "s.toml" ∷ []) ≡ Some (ToCheck (codes "s.toml"))
unfolding parted
of_a_check = refl

check_of_two : command (codes "check" ∷ codes "a" ∷ codes "b" ∷ []) ≡ None
unfolding parted
check_of_two = refl

check_of_a_path : command (codes "check" ∷ codes "../s.toml" ∷ []) ≡ None
unfolding parted
check_of_a_path = refl

-- ---- render

of_a_render : command (codes "render" ∷ codes "s.toml" ∷ codes "2" ∷ codes "3" ∷ []) ≡ Some (ToRender (record { session = codes "s.toml"; from = 2; frames = 3 }))
unfolding parted render_of
of_a_render = refl

the_most_frames : command (codes "render" ∷ codes "s.toml" ∷ codes "1099511627775" ∷ codes "409600000" ∷ []) ≡ Some (ToRender (record { session = codes "s.toml"; from = 1099511627775; frames = 409600000 }))
unfolding parted render_of
the_most_frames = refl

a_frame_too_many : command (codes "render" ∷ codes "s.toml" ∷ codes "0" ∷ codes "409600001" ∷ []) ≡ None
unfolding parted render_of
a_frame_too_many = refl

no_frames : command (codes "render" ∷ codes "s.toml" ∷ codes "0" ∷ codes "0" ∷ []) ≡ None
unfolding parted render_of
no_frames = refl

too_far : command (codes "render" ∷ codes "s.toml" ∷ codes "1099511627776" ∷ codes "1" ∷ []) ≡ None
unfolding parted render_of
too_far = refl

-- ---- verify and gen

of_a_verify : command (codes "verify" ∷ codes "a" ∷ codes "b" ∷ codes "c" ∷ []) ≡ Some (ToVerify (record { session = codes "a"; report = codes "b"; master = codes "c" }))
unfolding parted verify_of
of_a_verify = refl

verify_of_a_path : command (codes "verify" ∷ codes "a" ∷ codes "b" ∷ codes "c/d" ∷ []) ≡ None
unfolding parted verify_of
verify_of_a_path = refl

verify_of_four : command (codes "verify" ∷ codes "a" ∷ codes "b" ∷ codes "c" ∷ codes "d" ∷ []) ≡ None
unfolding parted
verify_of_four = refl

of_a_gen : command (codes "gen" ∷ codes "8191" ∷ []) ≡ Some (ToGen 8191)
unfolding parted
of_a_gen = refl

too_great_a_gen : command (codes "gen" ∷ codes "8192" ∷ []) ≡ None
unfolding parted
too_great_a_gen = refl

gen_with_an_option : command (codes "gen" ∷ codes "7" ∷ codes "--seed=5" ∷ []) ≡ None
unfolding parted
gen_with_an_option = refl
