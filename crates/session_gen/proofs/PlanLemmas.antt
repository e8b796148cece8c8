-- What is opened where there are the files of a made session, and how it sounds.
use Rattle.std.proofs.Common.{◌≡◌, ℕ, zero, suc, refl, ap, sym, ◌∙◌, List, [], length}
use Rattle.std.specs.Prelude.{Bool, true, false, nat_lt, if◌then◌else◌, Some, Ok, Err, codes, unwrap_or}
use mathlib.Core.Path.{fun_ext}
use Rattle.sound_model.specs.Wav.{file_sound}
use Rattle.ses_io.specs.Files.{Files}
use Rattle.session_model.specs.declared.refusal.SessionRefusal.TheVariants.{TooLong}
use Rattle.session_model.specs.declared.session.Session.{Session}
use Rattle.session_toml.specs.Session.{session}
use Rattle.session_opening.specs.Plan.{Open, Wrong, SessionRefused, ◌>>=◌, read, read_session, session_plan, sources_in}
use Rattle.made_session.specs.Made.{made_session}
use Rattle.session_opening.specs.Sounds.{sounds_in}
use Rattle.session_gen.specs.Files.{HasMade}
use Rattle.session_gen.specs.Gen.{sounds}

-- ---- the session

refused_not : {A : Type 0} (given : Open A) (w : Wrong) (x : A) → given ≡ Err w → given ≡ Ok x → ⊥
refused_not given w x one two = let e : Err w ≡ Ok x = sym one ∙ two in cc

one_session : (given : Open Session) (s m : Session) → given ≡ Ok m → given ≡ Ok s → s ≡ m
one_session given s m one two = let e : Ok s ≡ Ok m = sym two ∙ one in cc

-- a session whose sources are opened is the one that was read
opened_after : (all : Open (Unit {0})) (x s : Session) → (all >>= λ u. Ok x) ≡ Ok s → x ≡ s
opened_after (Ok u) x s e = cc
opened_after (Err w) x s e = absurd (refused_not _ w s refl e)

read_before : (given : Open Session) (sources : Session → Open (Unit {0})) (s : Session) → (given >>= λ x. sources x >>= λ all. Ok x) ≡ Ok s → given ≡ Ok s
read_before (Err w) sources s e = absurd (refused_not _ w s refl e)
read_before (Ok x) sources s e = ap (λ (y : Session). Ok y) (opened_after (sources x) x s e)

-- a text that isn't too long is read as what it says
read_if : (long : Bool) (text : List ℕ) (s m : Session) → session text ≡ Ok m →
    ((if long then Err (SessionRefused (TooLong (length text))) else Ok text) >>= λ t. read (session t)) ≡ Ok s → s ≡ m
read_if true text s m is e = absurd (refused_not _ (SessionRefused (TooLong (length text))) s refl e)
read_if false text s m is e = one_session (read (session text)) s m (ap read is) e

read_of : (text : List ℕ) (s m : Session) → session text ≡ Ok m → read_session (Some text) ≡ Ok s → s ≡ m
unfolding read_session
read_of text s m is e = read_if (nat_lt 8388608 (length text)) text s m is e

pub opened_is_made : (n : ℕ) (files : Files) (s : Session) → HasMade n files → session_plan files (codes "gen.toml") ≡ Ok s → s ≡ made_session n
unfolding session_plan
opened_is_made n files s has e = read_of has.text s (made_session n) has.is_made
    (ap read_session (sym has.of_file) ∙ read_before (read_session (files (codes "gen.toml"))) (λ x. sources_in files x.rate x.sources.items) s e)

-- ---- its sound

pub sounds_are_made : (n : ℕ) (files : Files) → HasMade n files → sounds_in files (made_session n) ≡ sounds
unfolding made_session
sounds_are_made n files has = fun_ext (λ k. fun_ext (λ i. fun_ext (λ c. by k i c)))
  where
    by : (k i c : ℕ) → sounds_in files (made_session n) k i c ≡ sounds k i c
    by zero i c = ap (λ held. file_sound (unwrap_or held []) i c) has.source
    by (suc k) i c = refl
