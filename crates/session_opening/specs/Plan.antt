-- What the name of a session opens, or the first thing that keeps it from being opened, by the files (own).
use Rattle.std.specs.Prelude.{ℕ, nat_lt, if◌then◌else◌, List, [], ◌∷◌, length, Option, Some, None, Result, Ok, Err}
use Rattle.sound_model.specs.Wav.{Head}
use Rattle.ses_io.specs.Files.{Files}
use Rattle.session_model.specs.declared.refusal.SessionRefusal.{SessionRefusal}
use Rattle.session_model.specs.declared.refusal.SessionRefusal.TheVariants.{Absent, TooLong}
use Rattle.session_model.specs.declared.session.Session.{Session}
use Rattle.session_model.specs.declared.session.SourceDecl.{SourceDecl}
use Rattle.session_walk.specs.Section.{Read}
use Rattle.session_toml.specs.Session.{session}
use Rattle.audio_source.specs.Refusals.{SourceRefusal, source_head}

pub data Wrong : Type 0 where
  -- the session's file is absent or too long, or its text breaks this rule
  SessionRefused : SessionRefusal → Wrong
  -- the file of the source of this name isn't opened
  SourceRefused : List ℕ → SourceRefusal → Wrong

-- what is opened, or the first thing that is wrong
abbrev pub Open : Type 0 → Type 0
Open A = Result A Wrong

infixl 10 ◌>>=◌
abbrev pub ◌>>=◌ : {A B : Type 0} → Open A → (A → Open B) → Open B
(Ok x) >>= f = f x
(Err w) >>= f = Err w

-- ---- the session

-- the text of a session's file, which has at most 8,388,608 bytes
abbrev pub text_in : Option (List ℕ) → Open (List ℕ)
text_in None = Err (SessionRefused Absent)
text_in (Some bytes) = if nat_lt 8388608 (length bytes) then Err (SessionRefused (TooLong (length bytes))) else Ok bytes

-- what a text is read as
abbrev pub read : Read Session → Open Session
read (Ok s) = Ok s
read (Err refusal) = Err (SessionRefused refusal)

-- the session of a file
unfoldable pub read_session : Option (List ℕ) → Open Session
read_session file = text_in file >>= λ text. read (session text)

-- ---- its sources

-- a source whose file has a head, of the session's rate and the source's channels
abbrev pub found : List ℕ → Result Head SourceRefusal → Open (Unit {0})
found name (Ok head) = Ok tt
found name (Err why) = Err (SourceRefused name why)

abbrev pub source_in : Files → ℕ → SourceDecl → Open (Unit {0})
source_in files rate d = found d.name (source_head rate d.channels (files d.file))

-- all sources, or the first that isn't opened
abbrev pub sources_in : Files → ℕ → List SourceDecl → Open (Unit {0})
sources_in files rate [] = Ok tt
sources_in files rate (d ∷ ds) = source_in files rate d >>= λ one. sources_in files rate ds

-- ---- the whole

-- the session of a file, where the files of all its sources are opened
unfoldable pub session_plan : Files → List ℕ → Open Session
session_plan files name = do
  s ← read_session (files name)
  sources ← sources_in files s.rate s.sources.items
  Ok s
