-- What is known of the takes of a counted journal before they are closed.
use Rattle.std.proofs.Common.{◌≡◌, ℕ, suc, ◌^◌, ◌≤◌, ◌<◌, List, [], ◌∷◌, length, ap, arith, ◌∙◌}
use Rattle.std.specs.Prelude.{All, unwrap_or}
use Rattle.std.proofs.lemmas.List.Elements.{All-cons, All-head, All-nil, All-tail, All-weaker}
use Rattle.ses_io.specs.Files.{Files, content}
use Rattle.session_model.specs.Valid.{IsValid}
use Rattle.engine_model.specs.Journal.{Entry}
use Rattle.engine_model.specs.Takes.{take_file, take_name}
use Rattle.capture_flush.specs.declared.run.Run.{Run}
use Rattle.capture_flush.specs.Closing.{closed_file, runs_of}
use Rattle.capture_flush.specs.Finished.{IsCounted, Recorded}
use Rattle.capture_flush.specs.Laws.{HasNamedTracks}
use Rattle.capture_flush.proofs.NamedRunLemmas.{IsRunOf, runs_of_it}
use Rattle.capture_flush.proofs.RunLemmas.{Rising}

-- The journal's takes have names apart.
pub record CanClose (run : Recorded) (journal : List Entry) : Type 0 where
  pub valid : IsValid run.session
  pub named : HasNamedTracks run.session
  pub counted : IsCounted run.session journal
  pub small : length journal < 2 ^ 64

abbrev pub IsTake : Recorded → List Entry → ℕ → Run → Type 0
IsTake run journal t r = IsRunOf run.session run.input t journal r

pub takes_of : (run : Recorded) (journal : List Entry) (t : ℕ) → CanClose run journal → t < length run.session.tracks.items → All (IsTake run journal t) (runs_of t journal)
takes_of run journal t can lt = runs_of_it run.session run.input t journal (can.counted.takes t lt)

-- the take will be as the journal means it once its file is closed
abbrev pub Ready : Recorded → List Entry → Files → ℕ → Run → Type 0
Ready run journal files t r = closed_file run.session t r (content files (take_name run.session t r.take)) ≡ take_file run.session run.input t r.take journal

abbrev pub AreReady : Recorded → List Entry → Files → ℕ → Type 0
AreReady run journal files t = All (Ready run journal files t) (runs_of t journal)

-- ---- the takes of one track

pub rising_all : (low : ℕ) (runs : List Run) → Rising low runs → All (λ (r : Run). low ≤ r.take) runs
rising_all low [] up = All-nil (λ (r : Run). low ≤ r.take)
rising_all low (r ∷ rs) up = All-cons (λ (r : Run). low ≤ r.take) r rs up.0
    (All-weaker (λ (q : Run). suc r.take ≤ q.take) (λ (q : Run). low ≤ q.take) (λ q le. omega (arith, le, up.0)) rs (rising_all (suc r.take) rs up.1))

pub both : {X : Type 0} (P Q : X → Type 0) (xs : List X) → All P xs → All Q xs → All (λ x. P x × Q x) xs
both P Q [] ps qs = All-nil (λ x. P x × Q x)
both P Q (x ∷ xs) ps qs = All-cons (λ x. P x × Q x) x xs (All-head P x xs ps, All-head Q x xs qs) (both P Q xs (All-tail P x xs ps) (All-tail Q x xs qs))

-- a file that stays is as ready as before
pub still_ready : (run : Recorded) (journal : List Entry) (old new : Files) (t : ℕ) (r : Run) → new (take_name run.session t r.take) ≡ old (take_name run.session t r.take) →
    Ready run journal old t r → Ready run journal new t r
still_ready run journal old new t r same ready = ap (λ o. closed_file run.session t r (unwrap_or o [])) same ∙ ready
