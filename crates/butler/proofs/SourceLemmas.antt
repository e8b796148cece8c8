-- Files of sources stand while takes are written.
use Rattle.std.proofs.Common.{sym, ap, ◌∙◌, subst, true≢false}
use Rattle.std.specs.Prelude.{ℕ, List, [], Option, IsSome}
use Rattle.ses_io.specs.Files.{Files, content}
use Rattle.session_model.specs.declared.session.Session.{Session}
use Rattle.capture_flush.specs.Flushed.{IsTakeName, IsFresh}
use Rattle.capture_flush.proofs.NameLemmas.{no_take_held}
use Rattle.butler.specs.Laws.{SourcesAreNoTakes}

-- a file that is there has no take's name
not_a_take : (s : Session) (held : Files) (q : List ℕ) → IsFresh (record { session = s; held = held; blocks = λ _. [] }) → IsSome (held q) → ¬ (IsTakeName s q)
not_a_take s held q fresh there (t, n, near, named) =
    true≢false (sym (subst IsSome (ap held (sym named) ∙ no_take_held (record { session = s; held = held; blocks = λ _. [] }) t n fresh) there))

pub sources_are_no_takes : SourcesAreNoTakes
sources_are_no_takes s held files opened fresh there stand i o ho =
    ap (λ (x : Option (List ℕ)). content (λ _. x) o.file) (stand o.file (not_a_take s held o.file fresh (there i o ho)))
