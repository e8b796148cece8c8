-- Letters that are given, one after another.
use Rattle.std.proofs.Common.{◌≡◌, ℕ, List, [], ◌∷◌, ◌++◌, refl, ap, ◌∙◌, append_assoc}
use Rattle.session_model.specs.declared.session.Session.{Session}
use Rattle.engine_model.specs.Lines.{Line}
use Rattle.machine_model.specs.Letters.{C, begins, by_letter, by_letters}
use Rattle.serial_laws.specs.Leads.{Run, before_rest}
use Rattle.serial_laws.specs.SerialLaws.{ARunBegins, TheWorkersGoOn, ControlGoesOn}
use Rattle.serial_laws.proofs.LeadLemmas.{letters_on, by_worker}

pub a_run_begins : ARunBegins
a_run_begins s cycles more may = refl

pub the_workers_go_on : TheWorkersGoOn
the_workers_go_on s cycles run st letter not come more may = letters_on s cycles (begins s (run.lines ++ more)) run.letters (letter ∷ [])
    ∙ ap (λ m. by_letter s cycles m letter) (come more may) ∙ by_worker s cycles letter st more not

-- the lines that were taken, and those to come
pub same_lines : (s : Session) (cycles : ℕ) (run : Run) (taken more : List Line) → before_rest s cycles (record run { lines = run.lines ++ taken }) more ≡ before_rest s cycles run (taken ++ more)
same_lines s cycles run taken more = ap (λ l. by_letters s cycles (begins s l) run.letters) (append_assoc run.lines taken more)

pub control_goes_on : ControlGoesOn
control_goes_on s cycles run old new taken carries come more may = letters_on s cycles (begins s ((run.lines ++ taken) ++ more)) run.letters (C ∷ [])
    ∙ ap (λ m. by_letter s cycles m C) (same_lines s cycles run taken more ∙ come (taken ++ more) (carries.may more may)) ∙ carries.letter more may
