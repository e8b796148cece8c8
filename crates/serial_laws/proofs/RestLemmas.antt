-- The serial rest, letter by letter.
use Rattle.std.proofs.Common.{◌≡◌, ℕ, [], ◌∷◌, ◌++◌, refl, sym, ap, subst, ◌∙◌}
use Rattle.std.specs.Prelude.{true, Some}
use Rattle.std.proofs.lemmas.Bool.{and_from}
use Rattle.session_model.specs.declared.session.Session.{Session}
use Rattle.machine_model.specs.Letters.{Letter, C, Machine, begins, by_letter, by_letters, is_idle}
use Rattle.machine_model.specs.Rest.{Phase, Between, Task, begin_task, is_letter, is_next, is_rest_from, next_letter}
use Rattle.machine_laws.proofs.LetterLemmas.{itself}
use Rattle.serial_laws.specs.Standing.{machine_of, worked}
use Rattle.serial_laws.specs.Leads.{Place, LeadsTo, before_rest}
use Rattle.serial_laws.specs.SerialLaws.{TheRestBegins, ALineIsCarriedOut, NoLetterIsNeeded, TheNextLetterLeadsOn, TheRunIsTheMachines}
use Rattle.serial_laws.proofs.LeadLemmas.{letters_on, by_worker}
use Rattle.serial_laws.proofs.GivenLemmas.{same_lines}

-- the letter that is next leads on
by_next : (s : Session) (cycles : ℕ) (phase next : Phase) (m : Machine) (letter : Letter) → next_letter s cycles phase m ≡ Some (letter, next) →
    LeadsTo s cycles (record { phase = phase; machine = m }) (record { phase = next; machine = by_letter s cycles m letter })
by_next s cycles phase next m letter is more rest = (
  letter ∷ more,
  subst (λ o. is_next letter o (λ n. is_rest_from s cycles n (by_letter s cycles m letter) more) ≡ true) (sym is)
      (and_from (is_letter letter letter) (is_rest_from s cycles next (by_letter s cycles m letter) more) (itself letter) rest),
  refl,
)

-- one place leads to a third over a second
leads_on : (s : Session) (cycles : ℕ) (a b c : Place) → LeadsTo s cycles a b → LeadsTo s cycles b c → LeadsTo s cycles a c
leads_on s cycles a b c one two more rest = let second = two more rest in let first = one second.0 second.1 in (first.0, first.1, first.2 ∙ second.2)

pub the_rest_begins : TheRestBegins
the_rest_begins s cycles run st come more may letters rest = (
  letters,
  subst (λ (m : Machine). is_rest_from s cycles Between m letters ≡ true) (sym (come more may)) rest,
  ap (λ m. by_letters s cycles m letters) (come more may),
)

pub the_next_letter_leads_on : TheNextLetterLeadsOn
the_next_letter_leads_on s cycles run phase next st letter not is gone more may =
    leads_on s cycles (record { phase = Between; machine = before_rest s cycles run more }) (record { phase = phase; machine = machine_of st more })
    (record { phase = next; machine = machine_of (worked s cycles letter st) more }) (gone more may)
    (subst (λ (m : Machine). LeadsTo s cycles (record { phase = phase; machine = machine_of st more }) (record { phase = next; machine = m })) (by_worker s cycles letter st more not)
    (by_next s cycles phase next (machine_of st more) letter (is more may)))

pub a_line_is_carried_out : ALineIsCarriedOut
a_line_is_carried_out s cycles run old new taken carries due gone more may = let was = machine_of old (taken ++ more) in
    subst (λ (m : Machine). LeadsTo s cycles (record { phase = Between; machine = m }) (record { phase = Between; machine = machine_of new more })) (sym (same_lines s cycles run taken more))
    (leads_on s cycles (record { phase = Between; machine = before_rest s cycles run (taken ++ more) }) (record { phase = Between; machine = was }) (record { phase = Between; machine = machine_of new more })
    (gone (taken ++ more) (carries.may more may))
    (subst (λ (m : Machine). LeadsTo s cycles (record { phase = Between; machine = was }) (record { phase = Between; machine = m })) (carries.letter more may)
    (by_next s cycles Between Between was C (ap (λ (t : Task). Some (begin_task (is_idle s cycles was.core) t)) (due more may)))))

pub no_letter_is_needed : NoLetterIsNeeded
no_letter_is_needed s cycles run phase old new stays gone more may =
    subst (λ (m : Machine). LeadsTo s cycles (record { phase = Between; machine = before_rest s cycles run more }) (record { phase = phase; machine = m })) (stays.same more may)
    (gone more (stays.may more may))

pub the_run_is_the_machines : TheRunIsTheMachines
the_run_is_the_machines s cycles run st more gone may = let all = gone more may [] refl in record {
  rest = all.0;
  is_rest_of = all.1;
  ends = letters_on s cycles (begins s (run.lines ++ more)) run.letters all.0 ∙ all.2;
}
