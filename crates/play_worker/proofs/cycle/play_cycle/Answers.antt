use Rattle.std.proofs.Common.{refl, sym, subst, length, ◌<◌}
use Rattle.ses_io.specs.FixedList.{Listed}
use Rattle.cycle_journal.specs.declared.entry.Entry.{Entry}
use Rattle.play_worker.proofs.PatientLemmas.{journal_kept}
use Rattle.play_worker.proofs.CycleLemmas.{keeps_patience, where_made}
use Rattle.play_worker.proofs.cycle.play_cycle.Goals as goal

pub cycle-requires : goal.cycle-requires
cycle-requires g c κs within = let asked = c.requires.1.1.1 in let is = c.look_up.ensures in (
  within.0,
  (
    within.1,
    record {
      playing = is.playing;
      edition = asked.0.edition;
      given = refl;
      looked = is.looked;
      room = subst (λ (j : Listed Entry). length j.items < j.room) (sym (journal_kept c.args.process.now c.look_up.new.process is.keeps)) asked.1.0;
      unended = asked.1.1.0;
    },
  ),
)

pub returns-clause-patient : goal.returns-clause-patient
returns-clause-patient g c = let asked = c.requires.1.1.1 in let is = c.look_up.ensures in
    keeps_patience g.I.Source.outside g.at c.args.patience c.args.e.now c.args.process.now c.look_up.new.process c.cycle.new.self c.cycle.result asked.0.playing asked.0.more is.playing is.rings (journal_kept c.args.process.now c.look_up.new.process is.keeps)
    asked.1.1.1.1 asked.0.edition is.patient c.cycle.ensures.made c.cycle.ensures.fault

pub returns-clause-mastered : goal.returns-clause-mastered
returns-clause-mastered g c = where_made _ _ c.cycle.result c.look_up.ensures.mastered c.cycle.ensures.master

pub returns-clause-cycle : goal.returns-clause-cycle
returns-clause-cycle g c = let asked = c.requires.1.1.1 in let is = c.look_up.ensures in let did = c.cycle.ensures in record {
  looked = c.look_up.new.process;
  may = record {
    playing = is.playing;
    edition = asked.0.edition;
    given = refl;
    looked = is.looked;
    room = subst (λ (j : Listed Entry). length j.items < j.room) (sym (journal_kept c.args.process.now c.look_up.new.process is.keeps)) asked.1.0;
    unended = asked.1.1.0;
  };
  valid = c.session-session.ensures.seen.valid;
  mastered = is.mastered;
  patient = is.patient;
  rings = is.rings;
  keeps = is.keeps;
  made = did.made;
  reads = did.reads;
  writes = did.writes;
  fault = did.fault;
  master_of = did.of;
}
