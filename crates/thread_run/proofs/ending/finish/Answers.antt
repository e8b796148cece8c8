use Rattle.std.proofs.Common.{sym, subst}
use Rattle.disk_ring.specs.Rings.{Whole, joined_of}
use Rattle.control_desk.specs.State.{parts_of}
use Rattle.run_end.specs.AtRest.{ProcessHasEnded}
use Rattle.run_end.specs.Beginning.{started_of}
use Rattle.run_end.specs.Lists.{HaveRoomFor}
use Rattle.thread_run.specs.Leaving.{IsEndOf, IsGivenBack}
use Rattle.thread_run.specs.Parting.{MayGiveUp}
use Rattle.thread_run.proofs.EndedLemmas as ended
use Rattle.thread_run.proofs.LastLemmas as final
use Rattle.thread_run.proofs.MetLemmas as meeting
use Rattle.thread_run.proofs.ending.finish.Goals as goal

-- src/ending.rt
pub meet_at_last-ending-requires-clause-others : goal.meet_at_last-ending-requires-clause-others
meet_at_last-ending-requires-clause-others g c = ended.others g.M.Media.outside g.I.Source.outside g.C.Source.outside g.W.Sink.outside g.O.Sink.outside g.on c.args.joined c.args.lists c.requires.1.1.1.1.1.1

pub parted-ended-requires : goal.parted-ended-requires
parted-ended-requires g c κs within = let M = g.M.Media.outside in let I = g.I.Source.outside in let C = g.C.Source.outside in let W = g.W.Sink.outside in let O = g.O.Sink.outside in let j = c.args.joined in
    let all = c.requires.1.1.1.1.1.1 in let tie = c.tie-tied.ensures in let list = c.tie-tied.result.edition in let ending = c.meet_at_last-ending.result.0 in let stopped = c.meet_at_last-ending.result.1 in
    let met = c.meet_at_last-ending.ensures in let start = started_of M I W g.on.opened in let of = tie.stays g.on.opened.edition.session (ended.list_of M I C W O g.on j c.args.lists all) in (
      within.0,
      (
        within.1.0,
        (
          within.1.1,
          (
            λ whole. let both = c.goes_whole-whole.ensures.only whole in
                subst (λ i. ProcessHasEnded M I start ending stopped (record { input = i; master = j.played.cut_off; read = j.served.0.failed.read; write = j.served.0.failed.write })) (sym c.input_failed.ensures)
                (final.has_ended M I C W O g.on j c.args.lists all list ending stopped met of (tie.first both.0) (tie.second both.0) both.1),
            (
              subst (λ i. MayGiveUp M start ending stopped (record { input = i; master = j.played.cut_off; read = j.served.0.failed.read; write = j.served.0.failed.write })) (sym c.input_failed.ensures)
                  (meeting.may_give_up M I C W O g.on j c.args.lists all list ending stopped met),
              (subst (HaveRoomFor g.on.opened.edition.session) (sym all.lists_are) all.begun.room, ended.records M I C W O g.on j c.args.lists all),
            ),
          ),
        ),
      ),
    )

pub returns : goal.returns
returns g c = let M = g.M.Media.outside in let I = g.I.Source.outside in let C = g.C.Source.outside in let W = g.W.Sink.outside in let O = g.O.Sink.outside in let j = c.args.joined in
    let all = c.requires.1.1.1.1.1.1 in let tie = c.tie-tied.ensures in let ending = c.meet_at_last-ending.result.0 in let stopped = c.meet_at_last-ending.result.1 in let start = started_of M I W g.on.opened in record {
      joined = j;
      lists = c.args.lists;
      all = all;
      edition = c.tie-tied.result.edition;
      edits = tie.edits;
      edition_of = tie.stays g.on.opened.edition.session (ended.list_of M I C W O g.on j c.args.lists all);
      tied = c.tie-tied.result.tied;
      first = tie.first;
      second = tie.second;
      ending = ending;
      stopped = stopped;
      met = c.meet_at_last-ending.ensures;
      ended = c.parted-ended.result;
      given = subst (λ i. IsGivenBack M start ending stopped (record { input = i; master = j.played.cut_off; read = j.served.0.failed.read; write = j.served.0.failed.write }) c.parted-ended.result) c.input_failed.ensures c.parted-ended.ensures.given;
      finished = c.goes_whole-whole.result;
      finishes = c.goes_whole-whole.ensures.so;
      whole = λ done. subst (λ i. IsEndOf M I start ending stopped (record { input = i; master = j.played.cut_off; read = j.served.0.failed.read; write = j.served.0.failed.write }) c.parted-ended.result) c.input_failed.ensures
          (c.parted-ended.ensures.whole done);
      cut_short = c.parted-ended.ensures.cut_short;
      few = c.entries-made.ensures.within;
      grants_whole = subst Whole c.rejoin-grants.ensures.lists c.rejoin-grants.ensures.whole;
      memory = c.wants_memory-memory.result;
      enough = c.wants_memory-memory.ensures;
      is = ended.finished_as c.parted-ended.result c.parts.result (parts_of j.led.control) c.rejoin-grants.result (joined_of j.led.grants j.played.grants.from) c.wants_memory-memory.result c.finished.result c.finished.ensures
          c.parts.ensures c.rejoin-grants.ensures.lists;
    }
