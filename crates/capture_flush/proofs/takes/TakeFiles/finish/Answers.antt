use Rattle.std.proofs.Common.{◌≡◌, ◌∙◌, ◌+◌, ◌≤◌, ◌<◌, ◌++◌, List, length, sym, ap, subst, arith, true, false}
use Rattle.std.specs.Prelude.{All}
use Rattle.cycle_journal.specs.declared.entry.Entry.{Entry}
use Rattle.cycle_journal.specs.JournalView.{seen_entries}
use Rattle.capture_flush.specs.Closing.{Ends, HasHeadUnless, all_runs, runs_of, track_runs}
use Rattle.capture_flush.specs.Taking.{IsTakingOf, Taking}
use Rattle.capture_flush.proofs.EndsLemmas.{ends_all, ends_as, ends_then, heads_stay, one_track_more}
use Rattle.capture_flush.proofs.FinishLemmas.{finished, finished_but, finished_in_part, has_heads}
use Rattle.capture_flush.proofs.WalkLemmas.{few_seen, notes_of_seen}
use Rattle.capture_flush.proofs.takes.TakeFiles.finish.Goals as goal

pub close_track-fails-requires : goal.close_track-fails-requires
close_track-fails-requires g c κs within =
    let count : c.len-track-end.result ≡ length g.run.session.tracks.items = c.len-track-end.ensures.len ∙ ap (λ v. length v.tracks) c.self.view_is ∙ c.requires.1.0.many in
    let back = sym c.entries.ensures.entries in
    let lt : c.loop-track.track < length g.run.session.tracks.items = omega (arith, count, c.loop-track-test.true) in
    let ends = c.loop-track.invariant.ends in
    let now = g.M.Media.outside.files c.loop-track.media in
    let H : List Entry → Type 0 = λ es. All (HasHeadUnless c.loop-track.self g.run.session c.loop-track.track now) (runs_of c.loop-track.track (seen_entries es)) in
    let A : Taking → Type 0 = λ f. All (HasHeadUnless f g.run.session c.loop-track.track now) (runs_of c.loop-track.track (seen_entries c.args.j.now.items)) in
    let N : List Entry → Type 0 = λ es. All (λ e. length e.notes.items ≡ length g.run.session.tracks.items) es in (
      within,
      (
        subst (IsTakingOf g.run.session) (sym c.loop-track.invariant.same) c.requires.1.0,
        (
          lt,
          (
            subst (λ (es : List Entry). length es ≤ 100000) back c.requires.1.1.0,
            (
              subst N back (notes_of_seen (length g.run.session.tracks.items) c.args.j.now.items c.requires.1.1.1.0.notes),
              λ t. subst H back (subst A (sym c.loop-track.invariant.same) (heads_stay c.args.self.now g.run.session (all_runs c.args.self.now (seen_entries c.args.j.now.items) 0 c.loop-track.track) ends.cut c.loop-track.track (runs_of c.loop-track.track (seen_entries c.args.j.now.items))
                  (g.M.Media.outside.files c.args.media.now) now (ends.files t)
                  (has_heads g.run (seen_entries c.args.j.now.items) c.args.self.now (g.M.Media.outside.files c.args.media.now) c.loop-track.track c.requires.1.0 c.requires.1.1.1.0 (c.requires.1.1.1.1 t) lt))),
            ),
          ),
        ),
      ),
    )

pub loop-track-preserved : goal.loop-track-preserved
loop-track-preserved g c =
    let count : c.len-track-end.result ≡ length g.run.session.tracks.items = c.len-track-end.ensures.len ∙ ap (λ v. length v.tracks) c.self.view_is ∙ c.requires.1.0.many in
    let lt : c.loop-track.track < length g.run.session.tracks.items = omega (arith, count, c.loop-track-test.true) in
    let j = seen_entries c.args.j.now.items in
    let u = c.loop-track.track in
    let new = c.close_track-fails.new.media in
    let here : Ends g.M.Media.outside g.run.session (track_runs c.args.self.now u (runs_of u j)) c.loop-track.media new c.close_track-fails.result
    = subst (λ (f : Taking). Ends g.M.Media.outside g.run.session (track_runs f u (runs_of u j)) c.loop-track.media new c.close_track-fails.result) c.loop-track.invariant.same
    (subst (λ (es : List Entry). Ends g.M.Media.outside g.run.session (track_runs c.loop-track.self u (runs_of u (seen_entries es))) c.loop-track.media new c.close_track-fails.result) c.entries.ensures.entries c.close_track-fails.ensures.ends) in
    record {
      within = omega (arith, lt);
      ends = subst (λ b. Ends g.M.Media.outside g.run.session (all_runs c.args.self.now j 0 (u + 1)) c.args.media.now new b) (sym c.either-failed.ensures)
          (ends_as g.M.Media.outside g.run.session (all_runs c.args.self.now j 0 u ++ track_runs c.args.self.now u (runs_of u j)) (all_runs c.args.self.now j 0 (u + 1)) c.args.media.now new _ (one_track_more c.args.self.now j u)
          (ends_then g.M.Media.outside g.run.session (all_runs c.args.self.now j 0 u) (track_runs c.args.self.now u (runs_of u j)) c.args.media.now c.loop-track.media new c.loop-track.failed c.close_track-fails.result c.loop-track.invariant.ends here));
      same = c.close_track-fails.ensures.same ∙ c.loop-track.invariant.same;
    }

pub returns-then-failed-clause-in_part : goal.returns-then-failed-clause-in_part
returns-then-failed-clause-in_part g c t =
    let count : c.len-track-end.result ≡ length g.run.session.tracks.items = c.len-track-end.ensures.len ∙ ap (λ v. length v.tracks) c.self.view_is ∙ c.requires.1.0.many in
    let all : c.loop-track.track ≡ length g.run.session.tracks.items = omega (arith, count, c.loop-track-test.false, c.loop-track.invariant.within) in
    finished_in_part g.M.Media.outside g.run (seen_entries c.args.j.now.items) c.args.self.now c.args.media.now c.loop-track.media (few_seen c.args.j.now.items c.requires.1.1.0) c.requires.1.0 c.requires.1.1.1.0 t (c.requires.1.1.1.1 t)
    (ends_all g.M.Media.outside c.args.self.now g.run.session (seen_entries c.args.j.now.items) c.loop-track.track (length g.run.session.tracks.items) c.args.media.now c.loop-track.media c.loop-track.failed true all c.if-failed.true c.loop-track.invariant.ends)

pub returns-then-failed-clause-goes_on : goal.returns-then-failed-clause-goes_on
returns-then-failed-clause-goes_on g c t =
    let count : c.len-track-end.result ≡ length g.run.session.tracks.items = c.len-track-end.ensures.len ∙ ap (λ v. length v.tracks) c.self.view_is ∙ c.requires.1.0.many in
    let all : c.loop-track.track ≡ length g.run.session.tracks.items = omega (arith, count, c.loop-track-test.false, c.loop-track.invariant.within) in
    finished_but g.M.Media.outside g.run (seen_entries c.args.j.now.items) c.args.self.now c.args.media.now c.loop-track.media (few_seen c.args.j.now.items c.requires.1.1.0) c.requires.1.0 c.requires.1.1.1.0 t (c.requires.1.1.1.1 t)
    (ends_all g.M.Media.outside c.args.self.now g.run.session (seen_entries c.args.j.now.items) c.loop-track.track (length g.run.session.tracks.items) c.args.media.now c.loop-track.media c.loop-track.failed true all c.if-failed.true c.loop-track.invariant.ends)

pub returns-clause-takes : goal.returns-clause-takes
returns-clause-takes g c t =
    let count : c.len-track-end.result ≡ length g.run.session.tracks.items = c.len-track-end.ensures.len ∙ ap (λ v. length v.tracks) c.self.view_is ∙ c.requires.1.0.many in
    let all : c.loop-track.track ≡ length g.run.session.tracks.items = omega (arith, count, c.loop-track-test.false, c.loop-track.invariant.within) in
    finished g.M.Media.outside g.run (seen_entries c.args.j.now.items) c.args.self.now c.args.media.now c.loop-track.media (few_seen c.args.j.now.items c.requires.1.1.0) c.requires.1.0 c.requires.1.1.1.0 t (c.requires.1.1.1.1 t)
    (ends_all g.M.Media.outside c.args.self.now g.run.session (seen_entries c.args.j.now.items) c.loop-track.track (length g.run.session.tracks.items) c.args.media.now c.loop-track.media c.loop-track.failed false all c.if-failed.false c.loop-track.invariant.ends)
