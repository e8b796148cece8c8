use Rattle.std.proofs.Common.{refl, ap, arith, ◌∙◌}
use Rattle.run_rings.proofs.JoiningLemmas as ends
use Rattle.run_rings.proofs.joining.join_all.Goals as goal

-- src/joining.rt
pub loop-joined-init : goal.loop-joined-init
loop-joined-init c = record {
  joined = ends.none_joined c.args.track_ends _ _ _ _ c.args.rings.now.items c.requires.none (c.into_iter-sends.ensures.rest ∙ c.into_vec.ensures.items) (c.into_iter-plays.ensures.rest ∙ c.into_vec-2.ensures.items)
      (c.into_iter-captures.ensures.rest ∙ c.into_vec-3.ensures.items) (c.into_iter-flushes.ensures.rest ∙ c.into_vec-4.ensures.items) c.requires.items c.requires.takes c.requires.tracks;
  room = refl;
}

pub next-requires : goal.next-requires
next-requires c = omega (arith, c.loop-joined.invariant.joined.left, c.loop-joined-test.true, c.len-tracks.ensures.len)

pub next-requires-in-loop-joined : goal.next-requires-in-loop-joined
next-requires-in-loop-joined c = let was = c.loop-joined.invariant.joined in omega (arith, was.left, was.items.count, c.loop-joined-test.true, c.len-tracks.ensures.len)

pub rejoin-plays-requires : goal.rejoin-plays-requires
rejoin-plays-requires c = ends.first_ring _ _ _ _ _ _ c.next.ensures c.next-in-loop-joined.ensures c.loop-joined.invariant.joined.items

pub next-requires-in-loop-joined-2 : goal.next-requires-in-loop-joined-2
next-requires-in-loop-joined-2 c = let was = c.loop-joined.invariant.joined in omega (arith, was.left, was.tracks, c.loop-joined-test.true, c.len-tracks.ensures.len)

pub next-requires-in-loop-joined-3 : goal.next-requires-in-loop-joined-3
next-requires-in-loop-joined-3 c = let was = c.loop-joined.invariant.joined in omega (arith, was.left, was.tracks, was.takes.count, c.loop-joined-test.true, c.len-tracks.ensures.len)

pub rejoin-takes-requires : goal.rejoin-takes-requires
rejoin-takes-requires c = ends.first_ring _ _ _ _ _ _ c.next-in-loop-joined-2.ensures c.next-in-loop-joined-3.ensures c.loop-joined.invariant.joined.takes

pub push-requires : goal.push-requires
push-requires c = let was = c.loop-joined.invariant in omega (arith, was.joined.long, was.room, c.requires.room, c.loop-joined-test.true, c.len-tracks.ensures.len)

pub loop-joined-preserved : goal.loop-joined-preserved
loop-joined-preserved c = let l = c.loop-joined in record {
  joined = ends.one_more_joined c.args.track_ends _ _ _ _ _ _ _ _ l.rings.items l.joined l.invariant.joined _ _ _ _ c.next.ensures c.next-in-loop-joined.ensures c.next-in-loop-joined-2.ensures
      c.next-in-loop-joined-3.ensures c.push.new.self.items c.rejoin-plays.result c.rejoin-takes.result c.rejoin-plays.ensures.lists c.rejoin-takes.ensures.lists (ap (λ k. k.items) c.push.ensures)
      c.rejoin-plays.ensures.whole c.rejoin-takes.ensures.whole;
  room = ap (λ k. k.room) c.push.ensures ∙ l.invariant.room;
}

pub returns-clause-rings : goal.returns-clause-rings
returns-clause-rings c = let l = c.loop-joined in
    ends.all_joined c.args.track_ends _ _ _ _ l.rings.items l.joined l.invariant.joined (omega (arith, l.invariant.joined.left, c.loop-joined-test.false, l.auto.joined-end, c.len-tracks.ensures.len))

pub returns-clause-whole : goal.returns-clause-whole
returns-clause-whole c = c.loop-joined.invariant.joined.whole
