use Rattle.std.proofs.Common.{ap, ◌∙◌, subst}
use Rattle.master_blocks.specs.State.{IsMasterOf}
use Rattle.process_cycle.proofs.NewLemmas.{AreKept, AreBegun, knows_at_first, has_begun}
use Rattle.process_cycle.proofs.process.Process.new.Goals as goal

pub invariant_of-result : goal.invariant_of-result
invariant_of-result g c = let stores = c.in-Ok.stores in let made = c.in-Ok.ensures in
    let kept : AreKept c.args.e.now.session stores.playbacks.items stores.captures.items = subst (λ s. AreKept s stores.playbacks.items stores.captures.items) c.session-session.ensures.session
    (record { playbacks_count = made.count; each_playback = made.each; captures_count = made.captures; each_capture = made.each_capture }) in
    knows_at_first c.args.e.now.session c.args.ends stores.playbacks.items stores.captures.items c.requires.ends kept

pub returns-clause-begun : goal.returns-clause-begun
returns-clause-begun g c = let s = c.args.e.now.session in let same = c.session-session.ensures.session in let stores = c.in-Ok.stores in let made = c.in-Ok.ensures in
    let blocks = c.in-Ok-new-2.blocks in let master = c.in-Ok-new.blocks in let reads = c.in-Ok-new-2.ensures in let writes = c.in-Ok-new.ensures in
    let kept : AreKept s stores.playbacks.items stores.captures.items = subst (λ s. AreKept s stores.playbacks.items stores.captures.items) same
    (record { playbacks_count = made.count; each_playback = made.each; captures_count = made.captures; each_capture = made.each_capture }) in
    let begun : AreBegun g.I.Source.outside g.W.Sink.outside s c.args.cycles c.args.input c.args.form c.args.master c.args.ends blocks master stores.playbacks.items stores.captures.items = record {
      input_is = ap (λ b. b.input) reads.new;
      stream = ap (λ b. b.stream) reads.new;
      frames = ap (λ b. b.block) reads.new ∙ ap (λ s. s.block) same;
      read = reads.begins;
      sink_is = ap (λ m. m.sink) writes.new;
      master_of = subst (λ s. IsMasterOf s master) same writes.of;
    } in
    has_begun g.I.Source.outside g.W.Sink.outside s c.args.cycles c.args.input c.args.form c.args.master c.args.ends blocks master stores.playbacks.items stores.captures.items stores.journal
    c.session-session.result.now.depth made.journal (ap (λ s. s.depth) same) c.session-session.ensures.seen.valid c.requires.ends c.requires.cycles kept begun
