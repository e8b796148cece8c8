use Rattle.process_cycle.proofs.NotedLemmas.{entry_after, mastered_after, next_is_near, plays_after}
use Rattle.process_cycle.proofs.process.Process.cycle.Goals as goal

pub note-requires-clause-near : goal.note-requires-clause-near
note-requires-clause-near g c = next_is_near g.I.Source.outside g.at c.args.e.now c.args.self.now c.make.new.self c.in_ok-made.made c.requires.1.1 c.in_ok-made.ensures.made

pub returns-clause-made : goal.returns-clause-made
returns-clause-made g c = let made = c.in_ok-made.ensures in let note = c.note.ensures in
    entry_after g.I.Source.outside g.at c.args.e.now c.args.self.now c.make.new.self c.note.new.self c.requires.1.1 c.in_ok-made.made made.made note.noted note.next note.to_butler note.to_control note.same
    made.master made.reads

pub returns-clause-playing : goal.returns-clause-playing
returns-clause-playing g c = let made = c.in_ok-made.ensures in let note = c.note.ensures in
    plays_after g.I.Source.outside g.at c.args.e.now c.args.self.now c.make.new.self c.note.new.self c.requires.1.1 c.in_ok-made.made made.made note.noted note.next note.to_butler note.to_control note.same
    made.master made.reads

pub returns-clause-master : goal.returns-clause-master
returns-clause-master g c = let made = c.in_ok-made.ensures in let note = c.note.ensures in
    mastered_after g.I.Source.outside g.at c.args.e.now c.args.self.now c.make.new.self c.note.new.self c.requires.1.1 c.in_ok-made.made made.made note.noted note.next note.to_butler note.to_control note.same
    g.W.Sink.outside made.writes.all
