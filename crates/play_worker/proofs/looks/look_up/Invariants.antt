use Rattle.std.proofs.Common.{◌≡◌, length, true}
use Rattle.process_cycle.specs.declared.process.Look.TheVariants.{Ready}
use Rattle.process_cycle.specs.Looked.{HasLooked, Keeps}
use Rattle.process_cycle.specs.Playing.{IsPlaying}
use Rattle.process_cycle.specs.ProcessState.{entered, position_of}
use Rattle.process_cycle.specs.Promised.{IsMastered}
use Rattle.track_playback.specs.Answers.{AllThere}
use Rattle.play_worker.specs.Patient.{AllEndAfter, AllGoOn}
use Rattle.play_worker.proofs.looks.look_up.Given as goal

abbrev pub ghost-gather : goal.ghost-gather
ghost-gather g a = g.at

abbrev pub ghost-again : goal.ghost-again
ghost-again g a = entered a.e.now.edits g.at

abbrev pub invariant-loop-look : goal.invariant-loop-look
invariant-loop-look g l = record {
  playing : IsPlaying g.I.Source.outside (entered l.e.edits g.at) l.process;
  looked : HasLooked (entered l.e.edits g.at) l.process;
  keeps : Keeps l.fn.process l.process;
  mastered : IsMastered g.W.Sink.outside (entered l.e.edits g.at) l.process;
  looks : AllEndAfter l._look l.fn.process l.process;
  rings : AllGoOn l.fn.process.ends.plays.items l.process.ends.plays.items;
  many : length l.process.ends.plays.items ≡ length l.fn.process.ends.plays.items;
  ready : l.look ≡ Ready → l.e.transport.rolling ≡ true → AllThere (position_of l.process) l.process.ends.plays.items;
}
