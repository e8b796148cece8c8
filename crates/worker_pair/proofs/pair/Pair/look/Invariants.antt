use Rattle.worker_pair.specs.Begun.{looked, playing_at}
use Rattle.worker_pair.proofs.pair.Pair.look.Given as goal

abbrev pub ghost-look : goal.ghost-look
ghost-look g a = playing_at g.at

abbrev pub ghost-meet : goal.ghost-meet
ghost-meet g a = playing_at (looked a.self.now.playing.edits g.at)
