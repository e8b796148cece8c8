use Rattle.track_playback.proofs.noting.state.Given as goal

abbrev pub ghost-waiting : goal.ghost-waiting
ghost-waiting g a = g.plays
