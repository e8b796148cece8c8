use Rattle.track_playback.proofs.noting.entry.Given as goal

abbrev pub ghost-state : goal.ghost-state
ghost-state g a = g.plays

abbrev pub ghost-settled : goal.ghost-settled
ghost-settled g a = g.plays

abbrev pub ghost-notes : goal.ghost-notes
ghost-notes g a = g.plays
