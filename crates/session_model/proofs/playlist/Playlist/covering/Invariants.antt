-- What was found so far, and what is found from the place on, is what the span meets.
use Rattle.session_model.specs.Playlist.{places_meeting}
use Rattle.session_model.proofs.SpanLemmas.{Found}
use Rattle.session_model.proofs.playlist.Playlist.covering.Given as goal

abbrev pub invariant-loop-place : goal.invariant-loop-place
invariant-loop-place l = Found l.self l.from l.frames (places_meeting l.self l.from l.frames) l.place l.out.items
