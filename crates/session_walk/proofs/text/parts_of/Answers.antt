-- Each step in turn, up to the one that stops.
use Rattle.std.proofs.Common.{sym, refl}
use Rattle.session_walk.specs.Text.{parts_of}
use Rattle.session_walk.proofs.StopLaws.{refused, faulted, gives_stopped}
use Rattle.session_walk.proofs.text.parts_of.Goals as goal

pub returns-in_err-head : goal.returns-in_err-head
unfolding parts_of
returns-in_err-head c = rw (← c.single.ensures)
    (gives_stopped _ _ _ (refused _ _ _ (sym c.in_err-head.ensures)) c.from_residual.ensures.1)

pub returns-in_err-sources : goal.returns-in_err-sources
unfolding parts_of
returns-in_err-sources c = rw (← c.single.ensures, ← c.in_ok-head.ensures, ← c.row_of.ensures, ← c.deref.ensures.value)
    (gives_stopped _ _ _ (faulted _ _ _ c.in_err-sources.ensures) c.from_residual-in_err-sources.ensures.1)

pub returns-in_err-tracks : goal.returns-in_err-tracks
unfolding parts_of
returns-in_err-tracks c = rw (← c.single.ensures, ← c.in_ok-head.ensures, ← c.row_of.ensures, ← c.deref.ensures.value, c.in_ok-sources.ensures, ← c.row_of-2.ensures, ← c.deref-2.ensures.value)
    (gives_stopped _ _ _ (faulted _ _ _ c.in_err-tracks.ensures) c.from_residual-in_err-tracks.ensures.1)

pub returns-in_err-busses : goal.returns-in_err-busses
unfolding parts_of
returns-in_err-busses c = rw (← c.single.ensures, ← c.in_ok-head.ensures, ← c.row_of.ensures, ← c.deref.ensures.value, c.in_ok-sources.ensures, ← c.row_of-2.ensures, ← c.deref-2.ensures.value, c.in_ok-tracks.ensures, ← c.row_of-3.ensures, ← c.deref-3.ensures.value)
    (gives_stopped _ _ _ (faulted _ _ _ c.in_err-busses.ensures) c.from_residual-in_err-busses.ensures.1)

pub returns-in_err-master : goal.returns-in_err-master
unfolding parts_of
returns-in_err-master c = rw (← c.single.ensures, ← c.in_ok-head.ensures, ← c.row_of.ensures, ← c.deref.ensures.value, c.in_ok-sources.ensures, ← c.row_of-2.ensures, ← c.deref-2.ensures.value, c.in_ok-tracks.ensures, ← c.row_of-3.ensures, ← c.deref-3.ensures.value, c.in_ok-busses.ensures, ← c.single-2.ensures)
    (gives_stopped _ _ _ (faulted _ _ _ c.in_err-master.ensures) c.from_residual-in_err-master.ensures.1)

pub returns : goal.returns
unfolding parts_of
returns c = rw (← c.single.ensures, ← c.in_ok-head.ensures, ← c.row_of.ensures, ← c.deref.ensures.value, c.in_ok-sources.ensures, ← c.row_of-2.ensures, ← c.deref-2.ensures.value, c.in_ok-tracks.ensures, ← c.row_of-3.ensures, ← c.deref-3.ensures.value, c.in_ok-busses.ensures, ← c.single-2.ensures, c.in_ok-master.ensures) refl
