-- Each step in turn, up to the one that stops.
use Rattle.std.proofs.Common.{sym, refl}
use Rattle.session_walk.specs.Parts.{track_of}
use Rattle.session_walk.proofs.StopLaws.{refused, faulted, tables_faulted, gives_stopped}
use Rattle.session_walk.proofs.desk.TrackTextEntry.read.Goals as goal

pub returns-in_err-only : goal.returns-in_err-only
unfolding track_of
returns-in_err-only c = gives_stopped _ _ _ (refused _ _ _ (sym c.in_err-only.ensures)) c.from_residual.ensures.1

pub returns-in_err-named : goal.returns-in_err-named
unfolding track_of
returns-in_err-named c = rw (← c.in_ok-only.ensures)
    (gives_stopped _ _ _ (refused _ _ _ (sym c.in_err-named.ensures.named)) c.from_residual-in_err-named.ensures.1)

pub returns-in_err-settings : goal.returns-in_err-settings
unfolding track_of
returns-in_err-settings c = rw (← c.in_ok-only.ensures, ← c.in_ok-named.ensures.named)
    (gives_stopped _ _ _ (refused _ _ _ (sym c.in_err-settings.ensures)) c.from_residual-in_err-settings.ensures.1)

pub returns-in_err-strip : goal.returns-in_err-strip
unfolding track_of
returns-in_err-strip c = rw (← c.in_ok-only.ensures, ← c.in_ok-named.ensures.named, ← c.in_ok-settings.ensures)
    (gives_stopped _ _ _ (faulted _ _ _ c.in_err-strip.ensures) c.from_residual-in_err-strip.ensures.1)

pub returns-in_err-send_rows : goal.returns-in_err-send_rows
unfolding track_of
returns-in_err-send_rows c = rw (← c.in_ok-only.ensures, ← c.in_ok-named.ensures.named, ← c.in_ok-settings.ensures, c.in_ok-strip.ensures)
    (gives_stopped _ _ _ (tables_faulted _ _ _ c.in_err-send_rows.ensures.tables) c.from_residual-in_err-send_rows.ensures.1)

pub returns-in_err-region_rows : goal.returns-in_err-region_rows
unfolding track_of
returns-in_err-region_rows c = rw (← c.in_ok-only.ensures, ← c.in_ok-named.ensures.named, ← c.in_ok-settings.ensures, c.in_ok-strip.ensures, c.in_ok-send_rows.ensures.tables)
    (gives_stopped _ _ _ (tables_faulted _ _ _ c.in_err-region_rows.ensures.tables) c.from_residual-in_err-region_rows.ensures.1)

pub returns-in_err-regions : goal.returns-in_err-regions
unfolding track_of
returns-in_err-regions c = rw (← c.in_ok-only.ensures, ← c.in_ok-named.ensures.named, ← c.in_ok-settings.ensures, c.in_ok-strip.ensures, c.in_ok-send_rows.ensures.tables, c.in_ok-region_rows.ensures.tables, ← c.item_of.ensures, ← c.deref.ensures.value)
    (gives_stopped _ _ _ (faulted _ _ _ c.in_err-regions.ensures) c.from_residual-in_err-regions.ensures.1)

pub returns-in_err-sends : goal.returns-in_err-sends
unfolding track_of
returns-in_err-sends c = rw (← c.in_ok-only.ensures, ← c.in_ok-named.ensures.named, ← c.in_ok-settings.ensures, c.in_ok-strip.ensures, c.in_ok-send_rows.ensures.tables, c.in_ok-region_rows.ensures.tables, ← c.item_of.ensures, ← c.deref.ensures.value, c.in_ok-regions.ensures, ← c.item_of-2.ensures, ← c.deref-2.ensures.value)
    (gives_stopped _ _ _ (faulted _ _ _ c.in_err-sends.ensures) c.from_residual-in_err-sends.ensures.1)

pub returns : goal.returns
unfolding track_of
returns c = rw (← c.in_ok-only.ensures, ← c.in_ok-named.ensures.named, ← c.in_ok-settings.ensures, c.in_ok-strip.ensures, c.in_ok-send_rows.ensures.tables, c.in_ok-region_rows.ensures.tables, ← c.item_of.ensures, ← c.deref.ensures.value, c.in_ok-regions.ensures, ← c.item_of-2.ensures, ← c.deref-2.ensures.value, c.in_ok-sends.ensures) refl
