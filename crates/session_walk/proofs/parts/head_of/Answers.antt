-- Each step in turn, up to the one that stops.
use Rattle.std.proofs.Common.{sym, refl}
use Rattle.session_walk.specs.Parts.{head_of}
use Rattle.session_walk.proofs.StopLaws.{same_refusal}
use Rattle.session_walk.proofs.parts.head_of.Goals as goal

pub returns-in_err-only : goal.returns-in_err-only
unfolding head_of
returns-in_err-only c = same_refusal _ _ _ _ (sym c.in_err-only.ensures) c.from_residual.ensures.1

pub returns-in_err-version : goal.returns-in_err-version
unfolding head_of
returns-in_err-version c = rw (← c.in_ok-only.ensures)
    (same_refusal _ _ _ _ (sym c.in_err-version.ensures) c.from_residual-in_err-version.ensures.1)

pub returns-in_err-rate : goal.returns-in_err-rate
unfolding head_of
returns-in_err-rate c = rw (← c.in_ok-only.ensures, ← c.in_ok-version.ensures)
    (same_refusal _ _ _ _ (sym c.in_err-rate.ensures.value) c.from_residual-in_err-rate.ensures.1)

pub returns-in_err-bits : goal.returns-in_err-bits
unfolding head_of
returns-in_err-bits c = rw (← c.in_ok-only.ensures, ← c.in_ok-version.ensures, ← c.in_ok-rate.ensures.value)
    (same_refusal _ _ _ _ (sym c.in_err-bits.ensures) c.from_residual-in_err-bits.ensures.1)

pub returns-in_err-channels : goal.returns-in_err-channels
unfolding head_of
returns-in_err-channels c = rw (← c.in_ok-only.ensures, ← c.in_ok-version.ensures, ← c.in_ok-rate.ensures.value, ← c.in_ok-bits.ensures)
    (same_refusal _ _ _ _ (sym c.in_err-channels.ensures.value) c.from_residual-in_err-channels.ensures.1)

pub returns-in_err-block : goal.returns-in_err-block
unfolding head_of
returns-in_err-block c = rw (← c.in_ok-only.ensures, ← c.in_ok-version.ensures, ← c.in_ok-rate.ensures.value, ← c.in_ok-bits.ensures, ← c.in_ok-channels.ensures.value)
    (same_refusal _ _ _ _ (sym c.in_err-block.ensures.value) c.from_residual-in_err-block.ensures.1)

pub returns-in_err-depth : goal.returns-in_err-depth
unfolding head_of
returns-in_err-depth c = rw (← c.in_ok-only.ensures, ← c.in_ok-version.ensures, ← c.in_ok-rate.ensures.value, ← c.in_ok-bits.ensures, ← c.in_ok-channels.ensures.value, ← c.in_ok-block.ensures.value)
    (same_refusal _ _ _ _ (sym c.in_err-depth.ensures.value) c.from_residual-in_err-depth.ensures.1)

pub returns-in_err-holds : goal.returns-in_err-holds
unfolding head_of
returns-in_err-holds c = rw (← c.in_ok-only.ensures, ← c.in_ok-version.ensures, ← c.in_ok-rate.ensures.value, ← c.in_ok-bits.ensures, ← c.in_ok-channels.ensures.value, ← c.in_ok-block.ensures.value, ← c.in_ok-depth.ensures.value)
    (same_refusal _ _ _ _ (sym c.in_err-holds.ensures) c.from_residual-in_err-holds.ensures.1)

pub returns-in_err-takes : goal.returns-in_err-takes
unfolding head_of
returns-in_err-takes c = rw (← c.in_ok-only.ensures, ← c.in_ok-version.ensures, ← c.in_ok-rate.ensures.value, ← c.in_ok-bits.ensures, ← c.in_ok-channels.ensures.value, ← c.in_ok-block.ensures.value, ← c.in_ok-depth.ensures.value, ← c.in_ok-holds.ensures)
    (same_refusal _ _ _ _ (sym c.in_err-takes.ensures) c.from_residual-in_err-takes.ensures.1)

pub returns : goal.returns
unfolding head_of
returns c = rw (← c.in_ok-only.ensures, ← c.in_ok-version.ensures, ← c.in_ok-rate.ensures.value, ← c.in_ok-bits.ensures, ← c.in_ok-channels.ensures.value, ← c.in_ok-block.ensures.value, ← c.in_ok-depth.ensures.value, ← c.in_ok-holds.ensures, ← c.in_ok-takes.ensures) refl
