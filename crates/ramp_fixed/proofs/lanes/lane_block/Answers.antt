use Rattle.std.proofs.Common.{sym, ◌∙◌}
use Rattle.sound_model.specs.Lanes.{gain_at}
use Rattle.ses_units.specs.Mode.{mode_of}
use Rattle.ramp_fixed.proofs.LanePieces.{repeated_is_map}
use Rattle.ramp_fixed.proofs.lanes.lane_block.Goals as goal

pub returns-in-Manual-clause-gains : goal.returns-in-Manual-clause-gains
returns-in-Manual-clause-gains c =
    c.fill_even.ensures
    ∙ repeated_is_map (gain_at (mode_of c.args.mode) c.args.fader c.args.lane.now) c.value.result _ c.args.places.now (sym c.requires.count)
    (λ x. rw c.in-Manual.is (sym c.value.ensures.value))
