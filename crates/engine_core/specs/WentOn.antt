-- What a letter of the workers leaves of what control sees.
use Rattle.std.specs.Prelude.{◌≡◌, true}
use Rattle.serial_laws.specs.Truth.{Grows}
use Rattle.engine_core.specs.declared.run.Run.{Run}
use Rattle.run_end.specs.Failures.{nothing_failed}
use Rattle.engine_core.specs.Now.{is_played_out}
use Rattle.engine_core.specs.Shows.{made_of}

module _ {V I W : Type 0} where
  pub record WentOn (old new : Run V I W) : Type 0 where
    -- no edit was published, and as many cycles are asked for
    pub edition : new.pair.edition ≡ old.pair.edition
    pub asked : new.pair.butler.cycles ≡ old.pair.butler.cycles
    -- there is one entry more at most, and none where no cycle could be made
    pub grows : Grows (is_played_out old) (made_of old) (is_played_out new) (made_of new)
    -- what had failed has
    pub fine : nothing_failed new.failed ≡ true → nothing_failed old.failed ≡ true
