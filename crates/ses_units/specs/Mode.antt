-- The mode of a route as the definitions of the sound have it.
use Rattle.sound_model.specs.Lanes as sound
use Rattle.ses_units.specs.declared.mode.Mode.{Mode}
use Rattle.ses_units.specs.declared.mode.Mode.TheVariants.{Manual, Play}

abbrev pub mode_of : Mode → sound.Mode
mode_of Manual = sound.Manual
mode_of Play = sound.Play
