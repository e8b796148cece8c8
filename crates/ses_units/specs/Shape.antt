-- The shape of a fade as the definitions of the sound have it.
use Rattle.sound_model.specs.Regions as sound
use Rattle.ses_units.specs.declared.shape.Shape.{Shape}
use Rattle.ses_units.specs.declared.shape.Shape.TheVariants.{Linear, Slow}

abbrev pub shape_of : Shape → sound.Shape
shape_of Linear = sound.Linear
shape_of Slow = sound.Slow
