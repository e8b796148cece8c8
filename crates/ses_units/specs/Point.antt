-- A point of a lane as the definitions of the sound have it.
use Rattle.std.specs.Prelude.{List, map}
use Rattle.sound_model.specs.Lanes as sound
use Rattle.ses_units.specs.declared.point.Point.{Point}

abbrev pub point_of : Point → sound.Point
point_of p = record { at = p.at; gain = p.gain }

abbrev pub points_of : List Point → List sound.Point
points_of points = map point_of points
