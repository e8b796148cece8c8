-- What an edit is about.
use Rattle.session_model.specs.declared.edit.Edit.{Edit}
use Rattle.session_model.specs.declared.edit.Edit.TheVariants as edit

pub data Kind : Type 0 where
  -- what the transport does
  OfTransport : Kind
  -- what is set on one track or route
  OfRoute : Kind
  -- where a route leads
  OfLink : Kind
  -- which regions a track has, and what they play where
  OfRegion : Kind
  -- how a region blends with those round it
  OfBlend : Kind

abbrev pub kind_of : Edit → Kind
kind_of edit.Roll = OfTransport
kind_of edit.Stop = OfTransport
kind_of edit.Quit = OfTransport
kind_of (edit.Recording on) = OfTransport
kind_of (edit.Locate to) = OfTransport
kind_of (edit.Loop from to) = OfTransport
kind_of edit.LoopOff = OfTransport
kind_of (edit.Arm track on) = OfRoute
kind_of (edit.Solo track on) = OfRoute
kind_of (edit.Mute route on) = OfRoute
kind_of (edit.Gain route gain) = OfRoute
kind_of (edit.Pan route left right) = OfRoute
kind_of (edit.Mode route mode) = OfRoute
kind_of (edit.Point route place gain) = OfRoute
kind_of (edit.Unpoint route place) = OfRoute
kind_of (edit.Connect route target) = OfLink
kind_of (edit.Send route target pre gain) = OfLink
kind_of (edit.Unsend route target) = OfLink
kind_of (edit.Add track id source start long place layer) = OfRegion
kind_of (edit.Remove track id) = OfRegion
kind_of (edit.Move track id place) = OfRegion
kind_of (edit.Trim track id start long) = OfRegion
kind_of (edit.Layer track id layer) = OfBlend
kind_of (edit.Opaque track id on) = OfBlend
kind_of (edit.RegionGain track id gain) = OfBlend
kind_of (edit.Fade track id fade_in fade_out) = OfBlend
kind_of (edit.Shape track id shape_in shape_out) = OfBlend
