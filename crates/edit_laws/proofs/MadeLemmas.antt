-- What may be changed leaves a whole session.
use Rattle.engine_model.specs.Changes.{TransportOnly, Armed, Soloed, Muted, Faded, Panned, InMode, PointSet, PointUnset, Leads, SendSet, SendUnset, RegionPut, RegionTaken}
use Rattle.engine_laws.proofs.ChangeLemmas.{fixed_stays}
use Rattle.edit_laws.specs.CommandLaws.{MadeKeepsValid}
use Rattle.edit_laws.proofs.RouteChangeLemmas.{muted_whole, faded_whole, mode_whole, point_set_whole, point_unset_whole, panned_whole, leads_whole, send_set_whole, send_unset_whole}
use Rattle.edit_laws.proofs.TrackChangeLemmas.{armed_whole, soloed_whole, region_put_whole, region_taken_whole}

pub made_keeps_valid : MadeKeepsValid
made_keeps_valid s TransportOnly whole may = whole
made_keeps_valid s (Armed t on) whole may = armed_whole s t whole on may.1 (fixed_stays s (Armed t on))
made_keeps_valid s (Soloed t on) whole may = soloed_whole s t whole on (fixed_stays s (Soloed t on))
made_keeps_valid s (Muted r on) whole may = muted_whole s r whole on (fixed_stays s (Muted r on))
made_keeps_valid s (Faded r gain) whole may = faded_whole s r whole gain may.1 (fixed_stays s (Faded r gain))
made_keeps_valid s (Panned r left right) whole may = panned_whole s r whole left right may.0 may.1 may.2 (fixed_stays s (Panned r left right))
made_keeps_valid s (InMode r mode) whole may = mode_whole s r whole mode (fixed_stays s (InMode r mode))
made_keeps_valid s (PointSet r p) whole may = point_set_whole s r whole p may.1 may.2 may.3 (fixed_stays s (PointSet r p))
made_keeps_valid s (PointUnset r place) whole may = point_unset_whole s r whole place (fixed_stays s (PointUnset r place))
made_keeps_valid s (Leads r to) whole may = leads_whole s r whole to may (fixed_stays s (Leads r to))
made_keeps_valid s (SendSet r link) whole may = send_set_whole s r whole link may.0 may.1 may.2 (fixed_stays s (SendSet r link))
made_keeps_valid s (SendUnset r to) whole may = send_unset_whole s r whole to may.0 (fixed_stays s (SendUnset r to))
made_keeps_valid s (RegionPut t r) whole may = region_put_whole s t whole r may (fixed_stays s (RegionPut t r))
made_keeps_valid s (RegionTaken t id) whole may = region_taken_whole s t whole id (fixed_stays s (RegionTaken t id))
