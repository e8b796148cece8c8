-- A region as the definitions of the sound have it, and the limits that it keeps (own).
use Rattle.std.specs.Prelude.{◌+◌, ◌^◌, ◌<◌, ◌≤◌, List, map}
use Rattle.sound_model.specs.Regions as sound
use Rattle.ses_units.specs.Shape.{shape_of}
use Rattle.session_model.specs.declared.region.Region.{Region}

abbrev pub region_of : Region → sound.Region
region_of r = record {
  id = r.id;
  source = r.source;
  start = r.start;
  long = r.length;
  at = r.at;
  layer = r.layer;
  gain = r.gain;
  opaque = r.opaque;
  fade_in = r.fade_in;
  fade_out = r.fade_out;
  shape_in = shape_of r.shape_in;
  shape_out = shape_of r.shape_out;
}

abbrev pub regions_of : List Region → List sound.Region
regions_of regions = map region_of regions

pub record IsRegion (r : sound.Region) : Type 0 where
  -- an id is 1..999,999
  pub id_least : 1 ≤ r.id
  pub id_most : r.id ≤ 999999
  -- it begins before frame 2^40 of its source
  pub start : r.start < 2 ^ 40
  -- it has 1..2^40 frames
  pub some : 1 ≤ r.long
  pub long : r.long ≤ 2 ^ 40
  -- it ends at frame 2^40 of its source, or before
  pub source_end : r.start + r.long ≤ 2 ^ 40
  -- it ends at position 2^40, or before
  pub end : r.at + r.long ≤ 2 ^ 40
  pub layer : r.layer ≤ 65535
  pub gain : r.gain ≤ 262144
  -- its fades don't overlap
  pub fades : r.fade_in + r.fade_out ≤ r.long
