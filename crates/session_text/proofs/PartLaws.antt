-- The table of a part is read as that part: the session's own part, sources, regions, sends and the master.
use Rattle.std.proofs.Common.{◌≡◌, ◌-◌, ◌≤◌, true, refl, arith}
use Rattle.ses_units.specs.Lane.{IsLane}
use Rattle.ses_units.specs.Name.{is_name}
use Rattle.session_model.specs.declared.session.SourceDecl.{SourceDecl}
use Rattle.session_walk.specs.declared.said as text
use Rattle.session_walk.specs.declared.said.Version.TheVariants.{Two}
use Rattle.session_walk.specs.InRange.{IsHead, IsSource, IsRegionText}
use Rattle.session_walk.specs.Words.{word}
use Rattle.session_walk.specs.Parts.{head_of, source_of, span_of, fades_of, region_of, send_of, level_of, automation_of, master_of}
use Rattle.session_text.specs.Kept.{IsKeptSource}
use Rattle.session_text.specs.Parts.{head_table, source_table, region_table, send_table, master_table}
use Rattle.session_text.proofs.KeyLaws.{below, ranged, version-read, bits-read, mode-read, shape-read}
use Rattle.session_text.proofs.LaneLaws.{lane-read}
use Rattle.session_text.proofs.ArrayLaws.{Reads}

pub head-read : (h : text.Head.Head) → IsHead h → is_name h.takes ≡ true → Reads head_of head_table h
unfolding head_of head_table word
head-read h is takes p = rw (
  version-read h.version,
  ranged 8000 192000 h.rate is.slowest is.fastest,
  bits-read h.bits,
  ranged 1 2 h.channels is.channels_least is.channels_most,
  ranged 1 4096 h.block is.block_least is.block_most,
  ranged 2 256 h.depth is.depth_least is.depth_most,
  below _ _ is.ring,
  takes,
) refl

pub source-read : (d : SourceDecl) → IsSource d → IsKeptSource d → Reads source_of source_table d
unfolding source_of source_table word
source-read d is kept p = rw (kept.name, kept.file, ranged 1 2 d.channels is.channels_least is.channels_most) refl

pub region-read : (r : text.RegionText.RegionText) → IsRegionText r → is_name r.source ≡ true → Reads (region_of Two) region_table r
unfolding region_of span_of fades_of region_table word
region-read r is source p = rw (
  ranged 1 999999 r.id is.id_least is.id_most,
  source,
  ranged 0 1099511627775 r.span.start (omega arith) (omega (arith, is.start)),
  ranged 1 1099511627776 r.span.length is.some is.long,
  below _ _ is.source_end,
  ranged 0 1099511627776 r.span.at (omega arith) (omega (arith, is.end)),
  below _ _ is.end,
  ranged 0 65535 r.layer (omega arith) is.layer,
  ranged 0 262144 r.gain (omega arith) is.gain,
  ranged 0 r.span.length r.fades.fade_in (omega arith) (omega (arith, is.fades)),
  ranged 0 (r.span.length - r.fades.fade_in) r.fades.fade_out (omega arith) (omega (arith, is.fades)),
  shape-read r.fades.shape_in,
  shape-read r.fades.shape_out,
) refl

-- what a send keeps by its types
pub record IsSend (l : text.SendText.SendText) : Type 0 where
  pub name : is_name l.to ≡ true
  pub gain : l.gain ≤ 262144

pub send-read : (l : text.SendText.SendText) → IsSend l → Reads send_of send_table l
unfolding send_of send_table word
send-read l is p = rw (is.name, ranged 0 262144 l.gain (omega arith) is.gain) refl

pub master-read : (m : text.MasterText.MasterText) → m.level.gain ≤ 262144 → IsLane m.automation.lane → Reads master_of master_table m
unfolding master_of level_of automation_of master_table word
master-read m gain lane p = rw (
  ranged 0 262144 m.level.gain (omega arith) gain,
  mode-read m.automation.mode,
  lane-read (record { place = p; members = master_table m }) m.automation.lane refl lane,
) refl
