use Rattle.std.proofs.Common.{refl}
use Rattle.session_text.specs.Parts.{region_table}
use Rattle.session_text.specs.Said.{said_region}
use Rattle.session_text.proofs.CodeLaws.{shape-said}
use Rattle.session_text.proofs.regions.region_table.Goals as goal

pub returns : goal.returns
unfolding region_table said_region
returns c = rw (
  c.in_ok-put_text-3.ensures,
  c.in_ok-put_text-2.ensures,
  c.in_ok-put_number-8.ensures,
  c.in_ok-put_number-7.ensures,
  c.in_ok-put_number-6.ensures,
  c.in_ok-put_number-5.ensures,
  c.in_ok-put_number-4.ensures,
  c.in_ok-put_flag.ensures,
  c.in_ok-put_number-3.ensures,
  c.in_ok-put_number-2.ensures,
  c.in_ok-put_text.ensures,
  c.in_ok-put_number.ensures,
  c.new-table.ensures.empty,
  c.from.ensures,
  c.source_name.ensures,
  c.from-2.ensures,
  c.from-3.ensures,
  c.value.ensures.value,
  c.shape_word.ensures,
  c.shape_word-2.ensures,
  shape-said c.args.r.now.shape_in,
  shape-said c.args.r.now.shape_out,
) refl
