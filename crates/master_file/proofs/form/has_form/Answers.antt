use Rattle.std.proofs.Common.{ap, arith, length}
use Rattle.report_verdict.proofs.FileLemmas.{head_long}
use Rattle.master_file.proofs.form.has_form.Goals as goal

pub holds-requires-clause-room : goal.holds-requires-clause-room
holds-requires-clause-room g c = omega (arith, ap length c.requires.head, head_long c.args.s.now c.args.blocks, c.requires.room)
