use Rattle.std.proofs.Common.{inl, refl, take, arith}
use Rattle.input_head.proofs.WantedBytes.{begins_at_zero}
use Rattle.input_head.proofs.heading.scanned.Goals as goal

pub loop-next-init : goal.loop-next-init
loop-next-init g c = record {
  size = c.new-scan.ensures.size;
  place = omega arith;
  reading = λ t. record {
    place = c.requires.1 t;
    agrees = λ n behind. c.new-scan.ensures.agrees (take n g.start) tt;
    begun = inl (begins_at_zero c.new-scan.result (λ b. c.new-scan.ensures.agrees b tt));
  };
  faults = refl;
}
