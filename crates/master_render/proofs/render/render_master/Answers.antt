use Rattle.std.proofs.Common.{sym, subst}
use Rattle.master_render.specs.Written.{IsWritten}
use Rattle.master_render.proofs.BytesLemmas.{head_of, pad_of, file_parts}
use Rattle.master_render.proofs.WrittenLemmas.{of_writes, written_on, fails_first, fails_as}
use Rattle.master_render.proofs.render.render_master.Goals as goal

pub returns-in_err-begin-clause-written : goal.returns-in_err-begin-clause-written
returns-in_err-begin-clause-written g c = λ t w. let s = c.args.s.now in let sink = g.W.Sink.outside in let r = c.from_residual-in_err-begin.result in let is = c.from_residual-in_err-begin.ensures.0 in
    subst (λ xs. IsWritten sink xs c.args.master.now c.begin.new.master r) (sym (file_parts _ s c.args.from c.args.frames c.canon_is_header_and_sound.ensures))
    (fails_first sink (head_of s c.args.frames) _ c.args.master.now c.begin.new.master r is
    (fails_as sink _ c.args.master.now c.begin.new.master _ r is (of_writes sink _ c.args.master.now c.begin.new.master _ w c.in_err-begin.ensures.writes)))

pub returns-in_err-write-clause-written : goal.returns-in_err-write-clause-written
returns-in_err-write-clause-written g c = λ t w. let s = c.args.s.now in let sink = g.W.Sink.outside in let r = c.from_residual-in_err-write.result in let is = c.from_residual-in_err-write.ensures.0 in
    subst (λ xs. IsWritten sink xs c.args.master.now c.write.new.master r) (sym (file_parts _ s c.args.from c.args.frames c.canon_is_header_and_sound.ensures))
    (written_on sink (head_of s c.args.frames) _ c.args.master.now c.begin.new.master c.write.new.master r (c.in_ok-begin.ensures.writes.all w)
    (fails_first sink _ _ c.begin.new.master c.write.new.master r is (fails_as sink _ c.begin.new.master c.write.new.master _ r is (c.in_err-write.ensures.written t w))))

pub returns-clause-written : goal.returns-clause-written
returns-clause-written g c = λ t w. let s = c.args.s.now in let sink = g.W.Sink.outside in let r = c.pad.result in
    subst (λ xs. IsWritten sink xs c.args.master.now c.pad.new.master r) (sym (file_parts _ s c.args.from c.args.frames c.canon_is_header_and_sound.ensures))
    (written_on sink (head_of s c.args.frames) _ c.args.master.now c.begin.new.master c.pad.new.master r (c.in_ok-begin.ensures.writes.all w)
    (written_on sink _ (pad_of s c.args.frames) c.begin.new.master c.write.new.master c.pad.new.master r (c.in_ok-write.ensures.written t w).all
    (of_writes sink _ c.write.new.master c.pad.new.master r w c.pad.ensures.writes)))
