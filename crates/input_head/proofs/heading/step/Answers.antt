use Rattle.input_head.proofs.StepLemmas as steps
use Rattle.input_head.proofs.heading.step.Goals as goal

pub returns-in_err-read-clause-told : goal.returns-in_err-read-clause-told
returns-in_err-read-clause-told g c = λ t. let want = c.want-want in
    steps.fault_answered c.from_residual.result g.start _ _ c.from_residual.ensures.1
    (steps.fault_told c.args.scan g.start _ _ c.args.taken want.result.at _
    (steps.asked_by c.args.scan c.args.taken want.result.at want.result.length c.requires.1.0 c.requires.1.1.0 want.ensures.at want.ensures.length want.ensures.some want.ensures.few)
    (c.requires.1.1.1 t) (c.in_err-read.ensures.lost t))

pub returns-in-Ok-clause-told : goal.returns-in-Ok-clause-told
returns-in-Ok-clause-told g c = λ t. let want = c.want-want in
    steps.step_told c.args.scan g.start _ _ c.fetch.new.buf _ c.args.taken want.result.at _ c.in_ok-read.read (record {
      asked = steps.asked_by c.args.scan c.args.taken want.result.at want.result.length c.requires.1.0 c.requires.1.1.0 want.ensures.at want.ensures.length want.ensures.some want.ensures.few;
      reading = c.requires.1.1.1 t;
      within = c.in_ok-read.ensures.bound;
      bytes = c.in_ok-read.ensures.bytes t;
      rest = c.in_ok-read.ensures.rest t;
    }) c.in-Ok.next c.else-want-eq0.either c.in-Ok.ensures.rises c.in-Ok.ensures.reached c.in-Ok.ensures.answer

pub returns-in-Err-clause-told : goal.returns-in-Err-clause-told
returns-in-Err-clause-told g c = λ t. let want = c.want-want in
    steps.refusal_told c.args.scan g.start _ _ c.fetch.new.buf _ c.args.taken want.result.at _ c.in_ok-read.read (record {
      asked = steps.asked_by c.args.scan c.args.taken want.result.at want.result.length c.requires.1.0 c.requires.1.1.0 want.ensures.at want.ensures.length want.ensures.some want.ensures.few;
      reading = c.requires.1.1.1 t;
      within = c.in_ok-read.ensures.bound;
      bytes = c.in_ok-read.ensures.bytes t;
      rest = c.in_ok-read.ensures.rest t;
    }) c.in-Err.refusal c.else-want-eq0.either c.in-Err.ensures.answer
