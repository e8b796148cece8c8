use Rattle.std.proofs.Common.{ℕ, ◌++◌, ap, sym, ◌∙◌, codes, decimal}
use Rattle.edit_resolve.specs.declared.reason.Refusal.{Refusal}
use Rattle.edit_resolve.specs.Reason.{refusal_of}
use Rattle.edit_resolve.specs.Texts.{refusal_text}
use Rattle.control_desk.proofs.line.Line.refusal.Goals as goal

-- src/line.rt
pub returns-in-RegionTwice-clause-bytes : goal.returns-in-RegionTwice-clause-bytes
returns-in-RegionTwice-clause-bytes c =
    c.numbered-in-RegionTwice.ensures.bytes ∙ ap (λ (n : ℕ). c.args.self.text.bytes ++ (codes "region-twice " ++ decimal n)) c.from-in-RegionTwice.ensures
    ∙ ap (λ (why : Refusal). c.args.self.text.bytes ++ refusal_text (refusal_of why)) (sym c.in-RegionTwice.is)
