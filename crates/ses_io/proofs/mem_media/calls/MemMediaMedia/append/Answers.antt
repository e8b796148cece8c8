use Rattle.std.proofs.Common.{◌∙◌, ◌++◌, ◌⊎◌, ◌<◌, ap, refl, inr, length, IsTrue, IsNone}
use Rattle.ses_io.specs.Files.{content}
use Rattle.ses_io.specs.Memory.{fails_appending}
use Rattle.ses_io.specs.Stored.{files_in, stored}
use Rattle.ses_io.proofs.Results.{OnErr-always}
use Rattle.ses_io.proofs.Stored.{AppendsTo-stored}
use Rattle.ses_io.proofs.mem_media.calls.MemMediaMedia.append.Goals as goal

pub returns-in-Ok-clause-ok : goal.returns-in-Ok-clause-ok
returns-in-Ok-clause-ok c =
    let name = c.args.name.now in
    AppendsTo-stored _ _ name c.args.bytes.now _ refl
    (c.in-Ok.ensures.ok ∙ ap (λ fs. stored fs name (content (files_in fs) name ++ c.args.bytes.now)) (ap (λ m. m.files) c.self.view_is))

pub returns-in-Err-clause-only : goal.returns-in-Err-clause-only
returns-in-Err-clause-only c =
    let files = files_in c.args.self.now.files in
    let why : IsTrue (fails_appending c.args.self.now c.args.name.now) ⊎ (IsNone (files c.args.name.now) ⊎ (0 < length c.args.bytes.now)) = rw (← c.self.view_is) (inr c.in-Err.ensures.only) in
    OnErr-always _ why
