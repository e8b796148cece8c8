use Rattle.std.proofs.Common.{◌≡◌, ◌∙◌, ap, refl}
use Rattle.ses_io.specs.Files.{content, overwritten, OverwritesSome}
use Rattle.ses_io.specs.Stored.{files_in, stored}
use Rattle.ses_io.proofs.Files.{OverwritesSome-none}
use Rattle.ses_io.proofs.Results.{OnErr-always}
use Rattle.ses_io.proofs.Stored.{Overwrites-stored}
use Rattle.ses_io.proofs.mem_media.calls.MemMediaMedia.write_at.Goals as goal

pub returns-clause-ok : goal.returns-clause-ok
returns-clause-ok c =
    let name = c.args.name.now in
    let same = ap (λ m. m.files) c.self-2.view_is ∙ ap (λ m. m.files) c.self.view_is in
    Overwrites-stored _ _ name c.args.at c.args.bytes.now _ refl
    (c.overwrite.ensures ∙ ap (λ fs. stored fs name (overwritten (content (files_in fs) name) c.args.at c.args.bytes.now)) same)

pub returns-then-next-clause-err : goal.returns-then-next-clause-err
returns-then-next-clause-err c =
    let name = c.args.name.now in
    let same : c.write_fault.new.self.files ≡ c.args.self.now.files = ap (λ m. m.files) c.write_fault.ensures.count ∙ ap (λ m. m.files) c.self.view_is in
    let none : OverwritesSome (files_in c.args.self.now.files) (files_in c.write_fault.new.self.files) name c.args.at c.args.bytes.now =
    rw (same) (OverwritesSome-none (files_in c.args.self.now.files) name c.args.at c.args.bytes.now c.requires) in
    OnErr-always _ none
