use Rattle.std.proofs.Common.{◌∙◌, refl, ap}
use denote.Ref.{Bor}
use Rattle.std.specs.Prelude.{ℕ, List, [], ◌∷◌}
use Rattle.std.proofs.lemmas.Bool.Decides.{Decides-eqb}
use Rattle.std.proofs.lemmas.Slice.Eq.{strip_suffix_is}
use Rattle.edit_script.specs.Reading.{said}
use Rattle.control_lines.proofs.BegunLemmas.{bare_of}
use Rattle.control_lines.proofs.begun.said_before_feed.Goals as goal

pub returns : goal.returns
returns c = c.parse.ensures.said ∙ ap said (ap (λ (x : Bor (List ℕ)). x.now) c.unwrap_or.ensures
    ∙ bare_of c.args.line.now _ c.args.line refl (strip_suffix_is Decides-eqb _ (13 ∷ []) _ c.strip_suffix.ensures.cases))
