-- A name is ASCII text.
use Rattle.ses_units.proofs.NameLemmas.{IsOk-from_utf8, IsUtf8-from_name}
use Rattle.ses_units.proofs.name.Name.as_str.Goals as goal

pub unwrap-requires : goal.unwrap-requires
unwrap-requires c =
    IsOk-from_utf8 _ _ _ c.from_utf8.result c.from_utf8.ensures.cases
    (IsUtf8-from_name _ (rw c.as_bytes.ensures.bytes c.as_bytes.ensures.rule))
