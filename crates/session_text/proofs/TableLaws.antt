-- What a table holds once a value is put at a key.
use Rattle.std.proofs.Common.{◌≡◌, List, [], ◌∷◌, Ordering, Less, Equal, Greater, String, Global, string_bytes, refl, ◌∙◌}
use Rattle.std.specs.Ordering.{match_ordering}
use Rattle.std.specs.BTreeMap.{insert_entry}
use Rattle.std.specs.String.{string_cmp}
use Rattle.toml.specs.View.{view, members_view}
use Rattle.toml.specs.declared.value.Value.{Value}
use Rattle.session_text.specs.Tables.{with_member}

abbrev Entry : Type 0
Entry = String Global × Value

chosen : (o : Ordering) (a b c : List Entry) → members_view (match_ordering o a b c) ≡ match_ordering o (members_view a) (members_view b) (members_view c)
chosen Less a b c = refl
chosen Equal a b c = refl
chosen Greater a b c = refl

pub inserted : (entries : List Entry) (k : String Global) (v : Value) → members_view (insert_entry string_cmp entries k v) ≡ with_member (string_bytes k) (view v) (members_view entries)
inserted [] k v = refl
inserted (e ∷ es) k v = chosen (string_cmp k e.0) _ _ _ ∙ rw (inserted es k v) refl
