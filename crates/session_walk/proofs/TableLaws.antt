-- Tables and arrays as their reader sees them.
use Rattle.std.proofs.Common.{◌≡◌, ℕ, Bool, ◌&&◌, ◌||◌, refl, ap, ◌∙◌, List, [], ◌∷◌, map, String, BTreeMap, Global, string_bytes, bytes_eq, Some, None}
use Rattle.std.specs.Prelude.{Ok, Err}
use Rattle.std.specs.Str.{IsUtf8, is_utf8}
use Rattle.std.proofs.lemmas.Str.{is_utf8-from_IsUtf8, IsUtf8-from_is_utf8}
use Rattle.sound_laws.proofs.Cases.{by_test}
use Rattle.toml.specs.Data.{Members}
use Rattle.toml.specs.Parse.{parse_document}
use Rattle.session_model.specs.declared.refusal.SessionRefusal.TheVariants.{NotToml}
use Rattle.session_walk.specs.Text.{document}
use Rattle.std.specs.List.{list_all, list_any}
use Rattle.std.specs.BTreeMap.{keys}
use Rattle.toml.specs.Data.{Data}
use Rattle.toml.specs.View.{items_of, members_view, table_view}
use Rattle.toml.specs.declared.value.Value.{Value}
use Rattle.session_model.specs.declared.key.Key.{Key}
use Rattle.session_walk.specs.Words.{word}
use Rattle.session_walk.specs.Section.{only_these}
use Rattle.session_walk.specs.Arrays.{listed_items}

any_known : (known : List Key) (text : List ℕ) → list_any (λ k. bytes_eq text (word k)) known ≡ list_any (bytes_eq text) (map word known)
any_known [] text = refl
any_known (k ∷ ks) text = ap (λ b. bytes_eq text (word k) || b) (any_known ks text)

abbrev Known : List Key → String Global → Bool
Known known text = list_any (λ k. bytes_eq (string_bytes text) (word k)) known

only_entries : (known : List Key) (entries : List (String Global × Value)) →
    list_all (Known known) (map (λ e. e.0) entries) ≡ only_these (map word known) (members_view entries)
only_entries known [] = refl
only_entries known (e ∷ es) = ap (λ b. b && list_all (Known known) (map (λ d. d.0) es)) (any_known known (string_bytes e.0))
    ∙ ap (λ b. list_any (bytes_eq (string_bytes e.0)) (map word known) && b) (only_entries known es)

pub only_is : (known : List Key) (t : BTreeMap (String Global) Value) →
    list_all (λ text. list_any (λ k. bytes_eq (string_bytes text) (word k)) known) (keys t) ≡ only_these (map word known) (table_view t)
only_is known t = only_entries known t.entries

pub items_listed : (ds : List Data) → listed_items (items_of ds) ≡ ds
items_listed [] = refl
items_listed (d ∷ ds) = ap (λ xs. d ∷ xs) (items_listed ds)

-- ---- documents

pub document_read : (b : List ℕ) (t : Members) → IsUtf8 b → parse_document b ≡ Some t → document b ≡ Ok t
unfolding document
document_read b t h e = rw (is_utf8-from_IsUtf8 b h, e) refl

pub document_none : (b : List ℕ) → (IsUtf8 b → parse_document b ≡ None) → document b ≡ Err NotToml
unfolding document
document_none b h = by_test (is_utf8 b)
    (λ e. rw (e, h (IsUtf8-from_is_utf8 b e)) refl)
    (λ e. rw e refl)
