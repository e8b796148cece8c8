-- The names of tracks keep the rule of names.
use Rattle.std.proofs.Common.{◌≡◌, ℕ, ◌<◌, true, refl, ap, sym, ◌∙◌, arith, get_or}
use Rattle.std.specs.Fmt.{digits}
use Rattle.std.specs.List.{list_all, range_with_len}
use Rattle.std.proofs.lemmas.List.FromFn.{length-range_with_len, get_or-range_with_len}
use Rattle.std.proofs.lemmas.List.Sums.{AllPass-from_list_all}
use Rattle.ses_units.specs.Name.{is_name}
use Rattle.made_session.specs.Made.{track_name}

all-named : list_all (λ t. is_name (track_name t)) (range_with_len 0 32) ≡ true
unfolding digits
all-named = refl

pub named : (t : ℕ) → t < 32 → is_name (track_name t) ≡ true
named t h = let here : get_or (range_with_len 0 32) t 0 ≡ t = get_or-range_with_len 0 32 t 0 h ∙ omega arith in
    ap (λ u. is_name (track_name u)) (sym here)
    ∙ AllPass-from_list_all (λ u. is_name (track_name u)) (range_with_len 0 32) all-named t 0 (omega (arith, length-range_with_len 0 32))
