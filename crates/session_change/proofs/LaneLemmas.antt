-- A lane has room for a point, or a point to be taken out, where the session says so.
use Rattle.std.proofs.Common.{◌≡◌, ℕ, ◌<◌, List, [], ◌∷◌, length, filter, refl, sym, ap, ◌∙◌, arith}
use Rattle.std.specs.Prelude.{Bool, true, false, not, ◌||◌, ◌==◌, if◌then◌else◌, Some, None, find, slice_get, Result, Ok, Err, IsOk, IsErr}
use Rattle.std.specs.Option.{option_map, option_map_or}
use Rattle.std.specs.List.{list_any}
use Rattle.std.proofs.lemmas.Bool.{false≢true}
use Rattle.sound_model.specs.Lanes.{Point}
use Rattle.ses_units.specs.Lane.{without_point, gain_standing}
use Rattle.session_model.specs.declared.route.Route.{Route}
use Rattle.session_model.specs.declared.session.Session.{Session}
use Rattle.engine_model.specs.Commands.{other_points, has_point}
use Rattle.edit_laws.proofs.SendLemmas.{points_elsewhere}

-- what is no error is done
done : {T E : Type 0} (r : Result T E) → (IsErr r → ⊥) → IsOk r
done (Ok x) none = refl
done (Err e) none = absurd (none refl)

-- ---- a point more

pub has_room : {T E : Type 0} (r : Result T E) (s : Session) (i place : ℕ) (q : Route) → slice_get s.routes.items i ≡ Some q → other_points s i place < 1024 →
    (IsErr r → length (without_point q.lane place) ≡ 1024) → IsOk r
has_room r s i place q here room full = done r (λ e. omega (
  arith,
  ap (λ o. option_map_or (λ x. length (filter (λ p. not (p.at == place)) x.lane)) o 0) here,
  points_elsewhere place q.lane,
  full e,
  room,
))

-- ---- a point less

none_stands : (place : ℕ) (ps : List Point) → gain_standing ps place ≡ None → list_any (λ p. p.at == place) ps ≡ false
none_stands place [] e = refl
none_stands place (p ∷ ps) e = by_place (p.at == place) (none_stands place ps) e
  where
    by_place : (b : Bool) → (gain_standing ps place ≡ None → list_any (λ x. x.at == place) ps ≡ false) →
        option_map (λ x. x.gain) (if b then Some p else find (λ x. x.at == place) ps) ≡ None → b || list_any (λ x. x.at == place) ps ≡ false
    by_place true rest h = cc
    by_place false rest h = rest h

pub has_it : {T E : Type 0} (r : Result T E) (s : Session) (i place : ℕ) (q : Route) → slice_get s.routes.items i ≡ Some q → has_point s i place ≡ true →
    (IsErr r → gain_standing q.lane place ≡ None) → IsOk r
has_it r s i place q here stands absent = done r
    (λ e. false≢true (sym (none_stands place q.lane (absent e)) ∙ sym (ap (λ o. option_map_or (λ x. list_any (λ p. p.at == place) x.lane) o false) here) ∙ stands))
