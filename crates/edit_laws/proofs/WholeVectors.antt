-- A worked session is whole: so the laws speak of some session.
use Rattle.std.proofs.Common.{◌≡◌, ◌^◌, ◌<◌, ◌≤◌, [], ◌∷◌, refl, sym, subst, true, arith, All}
use Rattle.std.proofs.lemmas.List.Elements.{All-cons, All-nil}
use Rattle.ses_units.specs.Lane.{IsLane}
use Rattle.session_model.specs.declared.route.Route.{Route}
use Rattle.session_model.specs.declared.track.Track.{Track}
use Rattle.session_model.specs.Region.{IsRegion}
use Rattle.session_model.specs.Playlist.{IsPlaylist}
use Rattle.session_model.specs.Tests.{is_formed, is_valid}
use Rattle.session_model.proofs.SessionVectors.{base, master, t, track, whole}
use Rattle.session_model.proofs.ValidityLaws.{validity_is_tested}
use Rattle.engine_model.specs.MayMake.{HasQuietGains}
use Rattle.edit_laws.specs.CommandLaws.{IsWhole}

base_is_valid : is_valid base ≡ true
unfolding is_formed is_valid
base_is_valid = refl

quiet : (q : Route) → q.fader ≡ 65536 → q.left ≡ 65536 → q.right ≡ 65536 → q.lane ≡ [] → q.sends.items ≡ [] → HasQuietGains q
quiet q fader left right lane sends = record {
  fader = omega (arith, fader);
  left = omega (arith, left);
  right = omega (arith, right);
  lane = subst IsLane (sym lane) (record { few = omega arith; near = All-nil (λ p. p.at < 2 ^ 40); quiet = All-nil (λ p. p.gain ≤ 262144); rising = λ i j d l m. absurd (omega arith) });
  sends = subst (All (λ l. l.gain ≤ 262144)) (sym sends) (All-nil (λ l. l.gain ≤ 262144));
}

whole_is_region : IsRegion whole
whole_is_region = record {
  id_least = omega arith;
  id_most = omega arith;
  start = omega arith;
  some = omega arith;
  long = omega arith;
  source_end = omega arith;
  end = omega arith;
  layer = omega arith;
  gain = omega arith;
  fades = omega arith;
}

one_region : IsPlaylist (whole ∷ [])
one_region = record {
  few = omega arith;
  limits = All-cons IsRegion whole [] whole_is_region (All-nil IsRegion);
  rising = λ i j d l m. absurd (omega arith);
  apart = λ i j d l m. absurd (omega arith);
}

base_is_whole : IsWhole base
base_is_whole = record {
  valid = (validity_is_tested base).0 base_is_valid;
  types = record {
    routes = All-cons HasQuietGains (t 1) (master ∷ []) (quiet (t 1) refl refl refl refl refl) (All-cons HasQuietGains master [] (quiet master refl refl refl refl refl) (All-nil HasQuietGains));
    tracks = All-cons (λ (k : Track). IsPlaylist k.list) (track 0 (whole ∷ [])) [] one_region (All-nil (λ (k : Track). IsPlaylist k.list));
  };
}
