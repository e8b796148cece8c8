-- What a region hides isn't heard.
use Rattle.std.proofs.Common.{ℕ, suc, ◌+◌, ◌*◌, ◌<◌, ◌≤◌, List, [], ◌∷◌, ◌++◌, reverse, AllPairs, refl, ap, sym, ◌∙◌, arith}
use Rattle.std.specs.Prelude.{IsTrue}
use Rattle.std.proofs.lemmas.List.{reverse-append, append-nil}
use Rattle.sound_model.specs.Regions.{Region}
use Rattle.sound_model.specs.Layers.{is_below, lay}
use Rattle.sound_laws.specs.Tracks.{Hides}
use Rattle.sound_laws.proofs.LayerLaws.{hides_all_below}
use Rattle.session_model.proofs.PlaylistLemmas.{in_order}
use Rattle.playlist_layers.specs.Laws.{WhatIsHiddenIsNotHeard}
use Rattle.playlist_layers.specs.Spans.{SoundAlike}
use Rattle.playlist_layers.proofs.HeardLemmas.{turned}
use Rattle.playlist_layers.proofs.SpanLemmas.{heard_alike, heard_track}

pairs_behind : (R : Region → Region → Type 0) (front back : List Region) → AllPairs R (front ++ back) → AllPairs R back
pairs_behind R [] back h = h
pairs_behind R (q ∷ front) back h = pairs_behind R front back (λ i j d before within. h (suc i) (suc j) d (omega arith) (omega arith))

alike : (below above : List Region) (r : Region) (from frames : ℕ) → ((x : ℕ) → from ≤ x → x < from + frames → Hides r x)
    → SoundAlike from frames (reverse (below ++ r ∷ above)) (reverse (r ∷ above))
alike below above r from frames hides sounds c x low high =
    ap (lay sounds c x) (reverse-append below (r ∷ above) ∙ turned r above (reverse below))
    ∙ hides_all_below sounds (reverse above) (reverse below) r c x (hides x low high)
    ∙ ap (lay sounds c x) (sym (turned r above []) ∙ append-nil (reverse (r ∷ above)))

pub what_is_hidden_is_not_heard : WhatIsHiddenIsNotHeard
what_is_hidden_is_not_heard sounds below above r channels from frames list few hides =
    sym (heard_track sounds (below ++ r ∷ above) channels from (frames * channels) (in_order (below ++ r ∷ above) list.rising))
    ∙ heard_alike sounds (reverse (below ++ r ∷ above)) (reverse (r ∷ above)) channels from frames (frames * channels) few refl (alike below above r from frames hides)
    ∙ heard_track sounds (r ∷ above) channels from (frames * channels) (in_order (r ∷ above) (pairs_behind (λ p q. IsTrue (is_below p q)) below (r ∷ above) list.rising))
