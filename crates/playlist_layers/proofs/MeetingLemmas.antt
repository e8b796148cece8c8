-- The regions that meet a block sound over it as all regions do.
use Rattle.std.proofs.Common.{ℕ, List, reverse, ap, ◌∙◌}
use Rattle.sound_model.specs.Regions.{Region}
use Rattle.sound_model.specs.Layers.{lay}
use Rattle.session_model.specs.Playlist.{places_meeting}
use Rattle.layer_laws.proofs.SpanLemmas.{only_covering_matter, places_are_of_those_meeting}
use Rattle.playlist_layers.specs.Spans.{SoundAlike, no_region, picked}

pub meeting_alike : (regions : List Region) (from frames : ℕ) → SoundAlike from frames (reverse (picked regions (places_meeting regions from frames))) (reverse regions)
meeting_alike regions from frames sounds c x low high =
    ap (λ rs. lay sounds c x (reverse rs)) (places_are_of_those_meeting regions from frames no_region) ∙ only_covering_matter sounds regions from frames c x low high
