use Rattle.std.proofs.Common.{◌≡◌, ℕ, ◌/◌, ◌<◌, ◌∙◌, List, length, reverse, All, ap, ap₂, sym, subst}
use Rattle.std.specs.Prelude.{ℤ, OnOk}
use Rattle.std.proofs.lemmas.List.{length-map}
use Rattle.std.proofs.lemmas.List.Elements.{All-same}
use Rattle.sound_model.specs.Regions.{Sounds}
use Rattle.session_model.specs.Frames.{sounds_of}
use Rattle.session_model.specs.Region.{region_of, regions_of}
use Rattle.session_model.specs.Playlist.{places_meeting}
use Rattle.session_model.proofs.PlaylistLemmas.{playlists_are_in_order}
use Rattle.playlist_layers.specs.Blocks.{heard_block}
use Rattle.playlist_layers.specs.Spans.{SoundAlike, picked}
use Rattle.layer_laws.proofs.SpanLemmas.{places_are_there}
use Rattle.playlist_layers.proofs.MeetingLemmas.{meeting_alike}
use Rattle.mix_kernel.proofs.Ranges.{whole_frames}
use Rattle.playlist_layers.proofs.SpanLemmas.{heard_alike, heard_track}
use Rattle.playlist_layers.proofs.rendering.render.Goals as goal

pub spans-requires-clause-places : goal.spans-requires-clause-places
spans-requires-clause-places g c =
    let places : c.as_slice.result.now ≡ places_meeting c.args.list.now c.args.from c.count-count.result = c.as_slice.ensures.value ∙ c.covering.ensures in
    let long : length c.args.list.now ≡ length c.regions.result.now = sym (ap length c.regions.ensures.regions) ∙ length-map c.regions.result.now region_of in
    subst (λ n. All (λ p. p < n) c.as_slice.result.now) long (All-same (λ p. p < length c.args.list.now) _ _ places (places_are_there c.args.list.now c.args.from c.count-count.result))

pub returns-clause-told : goal.returns-clause-told
returns-clause-told g c = λ t.
    let sounds : Sounds = sounds_of (g.F.Frames.outside.frames c.args.frames.now) in
    let n : ℕ = length c.args.out.now in
    let places : c.as_slice.result.now ≡ places_meeting c.args.list.now c.args.from c.count-count.result = c.as_slice.ensures.value ∙ c.covering.ensures in
    let all : picked (regions_of c.regions.result.now) c.as_slice.result.now ≡ picked c.args.list.now (places_meeting c.args.list.now c.args.from c.count-count.result) =
    ap₂ picked c.regions.ensures.regions places in
    let alike : SoundAlike c.args.from (n / c.args.channels) (reverse (picked c.args.list.now (places_meeting c.args.list.now c.args.from c.count-count.result))) (reverse c.args.list.now) =
    subst (λ m. SoundAlike c.args.from m (reverse (picked c.args.list.now (places_meeting c.args.list.now c.args.from c.count-count.result))) (reverse c.args.list.now))
    c.count-count.ensures (meeting_alike c.args.list.now c.args.from c.count-count.result) in
    subst (λ (want : List ℤ). OnOk c.spans.result (c.spans.new.out ≡ want))
    (ap (λ rs. heard_block sounds (reverse rs) c.args.channels c.args.from n) all
    ∙ heard_alike sounds (reverse (picked c.args.list.now (places_meeting c.args.list.now c.args.from c.count-count.result))) (reverse c.args.list.now) c.args.channels c.args.from (n / c.args.channels) n
    c.requires.channels (whole_frames n c.args.channels c.requires.channels c.requires.whole) alike
    ∙ heard_track sounds c.args.list.now c.args.channels c.args.from n (playlists_are_in_order c.args.list.now c.regions.ensures.playlist))
    (c.spans.ensures.told t)
