-- In version 1 every fade of a session is linear.
use Rattle.std.proofs.Common.{◌≡◌, ℕ, suc, refl, ap, sym, ◌∙◌, subst, List, [], ◌∷◌, map, All, Some}
use Rattle.std.specs.Prelude.{pos, Ok}
use Rattle.std.proofs.lemmas.List.Elements.{All-nil, All-cons, All-head, All-tail}
use Rattle.toml.specs.Data.{Members}
use Rattle.ses_units.specs.Shape.{shape_of}
use Rattle.session_model.specs.declared.key.Key.TheVariants as key
use Rattle.session_model.specs.declared.session.Session.{Session}
use Rattle.session_model.specs.declared.track.Track.{Track}
use Rattle.session_walk.specs.declared.said as text
use Rattle.session_walk.specs.declared.said.Version.{Version}
use Rattle.session_walk.specs.declared.said.Version.TheVariants.{One, Two}
use Rattle.session_walk.specs.Says.{SaysTable, SaysWhole, version_number}
use Rattle.session_walk.specs.Text.{written}
use Rattle.session_walk.proofs.SaysLaws.{written_is_said}
use Rattle.session_walk.proofs.VersionLaws as walk
use Rattle.session_toml.specs.Built.{numbered, region_in, source_names, track_in, session_in}
use Rattle.session_toml.specs.Session.{built}
use Rattle.session_toml.specs.Laws.{HasVersion, IsLinear, FirstVersionIsLinear}
use Rattle.session_toml.proofs.BuiltLaws.{all-playlist}
use Rattle.session_toml.proofs.SessionLaws.{accepted-built}

-- ---- what the version says

is-one : (v : Version) → Some (pos 1) ≡ Some (pos (version_number v)) → v ≡ One
is-one One e = refl
is-one Two e = cc

first-read : (bytes : List ℕ) (w : text.Written.Written) → HasVersion bytes 1 → written bytes ≡ Ok w → w.head.version ≡ One
first-read bytes w (m, table, doc, there, first) e =
    let (n, read, said) = written_is_said bytes w e in
    let (other, at, head) = said.session in
    let same : m ≡ n = cc in
    let P : Members → Type 0 = λ x. SaysTable x key.Session table in
    let here : SaysTable n key.Session table = subst P same there in
    let tables : table ≡ other = cc in
    let Q : Members → Type 0 = λ x. SaysWhole x key.Version 1 in
    let one : SaysWhole other key.Version 1 = subst Q tables first in
    is-one w.head.version (sym one ∙ head.version)

-- ---- what is built of linear regions

linear-in : (names : List (List ℕ)) (r : text.RegionText.RegionText) → walk.IsLinear r → IsLinear (region_in names r)
unfolding region_in
linear-in names r h = record { fade_in = ap shape_of h.shape_in; fade_out = ap shape_of h.shape_out }

abbrev HasLinear : Track → Type 0
HasLinear k = All IsLinear k.list

lists-linear : (names : List (List ℕ)) (i : ℕ) (ts : List text.TrackText.TrackText) → All walk.AreLinear ts → All HasLinear (numbered (track_in names) i (map (λ k. k.own) ts))
unfolding track_in
lists-linear names i [] all = All-nil HasLinear
lists-linear names i (t ∷ ts) all = All-cons HasLinear (track_in names i t.own) (numbered (track_in names) (suc i) (map (λ k. k.own) ts))
    (all-playlist IsLinear names t.own.regions.items (λ j d h. linear-in names _ (All-head walk.AreLinear t ts all j d h)))
    (lists-linear names (suc i) ts (All-tail walk.AreLinear t ts all))

built-linear : (w : text.Written.Written) → All walk.AreLinear w.tracks.items → All HasLinear (built w).tracks.items
unfolding session_in
built-linear w all = lists-linear (source_names w.sources.items) 0 w.tracks.items all

pub first_version_is_linear : FirstVersionIsLinear
first_version_is_linear bytes s first e =
    let (w, read, is) = accepted-built bytes s e in
    let P : Session → Type 0 = λ x. All HasLinear x.tracks.items in
    subst P (sym is) (built-linear w (walk.first_version_is_linear bytes w read (first-read bytes w first read)))
