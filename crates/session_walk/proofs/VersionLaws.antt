-- In version 1 every fade is linear: there no region has a key for a shape.
use Rattle.std.proofs.Common.{◌≡◌, ℕ, ◌-◌, true, false, refl, ap, subst, ◌∙◌, List, map, All, Option, Some, None, bytes_eq, Ordering, Less, Equal, Greater, is_eq, nat_cmp}
use Rattle.std.specs.Prelude.{Ok}
use Rattle.std.specs.Cmp.Lexicographic.{slice_cmp}
use Rattle.std.specs.List.{list_any}
use Rattle.std.specs.Ordering.{match_ordering}
use Rattle.std.proofs.lemmas.Bool.{and_parts}
use Rattle.std.proofs.lemmas.Map.Text.{is_eq-slice_cmp}
use Rattle.std.proofs.lemmas.Slice.Eq.{bytes_eq-Decides}
use Rattle.sound_laws.proofs.Cases.{by_test}
use Rattle.toml.specs.Data.{Data, Members, no_members, member, get_member}
use Rattle.ses_units.specs.declared.shape.Shape.{Shape}
use Rattle.ses_units.specs.declared.shape.Shape.TheVariants.{Linear}
use Rattle.session_model.specs.declared.key.Key.{Key}
use Rattle.session_model.specs.declared.key.Key.TheVariants as key
use Rattle.session_model.specs.declared.refusal.Part.TheVariants as part
use Rattle.session_model.specs.declared.refusal.SessionRefusal.TheVariants.{Unknown}
use Rattle.session_walk.specs.declared.said as text
use Rattle.session_walk.specs.declared.said.Version.{Version}
use Rattle.session_walk.specs.declared.said.Version.TheVariants.{One}
use Rattle.session_walk.specs.Words.{word}
use Rattle.session_walk.specs.Section.{Section, only_these, only, value_at, single, row_of, item_of}
use Rattle.session_walk.specs.Values.{whole, whole_or, gain_or, flag_or, name, shape_or}
use Rattle.session_walk.specs.Arrays.{tables, entries}
use Rattle.session_walk.specs.Parts.{region_keys, track_keys, head_of, source_of, span_of, fades_of, region_of, named_of, settings_of, strip_of, send_of, bus_of, track_of, master_of}
use Rattle.session_walk.specs.Text.{Outline, outline_of, parts_of, document, written}
use Rattle.session_walk.proofs.PartRangeLaws.{after, kept}
use Rattle.session_walk.proofs.RangeLaws.{entries-in}

pub record IsLinear (r : text.RegionText.RegionText) : Type 0 where
  pub shape_in : r.fades.shape_in ≡ Linear
  pub shape_out : r.fades.shape_out ≡ Linear

abbrev pub AreLinear : text.TrackText.TrackText → Type 0
AreLinear k = All IsLinear k.own.regions.items

-- ---- a key that is none of the known ones

passed_by : (o : Ordering) (d : Data) (rest : Option Data) → is_eq o ≡ false → rest ≡ None → match_ordering o rest (Some d) rest ≡ None
passed_by Less d rest h e = e
passed_by Equal d rest h e = cc
passed_by Greater d rest h e = e

unknown_absent : (w : List ℕ) (words : List (List ℕ)) (m : Members) → list_any (bytes_eq w) words ≡ false → only_these words m ≡ true → get_member w m ≡ None
unknown_absent w words no_members h e = refl
unknown_absent w words (member k d rest) h e =
    let (known, others) = and_parts (list_any (bytes_eq k) words) (only_these words rest) e in
    passed_by (slice_cmp nat_cmp w k) d (get_member w rest) (is_eq-slice_cmp w k ∙ by_test (bytes_eq w k) (λ t. same known ((bytes_eq-Decides w k).0 t)) (λ t. t)) (unknown_absent w words rest h others)
  where
    same : list_any (bytes_eq k) words ≡ true → w ≡ k → bytes_eq w k ≡ false
    same known is = let P : List ℕ → Type 0 = λ x. list_any (bytes_eq x) words ≡ false in let none : list_any (bytes_eq k) words ≡ false = subst P is h in cc

-- ---- regions and tracks

linear : (s : Section) (k : Key) (shape : Shape) → value_at s k ≡ None → shape_or s k ≡ Ok shape → shape ≡ Linear
linear s k shape absent e = cc (rw absent at e)

fades-linear : (s : Section) (long : ℕ) (f : text.Fades.Fades) → value_at s key.ShapeIn ≡ None → value_at s key.ShapeOut ≡ None → fades_of s long ≡ Ok f → (f.shape_in ≡ Linear) × (f.shape_out ≡ Linear)
unfolding fades_of
fades-linear s long f no_in no_out e = after (whole_or s key.FadeIn 0 0 long) _ f e (λ a ea e. after (whole_or s key.FadeOut 0 0 (long - a)) _ f e (λ b eb e.
    after (shape_or s key.ShapeIn) _ f e (λ shape_in ei e. after (shape_or s key.ShapeOut) _ f e (λ shape_out eo e.
    let is : record { fade_in = a; fade_out = b; shape_in = shape_in; shape_out = shape_out } ≡ f = cc in
    let P : text.Fades.Fades → Type 0 = λ g. (g.shape_in ≡ Linear) × (g.shape_out ≡ Linear) in
    subst P is (linear s key.ShapeIn shape_in no_in ei, linear s key.ShapeOut shape_out no_out eo)))))

no_shape_in : list_any (bytes_eq (word key.ShapeIn)) (map word (region_keys One)) ≡ false
unfolding word
no_shape_in = refl

no_shape_out : list_any (bytes_eq (word key.ShapeOut)) (map word (region_keys One)) ≡ false
unfolding word
no_shape_out = refl

region-linear : (s : Section) (r : text.RegionText.RegionText) → region_of One s ≡ Ok r → IsLinear r
unfolding region_of
region-linear s r e = after (only s (region_keys One)) _ r e (λ u0 e0 e. after (whole s key.Id 1 999999) _ r e (λ id ei e. after (name s key.Source) _ r e (λ source en e.
    after (span_of s) _ r e (λ span es e. after (whole_or s key.Layer 0 0 65535) _ r e (λ layer el e. after (gain_or s key.Gain) _ r e (λ gain eg e.
    after (flag_or s key.Opaque true) _ r e (λ opaque eo e. after (fades_of s span.length) _ r e (λ fades ef e.
    let known : only_these (map word (region_keys One)) s.members ≡ true = kept _ (Unknown s.place) u0 e0 in
    let shapes = fades-linear s span.length fades (unknown_absent (word key.ShapeIn) (map word (region_keys One)) s.members no_shape_in known)
    (unknown_absent (word key.ShapeOut) (map word (region_keys One)) s.members no_shape_out known) ef in
    let is : record { id = id; source = source; span = span; layer = layer; gain = gain; opaque = opaque; fades = fades } ≡ r = cc in
    subst IsLinear is (record { shape_in = shapes.0; shape_out = shapes.1 })))))))))

track-linear : (s : Section) (k : text.TrackText.TrackText) → track_of One s ≡ Ok k → AreLinear k
unfolding track_of
track-linear s k e = after (only s track_keys) _ k e (λ u0 e0 e. after (named_of s) _ k e (λ named en e. after (settings_of s named.channels) _ k e (λ settings et e.
    after (strip_of s) _ k e (λ strip es e. after (tables s key.Send 8) _ k e (λ send_rows esr e. after (tables s key.Region 256) _ k e (λ region_rows err e.
    after (entries (region_of One) (item_of part.Region s.place.row) 256 region_rows) _ k e (λ regions er e.
    after (entries send_of (item_of part.TrackSend s.place.row) 8 send_rows) _ k e (λ sends el e.
    let r = entries-in IsLinear (region_of One) region-linear (item_of part.Region s.place.row) 256 region_rows regions er in
    let is : record { route = record { named = named; strip = strip; sends = sends }; own = record { named = named; settings = settings; regions = regions } } ≡ k = cc in
    subst AreLinear is r.each))))))))

-- ---- the whole text

parts-linear : (o : Outline) (w : text.Written.Written) → parts_of o ≡ Ok w → w.head.version ≡ One → All AreLinear w.tracks.items
unfolding parts_of
parts-linear o w e one = after (head_of (record { place = single part.Session; members = o.session })) _ w e (λ head eh e.
    after (entries source_of (row_of part.Source) 64 o.sources) _ w e (λ sources es e. after (entries (track_of head.version) (row_of part.Track) 32 o.tracks) _ w e (λ tracks et e.
    after (entries bus_of (row_of part.Bus) 63 o.busses) _ w e (λ busses eb e. after (master_of (record { place = single part.Master; members = o.master })) _ w e (λ master em e.
    let is : record { head = head; sources = sources; tracks = tracks; busses = busses; master = master } ≡ w = cc in
    let version : head.version ≡ One = ap (λ (x : text.Written.Written). x.head.version) is ∙ one in
    let P : Version → Type 0 = λ v. entries (track_of v) (row_of part.Track) 32 o.tracks ≡ Ok tracks in
    let t = entries-in AreLinear (track_of One) track-linear (row_of part.Track) 32 o.tracks tracks (subst P version et) in
    let Q : text.Written.Written → Type 0 = λ x. All AreLinear x.tracks.items in
    subst Q is t.each)))))

pub first_version_is_linear : (bytes : List ℕ) (w : text.Written.Written) → written bytes ≡ Ok w → w.head.version ≡ One → All AreLinear w.tracks.items
unfolding written
first_version_is_linear bytes w e one = after (document bytes) _ w e (λ m em e. after (outline_of (record { place = single part.Top; members = m })) _ w e (λ o eo e. parts-linear o w e one))
