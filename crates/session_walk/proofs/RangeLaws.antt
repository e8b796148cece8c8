-- What the walk accepts is in range: each step of a reading that succeeds has succeeded.
use Rattle.std.proofs.Common.{◌≡◌, ℕ, suc, ◌+◌, ◌-◌, ◌≤◌, Bool, true, false, not, ◌||◌, nat_le, refl, ap, subst, arith, List, [], ◌∷◌, length, All, Option, Some, None, is_some, IsSome, IfSome, bytes_eq, codes}
use Rattle.std.specs.Prelude.{Ok}
use Rattle.std.specs.Option.{ok_or}
use Rattle.std.proofs.lemmas.List.Elements.{All-nil, All-cons}
use Rattle.toml.specs.Data.{Data, Members, as_table}
use Rattle.ses_io.specs.FixedList.{Listed}
use Rattle.session_model.specs.declared.key.Key.{Key}
use Rattle.session_model.specs.declared.key.Key.TheVariants as key
use Rattle.session_model.specs.declared.refusal.Part.TheVariants as part
use Rattle.session_model.specs.declared.refusal.Place.{Place}
use Rattle.session_walk.specs.declared.said as text
use Rattle.session_walk.specs.declared.said.Version.{Version}
use Rattle.session_walk.specs.Section.{Section, Read, holds, only, value_at, nth, single, row_of, item_of}
use Rattle.session_model.specs.declared.refusal.SessionRefusal.TheVariants.{Range, Kind}
use Rattle.session_walk.specs.Values.{whole_of, whole, flag_or, name}
use Rattle.session_walk.specs.Arrays.{array, each, tables, entries, entries_from}
use Rattle.session_walk.specs.Parts.{bus_keys, track_keys, head_of, source_of, region_of, named_of, strip_of, bus_of, input, input_of, settings_of, track_of, send_of, master_of}
use Rattle.session_walk.specs.Text.{Outline, top_keys, table, table_or_empty, outline_of, parts_of, document, written}
use Rattle.session_walk.specs.InRange.{IsSource, IsRegionText, IsRoute, IsTrack, IsInRange}
use Rattle.session_walk.specs.Laws.{WrittenIsInRange}
use Rattle.session_walk.proofs.PartRangeLaws.{after, kept, default-in, whole_of-in, whole-in, le-kept, head-in, source-in, region-in}

-- ---- arrays of tables

tables-few : (s : Section) (k : Key) (most : ℕ) (rows : List Members) → tables s k most ≡ Ok rows → length rows ≤ most
tables-few s k most rows e = after (array s k) _ rows e (λ items ea e. after (ok_or (each as_table items) (Kind s.place k)) _ rows e (λ found ef e.
    after (holds (nat_le (length found) most) (Range s.place k)) _ rows e (λ u0 e0 e.
    let is : found ≡ rows = cc in
    let P : List Members → Type 0 = λ xs. length xs ≤ most in
    subst P is (le-kept (length found) most (Range s.place k) u0 e0))))

-- the entries of an array are read one by one
record AreRead {A : Type 0} (P : A → Type 0) (rows : List Members) (all : List A) : Type 0 where
  each : All P all
  long : length all ≡ length rows

from-in : {A : Type 0} (P : A → Type 0) (read : Section → Read A) → ((s : Section) (x : A) → read s ≡ Ok x → P x) → (base : Place) (n : ℕ) (rows : List Members) (all : List A) →
    entries_from read base n rows ≡ Ok all → AreRead P rows all
from-in {A} P read one base n [] all e = let is : [] ≡ all = cc in subst (AreRead P []) is (record { each = All-nil P; long = refl })
from-in {A} P read one base n (row ∷ rows) all e = after (read (record { place = nth base n; members = row })) _ all e (λ x ex e. after (entries_from read base (suc n) rows) _ all e (λ xs es e.
    let rest = from-in P read one base (suc n) rows xs es in
    let is : x ∷ xs ≡ all = cc in
    subst (AreRead P (row ∷ rows)) is (record { each = All-cons P x xs (one (record { place = nth base n; members = row }) x ex) rest.each; long = ap suc rest.long })))

pub record AreListed {A : Type 0} (P : A → Type 0) (size : ℕ) (rows : List Members) (l : Listed A) : Type 0 where
  pub each : All P l.items
  pub long : length l.items ≡ length rows
  pub room : l.room ≡ size

pub entries-in : {A : Type 0} (P : A → Type 0) (read : Section → Read A) → ((s : Section) (x : A) → read s ≡ Ok x → P x) → (base : Place) (room : ℕ) (rows : List Members) (l : Listed A) →
    entries read base room rows ≡ Ok l → AreListed P room rows l
entries-in {A} P read one base room rows l e = after (entries_from read base 1 rows) _ l e (λ all ea e.
    let found = from-in P read one base 1 rows all ea in
    let Q : Listed A → Type 0 = AreListed P room rows in
    let is : record { items = all; room = room } ≡ l = cc in
    subst Q is (record { each = found.each; long = found.long; room = refl }))

-- ---- routes

record IsNamed (n : text.Named.Named) : Type 0 where
  other : bytes_eq n.name (codes "master") ≡ false
  least : 1 ≤ n.channels
  most : n.channels ≤ 2

named-in : (s : Section) (n : text.Named.Named) → named_of s ≡ Ok n → IsNamed n
unfolding named_of
named-in s n e = after (name s key.Name) _ n e (λ x ex e. after (holds (not (bytes_eq x (codes "master"))) (Range s.place key.Name)) _ n e (λ u0 e0 e.
    after (whole s key.Channels 1 2) _ n e (λ channels ec e.
    let c = whole-in s key.Channels 1 2 channels ec in
    let is : record { name = x; channels = channels } ≡ n = cc in
    subst IsNamed is (record { other = negated (bytes_eq x (codes "master")) (kept _ (Range s.place key.Name) u0 e0); least = c.least; most = c.most }))))
  where
    negated : (b : Bool) → not b ≡ true → b ≡ false
    negated true h = cc
    negated false h = refl

abbrev Anything : {A : Type 0} → A → Type 0
Anything x = Unit {0}

sends-few : (s : Section) (base : Place) (rows : List Members) (l : Listed text.SendText.SendText) → tables s key.Send 8 ≡ Ok rows → entries send_of base 8 rows ≡ Ok l → length l.items ≤ 8
sends-few s base rows l er el = let a = entries-in Anything send_of (λ t x e. tt) base 8 rows l el in omega (arith, a.long, tables-few s key.Send 8 rows er)

bus-in : (s : Section) (q : text.RouteText.RouteText) → bus_of s ≡ Ok q → IsRoute q
unfolding bus_of
bus-in s q e = after (only s bus_keys) _ q e (λ u0 e0 e. after (named_of s) _ q e (λ named en e. after (strip_of s) _ q e (λ strip es e.
    after (tables s key.Send 8) _ q e (λ rows er e. after (entries send_of (item_of part.BusSend s.place.row) 8 rows) _ q e (λ sends el e.
    let n = named-in s named en in
    let is : record { named = named; strip = strip; sends = sends } ≡ q = cc in
    subst IsRoute is (record { other = n.other; channels_least = n.least; channels_most = n.most; few = sends-few s (item_of part.BusSend s.place.row) rows sends er el }))))))

-- ---- tracks

input-in : (s : Section) (channels : ℕ) (i : Option ℕ) → channels ≤ 8 → input s channels ≡ Ok i → IfSome i (λ first. first + channels ≤ 8)
input-in s channels i few e = default-in (λ o. IfSome o (λ first. first + channels ≤ 8)) None (input_of s channels) (value_at s key.Input) i tt found e
  where
    found : (d : Data) → input_of s channels d ≡ Ok i → IfSome i (λ first. first + channels ≤ 8)
    found d e = after (whole_of s key.Input 0 (8 - channels) d) _ i e (λ n en e.
        let w = whole_of-in s key.Input 0 (8 - channels) d n en in
        let is : Some n ≡ i = cc in
        let P : Option ℕ → Type 0 = λ o. IfSome o (λ first. first + channels ≤ 8) in
        subst P is (omega (arith, w.most, few)))

record IsInputSettings (channels : ℕ) (t : text.InputSettings.InputSettings) : Type 0 where
  input : IfSome t.input (λ first. first + channels ≤ 8)
  armed : t.armed ≡ true → IsSome t.input

settings-in : (s : Section) (channels : ℕ) (t : text.InputSettings.InputSettings) → channels ≤ 8 → settings_of s channels ≡ Ok t → IsInputSettings channels t
unfolding settings_of
settings-in s channels t few e = after (input s channels) _ t e (λ i ei e. after (flag_or s key.Solo false) _ t e (λ solo es e. after (flag_or s key.Arm false) _ t e (λ armed ea e.
    after (holds (not armed || is_some i) (Range s.place key.Arm)) _ t e (λ u0 e0 e.
    let is : record { input = i; solo = solo; armed = armed } ≡ t = cc in
    subst (IsInputSettings channels) is (record { input = input-in s channels i few ei; armed = able armed i (kept _ (Range s.place key.Arm) u0 e0) })))))
  where
    able : (armed : Bool) (i : Option ℕ) → (not armed || is_some i) ≡ true → armed ≡ true → IsSome i
    able true i h a = h
    able false i h a = cc

track-in : (version : Version) (s : Section) (k : text.TrackText.TrackText) → track_of version s ≡ Ok k → IsTrack k
unfolding track_of
track-in version s k e = after (only s track_keys) _ k e (λ u0 e0 e. after (named_of s) _ k e (λ named en e. after (settings_of s named.channels) _ k e (λ settings et e.
    after (strip_of s) _ k e (λ strip es e. after (tables s key.Send 8) _ k e (λ send_rows esr e. after (tables s key.Region 256) _ k e (λ region_rows err e.
    after (entries (region_of version) (item_of part.Region s.place.row) 256 region_rows) _ k e (λ regions er e.
    after (entries send_of (item_of part.TrackSend s.place.row) 8 send_rows) _ k e (λ sends el e.
    let n = named-in s named en in
    let t = settings-in s named.channels settings (omega (arith, n.most)) et in
    let r = entries-in IsRegionText (region_of version) (region-in version) (item_of part.Region s.place.row) 256 region_rows regions er in
    let route : IsRoute (record { named = named; strip = strip; sends = sends }) = record {
      other = n.other;
      channels_least = n.least;
      channels_most = n.most;
      few = sends-few s (item_of part.TrackSend s.place.row) send_rows sends esr el;
    } in
    let is : record { route = record { named = named; strip = strip; sends = sends }; own = record { named = named; settings = settings; regions = regions } } ≡ k = cc in
    subst IsTrack is (record {
      route = route;
      named = refl;
      input = t.input;
      armed = t.armed;
      few = omega (arith, r.long, tables-few s key.Region 256 region_rows err);
      regions = r.each;
    })))))))))

-- ---- the whole text

record IsOutline (o : Outline) : Type 0 where
  sources : length o.sources ≤ 64
  tracks : length o.tracks ≤ 32
  busses : length o.tracks + length o.busses ≤ 63

outline-in : (s : Section) (o : Outline) → outline_of s ≡ Ok o → IsOutline o
unfolding outline_of
outline-in s o e = after (only s top_keys) _ o e (λ u0 e0 e. after (table s key.Session) _ o e (λ session es e. after (tables s key.Source 64) _ o e (λ sources eo e.
    after (tables s key.Track 32) _ o e (λ tracks et e. after (tables s key.Bus (63 - length tracks)) _ o e (λ busses eb e. after (table_or_empty s key.Master) _ o e (λ master em e.
    let t = tables-few s key.Track 32 tracks et in
    let is : record { session = session; sources = sources; tracks = tracks; busses = busses; master = master } ≡ o = cc in
    subst IsOutline is (record { sources = tables-few s key.Source 64 sources eo; tracks = t; busses = omega (arith, t, tables-few s key.Bus (63 - length tracks) busses eb) })))))))

parts-in : (o : Outline) (w : text.Written.Written) → IsOutline o → parts_of o ≡ Ok w → IsInRange w
unfolding parts_of
parts-in o w bounds e = after (head_of (record { place = single part.Session; members = o.session })) _ w e (λ head eh e.
    after (entries source_of (row_of part.Source) 64 o.sources) _ w e (λ sources es e. after (entries (track_of head.version) (row_of part.Track) 32 o.tracks) _ w e (λ tracks et e.
    after (entries bus_of (row_of part.Bus) 63 o.busses) _ w e (λ busses eb e. after (master_of (record { place = single part.Master; members = o.master })) _ w e (λ master em e.
    let s = entries-in IsSource source_of source-in (row_of part.Source) 64 o.sources sources es in
    let t = entries-in IsTrack (track_of head.version) (track-in head.version) (row_of part.Track) 32 o.tracks tracks et in
    let b = entries-in IsRoute bus_of bus-in (row_of part.Bus) 63 o.busses busses eb in
    let is : record { head = head; sources = sources; tracks = tracks; busses = busses; master = master } ≡ w = cc in
    subst IsInRange is (record {
      head = head-in (record { place = single part.Session; members = o.session }) head eh;
      few_sources = omega (arith, s.long, bounds.sources);
      few_tracks = omega (arith, t.long, bounds.tracks);
      few_routes = omega (arith, t.long, b.long, bounds.busses);
      room = s.room;
      sources = s.each;
      tracks = t.each;
      busses = b.each;
    }))))))

pub written_is_in_range : WrittenIsInRange
unfolding written
written_is_in_range bytes w e = after (document bytes) _ w e (λ members em e. after (outline_of (record { place = single part.Top; members = members })) _ w e (λ o eo e.
    parts-in o w (outline-in (record { place = single part.Top; members = members }) o eo) e))
