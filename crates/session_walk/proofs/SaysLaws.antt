-- What is read of a text is what it says, key by key.
use Rattle.std.proofs.Common.{◌≡◌, inl, inr, ℕ, ◌+◌, ◌-◌, ◌*◌, true, false, not, ◌||◌, nat_le, refl, ap, sym, subst, ◌∙◌, List, length, Option, Some, None, is_some, bytes_eq, codes}
use Rattle.std.specs.Prelude.{Ok}
use Rattle.std.specs.Option.{option_and_then}
use Rattle.toml.specs.Data.{Data, Members, no_members, as_table}
use Rattle.sound_model.specs.Numbers.{unity}
use Rattle.session_model.specs.declared.key.Key.{Key}
use Rattle.session_model.specs.declared.key.Key.TheVariants as key
use Rattle.session_model.specs.declared.refusal.Part.TheVariants as part
use Rattle.session_model.specs.declared.session.SourceDecl.{SourceDecl}
use Rattle.session_walk.specs.declared.said as text
use Rattle.session_walk.specs.declared.said.Version.{Version}
use Rattle.session_walk.specs.Section.{Section, holds, only, single, row_of, item_of}
use Rattle.session_walk.specs.Values.{needed, whole_of, whole, whole_or, gain_or, bits, version, flag_or, name, name_or, file, mode_or, shape_or}
use Rattle.session_walk.specs.Arrays.{tables, entries}
use Rattle.session_walk.specs.Lane.{lane}
use Rattle.session_walk.specs.Parts.{head_keys, source_keys, region_keys, send_keys, bus_keys, track_keys, master_keys, head_of, source_of, span_of, fades_of, region_of, send_of, level_of, automation_of, named_of, strip_of, bus_of, input, input_of, settings_of, track_of, master_of}
use Rattle.session_walk.specs.Text.{Outline, top_keys, table_of, table, table_or_empty, outline_of, parts_of, document, written}
use Rattle.session_walk.specs.Says.{at_key, SaysTable, OrDefault, SaysInput, SaysHead, SaysSource, SaysSpan, SaysFades, SaysRegion, SaysSend, SaysNamed, SaysLevel, SaysAutomation, SaysChannelStrip, SaysRoute, SaysInputSettings, SaysTrack, SaysMaster, SaysAll}
use Rattle.session_walk.specs.Laws.{WrittenIsSaid}
use Rattle.session_walk.proofs.PartRangeLaws.{after, some-in}
use Rattle.session_walk.proofs.SaysKeyLaws.{needed-said, default-said, whole_of-said, whole-said, whole_or-said, flag_or-said, name-said, name_or-said, file-said, bits-said, version-said, mode_or-said, shape_or-said, lane-said, each-said}

-- ---- parts

head-said : (s : Section) (h : text.Head.Head) → head_of s ≡ Ok h → SaysHead s.members h
unfolding head_of
head-said s h e = after (only s head_keys) _ h e (λ u0 e0 e. after (version s key.Version) _ h e (λ v ev e. after (whole s key.Rate 8000 192000) _ h e (λ rate er e.
    after (bits s key.Bits) _ h e (λ b eb e. after (whole s key.Channels 1 2) _ h e (λ channels ec e. after (whole s key.Block 1 4096) _ h e (λ block ek e.
    after (whole s key.Depth 2 256) _ h e (λ depth ed e. after (holds (nat_le (depth * block) 65536) _) _ h e (λ u2 ef e.
    after (name_or s key.Takes (codes "take")) _ h e (λ takes et e.
    let is : record { version = v; rate = rate; bits = b; channels = channels; block = block; depth = depth; takes = takes } ≡ h = cc in
    subst (SaysHead s.members) is (record {
      version = version-said s v ev;
      rate = whole-said s key.Rate _ _ rate er;
      bits = bits-said s b eb;
      channels = whole-said s key.Channels _ _ channels ec;
      block = whole-said s key.Block _ _ block ek;
      depth = whole-said s key.Depth _ _ depth ed;
      takes = name_or-said s key.Takes (codes "take") takes et;
    }))))))))))

source-said : (s : Section) (d : SourceDecl) → source_of s ≡ Ok d → SaysSource s.members d
unfolding source_of
source-said s d e = after (only s source_keys) _ d e (λ u0 e0 e. after (name s key.Name) _ d e (λ n en e. after (file s key.File) _ d e (λ f ef e.
    after (whole s key.Channels 1 2) _ d e (λ channels ec e.
    let is : record { name = n; file = f; channels = channels } ≡ d = cc in
    subst (SaysSource s.members) is (record { name = name-said s key.Name n en; file = file-said s key.File f ef; channels = whole-said s key.Channels _ _ channels ec })))))

span-said : (s : Section) (p : text.Span.Span) → span_of s ≡ Ok p → SaysSpan s.members p
unfolding span_of
span-said s p e = after (whole_or s key.Start 0 0 1099511627775) _ p e (λ start es e. after (whole s key.Length 1 1099511627776) _ p e (λ long el e.
    after (holds (nat_le (start + long) 1099511627776) _) _ p e (λ u0 e0 e. after (whole s key.At 0 1099511627776) _ p e (λ at ea e.
    after (holds (nat_le (at + long) 1099511627776) _) _ p e (λ u1 e1 e.
    let is : record { start = start; length = long; at = at } ≡ p = cc in
    subst (SaysSpan s.members) is (record { start = whole_or-said s key.Start 0 _ _ start es; length = whole-said s key.Length _ _ long el; at = whole-said s key.At _ _ at ea }))))))

fades-said : (s : Section) (long : ℕ) (f : text.Fades.Fades) → fades_of s long ≡ Ok f → SaysFades s.members f
unfolding fades_of
fades-said s long f e = after (whole_or s key.FadeIn 0 0 long) _ f e (λ a ea e. after (whole_or s key.FadeOut 0 0 (long - a)) _ f e (λ b eb e.
    after (shape_or s key.ShapeIn) _ f e (λ shape_in ei e. after (shape_or s key.ShapeOut) _ f e (λ shape_out eo e.
    let is : record { fade_in = a; fade_out = b; shape_in = shape_in; shape_out = shape_out } ≡ f = cc in
    subst (SaysFades s.members) is (record {
      fade_in = whole_or-said s key.FadeIn 0 _ _ a ea;
      fade_out = whole_or-said s key.FadeOut 0 _ _ b eb;
      shape_in = shape_or-said s key.ShapeIn shape_in ei;
      shape_out = shape_or-said s key.ShapeOut shape_out eo;
    })))))

region-said : (version : Version) (s : Section) (r : text.RegionText.RegionText) → region_of version s ≡ Ok r → SaysRegion s.members r
unfolding region_of
region-said version s r e = after (only s (region_keys version)) _ r e (λ u0 e0 e. after (whole s key.Id 1 999999) _ r e (λ id ei e. after (name s key.Source) _ r e (λ source en e.
    after (span_of s) _ r e (λ span es e. after (whole_or s key.Layer 0 0 65535) _ r e (λ layer el e. after (gain_or s key.Gain) _ r e (λ gain eg e.
    after (flag_or s key.Opaque true) _ r e (λ opaque eo e. after (fades_of s span.length) _ r e (λ fades ef e.
    let is : record { id = id; source = source; span = span; layer = layer; gain = gain; opaque = opaque; fades = fades } ≡ r = cc in
    subst (SaysRegion s.members) is (record {
      id = whole-said s key.Id _ _ id ei;
      source = name-said s key.Source source en;
      span = span-said s span es;
      layer = whole_or-said s key.Layer 0 _ _ layer el;
      gain = whole_or-said s key.Gain unity _ _ gain eg;
      opaque = flag_or-said s key.Opaque true opaque eo;
      fades = fades-said s span.length fades ef;
    })))))))))

send-said : (s : Section) (l : text.SendText.SendText) → send_of s ≡ Ok l → SaysSend s.members l
unfolding send_of
send-said s l e = after (only s send_keys) _ l e (λ u0 e0 e. after (name s key.To) _ l e (λ to et e. after (flag_or s key.Pre false) _ l e (λ pre ep e.
    after (gain_or s key.Gain) _ l e (λ gain eg e.
    let is : record { to = to; pre = pre; gain = gain } ≡ l = cc in
    subst (SaysSend s.members) is (record { to = name-said s key.To to et; pre = flag_or-said s key.Pre false pre ep; gain = whole_or-said s key.Gain unity _ _ gain eg })))))

named-said : (s : Section) (n : text.Named.Named) → named_of s ≡ Ok n → SaysNamed s.members n
unfolding named_of
named-said s n e = after (name s key.Name) _ n e (λ x ex e. after (holds (not (bytes_eq x (codes "master"))) _) _ n e (λ u0 e0 e.
    after (whole s key.Channels 1 2) _ n e (λ channels ec e.
    let is : record { name = x; channels = channels } ≡ n = cc in
    subst (SaysNamed s.members) is (record { name = name-said s key.Name x ex; channels = whole-said s key.Channels _ _ channels ec }))))

level-said : (s : Section) (l : text.Level.Level) → level_of s ≡ Ok l → SaysLevel s.members l
unfolding level_of
level-said s l e = after (gain_or s key.Gain) _ l e (λ gain eg e. after (flag_or s key.Mute false) _ l e (λ muted em e.
    let is : record { gain = gain; muted = muted } ≡ l = cc in
    subst (SaysLevel s.members) is (record { gain = whole_or-said s key.Gain unity _ _ gain eg; muted = flag_or-said s key.Mute false muted em })))

automation-said : (s : Section) (r : text.Automation.Automation) → automation_of s ≡ Ok r → SaysAutomation s.members r
unfolding automation_of
automation-said s r e = after (mode_or s key.Mode) _ r e (λ mode em e. after (lane s) _ r e (λ points el e.
    let is : record { mode = mode; lane = points } ≡ r = cc in
    subst (SaysAutomation s.members) is (record { mode = mode_or-said s mode em; lane = lane-said s points el })))

strip-said : (s : Section) (t : text.ChannelStrip.ChannelStrip) → strip_of s ≡ Ok t → SaysChannelStrip s.members t
unfolding strip_of
strip-said s t e = after (name_or s key.Out (codes "master")) _ t e (λ out eo e. after (level_of s) _ t e (λ level el e. after (gain_or s key.Left) _ t e (λ left ef e.
    after (gain_or s key.Right) _ t e (λ right er e. after (automation_of s) _ t e (λ automation ed e.
    let is : record { out = out; level = level; left = left; right = right; automation = automation } ≡ t = cc in
    subst (SaysChannelStrip s.members) is (record {
      out = name_or-said s key.Out (codes "master") out eo;
      level = level-said s level el;
      left = whole_or-said s key.Left unity _ _ left ef;
      right = whole_or-said s key.Right unity _ _ right er;
      automation = automation-said s automation ed;
    }))))))

bus-said : (s : Section) (q : text.RouteText.RouteText) → bus_of s ≡ Ok q → SaysRoute s.members q
unfolding bus_of
bus-said s q e = after (only s bus_keys) _ q e (λ u0 e0 e. after (named_of s) _ q e (λ named en e. after (strip_of s) _ q e (λ strip es e.
    after (tables s key.Send 8) _ q e (λ rows er e. after (entries send_of (item_of part.BusSend s.place.row) 8 rows) _ q e (λ sends el e.
    let is : record { named = named; strip = strip; sends = sends } ≡ q = cc in
    subst (SaysRoute s.members) is (record {
      named = named-said s named en;
      strip = strip-said s strip es;
      sends = each-said SaysSend send_of send-said s key.Send 8 (item_of part.BusSend s.place.row) 8 rows sends er el;
    }))))))

input-said : (s : Section) (channels : ℕ) (i : Option ℕ) → input s channels ≡ Ok i → SaysInput s.members i
input-said s channels i e = elim (default-said (λ m k o. SaysInput m o) s key.Input None i (input_of s channels) found e) [ inl says ↦ says | inr absent ↦ subst (SaysInput s.members) (sym absent.1) absent.0 ]
  where
    found : (d : Data) → at_key s.members key.Input ≡ Some d → input_of s channels d ≡ Ok i → SaysInput s.members i
    found d here f = after (whole_of s key.Input 0 (8 - channels) d) _ i f (λ n en f.
        let is : Some n ≡ i = cc in
        subst (SaysInput s.members) is (whole_of-said s key.Input _ _ n d here en))

settings-said : (s : Section) (channels : ℕ) (t : text.InputSettings.InputSettings) → settings_of s channels ≡ Ok t → SaysInputSettings s.members t
unfolding settings_of
settings-said s channels t e = after (input s channels) _ t e (λ i ei e. after (flag_or s key.Solo false) _ t e (λ solo es e. after (flag_or s key.Arm false) _ t e (λ armed ea e.
    after (holds (not armed || is_some i) _) _ t e (λ u0 e0 e.
    let is : record { input = i; solo = solo; armed = armed } ≡ t = cc in
    subst (SaysInputSettings s.members) is (record { input = input-said s channels i ei; solo = flag_or-said s key.Solo false solo es; armed = flag_or-said s key.Arm false armed ea })))))

track-said : (version : Version) (s : Section) (k : text.TrackText.TrackText) → track_of version s ≡ Ok k → SaysTrack s.members k
unfolding track_of
track-said version s k e = after (only s track_keys) _ k e (λ u0 e0 e. after (named_of s) _ k e (λ named en e. after (settings_of s named.channels) _ k e (λ settings et e.
    after (strip_of s) _ k e (λ strip es e. after (tables s key.Send 8) _ k e (λ send_rows esr e. after (tables s key.Region 256) _ k e (λ region_rows err e.
    after (entries (region_of version) (item_of part.Region s.place.row) 256 region_rows) _ k e (λ regions er e.
    after (entries send_of (item_of part.TrackSend s.place.row) 8 send_rows) _ k e (λ sends el e.
    let route : SaysRoute s.members (record { named = named; strip = strip; sends = sends }) = record {
      named = named-said s named en;
      strip = strip-said s strip es;
      sends = each-said SaysSend send_of send-said s key.Send 8 (item_of part.TrackSend s.place.row) 8 send_rows sends esr el;
    } in
    let is : record { route = record { named = named; strip = strip; sends = sends }; own = record { named = named; settings = settings; regions = regions } } ≡ k = cc in
    subst (SaysTrack s.members) is (record {
      route = route;
      named = refl;
      settings = settings-said s named.channels settings et;
      regions = each-said SaysRegion (region_of version) (region-said version) s key.Region 256 (item_of part.Region s.place.row) 256 region_rows regions err er;
    })))))))))

master-said : (s : Section) (t : text.MasterText.MasterText) → master_of s ≡ Ok t → SaysMaster s.members t
unfolding master_of
master-said s t e = after (only s master_keys) _ t e (λ u0 e0 e. after (level_of s) _ t e (λ level el e. after (automation_of s) _ t e (λ automation er e.
    let is : record { level = level; automation = automation } ≡ t = cc in
    subst (SaysMaster s.members) is (record { level = level-said s level el; automation = automation-said s automation er }))))

-- ---- the whole text

table-said : (s : Section) (k : Key) (t : Members) → table s k ≡ Ok t → SaysTable s.members k t
table-said s k t e = after (needed s k) _ t e (λ d ed e. ap (option_and_then as_table) (needed-said s k d ed) ∙ some-in (as_table d) _ t e)

table_or_empty-said : (s : Section) (k : Key) (t : Members) → table_or_empty s k ≡ Ok t → OrDefault SaysTable s.members k no_members t
table_or_empty-said s k t e = default-said SaysTable s k no_members t (table_of s k) (λ d here f. ap (option_and_then as_table) here ∙ some-in (as_table d) _ t f) e

-- what the tables of a document say, of which the parts are read
parts-said : (s : Section) (o : Outline) (w : text.Written.Written) → outline_of s ≡ Ok o → parts_of o ≡ Ok w → SaysAll s.members w
unfolding outline_of parts_of
parts-said s o w eo ew = after (only s top_keys) _ o eo (λ u0 e0 e. after (table s key.Session) _ o e (λ session es e. after (tables s key.Source 64) _ o e (λ sources ec e.
    after (tables s key.Track 32) _ o e (λ tracks et e. after (tables s key.Bus (63 - length tracks)) _ o e (λ busses eb e. after (table_or_empty s key.Master) _ o e (λ master em e.
    let is : record { session = session; sources = sources; tracks = tracks; busses = busses; master = master } ≡ o = cc in
    let P : Outline → Type 0 = λ x. parts_of x ≡ Ok w in
    go session sources tracks busses master es ec et eb em (subst P (sym is) ew)))))))
  where
    go : (session : Members) (sources tracks busses : List Members) (master : Members) → table s key.Session ≡ Ok session → tables s key.Source 64 ≡ Ok sources →
        tables s key.Track 32 ≡ Ok tracks → tables s key.Bus (63 - length tracks) ≡ Ok busses → table_or_empty s key.Master ≡ Ok master →
        parts_of (record { session = session; sources = sources; tracks = tracks; busses = busses; master = master }) ≡ Ok w → SaysAll s.members w
    go session sources tracks busses master es ec et eb em e = after (head_of (record { place = single part.Session; members = session })) _ w e (λ h eh e.
        after (entries source_of (row_of part.Source) 64 sources) _ w e (λ ds ed e. after (entries (track_of h.version) (row_of part.Track) 32 tracks) _ w e (λ ks ek e.
        after (entries bus_of (row_of part.Bus) 63 busses) _ w e (λ qs eq e. after (master_of (record { place = single part.Master; members = master })) _ w e (λ t er e.
        let is : record { head = h; sources = ds; tracks = ks; busses = qs; master = t } ≡ w = cc in
        subst (SaysAll s.members) is (record {
          session = (session, table-said s key.Session session es, head-said (record { place = single part.Session; members = session }) h eh);
          sources = each-said SaysSource source_of source-said s key.Source 64 (row_of part.Source) 64 sources ds ec ed;
          tracks = each-said SaysTrack (track_of h.version) (track-said h.version) s key.Track 32 (row_of part.Track) 32 tracks ks et ek;
          busses = each-said SaysRoute bus_of bus-said s key.Bus (63 - length tracks) (row_of part.Bus) 63 busses qs eb eq;
          master = (master, table_or_empty-said s key.Master master em, master-said (record { place = single part.Master; members = master }) t er);
        }))))))

pub written_is_said : WrittenIsSaid
unfolding written
written_is_said bytes w e = after (document bytes) _ w e (λ m em e. after (outline_of (record { place = single part.Top; members = m })) _ w e (λ o eo e.
    (m, em, parts-said (record { place = single part.Top; members = m }) o w eo e)))
