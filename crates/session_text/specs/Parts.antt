-- The table that each part of a text is written as: every key, also where its value is the default.
use Rattle.std.specs.Prelude.{ℕ, List, [], ◌∷◌, ◌++◌, Option, Some, None}
use Rattle.ses_units.specs.Bits.{bits_of}
use Rattle.toml.specs.Data.{Data, string, boolean, table, Members}
use Rattle.session_model.specs.declared.key.Key.{Key}
use Rattle.session_model.specs.declared.key.Key.TheVariants as key
use Rattle.session_model.specs.declared.session.SourceDecl.{SourceDecl}
use Rattle.session_walk.specs.declared.said as text
use Rattle.session_walk.specs.Says.{mode_word, shape_word, version_number}
use Rattle.session_text.specs.Tables.{with_keys, keyed, number, tables, pairs}

abbrev pub Keys : Type 0
Keys = List (Key × Data)

-- ---- the session's own part, and sources

abbrev pub head_keys : text.Head.Head → Keys
head_keys h = (key.Version, number (version_number h.version)) ∷ (key.Rate, number h.rate) ∷ (key.Bits, number (bits_of h.bits)) ∷
    (key.Channels, number h.channels) ∷ (key.Block, number h.block) ∷ (key.Depth, number h.depth) ∷ (key.Takes, string h.takes) ∷ []

unfoldable pub head_table : text.Head.Head → Members
head_table h = keyed (head_keys h)

abbrev pub source_keys : SourceDecl → Keys
source_keys d = (key.Name, string d.name) ∷ (key.File, string d.file) ∷ (key.Channels, number d.channels) ∷ []

unfoldable pub source_table : SourceDecl → Members
source_table d = keyed (source_keys d)

-- ---- regions

abbrev pub span_keys : text.Span.Span → Keys
span_keys p = (key.Start, number p.start) ∷ (key.Length, number p.length) ∷ (key.At, number p.at) ∷ []

abbrev pub fade_keys : text.Fades.Fades → Keys
fade_keys f = (key.FadeIn, number f.fade_in) ∷ (key.FadeOut, number f.fade_out) ∷
    (key.ShapeIn, string (shape_word f.shape_in)) ∷ (key.ShapeOut, string (shape_word f.shape_out)) ∷ []

abbrev pub region_keys : text.RegionText.RegionText → Keys
region_keys r = (key.Id, number r.id) ∷ (key.Source, string r.source) ∷ (key.Layer, number r.layer) ∷ (key.Gain, number r.gain) ∷
    (key.Opaque, boolean r.opaque) ∷ span_keys r.span ++ fade_keys r.fades

unfoldable pub region_table : text.RegionText.RegionText → Members
region_table r = keyed (region_keys r)

-- ---- routes

abbrev pub send_keys : text.SendText.SendText → Keys
send_keys l = (key.To, string l.to) ∷ (key.Pre, boolean l.pre) ∷ (key.Gain, number l.gain) ∷ []

unfoldable pub send_table : text.SendText.SendText → Members
send_table l = keyed (send_keys l)

-- of any route
abbrev pub fader_keys : text.Level.Level → text.Automation.Automation → Keys
fader_keys l r = (key.Gain, number l.gain) ∷ (key.Mute, boolean l.muted) ∷ (key.Mode, string (mode_word r.mode)) ∷ (key.Lane, pairs r.lane) ∷ []

unfoldable pub master_table : text.MasterText.MasterText → Members
master_table m = keyed (fader_keys m.level m.automation)

abbrev pub route_keys : text.RouteText.RouteText → Keys
route_keys q = (key.Name, string q.named.name) ∷ (key.Channels, number q.named.channels) ∷ (key.Out, string q.strip.out) ∷
    (key.Left, number q.strip.left) ∷ (key.Right, number q.strip.right) ∷ (key.Send, tables send_table q.sends.items) ∷
    fader_keys q.strip.level q.strip.automation

unfoldable pub bus_table : text.RouteText.RouteText → Members
bus_table q = keyed (route_keys q)

-- no key says that a track takes no input
abbrev pub input_keys : Option ℕ → Keys
input_keys None = []
input_keys (Some first) = (key.Input, number first) ∷ []

abbrev pub own_keys : text.TrackOwn.TrackOwn → Keys
own_keys k = (key.Solo, boolean k.settings.solo) ∷ (key.Arm, boolean k.settings.armed) ∷ (key.Region, tables region_table k.regions.items) ∷
    input_keys k.settings.input

-- a track has the keys of a bus, and its own
unfoldable pub track_table : text.TrackText.TrackText → Members
track_table k = with_keys (own_keys k.own) (bus_table k.route)

-- ---- the document

abbrev pub document_keys : text.Written.Written → Keys
document_keys w = (key.Session, table (head_table w.head)) ∷ (key.Source, tables source_table w.sources.items) ∷
    (key.Track, tables track_table w.tracks.items) ∷ (key.Bus, tables bus_table w.busses.items) ∷
    (key.Master, table (master_table w.master)) ∷ []

unfoldable pub document_table : text.Written.Written → Members
document_table w = keyed (document_keys w)
