-- The table of a text is flat enough to be read.
use Rattle.std.proofs.Common.{◌≡◌, ℕ, suc, ◌≤◌, Bool, true, nat_le, Ordering, Less, Equal, Greater, refl, arith, List, [], ◌∷◌, map, Option, Some, None}
use Rattle.std.specs.List.{list_all}
use Rattle.std.specs.Ordering.{nat_cmp, match_ordering}
use Rattle.std.specs.Cmp.Lexicographic.{slice_cmp}
use Rattle.std.proofs.lemmas.Bool.{and_parts}
use Rattle.std.proofs.lemmas.Bool.Decides.{nat_tests}
use Rattle.toml.specs.Data.{Data, Members, no_members, member, table, depth, items_depth, members_depth}
use Rattle.toml.specs.View.{items_of}
use Rattle.sound_model.specs.Lanes as sound
use Rattle.session_model.specs.declared.session.SourceDecl.{SourceDecl}
use Rattle.session_walk.specs.declared.said as text
use Rattle.session_walk.specs.Words.{word}
use Rattle.session_text.specs.Tables.{with_member, with_keys, pair, pairs, tables}
use Rattle.session_text.specs.Parts.{Keys, head_keys, source_keys, region_keys, send_keys, fader_keys, route_keys, document_keys, head_table, source_table, region_table, send_table, master_table, bus_table, own_keys, track_table, document_table}
use Rattle.session_text.proofs.KeyLaws.{below}

-- ---- tables

chosen : (n : ℕ) (o : Ordering) (a b c : Members) → members_depth a ≤ n → members_depth b ≤ n → members_depth c ≤ n → members_depth (match_ordering o a b c) ≤ n
chosen n Less a b c h k l = h
chosen n Equal a b c h k l = k
chosen n Greater a b c h k l = l

-- a value more makes a table no deeper than itself and the value
with-depth : (n : ℕ) (name : List ℕ) (value : Data) (ms : Members) → depth value ≤ n → members_depth ms ≤ n → members_depth (with_member name value ms) ≤ n
with-depth n name value no_members h l = omega arith
with-depth n name value (member other here rest) h l =
    let more = with-depth n name value rest h (omega arith) in
    chosen n (slice_cmp nat_cmp name other) _ _ _ (omega arith) (omega arith) (omega (arith, more))

-- no value of these is deeper than n
abbrev flat : ℕ → Keys → Bool
flat n rows = list_all (λ r. nat_le (depth r.1) n) rows

keys-depth : (n : ℕ) (rows : Keys) (ms : Members) → flat n rows ≡ true → members_depth ms ≤ n → members_depth (with_keys rows ms) ≤ n
keys-depth n [] ms e h = h
keys-depth n (r ∷ rows) ms e h =
    let (here, more) = and_parts (nat_le (depth r.1) n) (flat n rows) e in
    let low : depth r.1 ≤ n = grind (arith, nat_tests, here) in
    keys-depth n rows (with_member (word r.0) r.1 ms) more (with-depth n (word r.0) r.1 ms low h)

-- ---- arrays

tables-depth : {A : Type 0} (n : ℕ) (table_of : A → Members) (xs : List A) → ((x : A) → members_depth (table_of x) ≤ n) → items_depth (items_of (map (λ x. table (table_of x)) xs)) ≤ suc n
tables-depth n table_of [] each = omega arith
tables-depth n table_of (x ∷ xs) each = omega (arith, each x, tables-depth n table_of xs each)

tables-low : {A : Type 0} (n m : ℕ) (table_of : A → Members) (xs : List A) → suc (suc n) ≤ m → ((x : A) → members_depth (table_of x) ≤ n) → nat_le (depth (tables table_of xs)) m ≡ true
tables-low n m table_of xs h each = below (depth (tables table_of xs)) m (omega (arith, tables-depth n table_of xs each, h))

pairs-depth : (lane : List sound.Point) → items_depth (items_of (map pair lane)) ≤ 1
pairs-depth [] = omega arith
pairs-depth (p ∷ ps) = omega (arith, pairs-depth ps)

pairs-low : (lane : List sound.Point) → nat_le (depth (pairs lane)) 2 ≡ true
pairs-low lane = below (depth (pairs lane)) 2 (omega (arith, pairs-depth lane))

-- ---- the parts

head-depth : (h : text.Head.Head) → members_depth (head_table h) ≤ 0
unfolding head_table
head-depth h = keys-depth 0 (head_keys h) no_members refl (omega arith)

source-depth : (d : SourceDecl) → members_depth (source_table d) ≤ 0
unfolding source_table
source-depth d = keys-depth 0 (source_keys d) no_members refl (omega arith)

region-depth : (r : text.RegionText.RegionText) → members_depth (region_table r) ≤ 0
unfolding region_table
region-depth r = keys-depth 0 (region_keys r) no_members refl (omega arith)

send-depth : (l : text.SendText.SendText) → members_depth (send_table l) ≤ 0
unfolding send_table
send-depth l = keys-depth 0 (send_keys l) no_members refl (omega arith)

master-depth : (m : text.MasterText.MasterText) → members_depth (master_table m) ≤ 2
unfolding master_table
master-depth m = keys-depth 2 (fader_keys m.level m.automation) no_members (rw (pairs-low m.automation.lane) refl) (omega arith)

bus-depth : (q : text.RouteText.RouteText) → members_depth (bus_table q) ≤ 2
unfolding bus_table
bus-depth q = keys-depth 2 (route_keys q) no_members (rw (tables-low 0 2 send_table q.sends.items (omega arith) send-depth, pairs-low q.strip.automation.lane) refl) (omega arith)

own-flat : (k : text.TrackOwn.TrackOwn) (o : Option ℕ) → k.settings.input ≡ o → flat 2 (own_keys k) ≡ true
own-flat k None e = rw (e, tables-low 0 2 region_table k.regions.items (omega arith) region-depth) refl
own-flat k (Some first) e = rw (e, tables-low 0 2 region_table k.regions.items (omega arith) region-depth) refl

track-depth : (k : text.TrackText.TrackText) → members_depth (track_table k) ≤ 2
unfolding track_table
track-depth k = keys-depth 2 (own_keys k.own) (bus_table k.route) (own-flat k.own k.own.settings.input refl) (bus-depth k.route)

pub document-depth : (w : text.Written.Written) → members_depth (document_table w) ≤ 4
unfolding document_table
document-depth w = keys-depth 4 (document_keys w) no_members
    (rw (
      below (depth (table (head_table w.head))) 4 (omega (arith, head-depth w.head)),
      tables-low 0 4 source_table w.sources.items (omega arith) source-depth,
      tables-low 2 4 track_table w.tracks.items (omega arith) track-depth,
      tables-low 2 4 bus_table w.busses.items (omega arith) bus-depth,
      below (depth (table (master_table w.master))) 4 (omega (arith, master-depth w.master)),
    ) refl)
    (omega arith)
