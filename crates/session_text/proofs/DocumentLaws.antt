-- The table of a whole text is read as that text.
use Rattle.std.proofs.Common.{◌≡◌, ℕ, ◌-◌, ◌≤◌, true, refl, arith, List, length, map, All, Some}
use Rattle.std.specs.Prelude.{Ok}
use Rattle.std.proofs.lemmas.List.{length-map}
use Rattle.toml.specs.Data.{table}
use Rattle.ses_units.specs.Lane.{IsLane}
use Rattle.ses_units.specs.Name.{is_name}
use Rattle.session_model.specs.declared.key.Key.TheVariants as key
use Rattle.session_model.specs.declared.refusal.Part.TheVariants as part
use Rattle.session_model.specs.declared.refusal.Place.{Place}
use Rattle.session_walk.specs.declared.said as text
use Rattle.session_walk.specs.declared.said.Version.TheVariants.{Two}
use Rattle.session_walk.specs.InRange.{IsInRange}
use Rattle.session_walk.specs.Section.{Section, only, value_at, row_of}
use Rattle.session_walk.specs.Words.{word}
use Rattle.session_walk.specs.Parts.{source_of, track_of, bus_of}
use Rattle.session_walk.specs.Text.{Outline, top_keys, outline_of, parts_of, document, written}
use Rattle.session_text.specs.Kept.{IsKeptSource}
use Rattle.session_text.specs.Tables.{tables}
use Rattle.session_text.specs.Parts.{head_table, source_table, track_table, bus_table, master_table, document_table}
use Rattle.session_text.proofs.ArrayLaws.{tables-read, entries-read}
use Rattle.session_text.proofs.PartLaws.{head-read, source-read, master-read}
use Rattle.session_text.proofs.RouteLaws.{IsHeard, IsOwn, bus-read, track-read}

-- a text of version 2: what its parts keep by their types, and the rooms of its lists
pub record IsText (w : text.Written.Written) : Type 0 where
  pub version : w.head.version ≡ Two
  pub takes : is_name w.head.takes ≡ true
  pub sources : All IsKeptSource w.sources.items
  pub tracks : All IsOwn w.tracks.items
  pub busses : All IsHeard w.busses.items
  pub gain : w.master.level.gain ≤ 262144
  pub lane : IsLane w.master.automation.lane
  pub track_room : w.tracks.room ≡ 32
  pub bus_room : w.busses.room ≡ 63

abbrev outline : text.Written.Written → Outline
outline w = record {
  session = head_table w.head;
  sources = map source_table w.sources.items;
  tracks = map track_table w.tracks.items;
  busses = map bus_table w.busses.items;
  master = master_table w.master;
}

-- what stands at the keys of the document
record Stands (s : Section) (w : text.Written.Written) : Type 0 where
  known : only s top_keys ≡ Ok tt
  session : value_at s key.Session ≡ Some (table (head_table w.head))
  sources : value_at s key.Source ≡ Some (tables source_table w.sources.items)
  tracks : value_at s key.Track ≡ Some (tables track_table w.tracks.items)
  busses : value_at s key.Bus ≡ Some (tables bus_table w.busses.items)
  master : value_at s key.Master ≡ Some (table (master_table w.master))

in-document : (p : Place) (w : text.Written.Written) → Stands (record { place = p; members = document_table w }) w
unfolding document_table word
in-document p w = record { known = refl; session = refl; sources = refl; tracks = refl; busses = refl; master = refl }

outline-read : (p : Place) (w : text.Written.Written) → IsInRange w → outline_of (record { place = p; members = document_table w }) ≡ Ok (outline w)
unfolding outline_of
outline-read p w range =
    let s : Section = record { place = p; members = document_table w } in
    let at = in-document p w in
    let few : length w.busses.items ≤ 63 - length (map track_table w.tracks.items) = omega (arith, length-map w.tracks.items track_table, range.few_routes) in
    rw (
      at.known,
      at.session,
      tables-read s key.Source 64 source_table w.sources.items at.sources range.few_sources,
      tables-read s key.Track 32 track_table w.tracks.items at.tracks range.few_tracks,
      tables-read s key.Bus (63 - length (map track_table w.tracks.items)) bus_table w.busses.items at.busses few,
      at.master,
    ) refl

parts-read : (w : text.Written.Written) → IsInRange w → IsText w → parts_of (outline w) ≡ Ok w
unfolding parts_of
parts-read w range is = rw (
  head-read w.head range.head is.takes _,
  entries-read source_of source_table (row_of part.Source) 64 w.sources range.room (λ i d h. source-read _ (range.sources i d h) (is.sources i d h)),
  is.version,
  entries-read (track_of Two) track_table (row_of part.Track) 32 w.tracks is.track_room (λ i d h. track-read _ (range.tracks i d h) (is.tracks i d h)),
  entries-read bus_of bus_table (row_of part.Bus) 63 w.busses is.bus_room (λ i d h. bus-read _ (range.busses i d h) (is.busses i d h)),
  master-read w.master is.gain is.lane _,
) refl

-- a document that is the table of a text is read as that text
pub text-read : (bytes : List ℕ) (w : text.Written.Written) → document bytes ≡ Ok (document_table w) → IsInRange w → IsText w → written bytes ≡ Ok w
unfolding written
text-read bytes w doc range is = rw (doc, outline-read _ w range) (parts-read w range is)
