-- All that a process received is ordered, names its track, and is genuine where the media tells.
use Rattle.std.proofs.Common.{◌≡◌, ℕ, List, [], ◌∷◌, ◌++◌, refl, sym, ap, subst, ◌∙◌, arith}
use Rattle.std.specs.Prelude.{true, map, reverse, slice_get, Some, All}
use Rattle.std.specs.List.{list_all}
use Rattle.std.proofs.lemmas.Bool.{and_parts, and_from}
use Rattle.std.proofs.lemmas.List.{map-append, reverse-append}
use Rattle.std.proofs.lemmas.List.Elements.{All-nil, All-cons, All-head, All-tail, All-append, All-map}
use Rattle.std.proofs.lemmas.List.Folds.{list_all-append, list_all-map}
use Rattle.std.proofs.lemmas.Option.{slice_get_within}
use Rattle.sound_model.specs.Regions.{Sounds}
use Rattle.ses_io.specs.Outside.{MediaOutside}
use Rattle.session_model.specs.declared.session.Session.{Session}
use Rattle.session_model.specs.declared.edit.Edit.{Edit}
use Rattle.audio_source.specs.Told.{source_sound}
use Rattle.engine_model.specs.Items as engine
use Rattle.engine_model.specs.Items.{Kind, Piece, Settled, Blank}
use Rattle.engine_model.specs.Order.{is_ordered_newest, may_follow}
use Rattle.engine_model.specs.Played.{Samples, IsGenuine, samples_of}
use Rattle.engine_laws.specs.JournalInvariant.{AreOrdered}
use Rattle.engine_laws.specs.PlayedLaws.{IsOfTrack, is_of_track}
use Rattle.engine_laws.proofs.GrowLemmas.{ordered_stays}
use Rattle.engine_laws.proofs.ListLemmas.{item_at}
use Rattle.machine_laws.proofs.Tracks.{of_mapped}
use Rattle.disk_ring.specs.Receiver.{Receiver}
use Rattle.piece_item.specs.declared.item.Item.{Item}
use Rattle.piece_item.specs.Views.{item_of, kind_of}
use Rattle.read_ahead.specs.Items.{kinds}
use Rattle.butler.proofs.GenuineLemmas.{stays_genuine}
use Rattle.track_playback.specs.SpareBoxes.{received_items, received_kinds}
use Rattle.process_cycle.specs.Promised.{AllOfTrack}
use Rattle.worker_pair.specs.declared.ending.Ending.{Ending}
use Rattle.worker_pair.specs.Begun.{At}
use Rattle.worker_pair.specs.Runs.{Serves}

-- ---- the track of a piece

names : (s : Session) (edits : List Edit) (t : ℕ) (before : List Kind) (k : Kind) → may_follow s edits t before k ≡ true → is_of_track t k ≡ true
names s edits t before (Piece u g n p) may = grind (arith, may)
names s edits t before (Settled k g n) may = refl
names s edits t before Blank may = refl

all_named : (s : Session) (edits : List Edit) (t : ℕ) (xs : List Kind) → is_ordered_newest s edits t xs ≡ true → list_all (is_of_track t) xs ≡ true
all_named s edits t [] ordered = refl
all_named s edits t (x ∷ xs) ordered = let both = and_parts (may_follow s edits t xs x) (is_ordered_newest s edits t xs) ordered in
    and_from (is_of_track t x) (list_all (is_of_track t) xs) (names s edits t xs x both.0) (all_named s edits t xs both.1)

-- ---- parts of lists

all_first : {X : Type 0} (P : X → Type 0) (xs ys : List X) → All P (xs ++ ys) → All P xs
all_first P [] ys all = All-nil P
all_first P (x ∷ xs) ys all = All-cons P x xs (All-head P x (xs ++ ys) all) (all_first P xs ys (All-tail P x (xs ++ ys) all))

all_turned : {X : Type 0} (P : X → Type 0) (xs : List X) → All P xs → All P (reverse xs)
all_turned P [] all = All-nil P
all_turned P (x ∷ xs) all = subst (All P) (sym (reverse-append (x ∷ []) xs))
    (All-append P (reverse xs) (x ∷ []) (all_turned P xs (All-tail P x xs all)) (All-cons P x [] (All-head P x xs all) (All-nil P)))

-- the kinds of items, newest first
turned_kinds : (items : List Item) → map (λ (i : engine.Item). i.kind) (reverse (map item_of items)) ≡ reverse (kinds items)
turned_kinds [] = refl
turned_kinds (x ∷ xs) = ap (map (λ (i : engine.Item). i.kind)) (reverse-append (item_of x ∷ []) (map item_of xs))
    ∙ map-append (λ (i : engine.Item). i.kind) (reverse (map item_of xs)) (item_of x ∷ []) ∙ ap (λ l. l ++ kind_of x.kind ∷ []) (turned_kinds xs)
    ∙ sym (reverse-append (kind_of x.kind ∷ []) (kinds xs))

-- ---- what was received

-- what was sent before the newest items is ordered as all of it is
ordered_back : (s : Session) (edits : List Edit) (t : ℕ) (xs ys : List Kind) → is_ordered_newest s edits t (xs ++ ys) ≡ true → is_ordered_newest s edits t ys ≡ true
ordered_back s edits t [] ys ordered = ordered
ordered_back s edits t (x ∷ xs) ys ordered = ordered_back s edits t xs ys (and_parts (may_follow s edits t (xs ++ ys) x) (is_ordered_newest s edits t (xs ++ ys)) ordered).1

module _ {V : Type 0} (media : MediaOutside V) (at : At) (e : Ending V) (serves : Serves media at e) where
  abbrev s : Session
  s = at.begun.session

  abbrev edits : List Edit
  edits = e.edition.edits

  -- what was received of each track is ordered
  pub ordered : AreOrdered s edits (map received_kinds e.ends.plays.items)
  ordered t xs here = let r = of_mapped received_kinds e.ends.plays.items t xs here in let sends = e.butler.ends.sends.items in
      let d = item_at sends t (omega (arith, slice_get_within e.ends.plays.items t r.0 r.1, serves.others.plays.count)) in
      let k = item_at e.butler.supplies t (omega (arith, slice_get_within sends t d.0 d.1, serves.serving.sends, serves.serving.supplies)) in
      let kept = (serves.serving.tracks t k.0 d.0 k.1 d.1).stands.kept in let begins = (serves.met.plays t d.0 r.0 d.1 r.1).passed.begins in
      let split : reverse (kinds d.0.sent) ≡ reverse (kinds begins.0) ++ reverse (kinds r.0.received) = ap reverse (ap kinds (sym begins.1) ∙ map-append (λ i. kind_of i.kind) r.0.received begins.0)
      ∙ reverse-append (kinds r.0.received) (kinds begins.0) in
      let of_served : is_ordered_newest s at.served t (reverse (kinds r.0.received)) ≡ true = ordered_back s at.served t (reverse (kinds begins.0)) (reverse (kinds r.0.received))
      (sym (ap (is_ordered_newest s at.served t) split) ∙ kept.in_order) in
      subst (λ l. is_ordered_newest s edits t l ≡ true) (sym (turned_kinds r.0.received) ∙ sym r.2)
      (subst (λ es. is_ordered_newest s es t (reverse (kinds r.0.received)) ≡ true) serves.served_of.1
      (ordered_stays s at.served serves.served_of.0 t (reverse (kinds r.0.received)) of_served))

  module _ (tells : media.tells) where
    abbrev sounds : Sounds
    sounds = source_sound at.begun.files e.butler.sources.opened

    abbrev samples : Samples
    samples = samples_of sounds s e.edition.edits

    of_track : (t : ℕ) (r : Receiver Item) → slice_get e.ends.plays.items t ≡ Some r → IsOfTrack s e.edition.edits samples t (received_items r)
    of_track t r here = let plays = e.ends.plays.items in let sends = e.butler.ends.sends.items in
        let d = item_at sends t (omega (arith, slice_get_within plays t r here, serves.others.plays.count)) in
        let sup = item_at e.butler.supplies t (omega (arith, slice_get_within sends t d.0 d.1, serves.serving.sends, serves.serving.supplies)) in
        let kept = (serves.serving.tracks t sup.0 d.0 sup.1 d.1).stands.kept in
        let begins = (serves.met.plays t d.0 r d.1 here).passed.begins in
        let G = λ (i : Item). IsGenuine s e.edition.edits samples (item_of i) in record {
          named = sym (list_all-map (is_of_track t) (λ (i : engine.Item). i.kind) (received_items r)) ∙ ap (list_all (is_of_track t)) (turned_kinds r.received)
              ∙ (and_parts (list_all (is_of_track t) (reverse (kinds begins.0))) (list_all (is_of_track t) (reverse (kinds r.received)))
              (sym (list_all-append (is_of_track t) (reverse (kinds begins.0)) (reverse (kinds r.received)))
              ∙ ap (list_all (is_of_track t)) (sym (reverse-append (kinds r.received) (kinds begins.0)) ∙ ap reverse (sym (map-append (λ (i : Item). kind_of i.kind) r.received begins.0) ∙ ap kinds begins.1))
              ∙ all_named s at.served t (reverse (kinds d.0.sent)) kept.in_order)).1;
          genuine = all_turned (IsGenuine s e.edition.edits samples) (map item_of r.received) (All-map (IsGenuine s e.edition.edits samples) item_of r.received
              (all_first G r.received begins.0 (subst (All G) (sym begins.1)
              (stays_genuine sounds s at.served e.edition.edits serves.served_of.0 t d.0.sent serves.served_of.1 kept ((serves.true_to tells).sent t d.0 d.1)))));
        }

    -- all of it names its track, and is genuine
    pub of_tracks : AllOfTrack s e.edition.edits samples (map received_items e.ends.plays.items)
    of_tracks t items here = let r = of_mapped received_items e.ends.plays.items t items here in subst (IsOfTrack s e.edition.edits samples t) (sym r.2) (of_track t r.0 r.1)
