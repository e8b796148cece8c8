-- What is sent is genuine, and stays so when more edits come.
use Rattle.std.proofs.Common.{◌≡◌, ℕ, zero, suc, ◌*◌, ℤ, List, [], ◌∷◌, ◌++◌, length, refl, sym, ap, ◌∙◌, subst, arith, le_trans, inl, inr}
use Rattle.std.proofs.Math.Path.{fun_ext}
use Rattle.std.specs.Prelude.{Bool, true, nat_le, reverse, All, slice_get, slice_index, Some, Option, None}
use Rattle.std.specs.List.{list_all}
use Rattle.std.proofs.lemmas.Bool.{and_parts, and_from, leb-true}
use Rattle.std.proofs.lemmas.List.{reverse-append}
use Rattle.sound_model.specs.Regions.{Sounds, Region}
use Rattle.sound_model.specs.Layers.{track_sample}
use Rattle.sound_model.specs.Wav.{sound}
use Rattle.ses_io.specs.Files.{Files, content}
use Rattle.session_model.specs.declared.session.Session.{Session}
use Rattle.session_model.specs.declared.edit.Edit.{Edit}
use Rattle.session_model.specs.Formed.{channels_at}
use Rattle.session_model.specs.Frames.{interleaved}
use Rattle.session_model.specs.Views.{track_regions}
use Rattle.engine_model.specs.Edits.{generation, playlist_edition, touches}
use Rattle.engine_model.specs.Editions.{edition}
use Rattle.engine_model.specs.Items.{Kind, Piece, Settled, Blank}
use Rattle.engine_model.specs.Due.{Ack, Needs, needs}
use Rattle.engine_model.specs.Transport.{place, place_of}
use Rattle.engine_model.specs.Played.{samples_of, piece_samples, IsGenuine, IsGenuineAs}
use Rattle.engine_laws.specs.Kept.{Kept, is_from}
use Rattle.engine_laws.specs.PlayedLaws.{IsNamed}
use Rattle.engine_laws.proofs.NumberLemmas.{last_in}
use Rattle.engine_laws.proofs.PlayedLemmas.{genuine_stays, playlists_stand}
use Rattle.locate_loop.specs.Transport.{transport_of}
use Rattle.edition_log.specs.EditionState.{EditionState as Edition, IsEditionOf}
use Rattle.edition_log.proofs.PlayLaws.{editions_play_their_places}
use Rattle.audio_source.specs.Opened.{OpenedSource, channels_of}
use Rattle.audio_source.specs.Told.{source_sound, sample_by}
use Rattle.audio_source.specs.Lines.{HeldLine, SourcesState, HoldsAsRead}
use Rattle.piece_item.specs.declared.item.Item.{Item}
use Rattle.piece_item.specs.Views.{kind_of, item_of}
use Rattle.read_ahead.specs.declared.supply.TrackSupply.{TrackSupply}
use Rattle.read_ahead.specs.Items.{kinds, block_of, block_room, IsBlockOf, HasMade, IsMadeBy}
use Rattle.butler.specs.Serving.{SourcesStand}
use Rattle.butler.proofs.StandLemmas.{Names, AllNamed}
use Rattle.butler.proofs.KeepLemmas.{block_is, channels_are, room_is}

-- ---- what was sent before

ends_of : {X : Type 0} (p : X → Bool) (xs ys : List X) → list_all p (xs ++ ys) ≡ true → (list_all p xs ≡ true) × (list_all p ys ≡ true)
ends_of p [] ys h = (refl, h)
ends_of p (x ∷ xs) ys h = let parts = and_parts (p x) (list_all p (xs ++ ys)) h in let rest = ends_of p xs ys parts.1 in (and_from (p x) (list_all p xs) parts.0 rest.0, rest.1)

turned : {X : Type 0} (p : X → Bool) (xs : List X) → list_all p (reverse xs) ≡ true → list_all p xs ≡ true
turned p [] h = refl
turned p (x ∷ xs) h = let parts = ends_of p (reverse xs) (x ∷ []) (ap (list_all p) (sym (reverse-append (x ∷ []) xs)) ∙ h) in
    and_from (p x) (list_all p xs) (and_parts (p x) true parts.1).0 (turned p xs parts.0)

pub named : (s : Session) (edits : List Edit) (t : ℕ) (k : Kind) → is_from s edits t (length edits) k ≡ true → IsNamed edits k
named s edits t (Piece u g r p) h = let parts = and_parts (nat_le g (generation edits (length edits))) (nat_le p (playlist_edition s edits t (length edits))) h in
    (leb-true g (generation edits (length edits)) parts.0, le_trans (leb-true p (playlist_edition s edits t (length edits)) parts.1) (last_in (touches s t) edits (length edits)))
named s edits t (Settled j g r) h = tt
named s edits t Blank h = tt

module _ (sounds : Sounds) (s : Session) where
  abbrev pub G : List Edit → Item → Type 0
  G edits item = IsGenuine s edits (samples_of sounds s edits) (item_of item)

  all_stay : (edits more : List Edit) (t : ℕ) (items : List Item) → list_all (is_from s edits t (length edits)) (kinds items) ≡ true → All (G edits) items → All (G (edits ++ more)) items
  all_stay edits more t [] h all k d near = absurd (omega arith)
  all_stay edits more t (x ∷ xs) h all zero d near =
      genuine_stays sounds s edits more (kind_of x.kind) x.samples.items (named s edits t (kind_of x.kind) (and_parts (is_from s edits t (length edits) (kind_of x.kind)) (list_all (is_from s edits t (length edits)) (kinds xs)) h).0)
      (all zero d (omega arith))
  all_stay edits more t (x ∷ xs) h all (suc k) d near =
      all_stay edits more t xs (and_parts (is_from s edits t (length edits) (kind_of x.kind)) (list_all (is_from s edits t (length edits)) (kinds xs)) h).1 (λ j c l. all (suc j) c (omega arith)) k d (omega arith)

  -- what was sent before stays genuine
  pub stays_genuine : (before edits more : List Edit) (t : ℕ) (items : List Item) → before ++ more ≡ edits → Kept s before t (length before) (reverse (kinds items)) → All (G before) items → All (G edits) items
  stays_genuine before edits more t items grows kept all = subst (λ es. All (G es) items) grows
      (all_stay before more t items (turned (is_from s before t (length before)) (kinds items) kept.from) all)

  -- so does one item that was made
  pub one_stays : (before edits more : List Edit) (t : ℕ) (item : Item) → before ++ more ≡ edits → is_from s before t (length before) (kind_of item.kind) ≡ true → G before item → G edits item
  one_stays before edits more t item grows from here = subst (λ es. G es item) grows
      (genuine_stays sounds s before more (kind_of item.kind) item.samples.items (named s before t (kind_of item.kind) from) here)

  -- ---- what is made and sent now

  module _ (e : Edition) (is : IsEditionOf s e) (cycles t : ℕ) (acks : List Ack) where
    abbrev N : Needs
    N = needs s e.edits cycles t (length e.edits) acks

    -- the playlist of the edition is the one that its last edit left
    same_regions : track_regions e.session t ≡ track_regions (edition s e.edits (playlist_edition s e.edits t (length e.edits))).session t
    same_regions = ap (λ x. track_regions x.session t) is.state ∙ playlists_stand s e.edits t (length e.edits)

    same_frame : (n c : ℕ) → track_sample sounds (track_regions e.session t) c (place_of (transport_of e.transport) n)
        ≡ samples_of sounds s e.edits t (playlist_edition s e.edits t (length e.edits)) c (place e.edits (generation e.edits (length e.edits)) n)
    same_frame n c = ap (λ (rs : List Region). track_sample sounds rs c (place_of (transport_of e.transport) n)) same_regions
        ∙ ap (λ x. samples_of sounds s e.edits t (playlist_edition s e.edits t (length e.edits)) c x) ((editions_play_their_places s e is).places n)

    same_block : (r : ℕ) → block_of sounds e t r ≡ piece_samples s e.edits (samples_of sounds s e.edits) t (generation e.edits (length e.edits)) r (playlist_edition s e.edits t (length e.edits))
    same_block r = ap (λ f. interleaved f (channels_at e.session t) (r * e.session.block) (block_room e t)) (fun_ext (λ n. fun_ext (λ c. same_frame n c)))
        ∙ (λ i. interleaved F (channels_are s e is t i) (r * block_is s e is i) (room_is s e is t i)) where
          F : ℕ → ℕ → ℤ
          F n c = samples_of sounds s e.edits t (playlist_edition s e.edits t (length e.edits)) c (place e.edits (generation e.edits (length e.edits)) n)

    pub block_genuine : (k : Kind) (samples : List ℤ) → Names N k → IsBlockOf sounds e k samples → IsGenuineAs s e.edits (samples_of sounds s e.edits) k samples
    block_genuine (Piece u g r p) samples names is_block = is_block ∙ ap (λ v. block_of sounds e v r) names.0 ∙ same_block r
        ∙ (λ i. piece_samples s e.edits (samples_of sounds s e.edits) (sym names.0 i) (sym names.1 i) r (sym names.2 i))
    block_genuine (Settled j g r) samples names is_block = tt
    block_genuine Blank samples names is_block = tt

    -- an item has its block by the edition, or was made before and is genuine
    pub all_genuine : (p : TrackSupply) (items : List Item) → ((item : Item) → HasMade p item → G e.edits item) → AllNamed s e.edits cycles t acks (kinds items) → All (IsMadeBy sounds e p) items → All (G e.edits) items
    all_genuine p [] made names blocks k d near = absurd (omega arith)
    all_genuine p (x ∷ xs) made names blocks zero d near = elim (blocks zero d (omega arith)) [
      | inl block ↦ block_genuine (kind_of x.kind) x.samples.items names.0 block
      | inr had ↦ made x had
    ]
    all_genuine p (x ∷ xs) made names blocks (suc k) d near = all_genuine p xs made names.1 (λ j c l. blocks (suc j) c (omega arith)) k d (omega arith)

-- ---- the sounds of files

sample_as : (files held : Files) (o : Option OpenedSource) → ((x : OpenedSource) → o ≡ Some x → content files x.file ≡ content held x.file) → (i c : ℕ) → sample_by files o i c ≡ sample_by held o i c
sample_as files held None same i c = refl
sample_as files held (Some x) same i c = ap (λ (bytes : List ℕ). sound x.head bytes i c) (same x refl)

-- where the files of the sources hold what they held, they sound the same
pub sounds_stand : (held files : Files) (opened : List OpenedSource) → SourcesStand held files opened → source_sound files opened ≡ source_sound held opened
sounds_stand held files opened stand = fun_ext (λ k. fun_ext (λ i. fun_ext (λ c. sample_as files held (slice_get opened k) (stand k) i c)))

-- the lines that are held, by sounds
abbrev HoldsBy : Sounds → SourcesState → Type 0
HoldsBy sounds r = All (λ (h : HeldLine). h.samples ≡ interleaved (sounds h.source) (slice_index (channels_of r.opened) h.source) (4096 * h.line) (4096 * slice_index (channels_of r.opened) h.source)) r.held

pub holds_stand : (a b : Files) (r : SourcesState) → source_sound a r.opened ≡ source_sound b r.opened → HoldsAsRead a r → HoldsAsRead b r
holds_stand a b r same holds = subst (λ (f : Sounds). HoldsBy f r) same holds
