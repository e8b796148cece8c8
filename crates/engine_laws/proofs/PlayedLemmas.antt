-- Pieces and playlists when edits are made and more edits come.
use Rattle.std.proofs.Common.{◌≡◌, ℕ, zero, suc, ◌*◌, ◌≤◌, ℤ, List, ◌++◌, length, refl, sym, ap, ◌∙◌}
use Rattle.std.proofs.Math.Path.{fun_ext}
use Rattle.std.specs.Prelude.{Bool, true, false, if◌then◌else◌, slice_get, Option, Some, None, Ok}
use Rattle.std.specs.Option.{option_map_or}
use Rattle.sound_model.specs.Regions.{Sounds}
use Rattle.sound_model.specs.Layers.{track_sample}
use Rattle.session_model.specs.declared.session.Session.{Session}
use Rattle.session_model.specs.declared.edit.Edit.{Edit}
use Rattle.session_model.specs.Formed.{channels_at}
use Rattle.session_model.specs.Frames.{interleaved}
use Rattle.session_model.specs.Views.{track_regions}
use Rattle.engine_model.specs.Edits.{playlist_edition, generation, holds_at, is_named, region_track, touches}
use Rattle.engine_model.specs.Changes.{Change, made}
use Rattle.engine_model.specs.Commands.{change_of}
use Rattle.engine_model.specs.Fixed.{fixed_of}
use Rattle.engine_model.specs.Editions.{Edition, edition, after_one}
use Rattle.engine_model.specs.Items.{Kind, Piece, Settled, Blank}
use Rattle.engine_model.specs.Transport.{Wrap, place}
use Rattle.engine_model.specs.Played.{samples_of, piece_samples, IsGenuineAs}
use Rattle.engine_laws.proofs.ChangeLemmas.{fixed_stays, names_stay}
use Rattle.engine_laws.proofs.CommandLemmas.{untouched_stays}
use Rattle.engine_laws.proofs.EditionLemmas.{edition_stays, holds_at_is}
use Rattle.engine_laws.proofs.SessionLemmas.{session_after, sessions_keep}
use Rattle.engine_laws.proofs.PlaceLemmas.{place_stays}
use Rattle.engine_laws.specs.PlayedLaws.{IsNamed}

-- what no edit changes
pub fixed_stands : (session : Session) (edits : List Edit) (k : ℕ) → fixed_of (edition session edits k).session ≡ fixed_of session
fixed_stands session edits k = sessions_keep (λ s. fixed_of s ≡ fixed_of session) session edits refl (λ j edit s wrap c here e before. fixed_stays s c ∙ before) k

-- where each edit leaves the session as it is, each edition's is the opening one
pub session_stands : (session : Session) (edits : List Edit) →
    ((j : ℕ) (edit : Edit) (s : Session) (wrap : Option Wrap) (c : Change) → slice_get edits j ≡ Some edit → change_of s wrap edit ≡ Ok c → made s c ≡ s) →
    (k : ℕ) → (edition session edits k).session ≡ session
session_stands session edits leaves k = sessions_keep (λ s. s ≡ session) session edits refl (λ j edit s wrap c here e before. leaves j edit s wrap c here e ∙ before) k

-- one edit that doesn't touch a track
one_stands : (session : Session) (e : Edition) (t : ℕ) (edit : Option Edit) → fixed_of e.session ≡ fixed_of session → option_map_or (touches session t) edit false ≡ false →
    track_regions (after_one e edit).session t ≡ track_regions e.session t
one_stands session e t None fixed untouched = refl
one_stands session e t (Some edit) fixed untouched = session_after (λ s. track_regions s t ≡ track_regions e.session t) e edit refl
    (λ c is. untouched_stays e.session e.transport.wrap edit c t is (same_touch (region_track edit) ∙ untouched))
  where
    same_touch : (o : Option (List ℕ)) → option_map_or (is_named e.session t) o false ≡ option_map_or (is_named session t) o false
    same_touch None = refl
    same_touch (Some name) = names_stay session e.session t name fixed

pub playlists_stand : (session : Session) (edits : List Edit) (t k : ℕ) →
    track_regions (edition session edits k).session t ≡ track_regions (edition session edits (playlist_edition session edits t k)).session t
playlists_stand session edits t zero = refl
playlists_stand session edits t (suc k) = by_touch (holds_at (touches session t) edits k) refl (playlists_stand session edits t k)
  where
    by_touch : (b : Bool) → holds_at (touches session t) edits k ≡ b →
        track_regions (edition session edits k).session t ≡ track_regions (edition session edits (playlist_edition session edits t k)).session t →
        track_regions (edition session edits (suc k)).session t ≡ track_regions (edition session edits (if b then suc k else playlist_edition session edits t k)).session t
    by_touch true e before = refl
    by_touch false e before = one_stands session (edition session edits k) t (slice_get edits k) (fixed_stands session edits k) (sym (holds_at_is (touches session t) edits k) ∙ e) ∙ before

samples_stay : (sounds : Sounds) (session : Session) (edits more : List Edit) (t p c x : ℕ) → p ≤ length edits →
    samples_of sounds session (edits ++ more) t p c x ≡ samples_of sounds session edits t p c x
samples_stay sounds session edits more t p c x le = ap (λ e. track_sample sounds (track_regions e.session t) c x) (edition_stays session edits more p le)

frame_stays : (sounds : Sounds) (session : Session) (edits more : List Edit) (t g p : ℕ) → g ≤ generation edits (length edits) → p ≤ length edits → (n c : ℕ) →
    samples_of sounds session (edits ++ more) t p c (place (edits ++ more) g n) ≡ samples_of sounds session edits t p c (place edits g n)
frame_stays sounds session edits more t g p here there n c = samples_stay sounds session edits more t p c (place (edits ++ more) g n) there
    ∙ ap (λ x. samples_of sounds session edits t p c x) (place_stays edits more g n here)

pub piece_stays : (sounds : Sounds) (session : Session) (edits more : List Edit) (t g s p : ℕ) → g ≤ generation edits (length edits) → p ≤ length edits →
    piece_samples session (edits ++ more) (samples_of sounds session (edits ++ more)) t g s p ≡ piece_samples session edits (samples_of sounds session edits) t g s p
piece_stays sounds session edits more t g s p here there =
    ap (λ f. interleaved f (channels_at session t) (s * session.block) (session.block * channels_at session t))
    (fun_ext (λ n. fun_ext (λ c. frame_stays sounds session edits more t g p here there n c)))

pub genuine_stays : (sounds : Sounds) (session : Session) (edits more : List Edit) (kind : Kind) (block : List ℤ) → IsNamed edits kind →
    IsGenuineAs session edits (samples_of sounds session edits) kind block →
    IsGenuineAs session (edits ++ more) (samples_of sounds session (edits ++ more)) kind block
genuine_stays sounds session edits more (Piece t g s p) block named is = is ∙ sym (piece_stays sounds session edits more t g s p named.0 named.1)
genuine_stays sounds session edits more (Settled k g s) block named is = is
genuine_stays sounds session edits more Blank block named is = is
