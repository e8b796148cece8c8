-- The block that an entry makes of what was received is the one that it stands for, whatever edits follow.
use Rattle.std.proofs.Common.{◌≡◌, ℕ, zero, suc, ◌*◌, ◌≤◌, List, ◌++◌, length, map, refl, sym, ap, subst, arith, ◌∙◌}
use Rattle.std.proofs.Math.Path.{fun_ext}
use Rattle.std.specs.Prelude.{◌-◌, Bool, true, false, Option, Some, None, slice_get}
use Rattle.sound_model.specs.Routes.{master_sample}
use Rattle.session_model.specs.declared.session.Session.{Session}
use Rattle.session_model.specs.declared.edit.Edit.{Edit}
use Rattle.session_model.specs.Frames.{interleaved}
use Rattle.session_model.specs.Valid.{IsValid}
use Rattle.session_model.specs.Views.{routes_of}
use Rattle.engine_model.specs.Edits.{generation, starts}
use Rattle.engine_model.specs.Editions.{edition}
use Rattle.engine_model.specs.Items.{Kind, Item}
use Rattle.engine_model.specs.Journal.{Take, State, Stopped, Seeking, Rolling, Entry, rolled}
use Rattle.engine_model.specs.Cycle.{settled_number, waiting, first_state, state_of, notes_of, entry_of}
use Rattle.engine_model.specs.Mixed.{received_sample, mixed_in, mixed}
use Rattle.engine_model.specs.Played.{Samples, block, master_channels}
use Rattle.engine_model.specs.Transport.{place}
use Rattle.engine_laws.specs.PlayedLaws.{IsOfTrack}
use Rattle.engine_laws.proofs.EditionLemmas.{edition_stays}
use Rattle.engine_laws.proofs.MixedLemmas.{genuine_pieces_make_the_block}
use Rattle.engine_laws.proofs.NumberLemmas.{count_stays}
use Rattle.engine_laws.proofs.PlaceLemmas.{place_stays}

-- ---- the entry

abbrev entry_in : List Entry → List (List Kind) → List Take → ℕ → Bool → ℕ → Entry
entry_in before tracks takes r rolls g = record {
  edition = r;
  settled = settled_number r g (rolled g before) tracks;
  state = state_of rolls g (rolled g before) tracks;
  notes = notes_of (state_of rolls g (rolled g before) tracks) tracks takes;
}

entry_stays : (session : Session) (edits more : List Edit) (before : List Entry) (tracks : List (List Kind)) (takes : List Take) (r : ℕ) → r ≤ length edits →
    entry_of session (edits ++ more) before tracks takes r ≡ entry_of session edits before tracks takes r
entry_stays session edits more before tracks takes r low =
    ap (λ now. entry_in before tracks takes r now.transport.rolling (generation (edits ++ more) r)) (edition_stays session edits more r low)
    ∙ ap (entry_in before tracks takes r (edition session edits r).transport.rolling) (count_stays starts edits more r low)

-- ---- its block

-- what rolls does so in this generation
state_by : (P : State → Type 0) (rolls : Bool) (g n : ℕ) (tracks : List (List Kind)) → P Stopped → ((t tail : ℕ) → P (Seeking t tail)) → ((s : ℕ) → P (Rolling g s)) →
    P (state_of rolls g n tracks)
state_by P false g n tracks stopped seeking rolling = stopped
state_by P true g zero tracks stopped seeking rolling = first (waiting g 0 tracks)
  where
    first : (o : Option (ℕ × ℕ)) → P (first_state g o)
    first None = rolling 0
    first (Some w) = seeking w.0 w.1
state_by P true g (suc n) tracks stopped seeking rolling = rolling (suc n)

frame_stays : (session : Session) (edits more : List Edit) (tracks : List (List Item)) (r g s : ℕ) → r ≤ length edits → g ≤ generation edits (length edits) →
    mixed_in session (edits ++ more) tracks r (Rolling g s) ≡ mixed_in session edits tracks r (Rolling g s)
frame_stays session edits more tracks r g s low here = let channels : ℕ = master_channels session in
    ap (λ f. interleaved f channels (s * session.block) (session.block * channels)) (fun_ext (λ n. fun_ext (λ c. frame n c)))
  where
    frame : (n c : ℕ) → master_sample (routes_of (edition session (edits ++ more) r).session) (received_sample session tracks g s (n - s * session.block)) (place (edits ++ more) g n) c
        ≡ master_sample (routes_of (edition session edits r).session) (received_sample session tracks g s (n - s * session.block)) (place edits g n) c
    frame n c = ap (λ now. master_sample (routes_of now.session) (received_sample session tracks g s (n - s * session.block)) (place (edits ++ more) g n) c) (edition_stays session edits more r low)
        ∙ ap (λ x. master_sample (routes_of (edition session edits r).session) (received_sample session tracks g s (n - s * session.block)) x c) (place_stays edits more g n here)

block_stays : (session : Session) (edits more : List Edit) (tracks : List (List Item)) (r n : ℕ) (rolls : Bool) (kinds : List (List Kind)) → r ≤ length edits →
    generation edits r ≤ generation edits (length edits) →
    mixed_in session (edits ++ more) tracks r (state_of rolls (generation edits r) n kinds) ≡ mixed_in session edits tracks r (state_of rolls (generation edits r) n kinds)
block_stays session edits more tracks r n rolls kinds low here =
    state_by (λ state. mixed_in session (edits ++ more) tracks r state ≡ mixed_in session edits tracks r state) rolls (generation edits r) n kinds
    refl (λ t tail. refl) (λ s. frame_stays session edits more tracks r (generation edits r) s low here)

-- the entry of the edition of all edits stands for the block that it mixed, whatever edits follow
pub block_made : (session : Session) (edits more : List Edit) (samples : Samples) (before : List Entry) (tracks : List (List Item)) (takes : List Take) (e : Entry) →
    IsValid (edition session edits (length edits)).session → length tracks ≡ length session.tracks.items → length takes ≡ length tracks →
    e ≡ entry_of session edits before (map (map (λ i. i.kind)) tracks) takes (length edits) →
    ((t : ℕ) (items : List Item) → slice_get tracks t ≡ Some items → IsOfTrack session (edits ++ more) samples t items) →
    mixed session edits tracks e ≡ block session (edits ++ more) samples e
block_made session edits more samples before tracks takes e valid many one_each is all =
    let r : ℕ = length edits in let kinds : List (List Kind) = map (map (λ i. i.kind)) tracks in let low : r ≤ length edits = omega arith in
    let x : Entry = entry_of session edits before kinds takes r in let y : Entry = entry_of session (edits ++ more) before kinds takes r in
    let same : y ≡ x = entry_stays session edits more before kinds takes r low in
    ap (mixed session edits tracks) is
    ∙ sym (block_stays session edits more tracks r (rolled (generation edits r) before) (edition session edits r).transport.rolling kinds low (omega arith))
    ∙ subst (λ k. mixed session (edits ++ more) tracks k ≡ block session (edits ++ more) samples k) same
    (genuine_pieces_make_the_block session (edits ++ more) samples before tracks takes r
    (subst (λ now. IsValid now.session) (sym (edition_stays session edits more r low)) valid) many one_each all)
    ∙ sym (ap (block session (edits ++ more) samples) is)
