-- The files while blocks come: nothing at first, then one block more, whole or in part.
use Rattle.std.proofs.Common.{◌≡◌, inl, inr, ℕ, zero, suc, ◌<◌, Bool, true, false, true≢false, List, [], ◌∷◌, ◌++◌, length, drop, map, Some, None, refl, sym, ap, ap₂, subst, ◌∙◌, arith}
use Rattle.std.specs.Prelude.{codes, set, slice_get, IsTrue, IfSome, if◌then◌else◌, ◌&&◌, ◌||◌, ◌==◌}
use Rattle.std.specs.List.{list_any, range_with_len}
use Rattle.std.specs.Option.{option_map_or}
use Rattle.std.proofs.lemmas.Bool.{cases_eq, eq-eqb, ne_eqb, or_parts}
use Rattle.std.proofs.lemmas.Option.{slice_get_cases}
use Rattle.std.proofs.lemmas.List.{length-set}
use Rattle.ses_units.specs.Name.{is_name}
use Rattle.ses_io.specs.Files.{Files, HasNameUnder}
use Rattle.session_model.specs.declared.session.Session.{Session}
use Rattle.session_model.specs.Valid.{IsValid}
use Rattle.session_model.specs.Formed.{channels_at}
use Rattle.engine_model.specs.Takes.{take_name, route_name}
use Rattle.capture_flush.specs.declared.track.TrackTakes.{TrackTakes}
use Rattle.capture_flush.specs.declared.track.FailedTake.{FailedTake}
use Rattle.capture_flush.specs.Blocks.{Block, is_kept, kept, last_from, last_after, blocks_in, place_of}
use Rattle.capture_flush.specs.Taking.{Taking, IsTakingOf, new_takes, at_first, has_failed, last_of, most_failed, after_block, IsTrackOf}
use Rattle.capture_flush.specs.Flushed.{Tape, IsFlushed, IsFront, flushed_file, flushed_sound, with_block}
use Rattle.capture_flush.specs.Laws.{HasNamedTracks}
use Rattle.capture_flush.proofs.KeptLemmas.{kept_without, last_with}
use Rattle.capture_flush.proofs.NameLemmas.{no_take_held}
use Rattle.capture_flush.proofs.AddedLemmas.{set_here, set_there}

pub named_tracks : (s : Session) (f : Taking) → IsTakingOf s f → HasNamedTracks s
named_tracks s f of t lt = elim ((slice_get_cases f.tracks t).1) [
  | inl there ↦ let is = of.tracks t there.0 there.2 in subst (λ name. IsTrue (is_name name)) is.name is.named
  | inr past ↦ absurd (omega (arith, past.0, of.many))
]

-- ---- nothing yet

none_last : (s : Session) (places : List ℕ) (t : ℕ) → option_map_or (λ (k : TrackTakes). k.last) (slice_get (map (at_first s) places) t) None ≡ None
none_last s [] t = refl
none_last s (p ∷ places) zero = refl
none_last s (p ∷ places) (suc t) = none_last s places t

pub nothing_flushed : (s : Session) (held : Files) → IsValid s → ¬ (HasNameUnder held (s.takes ++ codes "-")) → IsFlushed (record { session = s; held = held; blocks = λ _. [] }) (new_takes s) held
nothing_flushed s held valid fresh = record {
  last = λ t lt. none_last s (range_with_len 0 (length s.tracks.items)) t;
  takes = λ t n lt fine. none_held t n;
  in_part = record {
    fresh = fresh;
    takes = λ t n lt. subst (λ o. IfSome o (λ bytes. IsFront (drop 44 bytes) (flushed_sound s t n []))) (sym (none_held t n)) tt;
    none = λ t n lt none. none_held t n;
    others = λ q other. refl;
  };
}
  where
    none_held : (t n : ℕ) → held (take_name s t n) ≡ None
    none_held t n = no_take_held (record { session = s; held = held; blocks = λ _. [] }) t n fresh

-- ---- the blocks, with one more

pub blocks_here : (tape : Tape) (t : ℕ) (b : Block) → (with_block tape t b).blocks t ≡ tape.blocks t ++ b ∷ []
blocks_here tape t b = ap (λ k. if k then tape.blocks t ++ b ∷ [] else tape.blocks t) (eq-eqb t t refl)

blocks_there : (tape : Tape) (t u : ℕ) (b : Block) → (u ≡ t → ⊥) → (with_block tape t b).blocks u ≡ tape.blocks u
blocks_there tape t u b other = ap (λ k. if k then tape.blocks u ++ b ∷ [] else tape.blocks u) (ne_eqb u t other)

-- what holds of the track's blocks with one more, and of the blocks of the others, holds of each track's
pub at_each : (tape : Tape) (t : ℕ) (b : Block) (P : ℕ → List Block → Type 0) → P t (tape.blocks t ++ b ∷ []) → ((u : ℕ) → (u ≡ t → ⊥) → P u (tape.blocks u)) → (u : ℕ) → P u ((with_block tape t b).blocks u)
at_each tape t b P here there u = elim (cases_eq u t) [
  | inl same ↦ subst (λ v. P v ((with_block tape t b).blocks v)) (sym same) (subst (P t) (sym (blocks_here tape t b)) here)
  | inr other ↦ subst (P u) (sym (blocks_there tape t u b other)) (there u other)
]

-- the file of a take has a front of these blocks
abbrev HasFront : Tape → Files → ℕ → ℕ → List Block → Type 0
HasFront tape files t n ks = IfSome (files (take_name tape.session t n)) (λ bytes. IsFront (drop 44 bytes) (flushed_sound tape.session t n ks))

pub left_out : (tape : Tape) (f : Taking) (files : Files) (t : ℕ) (b : Block) → t < length tape.session.tracks.items → is_kept tape.session t (last_of f t) b ≡ false → IsFlushed tape f files →
    IsFlushed (with_block tape t b) f files
left_out tape f files t b lt out old = record {
  last = at_each tape t b (λ u blocks. u < length tape.session.tracks.items → last_of f u ≡ last_from tape.session u None blocks) (λ le. old.last t lt ∙ sym same_last) (λ u other. old.last u);
  takes = λ u n. at_each tape t b (λ v blocks. v < length tape.session.tracks.items → has_failed f v n ≡ false → files (take_name tape.session v n) ≡ flushed_file tape.session v n (kept tape.session v blocks))
      (λ le fine. old.takes t n lt fine ∙ ap (flushed_file tape.session t n) (sym same_kept)) (λ v other. old.takes v n) u;
  in_part = record {
    fresh = old.in_part.fresh;
    takes = λ u n. at_each tape t b (λ v blocks. v < length tape.session.tracks.items → HasFront tape files v n (kept tape.session v blocks))
        (λ le. subst (HasFront tape files t n) (sym same_kept) (old.in_part.takes t n lt)) (λ v other. old.in_part.takes v n) u;
    none = λ u n. at_each tape t b (λ v blocks. v < length tape.session.tracks.items → blocks_in n (kept tape.session v blocks) ≡ 0 → files (take_name tape.session v n) ≡ None)
        (λ le none. old.in_part.none t n lt (ap (blocks_in n) (sym same_kept) ∙ none)) (λ v other. old.in_part.none v n) u;
    others = old.in_part.others;
  };
}
  where
    not : is_kept tape.session t (last_from tape.session t None (tape.blocks t)) b ≡ false
    not = ap (λ last. is_kept tape.session t last b) (sym (old.last t lt)) ∙ out

    same_kept : kept tape.session t (tape.blocks t ++ b ∷ []) ≡ kept tape.session t (tape.blocks t)
    same_kept = kept_without tape.session t (tape.blocks t) b not

    same_last : last_from tape.session t None (tape.blocks t ++ b ∷ []) ≡ last_from tape.session t None (tape.blocks t)
    same_last = last_with tape.session t None (tape.blocks t) b ∙ ap (λ k. if k then Some (place_of b) else last_from tape.session t None (tape.blocks t)) not

-- ---- tracks, after a block

-- the track that the block was passed for
abbrev track_after : Session → Taking → ℕ → Block → TrackTakes
track_after s f t b = record { name = route_name s t; channels = channels_at s t; last = last_after s t (last_of f t) b }

pub last_here : (s : Session) (f : Taking) (t : ℕ) (b : Block) (fails : Bool) → t < length f.tracks → last_of (after_block s f t b fails) t ≡ last_after s t (last_of f t) b
last_here s f t b fails lt = ap (λ o. option_map_or (λ (k : TrackTakes). k.last) o None) (set_here f.tracks t (track_after s f t b) lt)

pub last_there : (s : Session) (f : Taking) (t u : ℕ) (b : Block) (fails : Bool) → (u ≡ t → ⊥) → last_of (after_block s f t b fails) u ≡ last_of f u
last_there s f t u b fails other = ap (λ o. option_map_or (λ (k : TrackTakes). k.last) o None) (set_there f.tracks t u (track_after s f t b) other)

-- the same session's takes are written on
pub taking_on : (s : Session) (f : Taking) (t : ℕ) (b : Block) (fails : Bool) → IsTakingOf s f → t < length s.tracks.items → IsTakingOf s (after_block s f t b fails)
taking_on s f t b fails of lt = record {
  valid = of.valid;
  takes = of.takes;
  rate = of.rate;
  bits = of.bits;
  block = of.block;
  many = length-set f.tracks t (track_after s f t b) ∙ of.many;
  tracks = λ u k is. elim (cases_eq u t) [
    | inl same ↦ subst (λ v. IsTrackOf s v k) (sym same) (new k (sym (set_here f.tracks t (track_after s f t b) (omega (arith, of.many))) ∙ ap (slice_get (set f.tracks t (track_after s f t b))) (sym same) ∙ is))
    | inr other ↦ of.tracks u k (sym (set_there f.tracks t u (track_after s f t b) other) ∙ is)
  ];
}
  where
    new : (k : TrackTakes) → Some (track_after s f t b) ≡ Some k → IsTrackOf s t k
    new k is = let same : track_after s f t b ≡ k = cc in subst (IsTrackOf s t) same (record { name = refl; named = named_tracks s f of t lt; channels = refl })

-- ---- takes that failed

any_more : {X : Type 0} (p : X → Bool) (xs : List X) (x : X) → list_any p (xs ++ x ∷ []) ≡ false → (list_any p xs ≡ false) × (p x ≡ false)
any_more p [] x none = (refl, (or_parts (p x) false none).0)
any_more p (y ∷ ys) x none = let parts = or_parts (p y) (list_any p (ys ++ x ∷ [])) none in let more = any_more p ys x parts.1 in
    (ap (λ b. b || list_any p ys) parts.0 ∙ more.0, more.1)

-- a take that hasn't failed after one more has hadn't failed before, and is another
pub failed_more : (s : Session) (f : Taking) (t u n : ℕ) (b : Block) → has_failed f t b.take ≡ false → has_failed (after_block s f t b true) u n ≡ false → (has_failed f u n ≡ false) × (u ≡ t → n ≡ b.take → ⊥)
failed_more s f t u n b room fine = (
  ap (λ c. c || length f.failed == most_failed) more.0 ∙ (or_parts (list_any (is_it t b.take) f.failed) (length f.failed == most_failed) room).1,
  λ track take. true≢false (sym (ap₂ (λ a c. a && c) (eq-eqb t u (sym track)) (eq-eqb b.take n (sym take))) ∙ more.1),
)
  where
    is_it : ℕ → ℕ → FailedTake → Bool
    is_it v m k = k.track == v && k.take == m

    parts : (list_any (is_it u n) (f.failed ++ record { track = t; take = b.take } ∷ []) ≡ false) × ((length (f.failed ++ record { track = t; take = b.take } ∷ []) == most_failed) ≡ false)
    parts = or_parts (list_any (is_it u n) (f.failed ++ record { track = t; take = b.take } ∷ [])) (length (f.failed ++ record { track = t; take = b.take } ∷ []) == most_failed) fine

    more : (list_any (is_it u n) f.failed ≡ false) × (is_it u n (record { track = t; take = b.take }) ≡ false)
    more = any_more (is_it u n) f.failed (record { track = t; take = b.take }) parts.0
