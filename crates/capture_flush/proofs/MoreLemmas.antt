-- The files after one block more that is kept: it is written, whole or in part, or its take has failed.
use Rattle.std.proofs.Common.{◌≡◌, inl, inr, ℕ, suc, ◌+◌, ◌-◌, ◌^◌, ◌<◌, Bool, true, false, true≢false, List, [], ◌∷◌, ◌++◌, length, take, drop, Option, Some, None, refl, sym, ap, ap₂, subst, ◌∙◌, arith}
use Rattle.std.specs.Prelude.{unwrap_or, IfSome}
use Rattle.std.proofs.Math.Seq.{take-append-add}
use Rattle.std.proofs.lemmas.Bool.{cases_eq}
use Rattle.ses_io.specs.Files.{Files, content, with_file, OverwritesSome}
use Rattle.ses_io.proofs.Files.{with_file-same}
use Rattle.session_model.specs.declared.session.Session.{Session}
use Rattle.engine_model.specs.Takes.{take_name}
use Rattle.audio_source.proofs.ByteLaws.{drop-of-take}
use Rattle.capture_flush.specs.Blocks.{Block, is_kept, kept, last_from, last_after, blocks_in}
use Rattle.capture_flush.specs.Taking.{Taking, IsTakingOf, has_failed, last_of, after_block}
use Rattle.capture_flush.specs.Flushed.{Tape, GivesInPart, IsFlushed, IsFlushedInPart, IsFront, IsTakeName, added, flushed_file, flushed_sound, head_of, kept_of, next_index, renewed, with_block, with_given}
use Rattle.capture_flush.specs.Laws.{HasNamedTracks}
use Rattle.capture_flush.specs.Writes.{with_more}
use Rattle.capture_flush.proofs.SampleLemmas.{bytes_more, file_more, file_other, count_more, count_other, sound_front, sound_other}
use Rattle.capture_flush.proofs.KeptLemmas.{Follows, follows, kept_with, last_with}
use Rattle.capture_flush.proofs.NameLemmas.{names_apart}
use Rattle.capture_flush.proofs.AddedLemmas.{some_added, more_is, OnlyAt, only_written, file_in_part, all_is_front}
use Rattle.capture_flush.proofs.GiveLemmas.{only_part, part_renewed, renewed_is}
use Rattle.capture_flush.proofs.FlushLemmas.{at_each, blocks_here, failed_more, last_here, last_there}
use Rattle.capture_flush.proofs.HeaderLemmas.{behind_head, head_long}
use Rattle.capture_flush.proofs.TakeFileLemmas.{front_of_front}

module _ (tape : Tape) (f : Taking) (files : Files) (t : ℕ) (b : Block) (of : IsTakingOf tape.session f) (named : HasNamedTracks tape.session) (lt : t < length tape.session.tracks.items)
    (small : b.take < 2 ^ 64) (is : is_kept tape.session t (last_of f t) b ≡ true) (old : IsFlushed tape f files) where
  abbrev s : Session
  s = tape.session

  abbrev name : List ℕ
  name = take_name tape.session t b.take

  abbrev blocks : List Block
  blocks = tape.blocks t

  abbrev more : Tape
  more = with_block tape t b

  -- of the take with its new block
  abbrev sound : List ℕ
  sound = flushed_sound tape.session t b.take (kept_of (with_block tape t b) t)

  kept_is : is_kept s t (last_from s t None blocks) b ≡ true
  kept_is = ap (λ last. is_kept s t last b) (sym (old.last t lt)) ∙ is

  grows : Follows s t blocks b
  grows = follows s t blocks b kept_is

  new_kept : kept_of more t ≡ kept s t blocks ++ b ∷ []
  new_kept = ap (kept s t) (blocks_here tape t b) ∙ kept_with s t blocks b kept_is

  -- it is the last one now
  last_more : (fails : Bool) (u : ℕ) → u < length s.tracks.items → last_of (after_block s f t b fails) u ≡ last_from s u None (more.blocks u)
  last_more fails = at_each tape t b (λ u bs. u < length s.tracks.items → last_of (after_block s f t b fails) u ≡ last_from s u None bs)
      (λ le. last_here s f t b fails (omega (arith, of.many, lt)) ∙ ap (λ last. last_after s t last b) (old.last t lt) ∙ sym (last_with s t None blocks b))
      (λ u other le. last_there s f t u b fails other ∙ old.last u le)

  abbrev IsOther : ℕ → ℕ → Type 0
  IsOther u n = u ≡ t → n ≡ b.take → ⊥

  -- this take, and any other
  at_take : (P : ℕ → ℕ → Type 0) → P t b.take → ((u n : ℕ) → u < length s.tracks.items → IsOther u n → P u n) → (u n : ℕ) → u < length s.tracks.items → P u n
  at_take P here there u n le = elim (cases_eq u t) [
    | inl track ↦ elim (cases_eq n b.take) [
      | inl same ↦ subst (λ v. P v n) (sym track) (subst (P t) (sym same) here)
      | inr other ↦ there u n le (λ _ take. other take)
    ]
    | inr other ↦ there u n le (λ track _. other track)
  ]

  apart : (u n : ℕ) → u < length s.tracks.items → IsOther u n → name ≡ take_name s u n → ⊥
  apart u n le other same = let both = names_apart s t u b.take n small of.valid named lt le same in other (sym both.0) (sym both.1)

  -- another take has the blocks of before
  same_blocks : {A : Type 0} (F : ℕ → ℕ → List Block → A) → ((n : ℕ) → (b.take ≡ n → ⊥) → F t n (kept s t blocks ++ b ∷ []) ≡ F t n (kept s t blocks)) →
      (u n : ℕ) → IsOther u n → F u n (kept_of tape u) ≡ F u n (kept_of more u)
  same_blocks F skips u n other = at_each tape t b (λ v bs. IsOther v n → F v n (kept s v (tape.blocks v)) ≡ F v n (kept s v bs))
      (λ apart. sym (ap (F t n) (kept_with s t blocks b kept_is) ∙ skips n (λ same. apart refl (sym same)))) (λ v _ _. refl) u other

  -- a take has one block at least now
  some_now : blocks_in b.take (kept_of more t) ≡ 0 → ⊥
  some_now none = omega (arith, none, ap (blocks_in b.take) new_kept, count_more (kept s t blocks) b grows.next)

  module _ (files' : Files) (only : OnlyAt files files' name) where
    -- the file of another take is as before
    elsewhere : (u n : ℕ) → u < length s.tracks.items → has_failed f u n ≡ false → IsOther u n → files' (take_name s u n) ≡ flushed_file s u n (kept_of more u)
    elsewhere u n le fine other = only (take_name s u n) (apart u n le other) ∙ old.takes u n le fine
        ∙ same_blocks (λ v m ks. flushed_file s v m ks) (λ m skip. file_other s t m (kept s t blocks) b skip) u n other

    part_elsewhere : (u n : ℕ) → u < length s.tracks.items → IsOther u n → IfSome (files' (take_name s u n)) (λ bytes. IsFront (drop 44 bytes) (flushed_sound s u n (kept_of more u)))
    part_elsewhere u n le other = subst (λ o. IfSome o (λ bytes. IsFront (drop 44 bytes) (flushed_sound s u n (kept_of more u)))) (sym (only (take_name s u n) (apart u n le other)))
        (subst (λ sounds. IfSome (files (take_name s u n)) (λ bytes. IsFront (drop 44 bytes) sounds)) (same_blocks (λ v m ks. flushed_sound s v m ks) (λ m skip. sound_other s t m (kept s t blocks) b skip) u n other)
        (old.in_part.takes u n le))

    none_elsewhere : (u n : ℕ) → u < length s.tracks.items → IsOther u n → blocks_in n (kept_of more u) ≡ 0 → files' (take_name s u n) ≡ None
    none_elsewhere u n le other none = only (take_name s u n) (apart u n le other)
        ∙ old.in_part.none u n le (same_blocks (λ v m ks. blocks_in m ks) (λ m skip. count_other m (kept s t blocks) b skip) u n other ∙ none)

    no_take : (q : List ℕ) → ¬ (IsTakeName s q) → files' q ≡ tape.held q
    no_take q not = only q (λ same. not (t, b.take, lt, same)) ∙ old.in_part.others q not

    -- all files have fronts, where that of the take has
    fronts : IfSome (files' name) (λ bytes. IsFront (drop 44 bytes) sound) → IsFlushedInPart more files'
    fronts here = record {
      fresh = old.in_part.fresh;
      takes = at_take (λ u n. IfSome (files' (take_name s u n)) (λ bytes. IsFront (drop 44 bytes) (flushed_sound s u n (kept_of more u)))) here part_elsewhere;
      none = at_take (λ u n. blocks_in n (kept_of more u) ≡ 0 → files' (take_name s u n) ≡ None) (λ none. absurd (some_now none)) none_elsewhere;
      others = no_take;
    }

  -- ---- its take has failed

  -- what there was is a front still
  pub dropped : has_failed f t b.take ≡ true → IsFlushed more (after_block s f t b false) files
  dropped failed = record {
    last = last_more false;
    takes = at_take (λ u n. has_failed f u n ≡ false → files (take_name s u n) ≡ flushed_file s u n (kept_of more u)) (λ fine. absurd (true≢false (sym failed ∙ fine)))
        (λ u n le other fine. elsewhere files stands u n le fine other);
    in_part = fronts files stands (longer (files name) (flushed_sound s t b.take (kept s t blocks)) sound
        (subst (λ bs. IsFront (flushed_sound s t b.take (kept s t blocks)) (flushed_sound s t b.take (kept s t bs))) (sym (blocks_here tape t b)) (sound_front s t b.take blocks (b ∷ [])))
        (old.in_part.takes t b.take lt));
  }
    where
      stands : OnlyAt files files name
      stands q other = refl

      longer : (o : Option (List ℕ)) (x y : List ℕ) → IsFront x y → IfSome o (λ bytes. IsFront (drop 44 bytes) x) → IfSome o (λ bytes. IsFront (drop 44 bytes) y)
      longer None x y front is = tt
      longer (Some bytes) x y front is = front_of_front (drop 44 bytes) x y is front

  -- ---- it hasn't

  module _ (files' : Files) (fine : has_failed f t b.take ≡ false) where
    -- of so many blocks its head told before
    abbrev count : ℕ
    count = next_index (last_of f t) b.take

    -- the file with all that is added
    whole : content files name ++ added s t (last_of f t) b ≡ head_of s t count ++ sound
    whole = ap₂ (λ held last. held ++ added s t last b) (ap (λ o. unwrap_or o []) (old.takes t b.take lt fine)) (old.last t lt) ∙ bytes_more s t blocks b grows
        ∙ ap₂ (λ last ks. head_of s t (next_index last b.take) ++ flushed_sound s t b.take ks) (sym (old.last t lt)) (sym new_kept)

    added_is : with_more files name (added s t (last_of f t) b) ≡ with_file files name (head_of s t count ++ sound)
    added_is = more_is files name (added s t (last_of f t) b) (some_added s t (last_of f t) b of.valid lt is) ∙ ap (with_file files name) whole

    new_file : flushed_file s t b.take (kept_of more t) ≡ Some (head_of s t (suc b.index) ++ sound)
    new_file = subst (λ ks. flushed_file s t b.take ks ≡ Some (head_of s t (suc b.index) ++ flushed_sound s t b.take ks)) (sym new_kept) (file_more s t (kept s t blocks) b grows.next)

    pub flushed_more : files' ≡ with_given s t (last_of f t) b files → IsFlushed more (after_block s f t b false) files'
    flushed_more gives = record {
      last = last_more false;
      takes = at_take (λ u n. has_failed f u n ≡ false → files' (take_name s u n) ≡ flushed_file s u n (kept_of more u)) (λ _. here)
          (λ u n le other was. elsewhere files' only u n le was other);
      in_part = fronts files' only (file_in_part s t b.take (kept_of more t) (files' name) sound here (all_is_front sound));
    }
      where
        written : files' ≡ with_file files name (head_of s t (suc b.index) ++ sound)
        written = gives ∙ ap (renewed s t name count (suc b.index)) added_is ∙ renewed_is s t name count (suc b.index) sound files

        only : OnlyAt files files' name
        only q other = ap (λ fs. fs q) written ∙ only_written files name (head_of s t (suc b.index) ++ sound) q other

        here : files' name ≡ flushed_file s t b.take (kept_of more t)
        here = ap (λ fs. fs name) written ∙ with_file-same files name (head_of s t (suc b.index) ++ sound) ∙ sym new_file

    pub flushed_front : GivesInPart s t (last_of f t) b files files' → IsFlushed more (after_block s f t b true) files'
    flushed_front some = record {
      last = last_more true;
      takes = λ u n le none. let was = failed_more s f t u n b fine none in elsewhere files' only u n le was.0 was.1;
      in_part = fronts files' only (here some);
    }
      where
        only : OnlyAt files files' name
        only = only_part s t (last_of f t) b files files' some

        -- its sound, behind the head
        behind : drop 44 (head_of s t count ++ sound) ≡ sound
        behind = behind_head s t count sound

        here : GivesInPart s t (last_of f t) b files files' → IfSome (files' name) (λ bytes. IsFront (drop 44 bytes) sound)
        here (inl (inl same)) = file_in_part s t b.take (kept s t blocks) (files' name) sound (ap (λ fs. fs name) same ∙ old.takes t b.take lt fine)
            (subst (λ bs. IsFront (flushed_sound s t b.take (kept s t blocks)) (flushed_sound s t b.take (kept s t bs))) (sym (blocks_here tape t b)) (sound_front s t b.take blocks (b ∷ [])))
        here (inl (inr part)) = let held = content files name in let piece = added s t (last_of f t) b in
            subst (λ (o : Option (List ℕ)). IfSome o (λ bytes. IsFront (drop 44 bytes) sound)) (sym (ap (λ fs. fs name) part.1.files ∙ with_file-same files name (held ++ take part.0 piece))) (
              length held + part.0 - 44,
              ap (drop 44) (sym (take-append-add held piece part.0) ∙ ap (take (length held + part.0)) whole) ∙ drop-of-take 44 (length held + part.0) (head_of s t count ++ sound)
                  ∙ ap (take (length held + part.0 - 44)) behind,
            )
        here (inr part) = let there = part_renewed (head_of s t count ++ sound) (head_of s t (suc b.index)) files files' name (head_long s t (suc b.index))
            (subst (λ fs. OverwritesSome fs files' name 0 (head_of s t (suc b.index))) added_is part) in
            subst (λ (o : Option (List ℕ)). IfSome o (λ bytes. IsFront (drop 44 bytes) sound)) (sym there.1) (subst (λ l. IsFront l sound) (sym (there.2 ∙ behind)) (all_is_front sound))
