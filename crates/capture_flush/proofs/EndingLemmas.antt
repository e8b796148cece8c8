-- A file is closed: its ending is added, and its header written over its front.
use Rattle.std.proofs.Common.{◌≡◌, ℕ, zero, suc, ◌+◌, ◌-◌, ◌*◌, ◌%◌, ◌<◌, ◌≤◌, Bool, true, false, cond, inl, inr, List, [], ◌∷◌, ◌++◌, length, take, drop, refl, sym, ap, ap₂, subst, ◌∙◌, arith, length-append, Option, Some, None, IsSomeAnd, true≢false, Result, Ok, Err, OnOk, OnErr}
use Rattle.std.specs.Prelude.{replicate, ◌==◌}
use Rattle.std.specs.Option.{unwrap_or}
use Rattle.std.proofs.Math.Seq.{take_all, take-append-add, drop-append-add}
use Rattle.std.proofs.lemmas.List.{length-drop, length-take-le, drop-drop}
use Rattle.ses_io.specs.Files.{Files, content, with_file, overwritten, HasRange, AppendsSomeTo, OverwritesSome}
use Rattle.ses_io.proofs.Files.{with_file-twice}
use Rattle.session_model.specs.declared.session.Session.{Session}
use Rattle.sound_model.specs.Wav.{header}
use Rattle.engine_model.specs.Takes.{take_name, take_form}
use Rattle.capture_flush.specs.declared.run.Run.{Run}
use Rattle.capture_flush.specs.Closing.{ending, ending_of, closed, HasHead, ClosesInPart}
use Rattle.capture_flush.specs.Flushed.{no_blocks, block_bytes}
use Rattle.capture_flush.specs.Writes.{with_more}
use Rattle.capture_flush.proofs.WriteLemmas.{content-same}

-- what a file holds with more at its end
pub content-more : (files : Files) (name bytes : List ℕ) → content (with_more files name bytes) name ≡ content files name ++ bytes
content-more files name [] = sym (append_nil (content files name))
  where
    append_nil : (xs : List ℕ) → xs ++ [] ≡ xs
    append_nil [] = refl
    append_nil (x ∷ xs) = ap (λ ys. x ∷ ys) (append_nil xs)
content-more files name (b ∷ bytes) = content-same files name (content files name ++ b ∷ bytes)

-- written anew behind that, only what was written last counts
pub with_file-more : (files : Files) (name bytes last : List ℕ) → with_file (with_more files name bytes) name last ≡ with_file files name last
with_file-more files name [] last = refl
with_file-more files name (b ∷ bytes) last = with_file-twice files name (content files name ++ b ∷ bytes) last

-- ---- all of it

pub over_front : (held head : List ℕ) → length head ≡ 44 → overwritten held 0 head ≡ head ++ drop 44 held
over_front held head long = let e : 0 + length head ≡ 44 = omega (arith, long) in ap (λ n. head ++ drop n held) e

pub closed_is : (old middle new : Files) (name ending head : List ℕ) → length head ≡ 44 → middle ≡ with_more old name ending → new ≡ with_file middle name (overwritten (content middle name) 0 head) →
    new ≡ with_file old name (head ++ drop 44 (content old name ++ ending))
closed_is old middle new name ending head long more over = over ∙ ap (λ m. with_file m name (overwritten (content m name) 0 head)) more
    ∙ ap (λ held. with_file (with_more old name ending) name (overwritten held 0 head)) (content-more old name ending)
    ∙ ap (with_file (with_more old name ending) name) (over_front (content old name ++ ending) head long)
    ∙ with_file-more old name ending (head ++ drop 44 (content old name ++ ending))

-- ---- room for the header

pub there_is : (held : Option (List ℕ)) → 44 ≤ length (unwrap_or held []) → IsSomeAnd held (λ bytes. 0 + 44 ≤ length bytes)
there_is None long = absurd (omega (arith, long))
there_is (Some bytes) long = omega (arith, long)

begins_long : (new : Bool) (none held rest : List ℕ) → length none ≡ 44 → (new ≡ false → 44 ≤ length held) → 44 ≤ length (held ++ (cond new none [] ++ rest))
begins_long true none held rest long head = omega (arith, length-append held (none ++ rest), length-append none rest, long)
begins_long false none held rest long head = omega (arith, length-append held rest, head refl)

pub has_range : (s : Session) (t : ℕ) (run : Run) (none : List ℕ) (size : ℕ) (old middle : Files) → length none ≡ 44 → HasHead s t old run → middle ≡ with_more old (take_name s t run.take) (ending_of none size run) →
    HasRange middle (take_name s t run.take) 0 44
has_range s t run none size old middle fits head more = let name = take_name s t run.take in
    let long : 44 ≤ length (content old name ++ ending_of none size run) = begins_long (run.filled == 0) none (content old name) (replicate ((run.blocks - run.filled) * size) 0 ++ replicate (run.blocks * size % 2) 0) fits
    (λ some. head (filled_some run.filled some)) in
    there_is (middle name) (subst (λ held. 44 ≤ length held) (sym (ap (λ m. content m name) more ∙ content-more old name (ending_of none size run))) long)
  where
    filled_some : (n : ℕ) → (n == 0) ≡ false → 0 < n
    filled_some zero none = absurd (true≢false none)
    filled_some (suc n) none = omega arith

-- ---- a part of it

take_none : (n : ℕ) → ◌≡◌ {A = List ℕ} (take n []) []
take_none zero = refl
take_none (suc n) = refl

drop_front : (k n : ℕ) (xs : List ℕ) → drop k (take n xs) ≡ take (n - k) (drop k xs)
drop_front zero n xs = ap (λ m. take m xs) {x = n} {y = n - 0} (omega arith)
drop_front (suc k) zero xs = let e : 0 - suc k ≡ 0 = omega arith in rw e refl
drop_front (suc k) (suc n) [] = sym (take_none (suc n - suc k))
drop_front (suc k) (suc n) (x ∷ xs) = let e : suc n - suc k ≡ n - k = omega arith in rw e (drop_front k n xs)

-- some of the ending was added
pub part_added : (s : Session) (t : ℕ) (run : Run) (old new : Files) → AppendsSomeTo old new (take_name s t run.take) (ending s t run) → ClosesInPart s t run old new
part_added s t run old new (inl same) = inl same
part_added s t run old new (inr some) = let name = take_name s t run.take in let held = content old name in let more = ending s t run in
    let cut : held ++ take some.0 more ≡ take (length held + some.0) (held ++ more) = sym (take-append-add held more some.0) in
    inr (held ++ take some.0 more, some.1.files, omega (arith, length-append held (take some.0 more)), (length held + some.0 - 44, ap (drop 44) cut ∙ drop_front 44 (length held + some.0) (held ++ more)))

-- what is written over a part of the header changes nothing behind it
pub behind_front : (all front : List ℕ) → length front ≤ 44 → drop 44 (overwritten all 0 front) ≡ drop 44 all
behind_front all front few = let e : length front + (44 - length front) ≡ 44 = omega (arith, few) in
    ap (λ k. drop k (front ++ drop (0 + length front) all)) (sym e) ∙ drop-append-add front (drop (0 + length front) all) (44 - length front)
    ∙ drop-drop (44 - length front) (0 + length front) all ∙ ap (λ k. drop k all) {x = 0 + length front + (44 - length front)} {y = 44} (omega (arith, few))

longer : (all front : List ℕ) → length all ≤ length (overwritten all 0 front)
longer all front = omega (arith, length-append front (drop (0 + length front) all), length-drop (0 + length front) all)

-- all of it was, and some of the header written
pub part_written : (s : Session) (t : ℕ) (run : Run) (old middle new : Files) (head : List ℕ) → length head ≡ 44 → middle ≡ with_more old (take_name s t run.take) (ending s t run) →
    OverwritesSome middle new (take_name s t run.take) 0 head → ClosesInPart s t run old new
part_written s t run old middle new head long more some = let name = take_name s t run.take in let all = content old name ++ ending s t run in let n = some.0 in
    let written : List ℕ = overwritten all 0 (take n head) in
    let within : length (take n head) ≤ 44 = omega (arith, length-take-le n head some.1.within, some.1.within, long) in
    inr (
      written,
      some.1.files ∙ ap (λ m. with_file m name (overwritten (content m name) 0 (take n head))) more
          ∙ ap (λ held. with_file (with_more old name (ending s t run)) name (overwritten held 0 (take n head))) (content-more old name (ending s t run))
          ∙ with_file-more old name (ending s t run) written,
      omega (arith, longer all (take n head), length-append (content old name) (ending s t run)),
      (length (drop 44 all), behind_front all (take n head) within ∙ sym (take_all (length (drop 44 all)) (drop 44 all) (omega arith))),
    )

-- ---- the same of the name and the size that the code worked out

pub OnOk-map : {T E A B : Type 0} (r : Result T E) → (A → B) → OnOk r A → OnOk r B
OnOk-map (Ok x) f a = f a
OnOk-map (Err e) f a = tt

pub OnErr-map : {T E A B : Type 0} (r : Result T E) → (A → B) → OnErr r A → OnErr r B
OnErr-map (Ok x) f a = tt
OnErr-map (Err e) f a = f a

-- the name is that of the take, the size that of a block, and the headers those of no blocks and of all
pub record IsWorkedOut (s : Session) (t : ℕ) (run : Run) (q none : List ℕ) (size : ℕ) (head : List ℕ) : Type 0 where
  pub name : q ≡ take_name s t run.take
  pub none_is : none ≡ no_blocks s t
  pub none_long : length none ≡ 44
  pub size_is : size ≡ block_bytes s t
  pub header_is : head ≡ header (take_form s t) (run.blocks * block_bytes s t)
  pub long : length head ≡ 44

module _ (s : Session) (t : ℕ) (run : Run) (q none : List ℕ) (size : ℕ) (head : List ℕ) (w : IsWorkedOut s t run q none size head) where
  same_ending : ending_of none size run ≡ ending s t run
  same_ending = ap₂ (λ h n. ending_of h n run) w.none_is w.size_is

  pub inside : (old middle : Files) → HasHead s t old run → middle ≡ with_more old q (ending_of none size run) → HasRange middle q 0 (length head)
  inside old middle has more = subst (λ n. HasRange middle q 0 n) (sym w.long) (subst (λ p. HasRange middle p 0 44) (sym w.name)
      (has_range s t run none size old middle w.none_long has (more ∙ ap (λ p. with_more old p (ending_of none size run)) w.name)))

  pub closed_at : (old middle new : Files) → middle ≡ with_more old q (ending_of none size run) → new ≡ with_file middle q (overwritten (content middle q) 0 head) → new ≡ closed s t run old
  closed_at old middle new more over = closed_is old middle new q (ending_of none size run) head w.long more over
      ∙ ap (λ p. with_file old p (head ++ drop 44 (content old p ++ ending_of none size run))) w.name
      ∙ ap₂ (λ h e. with_file old (take_name s t run.take) (h ++ drop 44 (content old (take_name s t run.take) ++ e))) w.header_is same_ending

  pub written_in_part : (old middle new : Files) → middle ≡ with_more old q (ending_of none size run) → OverwritesSome middle new q 0 head → ClosesInPart s t run old new
  written_in_part old middle new more some = part_written s t run old middle new head w.long
      (more ∙ ap₂ (λ p e. with_more old p e) w.name same_ending) (subst (λ p. OverwritesSome middle new p 0 head) w.name some)

pub added_in_part : (s : Session) (t : ℕ) (run : Run) (q none : List ℕ) (size : ℕ) (old new : Files) → q ≡ take_name s t run.take → none ≡ no_blocks s t → size ≡ block_bytes s t →
    AppendsSomeTo old new q (ending_of none size run) → ClosesInPart s t run old new
added_in_part s t run q none size old new name head is some = part_added s t run old new (subst (λ p. AppendsSomeTo old new p (ending s t run)) name
    (subst (λ e. AppendsSomeTo old new q e) (ap₂ (λ h n. ending_of h n run) head is) some))
