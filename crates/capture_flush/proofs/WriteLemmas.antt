-- Bytes added to a file, and then more; bytes written over its front.
use Rattle.std.proofs.Common.{◌≡◌, ℕ, ◌+◌, ◌-◌, ◌<◌, ◌≤◌, inl, inr, List, [], ◌∷◌, ◌++◌, length, take, drop, refl, sym, ap, subst, ◌∙◌, arith, append-nil, zero-add, append_assoc, length-append, length-drop, take-append-drop, Result, Ok, Err, IsErr, true≢false}
use Rattle.std.specs.Option.{unwrap_or}
use Rattle.std.proofs.Math.Seq.{take-add, take_all, take-append-add}
use Rattle.std.proofs.lemmas.List.{length-take-le, take_at, take-append-le}
use Rattle.ses_io.specs.Files.{Files, content, with_file, AppendsTo, AppendsSomeTo, Overwrites}
use Rattle.ses_io.proofs.Files.{with_file-same, with_file-twice, Overwrites-then}
use Rattle.ses_io.specs.Faults.{risen}
use Rattle.ses_io.specs.Outside.{MediaOutside}
use Rattle.capture_flush.specs.Writes.{with_more, Adds}

-- what the file holds that was written
pub content-same : (files : Files) (name bytes : List ℕ) → content (with_file files name bytes) name ≡ bytes
content-same files name bytes = ap (λ held. unwrap_or held []) (with_file-same files name bytes)

pub with_more-some : (files : Files) (name bytes : List ℕ) → 0 < length bytes → with_more files name bytes ≡ with_file files name (content files name ++ bytes)
with_more-some files name [] some = absurd (omega (arith, some))
with_more-some files name (b ∷ bytes) some = refl

-- bytes, and then more, are all of them
pub with_more-then : (files : Files) (name first last : List ℕ) → with_more (with_more files name first) name last ≡ with_more files name (first ++ last)
with_more-then files name [] last = refl
with_more-then files name (a ∷ first) [] = ap (λ bytes. with_file files name (content files name ++ bytes)) (sym (append-nil (a ∷ first)))
with_more-then files name (a ∷ first) (b ∷ last) = let now = content files name ++ a ∷ first in
    ap (λ held. with_file (with_file files name now) name (held ++ b ∷ last)) (content-same files name now)
    ∙ with_file-twice files name now (now ++ b ∷ last)
    ∙ ap (with_file files name) (append_assoc (content files name) (a ∷ first) (b ∷ last))

-- and so are some of those that come last
pub AppendsSomeTo-then : (files middle after : Files) (name first last : List ℕ) → middle ≡ with_more files name first → AppendsSomeTo middle after name last → AppendsSomeTo files after name (first ++ last)
AppendsSomeTo-then files middle after name [] last first some = subst (λ m. AppendsSomeTo m after name last) first some
AppendsSomeTo-then files middle after name (a ∷ first) last put (inl same) = let all = a ∷ first in inr (
  length all,
  record {
    within = omega (arith, length-append all last);
    files = same ∙ put ∙ ap (λ bytes. with_file files name (content files name ++ bytes)) (sym (take_at all last (length all) refl));
  },
)
AppendsSomeTo-then files middle after name (a ∷ first) last put (inr more) = let all = a ∷ first in let now = content files name ++ all in
    let fact = more.1 in inr (
      length all + more.0,
      record {
        within = omega (arith, length-append all last, fact.within);
        files = fact.files ∙ ap (λ m. with_file m name (content m name ++ take more.0 last)) put
            ∙ ap (λ held. with_file (with_file files name now) name (held ++ take more.0 last)) (content-same files name now)
            ∙ with_file-twice files name now (now ++ take more.0 last)
            ∙ ap (with_file files name) (append_assoc (content files name) all (take more.0 last) ∙ ap (λ bytes. content files name ++ bytes) (sym (take-append-add all last more.0)));
      },
    )

-- ---- one call of `append` more

-- what is left of the bytes behind the first so many
rest_is : (bytes : List ℕ) (done : ℕ) → done ≤ length bytes → take (length bytes - done) (drop done bytes) ≡ drop done bytes
rest_is bytes done within = take_all (length bytes - done) (drop done bytes) (omega (arith, length-drop done bytes))

pub one_more : (old middle new : Files) (name bytes : List ℕ) (done n : ℕ) → done < length bytes → 0 < n → middle ≡ with_more old name (take done bytes) →
    AppendsTo middle new name (take (length bytes - done) (drop done bytes)) n → new ≡ with_more old name (take (done + n) bytes)
one_more old middle new name bytes done n left some put more = let rest = rest_is bytes done (omega arith) in
    let few : n ≤ length (drop done bytes) = omega (arith, more.within, ap length rest) in
    more.files ∙ ap (λ piece. with_file middle name (content middle name ++ take n piece)) rest
    ∙ sym (with_more-some middle name (take n (drop done bytes)) (omega (arith, some, length-take-le n (drop done bytes) few)))
    ∙ ap (λ m. with_more m name (take n (drop done bytes))) put
    ∙ with_more-then old name (take done bytes) (take n (drop done bytes))
    ∙ ap (with_more old name) (sym (take-add done n bytes))

pub some_more : (old middle new : Files) (name bytes : List ℕ) (done : ℕ) → done ≤ length bytes → middle ≡ with_more old name (take done bytes) →
    AppendsSomeTo middle new name (take (length bytes - done) (drop done bytes)) → AppendsSomeTo old new name bytes
some_more old middle new name bytes done within put some =
    subst (AppendsSomeTo old new name) (take-append-drop done bytes)
    (AppendsSomeTo-then old middle new name (take done bytes) (drop done bytes) put (subst (AppendsSomeTo middle new name) (rest_is bytes done within) some))

-- ---- one call of `write_at` more

pub overwrites_more : (before middle after : Files) (name bytes : List ℕ) (done n : ℕ) → Overwrites before middle name 0 bytes done →
    Overwrites middle after name done (take (length bytes - done) (drop done bytes)) n → Overwrites before after name 0 bytes (done + n)
overwrites_more before middle after name bytes done n first second = Overwrites-then before middle after name 0 bytes done n (omega arith) first
    (subst (λ at. Overwrites middle after name at (take (length bytes - done) (drop done bytes)) n) (sym (zero-add done)) second)

-- ---- one adding after another

-- nothing was added
pub Adds-none : {V E : Type 0} (outside : MediaOutside V) (name : List ℕ) (now : V) → Adds {E = E} outside name [] now now (Ok tt)
Adds-none outside name now = record { all = λ t. refl; front = λ t. tt; cause = record { later = omega arith; kept = refl; rose = tt }; reads = refl }

pub Adds-then : {V E : Type 0} (outside : MediaOutside V) (name first last : List ℕ) (old middle new : V) (r : Result (Unit {0}) E) → Adds {E = E} outside name first old middle (Ok tt) →
    Adds outside name last middle new r → Adds outside name (first ++ last) old new r
Adds-then outside name first last old middle new (Ok u) one two = record {
  all = λ t. two.all t ∙ ap (λ files. with_more files name last) (one.all t) ∙ with_more-then (outside.files old) name first last;
  front = λ t. tt;
  cause = record { later = omega (arith, one.cause.later, two.cause.later); kept = two.cause.kept ∙ one.cause.kept; rose = tt };
  reads = two.reads ∙ one.reads;
}
Adds-then outside name first last old middle new (Err e) one two = record {
  all = λ t. tt;
  front = λ t. AppendsSomeTo-then (outside.files old) (outside.files middle) (outside.files new) name first last (one.all t) (two.front t);
  cause = record {
    later = omega (arith, one.cause.later, two.cause.later);
    kept = tt;
    rose = subst (λ count. risen count ≤ outside.write_faults new) one.cause.kept two.cause.rose;
  };
  reads = two.reads ∙ one.reads;
}

-- the bytes said another way
pub Adds-as : {V E : Type 0} (outside : MediaOutside V) (name bytes others : List ℕ) (old new : V) (r : Result (Unit {0}) E) → bytes ≡ others → Adds outside name bytes old new r → Adds outside name others old new r
Adds-as outside name bytes others old new r same adds = subst (λ b. Adds outside name b old new r) same adds

-- where a fault came in the first part, more was to come
pub Adds-cut : {V E : Type 0} (outside : MediaOutside V) (name first last : List ℕ) (old new : V) (e : E) → Adds outside name first old new (Err e) → Adds outside name (first ++ last) old new (Err e)
Adds-cut outside name first last old new e adds = record {
  all = λ t. tt;
  front = λ t. longer (outside.files old) (outside.files new) (adds.front t);
  cause = adds.cause;
  reads = adds.reads;
}
  where
    longer : (files after : Files) → AppendsSomeTo files after name first → AppendsSomeTo files after name (first ++ last)
    longer files after (inl same) = inl same
    longer files after (inr some) = let fact = some.1 in inr (
      some.0,
      record {
        within = omega (arith, length-append first last, fact.within);
        files = fact.files ∙ ap (λ bytes. with_file files name (content files name ++ bytes)) (sym (take-append-le some.0 first last fact.within));
      },
    )

-- where a fault came in the second part, the first was there, and more was to come
pub Adds-stopped : {V E F : Type 0} (outside : MediaOutside V) (name first last rest whole : List ℕ) (old middle new : V) (e : E) (r : Result (Unit {0}) F) → IsErr r → first ++ (last ++ rest) ≡ whole →
    Adds {E = E} outside name first old middle (Ok tt) → Adds outside name last middle new (Err e) → Adds outside name whole old new r
Adds-stopped outside name first last rest whole old middle new e (Ok u) err same one two = absurd (true≢false (sym err))
Adds-stopped outside name first last rest whole old middle new e (Err f) err same one two =
    let all = Adds-then outside name first (last ++ rest) old middle new (Err e) one (Adds-cut outside name last rest middle new e two) in
    let L : List ℕ → Type 0 = λ bytes. outside.tells → AppendsSomeTo (outside.files old) (outside.files new) name bytes in
    record { all = λ t. tt; front = subst L same all.front; cause = record { later = all.cause.later; kept = tt; rose = all.cause.rose }; reads = all.reads }
