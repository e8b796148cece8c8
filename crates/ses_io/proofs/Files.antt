-- The files of a media after a write: what a second look-up gives, and two writes to one file.
use Rattle.std.proofs.Common.{◌≡◌, ℕ, ◌+◌, ◌≤◌, Bool, true, false, cond, List, [], ◌++◌, length, take, drop, Option, None, Some, refl, sym, ap, ◌∙◌, append-nil, arith, IsSomeAnd, ◌-◌, ap₂, append_assoc, length-append, length-drop}
use Rattle.std.specs.Option.{unwrap_or}
use Rattle.std.specs.Str.{bytes_eq}
use Rattle.std.proofs.lemmas.Slice.Eq.{bytes_eq-Decides}
use Rattle.std.proofs.Math.Seq.{take-add, take_all, drop-append-add}
use Rattle.std.proofs.lemmas.List.{take-append-drop, length-take-le, drop-drop, take_at}
use Rattle.std.proofs.Math.Nat.{add-zero}
use Rattle.ses_io.specs.Files.{Files, with_file, content, overwritten, HasRange, AppendsTo, Overwrites, OverwritesSome}

pub bytes_eq-same : (name : List ℕ) → bytes_eq name name ≡ true
bytes_eq-same name = (bytes_eq-Decides name name).1 refl

pub bytes_eq-true : (xs ys : List ℕ) → bytes_eq xs ys ≡ true → xs ≡ ys
bytes_eq-true xs ys = (bytes_eq-Decides xs ys).0

-- the file that was written holds what was written
pub with_file-same : (files : Files) (name bytes : List ℕ) → with_file files name bytes name ≡ Some bytes
with_file-same files name bytes = rw (bytes_eq-same name)

-- another file stays
pub with_file-other : (files : Files) (name bytes q : List ℕ) → bytes_eq name q ≡ false → with_file files name bytes q ≡ files q
with_file-other files name bytes q other = rw (other)

cond_twice : {A : Type 0} (b : Bool) (x y z : A) → cond b x (cond b y z) ≡ cond b x z
cond_twice true x y z = refl
cond_twice false x y z = refl

-- of two writes to one file the last one counts
pub with_file-twice : (files : Files) (name first last : List ℕ) → with_file (with_file files name first) name last ≡ with_file files name last
with_file-twice files name first last = λ i q. cond_twice (bytes_eq name q) (Some last) (Some first) (files q) i

cond_same : {A : Type 0} (b : Bool) (x y : A) → (b ≡ true → x ≡ y) → cond b x y ≡ y
cond_same true x y same = same refl
cond_same false x y same = refl

-- written with what it held, no file changes
pub with_file-held : (files : Files) (name bytes : List ℕ) → files name ≡ Some bytes → with_file files name bytes ≡ files
with_file-held files name bytes held = λ i q. cond_same (bytes_eq name q) (Some bytes) (files q) (λ e. sym held ∙ ap files (bytes_eq-true name q e)) i

-- nothing written changes nothing
pub overwritten-nil : (held : List ℕ) (at : ℕ) → overwritten held at [] ≡ held
overwritten-nil held at = rw (add-zero, append-nil) (take-append-drop at held)

there_is : (held : Option (List ℕ)) (P : List ℕ → Type 0) → IsSomeAnd held P → held ≡ Some (unwrap_or held [])
there_is None P h = absurd h
there_is (Some bytes) P h = refl

-- a file that is there and that stays has none of the piece
pub OverwritesSome-none : (files : Files) (name : List ℕ) (at : ℕ) (piece : List ℕ) → HasRange files name at (length piece) → OverwritesSome files files name at piece
OverwritesSome-none files name at piece inside = (
  0,
  record {
    within = omega arith;
    files = sym (ap (with_file files name) (overwritten-nil (content files name) at) ∙ with_file-held files name (content files name) (there_is (files name) _ inside));
  },
)

-- the second append was of the piece behind its first a bytes
pub AppendsTo-then : (before middle after : Files) (name piece : List ℕ) (a n : ℕ) → AppendsTo before middle name piece a → AppendsTo middle after name (take (length piece - a) (drop a piece)) n → AppendsTo before after name piece (a + n)
AppendsTo-then before middle after name piece a n first second =
    let rest : take (length piece - a) (drop a piece) ≡ drop a piece = take_all (length piece - a) (drop a piece) (omega (arith, length-drop a piece)) in
    let grown : content middle name ≡ content before name ++ take a piece = ap (λ files. content files name) first.files ∙ ap (λ held. unwrap_or held []) (with_file-same before name (content before name ++ take a piece)) in
    record {
      within = omega (arith, first.within, second.within, length-drop a piece, ap length rest);
      files = second.files ∙ ap (λ files. with_file files name (content middle name ++ take n (take (length piece - a) (drop a piece)))) first.files
          ∙ with_file-twice before name (content before name ++ take a piece) (content middle name ++ take n (take (length piece - a) (drop a piece)))
          ∙ ap₂ (λ held more. with_file before name (held ++ take n more)) grown rest
          ∙ ap (with_file before name) (append_assoc (content before name) (take a piece) (take n (drop a piece)) ∙ ap (λ more. content before name ++ more) (sym (take-add a n piece)));
    }

-- a piece, and then another behind it, are one piece
pub overwritten-then : (held : List ℕ) (at : ℕ) (xs ys : List ℕ) → at ≤ length held → overwritten (overwritten held at xs) (at + length xs) ys ≡ overwritten held at (xs ++ ys)
overwritten-then held at xs ys within =
    let front = take at held ++ xs in
    let behind = drop (at + length xs) held in
    let long : length front ≡ at + length xs = length-append (take at held) xs ∙ ap (λ n. n + length xs) (length-take-le at held within) in
    let tail : drop (at + length xs + length ys) (front ++ behind) ≡ drop (at + length (xs ++ ys)) held =
    ap (λ n. drop (n + length ys) (front ++ behind)) (sym long) ∙ drop-append-add front behind (length ys) ∙ drop-drop (length ys) (at + length xs) held
    ∙ ap (λ n. drop n held) (omega (arith, length-append xs ys)) in
    ap₂ (λ us vs. us ++ ys ++ vs) (take_at front behind (at + length xs) long) tail
    ∙ ap (λ us. us ++ drop (at + length (xs ++ ys)) held) (append_assoc (take at held) xs ys)

-- the second write was of the piece behind its first a bytes, over the bytes behind them
pub Overwrites-then : (before middle after : Files) (name : List ℕ) (at : ℕ) (piece : List ℕ) (a n : ℕ) → at ≤ length (content before name) → Overwrites before middle name at piece a → Overwrites middle after name (at + a) (take (length piece - a) (drop a piece)) n → Overwrites before after name at piece (a + n)
Overwrites-then before middle after name at piece a n inside first second =
    let held = content before name in
    let rest : take (length piece - a) (drop a piece) ≡ drop a piece = take_all (length piece - a) (drop a piece) (omega (arith, length-drop a piece)) in
    let written : content middle name ≡ overwritten held at (take a piece) = ap (λ files. content files name) first.files ∙ ap (λ bytes. unwrap_or bytes []) (with_file-same before name (overwritten held at (take a piece))) in
    let place : at + a ≡ at + length (take a piece) = ap (λ m. at + m) (sym (length-take-le a piece first.within)) in
    record {
      within = omega (arith, first.within, second.within, length-drop a piece, ap length rest);
      files = second.files ∙ ap (λ files. with_file files name (overwritten (content middle name) (at + a) (take n (take (length piece - a) (drop a piece))))) first.files
          ∙ with_file-twice before name (overwritten held at (take a piece)) (overwritten (content middle name) (at + a) (take n (take (length piece - a) (drop a piece))))
          ∙ ap₂ (λ bytes more. with_file before name (overwritten bytes (at + a) (take n more))) written rest
          ∙ ap (with_file before name) (ap (λ m. overwritten (overwritten held at (take a piece)) m (take n (drop a piece))) place ∙ overwritten-then held at (take a piece) (take n (drop a piece)) inside ∙ ap (overwritten held at) (sym (take-add a n piece)));
    }
