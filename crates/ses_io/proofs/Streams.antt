-- Two reads, one behind the other, are one read, and so are two writes.
use Rattle.std.proofs.Common.{◌≡◌, ℕ, ◌+◌, ◌-◌, ◌≤◌, List, ◌++◌, length, take, drop, arith, sym, ap, ap₂, ◌∙◌, append_assoc, length-drop}
use Rattle.std.proofs.Math.Seq.{take-add, take_all}
use Rattle.std.proofs.lemmas.List.{drop-drop, length-take-le}
use borrow.Rule.Slice.PartMut.{put_mid, same_len_mid}
use Rattle.ses_io.specs.Files.{IsPart}
use Rattle.ses_io.specs.Streams.{Takes, Appends, AppendsSome}
use Rattle.ses_io.proofs.Slices.{take_more-put_mid}

-- n bytes behind the first a lie in the buffer
pub fits-then : {X : Type 0} (a n : ℕ) (buf part : List X) → a ≤ length buf → length part ≡ length (take (length buf - a) (drop a buf)) → n ≤ length part → a + n ≤ length (put_mid a (length buf - a) buf part)
fits-then a n buf part within long few =
    let some : length (take (length buf - a) (drop a buf)) ≡ length buf - a = length-take-le (length buf - a) (drop a buf) (omega (arith, length-drop a buf)) in
    omega (arith, same_len_mid a (length buf - a) buf part long)

-- the second read went into the buffer behind the first a bytes
pub Takes-then : {before middle after buf part : List ℕ} (a n : ℕ) → Takes before middle buf a → length part ≡ length (take (length buf - a) (drop a buf)) → Takes middle after part n → Takes before after (put_mid a (length buf - a) buf part) (a + n)
Takes-then {before} {middle} {after} {buf} {part} a n first long second =
    record {
      within = fits-then a n buf part first.within long second.within;
      enough = omega (arith, ap length first.rest, length-drop a before, first.enough, second.enough);
      front = take_more-put_mid a (length buf - a) buf part n first.within second.within ∙ ap₂ (λ xs ys. xs ++ ys) first.front (second.front ∙ ap (take n) first.rest) ∙ sym (take-add a n before);
      rest = second.rest ∙ ap (drop n) first.rest ∙ drop-drop n a before;
    }

-- the second write was of the piece behind its first a bytes
pub Appends-then : {before middle after piece : List ℕ} (a n : ℕ) → Appends before middle piece a → Appends middle after (take (length piece - a) (drop a piece)) n → Appends before after piece (a + n)
Appends-then {before} {middle} {after} {piece} a n first second =
    let rest : take (length piece - a) (drop a piece) ≡ drop a piece = take_all (length piece - a) (drop a piece) (omega (arith, length-drop a piece)) in
    record {
      within = omega (arith, first.within, second.within, length-drop a piece, ap length rest);
      held = second.held ∙ ap₂ (λ xs ys. xs ++ take n ys) first.held rest ∙ append_assoc before (take a piece) (take n (drop a piece)) ∙ ap (λ xs. before ++ xs) (sym (take-add a n piece));
    }

pub AppendsSome-then : {before middle after piece : List ℕ} (a : ℕ) → Appends before middle piece a → AppendsSome middle after (take (length piece - a) (drop a piece)) → AppendsSome before after piece
AppendsSome-then a first second = (a + second.0, Appends-then a second.0 first second.1)

-- the second read of a file went on behind the first a bytes
pub IsPart-then : (held : List ℕ) (at : ℕ) (buf part : List ℕ) (a n : ℕ) → IsPart held at buf a → length part ≡ length (take (length buf - a) (drop a buf)) → IsPart held (at + a) part n → IsPart held at (put_mid a (length buf - a) buf part) (a + n)
IsPart-then held at buf part a n first long second =
    let rest : drop (at + a) held ≡ drop a (drop at held) = sym (drop-drop a at held) in
    record {
      within = fits-then a n buf part first.within long second.within;
      enough = omega (arith, first.enough, second.enough, ap length rest, length-drop a (drop at held));
      front = take_more-put_mid a (length buf - a) buf part n first.within second.within ∙ ap₂ (λ xs ys. xs ++ ys) first.front (second.front ∙ ap (take n) rest) ∙ sym (take-add a n (drop at held));
    }
