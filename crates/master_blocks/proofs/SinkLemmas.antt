-- Bytes that are written one after another.
use Rattle.std.proofs.Common.{◌≡◌, ℕ, ◌+◌, ◌-◌, ◌*◌, ◌<◌, ◌≤◌, List, ◌++◌, length, take, ap, sym, subst, ◌∙◌, append_assoc, replicate, arith, rules}
use Rattle.std.specs.Prelude.{Result, Ok, Err}
use Rattle.std.specs.Result.{IsErr}
use Rattle.std.proofs.Math.Seq.{take-append-add}
use Rattle.std.proofs.lemmas.List.{take-append-le, length-append, length-replicate, replicate-append-replicate, take-replicate}
use Rattle.ses_io.specs.Faults.{risen}
use Rattle.ses_io.specs.Outside.{SinkOutside, Writes}
use Rattle.ses_io.specs.Streams.{AppendsSome}

-- a front of what comes first is a front of the whole
front_first : (held now a b : List ℕ) → AppendsSome held now a → AppendsSome held now (a ++ b)
front_first held now a b some = let n = some.0 in (
  n,
  record {
    within = omega (arith, some.1.within, length-append a b);
    held = some.1.held ∙ ap (λ xs. held ++ xs) (sym (take-append-le n a b some.1.within));
  },
)

-- and so is what comes first, with a front of what comes then
front_more : (held mid now a b : List ℕ) → mid ≡ held ++ a → AppendsSome mid now b → AppendsSome held now (a ++ b)
front_more held mid now a b is some = let n = some.0 in (
  length a + n,
  record {
    within = omega (arith, some.1.within, length-append a b);
    held = some.1.held ∙ ap (λ xs. xs ++ take n b) is ∙ append_assoc held a (take n b) ∙ ap (λ xs. held ++ xs) (sym (take-append-add a b n));
  },
)

module _ {S : Type 0} (outside : SinkOutside S) where
  -- a fault among the first bytes, as it is handed on
  pub fails_first : {E F : Type 0} (a b : List ℕ) (old new : S) (e : E) (r : Result (Unit {0}) F) → IsErr r → Writes outside a old new (Err e) → Writes outside (a ++ b) old new r
  fails_first a b old new e (Ok x) is wrote = absurd (search rules)
  fails_first a b old new e (Err f) is wrote = record {
    all = λ t. tt;
    front = λ t. front_first (outside.held old) (outside.held new) a b (wrote.front t);
    cause = record { later = wrote.cause.later; kept = tt; rose = wrote.cause.rose };
  }

  -- all of some bytes, and then a fault among others, as it is handed on
  pub fails_then : {E F G : Type 0} (a b : List ℕ) (old mid new : S) (e : E) (r : Result (Unit {0}) F) → IsErr r → Writes {E = G} outside a old mid (Ok tt) → Writes outside b mid new (Err e)
      → Writes outside (a ++ b) old new r
  fails_then a b old mid new e (Ok x) is first then = absurd (search rules)
  fails_then a b old mid new e (Err f) is first then = record {
    all = λ t. tt;
    front = λ t. front_more (outside.held old) (outside.held mid) (outside.held new) a b (first.all t) (then.front t);
    cause = record {
      later = subst (λ n. n ≤ outside.faults new) first.cause.kept then.cause.later;
      kept = tt;
      rose = subst (λ n. risen n ≤ outside.faults new) first.cause.kept then.cause.rose;
    };
  }

  -- all of some bytes, and then of others
  pub both : {E F G : Type 0} (a b : List ℕ) (old mid new : S) → Writes {E = G} outside a old mid (Ok tt) → Writes {E = E} outside b mid new (Ok tt) → Writes {E = F} outside (a ++ b) old new (Ok tt)
  both a b old mid new first then = record {
    all = λ t. then.all t ∙ ap (λ xs. xs ++ b) (first.all t) ∙ append_assoc (outside.held old) a b;
    front = λ t. tt;
    cause = record {
      later = subst (λ n. n ≤ outside.faults new) first.cause.kept then.cause.later;
      kept = then.cause.kept ∙ first.cause.kept;
      rose = tt;
    };
  }

  -- all of some bytes under another name of the error
  pub only : {E F : Type 0} (a b : List ℕ) (old new : S) → a ≡ b → Writes {E = E} outside a old new (Ok tt) → Writes {E = F} outside b old new (Ok tt)
  only a b old new same wrote = record {
    all = λ t. wrote.all t ∙ ap (λ xs. outside.held old ++ xs) same;
    front = λ t. tt;
    cause = record { later = wrote.cause.later; kept = wrote.cause.kept; rose = tt };
  }

  -- a fault of a write of one piece, where no write failed before, is a fault of what was to be written
  pub fails_so : {E F : Type 0} (piece whole : List ℕ) (a b c : S) (e : E) (r : Result (Unit {0}) F) → IsErr r → Writes outside piece b c (Err e) → outside.faults b ≡ outside.faults a
      → (outside.tells → AppendsSome (outside.held b) (outside.held c) piece → AppendsSome (outside.held a) (outside.held c) whole) → Writes outside whole a c r
  fails_so piece whole a b c e (Ok x) is wrote same more = absurd (search rules)
  fails_so piece whole a b c e (Err f) is wrote same more = record {
    all = λ t. tt;
    front = λ t. more t (wrote.front t);
    cause = record {
      later = subst (λ n. n ≤ outside.faults c) same wrote.cause.later;
      kept = tt;
      rose = subst (λ n. risen n ≤ outside.faults c) same wrote.cause.rose;
    };
  }

-- ---- zeros, block by block

one_more : (i n : ℕ) → i * n + n ≡ (i + 1) * n
one_more i n = omega arith

zeros_more : (held : List ℕ) (a b : ℕ) → (held ++ replicate a 0) ++ replicate b 0 ≡ held ++ replicate (a + b) 0
zeros_more held a b = append_assoc held (replicate a 0) (replicate b 0) ∙ ap (λ xs. held ++ xs) (replicate-append-replicate a b 0)

pub block_more : (before held after zeros : List ℕ) (i n : ℕ) → zeros ≡ replicate n 0 → held ≡ before ++ replicate (i * n) 0 → after ≡ held ++ zeros → after ≡ before ++ replicate ((i + 1) * n) 0
block_more before held after zeros i n are so_far next = next ∙ ap (λ xs. held ++ xs) are ∙ ap (λ xs. xs ++ replicate n 0) so_far ∙ zeros_more before (i * n) n ∙ ap (λ k. before ++ replicate k 0) (one_more i n)

-- a front of block i of so many is a front of all of them
within_all : (i k n blocks : ℕ) → i < blocks → k ≤ n → i * n + k ≤ blocks * n
within_all i k n blocks below few = go (blocks - (i + 1)) (omega arith)
  where
    go : (d : ℕ) → blocks ≡ i + 1 + d → i * n + k ≤ blocks * n
    go d e = rw e (omega (arith, few))

pub part_of_zeros : (before held after zeros : List ℕ) (i n blocks : ℕ) → i < blocks → zeros ≡ replicate n 0 → held ≡ before ++ replicate (i * n) 0 → AppendsSome held after zeros → AppendsSome before after (replicate (blocks * n) 0)
part_of_zeros before held after zeros i n blocks below are so_far some =
    let k = some.0 in let few : k ≤ n = omega (arith, some.1.within, ap length are, length-replicate {A = ℕ} n 0) in let inside = within_all i k n blocks below few in (
      i * n + k,
      record {
        within = omega (arith, inside, length-replicate {A = ℕ} (blocks * n) 0);
        held = some.1.held ∙ ap (λ xs. held ++ take k xs) are ∙ ap (λ xs. held ++ xs) (take-replicate k n 0 few) ∙ ap (λ xs. xs ++ replicate k 0) so_far ∙ zeros_more before (i * n) k
            ∙ ap (λ xs. before ++ xs) (sym (take-replicate (i * n + k) (blocks * n) 0 inside));
      },
    )
