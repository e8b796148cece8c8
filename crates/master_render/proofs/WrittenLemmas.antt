-- Bytes that are written one after another.
use Rattle.std.proofs.Common.{◌≡◌, ℕ, ◌+◌, List, ◌++◌, length, take, ap, sym, ◌∙◌, append_assoc, arith, rules}
use Rattle.std.specs.Prelude.{Result, Ok, Err}
use Rattle.std.specs.Result.{IsErr}
use Rattle.std.proofs.Math.Seq.{take-append-add}
use Rattle.std.proofs.lemmas.List.{take-append-le, length-append}
use Rattle.ses_io.specs.Outside.{SinkOutside, Writes}
use Rattle.ses_io.specs.Streams.{AppendsSome}
use Rattle.master_render.specs.declared.fault.RenderFault.{RenderFault}
use Rattle.master_render.specs.Written.{IsWritten}

-- a front of what comes first is a front of the whole
pub front_first : (held now a b : List ℕ) → AppendsSome held now a → AppendsSome held now (a ++ b)
front_first held now a b some = let n = some.0 in (
  n,
  record {
    within = omega (arith, some.1.within, length-append a b);
    held = some.1.held ∙ ap (λ xs. held ++ xs) (sym (take-append-le n a b some.1.within));
  },
)

-- and so is what comes first, with a front of what comes then
pub front_more : (held mid now a b : List ℕ) → mid ≡ held ++ a → AppendsSome mid now b → AppendsSome held now (a ++ b)
front_more held mid now a b is some = let n = some.0 in (
  length a + n,
  record {
    within = omega (arith, some.1.within, length-append a b);
    held = some.1.held ∙ ap (λ xs. xs ++ take n b) is ∙ append_assoc held a (take n b) ∙ ap (λ xs. held ++ xs) (sym (take-append-add a b n));
  },
)

module _ {W : Type 0} (sink : SinkOutside W) where
  pub of_writes : (bytes : List ℕ) (old new : W) (r : Result (Unit {0}) RenderFault) → sink.tells → Writes sink bytes old new r → IsWritten sink bytes old new r
  of_writes bytes old new r t w = record { all = w.all t; front = w.front t }

  -- all of some bytes, and then others
  pub written_on : (a b : List ℕ) (old mid new : W) (r : Result (Unit {0}) RenderFault) → sink.held mid ≡ sink.held old ++ a → IsWritten sink b mid new r → IsWritten sink (a ++ b) old new r
  written_on a b old mid new (Ok x) is w = record { all = w.all ∙ ap (λ xs. xs ++ b) is ∙ append_assoc (sink.held old) a b; front = tt }
  written_on a b old mid new (Err e) is w = record { all = tt; front = front_more (sink.held old) (sink.held mid) (sink.held new) a b is w.front }

  -- a fault among the first bytes
  pub fails_first : (a b : List ℕ) (old new : W) (r : Result (Unit {0}) RenderFault) → IsErr r → IsWritten sink a old new r → IsWritten sink (a ++ b) old new r
  fails_first a b old new (Ok x) is w = absurd (search rules)
  fails_first a b old new (Err e) is w = record { all = tt; front = front_first (sink.held old) (sink.held new) a b w.front }

  -- a fault, as it is handed on
  pub fails_as : (bytes : List ℕ) (old new : W) (e : RenderFault) (r : Result (Unit {0}) RenderFault) → IsErr r → IsWritten sink bytes old new (Err e) → IsWritten sink bytes old new r
  fails_as bytes old new e (Ok x) is w = absurd (search rules)
  fails_as bytes old new e (Err f) is w = record { all = tt; front = w.front }
