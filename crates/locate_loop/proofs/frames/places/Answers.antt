use Rattle.std.proofs.Common.{◌≡◌, ℕ, ◌+◌, ◌<◌, get_or, set, length, sym, ap, subst, ◌∙◌, arith}
use Rattle.std.proofs.lemmas.List.FromFn.{fill_by_all}
use Rattle.std.proofs.lemmas.List.Edits.{fill_by_more}
use Rattle.engine_model.specs.Transport.{place_of}
use Rattle.locate_loop.specs.Transport.{transport_of, place_after}
use Rattle.locate_loop.proofs.PlaceLemmas.{next_place}
use Rattle.locate_loop.proofs.frames.places.Goals as goal

pub loop-i-preserved : goal.loop-i-preserved
loop-i-preserved c = let t = c.args.t.now in let first = c.args.first in let i = c.loop-i.i in
    let f : ℕ → ℕ = λ n. place_of (transport_of t) (first + n) in record {
      done = subst (λ v. (k : ℕ) → k < i + 1 → get_or (set c.loop-i.out i v) k 0 ≡ f k) (sym c.loop-i.invariant.next)
          (fill_by_more f c.loop-i.out i 0 (omega arith) c.loop-i.invariant.done);
      next = c.after-place.ensures ∙ ap (place_after (transport_of t)) c.loop-i.invariant.next
          ∙ next_place t (first + i) c.requires.bounds ∙ ap (place_of (transport_of t)) {x = first + i + 1} {y = first + (i + 1)} (omega arith);
    }

pub returns : goal.returns
returns c = fill_by_all (λ i. place_of (transport_of c.args.t.now) (c.args.first + i)) c.loop-i.out (length c.args.out.now) 0 (omega arith)
    (λ k h. c.loop-i.invariant.done k (omega arith))
