-- All that was received, where one ring received more.
use Rattle.std.proofs.Common.{◌≡◌, ℕ, ◌+◌, List, [], ◌∷◌, ◌++◌, length, map, set, Option, refl, sym, ap, subst, ◌∙◌, inl, inr, zero, suc}
use Rattle.std.specs.Prelude.{Some, slice_get, if◌then◌else◌}
use Rattle.std.specs.Option.{option_map_or}
use Rattle.std.proofs.Math.Path.{fun_ext}
use Rattle.std.proofs.lemmas.Bool.{cases_eq, eq-eqb, ne_eqb}
use Rattle.std.proofs.lemmas.List.{map-append, set-get_or}
use Rattle.std.proofs.lemmas.List.Sums.{sum_by-set}
use Rattle.std.proofs.lemmas.Option.{slice_get_within, get_or_from_slice_get}
use Rattle.disk_ring.specs.Receiver.{Receiver}
use Rattle.piece_item.specs.declared.take_block.TakeBlock.{TakeBlock}
use Rattle.capture_flush.specs.Blocks.{Block, block_of}
use Rattle.capture_flush.specs.Flushed.{Tape, with_block}
use Rattle.capture_flush.proofs.AddedLemmas.{set_here, set_there}
use Rattle.capture_drain.specs.Drains.{total_received}
use Rattle.capture_drain.specs.Files.{RunStart, tape_of, blocks_at}

-- ---- lists in which one place is set

pub set_twice : {X : Type 0} (xs : List X) (t : ℕ) (x y : X) → set (set xs t x) t y ≡ set xs t y
set_twice [] t x y = refl
set_twice (z ∷ xs) zero x y = refl
set_twice (z ∷ xs) (suc t) x y = ap (λ l. z ∷ l) (set_twice xs t x y)

pub set_same : {X : Type 0} (xs : List X) (t : ℕ) (x : X) → slice_get xs t ≡ Some x → set xs t x ≡ xs
set_same xs t x here = ap (set xs t) (sym (get_or_from_slice_get xs t x x here)) ∙ set-get_or xs t x

-- ---- the blocks of each track

abbrev Ring : Type 0
Ring = Receiver TakeBlock

abbrev blocks_in_it : Option Ring → List Block
blocks_in_it o = option_map_or (λ r. map block_of r.received) o []

blocks_else : (rings : List Ring) (t u : ℕ) (b : Ring) → (u ≡ t → ⊥) → blocks_at (set rings t b) u ≡ blocks_at rings u
blocks_else rings t u b other = ap blocks_in_it (set_there rings t u b other)

blocks_here : (rings : List Ring) (t : ℕ) (a b : Ring) → slice_get rings t ≡ Some a → blocks_at (set rings t b) t ≡ map block_of b.received
blocks_here rings t a b here = ap blocks_in_it (set_here rings t b (slice_get_within rings t a here))

abbrev given : RunStart → (ℕ → List Block) → Tape
given run blocks = record { session = run.session; held = run.held; blocks = blocks }

same_tape : (run : RunStart) (f g : ℕ → List Block) → ((u : ℕ) → f u ≡ g u) → given run f ≡ given run g
same_tape run f g each = ap (given run) (fun_ext each)

-- where the ring of track t received nothing
pub tape_same : (run : RunStart) (rings : List Ring) (t : ℕ) (a b : Ring) → slice_get rings t ≡ Some a → b.received ≡ a.received → tape_of run (set rings t b) ≡ tape_of run rings
tape_same run rings t a b here same = same_tape run (blocks_at (set rings t b)) (blocks_at rings) each
  where
    each : (u : ℕ) → blocks_at (set rings t b) u ≡ blocks_at rings u
    each u = elim (cases_eq u t) [
      | inl is ↦ subst (λ v. blocks_at (set rings t b) v ≡ blocks_at rings v) (sym is) (blocks_here rings t a b here ∙ ap (map block_of) same ∙ sym (ap blocks_in_it here))
      | inr other ↦ blocks_else rings t u b other
    ]

-- and where it received one block
pub tape_taken : (run : RunStart) (rings : List Ring) (t : ℕ) (a b : Ring) (x : TakeBlock) → slice_get rings t ≡ Some a → b.received ≡ a.received ++ x ∷ [] →
    with_block (tape_of run rings) t (block_of x) ≡ tape_of run (set rings t b)
tape_taken run rings t a b x here more = same_tape run (with_block (tape_of run rings) t (block_of x)).blocks (blocks_at (set rings t b)) each
  where
    at_t : (with_block (tape_of run rings) t (block_of x)).blocks t ≡ blocks_at (set rings t b) t
    at_t = ap (λ k. if k then blocks_at rings t ++ block_of x ∷ [] else blocks_at rings t) (eq-eqb t t refl) ∙ ap (λ o. blocks_in_it o ++ block_of x ∷ []) here
        ∙ sym (map-append block_of a.received (x ∷ [])) ∙ ap (map block_of) (sym more) ∙ sym (blocks_here rings t a b here)

    each : (u : ℕ) → (with_block (tape_of run rings) t (block_of x)).blocks u ≡ blocks_at (set rings t b) u
    each u = elim (cases_eq u t) [
      | inl is ↦ subst (λ v. (with_block (tape_of run rings) t (block_of x)).blocks v ≡ blocks_at (set rings t b) v) (sym is) at_t
      | inr other ↦ ap (λ k. if k then blocks_at rings u ++ block_of x ∷ [] else blocks_at rings u) (ne_eqb u t other) ∙ sym (blocks_else rings t u b other)
    ]

-- ---- how many blocks

pub total_set : (rings : List Ring) (t : ℕ) (a b : Ring) → slice_get rings t ≡ Some a → total_received (set rings t b) + length a.received ≡ total_received rings + length b.received
total_set rings t a b here = ap (λ (r : Ring). total_received (set rings t b) + length r.received) (sym (get_or_from_slice_get rings t a a here))
    ∙ sum_by-set (λ (r : Ring). length r.received) rings t b a (slice_get_within rings t a here)
