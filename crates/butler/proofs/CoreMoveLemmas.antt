-- The move that a butler's ends allow is the first that the core machine can make.
use Rattle.std.proofs.Common.{◌≡◌, ℕ, zero, suc, ◌+◌, ◌-◌, ◌^◌, List, [], ◌∷◌, ◌++◌, length, map, refl, sym, ap, ◌∙◌, arith, max}
use Rattle.std.specs.Prelude.{Bool, false, ◌&&◌, ◌==◌, not, nat_lt, is_some, if◌then◌else◌, reverse, find, slice_get, Some}
use Rattle.std.specs.List.{range_with_len}
use Rattle.std.specs.Option.{option_map_or}
use Rattle.std.proofs.lemmas.List.{reverse-append, length-reverse, length-map}
use Rattle.std.proofs.lemmas.Option.{slice_get_within}
use Rattle.session_model.specs.declared.session.Session.{Session}
use Rattle.session_model.specs.declared.edit.Edit.{Edit}
use Rattle.session_model.specs.Valid.{IsValid}
use Rattle.engine_model.specs.Items.{Kind}
use Rattle.engine_model.specs.Edits.{playlist_edition, generation}
use Rattle.engine_model.specs.Due.{Ack, next_block, due, due_after}
use Rattle.engine_laws.proofs.ListLemmas.{item_at}
use Rattle.machine_model.specs.Core.{TrackState, Core}
use Rattle.machine_model.specs.Events as machine
use Rattle.machine_model.specs.Events.{Event, Send, Flush, can}
use Rattle.machine_model.specs.Letters as letters
use Rattle.edition_log.specs.EditionState.{EditionState as Edition}
use Rattle.disk_ring.specs.Sender.{Sender}
use Rattle.disk_ring.specs.Receiver.{Receiver}
use Rattle.piece_item.specs.declared.item.Item.{Item}
use Rattle.piece_item.specs.declared.take_block.TakeBlock.{TakeBlock}
use Rattle.piece_item.specs.Views.{kind_of}
use Rattle.read_ahead.specs.Items.{kinds}
use Rattle.butler.specs.Sends.{acks_of}
use Rattle.butler.specs.ButlerState.{ButlerState}
use Rattle.butler.specs.Moves.{waits, has_room, due_of, can_send, can_move, first_move}
use Rattle.butler.specs.CoreMoves.{IsTrackOf, IsCoreOf, TheMoveIsTheCoreMachines}
use Rattle.butler.proofs.RingMoveLemmas.{room_as_core}
use Rattle.butler.proofs.TableLemmas.{next_more}

-- ---- what is due doesn't hang on the order of the acknowledgements

pub next_reversed : (acks : List Ack) (g : ℕ) → next_block (reverse acks) g ≡ next_block acks g
next_reversed [] g = refl
next_reversed (a ∷ acks) g = ap (λ l. next_block l g) (reverse-append (a ∷ []) acks) ∙ next_more (reverse acks) a g
    ∙ ap (λ n. if a.generation == g then max a.next n else n) (next_reversed acks g)

pub due_reversed : (s : Session) (edits : List Edit) (cycles t k : ℕ) (acks : List Ack) (before : List Kind) → due s edits cycles t k (reverse acks) before ≡ due s edits cycles t k acks before
due_reversed s edits cycles t k acks before = ap (λ next. due_after (record {
  track = t;
  edition = k;
  generation = generation edits k;
  touched = playlist_edition s edits t k;
  next = next;
  depth = s.depth;
  cycles = cycles;
}) before) (next_reversed acks (generation edits k))

-- ---- two tests of one row, and of two lists of one length

module _ {X : Type 0} (p q : X → Bool) where
  same_found : (g : ℕ → X) (a n : ℕ) (xs ys : List X) → ((t : ℕ) → p (g t) ≡ q (g t)) → find p xs ≡ find q ys →
      find p (map g (range_with_len a n) ++ xs) ≡ find q (map g (range_with_len a n) ++ ys)
  same_found g a zero xs ys same rest = rest
  same_found g a (suc n) xs ys same rest = ap (λ b. if b then Some (g a) else find p (map g (range_with_len (a + 1) n) ++ xs)) (same a)
      ∙ ap (λ o. if q (g a) then Some (g a) else o) (same_found g (a + 1) n xs ys same rest)

  same_found_alone : (g : ℕ → X) (a n : ℕ) → ((t : ℕ) → p (g t) ≡ q (g t)) → find p (map g (range_with_len a n)) ≡ find q (map g (range_with_len a n))
  same_found_alone g a zero same = refl
  same_found_alone g a (suc n) same = ap (λ b. if b then Some (g a) else find p (map g (range_with_len (a + 1) n))) (same a)
      ∙ ap (λ o. if q (g a) then Some (g a) else o) (same_found_alone g (a + 1) n same)

  pub same_first : (g h : ℕ → X) (n m : ℕ) → ((t : ℕ) → p (g t) ≡ q (g t)) → ((t : ℕ) → p (h t) ≡ q (h t)) →
      find p (map g (range_with_len 0 n) ++ map h (range_with_len 0 m)) ≡ find q (map g (range_with_len 0 n) ++ map h (range_with_len 0 m))
  same_first g h n m same other = same_found g 0 n (map h (range_with_len 0 m)) (map h (range_with_len 0 m)) same (same_found_alone h 0 m other)

module _ {X Y : Type 0} (p : X → Bool) (q : Y → Bool) where
  pub same_at : (xs : List X) (ys : List Y) (t : ℕ) → length xs ≡ length ys → ((x : X) (y : Y) → slice_get xs t ≡ Some x → slice_get ys t ≡ Some y → p x ≡ q y) →
      option_map_or p (slice_get xs t) false ≡ option_map_or q (slice_get ys t) false
  same_at [] [] t many each = refl
  same_at [] (y ∷ ys) t many each = absurd (omega (arith, many))
  same_at (x ∷ xs) [] t many each = absurd (omega (arith, many))
  same_at (x ∷ xs) (y ∷ ys) zero many each = each x y refl refl
  same_at (x ∷ xs) (y ∷ ys) (suc t) many each = same_at xs ys t (omega (arith, many)) each

pub beside : {X Y : Type 0} (xs : List X) (ys : List Y) (t : ℕ) (x : X) → length xs ≡ length ys → slice_get xs t ≡ Some x → (y : Y) × (slice_get ys t ≡ Some y)
beside xs ys t x many there = item_at ys t (omega (arith, many, slice_get_within xs t x there))

-- ---- the moves

module _ {V : Type 0} (s : Session) (e : Edition) (old new : ButlerState V) (c : Core) (valid : IsValid s) (core : IsCoreOf s e old new c) where
  abbrev T : List TrackState
  T = c.tracks

  abbrev D : List (Sender Item)
  D = old.ends.sends.items

  abbrev R : List (Receiver TakeBlock)
  R = old.ends.takes.items

  same_waits : (t : ℕ) (r : Receiver TakeBlock) (x : TrackState) → slice_get R t ≡ Some r → slice_get T t ≡ Some x → waits r ≡ nat_lt x.flushed (length x.put)
  same_waits t r x hr hx = let d = beside T D t x core.many hx in let at = core.each t x d.0 r hx d.1 hr in λ i. nat_lt (sym at.flushed i) (sym at.put i)

  same_flush : (t : ℕ) → can_move s e old new (Flush t) ≡ can s old.cycles c (Flush t)
  same_flush t = same_at waits (λ (x : TrackState). nat_lt x.flushed (length x.put)) R T t (sym core.many_takes) (same_waits t)

  same_room : (d : Sender Item) (x : TrackState) (r : Receiver TakeBlock) → IsTrackOf s x d r → has_room d ≡ machine.has_room s x
  same_room d x r at = ap (λ n. nat_lt (length d.sent) (d.got + n) && nat_lt (length d.sent) (2 ^ 62)) at.depth
      ∙ ap (λ b. b && nat_lt (length d.sent) (2 ^ 62)) (sym (room_as_core (length d.sent) d.got s.depth (omega (arith, valid.formed.limits.depth.least))))
      ∙ (λ i. nat_lt (long i - sym at.received i) s.depth && nat_lt (long i) (2 ^ 62)) where
        long : length d.sent ≡ length x.sent
        long = sym (ap length at.sent ∙ length-reverse (kinds d.sent) ∙ length-map d.sent (λ item. kind_of item.kind))

  same_due : (t : ℕ) (d : Sender Item) (x : TrackState) (r : Receiver TakeBlock) → IsTrackOf s x d r → due_of s e old new t d ≡ machine.due_of s old.cycles c t x
  same_due t d x r at = sym (due_reversed s e.edits old.cycles t (length e.edits) (acks_of new.ends.acks.received) (reverse (kinds d.sent)))
      ∙ (λ i. due s (sym core.edits i) old.cycles t (sym core.entered i) (sym core.acks i) (sym at.sent i))

  same_sends : (t : ℕ) (d : Sender Item) (x : TrackState) → slice_get D t ≡ Some d → slice_get T t ≡ Some x →
      can_send s e old new t d ≡ (machine.has_room s x && is_some (machine.due_of s old.cycles c t x))
  same_sends t d x hd hx = let r = beside T R t x core.many_takes hx in let at = core.each t x d r.0 hx hd r.1 in
      ap (λ b. not b && (has_room d && is_some (due_of s e old new t d))) core.none_read
      ∙ (λ i. same_room d x r.0 at i && is_some (same_due t d x r.0 at i))

  same_send : (t : ℕ) → can_move s e old new (Send t) ≡ can s old.cycles c (Send t)
  same_send t = same_at (can_send s e old new t) (λ (x : TrackState). machine.has_room s x && is_some (machine.due_of s old.cycles c t x)) D T t (sym core.many) (same_sends t)

  pub same_move : first_move s e old new ≡ letters.first_move s old.cycles c
  same_move = same_first (can_move s e old new) (can s old.cycles c) Flush Send (length R) (length D) same_flush same_send
      ∙ (λ i. find (can s old.cycles c) (map Flush (range_with_len 0 (sym core.many_takes i)) ++ map Send (range_with_len 0 (sym core.many i))))

pub the_move_is_the_core_machines : {V : Type 0} → TheMoveIsTheCoreMachines V
the_move_is_the_core_machines s e old new c valid core = same_move s e old new c valid core
