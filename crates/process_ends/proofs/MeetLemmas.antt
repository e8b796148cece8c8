-- Ends meet one pair after the other, and are closed one after the other.
use Rattle.std.proofs.Common.{◌≡◌, ℕ, zero, suc, ◌<◌, ◌≤◌, ◌+◌, List, [], ◌∷◌, length, set, refl, ◌∙◌, sym, subst, slice_index_or, arith}
use Rattle.std.specs.Prelude.{map}
use mathlib.Core.Logic.{dite}
use native.Mathlib.Decide.{ℕ_discrete}
use Rattle.std.proofs.lemmas.Option.{slice_get_read}
use Rattle.std.proofs.lemmas.List.{get_or-set_same, get_or-set_other, get_or_default, length-set, length-map, same_lists}
use Rattle.disk_ring.specs.Sender.{Sender}
use Rattle.disk_ring.specs.Receiver.{Receiver}
use Rattle.disk_ring.specs.Rings.{StillMet}
use Rattle.process_ends.specs.Ends.{AllMeet, AllStillMet, AreOfOneRing, Meet, shut}

-- an item of a list whose items were all changed
mapped_at : {X Y : Type 0} (f : X → Y) (xs : List X) (k : ℕ) (x : X) (y : Y) → k < length xs → slice_index_or (map f xs) k y ≡ f (slice_index_or xs k x)
mapped_at f [] k x y within = absurd (omega arith)
mapped_at f (z ∷ xs) zero x y within = refl
mapped_at f (z ∷ xs) (suc k) x y within = mapped_at f xs k x y (omega arith)

module _ {T : Type 0} where
  -- the pairs below a number met, and the others are as they were
  pub record MetBelow (a : List (Sender T)) (b : List (Receiver T)) (c : List (Sender T)) (d : List (Receiver T)) (n : ℕ) : Type 0 where
    pub senders : length c ≡ length a
    pub receivers : length d ≡ length b
    pub met : (t : ℕ) (x : Sender T) (y : Receiver T) → t < n → Meet (slice_index_or a t x) (slice_index_or b t y) (slice_index_or c t x) (slice_index_or d t y)
    pub sender_left : (t : ℕ) (x : Sender T) → n ≤ t → slice_index_or c t x ≡ slice_index_or a t x
    pub receiver_left : (t : ℕ) (y : Receiver T) → n ≤ t → slice_index_or d t y ≡ slice_index_or b t y

  -- those below a number are closed, and the others as they were
  pub record ShutBelow (a c : List (Sender T)) (n : ℕ) : Type 0 where
    pub senders : length c ≡ length a
    pub closed : (t : ℕ) (x : Sender T) → t < n → slice_index_or c t x ≡ shut (slice_index_or a t x)
    pub left : (t : ℕ) (x : Sender T) → n ≤ t → slice_index_or c t x ≡ slice_index_or a t x

  pub meets_one : (a : List (Sender T)) (b : List (Receiver T)) (c : List (Sender T)) (d : List (Receiver T)) (n : ℕ) → MetBelow a b c d n → n < length a → length b ≡ length a
      → (x : Sender T) (y : Receiver T) (x' : Sender T) (y' : Receiver T) → Meet (slice_index_or c n x) (slice_index_or d n y) x' y' → MetBelow a b (set c n x') (set d n y') (n + 1)
  meets_one a b c d n below within count x y x' y' meet = record {
    senders = length-set c n x' ∙ below.senders;
    receivers = length-set d n y' ∙ below.receivers;
    met = λ t u v under. dite (ℕ_discrete t n)
        (λ e. subst (λ k. Meet (slice_index_or a k u) (slice_index_or b k v) (slice_index_or (set c n x') k u) (slice_index_or (set d n y') k v)) (sym e) (here u v))
        (λ other. subst (λ z. Meet (slice_index_or a t u) (slice_index_or b t v) z (slice_index_or (set d n y') t v)) (sym (get_or-set_other c n t x' u other))
        (subst (λ z. Meet (slice_index_or a t u) (slice_index_or b t v) (slice_index_or c t u) z) (sym (get_or-set_other d n t y' v other)) (below.met t u v (omega (arith, under, other)))));
    sender_left = λ t u after. get_or-set_other c n t x' u (λ e. omega (arith, e, after)) ∙ below.sender_left t u (omega (arith, after));
    receiver_left = λ t v after. get_or-set_other d n t y' v (λ e. omega (arith, e, after)) ∙ below.receiver_left t v (omega (arith, after));
  } where
    in_c : n < length c
    in_c = omega (arith, within, below.senders)

    in_d : n < length d
    in_d = omega (arith, within, below.receivers, count)

    here : (u : Sender T) (v : Receiver T) → Meet (slice_index_or a n u) (slice_index_or b n v) (slice_index_or (set c n x') n u) (slice_index_or (set d n y') n v)
    here u v = subst (λ z. Meet (slice_index_or a n u) (slice_index_or b n v) z (slice_index_or (set d n y') n v)) (sym (get_or-set_same c n x' u in_c))
        (subst (λ z. Meet (slice_index_or a n u) (slice_index_or b n v) x' z) (sym (get_or-set_same d n y' v in_d))
        (subst (λ z. Meet z (slice_index_or b n v) x' y') (sym (get_or_default c n u x in_c) ∙ below.sender_left n u (omega arith))
        (subst (λ z. Meet (slice_index_or c n x) z x' y') (sym (get_or_default d n v y in_d) ∙ below.receiver_left n v (omega arith)) meet)))

  -- the next pair is as it was at first
  pub still_met : (a : List (Sender T)) (b : List (Receiver T)) (c : List (Sender T)) (d : List (Receiver T)) (n : ℕ) → MetBelow a b c d n → AreOfOneRing a b → AllStillMet a b → n < length a
      → (x : Sender T) (y : Receiver T) → StillMet (slice_index_or c n x) (slice_index_or d n y)
  still_met a b c d n below one still within x y = let s = slice_index_or c n x in let r = slice_index_or d n y in let near : n < length b = omega (arith, within, one.count) in
      still n s r (slice_get_read a (length a) n s refl within (below.sender_left n x (omega arith) ∙ get_or_default a n x s within))
      (slice_get_read b (length b) n r refl near (below.receiver_left n y (omega arith) ∙ get_or_default b n y r near))

  pub all_shut : (a c : List (Sender T)) (n : ℕ) → ShutBelow a c n → length c ≤ n → c ≡ map shut a
  all_shut a c n below all = same_lists c (map shut a) (below.senders ∙ sym (length-map a shut))
      (λ k d within. below.closed k d (omega (arith, within, all)) ∙ sym (mapped_at shut a k d d (omega (arith, within, below.senders))))

  pub met_again : (a a' : List (Sender T)) (b b' : List (Receiver T)) (c c' : List (Sender T)) (d d' : List (Receiver T)) → a ≡ a' → b ≡ b' → c ≡ c' → d ≡ d' → AllMeet a b c d → AllMeet a' b' c' d'
  met_again a a' b b' c c' d d' same_a same_b same_c same_d met = subst (λ l. AllMeet l b' c' d') same_a (subst (λ l. AllMeet a l c' d') same_b (subst (λ l. AllMeet a b l d') same_c (subst (AllMeet a b c) same_d met)))
