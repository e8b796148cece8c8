-- How the look-up of a track goes in the core machine, by what wasn't received yet.
use Rattle.std.proofs.Common.{◌≡◌, ℕ, suc, ◌+◌, ◌-◌, ◌<◌, ◌≤◌, List, [], ◌∷◌, ◌++◌, length, take, drop, refl, sym, ap, subst, arith, ◌∙◌}
use Rattle.std.specs.Prelude.{Bool, true, false, not, if◌then◌else◌, reverse}
use Rattle.std.specs.List.{list_all}
use Rattle.std.proofs.lemmas.Bool.{and_parts, lt-ltb, le-ltb}
use Rattle.std.proofs.lemmas.List.{append_assoc, length-append, length-reverse, reverse-append, reverse-reverse, take_at, drop_at}
use Rattle.session_model.specs.declared.session.Session.{Session}
use Rattle.engine_model.specs.Cycle.{is_held}
use Rattle.engine_model.specs.Items.{Kind}
use Rattle.machine_model.specs.Core.{Core, TrackState, received_of, unreceived_of, playing_generation, playing_block, first_is_held, has_held}
use Rattle.machine_model.specs.Events.{looked_once}
use Rattle.machine_model.specs.Letters.{looks}
use Rattle.machine_laws.proofs.LookLemmas.{looked_times, looked_fully}

-- ---- lists that stand the other way round

-- what was sent stands newest first, and these were received of it
module _ (received rest : List Kind) (x : TrackState) (sent : x.sent ≡ reverse (received ++ rest)) (got : x.received ≡ length received) where
  -- what waits stands before what was received
  turned : x.sent ≡ reverse rest ++ reverse received
  turned = sent ∙ reverse-append received rest

  -- so many items wait
  left : length x.sent - x.received ≡ length rest
  left = let long = ap length sent ∙ length-reverse (received ++ rest) ∙ length-append received rest in omega (arith, long, got)

  -- the newest of what was received
  pub received_is : received_of x ≡ reverse received
  received_is = ap (λ n. drop n x.sent) left ∙ ap (drop (length rest)) turned ∙ drop_at (reverse rest) (reverse received) (length rest) (length-reverse rest)

  -- the oldest of what wasn't
  pub unreceived_is : unreceived_of x ≡ rest
  unreceived_is = ap (λ n. reverse (take n x.sent)) left ∙ ap (λ l. reverse (take (length rest) l)) turned
      ∙ ap reverse (take_at (reverse rest) (reverse received) (length rest) (length-reverse rest)) ∙ reverse-reverse rest

  -- no more was received than sent
  pub received_fits : x.received ≤ length x.sent
  received_fits = let long = ap length sent ∙ length-reverse (received ++ rest) ∙ length-append received rest in omega (arith, long, got)

-- ---- one look after the other

-- what a look-up leaves: so many more were received, and these tails noted
pub record WalksTo (x y : TrackState) (more : ℕ) (further : List ℕ) : Type 0 where
  pub sent : y.sent ≡ x.sent
  pub received : y.received ≡ x.received + more
  pub tails : y.tails ≡ further ++ x.tails
  pub put : y.put ≡ x.put
  pub flushed : y.flushed ≡ x.flushed
  pub heads : y.heads ≡ x.heads
  pub taking : y.taking ≡ x.taking

-- a look that takes an item, and one that finds none
abbrev next : TrackState → TrackState
next x = record x { received = suc x.received; ended = false }

abbrev noted : TrackState → TrackState
noted x = record x { tails = x.received ∷ x.tails; ended = true }

-- while items wait a look takes one
takes_next : (x : TrackState) → x.received < length x.sent → looked_once x ≡ next x
takes_next x lt = ap (λ b. if b then next x else noted x) (lt-ltb x.received (length x.sent) lt)

-- and then it finds none
finds_none : (x : TrackState) → length x.sent ≤ x.received → looked_once x ≡ noted x
finds_none x le = ap (λ b. if b then next x else noted x) (le-ltb x.received (length x.sent) le)

-- no look leaves all as it is
stays : (x : TrackState) → WalksTo x x 0 []
stays x = record { sent = refl; received = omega arith; tails = refl; put = refl; flushed = refl; heads = refl; taking = refl }

-- a look that takes an item
one_taken : (x : TrackState) → x.received < length x.sent → WalksTo x (looked_once x) 1 []
one_taken x lt = subst (λ y. WalksTo x y 1 []) (sym (takes_next x lt)) (record { sent = refl; received = omega arith; tails = refl; put = refl; flushed = refl; heads = refl; taking = refl })

-- a look that finds none
none_taken : (x : TrackState) → length x.sent ≤ x.received → WalksTo x (looked_once x) 0 (x.received ∷ [])
none_taken x le = subst (λ y. WalksTo x y 0 (x.received ∷ [])) (sym (finds_none x le))
    (record { sent = refl; received = omega arith; tails = refl; put = refl; flushed = refl; heads = refl; taking = refl })

-- after one item that was taken
after_one : (x y : TrackState) (more : ℕ) (tails : List ℕ) → x.received < length x.sent → WalksTo (next x) y more tails → WalksTo x y (suc more) tails
after_one x y more tails lt w = record {
  sent = w.sent;
  received = omega (arith, w.received);
  tails = w.tails;
  put = w.put;
  flushed = w.flushed;
  heads = w.heads;
  taking = w.taking;
}

module _ (depth g s : ℕ) where
  abbrev pub is_free : Kind → Bool
  is_free k = not (is_held depth g s k)

  -- an item that is free isn't held
  not_held : (k : Kind) → is_free k ≡ true → is_held depth g s k ≡ false
  not_held k free = by (is_held depth g s k) free
    where
      by : (b : Bool) → not b ≡ true → b ≡ false
      by false e = refl
      by true e = absurd cc

  -- all that follows what was received is free: it is taken, and one more look finds none
  pub walks_to_the_end : (received rest : List Kind) (x : TrackState) → x.sent ≡ reverse (received ++ rest) → x.received ≡ length received → list_all is_free rest ≡ true →
      WalksTo x (looked_times (looks depth g s rest) x) (length rest) ((length received + length rest) ∷ [])
  walks_to_the_end received [] x sent got free = subst (λ n. WalksTo x (looked_once x) 0 (n ∷ [])) {x = x.received} {y = length received + 0} (omega (arith, got))
      (none_taken x (let long = ap length sent ∙ length-reverse (received ++ []) ∙ length-append received [] in omega (arith, long, got)))
  walks_to_the_end received (k ∷ rest) x sent got free =
      subst (λ b. WalksTo x (looked_times (if b then 1 else suc (looks depth g s rest)) x) (suc (length rest)) ((length received + suc (length rest)) ∷ [])) (sym (not_held k parts.0))
      (subst (λ y. WalksTo x (looked_times (looks depth g s rest) y) (suc (length rest)) ((length received + suc (length rest)) ∷ [])) (sym (takes_next x lt))
      (after_one x (looked_times (looks depth g s rest) (next x)) (length rest) ((length received + suc (length rest)) ∷ []) lt
      (subst (λ n. WalksTo (next x) (looked_times (looks depth g s rest) (next x)) (length rest) (n ∷ [])) {x = length (received ++ k ∷ []) + length rest} {y = length received + suc (length rest)}
      (omega (arith, length-append received (k ∷ [])))
      (walks_to_the_end (received ++ k ∷ []) rest (next x) (sent ∙ ap reverse (sym (append_assoc received (k ∷ []) rest))) (omega (arith, got, length-append received (k ∷ []))) parts.1))))
    where
      parts : (is_free k ≡ true) × (list_all is_free rest ≡ true)
      parts = and_parts (is_free k) (list_all is_free rest) free

      lt : x.received < length x.sent
      lt = let long = ap length sent ∙ length-reverse (received ++ k ∷ rest) ∙ length-append received (k ∷ rest) in omega (arith, long, got)

  -- what follows is free up to an item that is held: that one is taken last
  pub walks_to_the_held : (received free : List Kind) (h : Kind) (rest : List Kind) (x : TrackState) → x.sent ≡ reverse (received ++ (free ++ h ∷ rest)) → x.received ≡ length received →
      list_all is_free free ≡ true → is_held depth g s h ≡ true → WalksTo x (looked_times (looks depth g s (free ++ h ∷ rest)) x) (suc (length free)) []
  walks_to_the_held received [] h rest x sent got free held = subst (λ b. WalksTo x (looked_times (if b then 1 else suc (looks depth g s rest)) x) 1 []) (sym held) (one_taken x lt)
    where
      lt : x.received < length x.sent
      lt = let long = ap length sent ∙ length-reverse (received ++ h ∷ rest) ∙ length-append received (h ∷ rest) in omega (arith, long, got)
  walks_to_the_held received (k ∷ free) h rest x sent got all held =
      subst (λ b. WalksTo x (looked_times (if b then 1 else suc (looks depth g s (free ++ h ∷ rest))) x) (suc (suc (length free))) []) (sym (not_held k parts.0))
      (subst (λ y. WalksTo x (looked_times (looks depth g s (free ++ h ∷ rest)) y) (suc (suc (length free))) []) (sym (takes_next x lt))
      (after_one x (looked_times (looks depth g s (free ++ h ∷ rest)) (next x)) (suc (length free)) [] lt
      (walks_to_the_held (received ++ k ∷ []) free h rest (next x) (sent ∙ ap reverse (sym (append_assoc received (k ∷ []) (free ++ h ∷ rest))))
      (omega (arith, got, length-append received (k ∷ []))) parts.1 held)))
    where
      parts : (is_free k ≡ true) × (list_all is_free free ≡ true)
      parts = and_parts (is_free k) (list_all is_free free) all

      lt : x.received < length x.sent
      lt = let long = ap length sent ∙ length-reverse (received ++ k ∷ (free ++ h ∷ rest)) ∙ length-append received (k ∷ (free ++ h ∷ rest)) in omega (arith, long, got)

-- ---- a whole look-up

module _ (session : Session) (c : Core) (received rest : List Kind) (x : TrackState) (sent : x.sent ≡ reverse (received ++ rest)) (got : x.received ≡ length received) where
  -- whether the last item received is held
  held_is : has_held session c x ≡ first_is_held session.depth (playing_generation c) (playing_block c) (reverse received)
  held_is = ap (first_is_held session.depth (playing_generation c) (playing_block c)) (received_is received rest x sent got)

  -- where the last item received is held there is nothing to look for
  pub no_look_up : first_is_held session.depth (playing_generation c) (playing_block c) (reverse received) ≡ true → WalksTo x (looked_fully session c x) 0 []
  no_look_up held = subst (λ b. WalksTo x (looked_times (if b then 0 else looks session.depth (playing_generation c) (playing_block c) (unreceived_of x)) x) 0 []) (sym (held_is ∙ held)) (stays x)

  -- where it isn't, the look-up goes over what waits
  look_up_goes : first_is_held session.depth (playing_generation c) (playing_block c) (reverse received) ≡ false → (more : ℕ) (tails : List ℕ) →
      WalksTo x (looked_times (looks session.depth (playing_generation c) (playing_block c) rest) x) more tails → WalksTo x (looked_fully session c x) more tails
  look_up_goes free more tails w =
      subst (λ b. WalksTo x (looked_times (if b then 0 else looks session.depth (playing_generation c) (playing_block c) (unreceived_of x)) x) more tails) (sym (held_is ∙ free))
      (subst (λ l. WalksTo x (looked_times (looks session.depth (playing_generation c) (playing_block c) l) x) more tails) (sym (unreceived_is received rest x sent got)) w)

-- a look-up that finds no more
pub look_up_to_the_end : (session : Session) (c : Core) (received rest : List Kind) (x : TrackState) → x.sent ≡ reverse (received ++ rest) → x.received ≡ length received →
    first_is_held session.depth (playing_generation c) (playing_block c) (reverse received) ≡ false → list_all (is_free session.depth (playing_generation c) (playing_block c)) rest ≡ true →
    WalksTo x (looked_fully session c x) (length rest) ((length received + length rest) ∷ [])
look_up_to_the_end session c received rest x sent got first free = look_up_goes session c received rest x sent got first (length rest) ((length received + length rest) ∷ [])
    (walks_to_the_end session.depth (playing_generation c) (playing_block c) received rest x sent got free)

-- a look-up that ends at a held item
pub look_up_to_the_held : (session : Session) (c : Core) (received free : List Kind) (h : Kind) (rest : List Kind) (x : TrackState) → x.sent ≡ reverse (received ++ (free ++ h ∷ rest)) →
    x.received ≡ length received → first_is_held session.depth (playing_generation c) (playing_block c) (reverse received) ≡ false →
    list_all (is_free session.depth (playing_generation c) (playing_block c)) free ≡ true → is_held session.depth (playing_generation c) (playing_block c) h ≡ true →
    WalksTo x (looked_fully session c x) (suc (length free)) []
look_up_to_the_held session c received free h rest x sent got first all held = look_up_goes session c received (free ++ h ∷ rest) x sent got first (suc (length free)) []
    (walks_to_the_held session.depth (playing_generation c) (playing_block c) received free h rest x sent got all held)
