-- The place after a frame's is that of the next frame.
use Rattle.std.proofs.Common.{◌≡◌, ℕ, ◌+◌, ◌-◌, ◌%◌, ◌<◌, ◌≤◌, Some, None, inl, inr, sym, subst, arith, ◌∙◌}
use Rattle.std.specs.Prelude.{if◌then◌else◌, Option, nat_eq, IfSome}
use Rattle.std.specs.Option.{option_map}
use Rattle.std.proofs.lemmas.Bool.{lt-ltb, le-leb, cases_lt}
use Rattle.std.proofs.Math.Nat.{mod-add-mod, mod_self, mod-eq_of_lt, mod-lt}
use Rattle.engine_model.specs.Transport as engine
use Rattle.engine_model.specs.Transport.{place_from, place_of}
use Rattle.locate_loop.specs.declared.transport.Wrap.{Wrap}
use Rattle.locate_loop.specs.declared.transport.Transport.{Transport}
use Rattle.locate_loop.specs.Transport.{wrap_of, transport_of, IsWrap, IsTransport, after_in, place_after}

-- one step further round m places
turned : (x m : ℕ) → 0 < m → (x + 1) % m ≡ (if nat_eq (x % m + 1) m then 0 else x % m + 1)
turned x m some = let low : x % m < m = mod-lt x some in elim (cases_lt (x % m + 1) m) [
  | inl lt ↦ sym (mod-add-mod x m 1) ∙ mod-eq_of_lt lt ∙ grind (arith, lt)
  | inr ge ↦ let full : x % m + 1 ≡ m = omega (arith, low, ge) in
      sym (mod-add-mod x m 1) ∙ subst (λ n. n % m ≡ 0) (sym full) (mod_self m) ∙ grind (arith, full)
]

-- before the loop's end, at it, and past it
straight : (target : ℕ) (w : engine.Wrap) (n : ℕ) → target + n + 1 < w.to → after_in target (Some w) (place_from target (Some w) n) ≡ place_from target (Some w) (n + 1)
straight target w n lt = grind (arith, lt)

at_the_end : (target : ℕ) (w : engine.Wrap) (n : ℕ) → target + n + 1 ≡ w.to → after_in target (Some w) (place_from target (Some w) n) ≡ place_from target (Some w) (n + 1)
at_the_end target w n end = grind (arith, end)

round : (target : ℕ) (w : engine.Wrap) (n : ℕ) → w.from < w.to → target < w.to → w.to ≤ target + n → after_in target (Some w) (place_from target (Some w) n) ≡ place_from target (Some w) (n + 1)
round target w n some before past = let x = target + n - w.to in let m = w.to - w.from in let low : x % m < m = mod-lt x (omega arith) in
    let next : target + (n + 1) - w.to ≡ x + 1 = omega arith in
    grind (arith, some, before, past, low, next, turned x m (omega arith), lt-ltb target w.to before, le-leb w.to (target + n) past)

beyond : (target : ℕ) (w : engine.Wrap) (n : ℕ) → w.to ≤ target → after_in target (Some w) (place_from target (Some w) n) ≡ place_from target (Some w) (n + 1)
beyond target w n past = grind (arith, past)

round_or_not : (target : ℕ) (w : engine.Wrap) (n : ℕ) → w.from < w.to → after_in target (Some w) (place_from target (Some w) n) ≡ place_from target (Some w) (n + 1)
round_or_not target w n some = elim (cases_lt target w.to) [
  | inl before ↦ elim (cases_lt (target + n) w.to) [
    | inl lt ↦ elim (cases_lt (target + n + 1) w.to) [ inl short ↦ straight target w n short | inr ge ↦ at_the_end target w n (omega arith) ]
    | inr past ↦ round target w n some before past
  ]
  | inr past ↦ beyond target w n past
]

next_in : (target : ℕ) (wrap : Option Wrap) (n : ℕ) → IfSome wrap IsWrap → after_in target (option_map wrap_of wrap) (place_from target (option_map wrap_of wrap) n) ≡ place_from target (option_map wrap_of wrap) (n + 1)
next_in target None n bounds = grind arith
next_in target (Some w) n bounds = round_or_not target (wrap_of w) n bounds.some

pub next_place : (t : Transport) (n : ℕ) → IsTransport t → place_after (transport_of t) (place_of (transport_of t) n) ≡ place_of (transport_of t) (n + 1)
unfolding place_after
next_place t n bounds = next_in t.target t.wrap n bounds.wrap
