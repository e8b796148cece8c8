-- A line goes on by its step and what is left over.
use Rattle.std.proofs.Common.{◌≡◌, ℕ, ◌+◌, ◌*◌, ◌/◌, ◌<◌, ◌≤◌, refl, sym, ap, ◌∙◌, arith}
use Rattle.std.proofs.Math.Nat.{mul-le-mul}
use Rattle.std.proofs.lemmas.Nat.{div-mul-add}
use Rattle.ramp_fixed.specs.declared.line.Line.{Line}
use Rattle.ramp_fixed.specs.Lines.{IsOnLine, IsSmall}

pub line_value : (line : Line) (rise lift k : ℕ) → IsOnLine line rise lift k → line.value ≡ (rise * k + lift) / line.over
line_value line rise lift k on = sym (div-mul-add line.value line.over line.rest on.rest) ∙ ap (λ n. n / line.over) on.value

less-than-whole : (a b : ℕ) → 0 < b → a ≤ a * b
less-than-whole a b some = let one : a * 1 ≤ a * b = mul-le-mul (omega arith) some in omega arith

pub line_small : (line : Line) (rise lift k : ℕ) → IsOnLine line rise lift k → rise ≤ 262144 → lift ≤ 1099511627776 → k ≤ 2199023255552 → line.over ≤ 1099511627776 → IsSmall line
line_small line rise lift k on r l f o =
    let some : 0 < line.over = let h = on.rest in omega arith in
    let first = less-than-whole line.value line.over some in
    let second = less-than-whole line.step line.over some in
    let far : rise * k ≤ 262144 * 2199023255552 = mul-le-mul r f in
    record {
      value = omega (arith, on.value, first, far);
      step = omega (arith, on.step, second);
      rest = omega (arith, on.rest);
      more = omega (arith, on.more);
    }

-- along a fade of unity
pub fade_on_line : (line : Line) (k over : ℕ) → IsOnLine line 65536 0 k → line.over ≡ over → line.value ≡ 65536 * k / over
fade_on_line line k over on e = line_value line 65536 0 k on ∙ (let flat : 65536 * k + 0 ≡ 65536 * k = omega arith in rw (flat, e) refl)
