use Rattle.std.proofs.Common.{◌≡◌, ℕ, ◌+◌, ◌≤◌, List, length, arith, Option, ◌∙◌, sym, ap, subst, Some, None, IfSome, take, drop}
use Rattle.std.specs.Prelude.{ℤ, is_some}
use Rattle.std.proofs.lemmas.List.{length-map}
use Rattle.std.specs.Map.{lookup}
use Rattle.lru.specs.LruCache.{promoted}
use Rattle.audio_source.specs.declared.line.LineName.{LineName}
use Rattle.audio_source.specs.Lines.{same_line}
use Rattle.audio_source.specs.Slots.{used, LineStore, line_store, lines_in, slot_samples, AreSlots}
use Rattle.audio_source.proofs.SlotLaws as slots
use Rattle.audio_source.proofs.SlotLaws.{IsFoundAt}
use Rattle.audio_source.proofs.StoreLaws as laws
use Rattle.audio_source.proofs.lines.Lines.show.Goals as goal
use Rattle.audio_source.proofs.lines.Lines.show.Goals.{In-Some, In_default}

found : (c : In-Some) → IsFoundAt c.self.inside.slots.entries c.args.name c.in-Some.slot
found c = slots.found_at c.self.inside.slots.entries c.args.name c.in-Some.slot c.slot_of.ensures.apart (sym c.slot_of.ensures.found ∙ c.in-Some.is)

pub copy_line-requires-clause-slot : goal.copy_line-requires-clause-slot
copy_line-requires-clause-slot c = slots.slot_below c.self.inside.slots.entries c.args.name c.in-Some.slot (found (goal.at.copy_line-requires-clause-slot c).In-Some) c.self.invariant.slots

pub copy_line-requires-clause-within : goal.copy_line-requires-clause-within
copy_line-requires-clause-within c = subst (λ (s : LineStore). c.args.from + length c.args.out.now ≤ s.room) (sym c.self.view_is) c.requires

pub invariant_of-self : goal.invariant_of-self
invariant_of-self c = let es = c.self.inside.slots.entries in let is = found (goal.at.invariant_of-self c).In-Some in record {
  slots = subst AreSlots (sym (ap (λ x. x.entries) c.promote.ensures.entries)) (slots.promoted_slots es c.in-Some.slot (c.in-Some.slot, Some is.held) is.entry c.self.invariant.slots);
  few = c.self.invariant.few;
  long = c.self.invariant.long;
  range = c.self.invariant.range;
}

pub returns-clause-found : goal.returns-clause-found
returns-clause-found c = sym (ap is_some (laws.held_found c.self.inside.room c.self.inside.samples.items c.args.name (used c.self.inside.slots.entries) c.args.self.now.held (ap (λ (s : LineStore). s.held) c.self.view_is)
    c.in-Some.slot (sym c.slot_of.ensures.found ∙ c.in-Some.is)))

pub returns-clause-held : goal.returns-clause-held
returns-clause-held c = let s = c.self.inside in let es = s.slots.entries in let is = found (goal.at.returns-clause-held c).In-Some in
    ap (λ l. line_store s.room (lines_in s.room s.samples.items (used l))) (ap (λ x. x.entries) c.promote.ensures.entries)
    ∙ ap (λ us. line_store s.room (lines_in s.room s.samples.items us)) (slots.used_promoted es c.args.name c.in-Some.slot is)
    ∙ ap (line_store s.room) (sym (laws.held_promoted s.room s.samples.items c.args.name (used es) c.args.self.now.held (ap (λ (x : LineStore). x.held) c.self.view_is)))
    ∙ ap (λ n. line_store n (promoted (same_line c.args.name) c.args.self.now.held)) (ap (λ (x : LineStore). x.room) c.self.view_is)

pub returns-clause-out : goal.returns-clause-out
returns-clause-out c = let s = c.self.inside in
    subst (λ o. IfSome o (λ samples. c.copy_line.new.out ≡ take (length c.args.out.now) (drop c.args.from samples)))
    (sym (laws.held_found s.room s.samples.items c.args.name (used s.slots.entries) c.args.self.now.held (ap (λ (x : LineStore). x.held) c.self.view_is) c.in-Some.slot (sym c.slot_of.ensures.found ∙ c.in-Some.is)))
    (subst (λ l. c.copy_line.new.out ≡ take (length c.args.out.now) (drop c.args.from (slot_samples s.room l c.in-Some.slot))) c.as_slice.ensures.value c.copy_line.ensures.out)

none : (c : In_default) → ◌≡◌ (lookup (same_line c.args.name) c.args.self.now.held) None
none c = let s = c.self.inside in laws.held_none s.room s.samples.items c.args.name (used s.slots.entries) c.args.self.now.held (ap (λ (x : LineStore). x.held) c.self.view_is) (sym c.slot_of.ensures.found ∙ c.in_default.is)

pub returns-in_default-clause-found : goal.returns-in_default-clause-found
returns-in_default-clause-found c = sym (ap is_some (none c))

pub returns-in_default-clause-held : goal.returns-in_default-clause-held
returns-in_default-clause-held c = ap (line_store c.args.self.now.room) (sym (laws.promoted_none (same_line c.args.name) c.args.self.now.held (none c)))

pub returns-in_default-clause-out : goal.returns-in_default-clause-out
returns-in_default-clause-out c = subst (λ o. IfSome o (λ samples. c.args.out.now ≡ take (length c.args.out.now) (drop c.args.from samples))) (sym (none c)) tt

few : (es : List (ℕ × Option LineName)) (room : ℕ) (samples : List ℤ) (held : List (LineName × List ℤ)) → lines_in room samples (used es) ≡ held → AreSlots es → length held ≤ 64
few es room samples held view are =
    let same : length (lines_in room samples (used es)) ≡ length (used es) = length-map (used es) (λ u. (u.0, slot_samples room samples u.1)) in
    omega (arith, ap length view, same, slots.few_used es, are.many)

pub returns-clause-few : goal.returns-clause-few
returns-clause-few c = let s = c.self.inside in few s.slots.entries s.room s.samples.items c.args.self.now.held (ap (λ (x : LineStore). x.held) c.self.view_is) c.self.invariant.slots

pub returns-in_default-clause-few : goal.returns-in_default-clause-few
returns-in_default-clause-few c = let s = c.self.inside in few s.slots.entries s.room s.samples.items c.args.self.now.held (ap (λ (x : LineStore). x.held) c.self.view_is) c.self.invariant.slots
