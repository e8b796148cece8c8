use Rattle.std.proofs.Common.{◌≡◌, ◌≢◌, ℕ, ◌∷◌, ◌++◌, length, take, drop, arith, ◌∙◌, ap, sym, subst}
use Rattle.std.specs.Prelude.{All}
use Rattle.session_model.specs.Frames.{IsSample}
use Rattle.audio_source.specs.Slots.{used, LineStore, lines_in, slot_samples}
use Rattle.audio_source.proofs.SlotLaws as slots
use Rattle.audio_source.proofs.StoreLaws as laws
use Rattle.audio_source.proofs.lines.Lines.read.Given.{Over}
use Rattle.audio_source.proofs.lines.Lines.read.Goals as goal
use Rattle.audio_source.proofs.lines.Lines.read.Goals.{After-give_slot}

-- the samples, as they are written back
back : (g : Over) (c : After-give_slot g) → take c.self.inside.samples.len (c.read_slot.new.samples ++ drop (length c.read_slot.new.samples) c.self.inside.samples.items) ≡ c.read_slot.new.samples
back g c = let s = c.self.inside.samples in laws.written_back s.len s.items c.read_slot.new.samples (omega (arith, s.ok.0)) (c.read_slot.auto.samples ∙ ap length c.as_mut_slice-samples.ensures.value)

pub invariant_of-self-2 : goal.invariant_of-self-2
invariant_of-self-2 g c = let s = c.self.inside.samples in record {
  slots = c.give_slot.ensures.slots;
  few = c.self.invariant.few;
  long = ap length (back g c) ∙ c.read_slot.auto.samples ∙ ap length c.as_mut_slice-samples.ensures.value ∙ c.self.invariant.long;
  range = subst (All IsSample) (sym (back g c)) c.in_ok-read_slot.ensures.range;
}

pub returns-clause-read : goal.returns-clause-read
returns-clause-read g c =
    let room = c.self.inside.room in let old = c.self.inside.samples.items in let new = c.read_slot.new.samples in let slot = c.last_slot-slot.result in let us = used c.self.inside.slots.entries in
    let others : (j : ℕ) → j ≢ slot → slot_samples room new j ≡ slot_samples room old j = λ j other. c.in_ok-read_slot.ensures.others j other ∙ ap (λ l. slot_samples room l j) c.as_mut_slice-samples.ensures.value in
    record {
      samples = slot_samples room new slot;
      held = ap (λ l. lines_in room l (used c.give_slot.new.slots.entries)) (back g c)
          ∙ ap (lines_in room new) c.give_slot.ensures.used
          ∙ ap (λ l. (c.args.name, slot_samples room new slot) ∷ l) (laws.lines_stay room slot old new others (take 63 us) (slots.given_alone c.self.inside.slots.entries slot c.args.name c.self.invariant.slots c.last_slot-slot.ensures)
          ∙ laws.take_lines room 63 old us ∙ ap (take 63) (ap (λ (x : LineStore). x.held) c.self.view_is));
      read = λ t. c.in_ok-read_slot.ensures.told t;
    }
