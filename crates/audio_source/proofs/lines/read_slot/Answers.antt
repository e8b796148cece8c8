use Rattle.std.proofs.Common.{◌≡◌, ℕ, ◌<◌, ◌≤◌, ◌+◌, ◌-◌, ◌*◌, ◌%◌, arith, length, ◌∙◌, ap, sym, take, drop, subst, List}
use Rattle.std.specs.Prelude.{ℤ, All}
use Rattle.std.proofs.lemmas.List.{length-take-le, length-drop}
use Rattle.std.proofs.Math.Nat.{mul-mod_left}
use borrow.Rule.Slice.PartMut.{put_mid}
use Rattle.sound_model.specs.Wav.{sound}
use Rattle.ses_io.specs.Files.{content}
use Rattle.wav_codec.specs.Info.{head_of}
use Rattle.session_model.specs.Frames.{interleaved, IsSample}
use Rattle.audio_source.specs.Slots.{slot_samples}
use Rattle.audio_source.proofs.StoreLaws as laws
use Rattle.audio_source.proofs.lines.read_slot.Goals as goal

-- the part that is written is as long as the line
part : (first n : ℕ) (samples : List ℤ) → first + n ≤ length samples → length (take (first + n - first) (drop first samples)) ≡ n
part first n samples fits = let same : first + n - first ≡ n = omega arith in ap (λ m. length (take m (drop first samples))) same ∙ length-take-le n (drop first samples) (omega (arith, length-drop first samples))

inside : (room slot n : ℕ) (samples : List ℤ) → slot < 64 → n ≤ room → length samples ≡ 64 * room → slot * room + n ≤ length samples
inside room slot n samples below fits long = omega (arith, laws.row room slot 64 below, fits, long)

written : (first n : ℕ) (samples piece : List ℤ) → put_mid first (first + n - first) samples piece ≡ put_mid first n samples piece
written first n samples piece = ap (λ m. put_mid first m samples piece) (omega arith)

pub span-requires-clause-whole : goal.span-requires-clause-whole
span-requires-clause-whole g c = let a = c.args in let r = c.requires in let n = 4096 * a.entry.now.info.channels in
    ap (λ m. m % a.entry.now.info.channels) (part (a.slot * a.room) n a.samples.now (inside a.room a.slot n a.samples.now r.slot r.room r.long)) ∙ mul-mod_left 4096 a.entry.now.info.channels

pub returns-clause-told : goal.returns-clause-told
returns-clause-told g c = λ t. let a = c.args in let r = c.requires in let n = 4096 * a.entry.now.info.channels in let fits = inside a.room a.slot n a.samples.now r.slot r.room r.long in
    let long : length c.span.new.out ≡ n = c.span.auto.out ∙ part (a.slot * a.room) n a.samples.now fits in
    ap (λ l. take n (slot_samples a.room l a.slot)) (written (a.slot * a.room) n a.samples.now c.span.new.out)
    ∙ laws.this_is a.room a.slot n a.samples.now c.span.new.out r.room long r.long r.slot
    ∙ c.in_ok-span.ensures.told t
    ∙ ap (λ m. interleaved (sound (head_of a.entry.now.info) (content (g.M.Media.outside.files a.media.now) a.entry.now.file)) a.entry.now.info.channels (4096 * a.line) m)
    (part (a.slot * a.room) n a.samples.now fits)

pub returns-clause-others : goal.returns-clause-others
returns-clause-others g c = λ j other. let a = c.args in let r = c.requires in let n = 4096 * a.entry.now.info.channels in let fits = inside a.room a.slot n a.samples.now r.slot r.room r.long in
    let long : length c.span.new.out ≡ n = c.span.auto.out ∙ part (a.slot * a.room) n a.samples.now fits in
    ap (λ l. slot_samples a.room l j) (written (a.slot * a.room) n a.samples.now c.span.new.out)
    ∙ laws.others_stay a.room a.slot n a.samples.now c.span.new.out r.room long r.long r.slot j other

pub returns-clause-range : goal.returns-clause-range
returns-clause-range g c = let a = c.args in let r = c.requires in let n = 4096 * a.entry.now.info.channels in let fits = inside a.room a.slot n a.samples.now r.slot r.room r.long in
    let long : length c.span.new.out ≡ n = c.span.auto.out ∙ part (a.slot * a.room) n a.samples.now fits in
    subst (All IsSample) (sym (written (a.slot * a.room) n a.samples.now c.span.new.out)) (laws.range_stays a.room a.slot n a.samples.now c.span.new.out r.room long r.long r.slot r.range c.in_ok-span.ensures.range)
