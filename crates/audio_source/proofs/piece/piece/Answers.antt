use Rattle.std.proofs.Common.{◌≡◌, ◌*◌, ◌+◌, ◌/◌, arith, length, ◌∙◌, ap, sym, subst, take, drop, Some, None, IfSome, Option, List, [], ◌∷◌, true}
use Rattle.std.specs.Prelude.{ℤ, is_some}
use Rattle.std.specs.Map.{keys_of, lookup}
use Rattle.sound_model.specs.Wav.{sound}
use Rattle.ses_io.specs.Files.{content}
use Rattle.wav_codec.specs.Info.{head_of}
use Rattle.audio_source.specs.Lines.{same_line, after_asking, asked_line}
use Rattle.audio_source.specs.Slots.{LineStore, IsLineOf, IsRead, StaysHeld}
use Rattle.audio_source.proofs.PieceLaws as laws
use Rattle.audio_source.proofs.StretchLaws as stretch
use Rattle.audio_source.proofs.piece.piece.Given.{Over}
use Rattle.audio_source.proofs.piece.piece.Goals as goal
use Rattle.audio_source.proofs.piece.piece.Goals.{Else-name-entry, In-Ok, In-Err}

pub overflow_add-entry : goal.overflow_add-entry
overflow_add-entry g c = omega (arith, stretch.few_frames c.args.entry.now.info c.requires.readable.found)

pub returns-then-name-entry-clause-told : goal.returns-then-name-entry-clause-told
returns-then-name-entry-clause-told g c = λ t held. let a = c.args in let info = a.entry.now.info in c.silence.ensures
    ∙ laws.silent_past (head_of info) (content (g.M.Media.outside.files a.media.now) a.entry.now.file) info.channels (4096 * a.name.line + a.skip / info.channels) (length a.out.now)
    (omega (arith, c.if-name-entry.true))

-- the line is asked
asked : (g : Over) (c : Else-name-entry g) → asked_line c.args.name.source c.args.entry.now.info.frames c.args.name.line (length c.args.out.now) ≡ c.args.name ∷ []
asked g c = laws.is_asked c.args.name c.args.entry.now.info.frames (length c.args.out.now) (laws.some_there (length c.args.out.now) c.if-is_empty.ensures) (omega (arith, c.if-name-entry.false))

-- the front of shown samples is the line's part
part : (P : List ℤ → Type 0) (o : Option (List ℤ)) (Q : List ℤ → Type 0) → IfSome o P → IfSome o Q → is_some o ≡ true → (s : List ℤ) × P s × Q s
part P (Some s) Q p q there = (s, p, q)
part P None Q p q there = absurd cc

pub returns-then-show-clause-told : goal.returns-then-show-clause-told
returns-then-show-clause-told g c = λ t held. let a = c.args in let info = a.entry.now.info in
    let is = part (IsLineOf (g.M.Media.outside.files a.media.now) a.entry.now a.name.line) (lookup (same_line a.name) a.lines.now.held) (λ samples. c.show.new.out ≡ take (length a.out.now) (drop a.skip samples)) held c.show.ensures.out
    (sym c.show.ensures.found ∙ c.if-show.true) in
    is.2 ∙ laws.line_part (sound (head_of info) (content (g.M.Media.outside.files a.media.now) a.entry.now.file)) info.channels (4096 * a.name.line) (4096 * info.channels) a.skip (length a.out.now) is.0
    c.requires.readable.found.form.one_channel c.requires.whole c.requires.within is.1

pub returns-then-show-clause-lines : goal.returns-then-show-clause-lines
returns-then-show-clause-lines g c = let a = c.args in
    ap (λ (x : LineStore). keys_of x.held) c.show.ensures.held ∙ laws.shown_keys a.name a.lines.now.held (sym c.show.ensures.found ∙ c.if-show.true) c.show.ensures.few
    ∙ ap (λ asked. after_asking asked (keys_of a.lines.now.held)) (sym (asked g (goal.at.returns-then-show-clause-lines g c).Else-name-entry))

pub returns-then-show-clause-holds : goal.returns-then-show-clause-holds
returns-then-show-clause-holds g c = let a = c.args in
    subst (λ (x : LineStore). StaysHeld a.name (λ samples. g.M.Media.outside.tells → IsLineOf (g.M.Media.outside.files a.media.now) a.entry.now a.name.line samples) a.lines.now.held x.held)
    (sym c.show.ensures.held) (laws.shown_stays a.name (λ samples. g.M.Media.outside.tells → IsLineOf (g.M.Media.outside.files a.media.now) a.entry.now a.name.line samples) a.lines.now.held)

-- the line isn't held, and what was read stands over the lines as they stood
none : (g : Over) (c : In-Ok g) → lookup (same_line c.args.name) c.args.lines.now.held ≡ None
none g c = laws.not_some (lookup (same_line c.args.name) c.args.lines.now.held) (sym c.show.ensures.found ∙ c.if-show.false)

abbrev Read : (g : Over) (c : In-Ok g) → List ℤ → Type 0
Read g c samples = g.M.Media.outside.tells → IsLineOf (g.M.Media.outside.files c.args.media.now) c.args.entry.now c.args.name.line samples

read : (g : Over) (c : In-Ok g) → IsRead c.args.name c.args.lines.now.held c.read.new.self.held (Read g c)
read g c = let a = c.args in subst (λ l. IsRead a.name l c.read.new.self.held (Read g c)) (laws.not_shown a.name a.lines.now c.show.new.self (sym c.show.ensures.found ∙ c.if-show.false) c.show.ensures.held) c.in-Ok.ensures.read

pub returns-in-Ok-clause-told : goal.returns-in-Ok-clause-told
returns-in-Ok-clause-told g c = λ t held. let a = c.args in let info = a.entry.now.info in let in_ok = (goal.at.returns-in-Ok-clause-told g c).In-Ok in let is = read g in_ok in
    let out = subst (λ o. IfSome o (λ samples. c.show-in-Ok.new.out ≡ take (length c.show.new.out) (drop a.skip samples))) (laws.read_found a.name a.lines.now.held c.read.new.self.held (Read g in_ok) is) c.show-in-Ok.ensures.out in
    out ∙ ap (λ n. take n (drop a.skip is.samples)) c.show.auto.out ∙ laws.line_part (sound (head_of info) (content (g.M.Media.outside.files a.media.now) a.entry.now.file)) info.channels (4096 * a.name.line) (4096 * info.channels) a.skip (length a.out.now) is.samples
    c.requires.readable.found.form.one_channel c.requires.whole c.requires.within (is.read t)

pub returns-in-Ok-clause-lines : goal.returns-in-Ok-clause-lines
returns-in-Ok-clause-lines g c = let a = c.args in let in_ok = (goal.at.returns-in-Ok-clause-lines g c).In-Ok in
    ap (λ (x : LineStore). keys_of x.held) c.show-in-Ok.ensures.held ∙ laws.read_keys a.name a.lines.now.held c.read.new.self.held (Read g in_ok) (none g in_ok) (read g in_ok)
    ∙ ap (λ asked. after_asking asked (keys_of a.lines.now.held)) (sym (asked g (goal.at.returns-in-Ok-clause-lines g c).Else-name-entry))

pub returns-in-Ok-clause-holds : goal.returns-in-Ok-clause-holds
returns-in-Ok-clause-holds g c = let a = c.args in let in_ok = (goal.at.returns-in-Ok-clause-holds g c).In-Ok in let is = read g in_ok in
    subst (StaysHeld a.name (Read g in_ok) a.lines.now.held) (sym (ap (λ (x : LineStore). x.held) c.show-in-Ok.ensures.held ∙ laws.read_first a.name a.lines.now.held c.read.new.self.held (Read g in_ok) is))
    (laws.read_stays a.name (Read g in_ok) a.lines.now.held c.read.new.self.held is)

kept : (g : Over) (c : In-Err g) → c.read.new.self.held ≡ c.args.lines.now.held
kept g c = let a = c.args in ap (λ (x : LineStore). x.held) c.in-Err.ensures.kept ∙ laws.not_shown a.name a.lines.now c.show.new.self (sym c.show.ensures.found ∙ c.if-show.false) c.show.ensures.held

pub returns-in-Err-clause-holds : goal.returns-in-Err-clause-holds
returns-in-Err-clause-holds g c = let a = c.args in
    subst (StaysHeld a.name (λ samples. g.M.Media.outside.tells → IsLineOf (g.M.Media.outside.files a.media.now) a.entry.now a.name.line samples) a.lines.now.held) (sym (kept g (goal.at.returns-in-Err-clause-holds g c).In-Err))
    (laws.same_stays a.name (λ samples. g.M.Media.outside.tells → IsLineOf (g.M.Media.outside.files a.media.now) a.entry.now a.name.line samples) a.lines.now.held)

pub returns-in-Err-clause-fault : goal.returns-in-Err-clause-fault
returns-in-Err-clause-fault g c = let a = c.args in record {
  asked = asked g (goal.at.returns-in-Err-clause-fault g c).Else-name-entry;
  missed = laws.not_some (lookup (same_line a.name) a.lines.now.held) (sym c.show.ensures.found ∙ c.if-show.false);
  same = kept g (goal.at.returns-in-Err-clause-fault g c).In-Err;
}
