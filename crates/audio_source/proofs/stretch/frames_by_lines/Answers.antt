use Rattle.std.proofs.Common.{◌≡◌, ◌+◌, ◌-◌, ◌*◌, ◌/◌, ◌%◌, ◌≤◌, arith, length, ◌∙◌, ap, sym, subst, refl, List, ◌++◌, ◌⊎◌, IfSome, Option, Some, None}
use Rattle.std.specs.Prelude.{ℤ, All, Contains}
use Rattle.std.specs.Map.{keys_of, lookup}
use Rattle.std.proofs.lemmas.List.Elements.{All-append}
use Rattle.std.proofs.Math.Nat.{mul-mod_left}
use Rattle.sound_model.specs.Wav.{sound}
use Rattle.ses_io.specs.Files.{Files, content}
use Rattle.wav_codec.specs.Info.{head_of}
use Rattle.session_model.specs.Frames.{interleaved, IsSample}
use Rattle.audio_source.specs.declared.line.LineName.{LineName}
use Rattle.audio_source.specs.Lines.{line_name, same_line, after_asking, asked_line, asked_of, IsFaultAt}
use Rattle.audio_source.specs.Slots.{IsLineOf}
use Rattle.audio_source.proofs.LineLaws as laws
use Rattle.audio_source.proofs.LineLaws.{IsSplit}
use Rattle.audio_source.proofs.stretch.frames_by_lines.Given.{Over}
use Rattle.audio_source.proofs.stretch.frames_by_lines.Goals as goal
use Rattle.audio_source.proofs.stretch.frames_by_lines.Goals.{After-min-split, After-split_at_mut-front, In-Ok, In-Ok-piece}

split : (g : Over) (c : After-min-split g) → IsSplit c.args.entry.now.info.channels c.args.from (length c.args.out.now) c.min-split.result
split g c = record { low = c.requires.readable.found.form.one_channel; whole = c.requires.whole; few = c.requires.few; at = c.min-split.ensures }

pub piece-requires-clause-whole : goal.piece-requires-clause-whole
piece-requires-clause-whole g c = mul-mod_left (c.args.from % 4096) c.args.entry.now.info.channels

abbrev first : (g : Over) (c : After-min-split g) → LineName
first g c = line_name c.args.source (c.args.from / 4096)

-- what is known of a line that was read, by the files as they were
abbrev Read : (g : Over) (c : After-min-split g) → LineName × List ℤ → Type 0
Read g c l = (l.0.source ≡ c.args.source) × (g.M.Media.outside.tells → IsLineOf (g.M.Media.outside.files c.args.media.now) c.args.entry.now l.0.line l.1)

abbrev second : (g : Over) (c : After-min-split g) → LineName
second g c = line_name c.args.source (c.args.from / 4096 + 1)

inside : (g : Over) (c : After-min-split g) → c.min-split.result ≤ length c.args.out.now
inside g c = laws.split_inside c.args.entry.now.info.channels c.args.from (length c.args.out.now) c.min-split.result (split g c)

-- the lines that are asked
asked_both : (g : Over) (c : After-min-split g) → asked_of c.args.source c.args.entry.now.info.channels c.args.entry.now.info.frames c.args.from (length c.args.out.now)
    ≡ asked_line c.args.source c.args.entry.now.info.frames (c.args.from / 4096) c.min-split.result ++ asked_line c.args.source c.args.entry.now.info.frames (c.args.from / 4096 + 1) (length c.args.out.now - c.min-split.result)
asked_both g c = ap (λ m. asked_line c.args.source c.args.entry.now.info.frames (c.args.from / 4096) m ++ asked_line c.args.source c.args.entry.now.info.frames (c.args.from / 4096 + 1) (length c.args.out.now - m)) (sym c.min-split.ensures)

-- the length of the first part, and that of the second
long_first : (g : Over) (c : After-split_at_mut-front g) → length c.split_at_mut-front.result.0.now ≡ c.min-split.result
long_first g c = c.split_at_mut-front.ensures.front_len

long_second : (g : Over) (c : After-split_at_mut-front g) → length c.split_at_mut-front.result.1.now ≡ length c.args.out.now - c.min-split.result
long_second g c = omega (arith, c.split_at_mut-front.ensures.back_len)

stays_first : (g : Over) (c : In-Ok g) → All (λ l. Contains c.args.lines.now.held l ⊎ Read g (goal.at.In-Ok g c).After-min-split l) c.piece.new.lines.held
stays_first g c = let start = (goal.at.In-Ok g c).After-min-split in
    laws.stays_once (Read g start) (first g start) (λ samples. g.M.Media.outside.tells → IsLineOf (g.M.Media.outside.files c.args.media.now) c.args.entry.now (c.args.from / 4096) samples)
    c.args.lines.now.held c.piece.new.lines.held c.piece.ensures.holds (λ samples read. (refl, read))

stays_second : (g : Over) (c : In-Ok-piece g) → All (λ l. Contains c.piece.new.lines.held l ⊎ Read g (goal.at.In-Ok g (goal.at.In-Ok-piece g c).In-Ok).After-min-split l) c.piece-in-Ok.new.lines.held
stays_second g c = let start = (goal.at.In-Ok g (goal.at.In-Ok-piece g c).In-Ok).After-min-split in
    laws.stays_once (Read g start) (second g start) (λ samples. g.M.Media.outside.tells → IsLineOf (g.M.Media.outside.files c.piece.new.media) c.args.entry.now (c.args.from / 4096 + 1) samples)
    c.piece.new.lines.held c.piece-in-Ok.new.lines.held c.piece-in-Ok.ensures.holds
    (λ samples read. (refl, λ t. let K : Files → Type 0 = λ files. IsLineOf files c.args.entry.now (c.args.from / 4096 + 1) samples in subst K c.piece.ensures.only_reads.files (read t)))

found_of : (name : LineName) (held : List (LineName × List ℤ)) (Q : List ℤ → Type 0) (P : List ℤ → Type 0) → ((samples : List ℤ) → P samples → Q samples) → IfSome (lookup (same_line name) held) P → IfSome (lookup (same_line name) held) Q
found_of name held Q P read = by (lookup (same_line name) held)
  where
    by : (o : Option (List ℤ)) → IfSome o P → IfSome o Q
    by None h = tt
    by (Some s) h = read s h

pub returns-in-Ok-piece-clause-told : goal.returns-in-Ok-piece-clause-told
returns-in-Ok-piece-clause-told g c = λ t held. let a = c.args in let info = a.entry.now.info in let in_ok = (goal.at.returns-in-Ok-piece-clause-told g c).In-Ok in let start = (goal.at.In-Ok g in_ok).After-min-split in
    let f = sound (head_of info) (content (g.M.Media.outside.files a.media.now) a.entry.now.file) in let m = c.min-split.result in
    let Line : LineName × List ℤ → Type 0 = λ l. l.0.source ≡ a.source → IsLineOf (g.M.Media.outside.files a.media.now) a.entry.now l.0.line l.1 in
    let found_one = found_of (first g start) a.lines.now.held (IsLineOf (g.M.Media.outside.files a.media.now) a.entry.now (a.from / 4096)) (λ samples. Line (first g start, samples)) (λ samples is. is refl) (laws.found_holds Line (first g start) a.lines.now.held held) in
    let later : All Line c.piece.new.lines.held = laws.holds_still (Read g start) Line a.lines.now.held c.piece.new.lines.held held (λ l is. λ e. is.1 t) (stays_first g in_ok) in
    let K : Files → Type 0 = λ files. IfSome (lookup (same_line (second g start)) c.piece.new.lines.held) (IsLineOf files a.entry.now (a.from / 4096 + 1)) in
    let found_two = subst K (sym c.piece.ensures.only_reads.files)
    (found_of (second g start) c.piece.new.lines.held (IsLineOf (g.M.Media.outside.files a.media.now) a.entry.now (a.from / 4096 + 1)) (λ samples. Line (second g start, samples)) (λ samples is. is refl) (laws.found_holds Line (second g start) c.piece.new.lines.held later)) in
    let one = c.in-Ok.ensures.told t found_one in
    let two = c.in-Ok-piece.ensures.told t found_two in
    let parts = (goal.at.In-Ok g in_ok).After-split_at_mut-front in
    laws.both_lines info.channels a.from (length a.out.now) m (split g start) f a.out.now c.piece.new.out c.piece-in-Ok.new.out refl (c.piece.auto.out ∙ long_first g parts)
    (one ∙ ap (interleaved f info.channels (4096 * (a.from / 4096) + a.from % 4096 * info.channels / info.channels)) (long_first g parts))
    (let F : Files → Type 0 = λ files. c.piece-in-Ok.new.out ≡ interleaved (sound (head_of info) (content files a.entry.now.file)) info.channels (4096 * (a.from / 4096 + 1) + 0 / info.channels) (length a.out.now - m) in
    subst F c.piece.ensures.only_reads.files (two ∙ ap (interleaved (sound (head_of info) (content (g.M.Media.outside.files c.piece.new.media) a.entry.now.file)) info.channels (4096 * (a.from / 4096 + 1) + 0 / info.channels)) (long_second g parts)))

pub returns-in-Ok-piece-clause-range : goal.returns-in-Ok-piece-clause-range
returns-in-Ok-piece-clause-range g c = All-append IsSample c.piece.new.out c.piece-in-Ok.new.out c.in-Ok.ensures.range c.in-Ok-piece.ensures.range

pub returns-in-Ok-piece-clause-holds : goal.returns-in-Ok-piece-clause-holds
returns-in-Ok-piece-clause-holds g c = let in_ok = (goal.at.returns-in-Ok-piece-clause-holds g c).In-Ok in
    laws.stays_twice (Read g (goal.at.In-Ok g in_ok).After-min-split) c.args.lines.now.held c.piece.new.lines.held c.piece-in-Ok.new.lines.held (stays_first g in_ok) (stays_second g (goal.at.returns-in-Ok-piece-clause-holds g c).In-Ok-piece)

pub returns-in-Err-piece-clause-fault : goal.returns-in-Err-piece-clause-fault
returns-in-Err-piece-clause-fault g c = let a = c.args in let frames = a.entry.now.info.frames in let in_ok = (goal.at.returns-in-Err-piece-clause-fault g c).In-Ok in let start = (goal.at.In-Ok g in_ok).After-min-split in
    let m = c.min-split.result in let n = length a.out.now in
    let parts = (goal.at.In-Ok g in_ok).After-split_at_mut-front in
    subst (λ asked. IsFaultAt asked (keys_of a.lines.now.held) (keys_of c.piece-in-Ok.new.lines.held)) (sym (asked_both g start))
    (laws.fault_second (second g start) frames (length c.split_at_mut-front.result.1.now) a.lines.now.held c.piece.new.lines.held c.piece-in-Ok.new.lines.held
    (asked_line a.source frames (a.from / 4096) m) (asked_line a.source frames (a.from / 4096 + 1) (n - m)) c.in-Err-piece.ensures.fault
    (ap (asked_line a.source frames (a.from / 4096 + 1)) (sym (long_second g parts)) ∙ c.in-Err-piece.ensures.fault.asked)
    (c.in-Ok.ensures.lines ∙ ap (λ k. after_asking (asked_line a.source frames (a.from / 4096) k) (keys_of a.lines.now.held)) (long_first g parts)))

pub returns-in-Err-clause-fault : goal.returns-in-Err-clause-fault
returns-in-Err-clause-fault g c = let a = c.args in let frames = a.entry.now.info.frames in let start = (goal.at.returns-in-Err-clause-fault g c).After-min-split in
    let m = c.min-split.result in let n = length a.out.now in
    subst (λ asked. IsFaultAt asked (keys_of a.lines.now.held) (keys_of c.piece.new.lines.held)) (sym (asked_both g start))
    (laws.fault_first (first g start) frames (length c.split_at_mut-front.result.0.now) a.lines.now.held c.piece.new.lines.held
    (asked_line a.source frames (a.from / 4096) m) (asked_line a.source frames (a.from / 4096 + 1) (n - m)) c.in-Err.ensures.fault
    (ap (asked_line a.source frames (a.from / 4096)) (sym (long_first g (goal.at.returns-in-Err-clause-fault g c).After-split_at_mut-front)) ∙ c.in-Err.ensures.fault.asked))
