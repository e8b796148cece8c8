use Rattle.std.proofs.Common.{◌≡◌, ◌*◌, ◌%◌, ◌<◌, ◌≤◌, ◌++◌, List, length, take, drop, arith, ◌∙◌, ap, sym, subst, refl, map}
use Rattle.std.specs.Prelude.{ℤ, All, slice_index}
use Rattle.std.specs.Map.{keys_of}
use Rattle.audio_source.specs.declared.line.LineName.{LineName}
use Rattle.audio_source.specs.Opened.{OpenedSource, opened_source, channels_of, IsReadable}
use Rattle.audio_source.specs.Held.{held_line, sources_state, AreRead}
use Rattle.audio_source.specs.Slots.{IsLineOf}
use Rattle.audio_source.specs.Lines.{SourcesState, HoldsAsRead, IsAsRead, names_of, asked_in, asked_of, after_asking, IsFaultAt}
use Rattle.audio_source.proofs.HeldLaws as laws
use Rattle.audio_source.proofs.LineLaws as lines
use Rattle.audio_source.proofs.StoreLaws as store
use Rattle.audio_source.proofs.SourceLaws as sources
use Rattle.audio_source.proofs.SourceLaws.{IsEntryAt}
use Rattle.audio_source.proofs.sources.Sources.frames.Given.{Over}
use Rattle.audio_source.proofs.sources.Sources.frames.Goals as goal
use Rattle.audio_source.proofs.sources.Sources.frames.Goals.{After-index-entry, After-frames_by_lines}

entry : (g : Over) (c : After-index-entry g) → IsEntryAt c.self.inside.entries.items c.args.self.now.opened c.args.source c.index-entry.result.now
entry g c = record { view = ap (λ (x : SourcesState). x.opened) c.self.view_is; inside = c.requires.source; read = c.index-entry.ensures }

channels : (g : Over) (c : After-index-entry g) → slice_index (channels_of c.args.self.now.opened) c.args.source ≡ c.index-entry.result.now.info.channels
channels g c = sources.entry_channels c.self.inside.entries.items c.args.self.now.opened c.args.source c.index-entry.result.now (entry g c)

pub frames_by_lines-requires-clause-whole : goal.frames_by_lines-requires-clause-whole
frames_by_lines-requires-clause-whole g c = ap (λ n. length c.args.out.now % n) (sym (channels g (goal.at.frames_by_lines-requires-clause-whole g c).After-index-entry)) ∙ c.requires.whole

pub frames_by_lines-requires-clause-few : goal.frames_by_lines-requires-clause-few
frames_by_lines-requires-clause-few g c = subst (λ n. length c.args.out.now ≤ 4096 * n) (channels g (goal.at.frames_by_lines-requires-clause-few g c).After-index-entry) c.requires.few

-- what is known of a line that was read
abbrev Read : (g : Over) (c : After-frames_by_lines g) → LineName × List ℤ → Type 0
Read g c l = (l.0.source ≡ c.args.source) × (g.M.Media.outside.tells → IsLineOf (g.M.Media.outside.files c.args.media.now) c.index-entry.result.now l.0.line l.1)

-- the view of the sources, and of those that are left
opened_is : (g : Over) (c : After-frames_by_lines g) → map opened_source c.self.inside.entries.items ≡ c.args.self.now.opened
opened_is g c = ap (λ (x : SourcesState). x.opened) c.self.view_is

held_is : (g : Over) (c : After-frames_by_lines g) → map (held_line (map opened_source c.self.inside.entries.items)) c.self.inside.lines.held ≡ c.args.self.now.held
held_is g c = ap (λ (x : SourcesState). x.held) c.self.view_is

entry_is : (g : Over) (c : After-frames_by_lines g) → IsEntryAt c.self.inside.entries.items (map opened_source c.self.inside.entries.items) c.args.source c.index-entry.result.now
entry_is g c = record { view = refl; inside = subst (λ (l : List OpenedSource). c.args.source < length l) (sym (opened_is g c)) c.requires.source; read = c.index-entry.ensures }

lines_are : (g : Over) (c : After-frames_by_lines g) → HoldsAsRead (g.M.Media.outside.files c.args.media.now) c.args.self.now →
    HoldsAsRead (g.M.Media.outside.files c.args.media.now) (sources_state (map opened_source c.self.inside.entries.items) c.self.inside.lines)
lines_are g c holds = subst (HoldsAsRead (g.M.Media.outside.files c.args.media.now)) (sym c.self.view_is) holds

stays : (g : Over) (c : After-frames_by_lines g) → g.M.Media.outside.tells → HoldsAsRead (g.M.Media.outside.files c.args.media.now) c.args.self.now →
    HoldsAsRead (g.M.Media.outside.files c.args.media.now) (sources_state (map opened_source c.self.inside.entries.items) c.frames_by_lines.new.lines)
stays g c t holds = let files = g.M.Media.outside.files c.args.media.now in let es = c.self.inside.entries.items in let opened = map opened_source es in
    laws.all_held files opened c.frames_by_lines.new.lines.held
    (lines.holds_still (Read g c) (laws.AsRead files es opened c.args.source c.index-entry.result.now (entry_is g c)) c.self.inside.lines.held c.frames_by_lines.new.lines.held
    (laws.unmapped opened (IsAsRead files opened) c.self.inside.lines.held (lines_are g c holds))
    (λ l read. laws.as_read files es opened c.args.source c.index-entry.result.now (entry_is g c) l read.0 (read.1 t)) c.frames_by_lines.ensures.holds)

pub returns-in_err-frames_by_lines-clause-holds : goal.returns-in_err-frames_by_lines-clause-holds
returns-in_err-frames_by_lines-clause-holds g c = stays g (goal.at.returns-in_err-frames_by_lines-clause-holds g c).After-frames_by_lines

pub returns-clause-holds : goal.returns-clause-holds
returns-clause-holds g c = stays g (goal.at.returns-clause-holds g c).After-frames_by_lines

names : (g : Over) (c : After-frames_by_lines g) → keys_of c.self.inside.lines.held ≡ names_of c.args.self.now.held
names g c = sym (laws.names_held (map opened_source c.self.inside.entries.items) c.self.inside.lines.held) ∙ ap names_of (held_is g c)

asked : (g : Over) (c : After-frames_by_lines g) → asked_of c.args.source c.index-entry.result.now.info.channels c.index-entry.result.now.info.frames c.args.from (length c.args.out.now) ≡ asked_in c.args.self.now.opened c.args.source c.args.from (length c.args.out.now)
asked g c = sym (laws.asked_there (g.M.Media.outside.files c.args.media.now) c.self.inside.entries.items c.args.self.now.opened c.args.source c.index-entry.result.now (entry g (goal.at.After-frames_by_lines g c).After-index-entry) c.args.from (length c.args.out.now))

pub returns-clause-lines : goal.returns-clause-lines
returns-clause-lines g c = let after = (goal.at.returns-clause-lines g c).After-frames_by_lines in laws.names_held (map opened_source c.self.inside.entries.items) c.frames_by_lines.new.lines.held
    ∙ c.in_ok-frames_by_lines.ensures.lines ∙ ap (λ l. after_asking l (keys_of c.self.inside.lines.held)) (asked g after) ∙ ap (after_asking (asked_in c.args.self.now.opened c.args.source c.args.from (length c.args.out.now))) (names g after)

pub returns-in_err-frames_by_lines-clause-lines : goal.returns-in_err-frames_by_lines-clause-lines
returns-in_err-frames_by_lines-clause-lines g c = let after = (goal.at.returns-in_err-frames_by_lines-clause-lines g c).After-frames_by_lines in
    laws.is_fault (asked_in c.args.self.now.opened c.args.source c.args.from (length c.args.out.now)) (names_of c.args.self.now.held) (names_of (map (held_line (map opened_source c.self.inside.entries.items)) c.frames_by_lines.new.lines.held))
    c.from_residual.result c.from_residual.ensures.0 (subst (λ ns. IsFaultAt (asked_in c.args.self.now.opened c.args.source c.args.from (length c.args.out.now)) (names_of c.args.self.now.held) ns) (sym (laws.names_held (map opened_source c.self.inside.entries.items) c.frames_by_lines.new.lines.held))
    (subst (λ ns. IsFaultAt (asked_in c.args.self.now.opened c.args.source c.args.from (length c.args.out.now)) ns (keys_of c.frames_by_lines.new.lines.held)) (names g after)
    (subst (λ l. IsFaultAt l (keys_of c.self.inside.lines.held) (keys_of c.frames_by_lines.new.lines.held)) (asked g after) c.in_err-frames_by_lines.ensures.fault)))

pub returns-clause-told : goal.returns-clause-told
returns-clause-told g c = λ t holds. let after = (goal.at.returns-clause-told g c).After-frames_by_lines in let files = g.M.Media.outside.files c.args.media.now in let es = c.self.inside.entries.items in
    sources.entry_told files es c.args.self.now.opened c.args.source c.args.from (length c.args.out.now) c.index-entry.result.now c.frames_by_lines.new.out (entry g (goal.at.returns-clause-told g c).After-index-entry)
    c.frames_by_lines.auto.out
    (c.in_ok-frames_by_lines.ensures.told t (laws.lines_of files es (map opened_source es) c.args.source c.index-entry.result.now (entry_is g after) c.self.inside.lines.held (lines_are g after holds)))

buffer : (g : Over) (c : After-frames_by_lines g) → take c.self.inside.buffer.len (c.frames_by_lines.new.buf ++ drop (length c.frames_by_lines.new.buf) c.self.inside.buffer.items) ≡ c.frames_by_lines.new.buf
buffer g c = let b = c.self.inside.buffer in store.written_back b.len b.items c.frames_by_lines.new.buf (omega (arith, b.ok.0)) (c.frames_by_lines.auto.buf ∙ ap length c.as_mut_slice-buf.ensures.value)

are_read : (g : Over) (c : After-frames_by_lines g) → AreRead c.self.inside.entries.items (take c.self.inside.buffer.len (c.frames_by_lines.new.buf ++ drop (length c.frames_by_lines.new.buf) c.self.inside.buffer.items)) c.frames_by_lines.new.lines
are_read g c = let long : length c.frames_by_lines.new.buf ≡ length c.self.inside.buffer.items = c.frames_by_lines.auto.buf ∙ ap length c.as_mut_slice-buf.ensures.value in record {
  readable = subst (λ n. All (IsReadable n) c.self.inside.entries.items) (sym (ap length (buffer g c) ∙ long)) c.self.invariant.readable;
  room = ap length (buffer g c) ∙ long ∙ c.self.invariant.room ∙ ap (λ n. 3 * n) (sym c.frames_by_lines.ensures.room);
}

pub invariant_of-self : goal.invariant_of-self
invariant_of-self g c = are_read g (goal.at.invariant_of-self g c).After-frames_by_lines

pub invariant_of-self-2 : goal.invariant_of-self-2
invariant_of-self-2 g c = are_read g (goal.at.invariant_of-self-2 g c).After-frames_by_lines
