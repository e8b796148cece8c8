-- What contracts see of held lines, by the lines that the sources keep.
use Rattle.std.proofs.Common.{◌≡◌, ℕ, ◌*◌, refl, ap, ◌∙◌, sym, subst, List, [], ◌∷◌, map, take}
use Rattle.std.specs.Prelude.{ℤ, slice_index, All, Result, Ok, Err}
use Rattle.std.specs.Result.{IsErr}
use Rattle.std.specs.Map.{keys_of}
use Rattle.std.specs.Option.{option_map_or}
use Rattle.std.proofs.lemmas.Bool.{true≢false}
use Rattle.std.proofs.lemmas.List.Elements.{All-map, All-weaker, All-nil, All-cons, All-head, All-tail}
use Rattle.ses_io.specs.Files.{Files}
use Rattle.session_model.specs.Frames.{interleaved}
use Rattle.audio_source.specs.declared.entry.Entry.{Entry}
use Rattle.audio_source.specs.declared.line.LineName.{LineName}
use Rattle.audio_source.specs.Opened.{OpenedSource, channels_of}
use Rattle.audio_source.specs.Told.{source_sound}
use Rattle.audio_source.specs.Lines.{HeldLine, IsAsRead, HoldsAsRead, HasAsked, IsFaultAt, names_of, asked_in, asked_of, line_name}
use Rattle.audio_source.specs.Slots.{IsLineOf, AreLinesOf}
use Rattle.audio_source.specs.Held.{held_line}
use Rattle.audio_source.proofs.SourceLaws.{IsEntryAt, entry_there, entry_channels, entry_sound}

pub names_held : (opened : List OpenedSource) (held : List (LineName × List ℤ)) → names_of (map (held_line opened) held) ≡ keys_of held
names_held opened [] = refl
names_held opened (l ∷ ls) = ap (λ ns. l.0 ∷ ns) (names_held opened ls)

pub unmapped : (opened : List OpenedSource) (P : HeldLine → Type 0) (held : List (LineName × List ℤ)) → All P (map (held_line opened) held) → All (λ l. P (held_line opened l)) held
unmapped opened P [] all = All-nil (λ l. P (held_line opened l))
unmapped opened P (l ∷ ls) all = All-cons (λ x. P (held_line opened x)) l ls (All-head P (held_line opened l) (map (held_line opened) ls) all) (unmapped opened P ls (All-tail P (held_line opened l) (map (held_line opened) ls) all))

-- a source's line is as it was read where its samples are those of its file
module _ (files : Files) (entries : List Entry) (opened : List OpenedSource) (s : ℕ) (e : Entry) (is : IsEntryAt entries opened s e) where
  line_of : (line : ℕ) (samples : List ℤ) → IsAsRead files opened (held_line opened (line_name s line, samples)) → IsLineOf files e line samples
  line_of line samples read = ap (λ n. take (4096 * n) samples) (sym (entry_channels entries opened s e is)) ∙ read
      ∙ ap (λ n. interleaved (source_sound files opened s) (slice_index (channels_of opened) s) (4096 * line) (4096 * n)) (entry_channels entries opened s e is)
      ∙ sym (entry_sound files entries opened s (4096 * line) (4096 * e.info.channels) e is)

  of_line : (line : ℕ) (samples : List ℤ) → IsLineOf files e line samples → IsAsRead files opened (held_line opened (line_name s line, samples))
  of_line line samples told = ap (λ n. take (4096 * n) samples) (entry_channels entries opened s e is) ∙ told
      ∙ entry_sound files entries opened s (4096 * line) (4096 * e.info.channels) e is
      ∙ ap (λ n. interleaved (source_sound files opened s) (slice_index (channels_of opened) s) (4096 * line) (4096 * n)) (sym (entry_channels entries opened s e is))

  abbrev pub AsRead : LineName × List ℤ → Type 0
  AsRead l = IsAsRead files opened (held_line opened l)

  pub lines_of : (held : List (LineName × List ℤ)) → HoldsAsRead files (record { opened = opened; held = map (held_line opened) held }) → AreLinesOf s (IsLineOf files e) held
  lines_of held read = All-weaker AsRead (λ l. l.0.source ≡ s → IsLineOf files e l.0.line l.1)
      (λ l read. λ same. line_of l.0.line l.1 (subst (λ n. IsAsRead files opened (held_line opened (line_name n l.0.line, l.1))) same read))
      held (unmapped opened (IsAsRead files opened) held read)

  pub as_read : (l : LineName × List ℤ) → l.0.source ≡ s → IsLineOf files e l.0.line l.1 → AsRead l
  as_read l same told = subst (λ n. IsAsRead files opened (held_line opened (line_name n l.0.line, l.1))) (sym same) (of_line l.0.line l.1 told)

  pub asked_there : (from many : ℕ) → asked_in opened s from many ≡ asked_of s e.info.channels e.info.frames from many
  asked_there from many = ap (λ o. option_map_or (λ x. asked_of s x.head.form.channels x.head.frames from many) o []) (entry_there entries opened s e is)

-- so all that is held is as it was read where each line of the sources is
pub all_held : (files : Files) (opened : List OpenedSource) (held : List (LineName × List ℤ)) → All (λ l. IsAsRead files opened (held_line opened l)) held → All (IsAsRead files opened) (map (held_line opened) held)
all_held files opened held all = All-map (IsAsRead files opened) (held_line opened) held all

-- a fault, as the contract has it
pub is_fault : {T E : Type 0} (lines old new : List LineName) (r : Result T E) → IsErr r → IsFaultAt lines old new → HasAsked lines old r new
is_fault lines old new (Ok a) err at = absurd (true≢false (sym err))
is_fault lines old new (Err e) err at = at
