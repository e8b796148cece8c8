-- One read of sources after another: what is told is what was told at first.
use Rattle.std.proofs.Common.{◌≡◌, ℕ, ◌<◌, ◌∙◌, List, [], ◌∷◌, length, map, refl, sym, ap, subst, arith, zero, suc}
use Rattle.std.specs.Prelude.{Result, slice_index_or}
use Rattle.ses_io.specs.Files.{Files}
use Rattle.ses_io.specs.Outside.{MediaOutside}
use Rattle.engine_model.specs.Journal.{Play, Heard, Silent, Short, note_at, note_of}
use Rattle.audio_source.specs.Lines.{SourcesState, HoldsAsRead}
use Rattle.audio_source.specs.Told.{source_sound}
use Rattle.cycle_journal.specs.declared.note.Note.{Note}
use Rattle.cycle_journal.specs.declared.entry.Entry.{Entry}
use Rattle.cycle_journal.specs.JournalView.{seen_entry, seen_note, seen_play}
use Rattle.track_render.specs.Reading.{IsReadOn}
use Rattle.heard_blocks.specs.State.{HeardState}
use Rattle.heard_blocks.specs.Playing.{Playing, IsPlayed, PutsTrack, put_block}
use Rattle.heard_blocks.specs.Reading.{IsTold}

module _ {V T E : Type 0} (outside : MediaOutside V) (old mid : V) (before between : SourcesState) (result : Result T E) (read : IsReadOn outside old mid before between result) where
  pub told_on : IsTold outside old before → IsTold outside mid between
  told_on told = record {
    tells = told.tells;
    lines = let K : Files → Type 0 = λ fs. HoldsAsRead fs between in subst K (sym read.only_reads.files) (read.holds told.tells told.lines);
  }

  pub sounds_on : source_sound (outside.files mid) between.opened ≡ source_sound (outside.files old) before.opened
  sounds_on = ap (λ files. source_sound files between.opened) read.only_reads.files ∙ ap (source_sound (outside.files old)) read.opened

-- a track that was put by what was told later is put by what was told before
pub puts_by : (told first : Type 0) (on was : Playing) (t : ℕ) (play wanted : Play) (old new : HeardState) → (first → told) → on ≡ was → play ≡ wanted → PutsTrack told on t play old new →
    PutsTrack first was t wanted old new
puts_by told first on was t play wanted old new earlier same noted put = subst (λ x. PutsTrack first x t wanted old new) same (subst (λ p. PutsTrack first on t p old new) noted (record {
  ready = put.ready;
  played = by_play play put.played;
  at = put.at;
  others = put.others;
  others_at = put.others_at;
}))
  where
    by_play : (p : Play) → IsPlayed told on t p (put_block new t) → IsPlayed first on t p (put_block new t)
    by_play (Heard p) is = λ h. is (earlier h)
    by_play Silent is = is
    by_play (Short tail) is = is

-- what an entry says of a track
note_seen : (notes : List Note) (t : ℕ) (d : Note) → t < length notes → (note_at t (map seen_note notes)).play ≡ seen_play (slice_index_or notes t d).play
note_seen [] t d lt = absurd (omega arith)
note_seen (x ∷ xs) zero d lt = refl
note_seen (x ∷ xs) (suc t) d lt = note_seen xs t d (omega arith)

pub play_seen : (e : Entry) (notes : List Note) (t : ℕ) (d : Note) → notes ≡ e.notes.items → t < length notes → (note_of t (seen_entry e)).play ≡ seen_play (slice_index_or notes t d).play
play_seen e notes t d same lt = ap (λ xs. (note_at t (map seen_note xs)).play) (sym same) ∙ note_seen notes t d lt
