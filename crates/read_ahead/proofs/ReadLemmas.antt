-- One read after another: what the sources tell is what they told at first.
use Rattle.std.proofs.Common.{◌≡◌, ℕ, ◌∙◌, ap, refl, le_refl, subst, sym}
use Rattle.std.specs.Prelude.{Result, Ok}
use Rattle.ses_io.specs.Faults.{HasCause}
use Rattle.ses_io.specs.Files.{Files}
use Rattle.ses_io.specs.Outside.{MediaOutside}
use Rattle.sound_model.specs.Regions.{Sounds}
use Rattle.engine_model.specs.Due.{Needs}
use Rattle.edition_log.specs.EditionState.{EditionState as Edition}
use Rattle.audio_source.specs.declared.refusal.ReadFault.{ReadFault}
use Rattle.audio_source.specs.Told.{source_sound}
use Rattle.audio_source.specs.Lines.{HoldsAsRead}
use Rattle.disk_ring.specs.Sender.{Sender}
use Rattle.piece_item.specs.declared.item.Item.{Item}
use Rattle.track_render.specs.Reading.{IsReadOn}
use Rattle.read_ahead.specs.declared.supply.TrackSupply.{TrackSupply}
use Rattle.read_ahead.specs.Reader.{ReaderState, IsTold}
use Rattle.read_ahead.specs.Serves.{Serves}
use Rattle.read_ahead.proofs.RunLemmas.{serves_by}

-- the answer of reads that all went well
abbrev pub went : Result (Unit {0}) ReadFault
went = Ok tt

-- how a reader comes on
abbrev pub Reads : {V T E : Type 0} → MediaOutside V → ReaderState V → ReaderState V → Result T E → Type 0
Reads outside old new result = IsReadOn outside old.media new.media old.sources new.sources result

pub reads_none : {V : Type 0} (outside : MediaOutside V) (r : ReaderState V) → Reads outside r r went
reads_none outside r = record {
  holds = λ t h. h;
  opened = refl;
  only_reads = record { files = refl; other_count = refl };
  cause = record { later = le_refl (outside.read_faults r.media); kept = refl; rose = tt };
}

pub read_on : {V T U E F : Type 0} (outside : MediaOutside V) (old mid new : ReaderState V) (v : T) (second : Result U F) →
    Reads {E = E} outside old mid (Ok v) → Reads outside mid new second → Reads outside old new second
read_on outside old mid new v second a b = record {
  holds = λ t h. let K : Files → Type 0 = λ fs. HoldsAsRead fs new.sources in subst K a.only_reads.files
      (b.holds t (let L : Files → Type 0 = λ fs. HoldsAsRead fs mid.sources in subst L (sym a.only_reads.files) (a.holds t h)));
  opened = b.opened ∙ a.opened;
  only_reads = record { files = b.only_reads.files ∙ a.only_reads.files; other_count = b.only_reads.other_count ∙ a.only_reads.other_count };
  cause = let K : ℕ → Type 0 = λ n. HasCause n (outside.read_faults new.media) second in subst K a.cause.kept b.cause;
}

-- what was told before is told still
pub told_on : {V T E : Type 0} (outside : MediaOutside V) (old mid : ReaderState V) (result : Result T E) → Reads outside old mid result → IsTold outside old → IsTold outside mid
told_on outside old mid result read told = record {
  tells = told.tells;
  lines = let K : Files → Type 0 = λ fs. HoldsAsRead fs mid.sources in subst K (sym read.only_reads.files) (read.holds told.tells told.lines);
}

pub serves_on : {V T E : Type 0} (outside : MediaOutside V) (old mid : ReaderState V) (result : Result T E) (e : Edition) (n : Needs) (p : TrackSupply) (d : Sender Item) (q : TrackSupply) (f : Sender Item) →
    Reads outside old mid result → Serves (IsTold outside mid) (source_sound (outside.files mid.media) mid.sources.opened) e n p d q f →
    Serves (IsTold outside old) (source_sound (outside.files old.media) old.sources.opened) e n p d q f
serves_on outside old mid result e n p d q f read serves =
    let same : source_sound (outside.files mid.media) mid.sources.opened ≡ source_sound (outside.files old.media) old.sources.opened =
    ap (λ files. source_sound files mid.sources.opened) read.only_reads.files ∙ ap (source_sound (outside.files old.media)) read.opened in
    serves_by (IsTold outside mid) (IsTold outside old) (source_sound (outside.files old.media) old.sources.opened) e n p d q f (told_on outside old mid result read)
    (subst (λ (sounds : Sounds). Serves (IsTold outside mid) sounds e n p d q f) same serves)

-- whatever a call that went well answers
pub read_well : {V T U E F : Type 0} (outside : MediaOutside V) (old new : ReaderState V) (v : T) (w : U) → Reads {E = E} outside old new (Ok v) → Reads {E = F} outside old new (Ok w)
read_well outside old new v w read = record {
  holds = read.holds;
  opened = read.opened;
  only_reads = read.only_reads;
  cause = record { later = read.cause.later; kept = read.cause.kept; rose = tt };
}
