-- What a turn of the butler notes as failed.
use Rattle.std.proofs.Common.{◌≡◌, ℕ, refl, sym, ◌∙◌}
use Rattle.std.specs.Prelude.{Bool, true, false, not, ◌||◌, if◌then◌else◌, Result, Ok, Err}
use Rattle.std.proofs.lemmas.Bool.{false≢true}
use Rattle.butler.specs.declared.turning.Turn.{Turn}
use Rattle.butler.specs.declared.faults.ButlerFault.{ButlerFault}
use Rattle.butler.specs.declared.faults.ButlerFault.TheVariants.{ReadFault, WriteFault}
use Rattle.butler.specs.Faults.{Counts, is_read_fault, is_write_fault}
use Rattle.run_end.specs.declared.failures.Failures.{Failures}
use Rattle.run_end.specs.Failures.{IsFaultCount, after_turn, has_stopped, nothing_failed}
use Rattle.run_end.proofs.CountedLemmas.{counted_still, counted_more}

-- ---- by what a turn answers

-- it stops no process,
pub stops_same : (answer : Result Turn ButlerFault) (f : Failures) → has_stopped (after_turn answer f) ≡ has_stopped f
stops_same (Ok t) f = refl
stops_same (Err ReadFault) f = refl
stops_same (Err WriteFault) f = refl

-- no fault of the input is noted,
pub input_same : (answer : Result Turn ButlerFault) (f : Failures) → (after_turn answer f).input ≡ f.input
input_same (Ok t) f = refl
input_same (Err ReadFault) f = refl
input_same (Err WriteFault) f = refl

-- and none of the master
pub master_same : (answer : Result Turn ButlerFault) (f : Failures) → (after_turn answer f).master ≡ f.master
master_same (Ok t) f = refl
master_same (Err ReadFault) f = refl
master_same (Err WriteFault) f = refl

-- the count of failed reads rose where it is noted,
pub reads_on : (answer : Result Turn ButlerFault) (f : Failures) (before was now : ℕ) → Counts (is_read_fault answer) was now → IsFaultCount before was f.read → IsFaultCount before now (after_turn answer f).read
reads_on (Ok t) f before was now same c = counted_still before was now f.read same c
reads_on (Err ReadFault) f before was now more c = counted_more before was now f.read more.later more.rose c
reads_on (Err WriteFault) f before was now same c = counted_still before was now f.read same c

-- and so did that of failed writes
pub writes_on : (answer : Result Turn ButlerFault) (f : Failures) (before was now : ℕ) → Counts (is_write_fault answer) was now → IsFaultCount before was f.write → IsFaultCount before now (after_turn answer f).write
writes_on (Ok t) f before was now same c = counted_still before was now f.write same c
writes_on (Err ReadFault) f before was now same c = counted_still before was now f.write same c
writes_on (Err WriteFault) f before was now more c = counted_more before was now f.write more.later more.rose c

-- the butler knows of a read that failed,
pub read_known : (answer : Result Turn ButlerFault) (f : Failures) (was now : Bool) → now ≡ (if is_read_fault answer then true else was) → was ≡ f.read → now ≡ (after_turn answer f).read
read_known (Ok t) f was now same known = same ∙ known
read_known (Err ReadFault) f was now same known = same
read_known (Err WriteFault) f was now same known = same ∙ known

-- and of a write that failed
pub write_known : (answer : Result Turn ButlerFault) (f : Failures) (was now : Bool) → now ≡ (if is_write_fault answer then true else was) → was ≡ f.write → now ≡ (after_turn answer f).write
write_known (Ok t) f was now same known = same ∙ known
write_known (Err ReadFault) f was now same known = same ∙ known
write_known (Err WriteFault) f was now same known = same

-- where a read has failed, something has,
pub some_read : (i m w : Bool) → not (i || m || true || w) ≡ false
some_read true true w = refl
some_read true false w = refl
some_read false true w = refl
some_read false false w = refl

-- and where a write has
pub some_write : (i m r : Bool) → not (i || m || r || true) ≡ false
some_write true true true = refl
some_write true true false = refl
some_write true false true = refl
some_write true false false = refl
some_write false true true = refl
some_write false true false = refl
some_write false false true = refl
some_write false false false = refl

-- where nothing has failed after a turn nothing had before it, and it was answered Ok
pub fine_before : (answer : Result Turn ButlerFault) (f : Failures) → nothing_failed (after_turn answer f) ≡ true → nothing_failed f ≡ true
fine_before (Ok t) f fine = fine
fine_before (Err ReadFault) f fine = absurd (false≢true (sym (some_read f.input f.master f.write) ∙ fine))
fine_before (Err WriteFault) f fine = absurd (false≢true (sym (some_write f.input f.master f.read) ∙ fine))

-- no write has failed where nothing has
pub write_fine : (f : Failures) → nothing_failed f ≡ true → f.write ≡ false
write_fine f fine = by f.input f.master f.read f.write fine
  where
    by : (i m r w : Bool) → not (i || m || r || w) ≡ true → w ≡ false
    by i m r false so = refl
    by i m r true so = absurd (false≢true (sym (some_write i m r) ∙ so))
