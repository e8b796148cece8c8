-- The media under one call after the other.
use Rattle.std.proofs.Common.{◌≡◌, ℕ, ◌<◌, ◌≤◌, List, [], ◌∷◌, ◌++◌, length, set, refl, sym, ap, subst, ◌∙◌, arith, Result, Ok, Err, IsErr, true≢false, le_trans}
use Rattle.std.specs.Prelude.{true, Some, is_err, slice_get}
use Rattle.std.proofs.lemmas.List.{length-append}
use Rattle.ses_io.specs.Files.{Files}
use Rattle.ses_io.specs.Faults.{risen}
use Rattle.ses_io.specs.Outside.{MediaOutside, WriteCause}
use Rattle.session_model.specs.declared.session.Session.{Session}
use Rattle.engine_model.specs.Takes.{take_name}
use Rattle.disk_ring.specs.Receiver.{Receiver, GoesOnOut}
use Rattle.piece_item.specs.declared.take_block.TakeBlock.{TakeBlock}
use Rattle.capture_flush.specs.declared.fault.WriteFault.{WriteFault}
use Rattle.capture_flush.specs.Taking.{Taking}
use Rattle.capture_flush.specs.Blocks.{block_of}
use Rattle.capture_flush.specs.Flushed.{Gives}
use Rattle.capture_flush.proofs.AddedLemmas.{OnlyAt}
use Rattle.capture_flush.proofs.GiveLemmas.{gives-only}
use Rattle.capture_drain.specs.Drains.{total_received}
use Rattle.capture_drain.specs.Files.{NotesFault, OtherFilesStand, WritesTakes}
use Rattle.capture_drain.proofs.TapeLemmas.{total_set, set_same, set_twice}
use Rattle.capture_drain.proofs.RingLemmas.{no_less}

abbrev Ring : Type 0
Ring = Receiver TakeBlock

-- ---- one block

others_stand : (s : Session) (t n : ℕ) (old new : Files) → t < length s.tracks.items → OnlyAt old new (take_name s t n) → OtherFilesStand s old new
others_stand s t n old new lt only q other = only q (λ is. other (t, n, lt, is))

grown : {P : Type 0} (rings : List Ring) (t : ℕ) (a b : Ring) (x : TakeBlock) → slice_get rings t ≡ Some a → b.received ≡ a.received ++ x ∷ [] → total_received (set rings t b) ≡ total_received rings → P
grown rings t a b x here more same = absurd (omega (arith, total_set rings t a b here, same, ap length more, length-append a.received (x ∷ [])))

pub writes_block : {V T : Type 0} (outside : MediaOutside V) (s : Session) (rings : List Ring) (t : ℕ) (a b : Ring) (x : TakeBlock) (f : Taking) (old new : V) (answer : T) →
    t < length s.tracks.items → slice_get rings t ≡ Some a → b.received ≡ a.received ++ x ∷ [] → Gives {E = WriteFault} outside s f t (block_of x) old new (Ok tt) →
    WritesTakes outside s rings (set rings t b) old new (Ok answer)
writes_block outside s rings t a b x f old new answer lt here more gives = record {
  others = λ tells. others_stand s t x.take (outside.files old) (outside.files new) lt (gives-only outside s f t (block_of x) old new (Ok tt) gives tells);
  same = grown rings t a b x here more;
  cause = record { later = gives.cause.later; kept = gives.cause.kept; rose = tt };
  reads = gives.reads;
}

pub writes_part : {V T : Type 0} (outside : MediaOutside V) (s : Session) (rings : List Ring) (t : ℕ) (a b : Ring) (x : TakeBlock) (f : Taking) (old new : V) (e : WriteFault) (r : Result T WriteFault) → IsErr r →
    t < length s.tracks.items → slice_get rings t ≡ Some a → b.received ≡ a.received ++ x ∷ [] → Gives outside s f t (block_of x) old new (Err e) →
    WritesTakes outside s rings (set rings t b) old new r
writes_part outside s rings t a b x f old new e (Ok y) err lt here more gives = absurd (true≢false (sym err))
writes_part outside s rings t a b x f old new e (Err g) err lt here more gives = record {
  others = λ tells. others_stand s t x.take (outside.files old) (outside.files new) lt (gives-only outside s f t (block_of x) old new (Err e) gives tells);
  same = grown rings t a b x here more;
  cause = record { later = gives.cause.later; kept = tt; rose = gives.cause.rose };
  reads = gives.reads;
}

-- ---- takes that failed

-- one more
pub noted : {T : Type 0} (r : Result T WriteFault) (old mid new : Taking) → IsErr r → mid.failed ≡ old.failed → NotesFault true mid new → NotesFault (is_err r) old new
noted (Ok x) old mid new err same one = absurd (true≢false (sym err))
noted (Err e) old mid new err same one = (one.0, one.1 ∙ ap (λ l. l ++ one.0 ∷ []) same)

-- ---- one call after the other

writes_nothing_cause : {V T : Type 0} (outside : MediaOutside V) (now : V) (x : T) → WriteCause {E = WriteFault} outside now now (Ok x)
writes_nothing_cause outside now x = record { later = omega arith; kept = refl; rose = tt }

pub writes_nothing : {V T : Type 0} (outside : MediaOutside V) (s : Session) (rings : List Ring) (now : V) (x : T) → WritesTakes {T = T} outside s rings rings now now (Ok x)
writes_nothing outside s rings now x = record { others = λ tells q other. refl; same = λ same. refl; cause = writes_nothing_cause outside now x; reads = refl }

cause_then : {V T U : Type 0} (outside : MediaOutside V) (a b c : V) (x : U) (r : Result T WriteFault) → WriteCause {E = WriteFault} outside a b (Ok x) → WriteCause outside b c r → WriteCause outside a c r
cause_then outside a b c x (Ok y) one two = record { later = le_trans one.later two.later; kept = two.kept ∙ one.kept; rose = tt }
cause_then outside a b c x (Err e) one two = record { later = le_trans one.later two.later; kept = tt; rose = subst (λ n. risen n ≤ outside.write_faults c) one.kept two.rose }

pub writes_then : {V T U : Type 0} (outside : MediaOutside V) (s : Session) (xs ys zs : List Ring) (a b c : V) (x : U) (r : Result T WriteFault) → total_received xs ≤ total_received ys → total_received ys ≤ total_received zs →
    WritesTakes outside s xs ys a b (Ok x) → WritesTakes outside s ys zs b c r → WritesTakes outside s xs zs a c r
writes_then outside s xs ys zs a b c x r up more one two = record {
  others = λ tells q other. two.others tells q other ∙ one.others tells q other;
  same = λ same. two.same (omega arith) ∙ one.same (omega arith);
  cause = cause_then outside a b c x r one.cause two.cause;
  reads = two.reads ∙ one.reads;
}

-- the same of another answer
pub writes_ok : {V T U : Type 0} (outside : MediaOutside V) (s : Session) (xs ys : List Ring) (a b : V) (x : U) (y : T) → WritesTakes outside s xs ys a b (Ok x) → WritesTakes outside s xs ys a b (Ok y)
writes_ok outside s xs ys a b x y one = record { others = one.others; same = one.same; cause = record { later = one.cause.later; kept = one.cause.kept; rose = tt }; reads = one.reads }

pub writes_err : {V T U : Type 0} (outside : MediaOutside V) (s : Session) (xs ys : List Ring) (a b : V) (e : WriteFault) (r : Result T WriteFault) → IsErr r →
    WritesTakes {T = U} outside s xs ys a b (Err e) → WritesTakes outside s xs ys a b r
writes_err outside s xs ys a b e (Ok x) err one = absurd (true≢false (sym err))
writes_err outside s xs ys a b e (Err f) err one = record { others = one.others; same = one.same; cause = record { later = one.cause.later; kept = tt; rose = one.cause.rose }; reads = one.reads }

-- ---- one ring

-- at first it stands as it did
pub writes_at_first : {V T : Type 0} (outside : MediaOutside V) (s : Session) (rings : List Ring) (t : ℕ) (a : Ring) (now : V) (x : T) → slice_get rings t ≡ Some a → WritesTakes {T = T} outside s rings (set rings t a) now now (Ok x)
writes_at_first outside s rings t a now x here = subst (λ ys. WritesTakes outside s rings ys now now (Ok x)) (sym (set_same rings t a here)) (writes_nothing outside s rings now x)

pub no_fewer : (rings : List Ring) (t : ℕ) (a b c : Ring) → slice_get rings t ≡ Some a → GoesOnOut b c → total_received (set rings t b) ≤ total_received (set rings t c)
no_fewer rings t a b c here goes = omega (arith, total_set rings t a b here, total_set rings t a c here, no_less b c goes)

pub writes_more : {V T U : Type 0} (outside : MediaOutside V) (s : Session) (rings : List Ring) (t : ℕ) (a b c : Ring) (old mid new : V) (x : U) (r : Result T WriteFault) → slice_get rings t ≡ Some a → GoesOnOut a b → GoesOnOut b c →
    WritesTakes outside s rings (set rings t b) old mid (Ok x) → WritesTakes outside s (set rings t b) (set (set rings t b) t c) mid new r → WritesTakes outside s rings (set rings t c) old new r
writes_more outside s rings t a b c old mid new x r here first then one two =
    let up : total_received rings ≤ total_received (set rings t b) = omega (arith, total_set rings t a b here, no_less a b first) in
    let twice = set_twice rings t b c in
    writes_then outside s rings (set rings t b) (set rings t c) old mid new x r up (no_fewer rings t a b c here then) one (subst (λ zs. WritesTakes outside s (set rings t b) zs mid new r) twice two)
