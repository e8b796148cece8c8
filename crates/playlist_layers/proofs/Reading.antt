-- One read after another.
use Rattle.std.proofs.Common.{ℕ, refl, ◌∙◌, arith, subst}
use Rattle.std.specs.Prelude.{Result, Ok, Err, OnOk}
use Rattle.ses_io.specs.Faults.{HasCause}
use Rattle.ses_io.specs.declared.errors.Failed.{Failed}
use Rattle.session_model.specs.Frames.{FramesOutside}
use Rattle.playlist_layers.specs.Reads.{IsRead}

pub read_none : {S R T E : Type 0} (outside : FramesOutside S) (others : S → R) (now : S) (v : T) → IsRead {E = E} outside others now now (Ok v)
read_none outside others now v = record {
  channels = refl;
  kept = λ t. refl;
  tells = λ t. t;
  rest = refl;
  cause = record { later = omega arith; kept = refl; rose = tt };
}

pub read_on : {S R T U E F : Type 0} (outside : FramesOutside S) (others : S → R) (old mid new : S) (v : T) (second : Result U F)
    → IsRead {E = E} outside others old mid (Ok v) → IsRead outside others mid new second → IsRead outside others old new second
read_on outside others old mid new v second a b = record {
  channels = b.channels ∙ a.channels;
  kept = λ t. b.kept (a.tells t) ∙ a.kept t;
  tells = λ t. b.tells (a.tells t);
  rest = b.rest ∙ a.rest;
  cause = let K : ℕ → Type 0 = λ n. HasCause n (outside.faults new) second in subst K a.cause.kept b.cause;
}

-- the answer of reads that all went well
abbrev pub went : Result (Unit {0}) Failed
went = Ok tt

-- what follows where an answer is Ok
pub on_ok_both : {T E P Q S : Type 0} (result : Result T E) → (P → Q → S) → OnOk result P → OnOk result Q → OnOk result S
on_ok_both (Ok v) both p q = both p q
on_ok_both (Err e) both p q = tt

pub on_ok : {T E P S : Type 0} (result : Result T E) → (P → S) → OnOk result P → OnOk result S
on_ok (Ok v) more p = more p
on_ok (Err e) more p = tt
