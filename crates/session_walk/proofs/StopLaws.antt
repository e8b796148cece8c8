-- Where a step of a reading stops, the whole stops there.
use Rattle.std.proofs.Common.{◌≡◌, refl, sym}
use Rattle.std.specs.Prelude.{Result, Ok, Err, List}
use Rattle.std.specs.Result.{IsErrAnd}
use Rattle.toml.specs.Data.{Members}
use Rattle.session_model.specs.declared.refusal.SessionRefusal.{SessionRefusal}
use Rattle.session_walk.specs.declared.fault.SessionFault.{SessionFault}
use Rattle.session_walk.specs.declared.fault.SessionFault.TheVariants.{Refused, NoMemory}
use Rattle.session_walk.specs.declared.text.Outline as code
use Rattle.session_walk.specs.Fault.{Gives, GivesTables}
use Rattle.session_walk.specs.Section.{Read, ◌>>=◌}
use Rattle.session_walk.specs.Text.{Outline}
use Rattle.session_walk.specs.TextViews.{GivesOutline}

-- the reading is refused where the fault is a refusal
pub record Stops {A : Type 0} (m : Read A) (fault : SessionFault) : Type 0 where
  pub refusal : (r : SessionRefusal) → fault ≡ Refused r → m ≡ Err r

pub refused : {A B : Type 0} (m : Read A) (r : SessionRefusal) (k : A → Read B) → m ≡ Err r → Stops (m >>= k) (Refused r)
refused m r k is = record { refusal = λ s same. let e : r ≡ s = cc in rw (is, e) refl }

pub faulted : {A B : Type 0} (m : Read A) (fault : SessionFault) (k : A → Read B) → Gives m (Err fault) → Stops (m >>= k) fault
faulted m (Refused r) k is = refused m r k is
faulted m NoMemory k is = record { refusal = λ s same. cc }

pub tables_faulted : {B : Type 0} (m : Read (List Members)) (fault : SessionFault) (k : List Members → Read B) → GivesTables m (Err fault) → Stops (m >>= k) fault
tables_faulted m (Refused r) k is = refused m r k is
tables_faulted m NoMemory k is = record { refusal = λ s same. cc }

pub gives_stopped : {A : Type 0} (m : Read A) (fault : SessionFault) (result : Result A SessionFault) → Stops m fault → IsErrAnd result (λ e. e ≡ fault) → Gives m result
gives_stopped m fault (Ok x) stops is = absurd is
gives_stopped m fault (Err (Refused e)) stops is = stops.refusal e (sym is)
gives_stopped m fault (Err NoMemory) stops is = tt

pub outline_stopped : (m : Read Outline) (fault : SessionFault) (result : Result code.Outline SessionFault) → Stops m fault → IsErrAnd result (λ e. e ≡ fault) → GivesOutline m result
outline_stopped m fault (Ok x) stops is = absurd is
outline_stopped m fault (Err (Refused e)) stops is = stops.refusal e (sym is)
outline_stopped m fault (Err NoMemory) stops is = tt

pub same_refusal : {A B : Type 0} (m : Read A) (r : SessionRefusal) (k : A → Read B) (result : Read B) → m ≡ Err r → IsErrAnd result (λ e. e ≡ r) → result ≡ (m >>= k)
same_refusal m r k (Ok x) is same = absurd same
same_refusal m r k (Err e) is same = rw (is, same) refl
