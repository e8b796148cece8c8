-- What is opened is valid, and a source that is refused is the first.
use Rattle.std.proofs.Common.{◌≡◌, ℕ, refl, ap, subst, Bool, true, false, cond, nat_lt, List, length, Option, Some, None}
use Rattle.std.specs.Prelude.{Ok, Err}
use Rattle.session_model.specs.declared.session.Session.{Session}
use Rattle.session_model.specs.declared.refusal.SessionRefusal.TheVariants.{TooLong}
use Rattle.session_model.specs.Valid.{IsValid}
use Rattle.session_walk.specs.Section.{Read}
use Rattle.session_toml.specs.Session.{session}
use Rattle.session_toml.proofs.SessionLaws.{accepted_is_valid}
use Rattle.session_opening.specs.Laws.{IsOpen, FirstOf, OpenIsValid, RefusedIsFirst}
use Rattle.session_opening.specs.Plan.{◌>>=◌, Open, Wrong, SessionRefused, SourceRefused, text_in, read, read_session, session_plan, sources_in}
use Rattle.session_opening.proofs.SourceLaws.{each_head, first_of}

-- what came first, and what it went on to
after : {A B : Type 0} (r : Open A) (f : A → Open B) (b : B) → (r >>= f) ≡ Ok b → (a : A) × (r ≡ Ok a) × (f a ≡ Ok b)
after (Ok a) f b e = (a, refl, e)
after (Err w) f b e = absurd cc

read_is : (r : Read Session) (s : Session) → read r ≡ Ok s → r ≡ Ok s
read_is (Ok t) s e = let same : t ≡ s = cc in ap (λ v. Ok v) same
read_is (Err refusal) s e = absurd cc

-- the session of a file is that of some bytes
read_of_bytes : (file : Option (List ℕ)) (s : Session) → read_session file ≡ Ok s → (bytes : List ℕ) × (session bytes ≡ Ok s)
unfolding read_session
read_of_bytes file s e = let text = after (text_in file) _ s e in (text.0, read_is (session text.0) s text.2)

-- the session of a file is valid
session_is : (file : Option (List ℕ)) (s : Session) → read_session file ≡ Ok s → IsValid s
session_is file s e = let text = read_of_bytes file s e in accepted_is_valid text.0 s text.1

pub open_is_valid : OpenIsValid
unfolding session_plan
open_is_valid files name s is =
    let t = after (read_session (files name)) _ s is in
    let u = after (sources_in files t.0.rate t.0.sources.items) _ s t.2 in
    let same : t.0 ≡ s = cc in
    let K : Session → Type 0 = λ r. IsOpen files name r in
    subst K same (record { session = t.1; valid = session_is (files name) t.0 t.1; heads = each_head files t.0.rate t.0.sources.items u.1 })

-- nothing is said of a source
abbrev NoSourceIn : {A : Type 0} → Open A → Type 0
NoSourceIn (Ok a) = Unit {0}
NoSourceIn (Err (SessionRefused w)) = Unit {0}
NoSourceIn (Err (SourceRefused n w)) = ⊥

none_then : {A B : Type 0} (r : Open A) (f : A → Open B) → NoSourceIn r → ((a : A) → NoSourceIn (f a)) → NoSourceIn (r >>= f)
none_then (Ok a) f never later = later a
none_then (Err (SessionRefused w)) f never later = tt
none_then (Err (SourceRefused n w)) f never later = never

none_in_session : (file : Option (List ℕ)) → NoSourceIn (read_session file)
unfolding read_session
none_in_session file = none_then (text_in file) _ (text file) (λ t. reads (session t))
  where
    choice : (b : Bool) (x y : Open (List ℕ)) → NoSourceIn x → NoSourceIn y → NoSourceIn (cond b x y)
    choice true x y p q = p
    choice false x y p q = q

    text : (f : Option (List ℕ)) → NoSourceIn (text_in f)
    text None = tt
    text (Some bytes) = choice (nat_lt 8388608 (length bytes)) (Err (SessionRefused (TooLong (length bytes)))) (Ok bytes) tt tt

    reads : (r : Read Session) → NoSourceIn (read r)
    reads (Ok s) = tt
    reads (Err refusal) = tt

pub refused_is_first : RefusedIsFirst
unfolding session_plan
refused_is_first files name called why is = by_session (read_session (files name)) refl is
  where
    end : Session → Open Session
    end s = Ok s

    rest : Session → Open Session
    rest s = sources_in files s.rate s.sources.items >>= λ u. end s

    err_only : (s : Session) (r : Open (Unit {0})) → (r >>= λ u. end s) ≡ Err (SourceRefused called why) → r ≡ Err (SourceRefused called why)
    err_only s (Ok u) e = absurd cc
    err_only s (Err w) e = cc

    by_session : (r : Open Session) → read_session (files name) ≡ r → (r >>= rest) ≡ Err (SourceRefused called why) → (s : Session) × FirstOf files name called why s
    by_session (Ok s) there h =
        (s, record { session = there; valid = session_is (files name) s there; first = first_of files s.rate s.sources.items called why (err_only s (sources_in files s.rate s.sources.items) h) })
    by_session (Err w) there h = absurd (no_source w (let K : Open Session → Type 0 = λ v. NoSourceIn v in subst K there (none_in_session (files name))) cc)
      where
        no_source : (v : Wrong) → NoSourceIn {A = Session} (Err v) → v ≡ SourceRefused called why → ⊥
        no_source v never same = let K : Wrong → Type 0 = λ x. NoSourceIn {A = Session} (Err x) in subst K same never
