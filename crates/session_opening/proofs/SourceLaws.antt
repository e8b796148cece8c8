-- The sources of a session, and the first that isn't opened.
use Rattle.std.proofs.Common.{◌≡◌, ℕ, zero, suc, ◌<◌, ◌≤◌, ◌⊎◌, inl, inr, refl, ap, arith, ◌∙◌, sym, subst, List, [], ◌∷◌, length, get_or, Option, Some, None, rules}
use Rattle.std.specs.Prelude.{slice_get, IsSomeAnd, IsOk, Result, Ok, Err}
use Rattle.std.proofs.lemmas.Bool.{false≢true}
use Rattle.std.proofs.lemmas.Option.{slice_get_within, slice_get_cases}
use Rattle.sound_model.specs.Wav.{Head}
use Rattle.ses_io.specs.Files.{Files}
use Rattle.session_model.specs.declared.session.SourceDecl.{SourceDecl}
use Rattle.audio_source.specs.declared.refusal.FileRefusal.{FileRefusal}
use Rattle.audio_source.specs.declared.refusal.OpenRefusal.{OpenRefusal}
use Rattle.audio_source.specs.declared.refusal.OpenRefusal.TheVariants.{File}
use Rattle.audio_source.specs.Answers.{IsFirstRefused, NamesFirst}
use Rattle.audio_source.specs.Opened as audio
use Rattle.audio_source.specs.Opened.{IsOpened}
use Rattle.audio_source.specs.Refusals.{SourceRefusal, source_head, why_of}
use Rattle.session_opening.specs.declared.unopened.Unopened.{Unopened}
use Rattle.session_opening.specs.Answers.{Refuses, refusal_at, refusal_of}
use Rattle.session_opening.specs.Laws.{IsFirst}
use Rattle.session_opening.specs.Plan.{◌>>=◌, Open, SourceRefused, found, source_in, sources_in}

-- the file of a source has a head
abbrev HasHead : Files → ℕ → SourceDecl → Type 0
HasHead files rate d = IsOk (source_head rate d.channels (files d.file))

found_ok : (name : List ℕ) (r : Result Head SourceRefusal) → IsOk r → found name r ≡ Ok tt
found_ok name (Ok h) is = refl
found_ok name (Err w) is = absurd (false≢true is)

none : {X : Type 0} {x : X} (i : ℕ) → slice_get {X = X} [] i ≡ Some x → ⊥
none i h = cc

-- a source that is opened leaves the others
one_ok : (files : Files) (rate : ℕ) (d : SourceDecl) (ds : List SourceDecl) → HasHead files rate d → sources_in files rate (d ∷ ds) ≡ sources_in files rate ds
one_ok files rate d ds ok = ap (λ one. one >>= λ u. sources_in files rate ds) (found_ok d.name (source_head rate d.channels (files d.file)) ok)

all_found : (files : Files) (rate : ℕ) (list : List SourceDecl) → ((i : ℕ) (d : SourceDecl) → slice_get list i ≡ Some d → HasHead files rate d) →
    sources_in files rate list ≡ Ok tt
all_found files rate [] ok = refl
all_found files rate (d ∷ ds) ok = one_ok files rate d ds (ok zero d refl) ∙ all_found files rate ds (λ i q at. ok (suc i) q at)

is_ok : (r : Result Head SourceRefusal) (h : Head) → r ≡ Ok h → IsOk r
is_ok r h e = let K : Result Head SourceRefusal → Type 0 = λ s. IsOk s in subst K (sym e) (search rules)

pub plan_found : (files : Files) (rate : ℕ) (list : List SourceDecl) (opened : List audio.OpenedSource) → IsOpened files rate list opened → sources_in files rate list ≡ Ok tt
plan_found files rate list opened is = all_found files rate list (λ i d at. head i d at (slice_get_cases opened i).1)
  where
    head : (i : ℕ) (d : SourceDecl) → slice_get list i ≡ Some d →
        ((o : audio.OpenedSource) × (i < length opened) × (slice_get opened i ≡ Some o) × (get_or opened i o ≡ o)) ⊎ ((length opened ≤ i) × (slice_get opened i ≡ None)) → HasHead files rate d
    head i d at (inl w) = is_ok (source_head rate d.channels (files d.file)) w.0.head (is.each i d w.0 at w.2).head
    head i d at (inr w) = absurd (omega (arith, slice_get_within list i d at, w.0, is.many))

-- the source at this place is refused, and all before it are opened
refused_at : (files : Files) (rate : ℕ) (list : List SourceDecl) (place : ℕ) (d : SourceDecl) (why : SourceRefusal) → slice_get list place ≡ Some d →
    source_head rate d.channels (files d.file) ≡ Err why → ((i : ℕ) (q : SourceDecl) → i < place → slice_get list i ≡ Some q → HasHead files rate q) →
    sources_in files rate list ≡ Err (SourceRefused d.name why)
refused_at files rate [] place d why at refused before = absurd (none place at)
refused_at files rate (x ∷ xs) zero d why at refused before =
    let same : x ≡ d = cc in
    let K : SourceDecl → Type 0 = λ q. sources_in files rate (q ∷ xs) ≡ Err (SourceRefused d.name why) in
    subst K (sym same) (ap (λ r. found d.name r >>= λ u. sources_in files rate xs) refused)
refused_at files rate (x ∷ xs) (suc place) d why at refused before = one_ok files rate x xs (before zero x (omega arith) refl)
    ∙ refused_at files rate xs place d why at refused (λ i q under there. before (suc i) q (omega (arith, under)) there)

-- the answer names the first source that is refused
first_named : (files : Files) (rate : ℕ) (list : List SourceDecl) (place : ℕ) (why : FileRefusal) → IsFirstRefused files rate list place why →
    Refuses (sources_in files rate list) (refusal_at list place why)
first_named files rate list place why first = named (slice_get list place) refl first.refused
  where
    named : (o : Option SourceDecl) → slice_get list place ≡ o → IsSomeAnd o (λ d. source_head rate d.channels (files d.file) ≡ Err (why_of why)) →
        Refuses (sources_in files rate list) (refusal_of o why)
    named (Some d) at refused = refused_at files rate list place d (why_of why) at refused first.first
    named None at refused = absurd refused

-- the same of an answer, by a list that is lent
pub answers_first : (files : Files) (rate : ℕ) (list lent : List SourceDecl) (place : ℕ) (why : FileRefusal) (r : OpenRefusal) (answer : Unopened) →
    answer ≡ refusal_at lent place why → lent ≡ list → r ≡ File place why → NamesFirst files rate list r → Refuses (sources_in files rate list) answer
answers_first files rate list lent place why r answer is same by first =
    let K : Unopened → Type 0 = λ u. Refuses (sources_in files rate list) u in
    let L : List SourceDecl → Type 0 = λ l. Refuses (sources_in files rate list) (refusal_at l place why) in
    let N : OpenRefusal → Type 0 = λ o. NamesFirst files rate list o in
    subst K (sym is) (subst L (sym same) (first_named files rate list place why (subst N by first)))

-- ---- the other way

both_ok : (r rest : Open (Unit {0})) → (r >>= λ u. rest) ≡ Ok tt → (r ≡ Ok tt) × (rest ≡ Ok tt)
both_ok (Ok u) rest e = (refl, e)
both_ok (Err w) rest e = absurd cc

ok_found : (name : List ℕ) (r : Result Head SourceRefusal) → found name r ≡ Ok tt → IsOk r
ok_found name (Ok h) e = search rules
ok_found name (Err w) e = absurd cc

-- where all are opened each has its head
pub each_head : (files : Files) (rate : ℕ) (list : List SourceDecl) → sources_in files rate list ≡ Ok tt → (i : ℕ) (d : SourceDecl) → slice_get list i ≡ Some d →
    HasHead files rate d
each_head files rate [] e i d at = absurd (none i at)
each_head files rate (x ∷ xs) e zero d at = let same : x ≡ d = cc in let K : SourceDecl → Type 0 = λ q. HasHead files rate q in
    subst K same (ok_found x.name (source_head rate x.channels (files x.file)) (both_ok (source_in files rate x) (sources_in files rate xs) e).0)
each_head files rate (x ∷ xs) e (suc i) d at = each_head files rate xs (both_ok (source_in files rate x) (sources_in files rate xs) e).1 i d at

abbrev refused : List ℕ → SourceRefusal → Open (Unit {0})
refused name why = Err (SourceRefused name why)

same_source : (a b : List ℕ) (v w : SourceRefusal) → refused a v ≡ refused b w → (a ≡ b) × (v ≡ w)
same_source a b v w e = (cc, cc)

-- the first of some sources is refused, or one of the others
more : (files : Files) (rate : ℕ) (x : SourceDecl) (xs : List SourceDecl) (name : List ℕ) (why : SourceRefusal) (r : Result Head SourceRefusal) →
    source_head rate x.channels (files x.file) ≡ r → (found x.name r >>= λ u. sources_in files rate xs) ≡ refused name why →
    (sources_in files rate xs ≡ refused name why → (place : ℕ) × (d : SourceDecl) × IsFirst files rate xs name why place d) →
    (place : ℕ) × (d : SourceDecl) × IsFirst files rate (x ∷ xs) name why place d
more files rate x xs name why (Err w) is e later = let same = same_source x.name name w why e in
    (zero, x, record { at = refl; name = same.0; refused = is ∙ ap (λ v. Err v) same.1; before = λ i q under there. absurd (omega (arith, under)) })
more files rate x xs name why (Ok h) is e later = let l = later e in
    (suc l.0, l.1, record { at = l.2.at; name = l.2.name; refused = l.2.refused; before = before l.0 l.2.before })
  where
    before : (place : ℕ) → ((i : ℕ) (q : SourceDecl) → i < place → slice_get xs i ≡ Some q → HasHead files rate q) →
        (i : ℕ) (q : SourceDecl) → i < suc place → slice_get (x ∷ xs) i ≡ Some q → HasHead files rate q
    before place rest zero q under there = let same : x ≡ q = cc in let K : SourceDecl → Type 0 = λ p. HasHead files rate p in
        subst K same (is_ok (source_head rate x.channels (files x.file)) h is)
    before place rest (suc i) q under there = rest i q (omega (arith, under)) there

pub first_of : (files : Files) (rate : ℕ) (list : List SourceDecl) (name : List ℕ) (why : SourceRefusal) → sources_in files rate list ≡ refused name why →
    (place : ℕ) × (d : SourceDecl) × IsFirst files rate list name why place d
first_of files rate [] name why e = absurd cc
first_of files rate (x ∷ xs) name why e =
    more files rate x xs name why (source_head rate x.channels (files x.file)) refl e (λ h. first_of files rate xs name why h)
