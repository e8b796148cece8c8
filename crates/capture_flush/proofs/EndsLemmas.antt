-- Takes are closed, one after another: what that leaves of a media.
use Rattle.std.proofs.Common.{◌≡◌, ℕ, zero, suc, ◌+◌, ◌*◌, ◌≤◌, inl, inr, Bool, true, false, List, [], ◌∷◌, ◌++◌, length, drop, refl, sym, ap, subst, ◌∙◌, arith, append_assoc, append-nil, length-append, Result, Ok, Err, OnOk, OnErr, true≢false}
use Rattle.std.specs.Prelude.{All, ◌||◌, if◌then◌else◌, is_err}
use Rattle.std.specs.Str.{bytes_eq}
use Rattle.std.proofs.lemmas.Bool.{or_parts}
use Rattle.std.proofs.lemmas.List.Elements.{All-weaker}
use Rattle.ses_io.specs.Faults.{risen}
use Rattle.ses_io.specs.Files.{Files, content, with_file}
use Rattle.ses_io.specs.Outside.{MediaOutside, WriteCause}
use Rattle.ses_io.proofs.Files.{bytes_eq-true}
use Rattle.sound_model.specs.Wav.{header}
use Rattle.session_model.specs.declared.session.Session.{Session}
use Rattle.engine_model.specs.Journal.{Entry}
use Rattle.engine_model.specs.Takes.{take_form, take_name}
use Rattle.capture_flush.specs.declared.run.Run.{Run}
use Rattle.capture_flush.specs.Closing.{ClosesBut, ClosesInPart, Ends, HasHeadUnless, all_runs, closed, closed_file, ending, runs_of, track_runs}
use Rattle.capture_flush.specs.Taking.{Taking, has_failed}
use Rattle.capture_flush.specs.Flushed.{block_bytes}
use Rattle.capture_flush.proofs.HeaderLemmas.{header_long}

-- ---- some takes, and then others

but_then : (s : Session) (xs ys : List (ℕ × Run)) (first last : List (ℕ × ℕ)) (old middle new : Files) → ClosesBut s xs first old middle → ClosesBut s ys last middle new → ClosesBut s (xs ++ ys) (first ++ last) old new
but_then s [] ys first last old middle new none more = subst (λ c. ClosesBut s ys (c ++ last) old new) (sym none.0) (subst (λ m. ClosesBut s ys last m new) none.1 more)
but_then s (x ∷ xs) ys first last old middle new (inl whole) more = inl (but_then s xs ys first last (closed s x.0 x.1 old) middle new whole more)
but_then s (x ∷ xs) ys first last old middle new (inr part) more = inr (
  part.0,
  part.1 ++ last,
  ap (λ c. c ++ last) part.2,
  part.3,
  but_then s xs ys part.1 last part.0 middle new part.4 more,
)

module _ {V : Type 0} (outside : MediaOutside V) (s : Session) where
  pub ends_none : (now : V) → Ends outside s [] now now false
  ends_none now = record {
    cut = [];
    files = λ t. (refl, refl);
    many = omega arith;
    later = omega arith;
    rose = λ is. absurd (true≢false (sym is));
    fine = λ is. (refl, refl);
    reads = refl;
  }

  pub ends_then : (xs ys : List (ℕ × Run)) (old middle new : V) (first last : Bool) → Ends outside s xs old middle first → Ends outside s ys middle new last → Ends outside s (xs ++ ys) old new (first || last)
  ends_then xs ys old middle new first last one two = record {
    cut = one.cut ++ two.cut;
    files = λ t. but_then s xs ys one.cut two.cut (outside.files old) (outside.files middle) (outside.files new) (one.files t) (two.files t);
    many = omega (arith, one.many, two.many, length-append one.cut two.cut);
    later = omega (arith, one.later, two.later);
    rose = by first last one.rose two.rose;
    fine = λ is. let parts = or_parts first last is in let here = one.fine parts.0 in let there = two.fine parts.1 in
        (ap (λ c. c ++ two.cut) here.0 ∙ there.0, there.1 ∙ here.1);
    reads = two.reads ∙ one.reads;
  }
    where
      by : (first last : Bool) → (first ≡ true → risen (outside.write_faults old) ≤ outside.write_faults middle) → (last ≡ true → risen (outside.write_faults middle) ≤ outside.write_faults new) →
          (first || last) ≡ true → risen (outside.write_faults old) ≤ outside.write_faults new
      by true last here there is = omega (arith, here refl, two.later)
      by false true here there is = omega (arith, there refl, one.later)
      by false false here there is = absurd (true≢false (sym is))

  pub ends_as : (xs ys : List (ℕ × Run)) (old new : V) (failed : Bool) → xs ≡ ys → Ends outside s xs old new failed → Ends outside s ys old new failed
  ends_as xs ys old new failed same ends = subst (λ l. Ends outside s l old new failed) same ends

  -- one take
  pub ends_one : {E : Type 0} (t : ℕ) (r : Run) (old new : V) (result : Result (Unit {0}) E) → (outside.tells → OnOk result (outside.files new ≡ closed s t r (outside.files old))) →
      (outside.tells → OnErr result (ClosesInPart s t r (outside.files old) (outside.files new))) → WriteCause outside old new result → outside.read_faults new ≡ outside.read_faults old →
      Ends outside s ((t, r) ∷ []) old new (is_err result)
  ends_one t r old new (Ok u) all part cause reads = record {
    cut = [];
    files = λ told. inl (refl, all told);
    many = omega (arith, cause.later);
    later = cause.later;
    rose = λ is. absurd (true≢false (sym is));
    fine = λ is. (refl, cause.kept);
    reads = reads;
  }
  ends_one t r old new (Err e) all part cause reads = record {
    cut = (t, r.take) ∷ [];
    files = λ told. inr (outside.files new, [], refl, part told, (refl, refl));
    many = cause.rose;
    later = cause.later;
    rose = λ is. cause.rose;
    fine = λ is. absurd (true≢false is);
    reads = reads;
  }

  -- ---- the takes of a track, as far as the walk came

  pub record Walked (f : Taking) (t : ℕ) (whole rest : List Run) (old new : V) (failed : Bool) : Type 0 where
    pub done : List Run
    pub parts : whole ≡ done ++ rest
    pub ends : Ends outside s (track_runs f t done) old new failed

  pub walked_none : (f : Taking) (t : ℕ) (whole : List Run) (now : V) → Walked f t whole whole now now false
  walked_none f t whole now = record { done = []; parts = refl; ends = ends_none now }

  joined : (f : Taking) (t : ℕ) (xs ys : List Run) → track_runs f t xs ++ track_runs f t ys ≡ track_runs f t (xs ++ ys)
  joined f t [] ys = refl
  joined f t (x ∷ xs) ys = by (has_failed f t x.take) (joined f t xs ys)
    where
      by : (c : Bool) → track_runs f t xs ++ track_runs f t ys ≡ track_runs f t (xs ++ ys) → (if c then track_runs f t xs else (t, x) ∷ track_runs f t xs) ++ track_runs f t ys
          ≡ (if c then track_runs f t (xs ++ ys) else (t, x) ∷ track_runs f t (xs ++ ys))
      by true same = same
      by false same = ap (λ l. (t, x) ∷ l) same

  pub walked_more : (f : Taking) (t : ℕ) (whole rest first more : List Run) (old middle new : V) (failed fails : Bool) → rest ≡ first ++ more → Walked f t whole rest old middle failed →
      Ends outside s (track_runs f t first) middle new fails → Walked f t whole more old new (failed || fails)
  walked_more f t whole rest first more old middle new failed fails parts walked ends = record {
    done = walked.done ++ first;
    parts = walked.parts ∙ ap (λ l. walked.done ++ l) parts ∙ sym (append_assoc walked.done first more);
    ends = ends_as (track_runs f t walked.done ++ track_runs f t first) (track_runs f t (walked.done ++ first)) old new (failed || fails) (joined f t walked.done first)
        (ends_then (track_runs f t walked.done) (track_runs f t first) old middle new failed fails walked.ends ends);
  }

  pub walked_all : (f : Taking) (t : ℕ) (whole rest last : List Run) (old middle new : V) (failed fails : Bool) → rest ≡ last → Walked f t whole rest old middle failed →
      Ends outside s (track_runs f t last) middle new fails → Ends outside s (track_runs f t whole) old new (failed || fails)
  walked_all f t whole rest last old middle new failed fails parts walked ends =
      ends_as (track_runs f t walked.done ++ track_runs f t last) (track_runs f t whole) old new (failed || fails) (joined f t walked.done last ∙ ap (track_runs f t) (sym (walked.parts ∙ ap (λ l. walked.done ++ l) parts)))
      (ends_then (track_runs f t walked.done) (track_runs f t last) old middle new failed fails walked.ends ends)

-- ---- one track more

track_more : (f : Taking) (journal : List Entry) (t more : ℕ) → all_runs f journal t (suc more) ≡ all_runs f journal t more ++ track_runs f (t + more) (runs_of (t + more) journal)
track_more f journal t zero = let e : t ≡ t + 0 = omega arith in append-nil (track_runs f t (runs_of t journal)) ∙ ap (λ u. track_runs f u (runs_of u journal)) e
track_more f journal t (suc more) = let e : suc t + more ≡ t + suc more = omega arith in let here = track_runs f t (runs_of t journal) in
    ap (λ l. here ++ l) (track_more f journal (suc t) more ∙ ap (λ u. all_runs f journal (suc t) more ++ track_runs f u (runs_of u journal)) e)
    ∙ sym (append_assoc here (all_runs f journal (suc t) more) (track_runs f (t + suc more) (runs_of (t + suc more) journal)))

pub one_track_more : (f : Taking) (journal : List Entry) (more : ℕ) → all_runs f journal 0 more ++ track_runs f more (runs_of more journal) ≡ all_runs f journal 0 (more + 1)
one_track_more f journal more = let e : 0 + more ≡ more = omega arith in let up : suc more ≡ more + 1 = omega arith in
    sym (ap (all_runs f journal 0) (sym up) ∙ track_more f journal 0 more ∙ ap (λ u. all_runs f journal 0 more ++ track_runs f u (runs_of u journal)) e)

-- ---- heads stay

long_closed : (s : Session) (t : ℕ) (r : Run) (held : List ℕ) → 44 ≤ length (closed_file s t r held)
long_closed s t r held = omega (arith, length-append (header (take_form s t) (r.blocks * block_bytes s t)) (drop 44 (held ++ ending s t r)), header_long (take_form s t) (r.blocks * block_bytes s t))

written_long : (files : Files) (name q bytes : List ℕ) (b : Bool) → bytes_eq name q ≡ b → (name ≡ q → 44 ≤ length bytes) → 44 ≤ length (content files q) → 44 ≤ length (content (with_file files name bytes) q)
written_long files name q bytes true same long held = rw same (long (bytes_eq-true name q same))
written_long files name q bytes false other long held = rw other held

part_long : (s : Session) (t : ℕ) (r : Run) (q : List ℕ) (old new : Files) → ClosesInPart s t r old new → 44 ≤ length (content old q) → 44 ≤ length (content new q)
part_long s t r q old new (inl same) held = subst (λ fs. 44 ≤ length (content fs q)) (sym same) held
part_long s t r q old new (inr it) held = let name = take_name s t r.take in subst (λ fs. 44 ≤ length (content fs q)) (sym it.1)
    (written_long old name q it.0 (bytes_eq name q) refl (λ same. let h : 44 ≤ length (content old name) = subst (λ p. 44 ≤ length (content old p)) (sym same) held in omega (arith, h, it.2)) held)

pub still_long : (s : Session) (xs : List (ℕ × Run)) (cut : List (ℕ × ℕ)) (q : List ℕ) (old new : Files) → ClosesBut s xs cut old new → 44 ≤ length (content old q) → 44 ≤ length (content new q)
still_long s [] cut q old new none held = subst (λ fs. 44 ≤ length (content fs q)) (sym none.1) held
still_long s (x ∷ xs) cut q old new (inl whole) held = let name = take_name s x.0 x.1.take in still_long s xs cut q (closed s x.0 x.1 old) new whole
    (written_long old name q (closed_file s x.0 x.1 (content old name)) (bytes_eq name q) refl (λ same. long_closed s x.0 x.1 (content old name)) held)
still_long s (x ∷ xs) cut q old new (inr part) held = still_long s xs part.1 q part.0 new part.4 (part_long s x.0 x.1 q old part.0 part.3 held)

pub heads_stay : (f : Taking) (s : Session) (xs : List (ℕ × Run)) (cut : List (ℕ × ℕ)) (t : ℕ) (runs : List Run) (old new : Files) → ClosesBut s xs cut old new → All (HasHeadUnless f s t old) runs → All (HasHeadUnless f s t new) runs
heads_stay f s xs cut t runs old new but heads = All-weaker (HasHeadUnless f s t old) (HasHeadUnless f s t new) (λ r head fine some. still_long s xs cut (take_name s t r.take) old new but (head fine some)) runs heads

-- ---- all tracks

pub ends_all : {V : Type 0} (outside : MediaOutside V) (f : Taking) (s : Session) (journal : List Entry) (track many : ℕ) (old new : V) (failed b : Bool) → track ≡ many → failed ≡ b →
    Ends outside s (all_runs f journal 0 track) old new failed → Ends outside s (all_runs f journal 0 many) old new b
ends_all outside f s journal track many old new failed b all is ends = subst (λ n. Ends outside s (all_runs f journal 0 n) old new b) all (subst (λ c. Ends outside s (all_runs f journal 0 track) old new c) is ends)
