-- Takes that were closed are whole, but those closed in part; the files have fronts of all.
use Rattle.std.proofs.Common.{◌≡◌, inl, inr, ℕ, zero, suc, ◌+◌, ◌≤◌, ◌<◌, List, [], ◌∷◌, ◌++◌, length, refl, sym, ap, ap₂, subst, arith, ◌∙◌}
use Rattle.std.specs.Prelude.{Bool, true, false, ◌&&◌, ◌||◌, ◌==◌, if◌then◌else◌, Some, All}
use Rattle.std.specs.List.{list_any}
use Rattle.std.proofs.lemmas.Bool.{cases_eq, cases_lt, eq-eqb, eqb-true, false≢true, or_parts}
use Rattle.std.proofs.lemmas.List.Elements.{All-append, All-cons, All-head, All-nil, All-tail, All-weaker}
use Rattle.ses_io.specs.Files.{Files, content}
use Rattle.ses_io.proofs.Files.{with_file-same}
use Rattle.engine_model.specs.Journal.{Entry}
use Rattle.engine_model.specs.Takes.{take_file, take_name}
use Rattle.capture_flush.specs.declared.run.Run.{Run}
use Rattle.capture_flush.specs.Closing.{ClosesBut, ClosesInPart, all_runs, closed, closed_file, runs_of, track_runs}
use Rattle.capture_flush.specs.Taking.{Taking, has_failed}
use Rattle.capture_flush.specs.Finished.{AreTakesInPart, Recorded, is_among, names_take}
use Rattle.capture_flush.proofs.AddedLemmas.{OnlyAt, only_written}
use Rattle.capture_flush.proofs.CloseLemmas.{CanClose, IsTake, Ready, both, rising_all, still_ready, takes_of}
use Rattle.capture_flush.proofs.CountedLemmas.{follows}
use Rattle.capture_flush.proofs.NameLemmas.{names_apart}
use Rattle.capture_flush.proofs.NamedRunLemmas.{named_run}
use Rattle.capture_flush.proofs.PartLemmas.{closed_one, closes_one}
use Rattle.capture_flush.proofs.RunLemmas.{Rising, rising}
use Rattle.capture_flush.proofs.WalkLemmas.{all_first, all_last}

-- ---- lists of takes

-- none of the takes behind one is the same
abbrev pub Differs : ℕ × Run → ℕ × Run → Type 0
Differs x y = x.0 ≡ y.0 → x.1.take ≡ y.1.take → ⊥

abbrev pub Apart : List (ℕ × Run) → Type 0
Apart [] = Unit {0}
Apart (x ∷ xs) = All (Differs x) xs × Apart xs

-- it holds of a take of track t that hasn't failed
abbrev Unless : Taking → (ℕ × Run → Type 0) → ℕ → Run → Type 0
Unless f P t r = has_failed f t r.take ≡ false → P (t, r)

of_track : (f : Taking) (P : ℕ × Run → Type 0) (t : ℕ) (runs : List Run) → All (Unless f P t) runs → All P (track_runs f t runs)
of_track f P t [] all = All-nil P
of_track f P t (r ∷ rs) all = by (has_failed f t r.take) refl (of_track f P t rs (All-tail (Unless f P t) r rs all))
  where
    by : (c : Bool) → has_failed f t r.take ≡ c → All P (track_runs f t rs) → All P (if c then track_runs f t rs else (t, r) ∷ track_runs f t rs)
    by true is rest = rest
    by false is rest = All-cons P (t, r) (track_runs f t rs) (All-head (Unless f P t) r rs all is) rest

in_track : (f : Taking) (P : ℕ × Run → Type 0) (t : ℕ) (runs : List Run) → All P (track_runs f t runs) → All (Unless f P t) runs
in_track f P t [] all = All-nil (Unless f P t)
in_track f P t (r ∷ rs) all = by (has_failed f t r.take) refl all (in_track f P t rs)
  where
    by : (c : Bool) → has_failed f t r.take ≡ c → All P (if c then track_runs f t rs else (t, r) ∷ track_runs f t rs) → (All P (track_runs f t rs) → All (Unless f P t) rs) → All (Unless f P t) (r ∷ rs)
    by true is those rest = All-cons (Unless f P t) r rs (λ fine. absurd (false≢true (sym fine ∙ is))) (rest those)
    by false is those rest = All-cons (Unless f P t) r rs (λ fine. All-head P (t, r) (track_runs f t rs) those) (rest (All-tail P (t, r) (track_runs f t rs) those))

-- of all takes, those of each track
of_all : (f : Taking) (P : ℕ × Run → Type 0) (journal : List Entry) (t more : ℕ) → ((u : ℕ) → t ≤ u → u < t + more → All (Unless f P u) (runs_of u journal)) → All P (all_runs f journal t more)
of_all f P journal t zero each = All-nil P
of_all f P journal t (suc more) each = All-append P (track_runs f t (runs_of t journal)) (all_runs f journal (suc t) more) (of_track f P t (runs_of t journal) (each t (omega arith) (omega arith)))
    (of_all f P journal (suc t) more (λ u low high. each u (omega arith) (omega arith)))

in_all : (f : Taking) (P : ℕ × Run → Type 0) (journal : List Entry) (t more u : ℕ) → t ≤ u → u < t + more → All P (all_runs f journal t more) → All (Unless f P u) (runs_of u journal)
in_all f P journal t zero u low high all = absurd (omega arith)
in_all f P journal t (suc more) u low high all = elim (cases_eq t u) [
  | inl same ↦ subst (λ v. All (Unless f P v) (runs_of v journal)) same (in_track f P t (runs_of t journal) (all_first P (track_runs f t (runs_of t journal)) (all_runs f journal (suc t) more) all))
  | inr other ↦ in_all f P journal (suc t) more u (less t u low other) (omega arith) (all_last P (track_runs f t (runs_of t journal)) (all_runs f journal (suc t) more) all)
]
  where
    less : (a b : ℕ) → a ≤ b → (a ≡ b → ⊥) → suc a ≤ b
    less a b le other = elim (cases_lt a b) [ inl lt ↦ omega arith | inr ge ↦ absurd (other (omega arith)) ]

-- the takes of a track differ from one another, and from those of later tracks
track_apart : (f : Taking) (t low : ℕ) (runs : List Run) (more : List (ℕ × Run)) → Rising low runs → All (λ y. t < y.0) more → Apart more → Apart (track_runs f t runs ++ more)
track_apart f t low [] more up later apart = apart
track_apart f t low (r ∷ rs) more up later apart = by (has_failed f t r.take) (track_apart f t (suc r.take) rs more up.1 later apart)
  where
    by : (c : Bool) → Apart (track_runs f t rs ++ more) → Apart ((if c then track_runs f t rs else (t, r) ∷ track_runs f t rs) ++ more)
    by true rest = rest
    by false rest = (
      All-append (Differs (t, r)) (track_runs f t rs) more
          (of_track f (Differs (t, r)) t rs (All-weaker (λ (q : Run). suc r.take ≤ q.take) (Unless f (Differs (t, r)) t) (λ q le fine track take. omega (arith, le, take)) rs (rising_all (suc r.take) rs up.1)))
          (All-weaker (λ (y : ℕ × Run). t < y.0) (Differs (t, r)) (λ y lt track take. omega (arith, lt, track)) more later),
      rest,
    )

module _ (f : Taking) (run : Recorded) (journal : List Entry) (can : CanClose run journal) where
  abbrev many : ℕ
  many = length run.session.tracks.items

  abbrev named : ℕ × Run → List ℕ
  named x = take_name run.session x.0 x.1.take

  abbrev IsOne : ℕ × Run → Type 0
  IsOne x = (x.0 < many) × IsTake run journal x.0 x.1

  abbrev IsReady : Files → ℕ × Run → Type 0
  IsReady files x = Ready run journal files x.0 x.1

  abbrev IsWhole : Files → ℕ × Run → Type 0
  IsWhole files x = files (named x) ≡ Some (take_file run.session run.input x.0 x.1.take journal)

  all_apart : (t more : ℕ) → t + more ≡ many → Apart (all_runs f journal t more)
  all_apart t zero all = tt
  all_apart t (suc more) all = let lt : t < many = omega (arith, all) in
      track_apart f t 1 (runs_of t journal) (all_runs f journal (suc t) more) (rising t journal (follows t journal (can.counted.takes t lt)))
      (of_all f (λ y. t < y.0) journal (suc t) more (λ u low high. each u low (runs_of u journal))) (all_apart (suc t) more (omega (arith, all)))
    where
      Later : ℕ → Run → Type 0
      Later u r = has_failed f u r.take ≡ false → t < u

      each : (u : ℕ) → suc t ≤ u → (runs : List Run) → All (Later u) runs
      each u low [] = All-nil (Later u)
      each u low (r ∷ rs) = All-cons (Later u) r rs (λ fine. omega (arith, low)) (each u low rs)

  all_are : All IsOne (all_runs f journal 0 many)
  all_are = of_all f IsOne journal 0 many (λ u low high. All-weaker (IsTake run journal u) (Unless f IsOne u) (λ r is fine. (omega (arith, high), is)) (runs_of u journal) (takes_of run journal u can (omega (arith, high))))

  -- two takes that differ have two names
  other_name : (x y : ℕ × Run) → IsOne x → IsOne y → Differs x y → named x ≡ named y → ⊥
  other_name x y one two differ same = let both_are = names_apart run.session x.0 y.0 x.1.take y.1.take (omega (arith, one.1.low, can.small)) can.valid can.named one.0 two.0 same in differ both_are.0 both_are.1

  part_only : (x : ℕ × Run) (old new : Files) → ClosesInPart run.session x.0 x.1 old new → OnlyAt old new (named x)
  part_only x old new (inl same) q other = ap (λ fs. fs q) same
  part_only x old new (inr it) q other = ap (λ fs. fs q) it.1 ∙ only_written old (named x) it.0 q other

  -- those that differ from a take are as ready as before, where only its file changed
  ready_on : (x : ℕ × Run) (xs : List (ℕ × Run)) (old new : Files) → IsOne x → All IsOne xs → All (Differs x) xs → OnlyAt old new (named x) → All (IsReady old) xs → All (IsReady new) xs
  ready_on x xs old new one are apart only ready = All-weaker (λ y. (IsOne y × Differs x y) × IsReady old y) (IsReady new)
      (λ y it. still_ready run journal old new y.0 y.1 (only (named y) (other_name x y one it.0.0 it.0.1)) it.1) xs
      (both (λ y. IsOne y × Differs x y) (IsReady old) xs (both IsOne (Differs x) xs are apart) ready)

  -- a file that is none of theirs stays
  elsewhere : (xs : List (ℕ × Run)) (cut : List (ℕ × ℕ)) (old new : Files) (q : List ℕ) → All (λ y. named y ≡ q → ⊥) xs → ClosesBut run.session xs cut old new → new q ≡ old q
  elsewhere [] cut old new q others none = ap (λ fs. fs q) none.1
  elsewhere (x ∷ xs) cut old new q others (inl whole) = let Not : ℕ × Run → Type 0 = λ y. named y ≡ q → ⊥ in
      elsewhere xs cut (closed run.session x.0 x.1 old) new q (All-tail Not x xs others) whole
      ∙ only_written old (named x) (closed_file run.session x.0 x.1 (content old (named x))) q (All-head Not x xs others)
  elsewhere (x ∷ xs) cut old new q others (inr part) = let Not : ℕ × Run → Type 0 = λ y. named y ≡ q → ⊥ in
      elsewhere xs part.1 part.0 new q (All-tail Not x xs others) part.4 ∙ part_only x old part.0 part.3 q (All-head Not x xs others)

  -- what the files are after all
  record Ended (xs : List (ℕ × Run)) (cut : List (ℕ × ℕ)) (files : Files) : Type 0 where
    in_part : AreTakesInPart run journal files
    whole : All (λ x. is_among x.0 x.1.take cut ≡ false → IsWhole files x) xs

  first_among : (t n : ℕ) (rest : List (ℕ × ℕ)) → is_among t n ((t, n) ∷ rest) ≡ true
  first_among t n rest = ap₂ (λ a b. (a && b) || is_among t n rest) (eq-eqb t t refl) (eq-eqb n n refl)

  ended : (xs : List (ℕ × Run)) (cut : List (ℕ × ℕ)) (old new : Files) → All IsOne xs → Apart xs → All (IsReady old) xs → AreTakesInPart run journal old → ClosesBut run.session xs cut old new → Ended xs cut new
  ended [] cut old new are apart ready part none = record { in_part = subst (AreTakesInPart run journal) (sym none.1) part; whole = All-nil (λ (x : ℕ × Run). is_among x.0 x.1.take cut ≡ false → IsWhole new x) }
  ended (x ∷ xs) cut old new are apart ready part (inl but) = let one = All-head IsOne x xs are in let rest = All-tail IsOne x xs are in let here = All-head (IsReady old) x xs ready in
      let bytes = closed_file run.session x.0 x.1 (content old (named x)) in let middle = closed run.session x.0 x.1 old in
      let more = ended xs cut middle new rest apart.1 (ready_on x xs old middle one rest apart.0 (only_written old (named x) bytes) (All-tail (IsReady old) x xs ready))
      (closed_one run journal x.0 x.1 old can one.0 one.1 here part) but in record {
        in_part = more.in_part;
        whole = All-cons (λ (y : ℕ × Run). is_among y.0 y.1.take cut ≡ false → IsWhole new y) x xs
            (λ not. elsewhere xs cut middle new (named x) (none_here x xs one rest apart.0) but ∙ with_file-same old (named x) bytes ∙ ap (λ b. Some b) here) more.whole;
      }
    where
      none_here : (x : ℕ × Run) (xs : List (ℕ × Run)) → IsOne x → All IsOne xs → All (Differs x) xs → All (λ y. named y ≡ named x → ⊥) xs
      none_here x xs one rest apart = All-weaker (λ y. IsOne y × Differs x y) (λ y. named y ≡ named x → ⊥) (λ y it same. other_name x y one it.0 it.1 (sym same)) xs (both IsOne (Differs x) xs rest apart)
  ended (x ∷ xs) cut old new are apart ready part (inr but) = let one = All-head IsOne x xs are in let rest = All-tail IsOne x xs are in let here = All-head (IsReady old) x xs ready in
      let more = ended xs but.1 but.0 new rest apart.1 (ready_on x xs old but.0 one rest apart.0 (part_only x old but.0 but.3) (All-tail (IsReady old) x xs ready))
      (closes_one run journal x.0 x.1 old but.0 can one.0 one.1 here part but.3) but.4 in record {
        in_part = more.in_part;
        whole = All-cons (λ (y : ℕ × Run). is_among y.0 y.1.take cut ≡ false → IsWhole new y) x xs
            (λ not. absurd (false≢true (sym not ∙ ap (is_among x.0 x.1.take) but.2 ∙ first_among x.0 x.1.take but.1)))
            (All-weaker (λ (y : ℕ × Run). is_among y.0 y.1.take but.1 ≡ false → IsWhole new y) (λ (y : ℕ × Run). is_among y.0 y.1.take cut ≡ false → IsWhole new y)
            (λ y is not. is (or_parts (x.0 == y.0 && x.1.take == y.1.take) (is_among y.0 y.1.take but.1) (sym (ap (is_among y.0 y.1.take) but.2) ∙ not)).1) xs more.whole);
      }

  found : (P : Run → Type 0) (n : ℕ) (runs : List Run) → All P runs → list_any (λ (r : Run). r.take == n) runs ≡ true → (r : Run) × (r.take ≡ n) × P r
  found P n [] all there = absurd (false≢true there)
  found P n (r ∷ rs) all there = by (r.take == n) refl there (found P n rs (All-tail P r rs all))
    where
      by : (b : Bool) → (r.take == n) ≡ b → (b || list_any (λ (r : Run). r.take == n) rs) ≡ true → (list_any (λ (r : Run). r.take == n) rs ≡ true → (r : Run) × (r.take ≡ n) × P r) →
          (r : Run) × (r.take ≡ n) × P r
      by true same there rest = (r, eqb-true r.take n same, All-head P r rs all)
      by false other there rest = rest there

  -- a take is ready to be closed unless it has failed
  abbrev pub ReadyUnless : Files → ℕ → Run → Type 0
  ReadyUnless files t r = has_failed f t r.take ≡ false → Ready run journal files t r

  -- all takes of the journal were closed, but those that had failed
  pub all_ended : (cut : List (ℕ × ℕ)) (old new : Files) → ((t : ℕ) → t < many → All (ReadyUnless old t) (runs_of t journal)) → AreTakesInPart run journal old →
      ClosesBut run.session (all_runs f journal 0 many) cut old new → AreTakesInPart run journal new ×
      ((t n : ℕ) → t < many → names_take t n journal ≡ true → has_failed f t n ≡ false → is_among t n cut ≡ false →
      new (take_name run.session t n) ≡ Some (take_file run.session run.input t n journal))
  all_ended cut old new ready part but = let it = ended (all_runs f journal 0 many) cut old new all_are (all_apart 0 many (omega arith)) (of_all f (IsReady old) journal 0 many (λ u low high. ready u (omega (arith, high)))) part but in (
    it.in_part,
    λ t n lt is_named. let Q : ℕ × Run → Type 0 = λ x. is_among x.0 x.1.take cut ≡ false → IsWhole new x in
        let r = found (Unless f Q t) n (runs_of t journal) (in_all f Q journal 0 many t (omega arith) (omega (arith, lt)) it.whole) (named_run t n journal (can.counted.takes t lt) is_named) in
        subst (λ m. has_failed f t m ≡ false → is_among t m cut ≡ false → new (take_name run.session t m) ≡ Some (take_file run.session run.input t m journal)) r.1 r.2,
  )
