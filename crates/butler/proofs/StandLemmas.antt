-- The numbers of a track keep standing for what was sent of it.
use Rattle.std.proofs.Common.{◌≡◌, ℕ, suc, ◌+◌, ◌-◌, ◌<◌, ◌≤◌, List, [], ◌∷◌, ◌++◌, length, refl, sym, ap, ◌∙◌, subst, arith, append_assoc}
use Rattle.std.specs.Prelude.{Bool, true, false, ◌&&◌, ◌==◌, max, nat_lt, if◌then◌else◌, reverse, Option, Some, None}
use Rattle.std.specs.List.{list_all}
use Rattle.std.proofs.lemmas.Bool.{and_parts, ltb-true}
use Rattle.std.proofs.lemmas.List.{reverse-append}
use Rattle.std.proofs.lemmas.Option.{same_Some}
use Rattle.session_model.specs.declared.session.Session.{Session}
use Rattle.session_model.specs.declared.edit.Edit.{Edit}
use Rattle.engine_model.specs.Items.{Kind, Piece, Settled, Blank}
use Rattle.engine_model.specs.Due.{Ack, Needs, needs, due, next_block}
use Rattle.engine_laws.specs.Kept.{is_from}
use Rattle.engine_laws.specs.Marks.{next_mark}
use Rattle.engine_laws.specs.Tracked.{Tracked, due_now}
use Rattle.engine_laws.proofs.DueLemmas.{due_after_is, revise_keeps, place_keeps, mark_keeps}
use Rattle.engine_laws.proofs.MarkLemmas.{marked_is}
use Rattle.engine_laws.proofs.SendLemmas.{send_keeps}
use Rattle.read_ahead.specs.declared.progress.SendProgress.{SendProgress}
use Rattle.read_ahead.specs.SendProgress.{now_due, advanced, AreDueInOrder}
use Rattle.butler.specs.Sends.{AreDue}
use Rattle.butler.specs.Serving.{StandsFor}

none_is_some : {X : Type 0} (x : X) (P : Type 0) → None ≡ Some x → P
none_is_some x P h = absurd (grind (arith, h))

-- ---- one step by the numbers

module _ (n : Needs) where
  -- a piece is of the track, the generation and the playlist edition that are served
  abbrev pub Names : Kind → Type 0
  Names (Piece t g s p) = (t ≡ n.track) × (g ≡ n.generation) × (p ≡ n.touched)
  Names _ = Unit {0}

  abbrev T : SendProgress → ℕ → List Kind → Type 0
  T a base after = Tracked a.generation a.touched base a.fresh a.far after

  -- the numbers hold of what was sent
  abbrev Holds : SendProgress → List Kind → Type 0
  Holds a after = (base : ℕ) × (T a base after × (base ≤ n.next) × (a.far ≤ n.cycles))

  abbrev After : SendProgress → List Kind → Kind → Type 0
  After a before x = Names x × Holds (advanced n.next a x) (x ∷ before)

  -- what is due, by the three tests
  abbrev picked : SendProgress → Bool → Bool → Bool → Option Kind
  picked a c m q = if c then Some (Piece n.track n.generation (a.fresh - 1) n.touched)
      else (if m then (if q then Some (Piece n.track n.generation (max a.far n.next) n.touched) else None) else Some (Settled n.edition n.generation n.next))

  as_named : (a : SendProgress) (s : ℕ) → a.generation ≡ n.generation → a.touched ≡ n.touched → Piece n.track a.generation s a.touched ≡ Piece n.track n.generation s n.touched
  as_named a s g p = λ i. Piece n.track (g i) s (p i)

  step_by : (a : SendProgress) (base : ℕ) (before : List Kind) (x : Kind) (c m q : Bool) → a.generation ≡ n.generation → a.touched ≡ n.touched → T a base before → base ≤ n.next → a.far ≤ n.cycles →
      nat_lt n.next a.fresh ≡ c → (nat_lt (max a.far n.next) (n.next + n.depth) && nat_lt (max a.far n.next) n.cycles) ≡ q → picked a c m q ≡ Some x → After a before x
  step_by a base before x true m q g p tr le near c_is q_is h =
      let P : Kind = Piece n.track n.generation (a.fresh - 1) n.touched in
      let lt : n.next < a.fresh = ltb-true n.next a.fresh c_is in
      subst (After a before) (same_Some P x h) (
        (refl, refl, refl),
        subst (λ (b : SendProgress). Holds b (P ∷ before))
            (sym (ap (λ (c : Bool). if c then record a { fresh = a.fresh - 1 } else record a { far = suc (max a.far n.next) }) c_is)) (
              base,
              (
                subst (λ (k : Kind). Tracked a.generation a.touched base (a.fresh - 1) a.far (k ∷ before)) (as_named a (a.fresh - 1) g p)
                    (revise_keeps n.track a.generation a.touched base a.fresh a.far n.next before tr le lt),
                le,
                near,
              ),
            ),
      )
  step_by a base before x false false q g p tr le near c_is q_is h =
      subst (After a before) (same_Some (Settled n.edition n.generation n.next) x h)
      (tt, (base, (mark_keeps a.generation a.touched base a.fresh a.far n.edition n.generation n.next before tr, le, near)))
  step_by a base before x false true true g p tr le near c_is q_is h =
      let P : Kind = Piece n.track n.generation (max a.far n.next) n.touched in
      let high : n.next < a.fresh → ⊥ = λ lt. grind (arith, lt, c_is) in let least : a.fresh ≤ n.next = omega arith in
      let within = and_parts (nat_lt (max a.far n.next) (n.next + n.depth)) (nat_lt (max a.far n.next) n.cycles) q_is in
      let far : max a.far n.next < n.cycles = ltb-true (max a.far n.next) n.cycles within.1 in
      subst (After a before) (same_Some P x h) (
        (refl, refl, refl),
        subst (λ (b : SendProgress). Holds b (P ∷ before))
            (sym (ap (λ (c : Bool). if c then record a { fresh = a.fresh - 1 } else record a { far = suc (max a.far n.next) }) c_is)) (
              (if nat_lt a.far n.next then n.next else base),
              (
                subst (λ (k : Kind). Tracked a.generation a.touched (if nat_lt a.far n.next then n.next else base) a.fresh (suc (max a.far n.next)) (k ∷ before))
                    (as_named a (max a.far n.next) g p)
                    (place_keeps n.track a.generation a.touched base a.fresh a.far n.next before tr least),
                grind (arith, le),
                far,
              ),
            ),
      )
  step_by a base before x false true false g p tr le near c_is q_is h = none_is_some x (After a before x) h

  pub steps : (a : SendProgress) (base : ℕ) (before : List Kind) (x : Kind) → a.generation ≡ n.generation → a.touched ≡ n.touched → T a base before → base ≤ n.next → a.far ≤ n.cycles →
      now_due n a ≡ Some x → After a before x
  steps a base before x g p tr le near h = step_by a base before x (nat_lt n.next a.fresh) (a.mark == suc n.edition)
      (nat_lt (max a.far n.next) (n.next + n.depth) && nat_lt (max a.far n.next) n.cycles) g p tr le near refl refl h

  -- what a step leaves as it was
  keeps_generation : (a : SendProgress) (x : Kind) → (advanced n.next a x).generation ≡ a.generation
  keeps_generation a (Piece t g s p) = by_test (nat_lt n.next a.fresh) where
    by_test : (c : Bool) → (if c then record a { fresh = a.fresh - 1 } else record a { far = suc (max a.far n.next) }).generation ≡ a.generation
    by_test true = refl
    by_test false = refl
  keeps_generation a (Settled k g s) = refl
  keeps_generation a Blank = refl

  keeps_touched : (a : SendProgress) (x : Kind) → (advanced n.next a x).touched ≡ a.touched
  keeps_touched a (Piece t g s p) = by_test (nat_lt n.next a.fresh) where
    by_test : (c : Bool) → (if c then record a { fresh = a.fresh - 1 } else record a { far = suc (max a.far n.next) }).touched ≡ a.touched
    by_test true = refl
    by_test false = refl
  keeps_touched a (Settled k g s) = refl
  keeps_touched a Blank = refl

  keeps_mark : (a : SendProgress) (before : List Kind) (x : Kind) → a.mark ≡ next_mark before → (advanced n.next a x).mark ≡ next_mark (x ∷ before)
  keeps_mark a before (Piece t g s p) same = by_test (nat_lt n.next a.fresh) where
    by_test : (c : Bool) → (if c then record a { fresh = a.fresh - 1 } else record a { far = suc (max a.far n.next) }).mark ≡ next_mark before
    by_test true = same
    by_test false = same
  keeps_mark a before (Settled k g s) same = refl
  keeps_mark a before Blank same = same

-- ---- of a session

module _ (s : Session) (edits : List Edit) (cycles t : ℕ) (acks : List Ack) where
  abbrev N : Needs
  N = needs s edits cycles t (length edits) acks

  abbrev St : SendProgress → List Kind → Type 0
  St = StandsFor s edits cycles t acks

  tracked_here : (a : SendProgress) (before : List Kind) (st : St a before) → Tracked N.generation N.touched st.base a.fresh a.far before
  tracked_here a before st = subst (λ g. Tracked g N.touched st.base a.fresh a.far before) st.generation_is
      (subst (λ p. Tracked a.generation p st.base a.fresh a.far before) st.touched_is st.tracked)

  passed_here : (a : SendProgress) (before : List Kind) (st : St a before) → st.base ≤ N.next
  passed_here a before st = subst (λ g. st.base ≤ next_block acks g) st.generation_is st.passed

  -- the numbers say what is due
  pub due_is : (a : SendProgress) (before : List Kind) → St a before → due s edits cycles t (length edits) acks before ≡ now_due N a
  due_is a before st = due_after_is N st.base a.fresh a.far before (tracked_here a before st) (passed_here a before st)
      ∙ ap (λ m. due_now N m a.fresh a.far) (marked_is s edits t (length edits) before st.kept.in_order st.kept.from ∙ ap (λ m. m == suc (length edits)) (sym st.mark_is))

  step_stands : (a : SendProgress) (before : List Kind) (x : Kind) → St a before → now_due N a ≡ Some x → St (advanced N.next a x) (x ∷ before) × Names N x
  step_stands a before x st h = let after = steps N a st.base before x st.generation_is st.touched_is st.tracked (passed_here a before st) st.near h in
      let same = keeps_generation N a x in (
        record {
          kept = send_keeps s edits cycles t (length edits) acks before x st.kept (due_is a before st ∙ h);
          generation_is = same ∙ st.generation_is;
          touched_is = keeps_touched N a x ∙ st.touched_is;
          mark_is = keeps_mark N a before x st.mark_is;
          base = after.1.0;
          tracked = after.1.1.0;
          passed = subst (λ g. after.1.0 ≤ next_block acks g) (sym (same ∙ st.generation_is)) after.1.1.1;
          near = after.1.1.2;
        },
        after.0,
      )

  abbrev pub AllNamed : List Kind → Type 0
  AllNamed [] = Unit {0}
  AllNamed (x ∷ xs) = Names N x × AllNamed xs

  -- a run sends what is due, and then the numbers stand for all of it
  pub run_stands : (a b : SendProgress) (before xs : List Kind) → St a before → AreDueInOrder N a xs b →
      AreDue s edits cycles t acks before xs × St b (reverse xs ++ before) × AllNamed xs
  run_stands a b before [] st run = (tt, subst (λ (z : SendProgress). St z before) (sym run) st, tt)
  run_stands a b before (x ∷ xs) st run = let step = step_stands a before x st run.0 in let rest = run_stands (advanced N.next a x) b (x ∷ before) xs step.0 run.1 in
      let onto : reverse xs ++ (x ∷ before) ≡ reverse (x ∷ xs) ++ before = sym (ap (λ l. l ++ before) (reverse-append (x ∷ []) xs) ∙ append_assoc (reverse xs) (x ∷ []) before) in
      ((due_is a before st ∙ run.0, rest.0), subst (St b) onto rest.1, (step.1, rest.2))

  -- what is due is from the edition that was entered, and is named by it
  pub due_from : (a : SendProgress) (before : List Kind) (x : Kind) → St a before → now_due N a ≡ Some x → (is_from s edits t (length edits) x ≡ true) × Names N x
  due_from a before x st h = let step = step_stands a before x st h in ((and_parts (is_from s edits t (length edits) x) (list_all (is_from s edits t (length edits)) before) step.0.kept.from).0, step.1)
