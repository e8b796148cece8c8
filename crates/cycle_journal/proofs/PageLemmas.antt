-- Pieces that are given to a page one after the other, and what its sink has of them.
use Rattle.std.proofs.Common.{◌≡◌, ℕ, ◌+◌, ◌-◌, ◌≤◌, List, [], ◌∷◌, ◌++◌, length, take, drop, Result, Ok, Err, OnOk, refl, sym, ap, subst, ◌∙◌, arith, append-nil, append_assoc, length-append}
use Rattle.std.proofs.Math.Seq.{take-append_seam, take-append-add}
use Rattle.std.proofs.lemmas.List.{take-append-drop, take-append-le}
use Rattle.std.specs.Result.{IsErr}
use Rattle.std.proofs.lemmas.Result.{on_ok_weaker}
use Rattle.ses_io.specs.declared.errors.Failed.{Failed}
use Rattle.ses_io.specs.Faults.{HasCause}
use Rattle.ses_io.specs.Outside.{SinkOutside, Writes}
use Rattle.ses_io.specs.Streams.{AppendsSome}
use Rattle.cycle_journal.specs.Page.{Adds}

-- ---- fronts

-- a list is its front of this length
front : (b r y : List ℕ) → b ++ r ≡ y → b ≡ take (length b) y
front b r y is = sym (take-append_seam b r) ∙ ap (take (length b)) is

-- what begins with the one list, and is begun by the other with more, has a front of the more
pub front_of : (a b x r : List ℕ) → b ++ r ≡ a ++ x → length a ≤ length b → AppendsSome a b x
front_of a b x r is grown =
    let long : length b + length r ≡ length a + length x = sym (length-append b r) ∙ ap length is ∙ length-append a x in
    let few : length b ≡ length a + (length b - length a) = omega arith in (
      length b - length a,
      record {
        within = omega arith;
        held = front b r (a ++ x) is ∙ ap (λ (n : ℕ). take n (a ++ x)) few ∙ take-append-add a x (length b - length a);
      },
    )

-- and then there is a rest
pub rest_of : (a b x : List ℕ) → AppendsSome a b x → (r : List ℕ) × (b ++ r ≡ a ++ x)
rest_of a b x some = (
  drop some.0 x,
  ap (λ (t : List ℕ). t ++ drop some.0 x) some.1.held ∙ append_assoc a (take some.0 x) (drop some.0 x) ∙ ap (λ (t : List ℕ). a ++ t) (take-append-drop some.0 x),
)

pub grown : (a b x : List ℕ) → AppendsSome a b x → length a ≤ length b
grown a b x some = omega (arith, ap length some.1.held, length-append a (take some.0 x))

-- a front is a front of more
pub front_more : (a b x y : List ℕ) → AppendsSome a b x → AppendsSome a b (x ++ y)
front_more a b x y some = (
  some.0,
  record {
    within = omega (arith, length-append x y, some.1.within);
    held = some.1.held ∙ ap (λ (t : List ℕ). a ++ t) (sym (take-append-le some.0 x y some.1.within));
  },
)

-- ---- pieces

-- where one had all behind what was, a front behind that is a front of both
joined : (h a b w w1 p q r : List ℕ) → a ++ w1 ≡ h ++ (w ++ p) → b ++ r ≡ a ++ (w1 ++ q) → b ++ r ≡ h ++ (w ++ (p ++ q))
joined h a b w w1 p q r first second =
    second ∙ sym (append_assoc a w1 q) ∙ ap (λ (t : List ℕ). t ++ q) first ∙ append_assoc h (w ++ p) q ∙ ap (λ (t : List ℕ). h ++ t) (append_assoc w p q)

-- nothing is added
pub adds_nothing : {S E : Type 0} (outside : SinkOutside S) (w : List ℕ) (s : S) → Adds {E = E} outside [] w w s s (Ok tt)
adds_nothing outside w s = record {
  went = λ t. front_of (outside.held s) (outside.held s) (w ++ []) (w ++ []) refl (omega arith);
  all = λ t. ap (λ (x : List ℕ). outside.held s ++ x) (sym (append-nil w));
  cause = record { later = omega arith; kept = refl; rose = tt };
}

-- a piece is added that the page has room for
pub adds_more : {S E : Type 0} (outside : SinkOutside S) (p q w w1 w2 : List ℕ) (s s1 : S) → Adds {E = E} outside p w w1 s s1 (Ok tt) → w2 ≡ w1 ++ q → Adds {E = E} outside (p ++ q) w w2 s s1 (Ok tt)
adds_more outside p q w w1 w2 s s1 first more = record {
  went = λ t. subst (AppendsSome (outside.held s) (outside.held s1)) (append_assoc w p q) (front_more (outside.held s) (outside.held s1) (w ++ p) q (first.went t));
  all = λ t. joined (outside.held s) (outside.held s1) (outside.held s1) w w1 p q w2 (first.all t) (ap (λ (x : List ℕ). outside.held s1 ++ x) more);
  cause = first.cause;
}

caused : {E F : Type 0} (before middle now : ℕ) (r : Result (Unit {0}) F) → HasCause {T = Unit {0}} {E = E} before middle (Ok tt) → HasCause middle now r → HasCause before now r
caused before middle now r first second = subst (λ (n : ℕ). HasCause n now r) first.kept second

-- a piece is added behind another
pub adds_then : {S E F : Type 0} (outside : SinkOutside S) (p q w w1 w2 : List ℕ) (s s1 s2 : S) (r : Result (Unit {0}) F) → Adds {E = E} outside p w w1 s s1 (Ok tt) → Adds outside q w1 w2 s1 s2 r → Adds outside (p ++ q) w w2 s s2 r
adds_then outside p q w w1 w2 s s1 s2 r first second = record {
  went = λ t. let rest = rest_of (outside.held s1) (outside.held s2) (w1 ++ q) (second.went t) in
      front_of (outside.held s) (outside.held s2) (w ++ (p ++ q)) rest.0
      (joined (outside.held s) (outside.held s1) (outside.held s2) w w1 p q rest.0 (first.all t) rest.1)
      (omega (arith, grown (outside.held s) (outside.held s1) (w ++ p) (first.went t), grown (outside.held s1) (outside.held s2) (w1 ++ q) (second.went t)));
  all = λ t. on_ok_weaker r (joined (outside.held s) (outside.held s1) (outside.held s2) w w1 p q w2 (first.all t)) (second.all t);
  cause = caused (outside.faults s) (outside.faults s1) (outside.faults s2) r first.cause second.cause;
}

-- where a piece fails, it fails with what would have followed
pub adds_fails : {S E F : Type 0} (outside : SinkOutside S) (p q w w1 w2 : List ℕ) (s s1 : S) (e : E) (r : Result (Unit {0}) F) → Adds outside p w w1 s s1 (Err e) → IsErr r → Adds outside (p ++ q) w w2 s s1 r
adds_fails outside p q w w1 w2 s s1 e (Ok v) first bad = cc
adds_fails outside p q w w1 w2 s s1 e (Err f) first bad = record {
  went = λ t. subst (AppendsSome (outside.held s) (outside.held s1)) (append_assoc w p q) (front_more (outside.held s) (outside.held s1) (w ++ p) q (first.went t));
  all = λ t. tt;
  cause = record { later = first.cause.later; kept = tt; rose = first.cause.rose };
}

-- ---- the whole

-- from an empty page to an empty page a sink gets just what was given
pub written : {S E : Type 0} (outside : SinkOutside S) (p w : List ℕ) (s s1 : S) (r : Result (Unit {0}) E) → Adds outside p [] w s s1 r → OnOk r (w ≡ []) → Writes outside p s s1 r
written outside p w s s1 (Ok v) adds empty = record {
  all = λ t. sym (append-nil (outside.held s1)) ∙ ap (λ (x : List ℕ). outside.held s1 ++ x) (sym empty) ∙ adds.all t;
  front = λ t. tt;
  cause = adds.cause;
}
written outside p w s s1 (Err e) adds empty = record {
  all = λ t. tt;
  front = λ t. adds.went t;
  cause = adds.cause;
}

-- ---- lines that are still to be given

-- With the rest, what was given so far is the whole.
abbrev pub LeadsTo : {S : Type 0} → SinkOutside S → List ℕ → List ℕ → S → List ℕ → List ℕ → S → Type 0
LeadsTo {S} outside whole w s rest w1 s1 = (w2 : List ℕ) (s2 : S) (r : Result (Unit {0}) Failed) → Adds outside rest w1 w2 s1 s2 r → Adds outside whole w w2 s s2 r

-- one line of the rest is given
pub line_more : {S : Type 0} (outside : SinkOutside S) (whole v : List ℕ) (o : S) (line next rest w w1 w2 : List ℕ) (s s1 : S) → LeadsTo outside whole v o rest w s → rest ≡ line ++ 10 ∷ next →
    Adds {E = Failed} outside [] w w1 s s1 (Ok tt) → w2 ≡ w1 ++ (line ++ 10 ∷ []) → LeadsTo outside whole v o next w2 s1
line_more outside whole v o line next rest w w1 w2 s s1 leads is room more = λ w3 s2 r adds.
    let one = adds_more outside [] (line ++ 10 ∷ []) w w1 w2 s s1 room more in
    let both = adds_then outside (line ++ 10 ∷ []) next w w2 w3 s s1 s2 r one adds in
    leads w3 s2 r (subst (λ (p : List ℕ). Adds outside p w w3 s s2 r) (append_assoc line (10 ∷ []) next ∙ sym is) both)

-- or fails
pub line_fails : {S : Type 0} (outside : SinkOutside S) (whole v : List ℕ) (o : S) (rest w w1 : List ℕ) (s s1 : S) (e : Failed) (r : Result (Unit {0}) Failed) → LeadsTo outside whole v o rest w s →
    Adds outside [] w w1 s s1 (Err e) → IsErr r → Adds outside whole v w1 o s1 r
line_fails outside whole v o rest w w1 s s1 e r leads first bad = leads w1 s1 r (adds_fails outside [] rest w w1 w1 s s1 e r first bad)

-- or there is none
pub lines_done : {S : Type 0} (outside : SinkOutside S) (whole v : List ℕ) (o : S) (rest w : List ℕ) (s : S) → LeadsTo outside whole v o rest w s → rest ≡ [] → Adds {E = Failed} outside whole v w o s (Ok tt)
lines_done outside whole v o rest w s leads none = leads w s (Ok tt) (subst (λ (p : List ℕ). Adds {E = Failed} outside p w w s s (Ok tt)) (sym none) (adds_nothing outside w s))
