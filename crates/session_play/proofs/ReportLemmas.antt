-- What out gets of a run that was played, from its replies, its report and its last line.
use Rattle.std.proofs.Common.{◌≡◌, ℕ, ◌+◌, ◌≤◌, refl, sym, ap, subst, ◌∙◌, arith, List, [], ◌∷◌, ◌++◌, length}
use Rattle.std.specs.Prelude.{Bool, true, false, ◌||◌, ◌&&◌, not, Option, Some, None, Result, Ok, Err, is_err, take}
use Rattle.std.specs.Option.{option_map_or}
use Rattle.std.proofs.lemmas.Bool.{true≢false}
use Rattle.std.proofs.lemmas.List.{append_assoc, append-nil, length-append, take-append-le}
use Rattle.std.proofs.Math.Seq.{take-append-add}
use Rattle.ses_io.specs.Faults.{risen}
use Rattle.ses_io.specs.Outside.{SinkOutside, Writes}
use Rattle.ses_io.specs.Streams.{AppendsSome}
use Rattle.ses_io.specs.declared.errors.Failed.{Failed}
use Rattle.cycle_journal.specs.declared.head.ReportHead.{ReportHead}
use Rattle.cycle_journal.specs.declared.status.Status.{Status}
use Rattle.cycle_journal.specs.Report.{report}
use Rattle.cycle_journal.specs.RunReport.{reported}
use Rattle.fault_lines.specs.Fault.{error_line, fault_line, fault_words}
use Rattle.run_world.specs.declared.finished.Finished.{Finished}
use Rattle.session_play.specs.Ending.{status_at_end}
use Rattle.session_play.specs.Reported.{Ended, IsStill, Reports, Wrote}

append_none : (xs : List ℕ) → xs ≡ xs ++ []
append_none [] = refl
append_none (x ∷ xs) = ap (λ ys. x ∷ ys) (append_none xs)

-- ---- pieces that go out one after another

-- a front of a piece is a front of it and more
pub front_of_more : (before after piece more : List ℕ) → AppendsSome before after piece → AppendsSome before after (piece ++ more)
front_of_more before after piece more (n, a) = (
  n,
  record {
    within = omega (arith, a.within, length-append piece more);
    held = a.held ∙ ap (λ xs. before ++ xs) (sym (take-append-le n piece more a.within));
  },
)

-- a whole piece, and a front of the next
pub front_behind : (before middle after piece more : List ℕ) → middle ≡ before ++ piece → AppendsSome middle after more → AppendsSome before after (piece ++ more)
front_behind before middle after piece more first (n, a) = (
  length piece + n,
  record {
    within = omega (arith, a.within, length-append piece more);
    held = a.held ∙ ap (λ xs. xs ++ take n more) first ∙ append_assoc before piece (take n more) ∙ ap (λ xs. before ++ xs) (sym (take-append-add piece more n));
  },
)

-- nothing is a front of anything
pub front_of_nothing : (before after piece : List ℕ) → after ≡ before → AppendsSome before after piece
front_of_nothing before after piece same = (0, record { within = omega arith; held = same ∙ append_none before })

-- a whole piece is a front of itself
pub front_of_whole : (before after piece : List ℕ) → after ≡ before ++ piece → AppendsSome before after piece
front_of_whole before after piece whole = subst (λ xs. AppendsSome before after xs) (sym (append_none piece)) (front_behind before after after piece [] whole (front_of_nothing after after [] refl))

-- two pieces, one after the other
pub both_whole : (before middle after one two : List ℕ) → middle ≡ before ++ one → after ≡ middle ++ two → after ≡ before ++ (one ++ two)
both_whole before middle after one two first second = second ∙ ap (λ xs. xs ++ two) first ∙ append_assoc before one two

-- ---- report and line

-- a line without bytes is none
no_words : (w : Option (List ℕ)) → option_map_or error_line w [] ≡ [] → w ≡ None
no_words None e = refl
no_words (Some w) e = absurd (cc)

module _ {M I C W O : Type 0} (outs : SinkOutside O) (head : ReportHead) (f : Finished M I C W O) (failed : Bool) (middle : O) (status : Status) (new : O)
    (wrote : Wrote outs (report (reported head f.edits.items f.journal.items)) f.faults.out f.world.out failed middle) (status_is : status ≡ status_at_end (record f.faults { out = failed })) (ended : Ended outs status failed middle new) where
  abbrev piece : List ℕ
  piece = report (reported head f.edits.items f.journal.items)

  abbrev line : List ℕ
  line = fault_line status

  abbrev first : ℕ
  first = outs.faults f.world.out

  -- the report's own write has failed
  abbrev unreported : Bool
  unreported = not f.faults.out && failed

  out_is : (b : Bool) → f.faults.out ≡ b → (b || (not b && failed)) ≡ failed
  out_is true is = sym (wrote.silent is).0
  out_is false is = refl

  -- what was written, by both answers
  module _ (fine : f.faults.out ≡ false) where
    one : (answer : Result (Unit {0}) Failed) × (failed ≡ is_err answer) × Writes outs piece f.world.out middle answer
    one = wrote.written fine

    whole_by : (r : Result (Unit {0}) Failed) → failed ≡ is_err r → Writes outs piece f.world.out middle r → outs.tells → IsStill first (outs.faults new) → outs.held new ≡ outs.held f.world.out ++ (piece ++ line)
    whole_by (Err e) is w t still = absurd (let same : outs.faults new ≡ outs.faults middle = ap (λ (x : O). outs.faults x) (ended.silent is) in omega (arith, w.cause.rose, same, still.same, still.short))
    whole_by (Ok u) is w t still = let two = ended.written is in by two.0 two.1 where
      by : (q : Result (Unit {0}) Failed) → Writes outs line middle new q → outs.held new ≡ outs.held f.world.out ++ (piece ++ line)
      by (Ok v) x = both_whole (outs.held f.world.out) (outs.held middle) (outs.held new) piece line (w.all t) (x.all t)
      by (Err e) x = absurd (omega (arith, w.cause.kept, x.cause.rose, still.same, still.short))

    front_by : (r : Result (Unit {0}) Failed) → failed ≡ is_err r → Writes outs piece f.world.out middle r → outs.tells → AppendsSome (outs.held f.world.out) (outs.held new) (piece ++ line)
    front_by (Err e) is w t = subst (λ (x : O). AppendsSome (outs.held f.world.out) (outs.held x) (piece ++ line)) (sym (ended.silent is)) (front_of_more (outs.held f.world.out) (outs.held middle) piece line (w.front t))
    front_by (Ok u) is w t = let two = ended.written is in by two.0 two.1 where
      by : (q : Result (Unit {0}) Failed) → Writes outs line middle new q → AppendsSome (outs.held f.world.out) (outs.held new) (piece ++ line)
      by (Ok v) x = front_of_whole (outs.held f.world.out) (outs.held new) (piece ++ line) (both_whole (outs.held f.world.out) (outs.held middle) (outs.held new) piece line (w.all t) (x.all t))
      by (Err e) x = front_behind (outs.held f.world.out) (outs.held middle) (outs.held new) piece line (w.all t) (x.front t)

    later_by : (r : Result (Unit {0}) Failed) → failed ≡ is_err r → Writes outs piece f.world.out middle r → first ≤ outs.faults new
    later_by (Err e) is w = let same : outs.faults new ≡ outs.faults middle = ap (λ (x : O). outs.faults x) (ended.silent is) in omega (arith, w.cause.later, same)
    later_by (Ok u) is w = omega (arith, w.cause.later, (ended.written is).1.cause.later)

    raised_by : (r : Result (Unit {0}) Failed) → failed ≡ is_err r → Writes outs piece f.world.out middle r → failed ≡ true → risen first ≤ outs.faults new
    raised_by (Err e) is w did = subst (λ (x : O). risen first ≤ outs.faults x) (sym (ended.silent is)) w.cause.rose
    raised_by (Ok u) is w did = absurd (true≢false (sym did ∙ is))

    kept_by : (r : Result (Unit {0}) Failed) → failed ≡ is_err r → Writes outs piece f.world.out middle r → failed ≡ false → line ≡ [] → outs.faults new ≡ first
    kept_by (Err e) is w good none = absurd (true≢false (sym is ∙ good))
    kept_by (Ok u) is w good none = ap (λ (x : O). outs.faults x) (ended.untouched (no_words (fault_words status) none)) ∙ w.cause.kept

    sure_by : (r : Result (Unit {0}) Failed) → failed ≡ is_err r → Writes outs piece f.world.out middle r → failed ≡ false → line ≡ [] → outs.tells → outs.held new ≡ outs.held f.world.out ++ (piece ++ line)
    sure_by (Err e) is w good none t = absurd (true≢false (sym is ∙ good))
    sure_by (Ok u) is w good none t = ap (λ (x : O). outs.held x) (ended.untouched (no_words (fault_words status) none)) ∙ w.all t
        ∙ ap (λ xs. outs.held f.world.out ++ xs) (sym (append-nil piece) ∙ ap (λ xs. piece ++ xs) (sym none))

  later_if : (b : Bool) → f.faults.out ≡ b → first ≤ outs.faults new
  later_if true is = let same : outs.faults new ≡ outs.faults f.world.out = ap (λ (x : O). outs.faults x) (ended.silent (wrote.silent is).0 ∙ (wrote.silent is).1) in omega (arith, same)
  later_if false is = let w = one is in later_by is w.0 w.1 w.2

  split : (a b : Bool) → (not a && b) ≡ true → (a ≡ false) × (b ≡ true)
  split true b e = absurd (true≢false (sym e))
  split false b e = (refl, e)

  join : (a b : Bool) → (a || (not a && b)) ≡ false → (a ≡ false) × (b ≡ false)
  join true b e = absurd (true≢false e)
  join false b e = (refl, e)

  pub reports_by : Reports outs head f status new
  reports_by = record {
    unreported = unreported;
    status_is = status_is ∙ ap (λ b. status_at_end (record f.faults { out = b })) (sym (out_is f.faults.out refl));
    silent = λ is. ended.silent (wrote.silent is).0 ∙ (wrote.silent is).1;
    whole = λ is t still. let w = one is in whole_by is w.0 w.1 w.2 t still;
    front = λ is t. let w = one is in front_by is w.0 w.1 w.2 t;
    sure = λ good none t. let two = join f.faults.out failed good in let w = one two.0 in sure_by two.0 w.0 w.1 w.2 two.1 none t;
    later = later_if f.faults.out refl;
    raised = λ did. let two = split f.faults.out failed did in let w = one two.0 in raised_by two.0 w.0 w.1 w.2 two.1;
    kept = λ good none. let two = join f.faults.out failed good in let w = one two.0 in kept_by two.0 w.0 w.1 w.2 two.1 none;
  }
