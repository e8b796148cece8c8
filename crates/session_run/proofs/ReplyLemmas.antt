-- A command that isn't a run was carried out, and then the line was written that says how it failed.
use Rattle.std.proofs.Common.{◌≡◌, ◌≤◌, ◌⊎◌, inl, inr, List, ℕ, sym, ap, subst, ◌∙◌, arith}
use Rattle.std.specs.Prelude.{Option, Some, None, Result, Ok, Err}
use Rattle.ses_io.specs.Faults.{risen}
use Rattle.ses_io.specs.Outside.{MediaOutside, SourceOutside, SinkOutside, Writes}
use Rattle.ses_io.specs.declared.errors.Failed.{Failed}
use Rattle.ses_io.specs.declared.world.World.{World}
use Rattle.cycle_journal.specs.declared.status.Status.TheVariants.{Done, MasterFault, OutFault, ReadFault}
use Rattle.fault_lines.specs.Fault.{fault_line, fault_words}
use Rattle.session_opening.specs.Plan.{read_session, session_plan}
use Rattle.session_play.specs.declared.outcome.Outcome.{Outcome}
use Rattle.session_play.specs.Unplayed.{Gets, GetsAFront}
use Rattle.session_run.specs.Carried.{CarriesOut}
use Rattle.session_run.specs.Headline.{Does, EndsAsAsked, FaultsHaveCauses, HasCauses, IsComplete, LeavesAlone, LeavesTheMaster, LeavesTheRest, PlaysAsAsked, RendersAsAsked, RepliesAsAsked}
use Rattle.session_run.specs.Replied.{IsOwnText, Replies, WritesItsLine}
use Rattle.session_run.specs.Status.{IsBeforeInput, IsStatusOf, RepliesFailed}
use Rattle.session_run.specs.Tasks.{Task, Runs, Migrates, Checks, Renders, Verifies, Gens}
use Rattle.session_run.proofs.StatusLemmas as status

done_fails : Done ≡ OutFault → ⊥
done_fails is = cc

above : (a b c : ℕ) → a ≤ b → b ≤ c → a ≤ c
above a b c first second = omega (arith, first, second)

-- what was asked for isn't a run
abbrev pub IsOther : Option Task → Type 0
IsOther (Some (Runs r)) = ⊥
IsOther (Some (Migrates name)) = Unit {0}
IsOther (Some (Checks name)) = Unit {0}
IsOther (Some (Renders r)) = Unit {0}
IsOther (Some (Verifies v)) = Unit {0}
IsOther (Some (Gens n)) = Unit {0}
IsOther None = Unit {0}

module _ {M I C W O : Type 0} (media : MediaOutside M) (inputs : SourceOutside I) (controls : SourceOutside C) (master : SinkOutside W) (out : SinkOutside O) (old : World M I C W O) (ended : Outcome M I C W O) (o : O) where
  abbrev new : Outcome M I C W O
  new = record ended { world = record ended.world { out = o } }

  -- ---- what doesn't speak of out stays

  played : (asked : Option Task) → IsOther asked → PlaysAsAsked media inputs controls master out old asked ended → PlaysAsAsked media inputs controls master out old asked new
  played (Some (Runs r)) other h = absurd other
  played (Some (Migrates name)) other h = record { journal = h.journal; rings = h.rings; acks = h.acks }
  played (Some (Checks name)) other h = record { journal = h.journal; rings = h.rings; acks = h.acks }
  played (Some (Renders r)) other h = record { unplayed = record { journal = h.unplayed.journal; rings = h.unplayed.rings; acks = h.unplayed.acks }; refused = h.refused }
  played (Some (Verifies v)) other h = record { journal = h.journal; rings = h.rings; acks = h.acks }
  played (Some (Gens n)) other h = record { journal = h.journal; rings = h.rings; acks = h.acks }
  played None other h = record { journal = h.journal; rings = h.rings; acks = h.acks }

  rendered : (asked : Option Task) → RendersAsAsked media master old asked ended → RendersAsAsked media master old asked new
  rendered (Some (Runs r)) is = is
  rendered (Some (Migrates name)) is = is
  rendered (Some (Checks name)) is = is
  rendered (Some (Renders r)) is = is
  rendered (Some (Verifies v)) is = is
  rendered (Some (Gens n)) is = is
  rendered None is = is

  -- ---- the line

  got : (line : List ℕ) (r : Result (Unit {0}) Failed) → Writes out line ended.world.out o r → Gets out line ended.world.out o ⊎ GetsAFront out line ended.world.out o
  got line (Ok u) w = inl (record { held = w.all; fine = w.cause.kept })
  got line (Err e) w = inr (record { held = w.front; rose = w.cause.rose })

  module _ (asked : Option Task) (other : IsOther asked) (d : CarriesOut media inputs controls master out old asked ended) (r : Result (Unit {0}) Failed) (w : Writes out (fault_line ended.status) ended.world.out o r)
      (none : fault_words ended.status ≡ None → o ≡ ended.world.out) where
    at_done : ended.status ≡ Done → o ≡ ended.world.out
    at_done is = none (ap fault_words is)

    at_fault : ended.status ≡ OutFault → o ≡ ended.world.out
    at_fault is = none (ap fault_words is)

    replies : Replies out (IsOwnText media old.media asked) old.out o ended.status
    replies = record {
      done = λ is. subst (λ (q : O). (text : List ℕ) × IsOwnText media old.media asked text × Gets out text old.out q) (sym (at_done is)) (d.own.done is);
      cut_off = λ is. subst (λ (q : O). (text : List ℕ) × IsOwnText media old.media asked text × GetsAFront out text old.out q) (sym (at_fault is)) (d.own.cut_off is);
      line = λ not_done not_cut. subst (λ (q : O). Gets out (fault_line ended.status) q o ⊎ GetsAFront out (fault_line ended.status) q o) (d.own.nothing not_done not_cut) (got (fault_line ended.status) r w);
    }

    failed : RepliesFailed (out.faults old.out) (out.faults o) ended.status
    failed = record {
      cause = λ is. subst (λ (q : O). risen (out.faults old.out) ≤ out.faults q) (sym (at_fault is)) (d.replies.cause is);
      same = λ is. ap (λ (q : O). out.faults q) (at_done is) ∙ d.replies.same (λ fault. done_fails (sym is ∙ fault));
      later = above (out.faults old.out) (out.faults ended.world.out) (out.faults o) d.replies.later w.cause.later;
    }

    abbrev reads_before : ℕ
    reads_before = media.read_faults old.media

    abbrev reads_now : ℕ
    reads_now = media.read_faults ended.world.media

    replied : RepliesAsAsked media out old asked new
    replied = by asked other replies where
      by : (q : Option Task) → IsOther q → Replies out (IsOwnText media old.media q) old.out o ended.status → RepliesAsAsked media out old q new
      by (Some (Runs x)) is said = absurd is
      by (Some (Migrates name)) is said = said
      by (Some (Checks name)) is said = said
      by (Some (Renders x)) is said = said
      by (Some (Verifies v)) is said = said
      by (Some (Gens n)) is said = said
      by None is said = said

    complete : IsComplete media inputs controls master out old asked new
    complete = by asked other d.ends d.status where
      by : (q : Option Task) → IsOther q → EndsAsAsked media inputs old q ended.status → IsStatusOf q ended.status → IsComplete media inputs controls master out old q new
      by (Some (Runs x)) is ends of = absurd is
      by (Some (Migrates name)) is ends of = λ t ok still fine. status.completes OutFault (read_session (media.files old.media name)) ended.status reads_before reads_now (out.faults old.out) (out.faults o) (ends t) ok still fine d.reads failed.cause
      by (Some (Checks name)) is ends of = λ t ok still fine. status.completes OutFault (session_plan (media.files old.media) name) ended.status reads_before reads_now (out.faults old.out) (out.faults o) (ends t) ok still fine d.reads failed.cause
      by (Some (Renders x)) is ends of = λ t ok still fine. status.completes MasterFault (session_plan (media.files old.media) x.session) ended.status reads_before reads_now (master.faults old.master) (master.faults ended.world.master)
          (ends t) ok still fine d.reads d.writes.cause
      by (Some (Verifies v)) is ends of = λ t agree still fine. status.said_completes ended.status reads_before reads_now (out.faults old.out) (out.faults o) ((ends t).agreed agree) still fine d.reads failed.cause
      by (Some (Gens n)) is ends of = λ fine. status.gen_completes ended.status (out.faults old.out) (out.faults o) of fine failed.cause
      by None is ends of = tt

    causes : HasCauses media inputs controls master out old asked new
    causes = by asked other (record { reads = d.reads; writes = d.writes; replies = failed }) where
      by : (q : Option Task) → IsOther q → FaultsHaveCauses media master out old new → HasCauses media inputs controls master out old q new
      by (Some (Runs x)) is have = absurd is
      by (Some (Migrates name)) is have = have
      by (Some (Checks name)) is have = have
      by (Some (Renders x)) is have = have
      by (Some (Verifies v)) is have = have
      by (Some (Gens n)) is have = have
      by None is have = have

    -- a render writes nothing where the session or a source is refused
    unwritten : IsBeforeInput ended.status → ended.world.master ≡ old.master
    unwritten before = by asked other d.played d.unwritten where
      by : (q : Option Task) → IsOther q → PlaysAsAsked media inputs controls master out old q ended → (LeavesTheMaster q → ended.world.master ≡ old.master) → ended.world.master ≡ old.master
      by (Some (Runs x)) is h left = absurd is
      by (Some (Migrates name)) is h left = left tt
      by (Some (Checks name)) is h left = left tt
      by (Some (Renders x)) is h left = h.refused (status.before_isnt ended.status Done before (λ x. x)) (status.before_isnt ended.status MasterFault before (λ x. x)) (status.before_isnt ended.status ReadFault before (λ x. x))
      by (Some (Verifies v)) is h left = left tt
      by (Some (Gens n)) is h left = left tt
      by None is h left = left tt

    rest : LeavesTheRest media old asked ended.status new.world
    rest = by asked other (record { files = d.files; input = d.input; control = d.control; master = d.unwritten; unwritten = unwritten; unread = d.unread; out = λ some is. at_done is ∙ d.silent some }) where
      by : (q : Option Task) → IsOther q → LeavesAlone media old q ended.status new.world → LeavesTheRest media old q ended.status new.world
      by (Some (Runs x)) is alone = absurd is
      by (Some (Migrates name)) is alone = alone
      by (Some (Checks name)) is alone = alone
      by (Some (Renders x)) is alone = alone
      by (Some (Verifies v)) is alone = alone
      by (Some (Gens n)) is alone = alone
      by None is alone = alone

    does : Does media inputs controls master out old asked new
    does = record {
      ends = d.ends;
      status = d.status;
      played = played asked other d.played;
      rendered = λ t. rendered asked (d.rendered t);
      replies = replied;
      complete = complete;
      causes = causes;
      rest = rest;
    }

-- what a command does that was carried out so, once its line was written
pub answered : {M I C W O : Type 0} (media : MediaOutside M) (inputs : SourceOutside I) (controls : SourceOutside C) (master : SinkOutside W) (out : SinkOutside O) (old : World M I C W O) (ended new : Outcome M I C W O) (asked : Option Task) →
    IsOther asked → CarriesOut media inputs controls master out old asked ended → WritesItsLine out ended new → Does media inputs controls master out old asked new
answered media inputs controls master out old ended new asked other d line =
    subst (Does media inputs controls master out old asked) (sym line.same) (does media inputs controls master out old ended new.world.out asked other d line.answer line.writes line.untouched)
