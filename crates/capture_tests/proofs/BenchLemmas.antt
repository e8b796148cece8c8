-- What a butler may begin with, and how it goes on.
use Rattle.std.proofs.Common.{◌≡◌, ℕ, ◌<◌, ◌≤◌, List, length, sym, ap, ◌∙◌, subst, arith}
use Rattle.std.specs.Prelude.{take, drop}
use Rattle.std.proofs.lemmas.List.{take-append-drop}
use Rattle.std.proofs.Math.Seq.{take-length}
use mathlib.Core.List.{IsPrefix}
use Rattle.ses_io.specs.Files.{Files}
use Rattle.session_model.specs.declared.session.Session.{Session}
use Rattle.session_model.specs.declared.edit.Edit.{Edit}
use Rattle.audio_source.specs.Lines.{SourcesState}
use Rattle.piece_item.specs.declared.butler_ends.ButlerEnds.{ButlerEnds}
use Rattle.edition_log.specs.EditionState.{EditionState as Edition, IsEditionOf}
use Rattle.edition_log.specs.Entered.{Entered}
use Rattle.butler.specs.Begins.{MayBegin}
use Rattle.butler.specs.ButlerState.{ButlerState, Served}
use Rattle.butler.specs.Serving.{IsServing}
use Rattle.butler.specs.Turns.{Enters}
use Rattle.capture_tests.specs.Bench.{IsOpened, AreNewEnds, IsServed, entered_by}

-- ---- the edits that a butler entered are a front of the edition's

front : (n : ℕ) (xs : List Edit) → IsPrefix (take n xs) xs
front n xs = (drop n xs, take-append-drop n xs)

all_taken : (n : ℕ) (xs : List Edit) → n ≡ length xs → take n xs ≡ xs
all_taken n xs all = ap (λ k. take k xs) all ∙ take-length xs

-- ---- a new butler

pub may_begin : (s : Session) (e : Edition) (sources : SourcesState) (cycles : ℕ) (ends : ButlerEnds) → IsOpened s e sources → 0 < cycles → cycles ≤ 100000 → AreNewEnds s ends →
    MayBegin e.session e sources.opened cycles ends
may_begin s e sources cycles ends is some near new = subst (λ (z : Session). MayBegin z e sources.opened cycles ends) (sym is.session_is) record {
  valid = is.valid;
  edition_of = is.edition_of;
  sources_of = is.listed;
  some_cycle = omega arith;
  near = near;
  tracks = new.sends.many;
  each = new.sends.each;
  captures = new.takes.many;
  each_capture = new.takes.each;
  acks_room = new.acks.room;
  none_received = new.acks.none_received;
  not_ended = new.acks.not_ended;
}

-- it entered no edit
pub served_first : {V : Type 0} (s : Session) (b : ButlerState V) (e : Edition) (sources : SourcesState) → IsOpened s e sources → IsServing e.session e.edits b → IsServed s b e 0
served_first s b e sources is serving = record {
  few = omega arith;
  serving = subst (λ xs. IsServing s xs b) is.no_edit (subst (λ z. IsServing z e.edits b) is.session_is serving);
  edition_of = is.edition_of;
}

-- ---- a turn

-- what clauses speak of beside the butler: of its files nothing is said
abbrev pub served_of : Entered → Files → Served
served_of at files = record { session = at.session; held = files; edits = at.edits }

module _ {V : Type 0} (s : Session) (b : ButlerState V) (e : Edition) (n : ℕ) (is : IsServed s b e n) where
  pub enters : (at : Entered) (files : Files) → entered_by s e n ≡ at → Enters (served_of at files) b e
  enters at files same = subst (λ (x : Entered). Enters (served_of x files) b e) same record { serving = is.serving; edition_of = is.edition_of; grows = front n e.edits }

  -- after a turn it entered all
  pub served_now : (at : Entered) → entered_by s e n ≡ at → (b' : ButlerState V) → IsServing at.session e.edits b' → (many : ℕ) → many ≡ length e.edits → IsServed s b' e many
  served_now at same b' serving many all = record {
    few = omega (arith, all);
    serving = subst (λ xs. IsServing s xs b') (sym (all_taken many e.edits all)) (subst (λ (x : Entered). IsServing x.session e.edits b') (sym same) serving);
    edition_of = is.edition_of;
  }
