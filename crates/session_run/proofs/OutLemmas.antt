-- What a command writes to out itself.
use Rattle.std.proofs.Common.{◌≡◌, ◌⊎◌, inl, inr, List, ℕ}
use Rattle.ses_io.specs.Outside.{SinkOutside}
use Rattle.cycle_journal.specs.declared.status.Status.{Status}
use Rattle.cycle_journal.specs.declared.status.Status.TheVariants.{Done, OutFault}
use Rattle.session_play.specs.Unplayed.{Gets, GetsAFront}
use Rattle.session_run.specs.Replied.{WritesItsOwn}

module _ {O : Type 0} (out : SinkOutside O) (IsOwn : List ℕ → Type 0) (old new : O) (s : Status) where
  neither : (s ≡ Done) ⊎ (s ≡ OutFault) → (s ≡ Done → ⊥) → (s ≡ OutFault → ⊥) → ⊥
  neither (inl done) not_done not_cut = not_done done
  neither (inr cut) not_done not_cut = not_cut cut

  -- a text was written, as far as it went
  pub text_written : (text : List ℕ) → IsOwn text → (s ≡ Done) ⊎ (s ≡ OutFault) → (s ≡ Done → Gets out text old new) → (s ≡ OutFault → GetsAFront out text old new) → WritesItsOwn out IsOwn old new s
  text_written text is ends whole front = record {
    done = λ done. (text, is, whole done);
    cut_off = λ cut. (text, is, front cut);
    nothing = λ not_done not_cut. absurd (neither ends not_done not_cut);
  }

  -- none was
  pub none_written : (s ≡ Done → ⊥) → (s ≡ OutFault → ⊥) → new ≡ old → WritesItsOwn out IsOwn old new s
  none_written not_done not_cut same = record {
    done = λ done. absurd (not_done done);
    cut_off = λ cut. absurd (not_cut cut);
    nothing = λ _ _. same;
  }
