-- What an input that was read so far has left, as lists say it.
use Rattle.std.proofs.Common.{◌≡◌, ℕ, ◌-◌, ◌*◌, ap, ◌∙◌}
use Rattle.std.specs.Prelude.{drop, min}
use Rattle.sound_model.specs.Wav.{align}
use Rattle.ses_io.specs.Outside.{SourceOutside}
use Rattle.input_blocks.specs.State.{InputState, IsReadTo, bytes_due}
use Rattle.run_end.specs.Mastered.{bytes_due_next, left_behind}
use Rattle.run_end.specs.Started.{Started}
use Rattle.engine_core.specs.UnderWay.{IsInputOf}

module _ {V I W : Type 0} (inputs : SourceOutside I) (on : Started V I W) (n : ℕ) (x : InputState I) (of : IsInputOf on x) (read : IsReadTo inputs (record { start = on.begun.start; blocks = n }) x) where
  -- what so many blocks leave
  pub left_is : inputs.tells → inputs.left x.input ≡ left_behind on.stream on.begun.session.block on.begun.start n
  left_is tells = read.left tells ∙ ap (λ k. drop (k * align x.stream.form) on.begun.start) read.done
      ∙ (λ i. drop (min (n * of.block i) (of.stream i).frames * align (of.stream i).form) on.begun.start)

  -- and what the next one asks
  pub due_is : bytes_due x ≡ bytes_due_next on.stream on.begun.session.block n
  due_is = ap (λ k. min (x.stream.frames - k) x.block * align x.stream.form) read.done
      ∙ (λ i. min ((of.stream i).frames - min (n * of.block i) (of.stream i).frames) (of.block i) * align (of.stream i).form)
