use Rattle.std.proofs.Common.{◌≡◌, ℕ, ◌<◌, get_or}
use Rattle.std.specs.Prelude.{pos}
use Rattle.sound_model.specs.Routes.{master_sample}
use Rattle.session_model.specs.Views.{routes_of}
use Rattle.offline_render.specs.Frame.{samples}
use Rattle.offline_render.proofs.offline.Offline.mix.Given as goal

-- the channels so far are written
abbrev pub invariant-loop-c : goal.invariant-loop-c
invariant-loop-c l = (k : ℕ) → k < l.c → get_or l.out k (pos 0) ≡ master_sample (routes_of l.fn.s) (samples l.tracks) l.place k
