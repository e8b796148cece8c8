-- A process whose master's sink alone changed plays as before.
use Rattle.std.proofs.Common.{◌≡◌, ap, ◌∙◌, sym, subst}
use Rattle.ses_io.specs.Outside.{SourceOutside}
use Rattle.route_mix.specs.Desks.{IsDeskOf}
use Rattle.session_model.specs.declared.session.Session.{Session}
use Rattle.master_blocks.specs.State.{MasterState, IsMasterOf}
use Rattle.process_cycle.specs.ProcessState.{ProcessState, Playing}
use Rattle.process_cycle.specs.Playing.{IsPlaying}

-- it is still the session's master
pub master_stays : {W : Type 0} (s : Session) (old new : MasterState W) → new ≡ record old { sink = new.sink } → IsMasterOf s old → IsMasterOf s new
master_stays {W = W} s old new same was = record {
  valid = was.valid;
  form = ap (λ (m : MasterState W). m.form) same ∙ was.form;
  desk = subst (IsDeskOf s) (sym (ap (λ (m : MasterState W). m.desk) same)) was.desk;
}

module _ {I W : Type 0} where
  pub plays_on : (inputs : SourceOutside I) (at : Playing) (p : ProcessState I W) (m : MasterState W) → m ≡ record p.master { sink = m.sink } → IsPlaying inputs at p → IsPlaying inputs at (record p { master = m })
  plays_on inputs at p m same was = record {
    valid = was.valid;
    plays = was.plays;
    takes = was.takes;
    playbacks = was.playbacks;
    captures = was.captures;
    depth = was.depth;
    entered = was.entered;
    generation = was.generation;
    next = was.next;
    later = was.later;
    played = was.played;
    recorded = λ t d k h. let is = was.recorded t d k h in record { depth = is.depth; fits = is.fits; counts = is.counts };
    to_butler = was.to_butler;
    to_control = was.to_control;
    master = master_stays at.session p.master m same was.master;
    frames = was.frames;
    read = was.read;
    cycles = was.cycles;
    within = was.within;
    promises = was.promises;
    hears = was.hears;
  }
