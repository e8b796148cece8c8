use Rattle.std.proofs.Common.{subst}
use Rattle.session_model.specs.declared.session.Session.{Session}
use Rattle.session_play.specs.Loading.{IsHeard, IsUnheard}
use Rattle.session_play.proofs.PlayLemmas.{kept_by_heard, kept_by_unheard}
use Rattle.session_play.proofs.playing.prepare.Goals as goal

pub returns-in-Err-hear-clause-kept : goal.returns-in-Err-hear-clause-kept
returns-in-Err-hear-clause-kept g c = kept_by_unheard g.M.Media.outside g.I.Source.outside c.args.world c.args.asked.now c.in-Ok.loaded c.in-Ok.ensures.loaded c.load.new.media c.in-Ok.ensures.only_reads c.in-Ok.ensures.cause
    c.hear.new.input c.in-Err-hear.status
    (subst (λ (s : Session). IsUnheard g.I.Source.outside s c.args.world.input c.hear.new.input c.in-Err-hear.status) c.session.ensures.session c.in-Err-hear.ensures.unheard) c.in-Err-hear.ensures.cause

pub returns-in_default-clause-kept : goal.returns-in_default-clause-kept
returns-in_default-clause-kept g c = kept_by_heard g.M.Media.outside g.I.Source.outside c.args.world c.args.asked.now c.in-Ok.loaded c.in-Ok.ensures.loaded c.load.new.media c.in-Ok.ensures.only_reads c.in-Ok.ensures.cause
    c.hear.new.input c.in-Ok-hear.form
    (subst (λ (s : Session). IsHeard g.I.Source.outside s c.args.world.input c.hear.new.input c.in-Ok-hear.form) c.session.ensures.session c.in-Ok-hear.ensures.heard) c.in-Ok-hear.ensures.cause
