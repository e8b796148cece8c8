use Rattle.std.proofs.Common.{◌≡◌, suc, [], ◌∷◌, ◌++◌, length, ap, subst, sym, ◌∙◌}
use Rattle.std.specs.Prelude.{Ok}
use Rattle.session_model.specs.Valid.{IsValid}
use Rattle.engine_model.specs.Changes.{made}
use Rattle.engine_model.specs.Commands.{change_of}
use Rattle.engine_model.specs.MayMake.{MayMake}
use Rattle.engine_model.specs.Transport.{moved}
use Rattle.locate_loop.specs.Transport.{transport_of}
use Rattle.engine_laws.proofs.EditionLemmas.{one_longer}
use Rattle.edit_laws.proofs.ResolveLemmas.{resolved_may_be_made}
use Rattle.session_change.specs.Change.{change_seen, list_of}
use Rattle.edition_log.specs.Steps.{noted}
use Rattle.edition_log.proofs.KeepLemmas.{list_is_track, stays_with_edit}
use Rattle.edition_log.proofs.edition.Edition.apply.Goals as goal

pub change_session-requires-clause-may : goal.change_session-requires-clause-may
change_session-requires-clause-may c = let e = c.self.inside in let change = change_seen c.in_ok-change.change in
    resolved_may_be_made e.session (transport_of e.transport).wrap c.args.edit.now change (record { valid = c.self.invariant.0.valid; types = c.self.invariant.0.types }) c.requires.forms
    (subst (λ x. change_of x.session (transport_of x.transport).wrap c.args.edit.now ≡ Ok change) (sym c.self.view_is) c.in_ok-change.ensures.1)

pub note-requires : goal.note-requires
note-requires c = let e = c.self.inside in let change = change_seen c.in_ok-change.change in let may : MayMake e.session change =
    resolved_may_be_made e.session (transport_of e.transport).wrap c.args.edit.now change (record { valid = c.self.invariant.0.valid; types = c.self.invariant.0.types }) c.requires.forms
    (subst (λ x. change_of x.session (transport_of x.transport).wrap c.args.edit.now ≡ Ok change) (sym c.self.view_is) c.in_ok-change.ensures.1) in
    λ t is. list_is_track e.session change t c.self.invariant.0.valid may is

pub returns-clause-stays : goal.returns-clause-stays
returns-clause-stays c = λ s is. let change = change_seen c.in_ok-change.change in let edit = c.args.edit.now in let e = c.self.inside in
    stays_with_edit s c.args.self.now _ edit change c.requires.open (subst (λ x. IsValid x.session) c.self.view_is c.self.invariant.0.valid)
    (subst (λ x. length x.touched ≡ 32) c.self.view_is c.self.invariant.0.touched) (record {
      few = c.in_ok-change.ensures.0;
      is_change = c.in_ok-change.ensures.1;
      session = c.change_session.ensures.made ∙ ap (λ x. made x.session change) c.self.view_is;
      transport = c.moved-self-inside.ensures.moved ∙ ap (λ x. moved (transport_of x.transport) edit) c.self.view_is;
      edits = ap (λ l. l.items) c.push.ensures ∙ ap (λ x. x.edits ++ edit ∷ []) c.self.view_is;
      ended = ap (λ x. x.ended) c.self.view_is;
      touched = c.note.ensures ∙ ap (λ n. noted (list_of change) n e.touched) (c.len.ensures.len ∙ ap (λ l. length l.items) c.push.ensures ∙ one_longer e.edits.items edit)
          ∙ ap (λ x. noted (list_of change) (suc (length x.edits)) x.touched) c.self.view_is;
    }) is
