use Rattle.std.proofs.Common.{◌≡◌, ◌<◌, true, false, length, sym, ap, subst, arith, ◌∙◌}
use Rattle.std.specs.Prelude.{not}
use Rattle.worker_pair.specs.Runs.{Runs}
use Rattle.worker_pair.specs.Steps.{EntersAsMachine, may_enter}
use Rattle.worker_pair.proofs.EnterLemmas as enters
use Rattle.worker_pair.proofs.pair.Pair.enter.Goals as goal
use Rattle.worker_pair.proofs.pair.Pair.enter.Goals.{then-self-via-then-self, then-self-via-else-self+then-all, then-self-via-else-self+else-all+then-transport}

-- src/entering.rt
pub returns-then-self-clause-as_machine : goal.returns-then-self-clause-as_machine
returns-then-self-clause-as_machine g c = let M = g.M.Media.outside in let I = g.I.Source.outside in let W = g.W.Sink.outside in let self = c.args.self.now in
    let items : length c.entries.result.now ≡ length self.process.journal.items = ap length (c.entries.ensures.entries ∙ ap (λ j. j.items) c.journal-journal.ensures) in
    let room : c.room.result ≡ self.process.journal.room = c.room.ensures ∙ ap (λ j. j.room) c.journal-journal.ensures in
    let never : may_enter self ≡ false = elim c.then-self.branch [
      | then-self-via-then-self w ↦ enters.not_in_cycle self w.if-self.true
      | then-self-via-else-self+then-all w ↦ enters.not_past_all self (omega (arith, w.if-all.true, items, room))
      | then-self-via-else-self+else-all+then-transport w ↦ enters.not_after_quit self (ap (λ t. t.quit) (sym w.transport.ensures.transport) ∙ w.if-transport.true)
    ] in
    enters.stays_as_machine M I W g.at self c.requires.1.1.1 never

pub returns-clause-runs : goal.returns-clause-runs
returns-clause-runs g c = let M = g.M.Media.outside in let I = g.I.Source.outside in let W = g.W.Sink.outside in let self = c.args.self.now in
    let items : length c.entries.result.now ≡ length self.process.journal.items = ap length (c.entries.ensures.entries ∙ ap (λ j. j.items) c.journal-journal.ensures) in
    let room : c.room.result ≡ self.process.journal.room = c.room.ensures ∙ ap (λ j. j.room) c.journal-journal.ensures in
    let has_room : length self.process.journal.items < self.process.journal.room = omega (arith, c.if-all.false, items, room) in
    let may : may_enter self ≡ true = enters.may_else self c.if-self.false has_room (ap (λ t. t.quit) (sym c.transport.ensures.transport) ∙ c.if-transport.false) in
    let e = c.catch_up.new.edition in let caught = c.catch_up.ensures in let quit = ap (λ t. t.quit) c.transport-2.ensures.transport in
    subst (λ b. Runs M I W g.at (record self { playing = e; in_cycle = not b })) (sym quit)
    (enters.runs_entered M I W g.at self c.requires.1.1.1 may e caught.edits caught.edition_of caught.ended has_room)

pub returns-clause-as_machine : goal.returns-clause-as_machine
returns-clause-as_machine g c = let M = g.M.Media.outside in let I = g.I.Source.outside in let W = g.W.Sink.outside in let self = c.args.self.now in
    let items : length c.entries.result.now ≡ length self.process.journal.items = ap length (c.entries.ensures.entries ∙ ap (λ j. j.items) c.journal-journal.ensures) in
    let room : c.room.result ≡ self.process.journal.room = c.room.ensures ∙ ap (λ j. j.room) c.journal-journal.ensures in
    let has_room : length self.process.journal.items < self.process.journal.room = omega (arith, c.if-all.false, items, room) in
    let may : may_enter self ≡ true = enters.may_else self c.if-self.false has_room (ap (λ t. t.quit) (sym c.transport.ensures.transport) ∙ c.if-transport.false) in
    let e = c.catch_up.new.edition in let caught = c.catch_up.ensures in let quit = ap (λ t. t.quit) c.transport-2.ensures.transport in
    subst (λ b. EntersAsMachine g.at.begun.session self (record self { playing = e; in_cycle = not b })) (sym quit)
    (enters.enters_as_machine M I W g.at self c.requires.1.1.1 may e caught.edits caught.edition_of caught.ended)
