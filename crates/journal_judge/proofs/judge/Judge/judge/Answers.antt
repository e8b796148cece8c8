-- The entry is lawful where its numbers go on and it is good in its edition.
use Rattle.std.proofs.Common.{◌≡◌, ◌≤◌, length, true, sym, arith, ◌∙◌}
use Rattle.engine_model.specs.Fits.{is_lawful_after}
use Rattle.cycle_journal.specs.JournalView.{seen_entry}
use Rattle.journal_judge.specs.Deciding.{is_good}
use Rattle.journal_judge.proofs.AtLemmas.{tracks_at}
use Rattle.journal_judge.proofs.CountLemmas.{as_many, has_room, judged_after}
use Rattle.journal_judge.proofs.DecideLemmas.{good_is_lawful, goes_parts, lawful_is_good, not_lawful}
use Rattle.journal_judge.proofs.judge.Judge.judge.Goals as goal

pub is_good-requires : goal.is_good-requires
is_good-requires g c = let s = g.before.session in let edits = c.args.history.now.edits in let e = seen_entry c.args.entry.now in
    tracks_at s edits e.edition c.enter.new.self.entered c.enter.ensures.entered ∙ sym (tracks_at s edits e.settled c.enter.new.self.settled c.enter.ensures.floor)

pub returns-then-not-is_good-clause-lawful : goal.returns-then-not-is_good-clause-lawful
returns-then-not-is_good-clause-lawful g c = let s = g.before.session in let h = c.args.history.now in let e = seen_entry c.args.entry.now in
    not_lawful (is_lawful_after s h.edits g.before.entries e) (is_good h.changes c.enter.new.self e) (lawful_is_good s h c.requires.0 g.before.entries e c.enter.new.self c.enter.ensures)
    (sym c.is_good.ensures ∙ c.if-not-is_good.true)

pub note-requires-clause-few : goal.note-requires-clause-few
note-requires-clause-few g c = let s = g.before.session in let h = c.args.history.now in let e = seen_entry c.args.entry.now in let before = g.before.entries in
    let on = goes_parts (length h.edits) c.args.self.now e (sym c.goes_on.ensures ∙ c.if-not-goes_on.false) in
    let lawful : is_lawful_after s h.edits before e ≡ true = good_is_lawful s h c.requires.0 before e c.enter.new.self c.enter.ensures on.within on.settled (sym c.is_good.ensures ∙ c.if-not-is_good.false) in
    let many : length c.args.entry.now.notes.items ≤ length s.tracks.items = omega (arith, as_many s h.edits before c.args.entry.now lawful) in
    has_room s h.edits before e.edition e.settled (length c.args.entry.now.notes.items) c.enter.new.self c.enter.ensures c.requires.1.1 many

pub returns-clause-lawful : goal.returns-clause-lawful
returns-clause-lawful g c = let s = g.before.session in let h = c.args.history.now in let e = seen_entry c.args.entry.now in
    let on = goes_parts (length h.edits) c.args.self.now e (sym c.goes_on.ensures ∙ c.if-not-goes_on.false) in
    sym (good_is_lawful s h c.requires.0 g.before.entries e c.enter.new.self c.enter.ensures on.within on.settled (sym c.is_good.ensures ∙ c.if-not-is_good.false))

pub returns-clause-judged : goal.returns-clause-judged
returns-clause-judged g c = let s = g.before.session in let h = c.args.history.now in let e = seen_entry c.args.entry.now in
    let on = goes_parts (length h.edits) c.args.self.now e (sym c.goes_on.ensures ∙ c.if-not-goes_on.false) in
    λ done. judged_after s h g.before.entries e c.enter.new.self c.note.new.self c.enter.ensures
    (good_is_lawful s h c.requires.0 g.before.entries e c.enter.new.self c.enter.ensures on.within on.settled (sym c.is_good.ensures ∙ c.if-not-is_good.false))
    c.note.ensures.same c.note.ensures.floor c.note.ensures.tracks c.note.ensures.rolled
