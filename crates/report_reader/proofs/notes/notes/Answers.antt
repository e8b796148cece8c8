use Rattle.std.proofs.Common.{◌≡◌, ◌-◌, ◌+◌, ◌≤◌, [], ◌∷◌, ◌++◌, length, map, ap, sym, ◌∙◌, arith}
use Rattle.std.proofs.lemmas.List.{map_push}
use Rattle.cycle_journal.specs.JournalView.{seen_note}
use Rattle.report_reader.proofs.NotesLoop.{some_bytes, no_bytes, has_room, no_room, too_many, no_blank, no_note, goes_on, is_done}
use Rattle.report_reader.proofs.notes.notes.Goals as goal

pub returns-then-is_full : goal.returns-then-is_full
returns-then-is_full c = let ns = c.loop-rest.notes.items in let rest = c.loop-rest.rest.now in
    too_many (map seen_note ns) (32 - length ns) rest _ (no_room (length ns) (sym c.is_full.ensures.value ∙ c.if-is_full.true)) (some_bytes rest (sym c.is_empty.ensures ∙ c.loop-rest-test.true)) c.loop-rest.invariant.0

pub returns-in_err-after : goal.returns-in_err-after
returns-in_err-after c = let ns = c.loop-rest.notes.items in let rest = c.loop-rest.rest.now in
    rw c.from_residual.ensures (no_blank (map seen_note ns) (32 - length ns) (31 - length ns) rest _ (has_room (length ns) c.is_full.ensures.fits (sym c.is_full.ensures.value ∙ c.if-is_full.false))
    (some_bytes rest (sym c.is_empty.ensures ∙ c.loop-rest-test.true)) c.in_err-after.ensures c.loop-rest.invariant.0)

pub returns-in_err-note : goal.returns-in_err-note
returns-in_err-note c = let ns = c.loop-rest.notes.items in let rest = c.loop-rest.rest.now in
    rw c.from_residual-in_err-note.ensures (no_note (map seen_note ns) (32 - length ns) (31 - length ns) rest c.in_ok-after.field-0.now _ (has_room (length ns) c.is_full.ensures.fits (sym c.is_full.ensures.value ∙ c.if-is_full.false))
    (some_bytes rest (sym c.is_empty.ensures ∙ c.loop-rest-test.true)) c.in_ok-after.ensures c.in_err-note.ensures c.loop-rest.invariant.0)

pub loop-rest-preserved : goal.loop-rest-preserved
loop-rest-preserved c = let ns = c.loop-rest.notes.items in let rest = c.loop-rest.rest.now in
    let long : length c.push.new.self.items ≡ length ns + 1 = c.push.ensures.len in
    let few : length ns ≤ 31 = omega (arith, has_room (length ns) c.is_full.ensures.fits (sym c.is_full.ensures.value ∙ c.if-is_full.false)) in
    let left : 32 - length c.push.new.self.items ≡ 31 - length ns = omega (arith, long) in
    let more = goes_on (map seen_note ns) (32 - length ns) (31 - length ns) rest c.in_ok-after.field-0.now (seen_note c.in_ok-note.note) c.in_ok-note.behind.now _ (has_room (length ns) c.is_full.ensures.fits (sym c.is_full.ensures.value ∙ c.if-is_full.false))
    (some_bytes rest (sym c.is_empty.ensures ∙ c.loop-rest-test.true)) c.in_ok-after.ensures c.in_ok-note.ensures c.loop-rest.invariant.0 in
    let items : map seen_note c.push.new.self.items ≡ map seen_note ns ++ seen_note c.in_ok-note.note ∷ [] = ap (map seen_note) c.push.ensures.items ∙ map_push seen_note ns c.in_ok-note.note in
    (rw (items, left) more, omega (arith, long, few))

pub returns : goal.returns
returns c = let ns = c.loop-rest.notes.items in let rest = c.loop-rest.rest.now in
    is_done (map seen_note ns) (32 - length ns) rest _ (no_bytes rest (sym c.is_empty.ensures ∙ c.loop-rest-test.false)) c.loop-rest.invariant.0
