use Rattle.std.proofs.Common.{◌≡◌, length, refl, sym, ap, ◌∙◌}
use Rattle.report_reader.specs.Items.{seen_item}
use Rattle.report_reader.specs.Reading.{Within, Whole, with_item, lines_of, reported_of, stage_of}
use Rattle.report_reader.proofs.ReadingLemmas.{item_bad, item_good, items_end, room_less, room_for, whole_stays}
use Rattle.report_reader.proofs.report.Report.read_items.Goals as goal

pub returns-in_default-said-clause-goes : goal.returns-in_default-said-clause-goes
returns-in_default-said-clause-goes c =
    item_bad c.loop-line.lines.number c.loop-line.number c.loop-line.self.first_line (reported_of c.loop-line.self) (lines_of c.loop-line.lines.rest.now) (lines_of c.next.new.self.rest.now) c.in-Some.line.now _
    c.loop-line.invariant.goes c.in-Some.ensures.line c.in_default-said.ensures c.loop-line.invariant.same

pub add-requires : goal.add-requires
add-requires c =
    room_for c.loop-line.self (lines_of c.loop-line.lines.rest.now) (lines_of c.next.new.self.rest.now) c.in-Some.line.now (seen_item c.in-Some-said.item)
    c.loop-line.invariant.room c.in-Some.ensures.line c.in-Some-said.ensures

pub returns-then-not-add-clause-goes : goal.returns-then-not-add-clause-goes
returns-then-not-add-clause-goes c =
    let r = c.add.new.self in
    let whole : Whole r.first_line (reported_of r) ≡ with_item c.loop-line.self.first_line (reported_of c.loop-line.self) (seen_item c.in-Some-said.item) = ap (λ b. stage_of b r) (sym c.if-not-add.true) ∙ c.add.ensures.stage in
    sym (item_good c.loop-line.lines.number c.next.new.self.number c.loop-line.self.first_line (reported_of c.loop-line.self) (seen_item c.in-Some-said.item) (Whole r.first_line (reported_of r))
    (lines_of c.loop-line.lines.rest.now) (lines_of c.next.new.self.rest.now) c.in-Some.line.now _ c.loop-line.invariant.goes c.in-Some.ensures.line c.in-Some-said.ensures c.in-Some.ensures.number whole)
    ∙ whole_stays c.next.new.self.number r.first_line (reported_of r) (lines_of c.next.new.self.rest.now)

pub loop-line-preserved : goal.loop-line-preserved
loop-line-preserved c =
    let r = c.add.new.self in
    let within : Within r.first_line (reported_of r) ≡ with_item c.loop-line.self.first_line (reported_of c.loop-line.self) (seen_item c.in-Some-said.item) = ap (λ b. stage_of b r) (sym c.if-not-add.false) ∙ c.add.ensures.stage in
    record {
      goes = item_good c.loop-line.lines.number c.next.new.self.number c.loop-line.self.first_line (reported_of c.loop-line.self) (seen_item c.in-Some-said.item) (Within r.first_line (reported_of r))
          (lines_of c.loop-line.lines.rest.now) (lines_of c.next.new.self.rest.now) c.in-Some.line.now _ c.loop-line.invariant.goes c.in-Some.ensures.line c.in-Some-said.ensures c.in-Some.ensures.number within;
      same = refl;
      memory = λ most within. c.add.ensures.memory most (c.loop-line.invariant.memory most within);
      room = c.add.ensures.room (length (lines_of c.next.new.self.rest.now))
          (room_less c.loop-line.self (lines_of c.loop-line.lines.rest.now) (lines_of c.next.new.self.rest.now) c.in-Some.line.now c.loop-line.invariant.room c.in-Some.ensures.line);
    }

pub returns-clause-goes : goal.returns-clause-goes
returns-clause-goes c = items_end c.loop-line.lines.number c.loop-line.number c.loop-line.self.first_line (reported_of c.loop-line.self) (lines_of c.loop-line.lines.rest.now) _ c.loop-line.invariant.goes c.in_default.ensures.line c.loop-line.invariant.same

pub returns-then-not-add-clause-memory : goal.returns-then-not-add-clause-memory
returns-then-not-add-clause-memory c = λ most within. c.add.ensures.memory most (c.loop-line.invariant.memory most within)
