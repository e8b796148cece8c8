use Rattle.std.proofs.Common.{◌≡◌, ◌+◌, ◌-◌, ◌*◌, ◌++◌, map, sym, ap, subst, ◌∙◌}
use Rattle.run_letters.specs.Events.{letter_of}
use Rattle.run_letters.specs.Letters.{letter_of_number, seed_letters}
use Rattle.run_letters.proofs.SeedLemmas.{one_more}
use Rattle.run_letters.proofs.seeds.seeded.Goals as goal

pub loop-preserved : goal.loop-preserved
loop-preserved c = let next = c.next_number-x.ensures in
    subst (λ x. map letter_of c.push.new.self.items ++ seed_letters (16 * c.args.cycles - (c.loop.counter + 1)) x ≡ seed_letters (16 * c.args.cycles) c.args.seed) (sym next)
    (one_more c.loop.events.items c.push.new.self.items c.event_of.result (16 * c.args.cycles) c.loop.counter c.loop.x (seed_letters (16 * c.args.cycles) c.args.seed) c.loop-test.true
    c.in_ok-push.ensures.items (c.event_of.ensures ∙ ap letter_of_number next) c.loop.invariant)
