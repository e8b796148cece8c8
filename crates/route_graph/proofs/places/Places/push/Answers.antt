use Rattle.std.proofs.Common.{◌∙◌, ap, ◌++◌, ◌∷◌, [], arith}
use Rattle.route_graph.proofs.PlaceLaws as laws
use Rattle.route_graph.specs.Places.{stands}
use Rattle.route_graph.proofs.places.Places.push.Goals as goal

pub bounds-self-inside-self-inside : goal.bounds-self-inside-self-inside
bounds-self-inside-self-inside c = let p = c.self.inside in
    laws.room_left p.list p.long p.among c.args.place c.self.invariant c.requires.low (ap (λ xs. stands xs c.args.place) c.self.view_is ∙ c.requires.fresh)

pub invariant_of-self : goal.invariant_of-self
invariant_of-self c = let p = c.self.inside in
    laws.kept_push p.list p.long p.among c.args.place c.self.invariant c.requires.low (ap (λ xs. stands xs c.args.place) c.self.view_is ∙ c.requires.fresh)

pub returns-clause-places : goal.returns-clause-places
returns-clause-places c = let p = c.self.inside in
    let inside = laws.room_left p.list p.long p.among c.args.place c.self.invariant c.requires.low (ap (λ xs. stands xs c.args.place) c.self.view_is ∙ c.requires.fresh) in
    laws.kept_view p.list p.long c.args.place (omega (arith, c.self.invariant.room)) ∙ ap (λ xs. xs ++ c.args.place ∷ []) c.self.view_is

pub returns-clause-once : goal.returns-clause-once
returns-clause-once c = let p = c.self.inside in
    (laws.kept_push p.list p.long p.among c.args.place c.self.invariant c.requires.low (ap (λ xs. stands xs c.args.place) c.self.view_is ∙ c.requires.fresh)).once
