-- The items of an array are its values.
use Rattle.std.proofs.Common.{◌≡◌, ap, sym, ◌∙◌, map, Some}
use Rattle.std.specs.Prelude.{Ok}
use Rattle.toml.specs.Data.{as_array}
use Rattle.toml.specs.View.{view, items_view}
use Rattle.session_walk.proofs.TableLaws.{items_listed}
use Rattle.session_walk.proofs.arrays.array_of.Goals as goal

pub returns-in-Some : goal.returns-in-Some
returns-in-Some c =
    let is : Some (items_view c.in-Some.items.now.items) ≡ as_array (view c.args.value.now) = c.in-Some.ensures in
    rw (← is) (ap Ok (ap (map view) c.as_slice.ensures.value ∙ sym (items_listed (map view c.in-Some.items.now.items))))
