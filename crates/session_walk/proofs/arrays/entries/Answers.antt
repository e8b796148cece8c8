-- One more entry, or its refusal.
use Rattle.std.proofs.Common.{◌≡◌, ◌+◌, sym, ◌∙◌, ◌∷◌, ap, subst, arith, length, get_or, [], Bor, BTreeMap, String, Global}
use Rattle.std.specs.Prelude.{Ok, Err}
use Rattle.std.proofs.lemmas.List.{length-append}
use Rattle.toml.specs.Data.{Members}
use Rattle.toml.specs.View.{table_view}
use Rattle.toml.specs.declared.value.Value.{Value}
use Rattle.session_walk.specs.Fault.{Gives}
use Rattle.session_walk.specs.Section.{Section, section_of}
use Rattle.session_walk.proofs.EachLaws.{at, entries_step, gives_stop, entries_whole}
use Rattle.session_walk.proofs.arrays.entries.Goals as goal

abbrev seen : Bor (BTreeMap (String Global) Value) → Members
seen t = table_view t.now

pub returns-in_err-one : goal.returns-in_err-one
returns-in_err-one g c =
    let place = c.nth-place.ensures in
    let here : section_of (record { place = c.nth-place.result; table = c.index-rows-i.result }) ≡ at c.args.base (c.loop-i.i + 1) (seen (get_or c.args.rows.now c.loop-i.i c.index-rows-i.result)) = cc (place, c.index-rows-i.is) in
    gives_stop (g.T.Entry.says c.args.version) c.args.base c.args.room seen c.args.rows.now c.loop-i.all.items c.loop-i.i c.index-rows-i.result c.in_err-one.field-0.0 c.from_residual-in_err-one.result
    c.loop-i-test.true c.loop-i.invariant.entries (subst (λ (s : Section). Gives (g.T.Entry.says c.args.version s) (Err c.in_err-one.field-0.0)) here c.in_err-one.ensures) c.from_residual-in_err-one.ensures.1

pub loop-i-preserved : goal.loop-i-preserved
loop-i-preserved g c =
    let place = c.nth-place.ensures in
    let e = c.in_ok-one.ensures in
    let here : section_of (record { place = c.nth-place.result; table = c.index-rows-i.result }) ≡ at c.args.base (c.loop-i.i + 1) (seen (get_or c.args.rows.now c.loop-i.i c.index-rows-i.result)) = cc (place, c.index-rows-i.is) in
    record {
      entries = entries_step (g.T.Entry.says c.args.version) c.args.base seen c.args.rows.now c.loop-i.all.items c.loop-i.i c.index-rows-i.result c.in_ok-one.one c.loop-i-test.true
          c.loop-i.invariant.entries (ap (g.T.Entry.says c.args.version) (sym here) ∙ e) ∙ ap (λ l. Ok l.items) (sym c.push.ensures);
      many = omega (arith, ap (λ l. length l.items) c.push.ensures, length-append c.loop-i.all.items (c.in_ok-one.one ∷ []), c.loop-i.invariant.many);
      room = ap (λ l. l.room) c.push.ensures ∙ c.loop-i.invariant.room;
    }

pub returns : goal.returns
returns g c = entries_whole (g.T.Entry.says c.args.version) c.args.base c.args.room seen c.args.rows.now c.loop-i.i c.loop-i.all c.loop-i-test.false c.loop-i.invariant.entries c.loop-i.invariant.room
