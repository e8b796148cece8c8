use Rattle.std.proofs.Common.{◌<◌, ◌⊎◌, inl, length, refl, IsNone, ap, sym, ◌∙◌, ◌++◌, [], set}
use Rattle.std.specs.Option.{unwrap_or}
use Rattle.std.proofs.lemmas.Result.{IfOk-equal}
use Rattle.ses_io.specs.Stored.{files_in, stored}
use Rattle.ses_io.proofs.Results.{OnErr-always, OnOk-ap}
use Rattle.ses_io.proofs.Stored.{stored-extended, files_in-absent}
use Rattle.ses_io.proofs.shelf.Shelf.append.Goals as goal

pub returns-in-Some-clause-ok : goal.returns-in-Some-clause-ok
returns-in-Some-clause-ok c =
    IfOk-equal _ _ _ _ (OnOk-ap c.extend.result (set c.self.inside.files.items c.in-Some.i) _ _ c.extend.ensures.ok)
    (stored-extended _ _ c.args.name.now c.args.bytes.now c.self.view_is c.in-Some.ensures c.index_mut.ensures.value)

pub returns-in_ok-from_slice-in-None-clause-ok : goal.returns-in_ok-from_slice-in-None-clause-ok
returns-in_ok-from_slice-in-None-clause-ok c =
    IfOk-equal _ _ _ _ c.put.ensures.ok (ap (stored c.args.self.now c.args.name.now) (c.in_ok-from_slice-in-None.ensures.items ∙ ap (λ held. unwrap_or held [] ++ c.args.bytes.now) (sym (files_in-absent _ c.args.name.now c.in-None.ensures))))

pub returns-in_err-from_slice-in-None-clause-only : goal.returns-in_err-from_slice-in-None-clause-only
returns-in_err-from_slice-in-None-clause-only c =
    let none : IsNone (files_in c.args.self.now c.args.name.now) = rw (files_in-absent c.args.self.now c.args.name.now c.in-None.ensures) refl in
    let why : IsNone (files_in c.args.self.now c.args.name.now) ⊎ (0 < length c.args.bytes.now) = inl none in
    OnErr-always _ why

pub returns-in_ok-from_slice-in-None-clause-only : goal.returns-in_ok-from_slice-in-None-clause-only
returns-in_ok-from_slice-in-None-clause-only c =
    let none : IsNone (files_in c.args.self.now c.args.name.now) = rw (files_in-absent c.args.self.now c.args.name.now c.in-None.ensures) refl in
    let why : IsNone (files_in c.args.self.now c.args.name.now) ⊎ (0 < length c.args.bytes.now) = inl none in
    OnErr-always _ why
