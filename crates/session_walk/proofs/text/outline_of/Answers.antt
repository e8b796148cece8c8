-- Each step in turn, up to the one that stops.
use Rattle.std.proofs.Common.{◌≡◌, ℕ, sym, refl, arith, length, map, Vec, Bor, BTreeMap, String, Global}
use Rattle.std.specs.Prelude.{vec_len}
use Rattle.std.proofs.lemmas.List.{length-map}
use Rattle.toml.specs.Data.{Members}
use Rattle.toml.specs.View.{table_view}
use Rattle.toml.specs.declared.value.Value.{Value}
use Rattle.session_walk.specs.Text.{outline_of}
use Rattle.session_walk.proofs.StopLaws.{refused, tables_faulted, outline_stopped}
use Rattle.session_walk.proofs.text.outline_of.Goals as goal

pub returns-in_err-only-clause-outline : goal.returns-in_err-only-clause-outline
unfolding outline_of
returns-in_err-only-clause-outline c = outline_stopped _ _ _ (refused _ _ _ (sym c.in_err-only.ensures)) c.from_residual.ensures.1

pub returns-in_err-session-clause-outline : goal.returns-in_err-session-clause-outline
unfolding outline_of
returns-in_err-session-clause-outline c = rw (← c.in_ok-only.ensures)
    (outline_stopped _ _ _ (refused _ _ _ (sym c.in_err-session.ensures)) c.from_residual-in_err-session.ensures.1)

pub returns-in_err-sources-clause-outline : goal.returns-in_err-sources-clause-outline
unfolding outline_of
returns-in_err-sources-clause-outline c = rw (← c.in_ok-only.ensures, ← c.in_ok-session.ensures)
    (outline_stopped _ _ _ (tables_faulted _ _ _ c.in_err-sources.ensures.tables) c.from_residual-in_err-sources.ensures.1)

pub returns-in_err-tracks-clause-outline : goal.returns-in_err-tracks-clause-outline
unfolding outline_of
returns-in_err-tracks-clause-outline c = rw (← c.in_ok-only.ensures, ← c.in_ok-session.ensures, c.in_ok-sources.ensures.tables)
    (outline_stopped _ _ _ (tables_faulted _ _ _ c.in_err-tracks.ensures.tables) c.from_residual-in_err-tracks.ensures.1)

abbrev seen : Bor (BTreeMap (String Global) Value) → Members
seen t = table_view t.now

as_many : (tables : Vec (Bor (BTreeMap (String Global) Value)) Global) (n : ℕ) → n ≡ vec_len tables → length (map seen tables.items) ≡ n
as_many tables n is = omega (arith, length-map tables.items seen, tables.ok.0)

pub returns-in_err-busses-clause-outline : goal.returns-in_err-busses-clause-outline
unfolding outline_of
returns-in_err-busses-clause-outline c = rw (← c.in_ok-only.ensures, ← c.in_ok-session.ensures, c.in_ok-sources.ensures.tables, c.in_ok-tracks.ensures.tables, as_many c.in_ok-tracks.tracks _ c.len.ensures)
    (outline_stopped _ _ _ (tables_faulted _ _ _ c.in_err-busses.ensures.tables) c.from_residual-in_err-busses.ensures.1)

pub returns-in_err-master-clause-outline : goal.returns-in_err-master-clause-outline
unfolding outline_of
returns-in_err-master-clause-outline c = rw (← c.in_ok-only.ensures, ← c.in_ok-session.ensures, c.in_ok-sources.ensures.tables, c.in_ok-tracks.ensures.tables, as_many c.in_ok-tracks.tracks _ c.len.ensures, c.in_ok-busses.ensures.tables)
    (outline_stopped _ _ _ (refused _ _ _ (sym c.in_err-master.ensures)) c.from_residual-in_err-master.ensures.1)

pub returns-clause-outline : goal.returns-clause-outline
unfolding outline_of
returns-clause-outline c = rw (← c.in_ok-only.ensures, ← c.in_ok-session.ensures, c.in_ok-sources.ensures.tables, c.in_ok-tracks.ensures.tables, as_many c.in_ok-tracks.tracks _ c.len.ensures, c.in_ok-busses.ensures.tables, ← c.in_ok-master.ensures) refl
