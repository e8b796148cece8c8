-- A new butler is what its holdings and its ends are.
use Rattle.std.proofs.Common.{◌≡◌, ℕ, [], sym, ap, ◌∙◌}
use Rattle.session_model.specs.declared.session.Session.{Session}
use Rattle.edition_log.specs.EditionState.{EditionState as Edition}
use Rattle.audio_source.specs.Lines.{SourcesState}
use Rattle.piece_item.specs.declared.butler_ends.ButlerEnds.{ButlerEnds}
use Rattle.butler.specs.declared.butler.Holdings.{Holdings}
use Rattle.butler.specs.ButlerState.{ButlerState}
use Rattle.butler.specs.Begins.{MayBegin}
use Rattle.butler.specs.Holds.{IsFirstOf}
use Rattle.butler.proofs.FirstLemmas.{begun}

-- as contracts see it
abbrev pub seen : {V : Type 0} → Holdings V → ButlerEnds → ButlerState V
seen h ends = record {
  media = h.reader.media;
  sources = h.reader.sources;
  room = h.reader.room;
  cycles = h.cycles;
  ends = ends;
  supplies = h.supplies.items;
  drain = h.drain;
  nexts = h.nexts.items;
  entered = h.entered;
  hushed = h.hushed;
  write_failed = h.write_failed;
}

pub begins : {V : Type 0} (s : Session) (e : Edition) (held : SourcesState) (cycles : ℕ) (ends : ButlerEnds) (may : MayBegin s e held.opened cycles ends) (media : V) (h : Holdings V)
    (has : IsFirstOf media held e cycles h) → held.held ≡ [] → begun s e held.opened cycles ends may media h.supplies.items h.drain has.supplies ≡ seen h ends
begins s e held cycles ends may media h has none = λ i. record {
  media = sym has.media_is i;
  sources = record { opened = (sym has.sources_is i).opened; held = (sym none ∙ ap (λ (x : SourcesState). x.held) (sym has.sources_is)) i };
  room = sym has.room i;
  cycles = sym has.cycles_is i;
  ends = ends;
  supplies = h.supplies.items;
  drain = h.drain;
  nexts = sym has.nexts i;
  entered = sym has.entered i;
  hushed = sym has.not_hushed i;
  write_failed = sym has.no_write_failed i;
}
