use Rattle.std.proofs.Common.{◌≡◌, ◌*◌, ◌<◌, length, sym, refl, subst, ap, ◌∙◌, slice_index_or, arith}
use Rattle.std.specs.Prelude.{◌&&◌, true}
use Rattle.session_model.specs.Formed.{channels_at}
use Rattle.session_model.specs.Valid.{IsValid}
use Rattle.engine_model.specs.Fits.{fits_take, next_take, records}
use Rattle.edition_log.specs.EditionState.{state_of}
use Rattle.cycle_journal.specs.JournalView.{seen_take}
use Rattle.cycle_journal.specs.declared.note.Play.TheVariants.{Silent}
use Rattle.cycle_journal.specs.declared.note.Take.TheVariants.{Off}
use Rattle.track_capture.specs.Counted.{FitsRing, HasCaptured}
use Rattle.process_cycle.proofs.CapturingLemmas.{Lists, Place, CapturesOne, are_long, captures_none, captures_next, captures_all, counts_here, fits_here, at_place}
use Rattle.process_cycle.proofs.capturing.capture_all.Goals as goal
use Rattle.process_cycle.proofs.capturing.capture_all.Goals.{then-rolls, else-rolls}

pub loop-t-init : goal.loop-t-init
loop-t-init g c = captures_none c.args.e.now c.args.rolls g.before c.args.channels c.args.input.now (length c.args.captures.now) (record { captures = c.args.captures.now; rings = c.args.rings.now; notes = c.args.notes.now })
    (refl, c.requires.1.0, c.requires.1.1.0)

pub capture-requires : goal.capture-requires
capture-requires g c = let e = c.args.e.now in let l = c.loop-t in let same = c.session-session.ensures.session in let seen = c.session-session.ensures.seen in
    let olds : Lists = record { captures = c.args.captures.now; rings = c.args.rings.now; notes = c.args.notes.now } in
    let news : Lists = record { captures = l.captures; rings = l.rings; notes = l.notes } in
    let x : Place = record { capture = c.index-captures-t.result; ring = c.index-rings-t.result; note = record { play = Silent; take = Off } } in
    let within : l.t < length c.args.captures.now = c.loop-t-test.true in let whole : are_long olds (length c.args.captures.now) = (refl, c.requires.1.0, c.requires.1.1.0) in (
      subst IsValid (sym same) seen.valid,
      (
        subst (λ s. l.t < length s.tracks.items) (sym same) (omega (arith, within, c.requires.0)),
        (
          counts_here e c.args.rolls g.before c.args.channels c.args.input.now (length c.args.captures.now) olds news l.t whole l.invariant within c.requires.1.1.1.1.1.0 x,
          (
            c.requires.1.1.1.0,
            (
              subst (λ s. FitsRing (s.block * channels_at s l.t) (at_place news l.t x).capture (at_place news l.t x).ring) (sym same)
                  (fits_here e c.args.rolls g.before c.args.channels c.args.input.now (length c.args.captures.now) olds news l.t whole l.invariant within c.requires.1.1.1.1.1.1 x),
              subst (λ s. length c.args.input.now ≡ s.block * c.args.channels) (sym same) c.requires.1.1.1.1.0,
            ),
          ),
        ),
      ),
    )

pub loop-t-preserved : goal.loop-t-preserved
loop-t-preserved g c = let e = c.args.e.now in let l = c.loop-t in
    let olds : Lists = record { captures = c.args.captures.now; rings = c.args.rings.now; notes = c.args.notes.now } in
    let news : Lists = record { captures = l.captures; rings = l.rings; notes = l.notes } in
    let x : Place = record { capture = c.index-captures-t.result; ring = c.index-rings-t.result; note = record { play = Silent; take = Off } } in
    let y : Place = record { capture = c.capture.new.self; ring = c.capture.new.ring; note = record { play = (slice_index_or l.notes l.t x.note).play; take = c.capture.result } } in
    let recorded : c.if-rolls.recorded ≡ (c.args.rolls && records (state_of e) l.t) = elim c.if-rolls.branch [
      | then-rolls w ↦ w.recorded-is ∙ w.records-recorded.ensures ∙ ap (λ b. b && records (state_of e) l.t) (sym w.if-rolls.true)
      | else-rolls w ↦ w.recorded-is ∙ w.if-rolls.false ∙ ap (λ b. b && records (state_of e) l.t) (sym w.if-rolls.false)
    ] in
    let same = c.session-session.ensures.session in let made = c.capture.ensures in
    let one : CapturesOne e c.args.rolls g.before c.args.channels c.args.input.now l.t (at_place news l.t x) y = record {
      play = refl;
      take = subst (λ b. fits_take b (next_take l.t g.before) (seen_take c.capture.result) ≡ true) recorded made.take;
      captured = subst (λ s. HasCaptured s l.t c.args.channels c.args.input.now (slice_index_or l.rings l.t c.index-rings-t.result) c.capture.result c.capture.new.ring) same made.captured;
      counts = made.counts;
      fits = subst (λ s. FitsRing (s.block * channels_at s l.t) c.capture.new.self c.capture.new.ring) same made.fits;
    } in
    captures_next e c.args.rolls g.before c.args.channels c.args.input.now (length c.args.captures.now) olds news l.t (refl, c.requires.1.0, c.requires.1.1.0) l.invariant c.loop-t-test.true x y one

pub returns : goal.returns
returns g c = record {
  captured = captures_all c.args.e.now c.args.rolls g.before c.args.channels c.args.input.now (length c.args.captures.now) (record { captures = c.args.captures.now; rings = c.args.rings.now; notes = c.args.notes.now })
      (record { captures = c.loop-t.captures; rings = c.loop-t.rings; notes = c.loop-t.notes }) c.loop-t.t (refl, c.requires.1.0, c.requires.1.1.0) (omega (arith, c.loop-t-test.false)) c.loop-t.invariant;
}
