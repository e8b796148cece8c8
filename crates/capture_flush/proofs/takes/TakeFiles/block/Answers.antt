use Rattle.std.proofs.Common.{◌≡◌, ◌∙◌, rules, sym, ap, subst, List, [], ◌∷◌, ◌++◌, Some, true, false}
use Rattle.engine_model.specs.Changes.{changed_at}
use Rattle.capture_flush.specs.Blocks.{block_of}
use Rattle.capture_flush.specs.declared.track.FailedTake.{FailedTake}
use Rattle.capture_flush.specs.declared.track.TrackTakes.{TrackTakes}
use Rattle.capture_flush.specs.Flushed.{IsFlushed, with_block}
use Rattle.capture_flush.specs.Taking.{Taking, IsTakingOf}
use Rattle.capture_flush.proofs.GiveLemmas.{given_from, given_is, gives-none}
use Rattle.capture_flush.proofs.KeepLemmas.{kept_at, left_last, small_take}
use Rattle.capture_flush.proofs.FlushLemmas.{named_tracks, left_out, taking_on}
use Rattle.capture_flush.proofs.MoreLemmas.{dropped, flushed_more, flushed_front}
use Rattle.capture_flush.proofs.takes.TakeFiles.block.Goals as goal

-- ---- it isn't kept

pub returns-then-not-keeps-clause-state : goal.returns-then-not-keeps-clause-state
returns-then-not-keeps-clause-state g c = left_last g.tape.session c.args.self.now c.args.track (block_of c.args.b.now) c.requires.1.0 c.requires.1.1 (search rules)

pub returns-then-not-keeps-clause-flushed : goal.returns-then-not-keeps-clause-flushed
returns-then-not-keeps-clause-flushed g c t old = left_out g.tape c.args.self.now _ c.args.track (block_of c.args.b.now) c.requires.1.1 (search rules) old

-- ---- its take has failed

pub returns-then-has_failed-clause-state : goal.returns-then-has_failed-clause-state
returns-then-has_failed-clause-state g c = let F : TrackTakes → TrackTakes = λ j. record j { last = Some c.new-place.result } in
    let inside : Taking = record { takes = c.self.inside.takes; rate = c.self.inside.rate; bits = c.self.inside.bits; block = c.self.inside.block; tracks = c.self.inside.tracks.items; failed = c.self.inside.failed.items } in
    let same : inside ≡ c.args.self.now = search rules in
    let with : List TrackTakes → Taking = λ ts. record inside { tracks = ts } in
    ap (λ l. with l.items) c.keep.ensures ∙ ap (λ (v : Taking). record v { tracks = changed_at F c.args.track v.tracks }) same
    ∙ kept_at g.tape.session c.args.self.now c.args.track (block_of c.args.b.now) false c.new-place.result c.new-place.ensures.place c.requires.1.0 c.requires.1.1 (search rules)

pub returns-then-has_failed-clause-of : goal.returns-then-has_failed-clause-of
returns-then-has_failed-clause-of g c = subst (IsTakingOf g.tape.session) (sym (returns-then-has_failed-clause-state g c)) (taking_on g.tape.session c.args.self.now c.args.track (block_of c.args.b.now) false c.requires.1.0 c.requires.1.1)

pub returns-then-has_failed-clause-flushed : goal.returns-then-has_failed-clause-flushed
returns-then-has_failed-clause-flushed g c t old = let L : Taking → Type 0 = λ f. IsFlushed (with_block g.tape c.args.track (block_of c.args.b.now)) f (g.M.Media.outside.files c.args.media.now) in
    subst L (sym (returns-then-has_failed-clause-state g c)) (dropped g.tape c.args.self.now _ c.args.track (block_of c.args.b.now) c.requires.1.0 (named_tracks g.tape.session c.args.self.now c.requires.1.0) c.requires.1.1
    (small_take c.args.b.now.take c.new-place.ensures.small) (search rules) old (search rules))

-- ---- a write of it fails

pub returns-in-Err-clause-state : goal.returns-in-Err-clause-state
returns-in-Err-clause-state g c = let F : TrackTakes → TrackTakes = λ j. record j { last = Some c.new-place.result } in
    let inside : Taking = record { takes = c.self-2.inside.takes; rate = c.self-2.inside.rate; bits = c.self-2.inside.bits; block = c.self-2.inside.block; tracks = c.self-2.inside.tracks.items; failed = c.self-2.inside.failed.items } in
    let same : inside ≡ c.args.self.now = search rules in
    let with : List TrackTakes → List FailedTake → Taking = λ ts ks. record inside { tracks = ts; failed = ks } in
    let one : FailedTake = record { track = c.args.track; take = c.args.b.now.take } in
    ap (λ l. with c.keep-in-Err.new.tracks.items l.items) c.push.ensures
    ∙ ap (λ l. with l.items (c.self-2.inside.failed.items ++ one ∷ [])) c.keep-in-Err.ensures
    ∙ ap (λ (v : Taking). record v { tracks = changed_at F c.args.track v.tracks; failed = v.failed ++ one ∷ [] }) same
    ∙ kept_at g.tape.session c.args.self.now c.args.track (block_of c.args.b.now) true c.new-place.result c.new-place.ensures.place c.requires.1.0 c.requires.1.1 (search rules)

pub returns-in-Err-clause-of : goal.returns-in-Err-clause-of
returns-in-Err-clause-of g c = subst (IsTakingOf g.tape.session) (sym (returns-in-Err-clause-state g c)) (taking_on g.tape.session c.args.self.now c.args.track (block_of c.args.b.now) true c.requires.1.0 c.requires.1.1)

pub returns-in-Err-clause-flushed : goal.returns-in-Err-clause-flushed
returns-in-Err-clause-flushed g c t old = let L : Taking → Type 0 = λ f. IsFlushed (with_block g.tape c.args.track (block_of c.args.b.now)) f (g.M.Media.outside.files c.give.new.media) in
    subst L (sym (returns-in-Err-clause-state g c)) (flushed_front g.tape c.args.self.now _ c.args.track (block_of c.args.b.now) c.requires.1.0 (named_tracks g.tape.session c.args.self.now c.requires.1.0) c.requires.1.1
    (small_take c.args.b.now.take c.new-place.ensures.small) (search rules) old _ (search rules) (c.in-Err.ensures.gives.part t))

-- ---- it is written

pub returns-clause-state : goal.returns-clause-state
returns-clause-state g c = let F : TrackTakes → TrackTakes = λ j. record j { last = Some c.new-place.result } in
    let inside : Taking = record { takes = c.self-2.inside.takes; rate = c.self-2.inside.rate; bits = c.self-2.inside.bits; block = c.self-2.inside.block; tracks = c.self-2.inside.tracks.items; failed = c.self-2.inside.failed.items } in
    let same : inside ≡ c.args.self.now = search rules in
    let with : List TrackTakes → Taking = λ ts. record inside { tracks = ts } in
    ap (λ l. with l.items) c.keep-2.ensures ∙ ap (λ (v : Taking). record v { tracks = changed_at F c.args.track v.tracks }) same
    ∙ kept_at g.tape.session c.args.self.now c.args.track (block_of c.args.b.now) false c.new-place.result c.new-place.ensures.place c.requires.1.0 c.requires.1.1 (search rules)

pub returns-clause-of : goal.returns-clause-of
returns-clause-of g c = subst (IsTakingOf g.tape.session) (sym (returns-clause-state g c)) (taking_on g.tape.session c.args.self.now c.args.track (block_of c.args.b.now) false c.requires.1.0 c.requires.1.1)

pub returns-clause-flushed : goal.returns-clause-flushed
returns-clause-flushed g c t old = let L : Taking → Type 0 = λ f. IsFlushed (with_block g.tape c.args.track (block_of c.args.b.now)) f (g.M.Media.outside.files c.give.new.media) in
    subst L (sym (returns-clause-state g c)) (flushed_more g.tape c.args.self.now _ c.args.track (block_of c.args.b.now) c.requires.1.0 (named_tracks g.tape.session c.args.self.now c.requires.1.0) c.requires.1.1
    (small_take c.args.b.now.take c.new-place.ensures.small) (search rules) old _ (search rules)
    (given_is g.M.Media.outside g.tape.session c.args.self.now c.args.track (block_of c.args.b.now) _ _
    (given_from g.tape.session c.args.self.now c.args.track (block_of c.args.b.now) (search rules) (search rules)) c.in_default.ensures.gives t))

pub returns-then-not-keeps-clause-gives : goal.returns-then-not-keeps-clause-gives
returns-then-not-keeps-clause-gives g c = gives-none g.M.Media.outside g.tape.session c.args.self.now c.args.track (block_of c.args.b.now) c.args.media.now (search rules)
