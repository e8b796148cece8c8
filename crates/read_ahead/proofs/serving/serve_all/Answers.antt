use Rattle.std.proofs.Common.{◌≡◌, ℕ, ◌<◌, ◌+◌, ◌∙◌, length, get_or, subst, arith, rules, length-set}
use Rattle.std.proofs.lemmas.Option.{slice_get-get_or}
use Rattle.audio_source.specs.Told.{source_sound}
use Rattle.read_ahead.specs.Reader.{IsTold}
use Rattle.read_ahead.specs.AllServes.{HaveServed}
use Rattle.read_ahead.proofs.ReadLemmas.{Reads, went, read_on, read_well, serves_on}
use Rattle.read_ahead.proofs.ServeLemmas.{so_far_more, changed_here, stocked_here, all_serve, have_served, have_stopped, if_failed, at_hand_here, none_here}
use Rattle.read_ahead.proofs.serving.serve_all.Goals as goal

pub serve-requires-clause-stocked : goal.serve-requires-clause-stocked
serve-requires-clause-stocked g c = let so = c.loop-track.invariant.so_far in (stocked_here _ _ _ c.loop-track.track _ _ c.loop-track.supplies c.loop-track.sends c.index-supplies-track.result c.index-sends-track.result
    c.requires.stocked so.each (omega (arith, c.requires.stocked.many, so.supplies, so.sends)) (omega (arith, c.requires.stocked.many, so.supplies, so.sends))).0

pub serve-requires-clause-still_open : goal.serve-requires-clause-still_open
serve-requires-clause-still_open g c = let so = c.loop-track.invariant.so_far in (stocked_here _ _ _ c.loop-track.track _ _ c.loop-track.supplies c.loop-track.sends c.index-supplies-track.result c.index-sends-track.result
    c.requires.stocked so.each (omega (arith, c.requires.stocked.many, so.supplies, so.sends)) (omega (arith, c.requires.stocked.many, so.supplies, so.sends))).1

pub returns-then-sent-most-clause-serves : goal.returns-then-sent-most-clause-serves
returns-then-sent-most-clause-serves g c = let so = c.loop-track.invariant.so_far in
    all_serve _ _ _ c.loop-track.track _ _ _ _ c.requires.stocked so.supplies so.sends so.each

pub returns-then-sent-most-clause-answer : goal.returns-then-sent-most-clause-answer
returns-then-sent-most-clause-answer g c = let so = c.loop-track.invariant.so_far in let all : c.loop-track.sent ≡ c.args.most = search rules in
    subst (λ (n : ℕ). HaveServed c.args.pass.now c.args.most c.args.sends.now c.loop-track.supplies c.loop-track.sends n) all
    (have_served (IsTold g.M.Media.outside c.args.reader.now) (source_sound (g.M.Media.outside.files c.args.reader.now.media) c.args.reader.now.sources.opened)
    c.args.pass.now c.loop-track.track c.args.most c.loop-track.sent c.args.supplies.now c.args.sends.now c.loop-track.supplies c.loop-track.sends (λ less. absurd (omega (arith, less, all))) so)

pub returns-in_err-given-clause-serves : goal.returns-in_err-given-clause-serves
returns-in_err-given-clause-serves g c = let so = c.loop-track.invariant in let t = c.loop-track.track in let ps = c.loop-track.supplies in let ds = c.loop-track.sends in
    let many = c.requires.stocked.many in let sized = so.so_far.supplies in let ringed = so.so_far.sends in
    let near : t < length ps = omega arith in let within : t < length ds = omega arith in
    let p = get_or ps t c.index-supplies-track.result in let d = get_or ds t c.index-sends-track.result in
    let sounds = source_sound (g.M.Media.outside.files c.args.reader.now.media) c.args.reader.now.sources.opened in
    all_serve (IsTold g.M.Media.outside c.args.reader.now) sounds c.args.pass.now (t + 1) c.args.supplies.now c.args.sends.now _ _ c.requires.stocked
    (length-set ps t c.serve.new.supply ∙ so.so_far.supplies) (length-set ds t c.serve.new.end ∙ so.so_far.sends)
    (changed_here (IsTold g.M.Media.outside c.args.reader.now) sounds c.args.pass.now t c.args.supplies.now c.args.sends.now ps ds p c.serve.new.supply d c.serve.new.end so.so_far.each near within
    (slice_get-get_or ps t c.index-supplies-track.result near) (slice_get-get_or ds t c.index-sends-track.result within)
    (serves_on g.M.Media.outside c.args.reader.now c.loop-track.reader went _ _ _ _ _ _ so.read c.serve.ensures.serves) c.serve.ensures.stocked.spare)

pub returns-in_err-given-clause-stopped : goal.returns-in_err-given-clause-stopped
returns-in_err-given-clause-stopped g c = let so = c.loop-track.invariant.so_far in let t = c.loop-track.track in let ps = c.loop-track.supplies in let ds = c.loop-track.sends in
    let within : t < length ds = (let many = c.requires.stocked.many in let ringed = so.sends in omega arith) in
    let less : c.loop-track.sent < c.args.most = search rules in
    if_failed c.from_residual.result _ (have_stopped (IsTold g.M.Media.outside c.args.reader.now) (source_sound (g.M.Media.outside.files c.args.reader.now.media) c.args.reader.now.sources.opened)
    c.args.pass.now t c.args.most c.loop-track.sent c.args.supplies.now c.args.sends.now ps ds c.serve.new.supply (get_or ds t c.index-sends-track.result) c.serve.new.end so less within
    (slice_get-get_or ds t c.index-sends-track.result within) (search rules))

pub returns-in_err-given-clause-at_hand : goal.returns-in_err-given-clause-at_hand
returns-in_err-given-clause-at_hand g c = λ hand same. let so = c.loop-track.invariant in let t = c.loop-track.track in let ps = c.loop-track.supplies in let ds = c.loop-track.sends in
    let many = c.requires.stocked.many in let sized = so.so_far.supplies in let ringed = so.so_far.sends in
    let near : t < length ps = omega arith in let within : t < length ds = omega arith in
    let p = get_or ps t c.index-supplies-track.result in let d = get_or ds t c.index-sends-track.result in
    let none = none_here _ _ c.args.pass.now t c.loop-track.sent c.args.sends.now ds p c.serve.new.supply d c.serve.new.end so.so_far.counted same within
    (slice_get-get_or ds t c.index-sends-track.result within) c.serve.ensures.serves in
    c.serve.ensures.at_hand (at_hand_here _ _ c.args.pass.now t c.args.supplies.now c.args.sends.now ps ds c.index-supplies-track.result hand so.so_far.each near) none.1 ∙ so.still hand none.0

pub returns-in_err-given-clause-read : goal.returns-in_err-given-clause-read
returns-in_err-given-clause-read g c = let second : Reads g.M.Media.outside c.loop-track.reader c.serve.new.reader c.from_residual.result = search rules in
    read_on g.M.Media.outside c.args.reader.now c.loop-track.reader c.serve.new.reader tt c.from_residual.result c.loop-track.invariant.read second

pub loop-track-preserved : goal.loop-track-preserved
loop-track-preserved g c = let so = c.loop-track.invariant in let t = c.loop-track.track in let ps = c.loop-track.supplies in let ds = c.loop-track.sends in
    let many = c.requires.stocked.many in let sized = so.so_far.supplies in let ringed = so.so_far.sends in
    let near : t < length ps = omega arith in let within : t < length ds = omega arith in
    let p = get_or ps t c.index-supplies-track.result in let d = get_or ds t c.index-sends-track.result in let says = c.in_ok-given.ensures in
    let sounds = source_sound (g.M.Media.outside.files c.args.reader.now.media) c.args.reader.now.sources.opened in
    record {
      count = so.count;
      so_far = so_far_more (IsTold g.M.Media.outside c.args.reader.now) sounds c.args.pass.now t c.args.most c.loop-track.sent c.args.supplies.now c.args.sends.now ps ds
          p c.serve.new.supply d c.serve.new.end c.in_ok-given.given so.so_far (omega arith) (omega arith)
          (slice_get-get_or ps t c.index-supplies-track.result near) (slice_get-get_or ds t c.index-sends-track.result within)
          (serves_on g.M.Media.outside c.args.reader.now c.loop-track.reader went _ _ _ _ _ _ so.read c.serve.ensures.serves) c.serve.ensures.stocked.spare says.answer;
      still = λ hand none. let counted = says.answer.counted in
          says.at_hand (at_hand_here _ _ c.args.pass.now t c.args.supplies.now c.args.sends.now ps ds c.index-supplies-track.result hand so.so_far.each near)
          (omega (arith, counted, none)) ∙ so.still hand (omega (arith, none));
      room = says.scratch ∙ so.room;
      read = read_on g.M.Media.outside c.args.reader.now c.loop-track.reader c.serve.new.reader tt went so.read
          (read_well g.M.Media.outside c.loop-track.reader c.serve.new.reader c.in_ok-given.given tt says.read);
    }

pub returns-clause-serves : goal.returns-clause-serves
returns-clause-serves g c = let so = c.loop-track.invariant.so_far in
    all_serve _ _ _ c.loop-track.track _ _ _ _ c.requires.stocked so.supplies so.sends so.each

pub returns-clause-answer : goal.returns-clause-answer
returns-clause-answer g c = let so = c.loop-track.invariant.so_far in let many = c.requires.stocked.many in let count = c.loop-track.invariant.count in
    have_served (IsTold g.M.Media.outside c.args.reader.now) (source_sound (g.M.Media.outside.files c.args.reader.now.media) c.args.reader.now.sources.opened)
    c.args.pass.now c.loop-track.track c.args.most c.loop-track.sent c.args.supplies.now c.args.sends.now c.loop-track.supplies c.loop-track.sends (λ less. omega arith) so
