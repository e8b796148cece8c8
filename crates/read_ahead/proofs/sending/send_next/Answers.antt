use Rattle.std.proofs.Common.{◌≡◌, ◌∙◌, sym, ap, subst, refl, rules, arith, true, false, true≢false, inl, inr, length, Box}
use Rattle.std.proofs.lemmas.Grind.{common_steps}
use Rattle.std.specs.Prelude.{Some, IsSomeAnd}
use Rattle.std.specs.Global.{Global}
use Rattle.disk_ring.specs.Sender.{Sender}
use Rattle.audio_source.specs.Told.{source_sound}
use Rattle.piece_item.specs.declared.item.Item.{Item}
use Rattle.piece_item.specs.declared.kind.Kind.{Kind}
use Rattle.piece_item.specs.Views.{kind_of}
use Rattle.read_ahead.specs.Pass.{PassState}
use Rattle.read_ahead.specs.Items.{IsBlockOf, HasMade}
use Rattle.read_ahead.specs.SendProgress.{needs_of, target_of, now_due, advanced}
use Rattle.read_ahead.specs.declared.target.TrackTarget.{TrackTarget}
use Rattle.read_ahead.specs.Reader.{ReaderState}
use Rattle.read_ahead.proofs.HandLemmas.{not_at_hand}
use Rattle.read_ahead.proofs.ReadLemmas.{Reads, read_well, reads_none, went}
use Rattle.read_ahead.proofs.RunLemmas.{serves_none, serves_nothing, serves_one, serves_full, not_made}
use Rattle.read_ahead.proofs.sending.send_next.Goals as goal
use Rattle.read_ahead.proofs.sending.send_next.Goals.{then-not-eq+in_default-fill, else-not-eq, then-supply, else-supply}

pub returns-in_default-clause-serves : goal.returns-in_default-clause-serves
returns-in_default-clause-serves g c = serves_nothing _ _ _ _ c.args.supply.now c.args.end.now

pub returns-in-Err-clause-serves : goal.returns-in-Err-clause-serves
returns-in-Err-clause-serves g c = serves_none _ _ _ _ _ _ _ refl (λ item has. not_made _ item refl has) (λ kept. search rules)

pub returns-in-Ok-clause-serves : goal.returns-in-Ok-clause-serves
returns-in-Ok-clause-serves g c = let item = c.if-not-eq.item.value in let aims = c.of-target.ensures.those in let p = c.args.supply.now in
    let sounds = source_sound (g.M.Media.outside.files c.args.reader.now.media) c.args.reader.now.sources.opened in let e = c.args.pass.now.edition in
    let kind : item.kind ≡ c.in-Some.kind = elim c.if-not-eq.branch [ then-not-eq+in_default-fill w ↦ search rules | else-not-eq w ↦ search rules ] in
    serves_one _ sounds e (needs_of (target_of c.args.pass.now c.args.track)) _ p _ _ _ item c.in-Ok.husk.value c.in-Ok.ensures.answer
    (ap (λ (w : TrackTarget). now_due (needs_of w) p.progress) (sym aims) ∙ sym c.in-Some.ensures.due ∙ ap (λ (k : Kind). Some (kind_of k)) (sym kind))
    (c.in-Some.ensures.then ∙ ap (λ (w : TrackTarget). advanced w.next p.progress (kind_of c.in-Some.kind)) aims
    ∙ ap (λ (k : Kind). advanced c.args.pass.now.next p.progress (kind_of k)) (sym kind))
    refl
    (λ t. elim c.if-not-eq.branch [
      | then-not-eq+in_default-fill w ↦ inl (subst (λ (k : Kind). IsBlockOf sounds e (kind_of k) item.samples.items) (sym kind)
          (subst (λ (it : Item). IsBlockOf sounds e (kind_of c.in-Some.kind) it.samples.items) (sym (ap (λ b. b.value) w.item-is))
          (subst (λ (q : PassState). IsBlockOf sounds q.edition (kind_of c.in-Some.kind) w.fill.new.item.samples.items) c.pass.view_is (w.in_default-fill.ensures.block t))))
      | else-not-eq w ↦ (let made : p.made ≡ true = search rules in let box : IsSomeAnd p.spare (λ b. b.value ≡ item) = search rules in inr (record { made = made; box = box }))
    ])

pub returns-in-Err-put-clause-serves : goal.returns-in-Err-put-clause-serves
returns-in-Err-put-clause-serves g c = let item = c.if-not-eq.item.value in let aims = c.of-target.ensures.those in let p = c.args.supply.now in
    let sounds = source_sound (g.M.Media.outside.files c.args.reader.now.media) c.args.reader.now.sources.opened in let e = c.args.pass.now.edition in
    let kind : item.kind ≡ c.in-Some.kind = elim c.if-not-eq.branch [ then-not-eq+in_default-fill w ↦ search rules | else-not-eq w ↦ search rules ] in
    let stays : c.if-not-eq.supply.progress ≡ p.progress = elim c.if-not-eq.branch [ then-not-eq+in_default-fill w ↦ ap (λ z. z.progress) w.supply-is | else-not-eq w ↦ ap (λ z. z.progress) w.supply-is ] in
    let due = ap (λ (w : TrackTarget). now_due (needs_of w) p.progress) (sym aims) ∙ sym c.in-Some.ensures.due ∙ ap (λ (k : Kind). Some (kind_of k)) (sym kind) in
    serves_full _ sounds e (needs_of (target_of c.args.pass.now c.args.track)) p _ _ c.in-Err-put.full.head _ c.in-Err-put.ensures.answer.1 stays
    (λ it has. let same : item ≡ it = sym (ap (λ b. b.value) c.in-Err-put.ensures.answer.0) ∙ has.box in elim c.if-not-eq.branch [
      | then-not-eq+in_default-fill w ↦ inr (
        ap (λ z. now_due (needs_of (target_of c.args.pass.now c.args.track)) z) stays ∙ due ∙ ap (λ (z : Item). Some (kind_of z.kind)) same,
        λ t. subst (λ (z : Item). IsBlockOf sounds e (kind_of z.kind) z.samples.items) same (subst (λ (k : Kind). IsBlockOf sounds e (kind_of k) item.samples.items) (sym kind)
            (subst (λ (z : Item). IsBlockOf sounds e (kind_of c.in-Some.kind) z.samples.items) (sym (ap (λ b. b.value) w.item-is))
            (subst (λ (q : PassState). IsBlockOf sounds q.edition (kind_of c.in-Some.kind) w.fill.new.item.samples.items) c.pass.view_is (w.in_default-fill.ensures.block t)))),
      )
      | else-not-eq w ↦ (let made : p.made ≡ true = search rules in let box : IsSomeAnd p.spare (λ b. b.value ≡ item) = search rules in inl (subst (HasMade p) same (record { made = made; box = box })))
    ])
    (λ kept. search rules)

pub returns-in-Ok-clause-scratch : goal.returns-in-Ok-clause-scratch
returns-in-Ok-clause-scratch g c = elim c.if-not-eq.branch [
  | then-not-eq+in_default-fill w ↦ ap (λ r. r.room) w.reader-is ∙ w.in_default-fill.ensures.scratch
  | else-not-eq w ↦ ap (λ r. r.room) w.reader-is
]

pub returns-in-Ok-clause-read : goal.returns-in-Ok-clause-read
returns-in-Ok-clause-read g c = let outside = g.M.Media.outside in let old = c.args.reader.now in
    let reads : Reads outside old c.if-not-eq.reader went = elim c.if-not-eq.branch [
      | then-not-eq+in_default-fill w ↦ subst (λ (r : ReaderState g.row.M.Denot). Reads outside old r went) (sym w.reader-is) w.in_default-fill.ensures.read
      | else-not-eq w ↦ subst (λ (r : ReaderState g.row.M.Denot). Reads outside old r went) (sym w.reader-is) (reads_none outside old)
    ] in read_well outside old c.if-not-eq.reader tt true reads

pub returns-in-Err-put-clause-scratch : goal.returns-in-Err-put-clause-scratch
returns-in-Err-put-clause-scratch g c = elim c.if-not-eq.branch [
  | then-not-eq+in_default-fill w ↦ ap (λ r. r.room) w.reader-is ∙ w.in_default-fill.ensures.scratch
  | else-not-eq w ↦ ap (λ r. r.room) w.reader-is
]

pub returns-in-Err-put-clause-read : goal.returns-in-Err-put-clause-read
returns-in-Err-put-clause-read g c = let outside = g.M.Media.outside in let old = c.args.reader.now in
    let reads : Reads outside old c.if-not-eq.reader went = elim c.if-not-eq.branch [
      | then-not-eq+in_default-fill w ↦ subst (λ (r : ReaderState g.row.M.Denot). Reads outside old r went) (sym w.reader-is) w.in_default-fill.ensures.read
      | else-not-eq w ↦ subst (λ (r : ReaderState g.row.M.Denot). Reads outside old r went) (sym w.reader-is) (reads_none outside old)
    ] in read_well outside old c.if-not-eq.reader tt false reads

pub returns-in-Err-put-clause-at_hand : goal.returns-in-Err-put-clause-at_hand
returns-in-Err-put-clause-at_hand g c = λ hand. elim c.if-not-eq.branch [
  | then-not-eq+in_default-fill w ↦ not_at_hand (needs_of (target_of c.args.pass.now c.args.track)) c.args.supply.now c.in-Some-take.item c.in-Some.kind c.if-supply.value (search rules)
      (ap (λ (a : TrackTarget). now_due (needs_of a) c.args.supply.now.progress) (sym c.of-target.ensures.those) ∙ sym c.in-Some.ensures.due)
      (λ made same. elim c.if-supply.branch [
        | then-supply v ↦ grind (arith, common_steps, v.value-is, v.eq.ensures, v.deref.ensures, same)
        | else-supply v ↦ absurd (true≢false (sym made ∙ v.if-supply.false))
      ]) (search rules) hand
  | else-not-eq w ↦ w.reader-is
]

pub returns-in-Err-clause-scratch : goal.returns-in-Err-clause-scratch
returns-in-Err-clause-scratch g c = c.in-Err.ensures.scratch

pub returns-in-Err-clause-at_hand : goal.returns-in-Err-clause-at_hand
returns-in-Err-clause-at_hand g c = λ hand. not_at_hand (needs_of (target_of c.args.pass.now c.args.track)) c.args.supply.now c.in-Some-take.item c.in-Some.kind c.if-supply.value (search rules)
    (ap (λ (a : TrackTarget). now_due (needs_of a) c.args.supply.now.progress) (sym c.of-target.ensures.those) ∙ sym c.in-Some.ensures.due)
    (λ made same. elim c.if-supply.branch [
      | then-supply v ↦ grind (arith, common_steps, v.value-is, v.eq.ensures, v.deref.ensures, same)
      | else-supply v ↦ absurd (true≢false (sym made ∙ v.if-supply.false))
    ]) (search rules) hand

pub returns-in-Err-put-clause-answer : goal.returns-in-Err-put-clause-answer
returns-in-Err-put-clause-answer g c = let refuses = c.in-Err-put.ensures.answer.1 in let needs = needs_of (target_of c.args.pass.now c.args.track) in let p = c.args.supply.now in
    let kind : c.if-not-eq.item.value.kind ≡ c.in-Some.kind = elim c.if-not-eq.branch [ then-not-eq+in_default-fill w ↦ search rules | else-not-eq w ↦ search rules ] in
    let stays : c.if-not-eq.supply.progress ≡ p.progress = elim c.if-not-eq.branch [ then-not-eq+in_default-fill w ↦ ap (λ z. z.progress) w.supply-is | else-not-eq w ↦ ap (λ z. z.progress) w.supply-is ] in
    let due = ap (now_due needs) stays ∙ ap (λ (w : TrackTarget). now_due (needs_of w) p.progress) (sym c.of-target.ensures.those) ∙ sym c.in-Some.ensures.due
    ∙ ap (λ (k : Kind). Some (kind_of k)) (sym kind) ∙ ap (λ (b : Box Item Global). Some (kind_of b.value.kind)) (sym c.in-Err-put.ensures.answer.0) in
    (ap (λ (z : Sender Item). length z.sent) refuses.heads, inl (search rules, record { made = refl; due = due }))
