-- Looks of one cycle, one after the other.
use Rattle.std.proofs.Common.{◌≡◌, inl, inr, ℕ, suc, ◌<◌, List, [], ◌∷◌, ◌++◌, length, refl, sym, ap, ◌∙◌, subst, arith, length-append}
use Rattle.std.specs.Prelude.{◌⊎◌, Bool, true, not, map, reverse, slice_index_or}
use Rattle.std.proofs.lemmas.Bool.{and_parts, true≢false}
use Rattle.std.proofs.lemmas.List.{append_assoc, append_cancel_right, map-append, reverse-append}
use Rattle.std.proofs.lemmas.List.Folds.{list_all-append}
use Rattle.std.proofs.lemmas.Option.{get_or_from_slice_get, same_Some, slice_get_within}
use Rattle.engine_laws.proofs.ListLemmas.{item_at}
use Rattle.engine_model.specs.Items as engine
use Rattle.disk_ring.specs.Receiver.{Receiver, GoesOnOut}
use Rattle.disk_ring.proofs.GoesOn.{goes_on_out_refl, goes_on_out_trans}
use Rattle.piece_item.specs.declared.item.Item.{Item}
use Rattle.piece_item.specs.Views.{item_of, kind_of}
use Rattle.track_playback.specs.declared.playback.SpareBox.{SpareBox}
use Rattle.track_playback.specs.declared.playback.SpareBox.TheVariants.{Husk, Held, Lent}
use Rattle.track_playback.specs.declared.playback.TrackPlayback.{TrackPlayback}
use Rattle.track_playback.specs.declared.play_position.PlayPosition.{PlayPosition}
use Rattle.track_playback.specs.SpareBoxes.{offers, received_items, HoldsTheLast}
use Rattle.track_playback.specs.Looks.{EndsWith, Looks, holds, holds_none}
use Rattle.ses_io.specs.Outside.{SourceOutside}
use Rattle.engine_model.specs.Journal.{rolled}
use Rattle.cycle_journal.specs.JournalView.{seen_entries}
use base.Growing.{prefix_refl}
use Rattle.edition_log.specs.EditionState.{EditionState as Edition, IsEditionOf}
use Rattle.process_cycle.specs.ProcessState.{Playing, ProcessState, entered, entries_of, position_of}
use Rattle.process_cycle.specs.Playing.{IsPlaying}
use Rattle.process_cycle.specs.declared.process.Look.{Look}
use Rattle.process_cycle.specs.declared.process.Look.TheVariants.{Ready, Short}
use Rattle.process_cycle.specs.Looked.{Keeps, LookAnswers, LooksAtAll, MayLook}
use Rattle.track_playback.specs.Answers.{AllThere}
use Rattle.play_worker.specs.Patient.{AllEndAfter, AllGoOn, AllLookedFor, EndsAfter, IsHeldLast, NotedSoOften}

-- what was received stands behind what is received later, the newest first
pub received_on : (b c : Receiver Item) → GoesOnOut b c → (more : List engine.Item) × (received_items c ≡ more ++ received_items b)
received_on b c ring = let more = ring.received in (
  reverse (map item_of more.0),
  ap (λ l. reverse (map item_of l)) (sym more.1) ∙ ap reverse (map-append item_of b.received more.0) ∙ reverse-append (map item_of b.received) (map item_of more.0),
)

-- a held item isn't passed: were it offered, it would be among what isn't held
not_passed : (at : PlayPosition) (x : engine.Item) (taken more rest : List engine.Item) → holds_none at taken ≡ true → holds at x.kind ≡ true → taken ++ rest ≡ more ++ x ∷ rest → ⊥
not_passed at x taken more rest free is_held same =
    let is : taken ≡ more ++ x ∷ [] = append_cancel_right taken (more ++ x ∷ []) rest (same ∙ sym (append_assoc more (x ∷ []) rest)) in
    let all = sym (list_all-append (λ (y : engine.Item). not (holds at y.kind)) more (x ∷ [])) ∙ sym (ap (holds_none at) is) ∙ free in
    let last = (and_parts (not (holds at x.kind)) true (and_parts (holds_none at more) (holds_none at (x ∷ [])) all).1).0 in
    true≢false (sym last ∙ ap not is_held)

module _ (at : PlayPosition) (a b c : Receiver Item) (d e : TrackPlayback) (looks : ℕ) where
  -- one look more: by the box before and the box after it
  by_boxes : (before after : SpareBox) → EndsAfter looks at a b before → HoldsTheLast b before →
      (taken : List engine.Item) → offers c after ≡ taken ++ offers b before → holds_none at taken ≡ true → GoesOnOut b c → EndsWith at b c after → EndsAfter (suc looks) at a c after
  by_boxes before (Held box) was last taken offered free ring ends = ends.0
  by_boxes before Lent was last taken offered free ring ends = ends
  by_boxes (Husk old) (Husk box) was last taken offered free ring ends = record {
    before = was.before ++ length b.received ∷ [];
    tails = ends ∙ ap (λ l. l ++ length c.received ∷ []) was.tails ∙ append_assoc a.tails (was.before ++ length b.received ∷ []) (length c.received ∷ []);
    many = ap suc (length-append was.before (length b.received ∷ []) ∙ omega (arith, was.many));
  }
  by_boxes (Held old) (Husk box) was last taken offered free ring ends = let more = received_on b c ring in
      absurd (not_passed at (item_of old.value) taken more.0 (offers b (Held old)) free was (sym offered ∙ more.1 ∙ ap (λ l. more.0 ++ l) last))
  by_boxes Lent (Husk box) was last taken offered free ring ends = absurd was

  pub one_look_more : EndsAfter looks at a b d.spare → HoldsTheLast b d.spare → Looks at b d c e → EndsAfter (suc looks) at a c e.spare
  one_look_more was last one = by_boxes d.spare e.spare was last one.taken one.offers one.free one.ring one.ends

-- the first look
pub first_look : (at : PlayPosition) (a b : Receiver Item) (spare : SpareBox) → EndsWith at a b spare → EndsAfter 1 at a b spare
first_look at a b (Husk box) ends = record { before = []; tails = ends; many = refl }
first_look at a b (Held box) ends = ends.0
first_look at a b Lent ends = ends

-- what so many looks come to
pub looked_for : (looks : ℕ) (at : PlayPosition) (a b : Receiver Item) (spare : SpareBox) → HoldsTheLast b spare → EndsAfter looks at a b spare → NotedSoOften looks a b ⊎ IsHeldLast at b
looked_for looks at a b (Husk box) last ends = inl ends
looked_for looks at a b (Held box) last ends = inr (record {
  kind = kind_of box.value.kind;
  rest = map (λ x. x.kind) (offers b (Held box));
  last = ap (map (λ (x : engine.Item). x.kind)) last;
  is_held = ends;
})
looked_for looks at a b Lent last ends = absurd ends

-- ---- all tracks of a process

pub journal_kept : {I W : Type 0} (p q : ProcessState I W) → Keeps p q → q.journal ≡ p.journal
journal_kept {I} {W} p q keeps = ap (λ (s : ProcessState I W). s.journal) keeps.same

module _ {I W : Type 0} (inputs : SourceOutside I) (at : Playing) where
  -- the position is that of the last look
  same_position : (p q : ProcessState I W) (e : Edition) → IsPlaying inputs at p → IsPlaying inputs at q → Keeps p q → position_of q ≡ position_of p
  same_position p q e before after keeps =
      let depth : q.depth ≡ p.depth = ap (λ (s : ProcessState I W). s.depth) keeps.same in
      let journal : q.journal ≡ p.journal = ap (λ (s : ProcessState I W). s.journal) keeps.same in
      let generation : q.generation ≡ p.generation = after.generation ∙ sym before.generation in
      let next : q.next ≡ p.next = after.next ∙ ap (λ g. rolled g (entries_of q)) generation ∙ ap (λ j. rolled p.generation (reverse (seen_entries j.items))) journal ∙ sym before.next in
      ap (λ n. record { depth = n; generation = q.generation; next = q.next }) depth
      ∙ ap (λ n. record { depth = p.depth; generation = n; next = q.next }) generation
      ∙ ap (λ n. record { depth = p.depth; generation = p.generation; next = n }) next

  -- rings go on through one look
  pub rings_on : (o p q : ProcessState I W) (e : Edition) → IsPlaying inputs at q → length p.ends.plays.items ≡ length o.ends.plays.items → AllGoOn o.ends.plays.items p.ends.plays.items → LooksAtAll e p q →
      AllGoOn o.ends.plays.items q.ends.plays.items
  rings_on o p q e playing many was all t a c ha hc =
      let lt = slice_get_within o.ends.plays.items t a ha in
      let b = item_at p.ends.plays.items t (omega (arith, lt, many)) in
      let k = item_at q.playbacks t (omega (arith, lt, many, all.many, playing.plays, playing.playbacks)) in
      let one = (all.looks t b.0 k.0 (omega (arith, lt, many))).ring in
      goes_on_out_trans a b.0 c (was t a b.0 ha b.1) (subst (GoesOnOut b.0) (get_or_from_slice_get q.ends.plays.items t c b.0 hc)
      (subst (λ r. GoesOnOut r (slice_index_or q.ends.plays.items t b.0)) (get_or_from_slice_get p.ends.plays.items t b.0 b.0 b.1) one))

  pub rings_first : (o : ProcessState I W) → AllGoOn o.ends.plays.items o.ends.plays.items
  rings_first o t a b ha hb = subst (GoesOnOut a) (same_Some a b (sym ha ∙ hb)) (goes_on_out_refl a)

  -- the first look of all tracks
  pub all_first : (p q : ProcessState I W) (e : Edition) → LooksAtAll e p q → AllEndAfter 1 p q
  all_first p q e all t x y lt = first_look (position_of q) (slice_index_or p.ends.plays.items t x) (slice_index_or q.ends.plays.items t x) (slice_index_or q.playbacks t y).spare (all.looks t x y lt).ends

  -- and one more, in the same edition
  pub all_more : (looks : ℕ) (o p q : ProcessState I W) (e : Edition) → IsPlaying inputs at p → IsPlaying inputs at q → Keeps p q → length p.ends.plays.items ≡ length o.ends.plays.items →
      AllEndAfter looks o p → LooksAtAll e p q → AllEndAfter (suc looks) o q
  all_more looks o p q e before after keeps many was all t x y lt =
      let near : t < length at.session.tracks.items = omega (arith, lt, many, before.plays) in
      let played = before.played t x y near in
      let same = same_position p q e before after keeps in
      let P : PlayPosition → Type 0 = λ z. EndsAfter looks z (slice_index_or o.ends.plays.items t x) (slice_index_or p.ends.plays.items t x) (slice_index_or p.playbacks t y).spare in
      one_look_more (position_of q) (slice_index_or o.ends.plays.items t x) (slice_index_or p.ends.plays.items t x) (slice_index_or q.ends.plays.items t x) (slice_index_or p.playbacks t y)
      (slice_index_or q.playbacks t y) looks (subst P (sym same) (was t x y lt)) played.last (all.looks t x y (omega (arith, lt, many)))

  -- what so many come to
  pub all_looked_for : (looks : ℕ) (o q : ProcessState I W) → IsPlaying inputs at q → length q.ends.plays.items ≡ length o.ends.plays.items → AllEndAfter looks o q →
      AllLookedFor looks (position_of q) o.ends.plays.items q.ends.plays.items
  all_looked_for looks o q playing many ends t a b ha hb =
      let lt = slice_get_within o.ends.plays.items t a ha in
      let k = item_at q.playbacks t (omega (arith, lt, many, playing.plays, playing.playbacks)) in
      let played = playing.played t b k.0 (omega (arith, lt, many, playing.plays)) in
      let one = looked_for looks (position_of q) (slice_index_or o.ends.plays.items t b) (slice_index_or q.ends.plays.items t b) (slice_index_or q.playbacks t k.0).spare played.last (ends t b k.0 lt) in
      subst (λ r. NotedSoOften looks r b ⊎ IsHeldLast (position_of q) b) (get_or_from_slice_get o.ends.plays.items t a b ha)
      (subst (λ r. NotedSoOften looks (slice_index_or o.ends.plays.items t b) r ⊎ IsHeldLast (position_of q) r) (get_or_from_slice_get q.ends.plays.items t b b hb) one)

  -- where the look says so each track has its piece
  pub ready_by : (rolls : Bool) (p q : ProcessState I W) (look : Look) → LookAnswers rolls p look q → look ≡ Ready → rolls ≡ true → AllThere (position_of q) q.ends.plays.items
  ready_by rolls p q Ready answer is = answer
  ready_by rolls p q Short answer is = absurd (short_isnt_ready is)
    where
      short_isnt_ready : Short ≡ Ready → ⊥
      short_isnt_ready e = cc

  -- one look more in the same edition
  pub may_look_again : (p : ProcessState I W) (e : Edition) → IsEditionOf at.session e → IsPlaying inputs (entered e.edits at) p → MayLook inputs (entered e.edits at) p e
  may_look_again p e of playing = record { playing = playing; edition = of; more = prefix_refl e.edits }
