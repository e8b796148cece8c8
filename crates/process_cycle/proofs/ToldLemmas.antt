-- What a ring of acknowledgements was told of stands when more edits come, and with one entry more.
use Rattle.std.proofs.Common.{◌≡◌, inl, inr, ℕ, suc, ◌+◌, ◌<◌, ◌≤◌, List, [], ◌∷◌, ◌++◌, length, map, reverse, sym, ap, subst, arith, ◌∙◌}
use Rattle.std.specs.Prelude.{true, nat_le, Some}
use Rattle.std.specs.List.{list_all}
use Rattle.std.proofs.lemmas.Bool.{and_parts, leb-true}
use Rattle.std.proofs.lemmas.List.{length-map, length-reverse, map-append, reverse-append}
use Rattle.session_model.specs.declared.edit.Edit.{Edit}
use Rattle.engine_model.specs.Edits.{starts}
use Rattle.engine_model.specs.Journal.{Entry, rolled}
use Rattle.engine_model.specs.Due.{Ack}
use Rattle.engine_laws.proofs.NumberLemmas.{count_stays}
use Rattle.machine_model.specs.Events.{ack_of}
use Rattle.disk_ring.specs.Sender.{Sender, FoundFull}
use Rattle.piece_item.specs.declared.ack.Ack as boxed
use Rattle.piece_item.specs.Views as views
use Rattle.process_cycle.specs.Told.{AreTold, IsToldOf}
use Rattle.process_cycle.specs.Cycles.{Acknowledges}

-- ---- more edits come

ack_stays : (edits rest : List Edit) (e : Entry) (before : List Entry) → e.edition ≤ length edits → ack_of (edits ++ rest) (e ∷ before) ≡ ack_of edits (e ∷ before)
ack_stays edits rest e before low = ap (λ g. Some (record { cycle = suc (length before); generation = g; next = rolled g (e ∷ before); settled = e.settled }))
    (count_stays starts edits rest e.edition low)

pub told_stays : (edits rest : List Edit) (depth : ℕ) (entries : List Entry) (acks : List Ack) (heads : List ℕ) → list_all (λ e. nat_le e.edition (length edits)) entries ≡ true →
    AreTold edits depth entries acks heads → AreTold (edits ++ rest) depth entries acks heads
told_stays edits rest depth [] acks heads all told = told
told_stays edits rest depth (e ∷ before) acks heads all (inl put) =
    let low = and_parts (nat_le e.edition (length edits)) (list_all (λ k. nat_le k.edition (length edits)) before) all in inl (record {
      ack = put.ack;
      earlier = put.earlier;
      newest = put.newest;
      is = ack_stays edits rest e before (leb-true e.edition (length edits) low.0) ∙ put.is;
      told = told_stays edits rest depth before put.earlier heads low.1 put.told;
    })
told_stays edits rest depth (e ∷ before) acks heads all (inr full) =
    let low = and_parts (nat_le e.edition (length edits)) (list_all (λ k. nat_le k.edition (length edits)) before) all in inr (record {
      head = full.head;
      earlier = full.earlier;
      newest = full.newest;
      full = full.full;
      told = told_stays edits rest depth before acks full.earlier low.1 full.told;
    })

-- ---- one entry more

few_told : (edits : List Edit) (depth : ℕ) (entries : List Entry) (acks : List Ack) (heads : List ℕ) → AreTold edits depth entries acks heads → length acks ≤ length entries
few_told edits depth [] acks heads told = subst (λ l. length l ≤ 0) (sym told.0) (omega arith)
few_told edits depth (e ∷ before) acks heads (inl put) = let few = few_told edits depth before put.earlier heads put.told in let long = ap length put.newest in omega (arith, few, long)
few_told edits depth (e ∷ before) acks heads (inr full) = let few = few_told edits depth before acks full.earlier full.told in omega (arith, few)

-- as many acknowledgements as were put
many_acks : (sent : List boxed.Ack) → length (reverse (map views.ack_of sent)) ≡ length sent
many_acks sent = length-reverse (map views.ack_of sent) ∙ length-map sent views.ack_of

one_longer : (sent : List boxed.Ack) (ack : boxed.Ack) → reverse (map views.ack_of (sent ++ ack ∷ [])) ≡ views.ack_of ack ∷ reverse (map views.ack_of sent)
one_longer sent ack = ap reverse (map-append views.ack_of sent (ack ∷ [])) ∙ reverse-append (map views.ack_of sent) (views.ack_of ack ∷ [])

pub told_more : (edits : List Edit) (depth : ℕ) (e : Entry) (before : List Entry) (ack : boxed.Ack) (a b : Sender boxed.Ack) → ack_of edits (e ∷ before) ≡ Some (views.ack_of ack) →
    a.depth ≡ depth → length before < 100000 → Acknowledges ack a b → IsToldOf edits depth before a → IsToldOf edits depth (e ∷ before) b
told_more edits depth e before ack a b is deep few (inl put) was = let puts = put.1 in inl (record {
  ack = views.ack_of ack;
  earlier = reverse (map views.ack_of a.sent);
  newest = ap (λ d. reverse (map views.ack_of d.sent)) puts.sent ∙ one_longer a.sent ack;
  is = is;
  told = subst (λ heads. AreTold edits depth before (reverse (map views.ack_of a.sent)) (reverse heads)) (sym (ap (λ d. d.heads) puts.sent)) was;
})
told_more edits depth e before ack a b is deep few (inr none) was = let head : ℕ = none.0 in let refuses = none.1 in
    let sent = ap (λ d. d.sent) refuses.heads in let low = few_told edits depth before (reverse (map views.ack_of a.sent)) (reverse a.heads) was in let many = many_acks a.sent in
    inr (record {
      head = head;
      earlier = reverse a.heads;
      newest = ap (λ d. reverse d.heads) refuses.heads ∙ reverse-append a.heads (head ∷ []);
      full = ap (λ xs. length (reverse (map views.ack_of xs))) sent ∙ many ∙ by low many refuses.full;
      told = subst (λ xs. AreTold edits depth before (reverse (map views.ack_of xs)) (reverse a.heads)) (sym sent) was;
    })
  where
    by : length (reverse (map views.ack_of a.sent)) ≤ length before → length (reverse (map views.ack_of a.sent)) ≡ length a.sent → FoundFull a none.0 → length a.sent ≡ none.0 + depth
    by low many (inl full) = full ∙ ap (λ n. none.0 + n) deep
    by low many (inr most) = absurd (omega (arith, low, many, most, few))
