-- What stands is what a run promises: a lawful journal, ordered items, true notes, and few items.
use Rattle.std.proofs.Common.{◌≡◌, inl, inr, ℕ, zero, suc, ◌+◌, ◌-◌, ◌*◌, ◌<◌, ◌≤◌, List, [], ◌∷◌, ◌++◌, length, take, refl, sym, ap, subst, arith, ◌∙◌}
use Rattle.std.specs.Prelude.{Bool, true, false, if◌then◌else◌, reverse, map, Some, slice_get, nat_le, Ok, IsOk}
use Rattle.std.proofs.Math.Nat.{mul-le-mul}
use Rattle.std.proofs.lemmas.Bool.{cases_lt, le-leb, eq-eqb, false≢true}
use Rattle.std.proofs.lemmas.List.{take-append-drop, reverse-reverse, reverse-append}
use Rattle.session_model.specs.declared.session.Session.{Session}
use Rattle.session_model.specs.declared.edit.Edit.{Edit}
use Rattle.engine_model.specs.Commands.{change_of}
use Rattle.engine_model.specs.Refusals.{Edits, Limit, ◌>>=◌, refused_if}
use Rattle.engine_model.specs.Editions.{Edition, edition, apply, changed, IsAccepted}
use Rattle.engine_model.specs.Order.{is_ordered_newest}
use Rattle.engine_model.specs.Truth.{is_within}
use Rattle.engine_laws.specs.JournalInvariant.{AreOrdered}
use Rattle.engine_laws.specs.MadeLaws.{LooksStand}
use Rattle.engine_laws.proofs.EditionLemmas.{one_more}
use Rattle.engine_laws.proofs.GrowLemmas.{earlier}
use Rattle.engine_laws.proofs.LooksLemmas.{looks_stand_while_receiving}
use Rattle.engine_laws.proofs.MadeLemmas.{what_is_made_is_lawful}
use Rattle.engine_laws.proofs.TruthfulLemmas.{within_more}
use Rattle.machine_model.specs.Core.{Core, TrackState, received_of}
use Rattle.machine_model.specs.Events.{most_sent}
use Rattle.machine_laws.specs.Stands.{Stands, heads_lost, head_of_take, pending}
use Rattle.machine_laws.specs.MachineLaws.{StandingIsLawful, StandingIsOrdered, StandingIsTruthful, FewAreEverSent, NumbersSuffice, NoneIsSentTwice}
use Rattle.machine_laws.proofs.FewLemmas.{few_sent}
use Rattle.machine_laws.proofs.LossLemmas.{heads_are}
use Rattle.machine_laws.proofs.Tracks.{of_mapped}

-- ---- what was sent and received

-- what was received is the older part of what was sent
sent_is : (x : TrackState) → take (length x.sent - x.received) x.sent ++ received_of x ≡ x.sent
sent_is x = take-append-drop (length x.sent - x.received) x.sent

pub received_ordered : (session : Session) (cycles : ℕ) (c : Core) → Stands session cycles c → AreOrdered session c.edits (map received_of c.tracks)
received_ordered session cycles c s t xs there = let one = of_mapped received_of c.tracks t xs there in let x : TrackState = one.0 in
    subst (λ l. is_ordered_newest session c.edits t l ≡ true) (sym one.2)
    (earlier session c.edits t (take (length x.sent - x.received) x.sent) (received_of x)
    (subst (λ l. is_ordered_newest session c.edits t l ≡ true) (sym (sent_is x)) (s.playback t x one.1).kept.in_order))

pub standing_is_lawful : StandingIsLawful
standing_is_lawful session cycles c s = what_is_made_is_lawful session c.edits c.playing (map received_of c.tracks) c.entries s.playing (received_ordered session cycles c s) s.made

pub standing_is_ordered : StandingIsOrdered
standing_is_ordered session cycles c t x s there = subst (λ l. is_ordered_newest session c.edits t l ≡ true) (sym (reverse-reverse x.sent)) (s.playback t x there).kept.in_order

-- ---- what is noted

within_itself : (xs : List ℕ) → is_within xs xs ≡ true
within_itself [] = refl
within_itself (x ∷ xs) = ap (λ b. if b then is_within xs xs else is_within (x ∷ xs) xs) (eq-eqb x x refl) ∙ within_itself xs

pub standing_is_truthful : StandingIsTruthful
standing_is_truthful session cycles c t x s there = record {
  missing = looks.missing;
  looked_for = looks.looked_for;
  full = (s.captures t x there).full;
  found_full = ap (λ l. is_within l (reverse x.heads)) (heads_are t c.entries) ∙ ap (λ l. is_within (reverse (heads_lost t c.entries)) (reverse l)) (s.captures t x there).heads
      ∙ ap (is_within (reverse (heads_lost t c.entries))) (reverse-append (pending head_of_take x.taking) (heads_lost t c.entries))
      ∙ within_more (reverse (heads_lost t c.entries)) (reverse (heads_lost t c.entries)) (reverse (pending head_of_take x.taking)) (within_itself (reverse (heads_lost t c.entries)));
}
  where
    looks : LooksStand c.edits session.depth t x.sent x.tails c.entries
    looks = subst (λ l. LooksStand c.edits session.depth t l x.tails c.entries) (sent_is x)
        (looks_stand_while_receiving c.edits session.depth t (take (length x.sent - x.received) x.sent) (received_of x) [] x.tails c.entries (s.looks t x there).true_now)

-- ---- how much is sent

pub none_is_sent_twice : NoneIsSentTwice
none_is_sent_twice session cycles c t x s there = (s.playback t x there).once

pub few_are_ever_sent : FewAreEverSent
few_are_ever_sent session cycles c t x s there = few_sent session c.edits cycles t c.entered x.sent (s.playback t x there).kept (s.playback t x there).once

some_edit : (edits : List Edit) (k : ℕ) → k < length edits → (e : Edit) × (slice_get edits k ≡ Some e)
some_edit [] k lt = absurd (omega (arith, lt))
some_edit (e ∷ es) zero lt = (e, refl)
some_edit (e ∷ es) (suc k) lt = some_edit es k (omega (arith, lt))

-- an edition counts its edits
pub counts_edits : (session : Session) (edits : List Edit) (k : ℕ) → IsAccepted session edits → k ≤ length edits → (edition session edits k).number ≡ k
counts_edits session edits zero each le = refl
counts_edits session edits (suc k) each le = let here = some_edit edits k le in
    ap (λ e. e.number) (one_more session edits k here.0 here.1 (each.each k here.0 here.1)).1 ∙ ap suc (counts_edits session edits k each (omega (arith, le)))

not_full : (e : Edition) (edit : Edit) → IsOk (apply e edit) → e.number < 10000
not_full e edit ok = elim (cases_lt e.number 10000) [ inl lt ↦ lt | inr ge ↦ absurd (full (nat_le 10000 e.number) (le-leb 10000 e.number ge) ok) ]
  where
    full : (b : Bool) → b ≡ true → IsOk (refused_if b (Limit Edits) >>= λ room. change_of e.session e.transport.wrap edit >>= λ c. Ok (changed e edit c)) → ⊥
    full true is ok' = false≢true ok'
    full false is ok' = false≢true is

-- no more than 10,000 edits are accepted
pub few_edits : (session : Session) (edits : List Edit) → IsAccepted session edits → length edits ≤ 10000
few_edits session edits each = elim (cases_lt 10000 (length edits)) [
  | inr le ↦ le
  | inl lt ↦ let here = some_edit edits 10000 lt in let low = not_full (edition session edits 10000) here.0 (each.each 10000 here.0 here.1) in
      absurd (omega (arith, low, counts_edits session edits 10000 each (omega (arith, lt))))
]

below_most : (l e b : ℕ) → e ≤ 10000 → b ≤ 100000 → l ≤ (e + 1) * b * (e + 1) + (e + 1) → l < most_sent
below_most l e b le lb few = omega (arith, few, most, le)
  where
    one : e + 1 ≤ 10001
    one = omega (arith, le)

    most : (e + 1) * b * (e + 1) ≤ 10001 * 100000 * 10001
    most = mul-le-mul (mul-le-mul one lb) one

pub numbers_suffice : NumbersSuffice
numbers_suffice session cycles c t x low s there = below_most (length x.sent) (length c.edits) cycles (few_edits session c.edits s.accepted) low (few_are_ever_sent session cycles c t x s there)
