-- How an entry is acknowledged: an acknowledgement is put where its ring has room, and else a full ring is noted.
use Rattle.std.proofs.Common.{◌≡◌, inl, inr, ℕ, ◌+◌, ◌-◌, ◌<◌, ◌≤◌, List, [], ◌∷◌, ◌++◌, length, refl, sym, ap, subst, arith, le_refl, ◌∙◌}
use Rattle.std.specs.Prelude.{◌⊎◌, All, map, reverse, Some}
use Rattle.std.proofs.lemmas.List.Elements.{All-pop, All-push, All-weaker}
use Rattle.std.proofs.lemmas.List.{length-append, length-map, length-reverse, map-append, reverse-append}
use Rattle.session_model.specs.declared.session.Session.{Session}
use Rattle.session_model.specs.declared.edit.Edit.{Edit}
use Rattle.engine_model.specs.Due as due
use Rattle.engine_model.specs.Journal as engine
use Rattle.machine_model.specs.Core.{AckRing, Core}
use Rattle.disk_ring.specs.Sender.{Sender, FoundFull}
use Rattle.piece_item.specs.declared.ack.Ack.{Ack}
use Rattle.piece_item.specs.Views as views
use Rattle.process_cycle.specs.Cycles.{Acknowledges}
use Rattle.process_cycle.specs.Told.{AreTold, IsToldOf}
use Rattle.worker_pair.specs.Tied.{IsUntaken}
use Rattle.worker_pair.proofs.EntryLemmas.{ack_now, acked, acked_full, acked_put}

-- ---- what was told

-- a ring was told no more often than there are entries
few_told : (edits : List Edit) (depth : ℕ) (entries : List engine.Entry) (acks : List due.Ack) (heads : List ℕ) → AreTold edits depth entries acks heads → length acks ≤ length entries
few_told edits depth [] acks heads told = subst (λ l. length l ≤ 0) (sym told.0) (omega arith)
few_told edits depth (e ∷ before) acks heads (inl put) = let few = few_told edits depth before put.earlier heads put.told in let long = ap length put.newest in omega (arith, few, long)
few_told edits depth (e ∷ before) acks heads (inr full) = let few = few_told edits depth before acks full.earlier full.told in omega (arith, few)

-- no more acknowledgements were put than there are entries
pub few_acks : (edits : List Edit) (depth : ℕ) (entries : List engine.Entry) (d : Sender Ack) → IsToldOf edits depth entries d → length d.sent ≤ length entries
few_acks edits depth entries d told = omega (
  arith,
  few_told edits depth entries (reverse (map views.ack_of d.sent)) (reverse d.heads) told,
  length-reverse (map views.ack_of d.sent),
  length-map d.sent views.ack_of,
)

-- what was sent stands newest first
one_more_ack : (sent : List Ack) (ack : Ack) → reverse (map views.ack_of (sent ++ ack ∷ [])) ≡ views.ack_of ack ∷ reverse (map views.ack_of sent)
one_more_ack sent ack = ap reverse (map-append views.ack_of sent (ack ∷ [])) ∙ reverse-append (map views.ack_of sent) (views.ack_of ack ∷ [])

-- an acknowledgement that found room by the number received, and one that found none
pub record WasPut (taken : ℕ) (ack : Ack) (a b : Sender Ack) : Type 0 where
  pub room : length a.sent - taken < a.depth
  pub sent : b.sent ≡ a.sent ++ ack ∷ []

pub record WasDropped (taken : ℕ) (a b : Sender Ack) : Type 0 where
  pub full : a.depth ≤ length a.sent - taken
  pub sent : b.sent ≡ a.sent

-- Where it knew how many were taken, and no more are now, it is one or the other.
pub put_or_dropped : (taken : ℕ) (ack : Ack) (a b : Sender Ack) → a.got ≡ taken → b.got ≤ taken → length a.sent ≤ 100000 → Acknowledges ack a b → WasPut taken ack a b ⊎ WasDropped taken a b
put_or_dropped taken ack a b knew low few (inl put) = let puts = put.1 in inl (record {
  room = room puts.head.rises puts.head.within (λ full. puts.free (inl full));
  sent = ap (λ (d : Sender Ack). d.sent) puts.sent;
})
  where
    room : a.got ≤ b.got → length a.sent ≤ b.got + a.depth → ¬ (length a.sent ≡ b.got + a.depth) → length a.sent - taken < a.depth
    room rises within free = omega (arith, rises, within, free, knew, low)
put_or_dropped taken ack a b knew low few (inr none) = inr (record {
  full = full none.1.head_is.rises (sym (ap (λ (d : Sender Ack). d.got) none.1.heads)) none.1.full;
  sent = ap (λ (d : Sender Ack). d.sent) none.1.heads;
})
  where
    full : a.got ≤ none.0 → none.0 ≡ b.got → FoundFull a none.0 → a.depth ≤ length a.sent - taken
    full rises head (inl e) = omega (arith, rises, head, e, knew, low)
    full rises head (inr e) = absurd (omega (arith, e, few))

-- an acknowledgement leaves the ring, its depth and its room
pub acks_on : (ack : Ack) (a b : Sender Ack) → Acknowledges ack a b → b.ring ≡ a.ring
acks_on ack a b (inl put) = ap (λ (d : Sender Ack). d.ring) put.1.sent
acks_on ack a b (inr none) = ap (λ (d : Sender Ack). d.ring) none.1.heads

-- ---- what control is told, which takes nothing

-- no head that was noted is past the number that the end knows of
pub heads_told : (ack : Ack) (a b : Sender Ack) → Acknowledges ack a b → All (λ h. h ≤ a.got) a.heads → All (λ h. h ≤ b.got) b.heads
heads_told ack a b (inl put) low = let puts = put.1 in subst (λ (hs : List ℕ). All (λ h. h ≤ b.got) hs) (sym (ap (λ (d : Sender Ack). d.heads) puts.sent))
    (All-weaker (λ h. h ≤ a.got) (λ h. h ≤ b.got) (λ h le. up puts.head.rises h le) a.heads low)
  where
    up : a.got ≤ b.got → (h : ℕ) → h ≤ a.got → h ≤ b.got
    up rises h le = omega (arith, rises, le)
heads_told ack a b (inr none) low = subst (λ (d : Sender Ack). All (λ h. h ≤ d.got) d.heads) (sym none.1.heads)
    (All-push (λ h. h ≤ none.0) a.heads none.0 (All-weaker (λ h. h ≤ a.got) (λ h. h ≤ none.0) (λ h le. up none.1.head_is.rises h le) a.heads low) (le_refl none.0))
  where
    up : a.got ≤ none.0 → (h : ℕ) → h ≤ a.got → h ≤ none.0
    up rises h le = omega (arith, rises, le)

-- an acknowledgement to a ring from which nothing is taken: it had room, or it was full
pub record WasUntaken (a b : Sender Ack) (ack : Ack) : Type 0 where
  pub before : IsUntaken a
  pub how : WasPut 0 ack a b ⊎ WasDropped 0 a b

-- where nothing was taken afterwards, nothing was before
pub untaken_before : (ack : Ack) (a b : Sender Ack) → length a.sent ≤ 100000 → Acknowledges ack a b → IsUntaken b → WasUntaken a b ack
untaken_before ack a b few (inl put) now = let puts = put.1 in record {
  before = record {
    heads = subst (λ (hs : List ℕ). All (λ h. h ≡ 0) hs) (ap (λ (d : Sender Ack). d.heads) puts.sent) now.heads;
    room = omega (arith, long (ap (λ (d : Sender Ack). length d.sent) puts.sent) (ap (λ (d : Sender Ack). d.depth) puts.sent));
  };
  how = inl (record { room = long (ap (λ (d : Sender Ack). length d.sent) puts.sent) (ap (λ (d : Sender Ack). d.depth) puts.sent); sent = ap (λ (d : Sender Ack). d.sent) puts.sent });
}
  where
    long : length b.sent ≡ length (a.sent ++ ack ∷ []) → b.depth ≡ a.depth → length a.sent - 0 < a.depth
    long sent deep = omega (arith, sent, deep, now.room, length-append a.sent (ack ∷ []))
untaken_before ack a b few (inr none) now = record {
  before = record { heads = parts.0; room = room none.1.full };
  how = inr (record { full = full none.1.full; sent = ap (λ (d : Sender Ack). d.sent) none.1.heads });
}
  where
    parts : All (λ h. h ≡ 0) a.heads × (none.0 ≡ 0)
    parts = All-pop (λ h. h ≡ 0) (a.heads ++ none.0 ∷ []) a.heads (Some none.0) refl (subst (λ (hs : List ℕ). All (λ h. h ≡ 0) hs) (ap (λ (d : Sender Ack). d.heads) none.1.heads) now.heads)

    room : FoundFull a none.0 → length a.sent ≤ a.depth
    room (inl e) = omega (arith, e, parts.1)
    room (inr e) = absurd (omega (arith, e, few))

    full : FoundFull a none.0 → a.depth ≤ length a.sent - 0
    full (inl e) = omega (arith, e, parts.1)
    full (inr e) = absurd (omega (arith, e, few))

-- ---- in the core machine

-- a ring of the core machine has what the process's has, whether it had room or not
module _ (s : Session) (cycles : ℕ) (c : Core) (e : engine.Entry) (before : List engine.Entry) (entries : c.entries ≡ e ∷ before) (ack : Ack) (is : views.ack_of ack ≡ ack_now c.edits e before) where
  pub sent_acked : (ring : AckRing) (taken : ℕ) (a b : Sender Ack) → ring.sent ≡ reverse (map views.ack_of a.sent) → ring.taken ≡ taken → a.depth ≡ s.depth → WasPut taken ack a b ⊎ WasDropped taken a b →
      (acked s cycles c e before entries ring).sent ≡ reverse (map views.ack_of b.sent)
  sent_acked ring taken a b same taken_is deep (inl put) = ap (λ (x : AckRing). x.sent) (acked_put s cycles c e before entries ring (room put.room))
      ∙ ap (λ z. z ∷ ring.sent) (sym is) ∙ ap (λ l. views.ack_of ack ∷ l) same ∙ sym (one_more_ack a.sent ack) ∙ ap (λ l. reverse (map views.ack_of l)) (sym put.sent)
    where
      room : length a.sent - taken < a.depth → length ring.sent - ring.taken < s.depth
      room has = omega (arith, has, ap length same, length-reverse (map views.ack_of a.sent), length-map a.sent views.ack_of, taken_is, deep)
  sent_acked ring taken a b same taken_is deep (inr dropped) = ap (λ (x : AckRing). x.sent) (acked_full s cycles c e before entries ring (full dropped.full))
      ∙ same ∙ ap (λ l. reverse (map views.ack_of l)) (sym dropped.sent)
    where
      full : a.depth ≤ length a.sent - taken → s.depth ≤ length ring.sent - ring.taken
      full has = omega (arith, has, ap length same, length-reverse (map views.ack_of a.sent), length-map a.sent views.ack_of, taken_is, deep)
