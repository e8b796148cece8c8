-- What a process keeps of its allowances: before its first entry, after a call that waits for one, and with an entry.
use Rattle.std.proofs.Common.{◌≡◌, ℕ, suc, ◌+◌, ◌≤◌, inl, inr, List, [], ◌∷◌, ◌++◌, length, max, refl, sym, ap, ◌∙◌, subst, arith, length-append}
use Rattle.std.specs.Prelude.{Bool, true, false, ◌&&◌, nat_le, nat_lt, Option, Some, None, take, map}
use Rattle.std.specs.List.{list_all}
use Rattle.std.proofs.lemmas.Bool.{and_from, or_left, or_right, true≢false, le-leb}
use Rattle.std.proofs.lemmas.List.{map-append, take-append-le, take_all, length-map}
use mathlib.Core.List.{IsPrefix}
use Rattle.engine_laws.proofs.ListLemmas.{all_weaken}
use Rattle.engine_model.specs.Journal.{Entry}
use Rattle.engine_model.specs.Waited.{Grant, Grants, allowed, allowing, is_allowed_by, are_allowed_from, given_up, bound_until, times}
use Rattle.disk_ring.specs.Receiver.{GoesOnOut}
use Rattle.cycle_grants.specs.Grants.{grant_of, grants_in, known_of, newest}
use Rattle.cycle_grants.specs.Allowance.{AllowanceState, Awaits}
use Rattle.cycle_grants.specs.Allowed.{AllowancesAreKept, AnEntryFollows, AwaitingKeepsAllowances, KeepsAllowances, MayMake, NoEntryIsAllowedYet}
use Rattle.cycle_grants.proofs.GrantLemmas.{allowed_fewer, times_append, still_allowed, one_more, allowed_later, is_allowed_now, none_before, least_first}

-- ---- the newest edition

pub newest_append : (gs : List Grant) (g : Grant) → newest (gs ++ g ∷ []) ≡ max (newest gs) g.edition
newest_append [] g = grind arith
newest_append (h ∷ gs) g = let rest = newest_append gs g in grind (arith, rest)

-- none is newer
pub none_newer : (gs : List Grant) → list_all (λ g. nat_le g.edition (newest gs)) gs ≡ true
none_newer [] = refl
none_newer (g ∷ gs) = and_from (nat_le g.edition (max g.edition (newest gs))) (list_all (λ h. nat_le h.edition (max g.edition (newest gs))) gs)
    (grind arith)
    (all_weaken (λ h. nat_le h.edition (newest gs)) (λ h. nat_le h.edition (max g.edition (newest gs))) (λ h is. grind (arith, is)) gs (none_newer gs))

-- ---- at first

pub no_entry_is_allowed_yet : NoEntryIsAllowedYet
no_entry_is_allowed_yet patience a waits = record {
  most = 0;
  kept = refl;
  all = λ _. omega arith;
  lost = λ lost. absurd (true≢false (sym waits ∙ lost));
}

-- ---- more grants and more looks

module _ (patience : ℕ) (entries : List Entry) (a b : AllowanceState) (was : KeepsAllowances patience entries a) (ring : GoesOnOut a.from b.from) where
  sent : grants_in a.from ++ map grant_of ring.received.0 ≡ grants_in b.from
  sent = sym (map-append grant_of a.from.received ring.received.0) ∙ ap (map grant_of) ring.received.1

  long : length a.from.received + length ring.received.0 ≡ length b.from.received
  long = sym (length-append a.from.received ring.received.0) ∙ ap length ring.received.1

  -- what was allowed is, up to a bound that was kept
  allowed_on : (most : ℕ) → ((k : ℕ) → k ≤ length entries → k ≤ most → k ≤ was.most) → are_allowed_from (known_of b.from) most 1 entries ≡ true
  allowed_on most within = still_allowed (known_of a.from) (known_of b.from) was.most most (length entries) 1 entries (omega arith)
      (λ k e few bound h. let low = within k few bound in allowed_later (known_of a.from) (known_of b.from) (map grant_of ring.received.0) k e.edition sent (omega (arith, long)) (grind (arith, low, h))) was.kept

  -- it waits as it did
  waits_on : b.waits ≡ a.waits → KeepsAllowances patience entries b
  waits_on same = record {
    most = was.most;
    kept = allowed_on was.most (λ k few bound. bound);
    all = λ w. was.all (sym same ∙ w);
    lost = λ w. let l = was.lost (sym same ∙ w) in record {
      at = l.at;
      few = omega (arith, l.few, long);
      tries = omega (arith, l.tries, times_append l.at a.from.tails ring.tails.0, ap (times l.at) ring.tails.1);
      bound = l.bound ∙ ap allowed (sym (take-append-le l.at (grants_in a.from) (map grant_of ring.received.0) (omega (arith, l.few, length-map a.from.received grant_of))) ∙ ap (take l.at) sent);
      past = l.past;
    };
  }

  -- it waits no longer
  gives_up : a.waits ≡ true → b.waits ≡ false → allowed (grants_in b.from) ≤ length entries → patience ≤ times (length b.from.received) b.from.tails → KeepsAllowances patience entries b
  gives_up waited lost past tries = let every = was.all waited in record {
    most = allowed (grants_in b.from);
    kept = allowed_on (allowed (grants_in b.from)) (λ k few bound. omega (arith, few, every));
    all = λ w. absurd (true≢false (sym w ∙ lost));
    lost = λ w. record {
      at = length b.from.received;
      few = omega arith;
      tries = tries;
      bound = ap allowed (sym (take_all (length b.from.received) (grants_in b.from) (omega (arith, length-map b.from.received grant_of))));
      past = past;
    };
  }

-- ---- a call that waits for an allowance

module _ (patience : ℕ) (entries : List Entry) (a b : AllowanceState) (was : KeepsAllowances patience entries a) (awaits : Awaits patience (length entries) a b) where
  -- by whether it waited, and whether a further cycle is allowed
  by_both : (w f : Bool) → a.waits ≡ w → nat_lt (length entries) (allowed (grants_in b.from)) ≡ f → KeepsAllowances patience entries b × MayMake (length entries) b
  by_both false f w more = (
    waits_on patience entries a b was awaits.ring (awaits.waits ∙ ap (λ z. z && nat_lt (length entries) (allowed (grants_in b.from))) w ∙ sym w),
    inl (awaits.waits ∙ ap (λ z. z && nat_lt (length entries) (allowed (grants_in b.from))) w),
  )
  by_both true true w more = (waits_on patience entries a b was awaits.ring (awaits.waits ∙ ap (λ z. z && nat_lt (length entries) (allowed (grants_in b.from))) w ∙ more ∙ sym w), inr (grind (arith, more)))
  by_both true false w more = let over : b.waits ≡ false = awaits.waits ∙ ap (λ z. z && nat_lt (length entries) (allowed (grants_in b.from))) w ∙ more in
      let tries = awaits.lost w over in (
        gives_up patience entries a b was awaits.ring w over (grind (arith, more))
            (omega (arith, tries, times_append (length b.from.received) a.from.tails awaits.looks, ap (times (length b.from.received)) awaits.noted)),
        inl over,
      )

pub awaiting_keeps_allowances : AwaitingKeepsAllowances
awaiting_keeps_allowances patience entries a b was awaits = by_both patience entries a b was awaits a.waits (nat_lt (length entries) (allowed (grants_in b.from))) refl refl

-- ---- one entry more

module _ (patience : ℕ) (entries : List Entry) (e : Entry) (a : AllowanceState) where
  follows_by : (b : Bool) → a.waits ≡ b → KeepsAllowances patience entries a → MayMake (length entries) a → newest (grants_in a.from) ≤ e.edition → KeepsAllowances patience (entries ++ e ∷ []) a
  follows_by true w was (inl waits) new = absurd (true≢false (sym w ∙ waits))
  follows_by true w was (inr may) new = let all = was.all w in record {
    most = suc (length entries);
    kept = one_more (known_of a.from) (suc (length entries)) 1 (suc (length entries)) entries e (omega arith)
        (still_allowed (known_of a.from) (known_of a.from) was.most (suc (length entries)) (length entries) 1 entries (omega arith)
        (λ k x within bound h. grind (arith, within, h, all)) was.kept)
        (or_right (nat_lt (suc (length entries)) (suc (length entries))) (is_allowed_by (known_of a.from) e.edition (allowing (suc (length entries)) (grants_in a.from)))
        (is_allowed_now (known_of a.from) (suc (length entries)) e.edition (newest (grants_in a.from)) (omega arith) may (omega (arith, length-map a.from.received grant_of)) (none_newer (grants_in a.from)) new));
    all = λ _. omega (arith, length-append entries (e ∷ []));
    lost = λ none. absurd (true≢false (sym w ∙ none));
  }
  follows_by false w was may new = let l = was.lost w in record {
    most = was.most;
    kept = one_more (known_of a.from) was.most 1 (suc (length entries)) entries e (omega arith) was.kept
        (or_left (nat_lt was.most (suc (length entries))) (is_allowed_by (known_of a.from) e.edition (allowing (suc (length entries)) (grants_in a.from))) (let p = l.past in grind (arith, p)));
    all = λ waits. absurd (true≢false (sym waits ∙ w));
    lost = λ none. record { at = l.at; few = l.few; tries = l.tries; bound = l.bound; past = omega (arith, l.past, length-append entries (e ∷ [])) };
  }

pub an_entry_follows : AnEntryFollows
an_entry_follows patience entries e a was may new = follows_by patience entries e a a.waits refl was may new

-- ---- all of it

module _ (patience cycles : ℕ) (entries : List Entry) (a : AllowanceState) (sent : List Grant) (heads : List ℕ) where
  abbrev ring : Grants
  ring = record { sent = sent; received = length a.from.received; tails = a.from.tails; heads = heads }

  -- by whether it waits, and by the least number at which patience was lost
  kept_by : (w : Bool) (o : Option ℕ) → a.waits ≡ w → given_up patience ring ≡ o → KeepsAllowances patience entries a → IsPrefix (grants_in a.from) sent →
      are_allowed_from ring (bound_until cycles ring o) 1 entries ≡ true
  kept_by true o w is was begins = let all = was.all w in still_allowed (known_of a.from) ring was.most (bound_until cycles ring o) (length entries) 1 entries (omega arith)
      (λ k e within bound h. allowed_later (known_of a.from) ring begins.0 k e.edition begins.1 (omega arith) (grind (arith, within, h, all))) was.kept
  kept_by false None w is was begins = let l = was.lost w in
      absurd (true≢false (sym (le-leb patience (times l.at a.from.tails) l.tries) ∙ none_before (λ n. nat_le patience (times n a.from.tails)) 0 (suc (length sent)) l.at is (omega arith)
      (omega (arith, l.few, length-map a.from.received grant_of, sym (length-append (grants_in a.from) begins.0) ∙ ap length begins.1))))
  kept_by false (Some m) w is was begins = let l = was.lost w in
      let long : length a.from.received + length begins.0 ≡ length sent = ap (λ n. n + length begins.0) (sym (length-map a.from.received grant_of)) ∙ sym (length-append (grants_in a.from) begins.0) ∙ ap length begins.1 in
      let first : m ≤ l.at = least_first (λ n. nat_le patience (times n a.from.tails)) 0 (suc (length sent)) l.at m is (omega arith) (omega (arith, l.few, long)) (le-leb patience (times l.at a.from.tails) l.tries) in
      let fewer : allowed (take m sent) ≤ was.most = subst (λ n. allowed (take m sent) ≤ n)
      (ap allowed (ap (take l.at) (sym begins.1) ∙ take-append-le l.at (grants_in a.from) begins.0 (omega (arith, l.few, length-map a.from.received grant_of))) ∙ sym l.bound)
      (allowed_fewer m l.at sent first) in
      still_allowed (known_of a.from) ring was.most (allowed (take m sent)) (length entries) 1 entries (omega arith)
      (λ k e within bound h. allowed_later (known_of a.from) ring begins.0 k e.edition begins.1 (omega arith) (grind (arith, bound, h, fewer))) was.kept

pub allowances_are_kept : AllowancesAreKept
allowances_are_kept patience cycles entries a sent heads was begins = kept_by patience cycles entries a sent heads a.waits (given_up patience (record { sent = sent; received = length a.from.received; tails = a.from.tails; heads = heads })) refl refl was begins
