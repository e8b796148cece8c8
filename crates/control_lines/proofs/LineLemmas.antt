-- What is read of control.
use Rattle.std.proofs.Common.{inl, inr, zero-add, ◌≡◌, ℕ, ◌-◌, ◌≤◌, refl, ap, arith, ◌∙◌, sym, subst, List, [], ◌∷◌, ◌++◌, length, take, drop}
use Rattle.std.specs.Prelude.{Bool, true, false, not, ◌&&◌, ◌==◌, Option, Some, None, Result, Ok, Err, OnErr}
use Rattle.std.proofs.lemmas.List.{append_assoc, length-append, take_all, length-take-le, take-append-drop}
use Rattle.ses_io.specs.Outside.{SourceOutside}
use Rattle.edit_script.specs.Reading.{Read, said}
use Rattle.edit_script.specs.declared.command.Command.{Command}
use Rattle.control_lines.specs.Begun.{IsBegun, IsLast, bare, has_no_feed}
use Rattle.control_lines.specs.Lines.{LinesState, allowance, unread, to_come, Takes, TakesByte, TakesLine, TakesAFront, TakesFront, Fetches}

-- A line was begun with these bytes, which were taken, and no read has failed.
pub record IsReading {C : Type 0} (outside : SourceOutside C) (old now : LinesState C) (kept : List ℕ) (many : ℕ) (more : Bool) : Type 0 where
  pub line : List ℕ
  pub no_feed : has_no_feed line ≡ true
  pub takes : Takes outside line old now
  pub begun : IsBegun line kept many more
  pub no_fault : outside.faults now.source ≡ outside.faults old.source

module _ {C : Type 0} (outside : SourceOutside C) where
  -- nothing is to come where nothing is left
  none_to_come : (s : LinesState C) → s.waiting ≡ [] → outside.left s.source ≡ [] → to_come outside s ≡ []
  none_to_come s none ends = ap (λ xs. take (allowance s) (xs ++ outside.left s.source)) none ∙ ap (take (allowance s)) ends ∙ take_all (allowance s) [] (omega arith)

  -- a piece was read into the front of a buffer
  pub fetched : (old : LinesState C) (source : C) (piece : List ℕ) (n : ℕ) → old.waiting ≡ [] → n ≤ old.budget → n ≤ length piece →
      (outside.tells → TakesFront (outside.left old.source) (outside.left source) piece n) →
      Fetches outside old (record { source = source; waiting = take n piece; budget = old.budget - n })
  fetched old source piece n none few within takes = record {
    takes = record {
      allowed = omega (arith, ap length none, many, few);
      next = λ t. ap (λ xs. xs ++ outside.left old.source) none ∙ sym (take-append-drop n (outside.left old.source))
          ∙ ap (λ xs. xs ++ drop n (outside.left old.source)) (sym (takes t).front) ∙ ap (λ xs. take n piece ++ xs) (sym (takes t).rest);
    };
    end = λ empty t. none_to_come old none ((takes t).end (omega (arith, many, ap length empty)));
  }
    where
      many : length (take n piece) ≡ n
      many = length-take-le n piece within

  pub fetched_by : {was old new : LinesState C} → was ≡ old → Fetches outside was new → Fetches outside old new
  fetched_by {new = new} same fetches = subst (λ s. Fetches outside s new) same fetches

  -- ---- taking one after the other

  takes_on : {xs ys : List ℕ} {a b c : LinesState C} → Takes outside xs a b → Takes outside ys b c → Takes outside (xs ++ ys) a c
  takes_on {xs} {ys} {a} {b} {c} one two = record {
    allowed = omega (arith, one.allowed, two.allowed, length-append xs ys);
    next = λ t. one.next t ∙ ap (λ zs. xs ++ zs) (two.next t) ∙ sym (append_assoc xs ys (unread outside c));
  }

  none_more : {xs : List ℕ} {a b c : LinesState C} → Takes outside xs a b → Takes outside [] b c → Takes outside xs a c
  none_more {xs} one two = record { allowed = omega (arith, one.allowed, two.allowed); next = λ t. one.next t ∙ ap (λ zs. xs ++ zs) (two.next t) }

  -- where none was taken the same is to come
  same_to_come : {a b : LinesState C} → Takes outside [] a b → outside.tells → to_come outside a ≡ to_come outside b
  same_to_come {a} {b} none t = ap (λ n. take n (unread outside a)) (none.allowed ∙ zero-add (allowance b)) ∙ ap (take (allowance b)) (none.next t)

  no_feed_both : (xs ys : List ℕ) → has_no_feed xs ≡ true → has_no_feed ys ≡ true → has_no_feed (xs ++ ys) ≡ true
  no_feed_both [] ys one two = two
  no_feed_both (x ∷ xs) ys one two = go (not (x == 10)) one (λ rest. no_feed_both xs ys rest two)
    where
      go : (b : Bool) → (b && has_no_feed xs) ≡ true → (has_no_feed xs ≡ true → has_no_feed (xs ++ ys) ≡ true) → (b && has_no_feed (xs ++ ys)) ≡ true
      go true rest on = on rest
      go false never on = never

  -- a read failed within a line
  pub front_of : {old mid new : LinesState C} {kept : List ℕ} {many : ℕ} {more : Bool} → IsReading outside old mid kept many more → TakesAFront outside mid new → TakesAFront outside old new
  front_of reading front = record {
    line = reading.line ++ front.line;
    no_feed = no_feed_both reading.line front.line reading.no_feed front.no_feed;
    takes = takes_on reading.takes front.takes;
    none = front.none;
  }

  -- its line feed has come
  pub whole_line : {old mid : LinesState C} (new : LinesState C) {kept : List ℕ} {many : ℕ} {more : Bool} (reading : IsReading outside old mid kept many more) (byte : Option ℕ) (b : ℕ) (answer : Read Command) →
      byte ≡ Some b → b ≡ 10 → TakesByte outside mid byte new → answer ≡ said (bare reading.line) → TakesLine outside old (Some answer) new
  whole_line {mid = mid} new reading byte b answer is feed took says = inl record {
    line = reading.line;
    no_feed = reading.no_feed;
    takes = takes_on reading.takes (subst (λ x. TakesByte outside mid (Some x) new) feed (subst (λ x. TakesByte outside mid x new) is took));
    says = says;
  }

  -- the bytes have ended
  last_line : {old mid new : LinesState C} (line : List ℕ) (answer : Option (Read Command)) → has_no_feed line ≡ true → IsLast line answer → Takes outside line old mid → Takes outside [] mid new →
      (outside.tells → to_come outside mid ≡ []) → TakesLine outside old answer new
  last_line {old} {mid} {new} [] answer no_feed is takes none end = subst (λ a. TakesLine outside old a new) (sym is) (none_more takes none, λ t. same_to_come takes t ∙ end t)
  last_line {old} {mid} {new} (b ∷ line) answer no_feed is takes none end = subst (λ a. TakesLine outside old a new) (sym is) (inr record {
    byte = b;
    line = line;
    no_feed = no_feed;
    takes = none_more takes none;
    says = refl;
    last = λ t. sym (same_to_come none t) ∙ end t;
  })

  pub ended_of : {old mid : LinesState C} (new : LinesState C) {kept : List ℕ} {many : ℕ} {more : Bool} (reading : IsReading outside old mid kept many more) (byte : Option ℕ) (answer : Option (Read Command)) →
      byte ≡ None → TakesByte outside mid byte new → IsLast reading.line answer → TakesLine outside old answer new
  ended_of {mid = mid} new reading byte answer none took is = let at_end = subst (λ b. TakesByte outside mid b new) none took in
      last_line reading.line answer reading.no_feed is reading.takes at_end.0 at_end.1

pub after_a_fault : {T E P : Type 0} (r : Result T E) → P → OnErr r P
after_a_fault (Ok x) p = tt
after_a_fault (Err e) p = p
