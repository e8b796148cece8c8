-- Replies that go out one after another.
use Rattle.std.proofs.Common.{◌≡◌, ℕ, ◌+◌, refl, ap, arith, ◌∙◌, sym, subst, List, [], ◌∷◌, ◌++◌, length, take, append_assoc, append-nil, length-append}
use Rattle.std.specs.Prelude.{Bool, true, false}
use Rattle.std.proofs.Math.Seq.{take-append-add}
use Rattle.std.proofs.lemmas.Bool.{true≢false}
use Rattle.std.proofs.lemmas.List.{take_all}
use Rattle.std.proofs.lemmas.Grind.{flat_map-append}
use Rattle.ses_io.specs.Outside.{SinkOutside}
use Rattle.ses_io.specs.Streams.{AppendsSome}
use Rattle.engine_model.specs.Replies.{Reply}
use Rattle.control_desk.specs.Texts.{reply_text, reply_texts}
use Rattle.control_desk.specs.GoesOn.{AddsReplies, HasLastInPart}
use Rattle.control_desk.specs.Steps.{PutsOut}
use Rattle.control_desk.proofs.CountLemmas.{counted_same, counted_fault, counted_on}

-- a list that has all of another behind it has a front of that
all_is_front : (before after piece : List ℕ) → after ≡ before ++ piece → AppendsSome before after piece
all_is_front before after piece is = (
  length piece,
  record {
    within = omega arith;
    held = is ∙ ap (λ xs. before ++ xs) (sym (take_all (length piece) piece (omega arith)));
  },
)

-- behind all of one piece stands a front of the next
front_on : (before mid after x y : List ℕ) → mid ≡ before ++ x → AppendsSome mid after y → AppendsSome before after (x ++ y)
front_on before mid after x y is some = (
  length x + some.0,
  record {
    within = omega (arith, some.1.within, length-append x y);
    held = some.1.held ∙ ap (λ xs. xs ++ take some.0 y) is ∙ append_assoc before x (take some.0 y) ∙ ap (λ xs. before ++ xs) (sym (take-append-add x y some.0));
  },
)

module _ {O : Type 0} (sink : SinkOutside O) where
  -- nothing went out
  pub adds_none : (o : O) (was : Bool) → AddsReplies sink [] o o was was
  adds_none o was = record {
    all = λ t e. sym (append-nil (sink.held o));
    cut = λ fine bad. absurd (true≢false (sym bad ∙ fine));
    counted = counted_same (sink.faults o) (sink.faults o) was refl;
  }

  -- what was written went out
  pub adds_of : (replies : List Reply) (old new : O) (fault : Bool) → PutsOut sink replies old new fault → AddsReplies sink replies old new false fault
  adds_of [] old new fault puts = subst (λ f. AddsReplies sink [] old new false f) (sym puts.1) (subst (λ o. AddsReplies sink [] old o false false) (sym puts.0) (adds_none old false))
  adds_of (reply ∷ []) old new false puts = record {
    all = λ t e. puts.all t;
    cut = λ fine bad. absurd (true≢false (sym bad));
    counted = counted_same (sink.faults old) (sink.faults new) false puts.cause.kept;
  }
  adds_of (reply ∷ []) old new true puts = record {
    all = λ t e. absurd cc;
    cut = λ fine bad. record {
      whole = [];
      last = reply;
      are = refl;
      front = λ t. subst (λ xs. AppendsSome xs (sink.held new) (reply_text reply)) (sym (append-nil (sink.held old)))
          (subst (AppendsSome (sink.held old) (sink.held new)) (append-nil (reply_text reply)) (puts.front t));
    };
    counted = counted_fault (sink.faults old) (sink.faults new) puts.cause.later puts.cause.rose;
  }
  adds_of (reply ∷ another ∷ more) old new fault puts = absurd puts

  pub adds_on : (xs ys : List Reply) (a b c : O) (was mid is : Bool) → AddsReplies sink xs a b was mid → AddsReplies sink ys b c mid is →
      (was ≡ true → mid ≡ true) → (mid ≡ true → (ys ≡ []) × (c ≡ b) × (is ≡ true)) → AddsReplies sink (xs ++ ys) a c was is
  adds_on xs ys a b c was true is one two first over = let o = over refl in
      subst (λ i. AddsReplies sink (xs ++ ys) a c was i) (sym o.2)
      (subst (λ s. AddsReplies sink (xs ++ ys) a s was true) (sym o.1)
      (subst (λ zs. AddsReplies sink zs a b was true) (sym (ap (λ zs. xs ++ zs) o.0 ∙ append-nil xs)) one))
  adds_on xs ys a b c was false is one two first over = record {
    all = λ t e. two.all t e ∙ ap (λ zs. zs ++ reply_texts ys) (one.all t refl) ∙ append_assoc (sink.held a) (reply_texts xs) (reply_texts ys)
        ∙ ap (λ zs. sink.held a ++ zs) (sym (flat_map-append reply_text xs ys));
    cut = λ fine bad. let last = two.cut refl bad in record {
      whole = xs ++ last.whole;
      last = last.last;
      are = ap (λ zs. xs ++ zs) last.are ∙ sym (append_assoc xs last.whole (last.last ∷ []));
      front = λ t. subst (λ zs. AppendsSome zs (sink.held c) (reply_text last.last)) (behind_both t last.whole) (last.front t);
    };
    counted = counted_on (sink.faults a) (sink.faults b) (sink.faults c) was false is one.counted two.counted first (λ e. absurd cc);
  }
    where
      behind_both : sink.tells → (ws : List Reply) → sink.held b ++ reply_texts ws ≡ sink.held a ++ reply_texts (xs ++ ws)
      behind_both t ws = ap (λ zs. zs ++ reply_texts ws) (one.all t refl) ∙ append_assoc (sink.held a) (reply_texts xs) (reply_texts ws)
          ∙ ap (λ zs. sink.held a ++ zs) (sym (flat_map-append reply_text xs ws))

  -- what was cut off is a front of all
  cut_is_front : (replies : List Reply) (old new : O) → HasLastInPart sink replies old new → sink.tells → AppendsSome (sink.held old) (sink.held new) (reply_texts replies)
  cut_is_front replies old new c t = subst (AppendsSome (sink.held old) (sink.held new)) (sym texts)
      (front_on (sink.held old) (sink.held old ++ reply_texts c.whole) (sink.held new) (reply_texts c.whole) (reply_text c.last) refl (c.front t))
    where
      texts : reply_texts replies ≡ reply_texts c.whole ++ reply_text c.last
      texts = ap reply_texts c.are ∙ flat_map-append reply_text c.whole (c.last ∷ []) ∙ ap (λ zs. reply_texts c.whole ++ zs) (append-nil (reply_text c.last))

  -- whatever has failed, a front of all went out
  pub adds_front : (replies : List Reply) (old new : O) (is : Bool) → AddsReplies sink replies old new false is → sink.tells → AppendsSome (sink.held old) (sink.held new) (reply_texts replies)
  adds_front replies old new false adds t = all_is_front (sink.held old) (sink.held new) (reply_texts replies) (adds.all t refl)
  adds_front replies old new true adds t = cut_is_front replies old new (adds.cut refl refl) t
