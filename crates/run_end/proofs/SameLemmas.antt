-- Of ends that say the same the same is so: they are as closed, and keep the same promises.
use Rattle.std.proofs.Common.{◌≡◌, ℕ, suc, List, [], ◌∷◌, length, refl, sym, ap, subst, ◌∙◌, arith}
use Rattle.std.specs.Prelude.{map, reverse, slice_get, Some}
use Rattle.std.proofs.lemmas.List.{append-nil}
use Rattle.std.proofs.lemmas.Option.{same_Some}
use Rattle.session_model.specs.declared.session.Session.{Session}
use Rattle.session_model.specs.declared.edit.Edit.{Edit}
use Rattle.engine_model.specs.Journal.{Entry}
use Rattle.engine_model.specs.Made.{AreMade}
use Rattle.engine_model.specs.Takes.{Input}
use Rattle.engine_laws.specs.MadeLaws.{LooksStand}
use Rattle.machine_laws.proofs.Tracks.{also_there}
use Rattle.disk_ring.specs.Sender.{Sender}
use Rattle.disk_ring.specs.Receiver.{Receiver, GoesOnOut}
use Rattle.piece_item.specs.declared.ack.Ack.{Ack}
use Rattle.piece_item.specs.declared.item.Item.{Item}
use Rattle.piece_item.specs.declared.take_block.TakeBlock.{TakeBlock}
use Rattle.piece_item.specs.Views.{ack_of}
use Rattle.capture_flush.specs.Blocks.{block_of, place_of}
use Rattle.track_playback.specs.SpareBoxes.{received_kinds}
use Rattle.process_ends.specs.declared.ends.ProcessEnds.{ProcessEnds}
use Rattle.process_cycle.specs.Captured.{AreOfInput, Hears}
use Rattle.process_cycle.specs.ProcessState.{Playing}
use Rattle.process_cycle.specs.Promised.{Promises}
use Rattle.process_cycle.specs.Told.{AreTold, IsToldOf}
use Rattle.process_cycle.proofs.PromiseLemmas.{GoOn}
use Rattle.run_end.specs.AtRest.{ProcessIsShut, SayTheSame}
use Rattle.run_end.specs.LastTurns.{AreToldMore}

-- ---- ends that say the same

pub same_on : (a b c : ProcessEnds) → SayTheSame a b → SayTheSame b c → SayTheSame a c
same_on a b c one two = record {
  many = two.many ∙ one.many;
  plays = λ t r q here there. let mid = also_there a.plays.items b.plays.items t r (sym one.many) here in
      two.plays t mid.0 q mid.1 there ∙ ap (λ (z : Receiver Item). record z { heard = q.heard; over = q.over }) (one.plays t r mid.0 here mid.1);
  many_takes = two.many_takes ∙ one.many_takes;
  takes = λ t k l here there. let mid = also_there a.takes.items b.takes.items t k (sym one.many_takes) here in
      let was = one.takes t k mid.0 here mid.1 in let now = two.takes t mid.0 l mid.1 there in (now.0 ∙ was.0, now.1 ∙ was.1);
  to_butler = (two.to_butler.0 ∙ one.to_butler.0, two.to_butler.1 ∙ one.to_butler.1);
  to_control = (two.to_control.0 ∙ one.to_control.0, two.to_control.1 ∙ one.to_control.1);
}

-- ends that were told more do
pub told_same : (old new : ProcessEnds) → AreToldMore old new → SayTheSame old new
told_same old new told = record {
  many = told.many;
  plays = told.plays;
  many_takes = told.many_takes;
  takes = λ t k l here there. let is = told.takes t k l here there in (ap (λ (z : Sender TakeBlock). z.sent) is, ap (λ (z : Sender TakeBlock). z.heads) is);
  to_butler = (ap (λ (z : Sender Ack). z.sent) told.to_butler, ap (λ (z : Sender Ack). z.heads) told.to_butler);
  to_control = (ap (λ (z : Sender Ack). z.sent) told.to_control, ap (λ (z : Sender Ack). z.heads) told.to_control);
}

-- and stay closed
pub shut_on : (old new : ProcessEnds) → AreToldMore old new → ProcessIsShut old → ProcessIsShut new
shut_on old new told was = record {
  takes = λ t l there. let k = also_there new.takes.items old.takes.items t l told.many_takes there in
      ap (λ (z : Sender TakeBlock). z.closed) (told.takes t k.0 l k.1 there) ∙ was.takes t k.0 k.1;
  to_control = ap (λ (z : Sender Ack). z.closed) told.to_control ∙ was.to_control;
}

-- ---- the process's promises, over ends that say the same

goes_on_out : (r : Receiver Item) → GoesOnOut r r
goes_on_out r = record {
  ring = refl;
  depth = refl;
  room = refl;
  received = ([], append-nil r.received);
  tails = ([], append-nil r.tails);
  ended = λ e. (e, refl);
  heard = ([], append-nil r.heard);
  over = λ e. (e, refl);
}

pub goes_on_all : (plays : List (Receiver Item)) → GoOn plays plays
goes_on_all plays = record { many = refl; each = λ t a b here there. subst (GoesOnOut a) (same_Some a b (sym here ∙ there)) (goes_on_out a) }

same_kinds : (xs ys : List (Receiver Item)) → length ys ≡ length xs → ((t : ℕ) (r q : Receiver Item) → slice_get xs t ≡ Some r → slice_get ys t ≡ Some q → q ≡ record r { heard = q.heard; over = q.over }) →
    map received_kinds ys ≡ map received_kinds xs
same_kinds [] [] same each = refl
same_kinds [] (y ∷ ys) same each = absurd (omega (arith, same))
same_kinds (x ∷ xs) [] same each = absurd (omega (arith, same))
same_kinds (x ∷ xs) (y ∷ ys) same each = ap (λ k. k ∷ map received_kinds ys) (ap received_kinds (each 0 x y refl refl))
    ∙ ap (λ l. received_kinds x ∷ l) (same_kinds xs ys (omega (arith, same)) (λ t. each (suc t)))

pub promises_still : (at : Playing) (entries : List Entry) (old new : ProcessEnds) → SayTheSame old new → Promises at entries old → Promises at entries new
promises_still at entries old new same was = record {
  made = subst (λ l. AreMade at.session at.edits (length at.edits) l entries) (sym (same_kinds old.plays.items new.plays.items same.many same.plays)) was.made;
  looks = λ t q here. let r = also_there new.plays.items old.plays.items t q same.many here in
      subst (λ (z : Receiver Item). LooksStand at.edits at.session.depth t (received_kinds z) (reverse z.tails) entries) (sym (same.plays t r.0 q r.1 here)) (was.looks t r.0 r.1);
  captured = λ t l here. let k = also_there new.takes.items old.takes.items t l same.many_takes here in let put = same.takes t k.0 l k.1 here in
      let held = was.captured t k.0 k.1 in record { places = λ input. ap (map (λ b. place_of (block_of b))) put.0 ∙ held.places input; heads = put.1 ∙ held.heads; full = held.full };
  to_butler = told at.edits at.session.depth entries old.to_butler new.to_butler same.to_butler was.to_butler;
  to_control = told at.edits at.session.depth entries old.to_control new.to_control same.to_control was.to_control;
}
  where
    told : (edits : List Edit) (depth : ℕ) (entries : List Entry) (a b : Sender Ack) → (b.sent ≡ a.sent) × (b.heads ≡ a.heads) → IsToldOf edits depth entries a → IsToldOf edits depth entries b
    told edits depth entries a b same was = subst (λ l. AreTold edits depth entries (reverse (map ack_of l)) (reverse b.heads)) (sym same.0)
        (subst (λ l. AreTold edits depth entries (reverse (map ack_of a.sent)) (reverse l)) (sym same.1) was)

-- ---- what was heard

-- what was captured is of the input still
pub of_input_still : (input : Input) (s : Session) (entries : List Entry) (old new : ProcessEnds) → SayTheSame old new → AreOfInput input s entries old.takes.items → AreOfInput input s entries new.takes.items
of_input_still input s entries old new same was t l there = let k = also_there new.takes.items old.takes.items t l same.many_takes there in
    ap (map block_of) (same.takes t k.0 l k.1 there).0 ∙ was t k.0 k.1

pub hears_still : (told : Type 0) (sound : Input) (s : Session) (entries : List Entry) (old new : ProcessEnds) → SayTheSame old new → Hears told sound s entries old.takes.items → Hears told sound s entries new.takes.items
hears_still told sound s entries old new same was = record { input = was.input; told_so = was.told_so; of_input = of_input_still was.input s entries old new same was.of_input }
