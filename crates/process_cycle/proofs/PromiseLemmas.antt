-- What a process promises stands while it looks, and with each entry.
use Rattle.std.proofs.Common.{◌≡◌, ℕ, ◌<◌, List, [], ◌∷◌, ◌++◌, length, map, reverse, refl, sym, ap, subst, arith, ◌∙◌, length-append}
use Rattle.std.specs.Prelude.{true, false, ℤ, nat_le, slice_get, slice_index_or, Some}
use Rattle.std.specs.List.{list_all}
use Rattle.std.specs.Option.{option_map}
use Rattle.std.proofs.lemmas.List.{length-map, map-append, reverse-append}
use Rattle.std.proofs.lemmas.Option.{get_or_from_slice_get, same_Some, slice_get-map, slice_get_within}
use mathlib.Core.List.{IsPrefix}
use Rattle.session_model.specs.declared.edit.Edit.{Edit}
use Rattle.session_model.specs.declared.session.Session.{Session}
use Rattle.engine_model.specs.Edits.{generation, has_quit}
use Rattle.engine_model.specs.Editions.{edition}
use Rattle.engine_model.specs.Journal as engine
use Rattle.engine_model.specs.Journal.{Entry, is_rolling, rolled, note_of}
use Rattle.engine_model.specs.Cycle.{entry_of}
use Rattle.engine_model.specs.Items.{Kind}
use Rattle.engine_model.specs.Made.{Receives, fit_takes}
use Rattle.engine_laws.specs.MadeLaws.{LooksStand}
use Rattle.engine_laws.proofs.JournalInvariantLemmas.{get_new}
use Rattle.engine_laws.proofs.LooksLemmas.{looks_stand_while_receiving, looks_stand_while_editing, looks_stand_with_its_entry}
use Rattle.engine_laws.proofs.MadeLemmas.{made_goes_on, made_stays}
use Rattle.engine_laws.proofs.ListLemmas.{item_at}
use Rattle.machine_model.specs.Events as machine
use Rattle.machine_laws.proofs.MadeFacts.{made_low}
use Rattle.disk_ring.specs.Receiver.{Receiver, GoesOnOut}
use Rattle.disk_ring.specs.Sender.{Sender}
use Rattle.piece_item.specs.declared.ack.Ack.{Ack}
use Rattle.piece_item.specs.declared.item.Item.{Item}
use Rattle.piece_item.specs.declared.take_block.TakeBlock.{TakeBlock}
use Rattle.piece_item.specs.Views as views
use Rattle.cycle_journal.specs.declared.note.Take.{Take}
use Rattle.cycle_journal.specs.JournalView.{seen_take}
use Rattle.capture_flush.specs.Blocks as blocks
use Rattle.track_capture.specs.Counted.{HasCaptured}
use Rattle.track_playback.specs.declared.play_position.PlayPosition.{PlayPosition}
use Rattle.track_playback.specs.SpareBoxes.{received_kinds}
use Rattle.process_ends.specs.declared.ends.ProcessEnds.{ProcessEnds}
use Rattle.process_ends.specs.Ends.{block_of, IsNewIn, AreNew}
use Rattle.process_cycle.specs.Told.{IsToldOf}
use Rattle.process_cycle.specs.ProcessState.{Playing, entered}
use Rattle.process_cycle.specs.Promised.{Promises}
use Rattle.process_cycle.specs.Looked.{IsLookedUp}
use Rattle.process_cycle.specs.Cycles.{Acknowledges}
use Rattle.process_cycle.proofs.ToldLemmas.{told_stays, told_more}
use Rattle.process_cycle.proofs.CapturedLemmas.{captured_more}

-- of each track more was received and looked for
pub record GoOn (olds news : List (Receiver Item)) : Type 0 where
  pub many : length news ≡ length olds
  pub each : (t : ℕ) (a b : Receiver Item) → slice_get olds t ≡ Some a → slice_get news t ≡ Some b → GoesOnOut a b

-- where a cycle plays
abbrev pub at_next : Playing → List Entry → PlayPosition
at_next at entries = let g = generation at.edits (length at.edits) in record { depth = at.session.depth; generation = g; next = rolled g entries }

-- what a cycle took of track t of a block of the input with so many channels
pub record TakesOne (at : Playing) (channels : ℕ) (input : List ℤ) (e : Entry) (t : ℕ) (d f : Sender TakeBlock) : Type 0 where
  pub take : Take
  pub noted : seen_take take ≡ (note_of t e).take
  pub captured : HasCaptured at.session t channels input d take f
  pub depth : d.depth ≡ at.session.depth

-- an acknowledgement of the entry was put into a ring of the session's depth, or found it full
pub record TellsOne (at : Playing) (e : Entry) (before : List Entry) (a b : Sender Ack) : Type 0 where
  pub ack : Ack
  pub is : machine.ack_of at.edits (e ∷ before) ≡ Some (views.ack_of ack)
  pub told : Acknowledges ack a b
  pub depth : a.depth ≡ at.session.depth

-- One entry more was made in the edition of all edits, of what was received by then.
pub record MakesOne (at : Playing) (entries : List Entry) (channels : ℕ) (input : List ℤ) (e : Entry) (takes : List engine.Take) (old new : ProcessEnds) : Type 0 where
  pub is : e ≡ entry_of at.session at.edits entries (map received_kinds old.plays.items) takes (length at.edits)
  pub one_each : length takes ≡ length at.session.tracks.items
  pub tracks : length old.plays.items ≡ length at.session.tracks.items
  pub fit : fit_takes (edition at.session at.edits (length at.edits)) (is_rolling e.state) entries 0 takes ≡ true
  pub unended : has_quit at.edits (length at.edits) ≡ false
  pub few : length entries < 100000
  pub looked_up : (t : ℕ) (r : Receiver Item) → slice_get old.plays.items t ≡ Some r → IsLookedUp at.edits (at_next at entries) t (received_kinds r) (reverse r.tails) entries
  pub plays : new.plays ≡ old.plays
  pub rings : length new.takes.items ≡ length old.takes.items
  pub taken : (t : ℕ) (d f : Sender TakeBlock) → slice_get old.takes.items t ≡ Some d → slice_get new.takes.items t ≡ Some f → TakesOne at channels input e t d f
  pub to_butler : TellsOne at e entries old.to_butler new.to_butler
  pub to_control : TellsOne at e entries old.to_control new.to_control

-- ---- lists of ends

-- what was read of a track is of its end
record IsOf (plays : List (Receiver Item)) (t : ℕ) (xs : List Kind) : Type 0 where
  end : Receiver Item
  there : slice_get plays t ≡ Some end
  is : received_kinds end ≡ xs

is_of : (plays : List (Receiver Item)) (t : ℕ) (xs : List Kind) → slice_get (map received_kinds plays) t ≡ Some xs → IsOf plays t xs
is_of plays t xs there =
    let lt = slice_get_within (map received_kinds plays) t xs there in let long = length-map plays received_kinds in let at = item_at plays t (omega (arith, lt, long)) in record {
      end = at.0;
      there = at.1;
      is = same_Some (received_kinds at.0) xs (sym (ap (option_map received_kinds) at.1) ∙ sym (slice_get-map received_kinds plays t) ∙ there);
    }

pub receives : (olds news : List (Receiver Item)) → length news ≡ length olds →
    ((t : ℕ) (a b : Receiver Item) → slice_get olds t ≡ Some a → slice_get news t ≡ Some b → (more : List Kind) × (received_kinds b ≡ more ++ received_kinds a)) →
    Receives (map received_kinds olds) (map received_kinds news)
receives olds news many each = record {
  many = length-map news received_kinds ∙ many ∙ sym (length-map olds received_kinds);
  each = λ t xs ys was now. let a = is_of olds t xs was in let b = is_of news t ys now in let more = each t a.end b.end a.there b.there in
      (more.0, sym b.is ∙ more.1 ∙ ap (λ l. more.0 ++ l) a.is);
}

there_of : (plays : List (Receiver Item)) (t : ℕ) (r : Receiver Item) → slice_get plays t ≡ Some r → slice_get (map received_kinds plays) t ≡ Some (received_kinds r)
there_of plays t r there = slice_get-map received_kinds plays t ∙ ap (option_map received_kinds) there

-- ---- at first

new_in : {T : Type 0} (items samples t : ℕ) (xs : List (Sender T)) (d : Sender T) → slice_get xs t ≡ Some d → IsNewIn items samples (slice_index_or xs t d) → IsNewIn items samples d
new_in items samples t xs d there new = subst (IsNewIn items samples) (get_or_from_slice_get xs t d d there) new

told_first : (edits : List Edit) (depth samples : ℕ) (d : Sender Ack) → IsNewIn depth samples d → IsToldOf edits depth [] d
told_first edits depth samples d new = (ap (λ l. reverse (map views.ack_of l)) new.sent, ap reverse new.heads)

pub promises_first : (at : Playing) (ends : ProcessEnds) → AreNew at.session ends → at.edits ≡ [] → Promises at [] ends
promises_first at ends new none = record {
  made = length-map ends.plays.items received_kinds ∙ new.plays;
  looks = λ t r there. record { missing = refl; looked_for = refl; within = refl };
  captured = λ t d there. let lt = slice_get_within ends.takes.items t d there in
      let one = new_in at.session.depth (block_of at.session t) t ends.takes.items d there (new.each_take t d (omega (arith, lt, new.takes))) in record {
        places = λ input. ap (map (λ b. blocks.place_of (blocks.block_of b))) one.sent;
        heads = one.heads;
        full = refl;
      };
  to_butler = told_first at.edits at.session.depth 0 ends.to_butler new.to_butler;
  to_control = told_first at.edits at.session.depth 0 ends.to_control new.to_control;
}

-- ---- while it looks

more_kinds : (a b : Receiver Item) → GoesOnOut a b → (more : List Kind) × (received_kinds b ≡ more ++ received_kinds a)
more_kinds a b on = let rest = on.received in (
  map (λ x. x.kind) (reverse (map views.item_of rest.0)),
  ap (λ l. map (λ x. x.kind) (reverse (map views.item_of l))) (sym rest.1)
      ∙ ap (λ l. map (λ x. x.kind) (reverse l)) (map-append views.item_of a.received rest.0)
      ∙ ap (map (λ x. x.kind)) (reverse-append (map views.item_of a.received) (map views.item_of rest.0))
      ∙ map-append (λ x. x.kind) (reverse (map views.item_of rest.0)) (reverse (map views.item_of a.received)),
)

more_tails : (a b : Receiver Item) → GoesOnOut a b → (further : List ℕ) × (reverse b.tails ≡ further ++ reverse a.tails)
more_tails a b on = let rest = on.tails in (reverse rest.0, ap reverse (sym rest.1) ∙ reverse-append a.tails rest.0)

looks_on : (edits rest : List Edit) (depth t : ℕ) (entries : List Entry) (a b : Receiver Item) → GoesOnOut a b → list_all (λ e. nat_le e.edition (length edits)) entries ≡ true →
    LooksStand edits depth t (received_kinds a) (reverse a.tails) entries → LooksStand (edits ++ rest) depth t (received_kinds b) (reverse b.tails) entries
looks_on edits rest depth t entries a b on low was = let more = more_kinds a b on in let further = more_tails a b on in
    subst (λ l. LooksStand (edits ++ rest) depth t l (reverse b.tails) entries) (sym more.1)
    (subst (λ l. LooksStand (edits ++ rest) depth t (more.0 ++ received_kinds a) l entries) (sym further.1)
    (looks_stand_while_receiving (edits ++ rest) depth t more.0 (received_kinds a) further.0 (reverse a.tails) entries
    (looks_stand_while_editing edits rest depth t (received_kinds a) (reverse a.tails) entries low was)))

looked_on : (at : Playing) (rest : List Edit) (entries : List Entry) (old new : ProcessEnds) → GoOn old.plays.items new.plays.items →
    new.takes ≡ old.takes → new.to_butler ≡ old.to_butler → new.to_control ≡ old.to_control → Promises at entries old → Promises (entered (at.edits ++ rest) at) entries new
looked_on at rest entries old new on takes to_butler to_control was =
    let edits : List Edit = at.edits in let q : ℕ = length edits in let depth : ℕ = at.session.depth in
    let olds : List (List Kind) = map received_kinds old.plays.items in let news : List (List Kind) = map received_kinds new.plays.items in
    let low = made_low at.session edits q olds entries was.made in let long = length-append edits rest in record {
      made = made_goes_on at.session (edits ++ rest) q (length (edits ++ rest)) olds news entries (omega (arith, long))
          (receives old.plays.items new.plays.items on.many (λ t a b was now. more_kinds a b (on.each t a b was now)))
          (made_stays at.session edits rest q olds entries (omega arith) was.made);
      looks = λ t b there. let a = get_new old.plays.items new.plays.items t b on.many there in
          looks_on edits rest depth t entries a.0 b (on.each t a.0 b a.1 there) low (was.looks t a.0 a.1);
      captured = λ t d there. was.captured t d (sym (ap (λ l. slice_get l.items t) takes) ∙ there);
      to_butler = subst (IsToldOf (edits ++ rest) depth entries) (sym to_butler)
          (told_stays edits rest depth entries (reverse (map views.ack_of old.to_butler.sent)) (reverse old.to_butler.heads) low was.to_butler);
      to_control = subst (IsToldOf (edits ++ rest) depth entries) (sym to_control)
          (told_stays edits rest depth entries (reverse (map views.ack_of old.to_control.sent)) (reverse old.to_control.heads) low was.to_control);
    }

-- in an edition that goes on
pub promises_while_looking : (at : Playing) (edits : List Edit) (entries : List Entry) (old new : ProcessEnds) → IsPrefix at.edits edits → GoOn old.plays.items new.plays.items →
    new.takes ≡ old.takes → new.to_butler ≡ old.to_butler → new.to_control ≡ old.to_control → Promises at entries old → Promises (entered edits at) entries new
promises_while_looking at edits entries old new more on takes to_butler to_control was =
    subst (λ list. Promises (entered list at) entries new) more.1 (looked_on at more.0 entries old new on takes to_butler to_control was)

-- ---- with an entry

more_of_none : (olds news : List (List Kind)) → news ≡ olds → Receives olds news
more_of_none olds news same = record {
  many = ap length same;
  each = λ t xs ys was now. ([], same_Some ys xs (sym now ∙ ap (λ l. slice_get l t) same ∙ was));
}

tells : (at : Playing) (e : Entry) (before : List Entry) (a b : Sender Ack) → length before < 100000 → TellsOne at e before a b →
    IsToldOf at.edits at.session.depth before a → IsToldOf at.edits at.session.depth (e ∷ before) b
tells at e before a b few one was = told_more at.edits at.session.depth e before one.ack a b one.is one.depth few one.told was

pub promises_with_entry : (at : Playing) (entries : List Entry) (channels : ℕ) (input : List ℤ) (e : Entry) (takes : List engine.Take) (old new : ProcessEnds) →
    MakesOne at entries channels input e takes old new → Promises at entries old → Promises at (e ∷ entries) new
promises_with_entry at entries channels input e takes old new made was =
    let s : Session = at.session in let edits : List Edit = at.edits in let r : ℕ = length edits in
    let olds : List (List Kind) = map received_kinds old.plays.items in let many = length-map old.plays.items received_kinds ∙ made.tracks in record {
      made = record {
        entered = r;
        in_time = omega arith;
        unended = made.unended;
        by = olds;
        many = many;
        received = more_of_none olds (map received_kinds new.plays.items) (ap (λ p. map received_kinds p.items) made.plays);
        takes = takes;
        one_each = made.one_each;
        fit = made.fit;
        is = made.is;
        earlier = was.made;
      };
      looks = λ t x there. let here = sym (ap (λ p. slice_get p.items t) made.plays) ∙ there in let up = made.looked_up t x here in
          subst (λ k. LooksStand edits s.depth t (received_kinds x) (reverse x.tails) (k ∷ entries)) (sym made.is)
          (looks_stand_with_its_entry s edits s.depth t r up.before (reverse x.tails) olds (received_kinds x) takes entries
          (there_of old.plays.items t x here) many made.one_each up.over up.was_true);
      captured = λ t f there. let d = get_new old.takes.items new.takes.items t f made.rings there in let one = made.taken t d.0 f d.1 there in
          captured_more s t channels input e entries one.take d.0 f one.noted one.depth made.few one.captured (was.captured t d.0 d.1);
      to_butler = tells at e entries old.to_butler new.to_butler made.few made.to_butler was.to_butler;
      to_control = tells at e entries old.to_control new.to_control made.few made.to_control was.to_control;
    }
