-- The sending part of a turn, for a butler that entered the edition: what is due is sent, or a read fails and every ring is closed.
use Rattle.std.proofs.Common.{◌≡◌, ℕ, ◌+◌, ◌<◌, ◌≤◌, List, length, get_or, refl, sym, ap, ◌∙◌, subst, arith, true, false, inl, inr, true≢false}
use Rattle.std.specs.Prelude.{Bool, if◌then◌else◌, is_err, reverse, slice_get, Some, Ok, Err, Result, All}
use Rattle.std.proofs.lemmas.List.Elements.{All-append}
use Rattle.std.proofs.lemmas.Option.{slice_get-get_or, slice_get_within, slice_get_cases, same_Some}
use Rattle.sound_model.specs.Regions.{Sounds}
use Rattle.ses_io.specs.Files.{Files}
use Rattle.ses_io.specs.FixedList.{Listed}
use Rattle.ses_io.specs.Outside.{MediaOutside}
use Rattle.session_model.specs.declared.session.Session.{Session}
use Rattle.session_model.specs.declared.edit.Edit.{Edit}
use Rattle.engine_model.specs.Due.{Ack}
use Rattle.engine_model.specs.Played.{samples_of, IsGenuine}
use Rattle.edition_log.specs.EditionState.{EditionState as Edition, IsEditionState, IsEditionOf}
use Rattle.audio_source.specs.Opened.{OpenedSource, IsListed}
use Rattle.audio_source.specs.Told.{source_sound}
use Rattle.audio_source.specs.Lines.{SourcesState}
use Rattle.audio_source.specs.declared.refusal.ReadFault.{ReadFault}
use Rattle.track_render.specs.Reading.{IsReadOn}
use Rattle.disk_ring.specs.Sender.{Sender}
use Rattle.piece_item.specs.declared.item.Item.{Item}
use Rattle.piece_item.specs.Views.{kind_of, item_of}
use Rattle.read_ahead.specs.declared.supply.TrackSupply.{TrackSupply}
use Rattle.read_ahead.specs.SendProgress.{needs_of, target_of}
use Rattle.read_ahead.specs.Items.{kinds, HasMade}
use Rattle.read_ahead.specs.Reader.{IsTold}
use Rattle.read_ahead.specs.Serves.{IsServed, IsAtHand}
use Rattle.read_ahead.proofs.ServeLemmas.{shut_total}
use Rattle.read_ahead.specs.AllServes.{AllServe, HaveServed, HasFailed, AllAtHand, total_sent}
use Rattle.butler.specs.Sends.{acks_of, SendsOf, IsDone}
use Rattle.butler.specs.ButlerState.{ButlerState}
use Rattle.butler.specs.Serving.{IsTended, IsServing, AreGenuine, IsTrueTo, SourcesStand}
use Rattle.butler.specs.Turns.{pass_of, IsAhead}
use Rattle.butler.specs.Steps.{reader_of, sounds_of, SendsOn}
use Rattle.butler.proofs.StandLemmas.{run_stands, due_from}
use Rattle.butler.proofs.GenuineLemmas.{all_genuine, block_genuine, sounds_stand, holds_stand}
use Rattle.butler.proofs.TurnLemmas.{served_at, supply_at, served_stands, tended_after, sends_after, open_after, done_after, shut_tended, shut_sends, no_sends}

-- ---- what it comes to

-- what sending n items leaves
pub record HasSentAll {V : Type 0} (s : Session) (e : Edition) (limit n : ℕ) (b new : ButlerState V) : Type 0 where
  pub few : n ≤ limit
  pub counted : total_sent new.ends.sends.items ≡ total_sent b.ends.sends.items + n
  -- no ring was closed
  pub still_open : (t : ℕ) (d f : Sender Item) → slice_get b.ends.sends.items t ≡ Some d → slice_get new.ends.sends.items t ≡ Some f → f.closed ≡ d.closed
  -- fewer than asked only where each track has all that it can be given
  pub done : n < limit → (t : ℕ) (d f : Sender Item) → slice_get b.ends.sends.items t ≡ Some d → slice_get new.ends.sends.items t ≡ Some f →
      IsDone s e.edits b.cycles t (acks_of b.ends.acks.received) d f
  pub in_order : (u t : ℕ) (c g d f : Sender Item) → u < t → slice_get b.ends.sends.items u ≡ Some c → slice_get new.ends.sends.items u ≡ Some g →
      slice_get b.ends.sends.items t ≡ Some d → slice_get new.ends.sends.items t ≡ Some f → length d.sent < length f.sent → IsDone s e.edits b.cycles u (acks_of b.ends.acks.received) c g
  -- and then what is due of each track is made
  pub ahead : n < limit → b.hushed ≡ false → IsAhead e new

-- every ring is closed
abbrev pub AreClosed : List (Sender Item) → Type 0
AreClosed sends = (t : ℕ) (d : Sender Item) → slice_get sends t ≡ Some d → d.closed ≡ true

-- what a read that failed leaves
pub record HasSentSome {V : Type 0} (s : Session) (e : Edition) (limit : ℕ) (b new : ButlerState V) : Type 0 where
  pub closed : AreClosed new.ends.sends.items
  pub fewer : total_sent new.ends.sends.items < total_sent b.ends.sends.items + limit
  pub in_order : (u t : ℕ) (c g d f : Sender Item) → u < t → slice_get b.ends.sends.items u ≡ Some c → slice_get new.ends.sends.items u ≡ Some g →
      slice_get b.ends.sends.items t ≡ Some d → slice_get new.ends.sends.items t ≡ Some f → length d.sent < length f.sent → IsDone s e.edits b.cycles u (acks_of b.ends.acks.received) c g

abbrev pub AnswersSent : {V : Type 0} → Session → Edition → ℕ → ButlerState V → Result ℕ ReadFault → ButlerState V → Type 0
AnswersSent s e limit b (Ok n) new = HasSentAll s e limit n b new
AnswersSent s e limit b (Err fault) new = HasSentSome s e limit b new

pub record Comes {V : Type 0} (outside : MediaOutside V) (held : Files) (s : Session) (e : Edition) (limit : ℕ) (b : ButlerState V) (result : Result ℕ ReadFault) (new : ButlerState V) : Type 0 where
  pub serving : IsServing s e.edits new
  pub many : length new.ends.sends.items ≡ length b.ends.sends.items
  pub sends : (t : ℕ) (d f : Sender Item) → slice_get b.ends.sends.items t ≡ Some d → slice_get new.ends.sends.items t ≡ Some f →
      SendsOf s e.edits b.cycles t (acks_of b.ends.acks.received) d f
  -- by files whose sources hold what they held
  pub true_to : outside.tells → SourcesStand held (outside.files b.media) b.sources.opened → IsTrueTo held s e.edits b → IsTrueTo held s e.edits new
  pub answer : AnswersSent s e limit b result new
  pub hushed : new.hushed ≡ (if is_err result then true else b.hushed)

-- a track that had all has it once its ring is closed
shut_done : (s : Session) (edits : List Edit) (cycles t : ℕ) (acks : List Ack) (c g f : Sender Item) → f ≡ record g { closed = true } → IsDone s edits cycles t acks c g → IsDone s edits cycles t acks c f
shut_done s edits cycles t acks c g f same done = subst (IsDone s edits cycles t acks c) (sym same) (elim done [
  | inl shut ↦ inl shut
  | inr (inl full) ↦ inr (inl (record { head = full.head; heads = full.heads; full = full.full; rises = full.rises }))
  | inr (inr none) ↦ inr (inr none)
])

-- ---- why

module _ {V : Type 0} (outside : MediaOutside V) (held : Files) (s : Session) (e : Edition) (is : IsEditionOf s e) (seen : IsEditionState e) (limit : ℕ) (b : ButlerState V) (serving : IsServing s e.edits b) where
  abbrev A : List Ack
  A = acks_of b.ends.acks.received

  abbrev Told : Type 0
  Told = IsTold outside (reader_of b)

  -- with another media and other lines
  abbrev Reads : V → SourcesState → Result ℕ ReadFault → Type 0
  Reads m lines result = IsReadOn outside b.media m b.sources lines result

  -- with other supplies and rings too
  abbrev moved_to : V → SourcesState → List TrackSupply → Listed (Sender Item) → Bool → ButlerState V
  moved_to m lines qs list failed = record b { media = m; sources = lines; supplies = qs; ends = record b.ends { sends = list }; hushed = failed }

  still_serving : (m : V) (lines : SourcesState) (qs : List TrackSupply) (list : Listed (Sender Item)) (failed : Bool) → lines.opened ≡ b.sources.opened → length list.items ≡ length b.ends.sends.items → length qs ≡ length b.supplies →
      ((t : ℕ) (q : TrackSupply) (f : Sender Item) → slice_get qs t ≡ Some q → slice_get list.items t ≡ Some f → IsTended s e.edits b.cycles t A failed q f) → IsServing s e.edits (moved_to m lines qs list failed)
  still_serving m lines qs list failed opened many sized tended = record {
    valid = serving.valid;
    entered = serving.entered;
    sends = many ∙ serving.sends;
    takes = serving.takes;
    supplies = sized ∙ serving.supplies;
    sources = subst (λ (os : List OpenedSource). IsListed s.rate s.sources.items os) (sym opened) serving.sources;
    room = serving.room;
    some_cycle = serving.some_cycle;
    cycles = serving.cycles;
    acks_room = serving.acks_room;
    table = serving.table;
    tracks = tended;
    taking = serving.taking;
  }

  supplied : length b.supplies ≡ length b.ends.sends.items
  supplied = serving.supplies ∙ sym serving.sends

  -- by the sounds of the files as they were held
  abbrev H : Sounds
  H = source_sound held b.sources.opened

  told_by : outside.tells → SourcesStand held (outside.files b.media) b.sources.opened → IsTrueTo held s e.edits b → Told
  told_by tells stand true_to = record { tells = tells; lines = holds_stand held (outside.files b.media) b.sources (sym (sounds_stand held (outside.files b.media) b.sources.opened stand)) true_to.lines }

  module _ (qs : List TrackSupply) (fs : List (Sender Item)) (serves : AllServe Told H (pass_of e b) b.supplies b.ends.sends.items qs fs) (told : Told) (true_to : IsTrueTo held s e.edits b) where
    made_after : (t : ℕ) (q : TrackSupply) (item : Item) → slice_get qs t ≡ Some q → HasMade q item → IsGenuine s e.edits (samples_of H s e.edits) (item_of item)
    made_after t q item hq has = let sized = serves.supplies in let ringed = serves.sends in let both = supplied in let near = slice_get_within qs t q hq in elim (slice_get_cases fs t).1 [
      | inl found ↦ (let f = found.0 in let d = get_or b.ends.sends.items t f in let hd = slice_get-get_or b.ends.sends.items t f (omega arith) in
          let at = served_at s e is seen b serving Told H qs fs serves supplied t q d f hq hd found.2 in
          let stands = served_stands s e is b.cycles t A Told H b.hushed at.0 q d f at.1.1 at.1.2 in elim (at.1.2.made item has) [
            | inl had ↦ true_to.made t at.0 item at.1.0 had
            | inr new ↦ block_genuine H s e is b.cycles t A (kind_of item.kind) item.samples.items
                (due_from s e.edits b.cycles t A q.progress (reverse (kinds f.sent)) (kind_of item.kind) stands new.0).1 (new.1 told)
          ])
      | inr past ↦ (let end = past.0 in absurd (omega arith))
    ]

    genuine_after : AreGenuine H s e.edits fs
    genuine_after t f hf = let ringed = serves.sends in let near = slice_get_within fs t f hf in let d = get_or b.ends.sends.items t f in let hd = slice_get-get_or b.ends.sends.items t f (omega arith) in
        let has = supply_at s e is seen b serving Told H qs fs serves supplied t f hf in let at = served_at s e is seen b serving Told H qs fs serves supplied t has.0 d f has.1 hd hf in
        let run = run_stands s e.edits b.cycles t A at.0.progress has.0.progress (reverse (kinds d.sent)) (kinds at.1.2.items) at.1.1.stands at.1.2.run in
        let P : Item → Type 0 = λ item. IsGenuine s e.edits (samples_of H s e.edits) (item_of item) in
        subst (All P) (sym (ap (λ (z : Sender Item). z.sent) at.1.2.ring))
        (All-append P d.sent at.1.2.items (true_to.sent t d hd)
        (all_genuine H s e is b.cycles t A at.0 at.1.2.items (λ item had. true_to.made t at.0 item at.1.0 had) run.2 (at.1.2.blocks told)))

  module _ (m : V) (lines : SourcesState) (result : Result ℕ ReadFault) (read : Reads m lines result) (qs : List TrackSupply) (fs : List (Sender Item))
      (serves : AllServe Told (sounds_of outside b) (pass_of e b) b.supplies b.ends.sends.items qs fs) where
    -- what was made and sent is true to the files as they were held
    true_after : outside.tells → SourcesStand held (outside.files b.media) b.sources.opened → IsTrueTo held s e.edits b → (list : Listed (Sender Item)) (failed : Bool) → AreGenuine H s e.edits list.items → IsTrueTo held s e.edits (moved_to m lines qs list failed)
    true_after tells stand true_to list failed genuine = let same = sounds_stand held (outside.files b.media) b.sources.opened stand in let told = told_by tells stand true_to in
        let by_held = subst (λ (sounds : Sounds). AllServe Told sounds (pass_of e b) b.supplies b.ends.sends.items qs fs) same serves in record {
          lines = holds_stand (outside.files b.media) held lines (subst (λ (os : List OpenedSource). source_sound (outside.files b.media) os ≡ source_sound held os) (sym read.opened) same) (read.holds tells told.lines);
          sent = subst (λ (os : List OpenedSource). AreGenuine (source_sound held os) s e.edits list.items) (sym read.opened) genuine;
          made = subst (λ (os : List OpenedSource). (t : ℕ) (q : TrackSupply) (item : Item) → slice_get qs t ≡ Some q → HasMade q item → IsGenuine s e.edits (samples_of (source_sound held os) s e.edits) (item_of item))
              (sym read.opened) (made_after qs fs by_held told true_to);
        }

    all_genuine_after : outside.tells → SourcesStand held (outside.files b.media) b.sources.opened → IsTrueTo held s e.edits b → AreGenuine H s e.edits fs
    all_genuine_after tells stand true_to = genuine_after qs fs
        (subst (λ (sounds : Sounds). AllServe Told sounds (pass_of e b) b.supplies b.ends.sends.items qs fs) (sounds_stand held (outside.files b.media) b.sources.opened stand) serves)
        (told_by tells stand true_to) true_to

    -- where each track has all, what is due of it is made
    all_ahead : ((t : ℕ) (q : TrackSupply) (d f : Sender Item) → slice_get qs t ≡ Some q → slice_get b.ends.sends.items t ≡ Some d → slice_get fs t ≡ Some f → IsServed (needs_of (target_of (pass_of e b) t)) d q f) →
        AllAtHand (pass_of e b) qs
    all_ahead done t q hq = let sized = serves.supplies in let ringed = serves.sends in let both = supplied in let near = slice_get_within qs t q hq in elim (slice_get_cases fs t).1 [
      | inl found ↦ (let f = found.0 in let d = get_or b.ends.sends.items t f in let hd = slice_get-get_or b.ends.sends.items t f (omega arith) in
          at_hand t q d f (done t q d f hq hd found.2))
      | inr past ↦ (let end = past.0 in absurd (omega arith))
    ] where
      at_hand : (t : ℕ) (q : TrackSupply) (d f : Sender Item) → IsServed (needs_of (target_of (pass_of e b) t)) d q f → IsAtHand (needs_of (target_of (pass_of e b) t)) q
      at_hand t q d f (inl full) = inl full.1
      at_hand t q d f (inr none) = inr none

  comes_moved : (m : V) (lines : SourcesState) (qs : List TrackSupply) (list : Listed (Sender Item)) (n : ℕ) → b.hushed ≡ false → Reads m lines (Ok n) →
      AllServe Told (sounds_of outside b) (pass_of e b) b.supplies b.ends.sends.items qs list.items → HaveServed (pass_of e b) limit b.ends.sends.items qs list.items n →
      Comes outside held s e limit b (Ok n) (moved_to m lines qs list false)
  comes_moved m lines qs list n fine read serves answer = let fs = list.items in let S = sounds_of outside b in record {
    serving = still_serving m lines qs list false read.opened serves.sends serves.supplies (λ t q f hq hf. subst (λ (failed : Bool). IsTended s e.edits b.cycles t A failed q f) fine
        (tended_after s e is seen b serving Told S qs fs serves supplied t q f hq hf));
    many = serves.sends;
    sends = sends_after s e is seen b serving Told S qs fs serves supplied;
    true_to = λ tells stand true_to. true_after m lines (Ok n) read qs fs serves tells stand true_to list false (all_genuine_after m lines (Ok n) read qs fs serves tells stand true_to);
    answer = record {
      few = answer.few;
      counted = answer.counted;
      still_open = open_after s e is seen b serving Told S qs fs serves supplied;
      done = λ h t d f hd hf. done_after s e is seen b serving Told S qs fs serves supplied t d f hd hf (λ q hq. answer.done h t q d f hq hd hf);
      in_order = λ u t c g d f below hc hg hd hf more. done_after s e is seen b serving Told S qs fs serves supplied u c g hc hg (λ q hq. answer.in_order u t q c g d f below hq hc hg hd hf more);
      ahead = λ h well. all_ahead m lines (Ok n) read qs fs serves (answer.done h);
    };
    hushed = sym fine;
  }

  comes_failed : (m : V) (lines : SourcesState) (qs : List TrackSupply) (list : Listed (Sender Item)) (fault : ReadFault) → b.hushed ≡ false → Reads m lines (Err fault) →
      HasFailed Told (sounds_of outside b) (pass_of e b) limit b.supplies b.ends.sends.items qs list.items → Comes outside held s e limit b (Err fault) (moved_to m lines qs list true)
  comes_failed m lines qs list fault fine read has = let fs = has.between in let serves = has.serves in let shut = has.shut in let sized = shut.sends in let S = sounds_of outside b in
      let before = λ (t : ℕ) (f : Sender Item) (hf : slice_get list.items t ≡ Some f). slice_get-get_or fs t f (let near = slice_get_within list.items t f hf in omega arith) in record {
        serving = still_serving m lines qs list true read.opened (shut.sends ∙ serves.sends) serves.supplies (λ t q f hq hf.
            shut_tended s e is b.cycles t A q (get_or fs t f) f (shut.each t (get_or fs t f) f (before t f hf) hf)
            (subst (λ (failed : Bool). IsTended s e.edits b.cycles t A failed q (get_or fs t f)) fine
            (tended_after s e is seen b serving Told S qs fs serves supplied t q (get_or fs t f) hq (before t f hf))));
        many = shut.sends ∙ serves.sends;
        sends = λ t d f hd hf. shut_sends s e is b.cycles t A d (get_or fs t f) f (shut.each t (get_or fs t f) f (before t f hf) hf)
            (sends_after s e is seen b serving Told S qs fs serves supplied t d (get_or fs t f) hd (before t f hf));
        true_to = λ tells stand true_to. true_after m lines (Err fault) read qs fs serves tells stand true_to list true (λ t f hf.
            subst (λ (z : Sender Item). All (λ (item : Item). IsGenuine s e.edits (samples_of H s e.edits) (item_of item)) z.sent)
            (sym (shut.each t (get_or fs t f) f (before t f hf) hf)) (all_genuine_after m lines (Err fault) read qs fs serves tells stand true_to t (get_or fs t f) (before t f hf)));
        answer = record {
          closed = λ t f hf. ap (λ (z : Sender Item). z.closed) (shut.each t (get_or fs t f) f (before t f hf) hf);
          fewer = let few = has.stopped.fewer in let same = shut_total fs list.items shut in omega arith;
          in_order = λ u t c g d f below hc hg hd hf more. let lower = before u g hg in let same = shut.each u (get_or fs u g) g lower hg in
              shut_done s e.edits b.cycles u A c (get_or fs u g) g same
              (done_after s e is seen b serving Told S qs fs serves supplied u c (get_or fs u g) hc lower (λ q hq. has.stopped.in_order u t q c (get_or fs u g) d (get_or fs t f) below hq hc lower hd (before t f hf)
              (let sent = ap (λ (z : Sender Item). length z.sent) (shut.each t (get_or fs t f) f (before t f hf) hf) in omega arith)));
        };
        hushed = refl;
      }

  -- after a fault nothing changes
  comes_quiet : b.hushed ≡ true → Comes outside held s e limit b (Ok 0) b
  comes_quiet failed = let same = λ (t : ℕ) (d f : Sender Item) (hd : slice_get b.ends.sends.items t ≡ Some d) (hf : slice_get b.ends.sends.items t ≡ Some f). same_Some d f (sym hd ∙ hf) in record {
    serving = serving;
    many = refl;
    sends = λ t d f hd hf. subst (SendsOf s e.edits b.cycles t A d) (same t d f hd hf) (no_sends s e is b.cycles t A d);
    true_to = λ tells stand true_to. true_to;
    answer = record {
      few = omega arith;
      counted = omega arith;
      still_open = λ t d f hd hf. ap (λ (z : Sender Item). z.closed) (sym (same t d f hd hf));
      done = λ h t d f hd hf. done_by_fault t d f hd;
      in_order = λ u t c g d f below hc hg hd hf more. done_by_fault u c g hc;
      ahead = λ h fine. absurd (true≢false (sym failed ∙ fine));
    };
    hushed = refl;
  } where
    done_by_fault : (t : ℕ) (d f : Sender Item) → slice_get b.ends.sends.items t ≡ Some d → IsDone s e.edits b.cycles t A d f
    done_by_fault t d f hd = let sized = supplied in let near = slice_get_within b.ends.sends.items t d hd in elim (slice_get_cases b.supplies t).1 [
      | inl found ↦ inl ((serving.tracks t found.0 d found.2 hd).closed ∙ failed)
      | inr past ↦ (let end = past.0 in absurd (omega arith))
    ]

  comes_by : (failed : Bool) (result : Result ℕ ReadFault) (new : ButlerState V) → b.hushed ≡ failed → SendsOn outside e limit b result new → Comes outside held s e limit b result new
  comes_by true result new was goes = let quiet = goes.quiet was in
      subst (λ (z : ButlerState V). Comes outside held s e limit b result z) (sym quiet.0) (subst (λ (r : Result ℕ ReadFault). Comes outside held s e limit b r b) (sym quiet.1) (comes_quiet was))
  comes_by false (Ok n) new was goes = let busy = goes.busy was in
      subst (λ (z : ButlerState V). Comes outside held s e limit b (Ok n) z) (sym (goes.same ∙ ap (moved_to new.media new.sources new.supplies new.ends.sends) busy.1))
      (comes_moved new.media new.sources new.supplies new.ends.sends n was goes.read busy.0.0 busy.0.1)
  comes_by false (Err fault) new was goes = let busy = goes.busy was in
      subst (λ (z : ButlerState V). Comes outside held s e limit b (Err fault) z) (sym (goes.same ∙ ap (moved_to new.media new.sources new.supplies new.ends.sends) busy.1))
      (comes_failed new.media new.sources new.supplies new.ends.sends fault was goes.read busy.0)

  pub comes : (result : Result ℕ ReadFault) (new : ButlerState V) → SendsOn outside e limit b result new → Comes outside held s e limit b result new
  comes result new goes = comes_by b.hushed result new refl goes
