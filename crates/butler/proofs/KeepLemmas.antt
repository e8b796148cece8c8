-- What an edition of a session says of a track, and a butler that takes acknowledgements, enters an edition and flushes blocks.
use Rattle.std.proofs.Common.{◌≡◌, ◌≢◌, ℕ, ◌*◌, ◌<◌, List, [], ◌∷◌, ◌++◌, length, get_or, sym, ap, ◌∙◌, subst, arith, append-nil, length-append}
use Rattle.std.specs.Prelude.{Option, Box, IsSomeAnd, slice_get, slice_index_or, Some, Result}
use Rattle.std.specs.Global.{Global}
use Rattle.std.proofs.lemmas.Option.{slice_get-get_or, slice_get_within}
use mathlib.Core.List.{IsPrefix}
use mathlib.Core.Logic.{dite}
use native.Mathlib.Decide.{ℕ_discrete}
use Rattle.ses_io.specs.Files.{Files}
use Rattle.ses_io.specs.Outside.{MediaOutside}
use Rattle.session_model.specs.declared.session.Session.{Session}
use Rattle.session_model.specs.declared.edit.Edit.{Edit}
use Rattle.session_model.specs.Formed.{channels_at}
use Rattle.session_model.specs.Valid.{IsValid}
use Rattle.engine_model.specs.Edits.{generation}
use Rattle.engine_model.specs.Due.{Ack, needs, next_block}
use Rattle.engine_model.specs.Fixed.{Fixed, fixed_of}
use Rattle.engine_laws.proofs.FixedLemmas.{many_tracks, channels_stay}
use Rattle.engine_laws.proofs.PlayedLemmas.{fixed_stands}
use Rattle.edition_log.specs.EditionState.{EditionState as Edition, IsEditionOf}
use Rattle.edition_log.proofs.PlayLaws.{editions_play_their_places}
use Rattle.audio_source.specs.Opened.{OpenedSource, IsListed}
use Rattle.disk_ring.specs.Sender.{Sender}
use Rattle.piece_item.specs.declared.item.Item.{Item}
use Rattle.capture_flush.specs.declared.fault.WriteFault.{WriteFault}
use Rattle.read_ahead.specs.declared.supply.TrackSupply.{TrackSupply}
use Rattle.read_ahead.specs.SendProgress.{needs_of, target_of}
use Rattle.read_ahead.specs.Items.{block_room, HasMade}
use Rattle.butler.specs.Sends.{acks_of}
use Rattle.butler.specs.ButlerState.{ButlerState}
use Rattle.butler.specs.Serving.{IsTended, IsServing, IsTrueTo}
use Rattle.butler.specs.Steps.{Accepts, EntersIn, Flushes}
use Rattle.butler.proofs.AcceptLemmas.{tended_later, tended_entered}

-- ---- an edition of the session

module _ (s : Session) (e : Edition) (is : IsEditionOf s e) where
  -- no edit changes what is fixed
  pub fixed_is : fixed_of e.session ≡ fixed_of s
  fixed_is = ap (λ x. fixed_of x.session) is.state ∙ fixed_stands s e.edits (length e.edits)

  pub block_is : e.session.block ≡ s.block
  block_is = ap (λ (x : Fixed). x.block) fixed_is

  pub tracks_are : length e.session.tracks.items ≡ length s.tracks.items
  tracks_are = many_tracks s e.session fixed_is

  pub channels_are : (t : ℕ) → channels_at e.session t ≡ channels_at s t
  channels_are t = channels_stay s e.session fixed_is t

  pub room_is : (t : ℕ) → block_room e t ≡ s.block * channels_at s t
  room_is t = ap (λ n. n * channels_at e.session t) block_is ∙ ap (λ n. s.block * n) (channels_are t)

  pub listed_is : (opened : List OpenedSource) → IsListed s.rate s.sources.items opened → IsListed e.session.rate e.session.sources.items opened
  listed_is opened listed = subst (λ (x : Fixed). IsListed x.rate x.sources opened) (sym fixed_is) listed

  pub generation_is : e.transport.generation ≡ generation e.edits (length e.edits)
  generation_is = (editions_play_their_places s e is).counted

  -- what a pass aims at of a track is what the definitions of the engine need
  pub targets_are : (t next cycles : ℕ) (acks : List Ack) → t < 32 → next ≡ next_block acks (generation e.edits (length e.edits)) →
      needs_of (target_of (record { edition = e; next = next; cycles = cycles }) t) ≡ needs s e.edits cycles t (length e.edits) acks
  targets_are t next cycles acks near next_is = λ i. record {
    track = t;
    edition = length e.edits;
    generation = generation_is i;
    touched = is.touched t near i;
    next = next_is i;
    depth = (fixed_is i).depth;
    cycles = cycles;
  }

pub few_tracks : (s : Session) (t : ℕ) → IsValid s → t < length s.tracks.items → t < 32
few_tracks s t valid near = let few = valid.formed.limits.tracks in omega arith

-- ---- acknowledgements are taken

pub accept_keeps : {V : Type 0} (s : Session) (edits : List Edit) (b c : ButlerState V) → Accepts b c → IsServing s edits b → IsServing s edits c
accept_keeps {V} s edits b c accepts is = let goes = accepts.acks.goes_on in subst (λ (z : ButlerState V). IsServing s edits z) (sym accepts.same) record {
  valid = is.valid;
  entered = is.entered;
  sends = is.sends;
  takes = is.takes;
  supplies = is.supplies;
  sources = is.sources;
  room = is.room;
  some_cycle = is.some_cycle;
  cycles = is.cycles;
  acks_room = goes.room ∙ is.acks_room;
  table = accepts.table is.table;
  tracks = λ t p d hp hd. tended_later s edits b.cycles t b.ends.acks.received c.ends.acks.received b.hushed p d goes.received (is.tracks t p d hp hd);
  taking = is.taking;
}

pub accept_true : {V : Type 0} (files : Files) (s : Session) (edits : List Edit) (b c : ButlerState V) → Accepts b c → IsTrueTo files s edits b → IsTrueTo files s edits c
accept_true {V} files s edits b c accepts is = subst (λ (z : ButlerState V). IsTrueTo files s edits z) (sym accepts.same) record { lines = is.lines; sent = is.sent; made = is.made }

-- ---- an edition is entered

-- a list of edits that grew by none is the same
pub same_edits : (old more edits : List Edit) → old ++ more ≡ edits → length old ≡ length edits → old ≡ edits
same_edits old [] edits grows long = sym (append-nil old) ∙ grows
same_edits old (x ∷ more) edits grows long = absurd (omega (arith, long, ap length grows, length-append old (x ∷ more)))

module _ {V : Type 0} (s : Session) (before : List Edit) (e : Edition) (b c : ButlerState V) (enters : EntersIn e b c) (edition : IsEditionOf s e) (grows : IsPrefix before e.edits) (serving : IsServing s before b) where
  pub entered_many : length c.supplies ≡ length b.supplies
  entered_many = dite (ℕ_discrete b.entered (length e.edits))
      (λ (last : b.entered ≡ length e.edits). ap length (enters.again last))
      (λ (other : b.entered ≢ length e.edits). (enters.anew other).supplies)

  -- what a track had before it entered
  abbrev Was : ℕ → TrackSupply → Type 0
  Was t q = (p : TrackSupply) × (slice_get b.supplies t ≡ Some p)
      × ((d : Sender Item) → slice_get b.ends.sends.items t ≡ Some d → IsTended s e.edits b.cycles t (acks_of b.ends.acks.received) b.hushed q d)
      × ((item : Item) → HasMade q item → HasMade p item)

  pub entered_was : (t : ℕ) (q : TrackSupply) → t < length s.tracks.items → slice_get c.supplies t ≡ Some q → Was t q
  entered_was t q low hq = dite (ℕ_discrete b.entered (length e.edits))
      (λ (last : b.entered ≡ length e.edits).
      let same : before ≡ e.edits = same_edits before grows.0 e.edits grows.1 (sym serving.entered ∙ last) in
      let hp : slice_get b.supplies t ≡ Some q = ap (λ (l : List TrackSupply). slice_get l t) (sym (enters.again last)) ∙ hq in
      (q, hp, (λ d hd. subst (λ (es : List Edit). IsTended s es b.cycles t (acks_of b.ends.acks.received) b.hushed q d) same (serving.tracks t q d hp hd)), λ item has. has))
      (λ (other : b.entered ≢ length e.edits).
      let all = enters.anew other in let sized = all.supplies in let near = slice_get_within c.supplies t q hq in
      let p = get_or b.supplies t q in let hp : slice_get b.supplies t ≡ Some p = slice_get-get_or b.supplies t q (omega arith) in
      let q_is = all.each t p q hp hq in (
        p,
        hp,
        (λ d hd. tended_entered s before grows.0 e.edits b.cycles t (acks_of b.ends.acks.received) b.hushed p q d e.transport.generation (slice_index_or e.touched t 0)
            grows.1 (generation_is s e edition) (edition.touched t (few_tracks s t serving.valid low)) q_is (serving.tracks t p d hp hd)),
        λ item has. was_made p q item (ap (λ (z : TrackSupply). z.made) q_is) (ap (λ (z : TrackSupply). z.spare) q_is) has,
      )) where
        was_made : (p q : TrackSupply) (item : Item) → q.made ≡ p.made → q.spare ≡ p.spare → HasMade q item → HasMade p item
        was_made p q item made spare has = record { made = sym made ∙ has.made; box = subst (λ (o : Option (Box Item Global)). IsSomeAnd o (λ b. b.value ≡ item)) spare has.box }

  pub enter_keeps : IsServing s e.edits c
  enter_keeps = subst (λ (z : ButlerState V). IsServing s e.edits z) (sym enters.same) record {
    valid = serving.valid;
    entered = enters.entered;
    sends = serving.sends;
    takes = serving.takes;
    supplies = entered_many ∙ serving.supplies;
    sources = serving.sources;
    room = serving.room;
    some_cycle = serving.some_cycle;
    cycles = serving.cycles;
    acks_room = serving.acks_room;
    table = serving.table;
    tracks = λ t q d hq hd. let near = slice_get_within b.ends.sends.items t d hd in (entered_was t q (let many = serving.sends in omega arith) hq).2 d hd;
    taking = serving.taking;
  }

-- ---- blocks are flushed

pub flush_keeps : {V : Type 0} (outside : MediaOutside V) (s : Session) (held : Files) (edits : List Edit) (most : ℕ) (b : ButlerState V) (result : Result ℕ WriteFault) (c : ButlerState V) →
    Flushes outside (record { session = s; held = held }) most b result c → IsServing s edits b → IsServing s edits c
flush_keeps {V} outside s held edits most b result c flushes is = subst (λ (z : ButlerState V). IsServing s edits z) (sym flushes.same) record {
  valid = is.valid;
  entered = is.entered;
  sends = is.sends;
  takes = flushes.rings.many ∙ is.takes;
  supplies = is.supplies;
  sources = is.sources;
  room = is.room;
  some_cycle = is.some_cycle;
  cycles = is.cycles;
  acks_room = is.acks_room;
  table = is.table;
  tracks = is.tracks;
  taking = flushes.of;
}

pub flush_true : {V : Type 0} (outside : MediaOutside V) (files : Files) (s : Session) (held : Files) (edits : List Edit) (most : ℕ) (b : ButlerState V) (result : Result ℕ WriteFault) (c : ButlerState V) →
    Flushes outside (record { session = s; held = held }) most b result c → IsTrueTo files s edits b → IsTrueTo files s edits c
flush_true {V} outside files s held edits most b result c flushes is = subst (λ (z : ButlerState V). IsTrueTo files s edits z) (sym flushes.same) record { lines = is.lines; sent = is.sent; made = is.made }
