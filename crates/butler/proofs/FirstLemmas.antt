-- A butler that sent and flushed nothing yet serves its session.
use Rattle.std.proofs.Common.{◌≡◌, ℕ, zero, suc, ◌*◌, ◌<◌, List, [], ◌∷◌, ◌++◌, length, replicate, refl, ap, ap₂, ◌∙◌, subst, arith, inl, inr, true≢false, sym}
use Rattle.std.proofs.Math.Path.{fun_ext}
use Rattle.std.proofs.lemmas.List.{get_or-replicate, length-replicate}
use Rattle.std.specs.Prelude.{Option, Box, false, reverse, map, slice_get, slice_index_or, Some, None, IsSomeAnd, All, codes}
use Rattle.std.specs.List.{range_with_len}
use Rattle.std.specs.Option.{option_map_or}
use Rattle.std.specs.Global.{Global}
use Rattle.std.proofs.lemmas.Option.{slice_get_within, slice_get_cases}
use Rattle.ses_io.specs.Files.{Files, HasNameUnder}
use Rattle.session_model.specs.declared.session.Session.{Session}
use Rattle.session_model.specs.declared.route.Route.{Route}
use Rattle.session_model.specs.Valid.{IsValid}
use Rattle.session_model.specs.Formed.{channels_at}
use Rattle.engine_model.specs.Due.{Ack}
use Rattle.engine_model.specs.Fixed.{Fixed, FixedRoute, fixed_of}
use Rattle.engine_model.specs.Takes.{route_name}
use Rattle.engine_model.specs.Played.{samples_of, IsGenuine}
use Rattle.engine_laws.proofs.FixedLemmas.{many_tracks, channels_stay, fixed_route}
use Rattle.engine_laws.proofs.PlayedLemmas.{fixed_stands}
use Rattle.edition_log.specs.EditionState.{EditionState as Edition, IsEditionOf}
use Rattle.edition_log.proofs.PlayLaws.{editions_play_their_places}
use Rattle.audio_source.specs.Opened.{OpenedSource}
use Rattle.audio_source.specs.Told.{source_sound}
use Rattle.audio_source.specs.Lines.{IsAsRead}
use Rattle.disk_ring.specs.Receiver.{Receiver}
use Rattle.piece_item.specs.declared.item.Item.{Item}
use Rattle.piece_item.specs.declared.take_block.TakeBlock.{TakeBlock}
use Rattle.piece_item.specs.declared.butler_ends.ButlerEnds.{ButlerEnds}
use Rattle.piece_item.specs.Views.{item_of}
use Rattle.capture_flush.specs.declared.track.TrackTakes.{TrackTakes}
use Rattle.capture_flush.specs.Blocks.{Block, block_of}
use Rattle.capture_flush.specs.Taking.{Taking, IsTakingOf, new_takes, at_first}
use Rattle.capture_flush.specs.Flushed.{IsFlushed}
use Rattle.capture_flush.proofs.FlushLemmas.{nothing_flushed}
use Rattle.read_ahead.specs.declared.progress.SendProgress.{SendProgress}
use Rattle.read_ahead.specs.declared.supply.TrackSupply.{TrackSupply}
use Rattle.read_ahead.specs.Items.{kinds, block_room}
use Rattle.read_ahead.specs.AllServes.{AreFirst}
use Rattle.capture_drain.specs.State.{DrainState, IsFirst}
use Rattle.capture_drain.specs.Files.{blocks_at, tape_of}
use Rattle.butler.specs.Sends.{acks_of}
use Rattle.butler.specs.Table.{IsTable}
use Rattle.butler.specs.ButlerState.{ButlerState}
use Rattle.butler.specs.Begins.{MayBegin}
use Rattle.butler.specs.Serving.{StandsFor, IsServing, AreStocked, IsTrueTo}

-- no acknowledgement was taken
pub new_table : IsTable (replicate 10001 0) []
new_table = record { generations = length-replicate {A = ℕ} 10001 0; each = λ g near. get_or-replicate 10001 g 0 0 (subst (λ n. g < n) (length-replicate {A = ℕ} 10001 0) near) }

pub few_tracks : (s : Session) (t : ℕ) → IsValid s → t < length s.tracks.items → t < 32
few_tracks s t valid near = let few = valid.formed.limits.tracks in omega arith

-- ---- an edition is named as its session is

module _ (s z : Session) (same : fixed_of z ≡ fixed_of s) where
  name_stays : (t : ℕ) → route_name z t ≡ route_name s t
  name_stays t = by_fixed z.routes.items t ∙ ap (λ (x : Fixed). option_map_or (λ (q : FixedRoute). q.name) (slice_get x.routes t) []) same ∙ sym (by_fixed s.routes.items t) where
    by_fixed : (qs : List Route) (i : ℕ) → option_map_or (λ (q : Route). q.name) (slice_get qs i) [] ≡ option_map_or (λ (q : FixedRoute). q.name) (slice_get (map fixed_route qs) i) []
    by_fixed [] i = refl
    by_fixed (q ∷ qs) zero = refl
    by_fixed (q ∷ qs) (suc i) = by_fixed qs i

  at_first_stays : (t : ℕ) → at_first z t ≡ at_first s t
  at_first_stays t = λ i. record { name = name_stays t i; channels = channels_stay s z same t i; last = None }

  pub new_takes_stay : new_takes z ≡ new_takes s
  new_takes_stay = λ i. record {
    takes = (same i).takes;
    rate = (same i).rate;
    bits = (same i).bits;
    block = (same i).block;
    tracks = ap₂ (λ (f : ℕ → TrackTakes) (n : ℕ). map f (range_with_len 0 n)) (fun_ext at_first_stays) (many_tracks s z same) i;
    failed = [];
  }

  pub taking_stays : (f : Taking) → IsValid s → IsTakingOf z f → IsTakingOf s f
  taking_stays f valid is = record {
    valid = valid;
    takes = is.takes ∙ ap (λ (x : Fixed). x.takes) same;
    rate = is.rate ∙ ap (λ (x : Fixed). x.rate) same;
    bits = is.bits ∙ ap (λ (x : Fixed). x.bits) same;
    block = is.block ∙ ap (λ (x : Fixed). x.block) same;
    many = is.many ∙ many_tracks s z same;
    tracks = λ t k hk. let was = is.tracks t k hk in record { name = was.name ∙ name_stays t; named = was.named; channels = was.channels ∙ channels_stay s z same t };
  }

-- ---- nothing was received

pub no_blocks : (rings : List (Receiver TakeBlock)) → ((t : ℕ) (r : Receiver TakeBlock) → slice_get rings t ≡ Some r → r.received ≡ []) → (λ (t : ℕ). []) ≡ blocks_at rings
no_blocks rings none = fun_ext at where
  F : Option (Receiver TakeBlock) → List Block
  F r = option_map_or (λ r. map block_of r.received) r []

  at : (t : ℕ) → [] ≡ blocks_at rings t
  at t = sym (elim (slice_get_cases rings t).1 [
    | inl found ↦ ap F found.2 ∙ ap (map block_of) (none t found.0 found.2)
    | inr past ↦ ap F past.1
  ])

none_all : {X : Type 0} (P : X → Type 0) → All P []
none_all P k d near = absurd (omega arith)

abbrev pub first : Edition → ℕ → SendProgress
first e t = record { generation = e.transport.generation; touched = slice_index_or e.touched t 0; fresh = 0; far = 0; mark = 0 }

stands_first : (s : Session) (e : Edition) (is : IsEditionOf s e) (cycles t : ℕ) (acks : List Ack) → t < 32 → StandsFor s e.edits cycles t acks (first e t) []
stands_first s e is cycles t acks near = record {
  kept = record { entered = omega arith; in_order = refl; from = refl };
  generation_is = (editions_play_their_places s e is).counted;
  touched_is = is.touched t near;
  mark_is = refl;
  base = 0;
  tracked = record {
    below = λ r a. absurd (grind (arith, a));
    whole = λ r x y. absurd (omega arith);
    last = λ x. absurd (omega arith);
    bounded = omega arith;
    stale = λ r a l. absurd (omega arith);
    new = λ r a l. absurd (grind (arith, a));
  };
  passed = omega arith;
  near = omega arith;
}

module _ (s : Session) (e : Edition) (sources : List OpenedSource) (cycles : ℕ) (ends : ButlerEnds) (may : MayBegin s e sources cycles ends) where
  fixed : fixed_of e.session ≡ fixed_of s
  fixed = ap (λ x. fixed_of x.session) may.edition_of.state ∙ fixed_stands s e.edits (length e.edits)

  rooms : (t : ℕ) → block_room e t ≡ s.block * channels_at s t
  rooms t = ap₂ (λ (n m : ℕ). n * m) (ap (λ (x : Fixed). x.block) fixed) (channels_stay s e.session fixed t)

  -- it fits its rings
  pub first_stocked : (ps : List TrackSupply) (drain : DrainState) → AreFirst e ps → IsFirst e.session drain → AreStocked ps drain ends
  first_stocked ps drain firsts begins = let sized = many_tracks s e.session fixed in record {
    many = firsts.many ∙ sized ∙ sym may.tracks;
    each = λ t p d hp hd. record {
      spare = subst (λ (n : ℕ). IsSomeAnd p.spare (λ (b : Box Item Global). length b.value.samples.items ≡ n)) (rooms t ∙ sym (may.each t d hd).wide) (firsts.each t p hp).1;
    };
    takes = record {
      many = begins.many ∙ sized ∙ sym may.captures;
      each = λ t k r hk hr. let new = may.each_capture t r hr in record {
        husk = subst (λ (n : ℕ). IsSomeAnd k.husk (λ (b : Box TakeBlock Global). length b.value.samples.items ≡ n)) (rooms t ∙ sym new.wide) (begins.each t k hk).0;
        ended = (begins.each t k hk).1 ∙ sym new.not_ended;
      };
    };
  }

  module _ {V : Type 0} (media : V) (ps : List TrackSupply) (drain : DrainState) (firsts : AreFirst e ps) where
    abbrev pub begun : ButlerState V
    begun = record {
      media = media;
      sources = record { opened = sources; held = [] };
      room = e.session.block;
      cycles = cycles;
      ends = ends;
      supplies = ps;
      drain = drain;
      nexts = replicate 10001 0;
      entered = length e.edits;
      hushed = false;
      write_failed = false;
    }

    pub first_serving : IsTakingOf e.session drain.files → IsServing s e.edits begun
    first_serving taking = record {
      valid = may.valid;
      entered = refl;
      sends = may.tracks;
      takes = may.captures;
      supplies = firsts.many ∙ many_tracks s e.session fixed;
      sources = may.sources_of;
      room = ap (λ (x : Fixed). x.block) fixed;
      some_cycle = may.some_cycle;
      cycles = may.near;
      acks_room = may.acks_room;
      table = subst (λ acks. IsTable (replicate 10001 0) acks) (sym (ap acks_of may.none_received)) new_table;
      tracks = λ t p d hp hd. let new = may.each t d hd in let low : t < length s.tracks.items = (let near = slice_get_within ends.sends.items t d hd in let n = may.tracks in omega arith) in record {
        depth = new.deep;
        room = new.wide;
        closed = new.not_closed;
        stands = subst (λ (a : SendProgress). StandsFor s e.edits cycles t (acks_of ends.acks.received) a (reverse (kinds d.sent))) (sym (firsts.each t p hp).0)
            (subst (λ (items : List Item). StandsFor s e.edits cycles t (acks_of ends.acks.received) (first e t) (reverse (kinds items))) (sym new.nothing_sent)
            (stands_first s e may.edition_of cycles t (acks_of ends.acks.received) (few_tracks s t may.valid low)));
        made = λ item has. absurd (true≢false (sym has.made ∙ (firsts.each t p hp).2));
      };
      taking = taking_stays s e.session fixed drain.files may.valid taking;
    }

    pub first_true : (files : Files) → IsTrueTo files s e.edits begun
    first_true files = record {
      lines = none_all (IsAsRead files sources);
      sent = λ t d hd. subst (All (λ (item : Item). IsGenuine s e.edits (samples_of (source_sound files sources) s e.edits) (item_of item))) (sym (may.each t d hd).nothing_sent)
          (none_all (λ (item : Item). IsGenuine s e.edits (samples_of (source_sound files sources) s e.edits) (item_of item)));
      made = λ t p item hp has. absurd (true≢false (sym has.made ∙ (firsts.each t p hp).2));
    }

  pub first_flushed : (drain : DrainState) → IsFirst e.session drain → (held : Files) → ¬ (HasNameUnder held (s.takes ++ codes "-")) →
      IsFlushed (tape_of (record { session = s; held = held }) ends.takes.items) drain.files held
  first_flushed drain begins held fresh = subst (λ (f : Taking). IsFlushed (tape_of (record { session = s; held = held }) ends.takes.items) f held) (sym (begins.files ∙ new_takes_stay s e.session fixed))
      (subst (λ (blocks : ℕ → List Block). IsFlushed (record { session = s; held = held; blocks = blocks }) (new_takes s) held) (no_blocks ends.takes.items (λ t r hr. (may.each_capture t r hr).none_received))
      (nothing_flushed s held may.valid fresh))
