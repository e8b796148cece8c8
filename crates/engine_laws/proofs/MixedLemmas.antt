-- Genuine pieces make the block that an entry stands for, in every edition whose session is valid.
use Rattle.std.proofs.Common.{◌≡◌, mul_comm, ℕ, zero, suc, ◌+◌, ◌-◌, ◌*◌, ◌/◌, ◌%◌, ◌<◌, ◌≤◌, List, [], ◌∷◌, length, map, refl, sym, ap, subst, arith, ◌∙◌}
use Rattle.std.specs.Prelude.{Bool, true, false, ◌&&◌, ◌||◌, ◌==◌, nat_eq, ℤ, pos, if◌then◌else◌, Some, None, slice_get, get_or, All}
use Rattle.std.specs.List.{list_all, range_with_len}
use Rattle.std.proofs.lemmas.Bool.{and_parts, eqb-true, true≢false}
use Rattle.std.proofs.lemmas.Option.{slice_get-map, get_or_from_slice_get}
use Rattle.std.proofs.lemmas.Nat.{mul-add-lt, div-mul-add, mod-mul-add, div_below, mod_below}
use Rattle.std.proofs.lemmas.List.{length-map}
use Rattle.std.specs.Option.{option_map}
use Rattle.std.proofs.lemmas.List.Elements.{All-head, All-tail}
use Rattle.std.proofs.lemmas.List.FromFn.{get_or-map-range_with_len}
use Rattle.sound_laws.specs.Desks.{AgreeOnOwn}
use Rattle.sound_laws.proofs.ChannelLaws.{only_own_channels}
use Rattle.session_model.specs.declared.session.Session.{Session}
use Rattle.session_model.specs.declared.edit.Edit.{Edit}
use Rattle.session_model.specs.Views.{routes_of, route_of, track_number}
use Rattle.session_model.specs.Valid.{IsValid}
use Rattle.session_model.specs.Formed.{channels_at}
use Rattle.session_model.specs.Frames.{interleaved}
use Rattle.engine_model.specs.Transport.{place}
use Rattle.engine_model.specs.Items.{Kind, Item, Piece, Settled, Blank, among, blocks, newest}
use Rattle.engine_model.specs.Journal.{Heard, Short, Take, State, Stopped, Seeking, Rolling, note_at}
use Rattle.engine_model.specs.Cycle.{has_piece, play_of, notes_of, entry_of}
use Rattle.engine_model.specs.Played.{Samples, piece_samples, IsGenuine, IsGenuineAs, heard, block, block_in, master_at, master_channels}
use Rattle.engine_model.specs.Mixed.{is_block, newest_samples, received_sample, mixed_at, mixed_in}
use Rattle.engine_laws.specs.PlayedLaws.{GenuinePiecesMakeTheBlock, is_of, is_of_track, IsOfTrack}
use Rattle.engine_model.specs.Editions.{edition}
use Rattle.engine_laws.proofs.ListLemmas.{item_at}
use Rattle.engine_laws.proofs.FixedLemmas.{many_tracks, many_routes, channels_stay}
use Rattle.engine_laws.proofs.PlayedLemmas.{fixed_stands}
use Rattle.engine_laws.proofs.WideLemmas.{route_seen, channels_seen, leads_wide, track_place}

abbrev kinds_of : List Item → List Kind
kinds_of items = map (λ i. i.kind) items

-- ---- the samples of the newest piece of a block

-- a piece of the block: its samples are the block's, by its playlist edition
newest_by : (session : Session) (edits : List Edit) (samples : Samples) (t g s : ℕ) (kind : Kind) (block : List ℤ) (rest : List Kind) →
    is_of_track t kind ≡ true → IsGenuineAs session edits samples kind block → is_block g s kind ≡ true →
    block ≡ piece_samples session edits samples t g s (newest g s (kind ∷ rest))
newest_by session edits samples t g s (Piece u h r p) block rest named genuine is = let at = and_parts (nat_eq h g) (nat_eq r s) is in
    genuine ∙ ap (λ v. piece_samples session edits samples v h r p) (eqb-true u t named)
    ∙ ap (λ v. piece_samples session edits samples t v r p) (eqb-true h g at.0)
    ∙ ap (λ v. piece_samples session edits samples t g v p) (eqb-true r s at.1)
    ∙ ap (λ b. piece_samples session edits samples t g s (if b then p else newest g s rest)) (sym is)
newest_by session edits samples t g s (Settled k h r) block rest named genuine is = absurd (true≢false (sym is))
newest_by session edits samples t g s Blank block rest named genuine is = absurd (true≢false (sym is))

-- another item says nothing of it
other_by : (g s : ℕ) (kind : Kind) (rest : List Kind) → is_block g s kind ≡ false → newest g s (kind ∷ rest) ≡ newest g s rest
other_by g s (Piece u h r p) rest is = ap (λ b. if b then p else newest g s rest) is
other_by g s (Settled k h r) rest is = refl
other_by g s Blank rest is = refl

passed_by : (b : Bool) (s r : ℕ) (others : List ℕ) → b && (r == s) ≡ false → among s (if b then r ∷ others else others) ≡ among s others
passed_by true s r others e = ap (λ c. c || among s others) e
passed_by false s r others e = refl

other_has : (g s : ℕ) (kind : Kind) (rest : List Kind) → is_block g s kind ≡ false → has_piece g s (kind ∷ rest) ≡ has_piece g s rest
other_has g s (Piece u h r p) rest is = passed_by (h == g) s r (blocks g rest) is
other_has g s (Settled k h r) rest is = refl
other_has g s Blank rest is = refl

found_by : (b : Bool) (s r : ℕ) (others : List ℕ) → b && (r == s) ≡ true → among s (if b then r ∷ others else others) ≡ true
found_by true s r others e = ap (λ c. c || among s others) e
found_by false s r others e = absurd (true≢false (sym e))

here_has : (g s : ℕ) (kind : Kind) (rest : List Kind) → is_block g s kind ≡ true → has_piece g s (kind ∷ rest) ≡ true
here_has g s (Piece u h r p) rest is = found_by (h == g) s r (blocks g rest) is
here_has g s (Settled k h r) rest is = absurd (true≢false (sym is))
here_has g s Blank rest is = absurd (true≢false (sym is))

newest_are : (session : Session) (edits : List Edit) (samples : Samples) (t g s : ℕ) (items : List Item) → list_all (is_of t) items ≡ true → All (IsGenuine session edits samples) items →
    has_piece g s (kinds_of items) ≡ true → newest_samples g s items ≡ piece_samples session edits samples t g s (newest g s (kinds_of items))
newest_are session edits samples t g s [] named genuine has = absurd (true≢false (sym has))
newest_are session edits samples t g s (x ∷ xs) named genuine has = step (is_block g s x.kind) refl
    (newest_are session edits samples t g s xs (and_parts (is_of t x) (list_all (is_of t) xs) named).1 (All-tail (IsGenuine session edits samples) x xs genuine))
  where
    step : (b : Bool) → is_block g s x.kind ≡ b → (has_piece g s (kinds_of xs) ≡ true → newest_samples g s xs ≡ piece_samples session edits samples t g s (newest g s (kinds_of xs))) →
        (if b then x.samples else newest_samples g s xs) ≡ piece_samples session edits samples t g s (newest g s (x.kind ∷ kinds_of xs))
    step true e rest = newest_by session edits samples t g s x.kind x.samples (kinds_of xs) (and_parts (is_of t x) (list_all (is_of t) xs) named).0 (All-head (IsGenuine session edits samples) x xs genuine) e
    step false e rest = rest (sym (other_has g s x.kind (kinds_of xs) e) ∙ has)
        ∙ ap (piece_samples session edits samples t g s) (sym (other_by g s x.kind (kinds_of xs) e))

none_are : (g s : ℕ) (items : List Item) → has_piece g s (kinds_of items) ≡ false → newest_samples g s items ≡ []
none_are g s [] none = refl
none_are g s (x ∷ xs) none = step (is_block g s x.kind) refl (none_are g s xs)
  where
    step : (b : Bool) → is_block g s x.kind ≡ b → (has_piece g s (kinds_of xs) ≡ false → newest_samples g s xs ≡ []) → (if b then x.samples else newest_samples g s xs) ≡ []
    step true e rest = absurd (true≢false (sym (here_has g s x.kind (kinds_of xs) e) ∙ none))
    step false e rest = rest (sym (other_has g s x.kind (kinds_of xs) e) ∙ none)

-- ---- one sample of a track

at_frame : (f : ℕ → ℕ → ℤ) (channels a n i c : ℕ) → i < n → c < channels → get_or (interleaved f channels a (n * channels)) (i * channels + c) (pos 0) ≡ f (a + i) c
at_frame f channels a n i c lt near = let within = mul-add-lt i channels c n lt near in
    get_or-map-range_with_len (λ k. f (a + k / channels) (k % channels)) 0 (n * channels) (i * channels + c) (i * channels + c) (pos 0) (omega (arith, within, mul_comm n channels)) (omega arith)
    ∙ ap (λ k. f (a + k) ((i * channels + c) % channels)) (div-mul-add i channels c near) ∙ ap (λ k. f (a + i) k) (mod-mul-add i channels c near)

sample_heard : (session : Session) (edits : List Edit) (samples : Samples) (t g s i c : ℕ) (items : List Item) → c < channels_at session t → i < session.block →
    list_all (is_of t) items ≡ true → All (IsGenuine session edits samples) items → (b : Bool) → has_piece g s (kinds_of items) ≡ b →
    get_or (newest_samples g s items) (i * channels_at session t + c) (pos 0)
    ≡ heard samples t c (place edits g (s * session.block + i)) (if b then Heard (newest g s (kinds_of items)) else Short (length (kinds_of items)))
sample_heard session edits samples t g s i c items near lt named genuine true has =
    ap (λ l. get_or l (i * channels_at session t + c) (pos 0)) (newest_are session edits samples t g s items named genuine has)
    ∙ at_frame (λ n k. samples t (newest g s (kinds_of items)) k (place edits g n)) (channels_at session t) (s * session.block) session.block i c lt near
sample_heard session edits samples t g s i c items near lt named genuine false none =
    ap (λ l. get_or l (i * channels_at session t + c) (pos 0)) (none_are g s items none)

-- ---- the note of a track

pub note_is : (state : State) (tracks : List (List Kind)) (takes : List Take) (t : ℕ) (xs : List Kind) → length takes ≡ length tracks → slice_get tracks t ≡ Some xs →
    (note_at t (notes_of state tracks takes)).play ≡ play_of state xs
note_is state [] takes t xs long there = absurd (none_is_some there)
  where
    none_is_some : None ≡ Some xs → ⊥
    none_is_some e = cc
note_is state (y ∷ ys) [] t xs long there = absurd (omega arith)
note_is state (y ∷ ys) (take ∷ takes) zero xs long there = let same : y ≡ xs = cc in ap (play_of state) same
note_is state (y ∷ ys) (take ∷ takes) (suc t) xs long there = note_is state ys takes t xs (omega arith) there

-- ---- blocks that agree

map_same : (f g : ℕ → ℤ) (a n : ℕ) → ((k : ℕ) → a ≤ k → k < a + n → f k ≡ g k) → map f (range_with_len a n) ≡ map g (range_with_len a n)
map_same f g a zero same = refl
map_same f g a (suc n) same = both (same a (omega arith) (omega arith)) (map_same f g (a + 1) n (λ k low high. same k (omega arith) (omega arith)))
  where
    both : {x y : ℤ} {xs ys : List ℤ} → x ≡ y → xs ≡ ys → x ∷ xs ≡ y ∷ ys
    both h k = cc

some_channel : (k n channels : ℕ) → k < n * channels → 0 < channels
some_channel k n zero lt = absurd (omega arith)
some_channel k n (suc channels) lt = omega arith

block_same : (f g : ℕ → ℕ → ℤ) (channels a n : ℕ) → ((i c : ℕ) → i < n → c < channels → f (a + i) c ≡ g (a + i) c) → interleaved f channels a (n * channels) ≡ interleaved g channels a (n * channels)
block_same f g channels a n same = map_same (λ k. f (a + k / channels) (k % channels)) (λ k. g (a + k / channels) (k % channels)) 0 (n * channels)
    (λ k low high. let lt : k < n * channels = omega arith in let some = some_channel k n channels lt in
    same (k / channels) (k % channels) (div_below k channels n some lt) (mod_below k channels some))

-- ---- the block of an edition

module _ (session : Session) (edits : List Edit) (samples : Samples) (tracks : List (List Item)) (takes : List Take) (r k : ℕ) (valid : IsValid (edition session edits r).session)
    (many : length tracks ≡ length session.tracks.items) (given : length takes ≡ length tracks)
    (each : (t : ℕ) (items : List Item) → slice_get tracks t ≡ Some items → IsOfTrack session edits samples t items) where
  abbrev z : Session
  z = (edition session edits r).session

  -- what a frame of the block takes of one track
  track_is : (g s i t c : ℕ) → t < length tracks → c < channels_at session t → i < session.block →
      received_sample session tracks g s (s * session.block + i - s * session.block) t c
      ≡ heard samples t c (place edits g (s * session.block + i)) (note_at t (notes_of (Rolling g s) (map kinds_of tracks) takes)).play
  track_is g s i t c lt near within = let at = item_at tracks t lt in let of = each t at.0 at.1 in
      ap (λ n. received_sample session tracks g s n t c) (gone (s * session.block) i)
      ∙ ap (λ l. get_or (newest_samples g s l) (i * channels_at session t + c) (pos 0)) (get_or_from_slice_get tracks t at.0 [] at.1)
      ∙ sample_heard session edits samples t g s i c at.0 near within of.named of.genuine (has_piece g s (kinds_of at.0)) refl
      ∙ sym (ap (heard samples t c (place edits g (s * session.block + i))) (note_is (Rolling g s) (map kinds_of tracks) takes t (kinds_of at.0)
      (given ∙ sym (length-map tracks kinds_of)) (slice_get-map kinds_of tracks t ∙ ap (λ o. option_map kinds_of o) at.1)))
    where
      gone : (a n : ℕ) → a + n - a ≡ n
      gone a n = omega arith

  -- the tracks' own channels are as the entry says
  own_are : (g s i : ℕ) → i < session.block → AgreeOnOwn (routes_of z) (received_sample session tracks g s (s * session.block + i - s * session.block))
      (λ t c. heard samples t c (place edits g (s * session.block + i)) (note_at t (notes_of (Rolling g s) (map kinds_of tracks) takes)).play)
  own_are g s i within f t c q here is lt = let seen = route_seen z f q here in let fixed = fixed_stands session edits r in
      let at = track_place (length z.tracks.items) (length z.routes.items) f t (ap track_number (sym (valid.formed.routes f seen.route seen.there).kind) ∙ ap (λ x. x.track) seen.seen ∙ is) in
      let first = at.0 in let same = at.1 in let as_many = many_tracks session z fixed in
      let wide : channels_at session t ≡ q.channels = ap (channels_at session) same ∙ sym (channels_stay session z fixed f) ∙ channels_seen z f q here in
      track_is g s i t c (omega (arith, first, same, as_many, many)) (subst (λ n. c < n) (sym wide) lt) within

  -- one frame of the block that rolls, by tracks that are of their numbers and genuine
  frame_is : (g s i c : ℕ) → i < session.block → c < master_channels session → mixed_at session edits tracks r g s (s * session.block + i) c
      ≡ master_at session edits samples (record { edition = r; settled = k; state = Rolling g s; notes = notes_of (Rolling g s) (map kinds_of tracks) takes }) g (s * session.block + i) c
  frame_is g s i c within near = let more : length z.tracks.items < length z.routes.items = valid.formed.limits.master in let long = length-map z.routes.items (route_of z.tracks.items) in
      let last = item_at (routes_of z) (length (routes_of z) - 1) (omega (arith, more, long)) in let fixed = fixed_stands session edits r in
      let wide : master_channels session ≡ last.0.channels = ap (λ n. channels_at session (n - 1)) (sym (many_routes session z fixed) ∙ sym long)
      ∙ sym (channels_stay session z fixed (length (routes_of z) - 1)) ∙ channels_seen z (length (routes_of z) - 1) last.0 last.1 in
      only_own_channels (routes_of z) (received_sample session tracks g s (s * session.block + i - s * session.block))
      (λ t n. heard samples t n (place edits g (s * session.block + i)) (note_at t (notes_of (Rolling g s) (map kinds_of tracks) takes)).play)
      (place edits g (s * session.block + i)) (length (routes_of z) - 1) c last.0 (leads_wide z valid.formed) (own_are g s i within) last.1 (subst (λ n. c < n) wide near)

  block_is : (state : State) → mixed_in session edits tracks r state
      ≡ block_in session edits samples (record { edition = r; settled = k; state = state; notes = notes_of state (map kinds_of tracks) takes }) state
  block_is Stopped = refl
  block_is (Seeking t tail) = refl
  block_is (Rolling g s) = block_same (mixed_at session edits tracks r g s)
      (master_at session edits samples (record { edition = r; settled = k; state = Rolling g s; notes = notes_of (Rolling g s) (map kinds_of tracks) takes }) g)
      (master_channels session) (s * session.block) session.block (λ i c within near. frame_is g s i c within near)

pub genuine_pieces_make_the_block : GenuinePiecesMakeTheBlock
genuine_pieces_make_the_block session edits samples before tracks takes r valid many given each = let e = entry_of session edits before (map kinds_of tracks) takes r in
    block_is session edits samples tracks takes r e.settled valid many given each e.state
