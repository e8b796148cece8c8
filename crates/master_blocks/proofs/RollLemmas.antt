-- The block that a desk mixes of the newest pieces is that of the engine's definitions.
use Rattle.std.proofs.Common.{◌≡◌, ℕ, ◌+◌, ◌-◌, ◌*◌, ◌%◌, ◌<◌, ◌≤◌, ◌^◌, inl, inr, ℤ, List, [], ◌++◌, length, get_or, map, take, drop, All, ap, ap₂, sym, ◌∙◌, subst, arith}
use Rattle.std.specs.Prelude.{pos, Option, Some, None, IfSome}
use Rattle.std.specs.Option.{option_map}
use Rattle.std.specs.List.{range_with_len}
use Rattle.std.proofs.Math.Nat.{mod-lt, mul-le-mul}
use Rattle.std.proofs.lemmas.Bool.{cases_lt, lt-ltb, le-leb}
use Rattle.std.proofs.lemmas.List.{length-map}
use Rattle.std.proofs.lemmas.List.FromFn.{get_or-map-range_with_len, length-map-range_with_len}
use Rattle.std.proofs.lemmas.List.Elements.{All-from_get_or}
use Rattle.sound_model.specs.Routes.{route_post}
use Rattle.sound_laws.specs.Desks.{AgreeOnOwn}
use Rattle.sound_laws.proofs.ChannelLaws.{only_own_channels}
use Rattle.session_model.specs.declared.session.Session.{Session}
use Rattle.session_model.specs.Views.{routes_of, route_of, track_number}
use Rattle.session_model.specs.Formed.{channels_at}
use Rattle.session_model.specs.Valid.{IsValid}
use Rattle.engine_model.specs.Journal.{Rolling}
use Rattle.engine_model.specs.Mixed.{mixed_at, mixed_in, received_sample}
use Rattle.engine_model.specs.Played.{master_channels}
use Rattle.engine_model.specs.Transport.{place, place_from, place_of}
use Rattle.engine_laws.proofs.FixedLemmas.{many_tracks, many_routes, channels_stay}
use Rattle.engine_laws.proofs.ListLemmas.{item_at}
use Rattle.engine_laws.proofs.WideLemmas.{route_seen, channels_seen, leads_wide, track_place}
use Rattle.locate_loop.specs.declared.transport.Transport.{Transport}
use Rattle.locate_loop.specs.declared.transport.Wrap.{Wrap}
use Rattle.locate_loop.specs.Transport.{transport_of, wrap_of, IsTransport, IsWrap}
use Rattle.edition_log.specs.EditionState.{EditionState, IsEditionOf}
use Rattle.edition_log.proofs.PlayLaws.{editions_play_their_places}
use Rattle.route_mix.specs.Blocks.{block_of}
use Rattle.route_mix.specs.Turns.{place_at}
use Rattle.route_mix.specs.Desks.{DeskState, mixed_desk, master_block, input_at, post_at, put_sample, route_blocks}
use Rattle.route_mix.proofs.BlockLemmas.{same_block}
use Rattle.wav_codec.specs.declared.form.WavForm.{WavForm}
use Rattle.wav_codec.specs.Form.{written_form}
use Rattle.master_blocks.specs.State.{MasterState, IsMasterOf}
use Rattle.master_blocks.specs.Rolled.{Heard, ArePut}
use Rattle.master_blocks.proofs.DeskLemmas.{block_stays, fixed_in, master_few, last_there}
use Rattle.master_blocks.proofs.StateLemmas.{is_kept}

-- ---- places

near_in : (target : ℕ) (wrap : Option Wrap) (n : ℕ) → target < 2 ^ 40 → n < 2 ^ 30 → IfSome wrap IsWrap → place_from target (option_map wrap_of wrap) n < 2 ^ 41
near_in target None n low few bounds = omega arith
near_in target (Some w) n low few bounds = elim (cases_lt target w.to) [
  | inl before ↦ elim (cases_lt (target + n) w.to) [
    | inl short ↦ grind (arith, low, few, before, short)
    | inr past ↦ let low_turn : (target + n - w.to) % (w.to - w.from) < w.to - w.from = mod-lt (target + n - w.to) (omega (arith, bounds.some)) in
        grind (arith, low, few, lt-ltb target w.to before, le-leb w.to (target + n) past, low_turn, bounds.some, bounds.end)
  ]
  | inr after ↦ grind (arith, low, few, after)
]

-- places of a run are near
pub near : (t : Transport) (n : ℕ) → IsTransport t → n < 2 ^ 30 → place_of (transport_of t) n < 2 ^ 41
near t n bounds few = near_in t.target t.wrap n bounds.target few bounds.wrap

abbrev pub places_from : Transport → ℕ → ℕ → List ℕ
places_from t first n = map (λ i. place_of (transport_of t) (first + i)) (range_with_len 0 n)

pub all_near : (t : Transport) (first n : ℕ) → IsTransport t → first + n ≤ 2 ^ 30 → All (λ x. x < 2 ^ 41) (places_from t first n)
all_near t first n bounds few = All-from_get_or (λ x. x < 2 ^ 41) (places_from t first n) 0
    (λ i h. let within : i < n = omega (arith, length-map-range_with_len (λ k. place_of (transport_of t) (first + k)) 0 n) in
    subst (λ x. x < 2 ^ 41) (sym (get_or-map-range_with_len (λ k. place_of (transport_of t) (first + k)) 0 n i i 0 within (omega arith))) (near t (first + i) bounds (omega (arith, within, few))))

-- the frames of a block are few
pub few_frames : (seq block : ℕ) → seq < 100000 → block ≤ 4096 → seq * block + block ≤ 2 ^ 30
few_frames seq block few short = let step : seq + 1 ≤ 100000 = omega arith in let most : (seq + 1) * block ≤ 100000 * 4096 = mul-le-mul step short in let sum = one_more seq block in omega (arith, most, sum)
  where
    one_more : (i n : ℕ) → i * n + n ≡ (i + 1) * n
    one_more i n = omega arith

-- ---- the block

module _ (heard : Heard) (e : EditionState) (seq : ℕ) (inputs : List (List ℤ)) (valid : IsValid heard.session) (here : IsValid e.session) (is : IsEditionOf heard.session e)
    (put : ArePut heard e.transport.generation seq inputs) where
  abbrev s : Session
  s = heard.session

  abbrev z : Session
  z = e.session

  abbrev g : ℕ
  g = e.transport.generation

  -- the places of the block's frames
  abbrev places : List ℕ
  places = places_from e.transport (seq * s.block) s.block

  gone : (a n : ℕ) → a + n - a ≡ n
  gone a n = omega arith

  place_is : (i : ℕ) → i < s.block → place_at places i ≡ place e.edits g (seq * s.block + i)
  place_is i within = let plays = editions_play_their_places s e is in
      get_or-map-range_with_len (λ k. place_of (transport_of e.transport) (seq * s.block + k)) 0 s.block i i 0 within (omega arith)
      ∙ plays.places (seq * s.block + i) ∙ ap (λ k. place e.edits k (seq * s.block + i)) (sym plays.counted)

  -- the tracks' own channels are as the newest pieces have them
  own_are : (i : ℕ) → AgreeOnOwn (routes_of z) (put_sample z inputs i) (received_sample s heard.tracks g seq (seq * s.block + i - seq * s.block))
  own_are i f t c q there of lt = let seen = route_seen z f q there in let fixed = fixed_in s e is in
      let at = track_place (length z.tracks.items) (length z.routes.items) f t (ap track_number (sym (here.formed.routes f seen.route seen.there).kind) ∙ ap (λ x. x.track) seen.seen ∙ of) in
      let first = at.0 in let same = at.1 in let as_many = many_tracks s z fixed in
      ap (λ n. get_or (get_or inputs t []) (i * n + c) (pos 0)) (channels_stay s z fixed t)
      ∙ put t (i * channels_at s t + c) (omega (arith, first, same, as_many))
      ∙ ap (λ n. received_sample s heard.tracks g seq n t c) (sym (gone (seq * s.block) i))

  -- one channel of a frame
  frame_is : (i c : ℕ) → i < s.block → c < master_channels s → post_at z places inputs i (length z.routes.items - 1) c ≡ mixed_at s e.edits heard.tracks (length e.edits) g seq (seq * s.block + i) c
  frame_is i c within here_too = let long = length-map z.routes.items (route_of z.tracks.items) in let fixed = fixed_in s e is in
      let last = item_at (routes_of z) (length z.routes.items - 1) (omega (arith, last_there z here, long)) in
      let wide : master_channels s ≡ last.0.channels = ap (λ n. channels_at s (n - 1)) (sym (many_routes s z fixed)) ∙ sym (channels_stay s z fixed (length z.routes.items - 1))
      ∙ channels_seen z (length z.routes.items - 1) last.0 last.1 in
      only_own_channels (routes_of z) (put_sample z inputs i) (received_sample s heard.tracks g seq (seq * s.block + i - seq * s.block))
      (place_at places i) (length z.routes.items - 1) c last.0 (leads_wide z here.formed) (own_are i) last.1 (subst (λ n. c < n) wide here_too)
      ∙ ap (λ x. route_post (routes_of z) (received_sample s heard.tracks g seq (seq * s.block + i - seq * s.block)) x (length z.routes.items - 1) c) (place_is i within)
      ∙ ap (λ n. route_post (routes_of z) (received_sample s heard.tracks g seq (seq * s.block + i - seq * s.block)) (place e.edits g (seq * s.block + i)) (n - 1) c) (sym long)
      ∙ ap (λ (y : Session). route_post (routes_of y) (received_sample s heard.tracks g seq (seq * s.block + i - seq * s.block)) (place e.edits g (seq * s.block + i)) (length (routes_of y) - 1) c)
      (ap (λ x. x.session) is.state)

  -- the block of the last route
  last_is : (value : ℕ → ℕ → ℕ → ℤ) (block : ℕ) (ins : List (List ℤ)) → master_block (record { block = block; inputs = ins; posts = route_blocks z value })
      ≡ block_of (value (length z.routes.items - 1)) (master_channels s) s.block
  last_is value block ins = let n = length z.routes.items in let fixed = fixed_in s e is in
      ap (λ k. get_or (route_blocks z value) (k - 1) []) (length-map-range_with_len (λ r. block_of (value r) (channels_at z r) z.block) 0 n)
      ∙ get_or-map-range_with_len (λ r. block_of (value r) (channels_at z r) z.block) 0 n (n - 1) (n - 1) [] (last_there z here) (omega arith)
      ∙ ap₂ (λ channels frames. block_of (value (n - 1)) channels frames) (channels_stay s z fixed (n - 1) ∙ ap (λ k. channels_at s (k - 1)) (many_routes s z fixed)) (block_stays s z fixed)

  pub rolled : (d : DeskState) → d.inputs ≡ inputs → master_block (mixed_desk z places d) ≡ mixed_in s e.edits heard.tracks (length e.edits) (Rolling g seq)
  rolled d same = ap (λ ins. master_block (mixed_desk z places (record { block = d.block; inputs = ins; posts = d.posts }))) same
      ∙ last_is (λ r i c. post_at z places inputs i r c) d.block (route_blocks z (λ r i c. input_at z places inputs i r c))
      ∙ same_block (λ i c. post_at z places inputs i (length z.routes.items - 1) c) (λ i c. mixed_at s e.edits heard.tracks (length e.edits) g seq (seq * s.block + i) c)
      (master_channels s) s.block (master_few s valid) (λ i c within here_too. frame_is i c within here_too)

-- ---- the places that are written

pub places_are : {W : Type 0} (s z : Session) (e : EditionState) (seq a b n : ℕ) (sink : W) (form : WavForm) (desk : DeskState) (m : MasterState W) (t : Transport) (now out taken items : List ℕ)
    → record { sink = sink; form = written_form form; desk = desk } ≡ m → IsMasterOf s m → IsEditionOf s e → z ≡ e.session → t ≡ e.transport → a ≡ seq → b ≡ z.block
    → now ≡ take n (out ++ drop (length out) items) → length out ≡ length taken → length taken ≡ n → taken ≡ items → length items ≡ desk.block → out ≡ places_from t (a * b) (length taken)
    → now ≡ places_from e.transport (seq * s.block) s.block
places_are s z e seq a b n sink form desk m t now out taken items seen of is session transport first frames shown long whole same room out_is =
    let stands = subst (IsMasterOf s) (sym seen) of in
    is_kept n now out taken items shown long whole ∙ out_is
    ∙ ap₂ (λ k c. places_from k c (length taken)) transport (ap₂ (λ x y. x * y) first (frames ∙ ap (λ y. y.block) session ∙ block_stays s e.session (fixed_in s e is)))
    ∙ ap (λ k. places_from e.transport (seq * s.block) k) (ap length same ∙ room ∙ stands.desk.block)
