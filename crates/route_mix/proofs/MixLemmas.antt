-- A mix so far: routes that had their turn, and sums of what those gave.
use Rattle.std.proofs.Common.{◌≡◌, ◌≢◌, ℕ, ◌+◌, ◌*◌, ◌<◌, ◌≤◌, ◌⊎◌, inl, inr, ℤ, pos, ◌+ℤ◌, Bool, true, false, cond, List, [], ◌∷◌, ◌++◌, length, get_or, set, take, drop, refl, ap, ap₂, sym, ◌∙◌, subst, arith, take-append-drop}
use Rattle.std.specs.Prelude.{Option, Some, None, slice_get, is_some}
use Rattle.std.proofs.lemmas.Option.{slice_get-get_or}
use Rattle.std.proofs.lemmas.Int.{ints}
use Rattle.std.proofs.lemmas.Bool.{cases_lt}
use Rattle.std.proofs.lemmas.List.Elements.{All-same, All-replicate}
use Rattle.std.proofs.lemmas.List.{length-replicate, get_or_default, get_or-map, get_or-set_same, get_or-set_other, length-map, length-set, take_more, drop_more}
use Rattle.std.proofs.lemmas.List.FromFn.{fill_by_all}
use Rattle.sound_model.specs.Numbers.{clip}
use Rattle.sound_model.specs.Routes as sound
use Rattle.sound_model.specs.Routes.{any_solo, route_input, route_post, post, post_of, fed}
use Rattle.sound_laws.proofs.Cases.{by_test}
use Rattle.session_model.specs.declared.route.Route.{Route}
use Rattle.session_model.specs.declared.session.Session.{Session}
use Rattle.session_model.specs.Valid.{IsValid}
use Rattle.session_model.specs.Formed.{channels_at}
use Rattle.session_model.specs.Views.{route_of, routes_of, track_number}
use Rattle.engine_laws.proofs.WideLemmas.{track_place}
use Rattle.route_graph.specs.Order.{IsOrder}
use Rattle.mix_laws.specs.Mixing.{AlongGoesOn, OrderMixes, TracksTakeTheirOwn, fed_at, fed_along}
use Rattle.mix_kernel.specs.Blocks.{clipped}
use Rattle.mix_kernel.specs.Bounds.{IsNear}
use Rattle.mix_kernel.proofs.NearLemmas.{near_more}
use Rattle.route_mix.specs.Blocks.{block_of, silence, AreFew}
use Rattle.route_mix.specs.Feeds.{AreBlocks, EachGoesOn, EachNear, HaveSizes, IsRouteOf}
use Rattle.route_mix.specs.Turns.{IsGiven, taken, place_at}
use Rattle.route_mix.specs.Desks.{input_at, post_at, put_sample, route_blocks}
use Rattle.route_mix.proofs.BlockLemmas.{same_block, block_back, clipped_block, silent_block, length_block}
use Rattle.route_mix.proofs.RouteLemmas.{few_of, few_at, channels_there}
use Rattle.route_mix.proofs.GivingLemmas.{blocks_same, same_or_not}

-- what stands at a place of a list where one item was put
put_in : (F : ℕ → List ℤ) (xs : List (List ℤ)) (r k : ℕ) (x : List ℤ) → r < length xs → x ≡ F r → (k ≢ r → get_or xs k [] ≡ F k) → get_or (set xs r x) k [] ≡ F k
put_in F xs r k x inside is others = go (same_or_not k r)
  where
    go : (k ≡ r) ⊎ (k ≢ r) → get_or (set xs r x) k [] ≡ F k
    go (inl here) = ap (λ j. get_or (set xs r x) j []) here ∙ get_or-set_same xs r x [] inside ∙ is ∙ ap F (sym here)
    go (inr away) = get_or-set_other xs r k x [] away ∙ others away

put_sizes : (s : Session) (xs : List (List ℤ)) (r : ℕ) (x : List ℤ) → r < length s.routes.items → length x ≡ s.block * channels_at s r → HaveSizes s xs → HaveSizes s (set xs r x)
put_sizes s xs r x inside long sizes = record {
  each = λ k h. go k h (same_or_not k r);
  all = length-set xs r x ∙ sizes.all;
}
  where
    go : (k : ℕ) → k < length s.routes.items → (k ≡ r) ⊎ (k ≢ r) → length (get_or (set xs r x) k []) ≡ s.block * channels_at s k
    go k h (inl here) = ap (λ j. length (get_or (set xs r x) j [])) here ∙ ap length (get_or-set_same xs r x [] (omega (arith, sizes.all))) ∙ long ∙ ap (λ j. s.block * channels_at s j) (sym here)
    go k h (inr away) = ap length (get_or-set_other xs r k x [] away) ∙ sizes.each k h

-- the route at a place is a track's
abbrev pub is_track : Route → Bool
is_track q = is_some (track_number q.kind)

module _ (s : Session) (places : List ℕ) (blocks : List (List ℤ)) (order : List ℕ) where
  abbrev in_block : ℕ → List ℤ
  in_block r = block_of (λ i c. input_at s places blocks i r c) (channels_at s r) s.block

  abbrev out_block : ℕ → List ℤ
  out_block r = block_of (λ i c. post_at s places blocks i r c) (channels_at s r) s.block

  -- what the first n routes of the order gave to a route, at a frame and on a channel
  abbrev fed_to : ℕ → ℕ → ℕ → ℕ → ℤ
  fed_to n r i c = fed_along (routes_of s) (input_at s places blocks i) (place_at places i) r (channels_at s r) c (take n order)

  -- the first n routes of the order had their turn
  pub record IsMixedTo (n : ℕ) (inputs posts sums : List (List ℤ)) : Type 0 where
    pub tracks : (r : ℕ) (q : Route) → r < length s.routes.items → q ≡ get_or s.routes.items r q → is_track q ≡ true → get_or inputs r [] ≡ in_block r
    pub taken_in : (j : ℕ) → j < n → get_or inputs (get_or order j 0) [] ≡ in_block (get_or order j 0)
    pub given : (j : ℕ) → j < n → get_or posts (get_or order j 0) [] ≡ out_block (get_or order j 0)
    pub fed : AreBlocks s (fed_to n) sums
    pub input_sizes : HaveSizes s inputs
    pub post_sizes : HaveSizes s posts
    pub sum_sizes : HaveSizes s sums
    pub near : EachNear (n * 309237645312) sums

none_of : (o : Option ℕ) → is_some o ≡ false → o ≡ None
none_of None e = refl
none_of (Some t) e = cc

some_of : (o : Option ℕ) → is_some o ≡ true → (t : ℕ) × (o ≡ Some t)
some_of None e = cc
some_of (Some t) e = (t, refl)

module _ (s : Session) (valid : IsValid s) (order : List ℕ) (is : IsOrder (routes_of s) order) (places : List ℕ) (blocks : List (List ℤ)) where
  -- the route at a place as the definitions of the sound have it
  seen_there : (r : ℕ) (q : Route) → r < length s.routes.items → q ≡ get_or s.routes.items r q → slice_get (routes_of s) r ≡ Some (route_of s.tracks.items q)
  seen_there r q h e = slice_get-get_or (routes_of s) r (route_of s.tracks.items q) (omega (arith, length-map s.routes.items (route_of s.tracks.items)))
      ∙ ap Some (get_or-map (route_of s.tracks.items) s.routes.items r q (route_of s.tracks.items q) h ∙ ap (route_of s.tracks.items) (sym e))

  channels_same : (r : ℕ) (q : Route) → r < length s.routes.items → q ≡ get_or s.routes.items r q → channels_at s r ≡ q.channels
  channels_same r q h e = channels_there s r q h ∙ ap (λ p. p.channels) (sym e)

  -- ---- before the first turn

  track_block : TracksTakeTheirOwn → HaveSizes s blocks → (r : ℕ) (q : Route) → r < length s.routes.items → q ≡ get_or s.routes.items r q → is_track q ≡ true → get_or blocks r [] ≡ in_block s places blocks order r
  track_block law sizes r q h e track =
      block_back (get_or blocks r []) (channels_at s r) s.block (few_at s valid.formed r h q) (sizes.each r h)
      ∙ same_block (λ i c. get_or (get_or blocks r []) (i * channels_at s r + c) (pos 0)) (λ i c. input_at s places blocks i r c) (channels_at s r) s.block (few_at s valid.formed r h q)
      (λ i c low high. sym (law (routes_of s) (put_sample s blocks i) (place_at places i) r c r (route_of s.tracks.items q) valid.no_cycle (seen_there r q h e) number))
    where
      number : track_number q.kind ≡ Some r
      number = let n = some_of (track_number q.kind) track in
          let formed = valid.formed.routes r q (slice_get-get_or s.routes.items r q h ∙ ap Some (sym e)) in
          let at = track_place (length s.tracks.items) (length s.routes.items) r n.0 (ap track_number (sym formed.kind) ∙ n.1) in
          n.1 ∙ ap Some at.1

  pub begun : TracksTakeTheirOwn → HaveSizes s blocks → (posts sums silent : List (List ℤ)) → HaveSizes s posts → HaveSizes s sums → length silent ≡ length sums
      → ((r : ℕ) → get_or silent r [] ≡ silence (length (get_or sums r []))) → IsMixedTo s places blocks order 0 blocks posts silent
  begun law sizes posts sums silent post_sizes sum_sizes long quiet = record {
    tracks = track_block law sizes;
    taken_in = λ j h. absurd (omega arith);
    given = λ j h. absurd (omega arith);
    fed = record { each = λ r h. quiet r ∙ ap silence (sum_sizes.each r h) ∙ silent_block (channels_at s r) s.block; all = long ∙ sum_sizes.all };
    input_sizes = sizes;
    post_sizes = post_sizes;
    sum_sizes = record { each = λ r h. ap length (quiet r) ∙ length-replicate (length (get_or sums r [])) (pos 0) ∙ sum_sizes.each r h; all = long ∙ sum_sizes.all };
    near = λ r. All-same (IsNear 0) (get_or silent r []) (silence (length (get_or sums r []))) (quiet r) (All-replicate (IsNear 0) (length (get_or sums r [])) (pos 0) (omega (arith, ints), omega (arith, ints)));
  }

  -- ---- one turn

  -- the order, cut at a place
  cut : (n : ℕ) → n < length order → order ≡ take n order ++ get_or order n 0 ∷ drop (n + 1) order
  cut n h = sym (take-append-drop n order) ∙ ap (λ back. take n order ++ back) (drop_more order n 0 h)

  module _ (mixes : OrderMixes) (goes_on : AlongGoesOn) (n : ℕ) (within : n < length order) (q : Route) (inputs posts sums : List (List ℤ)) (so_far : IsMixedTo s places blocks order n inputs posts sums)
      (e : q ≡ get_or s.routes.items (get_or order n 0) q) where
    abbrev r : ℕ
    r = get_or order n 0

    pub inside : r < length s.routes.items
    inside = omega (arith, is.places n 0 within, length-map s.routes.items (route_of s.tracks.items))

    -- what it has taken in is its input
    pub takes_its_input : taken q (get_or sums r []) (get_or inputs r []) ≡ in_block s places blocks order r
    takes_its_input = by_test (is_track q)
        (λ t. ap (λ b. cond b (get_or inputs r []) (clipped (get_or sums r []))) t ∙ so_far.tracks r q inside e t)
        (λ t. ap (λ b. cond b (get_or inputs r []) (clipped (get_or sums r []))) t ∙ ap clipped (so_far.fed.each r inside) ∙ clipped_block (fed_to s places blocks order n r) (channels_at s r) s.block
        ∙ same_block (λ i c. clip (fed_to s places blocks order n r i c)) (λ i c. input_at s places blocks i r c) (channels_at s r) s.block (few_at s valid.formed r inside q)
        (λ i c low high. sym (mixes (routes_of s) (take n order) (drop (n + 1) order) (put_sample s blocks i) (place_at places i) r c (route_of s.tracks.items q) valid.no_cycle
        (subst (IsOrder (routes_of s)) (cut n within) is) (seen_there r q inside e) (none_of (track_number q.kind) t)
        ∙ ap (λ k. clip (fed_along (routes_of s) (input_at s places blocks i) (place_at places i) r k c (take n order))) (sym (channels_same r q inside e)))))

    pub stands : IsRouteOf s q
    stands = (r, valid.formed.routes r q (slice_get-get_or s.routes.items r q inside ∙ ap Some (sym e)))

    pub two_wide : s.block * q.channels ≤ 2 * s.block
    two_wide = go (few_of q.channels stands.1.channels.least stands.1.channels.most)
      where
        go : AreFew q.channels → s.block * q.channels ≤ 2 * s.block
        go (inl one) = rw one (omega arith)
        go (inr two) = rw two (omega arith)

    pub still_small : EachNear 140737488355328 sums
    still_small k = near_more (n * 309237645312) 140737488355328 (get_or sums k []) (omega (arith, is.long, length-map s.routes.items (route_of s.tracks.items), valid.formed.limits.routes)) (so_far.near k)

    -- the same, of items that were read with other defaults
    pub took : (sum_else in_else x : List ℤ) → x ≡ taken q (get_or sums r sum_else) (get_or inputs r in_else) → x ≡ taken q (get_or sums r []) (get_or inputs r [])
    took sum_else in_else x is_taken = is_taken ∙ ap₂ (taken q) (get_or_default sums r sum_else [] (omega (arith, inside, so_far.sum_sizes.all))) (get_or_default inputs r in_else [] (omega (arith, inside, so_far.input_sizes.all)))

    pub took_long : (x : List ℤ) → x ≡ taken q (get_or sums r []) (get_or inputs r []) → length x ≡ s.block * q.channels
    took_long x is_taken = ap length (is_taken ∙ takes_its_input) ∙ length_block (λ i c. input_at s places blocks i r c) (channels_at s r) s.block ∙ ap (λ k. s.block * k) (channels_same r q inside e)

    pub post_long : (post_else : List ℤ) → length (get_or posts r post_else) ≡ s.block * q.channels
    post_long post_else = ap length (get_or_default posts r post_else [] (omega (arith, inside, so_far.post_sizes.all))) ∙ so_far.post_sizes.each r inside ∙ ap (λ k. s.block * k) (channels_same r q inside e)

    pub sums_long : (sum_else in_else : List ℤ) → length (get_or inputs r in_else) ≡ length (get_or sums r sum_else)
    sums_long sum_else in_else = ap length (get_or_default inputs r in_else [] (omega (arith, inside, so_far.input_sizes.all))) ∙ so_far.input_sizes.each r inside
        ∙ sym (so_far.sum_sizes.each r inside) ∙ ap length (get_or_default sums r [] sum_else (omega (arith, inside, so_far.sum_sizes.all)))

    -- and what it gives is its post
    gives_its_post : (post : List ℤ) (new : List (List ℤ)) → IsGiven s (any_solo (routes_of s)) q places (taken q (get_or sums r []) (get_or inputs r [])) post sums new → post ≡ out_block s places blocks order r
    gives_its_post post new given =
        given.post (λ i c. input_at s places blocks i r c) (takes_its_input ∙ ap (λ k. block_of (λ i c. input_at s places blocks i r c) k s.block) (channels_same r q inside e))
        ∙ ap (λ k. block_of (λ i c. post_value i c) k s.block) (sym (channels_same r q inside e))
        ∙ same_block post_value (λ i c. post_at s places blocks i r c) (channels_at s r) s.block (few_at s valid.formed r inside q)
        (λ i c low high. sym (ap (post_of (any_solo (routes_of s)) (place_at places i) (input_at s places blocks i r c)) (seen_there r q inside e)))
      where
        post_value : ℕ → ℕ → ℤ
        post_value i c = sound.post (any_solo (routes_of s)) (route_of s.tracks.items q) (place_at places i) (input_at s places blocks i r c)

    fed_more : (new : List (List ℤ)) (post : List ℤ) → IsGiven s (any_solo (routes_of s)) q places (taken q (get_or sums r []) (get_or inputs r [])) post sums new → AreBlocks s (fed_to s places blocks order (n + 1)) new
    fed_more new post given = blocks_same s valid.formed q _ (fed_to s places blocks order (n + 1)) new
        (λ k i c. sym (ap (fed_along (routes_of s) (input_at s places blocks i) (place_at places i) k (channels_at s k) c) (take_more order n 0 within)
        ∙ goes_on (routes_of s) (input_at s places blocks i) (place_at places i) k (channels_at s k) c r (take n order)
        ∙ ap (λ o. fed_to s places blocks order n k i c +ℤ fed_at (any_solo (routes_of s)) (place_at places i) k (channels_at s k) c (input_at s places blocks i r) o) (seen_there r q inside e)))
        (given.others (λ i c. input_at s places blocks i r c) (fed_to s places blocks order n) (takes_its_input ∙ ap (λ k. block_of (λ i c. input_at s places blocks i r c) k s.block) (channels_same r q inside e)) so_far.fed)

    pub one_turn : (post : List ℤ) (new : List (List ℤ)) → IsGiven s (any_solo (routes_of s)) q places (taken q (get_or sums r []) (get_or inputs r [])) post sums new → HaveSizes s new → EachGoesOn 309237645312 sums new
        → IsMixedTo s places blocks order (n + 1) (set inputs r (taken q (get_or sums r []) (get_or inputs r []))) (set posts r post) new
    one_turn post new given sizes goes = record {
      tracks = λ k p h f t. put_in (in_block s places blocks order) inputs r k _ in_room takes_its_input (λ away. so_far.tracks k p h f t);
      taken_in = λ j h. put_in (in_block s places blocks order) inputs r (get_or order j 0) _ in_room takes_its_input (λ away. so_far.taken_in j (earlier j h away));
      given = λ j h. put_in (out_block s places blocks order) posts r (get_or order j 0) post post_room (gives_its_post post new given) (λ away. so_far.given j (earlier j h away));
      fed = fed_more new post given;
      input_sizes = put_sizes s inputs r _ inside (ap length takes_its_input ∙ length_block (λ i c. input_at s places blocks i r c) (channels_at s r) s.block) so_far.input_sizes;
      post_sizes = put_sizes s posts r post inside (ap length (gives_its_post post new given) ∙ length_block (λ i c. post_at s places blocks i r c) (channels_at s r) s.block) so_far.post_sizes;
      sum_sizes = sizes;
      near = λ k. near_more (n * 309237645312 + 309237645312) ((n + 1) * 309237645312) (get_or new k []) (omega arith) (goes (n * 309237645312) so_far.near k);
    }
      where
        in_room : r < length inputs
        in_room = omega (arith, inside, so_far.input_sizes.all)

        post_room : r < length posts
        post_room = omega (arith, inside, so_far.post_sizes.all)

        earlier : (j : ℕ) → j < n + 1 → get_or order j 0 ≢ r → j < n
        earlier j h away = go (cases_lt j n)
          where
            go : (j < n) ⊎ (n ≤ j) → j < n
            go (inl low) = low
            go (inr high) = let same : j ≡ n = omega arith in absurd (away (ap (λ k. get_or order k 0) same))

  -- ---- after the last turn

  each_in : (F : ℕ → List ℤ) (n : ℕ) (xs : List (List ℤ)) → length order ≤ n → ((j : ℕ) → j < n → get_or xs (get_or order j 0) [] ≡ F (get_or order j 0)) → (r : ℕ) → r < length s.routes.items → get_or xs r [] ≡ F r
  each_in F n xs long done r h = let at = is.every r (omega (arith, length-map s.routes.items (route_of s.tracks.items))) in
      let same : get_or order at.0 0 ≡ r = get_or_default order at.0 0 r at.1 ∙ at.2 in
      ap (λ k. get_or xs k []) (sym same) ∙ done at.0 (omega (arith, at.1)) ∙ ap F same

  module _ (n : ℕ) (inputs posts sums : List (List ℤ)) (long : length order ≤ n) (done : IsMixedTo s places blocks order n inputs posts sums) where
    pub all_inputs : inputs ≡ route_blocks s (λ r i c. input_at s places blocks i r c)
    all_inputs = fill_by_all (in_block s places blocks order) inputs (length s.routes.items) [] done.input_sizes.all (λ r h. each_in (in_block s places blocks order) n inputs long done.taken_in r h)

    pub all_posts : posts ≡ route_blocks s (λ r i c. post_at s places blocks i r c)
    all_posts = fill_by_all (out_block s places blocks order) posts (length s.routes.items) [] done.post_sizes.all (λ r h. each_in (out_block s places blocks order) n posts long done.given r h)
