-- What a desk keeps: blocks of the sizes that the routes of its session have.
use Rattle.std.proofs.Common.{◌≡◌, ℕ, zero, suc, ◌*◌, ◌<◌, ◌≤◌, inl, inr, ℤ, pos, List, [], ◌∷◌, length, get_or, set, map, All, refl, ap, ap₂, sym, ◌∙◌, subst, arith}
use Rattle.std.specs.List.{range_with_len}
use Rattle.std.proofs.lemmas.List.{get_or-map, length-map, length-replicate, ext_get_or}
use Rattle.std.proofs.lemmas.List.FromFn.{length-range_with_len, get_or-map-range_with_len}
use Rattle.std.proofs.lemmas.List.Elements.{All-get_or, All-from_get_or}
use Rattle.session_model.specs.declared.route.Route.{Route}
use Rattle.session_model.specs.declared.session.Session.{Session}
use Rattle.session_model.specs.Formed.{IsFormed, channels_at}
use Rattle.route_mix.specs.Blocks.{block_of, silence, AreFew}
use Rattle.route_mix.specs.Feeds.{HaveSizes}
use Rattle.route_mix.specs.Desks.{DeskState, IsDeskOf, KeepsRoom, block_sizes, route_blocks}
use Rattle.route_mix.proofs.BlockLemmas.{length_block}
use Rattle.route_mix.proofs.RouteLemmas.{channels_there, few_at}

-- ---- one block put

lengths_put : (xs : List (List ℤ)) (t : ℕ) (x : List ℤ) → length x ≡ length (get_or xs t []) → map length (set xs t x) ≡ map length xs
lengths_put [] t x long = refl
lengths_put (y ∷ ys) zero x long = ap (λ n. n ∷ map length ys) long
lengths_put (y ∷ ys) (suc t) x long = ap (λ ns. length y ∷ ns) (lengths_put ys t x long)

All-from_map : (m : ℕ) (xs : List (List ℤ)) → All (λ n. n ≤ m) (map length xs) → All (λ b. length b ≤ m) xs
All-from_map m xs all = All-from_get_or (λ b. length b ≤ m) xs [] (λ i h. subst (λ n. n ≤ m) (get_or-map length xs i [] 0 h) (All-get_or (λ n. n ≤ m) (map length xs) i 0 (omega (arith, length-map xs length)) all))

-- what is said of the lengths of blocks
within_of : (m : ℕ) (xs ys : List (List ℤ)) → map length xs ≡ map length ys → All (λ b. length b ≤ m) ys → All (λ b. length b ≤ m) xs
within_of m xs ys same all = All-from_get_or (λ b. length b ≤ m) xs [] (λ i h.
    let n : length xs ≡ length ys = sym (length-map xs length) ∙ ap length same ∙ length-map ys length in
    let e : length (get_or xs i []) ≡ length (get_or ys i []) = sym (get_or-map length xs i [] 0 h) ∙ ap (λ ns. get_or ns i 0) same ∙ get_or-map length ys i [] 0 (omega (arith, n)) in
    subst (λ k. k ≤ m) (sym e) (All-get_or (λ b. length b ≤ m) ys i [] (omega (arith, n)) all))

-- other blocks of the same sizes
pub keeps_room : (block gains : ℕ) (ins outs fed new_ins new_outs new_fed : List (List ℤ)) (zeros : List ℤ) (new_gains : ℕ) → map length new_ins ≡ map length ins → map length new_outs ≡ map length outs → map length new_fed ≡ map length fed
    → new_gains ≡ gains → KeepsRoom block ins outs fed gains zeros → KeepsRoom block new_ins new_outs new_fed new_gains zeros
keeps_room block gains ins outs fed new_ins new_outs new_fed zeros new_gains i o f g keeps = record {
  sums = f ∙ keeps.sums ∙ sym i;
  outs = o ∙ keeps.outs ∙ sym i;
  each_gain = g ∙ keeps.each_gain;
  quiet = keeps.quiet;
  within = within_of (2 * block) new_ins ins i keeps.within;
  some = omega (arith, keeps.some, ap length i, length-map new_ins length, length-map ins length);
}

pub put_keeps : (block gains : ℕ) (ins outs fed : List (List ℤ)) (zeros : List ℤ) (t : ℕ) (x : List ℤ) → length x ≡ length (get_or ins t []) → KeepsRoom block ins outs fed gains zeros → KeepsRoom block (set ins t x) outs fed gains zeros
put_keeps block gains ins outs fed zeros t x long keeps = keeps_room block gains ins outs fed (set ins t x) outs fed zeros gains (lengths_put ins t x long) refl refl refl keeps

pub put_desk : (s : Session) (block : ℕ) (ins outs : List (List ℤ)) (t : ℕ) (x : List ℤ) → length x ≡ length (get_or ins t []) → IsDeskOf s (record { block = block; inputs = ins; posts = outs }) → IsDeskOf s (record { block = block; inputs = set ins t x; posts = outs })
put_desk s block ins outs t x long is = record { block = is.block; inputs = lengths_put ins t x long ∙ is.inputs; posts = is.posts }

-- ---- blocks of a session's sizes

size_at : (s : Session) (r : ℕ) (d : Route) → r < length s.routes.items → get_or (block_sizes s) r 0 ≡ s.block * channels_at s r
size_at s r d h = get_or-map (λ q. s.block * q.channels) s.routes.items r d 0 h ∙ ap (λ n. s.block * n) (sym (channels_there s r d h))

pub sizes_of : (s : Session) (d : Route) (xs : List (List ℤ)) → map length xs ≡ block_sizes s → HaveSizes s xs
sizes_of s d xs same = record {
  each = λ r h. sym (get_or-map length xs r [] 0 (omega (arith, many, h))) ∙ ap (λ ns. get_or ns r 0) same ∙ size_at s r d h;
  all = many;
}
  where
    many : length xs ≡ length s.routes.items
    many = sym (length-map xs length) ∙ ap length same ∙ length-map s.routes.items (λ q. s.block * q.channels)

pub of_sizes : (s : Session) (d : Route) (xs : List (List ℤ)) → HaveSizes s xs → map length xs ≡ block_sizes s
of_sizes s d xs sizes = ext_get_or 0 (map length xs) (block_sizes s) (length-map xs length ∙ sizes.all ∙ sym (length-map s.routes.items (λ q. s.block * q.channels)))
    (λ i h. let inside : i < length xs = omega (arith, length-map xs length) in let there : i < length s.routes.items = omega (arith, sizes.all) in
    get_or-map length xs i [] 0 inside ∙ sizes.each i there ∙ sym (size_at s i d there))

pub silent_sizes : (sizes : List ℕ) → map length (map silence sizes) ≡ sizes
silent_sizes [] = refl
silent_sizes (n ∷ ns) = ap₂ (λ k ks. k ∷ ks) (length-replicate n (pos 0)) (silent_sizes ns)

some_of : (qs : List Route) → 0 < length qs → Route
some_of [] h = absurd (omega arith)
some_of (q ∷ qs) h = q

-- a formed session has a route
pub a_route : (s : Session) → IsFormed s → Route
a_route s formed = some_of s.routes.items (omega (arith, formed.limits.master))

two_wide : (b n : ℕ) → AreFew n → b * n ≤ 2 * b
two_wide b n (inl one) = rw one (omega arith)
two_wide b n (inr two) = rw two (omega arith)

-- no block is longer than two channels of frames
pub sizes_within : (s : Session) → IsFormed s → All (λ n. n ≤ 2 * s.block) (block_sizes s)
sizes_within s formed = All-from_get_or (λ n. n ≤ 2 * s.block) (block_sizes s) 0 (λ i h.
    let there : i < length s.routes.items = omega (arith, length-map s.routes.items (λ q. s.block * q.channels)) in
    subst (λ n. n ≤ 2 * s.block) (sym (size_at s i (a_route s formed) there)) (two_wide s.block (channels_at s i) (few_at s formed i there (a_route s formed))))

-- the silent blocks of a session's routes
pub silent_keeps : (s : Session) → IsFormed s → KeepsRoom s.block (map silence (block_sizes s)) (map silence (block_sizes s)) (map silence (block_sizes s)) (2 * s.block) (silence (2 * s.block))
silent_keeps s formed = record {
  sums = refl;
  outs = refl;
  each_gain = refl;
  quiet = refl;
  within = All-from_map (2 * s.block) (map silence (block_sizes s)) (subst (All (λ n. n ≤ 2 * s.block)) (sym (silent_sizes (block_sizes s))) (sizes_within s formed));
  some = omega (arith, formed.limits.master, length-map s.routes.items (λ q. s.block * q.channels), length-map (block_sizes s) silence);
}

pub new_keeps : (s : Session) → IsFormed s → (ins outs fed : List (List ℤ)) (gains : ℕ) (zeros : List ℤ) → ins ≡ map silence (block_sizes s) → outs ≡ map silence (block_sizes s) → fed ≡ map silence (block_sizes s)
    → gains ≡ 2 * s.block → zeros ≡ silence (2 * s.block) → KeepsRoom s.block ins outs fed gains zeros
new_keeps s formed ins outs fed gains zeros i o f g z = subst (λ zs. KeepsRoom s.block ins outs fed gains zs) (sym z)
    (keeps_room s.block (2 * s.block) (map silence (block_sizes s)) (map silence (block_sizes s)) (map silence (block_sizes s)) ins outs fed (silence (2 * s.block)) gains
    (ap (map length) i) (ap (map length) o) (ap (map length) f) g (silent_keeps s formed))

-- a block that is lent fits in the silence
pub lent_fits : (block gains : ℕ) (ins outs fed : List (List ℤ)) (zeros : List ℤ) (r : ℕ) (d : List ℤ) → r < length outs → KeepsRoom block ins outs fed gains zeros → length (get_or outs r d) ≤ length zeros
lent_fits block gains ins outs fed zeros r d h keeps = omega (arith, All-get_or (λ b. length b ≤ 2 * block) outs r d h (within_of (2 * block) outs ins keeps.outs keeps.within), ap length keeps.quiet, length-replicate (2 * block) (pos 0))

pub lent_input : (block gains : ℕ) (ins outs fed : List (List ℤ)) (zeros : List ℤ) (r : ℕ) (d : List ℤ) → r < length ins → KeepsRoom block ins outs fed gains zeros → length (get_or ins r d) ≤ length zeros
lent_input block gains ins outs fed zeros r d h keeps = omega (arith, All-get_or (λ b. length b ≤ 2 * block) ins r d h keeps.within, ap length keeps.quiet, length-replicate (2 * block) (pos 0))

-- the blocks of routes have the sizes of the session's
pub blocks_sized : (s : Session) (d : Route) (value : ℕ → ℕ → ℕ → ℤ) → map length (route_blocks s value) ≡ block_sizes s
blocks_sized s d value = of_sizes s d (route_blocks s value) (record {
  each = λ r h. ap length (get_or-map-range_with_len (λ k. block_of (value k) (channels_at s k) s.block) 0 (length s.routes.items) r r [] h (omega arith)) ∙ length_block (value r) (channels_at s r) s.block;
  all = length-map (range_with_len 0 (length s.routes.items)) (λ k. block_of (value k) (channels_at s k) s.block) ∙ length-range_with_len 0 (length s.routes.items);
})

abbrev state : ℕ → List (List ℤ) → List (List ℤ) → DeskState
state block ins outs = record { block = block; inputs = ins; posts = outs }

pub same_state : (block : ℕ) (ins other_ins outs other_outs : List (List ℤ)) → ins ≡ other_ins → outs ≡ other_outs → state block ins outs ≡ state block other_ins other_outs
same_state block ins other_ins outs other_outs i o = ap₂ (state block) i o
