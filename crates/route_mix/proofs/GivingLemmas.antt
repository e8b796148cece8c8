-- The sums of all routes when one of them is fed, and when all are that a route leads to.
use Rattle.std.proofs.Common.{◌≡◌, ◌≢◌, ℕ, ◌+◌, ◌*◌, ◌<◌, ◌≤◌, ◌⊎◌, inl, inr, ℤ, pos, ◌+ℤ◌, true, false, cond, List, [], ◌∷◌, ◌++◌, length, get_or, take, map, ap, ap₂, sym, ◌∙◌, subst, arith}
use Rattle.std.specs.Prelude.{◌==◌, ◌&&◌, Some, None}
use Rattle.std.proofs.lemmas.Int.{ints}
use Rattle.std.proofs.Math.IntN.{+ℤ_idl}
use Rattle.std.proofs.lemmas.Bool.{cases_lt}
use Rattle.std.proofs.lemmas.Bool.Decides.{nat_tests}
use Rattle.std.proofs.lemmas.List.{map_more, take_all}
use Rattle.sound_model.specs.Numbers.{unity, scale}
use Rattle.sound_model.specs.Routes as sound
use Rattle.sound_model.specs.Routes.{given, leads_to, sent}
use Rattle.sound_laws.proofs.NumberLaws.{scale_unity}
use Rattle.session_model.specs.declared.route.Route.{Route}
use Rattle.session_model.specs.declared.route.SendLink.{SendLink}
use Rattle.session_model.specs.declared.session.Session.{Session}
use Rattle.session_model.specs.Formed.{IsFormed, channels_at}
use Rattle.session_model.specs.Views.{route_of, send_of}
use Rattle.mix_kernel.specs.Bounds.{AllNear, GoesOn}
use Rattle.route_mix.specs.Blocks.{block_of}
use Rattle.route_mix.specs.Feeds.{AreBlocks, EachGoesOn, HaveSizes, IsFed, IsGivenOn, all_out, put_out, sent_out}
use Rattle.route_mix.proofs.BlockLemmas.{same_block}
use Rattle.route_mix.proofs.RouteLemmas.{few_at}
use Rattle.mix_kernel.proofs.NearLemmas.{near_more}

pub same_or_not : (a b : ℕ) → (a ≡ b) ⊎ (a ≢ b)
same_or_not a b = go (cases_lt a b) (cases_lt b a)
  where
    go : (a < b) ⊎ (b ≤ a) → (b < a) ⊎ (a ≤ b) → (a ≡ b) ⊎ (a ≢ b)
    go (inl low) other = inr (omega arith)
    go (inr high) (inl low) = inr (omega arith)
    go (inr high) (inr up) = inl (omega arith)

equal_is : (a b : ℕ) → a ≡ b → (a == b) ≡ true
equal_is a b e = grind (arith, nat_tests)

apart_is : (a b : ℕ) → a ≢ b → (a == b) ≡ false
apart_is a b e = grind (arith, nat_tests)

no_more : (v : ℤ) → v ≡ v +ℤ pos 0
no_more v = omega (arith, ints)

-- the same values are given as the same
given_same : (q : sound.Route) (channels c : ℕ) (v w : ℕ → ℤ) → ((k : ℕ) → v k ≡ w k) → given q channels c v ≡ given q channels c w
given_same q channels c v w each = ap₂ (λ x y. cond (q.channels == 1 && channels == 2) (scale x (cond (c == 0) q.left q.right)) y) (each 0) (each c)

-- the sums of one route are fed
module _ (s : Session) (formed : IsFormed s) (q : Route) (to gain : ℕ) (inside : to < length s.routes.items) (samples : List ℤ) (old new : List (List ℤ))
    (fed : IsFed q (channels_at s to) gain samples (get_or old to []) (get_or new to [])) (others : (r : ℕ) → r ≢ to → get_or new r [] ≡ get_or old r []) (sizes : HaveSizes s new) where
  abbrev at : (ℕ → ℕ → ℤ) → ℕ → ℕ → ℕ → ℤ
  at sound r i c = cond (to == r) (given (route_of s.tracks.items q) (channels_at s r) c (λ k. scale (sound i k) gain)) (pos 0)

  pub fed_one : (sound : ℕ → ℕ → ℤ) (below : ℕ → ℕ → ℕ → ℤ) → samples ≡ block_of sound q.channels s.block → AreBlocks s below old → AreBlocks s (λ r i c. below r i c +ℤ at sound r i c) new
  fed_one sound below from under = record { each = λ r h. one r h (same_or_not r to); all = sizes.all }
    where
      one : (r : ℕ) → r < length s.routes.items → (r ≡ to) ⊎ (r ≢ to) → get_or new r [] ≡ block_of (λ i c. below r i c +ℤ at sound r i c) (channels_at s r) s.block
      one r h (inl here) =
          ap (λ x. get_or new x []) here ∙ fed s.tracks.items s.block sound (below to) from (under.each to inside)
          ∙ ap (λ x. block_of (λ i c. below x i c +ℤ given (route_of s.tracks.items q) (channels_at s x) c (λ k. scale (sound i k) gain)) (channels_at s x) s.block) (sym here)
          ∙ ap (λ b. block_of (λ i c. below r i c +ℤ cond b (given (route_of s.tracks.items q) (channels_at s r) c (λ k. scale (sound i k) gain)) (pos 0)) (channels_at s r) s.block) (sym (equal_is to r (sym here)))
      one r h (inr elsewhere) = others r elsewhere ∙ under.each r h
          ∙ same_block (below r) (λ i c. below r i c +ℤ at sound r i c) (channels_at s r) s.block (few_at s formed r h q)
          (λ i c low high. let away : (to == r) ≡ false = apart_is to r (λ e. elsewhere (sym e)) in rw away (omega (arith, ints)))

  pub near_one : GoesOn 34359738368 (get_or old to []) (get_or new to []) → EachGoesOn 34359738368 old new
  near_one goes b near r = go (same_or_not r to)
    where
      go : (r ≡ to) ⊎ (r ≢ to) → AllNear (b + 34359738368) (get_or new r [])
      go (inl here) = subst (λ x. AllNear (b + 34359738368) (get_or new x [])) (sym here) (goes b (near to))
      go (inr elsewhere) = subst (AllNear (b + 34359738368)) (sym (others r elsewhere)) (near_more b (b + 34359738368) (get_or old r []) (omega arith) (near r))

-- ---- the output and the sends

module _ (s : Session) (formed : IsFormed s) (q : Route) where
  -- other values that are the same where the routes have frames and channels
  pub blocks_within : (value other : ℕ → ℕ → ℕ → ℤ) (blocks : List (List ℤ)) → ((r i c : ℕ) → r < length s.routes.items → i < s.block → c < channels_at s r → value r i c ≡ other r i c)
      → AreBlocks s value blocks → AreBlocks s other blocks
  blocks_within value other blocks each are = record {
    each = λ r h. are.each r h ∙ same_block (value r) (other r) (channels_at s r) s.block (few_at s formed r h q) (λ i c low high. each r i c h low high);
    all = are.all;
  }

  -- other values that are the same
  pub blocks_same : (value other : ℕ → ℕ → ℕ → ℤ) (blocks : List (List ℤ)) → ((r i c : ℕ) → value r i c ≡ other r i c) → AreBlocks s value blocks → AreBlocks s other blocks
  blocks_same value other blocks each are = blocks_within value other blocks (λ r i c h low high. each r i c) are

  pub nothing_out : (below : ℕ → ℕ → ℕ → ℤ) (before behind : ℕ → ℕ → ℤ) (blocks : List (List ℤ)) → q.target ≡ None → AreBlocks s below blocks
      → AreBlocks s (λ r i c. below r i c +ℤ put_out s q r c (before i) (behind i)) blocks
  nothing_out below before behind blocks none are = blocks_same below (λ r i c. below r i c +ℤ put_out s q r c (before i) (behind i)) blocks
      (λ r i c. let quiet : leads_to r q.target ≡ false = ap (leads_to r) none in rw quiet (omega (arith, ints))) are

  pub output_out : (to : ℕ) (below : ℕ → ℕ → ℕ → ℤ) (before behind : ℕ → ℕ → ℤ) (blocks : List (List ℤ)) → q.target ≡ Some to
      → AreBlocks s (λ r i c. below r i c +ℤ cond (to == r) (given (route_of s.tracks.items q) (channels_at s r) c (λ k. scale (behind i k) unity)) (pos 0)) blocks
      → AreBlocks s (λ r i c. below r i c +ℤ put_out s q r c (before i) (behind i)) blocks
  output_out to below before behind blocks some are = blocks_same _ (λ r i c. below r i c +ℤ put_out s q r c (before i) (behind i)) blocks
      (λ r i c. ap (λ v. below r i c +ℤ cond (to == r) v (pos 0)) (given_same (route_of s.tracks.items q) (channels_at s r) c (λ k. scale (behind i k) unity) (behind i) (λ k. scale_unity (behind i k)))
      ∙ ap (λ o. below r i c +ℤ cond (leads_to r o) (given (route_of s.tracks.items q) (channels_at s r) c (behind i)) (pos 0)) (sym some)) are

  pub send_pre : (l : SendLink) (below : ℕ → ℕ → ℕ → ℤ) (before behind : ℕ → ℕ → ℤ) (blocks : List (List ℤ)) → l.pre ≡ true
      → AreBlocks s (λ r i c. below r i c +ℤ cond (l.to == r) (given (route_of s.tracks.items q) (channels_at s r) c (λ k. scale (before i k) l.gain)) (pos 0)) blocks
      → AreBlocks s (λ r i c. below r i c +ℤ sent_out s q (l ∷ []) r c (before i) (behind i)) blocks
  send_pre l below before behind blocks pre are = blocks_same _ (λ r i c. below r i c +ℤ sent_out s q (l ∷ []) r c (before i) (behind i)) blocks
      (λ r i c. ap (λ v. below r i c +ℤ v) (ap (λ b. cond (l.to == r) (given (route_of s.tracks.items q) (channels_at s r) c (λ k. scale (cond b (before i k) (behind i k)) l.gain)) (pos 0)) (sym pre) ∙ no_more _)) are

  pub send_post : (l : SendLink) (below : ℕ → ℕ → ℕ → ℤ) (before behind : ℕ → ℕ → ℤ) (blocks : List (List ℤ)) → l.pre ≡ false
      → AreBlocks s (λ r i c. below r i c +ℤ cond (l.to == r) (given (route_of s.tracks.items q) (channels_at s r) c (λ k. scale (behind i k) l.gain)) (pos 0)) blocks
      → AreBlocks s (λ r i c. below r i c +ℤ sent_out s q (l ∷ []) r c (before i) (behind i)) blocks
  send_post l below before behind blocks post are = blocks_same _ (λ r i c. below r i c +ℤ sent_out s q (l ∷ []) r c (before i) (behind i)) blocks
      (λ r i c. ap (λ v. below r i c +ℤ v) (ap (λ b. cond (l.to == r) (given (route_of s.tracks.items q) (channels_at s r) c (λ k. scale (cond b (before i k) (behind i k)) l.gain)) (pos 0)) (sym post) ∙ no_more _)) are

-- ---- one send after others

pub sent_more : (to : ℕ) (q : sound.Route) (channels c : ℕ) (before behind : ℕ → ℤ) (xs ys : List sound.Send) →
    sent to q channels c before behind (xs ++ ys) ≡ sent to q channels c before behind xs +ℤ sent to q channels c before behind ys
sent_more to q channels c before behind [] ys = sym (+ℤ_idl (sent to q channels c before behind ys))
sent_more to q channels c before behind (x ∷ xs) ys =
    ap (λ v. cond (x.to == to) (given q channels c (λ k. scale (cond x.pre (before k) (behind k)) x.gain)) (pos 0) +ℤ v) (sent_more to q channels c before behind xs ys)
    ∙ omega (arith, ints)

-- a gain by another name
pub at_gain : (s : Session) (formed : IsFormed s) (q : Route) (to gain other : ℕ) (below : ℕ → ℕ → ℕ → ℤ) (sound : ℕ → ℕ → ℤ) (blocks : List (List ℤ)) → gain ≡ other
    → AreBlocks s (λ r i c. below r i c +ℤ cond (to == r) (given (route_of s.tracks.items q) (channels_at s r) c (λ k. scale (sound i k) gain)) (pos 0)) blocks
    → AreBlocks s (λ r i c. below r i c +ℤ cond (to == r) (given (route_of s.tracks.items q) (channels_at s r) c (λ k. scale (sound i k) other)) (pos 0)) blocks
at_gain s formed q to gain other below sound blocks same are =
    subst (λ g. AreBlocks s (λ r i c. below r i c +ℤ cond (to == r) (given (route_of s.tracks.items q) (channels_at s r) c (λ k. scale (sound i k) g)) (pos 0)) blocks) same are

-- ---- one after another

-- what is given to all, of values before and after the fader
abbrev pub Gift : Type 0
Gift = ℕ → ℕ → (ℕ → ℤ) → (ℕ → ℤ) → ℤ

module _ (s : Session) (formed : IsFormed s) (q : Route) (input post : List ℤ) where
  pub given_then : (first second both : Gift) (old mid new : List (List ℤ)) → ((r c : ℕ) (before behind : ℕ → ℤ) → both r c before behind ≡ first r c before behind +ℤ second r c before behind)
      → IsGivenOn s q input post first old mid → IsGivenOn s q input post second mid new → IsGivenOn s q input post both old new
  given_then first second both old mid new each one two before behind below from under are =
      blocks_same s formed q _ (λ r i c. below r i c +ℤ both r c (before i) (behind i)) new
      (λ r i c. let e = each r c (before i) (behind i) in rw e (omega (arith, ints)))
      (two before behind (λ r i c. below r i c +ℤ first r c (before i) (behind i)) from under (one before behind below from under are))

  pub given_same_as : (first other : Gift) (old new : List (List ℤ)) → ((r c : ℕ) (before behind : ℕ → ℤ) → first r c before behind ≡ other r c before behind)
      → IsGivenOn s q input post first old new → IsGivenOn s q input post other old new
  given_same_as first other old new each one before behind below from under are =
      blocks_same s formed q _ (λ r i c. below r i c +ℤ other r c (before i) (behind i)) new
      (λ r i c. ap (λ v. below r i c +ℤ v) (each r c (before i) (behind i)))
      (one before behind below from under are)

-- the output and the first sends of a route
abbrev pub first_out : Session → Route → ℕ → Gift
first_out s q n r c before behind = put_out s q r c before behind +ℤ sent_out s q (take n q.sends.items) r c before behind

-- all are fed what the output and so many sends give
pub record IsSentSoFar (s : Session) (q : Route) (input post : List ℤ) (n : ℕ) (old new : List (List ℤ)) : Type 0 where
  pub given : IsGivenOn s q input post (first_out s q n) old new
  pub sizes : HaveSizes s new
  pub near : EachGoesOn ((n + 1) * 34359738368) old new

module _ (s : Session) (q : Route) where
  pub none_sent : (r c : ℕ) (before behind : ℕ → ℤ) → put_out s q r c before behind ≡ first_out s q 0 r c before behind
  none_sent r c before behind = no_more (put_out s q r c before behind)

  pub more_sent : (n : ℕ) (l : SendLink) → n < length q.sends.items → l ≡ get_or q.sends.items n l → (r c : ℕ) (before behind : ℕ → ℤ) →
      first_out s q (n + 1) r c before behind ≡ first_out s q n r c before behind +ℤ sent_out s q (l ∷ []) r c before behind
  more_sent n l inside is r c before behind =
      ap (λ ls. put_out s q r c before behind +ℤ sent r (route_of s.tracks.items q) (channels_at s r) c before behind ls)
      (map_more send_of q.sends.items n l inside ∙ ap (λ x. map send_of (take n q.sends.items) ++ send_of x ∷ []) (sym is))
      ∙ ap (λ v. put_out s q r c before behind +ℤ v) (sent_more r (route_of s.tracks.items q) (channels_at s r) c before behind (map send_of (take n q.sends.items)) (send_of l ∷ []))
      ∙ omega (arith, ints)

  pub all_sent : (n : ℕ) → length q.sends.items ≤ n → (r c : ℕ) (before behind : ℕ → ℤ) → first_out s q n r c before behind ≡ all_out s q r c before behind
  all_sent n long r c before behind = ap (λ ls. put_out s q r c before behind +ℤ sent_out s q ls r c before behind) (take_all n q.sends.items long)
