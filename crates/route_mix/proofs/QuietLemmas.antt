-- A route that is closed or silent gives nothing, and one that is open gives what passes its fader.
use Rattle.std.proofs.Common.{◌≡◌, ℕ, zero, suc, ◌+◌, ◌*◌, ◌/◌, ◌%◌, ◌<◌, ◌≤◌, inl, inr, ℤ, pos, ◌+ℤ◌, Bool, true, false, cond, List, [], ◌∷◌, length, get_or, map, All, refl, ap, ap₂, sym, ◌∙◌, subst, arith}
use Rattle.std.specs.Prelude.{◌==◌, ◌&&◌, Option, Some, None}
use Rattle.std.proofs.lemmas.Int.{ints}
use Rattle.std.proofs.lemmas.Bool.{eqb-true}
use Rattle.std.proofs.lemmas.Bool.Decides.{nat_tests}
use Rattle.std.proofs.lemmas.List.FromFn.{get_or-map-range_with_len}
use Rattle.std.proofs.lemmas.List.Elements.{All-head, All-tail}
use Rattle.sound_model.specs.Numbers.{scale, clip}
use Rattle.sound_model.specs.Lanes.{gain_at}
use Rattle.sound_model.specs.Routes as sound
use Rattle.sound_model.specs.Routes.{given, leads_to, sent, is_open, post, fed}
use Rattle.sound_laws.proofs.Cases.{by_test, cond_same}
use Rattle.sound_laws.proofs.NumberLaws.{scale-zero}
use Rattle.ses_units.specs.Mode.{mode_of}
use Rattle.session_model.specs.declared.route.Route.{Route}
use Rattle.session_model.specs.declared.route.SendLink.{SendLink}
use Rattle.session_model.specs.declared.session.Session.{Session}
use Rattle.session_model.specs.Formed.{IsFormed, IsFormedRoute, MayFeed, channels_at}
use Rattle.session_model.specs.Views.{route_of, send_of}
use Rattle.route_mix.specs.Blocks.{block_of, silence, AreFew}
use Rattle.route_mix.specs.Faders.{IsFaded, frame_gain}
use Rattle.route_mix.specs.Feeds.{IsGivenOn, all_out}
use Rattle.route_mix.specs.Turns.{IsGiven, place_at}
use Rattle.route_mix.proofs.GivingLemmas.{blocks_same, blocks_within}
use Rattle.route_mix.proofs.BlockLemmas.{same_block, silent_block}
use Rattle.route_mix.proofs.RouteLemmas.{few_of, most_at, channels_there, to_within, wide_there, may_out}

-- ---- silence

frame_of : (i c channels : ℕ) → AreFew channels → c < channels → (i * channels + c) / channels ≡ i
frame_of i c channels (inl one) m = rw one (omega arith)
frame_of i c channels (inr two) m = rw two (omega arith)

channel_of : (i c channels : ℕ) → AreFew channels → c < channels → (i * channels + c) % channels ≡ c
channel_of i c channels (inl one) m = rw one (omega arith)
channel_of i c channels (inr two) m = rw two (omega arith)

place_within : (i c channels frames : ℕ) → AreFew channels → i < frames → c < channels → i * channels + c < frames * channels
place_within i c channels frames (inl one) h m = rw one (omega arith)
place_within i c channels frames (inr two) h m = rw two (omega arith)

-- a sample of a block
pub block_at : (f : ℕ → ℕ → ℤ) (channels frames i c : ℕ) → AreFew channels → i < frames → c < channels → get_or (block_of f channels frames) (i * channels + c) (pos 0) ≡ f i c
block_at f channels frames i c few h m =
    get_or-map-range_with_len (λ k. f (k / channels) (k % channels)) 0 (frames * channels) (i * channels + c) (i * channels + c) (pos 0) (place_within i c channels frames few h m) (omega arith)
    ∙ ap₂ f (frame_of i c channels few m) (channel_of i c channels few m)

silence_at : (n j : ℕ) → get_or (silence n) j (pos 0) ≡ pos 0
silence_at zero j = refl
silence_at (suc n) zero = refl
silence_at (suc n) (suc j) = silence_at n j

silent_at : (f : ℕ → ℕ → ℤ) (channels frames i c : ℕ) → AreFew channels → silence (frames * channels) ≡ block_of f channels frames → i < frames → c < channels → f i c ≡ pos 0
silent_at f channels frames i c few is h m = sym (block_at f channels frames i c few h m) ∙ ap (λ xs. get_or xs (i * channels + c) (pos 0)) (sym is) ∙ silence_at (frames * channels) (i * channels + c)

no_more_of : {a b : ℤ} → b ≡ pos 0 → a ≡ a +ℤ b
no_more_of e = rw e (omega (arith, ints))

no_sum : {a b : ℤ} → a ≡ pos 0 → b ≡ pos 0 → a +ℤ b ≡ pos 0
no_sum e f = rw (e, f) refl

-- nothing within the channels
abbrev pub IsNothing : ℕ → (ℕ → ℤ) → Type 0
IsNothing channels value = (k : ℕ) → k < channels → value k ≡ pos 0

given_nothing : (q : sound.Route) (channels c : ℕ) (value : ℕ → ℤ) → 1 ≤ q.channels → q.channels ≤ channels → channels ≤ 2 → c < channels → IsNothing q.channels value → given q channels c value ≡ pos 0
given_nothing q channels c value some wide most here none = by_test (q.channels == 1 && channels == 2)
    (λ e. ap (λ b. cond b (scale (value 0) (cond (c == 0) q.left q.right)) (value c)) e ∙ ap (λ v. scale v (cond (c == 0) q.left q.right)) (none 0 (omega arith)) ∙ scale-zero (cond (c == 0) q.left q.right))
    (λ e. ap (λ b. cond b (scale (value 0) (cond (c == 0) q.left q.right)) (value c)) e ∙ none c (grind (arith, nat_tests)))

module _ (s : Session) (place : ℕ) (q : Route) (is : IsFormedRoute s place q) (r c : ℕ) (most : channels_at s r ≤ 2) (here : c < channels_at s r) (before behind : ℕ → ℤ)
    (quiet : IsNothing q.channels before) (silent : IsNothing q.channels behind) where
  abbrev own : sound.Route
  own = route_of s.tracks.items q

  wide_at : (to : ℕ) → MayFeed s q to → (to == r) ≡ true → q.channels ≤ channels_at s r
  wide_at to may e = subst (λ n. q.channels ≤ channels_at s n) (eqb-true to r e) (subst (λ n. q.channels ≤ n) (sym (channels_there s to q (to_within s q to may))) (wide_there s q to may q))

  put_nothing : (o : Option ℕ) → q.target ≡ o → cond (leads_to r o) (given own (channels_at s r) c behind) (pos 0) ≡ pos 0
  put_nothing None e = refl
  put_nothing (Some to) e = by_test (to == r)
      (λ t. ap (λ b. cond b (given own (channels_at s r) c behind) (pos 0)) t ∙ given_nothing own (channels_at s r) c behind is.channels.least (wide_at to (may_out s place q to is e) t) most here silent)
      (λ t. ap (λ b. cond b (given own (channels_at s r) c behind) (pos 0)) t)

  sent_nothing : (ls : List SendLink) → All (λ l. MayFeed s q l.to) ls → sent r own (channels_at s r) c before behind (map send_of ls) ≡ pos 0
  sent_nothing [] all = refl
  sent_nothing (l ∷ ls) all = no_sum (by_test (l.to == r)
      (λ t. ap (λ b. cond b (given own (channels_at s r) c value) (pos 0)) t ∙ given_nothing own (channels_at s r) c value is.channels.least (wide_at l.to (All-head (λ x. MayFeed s q x.to) l ls all) t) most here
      (λ k h. ap (λ v. scale v l.gain) (cond_same l.pre (before k) (behind k) (pos 0) (quiet k h) (silent k h)) ∙ scale-zero l.gain))
      (λ t. ap (λ b. cond b (given own (channels_at s r) c value) (pos 0)) t))
      (sent_nothing ls (All-tail (λ x. MayFeed s q x.to) l ls all))
    where
      value : ℕ → ℤ
      value = λ k. scale (cond l.pre (before k) (behind k)) l.gain

  pub nothing_given : cond (leads_to r q.target) (given own (channels_at s r) c behind) (pos 0) +ℤ sent r own (channels_at s r) c before behind (map send_of q.sends.items) ≡ pos 0
  nothing_given = no_sum (put_nothing q.target refl) (sent_nothing q.sends.items is.sends)

-- ---- what is given of an input

-- what a route gives of an input, where it is open or not
given_where : Session → Route → ℕ → ℕ → ℕ → (ℕ → ℤ) → Bool → ℤ
given_where s q x r c input through = let own = route_of s.tracks.items q in let gain = gain_at own.mode own.fader own.lane x in
    cond (leads_to r q.target) (given own (channels_at s r) c (λ k. cond through (clip (scale (input k) gain)) (pos 0))) (pos 0)
    +ℤ sent r own (channels_at s r) c (λ k. cond through (input k) (pos 0)) (λ k. cond through (clip (scale (input k) gain)) (pos 0)) (map send_of q.sends.items)

module _ (s : Session) (solo : Bool) (q : Route) (x r c : ℕ) (input : ℕ → ℤ) where
  pub open_gives : is_open solo (route_of s.tracks.items q) ≡ true → all_out s q r c input (λ k. clip (scale (input k) (gain_at (mode_of q.mode) q.fader q.lane x))) ≡ fed solo x r (channels_at s r) c (route_of s.tracks.items q) input
  unfolding given_where
  open_gives through = ap (given_where s q x r c input) (sym through)

  pub closed_gives : (place : ℕ) → IsFormedRoute s place q → channels_at s r ≤ 2 → c < channels_at s r → is_open solo (route_of s.tracks.items q) ≡ false → fed solo x r (channels_at s r) c (route_of s.tracks.items q) input ≡ pos 0
  unfolding given_where
  closed_gives place is most here closed = ap (given_where s q x r c input) closed ∙ nothing_given s place q is r c most here (λ k. pos 0) (λ k. pos 0) (λ k h. refl) (λ k h. refl)

  pub silent_gives : (place : ℕ) → IsFormedRoute s place q → channels_at s r ≤ 2 → c < channels_at s r → IsNothing q.channels input → fed solo x r (channels_at s r) c (route_of s.tracks.items q) input ≡ pos 0
  silent_gives place is most here none = nothing_given s place q is r c most here _ _
      (λ k h. cond_same (is_open solo (route_of s.tracks.items q)) (input k) (pos 0) (pos 0) (none k h) refl)
      (λ k h. cond_same (is_open solo (route_of s.tracks.items q)) _ (pos 0) (pos 0) (ap (λ v. clip (scale v (gain_at (mode_of q.mode) q.fader q.lane x))) (none k h) ∙ ap clip (scale-zero (gain_at (mode_of q.mode) q.fader q.lane x))) refl)

-- ---- a turn

module _ (s : Session) (formed : IsFormed s) (place : ℕ) (q : Route) (is : IsFormedRoute s place q) (solo : Bool) (places : List ℕ) (input : List ℤ) (old : List (List ℤ)) where
  abbrev few : AreFew q.channels
  few = few_of q.channels is.channels.least is.channels.most

  -- the route is closed
  pub closed_turn : is_open solo (route_of s.tracks.items q) ≡ false → IsGiven s solo q places input (silence (s.block * q.channels)) old old
  closed_turn closed = record {
    post = λ sound from. silent_block q.channels s.block ∙ same_block (λ i c. pos 0) _ q.channels s.block few
        (λ i c h m. ap (λ b. cond b (clip (scale (sound i c) (gain_at (mode_of q.mode) q.fader q.lane (place_at places i)))) (pos 0)) (sym closed));
    others = λ sound below from under. blocks_within s formed q below _ old
        (λ r i c within h m. no_more_of (closed_gives s solo q (place_at places i) r c (sound i) place is (most_at s formed r within q) m closed)) under;
  }

  -- it takes in nothing
  pub silent_turn : input ≡ silence (s.block * q.channels) → IsGiven s solo q places input (silence (s.block * q.channels)) old old
  silent_turn silent = record {
    post = λ sound from. silent_block q.channels s.block ∙ same_block (λ i c. pos 0) _ q.channels s.block few
        (λ i c h m. sym (cond_same (is_open solo (route_of s.tracks.items q)) _ (pos 0) (pos 0)
        (ap (λ v. clip (scale v (gain_at (mode_of q.mode) q.fader q.lane (place_at places i)))) (silent_at sound q.channels s.block i c few (sym silent ∙ from) h m)
        ∙ ap clip (scale-zero (gain_at (mode_of q.mode) q.fader q.lane (place_at places i)))) refl));
    others = λ sound below from under. blocks_within s formed q below _ old
        (λ r i c within h m. no_more_of (silent_gives s solo q (place_at places i) r c (sound i) place is (most_at s formed r within q) m
        (λ k lt. silent_at sound q.channels s.block i k few (sym silent ∙ from) h lt))) under;
  }

  -- it is open
  pub open_turn : (post : List ℤ) (new : List (List ℤ)) → is_open solo (route_of s.tracks.items q) ≡ true → length places ≡ s.block → IsFaded q places input post → IsGivenOn s q input post (all_out s q) old new
      → IsGiven s solo q places input post old new
  open_turn post new through long faded given = record {
    post = λ sound from. at_fader sound from
        ∙ ap (λ b. block_of (λ i c. cond b (clip (scale (sound i c) (frame_gain q places i))) (pos 0)) q.channels s.block) (sym through);
    others = λ sound below from under. blocks_same s formed q _ _ new
        (λ r i c. ap (λ v. below r i c +ℤ v) (open_gives s solo q (place_at places i) r c (sound i) through))
        (given sound (λ i k. clip (scale (sound i k) (frame_gain q places i))) below from (at_fader sound from) under);
  }
    where
      at_fader : (sound : ℕ → ℕ → ℤ) → input ≡ block_of sound q.channels s.block → post ≡ block_of (λ i c. clip (scale (sound i c) (frame_gain q places i))) q.channels s.block
      at_fader sound from = faded sound (from ∙ ap (block_of sound q.channels) (sym long)) ∙ ap (block_of (λ i c. clip (scale (sound i c) (frame_gain q places i))) q.channels) long
