-- Numbers, the session's own part, sources and regions that the walk accepts are in range.
use Rattle.std.proofs.Common.{◌≡◌, ℕ, ◌+◌, ◌-◌, ◌*◌, ◌^◌, ◌<◌, ◌≤◌, Bool, true, false, ◌&&◌, nat_le, refl, subst, arith, Option, Some, None, codes}
use Rattle.std.specs.Prelude.{ℤ, pos, negsuc, Ok, Err}
use Rattle.std.specs.Option.{ok_or}
use Rattle.std.proofs.lemmas.Bool.Decides.{nat_tests}
use Rattle.sound_laws.proofs.Cases.{by_test}
use Rattle.toml.specs.Data.{Data}
use Rattle.session_model.specs.declared.key.Key.{Key}
use Rattle.session_model.specs.declared.key.Key.TheVariants as key
use Rattle.session_model.specs.declared.refusal.SessionRefusal.{SessionRefusal}
use Rattle.session_model.specs.declared.session.SourceDecl.{SourceDecl}
use Rattle.session_walk.specs.declared.said as text
use Rattle.session_walk.specs.declared.said.Version.{Version}
use Rattle.session_walk.specs.Section.{Section, Read, ◌>>=◌, holds, only, value_at}
use Rattle.sound_model.specs.Numbers.{unity}
use Rattle.session_model.specs.declared.refusal.SessionRefusal.TheVariants.{Range}
use Rattle.session_walk.specs.Values.{needed, or_default, integer_of, in_range, whole_of, whole, whole_or, gain_or, bits, version, flag_or, name, name_or, file, shape_or}
use Rattle.session_walk.specs.Arrays.{each}
use Rattle.session_walk.specs.Parts.{head_keys, source_keys, region_keys, head_of, source_of, span_of, fades_of, region_of}
use Rattle.session_walk.specs.InRange.{IsHead, IsSource, IsRegionText}

-- ---- steps

-- where a reading succeeds, so do its first step and what follows
pub after : {A B : Type 0} {P : Type 0} (r : Read A) (f : A → Read B) (b : B) → (r >>= f) ≡ Ok b → ((a : A) → r ≡ Ok a → f a ≡ Ok b → P) → P
after (Ok a) f b e k = k a refl e
after (Err x) f b e k = cc

pub kept : (b : Bool) (x : SessionRefusal) (u : Unit {0}) → holds b x ≡ Ok u → b ≡ true
kept true x u e = refl
kept false x u e = cc

pub some-in : {A : Type 0} (o : Option A) (x : SessionRefusal) (a : A) → ok_or o x ≡ Ok a → o ≡ Some a
some-in (Some b) x a e = cc
some-in None x a e = cc

pub default-in : {A : Type 0} (P : A → Type 0) (default : A) (read : Data → Read A) (o : Option Data) (a : A) → P default → ((d : Data) → read d ≡ Ok a → P a) → or_default default read o ≡ Ok a → P a
default-in {A} P default read None a base each e = let same : default ≡ a = cc in subst P same base
default-in P default read (Some d) a base each e = each d e

-- ---- numbers

pub record Within (low n high : ℕ) : Type 0 where
  pub least : low ≤ n
  pub most : n ≤ high

range-in : (low high : ℕ) (z : ℤ) (n : ℕ) → in_range low high z ≡ Some n → Within low n high
range-in low high (negsuc k) n e = cc
range-in low high (pos k) n e = by_test (nat_le low k && nat_le k high)
    (λ t. go t (rw t at e))
    (λ t. none t (rw t at e))
  where
    go : (nat_le low k && nat_le k high) ≡ true → Some k ≡ Some n → Within low n high
    go t f = let same : k ≡ n = cc in record { least = grind (arith, nat_tests); most = grind (arith, nat_tests) }

    none : (nat_le low k && nat_le k high) ≡ false → None ≡ Some n → Within low n high
    none t f = cc

pub whole_of-in : (s : Section) (k : Key) (low high : ℕ) (d : Data) (n : ℕ) → whole_of s k low high d ≡ Ok n → Within low n high
whole_of-in s k low high d n e = after (integer_of s k d) _ n e (λ z one last. range-in low high z n (some-in (in_range low high z) (Range s.place k) n last))

pub whole-in : (s : Section) (k : Key) (low high n : ℕ) → whole s k low high ≡ Ok n → Within low n high
whole-in s k low high n e = after (needed s k) _ n e (λ d one last. whole_of-in s k low high d n last)

whole_or-in : (s : Section) (k : Key) (default low high n : ℕ) → low ≤ default → default ≤ high → whole_or s k default low high ≡ Ok n → Within low n high
whole_or-in s k default low high n least most e =
    default-in (λ m. Within low m high) default (whole_of s k low high) (value_at s k) n (record { least = least; most = most }) (λ d. whole_of-in s k low high d n) e

gain-in : (s : Section) (k : Key) (n : ℕ) → gain_or s k ≡ Ok n → n ≤ 262144
gain-in s k n e = (whole_or-in s k unity 0 262144 n (omega arith) (omega arith) e).most

pub le-kept : (a b : ℕ) (x : SessionRefusal) (u : Unit {0}) → holds (nat_le a b) x ≡ Ok u → a ≤ b
le-kept a b x u e = let t = kept (nat_le a b) x u e in grind (arith, nat_tests)

-- ---- the session's own part, and sources

pub head-in : (s : Section) (h : text.Head.Head) → head_of s ≡ Ok h → IsHead h
unfolding head_of
head-in s h e = after (only s head_keys) _ h e (λ u0 e0 e. after (version s key.Version) _ h e (λ v ev e. after (whole s key.Rate 8000 192000) _ h e (λ rate er e.
    after (bits s key.Bits) _ h e (λ b eb e. after (whole s key.Channels 1 2) _ h e (λ channels ec e. after (whole s key.Block 1 4096) _ h e (λ block ek e.
    after (whole s key.Depth 2 256) _ h e (λ depth ed e. after (holds (nat_le (depth * block) 65536) (Range s.place key.Depth)) _ h e (λ u2 ef e.
    after (name_or s key.Takes (codes "take")) _ h e (λ takes et e.
    let r = whole-in s key.Rate 8000 192000 rate er in
    let c = whole-in s key.Channels 1 2 channels ec in
    let k = whole-in s key.Block 1 4096 block ek in
    let d = whole-in s key.Depth 2 256 depth ed in
    let is : record { version = v; rate = rate; bits = b; channels = channels; block = block; depth = depth; takes = takes } ≡ h = cc in
    subst IsHead is (record {
      slowest = r.least;
      fastest = r.most;
      channels_least = c.least;
      channels_most = c.most;
      block_least = k.least;
      block_most = k.most;
      depth_least = d.least;
      depth_most = d.most;
      ring = le-kept (depth * block) 65536 (Range s.place key.Depth) u2 ef;
    }))))))))))

pub source-in : (s : Section) (h : SourceDecl) → source_of s ≡ Ok h → IsSource h
unfolding source_of
source-in s h e = after (only s source_keys) _ h e (λ u0 e0 e. after (name s key.Name) _ h e (λ n en e. after (file s key.File) _ h e (λ f ef e.
    after (whole s key.Channels 1 2) _ h e (λ channels ec e.
    let c = whole-in s key.Channels 1 2 channels ec in
    let is : record { name = n; file = f; channels = channels } ≡ h = cc in
    subst IsSource is (record { channels_least = c.least; channels_most = c.most })))))

-- ---- regions

record IsSpan (p : text.Span.Span) : Type 0 where
  start : p.start < 2 ^ 40
  some : 1 ≤ p.length
  long : p.length ≤ 2 ^ 40
  source_end : p.start + p.length ≤ 2 ^ 40
  end : p.at + p.length ≤ 2 ^ 40

span-in : (s : Section) (p : text.Span.Span) → span_of s ≡ Ok p → IsSpan p
unfolding span_of
span-in s p e = after (whole_or s key.Start 0 0 1099511627775) _ p e (λ start es e. after (whole s key.Length 1 1099511627776) _ p e (λ long el e.
    after (holds (nat_le (start + long) 1099511627776) (Range s.place key.Length)) _ p e (λ u0 e0 e. after (whole s key.At 0 1099511627776) _ p e (λ at ea e.
    after (holds (nat_le (at + long) 1099511627776) (Range s.place key.At)) _ p e (λ u1 e1 e.
    let l = whole-in s key.Length 1 1099511627776 long el in
    let b = whole_or-in s key.Start 0 0 1099511627775 start (omega arith) (omega arith) es in
    let is : record { start = start; length = long; at = at } ≡ p = cc in
    subst IsSpan is (record { start = omega (arith, b.most); some = l.least; long = l.most; source_end = le-kept _ _ _ u0 e0; end = le-kept _ _ _ u1 e1 }))))))

fades-in : (s : Section) (long : ℕ) (f : text.Fades.Fades) → fades_of s long ≡ Ok f → f.fade_in + f.fade_out ≤ long
unfolding fades_of
fades-in s long f e = after (whole_or s key.FadeIn 0 0 long) _ f e (λ a ea e. after (whole_or s key.FadeOut 0 0 (long - a)) _ f e (λ b eb e.
    after (shape_or s key.ShapeIn) _ f e (λ shape_in ei e. after (shape_or s key.ShapeOut) _ f e (λ shape_out eo e.
    let x = whole_or-in s key.FadeIn 0 0 long a (omega arith) (omega arith) ea in
    let y = whole_or-in s key.FadeOut 0 0 (long - a) b (omega arith) (omega arith) eb in
    let is : record { fade_in = a; fade_out = b; shape_in = shape_in; shape_out = shape_out } ≡ f = cc in
    let P : text.Fades.Fades → Type 0 = λ g. g.fade_in + g.fade_out ≤ long in
    subst P is (omega (arith, x.most, y.most))))))

pub region-in : (version : Version) (s : Section) (r : text.RegionText.RegionText) → region_of version s ≡ Ok r → IsRegionText r
unfolding region_of
region-in version s r e = after (only s (region_keys version)) _ r e (λ u0 e0 e. after (whole s key.Id 1 999999) _ r e (λ id ei e. after (name s key.Source) _ r e (λ source en e.
    after (span_of s) _ r e (λ span es e. after (whole_or s key.Layer 0 0 65535) _ r e (λ layer el e. after (gain_or s key.Gain) _ r e (λ gain eg e.
    after (flag_or s key.Opaque true) _ r e (λ opaque eo e. after (fades_of s span.length) _ r e (λ fades ef e.
    let i = whole-in s key.Id 1 999999 id ei in
    let p = span-in s span es in
    let l = whole_or-in s key.Layer 0 0 65535 layer (omega arith) (omega arith) el in
    let is : record { id = id; source = source; span = span; layer = layer; gain = gain; opaque = opaque; fades = fades } ≡ r = cc in
    subst IsRegionText is (record {
      id_least = i.least;
      id_most = i.most;
      start = p.start;
      some = p.some;
      long = p.long;
      source_end = p.source_end;
      end = p.end;
      layer = l.most;
      gain = gain-in s key.Gain gain eg;
      fades = fades-in s span.length fades ef;
    })))))))))
