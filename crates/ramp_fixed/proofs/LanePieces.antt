-- The pieces of a lane, by the points that they lie between.
use Rattle.std.proofs.Common.{◌≡◌, ℕ, ◌+◌, ◌-◌, ◌*◌, ◌/◌, ◌<◌, ◌≤◌, true, false, List, [], ◌∷◌, ◌++◌, map, replicate, length, get_or, take, drop, refl, sym, ap, subst, ◌∙◌, arith}
use Rattle.std.proofs.lemmas.List.{drop_more, drop_all, take-append-drop}
use Rattle.std.proofs.Math.Nat.{div-lt_iff_lt-mul, mul-le-mul}
use Rattle.sound_model.specs.Lanes.{Point, rises, between, lane_value}
use Rattle.ramp_fixed.specs.declared.piece.Piece.{Piece}
use Rattle.ramp_fixed.specs.Pieces.{IsFlat, IsLineOf, IsPiece}
use Rattle.ramp_fixed.proofs.LaneLaws.{lane_is_the_line, value_rises, value_falls}

-- ---- a lane by its points' indices

pub before_first : (fader : ℕ) (points : List Point) (d : Point) (x : ℕ) → 0 < length points → x < (get_or points 0 d).at → lane_value fader points x ≡ (get_or points 0 d).gain
before_first fader [] d x h below = absurd (omega arith)
before_first fader (p ∷ ps) d x h below = lane_is_the_line.before fader p ps x below

pub from_last : (fader : ℕ) (points : List Point) (d : Point) (j x : ℕ) → rises points ≡ true → j + 1 ≡ length points → (get_or points j d).at ≤ x → lane_value fader points x ≡ (get_or points j d).gain
from_last fader points d j x h long on =
    let last : drop (j + 1) points ≡ [] = drop_all (j + 1) points (omega arith) in
    let parts : points ≡ take j points ++ get_or points j d ∷ [] = sym (take-append-drop j points) ∙ ap (λ ps. take j points ++ ps) (drop_more points j d (omega arith) ∙ ap (λ ps. get_or points j d ∷ ps) last) in
    ap (λ ps. lane_value fader ps x) parts
    ∙ lane_is_the_line.after fader (take j points) (get_or points j d) x (subst (λ ps. rises ps ≡ true) parts h) on

pub from_neighbour : (fader : ℕ) (points : List Point) (d : Point) (j x : ℕ) → rises points ≡ true → j + 1 < length points → (get_or points j d).at ≤ x → x < (get_or points (j + 1) d).at
    → lane_value fader points x ≡ between (get_or points j d) (get_or points (j + 1) d) x
from_neighbour fader points d j x h long on below =
    let parts : points ≡ take j points ++ get_or points j d ∷ get_or points (j + 1) d ∷ drop (j + 1 + 1) points =
    sym (take-append-drop j points) ∙ ap (λ ps. take j points ++ ps) (drop_more points j d (omega arith) ∙ ap (λ ps. get_or points j d ∷ ps) (drop_more points (j + 1) d long)) in
    ap (λ ps. lane_value fader ps x) parts
    ∙ lane_is_the_line.along fader (take j points) (drop (j + 1 + 1) points) (get_or points j d) (get_or points (j + 1) d) x (subst (λ ps. rises ps ≡ true) parts h) on below

-- ---- pieces

pub flat_is_piece : (fader : ℕ) (points : List Point) (piece : Piece) (gain : ℕ) → piece.gain ≡ gain → piece.falls ≡ false → piece.rise ≡ 0 → piece.over ≡ 1
    → IsFlat fader points piece.since piece.until gain → IsPiece fader points piece
flat_is_piece fader points piece gain g f r o flat =
    record {
      some = omega arith;
      over = omega arith;
      rise = omega arith;
      above = λ x h m falls. cc;
      heard = λ x h m. flat x h m ∙ (let none : (0 * (x - piece.since) + 0) / 1 ≡ 0 = omega arith in rw (f, r, o, g, none) (omega arith));
    }

falls_within : (n over rise : ℕ) → 0 < over → n ≤ over → (rise * n + (over - 1)) / over ≤ rise
falls_within n over rise some within =
    let far : rise * n ≤ rise * over = mul-le-mul (omega arith) within in
    let part : (rise * n + (over - 1)) / over < rise + 1 = (div-lt_iff_lt-mul {k = over} {x = rise * n + (over - 1)} {y = rise + 1} some).1 (omega arith) in
    omega arith

pub falling_is_piece : (fader : ℕ) (points : List Point) (piece : Piece) (p q : Point) → p.at < q.at → q.at ≤ 1099511627776 → p.gain ≤ 262144 → q.gain < p.gain
    → piece.since ≡ p.at → piece.until ≡ q.at → piece.gain ≡ p.gain → piece.falls ≡ true → piece.rise ≡ p.gain - q.gain → piece.over ≡ q.at - p.at
    → IsLineOf fader points p q → IsPiece fader points piece
falling_is_piece fader points piece p q rising near quiet down s u g f r o line =
    record {
      some = omega arith;
      over = omega arith;
      rise = omega arith;
      above = λ x h m falls. rw (f, r, o, s, g) (let low = falls_within (x - p.at) (q.at - p.at) (p.gain - q.gain) (omega arith) (omega arith) in omega arith);
      heard = λ x h m. line x (omega arith) (omega arith) ∙ value_falls p.gain q.gain (x - p.at) (q.at - p.at) down (omega arith) (omega arith) ∙ rw (f, r, o, s, g) refl;
    }

pub rising_is_piece : (fader : ℕ) (points : List Point) (piece : Piece) (p q : Point) → p.at < q.at → q.at ≤ 1099511627776 → q.gain ≤ 262144 → p.gain ≤ q.gain
    → piece.since ≡ p.at → piece.until ≡ q.at → piece.gain ≡ p.gain → piece.falls ≡ false → piece.rise ≡ q.gain - p.gain → piece.over ≡ q.at - p.at
    → IsLineOf fader points p q → IsPiece fader points piece
rising_is_piece fader points piece p q rising near quiet up s u g f r o line =
    record {
      some = omega arith;
      over = omega arith;
      rise = omega arith;
      above = λ x h m falls. cc;
      heard = λ x h m. line x (omega arith) (omega arith) ∙ value_rises p.gain q.gain (x - p.at) (q.at - p.at) up
          ∙ rw (f, r, o, s, g) (ap (λ n. p.gain + n / (q.at - p.at)) (omega arith));
    }

pub repeated_is_map : (f : ℕ → ℕ) (v n : ℕ) (xs : List ℕ) → n ≡ length xs → ((x : ℕ) → f x ≡ v) → replicate n v ≡ map f xs
repeated_is_map f v n [] e each = rw e refl
repeated_is_map f v n (x ∷ xs) e each = rw (e, each x) (ap (λ ys. v ∷ ys) (repeated_is_map f v (length xs) xs refl each))
