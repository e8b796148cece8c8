-- A block is given to a file: it is added, and then the head is renewed.
use Rattle.std.proofs.Common.{◌≡◌, inl, inr, ℕ, suc, ◌-◌, ◌*◌, ◌/◌, ◌<◌, ◌≤◌, Bool, true, false, ◌⊎◌, List, [], ◌∷◌, ◌++◌, length, take, drop, Option, None, Some, refl, sym, ap, ap₂, subst, ◌∙◌, arith, Result, Ok, Err, IsErr, OnOk, OnErr, true≢false}
use Rattle.std.specs.Prelude.{replicate, nat_lt, min, max, not, ◌==◌, ◌&&◌, if◌then◌else◌}
use Rattle.std.proofs.lemmas.Bool.{and_parts, cases_Bool, cases_lt, eqb-true, ltb-false, ne_eqb}
use Rattle.std.proofs.lemmas.List.{length-append, length-take-le}
use Rattle.ses_units.specs.Bits.{bits_of}
use Rattle.sound_model.specs.Wav.{header, sound_bytes}
use Rattle.ses_io.specs.Faults.{risen}
use Rattle.ses_io.specs.Files.{Files, content, with_file, overwritten, HasRange, OverwritesSome}
use Rattle.ses_io.specs.Outside.{MediaOutside, WriteCause}
use Rattle.ses_io.proofs.Files.{with_file-same, with_file-twice}
use Rattle.session_model.specs.declared.session.Session.{Session}
use Rattle.engine_model.specs.Takes.{take_form, take_name}
use Rattle.capture_flush.specs.declared.track.Place.{Place}
use Rattle.capture_flush.specs.Blocks.{Block, block_samples, comes_after, is_kept}
use Rattle.capture_flush.specs.Taking.{Taking, has_failed, is_given, last_of}
use Rattle.capture_flush.specs.Flushed.{Gives, GivesInPart, added, block_bytes, head_of, is_new, next_index, no_blocks, renewed, second_blocks, stated, with_given}
use Rattle.capture_flush.specs.Writes.{Adds, with_more}
use Rattle.capture_flush.proofs.AddedLemmas.{OnlyAt, only_some, only_written}
use Rattle.capture_flush.proofs.EndingLemmas.{OnErr-map, OnOk-map, behind_front, content-more, over_front, there_is}
use Rattle.capture_flush.proofs.HeaderLemmas.{behind_head, head_is, head_long, header_long}
use Rattle.capture_flush.proofs.SilenceLemmas.{sound_long}
use Rattle.capture_flush.proofs.WriteLemmas.{content-same}

-- ---- the head over the front

-- a file with the head of so many blocks has, once it is renewed, that of those that stand now
pub renewed_is : (s : Session) (t : ℕ) (name : List ℕ) (before after : ℕ) (sound : List ℕ) (files : Files) →
    renewed s t name before after (with_file files name (head_of s t before ++ sound)) ≡ with_file files name (head_of s t after ++ sound)
renewed_is s t name before after sound files = by (stated s t before == stated s t after) refl
  where
    middle : Files
    middle = with_file files name (head_of s t before ++ sound)

    by : (b : Bool) → (stated s t before == stated s t after) ≡ b → (if b then middle else with_file middle name (overwritten (content middle name) 0 (head_of s t after))) ≡ with_file files name (head_of s t after ++ sound)
    by true same = ap (λ h. with_file files name (h ++ sound))
        (head_is s t before ∙ ap (λ k. header (take_form s t) (k * block_bytes s t)) (eqb-true (stated s t before) (stated s t after) same) ∙ sym (head_is s t after))
    by false other = ap (λ held. with_file middle name (overwritten held 0 (head_of s t after))) (content-same files name (head_of s t before ++ sound))
        ∙ ap (with_file middle name) (over_front (head_of s t before ++ sound) (head_of s t after) (head_long s t after)
        ∙ ap (λ l. head_of s t after ++ l) (behind_head s t before sound))
        ∙ with_file-twice files name (head_of s t before ++ sound) (head_of s t after ++ sound)

-- the head that was worked out is the one that is meant
pub over_head : {T E : Type 0} (r : Result T E) (s : Session) (t after told : ℕ) (q name head : List ℕ) (old new : Files) → q ≡ name → told ≡ stated s t after →
    head ≡ header (take_form s t) (told * block_bytes s t) → OnErr r (OverwritesSome old new q 0 head) → OnErr r (OverwritesSome old new name 0 (head_of s t after))
over_head r s t after told q name head old new named is writes = OnErr-map r (λ some. subst (λ p. OverwritesSome old new p 0 (head_of s t after)) named
    (subst (λ h. OverwritesSome old new q 0 h) (writes ∙ ap (λ k. header (take_form s t) (k * block_bytes s t)) is ∙ sym (head_is s t after)) some))

pub over_all : {T E : Type 0} (r : Result T E) (s : Session) (t before after first told : ℕ) (q name head : List ℕ) (old new : Files) → q ≡ name → first ≡ stated s t before → told ≡ stated s t after →
    (first ≡ told → ⊥) → head ≡ header (take_form s t) (told * block_bytes s t) → OnOk r (new ≡ with_file old q (overwritten (content old q) 0 head)) → OnOk r (new ≡ renewed s t name before after old)
over_all r s t before after first told q name head old new named was is other writes = OnOk-map r (λ over. over ∙ ap₂ (λ p h. with_file old p (overwritten (content old p) 0 h)) named head_now
    ∙ sym (ap (λ c. if c then old else with_file old name (overwritten (content old name) 0 (head_of s t after))) differ))
  where
    head_now : head ≡ head_of s t after
    head_now = writes ∙ ap (λ k. header (take_form s t) (k * block_bytes s t)) is ∙ sym (head_is s t after)

    differ : (stated s t before == stated s t after) ≡ false
    differ = ne_eqb (stated s t before) (stated s t after) (λ same. other (was ∙ same ∙ sym is))

-- with some of a head over its front a file has the same sound
pub part_renewed : (held head : List ℕ) (files files' : Files) (name : List ℕ) → length head ≡ 44 → OverwritesSome (with_file files name held) files' name 0 head →
    (bytes : List ℕ) × (files' name ≡ Some bytes) × (drop 44 bytes ≡ drop 44 held)
part_renewed held head files files' name long some = let now = with_file files name held in let piece = take some.0 head in (
  overwritten (content now name) 0 piece,
  ap (λ fs. fs name) some.1.files ∙ with_file-same now name (overwritten (content now name) 0 piece),
  behind_front (content now name) piece (omega (arith, length-take-le some.0 head some.1.within, some.1.within, long)) ∙ ap (drop 44) (content-same files name held),
)

-- ---- no other file changes

pub only_more : (files : Files) (name bytes : List ℕ) → OnlyAt files (with_more files name bytes) name
only_more files name [] q other = refl
only_more files name (b ∷ bytes) q other = only_written files name (content files name ++ b ∷ bytes) q other

only_renewed : (s : Session) (t : ℕ) (name : List ℕ) (before after : ℕ) (files : Files) → OnlyAt files (renewed s t name before after files) name
only_renewed s t name before after files q other = by (stated s t before == stated s t after)
  where
    head : List ℕ
    head = overwritten (content files name) 0 (head_of s t after)

    by : (b : Bool) → ◌≡◌ {A = Option (List ℕ)} ((if b then files else with_file files name head) q) (files q)
    by true = refl
    by false = only_written files name head q other

pub only_given : (s : Session) (t : ℕ) (last : Option Place) (b : Block) (files : Files) → OnlyAt files (with_given s t last b files) (take_name s t b.take)
only_given s t last b files q other = let name = take_name s t b.take in let now = with_more files name (added s t last b) in
    only_renewed s t name (next_index last b.take) (suc b.index) now q other ∙ only_more files name (added s t last b) q other

pub only_part : (s : Session) (t : ℕ) (last : Option Place) (b : Block) (old new : Files) → GivesInPart s t last b old new → OnlyAt old new (take_name s t b.take)
only_part s t last b old new (inl some) q other = only_some old new (take_name s t b.take) (added s t last b) some q other
only_part s t last b old new (inr some) q other = let name = take_name s t b.take in let now = with_more old name (added s t last b) in
    ap (λ fs. fs q) some.1.files ∙ only_written now name (overwritten (content now name) 0 (take some.0 (head_of s t (suc b.index)))) q other ∙ only_more old name (added s t last b) q other

-- ---- the head is there

-- where a block is shorter than a head, its file tells of one block from the first on
one_stated : (s : Session) (t n : ℕ) → block_bytes s t < 44 → 0 < n → stated s t n ≡ 1
one_stated s t n short some = by (nat_lt (block_bytes s t) 44) refl
  where
    by : (b : Bool) → nat_lt (block_bytes s t) 44 ≡ b → (if b then min (min n 100000) 1 else min (min n 100000) (max 1 (min n 100000 / second_blocks s * second_blocks s))) ≡ 1
    by true is = omega (arith, some)
    by false is = absurd (omega (arith, short, ltb-false (block_bytes s t) 44 is))

head_or_sound : (s : Session) (t : ℕ) (last : Option Place) (b : Block) → is_kept s t last b ≡ true → (stated s t (next_index last b.take) ≡ stated s t (suc b.index) → ⊥) → 44 ≤ length (added s t last b)
head_or_sound s t last b is other = elim (cases_lt (block_bytes s t) 44) [
  | inl short ↦ by last (λ some. other (one_stated s t (next_index last b.take) short some ∙ sym (one_stated s t (suc b.index) short (omega arith))))
  | inr long ↦ omega (arith, long, sound, length-append gap (sound_bytes (bits_of s.bits) b.samples), length-append (if is_new last b.take then no_blocks s t else []) (gap ++ sound_bytes (bits_of s.bits) b.samples))
]
  where
    gap : List ℕ
    gap = replicate ((b.index - next_index last b.take) * block_bytes s t) 0

    sound : length (sound_bytes (bits_of s.bits) b.samples) ≡ block_bytes s t
    sound = sound_long s.bits b.samples
        ∙ ap (λ n. n * (bits_of s.bits / 8)) (eqb-true (length b.samples) (block_samples s t) (and_parts (length b.samples == block_samples s t) (comes_after last b) is).0)

    -- a take that is new begins with a header
    long_head : (rest : List ℕ) → 44 ≤ length (no_blocks s t ++ rest)
    long_head rest = omega (arith, length-append (no_blocks s t) rest, header_long (take_form s t) (0 * block_bytes s t))

    by : (last : Option Place) → (0 < next_index last b.take → ⊥) → 44 ≤ length (added s t last b)
    by None none = long_head (replicate ((b.index - next_index None b.take) * block_bytes s t) 0 ++ sound_bytes (bits_of s.bits) b.samples)
    by (Some p) none = elim (cases_Bool (p.take == b.take)) [
      | inl same ↦ absurd (none (subst (λ c. 0 < (if c then suc p.index else 0)) (sym same) (omega arith)))
      | inr new ↦ subst (λ c. 44 ≤ length ((if not c then no_blocks s t else []) ++ (replicate ((b.index - next_index (Some p) b.take) * block_bytes s t) 0 ++ sound_bytes (bits_of s.bits) b.samples))) (sym new)
          (long_head (replicate ((b.index - next_index (Some p) b.take) * block_bytes s t) 0 ++ sound_bytes (bits_of s.bits) b.samples))
    ]

pub head_there : (s : Session) (t : ℕ) (last : Option Place) (b : Block) (before after : ℕ) (old middle : Files) → is_kept s t last b ≡ true → before ≡ next_index last b.take → after ≡ suc b.index →
    middle ≡ with_more old (take_name s t b.take) (added s t last b) → (stated s t before ≡ stated s t after → ⊥) → HasRange middle (take_name s t b.take) 0 44
head_there s t last b before after old middle is first next more other = let name = take_name s t b.take in
    let long = head_or_sound s t last b is (λ same. other (ap (stated s t) first ∙ same ∙ sym (ap (stated s t) next))) in
    there_is (middle name) (subst (λ held. 44 ≤ length held) (sym (ap (λ m. content m name) more ∙ content-more old name (added s t last b)))
    (omega (arith, long, length-append (content old name) (added s t last b))))

-- ---- what a call gave

-- the head was renewed after the block was added, or some of it
pub record Renews {V E : Type 0} (outside : MediaOutside V) (s : Session) (t : ℕ) (name : List ℕ) (before after : ℕ) (old new : V) (result : Result (Unit {0}) E) : Type 0 where
  pub all : outside.tells → OnOk result (outside.files new ≡ renewed s t name before after (outside.files old))
  pub part : outside.tells → OnErr result (OverwritesSome (outside.files old) (outside.files new) name 0 (head_of s t after))
  pub cause : WriteCause outside old new result
  pub reads : outside.read_faults new ≡ outside.read_faults old

-- a block that is written is kept, and its take hasn't failed
pub given_kept : (s : Session) (f : Taking) (t : ℕ) (b : Block) → is_given s f t b ≡ true → (is_kept s t (last_of f t) b ≡ true) × (has_failed f t b.take ≡ false)
given_kept s f t b is = let parts = and_parts (is_kept s t (last_of f t) b) (not (has_failed f t b.take)) is in (parts.0, by (has_failed f t b.take) parts.1)
  where
    by : (c : Bool) → not c ≡ true → c ≡ false
    by true is = sym is
    by false is = refl

pub given_from : (s : Session) (f : Taking) (t : ℕ) (b : Block) → is_kept s t (last_of f t) b ≡ true → has_failed f t b.take ≡ false → is_given s f t b ≡ true
given_from s f t b kept fine = ap₂ (λ a c. a && not c) kept fine

pub not_given : (s : Session) (f : Taking) (t : ℕ) (b : Block) → (is_kept s t (last_of f t) b ≡ false) ⊎ (has_failed f t b.take ≡ true) → is_given s f t b ≡ false
not_given s f t b (inl left) = ap (λ a. a && not (has_failed f t b.take)) left
not_given s f t b (inr failed) = ap (λ c. is_kept s t (last_of f t) b && not c) failed ∙ by (is_kept s t (last_of f t) b)
  where
    by : (a : Bool) → (a && false) ≡ false
    by true = refl
    by false = refl

module _ {V : Type 0} (outside : MediaOutside V) (s : Session) (f : Taking) (t : ℕ) (b : Block) where
  abbrev last : Option Place
  last = last_of f t

  abbrev name : List ℕ
  name = take_name s t b.take

  where_kept : is_given s f t b ≡ true → (files : Files) → with_given s t last b files ≡ (if is_given s f t b then with_given s t last b files else files)
  where_kept is files = sym (ap (λ c. if c then with_given s t last b files else files) is)

  -- the files at Ok of a block that is kept
  pub given_is : {E : Type 0} (old new : V) → is_given s f t b ≡ true → Gives {E = E} outside s f t b old new (Ok tt) → outside.tells → outside.files new ≡ with_given s t last b (outside.files old)
  given_is old new is gives told = gives.all told ∙ sym (where_kept is (outside.files old))

  -- it was added, and the head renewed
  pub gives-whole : {E : Type 0} (old middle new : V) (r : Result (Unit {0}) E) → is_given s f t b ≡ true → Adds {E = E} outside name (added s t last b) old middle (Ok tt) →
      Renews outside s t name (next_index last b.take) (suc b.index) middle new r → Gives outside s f t b old new r
  gives-whole old middle new (Ok u) is adds renews = record {
    all = λ told. renews.all told ∙ ap (renewed s t name (next_index last b.take) (suc b.index)) (adds.all told) ∙ where_kept is (outside.files old);
    part = λ told. tt;
    given = tt;
    cause = record { later = omega (arith, adds.cause.later, renews.cause.later); kept = renews.cause.kept ∙ adds.cause.kept; rose = tt };
    reads = renews.reads ∙ adds.reads;
  }
  gives-whole old middle new (Err e) is adds renews = record {
    all = λ told. tt;
    part = λ told. inr (subst (λ m. OverwritesSome m (outside.files new) name 0 (head_of s t (suc b.index))) (adds.all told) (renews.part told));
    given = is;
    cause = record {
      later = omega (arith, adds.cause.later, renews.cause.later);
      kept = tt;
      rose = subst (λ count. risen count ≤ outside.write_faults new) adds.cause.kept renews.cause.rose;
    };
    reads = renews.reads ∙ adds.reads;
  }

  -- a fault came where it was added
  pub gives-cut : {E F : Type 0} (old new : V) (e : E) (r : Result (Unit {0}) F) → IsErr r → is_given s f t b ≡ true → Adds outside name (added s t last b) old new (Err e) → Gives outside s f t b old new r
  gives-cut old new e (Ok u) err is adds = absurd (true≢false (sym err))
  gives-cut old new e (Err f) err is adds = record {
    all = λ told. tt;
    part = λ told. inl (adds.front told);
    given = is;
    cause = record { later = adds.cause.later; kept = tt; rose = adds.cause.rose };
    reads = adds.reads;
  }

  -- the same of another answer
  pub gives-err : {E F : Type 0} (old new : V) (e : E) (r : Result (Unit {0}) F) → IsErr r → Gives outside s f t b old new (Err e) → Gives outside s f t b old new r
  gives-err old new e (Ok u) err gives = absurd (true≢false (sym err))
  gives-err old new e (Err f) err gives = record {
    all = λ told. tt;
    part = gives.part;
    given = gives.given;
    cause = record { later = gives.cause.later; kept = tt; rose = gives.cause.rose };
    reads = gives.reads;
  }

  -- it is left out
  pub gives-none : {E : Type 0} (now : V) → is_given s f t b ≡ false → Gives {E = E} outside s f t b now now (Ok tt)
  gives-none now left = record {
    all = λ told. sym (ap (λ c. if c then with_given s t last b (outside.files now) else outside.files now) left);
    part = λ told. tt;
    given = tt;
    cause = record { later = omega arith; kept = refl; rose = tt };
    reads = refl;
  }

-- no file but that of the take changed
pub gives-only : {V E : Type 0} (outside : MediaOutside V) (s : Session) (f : Taking) (t : ℕ) (b : Block) (old new : V) (r : Result (Unit {0}) E) → Gives outside s f t b old new r → outside.tells →
    OnlyAt (outside.files old) (outside.files new) (take_name s t b.take)
gives-only outside s f t b old new (Ok u) gives told q other = ap (λ fs. fs q) (gives.all told) ∙ by (is_given s f t b)
  where
    by : (k : Bool) → ◌≡◌ {A = Option (List ℕ)} ((if k then with_given s t (last_of f t) b (outside.files old) else outside.files old) q) (outside.files old q)
    by true = only_given s t (last_of f t) b (outside.files old) q other
    by false = refl
gives-only outside s f t b old new (Err e) gives told q other = only_part s t (last_of f t) b (outside.files old) (outside.files new) (gives.part told) q other
