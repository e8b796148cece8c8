-- What is read of a key and of an array is what the text says.
use Rattle.std.proofs.Common.{◌≡◌, inl, inr, ℕ, suc, Bool, true, ◌&&◌, nat_le, refl, ap, sym, subst, ◌∙◌, List, [], ◌∷◌, length, Option, Some, None, bytes_eq, codes}
use Rattle.std.specs.Prelude.{ℤ, pos, negsuc, is_none, ◌==◌, Ok}
use Rattle.std.specs.Option.{ok_or, option_map, option_and_then}
use Rattle.std.specs.List.{list_all}
use Rattle.sound_laws.proofs.Cases.{by_test}
use Rattle.std.proofs.lemmas.Bool.{eqb-true}
use Rattle.std.proofs.lemmas.Slice.Eq.{bytes_eq-Decides}
use Rattle.toml.specs.Data.{Data, Members, as_integer, as_str, as_bool, as_array, as_table}
use Rattle.sound_model.specs.Lanes as sound
use Rattle.ses_units.specs.Name.{is_name}
use Rattle.ses_units.specs.Bits as units
use Rattle.ses_units.specs.Point.{points_of}
use Rattle.ses_units.specs.Refusal.{first_refusal}
use Rattle.ses_units.specs.declared.bits.Bits.{Bits}
use Rattle.ses_units.specs.declared.bits.Bits.TheVariants.{B16, B24}
use Rattle.ses_units.specs.declared.mode.Mode.{Mode}
use Rattle.ses_units.specs.declared.mode.Mode.TheVariants.{Manual, Play}
use Rattle.ses_units.specs.declared.shape.Shape.{Shape}
use Rattle.ses_units.specs.declared.shape.Shape.TheVariants.{Linear, Slow}
use Rattle.ses_io.specs.FixedList.{Listed}
use Rattle.session_model.specs.FileName.{is_file_name}
use Rattle.session_model.specs.declared.key.Key.{Key}
use Rattle.session_model.specs.declared.key.Key.TheVariants as key
use Rattle.session_model.specs.declared.refusal.Place.{Place}
use Rattle.session_walk.specs.declared.said.Version.{Version}
use Rattle.session_walk.specs.declared.said.Version.TheVariants.{One, Two}
use Rattle.session_walk.specs.Section.{Section, Read, holds, value_at, nth}
use Rattle.session_walk.specs.Values.{needed, or_default, integer_of, in_range, whole_of, whole, whole_or, bits_in, bits, version_in, version, flag_of, flag_or, keeping, string_of, text_of, name, name_or, file, mode_in, mode_of, mode_or, shape_in, shape_of, shape_or}
use Rattle.session_walk.specs.Arrays.{listed_items, array_of, array, each, tables, entries, entries_from}
use Rattle.session_walk.specs.Lane.{is_pair, point_of, lane}
use Rattle.session_walk.specs.Says.{at_key, SaysWhole, SaysText, SaysFlag, SaysItems, OrDefault, mode_word, SaysMode, shape_word, SaysShape, version_number, SaysLane, AllSay, SaysEach}
use Rattle.session_walk.proofs.PartRangeLaws.{after, some-in}

-- ---- one key

-- the value of a key that has no default
pub needed-said : (s : Section) (k : Key) (d : Data) → needed s k ≡ Ok d → at_key s.members k ≡ Some d
needed-said s k d e = some-in (value_at s k) _ d e

-- a key that has a default is read, or absent
pub default-said : {A : Type 0} (Says : Members → Key → A → Type 0) (s : Section) (k : Key) (default x : A) (read : Data → Read A) →
    ((d : Data) → at_key s.members k ≡ Some d → read d ≡ Ok x → Says s.members k x) → or_default default read (value_at s k) ≡ Ok x → OrDefault Says s.members k default x
default-said {A} Says s k default x read found e = go (value_at s k) refl e
  where
    go : (o : Option Data) → value_at s k ≡ o → or_default default read o ≡ Ok x → OrDefault Says s.members k default x
    go None here e = inr (here, cc)
    go (Some d) here e = inl (found d here e)

in_range-said : (low high : ℕ) (z : ℤ) (n : ℕ) → in_range low high z ≡ Some n → z ≡ pos n
in_range-said low high (negsuc m) n e = cc
in_range-said low high (pos m) n e = by_test (nat_le low m && nat_le m high) (λ t. go (rw t at e)) (λ t. none (rw t at e))
  where
    go : Some m ≡ Some n → pos m ≡ pos n
    go f = let same : m ≡ n = cc in ap pos same

    none : None ≡ Some n → pos m ≡ pos n
    none f = cc

pub whole_of-said : (s : Section) (k : Key) (low high n : ℕ) (d : Data) → at_key s.members k ≡ Some d → whole_of s k low high d ≡ Ok n → SaysWhole s.members k n
whole_of-said s k low high n d here e = after (integer_of s k d) _ n e (λ z ez e.
    ap (option_and_then as_integer) here ∙ some-in (as_integer d) _ z ez ∙ ap (λ x. Some x) (in_range-said low high z n (some-in (in_range low high z) _ n e)))

pub whole-said : (s : Section) (k : Key) (low high n : ℕ) → whole s k low high ≡ Ok n → SaysWhole s.members k n
whole-said s k low high n e = after (needed s k) _ n e (λ d ed e. whole_of-said s k low high n d (needed-said s k d ed) e)

pub whole_or-said : (s : Section) (k : Key) (default low high n : ℕ) → whole_or s k default low high ≡ Ok n → OrDefault SaysWhole s.members k default n
whole_or-said s k default low high n e = default-said SaysWhole s k default n (whole_of s k low high) (λ d here f. whole_of-said s k low high n d here f) e

pub flag_or-said : (s : Section) (k : Key) (default b : Bool) → flag_or s k default ≡ Ok b → OrDefault SaysFlag s.members k default b
flag_or-said s k default b e = default-said SaysFlag s k default b (flag_of s k) (λ d here f. ap (option_and_then as_bool) here ∙ some-in (as_bool d) _ b f) e

keeping-said : (rule : List ℕ → Bool) (t u : List ℕ) → keeping rule t ≡ Some u → t ≡ u
keeping-said rule t u e = by_test (rule t) (λ h. go (rw h at e)) (λ h. none (rw h at e))
  where
    go : Some t ≡ Some u → t ≡ u
    go f = cc

    none : None ≡ Some u → t ≡ u
    none f = cc

text_of-said : (rule : List ℕ → Bool) (s : Section) (k : Key) (t : List ℕ) (d : Data) → at_key s.members k ≡ Some d → text_of rule s k d ≡ Ok t → SaysText s.members k t
text_of-said rule s k t d here e = after (string_of s k d) _ t e (λ u eu e.
    ap (option_and_then as_str) here ∙ some-in (as_str d) _ u eu ∙ ap (λ x. Some x) (keeping-said rule u t (some-in (keeping rule u) _ t e)))

pub name-said : (s : Section) (k : Key) (t : List ℕ) → name s k ≡ Ok t → SaysText s.members k t
name-said s k t e = after (needed s k) _ t e (λ d ed e. text_of-said is_name s k t d (needed-said s k d ed) e)

pub name_or-said : (s : Section) (k : Key) (default t : List ℕ) → name_or s k default ≡ Ok t → OrDefault SaysText s.members k default t
name_or-said s k default t e = default-said SaysText s k default t (text_of is_name s k) (λ d here f. text_of-said is_name s k t d here f) e

pub file-said : (s : Section) (k : Key) (t : List ℕ) → file s k ≡ Ok t → SaysText s.members k t
file-said s k t e = after (needed s k) _ t e (λ d ed e. text_of-said is_file_name s k t d (needed-said s k d ed) e)

pub bits-said : (s : Section) (b : Bits) → bits s key.Bits ≡ Ok b → SaysWhole s.members key.Bits (units.bits_of b)
bits-said s b e = after (needed s key.Bits) _ b e (λ d ed e. after (integer_of s key.Bits d) _ b e (λ z ez e.
    ap (option_and_then as_integer) (needed-said s key.Bits d ed) ∙ some-in (as_integer d) _ z ez ∙ ap (λ x. Some x) (these z b (some-in (bits_in z) _ b e))))
  where
    these : (z : ℤ) (b : Bits) → bits_in z ≡ Some b → z ≡ pos (units.bits_of b)
    these (negsuc n) b f = cc
    these (pos n) b f = by_test (n == 16) (λ t. sixteen t (rw t at f)) (λ t. by_test (n == 24) (λ u. twenty_four u (rw u at (rw t at f))) (λ u. none (rw u at (rw t at f))))
      where
        sixteen : (n == 16) ≡ true → Some B16 ≡ Some b → pos n ≡ pos (units.bits_of b)
        sixteen t g = let is : B16 ≡ b = cc in ap pos (eqb-true n 16 t) ∙ ap (λ x. pos (units.bits_of x)) is

        twenty_four : (n == 24) ≡ true → Some B24 ≡ Some b → pos n ≡ pos (units.bits_of b)
        twenty_four t g = let is : B24 ≡ b = cc in ap pos (eqb-true n 24 t) ∙ ap (λ x. pos (units.bits_of x)) is

        none : None ≡ Some b → pos n ≡ pos (units.bits_of b)
        none g = cc

pub version-said : (s : Section) (v : Version) → version s key.Version ≡ Ok v → SaysWhole s.members key.Version (version_number v)
version-said s v e = after (needed s key.Version) _ v e (λ d ed e. after (integer_of s key.Version d) _ v e (λ z ez e.
    ap (option_and_then as_integer) (needed-said s key.Version d ed) ∙ some-in (as_integer d) _ z ez ∙ ap (λ x. Some x) (these z v (some-in (version_in z) _ v e))))
  where
    these : (z : ℤ) (v : Version) → version_in z ≡ Some v → z ≡ pos (version_number v)
    these (negsuc n) v f = cc
    these (pos n) v f = by_test (n == 1) (λ t. first t (rw t at f)) (λ t. by_test (n == 2) (λ u. second u (rw u at (rw t at f))) (λ u. none (rw u at (rw t at f))))
      where
        first : (n == 1) ≡ true → Some One ≡ Some v → pos n ≡ pos (version_number v)
        first t g = let is : One ≡ v = cc in ap pos (eqb-true n 1 t) ∙ ap (λ x. pos (version_number x)) is

        second : (n == 2) ≡ true → Some Two ≡ Some v → pos n ≡ pos (version_number v)
        second t g = let is : Two ≡ v = cc in ap pos (eqb-true n 2 t) ∙ ap (λ x. pos (version_number x)) is

        none : None ≡ Some v → pos n ≡ pos (version_number v)
        none g = cc

pub mode_or-said : (s : Section) (mode : Mode) → mode_or s key.Mode ≡ Ok mode → OrDefault SaysMode s.members key.Mode Manual mode
mode_or-said s mode e = default-said SaysMode s key.Mode Manual mode (mode_of s key.Mode) found e
  where
    these : (t : List ℕ) → mode_in t ≡ Some mode → t ≡ mode_word mode
    these t f = by_test (bytes_eq t (codes "manual")) (λ h. manual h (rw h at f)) (λ h. by_test (bytes_eq t (codes "play")) (λ g. play g (rw g at (rw h at f))) (λ g. none (rw g at (rw h at f))))
      where
        manual : bytes_eq t (codes "manual") ≡ true → Some Manual ≡ Some mode → t ≡ mode_word mode
        manual h g = let is : Manual ≡ mode = cc in (bytes_eq-Decides t (codes "manual")).0 h ∙ ap mode_word is

        play : bytes_eq t (codes "play") ≡ true → Some Play ≡ Some mode → t ≡ mode_word mode
        play h g = let is : Play ≡ mode = cc in (bytes_eq-Decides t (codes "play")).0 h ∙ ap mode_word is

        none : None ≡ Some mode → t ≡ mode_word mode
        none g = cc

    found : (d : Data) → at_key s.members key.Mode ≡ Some d → mode_of s key.Mode d ≡ Ok mode → SaysMode s.members key.Mode mode
    found d here f = after (string_of s key.Mode d) _ mode f (λ t et f.
        ap (option_and_then as_str) here ∙ some-in (as_str d) _ t et ∙ ap (λ x. Some x) (these t (some-in (mode_in t) _ mode f)))

pub shape_or-said : (s : Section) (k : Key) (shape : Shape) → shape_or s k ≡ Ok shape → OrDefault SaysShape s.members k Linear shape
shape_or-said s k shape e = default-said SaysShape s k Linear shape (shape_of s k) found e
  where
    these : (t : List ℕ) → shape_in t ≡ Some shape → t ≡ shape_word shape
    these t f = by_test (bytes_eq t (codes "linear")) (λ h. linear h (rw h at f)) (λ h. by_test (bytes_eq t (codes "slow")) (λ g. slow g (rw g at (rw h at f))) (λ g. none (rw g at (rw h at f))))
      where
        linear : bytes_eq t (codes "linear") ≡ true → Some Linear ≡ Some shape → t ≡ shape_word shape
        linear h g = let is : Linear ≡ shape = cc in (bytes_eq-Decides t (codes "linear")).0 h ∙ ap shape_word is

        slow : bytes_eq t (codes "slow") ≡ true → Some Slow ≡ Some shape → t ≡ shape_word shape
        slow h g = let is : Slow ≡ shape = cc in (bytes_eq-Decides t (codes "slow")).0 h ∙ ap shape_word is

        none : None ≡ Some shape → t ≡ shape_word shape
        none g = cc

    found : (d : Data) → at_key s.members k ≡ Some d → shape_of s k d ≡ Ok shape → SaysShape s.members k shape
    found d here f = after (string_of s k d) _ shape f (λ t et f.
        ap (option_and_then as_str) here ∙ some-in (as_str d) _ t et ∙ ap (λ x. Some x) (these t (some-in (shape_in t) _ shape f)))

-- ---- arrays

array-said : (s : Section) (k : Key) (items : List Data) → array s k ≡ Ok items → OrDefault SaysItems s.members k [] items
array-said s k items e = default-said SaysItems s k [] items (array_of s k)
    (λ d here f. ap (λ o. option_map listed_items (option_and_then as_array o)) here ∙ some-in (option_map listed_items (as_array d)) _ items f) e

pub lane-said : (s : Section) (points : List sound.Point) → lane s ≡ Ok points → SaysLane s.members points
unfolding lane
lane-said s points e = after (array s key.Lane) _ points e (λ items ei e. after (holds (list_all is_pair items) _) _ points e (λ u0 e0 e.
    after (ok_or (each point_of items) _) _ points e (λ found ef e. after (holds (is_none (first_refusal (points_of found))) _) _ points e (λ u1 e1 e.
    let is : points_of found ≡ points = cc in
    (items, found, array-said s key.Lane items ei, some-in (each point_of items) _ found ef, sym is)))))

from-said : {A : Type 0} (Says : Members → A → Type 0) (read : Section → Read A) → ((s : Section) (x : A) → read s ≡ Ok x → Says s.members x) →
    (base : Place) (n : ℕ) (rows : List Members) (all : List A) → entries_from read base n rows ≡ Ok all → AllSay Says rows all
from-said {A} Says read one base n [] all e = let is : [] ≡ all = cc in subst (AllSay Says []) is tt
from-said {A} Says read one base n (row ∷ rows) all e = after (read (record { place = nth base n; members = row })) _ all e (λ x ex e. after (entries_from read base (suc n) rows) _ all e (λ xs es e.
    let is : x ∷ xs ≡ all = cc in
    subst (AllSay Says (row ∷ rows)) is (one (record { place = nth base n; members = row }) x ex, from-said Says read one base (suc n) rows xs es)))

entries-said : {A : Type 0} (Says : Members → A → Type 0) (read : Section → Read A) → ((s : Section) (x : A) → read s ≡ Ok x → Says s.members x) →
    (base : Place) (room : ℕ) (rows : List Members) (l : Listed A) → entries read base room rows ≡ Ok l → AllSay Says rows l.items
entries-said {A} Says read one base room rows l e = after (entries_from read base 1 rows) _ l e (λ all ea e.
    let is : record { items = all; room = room } ≡ l = cc in
    let P : Listed A → Type 0 = λ x. AllSay Says rows x.items in
    subst P is (from-said Says read one base 1 rows all ea))

tables-said : (s : Section) (k : Key) (most : ℕ) (rows : List Members) → tables s k most ≡ Ok rows → (items : List Data) × OrDefault SaysItems s.members k [] items × (each as_table items ≡ Some rows)
tables-said s k most rows e = after (array s k) _ rows e (λ items ei e. after (ok_or (each as_table items) _) _ rows e (λ found ef e. after (holds (nat_le (length found) most) _) _ rows e (λ u0 e0 e.
    let is : found ≡ rows = cc in
    (items, array-said s k items ei, some-in (each as_table items) _ found ef ∙ ap (λ x. Some x) is))))

-- the entries of the array of tables at a key
pub each-said : {A : Type 0} (Says : Members → A → Type 0) (read : Section → Read A) → ((s : Section) (x : A) → read s ≡ Ok x → Says s.members x) →
    (s : Section) (k : Key) (most : ℕ) (base : Place) (room : ℕ) (rows : List Members) (l : Listed A) → tables s k most ≡ Ok rows → entries read base room rows ≡ Ok l → SaysEach Says s.members k l.items
each-said Says read one s k most base room rows l et el = let t = tables-said s k most rows et in (t.0, rows, t.1, t.2, entries-said Says read one base room rows l el)
