-- Samples out of a held line, and which lines are held after that.
use Rattle.std.proofs.Common.{◌≡◌, ℕ, ◌+◌, ◌*◌, ◌/◌, ◌%◌, ◌≤◌, ◌<◌, ◌⊎◌, inl, inr, Bool, true, false, ◌&&◌, cond, nat_eq, nat_lt, refl, ap, arith, ◌∙◌, sym, subst, List, [], ◌∷◌, length, take, drop, Option, Some, None}
use Rattle.std.specs.Prelude.{◌≢◌, ◌==◌, ℤ, pos, All, Contains, is_some, replicate}
use Rattle.std.specs.Map.{keys_of, lookup, lookup_entry, remove_entry}
use Rattle.std.specs.Option.{option_map, option_map_or}
use Rattle.std.proofs.lemmas.Bool.{eqb-true, eqb-false}
use Rattle.std.proofs.lemmas.Bool.Decides.{nat_tests}
use Rattle.std.proofs.lemmas.List.{take_all, length-take-le, length-drop, get_or-take, get_or-drop, get_or-replicate, length-replicate, take-map, length-map}
use Rattle.std.proofs.lemmas.List.Elements.{All-cons, All-weaker, All-contains_itself}
use Rattle.std.proofs.lemmas.List.FromFn.{fill_by_all}
use Rattle.lru.specs.LruCache.{promoted}
use Rattle.lru.proofs.CallerLemmas.{Contains-promoted, Contains-take}
use Rattle.sound_model.specs.Wav.{Head, sound}
use Rattle.session_model.specs.Frames.{interleaved}
use Rattle.audio_source.specs.declared.line.LineName.{LineName}
use Rattle.audio_source.specs.Lines.{line_name, same_line, without, after_asking, asked_line}
use Rattle.audio_source.specs.Slots.{LineStore, line_store, IsRead, StaysHeld}
use Rattle.audio_source.proofs.FrameLaws.{sound_past}
use Rattle.audio_source.proofs.SlotLaws.{length_removed, same_names}
use Rattle.audio_source.proofs.StoreLaws.{some_samples, lookup_by, promoted_none}
use Rattle.audio_source.proofs.StretchLaws.{interleaved-at, length-interleaved, frame_on, channel_on}

-- ---- samples

pub silent_past : (h : Head) (b : List ℕ) (channels from n : ℕ) → h.frames ≤ from → replicate n (pos 0) ≡ interleaved (sound h b) channels from n
silent_past h b channels from n past = fill_by_all (λ k. sound h b (from + k / channels) (k % channels)) (replicate n (pos 0)) n (pos 0) (length-replicate n (pos 0))
    (λ k below. get_or-replicate n k (pos 0) (pos 0) below ∙ sym (sound_past h b (from + k / channels) (k % channels) (omega arith)))

-- a part of interleaved samples that begins with a frame
pub interleaved-part : (f : ℕ → ℕ → ℤ) (channels from total skip n : ℕ) → 1 ≤ channels → skip % channels ≡ 0 → skip + n ≤ total →
    take n (drop skip (interleaved f channels from total)) ≡ interleaved f channels (from + skip / channels) n
interleaved-part f channels from total skip n low whole fits = fill_by_all (λ k. f (from + skip / channels + k / channels) (k % channels)) (take n (drop skip (interleaved f channels from total))) n (pos 0)
    (length-take-le n (drop skip (interleaved f channels from total)) (omega (arith, length-drop skip (interleaved f channels from total), length-interleaved f channels from total)))
    (λ k below. get_or-take n (drop skip (interleaved f channels from total)) k (pos 0) below
    ∙ get_or-drop skip (interleaved f channels from total) k (pos 0)
    ∙ interleaved-at f channels from total (skip + k) (omega arith)
    ∙ ap (λ i. f i ((skip + k) % channels)) (omega (arith, frame_on skip k channels low whole))
    ∙ ap (λ c. f (from + skip / channels + k / channels) c) (channel_on skip k channels low whole))

-- samples of a line that is as the file has it
pub line_part : (f : ℕ → ℕ → ℤ) (channels from total skip n : ℕ) (samples : List ℤ) → 1 ≤ channels → skip % channels ≡ 0 → skip + n ≤ total →
    take total samples ≡ interleaved f channels from total → take n (drop skip samples) ≡ interleaved f channels (from + skip / channels) n
line_part f channels from total skip n samples low whole fits is =
    ap (λ m. take n (drop m samples)) (omega arith) ∙ some_samples total 0 skip n samples fits ∙ ap (λ l. take n (drop skip l)) is ∙ interleaved-part f channels from total skip n low whole fits

-- ---- names

pub is_same : (a b : LineName) → same_line a b ≡ true → a ≡ b
is_same a b same = let s : a.source ≡ b.source = eqb-true a.source b.source (first (nat_eq a.source b.source) (nat_eq a.line b.line) same) in
    let l : a.line ≡ b.line = eqb-true a.line b.line (second (nat_eq a.source b.source) (nat_eq a.line b.line) same) in λ i. line_name (s i) (l i)
  where
    first : (x y : Bool) → (x && y) ≡ true → x ≡ true
    first true y e = refl
    first false y e = e

    second : (x y : Bool) → (x && y) ≡ true → y ≡ true
    second true y e = e
    second false y e = absurd cc

module _ (name : LineName) where
  without_removed : (held : List (LineName × List ℤ)) → without name (keys_of held) ≡ keys_of (remove_entry (same_line name) held)
  without_removed [] = refl
  without_removed (l ∷ ls) = go (without_removed ls) (same_line name l.0)
    where
      go : without name (keys_of ls) ≡ keys_of (remove_entry (same_line name) ls) → (b : Bool) →
          cond b (keys_of ls) (l.0 ∷ without name (keys_of ls)) ≡ keys_of (cond b ls (l ∷ remove_entry (same_line name) ls))
      go later true = refl
      go later false = ap (λ ns. l.0 ∷ ns) later

  without_none : (held : List (LineName × List ℤ)) → lookup (same_line name) held ≡ None → without name (keys_of held) ≡ keys_of held
  without_none [] none = refl
  without_none (l ∷ ls) none = go (without_none ls) (same_line name l.0) none
    where
      go : (lookup (same_line name) ls ≡ None → without name (keys_of ls) ≡ keys_of ls) → (b : Bool) → cond b (Some l.1) (lookup (same_line name) ls) ≡ None →
          cond b (keys_of ls) (l.0 ∷ without name (keys_of ls)) ≡ keys_of (l ∷ ls)
      go later true n = absurd cc
      go later false n = ap (λ ns. l.0 ∷ ns) (later n)

  entry_same : (held : List (LineName × List ℤ)) (e : LineName × List ℤ) → lookup_entry (same_line name) held ≡ Some e → e.0 ≡ name
  entry_same [] e found = absurd (nothing found)
    where
      nothing : ◌≡◌ {A = Option (LineName × List ℤ)} None (Some e) → ⊥
      nothing n = cc
  entry_same (l ∷ ls) e found = go (entry_same ls e) (same_line name l.0) refl found
    where
      go : (lookup_entry (same_line name) ls ≡ Some e → e.0 ≡ name) → (b : Bool) → same_line name l.0 ≡ b → cond b (Some l) (lookup_entry (same_line name) ls) ≡ Some e → e.0 ≡ name
      go later true t f = let same : l ≡ e = cc in sym (ap (λ x. x.0) same) ∙ sym (is_same name l.0 t)
      go later false t f = later f

  -- a line that was held is the first
  pub shown_keys : (held : List (LineName × List ℤ)) → is_some (lookup (same_line name) held) ≡ true → length held ≤ 64 → keys_of (promoted (same_line name) held) ≡ after_asking (name ∷ []) (keys_of held)
  shown_keys held there few = by (lookup_entry (same_line name) held) refl (sym (ap is_some (lookup_by (same_line name) held)) ∙ there)
    where
      by : (o : Option (LineName × List ℤ)) → lookup_entry (same_line name) held ≡ o → is_some (option_map (λ x. x.1) o) ≡ true →
          keys_of (option_map_or (λ e. e ∷ remove_entry (same_line name) held) (lookup_entry (same_line name) held) held) ≡ take 64 (name ∷ without name (keys_of held))
      by None is some = absurd cc
      by (Some e) is some = ap (λ o. keys_of (option_map_or (λ x. x ∷ remove_entry (same_line name) held) o held)) is
          ∙ ap (λ n. n ∷ keys_of (remove_entry (same_line name) held)) (entry_same held e is)
          ∙ sym (take_all 64 (name ∷ keys_of (remove_entry (same_line name) held)) (omega (arith, length_removed (same_line name) held e is, length-map (remove_entry (same_line name) held) (λ x. x.0))))
          ∙ ap (λ ns. take 64 (name ∷ ns)) (sym (without_removed held))

  pub read_first : (held new : List (LineName × List ℤ)) (P : List ℤ → Type 0) → IsRead name held new P → promoted (same_line name) new ≡ new
  read_first held new P is = ap (promoted (same_line name)) is.held ∙ (rw (same_names name name refl refl) refl) ∙ sym is.held

  -- a line that was read is the first, and the last of 64 is given up
  pub read_keys : (held new : List (LineName × List ℤ)) (P : List ℤ → Type 0) → lookup (same_line name) held ≡ None → IsRead name held new P → keys_of (promoted (same_line name) new) ≡ after_asking (name ∷ []) (keys_of held)
  read_keys held new P none is = ap keys_of (read_first held new P is) ∙ ap keys_of is.held ∙ ap (λ ns. name ∷ ns) (sym (take-map (λ x. x.0) 63 held)) ∙ ap (λ ns. take 64 (name ∷ ns)) (sym (without_none held none))

  -- what was read is found, and stays the first
  pub read_found : (held new : List (LineName × List ℤ)) (P : List ℤ → Type 0) → (is : IsRead name held new P) → lookup (same_line name) new ≡ Some is.samples
  read_found held new P is = ap (lookup (same_line name)) is.held ∙ (rw (same_names name name refl refl) refl)

  pub shown_stays : (Q : List ℤ → Type 0) (held : List (LineName × List ℤ)) → StaysHeld name Q held (promoted (same_line name) held)
  shown_stays Q held = All-weaker (Contains (promoted (same_line name) held)) (λ l. Contains held l ⊎ ((l.0 ≡ name) × Q l.1)) (λ l there. inl (Contains-promoted (same_line name) held l there))
      (promoted (same_line name) held) (All-contains_itself (promoted (same_line name) held))

  pub read_stays : (Q : List ℤ → Type 0) (held new : List (LineName × List ℤ)) → IsRead name held new Q → StaysHeld name Q held new
  read_stays Q held new is = subst (All (λ l. Contains held l ⊎ ((l.0 ≡ name) × Q l.1))) (sym is.held)
      (All-cons (λ l. Contains held l ⊎ ((l.0 ≡ name) × Q l.1)) (name, is.samples) (take 63 held) (inr (refl, is.read))
      (All-weaker (Contains (take 63 held)) (λ l. Contains held l ⊎ ((l.0 ≡ name) × Q l.1)) (λ l there. inl (Contains-take 63 held l there)) (take 63 held) (All-contains_itself (take 63 held))))

  pub same_stays : (Q : List ℤ → Type 0) (held : List (LineName × List ℤ)) → StaysHeld name Q held held
  same_stays Q held = All-weaker (Contains held) (λ l. Contains held l ⊎ ((l.0 ≡ name) × Q l.1)) (λ l there. inl there) held (All-contains_itself held)

pub not_some : {A : Type 0} (o : Option A) → is_some o ≡ false → o ≡ None
not_some None e = refl
not_some (Some a) e = absurd cc

-- a line is asked
pub is_asked : (name : LineName) (frames many : ℕ) → 0 < many → 4096 * name.line < frames → asked_line name.source frames name.line many ≡ name ∷ []
is_asked name frames many some inside = let one : nat_lt 0 many ≡ true = grind (arith, nat_tests) in let two : nat_lt (4096 * name.line) frames ≡ true = grind (arith, nat_tests) in rw (one, two) refl

pub some_there : (n : ℕ) → false ≡ (n == 0) → 0 < n
some_there n e = let test : nat_eq n 0 ≡ false = sym e in let other : n ≢ 0 = eqb-false n 0 test in omega (arith, other)

-- what isn't shown stands as it stood
pub not_shown : (name : LineName) (old new : LineStore) → is_some (lookup (same_line name) old.held) ≡ false → new ≡ line_store old.room (promoted (same_line name) old.held) → new.held ≡ old.held
not_shown name old new none e = ap (λ (x : LineStore). x.held) e ∙ promoted_none (same_line name) old.held (not_some (lookup (same_line name) old.held) none)
