-- The frames of opened sources are the sound of their files.
use Rattle.std.proofs.Common.{◌≡◌, ℕ, ◌+◌, ◌*◌, ◌/◌, ◌≤◌, ◌<◌, ◌⊎◌, inl, inr, Bool, true, false, ◌&&◌, not, cond, nat_lt, nat_le, eqb, refl, ap, arith, ◌∙◌, sym, List, [], length, map, drop, get_or, Option, Some, None}
use Rattle.std.specs.Prelude.{slice_get, Result, Ok, Err, pos}
use Rattle.std.specs.List.{range_with_len}
use Rattle.std.proofs.lemmas.Bool.{cases_lt}
use Rattle.std.proofs.lemmas.Bool.Decides.{nat_tests}
use Rattle.std.proofs.lemmas.List.FromFn.{get_or-map-range_with_len, length-map-range_with_len}
use Rattle.std.proofs.lemmas.List.{get_or_past, get_or-map, length-map}
use Rattle.std.proofs.lemmas.Option.{slice_get_within, slice_get_cases}
use Rattle.sound_model.specs.Numbers.{sample_at}
use Rattle.sound_model.specs.Wav.{Head, Refusal, align, head, file_sound, sound}
use Rattle.ses_io.specs.Files.{Files, content}
use Rattle.session_model.specs.Frames.{sample_of}
use Rattle.audio_source.specs.Refusals.{NoFile, NotRead, OtherRate, OtherChannels, fitting, fitting_read, source_head}
use Rattle.audio_source.specs.Opened.{OpenedSource}
use Rattle.audio_source.specs.Told.{sample_by, told_by}
use Rattle.audio_source.specs.Laws.{FramesAreTheFiles, ListsHoldTheFrames}

-- ---- the sound of a head

pub sound_inside : (h : Head) (b : List ℕ) (i c : ℕ) → i < h.frames → c < h.form.channels → h.data_at + i * align h.form + align h.form ≤ length b →
    sound h b i c ≡ sample_at h.form.bits (drop (h.data_at + i * align h.form + c * (h.form.bits / 8)) b)
unfolding sound
sound_inside h b i c frame channel whole =
    let one : nat_lt i h.frames ≡ true = grind (arith, nat_tests) in
    let two : nat_lt c h.form.channels ≡ true = grind (arith, nat_tests) in
    let three : nat_le (h.data_at + i * align h.form + align h.form) (length b) ≡ true = grind (arith, nat_tests) in
    rw (one, two, three) refl

pub sound_past : (h : Head) (b : List ℕ) (i c : ℕ) → h.frames ≤ i → sound h b i c ≡ pos 0
unfolding sound
sound_past h b i c past = let one : nat_lt i h.frames ≡ false = grind (arith, nat_tests) in rw one refl

pub sound_beside : (h : Head) (b : List ℕ) (i c : ℕ) → h.form.channels ≤ c → sound h b i c ≡ pos 0
unfolding sound
sound_beside h b i c past = let two : nat_lt c h.form.channels ≡ false = grind (arith, nat_tests) in off (nat_lt i h.frames) (nat_lt c h.form.channels) (nat_le (h.data_at + i * align h.form + align h.form) (length b)) two
  where
    off : (x y z : Bool) → y ≡ false → cond (x && y && z) (sample_at h.form.bits (drop (h.data_at + i * align h.form + c * (h.form.bits / 8)) b)) (pos 0) ≡ pos 0
    off true y z e = rw e refl
    off false y z e = refl

pub sound_cut : (h : Head) (b : List ℕ) (i c : ℕ) → length b < h.data_at + i * align h.form + align h.form → sound h b i c ≡ pos 0
unfolding sound
sound_cut h b i c cut = let three : nat_le (h.data_at + i * align h.form + align h.form) (length b) ≡ false = grind (arith, nat_tests) in
    off (nat_lt i h.frames && nat_lt c h.form.channels) (nat_le (h.data_at + i * align h.form + align h.form) (length b)) three
  where
    off : (x z : Bool) → z ≡ false → cond (x && z) (sample_at h.form.bits (drop (h.data_at + i * align h.form + c * (h.form.bits / 8)) b)) (pos 0) ≡ pos 0
    off true z e = rw e refl
    off false z e = refl

-- ---- the files that were opened

-- a source that is opened has a file, with this head
abbrev HasHead : Option (List ℕ) → Head → Type 0
HasHead file h = (b : List ℕ) × (file ≡ Some b) × (head true b ≡ Ok h)

fitted : (rate channels : ℕ) (g h : Head) → fitting rate channels g ≡ Ok h → g ≡ h
fitted rate channels g h e = go (eqb g.form.rate rate) (eqb g.form.channels channels) e
  where
    go : (r c : Bool) → cond (not r) (Err (OtherRate g.form.rate rate)) (cond (not c) (Err (OtherChannels g.form.channels channels)) (Ok g)) ≡ Ok h → g ≡ h
    go true true k = cc
    go true false k = absurd (nothing k)
      where
        nothing : Err (OtherChannels g.form.channels channels) ≡ Ok h → ⊥
        nothing n = cc
    go false c k = absurd (nothing k)
      where
        nothing : Err (OtherRate g.form.rate rate) ≡ Ok h → ⊥
        nothing n = cc

read_head : (rate channels : ℕ) (r : Result Head Refusal) (h : Head) → fitting_read rate channels r ≡ Ok h → r ≡ Ok h
read_head rate channels (Ok g) h e = ap Ok (fitted rate channels g h e)
read_head rate channels (Err w) h e = absurd (nothing e)
  where
    nothing : Err (NotRead w) ≡ Ok h → ⊥
    nothing n = cc

opened_head : (rate channels : ℕ) (file : Option (List ℕ)) (h : Head) → source_head rate channels file ≡ Ok h → HasHead file h
opened_head rate channels None h e = absurd (nothing e)
  where
    nothing : Err NoFile ≡ Ok h → ⊥
    nothing n = cc
opened_head rate channels (Some b) h e = (b, refl, read_head rate channels (head true b) h e)

abbrev IsSoundOf : Option (List ℕ) → List ℕ → Head → Type 0
IsSoundOf file b h = (i c : ℕ) → sound h b i c ≡ file_sound b i c

sound_of_file : (b : List ℕ) (h : Head) (i c : ℕ) → head true b ≡ Ok h → sound h b i c ≡ file_sound b i c
sound_of_file b h i c e = rw e refl

pub frames_are_the_files : FramesAreTheFiles
frames_are_the_files files rate list opened s d i c is at = go (slice_get_cases opened s).1
  where
    here : s < length opened
    here = let inside = slice_get_within list s d at in omega (arith, is.many)

    held : (o : OpenedSource) → slice_get opened s ≡ Some o → sample_by files (Some o) i c ≡ file_sound (content files d.file) i c
    held o there =
        let opened_as = is.each s d o at there in
        let found = opened_head rate d.channels (files d.file) o.head opened_as.head in
        let bytes : content files d.file ≡ found.0 = ap (λ f. content (λ q. f) d.file) found.1 in
        let named : content files o.file ≡ found.0 = ap (content files) opened_as.file ∙ bytes in
        ap (λ b. sound o.head b i c) named ∙ sound_of_file found.0 o.head i c found.2 ∙ ap (λ b. file_sound b i c) (sym bytes)

    go : ((o : OpenedSource) × (s < length opened) × (slice_get opened s ≡ Some o) × (get_or opened s o ≡ o)) ⊎ ((length opened ≤ s) × (slice_get opened s ≡ None)) →
        sample_by files (slice_get opened s) i c ≡ file_sound (content files d.file) i c
    go (inl w) = ap (λ o. sample_by files o i c) w.2 ∙ held w.0 w.2
    go (inr w) = absurd (omega (arith, w.0, here))

-- ---- the lists of frames

no_sample : (c : ℕ) → get_or [] c (pos 0) ≡ pos 0
no_sample c = refl

told_sample : (files : Files) (o : OpenedSource) (i c : ℕ) → sample_of (told_by files o) i c ≡ sample_by files (Some o) i c
told_sample files o i c = go (cases_lt i o.head.frames) (cases_lt c o.head.form.channels)
  where
    go : (i < o.head.frames) ⊎ (o.head.frames ≤ i) → (c < o.head.form.channels) ⊎ (o.head.form.channels ≤ c) → sample_of (told_by files o) i c ≡ sample_by files (Some o) i c
    go (inl f) (inl n) = ap (λ xs. get_or xs c (pos 0)) (frame_at f) ∙ get_or-map-range_with_len (sound o.head (content files o.file) i) 0 o.head.form.channels c c (pos 0) n zero_more
      where
        zero_more : 0 + c ≡ c
        zero_more = omega arith

        frame_at : i < o.head.frames → get_or (told_by files o) i [] ≡ map (sound o.head (content files o.file) i) (range_with_len 0 o.head.form.channels)
        frame_at h = get_or-map-range_with_len (λ k. map (sound o.head (content files o.file) k) (range_with_len 0 o.head.form.channels)) 0 o.head.frames i i [] h (omega arith)
    go (inl f) (inr n) = ap (λ xs. get_or xs c (pos 0)) (frame_at f)
        ∙ get_or_past (map (sound o.head (content files o.file) i) (range_with_len 0 o.head.form.channels)) c (pos 0)
        (omega (arith, length-map-range_with_len (sound o.head (content files o.file) i) 0 o.head.form.channels))
        ∙ sym (sound_beside o.head (content files o.file) i c n)
      where
        frame_at : i < o.head.frames → get_or (told_by files o) i [] ≡ map (sound o.head (content files o.file) i) (range_with_len 0 o.head.form.channels)
        frame_at h = get_or-map-range_with_len (λ k. map (sound o.head (content files o.file) k) (range_with_len 0 o.head.form.channels)) 0 o.head.frames i i [] h (omega arith)
    go (inr f) n = ap (λ xs. get_or xs c (pos 0)) (get_or_past (told_by files o) i [] (omega (arith, length-map-range_with_len (λ k. map (sound o.head (content files o.file) k) (range_with_len 0 o.head.form.channels)) 0 o.head.frames)))
        ∙ sym (sound_past o.head (content files o.file) i c f)

pub lists_hold_the_frames : ListsHoldTheFrames
lists_hold_the_frames files opened s i c = go (slice_get_cases opened s).1
  where
    go : ((o : OpenedSource) × (s < length opened) × (slice_get opened s ≡ Some o) × (get_or opened s o ≡ o)) ⊎ ((length opened ≤ s) × (slice_get opened s ≡ None)) →
        sample_of (get_or (map (told_by files) opened) s []) i c ≡ sample_by files (slice_get opened s) i c
    go (inl w) = ap (λ f. sample_of f i c) (get_or-map (told_by files) opened s w.0 [] w.1 ∙ ap (told_by files) w.3)
        ∙ told_sample files w.0 i c ∙ ap (λ o. sample_by files o i c) (sym w.2)
    go (inr w) = ap (λ f. sample_of f i c) (get_or_past (map (told_by files) opened) s [] (omega (arith, length-map opened (told_by files), w.0)))
        ∙ ap (λ o. sample_by files o i c) (sym w.1)
