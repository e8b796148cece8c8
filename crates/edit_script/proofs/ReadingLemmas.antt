-- The eight words that are kept say what all the words of a line say.
use Rattle.std.proofs.Common.{◌≡◌, ℕ, ◌≤◌, Bool, true, false, nat_le, nat_lt, List, [], ◌∷◌, length, take, find, Option, Some, Ok, Err, refl, ap, sym, ◌∙◌, arith}
use Rattle.std.specs.Prelude.{if◌then◌else◌, ◌==◌, filter, bytes_eq}
use Rattle.std.specs.List.{list_all}
use Rattle.std.proofs.lemmas.Bool.Decides.{nat_tests}
use Rattle.std.proofs.lemmas.List.{take_all}
use Rattle.edit_script.specs.declared.refusal.LineRefusal.TheVariants.{Words}
use Rattle.edit_script.specs.declared.command.Command.{Command}
use Rattle.edit_script.specs.declared.command.Command.TheVariants.{Nothing}
use Rattle.edit_script.specs.declared.verb.Verb.{Verb}
use Rattle.edit_script.specs.declared.verb.Verb.TheVariants as verb
use Rattle.edit_script.specs.declared.verb.Transport.{Transport}
use Rattle.edit_script.specs.declared.verb.Transport.TheVariants.{Roll, Stop, Quit, Record, Locate, Loop, LoopOff}
use Rattle.edit_script.specs.declared.verb.Strip.{Strip}
use Rattle.edit_script.specs.declared.verb.Strip.TheVariants as strip
use Rattle.edit_script.specs.declared.verb.Desk.{Desk}
use Rattle.edit_script.specs.declared.verb.Desk.TheVariants.{Point, Unpoint, Connect, Send, Unsend}
use Rattle.edit_script.specs.declared.verb.Region.{Region}
use Rattle.edit_script.specs.declared.verb.Region.TheVariants.{Add, Remove, Move, Trim}
use Rattle.edit_script.specs.declared.verb.Blend.{Blend}
use Rattle.edit_script.specs.declared.verb.Blend.TheVariants as blend
use Rattle.edit_script.specs.Words.{longest, is_text, words_of, word_at}
use Rattle.edit_script.specs.Table.{transport_forms, strip_forms, desk_forms, region_forms, blend_forms, verbs, word_of}
use Rattle.edit_script.specs.Reading.{Read, ◌>>=◌, found, width, verb_among, verb_by, command_of, command_in, said_by, is_comment, said}

-- ---- no command has more than eight words

few_transport : (v : Transport) → nat_le (length (transport_forms v)) 7 ≡ true
few_transport Roll = refl
few_transport Stop = refl
few_transport Quit = refl
few_transport Record = refl
few_transport Locate = refl
few_transport Loop = refl
few_transport LoopOff = refl

few_strip : (v : Strip) → nat_le (length (strip_forms v)) 7 ≡ true
few_strip strip.Arm = refl
few_strip strip.Solo = refl
few_strip strip.Mute = refl
few_strip strip.Gain = refl
few_strip strip.Pan = refl
few_strip strip.Mode = refl

few_desk : (v : Desk) → nat_le (length (desk_forms v)) 7 ≡ true
few_desk Point = refl
few_desk Unpoint = refl
few_desk Connect = refl
few_desk Send = refl
few_desk Unsend = refl

few_region : (v : Region) → nat_le (length (region_forms v)) 7 ≡ true
few_region Add = refl
few_region Remove = refl
few_region Move = refl
few_region Trim = refl

few_blend : (v : Blend) → nat_le (length (blend_forms v)) 7 ≡ true
few_blend blend.Layer = refl
few_blend blend.Opaque = refl
few_blend blend.Gain = refl
few_blend blend.Fade = refl
few_blend blend.Shape = refl

pub few : (v : Verb) → width v ≤ 8
few (verb.Transport v) = grind (arith, nat_tests, few_transport v)
few (verb.Strip v) = grind (arith, nat_tests, few_strip v)
few (verb.Desk v) = grind (arith, nat_tests, few_desk v)
few (verb.Region v) = grind (arith, nat_tests, few_region v)
few (verb.Blend v) = grind (arith, nat_tests, few_blend v)
few verb.Wait = omega arith
few verb.Sync = omega arith

found_one : (wide : Bool) (n : ℕ) (v u : Verb) (rest : Option Verb) → (width v == n) ≡ wide → (found (Words n) rest ≡ Ok u → width u ≡ n) → found (Words n) (if wide then Some v else rest) ≡ Ok u → width u ≡ n
found_one true n v u rest is later one = let same : v ≡ u = cc in let wide : width v ≡ n = grind (arith, nat_tests, is) in cc
found_one false n v u rest is later one = later one

found_width : (vs : List Verb) (n : ℕ) (u : Verb) → found (Words n) (find (λ v. width v == n) vs) ≡ Ok u → width u ≡ n
found_width [] n u one = absurd (cc)
found_width (v ∷ vs) n u one = found_one (width v == n) n v u (find (λ w. width w == n) vs) refl (found_width vs n u) one

among_width : (vs : List Verb) (n : ℕ) (u : Verb) → verb_among n vs ≡ Ok u → width u ≡ n
among_width [] n u one = absurd (cc)
among_width (v ∷ vs) n u one = found_width (v ∷ vs) n u one

-- ---- the words that are kept

bind_same : (r : Read Verb) (f g : Verb → Read Command) → ((v : Verb) → r ≡ Ok v → f v ≡ g v) → (r >>= f) ≡ (r >>= g)
bind_same (Ok v) f g same = same v refl
bind_same (Err why) f g same = refl

kept_words : (ws : List (List ℕ)) (v : Verb) → verb_by (word_at ws 1) (length ws) ≡ Ok v → take 8 ws ≡ ws
unfolding verb_by
kept_words ws v one = let wide : width v ≡ length ws = among_width (filter (λ u. bytes_eq (word_of u) (word_at ws 1)) verbs) (length ws) v one in
    take_all 8 ws (omega (arith, few v))

kept_command : (w : List ℕ) (ws : List (List ℕ)) → (verb_by w (length (w ∷ ws)) >>= λ v. command_of v (take 8 (w ∷ ws))) ≡ command_in (w ∷ ws)
kept_command w ws = bind_same (verb_by w (length (w ∷ ws))) (λ v. command_of v (take 8 (w ∷ ws))) (λ v. command_of v (w ∷ ws)) (λ v one. ap (command_of v) (kept_words (w ∷ ws) v one))

pub not_a_comment : (comment : Bool) (x y : Read Command) → comment ≡ false → (if comment then x else y) ≡ y
not_a_comment true x y plain = absurd (cc)
not_a_comment false x y plain = refl

in_words : (ws kept : List (List ℕ)) (n : ℕ) → kept ≡ take 8 ws → n ≡ length ws → (n ≡ 0 → ⊥) → is_comment (word_at kept 1) ≡ false →
    (verb_by (word_at kept 1) n >>= λ v. command_of v kept) ≡ said_by ws
in_words [] kept n first many some plain = absurd (some many)
in_words (w ∷ ws) kept n first many some plain =
    ap (λ (ks : List (List ℕ)). verb_by (word_at ks 1) n >>= λ v. command_of v ks) first
    ∙ ap (λ m. verb_by w m >>= λ v. command_of v (take 8 (w ∷ ws))) many
    ∙ kept_command w ws
    ∙ sym (not_a_comment (is_comment w) (Ok Nothing) (command_in (w ∷ ws)) (sym (ap (λ (ks : List (List ℕ)). is_comment (word_at ks 1)) first) ∙ plain))

-- a line of text says what its words say
pub said_is : (line : List ℕ) → length line ≤ longest → list_all is_text line ≡ true → said line ≡ said_by (words_of line)
said_is line short text = let short' : nat_lt longest (length line) ≡ false = grind (arith, nat_tests) in rw (short', text) refl

pub said_in_words : (line : List ℕ) (kept : List (List ℕ)) (n : ℕ) → length line ≤ longest → list_all is_text line ≡ true → kept ≡ take 8 (words_of line) → n ≡ length (words_of line) →
    (n ≡ 0 → ⊥) → is_comment (word_at kept 1) ≡ false → (verb_by (word_at kept 1) n >>= λ v. command_of v kept) ≡ said line
said_in_words line kept n short text first many some plain = in_words (words_of line) kept n first many some plain ∙ sym (said_is line short text)
