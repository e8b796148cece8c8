-- What take files hold while blocks come: a header, the blocks in their order, and zeros for those that were skipped (own).
use Rattle.std.specs.Prelude.{◌≡◌, ℕ, ◌*◌, ◌<◌, ◌/◌, ◌-◌, ◌==◌, nat_lt, min, max, suc, Bool, true, false, not, if◌then◌else◌, ℤ, List, [], ◌∷◌, ◌++◌, take, drop, replicate, flat_map, unwrap_or, Option, Some, None, IfSome, codes, Result, OnOk, OnErr, ◌⊎◌}
use Rattle.std.specs.List.{range_with_len}
use Rattle.ses_units.specs.Bits.{bits_of}
use Rattle.ses_io.specs.Files.{Files, HasNameUnder, content, with_file, overwritten, AppendsSomeTo, OverwritesSome}
use Rattle.ses_io.specs.Outside.{MediaOutside, WriteCause}
use Rattle.sound_model.specs.Wav.{header, sound_bytes}
use Rattle.session_model.specs.declared.session.Session.{Session}
use Rattle.engine_model.specs.Takes.{silent_block, take_form, take_name}
use Rattle.capture_flush.specs.declared.track.Place.{Place}
use Rattle.capture_flush.specs.Blocks.{Block, block_samples, block_at, blocks_in, kept, last_from}
use Rattle.capture_flush.specs.Taking.{Taking, has_failed, is_given, last_of}
use Rattle.capture_flush.specs.Writes.{with_more}
use Rattle.std.specs.Prelude.{length}

-- ---- the head of a file

-- the bytes of a block of track t
abbrev pub block_bytes : Session → ℕ → ℕ
block_bytes s t = block_samples s t * (bits_of s.bits / 8)

-- the blocks of about a second
abbrev pub second_blocks : Session → ℕ
second_blocks s = max 1 (s.rate / s.block)

-- Of how many blocks the head tells where so many stand: of those of whole seconds, and of one at least where one stands.
-- The sizes in a header have room for 100,000 blocks. Where a block is shorter than a head, it tells of one at most.
abbrev pub stated_of : Session → ℕ → ℕ → ℕ
stated_of s t few = if nat_lt (block_bytes s t) 44 then min few 1 else min few (max 1 (few / second_blocks s * second_blocks s))

abbrev pub stated : Session → ℕ → ℕ → ℕ
stated s t blocks = stated_of s t (min blocks 100000)

-- and the head itself
unfoldable pub head_of : Session → ℕ → ℕ → List ℕ
head_of s t blocks = header (take_form s t) (stated s t blocks * block_bytes s t)

-- ---- one take

-- the samples that came of take n: each block at its index, silence for each that was skipped
abbrev pub flushed_samples : Session → ℕ → ℕ → List Block → List ℤ
flushed_samples s t n blocks = flat_map (λ i. unwrap_or (block_at n i blocks) (silent_block s t)) (range_with_len 0 (blocks_in n blocks))

-- and their bytes
abbrev pub flushed_sound : Session → ℕ → ℕ → List Block → List ℕ
flushed_sound s t n blocks = sound_bytes (bits_of s.bits) (flushed_samples s t n blocks)

-- its file, of which there is none before its first block came
abbrev pub flushed_file : Session → ℕ → ℕ → List Block → Option (List ℕ)
flushed_file s t n blocks = if blocks_in n blocks == 0 then None else Some (head_of s t (blocks_in n blocks) ++ flushed_sound s t n blocks)

-- ---- all files

-- what no code holds and clauses speak of: the session, the files before the first block, and the blocks passed so far by track
pub record Tape : Type 0 where
  pub session : Session
  pub held : Files
  pub blocks : ℕ → List Block

-- one block more of track t
abbrev pub with_block : Tape → ℕ → Block → Tape
with_block tape t b = record tape { blocks = λ u. if u == t then tape.blocks u ++ b ∷ [] else tape.blocks u }

-- those of track t that its files keep
abbrev pub kept_of : Tape → ℕ → List Block
kept_of tape t = kept tape.session t (tape.blocks t)

-- a file of a take of some track may have this name
abbrev pub IsTakeName : Session → List ℕ → Type 0
IsTakeName s q = (t : ℕ) × (n : ℕ) × (t < length s.tracks.items) × (take_name s t n ≡ q)

-- before the first block no file had a name that begins as those of takes do
abbrev pub IsFresh : Tape → Type 0
IsFresh tape = ¬ (HasNameUnder tape.held (tape.session.takes ++ codes "-"))

-- these are the first of those
abbrev pub IsFront : List ℕ → List ℕ → Type 0
IsFront front whole = (n : ℕ) × (front ≡ take n whole)

-- From byte 44 on, where the sound begins, the file of each take has a front of what was kept; the others are as they were.
pub record IsFlushedInPart (tape : Tape) (files : Files) : Type 0 where
  pub fresh : IsFresh tape
  pub takes : (t n : ℕ) → t < length tape.session.tracks.items →
      IfSome (files (take_name tape.session t n)) (λ bytes. IsFront (drop 44 bytes) (flushed_sound tape.session t n (kept_of tape t)))
  pub none : (t n : ℕ) → t < length tape.session.tracks.items → blocks_in n (kept_of tape t) ≡ 0 → files (take_name tape.session t n) ≡ None
  pub others : (q : List ℕ) → ¬ (IsTakeName tape.session q) → files q ≡ tape.held q

-- The files hold what they held, and of each take what was kept; of one that failed a front of it.
pub record IsFlushed (tape : Tape) (f : Taking) (files : Files) : Type 0 where
  pub last : (t : ℕ) → t < length tape.session.tracks.items → last_of f t ≡ last_from tape.session t None (tape.blocks t)
  pub takes : (t n : ℕ) → t < length tape.session.tracks.items → has_failed f t n ≡ false → files (take_name tape.session t n) ≡ flushed_file tape.session t n (kept_of tape t)
  pub in_part : IsFlushedInPart tape files

-- ---- what a block adds to its file

-- the next index of a take, where this block was kept last: so many blocks stand in its file
abbrev pub next_index : Option Place → ℕ → ℕ
next_index None n = 0
next_index (Some last) n = if last.take == n then suc last.index else 0

-- the take is new
abbrev pub is_new : Option Place → ℕ → Bool
is_new None n = true
is_new (Some last) n = not (last.take == n)

-- the header of no blocks
abbrev pub no_blocks : Session → ℕ → List ℕ
no_blocks s t = header (take_form s t) (0 * block_bytes s t)

-- what a block that is kept adds to the file of its take: the header of no blocks where the take is new, zeros for the blocks that were skipped, and its samples
abbrev pub added : Session → ℕ → Option Place → Block → List ℕ
added s t last b = (if is_new last b.take then no_blocks s t else [])
    ++ (replicate ((b.index - next_index last b.take) * block_bytes s t) 0 ++ sound_bytes (bits_of s.bits) b.samples)

-- the files with the head of one of them over its front, where it tells of other blocks than before
abbrev pub renewed : Session → ℕ → List ℕ → ℕ → ℕ → Files → Files
renewed s t name before after files = if stated s t before == stated s t after then files
    else with_file files name (overwritten (content files name) 0 (head_of s t after))

-- the files once a block was given: it was added to the file of its take, and the head renewed
abbrev pub with_given : Session → ℕ → Option Place → Block → Files → Files
with_given s t last b files = let name = take_name s t b.take in
    renewed s t name (next_index last b.take) (suc b.index) (with_more files name (added s t last b))

-- they changed in part: some of it was added, or all of it and some of the head written
abbrev pub GivesInPart : Session → ℕ → Option Place → Block → Files → Files → Type 0
GivesInPart s t last b old new = let name = take_name s t b.take in AppendsSomeTo old new name (added s t last b)
    ⊎ OverwritesSome (with_more old name (added s t last b)) new name 0 (head_of s t (suc b.index))

-- What a block that is passed does to a media.
pub record Gives {V E : Type 0} (outside : MediaOutside V) (s : Session) (f : Taking) (t : ℕ) (b : Block) (old new : V) (result : Result (Unit {0}) E) : Type 0 where
  -- it is written where it is kept and its take hasn't failed
  pub all : outside.tells → OnOk result (outside.files new ≡ (if is_given s f t b then with_given s t (last_of f t) b (outside.files old) else outside.files old))
  -- and a part of it after a fault, which comes only there
  pub part : outside.tells → OnErr result (GivesInPart s t (last_of f t) b (outside.files old) (outside.files new))
  pub given : OnErr result (is_given s f t b ≡ true)
  -- and only where the count rose
  pub cause : WriteCause outside old new result
  -- no read failed
  pub reads : outside.read_faults new ≡ outside.read_faults old
