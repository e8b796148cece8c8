-- Takes of the sound that is read back from the capture rings are takes of the sound that was heard.
use Rattle.std.proofs.Common.{◌≡◌, ℕ, ◌+◌, ◌<◌, List, length, sym, ap, subst, ◌∙◌, arith}
use Rattle.std.specs.Prelude.{map, reverse, slice_get, Some, IfSome, drop}
use Rattle.std.specs.Option.{option_map}
use Rattle.std.proofs.lemmas.List.{length-map, reverse-reverse}
use Rattle.std.proofs.lemmas.Option.{same_Some, slice_get-map, slice_get_within}
use Rattle.ses_io.specs.Files.{Files}
use Rattle.session_model.specs.declared.session.Session.{Session}
use Rattle.engine_model.specs.Journal.{Entry}
use Rattle.engine_model.specs.Takes.{Input, take_file, take_form, take_name}
use Rattle.machine_laws.proofs.Tracks.{also_there}
use Rattle.sound_model.specs.Wav.{canon}
use Rattle.disk_ring.specs.Sender.{Sender}
use Rattle.piece_item.specs.declared.take_block.TakeBlock.{TakeBlock}
use Rattle.capture_flush.specs.Blocks.{Block, block_of, taken_from}
use Rattle.capture_flush.specs.Finished.{AreTakes, AreTakesInPart}
use Rattle.capture_flush.specs.Flushed.{IsFront}
use Rattle.process_cycle.specs.Captured.{AreOfInput}
use Rattle.worker_pair.specs.Begun.{Begun}
use Rattle.run_end.specs.Takes.{AreCut, recorded_of}
use Rattle.run_end.proofs.BackLemmas.{read_back, taken_back, take_back}

-- the blocks that were put into the capture rings
abbrev pub blocks_put : List (Sender TakeBlock) → List (List Block)
blocks_put takes = map (λ d. map block_of d.sent) takes

-- a sound of which they are
abbrev pub heard_back : Session → List Entry → List (Sender TakeBlock) → Input
heard_back s journal takes = read_back s journal 0 (blocks_put takes)

module _ (s : Session) (input : Input) (journal : List Entry) (takes : List (Sender TakeBlock)) (some_frame : 0 < s.block) (many : length takes ≡ length s.tracks.items)
    (heard : AreOfInput input s (reverse journal) takes) where
  put_are : (u : ℕ) (bs : List Block) → slice_get (blocks_put takes) u ≡ Some bs → bs ≡ taken_from s input (0 + u) 0 journal
  put_are u bs here = let d = also_there (blocks_put takes) takes u bs (length-map takes (λ d. map block_of d.sent)) here in
      same_Some bs (map block_of d.0.sent) (sym here ∙ slice_get-map (λ d. map block_of d.sent) takes u ∙ ap (option_map (λ d. map block_of d.sent)) d.1)
      ∙ heard u d.0 d.1 ∙ ap (taken_from s input u 0) (reverse-reverse journal) ∙ ap (λ n. taken_from s input n 0 journal) {x = u} {y = 0 + u} (omega arith)

  tracks_many : length (blocks_put takes) ≡ length s.tracks.items
  tracks_many = length-map takes (λ d. map block_of d.sent) ∙ many

  -- the blocks are of it
  pub of_back : AreOfInput (heard_back s journal takes) s (reverse journal) takes
  of_back t d here = heard t d here ∙ ap (taken_from s input t 0) (reverse-reverse journal)
      ∙ sym (taken_back s input journal some_frame (blocks_put takes) put_are t (omega (arith, slice_get_within takes t d here, many, tracks_many)))
      ∙ sym (ap (taken_from s (heard_back s journal takes) t 0) (reverse-reverse journal))

  file_back : (t n : ℕ) → t < length s.tracks.items → take_file s (heard_back s journal takes) t n journal ≡ take_file s input t n journal
  file_back t n lt = ap (canon (take_form s t)) (take_back s input journal some_frame (blocks_put takes) put_are t n (omega (arith, lt, tracks_many)))

module _ (begun : Begun) (input : Input) (journal : List Entry) (takes : List (Sender TakeBlock)) (some_frame : 0 < begun.session.block) (many : length takes ≡ length begun.session.tracks.items)
    (heard : AreOfInput input begun.session (reverse journal) takes) (files : Files) where
  -- whole takes
  pub takes_heard : AreTakes (recorded_of begun (heard_back begun.session journal takes)) journal files → AreTakes (recorded_of begun input) journal files
  takes_heard are = record {
    takes = λ t n lt named. are.takes t n lt named ∙ ap Some (file_back begun.session input journal takes some_frame many heard t n lt);
    others = are.others;
  }

  -- but some
  pub cut_heard : (before after : ℕ) → AreCut (recorded_of begun (heard_back begun.session journal takes)) journal before after files → AreCut (recorded_of begun input) journal before after files
  cut_heard before after are = record {
    cut = are.cut;
    many = are.many;
    whole = λ few t n lt named not. are.whole few t n lt named not ∙ ap Some (file_back begun.session input journal takes some_frame many heard t n lt);
  }

  -- and fronts of them
  pub part_heard : AreTakesInPart (recorded_of begun (heard_back begun.session journal takes)) journal files → AreTakesInPart (recorded_of begun input) journal files
  part_heard are = record {
    takes = λ t n lt named. subst (λ whole. IfSome (files (take_name begun.session t n)) (λ bytes. IsFront (drop 44 bytes) (drop 44 whole)))
        (file_back begun.session input journal takes some_frame many heard t n lt) (are.takes t n lt named);
    others = are.others;
  }
