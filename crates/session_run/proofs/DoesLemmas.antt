-- What a command does, by what was asked for.
use Rattle.std.proofs.Common.{◌≡◌, List, ℕ, [], ◌∷◌, ◌++◌, refl, sym, ap, subst, ◌∙◌, arith}
use Rattle.std.specs.Prelude.{Option, Some, None}
use Rattle.ses_io.specs.Outside.{MediaOutside, SourceOutside, SinkOutside, OnlyReads}
use Rattle.ses_io.specs.declared.world.World.{World}
use Rattle.cycle_journal.specs.declared.status.Status.{Status}
use Rattle.cycle_journal.specs.declared.status.Status.TheVariants.{Done, Usage, MasterFault, OutFault, ReadFault}
use Rattle.command_words.specs.Words.{Render}
use Rattle.session_play.specs.declared.outcome.Outcome.{Outcome}
use Rattle.session_run.specs.Carried.{CarriesOut}
use Rattle.session_run.specs.Headline.{EndsAsAsked, LeavesTheMaster, OpensNoFile, PlaysAsAsked, RendersAsAsked}
use Rattle.session_run.specs.Rendered.{GetsTheRender}
use Rattle.session_run.specs.Replied.{IsOwnText, WritesItsOwn}
use Rattle.session_run.specs.Status.{IsOfRender, IsStatusOf, ReadsFailed, WritesFailed}
use Rattle.session_run.specs.Tasks.{Task, Runs, Migrates, Checks, Renders, Verifies, Gens}
use Rattle.session_run.proofs.OutLemmas.{none_written}
use Rattle.session_run.proofs.StatusLemmas as status

usage_done : Usage ≡ Done → ⊥
usage_done is = cc

usage_read : Usage ≡ ReadFault → ⊥
usage_read is = cc

usage_master : Usage ≡ MasterFault → ⊥
usage_master is = cc

usage_out : Usage ≡ OutFault → ⊥
usage_out is = cc

append_none : (xs : List ℕ) → xs ≡ xs ++ []
append_none [] = refl
append_none (x ∷ xs) = ap (λ ys. x ∷ ys) (append_none xs)

-- a count that is as it was
pub kept : (fault : Status) (before now : ℕ) (s : Status) → (s ≡ fault → ⊥) → now ≡ before → WritesFailed fault before now s
kept fault before now s not same = record { cause = λ is. absurd (not is); same = λ _. same; later = omega (arith, same) }

module _ {M I C W O : Type 0} (outside : MediaOutside M) (inputs : SourceOutside I) (controls : SourceOutside C) (sink : SinkOutside W) (out : SinkOutside O) (old : World M I C W O) (new : Outcome M I C W O) where
  -- ---- what leaves the master alone

  not_rendered : (asked : Option Task) → LeavesTheMaster asked → RendersAsAsked outside sink old asked new
  not_rendered (Some (Runs r)) other = absurd other
  not_rendered (Some (Migrates name)) other = tt
  not_rendered (Some (Checks name)) other = tt
  not_rendered (Some (Renders r)) other = absurd other
  not_rendered (Some (Verifies v)) other = tt
  not_rendered (Some (Gens n)) other = tt
  not_rendered None other = tt

  no_rings : (asked : Option Task) → LeavesTheMaster asked → new.journal ≡ None → new.rings.items ≡ [] → new.acks ≡ None → PlaysAsAsked outside inputs controls sink out old asked new
  no_rings (Some (Runs r)) other journal rings acks = absurd other
  no_rings (Some (Migrates name)) other journal rings acks = record { journal = journal; rings = rings; acks = acks }
  no_rings (Some (Checks name)) other journal rings acks = record { journal = journal; rings = rings; acks = acks }
  no_rings (Some (Renders r)) other journal rings acks = absurd other
  no_rings (Some (Verifies v)) other journal rings acks = record { journal = journal; rings = rings; acks = acks }
  no_rings (Some (Gens n)) other journal rings acks = record { journal = journal; rings = rings; acks = acks }
  no_rings None other journal rings acks = record { journal = journal; rings = rings; acks = acks }

  -- what reads the media and writes to out alone
  pub of_unplayed : (asked : Option Task) → LeavesTheMaster asked → (media : M) → (OpensNoFile asked → media ≡ old.media) → (o : O) (s : Status) → EndsAsAsked outside inputs old asked s → IsStatusOf asked s → (s ≡ MasterFault → ⊥) →
      WritesItsOwn out (IsOwnText outside old.media asked) old.out o s → ReadsFailed (outside.read_faults old.media) (outside.read_faults media) s → WritesFailed OutFault (out.faults old.out) (out.faults o) s →
      OnlyReads outside old.media media → new.status ≡ s → new.world ≡ record old { media = media; out = o } → new.journal ≡ None → new.rings.items ≡ [] → new.acks ≡ None →
      CarriesOut outside inputs controls sink out old asked new
  of_unplayed asked other media unread o s ends of not_master own reads writes only says world journal rings acks =
      let master_is : new.world.master ≡ old.master = ap (λ (w : World M I C W O). w.master) world in
      let media_is : new.world.media ≡ media = ap (λ (w : World M I C W O). w.media) world in
      let out_is : new.world.out ≡ o = ap (λ (w : World M I C W O). w.out) world in
      record {
        ends = subst (EndsAsAsked outside inputs old asked) (sym says) ends;
        status = subst (IsStatusOf asked) (sym says) of;
        played = no_rings asked other journal rings acks;
        rendered = λ t. not_rendered asked other;
        own = subst (λ (q : O). WritesItsOwn out (IsOwnText outside old.media asked) old.out q new.status) (sym out_is) (subst (WritesItsOwn out (IsOwnText outside old.media asked) old.out o) (sym says) own);
        silent = λ some. absurd (some other);
        reads = subst (λ (m : M). ReadsFailed (outside.read_faults old.media) (outside.read_faults m) new.status) (sym media_is) (subst (ReadsFailed (outside.read_faults old.media) (outside.read_faults media)) (sym says) reads);
        writes = kept MasterFault (sink.faults old.master) (sink.faults new.world.master) new.status (λ is. not_master (sym says ∙ is)) (ap (λ (m : W). sink.faults m) master_is);
        replies = subst (λ (q : O). WritesFailed OutFault (out.faults old.out) (out.faults q) new.status) (sym out_is) (subst (WritesFailed OutFault (out.faults old.out) (out.faults o)) (sym says) writes);
        files = subst (λ (m : M). OnlyReads outside old.media m) (sym media_is) only;
        input = ap (λ (w : World M I C W O). w.input) world;
        control = ap (λ (w : World M I C W O). w.control) world;
        unwritten = λ _. master_is;
        unread = λ none. media_is ∙ unread none;
      }

  -- the words are no command
  pub no_command : new.status ≡ Usage → new.world ≡ old → new.journal ≡ None → new.rings.items ≡ [] → new.acks ≡ None → CarriesOut outside inputs controls sink out old None new
  no_command says world = of_unplayed None tt old.media (λ _. refl) old.out Usage refl refl usage_master
      (none_written out (IsOwnText outside old.media None) old.out old.out Usage usage_done usage_out refl)
      (status.quiet (outside.read_faults old.media) (outside.read_faults old.media) Usage refl usage_read)
      (kept OutFault (out.faults old.out) (out.faults old.out) Usage usage_out refl) (record { files = refl; other_count = refl }) says world

  -- ---- what writes nothing to out

  nothing_said : (asked : Option Task) → IsOwnText outside old.media asked [] → (new.status ≡ OutFault → ⊥) → new.world.out ≡ old.out → WritesItsOwn out (IsOwnText outside old.media asked) old.out new.world.out new.status
  nothing_said asked is_own not_out same = record {
    done = λ _. ([], is_own, record { held = λ t. ap (λ (o : O). out.held o) same ∙ append_none (out.held old.out); fine = ap (λ (o : O). out.faults o) same });
    cut_off = λ is. absurd (not_out is);
    nothing = λ _ _. same;
  }

  -- a render, which reads the media and writes to the master alone
  pub of_render : (r : Render) (media : M) (master : W) (s : Status) → EndsAsAsked outside inputs old (Some (Renders r)) s → IsOfRender s → (outside.tells → GetsTheRender outside old.media sink r old.master master s) →
      ((s ≡ Done → ⊥) → (s ≡ MasterFault → ⊥) → (s ≡ ReadFault → ⊥) → master ≡ old.master) → ReadsFailed (outside.read_faults old.media) (outside.read_faults media) s →
      WritesFailed MasterFault (sink.faults old.master) (sink.faults master) s → OnlyReads outside old.media media → new.status ≡ s → new.world ≡ record old { media = media; master = master } →
      new.journal ≡ None → new.rings.items ≡ [] → new.acks ≡ None → CarriesOut outside inputs controls sink out old (Some (Renders r)) new
  of_render r media master s ends of gets refused reads writes only says world journal rings acks =
      let master_is : new.world.master ≡ master = ap (λ (w : World M I C W O). w.master) world in
      let media_is : new.world.media ≡ media = ap (λ (w : World M I C W O). w.media) world in
      let out_is : new.world.out ≡ old.out = ap (λ (w : World M I C W O). w.out) world in
      let of_new : IsOfRender new.status = subst IsOfRender (sym says) of in
      record {
        ends = subst (EndsAsAsked outside inputs old (Some (Renders r))) (sym says) ends;
        status = of_new;
        rendered = λ t. subst (λ (m : W). GetsTheRender outside old.media sink r old.master m new.status) (sym master_is) (subst (GetsTheRender outside old.media sink r old.master master) (sym says) (gets t));
        own = nothing_said (Some (Renders r)) refl (status.render_not_out new.status of_new) out_is;
        silent = λ _. out_is;
        reads = subst (λ (m : M). ReadsFailed (outside.read_faults old.media) (outside.read_faults m) new.status) (sym media_is) (subst (ReadsFailed (outside.read_faults old.media) (outside.read_faults media)) (sym says) reads);
        writes = subst (λ (m : W). WritesFailed MasterFault (sink.faults old.master) (sink.faults m) new.status) (sym master_is) (subst (WritesFailed MasterFault (sink.faults old.master) (sink.faults master)) (sym says) writes);
        replies = kept OutFault (out.faults old.out) (out.faults new.world.out) new.status (status.render_not_out new.status of_new) (ap (λ (o : O). out.faults o) out_is);
        played = record {
          unplayed = record { journal = journal; rings = rings; acks = acks };
          refused = λ not_done not_master not_read. master_is ∙ refused (λ is. not_done (says ∙ is)) (λ is. not_master (says ∙ is)) (λ is. not_read (says ∙ is));
        };
        files = subst (λ (m : M). OnlyReads outside old.media m) (sym media_is) only;
        input = ap (λ (w : World M I C W O). w.input) world;
        control = ap (λ (w : World M I C W O). w.control) world;
        unwritten = λ other. absurd other;
        unread = λ none. absurd none;
      }
