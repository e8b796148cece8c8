-- Calls of control, one after another.
use Rattle.std.proofs.Common.{◌≡◌, refl, ap, ◌∙◌, sym, subst, List, [], ◌++◌, append_assoc}
use Rattle.std.specs.Prelude.{Bool, true, false, Option, Some, None, unwrap_or}
use Rattle.ses_io.specs.Outside.{SourceOutside, SinkOutside}
use Rattle.engine_model.specs.Lines.{Line}
use Rattle.engine_model.specs.Replies.{Reply}
use Rattle.control_lines.specs.Lines.{LinesState, to_come}
use Rattle.control_desk.specs.declared.standing.End.{End}
use Rattle.control_desk.specs.Standing.{Standing, Ready, Awaits, Ended, is_ready, is_ended, read_failed, write_failed, cut_off}
use Rattle.control_desk.specs.State.{ControlState, Tells, ahead, lines_in, lines_left}
use Rattle.control_desk.specs.Steps.{heard, PutsOut, Replies}
use Rattle.control_desk.specs.GoesOn.{ReadsLines, AddsReplies, Passes, GoesOn}
use Rattle.control_desk.specs.Taking.{LeavesLines}
use Rattle.control_desk.proofs.CountLemmas.{clash}
use Rattle.control_desk.proofs.ReadingLemmas.{reads_none, reads_on}
use Rattle.control_desk.proofs.WritingLemmas.{adds_none, adds_of, adds_on}

-- ---- where control stands

unread_yet : (standing : Standing) → is_ended standing ≡ false → read_failed standing ≡ false
unread_yet Ready ongoing = refl
unread_yet (Awaits awaited) ongoing = refl
unread_yet (Ended why) ongoing = absurd cc

unwritten_yet : (standing : Standing) → is_ended standing ≡ false → write_failed standing ≡ false
unwritten_yet Ready ongoing = refl
unwritten_yet (Awaits awaited) ongoing = refl
unwritten_yet (Ended why) ongoing = absurd cc

read_ends : (standing : Standing) → read_failed standing ≡ true → is_ended standing ≡ true
read_ends Ready fault = absurd cc
read_ends (Awaits awaited) fault = absurd cc
read_ends (Ended why) fault = refl

write_ends : (standing : Standing) → write_failed standing ≡ true → is_ended standing ≡ true
write_ends Ready fault = absurd cc
write_ends (Awaits awaited) fault = absurd cc
write_ends (Ended why) fault = refl

cut_reads : (fault : Bool) (standing : Standing) → read_failed standing ≡ false → read_failed (cut_off fault standing) ≡ false
cut_reads true standing none = refl
cut_reads false standing none = none

cut_writes : (fault : Bool) (standing : Standing) → write_failed standing ≡ false → write_failed (cut_off fault standing) ≡ fault
cut_writes true standing none = refl
cut_writes false standing none = none

pub ready_open : (standing : Standing) → is_ready standing ≡ true → is_ended standing ≡ false
ready_open Ready ready = refl
ready_open (Awaits awaited) ready = absurd cc
ready_open (Ended why) ready = absurd cc

module _ {C O : Type 0} (source : SourceOutside C) (sink : SinkOutside O) where
  -- ---- one call

  -- nothing happened
  none_pass : (old : ControlState C O) (script : Option (List Line)) → Passes source sink old [] [] old script script
  none_pass old None = (reads_none source old.lines (read_failed old.standing), adds_none sink old.out (write_failed old.standing))
  none_pass old (Some lines) = (refl, refl, refl, refl, refl)

  pub goes_nowhere : (old : ControlState C O) → GoesOn source sink old [] [] old
  goes_nowhere old = record { passes = none_pass old old.script; over = λ e. (refl, refl, refl) }

  -- lines were taken and answered
  pass_by : (old : ControlState C O) (ls : List Line) (rs : List Reply) (lines : LinesState C) (out : O) (fault : Bool) (standing : Standing) (s t : Option (List Line)) →
      is_ended old.standing ≡ false → LeavesLines source ls old.lines lines false s t → PutsOut sink (heard t rs) old.out out fault → read_failed standing ≡ false → write_failed standing ≡ false →
      Passes source sink old ls rs (record { lines = lines; script = t; out = out; standing = cut_off fault standing }) s t
  pass_by old ls rs lines out fault standing None None ongoing reads puts no_read no_write = (
    subst (λ b. ReadsLines source ls old.lines lines b (read_failed (cut_off fault standing))) (sym (unread_yet old.standing ongoing))
        (subst (λ b. ReadsLines source ls old.lines lines false b) (sym (cut_reads fault standing no_read)) reads),
    subst (λ b. AddsReplies sink rs old.out out b (write_failed (cut_off fault standing))) (sym (unwritten_yet old.standing ongoing))
        (subst (λ b. AddsReplies sink rs old.out out false b) (sym (cut_writes fault standing no_write)) (adds_of sink rs old.out out fault puts)),
  )
  pass_by old ls rs lines out fault standing (Some before) (Some after) ongoing reads puts no_read no_write = (
    reads.0,
    reads.1,
    puts.0,
    cut_reads fault standing no_read ∙ sym (unread_yet old.standing ongoing),
    cut_writes fault standing no_write ∙ puts.1 ∙ sym (unwritten_yet old.standing ongoing),
  )
  pass_by old ls rs lines out fault standing None (Some after) ongoing reads puts no_read no_write = absurd reads
  pass_by old ls rs lines out fault standing (Some before) None ongoing reads puts no_read no_write = absurd reads

  pub goes_by_line : (old : ControlState C O) (ls : List Line) (rs : List Reply) (lines : LinesState C) (script : Option (List Line)) (standing : Standing) (new : ControlState C O) →
      is_ended old.standing ≡ false → LeavesLines source ls old.lines lines false old.script script → Replies sink rs standing (record old { lines = lines; script = script }) new →
      read_failed standing ≡ false → write_failed standing ≡ false → GoesOn source sink old ls rs new
  goes_by_line old ls rs lines script standing new ongoing reads replies no_read no_write = subst (λ c. GoesOn source sink old ls rs c) (sym replies.state) record {
    passes = pass_by old ls rs lines new.out replies.fault standing old.script script ongoing reads replies.out no_read no_write;
    over = λ e. clash (is_ended old.standing) ongoing e;
  }

  no_line : (s : LinesState C) (script : Option (List Line)) → LeavesLines source [] s s false script script
  no_line s None = reads_none source s false
  no_line s (Some lines) = (refl, refl, refl)

  -- replies went out, and no line was taken
  pub goes_by_reply : (old : ControlState C O) (rs : List Reply) (standing : Standing) (new : ControlState C O) → is_ended old.standing ≡ false → Replies sink rs standing old new →
      read_failed standing ≡ false → write_failed standing ≡ false → GoesOn source sink old [] rs new
  goes_by_reply old rs standing new ongoing replies = goes_by_line old [] rs old.lines old.script standing new ongoing (no_line old.lines old.script) replies

  -- no line is left, or a read failed
  end_by : (old : ControlState C O) (lines : LinesState C) (why : End) (s t : Option (List Line)) → is_ended old.standing ≡ false → LeavesLines source [] old.lines lines (read_failed (Ended why)) s t →
      write_failed (Ended why) ≡ false → Passes source sink old [] [] (record { lines = lines; script = t; out = old.out; standing = Ended why }) s t
  end_by old lines why None None ongoing reads no_write = (
    subst (λ b. ReadsLines source [] old.lines lines b (read_failed (Ended why))) (sym (unread_yet old.standing ongoing)) reads,
    subst (λ b. AddsReplies sink [] old.out old.out b (write_failed (Ended why))) (sym (unwritten_yet old.standing ongoing))
        (subst (λ b. AddsReplies sink [] old.out old.out false b) (sym no_write) (adds_none sink old.out false)),
  )
  end_by old lines why (Some before) (Some after) ongoing reads no_write = (
    reads.0,
    reads.1,
    refl,
    reads.2 ∙ sym (unread_yet old.standing ongoing),
    no_write ∙ sym (unwritten_yet old.standing ongoing),
  )
  end_by old lines why None (Some after) ongoing reads no_write = absurd reads
  end_by old lines why (Some before) None ongoing reads no_write = absurd reads

  pub goes_by_end : (old : ControlState C O) (lines : LinesState C) (script : Option (List Line)) (why : End) → is_ended old.standing ≡ false →
      LeavesLines source [] old.lines lines (read_failed (Ended why)) old.script script → write_failed (Ended why) ≡ false →
      GoesOn source sink old [] [] (record old { lines = lines; script = script; standing = Ended why })
  goes_by_end old lines script why ongoing reads no_write = record {
    passes = end_by old lines why old.script script ongoing reads no_write;
    over = λ e. clash (is_ended old.standing) ongoing e;
  }

  -- ---- one after another

  pass_on : (xs ys : List Line) (us vs : List Reply) (a b c : ControlState C O) (s t u : Option (List Line)) → Passes source sink a xs us b s t → Passes source sink b ys vs c t u →
      (is_ended a.standing ≡ true → b ≡ a) → (is_ended b.standing ≡ true → (ys ≡ []) × (vs ≡ []) × (c ≡ b)) → Passes source sink a (xs ++ ys) (us ++ vs) c s u
  pass_on xs ys us vs a b c None None None one two first over = (
    reads_on source xs ys a.lines b.lines c.lines (read_failed a.standing) (read_failed b.standing) (read_failed c.standing) one.0 two.0
        (λ e. ap (λ (x : ControlState C O). read_failed x.standing) (first (read_ends a.standing e)) ∙ e)
        (λ e. let o = over (read_ends b.standing e) in (o.0, ap (λ (x : ControlState C O). x.lines) o.2, ap (λ (x : ControlState C O). read_failed x.standing) o.2 ∙ e)),
    adds_on sink us vs a.out b.out c.out (write_failed a.standing) (write_failed b.standing) (write_failed c.standing) one.1 two.1
        (λ e. ap (λ (x : ControlState C O). write_failed x.standing) (first (write_ends a.standing e)) ∙ e)
        (λ e. let o = over (write_ends b.standing e) in (o.1, ap (λ (x : ControlState C O). x.out) o.2, ap (λ (x : ControlState C O). write_failed x.standing) o.2 ∙ e)),
  )
  pass_on xs ys us vs a b c (Some s) (Some t) (Some u) one two first over = (
    one.0 ∙ ap (λ zs. xs ++ zs) two.0 ∙ sym (append_assoc xs ys u),
    two.1 ∙ one.1,
    two.2 ∙ one.2,
    two.3 ∙ one.3,
    two.4 ∙ one.4,
  )
  pass_on xs ys us vs a b c None (Some t) u one two first over = absurd one
  pass_on xs ys us vs a b c (Some s) None u one two first over = absurd one
  pass_on xs ys us vs a b c None None (Some u) one two first over = absurd two
  pass_on xs ys us vs a b c (Some s) (Some t) None one two first over = absurd two

  pub goes_on : (xs ys : List Line) (us vs : List Reply) (a b c : ControlState C O) → GoesOn source sink a xs us b → GoesOn source sink b ys vs c → GoesOn source sink a (xs ++ ys) (us ++ vs) c
  goes_on xs ys us vs a b c one two = record {
    passes = pass_on xs ys us vs a b c a.script b.script c.script one.passes two.passes (λ e. (one.over e).2) two.over;
    over = λ e. let o = one.over e in let p = two.over (ap (λ (x : ControlState C O). is_ended x.standing) o.2 ∙ e) in
        (ap (λ zs. zs ++ ys) o.0 ∙ p.0, ap (λ zs. zs ++ vs) o.1 ∙ p.1, p.2 ∙ o.2);
  }

  -- ---- what was taken

  left_by : (xs : List Line) (us : List Reply) (a b : ControlState C O) (s t : Option (List Line)) → Passes source sink a xs us b s t → Tells source s → read_failed b.standing ≡ false →
      lines_left source a.lines s ≡ xs ++ lines_left source b.lines t
  left_by xs us a b None None passes tells whole = passes.0.first tells ∙ ap (λ zs. xs ++ lines_in (zs ++ to_come source b.lines)) (passes.0.none_lost whole)
  left_by xs us a b (Some s) (Some t) passes tells whole = passes.0
  left_by xs us a b None (Some t) passes tells whole = absurd passes
  left_by xs us a b (Some s) None passes tells whole = absurd passes

  -- where no read failed, the lines to come before are those that were taken and those to come now
  pub ahead_of : (xs : List Line) (us : List Reply) (a b : ControlState C O) → GoesOn source sink a xs us b → Tells source a.script → read_failed b.standing ≡ false →
      ahead source a ≡ xs ++ ahead source b
  ahead_of xs us a b goes tells whole = left_by xs us a b a.script b.script goes.passes tells whole

  -- what was known of the lines to come is known still
  tells_by : (xs : List Line) (us : List Reply) (a b : ControlState C O) (s t : Option (List Line)) → Passes source sink a xs us b s t → Tells source s → Tells source t
  tells_by xs us a b None None passes tells = tells
  tells_by xs us a b (Some s) (Some t) passes tells = tells
  tells_by xs us a b None (Some t) passes tells = absurd passes
  tells_by xs us a b (Some s) None passes tells = absurd passes

  pub tells_on : (xs : List Line) (us : List Reply) (a b : ControlState C O) → GoesOn source sink a xs us b → Tells source a.script → Tells source b.script
  tells_on xs us a b goes tells = tells_by xs us a b a.script b.script goes.passes tells

  -- control that is read
  read_by : (xs : List Line) (us : List Reply) (a b : ControlState C O) (s t : Option (List Line)) → s ≡ None → Passes source sink a xs us b s t →
      (t ≡ None) × ReadsLines source xs a.lines b.lines (read_failed a.standing) (read_failed b.standing) × AddsReplies sink us a.out b.out (write_failed a.standing) (write_failed b.standing)
  read_by xs us a b None None none passes = (refl, passes.0, passes.1)
  read_by xs us a b None (Some t) none passes = absurd passes
  read_by xs us a b (Some s) t none passes = absurd cc

  pub reads_of : (xs : List Line) (us : List Reply) (a b : ControlState C O) → a.script ≡ None → GoesOn source sink a xs us b →
      (b.script ≡ None) × ReadsLines source xs a.lines b.lines (read_failed a.standing) (read_failed b.standing) × AddsReplies sink us a.out b.out (write_failed a.standing) (write_failed b.standing)
  reads_of xs us a b none goes = read_by xs us a b a.script b.script none goes.passes

  -- and a script
  said_by : (xs before : List Line) (us : List Reply) (a b : ControlState C O) (s t : Option (List Line)) → s ≡ Some before → Passes source sink a xs us b s t →
      (after : List Line) × (t ≡ Some after) × (before ≡ xs ++ after) × (b.lines ≡ a.lines) × (b.out ≡ a.out)
  said_by xs before us a b (Some s) (Some t) is passes = (t, refl, sym (ap (λ x. unwrap_or x []) is) ∙ passes.0, passes.1, passes.2)
  said_by xs before us a b (Some s) None is passes = absurd passes
  said_by xs before us a b None t is passes = absurd cc

  pub says_of : (xs before : List Line) (us : List Reply) (a b : ControlState C O) → a.script ≡ Some before → GoesOn source sink a xs us b →
      (after : List Line) × (b.script ≡ Some after) × (before ≡ xs ++ after) × (b.lines ≡ a.lines) × (b.out ≡ a.out)
  says_of xs before us a b is goes = said_by xs before us a b a.script b.script is goes.passes
