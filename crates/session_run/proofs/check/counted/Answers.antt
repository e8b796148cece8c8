-- The numbers that are printed are those of the session.
use Rattle.std.proofs.Common.{◌≡◌, ℕ, List, ◌++◌, append_assoc, length, codes, decimal, sym, ap, subst, ◌∙◌}
use Rattle.std.specs.Prelude.{IfOk, string_bytes}
use Rattle.std.specs.List.{count_by}
use Rattle.session_model.specs.declared.route.Route.{Route}
use Rattle.session_model.specs.declared.session.SourceDecl.{SourceDecl}
use Rattle.session_model.specs.declared.track.Track.{Track}
use Rattle.session_run.specs.Checked.{busses, is_bus}
use Rattle.session_run.proofs.check.counted.Goals as goal

abbrev text : ℕ → ℕ → ℕ → List ℕ
text tracks busses sources = codes "ok " ++ decimal tracks ++ codes " " ++ decimal busses ++ codes " " ++ decimal sources ++ codes "\n"

-- piece by piece, as it is printed
abbrev printed : ℕ → ℕ → ℕ → List ℕ
printed tracks busses sources = codes "ok " ++ (decimal tracks ++ (codes " " ++ (decimal busses ++ (codes " " ++ (decimal sources ++ codes "\n")))))

same : (t b d : ℕ) → text t b d ≡ printed t b d
same t b d = let k = codes "ok " in let gap = codes " " in let end = codes "\n" in
    append_assoc (k ++ decimal t ++ gap ++ decimal b ++ gap) (decimal d) end
    ∙ append_assoc (k ++ decimal t ++ gap ++ decimal b) gap (decimal d ++ end)
    ∙ append_assoc (k ++ decimal t ++ gap) (decimal b) (gap ++ (decimal d ++ end))
    ∙ append_assoc (k ++ decimal t) gap (decimal b ++ (gap ++ (decimal d ++ end)))
    ∙ append_assoc k (decimal t) (gap ++ (decimal b ++ (gap ++ (decimal d ++ end))))

pub returns : goal.returns
returns c = let s = c.args.session.now in
    let tracks : length c.as_slice.result.now ≡ length s.tracks.items = ap (λ (l : List Track). length l) c.as_slice.ensures.items in
    let many : c.busses-busses.result ≡ busses s = c.busses-busses.ensures ∙ ap (λ (l : List Route). count_by (λ r. is_bus r.kind) l) c.as_slice-2.ensures.items in
    let sources : length c.as_slice-3.result.now ≡ length s.sources.items = ap (λ (l : List SourceDecl). length l) c.as_slice-3.ensures.items in
    subst (λ l. IfOk c.format.result (λ t. string_bytes t ≡ l)) (sym (same (length s.tracks.items) (busses s) (length s.sources.items)))
    (subst (λ n. IfOk c.format.result (λ t. string_bytes t ≡ printed n (busses s) (length s.sources.items))) tracks
    (subst (λ n. IfOk c.format.result (λ t. string_bytes t ≡ printed (length c.as_slice.result.now) n (length s.sources.items))) many
    (subst (λ n. IfOk c.format.result (λ t. string_bytes t ≡ printed (length c.as_slice.result.now) c.busses-busses.result n)) sources c.format.ensures.ok)))
