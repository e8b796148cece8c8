-- What is verified is what agrees.
use Rattle.std.proofs.Common.{◌≡◌, ℕ, refl, ◌∙◌, sym, subst, inl, inr, List}
use Rattle.std.specs.Prelude.{Some, None, Result, Ok, Err}
use Rattle.sound_model.specs.Regions.{Sounds}
use Rattle.session_model.specs.declared.session.Session.{Session}
use Rattle.session_model.specs.Valid.{IsValid}
use Rattle.report_reader.specs.Grammar.{IsReportAt, IsBadLine}
use Rattle.report_reader.specs.Laws.{FilesAreCutOneWay, ReportsAreReadOneWay, ReadHasNoBadLine}
use Rattle.report_verdict.specs.Laws.{AllStandWhereAllAgree}
use Rattle.report_verdict.specs.Lines.{lines_stand, refuted_at}
use Rattle.report_check.specs.declared.unverified.Unverified.{Unverified}
use Rattle.report_check.specs.declared.unverified.Unverified.TheVariants.{BadReport, Refuted, Unread}
use Rattle.report_check.specs.Laws.{AllAgree, IsVerifiedOrUnread, VerifiedWhereAllAgree, WhatAgreesIsVerified}
use Rattle.report_check.specs.Verdict.{Found, IsBadAt, Verified}

pub verified_where_all_agree : AllStandWhereAllAgree → VerifiedWhereAllAgree
verified_where_all_agree law s sounds bytes file entries valid v = (
  record { found = v.0; agree = (law s sounds v.0.report file v.0.first valid v.0.holds.is.readable.few).0 v.1 },
  v.2,
)

module _ (law : AllStandWhereAllAgree) (cut : FilesAreCutOneWay) (one : ReportsAreReadOneWay) (none : ReadHasNoBadLine) (s : Session) (sounds : Sounds) (bytes file : List ℕ) (valid : IsValid s) (all : AllAgree s sounds bytes file) where
  unrefuted : refuted_at all.found.first (lines_stand s sounds all.found.report file) ≡ None
  unrefuted = (law s sounds all.found.report file all.found.first valid all.found.holds.is.readable.few).1 all.agree

  not_refuted : (n : ℕ) (f : Found bytes) → refuted_at f.first (lines_stand s sounds f.report file) ≡ Some n → ⊥
  not_refuted n f e = none_is_some (sym (subst (λ r. refuted_at f.first (lines_stand s sounds r file) ≡ None) (sym same.1)
      (subst (λ k. refuted_at k (lines_stand s sounds all.found.report file) ≡ None) (sym same.0) unrefuted)) ∙ e)
    where
      none_is_some : None ≡ Some n → ⊥
      none_is_some e = cc

      lines_same : f.holds.lines ≡ all.found.holds.lines
      lines_same = (cut bytes f.holds.lines all.found.holds.lines f.holds.rest all.found.holds.rest f.holds.cut all.found.holds.cut).0

      same : (f.first ≡ all.found.first) × (f.report ≡ all.found.report)
      same = one all.found.holds.lines f.first all.found.first f.report all.found.report (subst (λ ls. IsReportAt ls f.first f.report) lines_same f.holds.is) all.found.holds.is

  not_bad : (n : ℕ) → IsBadAt bytes n → ⊥
  not_bad n b = none all.found.holds.lines all.found.first n all.found.report all.found.holds.is (subst (λ ls. IsBadLine ls n) lines_same b.bad)
    where
      lines_same : b.lines ≡ all.found.holds.lines
      lines_same = (cut bytes b.lines all.found.holds.lines b.rest all.found.holds.rest b.cut all.found.holds.cut).0

  by_answer : (answer : Result ℕ Unverified) → Verified s sounds bytes file answer → IsVerifiedOrUnread answer
  by_answer (Ok n) v = inl refl
  by_answer (Err (Refuted n)) v = absurd (not_refuted n v.0 v.1)
  by_answer (Err (BadReport n)) v = absurd (not_bad n v)
  by_answer (Err (Unread why)) v = inr (why, refl)

pub what_agrees_is_verified : AllStandWhereAllAgree → FilesAreCutOneWay → ReportsAreReadOneWay → ReadHasNoBadLine → WhatAgreesIsVerified
what_agrees_is_verified law cut one none s sounds bytes file answer valid all v = by_answer law cut one none s sounds bytes file valid all answer v
