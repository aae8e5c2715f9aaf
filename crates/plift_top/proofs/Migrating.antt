-- What migrating a report comes to, step by step.
use Rattle.std.proofs.Common.{◌≡◌, inl, inr, ℕ, false, List, [], ◌∷◌, ◌++◌, drop, append_assoc, nat_eq, codes, None, Some, Ok, Err, refl, sym, ap, ◌∙◌, arith, Result, IsErrAnd, if◌then◌else◌}
use Rattle.std.specs.declared.option.Option.{Option}
use Rattle.std.specs.Prelude.{is_some, IfOk, IfErr}
use Rattle.std.specs.List.{concat, starts_with}
use Rattle.std.specs.Io.KnownBytes.{Appends}
use Rattle.lift_base.specs.Outside.{AppendsFront, Wrote, WroteSome}
use Rattle.cert_text.specs.Report.{line, version_words, head_lines, tree_lines, report_text}
use Rattle.cert_text.specs.Migrated.{MigratesTo}
use Rattle.cert_check.specs.Sound.{IsSoundFile}
use Rattle.cert_check.specs.Answer.{Answers}
use Rattle.cert_check.specs.Laws.{AnswersAreOne, SoundFilesMigrate, SoundFilesPass}
use Rattle.cert_check.specs.Shown.{IsReportedOfFile, Says}
use Rattle.cert_check.specs.declared.summary.Summary.{Summary}
use Rattle.cert_check.specs.declared.error.CheckError.{CheckError}
use Rattle.cert_check.specs.declared.error.CheckError.TheVariants as check
use Rattle.plift_top.specs.Refused.{check_refusal}
use Rattle.plift_top.specs.Reads.{ReadsText}
use Rattle.plift_top.proofs.Errors.{at_error, faultless}
use Rattle.plift_top.specs.Migrate.{ChecksFirst, IsMigrated, IsRefusedFirst, IsSecond, IsSoundFirst, migrating}
use Rattle.plift_top.specs.declared.refusal.Refusal.{Refusal}
use Rattle.plift_top.specs.declared.refusal.Refusal.TheVariants as refusal

-- ---- the first line

pub not_second : (text : List ℕ) → starts_with nat_eq text (codes "plift 2\n") ≡ false → IsSecond text → ⊥
not_second text e (rest, is) = let same = ap (λ (t : List ℕ). starts_with nat_eq t (codes "plift 2\n")) is in absurd (cc)

-- the first line of a file tells its version
module _ (bytes : List ℕ) (leaves : Summary) (file : IsSoundFile bytes leaves) where
  version_by : (from : Option ℕ) → file.head.from ≡ from → leaves.version ≡ (if is_some from then 2 else 1)
  version_by from is = ap (λ (l : Summary). l.version) file.counts ∙ ap (λ (f : Option ℕ). if is_some f then 2 else 1) is

  begins : (from : Option ℕ) → file.head.from ≡ from → (rest : List ℕ) × (bytes ≡ line (version_words (is_some from)) ++ rest)
  begins from is =
      let k = file.head.asked in
      let lines = drop 1 (head_lines k from file.head.bound) in
      let nodes = concat (tree_lines from k.model.init file.tree) in
      (concat lines ++ nodes, file.text ∙ ap (λ (f : Option ℕ). report_text k f file.head.bound file.tree) is ∙ append_assoc (line (version_words (is_some from))) (concat lines) nodes)

  pub first_version : (IsSecond bytes → ⊥) → leaves.version ≡ 1
  first_version other = by file.head.from refl
    where
      by : (from : Option ℕ) → file.head.from ≡ from → leaves.version ≡ 1
      by None is = version_by None is
      by (Some v) is = absurd (other (begins (Some v) is))

  pub not_first : IsSecond bytes → leaves.version ≡ 1 → ⊥
  not_first (rest, second) one = by file.head.from refl
    where
      by : (from : Option ℕ) → file.head.from ≡ from → ⊥
      by None is =
          let first = begins None is in
          let same : codes "plift 1\n" ++ first.0 ≡ codes "plift 2\n" ++ rest = sym first.1 ∙ second in
          let digit : 49 ≡ 50 = ap (λ (t : List ℕ). head_of (drop 6 t)) same in
          omega (arith, digit)
        where
          head_of : List ℕ → ℕ
          head_of [] = 0
          head_of (b ∷ t) = b
      by (Some v) is = let two : leaves.version ≡ 2 = version_by (Some v) is in omega (arith, one, two)

-- ---- the check

-- what is answered to a text whose first line isn't that of the second version
pub answered_first : (text : List ℕ) (result : Result Summary CheckError) → starts_with nat_eq text (codes "plift 2\n") ≡ false → IfOk result (IsSoundFile text) → Says (λ s. s) (Answers text) result → IfErr result IsReportedOfFile → ChecksFirst text result
answered_first text (Ok leaves) other file is reported = record { file = file; first = first_version text leaves file (not_second text other) }
answered_first text (Err check.Memory) other file is reported = tt
answered_first text (Err check.Fault) other file is reported = absurd reported
answered_first text (Err check.TooLong) other file is reported = absurd reported
answered_first text (Err _) other file is reported = inr (not_second text other, is (λ k. absurd (cc)))

-- a sound file of the first version isn't refused
pub never_refused : SoundFilesPass → AnswersAreOne → (bytes : List ℕ) (leaves : Summary) (error : CheckError) → IsSoundFirst bytes leaves → IsRefusedFirst error bytes → ⊥
never_refused pass one bytes leaves error s (inl (second, is)) = not_first bytes leaves s.file second s.first
never_refused pass one bytes leaves error s (inr (other, answers)) = faultless pass one bytes leaves error s.file answers

-- ---- the text

pub tells : {K : Type 0} (taken : K → Option (List ℕ)) (faults : K → ℕ) (old new : K) {T E : Type 0} (result : Result T E) (is_text : List ℕ → Type 0) → (text : List ℕ) × is_text text → ((text : List ℕ) → is_text text → Wrote taken faults old new result text) → WroteSome is_text taken faults old new result
tells taken faults old new (Ok x) is_text some w = record { some = some; whole = λ text is. (w text is).whole; part = tt; cause = tt; later = (w some.0 some.1).later }
tells taken faults old new (Err e) is_text some w = record { some = tt; whole = tt; part = λ text is. (w text is).part; cause = (w some.0 some.1).cause; later = (w some.0 some.1).later }

module _ (migrate : SoundFilesMigrate) (text : List ℕ) where
  -- a text that was found sound can be migrated
  pub ready : (leaves : Summary) → IsSoundFirst text leaves → (new : List ℕ) × MigratesTo text new
  ready leaves s = let m = migrate text leaves s.file s.first in (m.0, m.1)

  migrated : (Took : List ℕ → Type 0) (leaves : Summary) → IsSoundFirst text leaves → ((new : List ℕ) → MigratesTo text new → Took new) → IsMigrated Took text
  migrated Took leaves s took =
      let m = migrate text leaves s.file s.first in
      record { leaves = leaves; sound = s; new = m.0; same = m.1; file = m.2; took = took m.0 m.1 }

  module _ {K : Type 0} (taken : K → Option (List ℕ)) (counts : K → ℕ) (out out' : K) where
    pub migrated_whole : {T E : Type 0} (x : T) (leaves : Summary) → IsSoundFirst text leaves → WroteSome {E = E} (MigratesTo text) taken counts out out' (Ok x) → ReadsText {T = T} taken counts migrating text out out' (Ok x)
    migrated_whole x leaves s w = migrated (Appends (taken out) (taken out')) leaves s w.whole

    pub migrated_in_part : {T E : Type 0} (fault : E) (result : Result (Unit {0}) Refusal) (leaves : Summary) → IsErrAnd result (λ e. e ≡ refusal.WriteFault) → IsSoundFirst text leaves → WroteSome {T = T} (MigratesTo text) taken counts out out' (Err fault) → ReadsText taken counts migrating text out out' result
    migrated_in_part fault result leaves is s w = at_error (ReadsText taken counts migrating text out out') refusal.WriteFault result is (migrated (AppendsFront (taken out) (taken out')) leaves s w.part, w.cause)

-- nothing was written before the check was done
pub stopped : {K : Type 0} (taken : K → Option (List ℕ)) (counts : K → ℕ) (out : K) (text : List ℕ) (error : CheckError) (result : Result (Unit {0}) Refusal) → IsErrAnd result (λ e. e ≡ check_refusal error) → ChecksFirst text (Err error) → ReadsText taken counts migrating text out out result
stopped taken counts out text error result is h = at_error (ReadsText taken counts migrating text out out) (check_refusal error) result is (by error h)
  where
    by : (error : CheckError) → ChecksFirst text (Err error) → ReadsText {T = Unit {0}} taken counts migrating text out out (Err (check_refusal error))
    by check.Memory h = refl
    by check.Fault h = absurd h
    by check.TooLong h = absurd h
    by _ h = (h, refl)
