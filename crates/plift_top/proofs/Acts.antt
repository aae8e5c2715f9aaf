-- What an answer says, by the refusal that it comes from.
use Rattle.std.proofs.Common.{IsOk, ◌≡◌, ◌≢◌, ◌≤◌, ◌<◌, ◌⊎◌, inl, inr, ℕ, List, [], ◌++◌, length, append-nil, true, false, None, Some, Ok, Err, refl, sym, ap, subst, arith, Result, IsErr, IsErrAnd}
use Rattle.std.specs.declared.option.Option.{Option}
use Rattle.std.specs.Io.KnownBytes.{Appends}
use Rattle.lift_base.specs.Outside.{Rose, AppendsFront, TakenHas, Wrote}
use Rattle.lift_grid.specs.Region.{Region, region}
use Rattle.lift_grid.specs.Tree.{Tree}
use Rattle.lift_model.specs.Model.{ModelData}
use Rattle.plift_top.specs.Asked.{AskedModel, uncut, cut, asked_model, verified_model}
use Rattle.corner_lift.specs.Case.{CaseData, IsCase, IsAdmitted, case_of}
use Rattle.lift_rows.specs.Laws.{AdmittedHasNoFault}
use Rattle.region_tree.specs.Laws.{RightTreesAreOne}
use Rattle.cert_text.specs.Report.{report_text}
use Rattle.drn_read.specs.Reading.{drn}
use Rattle.plift_words.specs.Job.{JobData, VerifyData}
use Rattle.plift_words.specs.Given.{asked, Asks}
use Rattle.std.specs.declared.alloc.Global.{Global}
use Rattle.std.specs.Prelude.{String}
use Rattle.plift_words.specs.Job.JobData.{verify, check, migrate, refine, generate, selftest}
use Rattle.model_gen.specs.Ladder.{ladder_case, ladder_precision}
use Rattle.plift_words.specs.declared.job.Field.{Field}
use Rattle.plift_words.specs.declared.job.Field.TheVariants as field
use Rattle.plift_words.specs.declared.error.WordsError.{WordsError}
use Rattle.plift_words.specs.declared.error.WordsError.TheVariants as words
use Rattle.plift_top.specs.Refused.{words_refusal}
use Rattle.std.specs.Option.{ForSome}
use Rattle.plift_words.specs.Query.{query_bound, query_from, is_reported}
use Rattle.plift_top.specs.RightReport.{version_of}
use Rattle.plift_words.specs.declared.query.Query.{Query}
use Rattle.plift_words.specs.declared.query.Query.TheVariants as query
use Rattle.plift_top.specs.Reads.{Command, KeepsWithin, Reads, WasRead}
use Rattle.plift_top.specs.Verify.{IsAnswered, IsAnswerable, Reports, IsRefused, Refuses, verifying, lacks_chain}
use Rattle.cert_text.specs.Forms.{IsReportedBound}
use Rattle.cert_check.specs.Sound.{IsSoundFile, leaf_counts}
use Rattle.cert_check.specs.Answer.{Answers}
use Rattle.cert_check.specs.Laws.{AnswersAreOne, SoundFilesPass}
use Rattle.cert_check.specs.Source.{NoFault, file_limit, report_limit}
use Rattle.line_text.specs.Found.{WasFound}
use Rattle.cert_check.specs.declared.summary.Summary.{Summary}
use Rattle.cert_check.specs.declared.error.CheckError.{CheckError}
use Rattle.plift_top.specs.Laws.{RightReportsAreSound, LumpedReportsAreSound}
use Rattle.plift_top.specs.Check.{IsFoundSound, IsUnsound, IsFaulty, checking}
use Rattle.plift_top.specs.Migrate.{IsMigrated, IsRefusedFirst, RefusesFirst, IsSoundFirst, IsUnsoundFirst, migrating}
use Rattle.cert_text.specs.Head.{HeadData}
use Rattle.cert_text.specs.Laws.{TextsTellOneReport}
use Rattle.plift_top.specs.Refine.{IsSoundText, LacksDepth, IsRefusedDeeper, deeper_head, IsFitting, IsRefinedTo, RefinesRight, refining}
use Rattle.plift_top.proofs.Refused.{unsound_text, unsound_status, refines_right, fitting_refused, lacking_done, lacking_status, wide_done, wide_status}
use Rattle.plift_top.specs.Selftest.{one_half, IsLadderTree, ladder_report, tested_line, IsTestedTree, HasLongReport, TellsTested, Selftests}
use Rattle.plift_top.specs.Answers.{Acts, Generates, wanted, AsksToVerify, AsksToCheck, AsksToMigrate, AsksToRefine, AsksToGenerate, AsksToSelftest, IsTooLong, limit_of, WroteNote, IsNoted, HasNote, status_of, answered, note_of}
use Rattle.check_notes.specs.declared.status.Status.{Status}
use Rattle.check_notes.specs.declared.status.Status.TheVariants as status
use Rattle.plift_top.specs.declared.refusal.Refusal.{Refusal}
use Rattle.plift_top.specs.declared.refusal.Refusal.TheVariants as refusal
use Rattle.plift_top.proofs.Asked.{ok_same, verified_of, as_read}
use Rattle.plift_top.proofs.Reading.{read_as, short, given}
use Rattle.plift_top.proofs.Errors.{at_error, faultless}
use Rattle.plift_top.specs.Lumped.{lumped_case}
use Rattle.plift_top.proofs.Refusals.{never_refused, one_status, rows_status}
use Rattle.plift_top.proofs.Lumping.{not_wide}
use Rattle.plift_top.proofs.Migrating.{never_refused as never_migrated}

-- no refusal has the status of what is done
pub never_done : (r : Refusal) → status_of r ≡ status.Done → ⊥
never_done (refusal.Usage f) e = absurd (cc)
never_done refusal.Memory e = absurd (cc)
never_done _ e = absurd (cc)

-- what holds whatever may follow follows from what is known of it
found_as : {P Q : List ℕ → Type 0} {limit : ℕ} {old new : Option (List ℕ)} → ((bytes : List ℕ) → P bytes → Q bytes) → WasFound limit P old new → WasFound limit Q old new
found_as f h = record { bytes = h.bytes; consumed = h.consumed; small = h.small; ended = h.ended; finished = h.finished; has = λ later may. f (h.bytes ++ later) (h.has later may) }

-- a source that tells its content gave these bytes, or will give some of them
found_of : (P : List ℕ → Type 0) (limit : ℕ) (bytes : List ℕ) (new : Option (List ℕ)) → WasFound limit P (Some bytes) new → P bytes
found_of P limit bytes None h = absurd h.consumed
found_of P limit bytes (Some rest) h = subst P (sym h.consumed) (h.has rest h.finished)

-- what is answered is a case
answered_case : (old new : Option (List ℕ)) (asked : Query) (a : AskedModel) (k : CaseData) → IsAnswered old new asked a k → IsCase k
answered_case old new (query.Lumped bound) a k h = h.1.case
answered_case old new _ a k h = h.case

-- and can be
answerable : (old new : Option (List ℕ)) (asked : Query) (a : AskedModel) (k : CaseData) → IsAnswered old new asked a k → IsAnswerable asked k.model
answerable old new (query.Lumped bound) a k h = (ap (lacks_chain (query.Lumped bound)) h.1.chain, λ e wide. not_wide h.1.lumped h.2.case.asked.model wide)
answerable old new _ a k h = (refl, λ e. absurd (cc))

-- what answers a case that a text stands for, by a report, is a sound file
answered_soundly : RightReportsAreSound → LumpedReportsAreSound → (old new : Option (List ℕ)) (asked : Query) (text label : List ℕ) (m : ModelData) (root : Region) (w : ℕ) → drn text label ≡ Ok m → ForSome (query_bound asked) IsReportedBound → is_reported asked ≡ true
    → IsAnswered old new asked (uncut m) (case_of m root w) → (report : List ℕ) × (leaves : Summary) × IsSoundFile report leaves × (leaves.version ≡ version_of (query_from asked)) × Appends old new report
answered_soundly law lumped old new (query.Whole bound from) text label m root w read reported shown h =
    let k = case_of m root w in
    (report_text k from bound h.tree, leaf_counts (version_of from) h.tree, law text label m root w from bound h.tree read h.case h.fits (reported bound refl) h.right, refl, h.text)
answered_soundly law lumped old new (query.Lumped bound) text label m root w read reported shown (l, is, r) =
    (report_text (lumped_case (case_of m root w) l) None bound r.tree, leaf_counts 1 r.tree, lumped text label (case_of m root w) l bound r.tree read is.lumped r.case (reported bound refl) r.right, refl, r.text)
answered_soundly law lumped old new _ text label m root w read reported shown h = absurd (cc)

-- what is a report of a job to a text, is a sound file
reported_soundly : RightReportsAreSound → LumpedReportsAreSound → (old new : Option (List ℕ)) (j : VerifyData) (text : List ℕ) → ForSome (query_bound j.query) IsReportedBound → (j.safe ≡ None) × (j.reward ≡ None) → is_reported j.query ≡ true → Reports old new j text
    → (report : List ℕ) × (leaves : Summary) × IsSoundFile report leaves × (leaves.version ≡ version_of (query_from j.query)) × Appends old new report
reported_soundly law lumped old new j text reported none shown m = by (as_read j text none.1 none.0 m.model m.read)
  where
    by : ((n : ModelData) × (drn text j.goal ≡ Ok n) × (m.model ≡ uncut n)) → (report : List ℕ) × (leaves : Summary) × IsSoundFile report leaves × (leaves.version ≡ version_of (query_from j.query)) × Appends old new report
    by (n, read, same) =
        answered_soundly law lumped old new j.query text j.goal n m.root j.precision read reported shown
        (subst (λ (b : AskedModel). IsAnswered old new j.query b (case_of (cut b) m.root j.precision)) same m.has)

module _ {S K : Type 0} (left : S → Option (List ℕ)) (faults : S → ℕ) (taken : K → Option (List ℕ)) (counts : K → ℕ) (source source' : S) (out out' : K) where
  -- an answer to words that ask for a job is one to that job
  pub acted : (asked : Result JobData Field) (job : JobData) (answer : Result (Unit {0}) Refusal) → Acts left faults taken counts asked source source' out out' answer → asked ≡ Ok job → Acts left faults taken counts (Ok job) source source' out out' answer
  acted asked job answer a is = subst (λ (q : Result JobData Field). Acts left faults taken counts q source source' out out' answer) is a

  -- where the job was done
  pub done : (asked : Result JobData Field) (job : JobData) (answer : Result (Unit {0}) Refusal) → Acts left faults taken counts asked source source' out out' answer → answered answer ≡ status.Done → asked ≡ Ok job
      → Acts left faults taken counts (Ok job) source source' out out' (Ok (tt {0}))
  done asked job (Ok x) a e is = acted asked job (Ok x) a is
  done asked job (Err r) a e is = absurd (never_done r e)

  -- and where writing failed
  pub cut_off : (asked : Result JobData Field) (job : JobData) (answer : Result (Unit {0}) Refusal) → Acts left faults taken counts asked source source' out out' answer → answered answer ≡ status.WriteFault → asked ≡ Ok job
      → Acts {T = Unit {0}} left faults taken counts (Ok job) source source' out out' (Err refusal.WriteFault)
  cut_off asked job (Err refusal.WriteFault) a e is = acted asked job (Err refusal.WriteFault) a is
  cut_off asked job _ a e is = absurd (cc)

  pub generates : (asked : Result JobData Field) (answer : Result (Unit {0}) Refusal) → Acts left faults taken counts asked source source' out out' answer → (n : ℕ) → AsksToGenerate asked n
      → (answered answer ≡ status.Done) ⊎ (answered answer ≡ status.WriteFault)
  generates asked (Ok x) a n is = inl refl
  generates asked (Err refusal.WriteFault) a n is = inr refl
  generates asked (Err r) a n is = absurd (acted asked (generate n) (Err r) a is).0

  -- what was written for a job is a sound file
  pub sound : RightReportsAreSound → LumpedReportsAreSound → (asked : Result JobData Field) (answer : Result (Unit {0}) Refusal) → Acts left faults taken counts asked source source' out out' answer
      → (IsOk answer → (j : VerifyData) → AsksToVerify asked j → ForSome (query_bound j.query) IsReportedBound) → (IsOk answer → (j : VerifyData) → AsksToVerify asked j → is_reported j.query ≡ true → (j.safe ≡ None) × (j.reward ≡ None))
      → answered answer ≡ status.Done → (j : VerifyData) → AsksToVerify asked j → is_reported j.query ≡ true
      → (report : List ℕ) × (leaves : Summary) × IsSoundFile report leaves × (leaves.version ≡ version_of (query_from j.query)) × Appends (taken out) (taken out') report
  sound law lumped asked (Ok x) a reported whole e j is shown =
      (let w = acted asked (verify j) (Ok x) a is in reported_soundly law lumped (taken out) (taken out') j w.text (reported refl j is) (whole refl j is shown) shown w.has)
  sound law lumped asked (Err r) a reported whole e j is shown = absurd (never_done r e)

  noted : (asked : Result JobData Field) (r : Refusal) → Acts {T = Unit {0}} left faults taken counts asked source source' out out' (Err r) → HasNote (status_of r) asked (left source) (left source') (note_of r)
  noted asked refusal.ReadFault a = (refusal.ReadFault, refl, refl, tt)
  noted asked refusal.WriteFault a = (refusal.WriteFault, refl, refl, tt)
  noted asked refusal.TooLong a = (refusal.TooLong, refl, refl, tt)
  noted asked refusal.Memory a = (refusal.Memory, refl, refl, tt)
  noted (Ok (verify j)) (refusal.Region error) a = (refusal.Region error, refl, refl, (j, refl, a.0))
  noted (Ok (verify j)) (refusal.Model error) a = (refusal.Model error, refl, refl, (j, refl, a.0))
  noted (Ok (verify j)) (refusal.Rows error) a = (refusal.Rows error, refl, refl, inl (j, refl, a.0))
  noted (Ok (verify j)) refusal.NotChain a = (refusal.NotChain, refl, refl, (j, refl, a.0))
  noted (Ok (verify j)) refusal.TooWide a = (refusal.TooWide, refl, refl, (j, refl, a.0))
  noted (Ok check) (refusal.Unsound error) a = (refusal.Unsound error, refl, refl, inl (refl, a.0))
  noted (Ok migrate) (refusal.Unsound error) a = (refusal.Unsound error, refl, refl, inr (inl (refl, a.0)))
  noted (Ok (refine depth)) (refusal.Unsound error) a = (refusal.Unsound error, refl, refl, inr (inr (depth, refl, a.0)))
  noted (Ok (refine depth)) (refusal.Usage f) a = (refusal.Usage f, refl, refl, inr (depth, refl, a.0))
  noted (Ok (refine depth)) (refusal.Rows error) a = (refusal.Rows error, refl, refl, inr (depth, refl, a.0))
  noted (Ok (verify j)) _ a = absurd a.0.has
  noted (Ok check) _ a = absurd (a.0.has [] (λ e. refl))
  noted (Ok migrate) _ a = absurd a.0.has
  noted (Ok (refine depth)) _ a = absurd a.0.has.3
  noted (Ok _) _ a = absurd a.0
  noted (Err f) (refusal.Usage g) a = (refusal.Usage g, refl, refl, inl (ap (λ f. Err f) (sym a.0)))
  noted (Err f) _ a = absurd a.0

  pub reported : {E : Type 0} (kept : E → Option (List ℕ)) (lost : E → ℕ) (notes notes' : E) (asked : Result JobData Field) (answer : Result (Unit {0}) Refusal) → Acts left faults taken counts asked source source' out out' answer
      → IsNoted kept lost notes notes' answer → answered answer ≢ status.Done
      → (note : List ℕ) × HasNote (answered answer) asked (left source) (left source') note × WroteNote kept lost notes notes' note
  reported kept lost notes notes' asked (Ok x) a n d = absurd (d refl)
  reported kept lost notes notes' asked (Err r) a n d = (note_of r, noted asked r a, n)

  pub at_fault : (asked : Result JobData Field) (answer : Result (Unit {0}) Refusal) → Acts left faults taken counts asked source source' out out' answer → IsErr asked
      → (answered answer ≡ status.Usage) ⊎ (answered answer ≡ status.Memory)
  at_fault (Ok j) answer a e = absurd (cc)
  at_fault (Err f) (Ok x) a e = absurd a.0
  at_fault (Err f) (Err (refusal.Usage g)) a e = inl refl
  at_fault (Err f) (Err refusal.Memory) a e = inr refl
  at_fault (Err f) (Err _) a e = absurd a.0

  pub not_plain : (asked : Result JobData Field) (answer : Result (Unit {0}) Refusal) → Acts left faults taken counts asked source source' out out' answer → asked ≡ Err field.Words
      → answered answer ≡ status.Usage
  not_plain (Ok j) answer a e = absurd (cc)
  not_plain (Err f) (Ok x) a e = absurd a.0
  not_plain (Err f) (Err (refusal.Usage g)) a e = refl
  not_plain (Err f) (Err refusal.Memory) a e = absurd (a.0 (cc))
  not_plain (Err f) (Err _) a e = absurd a.0

  pub read_fault : (asked : Result JobData Field) (answer : Result (Unit {0}) Refusal) → Acts left faults taken counts asked source source' out out' answer → answered answer ≡ status.ReadFault
      → Rose (faults source) (faults source')
  read_fault asked (Ok x) a e = absurd (cc)
  read_fault (Ok (verify j)) (Err refusal.ReadFault) a e = a.0
  read_fault (Ok check) (Err refusal.ReadFault) a e = a.0
  read_fault (Ok migrate) (Err refusal.ReadFault) a e = a.0
  read_fault (Ok (refine depth)) (Err refusal.ReadFault) a e = a.0
  read_fault asked (Err refusal.ReadFault) a e = absurd a.0
  read_fault asked (Err _) a e = absurd (cc)

  pub write_fault : (asked : Result JobData Field) (answer : Result (Unit {0}) Refusal) → Acts left faults taken counts asked source source' out out' answer → answered answer ≡ status.WriteFault
      → Rose (counts out) (counts out')
  write_fault asked (Ok x) a e = absurd (cc)
  write_fault (Ok (generate n)) (Err refusal.WriteFault) a e = a.0.1
  write_fault (Ok (selftest n)) (Err refusal.WriteFault) a e = a.0.1
  write_fault (Ok _) (Err refusal.WriteFault) a e = a.1
  write_fault (Err f) (Err refusal.WriteFault) a e = absurd a.0
  write_fault asked (Err _) a e = absurd (cc)

  pub kept : (asked : Result JobData Field) (answer : Result (Unit {0}) Refusal) → Acts left faults taken counts asked source source' out out' answer → answered answer ≢ status.Done → answered answer ≢ status.WriteFault
      → out' ≡ out
  kept asked (Ok x) a d e = absurd (d refl)
  kept asked (Err refusal.WriteFault) a d e = absurd (e refl)
  kept (Ok (generate n)) (Err _) a d e = absurd a.0
  kept (Ok (selftest n)) (Err refusal.TooLong) a d e = a.0.1
  kept (Ok (selftest n)) (Err refusal.Memory) a d e = a.0
  kept (Ok (selftest n)) (Err _) a d e = absurd a.0
  kept (Ok _) (Err _) a d e = a.1
  kept (Err f) (Err r) a d e = a.2

  pub not_sound : SoundFilesPass → AnswersAreOne → (asked : Result JobData Field) (answer : Result (Unit {0}) Refusal) → Acts left faults taken counts asked source source' out out' answer → answered answer ≡ status.NotSound
      → (AsksToCheck asked × WasFound report_limit IsUnsound (left source) (left source')) ⊎ ((AsksToMigrate asked × WasRead IsUnsoundFirst (left source) (left source')) ⊎ ((depth : ℕ) × AsksToRefine asked depth × WasRead IsUnsound (left source) (left source')))
  not_sound pass one (Ok check) (Err (refusal.Unsound error)) a e = inl (refl, found_as (λ bytes is leaves file. faultless pass one bytes leaves error file is) a.0)
  not_sound pass one (Ok migrate) (Err (refusal.Unsound error)) a e = inr (inl (refl, read_as (λ bytes is leaves file. never_migrated pass one bytes leaves error file is) a.0))
  not_sound pass one (Ok (refine depth)) (Err (refusal.Unsound error)) a e = inr (inr (depth, refl, read_as (λ bytes is leaves file. faultless pass one bytes leaves error file is) a.0))
  not_sound pass one (Ok (verify j)) (Err (refusal.Unsound error)) a e = absurd a.0.has
  not_sound pass one asked (Err (refusal.Unsound error)) a e = absurd a.0
  not_sound pass one asked _ a e = absurd (cc)

  pub selftested : (asked : Result JobData Field) (answer : Result (Unit {0}) Refusal) → Acts left faults taken counts asked source source' out out' answer → answered answer ≡ status.Done
      → (n : ℕ) → AsksToSelftest asked n → (tree : Tree) × IsCase (ladder_case n) × IsLadderTree n tree × Appends (taken out) (taken out') (tested_line n (leaf_counts 1 tree))
  selftested asked answer a e n is = (let tested = (done asked (selftest n) answer a e is).0 in (tested.0, tested.1.case, tested.1.right, tested.2))

  pub tested_part : (asked : Result JobData Field) (answer : Result (Unit {0}) Refusal) → Acts left faults taken counts asked source source' out out' answer → answered answer ≡ status.WriteFault
      → (n : ℕ) → AsksToSelftest asked n → (tree : Tree) × IsCase (ladder_case n) × IsLadderTree n tree × AppendsFront (taken out) (taken out') (tested_line n (leaf_counts 1 tree))
  tested_part asked answer a e n is = (let tested = (cut_off asked (selftest n) answer a e is).0.0 in (tested.0, tested.1.case, tested.1.right, tested.2))

  -- an answer to `selftest`, by its kind
  by_test : (Q : ℕ → Status → Type 0) → ((n : ℕ) → TellsTested (Appends (taken out) (taken out')) n → Q n status.Done) → ((n : ℕ) → TellsTested (AppendsFront (taken out) (taken out')) n → Rose (counts out) (counts out') → Q n status.WriteFault)
      → ((n : ℕ) → HasLongReport n → Q n status.TooLong) → ((n : ℕ) → Q n status.Memory)
      → (asked : Result JobData Field) (answer : Result (Unit {0}) Refusal) → Acts left faults taken counts asked source source' out out' answer → (n : ℕ) → AsksToSelftest asked n → Q n (answered answer)
  by_test Q done part long memory asked answer a n is = by answer (acted asked (selftest n) answer a is).0
    where
      by : (answer : Result (Unit {0}) Refusal) → Selftests taken counts n out out' answer → Q n (answered answer)
      by (Ok x) a = done n a
      by (Err refusal.WriteFault) a = part n a.0 a.1
      by (Err refusal.TooLong) a = long n a.0
      by (Err refusal.Memory) a = memory n
      by (Err _) a = absurd a

  pub tests : (asked : Result JobData Field) (answer : Result (Unit {0}) Refusal) → Acts left faults taken counts asked source source' out out' answer → (n : ℕ) → AsksToSelftest asked n
      → (answered answer ≡ status.Done) ⊎ ((answered answer ≡ status.WriteFault) ⊎ ((answered answer ≡ status.TooLong) ⊎ (answered answer ≡ status.Memory)))
  tests = by_test (λ n (s : Status). (s ≡ status.Done) ⊎ ((s ≡ status.WriteFault) ⊎ ((s ≡ status.TooLong) ⊎ (s ≡ status.Memory)))) (λ n h. inl refl) (λ n h rose. inr (inl refl)) (λ n h. inr (inr (inl refl))) (λ n. inr (inr (inr refl)))

  pub short_tested : NoFault (counts out) (counts out') → (tree : Tree) (asked : Result JobData Field) (answer : Result (Unit {0}) Refusal) → Acts left faults taken counts asked source source' out out' answer → (n : ℕ) → AsksToSelftest asked n
      → IsLadderTree n tree → length (ladder_report n tree) ≤ file_limit → (answered answer ≡ status.Done) ⊎ (answered answer ≡ status.Memory)
  short_tested sure tree =
      by_test (λ n (s : Status). IsLadderTree n tree → length (ladder_report n tree) ≤ file_limit → (s ≡ status.Done) ⊎ (s ≡ status.Memory))
      (λ n h right few. inl refl) (λ n h rose right few. absurd (sure rose)) (λ n long right few. absurd (let more = long tree right in omega arith)) (λ n right few. inr refl)

  -- a tree that was tested isn't one of a long report
  not_long : RightTreesAreOne → (n : ℕ) (tree other : Tree) → IsTestedTree n other → IsLadderTree n tree → file_limit < length (ladder_report n tree) → ⊥
  not_long one n tree other tested right long =
      let same : other ≡ tree = one (ladder_case n) ladder_precision one_half other tree tested.case (omega arith) tested.right right in
      let short = tested.short in
      omega (arith, ap (λ (t : Tree). length (ladder_report n t)) same)

  pub long_tested : RightTreesAreOne → (tree : Tree) (asked : Result JobData Field) (answer : Result (Unit {0}) Refusal) → Acts left faults taken counts asked source source' out out' answer → (n : ℕ) → AsksToSelftest asked n
      → IsLadderTree n tree → file_limit < length (ladder_report n tree) → (answered answer ≡ status.TooLong) ⊎ (answered answer ≡ status.Memory)
  long_tested one tree =
      by_test (λ n (s : Status). IsLadderTree n tree → file_limit < length (ladder_report n tree) → (s ≡ status.TooLong) ⊎ (s ≡ status.Memory))
      (λ n h right long. absurd (not_long one n tree h.0 h.1 right long)) (λ n h rose right long. absurd (not_long one n tree h.0 h.1 right long)) (λ n h right long. inl refl) (λ n right long. inr refl)

  pub unread : (asked : Result JobData Field) (answer : Result (Unit {0}) Refusal) → Acts left faults taken counts asked source source' out out' answer → IsErr asked
      → source' ≡ source
  unread (Ok j) answer a e = absurd (cc)
  unread (Err f) answer a e = a.1

-- what the notes took where the job was done
pub silent : {E : Type 0} (kept : E → Option (List ℕ)) (lost : E → ℕ) (notes notes' : E) (answer : Result (Unit {0}) Refusal) → IsNoted kept lost notes notes' answer → answered answer ≡ status.Done → notes' ≡ notes
silent kept lost notes notes' (Ok x) n e = n
silent kept lost notes notes' (Err r) n e = absurd (never_done r e)

-- ---- how much is too much

-- nothing was taken
untouched : (limit : ℕ) (left : Option (List ℕ)) → TakenHas (λ bytes. length bytes ≤ limit) left left
untouched limit None = ([], tt, omega arith)
untouched limit (Some text) = ([], refl, omega arith)

-- more bytes than the limit were taken at TooLong, and only there
took_more : (limit : ℕ) (answer : Result (Unit {0}) Refusal) (old new : Option (List ℕ)) → KeepsWithin limit answer old new → answered answer ≡ status.TooLong → TakenHas (λ bytes. limit < length bytes) old new
took_more limit (Ok x) old new h e = absurd (cc)
took_more limit (Err refusal.TooLong) old new h e = h
took_more limit (Err _) old new h e = absurd (cc)

took_few : (limit : ℕ) (answer : Result (Unit {0}) Refusal) (old new : Option (List ℕ)) → KeepsWithin limit answer old new → answered answer ≢ status.TooLong → TakenHas (λ bytes. length bytes ≤ limit) old new
took_few limit (Ok x) old new h e = h
took_few limit (Err refusal.TooLong) old new h e = absurd (e refl)
took_few limit (Err _) old new h e = h

module _ {S K : Type 0} (left : S → Option (List ℕ)) (faults : S → ℕ) (taken : K → Option (List ℕ)) (counts : K → ℕ) (source source' : S) (out out' : K) where
  pub too_long : (asked : Result JobData Field) (answer : Result (Unit {0}) Refusal) → Acts left faults taken counts asked source source' out out' answer → (((n : ℕ) → AsksToSelftest asked n → ⊥) → KeepsWithin (limit_of asked) answer (left source) (left source'))
      → answered answer ≡ status.TooLong → IsTooLong asked (left source) (left source')
  too_long (Ok (selftest n)) (Err refusal.TooLong) a limit e = a.0.0
  too_long (Ok (selftest n)) _ a limit e = absurd (cc)
  too_long (Ok check) answer a limit e = took_more report_limit answer (left source) (left source') (limit (λ n is. absurd (cc))) e
  too_long _ answer a limit e = took_more file_limit answer (left source) (left source') (limit (λ n is. absurd (cc))) e

  pub within : (asked : Result JobData Field) (answer : Result (Unit {0}) Refusal) → Acts left faults taken counts asked source source' out out' answer → (((n : ℕ) → AsksToSelftest asked n → ⊥) → KeepsWithin (limit_of asked) answer (left source) (left source'))
      → answered answer ≢ status.TooLong → TakenHas (λ bytes. length bytes ≤ limit_of asked) (left source) (left source')
  within (Ok (selftest n)) answer a limit e = subst (λ (s : S). TakenHas (λ bytes. length bytes ≤ file_limit) (left source) (left s)) (sym a.1) (untouched file_limit (left source))
  within (Ok check) answer a limit e = took_few report_limit answer (left source) (left source') (limit (λ n is. absurd (cc))) e
  within _ answer a limit e = took_few file_limit answer (left source) (left source') (limit (λ n is. absurd (cc))) e

-- what a command came to where its source gave a text that isn't too long, and nothing failed: it is done, or it refuses the text, or memory is wanting
module _ {S K : Type 0} (left : S → Option (List ℕ)) (faults : S → ℕ) (taken : K → Option (List ℕ)) (counts : K → ℕ) (source source' : S) (out out' : K) (sure1 : NoFault (faults source) (faults source')) (sure2 : NoFault (counts out) (counts out')) where
  by_command : (c : Command) (tells : (P : List ℕ → Type 0) (text : List ℕ) (rest : Option (List ℕ)) → c.Knows P (Some text) rest → P text) (text : List ℕ) → left source ≡ Some text → length text ≤ c.limit
      → (Q : Status → Type 0) → (c.Done (taken out) (taken out') text → Q status.Done) → ((why : Refusal) → c.Refuses why text → Q (status_of why)) → Q status.Memory
      → (answer : Result (Unit {0}) Refusal) → Reads left faults taken counts c source source' out out' answer → Q (answered answer)
  by_command c tells text reported len Q done refused memory (Ok x) a = done (given (c.Done (taken out) (taken out')) text (left source') (rw reported at a))
  by_command c tells text reported len Q done refused memory (Err refusal.ReadFault) a = absurd (sure1 a.0)
  by_command c tells text reported len Q done refused memory (Err refusal.WriteFault) a = absurd (sure2 a.1)
  by_command c tells text reported len Q done refused memory (Err refusal.TooLong) a = absurd (short c.limit text (left source') len (rw reported at a.0))
  by_command c tells text reported len Q done refused memory (Err refusal.Memory) a = memory
  by_command c tells text reported len Q done refused memory (Err why) a = refused why (tells (c.Refuses why) text (left source') (rw reported at a.0))

-- where a text was given and nothing failed
module _ {S K : Type 0} (left : S → Option (List ℕ)) (faults : S → ℕ) (taken : K → Option (List ℕ)) (counts : K → ℕ) (source source' : S) (out out' : K) (j : VerifyData) (text : List ℕ) (reported : left source ≡ Some text)
    (len : length text ≤ file_limit) (sure1 : NoFault (faults source) (faults source')) (sure2 : NoFault (counts out) (counts out')) where
  by_answer : (Q : Status → Type 0) → (Reports (taken out) (taken out') j text → Q status.Done) → ((why : Refusal) → IsRefused j why text → Q (status_of why)) → Q status.Memory
      → (asked : Result JobData Field) (answer : Result (Unit {0}) Refusal) → Acts left faults taken counts asked source source' out out' answer → AsksToVerify asked j → Q (answered answer)
  by_answer Q done refused memory asked answer a is =
      by_command left faults taken counts source source' out out' sure1 sure2 (verifying j) given text reported len Q done by memory answer (acted left faults taken counts source source' out out' asked (verify j) answer a is)
    where
      by : (why : Refusal) → Refuses j why text → Q (status_of why)
      by (refusal.Usage f) h = absurd h
      by (refusal.Unsound error) h = absurd h
      by why h = refused why h

  module _ (none : AdmittedHasNoFault) where
    -- a job whose model is admitted over its region is done, but for want of memory
    pub complete : (asked : Result JobData Field) (answer : Result (Unit {0}) Refusal) → Acts left faults taken counts asked source source' out out' answer → AsksToVerify asked j → (a : AskedModel) (root : Region)
        → asked_model j text ≡ Ok a → region (cut a).names j.depth j.region ≡ Ok root → IsAdmitted (case_of (cut a) root j.precision) → IsAnswerable j.query (cut a)
        → (answered answer ≡ status.Done) ⊎ (answered answer ≡ status.Memory)
    complete asked answer acts is a root read named admitted can =
        by_answer (λ (s : Status). (s ≡ status.Done) ⊎ (s ≡ status.Memory)) (λ h. inl refl)
        (λ why h. absurd (never_refused none j (verified_model j text) (cut a) root (verified_of j text a read) named admitted can why h)) (inr refl) asked answer acts is

    -- a job that is refused at its text is refused so, but for want of memory
    pub refused : (asked : Result JobData Field) (answer : Result (Unit {0}) Refusal) → Acts left faults taken counts asked source source' out out' answer → AsksToVerify asked j → (why : Refusal) → IsRefused j why text
        → (answered answer ≡ status_of why) ⊎ (answered answer ≡ status.Memory)
    refused asked answer a is why bad =
        by_answer (λ (s : Status). (s ≡ status_of why) ⊎ (s ≡ status.Memory))
        (λ h. absurd (never_refused none j (verified_model j text) (cut h.model) h.root (verified_of j text h.model h.read) h.named (answered_case _ _ j.query _ _ h.has).admitted (answerable _ _ j.query _ _ h.has) why bad))
        (λ other h. inl (one_status j (verified_model j text) other why h bad)) (inr refl) asked answer a is

  -- a job whose rows aren't admitted is refused by them, but for want of memory
  pub unadmitted : (asked : Result JobData Field) (answer : Result (Unit {0}) Refusal) → Acts left faults taken counts asked source source' out out' answer → AsksToVerify asked j → (a : AskedModel) (root : Region)
      → asked_model j text ≡ Ok a → region (cut a).names j.depth j.region ≡ Ok root → (IsAdmitted (case_of (cut a) root j.precision) → ⊥) → lacks_chain j.query (cut a).kind ≡ false
      → (answered answer ≡ status.RowsRefused) ⊎ (answered answer ≡ status.Memory)
  unadmitted asked answer acts is a root read named bad chain =
      by_answer (λ (s : Status). (s ≡ status.RowsRefused) ⊎ (s ≡ status.Memory))
      (λ h. absurd (bad (same_case h))) (λ why h. inl (rows_status j (verified_model j text) (cut a) root (verified_of j text a read) named chain why h)) (inr refl) asked answer acts is
    where
      same_case : Reports (taken out) (taken out') j text → IsAdmitted (case_of (cut a) root j.precision)
      same_case h = admitted_by h.model h.root h.read h.named (answered_case _ _ j.query _ _ h.has).admitted
        where
          admitted_by : (b : AskedModel) (r : Region) → asked_model j text ≡ Ok b → region (cut b).names j.depth j.region ≡ Ok r → IsAdmitted (case_of (cut b) r j.precision) → IsAdmitted (case_of (cut a) root j.precision)
          admitted_by b r e f h =
              let first : b ≡ a = ok_same (asked_model j text) b a e read in
              let there : region (cut a).names j.depth j.region ≡ Ok r = subst (λ (c : AskedModel). region (cut c).names j.depth j.region ≡ Ok r) first f in
              let second : r ≡ root = ok_same (region (cut a).names j.depth j.region) r root there named in
              subst (λ (r : Region). IsAdmitted (case_of (cut a) r j.precision)) second (subst (λ (c : AskedModel). IsAdmitted (case_of (cut c) r j.precision)) first h)

-- where a check was asked for, bytes were given and nothing failed
module _ {S K : Type 0} (left : S → Option (List ℕ)) (faults : S → ℕ) (taken : K → Option (List ℕ)) (counts : K → ℕ) (source source' : S) (out out' : K) (bytes : List ℕ) (reported : left source ≡ Some bytes)
    (len : length bytes ≤ report_limit) (sure1 : NoFault (faults source) (faults source')) (sure2 : NoFault (counts out) (counts out')) where
  by_check : (Q : Status → Type 0) → (IsFoundSound (taken out) (taken out') bytes → Q status.Done) → ((error : CheckError) → Answers bytes (Err error) → Q status.NotSound) → Q status.Memory
      → (asked : Result JobData Field) (answer : Result (Unit {0}) Refusal) → Acts left faults taken counts asked source source' out out' answer → AsksToCheck asked → Q (answered answer)
  by_check Q sound faulty memory asked answer a is =
      by_command left faults taken counts source source' out out' sure1 sure2 checking (λ P text rest. found_of P report_limit text rest) bytes reported len Q sound by memory answer (acted left faults taken counts source source' out out' asked check answer a is)
    where
      by : (why : Refusal) → IsFaulty why bytes → Q (status_of why)
      by (refusal.Unsound error) h = faulty error h
      by _ h = absurd h

  -- a sound file is found so, but for want of memory
  pub check_complete : SoundFilesPass → AnswersAreOne → (asked : Result JobData Field) (answer : Result (Unit {0}) Refusal) → Acts left faults taken counts asked source source' out out' answer → AsksToCheck asked
      → (leaves : Summary) → IsSoundFile bytes leaves → (answered answer ≡ status.Done) ⊎ (answered answer ≡ status.Memory)
  check_complete pass one asked answer a is leaves file =
      by_check (λ (s : Status). (s ≡ status.Done) ⊎ (s ≡ status.Memory)) (λ h. inl refl) (λ error h. absurd (faultless pass one bytes leaves error file h)) (inr refl) asked answer a is

  -- and so is one that isn't
  pub check_refused : (asked : Result JobData Field) (answer : Result (Unit {0}) Refusal) → Acts left faults taken counts asked source source' out out' answer → AsksToCheck asked
      → IsUnsound bytes → (answered answer ≡ status.NotSound) ⊎ (answered answer ≡ status.Memory)
  check_refused asked answer a is bad =
      by_check (λ (s : Status). (s ≡ status.NotSound) ⊎ (s ≡ status.Memory)) (λ h. absurd (bad h.leaves h.trusted.file)) (λ error h. inl refl) (inr refl) asked answer a is

-- where a report was to be migrated, bytes were given and nothing failed
module _ {S K : Type 0} (left : S → Option (List ℕ)) (faults : S → ℕ) (taken : K → Option (List ℕ)) (counts : K → ℕ) (source source' : S) (out out' : K) (bytes : List ℕ) (reported : left source ≡ Some bytes)
    (len : length bytes ≤ file_limit) (sure1 : NoFault (faults source) (faults source')) (sure2 : NoFault (counts out) (counts out')) where
  by_migrate : (Q : Status → Type 0) → (IsMigrated (Appends (taken out) (taken out')) bytes → Q status.Done) → ((error : CheckError) → IsRefusedFirst error bytes → Q status.NotSound) → Q status.Memory
      → (asked : Result JobData Field) (answer : Result (Unit {0}) Refusal) → Acts left faults taken counts asked source source' out out' answer → AsksToMigrate asked → Q (answered answer)
  by_migrate Q sound refused memory asked answer a is =
      by_command left faults taken counts source source' out out' sure1 sure2 migrating given bytes reported len Q sound by memory answer (acted left faults taken counts source source' out out' asked migrate answer a is)
    where
      by : (why : Refusal) → RefusesFirst why bytes → Q (status_of why)
      by (refusal.Unsound error) h = refused error h
      by _ h = absurd h

  -- a sound file of the first version is migrated, but for want of memory
  pub migrate_complete : SoundFilesPass → AnswersAreOne → (asked : Result JobData Field) (answer : Result (Unit {0}) Refusal) → Acts left faults taken counts asked source source' out out' answer → AsksToMigrate asked
      → (leaves : Summary) → IsSoundFirst bytes leaves → (answered answer ≡ status.Done) ⊎ (answered answer ≡ status.Memory)
  migrate_complete pass one asked answer a is leaves file =
      by_migrate (λ (s : Status). (s ≡ status.Done) ⊎ (s ≡ status.Memory)) (λ h. inl refl) (λ error h. absurd (never_migrated pass one bytes leaves error file h)) (inr refl) asked answer a is

  -- and no other bytes are
  pub migrate_refused : (asked : Result JobData Field) (answer : Result (Unit {0}) Refusal) → Acts left faults taken counts asked source source' out out' answer → AsksToMigrate asked
      → IsUnsoundFirst bytes → (answered answer ≡ status.NotSound) ⊎ (answered answer ≡ status.Memory)
  migrate_refused asked answer a is bad =
      by_migrate (λ (s : Status). (s ≡ status.NotSound) ⊎ (s ≡ status.Memory)) (λ h. absurd (bad h.leaves h.sound)) (λ error h. inl refl) (inr refl) asked answer a is

-- ---- going on from a report

module _ {S K : Type 0} (left : S → Option (List ℕ)) (faults : S → ℕ) (taken : K → Option (List ℕ)) (counts : K → ℕ) (source source' : S) (out out' : K) where
  -- where the report that was read is that of the right tree, so is the one that was written
  pub refined_right : TextsTellOneReport → (asked : Result JobData Field) (answer : Result (Unit {0}) Refusal) → Acts left faults taken counts asked source source' out out' answer → answered answer ≡ status.Done
      → (depth : ℕ) → AsksToRefine asked depth → WasRead (RefinesRight (taken out) (taken out') depth) (left source) (left source')
  refined_right one asked answer a e depth is = read_as (λ bytes h. refines_right one (taken out) (taken out') depth bytes h) (done left faults taken counts source source' out out' asked (refine depth) answer a e is)

  module _ (depth : ℕ) (bytes : List ℕ) (reported : left source ≡ Some bytes) (len : length bytes ≤ file_limit) (sure1 : NoFault (faults source) (faults source')) (sure2 : NoFault (counts out) (counts out')) where
    by_refine : (Q : Status → Type 0) → (IsRefinedTo (taken out) (taken out') depth bytes → Q status.Done) → ((why : Refusal) → IsRefusedDeeper depth why bytes → Q (status_of why)) → Q status.Memory
        → (asked : Result JobData Field) (answer : Result (Unit {0}) Refusal) → Acts left faults taken counts asked source source' out out' answer → AsksToRefine asked depth → Q (answered answer)
    by_refine Q done refused memory asked answer a is =
        by_command left faults taken counts source source' out out' sure1 sure2 (refining depth) given bytes reported len Q done refused memory answer (acted left faults taken counts source source' out out' asked (refine depth) answer a is)

    -- a report that isn't sound is refused as such
    pub refine_unsound : (asked : Result JobData Field) (answer : Result (Unit {0}) Refusal) → Acts left faults taken counts asked source source' out out' answer → AsksToRefine asked depth
        → IsUnsound bytes → (answered answer ≡ status.NotSound) ⊎ (answered answer ≡ status.Memory)
    refine_unsound asked answer a is bad =
        by_refine (λ (s : Status). (s ≡ status.NotSound) ⊎ (s ≡ status.Memory)) (λ h. absurd (unsound_text bytes h.head h.tree bad h.old)) (λ why h. inl (unsound_status depth bytes bad why h)) (inr refl) asked answer a is

    module _ (pass : SoundFilesPass) (one : AnswersAreOne) (same : TextsTellOneReport) (h : HeadData) (t : Tree) (old : IsSoundText bytes h t) where
      -- one that can be gone on from is, but for want of memory
      pub refine_complete : AdmittedHasNoFault → (asked : Result JobData Field) (answer : Result (Unit {0}) Refusal) → Acts left faults taken counts asked source source' out out' answer → AsksToRefine asked depth
          → IsFitting depth h → (answered answer ≡ status.Done) ⊎ (answered answer ≡ status.Memory)
      refine_complete none asked answer a is fit =
          by_refine (λ (s : Status). (s ≡ status.Done) ⊎ (s ≡ status.Memory)) (λ h. inl refl) (λ why r. absurd (fitting_refused pass one same none depth bytes h t old fit why r)) (inr refl) asked answer a is

      -- one whose depth can't be gone on to is refused for that
      pub refine_too_deep : (asked : Result JobData Field) (answer : Result (Unit {0}) Refusal) → Acts left faults taken counts asked source source' out out' answer → AsksToRefine asked depth
          → LacksDepth depth h → (answered answer ≡ status.Usage) ⊎ (answered answer ≡ status.Memory)
      refine_too_deep asked answer a is lacks =
          by_refine (λ (s : Status). (s ≡ status.Usage) ⊎ (s ≡ status.Memory)) (λ r. absurd (lacking_done same depth bytes h t old _ _ lacks r)) (λ why r. inl (lacking_status pass one same depth bytes h t old lacks why r)) (inr refl) asked answer a is

      -- and one with a row that is too wide for that
      pub refine_unadmitted : (asked : Result JobData Field) (answer : Result (Unit {0}) Refusal) → Acts left faults taken counts asked source source' out out' answer → AsksToRefine asked depth
          → (LacksDepth depth h → ⊥) → (IsAdmitted (deeper_head depth h).asked → ⊥) → (answered answer ≡ status.RowsRefused) ⊎ (answered answer ≡ status.Memory)
      refine_unadmitted asked answer a is fits bad =
          by_refine (λ (s : Status). (s ≡ status.RowsRefused) ⊎ (s ≡ status.Memory)) (λ r. absurd (wide_done same depth bytes h t old _ _ bad r)) (λ why r. inl (wide_status pass one same depth bytes h t old fits why r)) (inr refl) asked answer a is

-- ---- notes

-- what was written of a note
pub written : {E T F : Type 0} (taken : E → Option (List ℕ)) (faults : E → ℕ) (old new : E) (result : Result T F) (note : List ℕ) → Wrote taken faults old new result note → WroteNote taken faults old new note
written taken faults old new (Ok x) note w = record { part = (note, [], sym (append-nil note), w.whole); whole = λ calm. w.whole; later = w.later }
written taken faults old new (Err e) note w = record { part = w.part; whole = λ calm. absurd (calm w.cause); later = w.later }

-- ---- the words

-- a refusal of the words comes before any byte is taken
pub line_limit : (limit : ℕ) (error : WordsError) (result : Result (Unit {0}) Refusal) (left : Option (List ℕ)) → IsErrAnd result (λ e. e ≡ words_refusal error) → KeepsWithin limit result left left
line_limit limit error result left is = at_error (λ r. KeepsWithin limit r left left) (words_refusal error) result is (by error)
  where
    by : (error : WordsError) → KeepsWithin {T = Unit {0}} limit (Err (words_refusal error)) left left
    by (words.Usage f) = untouched limit left
    by words.Memory = untouched limit left

-- a ladder is written before any byte is taken
pub ladder_limit : {K : Type 0} (limit : ℕ) (taken : K → Option (List ℕ)) (counts : K → ℕ) (blocks : ℕ) (out out' : K) (result : Result (Unit {0}) Refusal) (left : Option (List ℕ)) → Generates taken counts blocks out out' result → KeepsWithin limit result left left
ladder_limit limit taken counts blocks out out' (Ok x) left a = untouched limit left
ladder_limit limit taken counts blocks out out' (Err refusal.WriteFault) left a = untouched limit left
ladder_limit limit taken counts blocks out out' (Err _) left a = absurd a

module _ {S K : Type 0} (left : S → Option (List ℕ)) (faults : S → ℕ) (taken : K → Option (List ℕ)) (counts : K → ℕ) (source : S) (out out' : K) (line : List (String Global)) where
  -- the words ask for a ladder, and it is written
  pub writes_ladder : (blocks : ℕ) (result : Result (Unit {0}) Refusal) → Generates taken counts blocks out out' result → asked line ≡ Ok (generate blocks) → Acts left faults taken counts (wanted line) source source out out' result
  unfolding wanted
  writes_ladder blocks result a is = subst (λ (job : Result JobData Field). Acts left faults taken counts job source source out out' result) (sym is) (a, refl)

  -- the words ask to test a ladder, and it is tested
  pub tests_ladder : (blocks : ℕ) (result : Result (Unit {0}) Refusal) → Selftests taken counts blocks out out' result → asked line ≡ Ok (selftest blocks) → Acts left faults taken counts (wanted line) source source out out' result
  unfolding wanted
  tests_ladder blocks result a is = subst (λ (job : Result JobData Field). Acts left faults taken counts job source source out out' result) (sym is) (a, refl)

  refused_by : (job : Result JobData Field) (error : WordsError) → Asks job (Err error) → Acts {T = Unit {0}} left faults taken counts job source source out out (Err (words_refusal error))
  refused_by job (words.Usage f) is = subst (λ (job : Result JobData Field). Acts {T = Unit {0}} left faults taken counts job source source out out (Err (refusal.Usage f))) (sym is) (refl, refl, refl)
  refused_by (Ok (verify j)) words.Memory is = (tt, refl)
  refused_by (Ok _) words.Memory is = absurd is
  refused_by (Err field.Words) words.Memory is = absurd is
  refused_by (Err field.Blocks) words.Memory is = absurd is
  refused_by (Err _) words.Memory is = (λ e. absurd (cc), refl, refl)

  -- the words ask for no job, or there is no memory to read them
  pub refuses_line : (error : WordsError) (why : Refusal) → Asks (asked line) (Err error) → why ≡ words_refusal error → Acts {T = Unit {0}} left faults taken counts (wanted line) source source out out (Err why)
  unfolding wanted
  refuses_line error why asks is = subst (λ (r : Refusal). Acts {T = Unit {0}} left faults taken counts (asked line) source source out out (Err r)) (sym is) (refused_by (asked line) error asks)
