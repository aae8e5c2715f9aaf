-- What testing a ladder comes to, by what its steps answer.
use Rattle.std.proofs.Common.{◌≡◌, ◌≤◌, ◌<◌, ◌+◌, ◌^◌, ◌⊎◌, inl, inr, ℕ, List, [], codes, length, length-append, None, Some, Ok, Err, refl, sym, ap, ◌∙◌, subst, arith, Result, IsErrAnd}
use Rattle.std.specs.Prelude.{Vec}
use Rattle.std.specs.declared.alloc.Global.{Global}
use Rattle.std.specs.declared.option.Option.{Option}
use Rattle.std.specs.Io.KnownBytes.{Appends}
use Rattle.lift_base.specs.Outside.{Rose, AppendsFront, Wrote}
use Rattle.lift_frac.specs.Gcd.{gcd}
use Rattle.lift_grid.specs.Region.{Region, region, ◌>>=◌}
use Rattle.lift_grid.specs.Tree.{Tree}
use Rattle.corner_lift.specs.Case.{CaseData, case_of}
use Rattle.lift_cert.specs.Bound.{IsBound}
use Rattle.lift_rows.specs.Laws.{AdmittedHasNoFault}
use Rattle.region_tree.specs.Laws.{RightTreesAreOne}
use Rattle.drn_read.specs.declared.error.DrnError.{DrnError}
use Rattle.model_gen.specs.Ladder.{most_blocks, ladder_text, ladder, ladder_region, ladder_region_text, ladder_depth, ladder_precision, ladder_case}
use Rattle.model_gen.specs.Laws.{TextIsShort, TextIsLadder, LadderIsCase, TextNamesRegion}
use Rattle.cert_text.specs.Forms.{IsReportedBound}
use Rattle.cert_check.specs.Sound.{IsSoundFile, leaf_counts}
use Rattle.cert_check.specs.Laws.{SoundFilesPass}
use Rattle.cert_check.specs.Source.{AnswersReported, file_limit, report_limit}
use Rattle.cert_check.specs.declared.summary.Summary.{Summary}
use Rattle.cert_check.specs.declared.error.CheckError.{CheckError}
use Rattle.cert_check.specs.declared.error.CheckError.TheVariants as check
use Rattle.plift_words.specs.Job.{VerifyData}
use Rattle.plift_top.specs.Refused.{check_refusal}
use Rattle.plift_top.specs.Asked.{AskedModel, uncut, cut, asked_model, verified_model}
use Rattle.plift_top.specs.Reported.{IsReported, IsCutOff, whole_question}
use Rattle.plift_top.specs.Verify.{Makes, IsRefused, verifying}
use Rattle.plift_top.specs.Laws.{RightReportsAreSound}
use Rattle.plift_top.specs.Selftest.{one_half, ladder_job, IsLadderTree, ladder_report, tested_line, HasLongReport, IsLadderReport, GivesWithin, ReportsLadder, Selftests}
use Rattle.plift_top.specs.declared.refusal.Refusal.{Refusal}
use Rattle.plift_top.specs.declared.refusal.Refusal.TheVariants as refusal
use Rattle.plift_top.specs.Reads.{Reads}
use Rattle.plift_top.proofs.Reading.{given, short}
use Rattle.plift_top.proofs.Errors.{at_error}
use Rattle.plift_top.proofs.Asked.{ok_same, read_uncut}
use Rattle.plift_top.proofs.Refusals.{never_refused}

-- the bound 1/2 is one, and can be told
pub half_is_bound : IsBound (record { num = 1; den = 2 })
unfolding gcd
half_is_bound = record { lowest = refl; most = omega arith; positive = omega arith }

pub half_is_reported : IsReportedBound one_half
half_is_reported = record { parts = half_is_bound; small = omega arith }

-- a fault was counted where none was before
pub counted : (now : ℕ) → Rose 0 now → 0 < now
counted now h = omega arith

-- a front has no more bytes than the whole
pub front_is_short : (bytes text : List ℕ) → AppendsFront (Some []) (Some bytes) text → length bytes ≤ length text
front_is_short bytes text (front, back, is, took) = omega (arith, ap length is, ap length took, length-append front back)

-- a ladder's text finds room
pub text_fits : TextIsShort → (n : ℕ) → n ≤ most_blocks → (bytes : List ℕ) → AppendsFront (Some []) (Some bytes) (ladder_text n) → length bytes ≡ 2 ^ 23 + 1 → ⊥
text_fits few n h bytes part full = (let most = few n h in let least = front_is_short bytes (ladder_text n) part in omega arith)

-- ---- the report

-- the bytes are the report of a case for the bound 1/2
abbrev Told : List ℕ → CaseData → Type 0
Told bytes k = IsReported (Some []) (Some bytes) k (whole_question k None one_half)

-- they are a front of it
abbrev ToldInPart : List ℕ → CaseData → Type 0
ToldInPart bytes k = IsCutOff (Some []) (Some bytes) k (whole_question k None one_half)

module _ (n : ℕ) (some : 1 ≤ n) (few : n ≤ most_blocks) (texts : TextIsShort) (reads : TextIsLadder) (cases : LadderIsCase) (names : TextNamesRegion) where
  -- a text and the job make the ladder's case
  ladder_case_is : (P : CaseData → Type 0) → Makes (λ a. P) ladder_job (ladder_text n) → P (ladder_case n)
  ladder_case_is P m = by m.model m.root m.read m.named m.has
    where
      by : (a : AskedModel) (root : Region) → asked_model ladder_job (ladder_text n) ≡ Ok a → region (cut a).names ladder_depth ladder_region_text ≡ Ok root → P (case_of (cut a) root ladder_precision) → P (ladder_case n)
      by a root read named h =
          let is : asked_model ladder_job (ladder_text n) ≡ Ok (uncut (ladder n)) = read_uncut ladder_job (ladder_text n) (ladder n) refl refl (reads n some few) in
          let first : a ≡ uncut (ladder n) = ok_same (asked_model ladder_job (ladder_text n)) a (uncut (ladder n)) read is in
          let there : region (ladder n).names ladder_depth ladder_region_text ≡ Ok root = subst (λ (b : AskedModel). region (cut b).names ladder_depth ladder_region_text ≡ Ok root) first named in
          let second : root ≡ ladder_region = (let is = names n in cc) in
          subst (λ (r : Region). P (case_of (ladder n) r ladder_precision)) second (subst (λ (b : AskedModel). P (case_of (cut b) root ladder_precision)) first h)

  -- the report of its right tree is a sound file
  is_sound : RightReportsAreSound → (tree : Tree) → IsLadderTree n tree → IsSoundFile (ladder_report n tree) (leaf_counts 1 tree)
  is_sound law tree right = law (ladder_text n) (codes "done") (ladder n) ladder_region ladder_precision None one_half tree (reads n some few) (cases n some few) (λ v e. absurd (cc)) half_is_reported right

  -- what was written, whole: a report that fits
  pub whole_report : RightReportsAreSound → (bytes : List ℕ) → Makes (λ a. Told bytes) ladder_job (ladder_text n) → length bytes ≤ file_limit → IsLadderReport n bytes
  whole_report law bytes m fits =
      let h = ladder_case_is (Told bytes) m in
      let is : bytes ≡ ladder_report n h.tree = h.text in
      record {
        tree = h.tree;
        tested = record { case = cases n some few; right = h.right; short = omega (arith, ap length is) };
        report = is;
        sound = subst (λ (b : List ℕ). IsSoundFile b (leaf_counts 1 h.tree)) (sym is) (is_sound law h.tree h.right);
      }

  -- or one that doesn't
  pub long_report : RightTreesAreOne → (bytes : List ℕ) → Makes (λ a. Told bytes) ladder_job (ladder_text n) → file_limit < length bytes → HasLongReport n
  long_report one bytes m long tree right =
      let h = ladder_case_is (Told bytes) m in
      let is : bytes ≡ ladder_report n h.tree = h.text in
      let same : h.tree ≡ tree = one (ladder_case n) ladder_precision one_half h.tree tree (cases n some few) (omega arith) h.right right in
      omega (arith, ap length is, ap (λ (t : Tree). length (ladder_report n t)) same)

  -- where the room was filled, the report is longer than a text may be
  pub cut_report : (bytes : List ℕ) → Makes (λ a. ToldInPart bytes) ladder_job (ladder_text n) → length bytes ≡ file_limit + 1 → HasLongReport n
  cut_report bytes m full tree right =
      let h = ladder_case_is (ToldInPart bytes) m in
      let least = front_is_short bytes (ladder_report n tree) (h.front tree right) in
      omega arith

  -- so what is given back of it is the report, or that it is too long
  pub within_report : RightReportsAreSound → RightTreesAreOne → (bytes : Vec ℕ Global) (result : Result (Vec ℕ Global) Refusal) → Makes (λ a. Told bytes.items) ladder_job (ladder_text n) → GivesWithin file_limit bytes result → ReportsLadder n result
  within_report law one bytes (Ok same) m h = subst (λ (b : Vec ℕ Global). IsLadderReport n b.items) (sym h.0) (whole_report law bytes.items m h.1)
  within_report law one bytes (Err refusal.TooLong) m h = long_report one bytes.items m h
  within_report law one bytes (Err _) m h = absurd h

  -- a ladder isn't refused
  never : AdmittedHasNoFault → (why : Refusal) → IsRefused ladder_job why (ladder_text n) → ⊥
  never none why h = never_refused none ladder_job (verified_model ladder_job (ladder_text n)) (ladder n) ladder_region (ap (λ (r : Result AskedModel DrnError). r >>= λ a. Ok (cut a)) (read_uncut ladder_job (ladder_text n) (ladder n) refl refl (reads n some few))) (names n) (cases n some few).admitted (refl, λ e. absurd (cc)) why h

  module _ {S K : Type 0} (source source' : S) (out out' : K) (left : S → Option (List ℕ)) (faults : S → ℕ) (taken : K → Option (List ℕ)) (counts : K → ℕ) (bytes : List ℕ)
      (reported : left source ≡ Some (ladder_text n)) (calm : faults source' ≡ 0) (empty : taken out ≡ Some []) (took : taken out' ≡ Some bytes) (none : counts out ≡ 0) where
    -- what verifying the ladder came to, where its report was written
    pub verified_ladder : Reads {T = Unit {0}} left faults taken counts (verifying ladder_job) source source' out out' (Ok tt) → Makes (λ a. Told bytes) ladder_job (ladder_text n)
    verified_ladder v = given (Makes (λ a. Told bytes) ladder_job) (ladder_text n) (left source') (rw (reported, empty, took) at v)

    -- where there was no room for it
    pub overflowed : Reads {T = Unit {0}} left faults taken counts (verifying ladder_job) source source' out out' (Err refusal.WriteFault) → Makes (λ a. ToldInPart bytes) ladder_job (ladder_text n) × (0 < counts out')
    overflowed v = (given (Makes (λ a. ToldInPart bytes) ladder_job) (ladder_text n) (left source') (rw (reported, empty, took) at v.0), counted (counts out') (rw none at v.1))

    -- else memory ran out
    pub stopped_short : AdmittedHasNoFault → (faults source ≡ 0) → (why : Refusal) → (why ≡ refusal.WriteFault → ⊥) → Reads {T = Unit {0}} left faults taken counts (verifying ladder_job) source source' out out' (Err why) → why ≡ refusal.Memory
    stopped_short law begin refusal.Memory other v = refl
    stopped_short law begin refusal.WriteFault other v = absurd (other refl)
    stopped_short law begin refusal.ReadFault other v = absurd (let h = v.0 in omega arith)
    stopped_short law begin refusal.TooLong other v = absurd (short file_limit (ladder_text n) (left source') (let h = texts n few in omega arith) (rw reported at v.0))
    stopped_short law begin (refusal.Usage f) other v = absurd v.0.has
    stopped_short law begin (refusal.Unsound error) other v = absurd v.0.has
    stopped_short law begin why other v = absurd (never law why (given (IsRefused ladder_job why) (ladder_text n) (left source') (rw reported at v.0)))

    -- verifying the ladder failed: its report is too long, or memory ran out
    pub failed : AdmittedHasNoFault → (faults source ≡ 0) → (0 < counts out' → length bytes ≡ file_limit + 1) → (why : Refusal) → Reads {T = Unit {0}} left faults taken counts (verifying ladder_job) source source' out out' (Err why)
        → ((why ≡ refusal.WriteFault) × HasLongReport n) ⊎ (why ≡ refusal.Memory)
    failed law begin full refusal.WriteFault v = (let h = overflowed v in inl (refl, cut_report bytes h.0 (full h.1)))
    failed law begin full why v = inr (stopped_short law begin why (λ e. absurd (cc)) v)

    -- so there is no report to give
    pub failed_report : AdmittedHasNoFault → (faults source ≡ 0) → (0 < counts out' → length bytes ≡ file_limit + 1) → (job : VerifyData) → job ≡ ladder_job → (why : Refusal) → Reads {T = Unit {0}} left faults taken counts (verifying job) source source' out out' (Err why)
        → (why ≡ refusal.WriteFault → ReportsLadder n (Err refusal.TooLong)) × ((why ≡ refusal.WriteFault → ⊥) → ReportsLadder n (Err why))
    failed_report law begin full job same why v = by (failed law begin full why (subst (λ (j : VerifyData). Reads {T = Unit {0}} left faults taken counts (verifying j) source source' out out' (Err why)) same v))
      where
        by : ((why ≡ refusal.WriteFault) × HasLongReport n) ⊎ (why ≡ refusal.Memory) → (why ≡ refusal.WriteFault → ReportsLadder n (Err refusal.TooLong)) × ((why ≡ refusal.WriteFault → ⊥) → ReportsLadder n (Err why))
        by (inl h) = (λ e. h.1, λ other. absurd (other h.0))
        by (inr h) = (λ e. absurd (cc), λ other. subst (λ (r : Refusal). ReportsLadder n (Err r)) (sym h) tt)

    -- the report that was written, where it fits
    pub given_report : RightReportsAreSound → RightTreesAreOne → (job : VerifyData) → job ≡ ladder_job → Reads {T = Unit {0}} left faults taken counts (verifying job) source source' out out' (Ok tt)
        → (kept : Vec ℕ Global) → kept.items ≡ bytes → (result : Result (Vec ℕ Global) Refusal) → GivesWithin file_limit kept result → ReportsLadder n result
    given_report law one job same v kept is result h =
        let m = verified_ladder (subst (λ (j : VerifyData). Reads {T = Unit {0}} left faults taken counts (verifying j) source source' out out' (Ok tt)) same v) in
        within_report law one kept result (subst (λ (b : List ℕ). Makes (λ a. Told b) ladder_job (ladder_text n)) (sym is) m) h

-- ---- its check

-- a sound file is found so, or memory runs out
pub found : (bytes : List ℕ) (old new : ℕ) → SoundFilesPass → length bytes ≤ file_limit → (new ≡ 0) → (old ≡ 0) → (result : Result Summary CheckError) → AnswersReported report_limit (Some bytes) old new result → (leaves : Summary) → IsSoundFile bytes leaves
    → (result ≡ Ok leaves) ⊎ (result ≡ Err check.Memory)
found bytes old new pass fits calm begin result reported leaves sound = reported bytes (Ok leaves) refl (pass bytes leaves sound) (omega (arith, fits)) (λ rose. omega arith)

-- what is told of a report that is sound: its leaves, or that memory ran out
pub refused_check : (error : CheckError) (answer : Result Summary CheckError) → answer ≡ Err error → (result : Result Summary Refusal) → IsErrAnd result (λ e. e ≡ check_refusal error) → (leaves : Summary)
    → (answer ≡ Ok leaves) ⊎ (answer ≡ Err check.Memory) → (result ≡ Ok leaves) ⊎ (result ≡ Err refusal.Memory)
refused_check error answer was (Ok x) is leaves found = absurd is
refused_check error answer was (Err e) is leaves (inl found) = absurd (cc)
refused_check error answer was (Err e) is leaves (inr found) = let same : error ≡ check.Memory = cc in inr (ap (λ (r : Refusal). Err r) (is ∙ ap check_refusal same))

pub passed_check : (answer : Result Summary CheckError) (x : Summary) → answer ≡ Ok x → (leaves : Summary) → (answer ≡ Ok leaves) ⊎ (answer ≡ Err check.Memory) → x ≡ leaves
passed_check answer x was leaves (inl found) = cc
passed_check answer x was leaves (inr found) = absurd (cc)

-- ---- its line

module _ {K : Type 0} (taken : K → Option (List ℕ)) (counts : K → ℕ) (n : ℕ) where
  module _ (bytes : List ℕ) (report : IsLadderReport n bytes) (answer : Result Summary Refusal) (reported : (leaves : Summary) → IsSoundFile bytes leaves → (answer ≡ Ok leaves) ⊎ (answer ≡ Err refusal.Memory)) where
    -- its leaves weren't counted
    pub not_counted : (why : Refusal) → answer ≡ Err why → (result : Result (Unit {0}) Refusal) (out : K) → IsErrAnd result (λ e. e ≡ why) → Selftests taken counts n out out result
    not_counted why was (Ok x) out is = absurd is
    not_counted why was (Err e) out is = by (reported (leaf_counts 1 report.tree) report.sound)
      where
        by : (answer ≡ Ok (leaf_counts 1 report.tree)) ⊎ (answer ≡ Err refusal.Memory) → Selftests {T = Unit {0}} taken counts n out out (Err e)
        by (inl found) = absurd (cc)
        by (inr found) = let same : e ≡ refusal.Memory = cc in subst (λ (r : Refusal). Selftests {T = Unit {0}} taken counts n out out (Err r)) (sym same) refl

    -- the leaves are those of the ladder's right tree
    leaves_are : (leaves : Summary) → answer ≡ Ok leaves → leaves ≡ leaf_counts 1 report.tree
    leaves_are leaves was = by (reported (leaf_counts 1 report.tree) report.sound)
      where
        by : (answer ≡ Ok (leaf_counts 1 report.tree)) ⊎ (answer ≡ Err refusal.Memory) → leaves ≡ leaf_counts 1 report.tree
        by (inl found) = cc
        by (inr found) = absurd (cc)

    module _ (leaves : Summary) (was : answer ≡ Ok leaves) (out out' : K) where
      -- their line was written
      pub line_written : {T E : Type 0} (x : T) → Wrote {T = T} {E = E} taken counts out out' (Ok x) (tested_line n leaves) → Selftests {T = Unit {0}} taken counts n out out' (Ok tt)
      line_written x w = (report.tree, report.tested, subst (λ (l : Summary). Appends (taken out) (taken out') (tested_line n l)) (leaves_are leaves was) w.whole)

      -- or a front of it
      pub line_cut : {T E : Type 0} (fault : E) (result : Result (Unit {0}) Refusal) → IsErrAnd result (λ e. e ≡ refusal.WriteFault) → Wrote {T = T} {E = E} taken counts out out' (Err fault) (tested_line n leaves) → Selftests taken counts n out out' result
      line_cut fault result is w = at_error (Selftests taken counts n out out') refusal.WriteFault result is
          ((report.tree, report.tested, subst (λ (l : Summary). AppendsFront (taken out) (taken out') (tested_line n l)) (leaves_are leaves was) w.part), w.cause)
