-- How a check of a source ends, by what a check over its lines comes to.
use Rattle.std.proofs.Common.{◌≡◌, ◌⊎◌, ◌∙◌, ap, sym, subst, refl, ℕ, ◌<◌, ◌≤◌, List, [], ◌++◌, length, None, Some, Ok, Err, IfOk, IfErr, IsTrue, true≢false, arith, length-append, append-nil, inl, inr}
use Rattle.std.specs.Prelude.{is_some}
use Rattle.std.specs.declared.option.Option.{Option}
use Rattle.std.specs.declared.result.Result.{Result}
use Rattle.std.specs.Io.KnownBytes.{Consumes, IsAtEnd}
use Rattle.std.proofs.KnownBytes.{Consumes-nil}
use Rattle.lift_base.specs.Outside.{TakenHas, Rose}
use Rattle.lift_base.specs.declared.pieces.LineError.{LineError}
use Rattle.lift_base.specs.declared.pieces.LineError.TheVariants as why
use Rattle.lift_base.specs.Lines.{LinesData, fresh}
use Rattle.lift_base.specs.Lines.{KeepsLimit as KeepsLines}
use Rattle.line_text.specs.Follow.{Ran, place}
use Rattle.line_text.specs.Laws.{EndsWithin, EndsBeyond}
use Rattle.line_text.specs.Found.{WasFound}
use Rattle.cert_text.specs.Head.{head_at}
use Rattle.cert_check.specs.Answer.{Answer, Answers, FileEnds}
use Rattle.cert_check.specs.Laws.{AnswersAreOne, PassingFilesAreSound, SoundFilesPass, SoundReportsHold}
use Rattle.cert_check.specs.Trust.{IsTrusted}
use Rattle.cert_check.specs.Sound.{IsSoundFile}
use Rattle.cert_check.specs.Source.{AnswersReported, ChecksSource, CountsFault, KeepsLimit, TellsSmallNumbers}
use Rattle.cert_check.specs.Shown.{Checks, Says, IsOfFile, IsReportedOfFile, failure_of, leaves_in}
use Rattle.cert_check.specs.declared.file.Checked.{Checked}
use Rattle.cert_check.specs.declared.summary.Summary.{Summary}
use Rattle.cert_check.specs.declared.error.CheckError.{CheckError}
use Rattle.cert_check.specs.declared.error.CheckError.TheVariants.{Text, Rows, Missed, Depth, Axis, Rest, Fault, TooLong, Memory}
use Rattle.cert_check.proofs.Walking.{by_leaves}

-- ---- a source

module _ {S : Type 0} (left : S → Option (List ℕ)) (faults : S → ℕ) (within : EndsWithin left faults) (beyond : EndsBeyond left faults) (limit : ℕ) (text : List ℕ) (c : LinesData) (s u : S) (keeps : KeepsLines c.failure c.limit c.taken) where
  -- what a check over all lines comes to
  abbrev Comes : Answer Summary → Type 0
  Comes result = Checks left faults (fresh limit text) c s u (λ _ x. x) (λ later. FileEnds (head_at (place (fresh limit text) later))) result

  -- where the source didn't fail, few bytes were taken, and the end was seen only where it is
  few : (result : Answer Summary) (f : Comes result) → failure_of result ≡ None → (length f.bytes ≤ limit) × (IsTrue c.ended → IsAtEnd (left u))
  few result f none = within limit text c s u f.bytes (subst (λ o. Ran left faults (fresh limit text) c s u f.bytes o) none f.ran) keeps

  -- then a fault that is told is that of the bytes that were taken, whatever may follow them
  found : (e : CheckError) → IsOfFile e → failure_of {X = Summary} (Err e) ≡ None → Comes (Err e) → WasFound limit (λ bytes. Answers bytes (Err e)) (left s) (left u)
  found e of none f =
      let size = few (Err e) f none in
      record { bytes = f.bytes; consumed = f.ran.took.consumed; small = size.0; ended = c.ended; finished = size.1; has = λ later may. f.agrees of later may }

  -- a fault of the source was counted
  rose : (◌≡◌ {A = Option LineError} None (Some why.Fault)) ⊎ Rose (faults s) (faults u) → Rose (faults s) (faults u)
  rose (inl bad) = absurd (true≢false (sym (ap is_some bad)))
  rose (inr h) = h

  -- the numbers that are answered are those of a file that can be trusted
  trusted : PassingFilesAreSound → SoundReportsHold → (bytes : List ℕ) (leaves : Summary) → Answers bytes (Ok leaves) → IsTrusted bytes leaves
  trusted sound holds bytes leaves h = let file = sound bytes leaves h in record { file = file; holds = holds file.head file.tree file.sound }

  pub source_checked : PassingFilesAreSound → SoundReportsHold → (result : Answer Summary) → IfOk result (λ _. IsTrue c.ended) → Comes result → ChecksSource limit left faults s u result
  source_checked sound holds (Ok leaves) ended f =
      let size = few (Ok leaves) f refl in
      record {
        bytes = f.bytes;
        consumed = f.ran.took.consumed;
        finished = size.1 ended;
        small = size.0;
        has = trusted sound holds f.bytes leaves (subst (λ b. Answers b (Ok leaves)) (append-nil f.bytes) (f.agrees [] (λ _. refl)));
      }
  source_checked sound holds (Err Fault) ended f = rose f.ran.fault.1
  source_checked sound holds (Err TooLong) ended f = (f.bytes, f.ran.took.consumed, beyond limit text c s u f.bytes f.ran keeps)
  source_checked sound holds (Err Memory) ended f = tt
  source_checked sound holds (Err (Text e)) ended f = found (Text e) tt refl f
  source_checked sound holds (Err (Rows e)) ended f = found (Rows e) tt refl f
  source_checked sound holds (Err (Missed node miss)) ended f = found (Missed node miss) tt refl f
  source_checked sound holds (Err (Depth node)) ended f = found (Depth node) tt refl f
  source_checked sound holds (Err (Axis node)) ended f = found (Axis node) tt refl f
  source_checked sound holds (Err Rest) ended f = found Rest tt refl f

  few_taken : (result : Answer Summary) (f : Comes result) → failure_of result ≡ None → TakenHas (λ bytes. length bytes ≤ limit) (left s) (left u)
  few_taken result f none = (f.bytes, f.ran.took.consumed, (few result f none).0)

  pub limit_kept : (result : Answer Summary) → Comes result → KeepsLimit limit result (left s) (left u)
  limit_kept (Err TooLong) f = (f.bytes, f.ran.took.consumed, beyond limit text c s u f.bytes f.ran keeps)
  limit_kept (Err Fault) f =
      let least : c.taken ≤ c.limit = subst (λ o. KeepsLines o c.limit c.taken) f.ran.left_with keeps in
      let taken = f.ran.took.taken in
      let most = f.ran.took.limit in
      (f.bytes, f.ran.took.consumed, omega (arith, least, taken, most))
  limit_kept (Ok leaves) f = few_taken (Ok leaves) f refl
  limit_kept (Err Memory) f = few_taken (Err Memory) f refl
  limit_kept (Err (Text e)) f = few_taken (Err (Text e)) f refl
  limit_kept (Err (Rows e)) f = few_taken (Err (Rows e)) f refl
  limit_kept (Err (Missed node miss)) f = few_taken (Err (Missed node miss)) f refl
  limit_kept (Err (Depth node)) f = few_taken (Err (Depth node)) f refl
  limit_kept (Err (Axis node)) f = few_taken (Err (Axis node)) f refl
  limit_kept (Err Rest) f = few_taken (Err Rest) f refl

  pub faults_counted : (result : Answer Summary) → Comes result → CountsFault result (faults s) (faults u)
  faults_counted (Err Fault) f = rose f.ran.fault.1
  faults_counted (Err TooLong) f = f.ran.fault
  faults_counted (Ok leaves) f = f.ran.fault
  faults_counted (Err Memory) f = f.ran.fault
  faults_counted (Err (Text e)) f = f.ran.fault
  faults_counted (Err (Rows e)) f = f.ran.fault
  faults_counted (Err (Missed node miss)) f = f.ran.fault
  faults_counted (Err (Depth node)) f = f.ran.fault
  faults_counted (Err (Axis node)) f = f.ran.fault
  faults_counted (Err Rest) f = f.ran.fault

-- the same of a report that was checked, where the lines were fresh
module _ {S : Type 0} (left : S → Option (List ℕ)) (faults : S → ℕ) (within : EndsWithin left faults) (beyond : EndsBeyond left faults) (limit : ℕ) (text : List ℕ) (first c : LinesData) (first_is : first ≡ fresh limit text) (s u : S) (keeps : KeepsLines c.failure c.limit c.taken)
    (result : Result Checked CheckError) (end : Checks left faults first c s u (λ _ x. x.leaves) (λ later. FileEnds (head_at (place first later))) result) where
  came : Comes left faults within beyond limit text c s u keeps (leaves_in result)
  came = by_leaves result (subst (λ (l : LinesData). Checks left faults l c s u (λ _ x. x.leaves) (λ later. FileEnds (head_at (place l later))) result) first_is end)

  still_ended : (result : Result Checked CheckError) → IfOk result (λ _. IsTrue c.ended) → IfOk (leaves_in result) (λ _. IsTrue c.ended)
  still_ended (Ok x) ended = ended
  still_ended (Err e) ended = tt

  pub source_of : PassingFilesAreSound → SoundReportsHold → IfOk result (λ _. IsTrue c.ended) → ChecksSource limit left faults s u (leaves_in result)
  source_of sound holds ended = source_checked left faults within beyond limit text c s u keeps sound holds (leaves_in result) (still_ended result ended) came

  pub limit_of : KeepsLimit limit (leaves_in result) (left s) (left u)
  limit_of = limit_kept left faults within beyond limit text c s u keeps (leaves_in result) came

  pub faults_of : CountsFault (leaves_in result) (faults s) (faults u)
  faults_of = faults_counted left faults within beyond limit text c s u keeps (leaves_in result) came

-- nothing was taken
pub none_taken : (limit : ℕ) (old : Option (List ℕ)) → TakenHas (λ bytes. length bytes ≤ limit) old old
none_taken limit old = ([], Consumes-nil old, omega arith)

-- ---- a source that is told

-- what was read of bytes that are told is all of them
all_read : (bytes text : List ℕ) (old new : Option (List ℕ)) → old ≡ Some bytes → Consumes old new text → IsAtEnd new → text ≡ bytes
all_read bytes text old new reported consumed ended = by new (subst (λ o. Consumes o new text) reported consumed) ended
  where
    by : (new : Option (List ℕ)) → Consumes (Some bytes) new text → IsAtEnd new → text ≡ bytes
    by None c e = absurd c
    by (Some rest) c e = sym (c ∙ ap (λ r. text ++ r) e ∙ append-nil text)

-- what holds whatever may follow holds of all bytes
all_found : (P : List ℕ → Type 0) (limit : ℕ) (bytes : List ℕ) (old new : Option (List ℕ)) → old ≡ Some bytes → WasFound limit P old new → P bytes
all_found P limit bytes old new reported m = by new (subst (λ o. Consumes o new m.bytes) reported m.consumed) m.finished
  where
    by : (new : Option (List ℕ)) → Consumes (Some bytes) new m.bytes → (IsTrue m.ended → IsAtEnd new) → P bytes
    by None c e = absurd c
    by (Some rest) c e = subst P (sym c) (m.has rest e)

-- no more are taken than are told
not_more : (n : ℕ) (bytes : List ℕ) (old new : Option (List ℕ)) → old ≡ Some bytes → TakenHas (λ b. n < length b) old new → length bytes ≤ n → ⊥
not_more n bytes old new reported (taken, consumed, more) few = by new (subst (λ o. Consumes o new taken) reported consumed)
  where
    by : (new : Option (List ℕ)) → Consumes (Some bytes) new taken → ⊥
    by None c = c
    by (Some rest) c = let size = length-append taken rest in let all = ap (λ (b : List ℕ). length b) c in omega (arith, more, few, size, all)

module _ {S : Type 0} (limit : ℕ) (left : S → Option (List ℕ)) (faults : S → ℕ) (old new : S) (pass : SoundFilesPass) (bytes : List ℕ) (reported : left old ≡ Some bytes) where
  -- the first fault that was met is that of the whole
  found_of : (e : CheckError) → WasFound limit (λ b. Answers b (Err e)) (left old) (left new) → Answers bytes (Err e)
  found_of e m = all_found (λ b. Answers b (Err e)) limit bytes (left old) (left new) reported m

  -- what is answered may be answered, or a fault was counted, or more bytes are told than the limit, or memory ran out
  abbrev Ends : Answer Summary → Type 0
  Ends (Err Fault) = Rose (faults old) (faults new)
  Ends (Err TooLong) = length bytes ≤ limit → ⊥
  Ends (Err Memory) = Unit {0}
  Ends result = Answers bytes result

  ends : (result : Answer Summary) → ChecksSource limit left faults old new result → Ends result
  ends (Ok leaves) h = subst (λ b. Answers b (Ok leaves)) (all_read bytes h.bytes (left old) (left new) reported h.consumed h.finished) (pass h.bytes leaves h.has.file)
  ends (Err Fault) h = h
  ends (Err TooLong) h = not_more limit bytes (left old) (left new) reported h
  ends (Err Memory) h = tt
  ends (Err (Text e)) h = found_of (Text e) h
  ends (Err (Rows e)) h = found_of (Rows e) h
  ends (Err (Missed node miss)) h = found_of (Missed node miss) h
  ends (Err (Depth node)) h = found_of (Depth node) h
  ends (Err (Axis node)) h = found_of (Axis node) h
  ends (Err Rest) h = found_of Rest h

  one_answer : AnswersAreOne → (answer result : Answer Summary) → Answers bytes answer → length bytes ≤ limit → (Rose (faults old) (faults new) → ⊥) → Ends result → (result ≡ answer) ⊎ (result ≡ Err Memory)
  one_answer one answer (Ok leaves) may small calm h = inl (one bytes (Ok leaves) answer h may)
  one_answer one answer (Err Fault) may small calm h = absurd (calm h)
  one_answer one answer (Err TooLong) may small calm h = absurd (h small)
  one_answer one answer (Err Memory) may small calm h = inr refl
  one_answer one answer (Err (Text e)) may small calm h = inl (one bytes (Err (Text e)) answer h may)
  one_answer one answer (Err (Rows e)) may small calm h = inl (one bytes (Err (Rows e)) answer h may)
  one_answer one answer (Err (Missed node miss)) may small calm h = inl (one bytes (Err (Missed node miss)) answer h may)
  one_answer one answer (Err (Depth node)) may small calm h = inl (one bytes (Err (Depth node)) answer h may)
  one_answer one answer (Err (Axis node)) may small calm h = inl (one bytes (Err (Axis node)) answer h may)
  one_answer one answer (Err Rest) may small calm h = inl (one bytes (Err Rest) answer h may)

-- what may be answered to told bytes is answered
pub reported_answered : {S : Type 0} (limit : ℕ) (left : S → Option (List ℕ)) (faults : S → ℕ) (old new : S) → SoundFilesPass → AnswersAreOne → (result : Answer Summary) → ChecksSource limit left faults old new result
    → AnswersReported limit (left old) (faults old) (faults new) result
reported_answered limit left faults old new pass one result h bytes answer reported may small calm =
    one_answer limit left faults old new pass bytes reported one answer result may small calm (ends limit left faults old new pass bytes reported result h)

-- ---- a text in memory

module _ (limit : ℕ) (old new : List ℕ) (pass : SoundFilesPass) (small : length old ≤ limit) where
  -- nothing is counted of a source that never fails
  still : Rose 0 0 → ⊥
  still h = omega (arith, h)

  pub text_says : (result : Answer Summary) → ChecksSource limit (λ (s : List ℕ). Some s) (λ _. 0) old new result → Says (λ s. s) (Answers old) result
  text_says result h = by result (ends limit (λ (s : List ℕ). Some s) (λ _. 0) old new pass old refl result h)
    where
      by : (result : Answer Summary) → Ends limit (λ (s : List ℕ). Some s) (λ _. 0) old new pass old refl result → Says (λ s. s) (Answers old) result
      by (Ok leaves) h = h
      by (Err Fault) h = absurd (still h)
      by (Err TooLong) h = absurd (h small)
      by (Err Memory) h = λ some. absurd (some refl)
      by (Err (Text e)) h = λ _. h
      by (Err (Rows e)) h = λ _. h
      by (Err (Missed node miss)) h = λ _. h
      by (Err (Depth node)) h = λ _. h
      by (Err (Axis node)) h = λ _. h
      by (Err Rest) h = λ _. h

  pub text_reported : (result : Answer Summary) → ChecksSource limit (λ (s : List ℕ). Some s) (λ _. 0) old new result → IfErr result TellsSmallNumbers → IfErr result IsReportedOfFile
  text_reported (Ok leaves) h reported = tt
  text_reported (Err Fault) h reported = still h
  text_reported (Err TooLong) h reported = not_more limit old (Some old) (Some new) refl h small
  text_reported (Err Memory) h reported = tt
  text_reported (Err (Text e)) h reported = tt
  text_reported (Err (Rows e)) h reported = reported
  text_reported (Err (Missed node miss)) h reported = reported
  text_reported (Err (Depth node)) h reported = tt
  text_reported (Err (Axis node)) h reported = tt
  text_reported (Err Rest) h reported = tt

-- a file that passes is sound
pub passes : PassingFilesAreSound → (bytes : List ℕ) (result : Result Summary CheckError) → Says (λ s. s) (Answers bytes) result → IfOk result (IsSoundFile bytes)
passes sound bytes (Ok leaves) h = sound bytes leaves h
passes sound bytes (Err e) h = tt
