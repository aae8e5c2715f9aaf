-- Steps of a check in turn over lines of a source: what was done so far, and what is left to be done.
use Rattle.std.proofs.Common.{◌≡◌, ◌≢◌, ◌∙◌, sym, subst, refl, ℕ, List, [], ◌++◌, None, Ok, Err, append_assoc, inl}
use Rattle.std.specs.declared.option.Option.{Option}
use Rattle.std.specs.declared.result.Result.{Result}
use Rattle.lift_base.specs.Lines.{LinesData, MayFollow}
use Rattle.line_text.specs.declared.error.TextCause.{TextCause}
use Rattle.line_text.specs.declared.error.TextCause.TheVariants as cause
use Rattle.line_text.specs.declared.error.TextError.{TextError}
use Rattle.line_text.specs.declared.error.FileError.{FileError}
use Rattle.line_text.specs.declared.error.FileError.TheVariants as file
use Rattle.line_text.specs.Reading.{Reader}
use Rattle.line_text.specs.Follow.{Follows, Ran, Went, place, reported_fault}
use Rattle.line_text.specs.Laws.{AddsUp}
use Rattle.cert_check.specs.Answer.{Answer}
use Rattle.cert_check.specs.Shown.{Agrees, Checks, IsOfFile, failure_of, leaves_in, reported, reported_as}
use Rattle.cert_check.specs.declared.file.Checked.{Checked}
use Rattle.cert_check.specs.declared.summary.Summary.{Summary}
use Rattle.cert_check.specs.declared.error.CheckError.{CheckError}
use Rattle.cert_check.specs.declared.error.CheckError.TheVariants.{Text, Rows, Missed, Depth, Axis, Rest, Fault, TooLong, Memory}

-- calls came from one place to another, and what may be answered to the rest may be answered to the whole, whatever may follow
pub record SoFar {S Y : Type 0} (left : S → Option (List ℕ)) (faults : S → ℕ) (whole rest : List ℕ → Answer Y → Type 0) (a b : LinesData) (s t : S) : Type 0 where
  pub bytes : List ℕ
  pub went : Went left faults a b s t bytes
  pub goes : (later : List ℕ) → MayFollow b later → (answer : Answer Y) → rest later answer → whole (bytes ++ later) answer

pub begin : {S Y : Type 0} {left : S → Option (List ℕ)} {faults : S → ℕ} → AddsUp left faults → (whole : List ℕ → Answer Y → Type 0) (l : LinesData) (s : S) → SoFar left faults whole whole l l s s
begin adds whole l s = record { bytes = []; went = adds.begins l s; goes = λ later may answer h. h }

-- what is left is told in another way
pub left_as : {S Y : Type 0} {left : S → Option (List ℕ)} {faults : S → ℕ} {whole rest : List ℕ → Answer Y → Type 0} {a b : LinesData} {s t : S} → (next : List ℕ → Answer Y → Type 0) → ((later : List ℕ) (answer : Answer Y) → next later answer → rest later answer)
    → SoFar left faults whole rest a b s t → SoFar left faults whole next a b s t
left_as next how so = record { bytes = so.bytes; went = so.went; goes = λ later may answer h. so.goes later may answer (how later answer h) }

-- a step
pub goes_by : {S Y : Type 0} {left : S → Option (List ℕ)} {faults : S → ℕ} → AddsUp left faults → {whole rest : List ℕ → Answer Y → Type 0} {a b c : LinesData} {s t u : S} → (next : List ℕ → Answer Y → Type 0) (ys : List ℕ)
    → SoFar left faults whole rest a b s t → Ran left faults b c t u ys None → ((later : List ℕ) → MayFollow c later → (answer : Answer Y) → next later answer → rest (ys ++ later) answer)
    → SoFar left faults whole next a c s u
goes_by adds {whole} {rest} {a} {b} {c} {s} {t} {u} next ys so r step =
    let both = adds.goes a b c s t u so.bytes ys None so.went r in record {
      bytes = so.bytes ++ ys;
      went = record { took = both.0.took; calm = both.0.fault; clean = inl both.0.left_with };
      goes = λ later may answer h. subst (λ (l : List ℕ). whole l answer) (sym (append_assoc so.bytes ys later)) (so.goes (ys ++ later) (both.1 later may) answer (step later may answer h));
    }

-- what the rest comes to, the whole comes to
pub tail : {S X Y : Type 0} {left : S → Option (List ℕ)} {faults : S → ℕ} → AddsUp left faults → {whole rest : List ℕ → Answer Y → Type 0} {a b c : LinesData} {s t u : S} {view : List ℕ → X → Y} (r : Result X CheckError)
    → SoFar left faults whole rest a b s t → Checks left faults b c t u view rest r → Checks left faults a c s u view whole r
tail {S} {X} {Y} {left} {faults} adds {whole} {rest} {a} {b} {c} {s} {t} {u} {view} r so f =
    let both = adds.goes a b c s t u so.bytes f.bytes (failure_of r) so.went f.ran in record {
      bytes = so.bytes ++ f.bytes;
      ran = both.0;
      agrees = agree both.1 r f.agrees;
    }
  where
    moved : ((later : List ℕ) → MayFollow c later → MayFollow b (f.bytes ++ later)) → (later : List ℕ) → MayFollow c later → (answer : Answer Y) → rest (f.bytes ++ later) answer → whole ((so.bytes ++ f.bytes) ++ later) answer
    moved follows later may answer h = subst (λ (l : List ℕ). whole l answer) (sym (append_assoc so.bytes f.bytes later)) (so.goes (f.bytes ++ later) (follows later may) answer h)

    agree : ((later : List ℕ) → MayFollow c later → MayFollow b (f.bytes ++ later)) → (r : Result X CheckError) → Agrees view rest c f.bytes r → Agrees view whole c (so.bytes ++ f.bytes) r
    agree follows (Ok x) now = λ later may. moved follows later may (Ok (view later x)) (now later may)
    agree follows (Err e) now = λ some later may. moved follows later may (Err e) (now some later may)

-- ---- without a call

ran_none : {S : Type 0} {left : S → Option (List ℕ)} {faults : S → ℕ} → AddsUp left faults → (l : LinesData) (s : S) → l.failure ≡ None → Ran left faults l l s s [] None
ran_none adds l s none = let went = adds.begins l s in record { took = went.took; left_with = none; fault = refl }

-- what is left is answered
pub answered : {S X Y : Type 0} {left : S → Option (List ℕ)} {faults : S → ℕ} → AddsUp left faults → {whole rest : List ℕ → Answer Y → Type 0} {a b : LinesData} {s t : S} (view : List ℕ → X → Y) (x : X) → b.failure ≡ None
    → SoFar left faults whole rest a b s t → ((later : List ℕ) → rest later (Ok (view later x))) → Checks left faults a b s t view whole (Ok x)
answered adds {b = b} {t = t} view x none so is = tail adds (Ok x) so (record { bytes = []; ran = ran_none adds b t none; agrees = λ later may. is later })

-- a fault is told of what is left
pub faulted : {S X Y : Type 0} {left : S → Option (List ℕ)} {faults : S → ℕ} → AddsUp left faults → {whole rest : List ℕ → Answer Y → Type 0} {a b : LinesData} {s t : S} (view : List ℕ → X → Y) (e : CheckError) (r : Result X CheckError) → r ≡ Err e → b.failure ≡ None
    → failure_of {X = X} (Err e) ≡ None → SoFar left faults whole rest a b s t → (IsOfFile e → (later : List ℕ) → rest later (Err e)) → Checks left faults a b s t view whole r
faulted {S} {X} {Y} {left} {faults} adds {whole} {rest} {a} {b} {s} {t} view e r same none calm so is =
    subst (λ (r : Result X CheckError). Checks left faults a b s t view whole r) (sym same) (tail adds (Err e) so (record { bytes = []; ran = subst (λ f. Ran left faults b b t t [] f) (sym calm) (ran_none adds b t none); agrees = λ some later may. is some later }))

-- memory ran out
pub wanting : {S X Y : Type 0} {left : S → Option (List ℕ)} {faults : S → ℕ} → AddsUp left faults → {whole rest : List ℕ → Answer Y → Type 0} {a b : LinesData} {s t : S} (view : List ℕ → X → Y) (r : Result X CheckError) → r ≡ Err Memory → b.failure ≡ None
    → SoFar left faults whole rest a b s t → Checks left faults a b s t view whole r
wanting adds view r same none so = faulted adds view Memory r same none refl so (λ bad. absurd bad)

-- ---- a part that isn't read

module _ {S X Y Z W : Type 0} {left : S → Option (List ℕ)} {faults : S → ℕ} (adds : AddsUp left faults) {whole rest : List ℕ → Answer Y → Type 0} {a b c : LinesData} {s t u : S} {see : Z → W} {read : Reader W} (view : List ℕ → X → Y)
    (so : SoFar left faults whole rest a b s t) (fails : (l : List ℕ) (f : TextError) → read (place b l) ≡ Err f → rest l (Err (Text (reported_fault f)))) where
  as_text : (e : TextError) → e.cause ≢ cause.Memory → Follows left faults see read b c t u (Err (file.Text e)) → Checks left faults a c s u view whole (Err (Text e))
  as_text e some f = tail adds (Err (Text e)) so (record {
    bytes = f.bytes;
    ran = f.ran;
    agrees = λ _ later may. let reported = f.agrees some later may in subst (λ (d : TextError). rest (f.bytes ++ later) (Err (Text d))) (sym reported.2) (fails (f.bytes ++ later) reported.0 reported.1);
  })

  as_wanting : (e : TextError) → Follows left faults see read b c t u (Err (file.Text e)) → Checks left faults a c s u view whole (Err Memory)
  as_wanting e f = tail adds (Err Memory) so (record { bytes = f.bytes; ran = f.ran; agrees = λ bad. absurd bad })

  by_cause : (why : TextCause) (e : TextError) → e.cause ≡ why → Follows left faults see read b c t u (Err (file.Text e)) → Checks left faults a c s u view whole (Err (reported_as why e))
  by_cause cause.Memory e is f = as_wanting e f
  by_cause cause.Syntax e is f = as_text e (λ bad. absurd (let two : cause.Syntax ≡ cause.Memory = sym is ∙ bad in cc)) f
  by_cause cause.Version e is f = as_text e (λ bad. absurd (let two : cause.Version ≡ cause.Memory = sym is ∙ bad in cc)) f
  by_cause cause.Limit e is f = as_text e (λ bad. absurd (let two : cause.Limit ≡ cause.Memory = sym is ∙ bad in cc)) f
  by_cause cause.Truncated e is f = as_text e (λ bad. absurd (let two : cause.Truncated ≡ cause.Memory = sym is ∙ bad in cc)) f

  by_error : (e : FileError) → Follows left faults see read b c t u (Err e) → Checks left faults a c s u view whole (Err (reported e))
  by_error (file.Text e) f = by_cause e.cause e refl f
  by_error file.Fault f = tail adds (Err (reported file.Fault)) so (record { bytes = f.bytes; ran = f.ran; agrees = λ bad. absurd bad })
  by_error file.TooLong f = tail adds (Err (reported file.TooLong)) so (record { bytes = f.bytes; ran = f.ran; agrees = λ bad. absurd bad })

  -- its error is what is answered
  pub unread : (e : FileError) (r : Result X CheckError) → r ≡ Err (reported e) → Follows left faults see read b c t u (Err e) → Checks left faults a c s u view whole r
  unread e r same f = subst (λ (r : Result X CheckError). Checks left faults a c s u view whole r) (sym same) (by_error e f)

-- ---- a part that is checked

-- a fault tells the same failure, whatever else might have been answered
same_failure : (X Z : Type 0) (e : CheckError) → failure_of {X = Z} (Err e) ≡ failure_of {X = X} (Err e)
same_failure X Z (Text e) = refl
same_failure X Z (Rows e) = refl
same_failure X Z (Missed n m) = refl
same_failure X Z (Depth n) = refl
same_failure X Z (Axis n) = refl
same_failure X Z Rest = refl
same_failure X Z Fault = refl
same_failure X Z TooLong = refl
same_failure X Z Memory = refl

-- it is passed
pub checked : {S Y Z W : Type 0} {left : S → Option (List ℕ)} {faults : S → ℕ} → AddsUp left faults → {whole rest : List ℕ → Answer Y → Type 0} {a b c : LinesData} {s t u : S} {see : List ℕ → Z → W} {may : List ℕ → Answer W → Type 0} → SoFar left faults whole rest a b s t
    → (z : Z) (next : List ℕ → Answer Y → Type 0) → ((l later : List ℕ) → may l (Ok (see later z)) → (answer : Answer Y) → next later answer → rest l answer) → Checks left faults b c t u see may (Ok z) → SoFar left faults whole next a c s u
checked adds so z next how f = goes_by adds next f.bytes so f.ran (λ later follows answer h. how (f.bytes ++ later) later (f.agrees later follows) answer h)

-- its fault is what is answered
pub unchecked : {S X Y Z W : Type 0} {left : S → Option (List ℕ)} {faults : S → ℕ} → AddsUp left faults → {whole rest : List ℕ → Answer Y → Type 0} {a b c : LinesData} {s t u : S} {see : List ℕ → Z → W} {may : List ℕ → Answer W → Type 0} → SoFar left faults whole rest a b s t
    → (view : List ℕ → X → Y) (e : CheckError) (r : Result X CheckError) → r ≡ Err e → ((l : List ℕ) → may l (Err e) → rest l (Err e)) → Checks left faults b c t u see may (Err e) → Checks left faults a c s u view whole r
unchecked {S} {X} {Y} {Z} {W} {left} {faults} adds {whole} {rest} {a} {b} {c} {s} {t} {u} {see} {may} so view e r same how f =
    subst (λ (r : Result X CheckError). Checks left faults a c s u view whole r) (sym same) (tail adds (Err e) so (record {
      bytes = f.bytes;
      ran = subst (λ o. Ran left faults b c t u f.bytes o) (same_failure X Z e) f.ran;
      agrees = λ some later follows. how (f.bytes ++ later) (f.agrees some later follows);
    }))

-- a report that was checked, by its leaves
pub by_leaves : {S : Type 0} {left : S → Option (List ℕ)} {faults : S → ℕ} {a c : LinesData} {s u : S} {may : List ℕ → Answer Summary → Type 0} (r : Result Checked CheckError) → Checks left faults a c s u (λ _ x. x.leaves) may r → Checks left faults a c s u (λ _ x. x) may (leaves_in r)
by_leaves (Ok x) f = record { bytes = f.bytes; ran = f.ran; agrees = f.agrees }
by_leaves {S} {left} {faults} {a} {c} {s} {u} (Err e) f = record { bytes = f.bytes; ran = subst (λ o. Ran left faults a c s u f.bytes o) (same_failure Summary Checked e) f.ran; agrees = f.agrees }
