-- What holds of a refusal, and of a first fault.
use Rattle.std.proofs.Common.{◌≡◌, ℕ, List, Ok, Err, sym, subst, Result, IsErrAnd}
use Rattle.cert_check.specs.Sound.{IsSoundFile}
use Rattle.cert_check.specs.Answer.{Answers}
use Rattle.cert_check.specs.Laws.{AnswersAreOne, SoundFilesPass}
use Rattle.cert_check.specs.declared.summary.Summary.{Summary}
use Rattle.cert_check.specs.declared.error.CheckError.{CheckError}
use Rattle.plift_top.specs.declared.refusal.Refusal.{Refusal}

-- what holds of a refusal holds of an answer that is it
pub at_error : {T : Type 0} (P : Result T Refusal → Type 0) (why : Refusal) (result : Result T Refusal) → IsErrAnd result (λ e. e ≡ why) → P (Err why) → P result
at_error P why (Ok x) is h = absurd is
at_error P why (Err e) is h = subst (λ (r : Refusal). P (Err r)) (sym is) h

-- a sound file has no first fault
pub faultless : SoundFilesPass → AnswersAreOne → (bytes : List ℕ) (leaves : Summary) (error : CheckError) → IsSoundFile bytes leaves → Answers bytes (Err error) → ⊥
faultless pass one bytes leaves error file is = (let same = one bytes (Ok leaves) (Err error) (pass bytes leaves file) is in absurd (cc))
