-- What a check answers, by what checking its source answered.
use Rattle.std.proofs.Common.{◌≡◌, ℕ, List, Ok, Err, refl, Result, IsErrAnd}
use Rattle.std.specs.declared.option.Option.{Option}
use Rattle.lift_base.specs.Outside.{Wrote}
use Rattle.line_text.specs.Found.{WasRead as Read}
use Rattle.cert_check.specs.Source.{ChecksSource, KeepsLimit as Keeps, report_limit}
use Rattle.cert_check.specs.declared.summary.Summary.{Summary}
use Rattle.cert_check.specs.declared.error.CheckError.{CheckError}
use Rattle.cert_check.specs.declared.error.CheckError.TheVariants as check
use Rattle.plift_top.specs.Refused.{check_refusal}
use Rattle.plift_top.specs.Reads.{KeepsWithin, Reads, WasRead}
use Rattle.plift_top.specs.Check.{checking, sound_line}
use Rattle.plift_top.specs.declared.refusal.Refusal.{Refusal}
use Rattle.plift_top.specs.declared.refusal.Refusal.TheVariants as refusal
use Rattle.plift_top.proofs.Errors.{at_error}

-- what holds of bytes that were read follows from what is known of them
read_as : {P Q : List ℕ → Type 0} {limit : ℕ} {old new : Option (List ℕ)} → ((bytes : List ℕ) → P bytes → Q bytes) → Read limit P old new → WasRead Q old new
read_as f h = record { text = h.bytes; consumed = h.consumed; ended = h.finished; has = f h.bytes h.has }

module _ {S K : Type 0} (left : S → Option (List ℕ)) (faults : S → ℕ) (source source' : S) (taken : K → Option (List ℕ)) (counts : K → ℕ) where
  -- a check that stopped before anything was written
  pub stopped_check : (error : CheckError) (result : Result (Unit {0}) Refusal) (out : K) → IsErrAnd result (λ e. e ≡ check_refusal error) → ChecksSource report_limit left faults source source' (Err error) → Reads left faults taken counts checking source source' out out result
  stopped_check error result out is h = at_error (Reads left faults taken counts checking source source' out out) (check_refusal error) result is (by error h)
    where
      by : (error : CheckError) → ChecksSource report_limit left faults source source' (Err error) → Reads {T = Unit {0}} left faults taken counts checking source source' out out (Err (check_refusal error))
      by check.Memory h = (tt, refl)
      by _ h = (h, refl)

  -- a check whose line was cut off
  pub cut_check : {T E : Type 0} (leaves : Summary) (fault : E) (result : Result (Unit {0}) Refusal) (out out' : K) → IsErrAnd result (λ e. e ≡ refusal.WriteFault) → ChecksSource report_limit left faults source source' (Ok leaves) → Wrote {T = T} taken counts out out' (Err fault) (sound_line leaves)
      → Reads left faults taken counts checking source source' out out' result
  cut_check leaves fault result out out' is h w = at_error (Reads left faults taken counts checking source source' out out') refusal.WriteFault result is (read_as (λ bytes is. record { leaves = leaves; trusted = is; front = w.part }) h, w.cause)

  -- a check whose line was written
  pub whole_check : {T E : Type 0} (leaves : Summary) (x : T) (out out' : K) → ChecksSource report_limit left faults source source' (Ok leaves) → Wrote {E = E} taken counts out out' (Ok x) (sound_line leaves) → Reads {T = T} left faults taken counts checking source source' out out' (Ok x)
  whole_check leaves x out out' h w = read_as (λ bytes is. record { leaves = leaves; trusted = is; line = w.whole }) h

-- how much was read
pub stopped_limit : (error : CheckError) (result : Result (Unit {0}) Refusal) (old new : Option (List ℕ)) → IsErrAnd result (λ e. e ≡ check_refusal error) → Keeps report_limit (Err error) old new → KeepsWithin report_limit result old new
stopped_limit error result old new is h = at_error (λ r. KeepsWithin report_limit r old new) (check_refusal error) result is (by error h)
  where
    by : (error : CheckError) → Keeps report_limit (Err error) old new → KeepsWithin {T = Unit {0}} report_limit (Err (check_refusal error)) old new
    by check.Memory h = h
    by _ h = h

pub cut_limit : (leaves : Summary) (result : Result (Unit {0}) Refusal) (old new : Option (List ℕ)) → IsErrAnd result (λ e. e ≡ refusal.WriteFault) → Keeps report_limit (Ok leaves) old new → KeepsWithin report_limit result old new
cut_limit leaves result old new is h = at_error (λ r. KeepsWithin report_limit r old new) refusal.WriteFault result is h
