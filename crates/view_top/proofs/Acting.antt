-- What the words come to.
use Rattle.std.proofs.Common.{◌≡◌, ℕ, List, Ok, Err, Result, refl, sym, ap, subst, inl, inr, IsErrAnd}
use Rattle.std.specs.declared.option.Option.{Option}
use Rattle.view_words.specs.Words.{JobData, ViewData, show, follow}
use Rattle.view_words.specs.Given.{Asks}
use Rattle.view_words.specs.declared.job.Usage.{Usage}
use Rattle.view_words.specs.declared.error.WordsError.{WordsError}
use Rattle.view_words.specs.declared.error.WordsError.TheVariants as words
use Rattle.view_follow.specs.Copied.{Copies, Tells}
use Rattle.view_follow.specs.declared.progress.Lines.{Lines}
use Rattle.view_follow.specs.declared.copying.CopyError.{CopyError}
use Rattle.view_top.specs.Refused.{words_refusal, copy_refusal}
use Rattle.view_top.specs.Shown.{Shows}
use Rattle.view_top.specs.Answers.{Acts, Follows, TellsFirst, TellsOfCopy}
use Rattle.view_top.specs.declared.refusal.Refusal.{Refusal}
use Rattle.view_top.specs.declared.refusal.Refusal.TheVariants as refusal

module _ {S K : Type 0} (left : S → Option (List ℕ)) (faults : S → ℕ) (taken : K → Option (List ℕ)) (counts : K → ℕ) where
  -- a copy that was cut off
  pub cut_off : (source source' : S) (out out' : K) (e : CopyError) (result : Result (Unit {0}) Refusal) → IsErrAnd result (λ r. r ≡ copy_refusal e) → Copies {T = Unit {0}} left faults taken counts source source' out out' (Err e)
      → Follows left faults taken counts source source' out out' result
  cut_off source source' out out' e (Ok x) is h = absurd is
  cut_off source source' out out' e (Err r) is h = inl (Err e, h, ap Err is)

  -- a whole one
  pub all_copied : (source source' : S) (out out' : K) (x : Unit {0}) → Copies left faults taken counts source source' out out' (Ok x) → Follows left faults taken counts source source' out out' (Ok tt)
  all_copied source source' out out' x h = inl (Ok tt, h, refl)

  -- want of memory, before anything was touched
  memory : (asked : Result JobData Usage) (source : S) (out : K) → Acts left faults taken counts asked source source out out (Err refusal.Memory)
  memory (Ok (show v)) source out = (tt, refl)
  memory (Ok follow) source out = inr (refl, refl, refl)
  memory (Err fault) source out = (tt, refl, refl)

  by_cause : (asked : Result JobData Usage) (source : S) (out : K) (e : WordsError) → Asks asked (Err e) → Acts left faults taken counts asked source source out out (Err (words_refusal e))
  by_cause asked source out words.Memory h = memory asked source out
  by_cause asked source out (words.Usage fault) h = subst (λ (a : Result JobData Usage). Acts left faults taken counts a source source out out (Err (refusal.Usage fault))) (sym h) (refl, refl, refl)

  -- words that ask for nothing
  pub no_job : (asked : Result JobData Usage) (source : S) (out : K) (e : WordsError) (result : Result (Unit {0}) Refusal) → IsErrAnd result (λ r. r ≡ words_refusal e) → Asks asked (Err e)
      → Acts left faults taken counts asked source source out out result
  no_job asked source out e (Ok x) is h = absurd is
  no_job asked source out e (Err r) is h = subst (λ (r : Refusal). Acts left faults taken counts asked source source out out (Err r)) (sym is) (by_cause asked source out e h)

  -- a report is shown, or copied
  pub does_show : (asked : Result JobData Usage) (v : ViewData) (source source' : S) (out out' : K) (result : Result (Unit {0}) Refusal) → asked ≡ Ok (show v) → Shows left faults taken counts v source source' out out' result
      → Acts left faults taken counts asked source source' out out' result
  does_show asked v source source' out out' result is h = subst (λ (a : Result JobData Usage). Acts left faults taken counts a source source' out out' result) (sym is) h

  pub does_follow : (asked : Result JobData Usage) (source source' : S) (out out' : K) (result : Result (Unit {0}) Refusal) → asked ≡ Ok follow → Follows left faults taken counts source source' out out' result
      → Acts left faults taken counts asked source source' out out' result
  does_follow asked source source' out out' result is h = subst (λ (a : Result JobData Usage). Acts left faults taken counts a source source' out out' result) (sym is) h

-- ---- what is told before the note

module _ {S E : Type 0} (left : S → Option (List ℕ)) (reported : E → Option (List ℕ)) (misses : E → ℕ) (lines : Lines) where
  -- a copy that was cut off
  pub cut_reported : (source source' : S) (old new : E) (e : CopyError) (result : Result (Unit {0}) Refusal) → IsErrAnd result (λ r. r ≡ copy_refusal e) → Tells {T = Unit {0}} left reported misses lines source source' old new (Err e)
      → TellsOfCopy left reported misses lines source source' old new result
  cut_reported source source' old new e (Ok x) is h = absurd is
  cut_reported source source' old new e (Err r) is h = inl (Err e, h, ap Err is)

  -- a whole one
  pub all_reported : (source source' : S) (old new : E) (x : Unit {0}) → Tells left reported misses lines source source' old new (Ok x) → TellsOfCopy left reported misses lines source source' old new (Ok tt)
  all_reported source source' old new x h = inl (Ok tt, h, refl)

  -- nothing was told where memory ran out first
  silent : (asked : Result JobData Usage) (source : S) (notes : E) → TellsFirst left reported misses lines asked source source notes notes (Err refusal.Memory)
  silent (Ok follow) source notes = inr (refl, refl)
  silent (Ok (show v)) source notes = refl
  silent (Err fault) source notes = refl

  unasked : (asked : Result JobData Usage) (source : S) (notes : E) (e : WordsError) → Asks asked (Err e) → TellsFirst left reported misses lines asked source source notes notes (Err (words_refusal e))
  unasked asked source notes words.Memory h = silent asked source notes
  unasked asked source notes (words.Usage fault) h = subst (λ (a : Result JobData Usage). TellsFirst left reported misses lines a source source notes notes (Err (refusal.Usage fault))) (sym h) refl

  -- nor of words that ask for nothing
  pub no_job_reported : (asked : Result JobData Usage) (source : S) (notes : E) (e : WordsError) (result : Result (Unit {0}) Refusal) → IsErrAnd result (λ r. r ≡ words_refusal e) → Asks asked (Err e)
      → TellsFirst left reported misses lines asked source source notes notes result
  no_job_reported asked source notes e (Ok x) is h = absurd is
  no_job_reported asked source notes e (Err r) is h = subst (λ (r : Refusal). TellsFirst left reported misses lines asked source source notes notes (Err r)) (sym is) (unasked asked source notes e h)

  -- nor of a report that is shown
  pub show_reported : (asked : Result JobData Usage) (v : ViewData) (source source' : S) (notes : E) (result : Result (Unit {0}) Refusal) → asked ≡ Ok (show v) → TellsFirst left reported misses lines asked source source' notes notes result
  show_reported asked v source source' notes result is = subst (λ (a : Result JobData Usage). TellsFirst left reported misses lines a source source' notes notes result) (sym is) refl

  -- of one that is copied, what is told of the copy
  pub follow_reported : (asked : Result JobData Usage) (source source' : S) (old new : E) (result : Result (Unit {0}) Refusal) → asked ≡ Ok follow → TellsOfCopy left reported misses lines source source' old new result
      → TellsFirst left reported misses lines asked source source' old new result
  follow_reported asked source source' old new result is h = subst (λ (a : Result JobData Usage). TellsFirst left reported misses lines a source source' old new result) (sym is) h
