-- How a reading of a source ends.
use Rattle.std.proofs.Common.{◌≡◌, ◌⊎◌, ◌≤◌, ◌<◌, ◌∙◌, sym, subst, ℕ, List, length, None, Some, IsTrue, arith, inl, inr, false, true, true≢false}
use Rattle.std.specs.declared.option.Option.{Option}
use Rattle.std.specs.Io.KnownBytes.{IsAtEnd}
use Rattle.lift_base.specs.declared.pieces.LineError.{LineError}
use Rattle.lift_base.specs.declared.pieces.LineError.TheVariants as why
use Rattle.lift_base.specs.Lines.{KeepsLimit}
use Rattle.line_text.specs.Laws.{EndsWithin, EndsBeyond}

-- no more than the limit was taken, without a failure
few_taken : (failure : Option LineError) (limit taken : ℕ) → failure ≡ None → KeepsLimit failure limit taken → taken ≤ limit
few_taken failure limit taken none keeps = subst (λ (f : Option LineError). KeepsLimit f limit taken) none keeps

many_taken : (failure : Option LineError) (limit taken : ℕ) → failure ≡ Some why.TooLong → KeepsLimit failure limit taken → limit < taken
many_taken failure limit taken long keeps = subst (λ (f : Option LineError). KeepsLimit f limit taken) long keeps

pub within : {S : Type 0} (left : S → Option (List ℕ)) (faults : S → ℕ) → EndsWithin left faults
within {S} left faults limit text c s u bytes r keeps =
    let few = few_taken c.failure c.limit c.taken r.left_with keeps in (omega (arith, r.took.taken, r.took.limit, few), λ ended. by (r.took.end ended))
  where
    by : (false ≡ true) ⊎ IsAtEnd (left u) → IsAtEnd (left u)
    by (inl bad) = absurd (true≢false (sym bad))
    by (inr is) = is

pub beyond : {S : Type 0} (left : S → Option (List ℕ)) (faults : S → ℕ) → EndsBeyond left faults
beyond left faults limit text c s u bytes r keeps =
    let many = many_taken c.failure c.limit c.taken r.left_with keeps in omega (arith, r.took.taken, r.took.limit, many)
