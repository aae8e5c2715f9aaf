-- Quick tests of certificates: what they say, and why they say it of certificates.
use Rattle.std.proofs.Common.{◌≡◌, ◌<◌, ℕ, Bool, true, false, List, [], ℤ, pos, ◌^◌, ◌*ℤ◌, ◌≤ℤ◌, refl, sym, subst, arith, IsTrue}
use Rattle.std.specs.Prelude.{◌↔◌, not}
use Rattle.std.proofs.lemmas.Int.{by_lt_z}
use Rattle.lift_poly.proofs.Ring.{linear, mul-le, mul-comm}
use Rattle.lift_grid.specs.Rectangle.{Spans}
use Rattle.corner_lift.specs.Case.{CaseData, Within, IsLeast}
use Rattle.corner_lift.specs.Certificate.{IsUpper}
use Rattle.corner_lift.specs.Laws.{ParametersAreTheRoots}
use Rattle.lift_cert.specs.Certificate.{IsBeyond, IsWithin}
use Rattle.lift_cert.specs.Miss.{IsAcceptedState}
use Rattle.lift_cert.specs.declared.bound.Bound.{Bound}
use Rattle.lift_cert.proofs.Misses.{row_from_means}

-- ---- the least of values

-- the least of values is enough exactly where each of them is
pub enough_at_least : (value : ℕ → ℤ) (count : ℕ) (z whole : ℤ) (e : ℕ) → IsLeast value count z → (whole ≤ℤ (z *ℤ pos (2 ^ e))) ↔ ((c : ℕ) → c < count → whole ≤ℤ (value c *ℤ pos (2 ^ e)))
enough_at_least value count z whole e g = (
  λ le c lt. let more = mul-le (pos (2 ^ e)) z (value c) (omega (arith, linear)) (g.least c lt) in omega (arith, linear, le, more, mul-comm z (pos (2 ^ e)), mul-comm (value c) (pos (2 ^ e))),
  λ all. let at = all g.attained.0 g.attained.1.0 in subst (λ (v : ℤ). whole ≤ℤ (v *ℤ pos (2 ^ e))) (sym g.attained.1.1) at,
)

-- ---- answers

-- no, where a test fails that a yes needs
pub refused : {P Q : Type 0} (b : Bool) → IsTrue b ↔ P → b ≡ false → (Q → P) → IsTrue false ↔ Q
refused b test isnt needs = (λ wrong. absurd (cc wrong), λ q. let is = test.1 (needs q) in absurd (cc (isnt, is)))

-- yes, where all is known
pub granted : {Q : Type 0} → Q → IsTrue true ↔ Q
granted q = (λ is. q, λ all. refl)

-- what is equivalent may stand in its place
pub in_place : {P Q : Type 0} (b : Bool) → IsTrue b ↔ P → (P → Q) → (Q → P) → IsTrue b ↔ Q
in_place b test into out = (λ is. into (test.0 is), λ q. test.1 (out q))

-- a number that isn't within the bound is beyond it
pub not_within : (bound : Bound) (w : ℕ) (n : ℤ) (b : Bool) → IsTrue b ↔ IsWithin bound w n → IsTrue (not b) ↔ IsBeyond bound w n
not_within bound w n true test = (λ wrong. absurd (cc wrong), λ beyond. let within = test.0 refl in absurd (omega (arith, linear, beyond, within)))
not_within bound w n false test = (λ is. by_lt_z _ _ (λ lt. lt) (λ le. let wrong = test.1 le in absurd (cc wrong)), λ beyond. refl)

-- ---- the states of an upper vector

module _ (parameters : ParametersAreTheRoots) (k : CaseData) (spans : Spans) (within : Within spans k.root) (x : List ℤ) where
  pub state_from_upper : IsUpper k spans x → (s : ℕ) → IsAcceptedState k spans x s
  state_from_upper upper s = record {
    goal = upper.goal s;
    rows = λ inner a lt. row_from_means parameters k spans within x s a (upper.means s inner a [] lt);
  }
