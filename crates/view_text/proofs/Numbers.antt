-- Numbers as they are shown.
use Rattle.std.proofs.Common.{◌≡◌, ◌==◌, ℕ, ◌++◌, Bool, true, false, cond, List, [], codes, refl}
use Rattle.std.specs.Fmt.{decimal}
use Rattle.view_text.specs.Numbers.{divisor_text}

by_test : (b : Bool) (xs ys : List ℕ) → b ≡ false → cond b xs ys ≡ ys
by_test false xs ys e = refl
by_test true xs ys e = absurd cc

-- a denominator that isn't 1 is written
pub divided : (den : ℕ) → (den == 1) ≡ false → divisor_text den ≡ codes "/" ++ decimal den
divided den e = by_test (den == 1) [] (codes "/" ++ decimal den) e
