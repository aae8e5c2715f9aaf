use Rattle.std.proofs.Common.{◌≡◌, List, [], ◌∷◌, pos, negsuc, unsigned_abs, Result, Ok, Err, refl, subst, sym}
use Rattle.std.specs.declared.alloc.AllocError.{AllocError}
use Rattle.std.specs.Int.{◌∣◌}
use Rattle.std.specs.Result.{IfOk}
use Rattle.std.proofs.lemmas.Nat.Gcd.{dvd_of_mod-eq-zero}
use Rattle.std.proofs.lemmas.List.Elements.{All-nil, All-cons}
use Rattle.lift_poly.specs.Polynomial.{Term}
use Rattle.lift_poly.specs.Arithmetic.{DividesEach}
use Rattle.engine_tests.proofs.lift.polynomials.given.Goals as goal

-- -6 and 4 are even
even : DividesEach 2 ((0, negsuc 5) ∷ (3, pos 4) ∷ [])
even = All-cons (λ t. 2 ∣ unsigned_abs t.1) (0, negsuc 5) ((3, pos 4) ∷ []) (dvd_of_mod-eq-zero 2 refl)
    (All-cons (λ t. 2 ∣ unsigned_abs t.1) (3, pos 4) [] (dvd_of_mod-eq-zero 2 refl) (All-nil (λ (t : Term). 2 ∣ unsigned_abs t.1)))

halved : (answer : Result (List Term) AllocError) → IfOk answer (λ p. p ≡ (0, negsuc 5) ∷ (3, pos 4) ∷ []) → IfOk answer (DividesEach 2)
halved (Ok p) e = subst (DividesEach 2) (sym e) even
halved (Err cause) e = tt

pub returns-clause-even : goal.returns-clause-even
returns-clause-even c = halved c.from_terms.result c.from_terms.ensures
