-- What the calls answer.
use Rattle.std.proofs.Common.{◌≡◌, ◌≢◌, ◌<◌, true, false, List, Ok, Err, bit_and, nat_eq, unsigned_abs, refl, sym, ap, ◌∙◌, arith}
use Rattle.std.specs.List.{list_any}
use Rattle.std.proofs.lemmas.Bool.Decides.{nat_tests}
use Rattle.std.proofs.lemmas.List.Elements.{All-weaker}
use Rattle.std.proofs.lemmas.List.Folds.{list_any_none}
use Rattle.lift_poly.specs.Limits.{term_limit}
use Rattle.lift_poly.specs.Polynomial.{Term}
use Rattle.lift_poly.specs.Arithmetic.{product, support}
use Rattle.lift_poly.specs.MultiAffine.{IsMultiAffine, is_wide, narrow, product_answer}
use Rattle.lift_poly.specs.declared.error.PolyError.TheVariants.{SharedParameter, Wide}

narrow_term : (t : Term) → unsigned_abs t.1 < term_limit → is_wide t ≡ false
narrow_term t h = grind (arith, nat_tests)

pub none_wide : (ts : List Term) → IsMultiAffine ts → list_any is_wide ts ≡ false
none_wide ts h = list_any_none is_wide ts (All-weaker (λ t. unsigned_abs t.1 < term_limit) (λ t. is_wide t ≡ false) narrow_term ts h.sizes)

pub narrow_ok : (ts : List Term) → IsMultiAffine ts → narrow ts ≡ Ok ts
narrow_ok ts h = rw (none_wide ts h) refl

pub narrow_wide : (ts : List Term) → list_any is_wide ts ≡ true → narrow ts ≡ Err Wide
narrow_wide ts h = rw h refl

-- a polynomial that isn't too large is the answer
pub answered : (ts expected : List Term) → ts ≡ expected → IsMultiAffine ts → Ok ts ≡ narrow expected
answered ts expected e h = sym (narrow_ok ts h) ∙ ap narrow e

pub product_apart : (left right : List Term) → bit_and (support left) (support right) ≡ 0 → product_answer left right ≡ narrow (product left right)
product_apart left right h = rw h refl

pub product_shared : (left right : List Term) → bit_and (support left) (support right) ≢ 0 → product_answer left right ≡ Err SharedParameter
product_shared left right h = let no : nat_eq (bit_and (support left) (support right)) 0 ≡ false = grind (arith, nat_tests) in rw no refl
