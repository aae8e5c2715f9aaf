-- Expansions of operands and of what joins them.
use Rattle.std.proofs.Common.{◌≡◌, ◌≢◌, ◌^◌, ℕ, [], ◌∷◌, List, ℤ, pos, refl, Option, Some, Result, Ok, Err, unsigned_abs, sym, ap, ◌∙◌}
use Rattle.lift_frac.specs.Frac.{ratio_of, answer_of}
use Rattle.lift_frac.specs.Ratio.{Ratio}
use Rattle.lift_frac.specs.declared.frac.Frac.{Frac}
use Rattle.lift_frac.specs.declared.error.FracError.{FracError}
use Rattle.lift_poly.specs.Polynomial.{constant}
use Rattle.drn_expr.specs.Trees.{Expr, Literal, Parameter, Negative}
use Rattle.drn_expr.specs.Grammar.{Symbol, literal_tree, name_tree}
use Rattle.drn_expr.specs.RatPolys.{OverOne}
use Rattle.drn_expr.specs.Expansion.{expansion}
use Rattle.drn_expr.specs.Parsing.{IsExpansion, joined, combined, opposite}
use Rattle.drn_expr.specs.declared.error.ExprError.{ExprError}
use Rattle.drn_expr.specs.declared.error.ExprError.TheVariants.{Memory}
use Rattle.drn_expr.specs.declared.parse.Operation.{Operation}
use Rattle.drn_expr.specs.declared.parse.Operation.TheVariants as op

abbrev over : List (ℕ × ℤ) → ℕ → OverOne
over terms den = record { terms = terms; den = den }

pub literal_operand : (number : Frac) (read : Result Ratio FracError) (worth : Result OverOne ExprError) → answer_of (Ok number) ≡ read
    → (worth ≢ Err Memory → worth ≡ Ok (over (constant number.num) (unsigned_abs number.den))) → (e : Expr) × ((s : List Symbol) → literal_tree read s ≡ Ok (e, s)) × IsExpansion worth e
unfolding expansion
literal_operand number read worth h given = (Literal (ratio_of number), λ s. ap (λ r. literal_tree r s) (sym h), given)

pub parameter_operand : (place : ℕ) (found : Option ℕ) (worth : Result OverOne ExprError) → Some place ≡ found
    → (worth ≢ Err Memory → worth ≡ Ok (over ((2 ^ place, pos 1) ∷ []) 1)) → (e : Expr) × ((s : List Symbol) → name_tree found s ≡ Ok (e, s)) × IsExpansion worth e
unfolding expansion
parameter_operand place found worth h given = (Parameter place, λ s. ap (λ o. name_tree o s) (sym h), given)

expansion-joined : (operation : Operation) (a b : Expr) → expansion (joined operation a b) ≡ combined operation (expansion a) (expansion b)
unfolding expansion
expansion-joined op.Sum a b = refl
expansion-joined op.Difference a b = refl
expansion-joined op.Product a b = refl
expansion-joined op.Quotient a b = refl

expansion-negative : (a : Expr) → expansion (Negative a) ≡ opposite (expansion a)
unfolding expansion
expansion-negative a = refl

pub opposite_is : (value inner : Result OverOne ExprError) (a : Expr) → (value ≢ Err Memory → value ≡ opposite inner) → IsExpansion inner a → IsExpansion value (Negative a)
opposite_is value inner a h inside some =
    let given = h some in
    given ∙ ap opposite (inside (λ e. some (given ∙ ap opposite e))) ∙ sym (expansion-negative a)

-- the right operand counts where the left one has an expansion
by_left : (operation : Operation) (x l r : Result OverOne ExprError) (b : Expr) → l ≡ x → (combined operation l r ≢ Err Memory) → IsExpansion r b → combined operation l r ≡ combined operation x (expansion b)
by_left operation (Ok x) l r b e some right =
    let at = ap (λ y. combined operation y r) e in
    at ∙ ap (λ y. combined operation (Ok x) y) (right (λ m. some (at ∙ ap (λ y. combined operation (Ok x) y) m)))
by_left operation (Err cause) l r b e some right = ap (λ y. combined operation y r) e

pub combined_is : (operation : Operation) (value l r : Result OverOne ExprError) (a b : Expr) → (value ≢ Err Memory → value ≡ combined operation l r) → IsExpansion l a → IsExpansion r b → IsExpansion value (joined operation a b)
combined_is operation value l r a b h left right some =
    let given = h some in
    let left_is = left (λ m. some (given ∙ ap (λ y. combined operation y r) m)) in
    given ∙ by_left operation (expansion a) l r b left_is (λ m. some (given ∙ m)) right ∙ sym (expansion-joined operation a b)
