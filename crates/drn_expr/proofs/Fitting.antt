-- A tree that was read has parameters among the names, and literals in lowest terms with a denominator above 0.
use Rattle.std.proofs.Common.{◌≡◌, ℕ, zero, suc, ◌+◌, ◌*◌, ◌<◌, ◌==◌, Bool, true, false, cond, refl, List, [], ◌∷◌, length, sym, subst, arith, Option, Some, None, Result, Ok, Err}
use Rattle.std.specs.Prelude.{position, nat_lt}
use Rattle.std.specs.List.{position_or_len}
use Rattle.std.specs.Str.{bytes_eq}
use Rattle.std.proofs.lemmas.Bool.Decides.{nat_tests}
use Rattle.lift_frac.specs.Laws.{ReadingIsFraction}
use Rattle.lift_frac.specs.Ratio.{Ratio, IsFraction}
use Rattle.lift_frac.specs.Literal.{reading}
use Rattle.lift_frac.specs.declared.error.FracError.{FracError}
use Rattle.drn_lexer.specs.declared.symbol.SymbolForm.{SymbolForm}
use Rattle.drn_lexer.specs.declared.symbol.SymbolForm.TheVariants as form
use Rattle.drn_expr.specs.Trees.{Expr, Literal, Parameter, Sum, Difference, Product, Quotient, Negative, ◌>>=◌}
use Rattle.drn_expr.specs.Grammar.{most_nesting, Symbol, Parsed, value, term, factor, more, joins_terms, joins_factors, closed, ended, tree, literal_tree, name_tree}
use Rattle.drn_expr.proofs.Forms.{unary, paren, factor_by, factor-is, more_by, more-is}

-- the parameters of a tree are below k, and its literals are fractions
abbrev pub Fits : ℕ → Expr → Type 0
Fits k (Literal q) = IsFraction q
Fits k (Parameter i) = i < k
Fits k (Sum a b) = Fits k a × Fits k b
Fits k (Difference a b) = Fits k a × Fits k b
Fits k (Product a b) = Fits k a × Fits k b
Fits k (Quotient a b) = Fits k a × Fits k b
Fits k (Negative a) = Fits k a

-- ---- what is parsed fits

Good : ℕ → Parsed → Type 0
Good k (Ok r) = Fits k r.0
Good k (Err c) = Unit {0}

bind_good : (k : ℕ) (p : Parsed) (f : Expr × List Symbol → Parsed) → Good k p → ((r : Expr × List Symbol) → Fits k r.0 → Good k (f r)) → Good k (p >>= f)
unfolding Good
bind_good k (Ok r) f h g = g r h
bind_good k (Err c) f h g = tt

closed_form : (k : ℕ) (e : Expr) (x : Symbol) (s : List Symbol) (f : SymbolForm) → Fits k e → Good k (closed e (record { form = f; bytes = x.bytes } ∷ s))
unfolding Good
closed_form k e x s form.Right h = h
closed_form k e x s _ h = tt

closed_good : (k : ℕ) (e : Expr) (s : List Symbol) → Fits k e → Good k (closed e s)
unfolding Good
closed_good k e [] h = tt
closed_good k e (x ∷ s) h = closed_form k e x s x.form h

literal_good : (k : ℕ) (o : Result Ratio FracError) (s : List Symbol) → ((r : Ratio) → o ≡ Ok r → IsFraction r) → Good k (literal_tree o s)
unfolding Good
literal_good k (Err c) s h = tt
literal_good k (Ok q) s h = h q refl

name_good : (k : ℕ) (o : Option ℕ) (s : List Symbol) → ((i : ℕ) → o ≡ Some i → i < k) → Good k (name_tree o s)
unfolding Good
name_good k None s h = tt
name_good k (Some i) s h = h i refl

place_below : (m k i : ℕ) (b : Bool) → nat_lt m k ≡ b → cond b (Some m) None ≡ Some i → i < k
place_below m k i true e h = let f : m ≡ i = cc in let g : m < k = grind (arith, nat_tests) in omega (arith, f, g)
place_below m k i false e h = cc

unary_good : (k : ℕ) (p : Parsed) (b : Bool) → Good k p → Good k (unary p b)
unfolding Good unary
unary_good k p true h = tt
unary_good k p false h = bind_good k p (λ e. Ok (Negative e.0, e.1)) h (λ r f. f)

paren_good : (k : ℕ) (p : Parsed) (b : Bool) → Good k p → Good k (paren p b)
unfolding Good paren
paren_good k p true h = tt
paren_good k p false h = bind_good k p (λ e. closed e.0 e.1) h (λ r f. closed_good k r.0 r.1 f)

factor_form : (k : ℕ) (inner whole literal name : Parsed) (depth : ℕ) (f : SymbolForm) → Good k inner → Good k whole → Good k literal → Good k name → Good k (factor_by inner whole literal name depth f)
unfolding Good factor_by
factor_form k inner whole literal name depth form.Minus a b c d = unary_good k inner (depth == most_nesting) a
factor_form k inner whole literal name depth form.Left a b c d = paren_good k whole (depth == most_nesting) b
factor_form k inner whole literal name depth form.Literal a b c d = c
factor_form k inner whole literal name depth form.Name a b c d = d
factor_form k inner whole literal name depth _ a b c d = tt

-- the tree of two that fit fits
Keeps : ℕ → (Expr → Expr → Expr) → Type 0
Keeps k join = (a b : Expr) → Fits k a → Fits k b → Fits k (join a b)

terms_form : (k : ℕ) (e : Expr) (x : Symbol) (s : List Symbol) (goes : (Expr → Expr → Expr) → Parsed) (f : SymbolForm) → Fits k e → ((join : Expr → Expr → Expr) → Keeps k join → Good k (goes join)) → Good k (more_by e x s goes (joins_terms f))
unfolding Good more_by Keeps
terms_form k e x s goes form.Plus h more = more Sum (λ a b p q. (p, q))
terms_form k e x s goes form.Minus h more = more Difference (λ a b p q. (p, q))
terms_form k e x s goes _ h more = h

factors_form : (k : ℕ) (e : Expr) (x : Symbol) (s : List Symbol) (goes : (Expr → Expr → Expr) → Parsed) (f : SymbolForm) → Fits k e → ((join : Expr → Expr → Expr) → Keeps k join → Good k (goes join)) → Good k (more_by e x s goes (joins_factors f))
unfolding Good more_by Keeps
factors_form k e x s goes form.Times h more = more Product (λ a b p q. (p, q))
factors_form k e x s goes form.Over h more = more Quotient (λ a b p q. (p, q))
factors_form k e x s goes _ h more = h

more_good : (k : ℕ) (joins : SymbolForm → Option (Expr → Expr → Expr)) (operand : List Symbol → Parsed)
    → ((e : Expr) (x : Symbol) (s : List Symbol) (goes : (Expr → Expr → Expr) → Parsed) (f : SymbolForm) → Fits k e → ((join : Expr → Expr → Expr) → Keeps k join → Good k (goes join)) → Good k (more_by e x s goes (joins f)))
    → ((s : List Symbol) → Good k (operand s)) → (n : ℕ) (e : Expr) (s : List Symbol) → Fits k e → Good k (more joins operand n e s)
unfolding Good Keeps
more_good k joins operand form each zero e s h = tt
more_good k joins operand form each (suc n) e [] h = h
more_good k joins operand form each (suc n) e (x ∷ s) h =
    subst (Good k) (sym (more-is joins operand n e x s))
    (form e x s _ x.form h
    (λ join keeps. bind_good k (operand s) (λ b. more joins operand n (join e b.0) b.1) (each s) (λ r f. more_good k joins operand form each n (join e r.0) r.1 (keeps e r.0 h f))))

mutual
  unfolding value Good

  value_good : ReadingIsFraction → (n : ℕ) (names : List (List ℕ)) (depth : ℕ) (s : List Symbol) → Good (length names) (value n names depth s)
  value_good law zero names depth s = tt
  value_good law (suc n) names depth s =
      bind_good (length names) (term n names depth s) (λ a. more joins_terms (term n names depth) n a.0 a.1) (term_good law n names depth s)
      (λ r f. more_good (length names) joins_terms (term n names depth) (terms_form (length names)) (λ t. term_good law n names depth t) n r.0 r.1 f)

  term_good : ReadingIsFraction → (n : ℕ) (names : List (List ℕ)) (depth : ℕ) (s : List Symbol) → Good (length names) (term n names depth s)
  term_good law zero names depth s = tt
  term_good law (suc n) names depth s =
      bind_good (length names) (factor n names depth s) (λ a. more joins_factors (factor n names depth) n a.0 a.1) (factor_good law n names depth s)
      (λ r f. more_good (length names) joins_factors (factor n names depth) (factors_form (length names)) (λ t. factor_good law n names depth t) n r.0 r.1 f)

  factor_good : ReadingIsFraction → (n : ℕ) (names : List (List ℕ)) (depth : ℕ) (s : List Symbol) → Good (length names) (factor n names depth s)
  factor_good law zero names depth s = tt
  factor_good law (suc n) names depth [] = tt
  factor_good law (suc n) names depth (x ∷ s) =
      subst (Good (length names)) (sym (factor-is n names depth x s))
      (factor_form (length names) _ _ _ _ depth x.form (factor_good law n names (depth + 1) s) (value_good law n names (depth + 1) s)
      (literal_good (length names) (reading x.bytes) s (law x.bytes))
      (name_good (length names) (position (bytes_eq x.bytes) names) s
      (λ i e. place_below (position_or_len (bytes_eq x.bytes) names) (length names) i (nat_lt (position_or_len (bytes_eq x.bytes) names) (length names)) refl e)))

ended_is : (a e : Expr) (s : List Symbol) → ended a s ≡ Ok e → a ≡ e
ended_is a e [] h = cc
ended_is a e (x ∷ s) h = cc

whole_good : (k : ℕ) (p : Parsed) (e : Expr) → Good k p → (p >>= (λ a. ended a.0 a.1)) ≡ Ok e → Fits k e
unfolding Good
whole_good k (Ok r) e g h = subst (Fits k) (ended_is r.0 e r.1 h) g
whole_good k (Err c) e g h = cc

-- a tree that was read fits the names
pub tree_fits : ReadingIsFraction → (names : List (List ℕ)) (s : List Symbol) (e : Expr) → tree names s ≡ Ok e → Fits (length names) e
tree_fits law names s e h = whole_good (length names) (value (4 * length s + 4) names 0 s) e (value_good law (4 * length s + 4) names 0 s) h
