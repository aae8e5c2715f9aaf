-- Factors, by the symbol that they begin with, and the ends of parentheses and values.
use Rattle.std.proofs.Common.{◌≡◌, ◌≢◌, ◌==◌, ◌+◌, ◌*◌, ◌<◌, ◌≤◌, ℕ, zero, suc, true, false, refl, List, [], ◌∷◌, length, None, Result, Ok, Err, sym, ap, ◌∙◌, arith}
use Rattle.std.specs.Prelude.{position, slice_range}
use Rattle.std.specs.Str.{bytes_eq}
use Rattle.std.proofs.lemmas.Bool.Decides.{nat_tests}
use Rattle.lift_frac.specs.Literal.{reading}
use Rattle.drn_lexer.specs.Spans.{IsNextSymbol, first_symbol}
use Rattle.drn_lexer.specs.declared.line.Line.{Line}
use Rattle.drn_lexer.specs.declared.symbol.Symbol as lexer
use Rattle.drn_lexer.specs.declared.symbol.SymbolForm.{SymbolForm}
use Rattle.drn_lexer.specs.declared.symbol.SymbolForm.TheVariants as form
use Rattle.drn_expr.specs.Trees.{Negative, ◌>>=◌}
use Rattle.drn_expr.specs.Grammar.{most_nesting, Symbol, Parsed, value, factor, closed, literal_tree, name_tree}
use Rattle.drn_expr.specs.RatPolys.{OverOne}
use Rattle.drn_expr.specs.Parsing.{behind, Agrees, IsFactor, IsValue, IsClosed, IsOperand, opposite}
use Rattle.drn_expr.specs.declared.error.ExprError.{ExprError}
use Rattle.drn_expr.specs.declared.error.ExprError.TheVariants.{Memory, Syntax, Deep}
use Rattle.drn_expr.specs.declared.parse.Part.{Part}
use Rattle.drn_expr.proofs.Forms.{unary, paren}
use Rattle.drn_expr.proofs.Places.{none_left, shows}
use Rattle.drn_expr.proofs.Operands.{opposite_is}

-- the same symbols read alike
agrees_along : (text : List ℕ) (line : Line) (answer : Result Part ExprError) (p q : Parsed) → p ≡ q → Agrees text line answer q → Agrees text line answer p
agrees_along text line (Ok part) p q e h = (h.0, e ∙ h.1, h.2)
agrees_along text line (Err cause) p q e h = e ∙ h

-- a factor by its symbols
factor_by : (names : List (List ℕ)) (depth : ℕ) (text : List ℕ) (line : Line) (at : ℕ) (answer : Result Part ExprError) (s : List Symbol) → behind text line at ≡ s
    → ((n : ℕ) → 3 * length s ≤ n → Agrees text line answer (factor (suc n) names depth s)) → IsFactor names depth text line at answer
factor_by names depth text line at answer s e h zero low = absurd (omega arith)
factor_by names depth text line at answer s e h (suc n) low = agrees_along text line answer _ (factor (suc n) names depth s) (ap (factor (suc n) names depth) e) (h n (omega (arith, ap length e)))

pub factor_end : (names : List (List ℕ)) (depth : ℕ) (text : List ℕ) (line : Line) (at from : ℕ) → None ≡ first_symbol from (behind text line at) → IsFactor names depth text line at (Err Syntax)
unfolding value
factor_end names depth text line at from none = factor_by names depth text line at (Err Syntax) [] (none_left from (behind text line at) none) (λ n low. refl)

factor-minus : (names : List (List ℕ)) (depth n : ℕ) (bytes : List ℕ) (s : List Symbol) → factor (suc n) names depth (record { form = form.Minus; bytes = bytes } ∷ s) ≡ unary (factor n names (depth + 1) s) (depth == most_nesting)
unfolding value unary
factor-minus names depth n bytes s = refl

factor-left : (names : List (List ℕ)) (depth n : ℕ) (bytes : List ℕ) (s : List Symbol) → factor (suc n) names depth (record { form = form.Left; bytes = bytes } ∷ s) ≡ paren (value n names (depth + 1) s) (depth == most_nesting)
unfolding value paren
factor-left names depth n bytes s = refl

at_limit : (depth : ℕ) → depth ≡ most_nesting → (depth == most_nesting) ≡ true
at_limit depth e = grind (arith, nat_tests)

within_limit : (depth : ℕ) → depth < most_nesting → (depth == most_nesting) ≡ false
within_limit depth lt = grind (arith, nat_tests)

-- one more around the place
unary_inner : (names : List (List ℕ)) (depth d n : ℕ) (bytes : List ℕ) (s : List Symbol) → depth < most_nesting → d ≡ depth + 1
    → factor (suc n) names depth (record { form = form.Minus; bytes = bytes } ∷ s) ≡ (factor n names d s >>= (λ e. Ok (Negative e.0, e.1)))
unfolding unary
unary_inner names depth d n bytes s lt e =
    factor-minus names depth n bytes s ∙ ap (unary (factor n names (depth + 1) s)) (within_limit depth lt) ∙ ap (λ k. factor n names k s >>= (λ e. Ok (Negative e.0, e.1))) (sym e)

paren_inner : (names : List (List ℕ)) (depth d n : ℕ) (bytes : List ℕ) (s : List Symbol) → depth < most_nesting → d ≡ depth + 1
    → factor (suc n) names depth (record { form = form.Left; bytes = bytes } ∷ s) ≡ (value n names d s >>= (λ e. closed e.0 e.1))
unfolding paren
paren_inner names depth d n bytes s lt e =
    factor-left names depth n bytes s ∙ ap (paren (value n names (depth + 1) s)) (within_limit depth lt) ∙ ap (λ k. value n names k s >>= (λ e. closed e.0 e.1)) (sym e)

pub minus_deep : (names : List (List ℕ)) (depth : ℕ) (text : List ℕ) (line : Line) (at : ℕ) (symbol : lexer.Symbol) → IsNextSymbol text line at symbol → symbol.form ≡ form.Minus → depth ≡ most_nesting → IsFactor names depth text line at (Err Deep)
unfolding unary
minus_deep names depth text line at symbol next e deep =
    factor_by names depth text line at (Err Deep) _ (shows text line at symbol form.Minus next e)
    (λ n low. factor-minus names depth n _ _ ∙ ap (unary (factor n names (depth + 1) (behind text line symbol.to))) (at_limit depth deep))

pub left_deep : (names : List (List ℕ)) (depth : ℕ) (text : List ℕ) (line : Line) (at : ℕ) (symbol : lexer.Symbol) → IsNextSymbol text line at symbol → symbol.form ≡ form.Left → depth ≡ most_nesting → IsFactor names depth text line at (Err Deep)
unfolding paren
left_deep names depth text line at symbol next e deep =
    factor_by names depth text line at (Err Deep) _ (shows text line at symbol form.Left next e)
    (λ n low. factor-left names depth n _ _ ∙ ap (paren (value n names (depth + 1) (behind text line symbol.to))) (at_limit depth deep))

pub minus_fault : (names : List (List ℕ)) (depth d : ℕ) (text : List ℕ) (line : Line) (at : ℕ) (symbol : lexer.Symbol) (cause : ExprError) → IsNextSymbol text line at symbol → symbol.form ≡ form.Minus → depth < most_nesting → d ≡ depth + 1
    → IsFactor names d text line symbol.to (Err cause) → IsFactor names depth text line at (Err cause)
minus_fault names depth d text line at symbol cause next e lt more inner =
    factor_by names depth text line at (Err cause) _ (shows text line at symbol form.Minus next e)
    (λ n low. unary_inner names depth d n _ _ lt more ∙ ap (λ (p : Parsed). p >>= (λ e. Ok (Negative e.0, e.1))) (inner n (omega arith)))

pub minus_inner : (names : List (List ℕ)) (depth d : ℕ) (text : List ℕ) (line : Line) (at : ℕ) (symbol : lexer.Symbol) (part : Part) (worth : Result OverOne ExprError) → IsNextSymbol text line at symbol → symbol.form ≡ form.Minus → depth < most_nesting → d ≡ depth + 1
    → IsFactor names d text line symbol.to (Ok part) → (worth ≢ Err Memory → worth ≡ opposite part.value) → IsFactor names depth text line at (Ok (record { value = worth; to = part.to }))
minus_inner names depth d text line at symbol part worth next e lt more inner given =
    factor_by names depth text line at (Ok (record { value = worth; to = part.to })) _ (shows text line at symbol form.Minus next e)
    (λ n low. let found = inner n (omega arith) in (
      Negative found.0,
      unary_inner names depth d n _ _ lt more ∙ ap (λ (p : Parsed). p >>= (λ e. Ok (Negative e.0, e.1))) found.1,
      opposite_is worth part.value found.0 given found.2,
    ))

pub left_fault : (names : List (List ℕ)) (depth d : ℕ) (text : List ℕ) (line : Line) (at : ℕ) (symbol : lexer.Symbol) (cause : ExprError) → IsNextSymbol text line at symbol → symbol.form ≡ form.Left → depth < most_nesting → d ≡ depth + 1
    → IsValue names d text line symbol.to (Err cause) → IsFactor names depth text line at (Err cause)
left_fault names depth d text line at symbol cause next e lt more inner =
    factor_by names depth text line at (Err cause) _ (shows text line at symbol form.Left next e)
    (λ n low. paren_inner names depth d n _ _ lt more ∙ ap (λ (p : Parsed). p >>= (λ e. closed e.0 e.1)) (inner n (omega arith)))

pub left_open : (names : List (List ℕ)) (depth d : ℕ) (text : List ℕ) (line : Line) (at : ℕ) (symbol : lexer.Symbol) (part : Part) (cause : ExprError) → IsNextSymbol text line at symbol → symbol.form ≡ form.Left → depth < most_nesting → d ≡ depth + 1
    → IsValue names d text line symbol.to (Ok part) → IsClosed text line part.to (Err cause) → IsFactor names depth text line at (Err cause)
left_open names depth d text line at symbol part cause next e lt more inner close =
    factor_by names depth text line at (Err cause) _ (shows text line at symbol form.Left next e)
    (λ n low. let found = inner n (omega arith) in
    paren_inner names depth d n _ _ lt more ∙ ap (λ (p : Parsed). p >>= (λ e. closed e.0 e.1)) found.1 ∙ close found.0)

pub left_closed : (names : List (List ℕ)) (depth d : ℕ) (text : List ℕ) (line : Line) (at to : ℕ) (symbol : lexer.Symbol) (part : Part) → IsNextSymbol text line at symbol → symbol.form ≡ form.Left → depth < most_nesting → d ≡ depth + 1
    → IsValue names d text line symbol.to (Ok part) → IsClosed text line part.to (Ok to) → IsFactor names depth text line at (Ok (record { value = part.value; to = to }))
left_closed names depth d text line at to symbol part next e lt more inner close =
    factor_by names depth text line at (Ok (record { value = part.value; to = to })) _ (shows text line at symbol form.Left next e)
    (λ n low. let found = inner n (omega arith) in
    (found.0, paren_inner names depth d n _ _ lt more ∙ ap (λ (p : Parsed). p >>= (λ e. closed e.0 e.1)) found.1 ∙ close found.0, found.2))

-- an operand is a factor
operand_agrees : (text : List ℕ) (line : Line) (to : ℕ) (answer : Result Part ExprError) (tree : List Symbol → Parsed) → IsOperand to answer tree → Agrees text line answer (tree (behind text line to))
operand_agrees text line to (Ok part) tree h = (h.1, h.2 (behind text line to) ∙ ap (λ k. Ok (h.1, behind text line k)) (sym h.0), h.3)
operand_agrees text line to (Err cause) tree h = h (behind text line to)

factor-literal : (names : List (List ℕ)) (depth n : ℕ) (bytes : List ℕ) (s : List Symbol) → factor (suc n) names depth (record { form = form.Literal; bytes = bytes } ∷ s) ≡ literal_tree (reading bytes) s
unfolding value
factor-literal names depth n bytes s = refl

factor-name : (names : List (List ℕ)) (depth n : ℕ) (bytes : List ℕ) (s : List Symbol) → factor (suc n) names depth (record { form = form.Name; bytes = bytes } ∷ s) ≡ name_tree (position (bytes_eq bytes) names) s
unfolding value
factor-name names depth n bytes s = refl

pub literal_factor : (names : List (List ℕ)) (depth : ℕ) (text : List ℕ) (line : Line) (at : ℕ) (symbol : lexer.Symbol) (answer : Result Part ExprError) → IsNextSymbol text line at symbol → symbol.form ≡ form.Literal
    → IsOperand symbol.to answer (literal_tree (reading (slice_range text symbol.from symbol.to))) → IsFactor names depth text line at answer
literal_factor names depth text line at symbol answer next e h =
    factor_by names depth text line at answer _ (shows text line at symbol form.Literal next e)
    (λ n low. agrees_along text line answer _ _ (factor-literal names depth n _ _) (operand_agrees text line symbol.to answer _ h))

pub name_factor : (names : List (List ℕ)) (depth : ℕ) (text : List ℕ) (line : Line) (at : ℕ) (symbol : lexer.Symbol) (answer : Result Part ExprError) → IsNextSymbol text line at symbol → symbol.form ≡ form.Name
    → IsOperand symbol.to answer (name_tree (position (bytes_eq (slice_range text symbol.from symbol.to)) names)) → IsFactor names depth text line at answer
name_factor names depth text line at symbol answer next e h =
    factor_by names depth text line at answer _ (shows text line at symbol form.Name next e)
    (λ n low. agrees_along text line answer _ _ (factor-name names depth n _ _) (operand_agrees text line symbol.to answer _ h))

other_factor : (names : List (List ℕ)) (depth n : ℕ) (f : SymbolForm) (bytes : List ℕ) (s : List Symbol) → f ≢ form.Literal → f ≢ form.Name → f ≢ form.Minus → f ≢ form.Left
    → factor (suc n) names depth (record { form = f; bytes = bytes } ∷ s) ≡ Err Syntax
unfolding value
other_factor names depth n form.Literal bytes s a b c d = absurd (a refl)
other_factor names depth n form.Name bytes s a b c d = absurd (b refl)
other_factor names depth n form.Minus bytes s a b c d = absurd (c refl)
other_factor names depth n form.Left bytes s a b c d = absurd (d refl)
other_factor names depth n _ bytes s a b c d = refl

pub factor_other : (names : List (List ℕ)) (depth : ℕ) (text : List ℕ) (line : Line) (at : ℕ) (symbol : lexer.Symbol) → IsNextSymbol text line at symbol
    → symbol.form ≢ form.Literal → symbol.form ≢ form.Name → symbol.form ≢ form.Minus → symbol.form ≢ form.Left → IsFactor names depth text line at (Err Syntax)
factor_other names depth text line at symbol next a b c d =
    factor_by names depth text line at (Err Syntax) _ (shows text line at symbol symbol.form next refl) (λ n low. other_factor names depth n symbol.form _ _ a b c d)
