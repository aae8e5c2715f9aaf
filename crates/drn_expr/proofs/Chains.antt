-- Operands that are joined from the left: terms of factors, and values of terms.
use Rattle.std.proofs.Common.{◌≡◌, ◌≢◌, ◌+◌, ◌*◌, ◌≤◌, ℕ, zero, suc, refl, List, [], ◌∷◌, Option, Result, Ok, Err, sym, ap, ◌∙◌, arith}
use Rattle.drn_lexer.specs.declared.line.Line.{Line}
use Rattle.drn_lexer.specs.declared.symbol.SymbolForm.{SymbolForm}
use Rattle.drn_expr.specs.Trees.{Expr, ◌>>=◌}
use Rattle.drn_expr.specs.Grammar.{Symbol, Parsed, value, term, factor, more, joins_terms, joins_factors}
use Rattle.drn_expr.specs.RatPolys.{OverOne}
use Rattle.drn_expr.specs.Parsing.{behind, left, IsFurther, Agrees, IsExpansion, IsStop, IsStart, joined, combined}
use Rattle.drn_expr.specs.declared.error.ExprError.{ExprError}
use Rattle.drn_expr.specs.declared.error.ExprError.TheVariants.{Memory}
use Rattle.drn_expr.specs.declared.parse.Operation.{Operation}
use Rattle.drn_expr.specs.declared.parse.Part.{Part}
use Rattle.drn_expr.proofs.Forms.{more_by, more-is}
use Rattle.drn_expr.proofs.Operands.{combined_is}

abbrev Reader : Type 0
Reader = ℕ → List Symbol → Parsed

-- what joins operands
abbrev Joins : Type 0
Joins = SymbolForm → Option (Expr → Expr → Expr)

-- how the grammar reads a whole of joined operands: one operand and more
abbrev pub IsChain : Joins → Reader → Reader → Type 0
IsChain joins operand whole = (n : ℕ) (s : List Symbol) → whole (suc n) s ≡ (operand n s >>= (λ a. more joins (operand n) n a.0 a.1))

more_stops : (joins : Joins) (operand : List Symbol → Parsed) (n : ℕ) (e : Expr) (s : List Symbol) → IsStop joins s → more joins operand (suc n) e s ≡ Ok (e, s)
unfolding more_by
more_stops joins operand n e [] h = refl
more_stops joins operand n e (x ∷ s) h = more-is joins operand n e x s ∙ ap (more_by e x s (λ join. operand s >>= (λ b. more joins operand n (join e b.0) b.1))) h

more_goes : (joins : Joins) (operand : List Symbol → Parsed) (n : ℕ) (e : Expr) (s rest : List Symbol) (join : Expr → Expr → Expr) → IsStart joins s join rest
    → more joins operand (suc n) e s ≡ (operand rest >>= (λ b. more joins operand n (join e b.0) b.1))
unfolding more_by
more_goes joins operand n e [] rest join h = absurd h
more_goes joins operand n e (x ∷ s) rest join h =
    more-is joins operand n e x s ∙ ap (more_by e x s (λ join. operand s >>= (λ b. more joins operand n (join e b.0) b.1))) h.0 ∙ ap (λ t. operand t >>= (λ b. more joins operand n (join e b.0) b.1)) h.1

-- what was read so far: the whole is this expression and more
abbrev pub IsBegun : ℕ → Joins → Reader → Reader → List ℕ → Line → ℕ → Part → Type 0
IsBegun k joins operand whole text line at part =
    (n : ℕ) → 3 * left text line at + k ≤ suc n
    → (m : ℕ) × (e : Expr) × (3 * left text line part.to + 1 ≤ m) × (whole (suc n) (behind text line at) ≡ more joins (operand n) m e (behind text line part.to)) × IsExpansion part.value e

-- an answer for an operand or for a whole
abbrev pub Reads : ℕ → Reader → List ℕ → Line → ℕ → Result Part ExprError → Type 0
Reads k reader text line at answer = (n : ℕ) → 3 * left text line at + k ≤ n → Agrees text line answer (reader n (behind text line at))

module _ (k : ℕ) (joins : Joins) (operand whole : Reader) (chain : IsChain joins operand whole) (text : List ℕ) (line : Line) (at : ℕ) where
  pub chain_begin : (part : Part) → 1 ≤ k → IsFurther text line at part.to → Reads k operand text line at (Ok part) → IsBegun (k + 1) joins operand whole text line at part
  chain_begin part some next first n low =
      let found = first n (omega (arith, low)) in
      (n, found.0, omega (arith, low, next.fewer), chain n (behind text line at) ∙ ap (λ (p : Parsed). p >>= (λ a. more joins (operand n) n a.0 a.1)) found.1, found.2)

  pub chain_begin_fault : (cause : ExprError) → Reads k operand text line at (Err cause) → Reads (k + 1) whole text line at (Err cause)
  chain_begin_fault cause first zero low = absurd (omega (arith, low))
  chain_begin_fault cause first (suc n) low = chain n (behind text line at) ∙ ap (λ (p : Parsed). p >>= (λ a. more joins (operand n) n a.0 a.1)) (first n (omega (arith, low)))

  module _ (part : Part) (begun : IsBegun (k + 1) joins operand whole text line at part) where
    pub chain_end : IsStop joins (behind text line part.to) → Reads (k + 1) whole text line at (Ok part)
    chain_end stop zero low = absurd (omega (arith, low))
    chain_end stop (suc n) low = by_number (begun n low).0 refl
      where
        by_number : (m : ℕ) → m ≡ (begun n low).0 → Agrees text line (Ok part) (whole (suc n) (behind text line at))
        by_number zero e = absurd (omega (arith, e, (begun n low).2))
        by_number (suc m) e =
            let found = begun n low in
            (found.1, found.3 ∙ ap (λ i. more joins (operand n) i found.1 (behind text line part.to)) (sym e) ∙ more_stops joins (operand n) m found.1 (behind text line part.to) stop, found.4)

    module _ (to : ℕ) (operation : Operation) (before : IsFurther text line at part.to) (start : IsStart joins (behind text line part.to) (joined operation) (behind text line to)) (next : IsFurther text line part.to to) where
      pub chain_more : (right : Part) (value : Result OverOne ExprError) → Reads k operand text line to (Ok right) → IsFurther text line to right.to → (value ≢ Err Memory → value ≡ combined operation part.value right.value)
          → IsBegun (k + 1) joins operand whole text line at (record { value = value; to = right.to })
      chain_more right value second after given n low = by_number (begun n low).0 refl
        where
          by_number : (m : ℕ) → m ≡ (begun n low).0
              → (m : ℕ) × (e : Expr) × (3 * left text line right.to + 1 ≤ m) × (whole (suc n) (behind text line at) ≡ more joins (operand n) m e (behind text line right.to)) × IsExpansion value e
          by_number zero e = absurd (omega (arith, e, (begun n low).2))
          by_number (suc m) e =
              let found = begun n low in
              let other = second n (omega (arith, low, before.fewer, next.fewer)) in (
                m,
                joined operation found.1 other.0,
                omega (arith, e, found.2, next.fewer, after.fewer),
                found.3 ∙ ap (λ i. more joins (operand n) i found.1 (behind text line part.to)) (sym e) ∙ more_goes joins (operand n) m found.1 (behind text line part.to) (behind text line to) (joined operation) start
                    ∙ ap (λ (p : Parsed). p >>= (λ b. more joins (operand n) m (joined operation found.1 b.0) b.1)) other.1,
                combined_is operation value part.value right.value found.1 other.0 given found.4 other.2,
              )

      pub chain_fault : (cause : ExprError) → Reads k operand text line to (Err cause) → Reads (k + 1) whole text line at (Err cause)
      chain_fault cause second zero low = absurd (omega (arith, low))
      chain_fault cause second (suc n) low = by_number (begun n low).0 refl
        where
          by_number : (m : ℕ) → m ≡ (begun n low).0 → whole (suc n) (behind text line at) ≡ Err cause
          by_number zero e = absurd (omega (arith, e, (begun n low).2))
          by_number (suc m) e =
              let found = begun n low in
              found.3 ∙ ap (λ i. more joins (operand n) i found.1 (behind text line part.to)) (sym e) ∙ more_goes joins (operand n) m found.1 (behind text line part.to) (behind text line to) (joined operation) start
              ∙ ap (λ (p : Parsed). p >>= (λ b. more joins (operand n) m (joined operation found.1 b.0) b.1)) (second n (omega (arith, low, before.fewer, next.fewer)))

-- ---- terms and values

pub factors_chain : (names : List (List ℕ)) (depth : ℕ) → IsChain joins_factors (λ n. factor n names depth) (λ n. term n names depth)
unfolding value
factors_chain names depth n s = refl

pub terms_chain : (names : List (List ℕ)) (depth : ℕ) → IsChain joins_terms (λ n. term n names depth) (λ n. value n names depth)
unfolding value
terms_chain names depth n s = refl
