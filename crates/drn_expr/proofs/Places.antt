-- Symbols one by one, from a place of a line on.
use Rattle.std.proofs.Common.{◌≡◌, ◌+◌, ◌<◌, ◌≤◌, ℕ, true, false, refl, List, [], ◌∷◌, length, None, ap, ◌∙◌, arith}
use Rattle.std.specs.Prelude.{nat_lt, slice_range}
use Rattle.std.proofs.lemmas.Bool.Decides.{nat_tests}
use Rattle.drn_lexer.specs.Spans.{IsOn, IsNextSymbol, first_symbol}
use Rattle.drn_lexer.specs.declared.line.Line.{Line}
use Rattle.drn_lexer.specs.declared.symbol.Symbol as lexer
use Rattle.drn_lexer.specs.declared.symbol.SymbolForm.{SymbolForm}
use Rattle.drn_expr.specs.Grammar.{most_symbols, Symbol}
use Rattle.drn_expr.specs.Parsing.{behind, left, IsFurther}

-- no symbol is left
pub none_left : (from : ℕ) (s : List Symbol) → None ≡ first_symbol from s → s ≡ []
none_left from [] h = refl
none_left from (x ∷ s) h = cc

pub further : (text : List ℕ) (line : Line) (at : ℕ) (symbol : lexer.Symbol) → IsOn at line → IsNextSymbol text line at symbol → IsFurther text line at symbol.to
further text line at symbol on next = record {
  on = record { from = omega (arith, on.from, next.behind, next.some); to = next.within };
  fewer = omega (arith, ap length next.first);
}

pub further_still : (text : List ℕ) (line : Line) (at mid to : ℕ) → IsFurther text line at mid → IsFurther text line mid to → IsFurther text line at to
further_still text line at mid to h k = record { on = k.on; fewer = omega (arith, h.fewer, k.fewer) }

-- the symbols from a place on, by the next one's form
pub shows : (text : List ℕ) (line : Line) (at : ℕ) (symbol : lexer.Symbol) (f : SymbolForm) → IsNextSymbol text line at symbol → symbol.form ≡ f
    → behind text line at ≡ record { form = f; bytes = slice_range text symbol.from symbol.to } ∷ behind text line symbol.to
shows text line at symbol f next e =
    next.first ∙ ap (λ (g : SymbolForm). let x : Symbol = record { form = g; bytes = slice_range text symbol.from symbol.to } in x ∷ behind text line symbol.to) e

-- ---- counting

pub counted : (text : List ℕ) (line : Line) (from at seen : ℕ) (symbol : lexer.Symbol) → seen + left text line at ≡ left text line from → IsNextSymbol text line at symbol → seen + 1 + left text line symbol.to ≡ left text line from
counted text line from at seen symbol h next = omega (arith, h, ap length next.first)

pub all_counted : (text : List ℕ) (line : Line) (from at seen : ℕ) (place : ℕ) → seen + left text line at ≡ left text line from → None ≡ first_symbol place (behind text line at) → seen ≤ most_symbols → false ≡ nat_lt most_symbols (left text line from)
all_counted text line from at seen place h none le =
    let few : left text line from ≤ most_symbols = omega (arith, h, ap length (none_left place (behind text line at) none)) in grind (arith, nat_tests)

pub too_many : (text : List ℕ) (line : Line) (from at seen : ℕ) (symbol : lexer.Symbol) → seen + left text line at ≡ left text line from → IsNextSymbol text line at symbol → seen ≡ most_symbols → true ≡ nat_lt most_symbols (left text line from)
too_many text line from at seen symbol h next e =
    let many : most_symbols < left text line from = omega (arith, h, ap length next.first) in grind (arith, nat_tests)
