-- A whole value is worth what its tree means.
use Rattle.std.proofs.Common.{◌≡◌, ℕ, ◌+◌, ◌*◌, List, length, Bool, true, false, cond, Result, Ok, Err, IfOk, sym, ap, subst, ◌∙◌, arith}
use Rattle.std.specs.Prelude.{nat_lt, slice_range}
use Rattle.drn_expr.specs.Laws.{ReadingIsWorth}
use Rattle.drn_lexer.specs.Symbols.{symbols}
use Rattle.drn_lexer.specs.declared.line.Line.{Line}
use Rattle.drn_expr.specs.Trees.{Expr, ◌>>=◌}
use Rattle.drn_expr.specs.Grammar.{most_symbols, Parsed, tree, ended}
use Rattle.drn_expr.specs.RatPolys.{OverOne}
use Rattle.drn_expr.specs.Parsing.{behind, left, IsValue}
use Rattle.drn_expr.specs.Values.{reading, IsWorth}
use Rattle.drn_expr.specs.Expansion.{expansion}
use Rattle.drn_expr.specs.declared.error.ExprError.TheVariants.{Long}
use Rattle.drn_expr.specs.declared.error.ExprError.{ExprError}
use Rattle.drn_expr.proofs.Fitting.{Fits, tree_fits}
use Rattle.drn_expr.proofs.Meanings.{bind_ok, expands}
use Rattle.drn_expr.proofs.Premises.{Premises}
use Rattle.drn_expr.proofs.Written.{tree_written}

-- a tree and its expansion
tree_worth : Premises → (names : List (List ℕ)) (text : List ℕ) (e : Expr) (p : OverOne) → tree names (symbols text) ≡ Ok e → expansion e ≡ Ok p → IsWorth names text p
tree_worth laws names text e p read expanded = record {
  expression = e;
  read = read;
  written = tree_written names (symbols text) e read;
  worth = λ v is. expands laws v e p is.positive (subst (λ n. Fits n e) (sym is.each) (tree_fits laws.fractions names (symbols text) e read)) expanded;
}

-- a text that reads as a value
pub reading_worth : Premises → (names : List (List ℕ)) (text : List ℕ) (p : OverOne) → reading names text ≡ Ok p → IsWorth names text p
reading_worth laws names text p e = by_length (nat_lt most_symbols (length (symbols text))) e
  where
    by_length : (long : Bool) → cond long (Err Long) (tree names (symbols text) >>= expansion) ≡ Ok p → IsWorth names text p
    by_length true e = cc
    by_length false e =
        let read = bind_ok (tree names (symbols text)) expansion p e in
        tree_worth laws names text read.0 p read.1 read.2

-- where a value isn't too long, its tree and that tree's expansion are read
pub whole_worth : ReadingIsWorth → (names : List (List ℕ)) (text : List ℕ) (line : Line) (from : ℕ) (worth : Result OverOne ExprError) (to : ℕ) → false ≡ nat_lt most_symbols (left text line from)
    → IsValue names 0 text line from (Ok (record { value = worth; to = to })) → ((e : Expr) → ended e (behind text line to) ≡ Ok e) → IfOk worth (IsWorth names (slice_range text from line.to))
whole_worth law names text line from (Err cause) to short h end = tt
whole_worth law names text line from (Ok p) to short h end =
    let found = h (4 * left text line from + 4) (omega arith) in
    let read = ap (λ (r : Parsed). r >>= (λ e. ended e.0 e.1)) found.1 ∙ end found.0 in
    let rest = tree names (behind text line from) >>= expansion in
    law names (slice_range text from line.to) p
    (sym (ap (λ long. cond long (Err Long) rest) short) ∙ ap (λ (t : Result Expr ExprError). t >>= expansion) read ∙ sym (found.2 (λ e. cc)))
