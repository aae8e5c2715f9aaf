-- The tree that was read is written by the symbols.
use Rattle.std.proofs.Common.{◌≡◌, ℕ, zero, suc, ◌+◌, ◌*◌, ◌==◌, Bool, true, false, refl, List, [], ◌∷◌, ◌++◌, length, sym, ap, subst, ◌∙◌, Option, Some, None, Result, Ok, Err, append_assoc}
use Rattle.std.specs.Prelude.{position}
use Rattle.std.specs.Str.{bytes_eq}
use Rattle.std.proofs.lemmas.List.{append-nil}
use Rattle.lift_frac.specs.Ratio.{Ratio}
use Rattle.lift_frac.specs.Literal.{reading}
use Rattle.lift_frac.specs.declared.error.FracError.{FracError}
use Rattle.drn_lexer.specs.declared.symbol.SymbolForm.{SymbolForm}
use Rattle.drn_lexer.specs.declared.symbol.SymbolForm.TheVariants as form
use Rattle.drn_expr.specs.Trees.{Expr, Sum, Difference, Product, Quotient, Negative, ◌>>=◌}
use Rattle.drn_expr.specs.Grammar.{most_nesting, Symbol, Parsed, value, term, factor, more, joins_terms, joins_factors, closed, ended, tree, literal_tree, name_tree}
use Rattle.drn_expr.specs.Rules.{Kind, Value, Term, Factor, symbol, Writes, one_term, add, subtract, one_factor, multiply, divide, negate, enclose, literal, name}
use Rattle.drn_expr.proofs.Forms.{unary, paren, factor_by, factor-is, more_by, more-is}

-- a part at the front of symbols that writes a tree, and what stands behind it
record Front (names : List (List ℕ)) (kind : Kind) (s rest : List Symbol) (e : Expr) : Type 0 where
  front : List Symbol
  is : s ≡ front ++ rest
  writes : Writes names kind front e

Fronts : List (List ℕ) → Kind → List Symbol → Parsed → Type 0
Fronts names kind s (Ok r) = Front names kind s r.1 r.0
Fronts names kind s (Err c) = Unit {0}

bind_front : (names : List (List ℕ)) (kind outer : Kind) (s whole : List Symbol) (p : Parsed) (f : Expr × List Symbol → Parsed) → Fronts names kind s p
    → ((r : Expr × List Symbol) → Front names kind s r.1 r.0 → Fronts names outer whole (f r)) → Fronts names outer whole (p >>= f)
unfolding Fronts
bind_front names kind outer s whole (Ok r) f h g = g r h
bind_front names kind outer s whole (Err c) f h g = tt

-- ---- factors

negated_front : (names : List (List ℕ)) (s rest bytes_rest : List Symbol) (bytes : List ℕ) (e : Expr) → Front names Factor s rest e → Front names Factor (symbol form.Minus bytes ∷ s) rest (Negative e)
negated_front names s rest bytes_rest bytes e h = record { front = symbol form.Minus bytes ∷ h.front; is = ap (λ t. symbol form.Minus bytes ∷ t) h.is; writes = negate h.front e bytes h.writes }

closed_form : (names : List (List ℕ)) (s rest : List Symbol) (bytes close_bytes : List ℕ) (e : Expr) (f : SymbolForm) → Front names Value s (symbol f close_bytes ∷ rest) e
    → Fronts names Factor (symbol form.Left bytes ∷ s) (closed e (symbol f close_bytes ∷ rest))
unfolding Fronts
closed_form names s rest bytes close_bytes e form.Right h = record {
  front = symbol form.Left bytes ∷ (h.front ++ symbol form.Right close_bytes ∷ []);
  is = ap (λ t. symbol form.Left bytes ∷ t) (h.is ∙ sym (append_assoc h.front (symbol form.Right close_bytes ∷ []) rest));
  writes = enclose h.front e bytes close_bytes h.writes;
}
closed_form names s rest bytes close_bytes e _ h = tt

closed_front : (names : List (List ℕ)) (s rest : List Symbol) (bytes : List ℕ) (e : Expr) → Front names Value s rest e → Fronts names Factor (symbol form.Left bytes ∷ s) (closed e rest)
unfolding Fronts
closed_front names s [] bytes e h = tt
closed_front names s (x ∷ rest) bytes e h = closed_form names s rest bytes x.bytes e x.form h

unary_front : (names : List (List ℕ)) (s : List Symbol) (bytes : List ℕ) (p : Parsed) (b : Bool) → Fronts names Factor s p → Fronts names Factor (symbol form.Minus bytes ∷ s) (unary p b)
unfolding Fronts unary
unary_front names s bytes p true h = tt
unary_front names s bytes p false h = bind_front names Factor Factor s _ p (λ e. Ok (Negative e.0, e.1)) h (λ r f. negated_front names s r.1 [] bytes r.0 f)

paren_front : (names : List (List ℕ)) (s : List Symbol) (bytes : List ℕ) (p : Parsed) (b : Bool) → Fronts names Value s p → Fronts names Factor (symbol form.Left bytes ∷ s) (paren p b)
unfolding Fronts paren
paren_front names s bytes p true h = tt
paren_front names s bytes p false h = bind_front names Value Factor s _ p (λ e. closed e.0 e.1) h (λ r f. closed_front names s r.1 bytes r.0 f)

literal_front : (names : List (List ℕ)) (s : List Symbol) (bytes : List ℕ) (o : Result Ratio FracError) → reading bytes ≡ o → Fronts names Factor (symbol form.Literal bytes ∷ s) (literal_tree o s)
unfolding Fronts
literal_front names s bytes (Err c) e = tt
literal_front names s bytes (Ok q) e = record { front = symbol form.Literal bytes ∷ []; is = refl; writes = literal bytes q e }

name_front : (names : List (List ℕ)) (s : List Symbol) (bytes : List ℕ) (o : Option ℕ) → position (bytes_eq bytes) names ≡ o → Fronts names Factor (symbol form.Name bytes ∷ s) (name_tree o s)
unfolding Fronts
name_front names s bytes None e = tt
name_front names s bytes (Some i) e = record { front = symbol form.Name bytes ∷ []; is = refl; writes = name bytes i e }

factor_form : (names : List (List ℕ)) (s : List Symbol) (bytes : List ℕ) (inner whole : Parsed) (depth : ℕ) (f : SymbolForm) → Fronts names Factor s inner → Fronts names Value s whole
    → Fronts names Factor (symbol f bytes ∷ s) (factor_by inner whole (literal_tree (reading bytes) s) (name_tree (position (bytes_eq bytes) names) s) depth f)
unfolding Fronts factor_by
factor_form names s bytes inner whole depth form.Minus a b = unary_front names s bytes inner (depth == most_nesting) a
factor_form names s bytes inner whole depth form.Left a b = paren_front names s bytes whole (depth == most_nesting) b
factor_form names s bytes inner whole depth form.Literal a b = literal_front names s bytes (reading bytes) refl
factor_form names s bytes inner whole depth form.Name a b = name_front names s bytes (position (bytes_eq bytes) names) refl
factor_form names s bytes inner whole depth _ a b = tt

-- ---- operators

terms_form : (names : List (List ℕ)) (whole before s : List Symbol) (e : Expr) (f : SymbolForm) (bytes : List ℕ) (goes : (Expr → Expr → Expr) → Parsed) → Writes names Value before e → whole ≡ before ++ symbol f bytes ∷ s
    → ((join : Expr → Expr → Expr) → ((r : List Symbol) (b : Expr) → Writes names Term r b → Writes names Value (before ++ symbol f bytes ∷ r) (join e b)) → Fronts names Value whole (goes join))
    → Fronts names Value whole (more_by e (symbol f bytes) s goes (joins_terms f))
unfolding Fronts more_by
terms_form names whole before s e form.Plus bytes goes w is more = more Sum (λ r b v. add before r e b bytes w v)
terms_form names whole before s e form.Minus bytes goes w is more = more Difference (λ r b v. subtract before r e b bytes w v)
terms_form names whole before s e _ bytes goes w is more = record { front = before; is = is; writes = w }

factors_form : (names : List (List ℕ)) (whole before s : List Symbol) (e : Expr) (f : SymbolForm) (bytes : List ℕ) (goes : (Expr → Expr → Expr) → Parsed) → Writes names Term before e → whole ≡ before ++ symbol f bytes ∷ s
    → ((join : Expr → Expr → Expr) → ((r : List Symbol) (b : Expr) → Writes names Factor r b → Writes names Term (before ++ symbol f bytes ∷ r) (join e b)) → Fronts names Term whole (goes join))
    → Fronts names Term whole (more_by e (symbol f bytes) s goes (joins_factors f))
unfolding Fronts more_by
factors_form names whole before s e form.Times bytes goes w is more = more Product (λ r b v. multiply before r e b bytes w v)
factors_form names whole before s e form.Over bytes goes w is more = more Quotient (λ r b v. divide before r e b bytes w v)
factors_form names whole before s e _ bytes goes w is more = record { front = before; is = is; writes = w }

-- what was read before an operator, the operator and its right operand
longer : (whole before s front rest : List Symbol) (x : Symbol) → whole ≡ before ++ x ∷ s → s ≡ front ++ rest → whole ≡ (before ++ x ∷ front) ++ rest
longer whole before s front rest x e f = e ∙ ap (λ t. before ++ x ∷ t) f ∙ sym (append_assoc before (x ∷ front) rest)

more_front : (names : List (List ℕ)) (kind part : Kind) (joins : SymbolForm → Option (Expr → Expr → Expr)) (operand : List Symbol → Parsed)
    → ((whole before s : List Symbol) (e : Expr) (f : SymbolForm) (bytes : List ℕ) (goes : (Expr → Expr → Expr) → Parsed) → Writes names kind before e → whole ≡ before ++ symbol f bytes ∷ s
    → ((join : Expr → Expr → Expr) → ((r : List Symbol) (b : Expr) → Writes names part r b → Writes names kind (before ++ symbol f bytes ∷ r) (join e b)) → Fronts names kind whole (goes join))
    → Fronts names kind whole (more_by e (symbol f bytes) s goes (joins f)))
    → ((s : List Symbol) → Fronts names part s (operand s)) → (n : ℕ) (e : Expr) (s whole before : List Symbol) → Writes names kind before e → whole ≡ before ++ s → Fronts names kind whole (more joins operand n e s)
unfolding Fronts
more_front names kind part joins operand form each zero e s whole before w is = tt
more_front names kind part joins operand form each (suc n) e [] whole before w is = record { front = before; is = is; writes = w }
more_front names kind part joins operand form each (suc n) e (x ∷ s) whole before w is =
    subst (Fronts names kind whole) (sym (more-is joins operand n e x s))
    (form whole before s e x.form x.bytes _ w is
    (λ join joint. bind_front names part kind s whole (operand s) (λ b. more joins operand n (join e b.0) b.1) (each s)
    (λ r f. more_front names kind part joins operand form each n (join e r.0) r.1 whole (before ++ x ∷ f.front) (joint f.front r.0 f.writes) (longer whole before s f.front r.1 x is f.is))))

mutual
  unfolding value Fronts

  value_front : (n : ℕ) (names : List (List ℕ)) (depth : ℕ) (s : List Symbol) → Fronts names Value s (value n names depth s)
  value_front zero names depth s = tt
  value_front (suc n) names depth s =
      bind_front names Term Value s s (term n names depth s) (λ a. more joins_terms (term n names depth) n a.0 a.1) (term_front n names depth s)
      (λ r f. more_front names Value Term joins_terms (term n names depth) (terms_form names) (λ t. term_front n names depth t) n r.0 r.1 s f.front (one_term f.front r.0 f.writes) f.is)

  term_front : (n : ℕ) (names : List (List ℕ)) (depth : ℕ) (s : List Symbol) → Fronts names Term s (term n names depth s)
  term_front zero names depth s = tt
  term_front (suc n) names depth s =
      bind_front names Factor Term s s (factor n names depth s) (λ a. more joins_factors (factor n names depth) n a.0 a.1) (factor_front n names depth s)
      (λ r f. more_front names Term Factor joins_factors (factor n names depth) (factors_form names) (λ t. factor_front n names depth t) n r.0 r.1 s f.front (one_factor f.front r.0 f.writes) f.is)

  factor_front : (n : ℕ) (names : List (List ℕ)) (depth : ℕ) (s : List Symbol) → Fronts names Factor s (factor n names depth s)
  factor_front zero names depth s = tt
  factor_front (suc n) names depth [] = tt
  factor_front (suc n) names depth (x ∷ s) =
      subst (Fronts names Factor (x ∷ s)) (sym (factor-is n names depth x s))
      (factor_form names s x.bytes _ _ depth x.form (factor_front n names (depth + 1) s) (value_front n names (depth + 1) s))

ended_front : (names : List (List ℕ)) (s rest : List Symbol) (a e : Expr) → Front names Value s rest a → ended a rest ≡ Ok e → Writes names Value s e
ended_front names s [] a e h is =
    let same : a ≡ e = cc in
    subst (λ t. Writes names Value s t) same (subst (λ t. Writes names Value t a) (sym (h.is ∙ append-nil h.front)) h.writes)
ended_front names s (x ∷ rest) a e h is = cc

whole_front : (names : List (List ℕ)) (s : List Symbol) (p : Parsed) (e : Expr) → Fronts names Value s p → (p >>= (λ a. ended a.0 a.1)) ≡ Ok e → Writes names Value s e
unfolding Fronts
whole_front names s (Ok r) e h is = ended_front names s r.1 r.0 e h is
whole_front names s (Err c) e h is = cc

-- a tree that was read is written by the symbols
pub tree_written : (names : List (List ℕ)) (s : List Symbol) (e : Expr) → tree names s ≡ Ok e → Writes names Value s e
tree_written names s e h = whole_front names s (value (4 * length s + 4) names 0 s) e (value_front (4 * length s + 4) names 0 s) h
