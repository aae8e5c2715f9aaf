-- Answers of tests, and what they say.
use Rattle.std.proofs.Common.{◌≡◌, Bool, true, false, refl, IsTrue, Result, Ok, Err}
use Rattle.std.specs.Prelude.{◌↔◌, MatchResult}

-- no, where a test fails that a yes needs
pub refused : {P Q : Type 0} (b : Bool) → IsTrue b ↔ P → b ≡ false → (Q → P) → IsTrue false ↔ Q
refused b test isnt needs = (λ wrong. absurd (cc wrong), λ q. let is = test.1 (needs q) in absurd (cc (isnt, is)))

-- no, where what a yes says is wrong
pub denied : {Q : Type 0} → (Q → ⊥) → IsTrue false ↔ Q
denied wrong = (λ is. absurd (cc is), λ q. absurd (wrong q))

-- yes, where all is known
pub granted : {Q : Type 0} → Q → IsTrue true ↔ Q
granted q = (λ is. q, λ is. refl)

-- what says the same may stand in its place
pub in_place : {P Q : Type 0} (b : Bool) → IsTrue b ↔ P → (P → Q) → (Q → P) → IsTrue b ↔ Q
in_place b test into out = (λ is. into (test.0 is), λ q. test.1 (out q))

-- one after the other
pub chained : {P Q R : Type 0} → P ↔ Q → Q ↔ R → P ↔ R
chained f g = (λ p. g.0 (f.0 p), λ r. f.1 (g.1 r))

-- what an Ok says more
pub in_result : {T E : Type 0} {P Q : Type 0} (F : E → Type 0) (r : Result T E) → (P → Q) → MatchResult r (λ u. P) F → MatchResult r (λ u. Q) F
in_result F (Ok u) more h = more h
in_result F (Err e) more h = h
