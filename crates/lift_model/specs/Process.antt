-- The textbook's Markov decision process, with whole weights over one total in place of fractions. Nothing here knows of a parameter, a corner or a certificate.
use Rattle.std.specs.Prelude.{ℕ, zero, suc, Bool, List, [], ◌∷◌, ℤ, pos, ◌+ℤ◌, ◌*ℤ◌}

-- a transition: its target and its weight
abbrev pub Move : Type 0
Move = ℕ × ℤ

-- Which states are goal states, and the choices of each state. The probability of a transition is its weight over the total.
pub record Process : Type 0 where
  pub goal : ℕ → Bool
  pub choices : ℕ → List (List Move)
  pub total : ℤ

-- the n-th power
abbrev pub power : ℤ → ℕ → ℤ
power b zero = pos 1
power b (suc n) = b *ℤ power b n

-- the sum over the moves of a choice of the weight times the target's number: the expected number, times the total
abbrev pub weighted_sum : (ℕ → ℤ) → List Move → ℤ
weighted_sum number [] = pos 0
weighted_sum number (move ∷ moves) = move.1 *ℤ number move.0 +ℤ weighted_sum number moves
