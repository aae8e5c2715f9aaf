use Rattle.std.proofs.Common.{◌≡◌, ℕ, ◌<◌, ◌^◌, pos, ◌≤ℤ◌, true}
use Rattle.corner_lift.specs.Case.{number}
use Rattle.float_guess.specs.Rule.{is_given, given}
use Rattle.rounded_iter.proofs.table.Table.lessen_guess.Given as goal

-- the states below s have numbers of a guess
abbrev pub invariant-loop-s : goal.invariant-loop-s
invariant-loop-s l = (i : ℕ) → i < l.s → (is_given l.self.case.model l.self.rule.ends i ≡ true → number l.lane i ≡ given l.self.case l.self.rule.ends i) × ((pos 0 ≤ℤ number l.lane i) × (number l.lane i ≤ℤ pos (2 ^ l.self.case.w)))
