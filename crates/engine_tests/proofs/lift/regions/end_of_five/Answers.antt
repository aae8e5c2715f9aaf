use Rattle.std.proofs.Common.{◌≡◌, ◌≤◌, ◌<◌, ◌/◌, ◌^◌, ℕ, ⊎_elim, arith, IsBitSet, bit_and}
use Rattle.std.specs.Int.Count.{ones}
use Rattle.std.proofs.Math.Nat.{div-eq_of_lt}
use Rattle.std.proofs.Math.Pow.{pow_mono}
use Rattle.std.proofs.lemmas.Bool.{cases_lt}
use Rattle.std.proofs.lemmas.Nat.{bit_set_by_shift}
use Rattle.engine_tests.proofs.lift.regions.end_of_five.Goals as goal

-- 5 has no bit from the third on
no_more : (i : ℕ) → 3 ≤ i → IsBitSet 5 i → ⊥
no_more i far bit =
    let none : 5 / 2 ^ i ≡ 0 = div-eq_of_lt (omega (arith, pow_mono far)) in
    let one : bit_and 0 1 ≡ 1 = rw none at (bit_set_by_shift 5 i).1 bit in
    cc

pub corner_side-requires-clause-pairs : goal.corner_side-requires-clause-pairs
corner_side-requires-clause-pairs c = λ i bit. ⊎_elim (λ (below : i < 3). omega arith) (λ (far : 3 ≤ i). absurd (no_more i far bit)) (cases_lt i 3)

pub corner_side-requires-clause-corner : goal.corner_side-requires-clause-corner
unfolding ones
corner_side-requires-clause-corner c = c.requires.corner
