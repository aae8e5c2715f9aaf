use Rattle.std.proofs.Common.{rules}
use Rattle.std.proofs.lemmas.List.Sorted.{IsNonDecreasingBy-from_sort_by_key, IsPermutation-sym}
use Rattle.lift_lump.specs.declared.touch.Touched.{Touched}
use Rattle.lift_lump.specs.Renaming.{no_touched}
use Rattle.lift_lump.proofs.Touching.{gathered_sorted, stands_back}
use Rattle.lift_lump.proofs.touch.sort.Goals as goal

pub returns-clause-sorted : goal.returns-clause-sorted
returns-clause-sorted c = λ i j le lt. IsNonDecreasingBy-from_sort_by_key (λ (t : Touched). t.key) _ c.sort_unstable_by_key.ensures.sorted (λ a r q k. search rules) i j no_touched le lt

pub returns-clause-same : goal.returns-clause-same
returns-clause-same c = gathered_sorted _ _ c.sort_unstable_by_key.ensures.permutation (IsPermutation-sym _ _ c.sort_unstable_by_key.ensures.permutation)

pub returns-clause-stand : goal.returns-clause-stand
returns-clause-stand c = stands_back _ _ (IsPermutation-sym _ _ c.sort_unstable_by_key.ensures.permutation)
