-- What is quickly looked up of rows of two entries.
use Rattle.std.specs.Prelude.{◌≡◌, ◌+◌, ◌*◌, ◌≤◌, ℕ, List, ℤ, pos, ◌*ℤ◌, ◌≤ℤ◌, slice_range}
use Rattle.corner_lift.specs.declared.paired.Pair.{Pair}
use Rattle.corner_lift.specs.declared.paired.LaneSum.{LaneSum}
use Rattle.corner_lift.specs.Case.{CaseData}
use Rattle.corner_lift.specs.Pairs.{IsLeastFirst, IsGreatestFirst, pair_whole}
use Rattle.corner_lift.specs.Table.{IsWhole}

-- of the row that has this block of weights, all of them divided by a scale: the least and the greatest weight of its first entry over the corners, and what both weigh together
pub record IsLaneOf (block : List ℤ) (p : Pair) : Type 0 where
  pub scale : pos 1 ≤ℤ p.scale
  pub least : IsLeastFirst block (p.least *ℤ p.scale)
  pub greatest : IsGreatestFirst block (p.greatest *ℤ p.scale)
  pub whole : p.whole *ℤ p.scale ≡ pair_whole block

-- the weights of the row
abbrev pub pair_block : List ℤ → Pair → List ℤ
pair_block weights p = slice_range weights p.at (p.at + 2 * p.corners)

-- so it is of the row of two entries whose weights the table has there
abbrev pub IsPairOf : List ℤ → Pair → Type 0
IsPairOf weights p = IsLaneOf (pair_block weights p) p

-- it is of no row, or so
abbrev pub IsNoneOrPair : List ℤ → Pair → Type 0
IsNoneOrPair weights p = 1 ≤ p.corners → IsPairOf weights p

-- a sum's whole is the row's, over the scale that both were divided by
abbrev pub IsWholeOver : CaseData → ℕ → ℕ → LaneSum → Type 0
IsWholeOver k s a row = (pos 1 ≤ℤ row.whole) × ((pos 1 ≤ℤ row.scale) × IsWhole k s a (row.whole *ℤ row.scale))
