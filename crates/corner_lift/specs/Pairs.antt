-- Rows of two entries, whose weights stand in a block corner by corner: their sums need one look at each corner.
use Rattle.std.specs.Prelude.{◌≡◌, ℕ, ◌+◌, ◌*◌, ◌^◌, ◌<◌, Bool, if◌then◌else◌, List, ℤ, pos, ◌+ℤ◌, ◌*ℤ◌, ◌≤ℤ◌, unsigned_abs, length}
use Rattle.corner_lift.specs.Case.{number, engine_limit}
use Rattle.corner_lift.specs.Dot.{lane_limit}

-- the block has two weights for that corner
abbrev pub HasPair : List ℤ → ℕ → Type 0
HasPair block c = 2 * c + 1 < length block

-- what the two weights of a corner sum to, the one times the first number, the other times the second
abbrev pub pair_sum : List ℤ → ℕ → ℤ → ℤ → ℤ
pair_sum block c first second = number block (2 * c) *ℤ first +ℤ number block (2 * c + 1) *ℤ second

-- what the weights of the first corner sum to
abbrev pub pair_whole : List ℤ → ℤ
pair_whole block = number block 0 +ℤ number block 1

-- at each corner the weighted sum is at most that number
abbrev pub ArePairsAtMost : List ℤ → ℤ → ℤ → ℤ → Type 0
ArePairsAtMost block first second most = (c : ℕ) → HasPair block c → pair_sum block c first second ≤ℤ most

-- the products and their sum have a size below the limit
abbrev pub FitsProducts : ℕ → List ℤ → ℕ → ℤ → ℤ → Type 0
FitsProducts limit block c first second = unsigned_abs (number block (2 * c)) * unsigned_abs first + unsigned_abs (number block (2 * c + 1)) * unsigned_abs second < limit

-- the weights, the products and their sum have a size below the limit
pub record FitsPair (limit : ℕ) (block : List ℤ) (c : ℕ) (first second : ℤ) : Type 0 where
  pub weights : (unsigned_abs (number block (2 * c)) < limit) × (unsigned_abs (number block (2 * c + 1)) < limit)
  pub products : FitsProducts limit block c first second

-- they have it at each corner
abbrev pub FitPairs : ℕ → List ℤ → ℤ → ℤ → Type 0
FitPairs limit block first second = (c : ℕ) → HasPair block c → FitsPair limit block c first second

-- the least weighted sum over the corners
pub record IsLeastPair (block : List ℤ) (first second z : ℤ) : Type 0 where
  pub least : (c : ℕ) → HasPair block c → z ≤ℤ pair_sum block c first second
  pub attained : (c : ℕ) × (HasPair block c × (z ≡ pair_sum block c first second))

-- the greatest weighted sum over the corners
pub record IsGreatestPair (block : List ℤ) (first second z : ℤ) : Type 0 where
  pub most : (c : ℕ) → HasPair block c → pair_sum block c first second ≤ℤ z
  pub attained : (c : ℕ) × (HasPair block c × (z ≡ pair_sum block c first second))

-- the least weight of the first entry over the corners
pub record IsLeastFirst (block : List ℤ) (z : ℤ) : Type 0 where
  pub least : (c : ℕ) → HasPair block c → z ≤ℤ number block (2 * c)
  pub attained : (c : ℕ) × (HasPair block c × (z ≡ number block (2 * c)))

-- the greatest weight of the first entry over the corners
pub record IsGreatestFirst (block : List ℤ) (z : ℤ) : Type 0 where
  pub most : (c : ℕ) → HasPair block c → number block (2 * c) ≤ℤ z
  pub attained : (c : ℕ) × (HasPair block c × (z ≡ number block (2 * c)))

-- 1 for an entry that counts, else 0
abbrev pub one_where : Bool → ℤ
one_where counts = if counts then pos 1 else pos 0

-- a number that stands for a part of 1
abbrev pub IsPairNumber : ℕ → ℤ → Type 0
IsPairNumber w n = (pos 0 ≤ℤ n) × (n ≤ℤ pos (2 ^ w))

-- a number of 0 or more that times the whole is within the engine's limit
abbrev pub HasRoom : ℤ → ℤ → Type 0
HasRoom whole n = (pos 0 ≤ℤ n) × (unsigned_abs whole * unsigned_abs n < engine_limit)

-- a number of 0 or more that times the whole is below the limit of 64 bits
abbrev pub HasLane : ℤ → ℤ → Type 0
HasLane whole n = (pos 0 ≤ℤ n) × (unsigned_abs whole * unsigned_abs n < lane_limit)

-- the block of a row of two entries: its weights aren't negative and sum to the whole at each corner
pub record AreCorners (block : List ℤ) (whole : ℤ) : Type 0 where
  pub some : HasPair block 0
  pub least : (c : ℕ) → HasPair block c → (pos 0 ≤ℤ number block (2 * c)) × (pos 0 ≤ℤ number block (2 * c + 1))
  pub sums : (c : ℕ) → HasPair block c → number block (2 * c) +ℤ number block (2 * c + 1) ≡ whole

-- and the whole times 2 ^ w is within the engine's limit
pub record ArePairs (w : ℕ) (block : List ℤ) (whole : ℤ) : Type 0 where
  pub corners : AreCorners block whole
  pub positive : pos 1 ≤ℤ whole
  pub room : 2 ^ w * unsigned_abs whole < engine_limit
