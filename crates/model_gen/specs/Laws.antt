-- What holds of every ladder: its text is short and stands for its model, which is a case over the ladder's region.
use Rattle.std.specs.Prelude.{◌≡◌, ◌≤◌, ◌+◌, ◌*◌, ◌^◌, ℕ, [], ◌∷◌, codes, length, Ok}
use Rattle.lift_grid.specs.Region.{region}
use Rattle.corner_lift.specs.Case.{IsAdmitted, IsCase}
use Rattle.drn_read.specs.Reading.{drn}
use Rattle.model_gen.specs.Ladder.{most_blocks, ladder_text, ladder, ladder_region_text, ladder_depth, ladder_region, ladder_case}

-- the text has at most 2^23 bytes
abbrev pub TextIsShort : Type 0
TextIsShort = (n : ℕ) → n ≤ most_blocks → length (ladder_text n) ≤ 2 ^ 23

-- the text stands for the ladder, with the goal's label `done`
abbrev pub TextIsLadder : Type 0
TextIsLadder = (n : ℕ) → 1 ≤ n → n ≤ most_blocks → drn (ladder_text n) (codes "done") ≡ Ok (ladder n)

-- the ladder has two states for each block and two more
abbrev pub LadderHasStates : Type 0
LadderHasStates = (n : ℕ) → length (ladder n).states ≡ 2 * n + 2

-- the ladder has the parameters p and q
abbrev pub LadderHasParameters : Type 0
LadderHasParameters = (n : ℕ) → (ladder n).names ≡ codes "p" ∷ codes "q" ∷ []

-- its rows are admitted over its region, at its precision
abbrev pub LadderIsAdmitted : Type 0
LadderIsAdmitted = (n : ℕ) → 1 ≤ n → n ≤ most_blocks → IsAdmitted (ladder_case n)

-- and it is a case there
abbrev pub LadderIsCase : Type 0
LadderIsCase = (n : ℕ) → 1 ≤ n → n ≤ most_blocks → IsCase (ladder_case n)

-- the region's text names the region, over the ladder's parameters
abbrev pub TextNamesRegion : Type 0
TextNamesRegion = (n : ℕ) → region (ladder n).names ladder_depth ladder_region_text ≡ Ok ladder_region
