-- What holds of right partitions and of quotients, for who reasons about them.
use Rattle.std.specs.Prelude.{◌≡◌, ℕ, ◌^◌, ◌<◌, ◌≤◌, Bool, true, List, pos, ◌*ℤ◌, unsigned_abs, count_ones, length, slice_index_or, All, Contains}
use Rattle.lift_poly.specs.Polynomial.{Valuation}
use Rattle.lift_poly.specs.Arithmetic as polynomial
use Rattle.lift_model.specs.declared.kind.Kind.TheVariants.{Dtmc}
use Rattle.lift_model.specs.Process.{power}
use Rattle.lift_model.specs.Plan.{Plan, Fits}
use Rattle.lift_model.specs.Reach.{reach}
use Rattle.lift_model.specs.Model.{ModelData, is_goal, row_at, process_at}
use Rattle.lift_model.specs.Valid.{IsModel, coefficient_limit}
use Rattle.corner_lift.specs.Case.{CaseData, IsCase, most_row_parameters}
use Rattle.lift_lump.specs.Lumping.{Partition, sum_into, in_block, IsRight, IsAboveRight, IsCoarsest, IsUnion, IsSplit}
use Rattle.lift_lump.specs.Quotient.{Blocks, block, AreNumbered, entries_into, quotient, hold}
use Rattle.lift_lump.specs.declared.arrows.Arrow.{Arrow}
use Rattle.lift_lump.specs.Search.{AreArrows, AreNumbers, AreNumbersOf, AreMarked, IsByNumber}
use Rattle.lift_model.specs.declared.entry.Entry.{Entry}

-- ---- what is reached

-- By a right partition a state of the chain and its block of the quotient reach the same, at every valuation and within every number of steps.
abbrev pub QuotientsHold : Type 0
QuotientsHold = (m : ModelData) (p : Blocks) → IsModel m → IsRight m (block p) → AreNumbered (length m.states) p
    → (v : Valuation) (n s : ℕ) → s < length m.states → hold (quotient m p) v n (block p s) ≡ hold m v n s

-- ---- the coarsest one

-- Numbered by their least states, the blocks of the coarsest right partition are the only ones.
abbrev pub CoarsestIsOne : Type 0
CoarsestIsOne = (m : ModelData) (p q : Blocks) → IsCoarsest m (block p) → IsCoarsest m (block q) → AreNumbered (length m.states) p → AreNumbered (length m.states) q → p ≡ q

-- The search begins with the goal states and the others: every right partition keeps these apart.
abbrev pub StartsAbove : Type 0
StartsAbove = (m : ModelData) (start : Partition) → ((s t : ℕ) → is_goal m s ≡ is_goal m t → start s ≡ start t) → IsAboveRight m start

-- A split by a set of states that no block cuts keeps apart only what every right partition keeps apart.
abbrev pub SplitsKeep : Type 0
SplitsKeep = (m : ModelData) (old new : Partition) (inside : ℕ → Bool) → IsModel m → IsAboveRight m old → IsUnion m old inside → IsSplit m old new inside → IsAboveRight m new

-- A split by the numbers of a set of states that no block cuts keeps apart only what every right partition keeps apart.
abbrev pub NumberedSplitsKeep : Type 0
NumberedSplitsKeep = (m : ModelData) (v : Valuation) (old new : Partition) (inside : ℕ → Bool) (numbers : List ℕ) → IsModel m → IsAboveRight m old → IsUnion m old inside
    → AreNumbers m v inside numbers → IsByNumber (length m.states) old numbers new → IsAboveRight m new

-- Where all blocks are numbered below a count, rows with the same summed entries into the first blocks, so many, have the same sums into each block.
abbrev pub EntriesTellSums : Type 0
EntriesTellSums = (block : Partition) (left right : List Entry) (count b : ℕ) → All (λ entry. block entry.target < count) left → All (λ entry. block entry.target < count) right
    → entries_into block left count ≡ entries_into block right count → sum_into (in_block block b) left ≡ sum_into (in_block block b) right

-- Every plan of a chain reaches what its only scheduler reaches.
abbrev pub ChainsHaveOnePlan : Type 0
ChainsHaveOnePlan = (m : ModelData) (v : Valuation) (q n s : ℕ) (p : Plan) → IsModel m → m.kind ≡ Dtmc → s < length m.states → Fits (process_at m v) q n s p
    → reach (process_at m v) q n s p ≡ power (pos q) n *ℤ hold m v n s

-- From each state of a chain there is such a plan, for any number of steps.
abbrev pub ChainsHaveAPlan : Type 0
ChainsHaveAPlan = (m : ModelData) (v : Valuation) (n s : ℕ) → IsModel m → m.kind ≡ Dtmc → s < length m.states → (p : Plan) × Fits (process_at m v) 1 n s p

-- ---- the quotient as a model and a case

-- each goal state has an entry
abbrev pub GoalsHaveEntries : ModelData → Type 0
GoalsHaveEntries m = (s : ℕ) → s < length m.states → is_goal m s ≡ true → 1 ≤ length (row_at m s 0)

-- In a case each goal state has an entry, since its row sums to one.
abbrev pub CasesHaveGoalEntries : Type 0
CasesHaveGoalEntries = (k : CaseData) → IsCase k → GoalsHaveEntries k.model

-- few parameters occur in an entry, and it has no more terms than these have sets
pub record HasFewTerms (entry : Entry) : Type 0 where
  pub parameters : count_ones (polynomial.support entry.poly) ≤ most_row_parameters
  pub terms : length entry.poly ≤ 2 ^ most_row_parameters

-- The entries of a case have few terms.
abbrev pub CasesHaveFewTerms : Type 0
CasesHaveFewTerms = (k : CaseData) → IsCase k → All (All (All HasFewTerms)) k.model.states

-- each coefficient of a model has a size below its limit
abbrev pub HasSmallCoefficients : ModelData → Type 0
HasSmallCoefficients m = All (All (All (λ entry. All (λ term. unsigned_abs term.1 < coefficient_limit) entry.poly))) m.states

-- By a right partition the quotient of a chain is a model, unless a coefficient of it is too large.
abbrev pub QuotientsAreModels : Type 0
QuotientsAreModels = (m : ModelData) (p : Blocks) → IsModel m → m.kind ≡ Dtmc → IsRight m (block p) → AreNumbered (length m.states) p → GoalsHaveEntries m
    → HasSmallCoefficients (quotient m p) → IsModel (quotient m p)

-- the case of the quotient
abbrev pub quotient_case : CaseData → Blocks → CaseData
quotient_case k p = record k { model = quotient k.model p }

-- By a right partition the quotient of a case is a case, over the same root and grid and at the same precision, unless a coefficient of it is too large.
abbrev pub QuotientsAreCases : Type 0
QuotientsAreCases = (k : CaseData) (p : Blocks) → IsCase k → k.model.kind ≡ Dtmc → IsRight k.model (block p) → AreNumbered (length k.model.states) p
    → HasSmallCoefficients (quotient k.model p) → IsCase (quotient_case k p)

-- One step of the search: the states of a block are among the members, those of the block were marked and the numbers of their set found, and states were told apart by these numbers. What every right partition refined it refines still.
abbrev pub StepsKeep : Type 0
StepsKeep = (m : ModelData) (v : Valuation) (into : ℕ → List Arrow) (labels members numbers : List ℕ) (marks : List Bool) (b : ℕ) (new : Partition) → IsModel m → length m.states ≡ length numbers
    → AreArrows m v into → IsAboveRight m (λ s. slice_index_or labels s 0) → ((s : ℕ) → s < length m.states → slice_index_or labels s 0 ≡ b → Contains members s)
    → AreMarked labels b members marks → AreNumbersOf into marks numbers → IsByNumber (length m.states) (λ s. slice_index_or labels s 0) numbers new → IsAboveRight m new
