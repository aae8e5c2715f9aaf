-- Lowering a vector that is at or above every lower vector, until it is the greatest lower vector.
use Rattle.std.specs.Prelude.{◌≡◌, ◌==◌, ℕ, ◌+◌, ◌^◌, ◌<◌, ◌≤◌, ◌⊎◌, Bool, true, false, List, [], ◌∷◌, ℤ, pos, ◌+ℤ◌, ◌-ℤ◌, ◌*ℤ◌, ◌≤ℤ◌, ◌<ℤ◌, nat_abs, length, slice_set}
use Rattle.lift_grid.specs.Rectangle.{Spans}
use Rattle.lift_model.specs.Model.{is_goal, choices, row_at, row_count}
use Rattle.lift_model.specs.Links.{LinksData, AreLinks, HasChoice}
use Rattle.corner_lift.specs.Case.{CaseData, number}
use Rattle.corner_lift.specs.Certificate.{unmarked, mark, AreNumbers, AtMost}
use Rattle.corner_lift.specs.Stages.{IsAllowed, AreStages}
use Rattle.corner_lift.specs.Table.{IsTable}
use Rattle.corner_lift.specs.Lifted.{LiftedData, IsLiftedTo}
use Rattle.lower_cert.specs.Capping.{AtSomeCorner, CapsAt, IsAboveLowerUnder}
use Rattle.robust_rank.specs.Attracting.{Pass}
use Rattle.robust_rank.specs.Staging.{allows, OthersHaveNoChoice}

-- the links are those of the case's model, the weights are the table of a rectangle, and there is one number for each state
pub record IsRead (k : CaseData) (l : LinksData) (spans : Spans) (weights lane : List ℤ) : Type 0 where
  pub links : AreLinks k.model l
  pub table : IsTable k l spans weights
  pub size : length lane ≡ length k.model.states

-- there is a place for each row, and a rank and a chosen row for each state
pub record HasPlaces (k : CaseData) (rows ranks_at choices_at : List ℕ) : Type 0 where
  pub allowed : length rows ≡ row_count k.model
  pub ranks : length ranks_at ≡ length k.model.states
  pub picks : length choices_at ≡ length k.model.states

-- where a vector is lowered: on which rectangle, and under which numbers
pub record Run : Type 0 where
  pub spans : Spans
  pub ceiling : ℕ → ℤ

-- from 1
abbrev pub from_top : CaseData → Spans → Run
from_top k spans = record { spans = spans; ceiling = λ s. pos (2 ^ k.w) }

-- from a guess
abbrev pub from_guess : Spans → List ℤ → Run
from_guess spans guess = record { spans = spans; ceiling = number guess }

-- one number from 0 to 2 ^ w for each state, 2 ^ w on goal states, and at or above every lower vector that is at or below the ceiling
pub record IsHighUnder (k : CaseData) (run : Run) (x : List ℤ) : Type 0 where
  pub numbers : AreNumbers k x
  pub goal : (s : ℕ) → is_goal k.model s ≡ true → number x s ≡ pos (2 ^ k.w)
  pub above : IsAboveLowerUnder k run.spans run.ceiling (number x)

-- the same of every lower vector
abbrev pub IsHigh : CaseData → Spans → List ℤ → Type 0
IsHigh k spans x = IsHighUnder k (from_top k spans) x

-- the ranks and choices are those of the vector's stages
pub record IsRanked (k : CaseData) (spans : Spans) (x : List ℤ) (picks ranks : List ℕ) : Type 0 where
  pub sizes : (length picks ≡ length k.model.states) × (length ranks ≡ length k.model.states)
  pub stages : AreStages k spans (IsAllowed k spans (number x)) (mark picks) (mark ranks)
  pub others : OthersHaveNoChoice k picks ranks

-- the row's place tells whether its choice is allowed
abbrev pub IsFlagged : CaseData → Spans → List ℤ → List ℕ → ℕ → ℕ → Type 0
IsFlagged k spans x allowed s a = (Pass (allows k.model allowed) s a → IsAllowed k spans (number x) s a) × (IsAllowed k spans (number x) s a → Pass (allows k.model allowed) s a)

-- so it is for all rows before the state's choice, in reading order
abbrev pub AreFlaggedBefore : CaseData → Spans → List ℤ → List ℕ → ℕ → ℕ → Type 0
AreFlaggedBefore k spans x allowed s a = (t b : ℕ) → HasChoice k.model t b → (t < s) ⊎ ((t ≡ s) × (b < a)) → IsFlagged k spans x allowed t b

-- the greatest number above 0 of the first states, so many, without rank, or 0
pub record IsStuckLevel (x : List ℤ) (ranks : List ℕ) (count : ℕ) (v : ℤ) : Type 0 where
  pub least : pos 0 ≤ℤ v
  pub most : (s : ℕ) → s < count → unmarked ≤ mark ranks s → number x s ≤ℤ v
  pub attained : pos 0 <ℤ v → (s : ℕ) × ((s < count) × (unmarked ≤ mark ranks s) × (number x s ≡ v))

-- of the first states, so many, those without rank whose number was v have v - 1, and all else is as it was
pub record IsLoweredAt (old new : List ℤ) (ranks : List ℕ) (v : ℤ) (count : ℕ) : Type 0 where
  pub size : length new ≡ length old
  pub each : (s : ℕ) → (number new s ≡ number old s) ⊎ ((unmarked ≤ mark ranks s) × ((number old s ≡ v) × (number new s ≡ v -ℤ pos 1)))
  pub done : (s : ℕ) → s < count → unmarked ≤ mark ranks s → number old s ≡ v → number new s ≡ v -ℤ pos 1

-- the sum of a vector's numbers: the measure of the lowering
abbrev pub total : List ℤ → ℕ
total [] = 0
total (n ∷ x) = nat_abs n + total x

-- a high vector with its ranks and choices, of whose states without rank none has a number above 0
pub record IsSettled (k : CaseData) (spans : Spans) (x : List ℤ) (picks ranks : List ℕ) : Type 0 where
  pub ranked : IsRanked k spans x picks ranks
  pub none : (s : ℕ) → unmarked ≤ mark ranks s → number x s ≤ℤ pos 0

-- the greatest rank of the first states, so many, or 1 where none is greater
pub record IsHeight (ranks : List ℕ) (count height : ℕ) : Type 0 where
  pub positive : 1 ≤ height
  pub small : height < unmarked
  pub most : (s : ℕ) → s < count → mark ranks s < unmarked → mark ranks s ≤ height
  pub least : (j : ℕ) → 1 ≤ j → ((s : ℕ) → mark ranks s < unmarked → mark ranks s ≤ j) → height ≤ j

-- r is an exit of a set of states that have the number m, at a corner at which a choice has this sum and this weight into the set: nothing leaves the set, or what comes from beyond it is less than r + 1 times what leaves it
abbrev pub IsExit : ℤ → ℤ → ℤ → ℤ → ℤ → Type 0
IsExit m sum weight total r = (total ≤ℤ weight) ⊎ ((sum -ℤ weight *ℤ m) <ℤ ((r +ℤ pos 1) *ℤ (total -ℤ weight)))

-- where r is below the state's number, the choice holds no number above r there, at some corner
abbrev pub HoldsNoMore : CaseData → Spans → List ℤ → ℕ → ℕ → ℤ → Type 0
HoldsNoMore k spans x s a r = r <ℤ number x s → AtSomeCorner k spans s a (CapsAt k spans (λ t. t == s) (number x) (r +ℤ pos 1) (row_at k.model s a))

-- the first choices of a state, so many, hold no more than r
pub record HoldNoMore (k : CaseData) (spans : Spans) (x : List ℤ) (s count : ℕ) (r : ℤ) : Type 0 where
  pub least : pos 0 ≤ℤ r
  pub each : (a : ℕ) → a < count → a < length (choices k.model s) → HoldsNoMore k spans x s a r

-- a high vector that is at most the old one at each state, and whose sum is less where it was lowered
pub record IsLowered (k : CaseData) (run : Run) (old new : List ℤ) (lower : Bool) : Type 0 where
  pub high : IsHighUnder k run new
  pub below : AtMost new old
  pub most : total new ≤ total old
  pub less : lower ≡ true → total new < total old

-- a vector whose weighted means are looked at: one number from 0 to 2 ^ w for each state
pub record CanWeigh (t : LiftedData) (spans : Spans) (x : List ℤ) : Type 0 where
  pub table : IsLiftedTo t spans
  pub numbers : AreNumbers t.case x

-- a vector that is lowered
pub record CanLower (t : LiftedData) (run : Run) (x : List ℤ) : Type 0 where
  pub table : IsLiftedTo t run.spans
  pub high : IsHighUnder t.case run x

-- the state's number is v if that is lower, and else all is as it was
pub record IsWrittenLower (old new : List ℤ) (s : ℕ) (v : ℤ) (lower : Bool) : Type 0 where
  pub yes : lower ≡ true → (new ≡ slice_set old s v) × (v <ℤ number old s)
  pub no : lower ≡ false → new ≡ old
