-- What the iteration keeps: a vector at or below every bound, and flags at the positions of the states that may have to rise.
use Rattle.std.specs.Prelude.{◌≡◌, ◌≢◌, ℕ, ◌*◌, ◌^◌, ◌<◌, ◌≤◌, ◌⊎◌, Bool, true, false, Option, IsSome, List, [], ℤ, pos, ◌≤ℤ◌, ◌<ℤ◌, length, slice_index_or, if◌then◌else◌}
use Rattle.lift_grid.specs.Rectangle.{Spans}
use Rattle.lift_model.specs.Model.{is_goal}
use Rattle.lift_model.specs.Links.{LinksData, AreLinks, Leads, position}
use Rattle.corner_lift.specs.Case.{CaseData, IsCase, number}
use Rattle.corner_lift.specs.Table.{IsTable}
use Rattle.corner_lift.specs.Certificate.{AreNumbers, AtMost, IsUpper, IsLeastUpper}
use Rattle.float_guess.specs.declared.rule.Ends.{Ends}
use Rattle.float_guess.specs.declared.rule.Rule.{Rule}
use Rattle.float_guess.specs.Rule.{is_given, given, has_rewards}
use Rattle.float_guess.specs.Notes.{low_word, noted_word}
use Rattle.rounded_iter.specs.declared.table.Ended.{Ended}
use Rattle.rounded_iter.specs.declared.table.Ended.TheVariants.{Settled, Past, Slow}
use Rattle.rounded_iter.specs.Rising.{TableData, IsRead, Run, HasGiven, IsBelow, IsEnoughEverywhere, IsLeastBound, HasEnough, room}

-- how many states there are
abbrev pub count : TableData → ℕ
count t = length t.case.model.states

-- ---- a state

-- The vector before, but 2 ^ w on goal states.
pub record HasGoals (k : CaseData) (old new : List ℤ) : Type 0 where
  pub goal : (s : ℕ) → s < length k.model.states → is_goal k.model s ≡ true → number new s ≡ pos (2 ^ k.w)
  pub other : (s : ℕ) → is_goal k.model s ≡ false → number new s ≡ number old s

-- the number of a state in the first vector: the given one, if one is, and else 0
abbrev pub first_number : CaseData → Ends → ℕ → ℤ
first_number k ends s = if is_given k.model ends s then given k ends s else pos 0

-- what it needs to raise a state
pub record CanRaise (t : TableData) (run : Run) (x : List ℤ) (s : ℕ) : Type 0 where
  pub read : IsRead t run.spans
  pub state : s < count t
  pub below : IsBelow t.rule t.case run x

-- what it needs to raise one whose number isn't given, or is 2 ^ w, by a rule with rewards or without
pub record CanRaiseFree (t : TableData) (run : Run) (x : List ℤ) (s : ℕ) (rewarded : Bool) : Type 0 where
  pub can : CanRaise t run x s
  pub free : is_given t.case.model t.rule.ends s ≡ true → given t.case t.rule.ends s ≡ pos (2 ^ t.case.w)
  pub rewards : has_rewards t.rule.ends ≡ rewarded

-- the number of s was raised to what is enough, unless it is given
pub record IsRaisedState (t : TableData) (run : Run) (old new : List ℤ) (s : ℕ) (rose : Bool) : Type 0 where
  pub below : IsBelow t.rule t.case run new
  pub kept : rose ≡ false → new ≡ old
  pub less : rose ≡ true → room t.case.w new < room t.case.w old
  pub other : (i : ℕ) → i ≢ s → number new i ≡ number old i
  pub enough : HasEnough t.rule t.case run.spans new s

-- ---- flags

-- the flag of a position
abbrev pub flag : List ℕ → ℕ → ℕ
flag work i = slice_index_or work i 0

-- each state that stands before the frontier and isn't flagged has enough
abbrev pub IsWatched : TableData → Run → List ℤ → List ℕ → ℕ → Type 0
IsWatched t run x work frontier = (q : ℕ) → q < count t → position t.links q < frontier → flag work (position t.links q) ≡ 0 → HasEnough t.rule t.case run.spans x q

-- the same, but for one state
abbrev pub IsWatchedBut : TableData → Run → List ℤ → List ℕ → ℕ → ℕ → Type 0
IsWatchedBut t run x work frontier but = (q : ℕ) → q < count t → position t.links q < frontier → flag work (position t.links q) ≡ 0 → q ≢ but → HasEnough t.rule t.case run.spans x q

-- what it needs to flag the states that lead to the one at a position
pub record CanFlag (t : TableData) (work : List ℕ) (s i : ℕ) : Type 0 where
  pub links : AreLinks t.case.model t.links
  pub state : s < count t
  pub at : slice_index_or t.links.order i 0 ≡ s
  pub places : length work ≡ count t

-- the other states that lead to s were flagged, as far as they stand before the frontier
pub record IsFlagged (t : TableData) (old new : List ℕ) (s frontier : ℕ) : Type 0 where
  pub kept : (i : ℕ) → flag new i ≡ 0 → flag old i ≡ 0
  pub flagged : (q : ℕ) → Leads t.case.model q s → q < count t → q ≢ s → position t.links q < frontier → flag new (position t.links q) ≢ 0

-- ---- steps

-- what an iteration keeps
pub record IsKept (t : TableData) (run : Run) (x : List ℤ) (work : List ℕ) (frontier : ℕ) : Type 0 where
  pub below : IsBelow t.rule t.case run x
  pub places : length work ≡ count t
  pub watched : IsWatched t run x work frontier

-- what a part of it does
pub record IsStep (t : TableData) (run : Run) (old new : List ℤ) (work : List ℕ) (frontier : ℕ) (rose : Bool) : Type 0 where
  pub keeps : IsKept t run new work frontier
  pub less : rose ≡ true → room t.case.w new < room t.case.w old
  pub same : rose ≡ false → new ≡ old

-- what a visit of the state at a position needs
pub record CanVisit (t : TableData) (run : Run) (x : List ℤ) (work : List ℕ) (s i frontier : ℕ) : Type 0 where
  pub read : IsRead t run.spans
  pub state : s < count t
  pub at : slice_index_or t.links.order i 0 ≡ s
  pub below : IsBelow t.rule t.case run x
  pub places : length work ≡ count t
  pub watched : IsWatchedBut t run x work frontier s

-- what it does
pub record IsVisited (t : TableData) (run : Run) (old new : List ℤ) (before work : List ℕ) (frontier : ℕ) (rose : Bool) : Type 0 where
  pub step : IsStep t run old new work frontier rose
  pub still : rose ≡ false → work ≡ before

-- what a turn at a position needs
pub record CanTurn (t : TableData) (run : Run) (x : List ℤ) (work : List ℕ) (i frontier : ℕ) : Type 0 where
  pub read : IsRead t run.spans
  pub keeps : IsKept t run x work frontier
  pub inside : i < count t

-- what it does
pub record IsTurned (t : TableData) (run : Run) (old new : List ℤ) (before work : List ℕ) (frontier i : ℕ) (rose : Bool) : Type 0 where
  pub step : IsStep t run old new work frontier rose
  pub clear : rose ≡ false → flag work i ≡ 0
  pub still : rose ≡ false → (j : ℕ) → flag before j ≡ 0 → flag work j ≡ 0

-- what a pass over positions below high needs
pub record CanPass (t : TableData) (run : Run) (x : List ℤ) (work : List ℕ) (high : ℕ) : Type 0 where
  pub read : IsRead t run.spans
  pub keeps : IsKept t run x work high
  pub inside : high ≤ count t

-- what a pass over the positions from low on and below i has done
pub record IsPassed (t : TableData) (run : Run) (old new : List ℤ) (work : List ℕ) (low i high : ℕ) (rose : Bool) : Type 0 where
  pub step : IsStep t run old new work high rose
  pub clear : rose ≡ false → (j : ℕ) → low ≤ j → j < i → flag work j ≡ 0

-- How it ended: no flag is left from low on and below high, the initial state's number passed the limit, or more passes rose than it was to make.
pub record IsSettled (t : TableData) (run : Run) (x : List ℤ) (work : List ℕ) (low high : ℕ) (patience : Option ℕ) (ended : Ended) : Type 0 where
  pub keeps : IsKept t run x work high
  pub clear : ended ≡ Settled → (j : ℕ) → low ≤ j → j < high → flag work j ≡ 0
  pub past : ended ≡ Past → t.limit <ℤ number x t.case.model.init
  pub slow : ended ≡ Slow → IsSome patience

-- what it needs to visit the state at the frontier
pub record CanGoOn (t : TableData) (run : Run) (x : List ℤ) (work : List ℕ) (i : ℕ) : Type 0 where
  pub read : IsRead t run.spans
  pub keeps : IsKept t run x work i
  pub inside : i < count t

-- what the iteration needs
pub record CanClimb (t : TableData) (run : Run) (x : List ℤ) (work : List ℕ) : Type 0 where
  pub read : IsRead t run.spans
  pub below : IsBelow t.rule t.case run x
  pub places : length work ≡ count t

-- the bound that is least among those at least the vector from which the iteration rose
pub record IsLeastFrom (t : TableData) (run : Run) (x : List ℤ) : Type 0 where
  pub bound : IsEnoughEverywhere t.rule t.case run.spans x
  pub above : AtMost run.from x
  pub least : (y : List ℤ) → IsEnoughEverywhere t.rule t.case run.spans y → AtMost run.from y → AtMost x y

-- the vector is that bound, or the initial state's number passed the limit, or it took too many passes
pub record IsClimbed (t : TableData) (run : Run) (x : List ℤ) (patience : Option ℕ) (ended : Ended) : Type 0 where
  pub below : IsBelow t.rule t.case run x
  pub least : ended ≡ Settled → IsLeastFrom t run x
  pub past : ended ≡ Past → t.limit <ℤ number x t.case.model.init
  pub slow : ended ≡ Slow → IsSome patience

-- ---- from the bottom, and from a guess

-- an iteration that rises from 0
abbrev pub from_zero : Spans → Run
from_zero spans = record { spans = spans; from = [] }

-- what it needs to find the least bound
pub record CanFind (t : TableData) (spans : Spans) (x : List ℤ) (work : List ℕ) : Type 0 where
  pub read : IsRead t spans
  pub below : IsBelow t.rule t.case (from_zero spans) x
  pub places : length work ≡ 2 * count t

-- the vector is the least bound, and the initial state's number within the limit; or that number is above the limit in every bound
pub record IsFound (t : TableData) (spans : Spans) (x : List ℤ) (found : Bool) : Type 0 where
  pub below : IsBelow t.rule t.case (from_zero spans) x
  pub least : found ≡ true → IsLeastBound t.rule t.case spans x
  pub within : found ≡ true → number x t.case.model.init ≤ℤ t.limit
  pub past : found ≡ false → t.limit <ℤ number x t.case.model.init

-- a guess: one number from 0 to 2 ^ w for each state, and the given ones where they are given
pub record IsGuess (r : Rule) (k : CaseData) (x : List ℤ) : Type 0 where
  pub numbers : AreNumbers k x
  pub given : (s : ℕ) → HasGiven r k x s

-- what it needs to make one of another
pub record CanGuess (t : TableData) (x : List ℤ) : Type 0 where
  pub links : AreLinks t.case.model t.links
  pub guess : IsGuess t.rule t.case x

-- what it needs to rise from a guess, with room for flags and notes
pub record CanConfirm (t : TableData) (spans : Spans) (x : List ℤ) (flags noted : List ℕ) : Type 0 where
  pub read : IsRead t spans
  pub guess : IsGuess t.rule t.case x
  pub places : length flags ≡ count t
  pub notes : length noted ≡ count t

-- the low bits of the first numbers were noted, so many of them
abbrev pub AreNoted : List ℤ → List ℕ → ℕ → Type 0
AreNoted x noted n = (s : ℕ) → s < n → noted_word (flag noted s) ≡ low_word (number x s)

-- The guess at a state, of which that was noted, is no fault: the number rose above it, or it is at most every bound there, as 0 is, and a number that is given.
abbrev pub IsSure : Rule → CaseData → List ℕ → List ℤ → ℕ → Type 0
IsSure r k noted x s = (noted_word (flag noted s) ≢ low_word (number x s)) ⊎ ((number x s ≡ pos 0) ⊎ (is_given k.model r.ends s ≡ true))

-- what it needs to test that
pub record CanTest (t : TableData) (x : List ℤ) (noted : List ℕ) : Type 0 where
  pub numbers : AreNumbers t.case x
  pub notes : length noted ≡ count t

-- what it needs to raise the first vector
pub record CanRise (t : TableData) (spans : Spans) (x : List ℤ) (flags : List ℕ) : Type 0 where
  pub read : IsRead t spans
  pub size : length x ≡ count t
  pub places : length flags ≡ count t

-- what it needs to write the first vector
pub record CanStart (t : TableData) (x : List ℤ) : Type 0 where
  pub case : IsCase t.case
  pub size : length x ≡ count t

-- What a least vector needs: the links of the case's model, the table of a rectangle inside its root, one place for each state, and two of work.
pub record CanIterate (k : CaseData) (l : LinksData) (spans : Spans) (weights x : List ℤ) (work : List ℕ) : Type 0 where
  pub links : AreLinks k.model l
  pub table : IsTable k l spans weights
  pub size : length x ≡ length k.model.states
  pub places : length work ≡ 2 * length k.model.states

-- A vector to start from: one number from 0 to 2 ^ w for each state, and at most every upper vector.
pub record IsBelowUppers (k : CaseData) (spans : Spans) (x : List ℤ) : Type 0 where
  pub numbers : AreNumbers k x
  pub least : (y : List ℤ) → IsUpper k spans y → AtMost x y

-- what a least vector needs that is raised from another
pub record CanContinue (k : CaseData) (l : LinksData) (spans : Spans) (weights x : List ℤ) (work : List ℕ) : Type 0 where
  pub can : CanIterate k l spans weights x work
  pub below : IsBelowUppers k spans x

-- the least upper vector, where the initial state's number in it is within the limit; else that number is above the limit in every upper vector
pub record IsLeastWithin (k : CaseData) (spans : Spans) (limit : ℤ) (x : List ℤ) (within : Bool) : Type 0 where
  pub least : within ≡ true → IsLeastUpper k spans x
  pub first : within ≡ true → number x k.model.init ≤ℤ limit
  pub past : within ≡ false → (y : List ℤ) → IsUpper k spans y → limit <ℤ number y k.model.init
