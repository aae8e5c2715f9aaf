-- What the iteration keeps: a vector at or below every bound, which can only rise. Which choice and which corner count is said by a rule, and so is which numbers are given and what a visit adds. A bound is an upper vector where each choice counts, the greatest corner does, and goal states have 2 ^ w; it is a value vector where the least corner does, and an upper vector for some scheduler where one choice does.
use Rattle.std.specs.Prelude.{◌≡◌, ℕ, ◌+◌, ◌<◌, ◌^◌, ◌⊎◌, Bool, true, false, List, [], ◌∷◌, ℤ, pos, ◌+ℤ◌, ◌-ℤ◌, ◌*ℤ◌, ◌≤ℤ◌, ◌<ℤ◌, nat_abs, length, slice_set, Contains}
use Rattle.lift_grid.specs.Rectangle.{Spans}
use Rattle.lift_model.specs.Model.{choices, row_at}
use Rattle.lift_model.specs.Links.{LinksData, AreLinks, HasChoice, targets_of}
use Rattle.corner_lift.specs.Case.{CaseData, IsCase, IsGreatest, IsLeast, number, row_value, row_whole, corner_count}
use Rattle.corner_lift.specs.Certificate.{AreNumbers, AtMost}
use Rattle.corner_lift.specs.Table.{IsTable}
use Rattle.float_guess.specs.declared.rule.Extreme.{Extreme}
use Rattle.float_guess.specs.declared.rule.Extreme.TheVariants.{Greatest, Least}
use Rattle.float_guess.specs.declared.rule.Ends.{Ends}
use Rattle.float_guess.specs.declared.rule.Ends.TheVariants.{Goals, Unranked, Rewarded}
use Rattle.float_guess.specs.declared.rule.Rule.{Rule}
use Rattle.float_guess.specs.Rule.{is_given, given, added}

-- the rows of a case, their weights in a rectangle, by which rule vectors are raised, and where an iteration may stop
pub record TableData : Type 0 where
  pub case : CaseData
  pub links : LinksData
  pub weights : List ℤ
  pub rule : Rule
  pub limit : ℤ

-- the links are those of the case's model, and the weights are the table of a rectangle inside its root
pub record IsRead (t : TableData) (spans : Spans) : Type 0 where
  pub case : IsCase t.case
  pub links : AreLinks t.case.model t.links
  pub table : IsTable t.case t.links spans t.weights

-- ---- bounds

-- for each of so many, corners or choices, where the greatest counts, and for one of them where the least does
abbrev pub Across : Extreme → ℕ → (ℕ → Type 0) → Type 0
Across Greatest n P = (c : ℕ) → c < n → P c
Across Least n P = (c : ℕ) × ((c < n) × P c)

-- the value that counts of so many
abbrev pub IsExtreme : Extreme → (ℕ → ℤ) → ℕ → ℤ → Type 0
IsExtreme Greatest value n z = IsGreatest value n z
IsExtreme Least value n z = IsLeast value n z

-- the number that counts of two
abbrev pub IsMoreExtreme : Extreme → ℤ → ℤ → ℤ → Type 0
IsMoreExtreme Greatest a b z = (a ≤ℤ z) × (b ≤ℤ z) × ((z ≡ a) ⊎ (z ≡ b))
IsMoreExtreme Least a b z = (z ≤ℤ a) × (z ≤ℤ b) × ((z ≡ a) ⊎ (z ≡ b))

-- a number is at least the choice's weighted mean at a corner
abbrev pub IsEnoughAt : CaseData → Spans → List ℤ → ℕ → ℕ → ℤ → ℕ → Type 0
IsEnoughAt k spans x s a n c = row_value k spans s a x c ≤ℤ (n *ℤ row_whole k s a)

-- the same with a reward, if the number is below 2 ^ w: numbers are cut off there
abbrev pub IsEnoughWith : ℤ → CaseData → Spans → List ℤ → ℕ → ℕ → ℤ → ℕ → Type 0
IsEnoughWith reward k spans x s a n c = n <ℤ pos (2 ^ k.w) → (row_value k spans s a x c +ℤ reward *ℤ row_whole k s a) ≤ℤ (n *ℤ row_whole k s a)

-- which of both a rule asks for
abbrev pub IsEnoughBy : Ends → CaseData → Spans → List ℤ → ℕ → ℕ → ℤ → ℕ → Type 0
IsEnoughBy Goals k spans x s a n = IsEnoughAt k spans x s a n
IsEnoughBy (Unranked ranks) k spans x s a n = IsEnoughAt k spans x s a n
IsEnoughBy (Rewarded t) k spans x s a n = IsEnoughWith (added k (Rewarded t) s) k spans x s a n

-- the rule without rewards
abbrev pub unrewarded : Rule → Rule
unrewarded r = record { choice = r.choice; corner = r.corner; ends = Goals }

-- the state's number is enough for the choice at the corners that count
abbrev pub IsEnoughFor : Rule → CaseData → Spans → List ℤ → ℕ → ℕ → Type 0
IsEnoughFor r k spans x s a = Across r.corner (corner_count k s a) (IsEnoughBy r.ends k spans x s a (number x s))

-- the state's number is enough for the choices that count
abbrev pub IsEnough : Rule → CaseData → Spans → List ℤ → ℕ → Type 0
IsEnough r k spans x s = Across r.choice (length (choices k.model s)) (λ a. IsEnoughFor r k spans x s a)

-- a state has the number that is given for it, if one is
abbrev pub HasGiven : Rule → CaseData → List ℤ → ℕ → Type 0
HasGiven r k x s = is_given k.model r.ends s ≡ true → number x s ≡ given k r.ends s

-- a state has enough, unless its number is given
abbrev pub HasEnough : Rule → CaseData → Spans → List ℤ → ℕ → Type 0
HasEnough r k spans x s = is_given k.model r.ends s ≡ false → IsEnough r k spans x s

-- a bound by the rule: the given numbers where they are given, and enough elsewhere
pub record IsEnoughEverywhere (r : Rule) (k : CaseData) (spans : Spans) (x : List ℤ) : Type 0 where
  pub numbers : AreNumbers k x
  pub given : (s : ℕ) → HasGiven r k x s
  pub enough : (s : ℕ) → s < length k.model.states → HasEnough r k spans x s

-- where an iteration runs: on which rectangle, and from which vector on
pub record Run : Type 0 where
  pub spans : Spans
  pub from : List ℤ

-- one number from 0 to 2 ^ w for each state, the given ones where they are given, at least the vector from which the iteration rises, and at most every bound that is
pub record IsBelow (r : Rule) (k : CaseData) (run : Run) (x : List ℤ) : Type 0 where
  pub numbers : AreNumbers k x
  pub given : (s : ℕ) → HasGiven r k x s
  pub above : AtMost run.from x
  pub least : (y : List ℤ) → IsEnoughEverywhere r k run.spans y → AtMost run.from y → AtMost x y

-- the bound that is least at each state
pub record IsLeastBound (r : Rule) (k : CaseData) (spans : Spans) (x : List ℤ) : Type 0 where
  pub bound : IsEnoughEverywhere r k spans x
  pub least : (y : List ℤ) → IsEnoughEverywhere r k spans y → AtMost x y

-- The least bound, where the initial state's number in it is within the limit; else that number is above the limit in every bound. No number is above 2 ^ w.
pub record IsLeastBoundWithin (r : Rule) (k : CaseData) (spans : Spans) (limit : ℤ) (x : List ℤ) (within : Bool) : Type 0 where
  pub least : within ≡ true → IsLeastBound r k spans x
  pub first : within ≡ true → number x k.model.init ≤ℤ limit
  pub past : within ≡ false → (y : List ℤ) → IsEnoughEverywhere r k spans y → limit <ℤ number y k.model.init
  pub always : pos (2 ^ k.w) ≤ℤ limit → within ≡ true

-- ---- one choice

-- what it needs to try a choice
pub record CanTry (t : TableData) (spans : Spans) (x : List ℤ) (s a : ℕ) : Type 0 where
  pub read : IsRead t spans
  pub row : HasChoice t.case.model s a
  pub numbers : AreNumbers t.case x

-- what it needs to try a choice that doesn't lead back to its state
pub record CanTryOther (t : TableData) (spans : Spans) (x : List ℤ) (s a : ℕ) : Type 0 where
  pub can : CanTry t spans x s a
  pub other : Contains (targets_of (row_at t.case.model s a)) s → ⊥

-- what it needs to try the only choice of a state, if the state has only one
pub record CanTryOnly (t : TableData) (spans : Spans) (x : List ℤ) (s : ℕ) : Type 0 where
  pub read : IsRead t spans
  pub state : s < length t.case.model.states
  pub numbers : AreNumbers t.case x

-- what it needs to try it at a corner
pub record CanSolve (t : TableData) (spans : Spans) (x : List ℤ) (s a c : ℕ) : Type 0 where
  pub can : CanTry t spans x s a
  pub corner : c < corner_count t.case s a

-- in place of the state's number, v is enough for the choice at the corner, and no vector from x on has less that is enough there
pub record SolvesBy (ends : Ends) (k : CaseData) (spans : Spans) (x : List ℤ) (s a c : ℕ) (v : ℤ) : Type 0 where
  pub grown : number x s ≤ℤ v
  pub most : v ≤ℤ pos (2 ^ k.w)
  pub enough : IsEnoughBy ends k spans (slice_set x s v) s a v c
  pub least : (y : List ℤ) → AtMost x y → IsEnoughBy ends k spans y s a (number y s) c → v ≤ℤ number y s

-- the same at the corners of so many that count
pub record IsSolvedFor (ends : Ends) (e : Extreme) (k : CaseData) (spans : Spans) (x : List ℤ) (s a n : ℕ) (v : ℤ) : Type 0 where
  pub grown : number x s ≤ℤ v
  pub most : v ≤ℤ pos (2 ^ k.w)
  pub enough : Across e n (IsEnoughBy ends k spans (slice_set x s v) s a v)
  pub least : (y : List ℤ) → AtMost x y → Across e n (IsEnoughBy ends k spans y s a (number y s)) → v ≤ℤ number y s

-- the same for the first choices, so many, of which those count that the rule says
pub record IsSolvedBy (r : Rule) (k : CaseData) (spans : Spans) (x : List ℤ) (s n : ℕ) (v : ℤ) : Type 0 where
  pub grown : number x s ≤ℤ v
  pub most : v ≤ℤ pos (2 ^ k.w)
  pub enough : Across r.choice n (λ a. Across r.corner (corner_count k s a) (IsEnoughBy r.ends k spans (slice_set x s v) s a v))
  pub least : (y : List ℤ) → AtMost x y → Across r.choice n (λ a. IsEnoughFor r k spans y s a) → v ≤ℤ number y s

-- at one corner, without rewards
abbrev pub SolvesAt : CaseData → Spans → List ℤ → ℕ → ℕ → ℕ → ℤ → Type 0
SolvesAt k spans x s a c v = SolvesBy Goals k spans x s a c v

-- at the corners of so many that count, without rewards
abbrev pub IsSolved : Extreme → CaseData → Spans → List ℤ → ℕ → ℕ → ℕ → ℤ → Type 0
IsSolved e k spans x s a n v = IsSolvedFor Goals e k spans x s a n v

-- by how much a vector can rise in all: the measure of the iteration
abbrev pub room : ℕ → List ℤ → ℕ
room w [] = 0
room w (n ∷ x) = nat_abs (pos (2 ^ w) -ℤ n) + room w x
