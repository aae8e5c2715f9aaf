-- What the search for the coarsest right partition keeps. A state's entries into a set are told by a number: their weight at some valuation, up to multiples of a prime. Entries that sum to the same have the same number, so states that a number tells apart have different sums.
use Rattle.std.specs.Prelude.{◌⊎◌, ◌≡◌, ◌≢◌, ℕ, ◌+◌, ◌-◌, ◌%◌, ◌^◌, ◌<◌, ◌==◌, Bool, true, false, List, ℤ, pos, ◌+ℤ◌, ◌*ℤ◌, length, [], sum_by, map, slice_index_or, All, Contains, if◌then◌else◌}
use Rattle.lift_poly.specs.Polynomial.{Valuation, weight}
use Rattle.lift_model.specs.Model.{ModelData, is_goal, row_at}
use Rattle.lift_lump.specs.Lumping.{Partition, terms_into}
use Rattle.lift_model.specs.declared.entry.Entry.{Entry}
use Rattle.lift_lump.specs.declared.arrows.Arrow.{Arrow}

-- the number at a place, 0 past the end
abbrev pub number_at : List ℕ → ℕ → ℕ
number_at list s = slice_index_or list s 0

-- the prime
abbrev pub modulus : ℕ
modulus = 2 ^ 63 - 25

-- the number is the integer, up to multiples of the prime
abbrev pub IsCongruent : ℕ → ℤ → Type 0
IsCongruent n z = (k : ℤ) × (pos n ≡ z +ℤ k *ℤ pos modulus)

-- the valuation with these whole numbers
abbrev pub whole : List ℕ → Valuation
whole point = map (λ x. (pos x, pos 1)) point

-- the marks of the arrows from a state, summed
abbrev pub marks_from : ℕ → List Arrow → ℕ
marks_from s arrows = sum_by (λ (arrow : Arrow). if arrow.source == s then arrow.mark else 0) arrows

-- an arrow from one of so many states
pub record IsArrow (states : ℕ) (arrow : Arrow) : Type 0 where
  pub source : arrow.source < states
  pub mark : arrow.mark < modulus

-- The arrows into each state: none comes from a goal state, and those from another state have the weight of its entries there.
pub record AreArrows (m : ModelData) (v : Valuation) (into : ℕ → List Arrow) : Type 0 where
  pub arrows : (t : ℕ) → t < length m.states → All (IsArrow (length m.states)) (into t)
  pub goals : (s t : ℕ) → t < length m.states → is_goal m s ≡ true → marks_from s (into t) ≡ 0
  pub marks : (s t : ℕ) → t < length m.states → is_goal m s ≡ false → IsCongruent (marks_from s (into t)) (weight v (terms_into (λ u. u == t) (row_at m s 0)))

-- the number of each state's entries into a set
pub record AreNumbers (m : ModelData) (v : Valuation) (inside : ℕ → Bool) (ns : List ℕ) : Type 0 where
  pub count : length ns ≡ length m.states
  pub below : All (λ n. n < modulus) ns
  pub goals : (s : ℕ) → is_goal m s ≡ true → slice_index_or ns s 0 ≡ 0
  pub numbers : (s : ℕ) → s < length m.states → is_goal m s ≡ false → IsCongruent (slice_index_or ns s 0) (weight v (terms_into inside (row_at m s 0)))

-- the new partition tells states of a block apart by their numbers alone
abbrev pub IsByNumber : ℕ → Partition → List ℕ → Partition → Type 0
IsByNumber states old numbers new = (s t : ℕ) → s < states → t < states → old s ≡ old t → slice_index_or numbers s 0 ≡ slice_index_or numbers t 0 → new s ≡ new t

-- the numbers with the marks of these arrows added
pub record AreRaised (old new : List ℕ) (arrows : List Arrow) : Type 0 where
  pub count : length new ≡ length old
  pub below : All (λ n. n < modulus) new
  pub numbers : (s : ℕ) → s < length old → slice_index_or new s 0 ≡ (slice_index_or old s 0 + marks_from s arrows) % modulus

-- each state whose number isn't 0 is in the list
abbrev pub AreVisited : List ℕ → List ℕ → Type 0
AreVisited numbers visited = (s : ℕ) → s < length numbers → slice_index_or numbers s 0 ≢ 0 → Contains visited s

-- the arrows into a state, of the lists of all
abbrev pub arrows_into : List (List Arrow) → ℕ → List Arrow
arrows_into lists t = slice_index_or lists t []

-- a set of states as a list of marks
abbrev pub marked : List Bool → ℕ → Bool
marked marks u = slice_index_or marks u false

-- the numbers are those of the marked states' set, whatever chain and valuation the arrows stand for
abbrev pub AreNumbersOf : (ℕ → List Arrow) → List Bool → List ℕ → Type 0
AreNumbersOf into marks numbers = (m : ModelData) (v : Valuation) → length m.states ≡ length numbers → AreArrows m v into → AreNumbers m v (marked marks) numbers

-- of these states those of the block are marked, and no other ones
pub record AreMarked (labels : List ℕ) (b : ℕ) (states : List ℕ) (marks : List Bool) : Type 0 where
  pub only : (u : ℕ) → marked marks u ≡ true → slice_index_or labels u 0 ≡ b
  pub all : (i : ℕ) → i < length states → slice_index_or labels (slice_index_or states i 0) 0 ≡ b → marked marks (slice_index_or states i 0) ≡ true

-- a state was looked at: if it is of the block, it is marked now, and the numbers are those of the marked states' set still
pub record IsCountedIn (into : ℕ → List Arrow) (labels : List ℕ) (b t : ℕ) (old new : List Bool) (before after : List ℕ) : Type 0 where
  pub sizes : (length new ≡ length old) × (length after ≡ length before)
  pub below : All (λ n. n < modulus) after
  pub only : (u : ℕ) → marked new u ≡ true → (marked old u ≡ true) ⊎ (slice_index_or labels u 0 ≡ b)
  pub kept : (u : ℕ) → marked old u ≡ true → marked new u ≡ true
  pub here : slice_index_or labels t 0 ≡ b → marked new t ≡ true
  pub numbers : AreNumbersOf into old before → AreNumbersOf into new after

-- the arrows of a state's entries were added to the lists
pub record AreEntered (v : Valuation) (s : ℕ) (row : List Entry) (old new : List (List Arrow)) : Type 0 where
  pub count : length new ≡ length old
  pub arrows : All (All (IsArrow (length old))) old → All (All (IsArrow (length old))) new
  pub others : (u t : ℕ) → u ≢ s → marks_from u (arrows_into new t) ≡ marks_from u (arrows_into old t)
  pub marks : (t : ℕ) → t < length old → (z : ℤ) → IsCongruent (marks_from s (arrows_into old t)) z → IsCongruent (marks_from s (arrows_into new t)) (z +ℤ weight v (terms_into (λ u. u == t) row))
