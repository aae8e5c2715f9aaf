-- States that are compared with the least ones of their blocks.
use Rattle.std.specs.Prelude.{◌⊎◌, ◌≡◌, ◌≢◌, ℕ, ◌+◌, ◌-◌, ◌<◌, ◌≤◌, List, ◌∷◌, [], ◌++◌, length, flat_map, slice_index_or, slice_set, All}
use Rattle.std.specs.Int.{w16, w32, w64, w128, to_le_bytes, cast_unsigned}
use Rattle.lift_poly.specs.Polynomial.{Term}
use Rattle.lift_model.specs.declared.entry.Entry.{Entry}
use Rattle.lift_model.specs.Model.{ModelData, is_goal}
use Rattle.lift_lump.specs.declared.compared.Compared.{Compared}
use Rattle.lift_lump.specs.declared.numbered.Numbered.{Numbered}
use Rattle.lift_lump.specs.Quotient.{Blocks, block, first, quotient_row}
use Rattle.lift_lump.specs.Search.{number_at, AreVisited}

-- the blocks as lists
abbrev pub blocks_of : Numbered → Blocks
blocks_of b = record { of_states = b.of_states.items; firsts = b.firsts.items }

-- a state and the least one of its block are both goal states or both not, and have the same row in the quotient
pub record IsLike (m : ModelData) (p : Blocks) (s : ℕ) : Type 0 where
  pub goal : is_goal m s ≡ is_goal m (first p (block p s))
  pub row : quotient_row m p s ≡ quotient_row m p (first p (block p s))

-- ---- rows as texts of bytes

-- a term: its set and its coefficient
unfoldable pub term_text : Term → List ℕ
term_text term = to_le_bytes w16 term.0 ++ to_le_bytes w128 (cast_unsigned w128 term.1)

-- how many there are
unfoldable pub size_text : ℕ → List ℕ
size_text n = to_le_bytes w64 n

-- a target
unfoldable pub target_text : ℕ → List ℕ
target_text n = to_le_bytes w32 n

-- a polynomial: how many terms it has, and these
unfoldable pub poly_text : List Term → List ℕ
poly_text poly = size_text (length poly) ++ flat_map term_text poly

-- an entry: its target and its polynomial
unfoldable pub entry_text : Entry → List ℕ
entry_text entry = target_text entry.target ++ poly_text entry.poly

-- a row: its entries
unfoldable pub row_text : List Entry → List ℕ
row_text row = flat_map entry_text row

-- ---- all states

-- Of the first states, so many, those that aren't like the least one of their block have a number and are in the list, and all others have the number 0. A number is one more than the place of the state's row among the texts, of which no two are the same. So states with the same row have the same number, and those of a block that differ in their rows are all told apart at once.
pub record AreCompared (m : ModelData) (p : Blocks) (count : ℕ) (numbers different : List ℕ) (texts : List (List ℕ)) : Type 0 where
  pub size : length numbers ≡ length m.states
  pub like : (s : ℕ) → s < count → number_at numbers s ≡ 0 → IsLike m p s
  pub other : (s : ℕ) → s < count → IsLike m p s → number_at numbers s ≡ 0
  pub places : (s : ℕ) → number_at numbers s ≤ length texts
  pub reported : (s : ℕ) → number_at numbers s ≢ 0 → slice_index_or texts (number_at numbers s - 1) [] ≡ row_text (quotient_row m p s)
  pub visited : AreVisited numbers different
  pub some : All (λ s. (s < length numbers) × (number_at numbers s ≢ 0)) different

-- a state got a number by its text, and was put into the list
pub record IsNumbered (s : ℕ) (text : List ℕ) (old new : Compared) : Type 0 where
  pub place : ℕ
  pub numbers : new.numbers.items ≡ slice_set old.numbers.items s (place + 1)
  pub inside : place < length new.texts
  pub there : slice_index_or new.texts place [] ≡ text
  pub texts : (new.texts ≡ old.texts) ⊎ (new.texts ≡ old.texts ++ text ∷ [])
  pub list : new.different.items ≡ old.different.items ++ s ∷ []
