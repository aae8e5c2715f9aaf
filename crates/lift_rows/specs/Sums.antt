-- The sums of a row's coefficients, a block of sets at a time, for the proofs of private functions.
use Rattle.std.specs.Prelude.{◌≡◌, ◌≢◌, ◌+◌, ◌*◌, ◌<◌, ℕ, List, ℤ, pos, All, unsigned_abs, slice_index_or}
use Rattle.lift_model.specs.declared.entry.Entry.{Entry}
use Rattle.lift_model.specs.Valid.{most_transitions, coefficient_limit}
use Rattle.corner_lift.specs.Case.{due}

-- how many sets make a block
abbrev pub block_size : ℕ
block_size = 256

-- what a sum's size stays below while coefficients are added to it
abbrev pub sum_limit : ℕ
sum_limit = most_transitions * coefficient_limit

-- each coefficient's size is below the limit
abbrev pub AreSmall : List Entry → Type 0
AreSmall row = All (λ entry. All (λ term. unsigned_abs term.1 < coefficient_limit) entry.poly) row

-- the first of a block's sums that isn't the one that is due: the block has the sets from the block size times its number on
pub record IsFirstWrong (sums : List ℤ) (block : ℕ) (common : ℤ) (set : ℕ) (sum : ℤ) : Type 0 where
  pub place : ℕ
  pub in_block : place < block_size
  pub set_is : set ≡ block * block_size + place
  pub is : sum ≡ slice_index_or sums place (pos 0)
  pub wrong : sum ≢ due common set
  pub least : (i : ℕ) → i < place → slice_index_or sums i (pos 0) ≡ due common (block * block_size + i)
