-- Tests that are joined.
use Rattle.std.proofs.Common.{◌≡◌, ◌&&◌, ◌||◌, Bool, true, false}

-- one test or the other
pub one_of : (a b r : Bool) → a ≡ true → r ≡ a → r ≡ (a || b)
one_of true b r p e = e
one_of false b r p e = absurd cc

pub other_of : (a b r : Bool) → a ≡ false → r ≡ b → r ≡ (a || b)
other_of false b r p e = e
other_of true b r p e = absurd cc

-- both tests
pub second_of : (a b r : Bool) → a ≡ true → r ≡ b → r ≡ (a && b)
second_of true b r p e = e
second_of false b r p e = absurd cc

pub first_of : (a b r : Bool) → a ≡ false → r ≡ a → r ≡ (a && b)
first_of false b r p e = e
first_of true b r p e = absurd cc
