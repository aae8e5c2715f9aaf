-- Tests that are joined.
use Rattle.std.proofs.Common.{◌≡◌, ◌&&◌, Bool, true, false}

-- both tests
pub second_of : (a b r : Bool) → a ≡ true → r ≡ b → r ≡ (a && b)
second_of true b r p e = e
second_of false b r p e = absurd cc
