-- A tree over the values of two parameters, worked by hand.
use Rattle.std.proofs.Common.{◌≡◌, [], ◌∷◌, pos, negsuc, refl}
use Rattle.lift_grid.specs.Rectangle.{Spans}
use Rattle.lift_grid.specs.Tree.{RejectData, leaves, split, accept, reject, unknown}

-- p from 2 to 4 and q from -6 to 2
abbrev root : Spans
root = (pos 2, pos 4) ∷ (negsuc 5, pos 2) ∷ []

-- q is halved at -2, and then p at 3 above it
three_leaves : leaves root 0 (split 1 unknown (split 0 (accept 4 (pos 16 ∷ [])) unknown)) ≡
    record { spans = (pos 2, pos 4) ∷ (negsuc 5, negsuc 1) ∷ []; depth = 1; node = unknown }
    ∷ record { spans = (pos 2, pos 3) ∷ (negsuc 1, pos 2) ∷ []; depth = 2; node = accept 4 (pos 16 ∷ []) }
    ∷ record { spans = (pos 3, pos 4) ∷ (negsuc 1, pos 2) ∷ []; depth = 2; node = unknown } ∷ []
three_leaves = refl

-- a certificate of one state
abbrev certificate : RejectData
certificate = record { numbers = pos 16 ∷ []; picks = 0 ∷ []; ranks = 1 ∷ []; e = 3; k = 1 }

-- p is halved at 3, and nothing above it
two_leaves : leaves root 0 (split 0 (reject 4 certificate) unknown) ≡
    record { spans = (pos 2, pos 3) ∷ (negsuc 5, pos 2) ∷ []; depth = 1; node = reject 4 certificate }
    ∷ record { spans = (pos 3, pos 4) ∷ (negsuc 5, pos 2) ∷ []; depth = 1; node = unknown } ∷ []
two_leaves = refl
