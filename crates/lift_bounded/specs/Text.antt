-- The text of a tree for a number of steps: the lines of its nodes in preorder.
use Rattle.std.specs.Prelude.{◌≡◌, ℕ, zero, suc, ◌+◌, ◌-◌, ◌^◌, List, [], ◌∷◌, ◌++◌, ℤ, map, codes}
use Rattle.std.specs.Fmt.{decimal, signed_decimal}
use Prim.Native.Char.{code}
use Rattle.lift_grid.specs.Rectangle.{Spans}
use Rattle.corner_lift.specs.Case.{CaseData, number}
use Rattle.lift_cert.specs.declared.bound.Bound.{Bound}
use Rattle.lift_walk.specs.Halved.{Halved, preorder_text}
use Rattle.cert_text.specs.Report.{line, mark_word, split_line, unknown_line}
use Rattle.lift_bounded.specs.Steps.{nth, LowersData}
use Rattle.lift_bounded.specs.Decided.{BoundedLeaf, IsRightWithin}

-- the texts of so many numbers of steps from n on, one after another
abbrev pub for_steps : (ℕ → List ℕ) → ℕ → ℕ → List ℕ
for_steps text n zero = []
for_steps text n (suc count) = text n ++ for_steps text (n + 1) count

-- the numbers of the states for n steps
abbrev pub numbers_line : List ℕ → ℕ → List ℤ → List ℕ
numbers_line key n numbers = line (key ∷ decimal n ∷ map signed_decimal numbers)

-- the choices of the states for n steps, `-` for none
abbrev pub choices_line : ℕ → List ℕ → List ℕ
choices_line n picks = line (codes "choice" ∷ decimal n ∷ map mark_word picks)

-- of the upper vectors that of n steps
abbrev pub upper_text : List (List ℤ) → ℕ → List ℕ
upper_text xs n = numbers_line (codes "x") n (nth xs n)

-- of the lower vectors that of n steps, and its choices
abbrev pub lower_text : LowersData → ℕ → List ℕ
lower_text r n = numbers_line (codes "y") n (nth r.numbers n) ++ choices_line n (nth r.picks (n - 1))

-- the first line of a rejecting leaf: the initial state's number y over z
abbrev pub reject_line : ℤ → ℕ → List ℕ
reject_line y z = line (codes "reject" ∷ codes "b" ∷ (signed_decimal y ++ code "/" ∷ decimal z) ∷ [])

-- an accepting leaf: its vectors of 1 to h steps
abbrev pub accept_text : ℕ → List (List ℤ) → List ℕ
accept_text h xs = line (codes "accept" ∷ []) ++ for_steps (upper_text xs) 1 h

-- a rejecting leaf: what is reached within h steps, and its vectors and choices of 1 to h steps
abbrev pub reject_text : CaseData → ℕ → LowersData → List ℕ
reject_text k h r = reject_line (number (nth r.numbers h) k.model.init) (2 ^ k.w) ++ for_steps (lower_text r) 1 h

-- a decided leaf
abbrev pub leaf_text : CaseData → ℕ → BoundedLeaf → List ℕ
leaf_text k h (BoundedLeaf.accept xs) = accept_text h xs
leaf_text k h (BoundedLeaf.reject r) = reject_text k h r

-- the nodes of a tree
abbrev pub tree_text : CaseData → ℕ → Halved BoundedLeaf → List ℕ
tree_text k h tree = preorder_text split_line (leaf_text k h) unknown_line tree

-- the bytes are the text of a right tree over the rectangle at that depth, for h steps
abbrev pub IsTreeText : CaseData → Bound → ℕ → Spans → ℕ → List ℕ → Type 0
IsTreeText k bound h spans depth bytes = (tree : Halved BoundedLeaf) × (IsRightWithin k bound h spans depth tree × (bytes ≡ tree_text k h tree))
