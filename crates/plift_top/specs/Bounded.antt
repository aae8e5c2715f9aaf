-- What `bounded` writes of a case: the text of its right tree for a number of steps, and what the leaves of that tree say.
use Rattle.std.specs.Prelude.{⊤, ℕ, List, [], ◌∷◌, ◌++◌, codes, Option, Some, None}
use Rattle.std.specs.List.{concat}
use Rattle.lift_poly.specs.Polynomial.{Valuation}
use Rattle.lift_grid.specs.Rectangle.{Inside}
use Rattle.corner_lift.specs.Case.{CaseData}
use Rattle.lift_walk.specs.Halved.{Halved}
use Rattle.lift_cert.specs.declared.bound.Bound.{Bound}
use Rattle.cert_text.specs.Report.{line, number_words, bound_words}
use Rattle.lift_bounded.specs.Within.{IsBoundedWithin, IsReachedWithin}
use Rattle.lift_bounded.specs.Decided.{BoundedLeaf, IsRightWithin}
use Rattle.lift_bounded.specs.Text.{tree_text}
use Rattle.plift_top.specs.Heads.{head_of}
use Rattle.plift_top.specs.Parts.{Part}
use Rattle.plift_top.specs.Reported.{CaseQuestion, halved_question}

-- ---- the text

-- the first line: the format, and its version
abbrev pub bounded_line : List ℕ
bounded_line = line (codes "plift-bounded" ∷ codes "1" ∷ [])

-- what is asked: the bound and the number of steps
unfoldable pub within_lines : Bound → ℕ → List (List ℕ)
within_lines bound h = line (bound_words bound) ∷ line (number_words (codes "steps") h) ∷ []

-- the head: the version, the model, and what is asked of it
abbrev pub bounded_head : CaseData → Bound → ℕ → List (List ℕ)
bounded_head k bound h = head_of bounded_line k None (within_lines bound h)

-- the bytes of a text: those of its head, and of its tree's nodes in preorder
abbrev pub bounded_text : CaseData → Bound → ℕ → Halved BoundedLeaf → List ℕ
bounded_text k bound h tree = concat (bounded_head k bound h) ++ tree_text k h tree

-- ---- what its leaves say

-- What a leaf says at a valuation: where it accepts, every scheduler, also one that tosses, reaches the goal within so many steps with probability at most the bound; where it rejects, those that make the printed choices, each at its number of steps left, reach it with more. An unknown one says nothing.
abbrev pub SaysWithin : CaseData → Bound → ℕ → Valuation → Option BoundedLeaf → Type 0
SaysWithin k bound h v (Some (BoundedLeaf.accept xs)) = IsBoundedWithin k.model v bound h
SaysWithin k bound h v (Some (BoundedLeaf.reject r)) = IsReachedWithin k.model v bound h r.picks
SaysWithin k bound h v None = ⊤

-- what a leaf says holds everywhere inside its rectangle
abbrev pub PartHolds : CaseData → Bound → ℕ → Part BoundedLeaf → Type 0
PartHolds k bound h part = (v : Valuation) → Inside k.d part.spans v → SaysWithin k bound h v part.leaf

-- ---- what is asked

-- asked for a bound within a number of steps
abbrev pub within_question : CaseData → Bound → ℕ → CaseQuestion
within_question k bound h = halved_question k (λ tree. IsRightWithin k bound h k.root 0 tree) (λ part. PartHolds k bound h part) (λ tree. bounded_text k bound h tree)
