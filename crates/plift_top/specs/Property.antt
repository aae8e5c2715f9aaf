-- What `property` writes of a case: the text of its right tree for a comparison and a bound, and what the leaves of that tree say of until in the model that was read.
use Rattle.std.specs.Prelude.{⊤, ℕ, Bool, List, [], ◌∷◌, ◌++◌, codes, Option, Some, None, IfSome}
use Rattle.std.specs.Fmt.{decimal}
use Rattle.std.specs.List.{concat}
use Prim.Native.Char.{code}
use Rattle.lift_poly.specs.Polynomial.{Valuation}
use Rattle.lift_grid.specs.Rectangle.{Inside}
use Rattle.lift_model.specs.Model.{ModelData}
use Rattle.corner_lift.specs.Case.{CaseData, at}
use Rattle.lift_walk.specs.Halved.{Halved}
use Rattle.lift_range.specs.Range.{Between}
use Rattle.lift_cert.specs.declared.bound.Bound.{Bound}
use Rattle.cert_text.specs.Report.{line}
use Rattle.property_text.specs.Grammar.{op_text}
use Rattle.property_text.specs.declared.op.Op.{Op}
use Rattle.lift_dual.specs.Said.{UntilOfAllIsAtMost, UntilOfAllIsAtLeast, UntilOfOneIsAtMost, UntilOfOneIsAtLeast}
use Rattle.property_tree.specs.Leaves.{PropertyLeaf, RangeLeaf, Settles, IsRightFor, IsRightOver}
use Rattle.property_tree.specs.Text.{tree_text, range_tree_text}
use Rattle.plift_top.specs.Asked.{AskedModel, safe_states}
use Rattle.plift_top.specs.Heads.{head_of}
use Rattle.plift_top.specs.Parts.{Part}
use Rattle.plift_top.specs.Reported.{CaseQuestion, halved_question}

-- ---- the text

-- the first line: the format, and its version, the second one for a range of precisions
abbrev pub property_line : Option ℕ → List ℕ
property_line None = line (codes "plift-property" ∷ codes "1" ∷ [])
property_line (Some v) = line (codes "plift-property" ∷ codes "2" ∷ [])

-- what is asked: the comparison, and the bound in lowest terms
unfoldable pub property_lines : Op → Bound → List (List ℕ)
property_lines op bound = line (codes "property" ∷ op_text op ∷ (decimal bound.num ++ code "/" ∷ decimal bound.den) ∷ []) ∷ []

-- the head: the version, the model, and what is asked of it, with the least precision of a range where one is asked for
abbrev pub property_head : CaseData → Option ℕ → Op → Bound → List (List ℕ)
property_head k from op bound = head_of (property_line from) k from (property_lines op bound)

-- the bytes of a text of the first version: those of its head, and of its tree's nodes in preorder
abbrev pub property_text : CaseData → Op → Bound → Halved PropertyLeaf → List ℕ
property_text k op bound tree = concat (property_head k None op bound) ++ tree_text k op tree

-- those of a text of the second one, for the range from v to the case's precision, where each decided leaf tells its own
abbrev pub range_text : CaseData → ℕ → Op → Bound → Halved RangeLeaf → List ℕ
range_text k v op bound tree = concat (property_head k (Some v) op bound) ++ range_tree_text k op tree

-- ---- what its leaves say

-- What a leaf says at a valuation of until by way of safe states: an upper vector what it is at most, for every scheduler, also one that tosses, or for those that make the printed choices; and a lower one what it is at least. An unknown one says nothing.
abbrev pub SaysOfUntil : ModelData → List Bool → ℕ → Valuation → Option PropertyLeaf → Type 0
SaysOfUntil m safe w v (Some (PropertyLeaf.upper x)) = UntilOfAllIsAtMost m safe v w x
SaysOfUntil m safe w v (Some (PropertyLeaf.upper_one x picks)) = UntilOfOneIsAtMost m safe v w x picks
SaysOfUntil m safe w v (Some (PropertyLeaf.lower r)) = UntilOfOneIsAtLeast m safe v w r
SaysOfUntil m safe w v (Some (PropertyLeaf.lower_all r)) = UntilOfAllIsAtLeast m safe v w r
SaysOfUntil m safe w v None = ⊤

-- What a leaf says holds everywhere inside its rectangle, of the model that was read, and it tells whether the property holds: its number of the initial state is on its side of the bound.
pub record HoldsFor (a : AskedModel) (k : CaseData) (op : Op) (bound : Bound) (part : Part PropertyLeaf) : Type 0 where
  pub says : (v : Valuation) → Inside k.d part.spans v → SaysOfUntil a.read (safe_states a) k.w v part.leaf
  pub settles : IfSome part.leaf (Settles k op bound)

-- what a leaf of a range says holds at its own precision
abbrev pub HoldsOver : AskedModel → CaseData → Op → Bound → Part RangeLeaf → Type 0
HoldsOver a k op bound part = IfSome part.leaf (λ leaf. HoldsFor a (at k leaf.u) op bound (record { spans = part.spans; leaf = Some leaf.certificate }))

-- ---- what is asked

-- Asked for a property of the model that was read: the text of the tree that is right at the case's precision, or for the range from v to it where one is asked for.
abbrev pub property_question : AskedModel → CaseData → Option ℕ → Op → Bound → CaseQuestion
property_question a k None op bound = halved_question k (λ tree. IsRightFor k op bound k.root 0 tree) (λ part. HoldsFor a k op bound part) (λ tree. property_text k op bound tree)
property_question a k (Some v) op bound =
    record (halved_question k (λ tree. IsRightOver k v op bound k.root 0 tree) (λ part. HoldsOver a k op bound part) (λ tree. range_text k v op bound tree)) { Fits = Between 1 k.w v }
