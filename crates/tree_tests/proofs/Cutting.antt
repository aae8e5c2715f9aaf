-- Trees that are cut at a depth, as bases.
use Rattle.std.proofs.Common.{◌≡◌, ℕ, zero, suc, ◌+◌, ◌≤◌, List, [], map, None, sym, ap, ◌∙◌, arith, append-nil}
use Rattle.lift_grid.specs.Rectangle.{Spans}
use Rattle.lift_grid.specs.Tree.{Tree, lower_half, upper_half}
use Rattle.lift_grid.specs.Tree.Tree.{split, accept, reject, unknown}
use Rattle.corner_lift.specs.Case.{CaseData, greatest_depth}
use Rattle.lift_cert.specs.declared.bound.Bound.{Bound}
use Rattle.lift_finer.specs.Refined.{IsBase}
use Rattle.region_tree.specs.Bases.{HasPrecisionsTo, OffersOne}
use Rattle.region_tree.specs.Nodes.{nodes}
use Rattle.region_tree.specs.Right.{IsRight}
use Rattle.region_tree.specs.Visits.{Visits}
use Rattle.region_tree.specs.declared.base.Given.{Given}
use Rattle.region_tree.specs.declared.visitor.Seen.TheVariants.{Kept}
use Rattle.tree_tests.specs.Cut.{AreGivenOfCut, cut, given_of}

-- a right tree that is cut can be gone on from
cut_is_base : (k : CaseData) (v : ℕ) (bound : Bound) (spans : Spans) (at : ℕ) (t : Tree) (depth : ℕ) → IsRight k v spans bound at t → IsBase k bound spans at (cut t depth) × HasPrecisionsTo k.w (cut t depth)
cut_is_base k v bound spans at (accept u x) depth h = (h.accepting, h.first.between.1)
cut_is_base k v bound spans at (reject u r) depth h = (h.rejecting, h.first.between.1)
cut_is_base k v bound spans at unknown depth h = let last : at ≤ greatest_depth k = omega (arith, h.1) in (last, tt)
cut_is_base k v bound spans at (split axis lower upper) zero h = let above : at ≤ greatest_depth k = omega (arith, h.1.left) in (above, tt)
cut_is_base k v bound spans at (split axis lower upper) (suc depth) h =
    let low = cut_is_base k v bound (lower_half axis spans) (at + 1) lower depth h.2 in
    let up = cut_is_base k v bound (upper_half axis spans) (at + 1) upper depth h.3 in
    ((record { left = h.1.left; axis_is = h.1.axis_is }, low.0, up.0), (low.1, up.1))

pub offered : (k : CaseData) (v : ℕ) (bound : Bound) (depth : ℕ) (list : List Given) → AreGivenOfCut k v bound depth list → OffersOne (λ ahead. map given_of ahead ≡ list) k bound k.root 0
offered k v bound depth list (t, right, e) =
    let base = cut_is_base k v bound k.root 0 t depth right in
    (cut t depth, ([], record { ahead = ap (λ all. map given_of all) (append-nil (nodes (cut t depth))) ∙ sym e; base = base.0; precisions = base.1 }))

-- a visitor that tells no bytes, counts no fault, and keeps all
pub kept : {V : Type 0} (old new : V) (entry : List ℕ) → Visits (λ _. None) (λ _. 0) old new Kept entry
kept old new entry = record { took = tt; cause = λ failed. absurd (cc); later = omega arith }
