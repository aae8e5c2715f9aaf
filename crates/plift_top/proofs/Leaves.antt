-- What the leaves of a right tree say, and the lines of its nodes.
use Rattle.std.proofs.Common.{◌≡◌, ◌≤◌, ℕ, ◌+◌, zero, suc, List, [], ◌∷◌, ◌++◌, refl, sym, ap, ◌∙◌, append-nil, arith}
use Rattle.std.specs.Prelude.{All, None, Some}
use Rattle.std.specs.declared.option.Option.{Option}
use Rattle.std.specs.List.{concat}
use Rattle.std.proofs.lemmas.List.Elements.{All-append}
use Rattle.std.proofs.lemmas.List.Folds.{concat-append}
use Rattle.std.proofs.lemmas.Grind.{flat_map-append}
use Rattle.lift_grid.specs.Rectangle.{Spans}
use Rattle.lift_grid.specs.Tree.{Tree, leaves, lower_half, upper_half}
use Rattle.lift_grid.specs.Tree.Tree.{accept, reject, unknown, split}
use Rattle.corner_lift.specs.Case.{CaseData, IsCase, at}
use Rattle.corner_lift.specs.Laws.{LowerPrecisionIsCase}
use Rattle.lift_cert.specs.Laws.{AcceptingBounds, RejectingReaches}
use Rattle.lift_cert.specs.declared.bound.Bound.{Bound}
use Rattle.region_tree.specs.Laws.{HalvesAreDeeper}
use Rattle.region_tree.specs.Nodes.{nodes}
use Rattle.lift_range.specs.Range.{Between}
use Rattle.region_tree.specs.Right.{IsRight, IsAtDepth}
use Rattle.region_tree.specs.Visits.{entries}
use Rattle.cert_text.specs.Report.{tree_lines, at_lines, accept_line, reject_lines, split_line}
use Rattle.cert_check.specs.Trust.{LeafHolds}
use Rattle.plift_top.specs.RightReport.{IsRange, least, node_text}

-- what holds of one holds of each of it alone
pub only : {X : Type 0} (P : X → Type 0) (a : X) → P a → All P (a ∷ [])
only P a p zero d h = p
only P a p (suc i) d h = absurd (omega arith)

-- the least precision of a range is one that the case may be asked at
pub range_begins : (k : CaseData) (from : Option ℕ) → IsCase k → IsRange k from → Between 1 k.w (least k from)
range_begins k None case range = (case.asked.precision.0, omega arith)
range_begins k (Some v) case range = range v refl

-- what each leaf says holds
module _ (accepting : AcceptingBounds) (reached : RejectingReaches) (lower : LowerPrecisionIsCase) (deeper : HalvesAreDeeper) (k : CaseData) (bound : Bound) (case : IsCase k) (v : ℕ) (above : 1 ≤ v) where
  -- the case at a precision of the range
  case_within : (u : ℕ) → Between v k.w u → IsCase (at k u)
  case_within u between = lower k u case (omega (arith, above, between.0)) between.1

  pub leaves_hold : (spans : Spans) (depth : ℕ) (tree : Tree) → IsAtDepth k depth spans → IsRight k v spans bound depth tree → All (LeafHolds k bound) (leaves spans depth tree)
  leaves_hold spans depth (accept u x) inside h =
      only (LeafHolds k bound) _ (accepting (at k u) spans bound x (case_within u h.first.between) inside.inside h.accepting)
  leaves_hold spans depth (reject u r) inside h =
      only (LeafHolds k bound) _ (reached (at k u) spans bound r (case_within u h.first.between) inside.inside h.rejecting, h.rejecting.limit)
  leaves_hold spans depth unknown inside h = only (LeafHolds k bound) _ tt
  leaves_hold spans depth (split axis lower upper) inside h =
      let halves = deeper k spans depth axis case inside h.1.left h.1.axis_is in
      All-append (LeafHolds k bound) (leaves (lower_half axis spans) (depth + 1) lower) (leaves (upper_half axis spans) (depth + 1) upper)
      (leaves_hold (lower_half axis spans) (depth + 1) lower halves.0 h.2) (leaves_hold (upper_half axis spans) (depth + 1) upper halves.1 h.3)

-- the lines of a leaf, behind that of its precision
behind : (front : List (List ℕ)) (lines : List (List ℕ)) (text : List ℕ) → concat lines ≡ text → (concat front ++ text) ++ [] ≡ concat (front ++ lines)
behind front lines text is = append-nil (concat front ++ text) ∙ ap (λ r. concat front ++ r) (sym is) ∙ sym (concat-append front lines)

-- the entries of a tree's nodes are its lines
pub entries_are : (k : CaseData) (from : Option ℕ) (tree : Tree) → entries (node_text k from) tree ≡ concat (tree_lines from k.model.init tree)
entries_are k from (accept u x) = behind (at_lines from u) (accept_line x ∷ []) (accept_line x) (append-nil (accept_line x))
entries_are k from (reject u r) = behind (at_lines from u) (reject_lines k.model.init u r) (concat (reject_lines k.model.init u r)) refl
entries_are k from unknown = refl
entries_are k from (split axis lower upper) =
    ap (λ r. split_line axis ++ r)
    (flat_map-append (node_text k from) (nodes lower) (nodes upper)
    ∙ ap (λ r. r ++ entries (node_text k from) upper) (entries_are k from lower)
    ∙ ap (λ r. concat (tree_lines from k.model.init lower) ++ r) (entries_are k from upper)
    ∙ sym (concat-append (tree_lines from k.model.init lower) (tree_lines from k.model.init upper)))
