-- Trees that go on from another one, seen as halved ones.
use Rattle.std.proofs.Common.{◌≡◌, ℕ, ◌+◌, true, true≢false, List, ◌++◌, ap, sym, ◌∙◌, subst, Option, Result, Ok, Err, MatchResult, OnOk}
use Rattle.lift_grid.specs.Rectangle.{Spans}
use Rattle.lift_grid.specs.Tree.{Tree, lower_half, upper_half}
use Rattle.lift_grid.specs.Tree.Tree.{split, accept, reject, unknown}
use Rattle.corner_lift.specs.Case.{CaseData}
use Rattle.lift_cert.specs.declared.bound.Bound.{Bound}
use Rattle.lift_finer.specs.Refined.{IsBase}
use Rattle.lift_walk.specs.Bases.{IsBaseBy, IsOffered as IsOfferedBy, IsRefined as IsRefinedBy}
use Rattle.lift_walk.specs.Halved.{Halved, preorder_text}
use Rattle.lift_walk.specs.Steps.{GoesOn as GoesOnBy}
use Rattle.region_tree.specs.Bases.{HasPrecisionsTo, IsOffered, IsRefined}
use Rattle.region_tree.specs.Nodes.{Node, nodes}
use Rattle.region_tree.specs.Nodes.Node.{split as split-node, unknown as unknown-node}
use Rattle.region_tree.specs.Right.{Decides, Decision, IsOpen, halved_of, tree_from}
use Rattle.region_tree.specs.Visits.{Shows}
use Rattle.region_tree.specs.Walking.{MayStand, node_of}
use Rattle.region_tree.specs.declared.visitor.Seen.{Seen}
use Rattle.region_tree.specs.declared.visitor.Seen.TheVariants.{Kept, Failed}
use Rattle.region_tree.proofs.Shown.{kept_not_failed, shown, tree_back}

module _ (k : CaseData) (v : ℕ) (bound : Bound) where
  abbrev Halves : Spans → ℕ → Tree → Tree → Type 0
  Halves spans depth t refined = IsRefinedBy (Decides k v bound) (λ part. IsOpen k v part bound) k spans depth (halved_of t) (halved_of refined)

  pub refined_there : (spans : Spans) (depth : ℕ) (t refined : Tree) → IsRefined k v bound spans depth t refined → Halves spans depth t refined
  refined_there spans depth (split axis lower upper) (split other low up) h =
      (h.0, refined_there (lower_half axis spans) (depth + 1) lower low h.1, refined_there (upper_half axis spans) (depth + 1) upper up h.2)
  refined_there spans depth (split axis lower upper) (accept u x) h = absurd h
  refined_there spans depth (split axis lower upper) (reject u r) h = absurd h
  refined_there spans depth (split axis lower upper) unknown h = absurd h
  refined_there spans depth (accept u x) refined h = ap halved_of h
  refined_there spans depth (reject u r) refined h = ap halved_of h
  refined_there spans depth unknown refined h = h

  pub refined_back : (spans : Spans) (depth : ℕ) (t refined : Tree) → Halves spans depth t refined → IsRefined k v bound spans depth t refined
  refined_back spans depth (split axis lower upper) (split other low up) h =
      (h.0, refined_back (lower_half axis spans) (depth + 1) lower low h.1, refined_back (upper_half axis spans) (depth + 1) upper up h.2)
  refined_back spans depth (split axis lower upper) (accept u x) h = absurd h
  refined_back spans depth (split axis lower upper) (reject u r) h = absurd h
  refined_back spans depth (split axis lower upper) unknown h = absurd h
  refined_back spans depth (accept u x) refined h = ap tree_from h ∙ tree_back refined
  refined_back spans depth (reject u r) refined h = ap tree_from h ∙ tree_back refined
  refined_back spans depth unknown refined h = h

  -- a base, whose leaves have precisions of at most the case's
  pub base_there : (spans : Spans) (depth : ℕ) (t : Tree) → IsBase k bound spans depth t → HasPrecisionsTo k.w t → IsBaseBy (MayStand k bound) k spans depth (halved_of t)
  base_there spans depth (accept u x) h p = (h, p)
  base_there spans depth (reject u r) h p = (h, p)
  base_there spans depth (split axis lower upper) h p =
      (record { left = h.0.left; axis_is = h.0.axis_is }, base_there (lower_half axis spans) (depth + 1) lower h.1 p.0, base_there (upper_half axis spans) (depth + 1) upper h.2 p.1)
  base_there spans depth unknown h p = h

  -- a tree whose nodes are ahead
  pub offered_there : (spans : Spans) (depth : ℕ) (ahead : List Node → Type 0) (P : Type 0) → P → (t : Tree) (rest : List Node) → IsOffered ahead k bound spans depth t rest
      → IsOfferedBy (λ tree more. nodes (tree_from tree) ++ more) (λ more. ahead more × P) (MayStand k bound) k spans depth true (halved_of t) rest
  offered_there spans depth ahead P p t rest o = record {
    ahead = (subst (λ tree. ahead (nodes tree ++ rest)) (sym (tree_back t)) o.ahead, p);
    none = λ e. absurd (true≢false e);
    base = base_there spans depth t o.base o.precisions;
  }

  -- where all was kept
  on_kept : {T E : Type 0} (After Q : Type 0) (result : Result T E) (seen : Seen) → MatchResult result (λ _. seen ≡ Kept) (λ _. seen ≡ Failed) → OnOk result (After × Q) → seen ≡ Kept → After
  on_kept After Q (Ok x) seen is h e = h.0
  on_kept After Q (Err f) seen is h e = absurd (kept_not_failed (sym is ∙ e))

  -- what a walk came to that goes on from it
  pub goes_on : {V T E : Type 0} (spans : Spans) (depth : ℕ) (ahead after : List Node → Type 0) (P Q : Type 0) → P → (is_part : Halved Decision → T → Type 0) (taken : V → Option (List ℕ)) (faults : V → ℕ) (entry : Node → List ℕ) (old new : V) (result : Result T E) (seen : Seen) → MatchResult result (λ _. seen ≡ Kept) (λ _. seen ≡ Failed)
      → GoesOnBy (Decides k v bound) (λ part. IsOpen k v part bound) (MayStand k bound) k spans depth true (λ tree more. nodes (tree_from tree) ++ more) (λ more. ahead more × P) (λ more. after more × Q) is_part (preorder_text (λ axis. entry (split-node axis)) (λ l. entry (node_of l)) (entry unknown-node)) taken faults old new result
      → (t : Tree) (rest : List Node) → IsOffered ahead k bound spans depth t rest → Shows (λ refined. IsRefined k v bound spans depth t refined) taken faults entry old new seen × (seen ≡ Kept → after rest)
  goes_on spans depth ahead after P Q p is_part taken faults entry old new result seen is goes t rest o =
      let g = goes (halved_of t) rest (offered_there spans depth ahead P p t rest o) in
      let s = shown (λ tree. IsRefinedBy (Decides k v bound) (λ part. IsOpen k v part bound) k spans depth (halved_of t) tree) is_part taken faults entry old new result seen is g.0 in (
        record {
          tree = λ e. ((s.tree e).0, refined_back spans depth t (s.tree e).0 (s.tree e).1);
          took = λ refined h. s.took refined (refined_there spans depth t refined h);
          cause = s.cause;
          later = s.later;
        },
        on_kept (after rest) Q result seen is g.1,
      )
