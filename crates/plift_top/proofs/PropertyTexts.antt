-- What a text for a property is, and what its leaves say of until in the model that was read.
use Rattle.std.proofs.Common.{◌≡◌, ◌≤◌, ℕ, Bool, List, Some, None, refl, sym, ◌∙◌, Option, arith}
use Rattle.std.specs.Prelude.{IfSome}
use Rattle.std.specs.List.{concat}
use Rattle.std.specs.Option.{unwrap_or, ForSome}
use Rattle.lift_poly.specs.Polynomial.{Valuation}
use Rattle.lift_grid.specs.Rectangle.{Spans, Inside}
use Rattle.lift_grid.specs.Laws.{TreesTile}
use Rattle.lift_model.specs.Model.{ModelData}
use Rattle.corner_lift.specs.Case.{CaseData, IsCase, IsInside, at}
use Rattle.corner_lift.specs.Laws.{LiveHasSpan, LowerPrecisionIsCase}
use Rattle.lift_cert.specs.declared.bound.Bound.{Bound}
use Rattle.lift_walk.specs.Laws.{RootIsAtDepth, HalvesAreDeeper}
use Rattle.lift_walk.specs.Sides.{IsAtDepth}
use Rattle.lift_range.specs.Range.{Between}
use Rattle.lift_dual.specs.Laws.{UntilIsReachedByAll, UntilIsBoundedForOne, UntilIsBoundedForAll, UntilIsReachedByOne}
use Rattle.property_text.specs.Laws.{CutOfNoneIsSame}
use Rattle.property_text.specs.Restricted.{restricted, all_safe}
use Rattle.property_text.specs.declared.op.Op.{Op}
use Rattle.property_tree.specs.Leaves.{PropertyLeaf, RangeLeaf, IsBest, DecidesFor, IsOpenFor, DecidesOver, IsOpenOver}
use Rattle.property_tree.specs.Text.{tree_text, range_tree_text, IsAskedText}
use Rattle.plift_top.specs.Asked.{AskedModel, cut, safe_states}
use Rattle.plift_top.specs.Heads.{IsHeaded}
use Rattle.plift_top.specs.Property.{property_head, property_question, SaysOfUntil, HoldsFor, HoldsOver}
use Rattle.plift_top.specs.Reported.{CaseQuestion}
use Rattle.plift_top.specs.Steps.{IsTestedCase}
use Rattle.plift_top.proofs.Parts.{tells}
use Rattle.plift_top.proofs.Telling.{Tells}

-- the model that is verified is the cut one by the safe states, also where all are
cut_by : CutOfNoneIsSame → (m : ModelData) (safe : Option (List Bool)) → elim safe [ Some s ↦ restricted m s | None ↦ m ] ≡ restricted m (unwrap_or safe (all_safe m))
cut_by same m None = sym (same m)
cut_by same m (Some s) = refl

-- what holds of a value, where there is one
pub if_some : {X : Type 0} (P : X → Type 0) (x : Option X) → ForSome x P → IfSome x P
if_some P None h = tt
if_some P (Some v) h = h v refl

-- what is asked has to be fitted too
fitting : (k : CaseData) (q : CaseQuestion) (IsText : List ℕ → Type 0) (F : Type 0) → F → Tells k q IsText → Tells k (record q { Fits = F }) IsText
fitting k q IsText F fits t = record { case = t.case; fits = fits; tree_of = t.tree_of; text_of = t.text_of; tiles = t.tiles; holds = t.holds }

module _ (all_at_least : UntilIsReachedByAll) (one_at_most : UntilIsBoundedForOne) (all_at_most : UntilIsBoundedForAll) (one_at_least : UntilIsReachedByOne) (same : CutOfNoneIsSame) (a : AskedModel) (k : CaseData) (is : k.model ≡ cut a) (case : IsCase k) where
  after : k.model ≡ restricted a.read (safe_states a)
  after = is ∙ cut_by same a.read a.safe

  -- what a certificate says holds
  says : (spans : Spans) (l : PropertyLeaf) → IsInside k.root spans → IsBest k spans l → (v : Valuation) → Inside k.d spans v → SaysOfUntil a.read (safe_states a) k.w v (Some l)
  says spans (PropertyLeaf.upper x) inside best = all_at_most a.read (safe_states a) k spans x after case inside best.upper
  says spans (PropertyLeaf.upper_one x picks) inside best = one_at_most a.read (safe_states a) k spans x picks after case inside best.upper
  says spans (PropertyLeaf.lower r) inside best = one_at_least a.read (safe_states a) k spans r after case inside best.holds
  says spans (PropertyLeaf.lower_all r) inside best = all_at_least a.read (safe_states a) k spans r after case inside best.holds

  pub leaf_holds : (op : Op) (bound : Bound) (spans : Spans) (l : PropertyLeaf) → IsInside k.root spans → DecidesFor k op bound spans l → HoldsFor a k op bound (record { spans = spans; leaf = Some l })
  leaf_holds op bound spans l inside r = record { says = says spans l inside r.0; settles = r.1 }

module _ (all_at_least : UntilIsReachedByAll) (one_at_most : UntilIsBoundedForOne) (all_at_most : UntilIsBoundedForAll) (one_at_least : UntilIsReachedByOne) (same : CutOfNoneIsSame) (lower : LowerPrecisionIsCase) (a : AskedModel) (k : CaseData) (is : k.model ≡ cut a) (case : IsTestedCase k) where
  -- what a leaf of a range says holds at its own precision
  range_leaf_holds : (v : ℕ) → Between 1 k.w v → (op : Op) (bound : Bound) (spans : Spans) (depth : ℕ) (l : RangeLeaf) → IsAtDepth k depth spans → DecidesOver k v op bound spans l → HoldsOver a k op bound (record { spans = spans; leaf = Some l })
  range_leaf_holds v range op bound spans depth l inside r =
      let own : IsCase (at k l.u) = lower k l.u case.case (omega (arith, range.0, r.between.0)) r.between.1 in
      leaf_holds all_at_least one_at_most all_at_most one_at_least same a (at k l.u) is own op bound spans l.certificate inside.inside r.decides

  -- the text tells what is asked
  pub tells_property : RootIsAtDepth → HalvesAreDeeper → TreesTile → LiveHasSpan → (from : Option ℕ) → IfSome from (Between 1 k.w) → (op : Op) (bound : Bound)
      → Tells k (property_question a k from op bound) (IsHeaded (concat (property_head k from op bound)) (IsAskedText k from op bound k.root 0))
  tells_property root deeper tile live None range op bound =
      tells root deeper tile live (DecidesFor k op bound) (IsOpenFor k op bound) k case (HoldsFor a k op bound) (concat (property_head k None op bound)) (tree_text k op)
      (λ spans depth l inside. leaf_holds all_at_least one_at_most all_at_most one_at_least same a k is case.case op bound spans l inside.inside) (λ spans undecided. record { says = λ v inside. tt; settles = tt })
  tells_property root deeper tile live (Some v) range op bound =
      fitting k _ _ (Between 1 k.w v) range
      (tells root deeper tile live (DecidesOver k v op bound) (IsOpenOver k v op bound) k case (HoldsOver a k op bound) (concat (property_head k (Some v) op bound)) (range_tree_text k op) (range_leaf_holds v range op bound) (λ spans undecided. tt))
