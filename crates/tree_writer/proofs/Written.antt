-- What a walk comes to that writes the nodes of a tree.
use Rattle.std.proofs.Common.{ℕ, List, refl, sym, subst, Option, Result, Ok, Err, IfOk}
use Rattle.std.specs.Io.KnownBytes.{Appends}
use Rattle.lift_base.specs.Outside.{AppendsFront, WroteSome}
use Rattle.lift_grid.specs.Rectangle.{Spans}
use Rattle.corner_lift.specs.Case.{CaseData}
use Rattle.lift_walk.specs.Halved.{Halved, IsRightBy}
use Rattle.lift_walk.specs.Shown.{Shows}
use Rattle.tree_writer.specs.Text.{IsTreeText, tree_text}

-- the text of a right tree was written
pub written : {O T E Leaf : Type 0} (decides : Spans → Leaf → Type 0) (opens : Spans → Type 0) (leaf_text : Leaf → List ℕ) (k : CaseData) (spans : Spans) (depth : ℕ) (is_part : Halved Leaf → T → Type 0) (taken : O → Option (List ℕ)) (faults : O → ℕ) (old new : O) (result : Result T E)
    → Shows (IsRightBy decides opens k spans depth) is_part (tree_text leaf_text) taken faults old new result → WroteSome (IsTreeText decides opens leaf_text k spans depth) taken faults old new result
written decides opens leaf_text k spans depth is_part taken faults old new (Ok x) s = record {
  some = (tree_text leaf_text s.tree.0, (s.tree.0, (s.tree.1.0, refl)));
  whole = λ bytes text. subst (λ b. Appends (taken old) (taken new) b) (sym text.1.1) (s.whole text.0 text.1.0);
  part = tt;
  cause = tt;
  later = s.later;
}
written decides opens leaf_text k spans depth is_part taken faults old new (Err e) s = record {
  some = tt;
  whole = tt;
  part = λ bytes text. subst (λ b. AppendsFront (taken old) (taken new) b) (sym text.1.1) (s.part text.0 text.1.0);
  cause = s.cause;
  later = s.later;
}

-- what stands for a right tree was given
pub built : {O T E Leaf : Type 0} (decides : Spans → Leaf → Type 0) (opens : Spans → Type 0) (k : CaseData) (spans : Spans) (depth : ℕ) (is_part : Halved Leaf → T → Type 0) (P : T → Type 0) → ((t : Halved Leaf) (part : T) → IsRightBy decides opens k spans depth t → is_part t part → P part)
    → (text : Halved Leaf → List ℕ) (taken : O → Option (List ℕ)) (faults : O → ℕ) (old new : O) (result : Result T E) → Shows (IsRightBy decides opens k spans depth) is_part text taken faults old new result → IfOk result P
built decides opens k spans depth is_part P each text taken faults old new (Ok part) s = each s.tree.0 part s.tree.1.0 s.tree.1.1
built decides opens k spans depth is_part P each text taken faults old new (Err e) s = tt
