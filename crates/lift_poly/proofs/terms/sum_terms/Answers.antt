use Rattle.std.proofs.Common.{◌≡◌, ◌≢◌, ◌≤◌, ◌+ℤ◌, length, true, pos, get_or, inl, inr, ◌⊎◌, FitsSigned, arith, rules}
use Rattle.std.specs.Int.{w128}
use Rattle.std.specs.List.{list_any}
use Rattle.std.proofs.lemmas.Grind.{common_steps}
use Rattle.std.proofs.lemmas.Int.{to_z-of_z}
use Rattle.lift_poly.specs.Arithmetic.{sum}
use Rattle.lift_poly.specs.MultiAffine.{is_wide}
use Rattle.lift_poly.specs.declared.error.PolyError.TheVariants.{Memory}
use Rattle.lift_poly.proofs.Merging.{merging_none, small_from, merging_left_at, merging_right_at, merging_both_at, merging_wide_at, merged_all, sum_fits}
use Rattle.lift_poly.proofs.terms.sum_terms.Goals as goal
use Rattle.lift_poly.proofs.terms.sum_terms.Goals.{then-loop-i-test+else-j-right, else-loop-i-test}

pub loop-i-init : goal.loop-i-init
loop-i-init c = record {
  left_within = omega arith;
  right_within = omega arith;
  merging = rw c.in_ok-terms.ensures.items (merging_none c.args.left.now c.args.right.now c.requires.left c.requires.right);
}

pub loop-i-preserved-then-a-b : goal.loop-i-preserved-then-a-b
loop-i-preserved-then-a-b c = record {
  left_within = omega arith;
  right_within = omega arith;
  merging = merging_left_at c.args.left.now c.args.right.now c.loop-i.terms.items c.push_term.new.terms.items c.loop-i.i c.loop-i.j (0, pos 0)
      c.loop-i.invariant.merging c.loop-i-test.true c.if-j-right.true c.if-a-b.true (small_from c.args.left.now c.requires.left) c.in_ok-push_term.ensures;
}

pub loop-i-preserved-then-b-a : goal.loop-i-preserved-then-b-a
loop-i-preserved-then-b-a c = record {
  left_within = omega arith;
  right_within = omega arith;
  merging = merging_right_at c.args.left.now c.args.right.now c.loop-i.terms.items c.push_term-then-b-a.new.terms.items c.loop-i.i c.loop-i.j (0, pos 0)
      c.loop-i.invariant.merging c.loop-i-test.true c.if-j-right.true c.if-b-a.true (small_from c.args.right.now c.requires.right) c.in_ok-push_term-2.ensures;
}

pub returns-in_err-push_kept-clause-causes : goal.returns-in_err-push_kept-clause-causes
returns-in_err-push_kept-clause-causes c =
    let a = get_or c.args.left.now c.loop-i.i (0, pos 0) in
    let b = get_or c.args.right.now c.loop-i.j (0, pos 0) in
    let f : FitsSigned w128 a.1 = search rules in
    let g : FitsSigned w128 b.1 = search rules in
    let h : FitsSigned w128 (a.1 +ℤ b.1) = sum_fits a b (small_from c.args.left.now c.requires.left c.loop-i.i (0, pos 0) c.loop-i-test.true) (small_from c.args.right.now c.requires.right c.loop-i.j (0, pos 0) c.if-j-right.true) in
    let wide : c.in_err-push_kept.field-0.0 ≢ Memory → list_any is_wide (sum c.args.left.now c.args.right.now) ≡ true =
    λ ne.
    let test = simp to_z-of_z at (c.in_err-push_kept.ensures.causes ne).1 in
    merging_wide_at c.args.left.now c.args.right.now c.loop-i.terms.items c.loop-i.i c.loop-i.j (0, pos 0) c.loop-i.invariant.merging c.loop-i-test.true c.if-j-right.true (omega arith) test in
    grind (arith, common_steps)

pub loop-i-preserved : goal.loop-i-preserved
loop-i-preserved c =
    let a = get_or c.args.left.now c.loop-i.i (0, pos 0) in
    let b = get_or c.args.right.now c.loop-i.j (0, pos 0) in
    let f : FitsSigned w128 a.1 = search rules in
    let g : FitsSigned w128 b.1 = search rules in
    let h : FitsSigned w128 (a.1 +ℤ b.1) = sum_fits a b (small_from c.args.left.now c.requires.left c.loop-i.i (0, pos 0) c.loop-i-test.true) (small_from c.args.right.now c.requires.right c.loop-i.j (0, pos 0) c.if-j-right.true) in
    let fits = simp to_z-of_z at c.in_ok-push_kept.ensures.fits in
    let items = simp to_z-of_z at c.in_ok-push_kept.ensures.kept in
    record {
      left_within = omega arith;
      right_within = omega arith;
      merging = merging_both_at c.args.left.now c.args.right.now c.loop-i.terms.items c.push_kept.new.terms.items c.loop-i.i c.loop-i.j (0, pos 0)
          c.loop-i.invariant.merging c.loop-i-test.true c.if-j-right.true (omega arith) (small_from c.args.left.now c.requires.left) fits items;
    }

pub returns-clause-sum : goal.returns-clause-sum
returns-clause-sum c =
    let end : (length c.args.left.now ≤ c.loop-i.i) ⊎ (length c.args.right.now ≤ c.loop-i.j) =
    elim c.loop-i-test.branch [ then-loop-i-test+else-j-right w ↦ inr (omega arith) | else-loop-i-test w ↦ inl (omega arith) ] in
    (merged_all c.args.left.now c.args.right.now c.loop-i.terms.items c.extend_from_slice-2.new.self.items c.loop-i.i c.loop-i.j c.loop-i.invariant.merging end
    (small_from c.args.left.now c.requires.left) (small_from c.args.right.now c.requires.right) (grind (arith, common_steps))).1

pub returns-clause-fits : goal.returns-clause-fits
returns-clause-fits c =
    let end : (length c.args.left.now ≤ c.loop-i.i) ⊎ (length c.args.right.now ≤ c.loop-i.j) =
    elim c.loop-i-test.branch [ then-loop-i-test+else-j-right w ↦ inr (omega arith) | else-loop-i-test w ↦ inl (omega arith) ] in
    (merged_all c.args.left.now c.args.right.now c.loop-i.terms.items c.extend_from_slice-2.new.self.items c.loop-i.i c.loop-i.j c.loop-i.invariant.merging end
    (small_from c.args.left.now c.requires.left) (small_from c.args.right.now c.requires.right) (grind (arith, common_steps))).0
