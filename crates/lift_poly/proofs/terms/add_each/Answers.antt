use Rattle.std.proofs.Common.{◌≡◌, ◌<◌, ◌≤◌, ◌+ℤ◌, ◌++◌, [], length, take, true, false, pos, get_or, FitsSigned, inl, refl, sym, ap, ap₂, ◌∙◌, arith, rules}
use Rattle.std.specs.Int.{w128}
use Rattle.std.specs.List.{list_any}
use Rattle.std.proofs.lemmas.Grind.{common_steps}
use Rattle.std.proofs.lemmas.Int.{to_z-of_z}
use Rattle.std.proofs.lemmas.List.{drop_all, append-nil}
use Rattle.lift_poly.specs.Polynomial.{Term}
use Rattle.lift_poly.specs.Arithmetic.{kept, sum}
use Rattle.lift_poly.specs.MultiAffine.{IsMultiAffine, is_wide}
use Rattle.lift_poly.proofs.Merging.{merging_none, small_from, merging_both_at, merging_wide_at, merged_all, sum_fits_at, next_behind, read_behind, same_behind, same_length, same_set}
use Rattle.lift_poly.proofs.terms.add_each.Goals as goal
use Rattle.lift_poly.proofs.terms.add_each.Goals.{After-truncate}

pub loop-i-init : goal.loop-i-init
loop-i-init c = record {
  before = omega arith;
  len = refl;
  behind = refl;
  merging = merging_none c.args.terms.now.items c.args.others.now c.requires.left c.requires.right;
}

pub overflow_add-term : goal.overflow_add-term
overflow_add-term c =
    let ts = c.args.terms.now.items in
    let us = c.args.others.now in
    let x = c.index-term.result.now in
    let f : FitsSigned w128 x.1 = search rules in
    let g : FitsSigned w128 (get_or us c.loop-i.i (0, pos 0)).1 = search rules in
    let there = read_behind c.loop-i.terms.items ts us c.loop-i.i x (0, pos 0) c.loop-i.invariant.behind c.loop-i.invariant.len c.requires.sets c.loop-i-test.true c.index-term.ensures in
    simp to_z-of_z (sum_fits_at ts us c.loop-i.i x (0, pos 0) c.requires.left c.requires.right c.requires.sets c.loop-i-test.true there)

pub returns-in_err-coefficient-clause-causes : goal.returns-in_err-coefficient-clause-causes
returns-in_err-coefficient-clause-causes c =
    let ts = c.args.terms.now.items in
    let us = c.args.others.now in
    let x = c.index-term.result.now in
    let y = get_or us c.loop-i.i (0, pos 0) in
    let f : FitsSigned w128 x.1 = search rules in
    let g : FitsSigned w128 y.1 = search rules in
    let there = read_behind c.loop-i.terms.items ts us c.loop-i.i x (0, pos 0) c.loop-i.invariant.behind c.loop-i.invariant.len c.requires.sets c.loop-i-test.true c.index-term.ensures in
    let h : FitsSigned w128 (x.1 +ℤ y.1) = sum_fits_at ts us c.loop-i.i x (0, pos 0) c.requires.left c.requires.right c.requires.sets c.loop-i-test.true there in
    let test : is_wide (0, x.1 +ℤ y.1) ≡ true = simp to_z-of_z at c.in_err-coefficient.ensures.wide.1 in
    let wide : list_any is_wide (sum ts us) ≡ true =
    merging_wide_at ts us (take c.loop-i.end c.loop-i.terms.items) c.loop-i.i c.loop-i.i (0, pos 0) c.loop-i.invariant.merging (omega (arith, c.loop-i-test.true, same_length ts us c.requires.sets)) c.loop-i-test.true
    (same_set ts us c.loop-i.i (0, pos 0) c.requires.sets c.loop-i-test.true) (ap (λ (t : Term). is_wide (0, t.1 +ℤ y.1)) (sym there) ∙ test) in
    grind (arith, common_steps)

pub keep_term-end-requires : goal.keep_term-end-requires
keep_term-end-requires c = omega (arith, c.loop-i.invariant.before, c.loop-i.invariant.len, c.loop-i-test.true, same_length c.args.terms.now.items c.args.others.now c.requires.sets)

pub loop-i-preserved : goal.loop-i-preserved
loop-i-preserved c =
    let ts = c.args.terms.now.items in
    let us = c.args.others.now in
    let x = c.index-term.result.now in
    let y = get_or us c.loop-i.i (0, pos 0) in
    let items = c.loop-i.terms.items in
    let inside : c.loop-i.i < length ts = omega (arith, c.loop-i-test.true, same_length ts us c.requires.sets) in
    let within : c.loop-i.i < length items = omega (arith, inside, c.loop-i.invariant.len) in
    let f : FitsSigned w128 x.1 = search rules in
    let g : FitsSigned w128 y.1 = search rules in
    let there = read_behind items ts us c.loop-i.i x (0, pos 0) c.loop-i.invariant.behind c.loop-i.invariant.len c.requires.sets c.loop-i-test.true c.index-term.ensures in
    let h : FitsSigned w128 (x.1 +ℤ y.1) = sum_fits_at ts us c.loop-i.i x (0, pos 0) c.requires.left c.requires.right c.requires.sets c.loop-i-test.true there in
    let number : c.in_ok-coefficient.coefficient ≡ x.1 +ℤ y.1 = simp to_z-of_z at c.in_ok-coefficient.ensures.value.0 in
    let fits : is_wide (0, x.1 +ℤ y.1) ≡ false = simp to_z-of_z at c.in_ok-coefficient.ensures.value.1 in
    let k : FitsSigned w128 c.in_ok-coefficient.coefficient = search rules in
    let put : take c.keep_term-end.result c.keep_term-end.new.terms.items ≡ take c.loop-i.end items ++ kept (x.0, c.in_ok-coefficient.coefficient) [] = simp to_z-of_z at c.keep_term-end.ensures.front in
    record {
      before = omega (arith, c.loop-i.invariant.before, c.keep_term-end.ensures.behind);
      len = c.keep_term-end.ensures.len ∙ c.loop-i.invariant.len;
      behind = same_behind items c.keep_term-end.new.terms.items c.loop-i.end c.loop-i.i c.loop-i.invariant.before c.keep_term-end.ensures.rest ∙ (next_behind items ts c.loop-i.i (0, pos 0) within inside c.loop-i.invariant.behind).1;
      merging = merging_both_at ts us (take c.loop-i.end items) (take c.keep_term-end.result c.keep_term-end.new.terms.items) c.loop-i.i c.loop-i.i (0, pos 0) c.loop-i.invariant.merging inside c.loop-i-test.true
          (same_set ts us c.loop-i.i (0, pos 0) c.requires.sets c.loop-i-test.true) (small_from ts c.requires.left) (ap (λ (t : Term). is_wide (0, t.1 +ℤ y.1)) (sym there) ∙ fits)
          (put ∙ ap (λ z. take c.loop-i.end items ++ kept (x.0, z) []) number ∙ ap (λ (t : Term). take c.loop-i.end items ++ kept (t.0, t.1 +ℤ y.1) []) there);
    }

-- what is kept is the sum
kept_all : (c : After-truncate) → IsMultiAffine c.truncate.new.self.items × (c.truncate.new.self.items ≡ sum c.args.terms.now.items c.args.others.now)
kept_all c =
    let ts = c.args.terms.now.items in
    let us = c.args.others.now in
    let done = take c.loop-i.end c.loop-i.terms.items in
    let end : length ts ≤ c.loop-i.i = omega (arith, c.loop-i-test.false, same_length ts us c.requires.sets) in
    let rest = ap₂ (λ ws vs. (done ++ ws) ++ vs) (drop_all c.loop-i.i ts end) (drop_all c.loop-i.i us c.loop-i-test.false) ∙ append-nil (done ++ []) ∙ append-nil done in
    merged_all ts us done c.truncate.new.self.items c.loop-i.i c.loop-i.i c.loop-i.invariant.merging (inl end) (small_from ts c.requires.left) (small_from us c.requires.right) (c.truncate.ensures.items ∙ sym rest)

pub returns-clause-sum : goal.returns-clause-sum
returns-clause-sum c = (kept_all c).1

pub returns-clause-fits : goal.returns-clause-fits
returns-clause-fits c = (kept_all c).0
