use Rattle.std.proofs.Common.{◌≡◌, ◌≢◌, ℕ, ◌-◌, ◌^◌, ◌<◌, ◌≤◌, List, length, ◌++◌, get_or, take, drop, true, pos, sym, ap, ap₂, ◌∙◌, subst, arith, rules, append_assoc}
use Rattle.std.specs.List.{list_any}
use Rattle.std.specs.List.Sorted.{IsPermutation}
use Rattle.std.proofs.lemmas.Nat.{mul-le}
use Rattle.std.proofs.lemmas.List.{take_all, take_at, drop_at, length-take, length-drop}
use Rattle.std.proofs.lemmas.List.Sorted.{IsNonDecreasingBy-from_sort_by_key}
use Rattle.std.proofs.lemmas.Grind.{common_steps}
use Rattle.lift_poly.specs.Polynomial.{Term}
use Rattle.lift_poly.specs.Arithmetic.{products_of, products, product}
use Rattle.lift_poly.specs.MultiAffine.{IsMultiAffine, is_wide}
use Rattle.lift_poly.specs.declared.error.PolyError.TheVariants.{Memory}
use Rattle.lift_poly.proofs.Answers.{none_wide}
use Rattle.lift_poly.proofs.Lookup.{length_le}
use Rattle.lift_poly.proofs.Products.{products_more, products_fit_more, first_and_others, wide_behind, wide_first, sorted_rows}
use Rattle.lift_poly.proofs.terms.products_by_rows.Goals as goal
use Rattle.lift_poly.proofs.terms.products_by_rows.Goals.{In_ok-sort_by_key}

pub overflow_mul-count : goal.overflow_mul-count
overflow_mul-count c =
    let right = c.args.right.now in
    let rows : length (take (length right - 1) (drop 1 right)) ≤ 2 ^ 16 = omega (arith, length_le right c.requires.right, length-take (length right - 1) (drop 1 right)) in
    let count : c.len-count.result ≤ 2 ^ 16 = omega (arith, length_le c.args.left.items c.requires.left, c.len-count.ensures, c.args.left.ok) in
    let bound = mul-le c.len-count.result (length (take (length right - 1) (drop 1 right))) (2 ^ 16) (2 ^ 16) count rows in
    search rules

-- the terms of the left stand in front
front_at : (items left rows : List Term) (count : ℕ) → items ≡ left ++ rows → length left ≡ count → (take count items ≡ left) × (drop count items ≡ rows)
front_at items left rows count e n = (ap (take count) e ∙ take_at left rows count n, ap (drop count) e ∙ drop_at left rows count n)

pub returns-in_err-push_row-clause-causes : goal.returns-in_err-push_row-clause-causes
returns-in_err-push_row-clause-causes c =
    let right = c.args.right.now in
    let others = take (length right - 1) (drop 1 right) in
    let count : length c.reserve.new.self.items ≡ c.len-count.result = omega (arith, ap length c.in_ok-reserve.ensures.items, c.args.left.ok, c.len-count.ensures) in
    let front = (front_at c.loop-term.products.items c.reserve.new.self.items _ c.len-count.result c.loop-term.invariant.0 count).0 ∙ c.in_ok-reserve.ensures.items in
    let split = first_and_others right (0, pos 0) (omega (arith, c.loop-term-test.true, length-take (length right - 1) (drop 1 right), length-drop 1 right)) in
    let wide : c.in_err-push_row.field-0.0 ≢ Memory → list_any is_wide (product right c.args.left.items) ≡ true =
    λ ne. wide_behind c.args.left.items right others _ c.loop-term.term-index (0, pos 0) split c.requires.left c.requires.right c.requires.apart c.loop-term-test.true
    (sym (ap (λ us. list_any is_wide (products_of (get_or others c.loop-term.term-index (0, pos 0)) us)) front) ∙ (c.in_err-push_row.ensures.causes ne).1) in
    grind (arith, common_steps)

pub loop-term-preserved : goal.loop-term-preserved
loop-term-preserved c =
    let right = c.args.right.now in
    let others = take (length right - 1) (drop 1 right) in
    let left = c.reserve.new.self.items in
    let term = get_or others c.loop-term.term-index (0, pos 0) in
    let count : length left ≡ c.len-count.result = omega (arith, ap length c.in_ok-reserve.ensures.items, c.args.left.ok, c.len-count.ensures) in
    let front = (front_at c.loop-term.products.items left _ c.len-count.result c.loop-term.invariant.0 count).0 in (
      c.in_ok-push_row.ensures.products ∙ ap₂ (λ us ws. us ++ products_of term ws) c.loop-term.invariant.0 front
          ∙ append_assoc left (products (take c.loop-term.term-index others) left) (products_of term left)
          ∙ ap (λ us. left ++ us) (sym (products_more others left c.loop-term.term-index (0, pos 0) c.loop-term-test.true)),
      products_fit_more others left c.loop-term.term-index (0, pos 0) c.loop-term-test.true c.loop-term.invariant.1 (sym (ap (λ us. list_any is_wide (products_of term us)) front) ∙ c.in_ok-push_row.ensures.fits),
    )

pub multiply_row-requires-clause-narrow : goal.multiply_row-requires-clause-narrow
multiply_row-requires-clause-narrow c =
    let count : length c.reserve.new.self.items ≡ c.len-count.result = omega (arith, ap length c.in_ok-reserve.ensures.items, c.args.left.ok, c.len-count.ensures) in
    let front = (front_at c.loop-term.products.items c.reserve.new.self.items _ c.len-count.result c.loop-term.invariant.0 count).0 ∙ c.in_ok-reserve.ensures.items in
    ap (list_any is_wide) front ∙ none_wide c.args.left.items c.requires.left

pub returns-in_err-multiply_row-clause-causes : goal.returns-in_err-multiply_row-clause-causes
returns-in_err-multiply_row-clause-causes c =
    let right = c.args.right.now in
    let others = take (length right - 1) (drop 1 right) in
    let some : 0 < length right = search rules in
    let count : length c.reserve.new.self.items ≡ c.len-count.result = omega (arith, ap length c.in_ok-reserve.ensures.items, c.args.left.ok, c.len-count.ensures) in
    let front = (front_at c.loop-term.products.items c.reserve.new.self.items _ c.len-count.result c.loop-term.invariant.0 count).0 ∙ c.in_ok-reserve.ensures.items in
    let split = first_and_others right (0, pos 0) some in
    let wide : list_any is_wide (product right c.args.left.items) ≡ true =
    wide_first c.args.left.items right others (get_or right 0 (0, pos 0)) split c.requires.left c.requires.right c.requires.apart
    (sym (ap (λ us. list_any is_wide (products_of (get_or right 0 (0, pos 0)) us)) front) ∙ c.in_err-multiply_row.ensures.causes.1) in
    grind (arith, common_steps)

-- the products, once they are sorted, are the product
sorted : (c : In_ok-sort_by_key) → IsMultiAffine c.sort_by_key.new.self.items × (c.sort_by_key.new.self.items ≡ product c.args.right.now c.args.left.items)
sorted c =
    let right = c.args.right.now in
    let others = take (length right - 1) (drop 1 right) in
    let left = c.reserve.new.self.items in
    let first = get_or right 0 (0, pos 0) in
    let some : 0 < length right = search rules in
    let same = c.in_ok-reserve.ensures.items in
    let count : length left ≡ c.len-count.result = omega (arith, ap length same, c.args.left.ok, c.len-count.ensures) in
    let whole = take_all c.loop-term.term-index others c.loop-term-test.false in
    let parts = front_at c.loop-term.products.items left _ c.len-count.result c.loop-term.invariant.0 count in
    let front = parts.0 ∙ same in
    let behind = parts.1 ∙ ap₂ products whole same in
    let all = c.in_ok-multiply_row.ensures.products ∙ ap₂ (λ us ws. products_of first us ++ ws) front behind in
    sorted_rows c.args.left.items right others c.sort_by_key.new.self.items first (first_and_others right (0, pos 0) some) c.requires.left c.requires.right c.requires.apart
    (sym (ap (λ us. list_any is_wide (products_of first us)) front) ∙ c.in_ok-multiply_row.ensures.fits)
    (sym (ap₂ (λ ts us. list_any is_wide (products ts us)) whole same) ∙ c.loop-term.invariant.1)
    (subst (λ ts. IsPermutation ts c.sort_by_key.new.self.items) all c.sort_by_key.ensures.permutation)
    (IsNonDecreasingBy-from_sort_by_key (λ t. t.0) _ c.in_ok-sort_by_key.ensures.sorted (λ a r q k. search rules))

pub returns-clause-product : goal.returns-clause-product
returns-clause-product c = (sorted c).1

pub returns-clause-fits : goal.returns-clause-fits
returns-clause-fits c = (sorted c).0
