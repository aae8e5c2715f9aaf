use Rattle.std.proofs.Common.{◌≡◌, ◌+◌, ◌<◌, ◌≤◌, [], List, ℕ, length, get_or, set, refl, sym, ap, ◌∙◌, subst, arith}
use Rattle.std.proofs.lemmas.List.{get_or_default}
use Rattle.std.proofs.lemmas.List.Sorted.{IsNonDecreasingBy-from_sort}
use Rattle.lift_poly.specs.Polynomial.{Term}
use Rattle.lift_lump.specs.Search.{number_at}
use Rattle.lift_lump.proofs.Adding.{AreTaken, taken_none, taken_more, taken_all, visited_sorted}
use Rattle.lift_lump.proofs.sums.Sums.take.Goals as goal

pub loop-i-init : goal.loop-i-init
loop-i-init c = record {
  same = refl;
  zero = c.requires.zero;
  taken = taken_none c.args.self.now.of_blocks.items c.sort_unstable.new.self.items c.in_ok-entries.entries.items c.in_ok-entries.ensures.items;
}

pub take_one-requires-clause-block : goal.take_one-requires-clause-block
take_one-requires-clause-block c =
    let visited = c.sort_unstable.new.self.items in
    let sums0 = c.args.self.now.of_blocks.items in
    let are = visited_sorted sums0 c.args.self.now.visited.items visited c.sort_unstable.ensures.permutation c.requires.visited in
    let i_in : c.loop-i.i < length visited = subst (λ n. c.loop-i.i < n) (c.len-i-end.ensures ∙ c.sort_unstable.new.self.ok.0) c.loop-i-test.true in
    let is : c.index-block.result.now ≡ get_or visited c.loop-i.i c.index-block.result.now = c.index-block.ensures ∙ ap (λ (xs : List ℕ). get_or xs c.loop-i.i c.index-block.result.now) c.loop-i.invariant.same in
    let b = are.blocks c.loop-i.i c.index-block.result.now i_in in
    let count = c.loop-i.invariant.taken.count in
    omega (arith, is, b, count)

pub loop-i-preserved : goal.loop-i-preserved
loop-i-preserved c =
    let visited = c.sort_unstable.new.self.items in
    let sums0 = c.args.self.now.of_blocks.items in
    let i = c.loop-i.i in
    let b = c.index-block.result.now in
    let are = visited_sorted sums0 c.args.self.now.visited.items visited c.sort_unstable.ensures.permutation c.requires.visited in
    let i_in : i < length visited = subst (λ n. i < n) (c.len-i-end.ensures ∙ c.sort_unstable.new.self.ok.0) c.loop-i-test.true in
    let is : b ≡ get_or visited i b = c.index-block.ensures ∙ ap (λ (xs : List ℕ). get_or xs i b) c.loop-i.invariant.same in
    let at : number_at visited i ≡ b = get_or_default visited i 0 b i_in ∙ sym is in
    let sorted = IsNonDecreasingBy-from_sort (λ x. x) visited c.sort_unstable.ensures.sorted in
    let step = taken_more sums0 visited are sorted i b c.loop-i.self.of_blocks.items c.loop-i.entries.items i_in at c.loop-i.invariant.taken in
    record {
      same = c.in_ok-take_one.ensures.visited ∙ c.loop-i.invariant.same;
      zero = c.in_ok-take_one.ensures.zero ∙ c.loop-i.invariant.zero;
      taken = subst (λ (ss : List (List Term)). AreTaken sums0 visited (i + 1) ss c.take_one.new.entries.items) (sym c.in_ok-take_one.ensures.sums)
          (subst (AreTaken sums0 visited (i + 1) (set c.loop-i.self.of_blocks.items b [])) (sym c.in_ok-take_one.ensures.entries) step);
    }

pub returns : goal.returns
returns c =
    let visited = c.sort_unstable.new.self.items in
    let sums0 = c.args.self.now.of_blocks.items in
    let are = visited_sorted sums0 c.args.self.now.visited.items visited c.sort_unstable.ensures.permutation c.requires.visited in
    let past : length visited ≤ c.loop-i.i = subst (λ n. n ≤ c.loop-i.i) (c.len-i-end.ensures ∙ c.sort_unstable.new.self.ok.0) c.loop-i-test.false in
    let sorted = IsNonDecreasingBy-from_sort (λ x. x) visited c.sort_unstable.ensures.sorted in
    let all = taken_all sums0 visited are sorted c.loop-i.i c.loop-i.self.of_blocks.items c.loop-i.entries.items past c.loop-i.invariant.taken in
    record {
      entries = all.0;
      none = record { count = c.loop-i.invariant.taken.count; none = all.1; visited = c.clear.ensures.items; zero = c.loop-i.invariant.zero };
    }
