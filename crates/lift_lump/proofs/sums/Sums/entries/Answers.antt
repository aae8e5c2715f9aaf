use Rattle.std.proofs.Common.{◌≡◌, ◌+◌, ◌<◌, List, ℕ, All, length, get_or, sym, ap, ◌∙◌, subst, arith}
use Rattle.lift_model.specs.declared.entry.Entry.{Entry}
use Rattle.lift_lump.specs.Search.{number_at}
use Rattle.lift_lump.specs.Summing.{entries_of, AreNone}
use Rattle.lift_lump.proofs.Adding.{AreSumsOf, sums_none, sums_more, sums_all, visited_none}
use Rattle.lift_lump.proofs.sums.Sums.entries.Goals as goal

pub loop-entry-init : goal.loop-entry-init
loop-entry-init c =
    let self = c.args.self.now in
    record {
      sums = sums_none (number_at c.args.blocks.now) c.args.row.now self.of_blocks.items c.requires.none.none;
      visited = visited_none self.of_blocks.items c.requires.none.none self.visited.items c.requires.none.visited;
      zero = c.requires.none.zero;
    }

target_of : (blocks : List ℕ) (row : List Entry) (i : ℕ) (entry : Entry) → get_or row i entry ≡ entry → i < length row → All (λ (e : Entry). e.target < length blocks) row → entry.target < length blocks
target_of blocks row i entry is lt all = subst (λ (e : Entry). e.target < length blocks) is (all i entry lt)

pub add-requires-clause-block : goal.add-requires-clause-block
add-requires-clause-block c =
    let entry : Entry = c.entry-item.result in
    let target = target_of c.args.blocks.now c.args.row.now c.loop-entry.entry-index entry (sym c.entry-item.is) c.loop-entry-test.true c.requires.targets in
    let low = c.requires.blocks entry.target 0 target in
    let size = c.loop-entry.invariant.sums.size in
    omega (arith, low, size)

pub loop-entry-preserved : goal.loop-entry-preserved
loop-entry-preserved c =
    let laws = c.coefficients_determine.ensures in
    let blocks = c.args.blocks.now in
    let row = c.args.row.now in
    let i = c.loop-entry.entry-index in
    let entry : Entry = c.entry-item.result in
    let old = c.loop-entry.self.of_blocks.items in
    let count = length c.args.self.now.of_blocks.items in
    let target = target_of blocks row i entry (sym c.entry-item.is) c.loop-entry-test.true c.requires.targets in
    let low = c.requires.blocks entry.target 0 target in
    record {
      sums = subst (AreSumsOf (number_at blocks) row (i + 1) count) (sym c.in_ok-add.ensures.sums)
          (sums_more laws.polynomial laws.coefficients laws.unique (number_at blocks) row i count entry old c.loop-entry-test.true (sym c.entry-item.is) low c.loop-entry.invariant.sums);
      visited = c.in_ok-add.ensures.visited;
      zero = c.in_ok-add.ensures.zero ∙ c.loop-entry.invariant.zero;
    }

pub returns : goal.returns
returns c =
    let blocks = c.args.blocks.now in
    let row = c.args.row.now in
    let sums = c.loop-entry.self.of_blocks.items in
    let count = length c.args.self.now.of_blocks.items in
    let size = c.loop-entry.invariant.sums.size in
    record {
      entries = c.in_ok-entries.ensures.entries ∙ ap (entries_of sums) size ∙ sums_all (number_at blocks) row c.loop-entry.entry-index count sums c.loop-entry-test.false c.loop-entry.invariant.sums;
      none = subst (λ n. AreNone n c.take.new.self.of_blocks.items c.take.new.self.visited.items c.take.new.self.zero) size c.in_ok-entries.ensures.none;
    }
