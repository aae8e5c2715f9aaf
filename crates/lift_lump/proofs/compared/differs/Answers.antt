use Rattle.std.proofs.Common.{◌≡◌, ℕ, ◌<◌, Bool, true, false, not, List, ◌∷◌, [], Vec, length, map, get_or, sym, ap, ◌∙◌, subst, arith, rules}
use Rattle.std.specs.declared.alloc.Global.{Global}
use Rattle.std.proofs.lemmas.List.{get_or_default, get_or-map, length-map}
use Rattle.lift_model.specs.declared.entry.Entry.{Entry}
use Rattle.lift_model.specs.Model.{ModelData, is_goal}
use Rattle.lift_lump.specs.Quotient.{Blocks, block, first, AreNumbered, quotient, quotient_row}
use Rattle.lift_lump.specs.Comparing.{blocks_of}
use Rattle.lift_lump.proofs.compared.differs.Goals as goal

abbrev Rows : Type 0
Rows = List (Vec (List Entry) Global)

read : (xs : List ℕ) (i x : ℕ) → i < length xs → x ≡ get_or xs i x → x ≡ get_or xs i 0
read xs i x lt is = is ∙ get_or_default xs i x 0 lt

module _ (m : ModelData) (p : Blocks) (rows : Rows) (rows_are : map (λ (v : Vec (List Entry) Global). v.items) rows ≡ (quotient m p).states) (numbered : AreNumbered (length m.states) p) (s b : ℕ) (s_in : s < length m.states) (block_read : b ≡ get_or p.of_states s b) where
  block_is : b ≡ block p s
  block_is = read p.of_states s b (let count = numbered.count in omega (arith, s_in, count)) block_read

  b_in : b < length p.firsts
  b_in = subst (λ k. k < length p.firsts) (sym block_is) (numbered.inside s s_in).0

  b_row : b < length rows
  b_row = let same = ap (length {A = List (List Entry)}) rows_are in omega (arith, b_in, same, length-map rows (λ (v : Vec (List Entry) Global). v.items), length-map p.firsts (λ f. quotient_row m p f ∷ []))

  first_is : (f : ℕ) → f ≡ get_or p.firsts b f → f ≡ first p (block p s)
  first_is f is = read p.firsts b f b_in is ∙ ap (first p) block_is

  row_is : (v : Vec (List Entry) Global) → v ≡ get_or rows b v → v.items ≡ quotient_row m p (first p (block p s)) ∷ []
  row_is v is =
      ap (λ (x : Vec (List Entry) Global). x.items) is
      ∙ sym (get_or-map (λ (x : Vec (List Entry) Global). x.items) rows b v [] b_row)
      ∙ ap (λ (xs : List (List (List Entry))). get_or xs b []) rows_are
      ∙ get_or-map (λ f. quotient_row m p f ∷ []) p.firsts b 0 [] b_in
      ∙ ap (λ k. quotient_row m p (first p k) ∷ []) block_is

  entries_are : (v : Vec (List Entry) Global) (row : List Entry) → v ≡ get_or rows b v → row ≡ get_or v.items 0 row → row ≡ quotient_row m p (first p (block p s))
  entries_are v row is at = at ∙ ap (λ (xs : List (List Entry)). get_or xs 0 row) (row_is v is)

not_false : (b : Bool) → not b ≡ false → b ≡ true
not_false true e = cc
not_false false e = absurd (let f : true ≡ false = e in cc)

false_not : (b : Bool) → b ≡ true → not b ≡ false
false_not true e = cc
false_not false e = absurd (cc)

pub index-requires-2 : goal.index-requires-2
index-requires-2 c =
    let found = c.args.found.now in
    let items = row_is c.args.model.now (blocks_of found.blocks) found.rows.items c.requires.rows c.requires.numbered c.args.s c.index-block.result.now c.requires.state c.index-block.ensures c.index.result.now c.index.ensures in
    let size = ap (length {A = List Entry}) items in
    let len = c.index.result.now.ok.0 in
    omega (arith, size, len)

pub returns-else-is_goal-clause-like : goal.returns-else-is_goal-clause-like
returns-else-is_goal-clause-like c = λ e.
    let m = c.args.model.now in
    let found = c.args.found.now in
    let p = blocks_of found.blocks in
    let least = first_is m p found.rows.items c.requires.rows c.requires.numbered c.args.s c.index-block.result.now c.requires.state c.index-block.ensures c.index-first.result.now c.index-first.ensures in
    let of_block = c.entries-of_block.ensures ∙ entries_are m p found.rows.items c.requires.rows c.requires.numbered c.args.s c.index-block.result.now c.requires.state c.index-block.ensures c.index.result.now c.index-2.result.now c.index.ensures c.index-2.ensures in
    let same : c.is_goal.result ≡ c.is_goal-2.result = search rules in
    record {
      goal = sym c.is_goal.ensures ∙ same ∙ c.is_goal-2.ensures ∙ ap (is_goal m) least;
      row = sym c.requires.row ∙ c.are_same.ensures.same (not_false c.are_same.result e) ∙ of_block;
    }

pub returns-else-is_goal-clause-other : goal.returns-else-is_goal-clause-other
returns-else-is_goal-clause-other c = λ like.
    let m = c.args.model.now in
    let found = c.args.found.now in
    let p = blocks_of found.blocks in
    let of_block = c.entries-of_block.ensures ∙ entries_are m p found.rows.items c.requires.rows c.requires.numbered c.args.s c.index-block.result.now c.requires.state c.index-block.ensures c.index.result.now c.index-2.result.now c.index.ensures c.index-2.ensures in
    false_not c.are_same.result (c.are_same.ensures.other (c.requires.row ∙ like.row ∙ sym of_block))
