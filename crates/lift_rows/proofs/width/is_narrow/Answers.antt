use Rattle.std.proofs.Common.{◌≡◌, ℕ, ◌+◌, ◌-◌, ◌<◌, List, take, length, get_or, ℤ, pos, SFits, to_z, of_z, to_z-of_z, unsigned_abs, rules, arith, refl, ap, sym, ◌∙◌}
use mir.Syntax.{w128}
use Rattle.std.proofs.lemmas.Bool.{false≢true}
use Rattle.std.proofs.lemmas.List.{take_all}
use Rattle.std.proofs.lemmas.List.Sums.{sum_by_more, sum_by-take-le}
use Rattle.lift_poly.specs.Arithmetic as polynomial
use Rattle.lift_model.specs.declared.entry.Entry.{Entry}
use Rattle.corner_lift.specs.Case.{abs_sum}
use Rattle.lift_rows.proofs.width.is_narrow.Goals as goal

-- one entry more, its size as the code has it
summed : (row : List Entry) (i : ℕ) (e : Entry) (size : ℤ) → SFits w128 size → i < length row → e ≡ get_or row i e → size ≡ pos (polynomial.abs_sum e.poly)
    → abs_sum (take (i + 1) row) ≡ abs_sum (take i row) + unsigned_abs (to_z w128 (of_z w128 size))
summed row i e size fits lt is same =
    rw (to_z-of_z fits, same) (sum_by_more (λ (x : Entry). polynomial.abs_sum x.poly) row i e lt ∙ ap (λ (x : Entry). abs_sum (take i row) + polynomial.abs_sum x.poly) (sym is))

pub loop-entry-init : goal.loop-entry-init
loop-entry-init c = let none : 0 + c.limit_of-left.result ≡ c.limit_of-left.result = omega arith in rw none c.limit_of-left.ensures

pub returns-then-size-left : goal.returns-then-size-left
returns-then-size-left c =
    let row = c.args.row.now in
    let row_is = c.entries-entry-items.ensures in
    let more = summed row _ _ _ (search rules) (rw row_is at c.loop-entry-test.true) (rw row_is at c.entry-item.is) (rw c.deref.ensures at c.abs_sum-size.ensures) in
    let within = sum_by-take-le (λ (x : Entry). polynomial.abs_sum x.poly) row (c.loop-entry.entry-index + 1) in
    (λ never. absurd (false≢true never), λ narrow. absurd (omega (arith, more, within, (c.loop-entry.invariant (abs_sum row)).1 (rw c.requires.count narrow))))

pub loop-entry-preserved : goal.loop-entry-preserved
loop-entry-preserved c =
    let row = c.args.row.now in
    let row_is = c.entries-entry-items.ensures in
    let more = summed row _ _ _ (search rules) (rw row_is at c.loop-entry-test.true) (rw row_is at c.entry-item.is) (rw c.deref.ensures at c.abs_sum-size.ensures) in
    let same : abs_sum (take (c.loop-entry.entry-index + 1) row) + (c.loop-entry.left - unsigned_abs (to_z w128 (of_z w128 c.abs_sum-size.result))) ≡ abs_sum (take c.loop-entry.entry-index row) + c.loop-entry.left =
    omega (arith, more) in
    rw same c.loop-entry.invariant

pub returns : goal.returns
returns c =
    let row = c.args.row.now in
    let all : take c.loop-entry.entry-index row ≡ row = take_all c.loop-entry.entry-index row (rw c.entries-entry-items.ensures at c.loop-entry-test.false) in
    let at = (c.loop-entry.invariant (abs_sum row)).0 in
    (λ _. rw (← c.requires.count) (at (omega (arith, ap abs_sum all))), λ _. refl)
