use Rattle.std.proofs.Common.{◌≡◌, ◌<◌, ◌∷◌, [], List, length, get_or, sym, subst}
use Rattle.lift_poly.specs.Polynomial.{Term, weight}
use Rattle.lift_model.specs.declared.entry.Entry.{Entry}
use Rattle.lift_lump.specs.Search.{whole, AreEntered, IsCongruent}
use Rattle.lift_lump.proofs.Entering.{entered_one, entered_more}
use Rattle.lift_lump.proofs.arrows.enter_row.Goals as goal

pub loop-entry-preserved : goal.loop-entry-preserved
loop-entry-preserved c =
    let v = whole c.args.point.now in
    let row = c.args.row.now in
    let i = c.loop-entry.entry-index in
    let mid = c.loop-entry.lists in
    let entry : Entry = c.entry-item.result in
    let is : get_or row i entry ≡ entry = sym c.entry-item.is in
    let count = c.loop-entry.invariant.count in
    let target : entry.target < length mid = subst (λ n. entry.target < n) (sym count) (subst (λ (e : Entry). e.target < length c.args.lists.now) is (c.requires.targets i entry c.loop-entry-test.true)) in
    let state : c.args.s < length mid = subst (λ n. c.args.s < n) (sym count) c.requires.state in
    let mark = subst (λ (ts : List Term). IsCongruent c.mark_of-mark.result (weight v ts)) c.deref.ensures c.mark_of-mark.ensures.same in
    entered_more v c.args.s row i entry c.args.lists.now mid c.push.new.self c.loop-entry-test.true is c.loop-entry.invariant
    (subst (AreEntered v c.args.s (entry ∷ []) mid) (sym c.in_ok-push.ensures) (entered_one v c.args.s c.mark_of-mark.result entry mid target state c.mark_of-mark.ensures.below mark))
