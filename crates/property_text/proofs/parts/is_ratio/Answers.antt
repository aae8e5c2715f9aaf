use Prim.Native.Char.{code}
use Rattle.std.proofs.Common.{refl, sym, subst}
use Rattle.property_text.specs.Grammar.{IsRatio}
use Rattle.property_text.specs.Grammar.IsRatio.{whole, over}
use Rattle.property_text.proofs.Cuts.{cut_back}
use Rattle.property_text.proofs.Literals.{Cut, ratio_cut, is_whole, are_parts}
use Rattle.property_text.proofs.parts.is_ratio.Goals as goal

pub returns-then-is_literal-clause-yes : goal.returns-then-is_literal-clause-yes
returns-then-is_literal-clause-yes c = λ e.
    let above = c.in-Some.above.now in
    let below = c.in-Some.below.now in
    let first = c.if-is_literal.ensures.yes refl in
    let second = c.is_literal-then-is_literal.ensures.yes e in
    subst IsRatio (sym (cut_back (code "/") c.args.text.now above below (sym c.in-Some.ensures))) (over above below first.0 second.0 first.1 second.1)

pub returns-then-is_literal-clause-no : goal.returns-then-is_literal-clause-no
returns-then-is_literal-clause-no c = λ e h.
    let parts = are_parts c.args.text.now c.in-Some.above.now c.in-Some.below.now (subst (Cut c.args.text.now) (sym c.in-Some.ensures) (ratio_cut c.args.text.now h)) in
    c.is_literal-then-is_literal.ensures.no e parts.1.0 parts.1.1

pub returns-else-is_literal-clause-no : goal.returns-else-is_literal-clause-no
returns-else-is_literal-clause-no c = λ e h.
    let parts = are_parts c.args.text.now c.in-Some.above.now c.in-Some.below.now (subst (Cut c.args.text.now) (sym c.in-Some.ensures) (ratio_cut c.args.text.now h)) in
    c.if-is_literal.ensures.no refl parts.0.0 parts.0.1

pub returns-in-None-clause-yes : goal.returns-in-None-clause-yes
returns-in-None-clause-yes c = λ e. let is = c.is_literal-in-None.ensures.yes e in whole c.args.text.now is.0 is.1

pub returns-in-None-clause-no : goal.returns-in-None-clause-no
returns-in-None-clause-no c = λ e h.
    let is = is_whole c.args.text.now (subst (Cut c.args.text.now) (sym c.in-None.ensures) (ratio_cut c.args.text.now h)) in
    c.is_literal-in-None.ensures.no e is.0 is.1
