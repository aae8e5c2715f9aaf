use Rattle.std.proofs.Common.{rules, ◌≡◌, ◌∙◌, ℕ, ℤ, List, map, ap, sym, subst, w64, to_z, of_z, to_z-of_z}
use Rattle.corner_lift.specs.Case.{IsCase, number}
use Rattle.lower_cert.specs.Limit.{NoneIsAbove}
use Rattle.lower_cert.specs.Lowering.{IsHigh}
use Rattle.lift_collapse.specs.Collapse.{spread, collapsed}
use Rattle.lift_collapse.proofs.Cases.{same_case}
use Rattle.lift_collapse.proofs.collapse.Collapse.lower_above.Goals as goal

pub new-inner-requires : goal.new-inner-requires
new-inner-requires g c =
    subst IsCase (sym (same_case c.args.case.now c.args.self.now.collapse _ c.grid.result c.root.result.now c.w.result (search rules) c.root.ensures.value c.grid.ensures.d c.grid.ensures.depth c.w.ensures.value)) (c.collapses_spread.ensures.case c.args.case.now c.args.self.now.collapse c.model.ensures.case c.requires.0.collapse)

pub returns-then-above-clause-high : goal.returns-then-above-clause-high
returns-then-above-clause-high g c = λ is.
    let k = c.args.case.now in
    let d = c.args.self.now.collapse in
    let inner : c.new-inner.result ≡ collapsed k d = c.new-inner.ensures ∙ same_case k d _ c.grid.result c.root.result.now c.w.result (search rules) c.root.ensures.value c.grid.ensures.d c.grid.ensures.depth c.w.ensures.value in
    let z = c.lower_above-above.new.self.values.items in
    let found = subst (λ j. IsHigh j g.spans c.lower_above-above.new.self.values.items) inner (c.lower_above-above.ensures.high c.if-above.true) in
    let places : c.deref-then-above.result.now ≡ d.places = search rules in
    let read : c.spread.new.lane ≡ spread d z = c.spread.ensures ∙ ap (λ (p : List ℕ). map (number c.deref-then-above-2.result.now) p) places ∙ ap (λ (v : List ℤ). map (number v) d.places) c.deref-then-above-2.ensures.value in
    subst (λ x. IsHigh k g.spans x) (sym read) (c.collapses_spread.ensures.high k g.spans d z c.model.ensures.case c.requires.0.table.inside c.requires.0.collapse found)

pub returns-else-above-clause-none : goal.returns-else-above-clause-none
returns-else-above-clause-none g c = λ is.
    let k = c.args.case.now in
    let d = c.args.self.now.collapse in
    let inner : c.new-inner.result ≡ collapsed k d = c.new-inner.ensures ∙ same_case k d _ c.grid.result c.root.result.now c.w.result (search rules) c.root.ensures.value c.grid.ensures.d c.grid.ensures.depth c.w.ensures.value in
    let none = rw (to_z-of_z c.ranges.limit) at (subst (λ j. NoneIsAbove j g.spans (to_z w64 (of_z w64 c.args.limit))) inner (c.lower_above-above.ensures.none c.if-above.false)) in
    c.collapses_spread.ensures.none k g.spans d c.args.limit c.model.ensures.case c.requires.0.table.inside c.requires.0.collapse none
