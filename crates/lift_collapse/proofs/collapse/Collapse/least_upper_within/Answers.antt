use Rattle.std.proofs.Common.{rules, ◌≡◌, ◌∙◌, true, false, ℕ, ℤ, List, map, ap, sym, subst, w64, to_z, of_z, to_z-of_z}
use Rattle.corner_lift.specs.Case.{IsCase, number}
use Rattle.rounded_iter.specs.Watching.{IsLeastWithin}
use Rattle.lift_collapse.specs.Collapse.{spread, collapsed}
use Rattle.lift_collapse.proofs.Cases.{same_case}
use Rattle.lift_collapse.proofs.collapse.Collapse.least_upper_within.Goals as goal

pub new-inner-requires : goal.new-inner-requires
new-inner-requires g c =
    subst IsCase (sym (same_case c.args.case.now c.args.self.now.collapse _ c.grid.result c.root.result.now c.w.result (search rules) c.root.ensures.value c.grid.ensures.d c.grid.ensures.depth c.w.ensures.value)) (c.collapses_spread.ensures.case c.args.case.now c.args.self.now.collapse c.model.ensures.case c.requires.0.collapse)

pub returns-then-within-clause-least : goal.returns-then-within-clause-least
returns-then-within-clause-least g c =
    let k = c.args.case.now in
    let d = c.args.self.now.collapse in
    let inner : c.new-inner.result ≡ collapsed k d = c.new-inner.ensures ∙ same_case k d _ c.grid.result c.root.result.now c.w.result (search rules) c.root.ensures.value c.grid.ensures.d c.grid.ensures.depth c.w.ensures.value in
    let z = c.least_upper_within-within.new.self.values.items in
    let found = rw (to_z-of_z c.ranges.limit) at (subst (λ j. IsLeastWithin j g.spans (to_z w64 (of_z w64 c.args.limit)) c.least_upper_within-within.new.self.values.items c.least_upper_within-within.result) inner c.least_upper_within-within.ensures.least) in
    let places : c.deref-then-within.result.now ≡ d.places = search rules in
    let read : c.spread.new.lane ≡ spread d z = c.spread.ensures ∙ ap (λ (p : List ℕ). map (number c.deref-then-within-2.result.now) p) places ∙ ap (λ (v : List ℤ). map (number v) d.places) c.deref-then-within-2.ensures.value in
    subst (λ x. IsLeastWithin k g.spans c.args.limit x c.least_upper_within-within.result) (sym read) (c.collapses_spread.ensures.upper k g.spans d c.args.limit z c.least_upper_within-within.result c.model.ensures.case c.requires.0.table.inside c.requires.0.collapse found)

pub returns-else-within-clause-least : goal.returns-else-within-clause-least
returns-else-within-clause-least g c =
    let k = c.args.case.now in
    let d = c.args.self.now.collapse in
    let inner : c.new-inner.result ≡ collapsed k d = c.new-inner.ensures ∙ same_case k d _ c.grid.result c.root.result.now c.w.result (search rules) c.root.ensures.value c.grid.ensures.d c.grid.ensures.depth c.w.ensures.value in
    let z = c.least_upper_within-within.new.self.values.items in
    let found = rw (to_z-of_z c.ranges.limit) at (subst (λ j. IsLeastWithin j g.spans (to_z w64 (of_z w64 c.args.limit)) c.least_upper_within-within.new.self.values.items c.least_upper_within-within.result) inner c.least_upper_within-within.ensures.least) in
    let all = c.collapses_spread.ensures.upper k g.spans d c.args.limit z c.least_upper_within-within.result c.model.ensures.case c.requires.0.table.inside c.requires.0.collapse found in
    record {
      least = λ yes. let wrong : true ≡ false = sym yes ∙ c.if-within.false in absurd (cc wrong);
      first = λ yes. let wrong : true ≡ false = sym yes ∙ c.if-within.false in absurd (cc wrong);
      past = all.past;
    }
