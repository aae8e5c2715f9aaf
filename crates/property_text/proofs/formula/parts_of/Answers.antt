use Rattle.std.proofs.Common.{rules, ◌≡◌, refl, Some, None, sym, ap, subst, ◌∙◌}
use Rattle.std.specs.Option.{unwrap_or}
use Rattle.property_text.specs.Grammar.{Written, IsRatio}
use Rattle.property_text.specs.Reading.{written_at}
use Rattle.property_text.proofs.Complete.{complete}
use Rattle.property_text.proofs.Sound.{sound}
use Rattle.property_text.proofs.formula.parts_of.Goals as goal

apart : (w : Written) → None ≡ Some w → ⊥
apart w e = cc

pub returns-in_default-clause-none : goal.returns-in_default-clause-none
returns-in_default-clause-none c = λ w h.
    let none : None ≡ written_at c.args.text.now = search rules in
    apart w (none ∙ complete c.args.text.now w h)

pub returns-then-is_ratio-clause-some : goal.returns-then-is_ratio-clause-some
returns-then-is_ratio-clause-some c =
    let some : written_at c.args.text.now ≡ Some c.in-Some.parts = search rules in
    let same : c.parts.inside.bound.now ≡ c.in-Some.parts.bound = cc (ap (λ (v : Written). v.bound) c.parts.view_is) in
    sound c.args.text.now c.in-Some.parts some (subst IsRatio same (c.if-is_ratio.ensures.yes refl))

pub returns-else-is_ratio-clause-none : goal.returns-else-is_ratio-clause-none
returns-else-is_ratio-clause-none c = λ w h.
    let some : written_at c.args.text.now ≡ Some c.in-Some.parts = search rules in
    let same : w ≡ c.in-Some.parts = ap (λ o. unwrap_or o w) (sym (complete c.args.text.now w h) ∙ some) in
    let bound : IsRatio c.in-Some.parts.bound = subst (λ (v : Written). IsRatio v.bound) same h.bound in
    let inside : c.in-Some.parts.bound ≡ c.parts.inside.bound.now = cc (ap (λ (v : Written). v.bound) c.parts.view_is) in
    c.if-is_ratio.ensures.no refl (subst IsRatio inside bound)
