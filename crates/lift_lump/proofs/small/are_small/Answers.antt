use Rattle.std.proofs.Common.{◌≡◌, ⊎_elim, ◌<◌, ◌≤◌, ℕ, List, [], Vec, Global, All, length, get_or, map, sym, ap, ◌∙◌, subst, arith}
use Rattle.std.proofs.lemmas.List.{get_or-map, length-map}
use Rattle.lift_model.specs.declared.row.Row.{Row}
use Rattle.lift_model.specs.declared.entry.Entry.{Entry}
use Rattle.lift_lump.specs.Lumped.{IsSmallEntry}
use Rattle.lift_lump.proofs.small.are_small.Goals as goal
use Rattle.lift_lump.proofs.Sides.{side}

items_at : (states : List (Vec Row Global)) (i : ℕ) (v : Vec Row Global) (d : List (List Entry)) → i < length states → v ≡ get_or states i v → get_or (map (λ v. v.items) states) i d ≡ v.items
items_at states i v d lt is = get_or-map (λ (v : Vec Row Global). v.items) states i v d lt ∙ ap (λ (v : Vec Row Global). v.items) (sym is)

pub returns-then-not-are_small_choices-clause-wide : goal.returns-then-not-are_small_choices-clause-wide
returns-then-not-are_small_choices-clause-wide c = λ _ all.
    let states = c.args.states.now in
    let i = c.loop-choices.choices-index in
    let at = items_at states i c.choices-item.result [] c.loop-choices-test.true c.choices-item.is in
    let low : i < length (map (λ (v : Vec Row Global). v.items) states) = omega (arith, c.loop-choices-test.true, length-map states (λ (v : Vec Row Global). v.items)) in
    c.are_small_choices.ensures.wide c.if-not-are_small_choices.true (subst (All (All IsSmallEntry)) (at ∙ sym c.deref.ensures.value) (all i [] low))

pub loop-choices-preserved : goal.loop-choices-preserved
loop-choices-preserved c = λ k d lt.
    let states = c.args.states.now in
    let i = c.loop-choices.choices-index in
    let small = subst (All (All IsSmallEntry)) c.deref.ensures.value (c.are_small_choices.ensures.small c.if-not-are_small_choices.false) in
    let here : i ≤ k → All (All IsSmallEntry) (get_or (map (λ (v : Vec Row Global). v.items) states) k d) = λ le.
    let e : k ≡ i = omega (arith, lt, le) in
    subst (All (All IsSmallEntry)) (sym (ap (λ j. get_or (map (λ (v : Vec Row Global). v.items) states) j d) e ∙ items_at states i c.choices-item.result d c.loop-choices-test.true c.choices-item.is)) small in
    ⊎_elim (λ (less : k < i). c.loop-choices.invariant k d less) here (side k i)
