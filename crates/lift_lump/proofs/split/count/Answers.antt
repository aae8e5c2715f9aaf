use Rattle.std.proofs.Common.{◌≡◌, ℕ, Bool, true, List, Contains, length, drop, sym, subst, ap, ◌∙◌}
use Rattle.std.proofs.lemmas.List.{take_at}
use Rattle.lift_lump.specs.Search.{marked, arrows_into, AreMarked}
use Rattle.lift_lump.specs.Splitting.{AreTelling}
use Rattle.lift_lump.proofs.Clearing.{marked_listed, telling}
use Rattle.lift_lump.proofs.split.count.Goals as goal

pub unmark-requires-clause-marks : goal.unmark-requires-clause-marks
unmark-requires-clause-marks c =
    let part = c.args.part.now in
    let marks = c.gather.new.marks in
    let old = c.args.room.now.marks in
    let size : length marks ≡ old.len = c.gather.auto.marks ∙ c.deref_mut.ensures.len in
    let is = c.deref_mut-3.ensures.value ∙ take_at marks (drop (length marks) old.items) old.len size in
    let are = subst (λ (ls : List ℕ). AreMarked ls c.args.block c.list-states.result.now marks) c.deref.ensures.value c.in_ok-gather.ensures.marked in
    let whole : length marks ≡ length part.labels.items = size ∙ sym c.deref_mut.ensures.len ∙ ap length c.deref_mut.ensures.value ∙ c.requires.clear.sizes.1 in
    subst (λ (ms : List Bool). (u : ℕ) → marked ms u ≡ true → Contains c.list-states.result.now u) (sym is)
    (marked_listed part.labels.items part.members c.args.block c.list-states.result.now marks whole c.requires.listed c.list-states.ensures are)

pub returns-clause-telling : goal.returns-clause-telling
returns-clause-telling c =
    let part = c.args.part.now in
    let marks = c.gather.new.marks in
    let numbers = c.gather.new.numbers in
    let old = c.args.room.now.numbers in
    let size : length numbers ≡ old.len = c.gather.auto.numbers ∙ c.deref_mut-2.ensures.len in
    let is = take_at numbers (drop (length numbers) old.items) old.len size in
    let whole : length numbers ≡ length part.labels.items = c.in_ok-gather.ensures.size ∙ ap length c.deref.ensures.value in
    let are = subst (λ (ls : List ℕ). AreMarked ls c.args.block c.list-states.result.now marks) c.deref.ensures.value c.in_ok-gather.ensures.marked in
    subst (AreTelling (arrows_into c.args.arrows.now) part.labels.items) (sym is)
    (telling c.coarsest_is_one.ensures.steps (arrows_into c.args.arrows.now) part.labels.items numbers part.members c.args.block c.list-states.result.now marks whole c.requires.listed c.list-states.ensures are c.in_ok-gather.ensures.numbers)
