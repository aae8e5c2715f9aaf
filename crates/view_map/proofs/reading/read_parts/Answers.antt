use Rattle.std.proofs.Common.{◌≡◌, List, ℤ, [], ap, ◌∙◌, sym, subst, refl}
use Rattle.lift_grid.specs.Rectangle.{spans_of}
use Rattle.view_map.specs.Mapping.{Adds, BeginsWithSomeTree, IsMapped}
use Rattle.view_map.proofs.Standing.{begins_whole, mapped, mapped_total, root_stands}
use Rattle.view_map.proofs.reading.read_parts.Goals as goal

pub add_parts-requires-clause-stands : goal.add_parts-requires-clause-stands
add_parts-requires-clause-stands c =
    let root : spans_of c.deref_mut.result.now ≡ c.args.head.asked.root = ap (λ (s : List ℤ). spans_of s) (c.deref_mut.ensures.value ∙ c.in_ok-sides.ensures.items) ∙ c.sides.ensures.same ∙ c.root.ensures in
    rw root (root_stands c.args.head.asked c.w.ensures.head.asked)

pub add_parts-requires-clause-begins : goal.add_parts-requires-clause-begins
add_parts-requires-clause-begins c =
    let root : spans_of c.deref_mut.result.now ≡ c.args.head.asked.root = ap (λ (s : List ℤ). spans_of s) (c.deref_mut.ensures.value ∙ c.in_ok-sides.ensures.items) ∙ c.sides.ensures.same ∙ c.root.ensures in
    let begins : BeginsWithSomeTree c.args.head c.args.head.asked.root 0 c.args.text.now.1 = (c.requires.0, [], begins_whole c.args.head c.args.text.now.1 c.requires.0 c.requires.1) in
    rw root begins

pub new-requires : goal.new-requires
new-requires c =
    let root : spans_of c.deref_mut.result.now ≡ c.args.head.asked.root = ap (λ (s : List ℤ). spans_of s) (c.deref_mut.ensures.value ∙ c.in_ok-sides.ensures.items) ∙ c.sides.ensures.same ∙ c.root.ensures in
    let adds : Adds c.args.head c.args.head.asked.root 0 c.args.text.now.1 c.add_parts.new.text.1 [] c.add_parts.new.parts.items = rw (root, c.new-parts.ensures.items) at c.in_ok-add_parts.ensures.adds in
    mapped_total c.args.head _ _ _ c.w.ensures.head adds c.requires

pub returns-clause-map : goal.returns-clause-map
returns-clause-map c =
    let root : spans_of c.deref_mut.result.now ≡ c.args.head.asked.root = ap (λ (s : List ℤ). spans_of s) (c.deref_mut.ensures.value ∙ c.in_ok-sides.ensures.items) ∙ c.sides.ensures.same ∙ c.root.ensures in
    let adds : Adds c.args.head c.args.head.asked.root 0 c.args.text.now.1 c.add_parts.new.text.1 [] c.add_parts.new.parts.items = rw (root, c.new-parts.ensures.items) at c.in_ok-add_parts.ensures.adds in
    subst (λ m. IsMapped c.args.head c.args.text.now.1 m) (sym c.new.ensures) (record { head = refl; leaves = mapped c.args.head c.args.text.now.1 c.add_parts.new.text.1 c.add_parts.new.parts.items adds })
