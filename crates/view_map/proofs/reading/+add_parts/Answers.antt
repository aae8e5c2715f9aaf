use Rattle.std.proofs.Common.{◌≡◌, ◌+◌, List, ℤ, Ok, ap, ◌∙◌, subst, arith}
use Rattle.lift_grid.specs.Rectangle.{sides_of, spans_of}
use Rattle.lift_grid.specs.Tree.{RejectData, lower_half, upper_half}
use Rattle.cert_text.specs.Nodes.{split, accept, reject, unknown, node_at}
use Rattle.view_map.specs.Mapping.{Adds, BeginsWithSomeTree, StandsAt}
use Rattle.view_map.proofs.First.{adds_accept, adds_both, adds_reject, adds_unknown}
use Rattle.view_map.proofs.Standing.{if_ok_as, parted}
use Rattle.view_map.proofs.reading.+add_parts.Goals as goal

pub lower_half-requires-clause-halvable : goal.lower_half-requires-clause-halvable
lower_half-requires-clause-halvable t c =
    let grid = c.halves_stay_on_grid.ensures in
    let read : node_at c.args.head.now c.args.text.now ≡ Ok (split c.in-Split.axis, c.node.new.self) = rw c.in-Split.is at c.in-Ok.ensures in
    (parted c.nodes_are_read.ensures.back grid.halves grid.count grid.halvable c.args.head.now (spans_of c.args.sides.now) c.args.depth c.in-Split.axis _ _ _ _ c.w.ensures.head read c.requires.stands c.requires.begins).halvable

pub narrow-requires : goal.narrow-requires
narrow-requires t c =
    let grid = c.halves_stay_on_grid.ensures in
    let read : node_at c.args.head.now c.args.text.now ≡ Ok (split c.in-Split.axis, c.node.new.self) = rw c.in-Split.is at c.in-Ok.ensures in
    (parted c.nodes_are_read.ensures.back grid.halves grid.count grid.halvable c.args.head.now (spans_of c.args.sides.now) c.args.depth c.in-Split.axis _ _ _ _ c.w.ensures.head read c.requires.stands c.requires.begins).halvable

pub add_parts-requires : goal.add_parts-requires
add_parts-requires t c =
    let h = c.args.head.now in
    let grid = c.halves_stay_on_grid.ensures in
    let read : node_at h c.args.text.now ≡ Ok (split c.in-Split.axis, c.node.new.self) = rw c.in-Split.is at c.in-Ok.ensures in
    let p = parted c.nodes_are_read.ensures.back grid.halves grid.count grid.halvable h (spans_of c.args.sides.now) c.args.depth c.in-Split.axis _ _ _ _ c.w.ensures.head read c.requires.stands c.requires.begins in
    let same : c.deref_mut.result.now ≡ c.in_ok-lower-in-Split.lower.items = c.deref_mut.ensures.value in
    let stands : StandsAt h.asked (c.args.depth + 1) (spans_of c.deref_mut.result.now) = rw (same, c.in_ok-lower-in-Split.ensures.half) p.lower in
    let paired : sides_of (spans_of c.deref_mut.result.now) ≡ c.deref_mut.result.now = rw same c.in_ok-lower-in-Split.ensures.paired in
    let lower : spans_of c.deref_mut.result.now ≡ lower_half c.in-Split.axis (spans_of c.args.sides.now) = ap (λ (s : List ℤ). spans_of s) same ∙ c.in_ok-lower-in-Split.ensures.half in
    let begins : BeginsWithSomeTree h (spans_of c.deref_mut.result.now) (c.args.depth + 1) c.node.new.self.1 = rw lower p.low in
    let more = p.more in
    let few = c.w.ensures.head.asked.depth in
    (omega (arith, more, few), (stands, (paired, begins)))

pub add_parts-requires-in-Split : goal.add_parts-requires-in-Split
add_parts-requires-in-Split t c =
    let h = c.args.head.now in
    let grid = c.halves_stay_on_grid.ensures in
    let axis = c.in-Split.axis in
    let ss = spans_of c.args.sides.now in
    let read : node_at h c.args.text.now ≡ Ok (split axis, c.node.new.self) = rw c.in-Split.is at c.in-Ok.ensures in
    let p = parted c.nodes_are_read.ensures.back grid.halves grid.count grid.halvable h ss c.args.depth axis _ _ _ _ c.w.ensures.head read c.requires.stands c.requires.begins in
    let lower : spans_of c.deref_mut.result.now ≡ lower_half axis ss = ap (λ (s : List ℤ). spans_of s) c.deref_mut.ensures.value ∙ c.in_ok-lower-in-Split.ensures.half in
    let between = c.add_parts.new.text.1 in
    let low : Adds h (lower_half axis ss) (c.args.depth + 1) c.node.new.self.1 between c.args.parts.now.items c.add_parts.new.parts.items = rw lower at c.in_ok-add_parts-in-Split.ensures.adds in
    let stands : StandsAt h.asked (c.args.depth + 1) (spans_of c.narrow.new.sides) = rw c.narrow.ensures.half p.upper in
    let begins : BeginsWithSomeTree h (spans_of c.narrow.new.sides) (c.args.depth + 1) between = rw c.narrow.ensures.half (p.high between _ _ low) in
    let more = p.more in
    let few = c.w.ensures.head.asked.depth in
    (omega (arith, more, few), (stands, (c.narrow.ensures.pairs c.requires.paired, begins)))

pub returns-in-Split-clause-adds : goal.returns-in-Split-clause-adds
returns-in-Split-clause-adds t c =
    let h = c.args.head.now in
    let axis = c.in-Split.axis in
    let ss = spans_of c.args.sides.now in
    let read : node_at h c.args.text.now ≡ Ok (split axis, c.node.new.self) = rw c.in-Split.is at c.in-Ok.ensures in
    let lower : spans_of c.deref_mut.result.now ≡ lower_half axis ss = ap (λ (s : List ℤ). spans_of s) c.deref_mut.ensures.value ∙ c.in_ok-lower-in-Split.ensures.half in
    let upper : spans_of c.narrow.new.sides ≡ upper_half axis ss = c.narrow.ensures.half in
    let between = c.add_parts.new.text.1 in
    let low : Adds h (lower_half axis ss) (c.args.depth + 1) c.node.new.self.1 between c.args.parts.now.items c.add_parts.new.parts.items = rw lower at c.in_ok-add_parts-in-Split.ensures.adds in
    if_ok_as c.add_parts-in-Split.result _ _ (λ p high. adds_both c.nodes_are_read.ensures.back h ss c.args.depth axis _ _ _ _ between _ _ _ _ c.w.ensures.head read low (subst (λ s. Adds h s (c.args.depth + 1) between c.add_parts-in-Split.new.text.1 c.add_parts.new.parts.items c.add_parts-in-Split.new.parts.items) upper high)) c.add_parts-in-Split.ensures.adds

pub returns-in-Accept-clause-adds : goal.returns-in-Accept-clause-adds
returns-in-Accept-clause-adds t c =
    let h = c.args.head.now in
    let read : node_at h c.args.text.now ≡ Ok (accept c.in-Accept.u c.in-Accept.x, c.node.new.self) = rw c.in-Accept.is at c.in-Ok.ensures in
    adds_accept c.nodes_are_read.ensures.back h (spans_of c.args.sides.now) c.args.depth c.in-Accept.u _ _ c.in-Accept.x _ _ _ _ c.w.ensures.head read c.in_ok-keep-in-Accept.ensures

pub returns-in-Reject-clause-adds : goal.returns-in-Reject-clause-adds
returns-in-Reject-clause-adds t c =
    let h = c.args.head.now in
    let r : RejectData = record { numbers = c.in-Reject.y; picks = c.in-Reject.picks; ranks = c.in-Reject.ranks; e = c.in-Reject.e; k = c.in-Reject.k } in
    let read : node_at h c.args.text.now ≡ Ok (reject c.in-Reject.u r, c.node.new.self) = rw c.in-Reject.is at c.in-Ok.ensures in
    adds_reject c.nodes_are_read.ensures.back h (spans_of c.args.sides.now) c.args.depth c.in-Reject.u _ _ r _ _ _ _ c.w.ensures.head read c.in_ok-keep-in-Reject.ensures

pub returns-clause-adds : goal.returns-clause-adds
returns-clause-adds t c =
    let h = c.args.head.now in
    let read : node_at h c.args.text.now ≡ Ok (unknown, c.node.new.self) = rw c.in-Unknown.is at c.in-Ok.ensures in
    adds_unknown c.nodes_are_read.ensures.back h (spans_of c.args.sides.now) c.args.depth _ _ _ _ _ _ c.w.ensures.head read c.in_ok-keep-in-Unknown.ensures
