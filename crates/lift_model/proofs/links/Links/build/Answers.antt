use Rattle.std.proofs.Common.{refl}
use Rattle.lift_model.proofs.Linking.{cuts_of, links_built, links_stored}
use Rattle.lift_model.proofs.links.Links.build.Goals as goal

pub find_sources-requires-clause-targets : goal.find_sources-requires-clause-targets
find_sources-requires-clause-targets c = rw (c.deref.ensures.value, c.states-count.ensures.value) (c.in_ok-layout.ensures.laid.states)

pub find_sources-requires-clause-cuts : goal.find_sources-requires-clause-cuts
find_sources-requires-clause-cuts c = rw (c.deref.ensures.value, c.deref-2.ensures.value, c.states-count.ensures.value) (cuts_of c.args.model.now _ _ c.in_ok-layout.ensures.targets)

pub invariant_of-result : goal.invariant_of-result
invariant_of-result c =
    let sources = rw (c.deref.ensures.value, c.deref-2.ensures.value, c.states-count.ensures.value) at c.in_ok-sources.ensures in
    let placed = rw (c.deref-5.ensures.value, c.deref-6.ensures.value) at c.in_ok-before_positions.ensures in
    let first = rw (c.deref-7.ensures.value, c.deref-8.ensures.value, c.deref-9.ensures.value, c.deref-10.ensures.value) at c.in_ok-lone.ensures in
    (links_stored c.args.model.now _ c.in_ok-layout.layout c.in_ok-layout.starts.targets.items refl refl c.into_firsts-firsts.ensures.firsts c.into_firsts-firsts.ensures.weights c.in_ok-layout.ensures.laid c.in_ok-layout.ensures.rows c.in_ok-layout.ensures.targets sources c.in_ok-order.ensures.order placed first c.in_ok-order.ensures.ends, rw (c.deref-11.ensures.value, c.deref-12.ensures.value, c.deref-13.ensures.value) at c.in_ok-only_rows.ensures)

pub returns : goal.returns
returns c =
    let sources = rw (c.deref.ensures.value, c.deref-2.ensures.value, c.states-count.ensures.value) at c.in_ok-sources.ensures in
    let placed = rw (c.deref-5.ensures.value, c.deref-6.ensures.value) at c.in_ok-before_positions.ensures in
    let first = rw (c.deref-7.ensures.value, c.deref-8.ensures.value, c.deref-9.ensures.value, c.deref-10.ensures.value) at c.in_ok-lone.ensures in
    links_built c.args.model.now _ c.in_ok-layout.layout c.in_ok-layout.starts.targets.items refl refl c.into_firsts-firsts.ensures.firsts c.into_firsts-firsts.ensures.weights c.in_ok-layout.ensures.laid c.in_ok-layout.ensures.rows c.in_ok-layout.ensures.targets sources c.in_ok-order.ensures.order placed first
