use Rattle.std.proofs.Common.{◌≡◌, ℕ, length, refl, sym, ap, ◌∙◌}
use Rattle.std.proofs.lemmas.List.{length-replicate}
use Rattle.lift_model.proofs.Linking.{places_built, places_stored}
use Rattle.lift_model.proofs.links.Links.build_places.Goals as goal

pub invariant_of-result : goal.invariant_of-result
invariant_of-result c =
    let count : c.states-count.result ≡ length c.args.model.now.states = c.states-count.ensures.value in
    let positions = (rw count at c.in_ok-zeros-5.ensures) in (
      places_stored c.args.model.now _ c.in_ok-layout.layout (ap (length {A = ℕ}) positions ∙ length-replicate (length c.args.model.now.states) 0) refl refl c.into_firsts-firsts.ensures.firsts c.into_firsts-firsts.ensures.weights c.in_ok-layout.ensures.laid c.in_ok-layout.ensures.rows
          (rw count at c.in_ok-zeros.ensures) (rw count at c.in_ok-zeros-2.ensures) (ap (length {A = ℕ}) c.new-2.ensures.items ∙ sym (ap (length {A = ℕ}) c.new.ensures.items)) (rw count at c.in_ok-zeros-3.ensures) (rw count at c.in_ok-zeros-4.ensures),
      rw c.new-4.ensures.items (λ s. tt),
    )

pub returns : goal.returns
returns c =
    let count : c.states-count.result ≡ length c.args.model.now.states = c.states-count.ensures.value in
    let positions = (rw count at c.in_ok-zeros-5.ensures) in
    places_built c.args.model.now _ c.in_ok-layout.layout (ap (length {A = ℕ}) positions ∙ length-replicate (length c.args.model.now.states) 0) refl refl c.into_firsts-firsts.ensures.firsts c.into_firsts-firsts.ensures.weights c.in_ok-layout.ensures.laid c.in_ok-layout.ensures.rows
