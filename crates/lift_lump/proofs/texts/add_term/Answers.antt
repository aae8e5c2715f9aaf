use Rattle.std.proofs.Common.{ℕ, List, ◌++◌, ap, ap₂, ◌∙◌, append_assoc}
use Rattle.std.proofs.lemmas.Int.{to_z-of_z}
use Rattle.std.specs.Int.{w128, to_le_bytes, cast_unsigned}
use Rattle.lift_lump.specs.Comparing.{term_text}
use Rattle.lift_lump.proofs.texts.add_term.Goals as goal

pub returns : goal.returns
unfolding term_text
returns c =
    let old = c.args.text.now.items in
    let number = c.to_le_bytes-2.ensures ∙ ap (λ z. to_le_bytes w128 (cast_unsigned w128 z)) (to_z-of_z w128 c.args.coefficient c.ranges.coefficient) in
    c.in_ok-extend_from_slice-2.ensures.items
    ∙ ap₂ (λ (xs ys : List ℕ). xs ++ ys) (c.in_ok-extend_from_slice.ensures.items ∙ ap (λ (ys : List ℕ). old ++ ys) c.to_le_bytes.ensures) number
    ∙ append_assoc old _ _
