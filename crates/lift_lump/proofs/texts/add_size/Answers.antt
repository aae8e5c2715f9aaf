use Rattle.std.proofs.Common.{ℕ, List, ◌++◌, ap, ◌∙◌}
use Rattle.lift_lump.specs.Comparing.{size_text}
use Rattle.lift_lump.proofs.texts.add_size.Goals as goal

pub returns : goal.returns
unfolding size_text
returns c = c.in_ok-extend_from_slice.ensures.items ∙ ap (λ (ys : List ℕ). c.args.text.now.items ++ ys) c.to_le_bytes.ensures
