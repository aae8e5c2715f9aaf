use Rattle.std.proofs.Common.{◌∙◌, ap}
use Rattle.cert_text.specs.Head.{HeadData}
use Rattle.view_text.proofs.field.write_leaf.Goals as goal

pub returns : goal.returns
returns g c =
    let root = c.sides-root.ensures.same ∙ c.root.ensures ∙ ap (λ (h : HeadData). h.asked.root) c.head.ensures in
    rw (c.band.ensures.band, c.band-2.ensures.band, root, c.x.ensures, c.y.ensures) at c.write_outline.ensures
