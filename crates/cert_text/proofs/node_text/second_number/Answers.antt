use Rattle.std.proofs.Common.{◌∙◌, sym}
use Rattle.cert_text.proofs.NodeTexts.{second_is, second_lost}
use Rattle.cert_text.proofs.node_text.second_number.Goals as goal

pub returns-in-Some : goal.returns-in-Some
returns-in-Some c = λ key n low is.
    second_is key n c.of.result c.in-Ok.rest c.in-Ok.field-0-0.now c.in-Some.number c.in-Some.field-0-1 c.narrow.result low (c.of.ensures ∙ is) c.in-Ok.ensures.value (sym c.in-Some.is ∙ c.number.ensures) c.narrow.ensures.some c.narrow.ensures.none

pub returns-in-None : goal.returns-in-None
returns-in-None c = λ key n low is. absurd (second_lost key n c.of.result c.in-Ok.rest c.in-Ok.field-0-0.now low (c.of.ensures ∙ is) c.in-Ok.ensures.value (sym c.in-None.is ∙ c.number.ensures))
