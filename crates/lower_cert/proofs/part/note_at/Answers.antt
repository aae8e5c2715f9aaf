use Rattle.std.proofs.Common.{rules, ◌∙◌, ap, SFits, w64, to_z-of_z, arith}
use Rattle.corner_lift.specs.Case.{number}
use Rattle.float_guess.specs.Notes.{low_word}
use Rattle.lower_cert.proofs.Beginning.{some_same, noted_some}
use Rattle.lower_cert.proofs.part.note_at.Goals as goal

pub returns-in-Some : goal.returns-in-Some
returns-in-Some c =
    let fits : SFits w64 (number c.args.lane.now c.in-Some.s) = search rules in
    noted_some c.args.rows.now.case c.args.rows.now.links c.args.lane.now c.args.position c.in-Some.s c.with_number.result.bits c.args.noted.now (omega (arith, c.requires.notes, c.in-Some.ensures.some.state)) (c.with_number.ensures.number ∙ ap low_word (to_z-of_z fits)) (λ t h. some_same c.in-Some.s t (c.in-Some.ensures.all t h))
