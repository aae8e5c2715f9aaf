use Rattle.std.proofs.Common.{rules, ◌≡◌, to_z, of_z, append_assoc, append-nil}
use Rattle.std.specs.Int.{w128}
use Rattle.check_notes.proofs.rows.write_row_fault.Goals as goal

pub returns-in-RowSum : goal.returns-in-RowSum
returns-in-RowSum g c =
    let sum : to_z w128 (of_z w128 c.in-RowSum.sum) ≡ c.in-RowSum.sum = search rules in
    rw c.in-RowSum.is (simp append_assoc (rw (append-nil, c.from.ensures, sum) at c.write_words.ensures))

pub returns-in-Negative : goal.returns-in-Negative
returns-in-Negative g c =
    let weight : to_z w128 (of_z w128 c.in-Negative.weight) ≡ c.in-Negative.weight = search rules in
    rw c.in-Negative.is (simp append_assoc (rw (append-nil, c.from-in-Negative.ensures, c.from-in-Negative-2.ensures, weight) at c.write_words-in-Negative.ensures))

pub returns-in-RowParameters : goal.returns-in-RowParameters
returns-in-RowParameters g c = rw c.in-RowParameters.is (rw c.from-in-RowParameters.ensures at c.write_words-in-RowParameters.ensures)
