use Rattle.std.proofs.Common.{rules, append_assoc, ◌≡◌, to_z, of_z, codes, length}
use Rattle.std.specs.Int.{w128}
use Rattle.std.specs.Fmt.{decimal, signed_decimal}
use Rattle.cert_text.specs.Report.{size_lines}
use Rattle.cert_text.proofs.model.write_sizes.Goals as goal

pub returns : goal.returns
unfolding size_lines
returns g c =
    let model = c.args.model.now in
    let common : to_z w128 (of_z w128 c.from.result) ≡ model.common = search rules in
    rw (append_assoc (signed_decimal model.common) (codes "\n"), append_assoc (decimal (length model.states)) (codes "\n"), append_assoc (decimal model.init) (codes "\n"))
    (rw (common, c.from-2.ensures, c.states.ensures.value, c.from-3.ensures, c.init.ensures.value) at c.write_words.ensures)
