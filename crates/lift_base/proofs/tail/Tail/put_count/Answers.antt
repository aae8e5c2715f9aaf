use Rattle.std.proofs.Common.{rules, arith, ap, ◌≤◌, length, length-drop}
use Rattle.std.specs.Fmt.{decimal}
use Rattle.std.proofs.lemmas.Fmt.{length-decimal-le}
use Rattle.lift_base.proofs.tail.Tail.put_count.Goals as goal

pub write_digits-self-inside-requires : goal.write_digits-self-inside-requires
write_digits-self-inside-requires c =
    let most : length (decimal c.args.n) ≤ 20 = search (rules, length-decimal-le 20) in
    let inside = c.self.inside in (
      omega (arith, most, c.requires, ap length c.self.view_is, length-drop inside.start inside.bytes, c.self.told, c.self.invariant),
      search rules,
    )

pub returns-clause-short : goal.returns-clause-short
returns-clause-short c =
    let most : length (decimal c.args.n) ≤ 20 = search (rules, length-decimal-le 20) in
    let inside = c.self.inside in
    let wrote = c.write_digits-self-inside in
    omega (arith, most, wrote.ensures.start, length-drop wrote.result wrote.new.buf, wrote.auto.buf, ap length c.self.view_is, length-drop inside.start inside.bytes, c.self.told)
