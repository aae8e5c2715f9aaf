use Rattle.std.proofs.Common.{◌≤◌, arith}
use Rattle.std.proofs.lemmas.List.{length-set}
use Rattle.std.proofs.lemmas.List.Elements.{All-set}
use Rattle.cert_text.proofs.entry_line.EntryReader.mark_target.Goals as goal

pub invariant_of-self : goal.invariant_of-self
invariant_of-self c =
    let was = c.self.invariant in
    record {
      parameters = was.parameters;
      states = omega (arith, length-set c.self.inside.marks.items c.args.target c.self.inside.mark, was.states);
      known = was.known;
      low = All-set (λ m. m ≤ c.self.inside.mark) c.self.inside.marks.items c.args.target c.self.inside.mark (omega arith) was.low;
    }
