use Rattle.std.proofs.Common.{◌∙◌, ap}
use Rattle.line_text.specs.Words.{words}
use Rattle.std.proofs.Common.{◌≡◌, ℤ, Vec, length, sym, rules}
use Rattle.line_text.specs.Shown.{Says}
use Rattle.std.specs.declared.alloc.Global.{Global}
use Rattle.cert_text.specs.Lines.{values_of}
use Rattle.cert_text.proofs.Following.{line_is, line_stops}
use Rattle.cert_text.proofs.leaf_reader.LeafReader.values_line.Goals as goal

pub returns-in_err-due-clause-value : goal.returns-in_err-due-clause-value
returns-in_err-due-clause-value g c = line_stops (λ (x : Vec ℤ Global). x.items) (values_of c.args.key.now (length c.args.self.now.asked.model.states) c.args.self.now.asked.w) c.from_residual.result c.from_residual.ensures.1 c.in_err-due.ensures

pub returns-clause-value : goal.returns-clause-value
returns-clause-value g c =
    let states : c.states.result ≡ length c.args.self.now.asked.model.states = search rules in
    let u : c.u.result ≡ c.args.self.now.asked.w = search rules in
    let says : Says (λ (x : Vec ℤ Global). x.items) c.values_of-read.result (values_of c.args.key.now (length c.args.self.now.asked.model.states) c.args.self.now.asked.w c.of.result) = rw (sym states, sym u) c.values_of-read.ensures.value in
    line_is (λ (x : Vec ℤ Global). x.items) (values_of c.args.key.now (length c.args.self.now.asked.model.states) c.args.self.now.asked.w) c.of.result c.values_of-read.result c.take_line.result c.in_ok-due.ensures (c.of.ensures ∙ ap words c.line.ensures) says c.take_line.ensures
