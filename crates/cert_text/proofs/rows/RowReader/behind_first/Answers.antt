use Rattle.std.proofs.Common.{◌∙◌, List, Ok, ap, sym}
use Rattle.lift_model.specs.declared.entry.Entry.{Entry}
use Rattle.lift_model.specs.declared.kind.Kind.{Kind}
use Rattle.line_text.specs.Follow.{place}
use Rattle.cert_text.specs.Head.{behind_first}
use Rattle.cert_text.specs.Rows.{ReadsRows}
use Rattle.cert_text.proofs.RowLoops.{chain_first, process_first}
use Rattle.cert_text.proofs.Following.{as_reader, known}
use Rattle.cert_text.proofs.rows.RowReader.behind_first.Goals as goal

pub returns-in-Dtmc-clause-value : goal.returns-in-Dtmc-clause-value
returns-in-Dtmc-clause-value g c =
    let r : ReadsRows = c.args.self.now in
    let kind = sym (ap (λ (r : ReadsRows). r.shape.kind) c.self.view_is) ∙ c.in-Dtmc.is in
    known c.calls_add_up.ensures (behind_first r.shape.kind r.shape.states r.shape.parameters r.left.choices r.left.transitions c.args.s) c.args.lines.now c.args.src.now c.new.result c.requires (λ later.
    ap (λ (kind : Kind). behind_first kind r.shape.states r.shape.parameters r.left.choices r.left.transitions c.args.s (place c.args.lines.now later)) kind ∙ chain_first r.shape.states r.shape.parameters r.left.choices r.left.transitions c.args.s (place c.args.lines.now later)
    ∙ ap (λ (rows : List (List Entry)). Ok (rows, place c.args.lines.now later)) (sym c.new.ensures.items))

pub returns-in-Mdp-clause-value : goal.returns-in-Mdp-clause-value
returns-in-Mdp-clause-value g c =
    let r : ReadsRows = c.args.self.now in
    let kind = sym (ap (λ (r : ReadsRows). r.shape.kind) c.self.view_is) ∙ c.in-Mdp.is in
    as_reader (behind_first r.shape.kind r.shape.states r.shape.parameters r.left.choices r.left.transitions c.args.s) c.further.result (λ p. ap (λ (kind : Kind). behind_first kind r.shape.states r.shape.parameters r.left.choices r.left.transitions c.args.s p) kind ∙ process_first r.shape.states r.shape.parameters r.left.choices r.left.transitions c.args.s p) c.further.ensures.value
