use Rattle.std.proofs.Common.{◌∙◌, sym, ap₂, ◌∷◌, List, ℕ, arith}
use Rattle.cert_text.specs.Migrated.{lines_of}
use Rattle.cert_text.proofs.TextLines.{first_line}
use Rattle.cert_text.proofs.migrate.cut_line.Goals as goal

pub returns-clause-lines : goal.returns-clause-lines
returns-clause-lines c =
    first_line c.args.text.now _ c.requires (omega (arith, c.min.ensures, c.line_len-len.ensures.len))
    ∙ sym (ap₂ (λ (line rest : List ℕ). line ∷ lines_of rest) c.split_at.ensures.front c.split_at.ensures.back)
