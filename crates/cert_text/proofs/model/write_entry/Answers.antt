use Rattle.std.specs.Fmt.{decimal}
use Rattle.cert_text.specs.Report.{term_word}
use Rattle.cert_text.proofs.Lines.{line-words}
use Rattle.cert_text.proofs.model.write_entry.Goals as goal

pub returns-in-Some : goal.returns-in-Some
returns-in-Some g c =
    let entry = c.args.entry.now in
    let text = rw c.deref.ensures at c.in-Some.ensures in
    rw (line-words term_word (decimal entry.target) entry.poly) (rw (c.from.ensures, text) at c.write_words.ensures)
