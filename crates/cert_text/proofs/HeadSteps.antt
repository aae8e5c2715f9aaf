-- What is known of a head that was read.
use Rattle.std.proofs.Common.{◌≡◌, ◌≤◌, length, Ok}
use Rattle.line_text.specs.Reading.{Cursor}
use Rattle.line_text.specs.Parts.{Words}
use Rattle.cert_text.specs.Lines.{parameters_of}
use Rattle.cert_text.specs.Head.{HeadData, head_at}
use Rattle.cert_text.specs.Forms.{IsHead}
use Rattle.cert_text.proofs.FirstLines.{reads_parameters}
use Rattle.cert_text.proofs.ReportLaws.{heads_reported}

pub few_names : (ws names : Words) → parameters_of ws ≡ Ok names → length names ≤ 16
few_names ws names e = ((reads_parameters ws).takes names e).1.few

pub head_is : (h : HeadData) (c after : Cursor) → head_at c ≡ Ok (h, after) → IsHead h
head_is h c after e = (heads_reported h c.0 after.0 c.1 after.1 e).0
