use Rattle.std.proofs.Common.{[], ◌++◌, Result, refl, sym}
use Rattle.line_text.specs.declared.error.FileError.{FileError}
use Rattle.line_text.specs.Follow.{Follows, place}
use Rattle.cert_text.specs.Head.{HeadData, head_at}
use Rattle.cert_text.specs.HeadParts.{head_of}
use Rattle.cert_text.proofs.Following.{handed, as_error, seen}
use Rattle.cert_text.proofs.HeadSteps.{head_is}
use Rattle.cert_text.proofs.head_reader.read_head.Goals as goal

pub into_head-requires : goal.into_head-requires
into_head-requires g c = let f = c.in_ok-parts.ensures in head_is (head_of c.in_ok-parts.parts) (place c.args.lines.now (f.bytes ++ [])) (place c.parts_at.new.lines []) (f.agrees [] (λ _. refl))

pub returns-in_err-parts : goal.returns-in_err-parts
returns-in_err-parts g c = handed (λ (r : Result HeadData FileError). Follows g.S.Source.left g.S.Source.faults (λ (h : HeadData). h) head_at c.args.lines.now c.parts_at.new.lines c.args.src.now c.parts_at.new.src r) c.from_residual.result c.in_err-parts.field-0.0 c.from_residual.ensures.1 (as_error {look = λ (h : HeadData). h} head_at (λ l fault bad. bad) c.in_err-parts.ensures)

pub returns : goal.returns
returns g c = seen (λ (h : HeadData). h) c.into_head.result (sym c.into_head.ensures) c.in_ok-parts.ensures
