use Rattle.std.proofs.Common.{◌≡◌, ◌∙◌, Ok, ap, sym}
use Rattle.line_text.specs.Reading.{Cursor}
use Rattle.cert_text.specs.Head.{head_at}
use Rattle.view_map.proofs.Whole.{found, made}
use Rattle.view_map.proofs.Standing.{if_ok_as}
use Rattle.view_map.proofs.reading.read_map.Goals as goal

pub read_parts-requires : goal.read_parts-requires
read_parts-requires c =
    let read : head_at (1, c.args.text.now) ≡ Ok (c.in-Ok.head, c.head.new.self) = ap (λ (p : Cursor). head_at p) (sym c.in_ok-lines.ensures) ∙ c.in-Ok.ensures in
    found c.heads_are_read.ensures.back c.args.text.now _ c.in_ok-check_text.ensures.sound c.in-Ok.head c.head.new.self.0 c.head.new.self.1 read

pub returns-clause-map : goal.returns-clause-map
returns-clause-map c =
    let read : head_at (1, c.args.text.now) ≡ Ok (c.in-Ok.head, c.head.new.self) = ap (λ (p : Cursor). head_at p) (sym c.in_ok-lines.ensures) ∙ c.in-Ok.ensures in
    if_ok_as c.read_parts.result _ _ (λ m h. made c.heads_are_read.ensures.back c.args.text.now _ c.in_ok-check_text.ensures.sound c.in-Ok.head c.head.new.self.0 c.head.new.self.1 read m h) c.read_parts.ensures.map
