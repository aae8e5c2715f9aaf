use Rattle.std.proofs.Common.{◌≤◌, length, arith}
use Rattle.cert_check.specs.Source.{file_limit}
use Rattle.view_top.proofs.Showing.{unread, refused, mapped}
use Rattle.view_top.proofs.shown.map_of.Goals as goal

pub returns-in_err-text : goal.returns-in_err-text
returns-in_err-text g c = unread g.S.Source.left g.S.Source.faults _ _ _ c.from_residual.result c.from_residual.ensures.1 c.in_err-text.ensures.bytes c.in_err-text.ensures.faults

pub returns-in_err-read_map : goal.returns-in_err-read_map
returns-in_err-read_map g c =
    let read = c.in_ok-text.ensures.bytes in
    let size = read.2 in
    let small : length c.in_ok-text.text.items ≤ file_limit = omega (arith, size, c.in_ok-text.text.ok.0) in
    refused g.S.Source.left g.S.Source.faults _ _ c.in_ok-text.text.items read.0 read.1 small _ c.from_residual-in_err-read_map.result c.from_residual-in_err-read_map.ensures.1 (rw c.deref.ensures.value at c.in_err-read_map.ensures.refused) c.in_err-read_map.ensures.reported

pub returns : goal.returns
returns g c =
    let read = c.in_ok-text.ensures.bytes in
    let size = read.2 in
    let small : length c.in_ok-text.text.items ≤ file_limit = omega (arith, size, c.in_ok-text.text.ok.0) in
    mapped g.S.Source.left g.S.Source.faults _ _ c.in_ok-text.text.items _ read.0 read.1 small (rw c.deref.ensures.value at c.in_ok-read_map.ensures.map)
