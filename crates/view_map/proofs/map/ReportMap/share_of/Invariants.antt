use Rattle.std.proofs.Common.{◌≡◌, take}
use Rattle.view_map.specs.Share.{share_of}
use Rattle.view_map.proofs.map.ReportMap.share_of.Given as goal

abbrev pub invariant-loop-part : goal.invariant-loop-part
invariant-loop-part l = l.share ≡ share_of l.kind (take l.part-index l.part-items)
