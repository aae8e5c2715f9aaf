use Rattle.std.proofs.Common.{◌≤◌, length, arith}
use Rattle.cert_check.specs.Source.{file_limit}
use Rattle.plift_words.specs.Given.{verify_data}
use Rattle.plift_top.specs.Verify.{verifying}
use Rattle.plift_top.proofs.Reading.{reads, reads_within}
use Rattle.plift_top.proofs.verify.verify.Goals as goal

pub returns-clause-answer : goal.returns-clause-answer
returns-clause-answer g c =
    let bytes = c.in_ok-text.ensures.bytes in
    reads g.S.Source.left g.S.Source.faults g.K.Sink.taken g.K.Sink.faults (verifying (verify_data c.args.job.now)) (λ P old new h. h) _ _ _ _ c.in_ok-text.text.items bytes.0 bytes.1 _ c.verify_text.ensures

pub returns-clause-limit : goal.returns-clause-limit
returns-clause-limit g c =
    let bytes = c.in_ok-text.ensures.bytes in
    let few : length c.in_ok-text.text.items ≤ file_limit = omega arith in
    reads_within g.S.Source.left g.S.Source.faults g.K.Sink.taken g.K.Sink.faults (verifying (verify_data c.args.job.now)) (λ P old new h. h) _ _ _ _ c.in_ok-text.text.items bytes.0 bytes.1 _ c.verify_text.ensures few
