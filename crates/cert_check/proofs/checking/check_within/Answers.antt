use Rattle.std.proofs.Common.{◌≡◌, Err, sym, subst, rules}
use Rattle.cert_check.specs.Answer.{Answer}
use Rattle.cert_check.specs.Source.{AnswersReported, ChecksSource, CountsFault, KeepsLimit}
use Rattle.cert_check.specs.declared.summary.Summary.{Summary}
use Rattle.cert_check.specs.declared.error.CheckError.TheVariants.{Memory}
use Rattle.cert_check.proofs.Sources.{faults_of, limit_of, none_taken, source_of, reported_answered}
use Rattle.cert_check.proofs.checking.check_within.Goals as goal

pub returns-in_err-walk-clause-limit : goal.returns-in_err-walk-clause-limit
returns-in_err-walk-clause-limit g c =
    let is : c.from_residual.result ≡ Err Memory = search rules in
    subst (λ (r : Answer Summary). KeepsLimit c.args.limit r (g.S.Source.left c.args.src.now) (g.S.Source.left c.args.src.now)) (sym is) (none_taken c.args.limit (g.S.Source.left c.args.src.now))

pub returns-clause-answer : goal.returns-clause-answer
returns-clause-answer g c =
    let w = c.in_ok-walk.walk in
    let a = c.check_file-answer in
    let left = g.S.Source.left in
    let faults = g.S.Source.faults in
    subst (λ (r : Answer Summary). ChecksSource c.args.limit left faults c.args.src.now a.new.src r) (sym c.leaves_in.ensures)
    (source_of left faults c.readings_end.ensures.within c.readings_end.ensures.beyond c.args.limit w.lines.text w.lines a.new.walk.lines c.in_ok-walk.ensures.lines c.args.src.now a.new.src c.given.ensures.limit a.result a.ensures.end c.sound_files_pass.ensures.sound c.sound_reports_hold.ensures a.ensures.ended)

pub returns-clause-limit : goal.returns-clause-limit
returns-clause-limit g c =
    let w = c.in_ok-walk.walk in
    let a = c.check_file-answer in
    let left = g.S.Source.left in
    let faults = g.S.Source.faults in
    subst (λ (r : Answer Summary). KeepsLimit c.args.limit r (left c.args.src.now) (left a.new.src)) (sym c.leaves_in.ensures)
    (limit_of left faults c.readings_end.ensures.within c.readings_end.ensures.beyond c.args.limit w.lines.text w.lines a.new.walk.lines c.in_ok-walk.ensures.lines c.args.src.now a.new.src c.given.ensures.limit a.result a.ensures.end)

pub returns-clause-faults : goal.returns-clause-faults
returns-clause-faults g c =
    let w = c.in_ok-walk.walk in
    let a = c.check_file-answer in
    let left = g.S.Source.left in
    let faults = g.S.Source.faults in
    subst (λ (r : Answer Summary). CountsFault r (faults c.args.src.now) (faults a.new.src)) (sym c.leaves_in.ensures)
    (faults_of left faults c.readings_end.ensures.within c.readings_end.ensures.beyond c.args.limit w.lines.text w.lines a.new.walk.lines c.in_ok-walk.ensures.lines c.args.src.now a.new.src c.given.ensures.limit a.result a.ensures.end)

pub returns-clause-reported : goal.returns-clause-reported
returns-clause-reported g c =
    let w = c.in_ok-walk.walk in
    let a = c.check_file-answer in
    let left = g.S.Source.left in
    let faults = g.S.Source.faults in
    reported_answered c.args.limit left faults c.args.src.now a.new.src c.sound_files_pass.ensures.pass c.answers_are_one.ensures c.leaves_in.result
    (subst (λ (r : Answer Summary). ChecksSource c.args.limit left faults c.args.src.now a.new.src r) (sym c.leaves_in.ensures)
    (source_of left faults c.readings_end.ensures.within c.readings_end.ensures.beyond c.args.limit w.lines.text w.lines a.new.walk.lines c.in_ok-walk.ensures.lines c.args.src.now a.new.src c.given.ensures.limit a.result a.ensures.end c.sound_files_pass.ensures.sound c.sound_reports_hold.ensures a.ensures.ended))
