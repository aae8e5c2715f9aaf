use Rattle.std.proofs.Common.{◌∙◌, sym, arith}
use Rattle.model_gen.specs.Ladder.{ladder_case, ladder_precision}
use Rattle.plift_words.specs.Job.JobData.{verify, check, migrate, refine, generate, selftest}
use Rattle.plift_top.specs.Selftest.{one_half}
use Rattle.plift_top.proofs.Acts as acts
use Rattle.plift_top.proofs.program.run.Goals as goal

pub returns-clause-sound : goal.returns-clause-sound
returns-clause-sound g c e j is shown = acts.sound g.S.Source.left g.S.Source.faults g.K.Sink.taken g.K.Sink.faults _ _ _ _ c.right_reports_are_sound.ensures c.lumped_reports_are_sound.ensures _ _ (rw c.deref.ensures.value at c.act-answer.ensures.answer) (rw c.deref.ensures.value at c.act-answer.ensures.bound) (rw c.deref.ensures.value at c.act-answer.ensures.whole) (sym c.end.ensures.status ∙ e) j is shown

pub returns-clause-done : goal.returns-clause-done
returns-clause-done g c e j is = acts.done g.S.Source.left g.S.Source.faults g.K.Sink.taken g.K.Sink.faults _ _ _ _ _ (verify j) _ (rw c.deref.ensures.value at c.act-answer.ensures.answer) (sym c.end.ensures.status ∙ e) is

pub returns-clause-at_fault : goal.returns-clause-at_fault
returns-clause-at_fault g c e = rw c.end.ensures.status (acts.at_fault g.S.Source.left g.S.Source.faults g.K.Sink.taken g.K.Sink.faults _ _ _ _ _ _ (rw c.deref.ensures.value at c.act-answer.ensures.answer) e)

pub returns-clause-not_plain : goal.returns-clause-not_plain
returns-clause-not_plain g c e = c.end.ensures.status ∙ acts.not_plain g.S.Source.left g.S.Source.faults g.K.Sink.taken g.K.Sink.faults _ _ _ _ _ _ (rw c.deref.ensures.value at c.act-answer.ensures.answer) e

pub returns-clause-read_fault : goal.returns-clause-read_fault
returns-clause-read_fault g c e = acts.read_fault g.S.Source.left g.S.Source.faults g.K.Sink.taken g.K.Sink.faults _ _ _ _ _ _ (rw c.deref.ensures.value at c.act-answer.ensures.answer) (sym c.end.ensures.status ∙ e)

pub returns-clause-write_fault : goal.returns-clause-write_fault
returns-clause-write_fault g c e = acts.write_fault g.S.Source.left g.S.Source.faults g.K.Sink.taken g.K.Sink.faults _ _ _ _ _ _ (rw c.deref.ensures.value at c.act-answer.ensures.answer) (sym c.end.ensures.status ∙ e)

pub returns-clause-too_long : goal.returns-clause-too_long
returns-clause-too_long g c e = acts.too_long g.S.Source.left g.S.Source.faults g.K.Sink.taken g.K.Sink.faults _ _ _ _ _ _ (rw c.deref.ensures.value at c.act-answer.ensures.answer) (rw c.deref.ensures.value at c.act-answer.ensures.limit) (sym c.end.ensures.status ∙ e)

pub returns-clause-within : goal.returns-clause-within
returns-clause-within g c e = acts.within g.S.Source.left g.S.Source.faults g.K.Sink.taken g.K.Sink.faults _ _ _ _ _ _ (rw c.deref.ensures.value at c.act-answer.ensures.answer) (rw c.deref.ensures.value at c.act-answer.ensures.limit) (λ f. e (c.end.ensures.status ∙ f))

pub returns-clause-complete : goal.returns-clause-complete
returns-clause-complete g c j text a root is reported read named admitted can len sure1 sure2 =
    rw c.end.ensures.status (acts.complete g.S.Source.left g.S.Source.faults g.K.Sink.taken g.K.Sink.faults _ _ _ _ j text reported len sure1 sure2 c.first_fault_is_one.ensures.none _ _ (rw c.deref.ensures.value at c.act-answer.ensures.answer) is a root read named admitted can)

pub returns-clause-refused : goal.returns-clause-refused
returns-clause-refused g c j text why is reported bad len sure1 sure2 =
    rw c.end.ensures.status (acts.refused g.S.Source.left g.S.Source.faults g.K.Sink.taken g.K.Sink.faults _ _ _ _ j text reported len sure1 sure2 c.first_fault_is_one.ensures.none _ _ (rw c.deref.ensures.value at c.act-answer.ensures.answer) is why bad)

pub returns-clause-unadmitted : goal.returns-clause-unadmitted
returns-clause-unadmitted g c j text a root is reported read named bad chain len sure1 sure2 =
    rw c.end.ensures.status (acts.unadmitted g.S.Source.left g.S.Source.faults g.K.Sink.taken g.K.Sink.faults _ _ _ _ j text reported len sure1 sure2 _ _ (rw c.deref.ensures.value at c.act-answer.ensures.answer) is a root read named bad chain)

pub returns-clause-part : goal.returns-clause-part
returns-clause-part g c e j is = (acts.cut_off g.S.Source.left g.S.Source.faults g.K.Sink.taken g.K.Sink.faults _ _ _ _ _ (verify j) _ (rw c.deref.ensures.value at c.act-answer.ensures.answer) (sym c.end.ensures.status ∙ e) is).0

pub returns-clause-kept : goal.returns-clause-kept
returns-clause-kept g c d e = acts.kept g.S.Source.left g.S.Source.faults g.K.Sink.taken g.K.Sink.faults _ _ _ _ _ _ (rw c.deref.ensures.value at c.act-answer.ensures.answer) (λ f. d (c.end.ensures.status ∙ f)) (λ f. e (c.end.ensures.status ∙ f))

pub returns-clause-unread : goal.returns-clause-unread
returns-clause-unread g c e = acts.unread g.S.Source.left g.S.Source.faults g.K.Sink.taken g.K.Sink.faults _ _ _ _ _ _ (rw c.deref.ensures.value at c.act-answer.ensures.answer) e

pub returns-clause-silent : goal.returns-clause-silent
returns-clause-silent g c e = acts.silent g.E.Sink.taken g.E.Sink.faults _ _ _ c.end.ensures.noted (sym c.end.ensures.status ∙ e)

pub returns-clause-reported : goal.returns-clause-reported
returns-clause-reported g c d = rw c.end.ensures.status (acts.reported g.S.Source.left g.S.Source.faults g.K.Sink.taken g.K.Sink.faults _ _ _ _ g.E.Sink.taken g.E.Sink.faults _ _ _ _ (rw c.deref.ensures.value at c.act-answer.ensures.answer) c.end.ensures.noted (λ f. d (c.end.ensures.status ∙ f)))

pub returns-clause-generated : goal.returns-clause-generated
returns-clause-generated g c e n is = (acts.done g.S.Source.left g.S.Source.faults g.K.Sink.taken g.K.Sink.faults _ _ _ _ _ (generate n) _ (rw c.deref.ensures.value at c.act-answer.ensures.answer) (sym c.end.ensures.status ∙ e) is).0

pub returns-clause-generates : goal.returns-clause-generates
returns-clause-generates g c n is = rw c.end.ensures.status (acts.generates g.S.Source.left g.S.Source.faults g.K.Sink.taken g.K.Sink.faults _ _ _ _ _ _ (rw c.deref.ensures.value at c.act-answer.ensures.answer) n is)

pub returns-clause-reads_nothing : goal.returns-clause-reads_nothing
returns-clause-reads_nothing g c n is = (acts.acted g.S.Source.left g.S.Source.faults g.K.Sink.taken g.K.Sink.faults _ _ _ _ _ (generate n) _ (rw c.deref.ensures.value at c.act-answer.ensures.answer) is).1

pub returns-clause-ladder_part : goal.returns-clause-ladder_part
returns-clause-ladder_part g c e n is = (acts.cut_off g.S.Source.left g.S.Source.faults g.K.Sink.taken g.K.Sink.faults _ _ _ _ _ (generate n) _ (rw c.deref.ensures.value at c.act-answer.ensures.answer) (sym c.end.ensures.status ∙ e) is).0.0

pub returns-clause-checked : goal.returns-clause-checked
returns-clause-checked g c e is = acts.done g.S.Source.left g.S.Source.faults g.K.Sink.taken g.K.Sink.faults _ _ _ _ _ check _ (rw c.deref.ensures.value at c.act-answer.ensures.answer) (sym c.end.ensures.status ∙ e) is

pub returns-clause-line_part : goal.returns-clause-line_part
returns-clause-line_part g c e is = (acts.cut_off g.S.Source.left g.S.Source.faults g.K.Sink.taken g.K.Sink.faults _ _ _ _ _ check _ (rw c.deref.ensures.value at c.act-answer.ensures.answer) (sym c.end.ensures.status ∙ e) is).0

pub returns-clause-not_sound : goal.returns-clause-not_sound
returns-clause-not_sound g c e = acts.not_sound g.S.Source.left g.S.Source.faults g.K.Sink.taken g.K.Sink.faults _ _ _ _ c.sound_files_pass.ensures.pass c.answers_are_one.ensures _ _ (rw c.deref.ensures.value at c.act-answer.ensures.answer) (sym c.end.ensures.status ∙ e)

pub returns-clause-check_complete : goal.returns-clause-check_complete
returns-clause-check_complete g c bytes leaves is reported file len sure1 sure2 =
    rw c.end.ensures.status (acts.check_complete g.S.Source.left g.S.Source.faults g.K.Sink.taken g.K.Sink.faults _ _ _ _ bytes reported len sure1 sure2 c.sound_files_pass.ensures.pass c.answers_are_one.ensures _ _ (rw c.deref.ensures.value at c.act-answer.ensures.answer) is leaves file)

pub returns-clause-check_refused : goal.returns-clause-check_refused
returns-clause-check_refused g c bytes is reported bad len sure1 sure2 =
    rw c.end.ensures.status (acts.check_refused g.S.Source.left g.S.Source.faults g.K.Sink.taken g.K.Sink.faults _ _ _ _ bytes reported len sure1 sure2 _ _ (rw c.deref.ensures.value at c.act-answer.ensures.answer) is bad)

pub returns-clause-migrated : goal.returns-clause-migrated
returns-clause-migrated g c e is = acts.done g.S.Source.left g.S.Source.faults g.K.Sink.taken g.K.Sink.faults _ _ _ _ _ migrate _ (rw c.deref.ensures.value at c.act-answer.ensures.answer) (sym c.end.ensures.status ∙ e) is

pub returns-clause-migrated_part : goal.returns-clause-migrated_part
returns-clause-migrated_part g c e is = (acts.cut_off g.S.Source.left g.S.Source.faults g.K.Sink.taken g.K.Sink.faults _ _ _ _ _ migrate _ (rw c.deref.ensures.value at c.act-answer.ensures.answer) (sym c.end.ensures.status ∙ e) is).0

pub returns-clause-migrate_complete : goal.returns-clause-migrate_complete
returns-clause-migrate_complete g c bytes leaves is reported file len sure1 sure2 =
    rw c.end.ensures.status (acts.migrate_complete g.S.Source.left g.S.Source.faults g.K.Sink.taken g.K.Sink.faults _ _ _ _ bytes reported len sure1 sure2 c.sound_files_pass.ensures.pass c.answers_are_one.ensures _ _ (rw c.deref.ensures.value at c.act-answer.ensures.answer) is leaves file)

pub returns-clause-migrate_refused : goal.returns-clause-migrate_refused
returns-clause-migrate_refused g c bytes is reported bad len sure1 sure2 =
    rw c.end.ensures.status (acts.migrate_refused g.S.Source.left g.S.Source.faults g.K.Sink.taken g.K.Sink.faults _ _ _ _ bytes reported len sure1 sure2 _ _ (rw c.deref.ensures.value at c.act-answer.ensures.answer) is bad)

pub returns-clause-selftested : goal.returns-clause-selftested
returns-clause-selftested g c e = acts.selftested g.S.Source.left g.S.Source.faults g.K.Sink.taken g.K.Sink.faults _ _ _ _ _ _ (rw c.deref.ensures.value at c.act-answer.ensures.answer) (sym c.end.ensures.status ∙ e)

pub returns-clause-tested_part : goal.returns-clause-tested_part
returns-clause-tested_part g c e = acts.tested_part g.S.Source.left g.S.Source.faults g.K.Sink.taken g.K.Sink.faults _ _ _ _ _ _ (rw c.deref.ensures.value at c.act-answer.ensures.answer) (sym c.end.ensures.status ∙ e)

pub returns-clause-tests : goal.returns-clause-tests
returns-clause-tests g c n is = rw c.end.ensures.status (acts.tests g.S.Source.left g.S.Source.faults g.K.Sink.taken g.K.Sink.faults _ _ _ _ _ _ (rw c.deref.ensures.value at c.act-answer.ensures.answer) n is)

pub returns-clause-tests_unread : goal.returns-clause-tests_unread
returns-clause-tests_unread g c n is = (acts.acted g.S.Source.left g.S.Source.faults g.K.Sink.taken g.K.Sink.faults _ _ _ _ _ (selftest n) _ (rw c.deref.ensures.value at c.act-answer.ensures.answer) is).1

pub returns-clause-short_tested : goal.returns-clause-short_tested
returns-clause-short_tested g c n tree is right few sure = rw c.end.ensures.status (acts.short_tested g.S.Source.left g.S.Source.faults g.K.Sink.taken g.K.Sink.faults _ _ _ _ sure tree _ _ (rw c.deref.ensures.value at c.act-answer.ensures.answer) n is right few)

pub returns-clause-long_tested : goal.returns-clause-long_tested
returns-clause-long_tested g c n tree is right long = rw c.end.ensures.status (acts.long_tested g.S.Source.left g.S.Source.faults g.K.Sink.taken g.K.Sink.faults _ _ _ _ c.right_trees_are_one.ensures tree _ _ (rw c.deref.ensures.value at c.act-answer.ensures.answer) n is right long)

pub returns-clause-right_tree : goal.returns-clause-right_tree
returns-clause-right_tree g c = c.right_trees_exist.ensures

pub returns-clause-no_other_tree : goal.returns-clause-no_other_tree
returns-clause-no_other_tree g c = c.right_trees_are_one.ensures

pub returns-clause-ladder_tree : goal.returns-clause-ladder_tree
returns-clause-ladder_tree g c n some few = c.right_trees_exist.ensures (ladder_case n) ladder_precision one_half (c.ladders_are_cases.ensures.case n some few) (omega arith)

pub returns-clause-refined : goal.returns-clause-refined
returns-clause-refined g c e depth is = acts.done g.S.Source.left g.S.Source.faults g.K.Sink.taken g.K.Sink.faults _ _ _ _ _ (refine depth) _ (rw c.deref.ensures.value at c.act-answer.ensures.answer) (sym c.end.ensures.status ∙ e) is

pub returns-clause-refined_right : goal.returns-clause-refined_right
returns-clause-refined_right g c e = acts.refined_right g.S.Source.left g.S.Source.faults g.K.Sink.taken g.K.Sink.faults _ _ _ _ c.texts_tell_one_report.ensures _ _ (rw c.deref.ensures.value at c.act-answer.ensures.answer) (sym c.end.ensures.status ∙ e)

pub returns-clause-refined_part : goal.returns-clause-refined_part
returns-clause-refined_part g c e depth is = (acts.cut_off g.S.Source.left g.S.Source.faults g.K.Sink.taken g.K.Sink.faults _ _ _ _ _ (refine depth) _ (rw c.deref.ensures.value at c.act-answer.ensures.answer) (sym c.end.ensures.status ∙ e) is).0

pub returns-clause-refine_complete : goal.returns-clause-refine_complete
returns-clause-refine_complete g c depth bytes h t is reported old fit len sure1 sure2 =
    rw c.end.ensures.status (acts.refine_complete g.S.Source.left g.S.Source.faults g.K.Sink.taken g.K.Sink.faults _ _ _ _ depth bytes reported len sure1 sure2 c.sound_files_pass.ensures.pass c.answers_are_one.ensures c.texts_tell_one_report.ensures h t old c.first_fault_is_one.ensures.none _ _ (rw c.deref.ensures.value at c.act-answer.ensures.answer) is fit)

pub returns-clause-refine_too_deep : goal.returns-clause-refine_too_deep
returns-clause-refine_too_deep g c depth bytes h t is reported old lacks len sure1 sure2 =
    rw c.end.ensures.status (acts.refine_too_deep g.S.Source.left g.S.Source.faults g.K.Sink.taken g.K.Sink.faults _ _ _ _ depth bytes reported len sure1 sure2 c.sound_files_pass.ensures.pass c.answers_are_one.ensures c.texts_tell_one_report.ensures h t old _ _ (rw c.deref.ensures.value at c.act-answer.ensures.answer) is lacks)

pub returns-clause-refine_unadmitted : goal.returns-clause-refine_unadmitted
returns-clause-refine_unadmitted g c depth bytes h t is reported old fits bad len sure1 sure2 =
    rw c.end.ensures.status (acts.refine_unadmitted g.S.Source.left g.S.Source.faults g.K.Sink.taken g.K.Sink.faults _ _ _ _ depth bytes reported len sure1 sure2 c.sound_files_pass.ensures.pass c.answers_are_one.ensures c.texts_tell_one_report.ensures h t old _ _ (rw c.deref.ensures.value at c.act-answer.ensures.answer) is fits bad)

pub returns-clause-refine_refused : goal.returns-clause-refine_refused
returns-clause-refine_refused g c depth bytes is reported bad len sure1 sure2 =
    rw c.end.ensures.status (acts.refine_unsound g.S.Source.left g.S.Source.faults g.K.Sink.taken g.K.Sink.faults _ _ _ _ depth bytes reported len sure1 sure2 _ _ (rw c.deref.ensures.value at c.act-answer.ensures.answer) is bad)
