use Rattle.plift_top.proofs.Migrating.{stopped, ready, migrated_whole, migrated_in_part}
use Rattle.plift_top.proofs.migrate.migrate_whole.Goals as goal

pub returns-in_err-check_first : goal.returns-in_err-check_first
returns-in_err-check_first g c = stopped g.K.Sink.taken g.K.Sink.faults c.args.out.now c.args.text.now _ c.from_residual.result c.from_residual.ensures.1 c.in_err-check_first.ensures

pub tell_buffered-requires : goal.tell_buffered-requires
tell_buffered-requires g c = ready c.sound_files_migrate.ensures c.args.text.now _ c.in_ok-check_first.ensures

pub returns-in_err-tell_buffered : goal.returns-in_err-tell_buffered
returns-in_err-tell_buffered g c =
    migrated_in_part c.sound_files_migrate.ensures c.args.text.now g.K.Sink.taken g.K.Sink.faults c.args.out.now c.tell_buffered.new.out _ c.from_residual-in_err-tell_buffered.result _ c.from_residual-in_err-tell_buffered.ensures.1 c.in_ok-check_first.ensures c.in_err-tell_buffered.ensures

pub returns : goal.returns
returns g c = migrated_whole c.sound_files_migrate.ensures c.args.text.now g.K.Sink.taken g.K.Sink.faults c.args.out.now c.tell_buffered.new.out _ _ c.in_ok-check_first.ensures c.in_ok-tell_buffered.ensures
