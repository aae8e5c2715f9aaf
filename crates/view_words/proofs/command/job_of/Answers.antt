use Rattle.std.proofs.Common.{map, string_bytes}
use Rattle.clap.specs.Words.{found_of, rows_of}
use Rattle.view_words.proofs.Found.{asks_for}
use Rattle.view_words.proofs.command.job_of.Goals as goal

pub returns-in-Ok : goal.returns-in-Ok
returns-in-Ok c = asks_for (map string_bytes c.args.words.now) (rows_of (found_of c.in-Ok.matches)) c.in_ok-found-in-Ok.found c.ok_or.result c.in-Ok.ensures.fails c.in-Ok.ensures.rows c.in_ok-found-in-Ok.ensures c.ok_or.ensures.value
