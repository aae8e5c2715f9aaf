use Rattle.std.proofs.Common.{rules, map, string_bytes, sym, ◌∙◌}
use Rattle.clap.specs.Words.{found_of}
use Rattle.plift_words.proofs.Words.{verify_lines, found_job}
use Rattle.plift_words.proofs.command.verify_job.Goals as goal

pub returns-in_default : goal.returns-in_default
returns-in_default c = verify_lines (map string_bytes c.args.words.now) (search rules)

pub returns-in-Ok-asking_job : goal.returns-in-Ok-asking_job
returns-in-Ok-asking_job c = found_job (map string_bytes c.args.words.now) (found_of c.in-Ok.matches) (search rules) c.in-Ok.ensures.values ∙ sym c.in-Ok-asking_job.ensures

pub returns : goal.returns
returns c = found_job (map string_bytes c.args.words.now) (found_of c.in-Ok.matches) (search rules) c.in-Ok.ensures.values ∙ sym c.in-Err.ensures
