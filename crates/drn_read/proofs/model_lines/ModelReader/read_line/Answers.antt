use Rattle.std.proofs.Common.{◌≡◌, ◌==◌, true, false, length, rules}
use Rattle.drn_lexer.specs.Words.{words}
use Rattle.drn_read.specs.States.{is_transition}
use Rattle.drn_read.specs.Judging.{words_fault}
use Rattle.drn_read.specs.Keeping.{states_with}
use Rattle.drn_read.specs.Shown.{rest, IsSource}
use Rattle.drn_read.specs.ModelSteps.{words_with}
use Rattle.drn_read.proofs.ModelTests.{on_ok, on_read, transition_line_after, words_line_after}
use Rattle.drn_read.proofs.model_lines.ModelReader.read_line.Goals as goal

pub returns-then-is_transition-clause-after : goal.returns-then-is_transition-clause-after
returns-then-is_transition-clause-after c =
    let text = rest c.args.line in
    let h = c.args.header.now in
    let some : (length text == 0) ≡ false = search rules in
    let first : is_transition text ≡ true = search rules in
    rw c.on_line.ensures (on_ok c.read_transition.result c.args.line.line.number _ _ c.read_transition.ensures.after
    (λ is source spans. transition_line_after c.args.label.now h c.args.self.now c.read_transition.new.self c.args.line source spans some first is))

pub returns-else-is_transition-clause-after : goal.returns-else-is_transition-clause-after
returns-else-is_transition-clause-after c =
    let text = rest c.args.line in
    let h = c.args.header.now in
    let some : (length text == 0) ≡ false = search rules in
    on_read c.read_words.result
    (c.read_words.new.self ≡ words_with c.args.label.now c.args.self.now c.args.line.line.number (words text))
    (IsSource c.args.line)
    (λ source. c.read_words.new.self ≡ states_with c.args.label.now h c.args.self.now source)
    (λ source. words_fault h c.args.self.now source (words text))
    (search rules)
    (λ source spans. search rules)
    (λ source spans is sound. words_line_after c.args.label.now h c.args.self.now c.read_words.new.self c.args.line source spans some sound is)
