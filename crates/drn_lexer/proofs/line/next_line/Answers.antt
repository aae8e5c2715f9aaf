use Rattle.std.proofs.Common.{◌≡◌, ◌∙◌, sym, Err, rules}
use Rattle.drn_lexer.proofs.Verdicts.{none_where, Refuses, refused, Gives, given_at, goes_to, Ends, ended}
use Rattle.drn_lexer.proofs.line.next_line.Goals as goal
use Rattle.drn_lexer.proofs.line.next_line.Goals.{After-from_residual, Then-is_some, In_default}

-- ---- at a line that is refused

stop : (c : After-from_residual) → Refuses c.args.text.now c.args.place.now c.loop-raw.place c.in_err-line.field-0.0
stop c = refused _ _ _ _ _ c.loop-raw.invariant.left c.in-Some.ensures.line (sym c.judged.ensures.answer ∙ c.in_err-line.was)

is_error : (c : After-from_residual) → c.from_residual.result ≡ Err c.in_err-line.field-0.0
is_error c = search rules

pub returns-in_err-line-clause-answer : goal.returns-in_err-line-clause-answer
returns-in_err-line-clause-answer c = is_error c ∙ (stop c).answer

pub returns-in_err-line-clause-place : goal.returns-in_err-line-clause-place
returns-in_err-line-clause-place c = (stop c).place

pub returns-in_err-line-clause-none : goal.returns-in_err-line-clause-none
returns-in_err-line-clause-none c = none_where _ _ (returns-in_err-line-clause-answer c)

pub returns-in_err-line-clause-refused : goal.returns-in_err-line-clause-refused
returns-in_err-line-clause-refused c = rw (is_error c) (stop c).left

-- ---- behind a line that is given

gives : (c : Then-is_some) → Gives c.args.text.now c.args.place.now c.place_behind.result c.in_ok-line.line
gives c =
    given_at _ _ _ _ _ _ c.loop-raw.invariant.forward c.loop-raw.invariant.left c.in-Some.ensures.line (sym c.judged.ensures.answer ∙ c.in_ok-line.was) (sym c.is_some.ensures ∙ c.if-is_some.true)
    c.in_ok-line.ensures.content c.in_ok-line.ensures.lies c.place_behind.ensures

pub returns-then-is_some-clause-answer : goal.returns-then-is_some-clause-answer
returns-then-is_some-clause-answer c = (gives c).answer

pub returns-then-is_some-clause-place : goal.returns-then-is_some-clause-place
returns-then-is_some-clause-place c = (gives c).place

pub returns-then-is_some-clause-none : goal.returns-then-is_some-clause-none
returns-then-is_some-clause-none c = none_where _ _ (gives c).answer

pub returns-then-is_some-clause-line : goal.returns-then-is_some-clause-line
returns-then-is_some-clause-line c = (gives c).line

-- ---- behind a line that is passed over

pub loop-raw-preserved : goal.loop-raw-preserved
loop-raw-preserved c =
    let next =
    goes_to c.args.text.now c.args.place.now c.loop-raw.place c.place_behind.result c.in-Some.raw.line _ c.loop-raw.invariant.forward c.loop-raw.invariant.left c.loop-raw.invariant.count c.loop-raw.invariant.number
    c.in-Some.ensures.line (sym c.judged.ensures.answer ∙ c.in_ok-line.was) (sym c.is_some.ensures ∙ c.if-is_some.false) c.place_behind.ensures in
    record { forward = next.forward; within = next.within; number = next.number; left = next.left; count = next.count }

-- ---- at the end

ends : (c : In_default) → Ends c.args.text.now c.args.place.now c.loop-raw.place
ends c = ended _ _ _ c.loop-raw.invariant.left c.loop-raw.invariant.count c.in_default.ensures.none

pub returns-clause-answer : goal.returns-clause-answer
returns-clause-answer c = (ends c).answer

pub returns-clause-place : goal.returns-clause-place
returns-clause-place c = (ends c).place

pub returns-clause-none : goal.returns-clause-none
returns-clause-none c = none_where _ _ (ends c).answer
