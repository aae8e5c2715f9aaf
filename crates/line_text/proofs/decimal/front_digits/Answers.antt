use Rattle.std.proofs.Common.{◌+◌, refl, arith}
use Rattle.line_text.proofs.ShortNumbers.{front_more, front_below}
use Rattle.line_text.proofs.decimal.front_digits.Goals as goal

pub loop-i-init : goal.loop-i-init
loop-i-init c = record {
  within = omega (arith);
  few = omega (arith);
  front = record { digits = refl; value = refl };
}

pub overflow_add-i : goal.overflow_add-i
overflow_add-i c = omega (arith, c.loop-i.invariant.within)

pub with_digit-requires : goal.with_digit-requires
with_digit-requires c = front_below c.args.text.now c.loop-i.i c.loop-i.number c.loop-i.invariant.front (omega (arith, c.loop-i-test.true))

pub returns-in_default-clause-digits : goal.returns-in_default-clause-digits
returns-in_default-clause-digits c = c.loop-i.invariant.front.digits

pub returns-in_default-clause-value : goal.returns-in_default-clause-value
returns-in_default-clause-value c = c.loop-i.invariant.front.value

pub with_digit-requires-in-loop-i : goal.with_digit-requires-in-loop-i
with_digit-requires-in-loop-i c =
    let text = c.args.text.now in
    let i = c.loop-i.i in
    let front = c.loop-i.invariant.front in
    let front-1 = front_more text i c.loop-i.number c.in-Some.one (i + 1) front (omega (arith, c.loop-i-test.true)) c.in-Some.ensures.some (omega arith) in
    front_below text (i + 1) c.in-Some.one front-1 (omega (arith, c.loop-i-test.true))

pub returns-in_default-with_digit-clause-digits : goal.returns-in_default-with_digit-clause-digits
returns-in_default-with_digit-clause-digits c =
    let text = c.args.text.now in
    let i = c.loop-i.i in
    let front = c.loop-i.invariant.front in
    let front-1 = front_more text i c.loop-i.number c.in-Some.one (i + 1) front (omega (arith, c.loop-i-test.true)) c.in-Some.ensures.some (omega arith) in
    front-1.digits

pub returns-in_default-with_digit-clause-value : goal.returns-in_default-with_digit-clause-value
returns-in_default-with_digit-clause-value c =
    let text = c.args.text.now in
    let i = c.loop-i.i in
    let front = c.loop-i.invariant.front in
    let front-1 = front_more text i c.loop-i.number c.in-Some.one (i + 1) front (omega (arith, c.loop-i-test.true)) c.in-Some.ensures.some (omega arith) in
    front-1.value

pub with_digit-requires-in-loop-i-2 : goal.with_digit-requires-in-loop-i-2
with_digit-requires-in-loop-i-2 c =
    let text = c.args.text.now in
    let i = c.loop-i.i in
    let front = c.loop-i.invariant.front in
    let front-1 = front_more text i c.loop-i.number c.in-Some.one (i + 1) front (omega (arith, c.loop-i-test.true)) c.in-Some.ensures.some (omega arith) in
    let front-2 = front_more text (i + 1) c.in-Some.one c.in-Some-with_digit.two (i + 2) front-1 (omega (arith, c.loop-i-test.true)) c.in-Some-with_digit.ensures.some (omega arith) in
    front_below text (i + 2) c.in-Some-with_digit.two front-2 (omega (arith, c.loop-i-test.true))

pub returns-in_default-with_digit-2-clause-digits : goal.returns-in_default-with_digit-2-clause-digits
returns-in_default-with_digit-2-clause-digits c =
    let text = c.args.text.now in
    let i = c.loop-i.i in
    let front = c.loop-i.invariant.front in
    let front-1 = front_more text i c.loop-i.number c.in-Some.one (i + 1) front (omega (arith, c.loop-i-test.true)) c.in-Some.ensures.some (omega arith) in
    let front-2 = front_more text (i + 1) c.in-Some.one c.in-Some-with_digit.two (i + 2) front-1 (omega (arith, c.loop-i-test.true)) c.in-Some-with_digit.ensures.some (omega arith) in
    front-2.digits

pub returns-in_default-with_digit-2-clause-value : goal.returns-in_default-with_digit-2-clause-value
returns-in_default-with_digit-2-clause-value c =
    let text = c.args.text.now in
    let i = c.loop-i.i in
    let front = c.loop-i.invariant.front in
    let front-1 = front_more text i c.loop-i.number c.in-Some.one (i + 1) front (omega (arith, c.loop-i-test.true)) c.in-Some.ensures.some (omega arith) in
    let front-2 = front_more text (i + 1) c.in-Some.one c.in-Some-with_digit.two (i + 2) front-1 (omega (arith, c.loop-i-test.true)) c.in-Some-with_digit.ensures.some (omega arith) in
    front-2.value

pub with_digit-requires-in-loop-i-3 : goal.with_digit-requires-in-loop-i-3
with_digit-requires-in-loop-i-3 c =
    let text = c.args.text.now in
    let i = c.loop-i.i in
    let front = c.loop-i.invariant.front in
    let front-1 = front_more text i c.loop-i.number c.in-Some.one (i + 1) front (omega (arith, c.loop-i-test.true)) c.in-Some.ensures.some (omega arith) in
    let front-2 = front_more text (i + 1) c.in-Some.one c.in-Some-with_digit.two (i + 2) front-1 (omega (arith, c.loop-i-test.true)) c.in-Some-with_digit.ensures.some (omega arith) in
    let front-3 = front_more text (i + 2) c.in-Some-with_digit.two c.in-Some-with_digit-2.three (i + 3) front-2 (omega (arith, c.loop-i-test.true)) c.in-Some-with_digit-2.ensures.some (omega arith) in
    front_below text (i + 3) c.in-Some-with_digit-2.three front-3 (omega (arith, c.loop-i-test.true))

pub returns-in_default-with_digit-3-clause-digits : goal.returns-in_default-with_digit-3-clause-digits
returns-in_default-with_digit-3-clause-digits c =
    let text = c.args.text.now in
    let i = c.loop-i.i in
    let front = c.loop-i.invariant.front in
    let front-1 = front_more text i c.loop-i.number c.in-Some.one (i + 1) front (omega (arith, c.loop-i-test.true)) c.in-Some.ensures.some (omega arith) in
    let front-2 = front_more text (i + 1) c.in-Some.one c.in-Some-with_digit.two (i + 2) front-1 (omega (arith, c.loop-i-test.true)) c.in-Some-with_digit.ensures.some (omega arith) in
    let front-3 = front_more text (i + 2) c.in-Some-with_digit.two c.in-Some-with_digit-2.three (i + 3) front-2 (omega (arith, c.loop-i-test.true)) c.in-Some-with_digit-2.ensures.some (omega arith) in
    front-3.digits

pub returns-in_default-with_digit-3-clause-value : goal.returns-in_default-with_digit-3-clause-value
returns-in_default-with_digit-3-clause-value c =
    let text = c.args.text.now in
    let i = c.loop-i.i in
    let front = c.loop-i.invariant.front in
    let front-1 = front_more text i c.loop-i.number c.in-Some.one (i + 1) front (omega (arith, c.loop-i-test.true)) c.in-Some.ensures.some (omega arith) in
    let front-2 = front_more text (i + 1) c.in-Some.one c.in-Some-with_digit.two (i + 2) front-1 (omega (arith, c.loop-i-test.true)) c.in-Some-with_digit.ensures.some (omega arith) in
    let front-3 = front_more text (i + 2) c.in-Some-with_digit.two c.in-Some-with_digit-2.three (i + 3) front-2 (omega (arith, c.loop-i-test.true)) c.in-Some-with_digit-2.ensures.some (omega arith) in
    front-3.value

pub loop-i-preserved : goal.loop-i-preserved
loop-i-preserved c =
    let text = c.args.text.now in
    let i = c.loop-i.i in
    let front = c.loop-i.invariant.front in
    let front-1 = front_more text i c.loop-i.number c.in-Some.one (i + 1) front (omega (arith, c.loop-i-test.true)) c.in-Some.ensures.some (omega arith) in
    let front-2 = front_more text (i + 1) c.in-Some.one c.in-Some-with_digit.two (i + 2) front-1 (omega (arith, c.loop-i-test.true)) c.in-Some-with_digit.ensures.some (omega arith) in
    let front-3 = front_more text (i + 2) c.in-Some-with_digit.two c.in-Some-with_digit-2.three (i + 3) front-2 (omega (arith, c.loop-i-test.true)) c.in-Some-with_digit-2.ensures.some (omega arith) in
    let front-4 = front_more text (i + 3) c.in-Some-with_digit-2.three c.in-Some-with_digit-3.four (i + 4) front-3 (omega (arith, c.loop-i-test.true)) c.in-Some-with_digit-3.ensures.some (omega arith) in
    record {
      within = omega (arith);
      few = omega (arith);
      front = front-4;
    }

pub loop-i-2-init : goal.loop-i-2-init
loop-i-2-init c = record {
  within = c.loop-i.invariant.within;
  few = c.loop-i.invariant.few;
  front = c.loop-i.invariant.front;
}

pub with_digit-requires-in-loop-i-2-2 : goal.with_digit-requires-in-loop-i-2-2
with_digit-requires-in-loop-i-2-2 c = front_below c.args.text.now c.loop-i-2.i c.loop-i-2.number c.loop-i-2.invariant.front c.loop-i-2.invariant.few

pub returns-in_default-with_digit-4-clause-digits : goal.returns-in_default-with_digit-4-clause-digits
returns-in_default-with_digit-4-clause-digits c = c.loop-i-2.invariant.front.digits

pub returns-in_default-with_digit-4-clause-value : goal.returns-in_default-with_digit-4-clause-value
returns-in_default-with_digit-4-clause-value c = c.loop-i-2.invariant.front.value

pub loop-i-2-preserved : goal.loop-i-2-preserved
loop-i-2-preserved c = record {
  within = omega (arith);
  few = omega (arith);
  front = front_more c.args.text.now c.loop-i-2.i c.loop-i-2.number c.in-Some-with_digit-4.more (c.loop-i-2.i + 1) c.loop-i-2.invariant.front (omega (arith)) c.in-Some-with_digit-4.ensures.some refl;
}

pub returns-else-i-text-2-clause-digits : goal.returns-else-i-text-2-clause-digits
returns-else-i-text-2-clause-digits c = c.loop-i-2.invariant.front.digits

pub returns-else-i-text-2-clause-value : goal.returns-else-i-text-2-clause-value
returns-else-i-text-2-clause-value c = c.loop-i-2.invariant.front.value

pub returns-after-loop-i-2-clause-digits : goal.returns-after-loop-i-2-clause-digits
returns-after-loop-i-2-clause-digits c = c.loop-i-2.invariant.front.digits

pub returns-after-loop-i-2-clause-value : goal.returns-after-loop-i-2-clause-value
returns-after-loop-i-2-clause-value c = c.loop-i-2.invariant.front.value
