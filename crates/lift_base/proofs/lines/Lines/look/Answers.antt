use Rattle.std.proofs.Common.{◌≡◌, ◌∙◌, ap, sym, refl, [], ◌++◌, ◌⊎◌, inl, inr, true, false, true≢false}
use Rattle.lift_base.specs.Lines.{LinesData}
use Rattle.lift_base.proofs.Fronts.{front_now}
use Rattle.lift_base.proofs.ReadingOn.{read_nothing, read_more, fewer_left, at_error}
use Rattle.lift_base.proofs.lines.Lines.look.Goals as goal

pub loop-front-init : goal.loop-front-init
loop-front-init g c = record {
  reads = ([], read_nothing g.S.Source.left c.args.self.now c.args.src.now);
  none = sym (ap (λ (l : LinesData). l.failure) c.self.view_is) ∙ c.in_default.is;
  calm = refl;
}

pub front-requires : goal.front-requires
front-requires g c = c.loop-front.invariant.none

pub returns-in-Some-front-clause-reads : goal.returns-in-Some-front-clause-reads
returns-in-Some-front-clause-reads g c = c.loop-front.invariant.reads

pub returns-in-Some-front-clause-tells : goal.returns-in-Some-front-clause-tells
returns-in-Some-front-clause-tells g c = c.loop-front.invariant.none

pub returns-in-Some-front-clause-faults : goal.returns-in-Some-front-clause-faults
returns-in-Some-front-clause-faults g c = c.loop-front.invariant.calm

pub returns-in-Some-front-clause-here : goal.returns-in-Some-front-clause-here
returns-in-Some-front-clause-here g c = front_now c.loop-front.self c.in-Some-front.front c.in-Some-front.ensures.some

pub loop-front-smaller : goal.loop-front-smaller
loop-front-smaller g c = fewer_left c.loop-front.self c.read.new.self (c.in_default-front.ensures.none) (by c.in_ok-read.ensures.grows) where
  by : {A B : Type 0} → A ⊎ B ⊎ (false ≡ true) → A ⊎ B
  by (inl a) = inl a
  by (inr (inl b)) = inr b
  by (inr (inr bad)) = absurd (true≢false (sym bad))

pub loop-front-preserved : goal.loop-front-preserved
loop-front-preserved g c =
    let before = c.loop-front.invariant in
    let now = c.in_ok-read.ensures in record {
      reads = (before.reads.0 ++ now.reads.0, read_more g.S.Source.left c.args.self.now c.loop-front.self c.read.new.self c.args.src.now c.loop-front.src c.read.new.src before.reads.0 now.reads.0 before.reads.1 now.reads.1);
      none = now.tells;
      calm = now.faults ∙ before.calm;
    }

pub returns-in_err-read-clause-reads : goal.returns-in_err-read-clause-reads
returns-in_err-read-clause-reads g c =
    let before = c.loop-front.invariant.reads in
    let now = c.read.ensures.reads in
    (before.0 ++ now.0, read_more g.S.Source.left c.args.self.now c.loop-front.self c.read.new.self c.args.src.now c.loop-front.src c.read.new.src before.0 now.0 before.1 now.1)

pub returns-in_err-read-clause-faults : goal.returns-in_err-read-clause-faults
returns-in_err-read-clause-faults g c =
    at_error g.S.Source.faults c.args.self.now.failure c.loop-front.self.failure c.args.src.now c.loop-front.src c.read.new.src c.in_err-read.field-0.0 c.from_residual.result c.from_residual.ensures.1 c.loop-front.invariant.none c.loop-front.invariant.calm c.in_err-read.ensures.faults
