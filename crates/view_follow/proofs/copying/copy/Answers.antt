use Rattle.std.proofs.Common.{[], refl, ◌++◌, ◌+◌, ◌≡◌, ◌≤◌, ℕ, length, take, subst, ◌∙◌, arith}
use Rattle.std.proofs.lemmas.List.{length-append, length-take-le}
use Rattle.std.proofs.KnownBytes.{Appends-nil, Appends-trans, Consumes-kept, Consumes-nil, Consumes-trans}
use Rattle.lift_base.specs.Outside.{Rose}
use Rattle.view_follow.proofs.Pieces.{in_part, cut}
use Rattle.view_follow.proofs.Telling.{passed_but_last, passes_both, passes_nothing}
use Rattle.view_follow.proofs.copying.copy.Goals as goal

pub loop-reads-init : goal.loop-reads-init
loop-reads-init g c = record {
  copied = ([], Consumes-nil _, Appends-nil _);
  long = omega arith;
  read_well = refl;
  written_well = refl;
  reported = ([], Consumes-nil _, passes_nothing g.E.Sink.taken g.E.Sink.faults _ _);
}

pub returns-in-Failed-clause-copied : goal.returns-in-Failed-clause-copied
returns-in-Failed-clause-copied g c =
    let so_far = c.loop-reads.invariant in
    let read = c.in-Failed.ensures in
    ((so_far.copied.0, Consumes-kept _ _ _ _ so_far.copied.1 read.0, so_far.copied.2), subst (λ (n : ℕ). Rose n (g.S.Source.faults c.read.new.self)) so_far.read_well read.1)

pub returns-in_err-write_all-in-Bytes-clause-copied : goal.returns-in_err-write_all-in-Bytes-clause-copied
returns-in_err-write_all-in-Bytes-clause-copied g c =
    let so_far = c.loop-reads.invariant in
    let wrote = c.in_err-write_all-in-Bytes.ensures.wrote in
    cut g.S.Source.left g.S.Source.faults g.K.Sink.taken g.K.Sink.faults _ _ _ _ c.from_residual.result c.from_residual.ensures.1 (in_part _ _ _ _ _ _ _ so_far.copied c.in-Bytes.ensures.1 wrote.part) (subst (λ (n : ℕ). Rose n (g.K.Sink.faults c.write_all.new.out)) so_far.written_well wrote.cause)

pub returns-in-Failed-clause-reported : goal.returns-in-Failed-clause-reported
returns-in-Failed-clause-reported g c =
    let reported = c.loop-reads.invariant.reported in
    (reported.0, Consumes-kept _ _ _ _ reported.1 c.in-Failed.ensures.0, reported.2)

pub returns-in_err-write_all-in-Bytes-clause-reported : goal.returns-in_err-write_all-in-Bytes-clause-reported
returns-in_err-write_all-in-Bytes-clause-reported g c =
    let reported = c.loop-reads.invariant.reported in
    let read = c.in-Bytes.ensures in
    let same = c.read.auto.buf in
    let part : length (take c.in-Bytes.count c.read.new.buf) ≡ c.in-Bytes.count = length-take-le c.in-Bytes.count c.read.new.buf read.0 in
    let short : length (take c.in-Bytes.count c.read.new.buf) ≤ 4096 = omega arith in
    passed_but_last g.S.Source.left _ _ _ c.from_residual.result c.from_residual.ensures.1 reported.0 (take c.in-Bytes.count c.read.new.buf) (Consumes-trans _ _ _ _ _ reported.1 read.1) short reported.2

pub loop-reads-preserved : goal.loop-reads-preserved
loop-reads-preserved g c =
    let so_far = c.loop-reads.invariant in
    let read = c.in-Bytes.ensures in
    let wrote = c.in_ok-write_all-in-Bytes.ensures.wrote in
    let piece = take c.in-Bytes.count c.read.new.buf in
    let whole : length (so_far.copied.0 ++ piece) ≡ length so_far.copied.0 + length piece = length-append so_far.copied.0 piece in
    let part : length piece ≡ c.in-Bytes.count = length-take-le c.in-Bytes.count c.read.new.buf read.0 in
    let before = so_far.long in
    record {
      copied = (so_far.copied.0 ++ take c.in-Bytes.count c.read.new.buf, Consumes-trans _ _ _ _ _ so_far.copied.1 read.1, Appends-trans _ _ _ _ _ so_far.copied.2 wrote.whole);
      long = omega arith;
      read_well = read.3 ∙ so_far.read_well;
      written_well = wrote.calm ∙ so_far.written_well;
      reported = (so_far.reported.0 ++ piece, Consumes-trans _ _ _ _ _ so_far.reported.1 read.1, passes_both g.E.Sink.taken g.E.Sink.faults _ _ _ _ _ _ _ _ so_far.reported.2 c.pass.ensures);
    }
