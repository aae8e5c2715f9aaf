use Rattle.std.proofs.Common.{◌≡◌, ◌<◌, ◌+◌, ℕ, List, [], Option, Some, None, Vec, IfSome, IfNone, length, sym, ap, subst, arith, rules}
use Rattle.std.proofs.lemmas.Grind.{common_steps}
use Rattle.std.specs.declared.alloc.Global.{Global}
use Rattle.lift_model.specs.declared.entry.Entry.{Entry}
use Rattle.lift_model.specs.Model.{ModelData}
use Rattle.lift_lump.specs.declared.compared.Compared.{Compared}
use Rattle.lift_lump.specs.Quotient.{Blocks, quotient_row}
use Rattle.lift_lump.specs.Comparing.{blocks_of, IsLike, IsNumbered, AreCompared, row_text}
use Rattle.lift_lump.specs.Search.{number_at}
use Rattle.lift_lump.proofs.Likening.{AreLooked, compared_none, looked_same, looked_numbered}
use Rattle.lift_lump.proofs.compared.Compared.of.Goals as goal

looked_step : (m : ModelData) (p : Blocks) (count : ℕ) (old new : Compared) (other : Option (Vec Entry Global)) → count < length m.states → IfNone other (IsLike m p count) → IfSome other (λ _. IsLike m p count → ⊥) → IfSome other (λ row. row.items ≡ quotient_row m p count)
    → IfNone other (new ≡ old) → IfSome other (λ row. IsNumbered count (row_text row.items) old new) → AreLooked m p count old → AreLooked m p (count + 1) new
looked_step m p count old new None lt like unlike row same reported are = subst (AreLooked m p (count + 1)) (sym same) (looked_same m p count old like are)
looked_step m p count old new (Some row) lt like unlike row_is same reported are = looked_numbered m p count old new (row_text row.items) lt unlike (ap row_text row_is) reported are

pub loop-s-init : goal.loop-s-init
loop-s-init c =
    let m = c.args.model.now in
    let p = blocks_of c.args.found.now.blocks in
    let numbers = c.in_ok-vec.field-0.items in
    let size : length numbers ≡ length m.states = search rules in
    let zeros : (s : ℕ) → number_at numbers s ≡ 0 = grind (arith, common_steps) in
    let texts : c.new-2.result ≡ [] = c.new-2.ensures in
    record {
      looked = record {
        compared = compared_none m p numbers c.new.result.items c.new-2.result size zeros c.new.ensures.items;
        later = λ s le. zeros s;
        few = let none = ap (length {A = List ℕ}) texts in omega (arith, none);
      };
      none = c.requires.none;
    }

pub loop-s-preserved : goal.loop-s-preserved
loop-s-preserved c =
    let m = c.args.model.now in
    let p = blocks_of c.args.found.now.blocks in
    let end = c.states-s-end.ensures.value in
    let test = c.loop-s-test.true in
    record {
      looked = looked_step m p c.loop-s.s c.loop-s.compared c.note.new.self c.in_ok-other.other (omega (arith, end, test)) c.in_ok-other.ensures.like c.in_ok-other.ensures.other c.in_ok-other.ensures.row c.in_ok-note.ensures.same c.in_ok-note.ensures.reported c.loop-s.invariant.looked;
      none = c.in_ok-other.ensures.none;
    }

pub note-requires-clause-few : goal.note-requires-clause-few
note-requires-clause-few c =
    let few = c.loop-s.invariant.looked.few in
    let end = c.states-s-end.ensures.value in
    let test = c.loop-s-test.true in
    let most = c.states-s-end.ensures.model.count.1 in
    omega (arith, few, end, test, most)

pub returns : goal.returns
returns c =
    let m = c.args.model.now in
    let p = blocks_of c.args.found.now.blocks in
    let looked = c.loop-s.invariant.looked in
    let end = c.states-s-end.ensures.value in
    let past = c.loop-s-test.false in
    let auto = c.loop-s.auto.s-end in
    let all : c.loop-s.s ≡ length m.states = omega (arith, end, past, auto) in
    record {
      compared = subst (λ n. AreCompared m p n c.loop-s.compared.numbers.items c.loop-s.compared.different.items c.loop-s.compared.texts) all looked.compared;
      apart = c.len-apart.ensures.names.distinct;
    }
