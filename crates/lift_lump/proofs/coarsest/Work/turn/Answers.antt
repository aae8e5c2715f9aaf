use Rattle.std.proofs.Common.{◌≡◌, ℕ, Bool, true, List, [], ◌∷◌, All, length, nat_eq, refl, sym, subst, ap, ◌∙◌, arith}
use Rattle.std.proofs.lemmas.Bool.Decides.{nat_tests}
use Rattle.lift_lump.specs.Quotient.{AreNumbered}
use Rattle.lift_lump.specs.Search.{IsArrow, IsByNumber}
use Rattle.lift_lump.specs.Splitting.{AreClear, AreSameBlocks, HaveNone, labelled}
use Rattle.lift_lump.specs.Comparing.{blocks_of, AreCompared}
use Rattle.lift_lump.proofs.Likening.{none_differs, least_none, split_above}
use Rattle.lift_lump.proofs.coarsest.Work.turn.Goals as goal

pub search-requires-clause-count : goal.search-requires-clause-count
search-requires-clause-count c = c.requires.work.count ∙ sym c.requires.work.size

pub search-requires-clause-arrows : goal.search-requires-clause-arrows
search-requires-clause-arrows c = subst (λ n. All (All (IsArrow n)) c.args.self.now.arrows) (sym c.requires.work.size) c.requires.work.arrows

pub search-requires-clause-inside : goal.search-requires-clause-inside
search-requires-clause-inside c = c.requires.work.inside

pub search-requires-clause-states : goal.search-requires-clause-states
search-requires-clause-states c = let size = c.requires.work.size in let most = c.requires.work.valid.count.1 in omega (arith, size, most)

pub search-requires-clause-used : goal.search-requires-clause-used
search-requires-clause-used c = c.requires.work.used

pub search-requires-clause-listed : goal.search-requires-clause-listed
search-requires-clause-listed c = c.requires.work.listed

pub search-requires-clause-clear : goal.search-requires-clause-clear
search-requires-clause-clear c = subst (λ n. AreClear n c.args.self.now.room.numbers.items c.args.self.now.room.marks.items) (sym c.requires.work.size) c.requires.work.clear

list_none : (xs : List ℕ) → length xs ≡ 0 → xs ≡ []
list_none [] e = refl
list_none (x ∷ xs) e = absurd (omega (arith, e))

empty_is : (b : Bool) (n : ℕ) → b ≡ nat_eq n 0 → b ≡ true → n ≡ 0
empty_is b n e t = let f : nat_eq n 0 ≡ true = sym e ∙ t in grind (arith, nat_tests)

pub returns-then-is_empty-clause-found : goal.returns-then-is_empty-clause-found
returns-then-is_empty-clause-found c =
    let m = c.args.model.now in
    let work = c.requires.work in
    let labels = c.search.new.part.labels.items in
    let p = blocks_of c.in_ok-blocks.blocks in
    let laws = c.coefficients_determine.ensures in
    let size : length labels ≡ length m.states = c.in_ok-search.ensures.size ∙ work.size in
    let above = c.in_ok-search.ensures.kept m work.marks.0 work.valid (sym work.size) work.marks.1 work.above in
    let numbered = subst (λ n. AreNumbered n p) (ap length c.deref.ensures.value ∙ size) c.in_ok-blocks.ensures.numbered in
    let same = subst (λ (ls : List ℕ). AreSameBlocks ls p.of_states) c.deref.ensures.value c.in_ok-blocks.ensures.reported in
    let different = c.in_ok-compared.compared.different in
    let none : different.items ≡ [] = list_none different.items (sym different.ok.0 ∙ empty_is c.is_empty.result different.len c.is_empty.ensures c.if-is_empty.true) in
    let numbers = c.in_ok-compared.compared.numbers.items in
    let texts = c.in_ok-compared.compared.texts in
    let compared = subst (λ (ds : List ℕ). AreCompared m p (length m.states) numbers ds texts) none c.in_ok-compared.ensures.compared in
    record {
      coarsest = none_differs m labels p work.valid size numbered same above laws.polynomial laws.coefficients laws.unique c.coarsest_is_one.ensures.reported numbers texts compared;
      numbered = numbered;
      rows = c.in_ok-rows.ensures.rows;
    }

pub split_off-requires-clause-none : goal.split_off-requires-clause-none
split_off-requires-clause-none c =
    let m = c.args.model.now in
    let work = c.requires.work in
    let labels = c.search.new.part.labels.items in
    let p = blocks_of c.in_ok-blocks.blocks in
    let size : length labels ≡ length m.states = c.in_ok-search.ensures.size ∙ work.size in
    let above = c.in_ok-search.ensures.kept m work.marks.0 work.valid (sym work.size) work.marks.1 work.above in
    let numbered = subst (λ n. AreNumbered n p) (ap length c.deref.ensures.value ∙ size) c.in_ok-blocks.ensures.numbered in
    let same = subst (λ (ls : List ℕ). AreSameBlocks ls p.of_states) c.deref.ensures.value c.in_ok-blocks.ensures.reported in
    subst (HaveNone labels) (sym c.deref-2.ensures.value) (least_none m labels p work.valid size numbered same above c.in_ok-compared.compared.numbers.items c.in_ok-compared.compared.different.items c.in_ok-compared.compared.texts c.in_ok-compared.ensures.compared)

pub split_off-requires-clause-states : goal.split_off-requires-clause-states
split_off-requires-clause-states c = let same = c.in_ok-search.ensures.size in let size = c.requires.work.size in let most = c.requires.work.valid.count.1 in omega (arith, same, size, most)

pub returns-clause-kept : goal.returns-clause-kept
returns-clause-kept c =
    let m = c.args.model.now in
    let work = c.requires.work in
    let labels = c.search.new.part.labels.items in
    let p = blocks_of c.in_ok-blocks.blocks in
    let laws = c.coefficients_determine.ensures in
    let size : length labels ≡ length m.states = c.in_ok-search.ensures.size ∙ work.size in
    let above = c.in_ok-search.ensures.kept m work.marks.0 work.valid (sym work.size) work.marks.1 work.above in
    let numbered = subst (λ n. AreNumbered n p) (ap length c.deref.ensures.value ∙ size) c.in_ok-blocks.ensures.numbered in
    let same = subst (λ (ls : List ℕ). AreSameBlocks ls p.of_states) c.deref.ensures.value c.in_ok-blocks.ensures.reported in
    let numbers = c.in_ok-compared.compared.numbers.items in
    let new = labelled c.split_off.new.part.labels.items in
    let by_number = subst (λ n. IsByNumber n (labelled labels) numbers new) size (subst (λ (ns : List ℕ). IsByNumber (length labels) (labelled labels) ns new) c.deref-2.ensures.value c.in_ok-split_off.ensures.numbers) in
    record {
      valid = work.valid;
      count = work.count;
      arrows = work.arrows;
      marks = work.marks;
      inside = c.in_ok-split_off.ensures.inside;
      used = c.in_ok-split_off.ensures.used;
      listed = c.in_ok-split_off.ensures.listed;
      size = c.in_ok-split_off.ensures.size ∙ size;
      clear = subst (λ n. AreClear n c.search.new.room.numbers.items c.search.new.room.marks.items) work.size c.in_ok-search.ensures.clear;
      above = split_above m labels p work.valid size numbered same above laws.polynomial laws.coefficients laws.unique numbers c.in_ok-compared.compared.different.items c.in_ok-compared.compared.texts new c.in_ok-compared.ensures.compared c.in_ok-compared.ensures.apart by_number;
    }
