use Rattle.std.proofs.Common.{◌≡◌, ◌<◌, ◌+◌, ℕ, List, length, set, sym, subst, ap, ◌∙◌, arith}
use Rattle.std.proofs.lemmas.List.{get_or_default}
use Rattle.lift_lump.specs.Renaming.{AreRenamed, state_at}
use Rattle.lift_lump.specs.Splitting.{list_of}
use Rattle.lift_lump.proofs.Holders.{few_labels}
use Rattle.lift_lump.proofs.Renaming.{renamed_by_number}
use Rattle.lift_lump.proofs.Regrouping.{AreRegrouped, IsName, regrouped_none, regrouped_more, next_in, still_used, s_in, listed_again as listed_at_last}
use Rattle.lift_lump.proofs.partition.regroup.Goals as goal

pub loop-i-init : goal.loop-i-init
loop-i-init c = record {
  inside = c.requires.inside;
  regrouped = regrouped_none c.args.touched.now c.args.part.now.labels.items c.args.part.now.members 0 0;
}

pub name-requires-clause-few : goal.name-requires-clause-few
name-requires-clause-few c =
    let r = c.requires in
    let old = c.args.part.now in
    let part = c.loop-i.part in
    let are = c.loop-i.invariant.regrouped in
    let used = still_used c.args.touched.now old.labels.items old.members r.sorted r.keys r.keyed r.touched r.inside.below r.used r.rest r.listed c.loop-i.i c.loop-i.name c.loop-i.keeper part.labels.items part.members (let lt = c.loop-i-test.true in omega (arith, lt)) are in
    let few = few_labels part.labels.items (length part.members) used in
    let size = are.renamed.size in
    let states = r.states in
    omega (arith, few, size, states)

pub place-requires-clause-label : goal.place-requires-clause-label
place-requires-clause-label c =
    let r = c.requires in
    let old = c.args.part.now in
    let part = c.loop-i.part in
    let touched = c.args.touched.now in
    let i = c.loop-i.i in
    let are = c.loop-i.invariant.regrouped in
    let inside = s_in touched old.labels.items old.members r.sorted r.keys r.keyed r.touched r.inside.below r.used r.rest r.listed i c.loop-i.name c.loop-i.keeper part.labels.items part.members c.loop-i-test.true are in
    let own = c.index-own.result.now in
    let own_is = c.index-own.ensures ∙ get_or_default part.labels.items _ own 0 inside in
    let named : IsName touched part.members c.name.new.self.members i c.keeper_of-keeper.result own c.loop-i.name c.in_ok-name.name c.is_named.result = record {
      new = λ e. let n = c.is_named.ensures.new e in (n.0, n.1, c.in_ok-name.ensures.new e, c.in_ok-name.ensures.opened e);
      other = λ e. (c.is_named.ensures.other e, λ b. c.in_ok-name.ensures.kept e ∙ c.kept_name.ensures.first b, λ f. c.in_ok-name.ensures.kept e ∙ c.kept_name.ensures.other f.0 f.1, c.in_ok-name.ensures.same e);
    } in
    let list_is : c.list.result.now ≡ list_of part.members own = c.list.ensures in
    next_in touched old.labels.items old.members r.sorted r.keys r.keyed r.touched r.inside.below r.used r.rest r.listed i c.loop-i.name c.loop-i.keeper part.labels.items part.members c.loop-i-test.true are
    c.in_ok-name.name c.keeper_of-keeper.result own c.name.new.self.members c.is_named.result own_is named c.keeper_of-keeper.ensures.same
    (λ b gone. c.keeper_of-keeper.ensures.gone b (list_is ∙ gone)) (λ b some. c.keeper_of-keeper.ensures.there b (subst (λ (xs : List ℕ). 0 < length xs) (sym list_is) some))

pub loop-i-preserved : goal.loop-i-preserved
loop-i-preserved c =
    let r = c.requires in
    let old = c.args.part.now in
    let part = c.loop-i.part in
    let touched = c.args.touched.now in
    let i = c.loop-i.i in
    let are = c.loop-i.invariant.regrouped in
    let inside = s_in touched old.labels.items old.members r.sorted r.keys r.keyed r.touched r.inside.below r.used r.rest r.listed i c.loop-i.name c.loop-i.keeper part.labels.items part.members c.loop-i-test.true are in
    let own = c.index-own.result.now in
    let own_is = c.index-own.ensures ∙ get_or_default part.labels.items _ own 0 inside in
    let named : IsName touched part.members c.name.new.self.members i c.keeper_of-keeper.result own c.loop-i.name c.in_ok-name.name c.is_named.result = record {
      new = λ e. let n = c.is_named.ensures.new e in (n.0, n.1, c.in_ok-name.ensures.new e, c.in_ok-name.ensures.opened e);
      other = λ e. (c.is_named.ensures.other e, λ b. c.in_ok-name.ensures.kept e ∙ c.kept_name.ensures.first b, λ f. c.in_ok-name.ensures.kept e ∙ c.kept_name.ensures.other f.0 f.1, c.in_ok-name.ensures.same e);
    } in
    let list_is : c.list.result.now ≡ list_of part.members own = c.list.ensures in
    let more = regrouped_more touched old.labels.items old.members r.sorted r.keys r.keyed r.touched r.inside.below r.used r.rest r.listed i c.loop-i.name c.loop-i.keeper part.labels.items part.members c.loop-i-test.true are
    c.in_ok-name.name c.keeper_of-keeper.result own c.name.new.self.members c.is_named.result own_is named c.keeper_of-keeper.ensures.same
    (λ b gone. c.keeper_of-keeper.ensures.gone b (list_is ∙ gone)) (λ b some. c.keeper_of-keeper.ensures.there b (subst (λ (xs : List ℕ). 0 < length xs) (sym list_is) some)) in
    let labels = c.place.ensures.labels ∙ ap (λ (ls : List ℕ). set ls (state_at touched i) c.in_ok-name.name) c.in_ok-name.ensures.labels in
    record {
      inside = c.in_ok-place.ensures.inside;
      regrouped = subst (λ (ls : List ℕ). AreRegrouped touched old.labels.items old.members (i + 1) c.in_ok-name.name c.keeper_of-keeper.result ls c.place.new.self.members) (sym labels)
          (subst (AreRegrouped touched old.labels.items old.members (i + 1) c.in_ok-name.name c.keeper_of-keeper.result (set part.labels.items (state_at touched i) c.in_ok-name.name)) (sym c.in_ok-place.ensures.members) more);
    }

pub returns-clause-used : goal.returns-clause-used
returns-clause-used c =
    let r = c.requires in
    let old = c.args.part.now in
    let part = c.loop-i.part in
    still_used c.args.touched.now old.labels.items old.members r.sorted r.keys r.keyed r.touched r.inside.below r.used r.rest r.listed c.loop-i.i c.loop-i.name c.loop-i.keeper part.labels.items part.members (let end = c.loop-i.auto.i-end in omega (arith, end)) c.loop-i.invariant.regrouped

pub returns-clause-listed : goal.returns-clause-listed
returns-clause-listed c =
    let r = c.requires in
    let old = c.args.part.now in
    let part = c.loop-i.part in
    let touched = c.args.touched.now in
    let all : c.loop-i.i ≡ length touched = (let end = c.loop-i.auto.i-end in let past = c.loop-i-test.false in omega (arith, end, past)) in
    listed_at_last touched old.labels.items old.members r.sorted r.keys r.keyed r.touched r.inside.below r.used r.rest r.listed c.loop-i.name c.loop-i.keeper part.labels.items part.members
    (subst (λ n. AreRegrouped touched old.labels.items old.members n c.loop-i.name c.loop-i.keeper part.labels.items part.members) all c.loop-i.invariant.regrouped)

pub returns-clause-numbers : goal.returns-clause-numbers
returns-clause-numbers c =
    let touched = c.args.touched.now in
    let all : c.loop-i.i ≡ length touched = (let end = c.loop-i.auto.i-end in let past = c.loop-i-test.false in omega (arith, end, past)) in
    renamed_by_number touched c.args.part.now.labels.items c.loop-i.part.labels.items (subst (AreRenamed touched c.args.part.now.labels.items c.loop-i.part.labels.items) all c.loop-i.invariant.regrouped.renamed)
