use Rattle.std.proofs.Common.{◌≡◌, ◌++◌, ◌∷◌, [], ℕ, suc, List, Some, length, set, sym, subst, ap, ◌∙◌}
use Rattle.lift_lump.specs.Splitting.{AreNumberedSo}
use Rattle.lift_lump.proofs.Counting.{so_old, so_new}
use Rattle.lift_lump.proofs.numbered.Numbered.add.Goals as goal

pub returns-in-Some : goal.returns-in-Some
returns-in-Some c = λ labels is so.
    let of = c.args.self.now.of_states.items in
    let firsts = c.args.self.now.firsts.items in
    subst (λ (xs : List ℕ). AreNumberedSo labels (suc (length of)) c.args.names.now xs firsts) (sym c.in_ok-push.ensures.items) (so_old labels (length of) c.args.names.now of firsts c.args.label is so c.in-Some.block c.in-Some.is)

pub returns : goal.returns
returns c = λ labels is so.
    let of = c.args.self.now.of_states.items in
    let firsts = c.args.self.now.firsts.items in
    let names = c.args.names.now in
    let b : c.len-block.result ≡ length firsts = c.len-block.ensures ∙ c.args.self.now.firsts.ok.0 in
    let s : c.len-s.result ≡ length of = c.len-s.ensures ∙ c.args.self.now.of_states.ok.0 in
    subst (λ k. AreNumberedSo labels (suc (length of)) (set names c.args.label (Some k)) c.push-3.new.self.items c.push-2.new.self.items) (sym b)
    (subst (λ (xs : List ℕ). AreNumberedSo labels (suc (length of)) (set names c.args.label (Some (length firsts))) xs c.push-2.new.self.items) (sym (c.in_ok-push-3.ensures.items ∙ ap (λ k. of ++ k ∷ []) b))
    (subst (AreNumberedSo labels (suc (length of)) (set names c.args.label (Some (length firsts))) (of ++ length firsts ∷ [])) (sym (c.in_ok-push-2.ensures.items ∙ ap (λ k. firsts ++ k ∷ []) s))
    (so_new labels (length of) names of firsts c.args.label is so c.requires.label c.in_default.is)))
