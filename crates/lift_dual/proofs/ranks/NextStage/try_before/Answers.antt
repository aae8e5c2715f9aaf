use Rattle.std.proofs.Common.{◌≡◌, get_or, take, All, subst}
use Rattle.std.proofs.lemmas.List.{take_all}
use Rattle.std.proofs.lemmas.List.Elements.{All-more}
use Rattle.lift_model.specs.Links.{states_before}
use Rattle.lift_dual.specs.Ranking.{IsLookedOfAll}
use Rattle.lift_dual.proofs.Ranking.{still_looked, kept_on, before_in_range}
use Rattle.lift_dual.proofs.ranks.NextStage.try_before.Goals as goal

pub try_state-found-requires : goal.try_state-found-requires
try_state-found-requires g c =
    let inside = rw (c.before-s-items.ensures, c.links.ensures) at c.loop-s-test.true in
    (c.requires.0, (rw (c.before-s-items.ensures, c.links.ensures) (before_in_range c.args.self.now.rows.now.case.model c.args.self.now.rows.now.links c.args.t c.loop-s.s-index c.w.ensures.links c.requires.1.0 inside), c.loop-s.invariant.gathering))

pub loop-s-preserved : goal.loop-s-preserved
loop-s-preserved g c =
    let list = states_before c.args.self.now.rows.now.links c.args.t in
    let before = c.loop-s.invariant.looked in
    let kept = c.try_state-found.ensures.kept in
    let inside = rw (c.before-s-items.ensures, c.links.ensures) at c.loop-s-test.true in
    let on : All (IsLookedOfAll c.args.self.now.rows.now.case g.start c.args.self.now.rank c.try_state-found.new.ranks) (take c.loop-s.s-index list) = λ i d lt. still_looked c.args.self.now.rows.now.case g.start c.args.self.now.rank c.loop-s.ranks c.try_state-found.new.ranks (get_or (take c.loop-s.s-index list) i d) kept (before i d lt) in
    record {
      gathering = c.try_state-found.ensures.gathering;
      kept = kept_on c.args.ranks.now c.loop-s.ranks c.try_state-found.new.ranks c.loop-s.invariant.kept kept;
      looked = All-more (IsLookedOfAll c.args.self.now.rows.now.case g.start c.args.self.now.rank c.try_state-found.new.ranks) list c.loop-s.s-index 0 inside on (rw (c.before-s-items.ensures, c.links.ensures) at c.try_state-found.ensures.looked);
    }

pub returns-clause-looked : goal.returns-clause-looked
returns-clause-looked g c =
    let list = states_before c.args.self.now.rows.now.links c.args.t in
    let all : take c.loop-s.s-index list ≡ list = take_all c.loop-s.s-index list (rw (c.before-s-items.ensures, c.links.ensures) at c.loop-s-test.false) in
    subst (λ l. All (IsLookedOfAll c.args.self.now.rows.now.case g.start c.args.self.now.rank c.loop-s.ranks) l) all c.loop-s.invariant.looked
