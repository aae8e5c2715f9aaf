use Rattle.std.proofs.Common.{◌≡◌, get_or, take, All, subst}
use Rattle.std.proofs.lemmas.List.{take_all}
use Rattle.std.proofs.lemmas.List.Elements.{All-more}
use Rattle.lift_model.specs.Links.{states_before}
use Rattle.robust_rank.specs.Staging.{IsLooked}
use Rattle.robust_rank.proofs.Gathering.{still_looked, kept_on}
use Rattle.robust_rank.proofs.Before.{before_in_range}
use Rattle.robust_rank.proofs.rows.Choices.try_before.Goals as goal

pub try_state-found-requires : goal.try_state-found-requires
try_state-found-requires g c =
    let inside = rw c.before-s-items.ensures at c.loop-s-test.true in
    (c.requires.0, (rw c.before-s-items.ensures (before_in_range c.args.self.now.rows.case.now.model c.args.self.now.rows.links.now c.args.t c.loop-s.s-index c.requires.0.links c.requires.1.0 inside), c.loop-s.invariant.gathering))

pub loop-s-preserved : goal.loop-s-preserved
loop-s-preserved g c =
    let list = states_before c.args.self.now.rows.links.now c.args.t in
    let before = c.loop-s.invariant.looked in
    let kept = c.try_state-found.ensures.kept in
    let inside = rw c.before-s-items.ensures at c.loop-s-test.true in
    let on : All (IsLooked c.args.self.now.rows.case.now c.args.self.now.allowed.now g.start c.args.search.rank c.try_state-found.new.ranks)
    (take c.loop-s.s-index list) = λ i d lt. still_looked c.args.self.now.rows.case.now c.args.self.now.allowed.now g.start
    c.args.search.rank c.loop-s.ranks c.try_state-found.new.ranks (get_or (take c.loop-s.s-index list) i d) kept (before i d lt) in
    record {
      gathering = c.try_state-found.ensures.gathering;
      kept = kept_on c.args.ranks.now c.loop-s.ranks c.try_state-found.new.ranks c.loop-s.invariant.kept kept;
      looked = All-more (IsLooked c.args.self.now.rows.case.now c.args.self.now.allowed.now g.start c.args.search.rank
          c.try_state-found.new.ranks) list c.loop-s.s-index 0 inside on (rw c.before-s-items.ensures at c.try_state-found.ensures.looked);
    }

pub returns-clause-looked : goal.returns-clause-looked
returns-clause-looked g c =
    let list = states_before c.args.self.now.rows.links.now c.args.t in
    let all : take c.loop-s.s-index list ≡ list = take_all c.loop-s.s-index list (rw c.before-s-items.ensures at c.loop-s-test.false) in
    subst (λ l. All (IsLooked c.args.self.now.rows.case.now c.args.self.now.allowed.now g.start c.args.search.rank c.loop-s.ranks) l) all
    c.loop-s.invariant.looked
