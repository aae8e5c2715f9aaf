-- The iteration with flags: what a visit, a turn and a pass keep.
use Rattle.std.proofs.Common.{◌≡◌, ◌≢◌, ℕ, ◌+◌, ◌^◌, ◌<◌, ◌≤◌, Bool, true, false, List, length, get_or, ℤ, pos, refl, sym, ap, subst, ◌∙◌, arith, ⊎_elim, Contains}
use Rattle.std.proofs.lemmas.List.{get_or_default, get_or-map, length-map}
use Rattle.std.proofs.lemmas.List.Elements.{Contains-get_or}
use Rattle.lift_poly.proofs.Ring.{linear}
use Rattle.lift_grid.specs.Rectangle.{Spans}
use Rattle.lift_model.specs.Links.{LinksData, Leads, IsLone, position, states_before, positions_before}
use Rattle.corner_lift.specs.Laws.{NumbersAreInRange}
use Rattle.rounded_iter.specs.Rising.{TableData, IsRead, Run, IsBelow, IsLeastBound, HasEnough, room}
use Rattle.rounded_iter.specs.Watching.{count, flag, IsRaisedState, IsWatched, IsWatchedBut, CanFlag, IsFlagged, IsKept, CanVisit, IsVisited, IsTurned, IsPassed, IsLeastFrom, IsFound}
use Rattle.rounded_iter.proofs.Solving.{same_or_not, one_more}
use Rattle.rounded_iter.proofs.Raising.{leads_inside, enough_kept}

-- ---- flags

-- the positions of a list so far were flagged, as far as they stand before the frontier, but for one
abbrev pub AreFlagged : List ℕ → List ℕ → List ℕ → ℕ → ℕ → ℕ → Type 0
AreFlagged list old work but frontier n = ((i : ℕ) → flag work i ≡ 0 → flag old i ≡ 0) × ((j : ℕ) → j < n → get_or list j 0 < frontier → get_or list j 0 ≢ but → flag work (get_or list j 0) ≢ 0)

pub flagged_more : (list old work new : List ℕ) (but frontier n : ℕ) → ((i : ℕ) → flag new i ≡ 0 → flag work i ≡ 0) → (get_or list n 0 < frontier → get_or list n 0 ≢ but → flag new (get_or list n 0) ≢ 0) → AreFlagged list old work but frontier n → AreFlagged list old new but frontier (n + 1)
flagged_more list old work new but frontier n kept flagged h = (
  λ i clear. h.0 i (kept i clear),
  λ j lt ahead ne. ⊎_elim
      (λ (before : j < n). λ clear. h.1 j before ahead ne (kept (get_or list j 0) clear))
      (λ (here : j ≡ n). subst (λ u. get_or list u 0 < frontier → get_or list u 0 ≢ but → flag new (get_or list u 0) ≢ 0) (sym here) flagged ahead ne)
      (one_more j n lt),
)

module _ (t : TableData) (work : List ℕ) (s i : ℕ) (can : CanFlag t work s i) where
  abbrev l : LinksData
  l = t.links

  -- how many states are before s
  sizes : length (positions_before l s) ≡ length (states_before l s)
  sizes = ap (length {A = ℕ}) (can.links.before_positions s can.state) ∙ length-map (states_before l s) (position l)

  at_position : (j : ℕ) → j < length (positions_before l s) → get_or (positions_before l s) j 0 ≡ position l (get_or (states_before l s) j 0)
  at_position j lt = ap (λ list. get_or list j 0) (can.links.before_positions s can.state) ∙ get_or-map (position l) (states_before l s) j 0 0 (omega (arith, lt, sizes))

  pub position_inside : (j : ℕ) → j < length (positions_before l s) → get_or (positions_before l s) j 0 < length work
  position_inside j lt =
      let q = get_or (states_before l s) j 0 in
      let leads : Leads t.case.model q s = (can.links.before s can.state).only q (Contains-get_or (states_before l s) j 0 (omega (arith, lt, sizes))) in
      let inside = can.links.order.inside q (leads_inside t.case.model q s leads) in
      omega (arith, at_position j lt, inside, can.places)

  pub flagged_all : (old new : List ℕ) (frontier n : ℕ) → length (positions_before l s) ≤ n → AreFlagged (positions_before l s) old new i frontier n → IsFlagged t old new s frontier
  flagged_all old new frontier n all h = record {
    kept = h.0;
    flagged = λ q leads inside ne ahead.
        let at : Contains (states_before l s) q = (can.links.before s can.state).all q leads in
        let lt : at.0 < length (positions_before l s) = omega (arith, at.1, sizes) in
        let e : get_or (positions_before l s) at.0 0 ≡ position l q = at_position at.0 lt ∙ ap (position l) (get_or_default (states_before l s) at.0 0 q at.1 ∙ at.2) in
        let other : position l q ≢ i = λ same. ne (sym (can.links.order.found q inside) ∙ ap (λ u. get_or l.order u 0) same ∙ can.at) in
        subst (λ u. flag new u ≢ 0) e (h.1 at.0 (omega (arith, lt, all)) (subst (λ u. u < frontier) (sym e) ahead) (subst (λ u. u ≢ i) (sym e) other));
  }

-- ---- a visit

module _ (t : TableData) (run : Run) (old new : List ℤ) (before work : List ℕ) (s i frontier : ℕ) (can : CanVisit t run old before s i frontier) where
  -- it rose
  pub visited_risen : length work ≡ length before → IsRaisedState t run old new s true → IsFlagged t before work s frontier → IsVisited t run old new before work frontier true
  visited_risen places g flags_set = record {
    step = record {
      keeps = record {
        below = g.below;
        places = omega (arith, places, can.places);
        watched = λ q inside ahead clear. ⊎_elim
            (λ (same : q ≡ s). subst (λ u. HasEnough t.rule t.case run.spans new u) (sym same) g.enough)
            (λ (ne : q ≢ s). enough_kept t run.spans old new q s ne (λ leads. flags_set.flagged q leads inside ne ahead clear) g.other (can.watched q inside ahead (flags_set.kept (position t.links q) clear) ne))
            (same_or_not q s);
      };
      less = λ e. g.less refl;
      same = λ e. cc;
    };
    still = λ e. cc;
  }

  -- it didn't
  pub visited_kept : work ≡ before → IsRaisedState t run old new s false → IsVisited t run old new before work frontier false
  visited_kept same g = record {
    step = record {
      keeps = record {
        below = g.below;
        places = ap (length {A = ℕ}) same ∙ can.places;
        watched = λ q inside ahead clear. ⊎_elim
            (λ (e : q ≡ s). subst (λ u. HasEnough t.rule t.case run.spans new u) (sym e) g.enough)
            (λ (ne : q ≢ s). subst (λ x. HasEnough t.rule t.case run.spans x q) (sym (g.kept refl)) (can.watched q inside ahead (subst (λ w. flag w (position t.links q) ≡ 0) same clear) ne))
            (same_or_not q s);
      };
      less = λ e. cc;
      same = λ e. g.kept refl;
    };
    still = λ e. same;
  }

-- ---- a turn

module _ (t : TableData) (run : Run) (read : IsRead t run.spans) where
  abbrev n : ℕ
  n = count t

  -- the state at a position
  found : (q i s : ℕ) → q < n → position t.links q ≡ i → get_or t.links.order i 0 ≡ s → q ≡ s
  found q i s inside e at = sym (read.links.order.found q inside) ∙ ap (λ u. get_or t.links.order u 0) e ∙ at

  -- the flag of a position was taken
  pub watched_taken : (x : List ℤ) (work new : List ℕ) (i frontier s : ℕ) → get_or t.links.order i 0 ≡ s → ((j : ℕ) → j ≢ i → flag new j ≡ flag work j) → IsWatched t run x work frontier → IsWatchedBut t run x new frontier s
  watched_taken x work new i frontier s at other w q inside ahead clear ne = w q inside ahead (sym (other (position t.links q) (λ e. ne (found q i s inside e at))) ∙ clear)

  pub watched_past : (x : List ℤ) (work : List ℕ) (frontier s : ℕ) → n ≤ s → IsWatchedBut t run x work frontier s → IsWatched t run x work frontier
  watched_past x work frontier s past w q inside ahead clear = w q inside ahead clear (λ e. absurd (omega (arith, e, inside, past)))

  -- one position more
  pub watched_next : (x : List ℤ) (work : List ℕ) (i s : ℕ) → get_or t.links.order i 0 ≡ s → IsWatched t run x work i → IsWatchedBut t run x work (i + 1) s
  watched_next x work i s at w q inside ahead clear ne = ⊎_elim
      (λ (lt : position t.links q < i). w q inside lt clear)
      (λ (e : position t.links q ≡ i). absurd (ne (found q i s inside e at)))
      (one_more (position t.links q) i ahead)

  pub turned_none : (x : List ℤ) (work new : List ℕ) (frontier i : ℕ) → new ≡ work → flag new i ≡ 0 → IsKept t run x work frontier → IsTurned t run x x work new frontier i false
  turned_none x work new frontier i same clear h = record {
    step = record { keeps = subst (λ w. IsKept t run x w frontier) (sym same) h; less = λ e. cc; same = λ e. refl };
    clear = λ e. clear;
    still = λ e j g. ap (λ w. flag w j) same ∙ g;
  }

  -- a flag that was taken stays away, and no other comes
  still_taken : (work new : List ℕ) (i j : ℕ) → flag new i ≡ 0 → ((u : ℕ) → u ≢ i → flag new u ≡ flag work u) → flag work j ≡ 0 → flag new j ≡ 0
  still_taken work new i j clear other g = ⊎_elim
      (λ (here : j ≡ i). ap (flag new) here ∙ clear)
      (λ (ne : j ≢ i). other j ne ∙ g)
      (same_or_not j i)

  pub turned_past : (x : List ℤ) (work new : List ℕ) (frontier i s : ℕ) → length new ≡ length work → flag new i ≡ 0 → ((j : ℕ) → j ≢ i → flag new j ≡ flag work j) → get_or t.links.order i 0 ≡ s → n ≤ s → IsKept t run x work frontier → IsTurned t run x x work new frontier i false
  turned_past x work new frontier i s size clear other at past h = record {
    step = record {
      keeps = record {
        below = h.below;
        places = size ∙ h.places;
        watched = watched_past x new frontier s past (watched_taken x work new i frontier s at other h.watched);
      };
      less = λ e. cc;
      same = λ e. refl;
    };
    clear = λ e. clear;
    still = λ e j g. still_taken work new i j clear other g;
  }

  pub turned_visit : (x y : List ℤ) (work taken new : List ℕ) (frontier i : ℕ) (rose : Bool) → flag taken i ≡ 0 → ((j : ℕ) → j ≢ i → flag taken j ≡ flag work j) → IsVisited t run x y taken new frontier rose → IsTurned t run x y work new frontier i rose
  turned_visit x y work taken new frontier i rose clear other h = record {
    step = h.step;
    clear = λ e. ap (λ w. flag w i) (h.still e) ∙ clear;
    still = λ e j g. ap (λ w. flag w j) (h.still e) ∙ still_taken work taken i j clear other g;
  }

  -- ---- a pass

  pub passed_none : (x : List ℤ) (work : List ℕ) (low high : ℕ) → IsKept t run x work high → IsPassed t run x x work low low high false
  passed_none x work low high h = record {
    step = record { keeps = h; less = λ e. cc; same = λ e. refl };
    clear = λ e j le lt. absurd (omega (arith, le, lt));
  }

  module _ (old x y : List ℤ) (before work : List ℕ) (low i high : ℕ) (rose : Bool) (h : IsPassed t run old x before low i high rose) where
    pub passed_risen : IsTurned t run x y before work high i true → IsPassed t run old y work low (i + 1) high true
    passed_risen g = record {
      step = record { keeps = g.step.keeps; less = λ e. lower rose refl; same = λ e. cc };
      clear = λ e. cc;
    }
      where
        lower : (r : Bool) → rose ≡ r → room t.case.w y < room t.case.w old
        lower true e = omega (arith, g.step.less refl, h.step.less e)
        lower false e = subst (λ l. room t.case.w y < room t.case.w l) (h.step.same e) (g.step.less refl)

    pub passed_kept : IsTurned t run x y before work high i false → IsPassed t run old y work low (i + 1) high rose
    passed_kept g = record {
      step = record {
        keeps = g.step.keeps;
        less = λ e. subst (λ v. room t.case.w v < room t.case.w old) (sym (g.step.same refl)) (h.step.less e);
        same = λ e. g.step.same refl ∙ h.step.same e;
      };
      clear = λ e j le lt. ⊎_elim
          (λ (earlier : j < i). g.still refl j (h.clear e j le earlier))
          (λ (here : j ≡ i). subst (λ u. flag work u ≡ 0) (sym here) (g.clear refl))
          (one_more j i lt);
    }

  -- ---- the iteration

  pub kept_none : (x : List ℤ) (work : List ℕ) → IsBelow t.rule t.case run x → length work ≡ n → IsKept t run x work 0
  kept_none x work below places = record { below = below; places = places; watched = λ q inside ahead clear. absurd (omega (arith, ahead)) }

  pub kept_next : (x : List ℤ) (work : List ℕ) (i s : ℕ) → get_or t.links.order i 0 ≡ s → n ≤ s → IsKept t run x work i → IsKept t run x work (i + 1)
  kept_next x work i s at past h = record {
    below = h.below;
    places = h.places;
    watched = watched_past x work (i + 1) s past (watched_next x work i s at h.watched);
  }

  -- the state at the frontier was raised, and no state before it leads to it
  pub kept_lone : (old new : List ℤ) (work : List ℕ) (i s : ℕ) (rose : Bool) → s < n → IsLone t.case.model t.links s → get_or t.links.order i 0 ≡ s → i < n → IsKept t run old work i → IsRaisedState t run old new s rose → IsKept t run new work (i + 1)
  kept_lone old new work i s rose state lone at inside h g = record {
    below = g.below;
    places = h.places;
    watched = λ q within ahead clear. ⊎_elim
        (λ (same : q ≡ s). subst (λ u. HasEnough t.rule t.case run.spans new u) (sym same) g.enough)
        (λ (ne : q ≢ s). enough_kept t run.spans old new q s ne
        (λ leads. ne (found q i s within (omega (arith, ahead, lone q leads, here)) at))
        g.other (watched_next old work i s at h.watched q within ahead clear ne))
        (same_or_not q s);
  }
    where
      here : position t.links s ≡ i
      here = ap (position t.links) (sym at) ∙ read.links.order.back i inside

  -- no flag is left
  pub kept_all : (x : List ℤ) (work : List ℕ) → IsKept t run x work n → ((j : ℕ) → 0 ≤ j → j < n → flag work j ≡ 0) → IsLeastFrom t run x
  kept_all x work h clear = record {
    bound = record {
      numbers = h.below.numbers;
      given = h.below.given;
      enough = λ s state.
          let ahead : position t.links s < n = read.links.order.inside s state in
          h.watched s state ahead (clear (position t.links s) (omega arith) ahead);
    };
    above = h.below.above;
    least = h.below.least;
  }

-- where no number can pass the limit, the least bound is found
pub found_least : NumbersAreInRange → (t : TableData) (spans : Spans) (x : List ℤ) (found : Bool) → t.limit ≡ pos (2 ^ t.case.w) → IsFound t spans x found → IsLeastBound t.rule t.case spans x
found_least numbers t spans x true limit h = h.least refl
found_least numbers t spans x false limit h = absurd (omega (arith, linear, limit, h.past refl, (numbers t.case x t.case.model.init h.below.numbers).1))
