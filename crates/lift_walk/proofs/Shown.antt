-- What a node that is taken, and the walks below it, come to.
use Rattle.std.proofs.Common.{◌≡◌, ℕ, ◌≤◌, List, [], ◌++◌, sym, ap, ◌∙◌, subst, arith, Option, Result, Ok, Err, IfOk, IsErr, OnErr, append_assoc, append-nil}
use Rattle.std.specs.Io.KnownBytes.{Appends}
use Rattle.std.proofs.KnownBytes.{Appends-trans}
use Rattle.lift_base.specs.Outside.{Rose, AppendsFront}
use Rattle.lift_walk.specs.Halved.{Halved, preorder_text}
use Rattle.lift_walk.specs.Shown.{Shows, Took}

-- ---- bytes taken

-- a front of what follows, behind what was appended
front_then : (a b c : Option (List ℕ)) (xs ys : List ℕ) → Appends a b xs → AppendsFront b c ys → AppendsFront a c (xs ++ ys)
front_then a b c xs ys h g = (xs ++ g.0, g.1, ap (λ r. xs ++ r) g.2 ∙ sym (append_assoc xs g.0 g.1), Appends-trans a b c xs g.0 h g.3)

-- a front, where more should follow
front_of : (a b : Option (List ℕ)) (xs ys : List ℕ) → AppendsFront a b xs → AppendsFront a b (xs ++ ys)
front_of a b xs ys h = (h.0, h.1 ++ ys, ap (λ r. r ++ ys) h.2 ∙ append_assoc h.0 h.1 ys, h.3)

-- all, as a front
front_all : (a b : Option (List ℕ)) (xs : List ℕ) → Appends a b xs → AppendsFront a b xs
front_all a b xs h = (xs, [], sym (append-nil xs), h)

rises : (a b c : ℕ) → a ≤ b → Rose b c → Rose a c
rises a b c le rose = omega (arith, le, rose)

-- ---- a leaf

module _ {O Leaf : Type 0} (Is : Halved Leaf → Type 0) (t : Halved Leaf) (is : Is t) (only : (other : Halved Leaf) → Is other → other ≡ t) (text : Halved Leaf → List ℕ) (taken : O → Option (List ℕ)) (faults : O → ℕ) where
  -- the one tree that it can be was taken
  pub one_shown : {T E : Type 0} (is_part : Halved Leaf → T → Type 0) (old new : O) (result : Result T E) → IfOk result (is_part t) → Took taken faults old new result (text t) → Shows Is is_part text taken faults old new result
  one_shown is_part old new (Ok x) part took = record {
    tree = (t, (is, part));
    whole = λ other h. subst (λ it. Appends (taken old) (taken new) (text it)) (sym (only other h)) took.whole;
    part = tt;
    cause = tt;
    later = took.later;
  }
  one_shown is_part old new (Err e) part took = record {
    tree = tt;
    whole = tt;
    part = λ other h. subst (λ it. AppendsFront (taken old) (taken new) (text it)) (sym (only other h)) took.part;
    cause = took.cause;
    later = took.later;
  }

-- ---- a split and both halves

-- a rectangle whose trees, of which Is holds, are splits on an axis: what is shown of the lower half and of the upper one
module _ {O Leaf T : Type 0} (Is Low Up : Halved Leaf → Type 0) (axis : ℕ) (parted : (t : Halved Leaf) → Is t → (a : Halved Leaf) × ((b : Halved Leaf) × ((t ≡ Halved.split axis a b) × (Low a × Up b)))) (is_part : Halved Leaf → T → Type 0) (split_text : ℕ → List ℕ) (leaf_text : Leaf → List ℕ) (unknown_text : List ℕ) (taken : O → Option (List ℕ)) (faults : O → ℕ) where
  abbrev text : Halved Leaf → List ℕ
  text t = preorder_text split_text leaf_text unknown_text t

  by_parts : (P : List ℕ → Type 0) → ((a b : Halved Leaf) → Low a → Up b → P (split_text axis ++ (text a ++ text b))) → (t : Halved Leaf) → Is t → P (text t)
  by_parts P each t is = let p = parted t is in subst (λ it. P (text it)) (sym p.1.1.0) (each p.0 p.1.0 p.1.1.1.0 p.1.1.1.1)

  -- the split's own entry failed
  pub split_failed : {U E F : Type 0} (old new : O) (e : E) (result : Result T F) → IsErr result → Took {T = U} taken faults old new (Err e) (split_text axis) → Shows Is is_part text taken faults old new result
  split_failed old new e (Ok x) bad took = absurd (cc)
  split_failed old new e (Err f) bad took = record {
    tree = tt;
    whole = tt;
    part = by_parts (AppendsFront (taken old) (taken new)) (λ a b low up. front_of (taken old) (taken new) (split_text axis) (text a ++ text b) took.part);
    cause = took.cause;
    later = took.later;
  }

  module _ {A B : Type 0} (old mid : O) (x : A) (took : Took {E = B} taken faults old mid (Ok x) (split_text axis)) where
    -- the lower half failed
    pub first_failed : {E F : Type 0} (new : O) (e : E) (result : Result T F) → IsErr result → Shows Low is_part text taken faults mid new (Err e) → Shows Is is_part text taken faults old new result
    first_failed new e (Ok y) bad first = absurd (cc)
    first_failed new e (Err f) bad first = record {
      tree = tt;
      whole = tt;
      part = by_parts (AppendsFront (taken old) (taken new)) (λ a b low up. front_then (taken old) (taken mid) (taken new) (split_text axis) (text a ++ text b) took.whole (front_of (taken mid) (taken new) (text a) (text b) (first.part a low)));
      cause = rises (faults old) (faults mid) (faults new) took.later first.cause;
      later = omega (arith, took.later, first.later);
    }

    module _ {C : Type 0} (next : O) (p : T) (first : Shows {E = C} Low is_part text taken faults mid next (Ok p)) where
      -- the upper half failed
      pub second_failed : {E F : Type 0} (new : O) (e : E) (result : Result T F) → IsErr result → Shows Up is_part text taken faults next new (Err e) → Shows Is is_part text taken faults old new result
      second_failed new e (Ok y) bad second = absurd (cc)
      second_failed new e (Err f) bad second = record {
        tree = tt;
        whole = tt;
        part = by_parts (AppendsFront (taken old) (taken new)) (λ a b low up. front_then (taken old) (taken mid) (taken new) (split_text axis) (text a ++ text b) took.whole (front_then (taken mid) (taken next) (taken new) (text a) (text b) (first.whole a low) (second.part b up)));
        cause = rises (faults old) (faults next) (faults new) (omega (arith, took.later, first.later)) second.cause;
        later = omega (arith, took.later, first.later, second.later);
      }

      -- both halves were walked over, and what stands for them was joined, or wasn't
      pub both_shown : {D E : Type 0} (joined : (a b : Halved Leaf) → Low a → Up b → Is (Halved.split axis a b)) (new : O) (q : T) → Shows {E = D} Up is_part text taken faults next new (Ok q) → (result : Result T E)
          → IfOk result (λ part. (a b : Halved Leaf) → is_part a p → is_part b q → is_part (Halved.split axis a b) part) → OnErr result ((out : O) → Rose (faults out) (faults out)) → Shows Is is_part text taken faults old new result
      both_shown joined new q second (Ok y) part fault = record {
        tree = (let a = first.tree in let b = second.tree in (Halved.split axis a.0 b.0, (joined a.0 b.0 a.1.0 b.1.0, part a.0 b.0 a.1.1 b.1.1)));
        whole = by_parts (Appends (taken old) (taken new)) (λ a b low up. Appends-trans (taken old) (taken mid) (taken new) (split_text axis) (text a ++ text b) took.whole (Appends-trans (taken mid) (taken next) (taken new) (text a) (text b) (first.whole a low) (second.whole b up)));
        part = tt;
        cause = tt;
        later = omega (arith, took.later, first.later, second.later);
      }
      both_shown joined new q second (Err e) part fault = record {
        tree = tt;
        whole = tt;
        part = by_parts (AppendsFront (taken old) (taken new)) (λ a b low up. front_all (taken old) (taken new) (split_text axis ++ (text a ++ text b)) (Appends-trans (taken old) (taken mid) (taken new) (split_text axis) (text a ++ text b) took.whole (Appends-trans (taken mid) (taken next) (taken new) (text a) (text b) (first.whole a low) (second.whole b up))));
        cause = rises (faults old) (faults new) (faults new) (omega (arith, took.later, first.later, second.later)) (fault new);
        later = omega (arith, took.later, first.later, second.later);
      }
