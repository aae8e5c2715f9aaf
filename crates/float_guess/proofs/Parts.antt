-- What is written at positions of a part.
use Rattle.std.proofs.Common.{rules, ◌≡◌, ◌≢◌, ℕ, ◌+◌, ◌^◌, ◌<◌, ◌≤◌, ◌⊎◌, inl, inr, ⊎_elim, Bool, true, false, not, ◌&&◌, List, Option, Some, None, length, set, ℤ, pos, ◌≤ℤ◌, refl, sym, ap, subst, ◌∙◌, arith, nat_lt, true≢false, lt-ltb, ltb-true, ltb-false, length-set, get_or-set_same, get_or-set_other}
use Rattle.std.proofs.lemmas.List.Elements.{All-from_get_or}
use Rattle.lift_model.specs.Links.{LinksData, position}
use Rattle.corner_lift.specs.Case.{CaseData, number}
use Rattle.corner_lift.specs.Certificate.{AreNumbers}
use Rattle.corner_lift.specs.Laws.{NumbersAreInRange}
use Rattle.float_guess.specs.declared.rule.Ends.{Ends}
use Rattle.float_guess.specs.Rule.{is_given}
use Rattle.float_guess.specs.Part.{IsFreeAt, is_free, IsSameBeyond, IsWrittenAt, KeepsBeyond, AreRounded}

same_or_not : (i j : ℕ) → (i ≡ j) ⊎ (i ≢ j)
same_or_not i j = grind arith

same_or_less : (b a : ℕ) → b < a + 1 → (b < a) ⊎ (b ≡ a)
same_or_less b a lt = grind arith

yes_or_no : (b : Bool) → (b ≡ true) ⊎ (b ≡ false)
yes_or_no true = inl refl
yes_or_no false = inr refl

-- ---- which states are those of a part

below-no : (a b : ℕ) → b ≤ a → nat_lt a b ≡ false
below-no a b le = search rules

open_of : (d : Ends) (k : CaseData) (l : LinksData) (low high at s : ℕ) → low ≤ at → at < high → IsFreeAt d k l at s → is_free d k l low high s ≡ true
open_of d k l low high at s from to h =
    let inside = lt-ltb s (length k.model.states) h.state in
    let after : nat_lt (position l s) low ≡ false = below-no (position l s) low (omega (arith, from, h.is)) in
    let before : nat_lt (position l s) high ≡ true = lt-ltb (position l s) high (omega (arith, to, h.is)) in
    rw (h.free, inside, after, before) refl

parts : (g a b c : Bool) → (not g && (a && (not b && c))) ≡ true → (g ≡ false) × (a ≡ true) × (b ≡ false) × (c ≡ true)
parts true a b c e = cc
parts false false b c e = cc
parts false true true c e = cc
parts false true false false e = cc
parts false true false true e = (refl, refl, refl, refl)

-- where a state of a part stands
record IsOpen (d : Ends) (k : CaseData) (l : LinksData) (low high s : ℕ) : Type 0 where
  at : IsFreeAt d k l (position l s) s
  from : low ≤ position l s
  to : position l s < high

of_open : (d : Ends) (k : CaseData) (l : LinksData) (low high s : ℕ) → is_free d k l low high s ≡ true → IsOpen d k l low high s
of_open d k l low high s e =
    let p = parts (is_given k.model d s) (nat_lt s (length k.model.states)) (nat_lt (position l s) low) (nat_lt (position l s) high) e in
    record {
      at = record { state = ltb-true s (length k.model.states) p.1; free = p.0; is = refl };
      from = ltb-false (position l s) low p.2;
      to = ltb-true (position l s) high p.3;
    }

-- ---- what is written

some_same : (s t : ℕ) → Some s ≡ Some t → t ≡ s
some_same s t e = ap (λ (o : Option ℕ). elim o [ Some n ↦ n | None ↦ 0 ]) (sym e)

pub same_both : (d : Ends) (k : CaseData) (l : LinksData) (low high : ℕ) (x y z : List ℤ) → IsSameBeyond d k l low high x y → IsSameBeyond d k l low high y z → IsSameBeyond d k l low high x z
same_both d k l low high x y z f g = record { size = g.size ∙ f.size; others = λ s e. g.others s e ∙ f.others s e }

module _ (d : Ends) (k : CaseData) (l : LinksData) (low high at s : ℕ) (x : List ℤ) (v : ℤ) (size : length x ≡ length k.model.states) (from : low ≤ at) (to : at < high) (stands : IsFreeAt d k l at s) where
  in_lane : s < length x
  in_lane = omega (arith, stands.state, size)

  here : number (set x s v) s ≡ v
  here = let lt = in_lane in rw get_or-set_same refl

  other : (t : ℕ) → t ≢ s → number (set x s v) t ≡ number x t
  other t ne = rw get_or-set_other refl

  pub written_some : ((t : ℕ) → IsFreeAt d k l at t → Some s ≡ Some t) → IsWrittenAt d k l low high at v x (set x s v)
  written_some only = record {
    same = record {
      size = length-set x s v;
      others = λ t closed. other t (λ e. absurd (true≢false (sym (open_of d k l low high at s from to stands) ∙ subst (λ i. is_free d k l low high i ≡ false) e closed)));
    };
    each = λ t. ⊎_elim (λ (e : t ≡ s). inr (ap (λ i. number (set x s v) i) e ∙ here)) (λ (ne : t ≢ s). inl (other t ne)) (same_or_not t s);
    here = λ from to t h. ap (λ i. number (set x s v) i) (some_same s t (only t h)) ∙ here;
  }

pub written_none : (d : Ends) (k : CaseData) (l : LinksData) (low high at : ℕ) (x : List ℤ) (v : ℤ) → (low ≤ at → at < high → (t : ℕ) → IsFreeAt d k l at t → ⊥) → IsWrittenAt d k l low high at v x x
written_none d k l low high at x v none = record { same = record { size = refl; others = λ s e. refl }; each = λ t. inl refl; here = λ from to t h. absurd (none from to t h) }

-- one position more is rounded
pub rounded_more : (d : Ends) (k : CaseData) (l : LinksData) (low high at : ℕ) (x y : List ℤ) (v : ℤ) → at < high → (pos 0 ≤ℤ v) × (v ≤ℤ pos (2 ^ k.w)) → AreRounded d k l low at x → IsWrittenAt d k l low high at v x y → AreRounded d k l low (at + 1) y
rounded_more d k l low high at x y v inside range done one p from to t stands =
    ⊎_elim
    (λ (less : p < at). ⊎_elim
    (λ (e : number y t ≡ number x t). subst (λ n. (pos 0 ≤ℤ n) × (n ≤ℤ pos (2 ^ k.w))) (sym e) (done p from less t stands))
    (λ (e : number y t ≡ v). subst (λ n. (pos 0 ≤ℤ n) × (n ≤ℤ pos (2 ^ k.w))) (sym e) range)
    (one.each t))
    (λ (e : p ≡ at). subst (λ n. (pos 0 ≤ℤ n) × (n ≤ℤ pos (2 ^ k.w))) (sym (one.here (omega (arith, from, e)) inside t (subst (λ i. IsFreeAt d k l i t) e stands))) range)
    (same_or_less p at to)

-- numbers that are rounded in the part, and as they were elsewhere
pub keeps_of : NumbersAreInRange → (d : Ends) (k : CaseData) (l : LinksData) (low high : ℕ) (x y : List ℤ) → AreNumbers k x → IsSameBeyond d k l low high x y → AreRounded d k l low high y → KeepsBeyond d k l low high x y
keeps_of ranges d k l low high x y numbers same rounded = record {
  numbers = record {
    size = same.size ∙ numbers.size;
    range = All-from_get_or (λ n. (pos 0 ≤ℤ n) × (n ≤ℤ pos (2 ^ k.w))) y (pos 0) (λ s lt. ⊎_elim
        (λ (e : is_free d k l low high s ≡ true). let o = of_open d k l low high s e in rounded (position l s) o.from o.to s o.at)
        (λ (e : is_free d k l low high s ≡ false). subst (λ n. (pos 0 ≤ℤ n) × (n ≤ℤ pos (2 ^ k.w))) (sym (same.others s e)) (ranges k x s numbers))
        (yes_or_no (is_free d k l low high s)));
  };
  others = same.others;
}
