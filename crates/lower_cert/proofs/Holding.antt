-- Holding a state at a number while the others are lowered: a lower vector that has more there, made smaller by what it has more, has just that number.
use Rattle.std.proofs.Common.{◌≡◌, ◌≢◌, ◌==◌, ℕ, ◌+◌, ◌-◌, ◌^◌, ◌<◌, ◌≤◌, ◌⊎◌, ⊎_elim, Bool, true, false, List, length, set, replicate, ℤ, pos, negsuc, nat_abs, ◌+ℤ◌, ◌-ℤ◌, ◌≤ℤ◌, ◌<ℤ◌, if◌then◌else◌, refl, sym, ap, subst, ◌∙◌, arith, zero, suc, true≢false, length-set, get_or-set_same, get_or-set_other}
use Rattle.std.specs.Prelude.{int_le}
use Rattle.std.proofs.lemmas.Int.{by_lt_z}
use Rattle.std.proofs.lemmas.List.Elements.{All-set}
use Rattle.lift_poly.proofs.Ring.{linear, le_from_test}
use Rattle.lift_model.specs.Model.{is_goal}
use Rattle.lift_model.specs.Links.{LinksData, position}
use Rattle.corner_lift.specs.Case.{CaseData, IsCase, IsInside, number}
use Rattle.corner_lift.specs.Certificate.{AreNumbers}
use Rattle.corner_lift.specs.Laws.{NumbersAreInRange}
use Rattle.float_guess.specs.Part.{StandsAt, is_open, KeepsOthers}
use Rattle.lower_cert.specs.Lowering.{Run, IsHighUnder}
use Rattle.lower_cert.specs.Laws.{HeldThatFell, HeldHigher}
use Rattle.lower_cert.specs.Holding.{lesser, holding, IsAboveAt, IsHighBeyond, AreInRange, IsSavedAt, AreSaved, AreAbove}
use Rattle.lower_cert.proofs.Means.{Premises, Place, stand, either_way, same_or_less, same_or_not}
use Rattle.lower_cert.proofs.Exits.{lt_from_test}
use Rattle.lower_cert.proofs.Sweeping.{is_same, same_is}
use Rattle.lower_cert.proofs.Beginning.{of_open, open_of}
use Rattle.lower_cert.proofs.Guess.{lessened, lessened-is, lessened_data, lessened_lower, less-under, less-shifted, less-above}

-- ---- the ceiling with a state held

lesser_by : (t : Bool) (a b : ℤ) → int_le a b ≡ t → ((if t then a else b) ≤ℤ a) × ((if t then a else b) ≤ℤ b)
lesser_by true a b e = (omega (arith, linear), le_from_test a b e)
lesser_by false a b e = (let lt = lt_from_test a b e in omega (arith, linear, lt), omega (arith, linear))

lesser_both : (a b : ℤ) → (lesser a b ≤ℤ a) × (lesser a b ≤ℤ b)
lesser_both a b = lesser_by (int_le a b) a b refl

below_by : (t : Bool) (x a b : ℤ) → x ≤ℤ a → x ≤ℤ b → x ≤ℤ (if t then a else b)
below_by true x a b f g = f
below_by false x a b f g = g

module _ (run : Run) (f : ℕ) (c : ℤ) where
  pub held_least : (s : ℕ) → (holding run f c).ceiling s ≤ℤ run.ceiling s
  held_least s = by (s == f)
    where
      by : (t : Bool) → (if t then lesser c (run.ceiling s) else run.ceiling s) ≤ℤ run.ceiling s
      by true = (lesser_both c (run.ceiling s)).1
      by false = omega (arith, linear)

  pub held_there : (holding run f c).ceiling f ≤ℤ c
  held_there = by (f == f) (same_is f f refl)
    where
      by : (t : Bool) → t ≡ true → (if t then lesser c (run.ceiling f) else run.ceiling f) ≤ℤ c
      by true e = (lesser_both c (run.ceiling f)).0
      by false e = absurd (true≢false (sym e))

  pub held_under : (y : ℕ → ℤ) → ((t : ℕ) → y t ≤ℤ run.ceiling t) → y f ≤ℤ c → (t : ℕ) → y t ≤ℤ (holding run f c).ceiling t
  held_under y under le t = by (t == f) refl
    where
      by : (b : Bool) → (t == f) ≡ b → y t ≤ℤ (if b then lesser c (run.ceiling t) else run.ceiling t)
      by true e = below_by (int_le c (run.ceiling t)) (y t) c (run.ceiling t) (subst (λ i. y i ≤ℤ c) (sym (is_same t f e)) le) (under t)
      by false e = under t

as_pos : (z : ℤ) → pos 0 ≤ℤ z → pos (nat_abs z) ≡ z
as_pos (pos n) h = refl
as_pos (negsuc n) h = absurd (omega (arith, linear, h))

-- ---- the laws

pub held_that_fell : Premises → HeldThatFell
held_that_fell laws k run f c z is within goal least less above y h under s =
    by_lt_z c (number y.numbers f)
    (λ more. absurd (too_much more))
    (λ le. above y h (held_under run f c (number y.numbers) under le) s)
  where
    place : Place k run.spans
    place = stand laws k run.spans is within

    too_much : c <ℤ number y.numbers f → ⊥
    too_much more =
        let n : ℕ = nat_abs (number y.numbers f -ℤ c) in
        let is_n : pos n ≡ number y.numbers f -ℤ c = as_pos (number y.numbers f -ℤ c) (omega (arith, linear, more)) in
        let smaller : List ℤ = lessened k run.spans place y h n in
        let low : (t : ℕ) → number smaller t ≤ℤ run.ceiling t = λ t. rw (lessened-is k run.spans place y h n t) (less-under k run.spans place y h n t (run.ceiling t) (under t)) in
        let there : number smaller f ≤ℤ c = rw (lessened-is k run.spans place y h n f) (less-shifted k run.spans place y h n f c goal (omega (arith, linear, is_n)) (omega (arith, linear, least, less))) in
        let small : number smaller f ≤ℤ z f = above (lessened_data k run.spans place y h n) (lessened_lower k run.spans place y h n) (held_under run f c (number smaller) low there) f in
        let same = lessened-is k run.spans place y h n f in
        let up = less-above k run.spans place y h n f in
        omega (arith, linear, is_n, small, same, up, less)

pub held_higher : Premises → HeldHigher
held_higher laws k run f c more s v is within goal least grows above y h under =
    let n : ℕ = nat_abs more in
    let is_n : pos n ≡ more = as_pos more grows in
    let smaller : List ℤ = lessened k run.spans place y h n in
    let low : (t : ℕ) → number smaller t ≤ℤ run.ceiling t = λ t. rw (lessened-is k run.spans place y h n t) (less-under k run.spans place y h n t (run.ceiling t) (omega (arith, linear, under t, held_least run f (c +ℤ more) t))) in
    let there : number smaller f ≤ℤ c = rw (lessened-is k run.spans place y h n f) (less-shifted k run.spans place y h n f c goal (omega (arith, linear, is_n, under f, held_there run f (c +ℤ more))) least) in
    let small : number smaller s ≤ℤ v = above (lessened_data k run.spans place y h n) (lessened_lower k run.spans place y h n) (held_under run f c (number smaller) low there) in
    let same = lessened-is k run.spans place y h n s in
    let up = less-above k run.spans place y h n s in
    omega (arith, linear, is_n, small, same, up)
  where
    place : Place k run.spans
    place = stand laws k run.spans is within

-- what holds of all lower vectors under the ceiling holds of those that have at most c at f
pub at_held : (k : CaseData) (run : Run) (f : ℕ) (c : ℤ) (s : ℕ) (v : ℤ) → IsAboveAt k run s v → IsAboveAt k (holding run f c) s v
at_held k run f c s v above y h under = above y h (λ t. omega (arith, linear, under t, held_least run f c t))

-- and what holds of those that have at most c there of those that have less
at_less : (k : CaseData) (run : Run) (f : ℕ) (c d : ℤ) (s : ℕ) (v : ℤ) → d ≤ℤ c → IsAboveAt k (holding run f c) s v → IsAboveAt k (holding run f d) s v
at_less k run f c d s v le above y h under =
    above y h (held_under run f c (number y.numbers) (λ t. omega (arith, linear, under t, held_least run f d t)) (omega (arith, linear, under f, held_there run f d, le)))

-- ---- what is kept

pub range_set : (k : CaseData) (xs : List ℤ) (i : ℕ) (v : ℤ) → i < length xs → (pos 0 ≤ℤ v) × (v ≤ℤ pos (2 ^ k.w)) → AreInRange k xs → AreInRange k (set xs i v)
range_set k xs i v lt fits range j =
    ⊎_elim
    (λ (e : j ≡ i). subst (λ n. (pos 0 ≤ℤ number (set xs i v) n) × (number (set xs i v) n ≤ℤ pos (2 ^ k.w))) (sym e) (rw get_or-set_same fits))
    (λ (ne : j ≢ i). rw get_or-set_other (range j))
    (same_or_not j i)

pub saved_some : (k : CaseData) (l : LinksData) (x : List ℤ) (at s place : ℕ) (saved : List ℤ) → place < length saved → ((t : ℕ) → StandsAt k l at t → t ≡ s) → IsSavedAt k l x at place saved (set saved place (number x s))
saved_some k l x at s place saved lt only = record {
  others = λ i ne. rw get_or-set_other refl;
  here = λ t h. (rw get_or-set_same refl) ∙ ap (λ i. number x i) (sym (only t h));
}

pub saved_none : (k : CaseData) (l : LinksData) (x : List ℤ) (at place : ℕ) (saved : List ℤ) → ((t : ℕ) → StandsAt k l at t → ⊥) → IsSavedAt k l x at place saved saved
saved_none k l x at place saved none = record { others = λ i ne. refl; here = λ t h. absurd (none t h) }

pub saved_more : (k : CaseData) (l : LinksData) (x : List ℤ) (low at : ℕ) (old new : List ℤ) → low ≤ at → AreSaved k l x low at old → IsSavedAt k l x at (at - low) old new → AreSaved k l x low (at + 1) new
saved_more k l x low at old new from all one p t le lt stands =
    ⊎_elim
    (λ (less : p < at).
    let ne : p - low ≢ at - low = grind (arith, le, less, from) in
    one.others (p - low) ne ∙ all p t le less stands)
    (λ (e : p ≡ at). subst (λ i. number new (i - low) ≡ number x t) (sym e) (one.here t (subst (λ i. StandsAt k l i t) e stands)))
    (same_or_less p at lt)

zeros_at : (n i : ℕ) → number (replicate n (pos 0)) i ≡ pos 0
zeros_at zero i = refl
zeros_at (suc n) zero = refl
zeros_at (suc n) (suc i) = zeros_at n i

pub zeros_in_range : (k : CaseData) (n : ℕ) → AreInRange k (replicate n (pos 0))
zeros_in_range k n i = let z = zeros_at n i in (omega (arith, linear, z), omega (arith, linear, z))

-- what is kept of a vector that is at or above every lower vector under a ceiling
pub saved_above : (k : CaseData) (l : LinksData) (run : Run) (x : List ℤ) (low high : ℕ) (saved : List ℤ) → ((s : ℕ) → IsAboveAt k run s (number x s)) → AreSaved k l x low high saved → AreAbove k l run low high saved
saved_above k l run x low high saved above same at s from to stands y h under = omega (arith, linear, above s y h under, same at s from to stands)

-- ---- what is written

-- a part that lies in another
pub keeps_in : (k : CaseData) (l : LinksData) (low high from to : ℕ) (x y : List ℤ) → low ≤ from → to ≤ high → KeepsOthers k l from to x y → KeepsOthers k l low high x y
keeps_in k l low high from to x y down up h = record {
  numbers = h.numbers;
  others = λ t closed. either_way (is_open k l from to t)
      (λ (e : is_open k l from to t ≡ true).
      let o = of_open k l from to t e in
      absurd (true≢false (sym (open_of k l low high (position l t) t (omega (arith, down, o.from)) (omega (arith, up, o.to)) o.at) ∙ closed)))
      (λ (e : is_open k l from to t ≡ false). h.others t e);
}

-- every lower vector under the ceiling is at most the vector at the states of a part
abbrev pub AreHighOn : CaseData → LinksData → Run → ℕ → ℕ → List ℤ → Type 0
AreHighOn k l run low high x = (at s : ℕ) → low ≤ at → at < high → StandsAt k l at s → IsAboveAt k run s (number x s)

stands_elsewhere : (k : CaseData) (l : LinksData) (p at s : ℕ) → p < at → StandsAt k l p s → is_open k l at (at + 1) s ≡ false
stands_elsewhere k l p at s less stands =
    either_way (is_open k l at (at + 1) s)
    (λ e. let o = of_open k l at (at + 1) s e in absurd (omega (arith, less, o.from, stands.is)))
    (λ e. e)

pub high_more : (k : CaseData) (l : LinksData) (run : Run) (low at : ℕ) (x y : List ℤ) (v : ℤ) → AreHighOn k l run low at x → KeepsOthers k l at (at + 1) x y → ((s : ℕ) → StandsAt k l at s → number y s ≡ v) → ((s : ℕ) → StandsAt k l at s → IsAboveAt k run s v) → AreHighOn k l run low (at + 1) y
high_more k l run low at x y v all kept here above p s from to stands =
    ⊎_elim
    (λ (less : p < at).
    let same = kept.others s (stands_elsewhere k l p at s less stands) in
    λ z h under. omega (arith, linear, all p s from less stands z h under, same))
    (λ (e : p ≡ at).
    let there = subst (λ i. StandsAt k l i s) e stands in
    let is = here s there in
    λ z h under. omega (arith, linear, above s there z h under, is))
    (same_or_less p at to)

-- a part whose states' numbers are at or above every lower vector under the ceiling makes a vector that is
pub high_on : (k : CaseData) (l : LinksData) (run : Run) (low high : ℕ) (x y : List ℤ) → IsHighBeyond k l run low high x → KeepsOthers k l low high x y → AreHighOn k l run low high y → IsHighUnder k run y
high_on k l run low high x y beyond kept on = record {
  numbers = kept.numbers;
  goal = λ s g. kept.others s (rw g refl) ∙ beyond.goal s g;
  above = λ z h under s. either_way (is_open k l low high s)
      (λ e. let o = of_open k l low high s e in on (position l s) s o.from o.to o.at z h under)
      (λ e. omega (arith, linear, beyond.above s e z h under, kept.others s e));
}

pub beyond_high : (k : CaseData) (l : LinksData) (run : Run) (low high : ℕ) (x : List ℤ) → IsHighUnder k run x → IsHighBeyond k l run low high x
beyond_high k l run low high x h = record { numbers = h.numbers; goal = h.goal; above = λ s e y lower under. h.above y lower under s }

pub beyond_kept : (k : CaseData) (l : LinksData) (run : Run) (low high : ℕ) (x y : List ℤ) → IsHighBeyond k l run low high x → KeepsOthers k l low high x y → IsHighBeyond k l run low high y
beyond_kept k l run low high x y beyond kept = record {
  numbers = kept.numbers;
  goal = λ s g. kept.others s (rw g refl) ∙ beyond.goal s g;
  above = λ s e z h under. omega (arith, linear, beyond.above s e z h under, kept.others s e);
}

pub beyond_held : (k : CaseData) (l : LinksData) (run : Run) (low high f : ℕ) (c : ℤ) (x : List ℤ) → IsHighBeyond k l run low high x → IsHighBeyond k l (holding run f c) low high x
beyond_held k l run low high f c x beyond = record { numbers = beyond.numbers; goal = beyond.goal; above = λ s e. at_held k run f c s (number x s) (beyond.above s e) }

-- ---- where a part begins beside the held state

-- from the base, or from what settled with so much more
pub started : HeldHigher → (k : CaseData) (run : Run) (f : ℕ) (low more value : ℤ) (s : ℕ) (base settled start : ℤ) → IsCase k → IsInside k.root run.spans → is_goal k.model f ≡ false → pos 0 ≤ℤ low → pos 0 ≤ℤ more → value ≤ℤ (low +ℤ more)
    → IsAboveAt k run s base → IsAboveAt k (holding run f low) s settled → (start ≡ base) ⊎ (start ≡ settled +ℤ more)
    → IsAboveAt k (holding run f value) s start
started higher k run f low more value s base settled start is within goal least grows fits above beside either =
    ⊎_elim
    (λ (e : start ≡ base). let one = at_held k run f value s base above in λ y h under. omega (arith, linear, one y h under, e))
    (λ (e : start ≡ settled +ℤ more).
    let one = at_less k run f (low +ℤ more) value s (settled +ℤ more) fits (higher k run f low more s settled is within goal least grows beside) in
    λ y h under. omega (arith, linear, one y h under, e))
    either

-- with the number of the held state written
pub begun_high : NumbersAreInRange → (k : CaseData) (l : LinksData) (run : Run) (low high at f : ℕ) (c : ℤ) (x y : List ℤ) → IsHighBeyond k l run low high x → KeepsOthers k l low high x y → AreHighOn k l (holding run f c) low high y → low ≤ at → at < high → StandsAt k l at f → (pos 0 ≤ℤ c) × (c ≤ℤ pos (2 ^ k.w))
    → IsHighUnder k (holding run f c) (set y f c) × KeepsOthers k l low high x (set y f c)
begun_high ranges k l run low high at f c x y beyond kept on from to stands fits = (
  record {
    numbers = all_numbers;
    goal = λ s g. other s (λ e. absurd (true≢false (sym (subst (λ i. is_goal k.model i ≡ true) e g) ∙ stands.goal))) ∙ was.goal s g;
    above = λ z h under s. ⊎_elim
        (λ (e : s ≡ f). subst (λ i. number z.numbers i ≤ℤ number (set y f c) i) (sym e) (omega (arith, linear, here, under f, held_there run f c)))
        (λ (ne : s ≢ f). omega (arith, linear, was.above z h under s, other s ne))
        (same_or_not s f);
  },
  record {
    numbers = all_numbers;
    others = λ s closed. other s (λ e. absurd (true≢false (sym (open_of k l low high at f from to stands) ∙ subst (λ i. is_open k l low high i ≡ false) e closed))) ∙ kept.others s closed;
  },
)
  where
    was : IsHighUnder k (holding run f c) y
    was = high_on k l (holding run f c) low high x y (beyond_held k l run low high f c x beyond) kept on

    in_lane : f < length y
    in_lane = omega (arith, stands.state, kept.numbers.size)

    here : number (set y f c) f ≡ c
    here = let lt = in_lane in rw get_or-set_same refl

    other : (s : ℕ) → s ≢ f → number (set y f c) s ≡ number y s
    other s ne = rw get_or-set_other refl

    all_numbers : AreNumbers k (set y f c)
    all_numbers = record { size = length-set y f c ∙ kept.numbers.size; range = All-set (λ n. (pos 0 ≤ℤ n) × (n ≤ℤ pos (2 ^ k.w))) y f c fits kept.numbers.range }

-- ---- what comes of a number

-- where the held state fell
pub unheld_high : HeldThatFell → NumbersAreInRange → (k : CaseData) (run : Run) (f : ℕ) (c : ℤ) (x : List ℤ) → IsCase k → IsInside k.root run.spans → is_goal k.model f ≡ false → number x f <ℤ c → IsHighUnder k (holding run f c) x → IsHighUnder k run x
unheld_high fell ranges k run f c x is within goal less h = record {
  numbers = h.numbers;
  goal = h.goal;
  above = fell k run f c (number x) is within goal (ranges k x f h.numbers).0 less h.above;
}

-- the number that a state has is the one at which it is held
pub held_same : (k : CaseData) (run : Run) (f : ℕ) (c d : ℤ) (x : List ℤ) → c ≡ d → IsHighUnder k (holding run f c) x → IsHighUnder k (holding run f d) x
held_same k run f c d x e h = subst (λ v. IsHighUnder k (holding run f v) x) e h
