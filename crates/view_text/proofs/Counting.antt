-- Lines and leaves, depth by depth and parameter by parameter.
use Rattle.std.proofs.Common.{◌≡◌, ℕ, zero, suc, ◌+◌, ◌-◌, ◌<◌, List, [], ◌++◌, Some, None, find, refl, arith}
use Rattle.cert_text.specs.Head.{HeadData}
use Rattle.view_map.specs.Parts.{PartData, MapData}
use Rattle.view_text.specs.Summary.{depth_line, depths_from, interval_text, interval_texts_from, greatest_from, least_below, is_decided_at}

one_more : (i n : ℕ) → i < n → n - i ≡ suc (n - (i + 1))
one_more i n h = omega (arith, h)

none_left : (n : ℕ) → n - n ≡ zero
none_left n = omega arith

-- the line of the next depth
pub depths_next : (m : MapData) (i n : ℕ) → i < n → depths_from m i (n - i) ≡ depth_line m i ++ depths_from m (i + 1) (n - (i + 1))
unfolding depths_from
depths_next m i n h = rw (one_more i n h) refl

pub depths_end : (m : MapData) (n : ℕ) → depths_from m n (n - n) ≡ []
unfolding depths_from
depths_end m n = rw (none_left n) refl

-- the interval of the next parameter
pub intervals_next : (h : HeadData) (p : PartData) (i n : ℕ) → i < n → interval_texts_from h p i (n - i) ≡ interval_text h p i ++ interval_texts_from h p (i + 1) (n - (i + 1))
unfolding interval_texts_from
intervals_next h p i n less = rw (one_more i n less) refl

pub intervals_end : (h : HeadData) (p : PartData) (n : ℕ) → interval_texts_from h p n (n - n) ≡ []
unfolding interval_texts_from
intervals_end h p n = rw (none_left n) refl

-- a depth with a decided leaf is the first, and one without is passed over
pub greatest_here : (ps : List PartData) (i n : ℕ) (p : PartData) → i < n → find (is_decided_at i) ps ≡ Some p → greatest_from ps i (n - i) ≡ Some p
unfolding greatest_from
greatest_here ps i n p h e = rw (one_more i n h, e) refl

pub greatest_next : (ps : List PartData) (i n : ℕ) → i < n → find (is_decided_at i) ps ≡ None → greatest_from ps i (n - i) ≡ greatest_from ps (i + 1) (n - (i + 1))
unfolding greatest_from
greatest_next ps i n h e = rw (one_more i n h, e) refl

pub greatest_none : (ps : List PartData) (n : ℕ) → greatest_from ps n (n - n) ≡ None
unfolding greatest_from
greatest_none ps n = rw (none_left n) refl

-- the same from the greatest depth down: i depths below the last of n
one_less : (i n : ℕ) → i < n → n - i ≡ suc (n - 1 - i)
one_less i n h = omega (arith, h)

pub least_here : (ps : List PartData) (i n : ℕ) (p : PartData) → i < n → find (is_decided_at (n - 1 - i)) ps ≡ Some p → least_below ps (n - i) ≡ Some p
unfolding least_below
least_here ps i n p h e = rw (one_less i n h, e) refl

pub least_next : (ps : List PartData) (i n : ℕ) → i < n → find (is_decided_at (n - 1 - i)) ps ≡ None → least_below ps (n - i) ≡ least_below ps (n - (i + 1))
unfolding least_below
least_next ps i n h e =
    let rest : n - (i + 1) ≡ n - 1 - i = omega (arith, h) in
    rw (one_less i n h, e, rest) refl

pub least_none : (ps : List PartData) → least_below ps zero ≡ None
unfolding least_below
least_none ps = refl
