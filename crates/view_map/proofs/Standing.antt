-- Where the root and the halves of a rectangle stand.
use Rattle.std.proofs.Common.{◌≡◌, ℕ, ◌+◌, ◌-◌, ◌<◌, ◌==◌, Bool, true, false, cond, List, [], length, Result, Ok, Err, IfOk, append-nil, sym, ap, ◌∙◌, subst, arith}
use Rattle.lift_grid.specs.Laws.{HalvesHaveOneLess, HalvesKeepCount, SpansAreHalvable}
use Rattle.lift_grid.specs.Rectangle.{Spans}
use Rattle.lift_grid.specs.Splitting.{HasHalvings, IsHalvable}
use Rattle.lift_grid.specs.Tree.{lower_half, upper_half}
use Rattle.lift_model.specs.Model.{live}
use Rattle.corner_lift.specs.Case.{CaseData, IsAsked}
use Rattle.cert_check.specs.Sound.{MayBeHalved}
use Rattle.lift_grid.specs.Tree.{Tree}
use Rattle.cert_text.specs.Head.{HeadData}
use Rattle.cert_text.specs.Nodes.{split, node_at}
use Rattle.cert_text.specs.Forms.{IsHead}
use Rattle.cert_text.specs.Laws.{NodesAreReadBack}
use Rattle.view_map.specs.Parts.{PartData, parts}
use Rattle.view_map.specs.Share.{total_share, whole_volume}
use Rattle.view_map.specs.Mapping.{Adds, AreNodes, BeginsWithTree, BeginsWithSomeTree, HasNodes, StandsAt}
use Rattle.view_map.proofs.First.{first_read, halves}
use Rattle.view_map.proofs.Shares.{total_of_sound}

not_above : (b : Bool) (n depth : ℕ) → depth < cond b 0 n → depth < n
not_above true n depth h = absurd (omega (arith, h))
not_above false n depth h = h

-- a split stands above the depth that was asked for
pub above : (k : CaseData) (ss : Spans) (depth axis : ℕ) → MayBeHalved k ss depth axis → depth < k.depth
above k ss depth axis s = not_above (live k.model == 0) k.depth depth s.left

-- the root stands at depth 0
pub root_stands : (k : CaseData) → IsAsked k → StandsAt k 0 k.root
root_stands k is =
    let whole : k.depth ≡ k.depth - 0 = omega arith in
    record {
      within = omega arith;
      halvings = subst (λ n. HasHalvings n k.root) whole (record { spans = is.spans; multiples = is.grid.multiples });
      one_each = is.grid.one_each;
    }

-- a rectangle can be halved where a sound split stands, and its halves stand below it
pub halves_stand : HalvesHaveOneLess → HalvesKeepCount → SpansAreHalvable → (k : CaseData) (ss : Spans) (depth axis : ℕ) → StandsAt k depth ss → depth < k.depth → axis < length k.model.names
    → IsHalvable axis ss × StandsAt k (depth + 1) (lower_half axis ss) × StandsAt k (depth + 1) (upper_half axis ss)
halves_stand less keep halvable k ss depth axis at more some =
    let n = k.depth - (depth + 1) in
    let one : k.depth - depth ≡ n + 1 = omega (arith, more) in
    let left : HasHalvings (n + 1) ss = subst (λ m. HasHalvings m ss) one at.halvings in
    let in_row : axis < length ss = let e = at.one_each in omega (arith, e, some) in
    let both = less n axis ss left in_row in
    let count = keep axis ss in (
      halvable n axis ss left in_row,
      record { within = omega (arith, more); halvings = both.0; one_each = count.0 ∙ at.one_each },
      record { within = omega (arith, more); halvings = both.1; one_each = count.1 ∙ at.one_each },
    )

-- what is known of the halves where a split was read
pub record Parted (h : HeadData) (ss : Spans) (depth axis : ℕ) (left : List ℕ) : Type 0 where
  pub more : depth < h.asked.depth
  pub halvable : IsHalvable axis ss
  pub lower : StandsAt h.asked (depth + 1) (lower_half axis ss)
  pub upper : StandsAt h.asked (depth + 1) (upper_half axis ss)
  pub low : BeginsWithSomeTree h (lower_half axis ss) (depth + 1) left
  pub high : (between : List ℕ) (old mid : List PartData) → Adds h (lower_half axis ss) (depth + 1) left between old mid → BeginsWithSomeTree h (upper_half axis ss) (depth + 1) between

pub parted : NodesAreReadBack → HalvesHaveOneLess → HalvesKeepCount → SpansAreHalvable → (h : HeadData) (ss : Spans) (depth axis n m : ℕ) (text left : List ℕ) → IsHead h → node_at h (n, text) ≡ Ok (split axis, (m, left))
    → StandsAt h.asked depth ss → BeginsWithSomeTree h ss depth text → Parted h ss depth axis left
parted back less keep halvable h ss depth axis n m text left head read at (t, rest, b) =
    let halved = halves h ss depth axis text left rest t b (first_read back h ss depth n m text left rest t (split axis) head b read) in
    let more = above h.asked ss depth axis halved.may in
    let stand = halves_stand less keep halvable h.asked ss depth axis at more halved.some in
    record {
      more = more;
      halvable = stand.0;
      lower = stand.1;
      upper = stand.2;
      low = (halved.lower, halved.between, halved.low);
      high = λ between old mid adds. let one = adds halved.lower halved.between halved.low in (halved.upper, rest, halved.high between one.0);
    }

pub if_ok_as : {A E : Type 0} (r : Result A E) (P Q : A → Type 0) → ((x : A) → P x → Q x) → IfOk r P → IfOk r Q
if_ok_as (Ok x) P Q f h = f x h
if_ok_as (Err e) P Q f h = tt

-- the nodes of a whole report
pub begins_whole : (h : HeadData) (text : List ℕ) (t : Tree) → AreNodes h text t → BeginsWithTree h h.asked.root 0 text t []
begins_whole h text t a = record { tree = a.sound.tree; nodes = a.sound.report.nodes; lines = a.lines ∙ sym (append-nil _) }

pub mapped : (h : HeadData) (text left : List ℕ) (ps : List PartData) → Adds h h.asked.root 0 text left [] ps → (t : Tree) → AreNodes h text t → ps ≡ parts h t
mapped h text left ps adds t a = (adds t [] (begins_whole h text t a)).1

-- their shares sum to the whole
pub mapped_total : (h : HeadData) (text left : List ℕ) (ps : List PartData) → IsHead h → Adds h h.asked.root 0 text left [] ps → HasNodes h text → total_share ps ≡ whole_volume
mapped_total h text left ps head adds (t, a) = ap (λ (qs : List PartData). total_share qs) (mapped h text left ps adds t a) ∙ total_of_sound h.asked h.bound t head.asked.depth a.sound.tree
