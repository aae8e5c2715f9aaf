-- Lanes in a block: appending, dropping and writing one.
use Rattle.std.proofs.Common.{◌≡◌, ℕ, zero, suc, ◌+◌, ◌-◌, ◌<◌, ◌≤◌, List, [], ◌∷◌, ◌++◌, length, take, drop, set, get_or, slice_range, refl, sym, ap, ◌∙◌, subst, arith, length-append, length-drop, append_assoc, map, drop-drop}
use Rattle.std.proofs.lemmas.Slice.{between_is}
use Rattle.std.proofs.lemmas.List.{take-append-le, take_all, take-take, length-take-le, take-append-drop}
use Rattle.std.proofs.Math.Seq.{drop-append_seam, take-append_seam, drop-append-add, take-append-add}
use Rattle.std.proofs.Math.ListN.{drop_of_length-le}
use Rattle.std.proofs.lemmas.List.Edits.{length-between, between_more}
use Rattle.lift_pool.specs.Lanes.{PoolData, joined, dealt, offset, written_over, pool_written, last_lane, pool_with, pool_without_last}
use Rattle.lift_pool.specs.Cuts.{cut, start, Ascend}

module _ {T : Type 0} where
  pub length-cut : (from : ℕ) (ends : List ℕ) (block : List T) → length (cut from ends block) ≡ length ends
  length-cut from [] block = refl
  length-cut from (end ∷ ends) block = omega (arith, length-cut end ends block)

  pub cut-get : (from : ℕ) (ends : List ℕ) (block : List T) (i : ℕ) → i < length ends → get_or (cut from ends block) i [] ≡ slice_range block (start from ends i) (start from ends (suc i))
  cut-get from [] block i h = absurd (omega arith)
  cut-get from (end ∷ ends) block zero h = refl
  cut-get from (end ∷ ends) block (suc i) h = cut-get end ends block i (omega arith)

pub start-is : (from : ℕ) (ends : List ℕ) (i d : ℕ) → i < length ends → get_or ends i d ≡ start from ends (suc i)
start-is from [] i d h = absurd (omega arith)
start-is from (end ∷ ends) zero d h = refl
start-is from (end ∷ ends) (suc i) d h = start-is end ends i d (omega arith)

pub start-last : (from : ℕ) (ends : List ℕ) (top : ℕ) → Ascend from ends top → start from ends (length ends) ≡ top
start-last from [] top h = h
start-last from (end ∷ ends) top h =
    let last = start-last end ends top h.1 in
    let size : length (end ∷ ends) ≡ suc (length ends) = omega arith in
    rw size last

pub ascend-from : (from : ℕ) (ends : List ℕ) (top : ℕ) → Ascend from ends top → from ≤ top
ascend-from from [] top h = omega arith
ascend-from from (end ∷ ends) top h = omega (arith, ascend-from end ends top h.1)

pub start-top : (from : ℕ) (ends : List ℕ) (top i : ℕ) → Ascend from ends top → start from ends i ≤ top
start-top from ends top zero h = ascend-from from ends top h
start-top from [] top (suc i) h = omega arith
start-top from (end ∷ ends) top (suc i) h = start-top end ends top i h.1

pub start-next : (from : ℕ) (ends : List ℕ) (top i : ℕ) → Ascend from ends top → start from ends i ≤ start from ends (suc i)
start-next from [] top zero h = omega arith
start-next from [] top (suc i) h = omega arith
start-next from (end ∷ ends) top zero h = h.0
start-next from (end ∷ ends) top (suc i) h = start-next end ends top i h.1

pub ascend-more : (from : ℕ) (ends : List ℕ) (top end : ℕ) → Ascend from ends top → top ≤ end → Ascend from (ends ++ end ∷ []) end
ascend-more from [] top end h le = (omega arith, refl)
ascend-more from (e ∷ ends) top end h le = (h.0, ascend-more e ends top end h.1 le)

pub ascend-less : (from : ℕ) (ends : List ℕ) (end top : ℕ) → Ascend from (ends ++ end ∷ []) top → Ascend from ends (start from ends (length ends))
ascend-less from [] end top h = refl
ascend-less from (e ∷ ends) end top h =
    let size : length (e ∷ ends) ≡ suc (length ends) = omega arith in
    (h.0, rw size (ascend-less e ends end top h.1))

pub start-from : (from : ℕ) (ends : List ℕ) (top i : ℕ) → Ascend from ends top → from ≤ start from ends i
start-from from ends top zero h = omega arith
start-from from [] top (suc i) h = omega arith
start-from from (end ∷ ends) top (suc i) h = omega (arith, h.0, start-from end ends top i h.1)

module _ {T : Type 0} where
  between-append : (block more : List T) (i j : ℕ) → j ≤ length block → slice_range (block ++ more) i j ≡ slice_range block i j
  between-append block more i j h =
      between_is (block ++ more) i j ∙ ap (λ l. drop i l) (take-append-le j block more h) ∙ sym (between_is block i j)

  between-rest : (block more : List T) (j : ℕ) → j ≡ length block + length more → slice_range (block ++ more) (length block) j ≡ more
  between-rest block more j h = rw (drop-append_seam block more) (take_all (j - length block) more (omega arith))

  -- a lane appended
  pub cut-more : (from : ℕ) (ends : List ℕ) (block more : List T) (end : ℕ) → Ascend from ends (length block) → end ≡ length block + length more → cut from (ends ++ end ∷ []) (block ++ more) ≡ cut from ends block ++ more ∷ []
  cut-more from [] block more end h e = rw h (ap (λ l. l ∷ []) (between-rest block more end e))
  cut-more from (e ∷ ends) block more end h k =
      let first = between-append block more from e (ascend-from e ends (length block) h.1) in
      let rest = cut-more e ends block more end h.1 k in
      rw (first, rest) refl

  -- a block that is cut off behind the lanes
  pub cut-shorter : (from : ℕ) (ends : List ℕ) (block : List T) (top n : ℕ) → Ascend from ends top → top ≤ n → cut from ends (take n block) ≡ cut from ends block
  cut-shorter from [] block top n h le = refl
  cut-shorter from (e ∷ ends) block top n h le =
      let within : e ≤ n = omega (arith, ascend-from e ends top h.1) in
      let first : slice_range (take n block) from e ≡ slice_range block from e =
      between_is (take n block) from e ∙ ap (λ l. drop from l) (take-take e n block within) ∙ sym (between_is block from e) in
      rw (first, cut-shorter e ends block top n h.1 le) refl

  -- the last lane apart
  pub cut-last : (from : ℕ) (ends : List ℕ) (block : List T) (end : ℕ) → cut from (ends ++ end ∷ []) block ≡ cut from ends block ++ slice_range block (start from ends (length ends)) end ∷ []
  cut-last from [] block end = refl
  cut-last from (e ∷ ends) block end =
      let size : length (e ∷ ends) ≡ suc (length ends) = omega arith in
      rw (size, cut-last e ends block end) refl

pub start-before : (ends : List ℕ) (top from : ℕ) → Ascend 0 ends top → from ≡ start 0 ends (length ends - 1) → from ≤ top
start-before ends top from asc f = omega (arith, f, start-top 0 ends top (length ends - 1) asc)

module _ {T : Type 0} where
  -- a list that is not empty ends in an element
  pub last-apart : (xs : List T) (d : T) → 0 < length xs → xs ≡ take (length xs - 1) xs ++ get_or xs (length xs - 1) d ∷ []
  last-apart xs d h =
      sym (take-append-drop (length xs - 1) xs) ∙ ap (λ l. take (length xs - 1) xs ++ l) (drop-last xs d h)
    where
      drop-last : (xs : List T) (d : T) → 0 < length xs → drop (length xs - 1) xs ≡ get_or xs (length xs - 1) d ∷ []
      drop-last [] d h = absurd (omega arith)
      drop-last (x ∷ []) d h = refl
      drop-last (x ∷ y ∷ xs) d h =
          let size : length (x ∷ y ∷ xs) - 1 ≡ suc (length (y ∷ xs) - 1) = omega arith in
          rw size (drop-last (y ∷ xs) d (omega arith))

  -- the lanes in a row are the block
  joined-cut : (from : ℕ) (ends : List ℕ) (block : List T) → Ascend from ends (length block) → joined (cut from ends block) ≡ drop from block
  joined-cut from [] block h = sym (drop_of_length-le block (omega (arith, h)))
  joined-cut from (end ∷ ends) block h =
      let sum : from + (end - from) ≡ end = omega (arith, h.0) in
      ap (λ l. slice_range block from end ++ l) (joined-cut end ends block h.1 ∙ ap (λ n. drop n block) (sym sum) ∙ sym (drop-drop (end - from) from block))
      ∙ take-append-drop (end - from) (drop from block)

  offset-cut : (from : ℕ) (ends : List ℕ) (block : List T) (i : ℕ) → Ascend from ends (length block) → from + offset (cut from ends block) i ≡ start from ends i
  offset-cut from ends block zero h = omega arith
  offset-cut from [] block (suc i) h = omega arith
  offset-cut from (end ∷ ends) block (suc i) h =
      let size = length-between block from end (ascend-from end ends (length block) h.1) in
      let rest = offset-cut end ends block i h.1 in
      omega (arith, size, rest, h.0)

  dealt-cut : (from : ℕ) (ends : List ℕ) (block block' : List T) → Ascend from ends (length block) → dealt (map length (cut from ends block)) (drop from block') ≡ cut from ends block'
  dealt-cut from [] block block' h = refl
  dealt-cut from (end ∷ ends) block block' h =
      let size = length-between block from end (ascend-from end ends (length block) h.1) in
      let sum : from + (end - from) ≡ end = omega (arith, h.0) in
      let rest : drop (end - from) (drop from block') ≡ drop end block' = drop-drop (end - from) from block' ∙ ap (λ n. drop n block') sum in
      rw (size, rest, dealt-cut end ends block block' h.1) refl

  -- a write to the block from where a lane begins, the block's length being n
  pub lane-written : (ends : List ℕ) (block ws : List T) (i from n spare spare_lanes : ℕ) → from ≡ start 0 ends i → n ≡ length block → Ascend 0 ends (length block)
      → (let all = take from block ++ (ws ++ drop (length ws) (drop from block)) in
      let p : PoolData T = record { lanes = cut 0 ends block; spare = spare; spare_lanes = spare_lanes } in
      let q : PoolData T = record { lanes = cut 0 ends (take n (all ++ drop (length all) block)); spare = spare; spare_lanes = spare_lanes } in
      q ≡ pool_written p i ws)
  lane-written ends block ws i from n spare spare_lanes f size asc =
      let place : offset (cut 0 ends block) i ≡ from = omega (arith, offset-cut 0 ends block i asc, f) in
      ap (λ (l : List (List T)). let q : PoolData T = record { lanes = l; spare = spare; spare_lanes = spare_lanes } in q)
      (rw (size, place, joined-cut 0 ends block asc) (sym (dealt-cut 0 ends block (written_over from ws block) asc)))

  dealt-joined : (lanes : List (List T)) → dealt (map length lanes) (joined lanes) ≡ lanes
  dealt-joined [] = refl
  dealt-joined (lane ∷ lanes) = rw (take-append_seam lane (joined lanes), drop-append_seam lane (joined lanes), dealt-joined lanes) refl

  offset-below : (lanes : List (List T)) (i : ℕ) → i < length lanes → offset lanes i + length (get_or lanes i []) ≤ length (joined lanes)
  offset-below [] i h = absurd (omega arith)
  offset-below (lane ∷ lanes) zero h = omega (arith, length-append lane (joined lanes))
  offset-below (lane ∷ lanes) (suc i) h = omega (arith, length-append lane (joined lanes), offset-below lanes i (omega arith))

  abbrev put : ℕ → List T → List T → List T
  put i ws xs = take i xs ++ (ws ++ drop (length ws) (drop i xs))

  put-length : (i : ℕ) (ws xs : List T) → i + length ws ≤ length xs → length (put i ws xs) ≡ length xs
  put-length i ws xs h =
      let a = length-append (take i xs) (ws ++ drop (length ws) (drop i xs)) in
      let b = length-append ws (drop (length ws) (drop i xs)) in
      let c = length-take-le i xs (omega arith) in
      let d = length-drop (length ws) (drop i xs) in
      let e = length-drop i xs in
      omega (arith, a, b, c, d, e)

  written-put : (i : ℕ) (ws xs : List T) → i + length ws ≤ length xs → written_over i ws xs ≡ put i ws xs
  written-put i ws xs h = rw (sym (put-length i ws xs h)) (take-append_seam (put i ws xs) (drop (length (put i ws xs)) xs))

  dealt-put : (lanes : List (List T)) (i : ℕ) (ws : List T) → i < length lanes → length ws ≡ length (get_or lanes i []) → dealt (map length lanes) (put (offset lanes i) ws (joined lanes)) ≡ set lanes i ws
  dealt-put [] i ws h e = absurd (omega arith)
  dealt-put (lane ∷ lanes) zero ws h e =
      let all : put 0 ws (lane ++ joined lanes) ≡ ws ++ joined lanes = ap (λ l. ws ++ l) (ap (λ n. drop n (lane ++ joined lanes)) e ∙ drop-append_seam lane (joined lanes)) in
      rw (all, sym e, take-append_seam ws (joined lanes), drop-append_seam ws (joined lanes), dealt-joined lanes) refl
  dealt-put (lane ∷ lanes) (suc i) ws h e =
      let back = drop-append-add lane (joined lanes) (offset lanes i) in
      let front = take-append-add lane (joined lanes) (offset lanes i) in
      let rest = put (offset lanes i) ws (joined lanes) in
      let all : put (length lane + offset lanes i) ws (lane ++ joined lanes) ≡ lane ++ rest = rw (back, front) (append_assoc lane (take (offset lanes i) (joined lanes)) _) in
      rw (all, take-append_seam lane rest, drop-append_seam lane rest, dealt-put lanes i ws (omega arith) e) refl

  -- writing a list of the lane's length changes that lane alone
  pub lane_alone : (p : PoolData T) (i : ℕ) (ws : List T) → i < length p.lanes → length ws ≡ length (get_or p.lanes i []) → pool_written p i ws ≡ record p { lanes = set p.lanes i ws }
  lane_alone p i ws h e =
      ap (λ (l : List (List T)). record p { lanes = l })
      (ap (λ r. dealt (map length p.lanes) r) (written-put (offset p.lanes i) ws (joined p.lanes) (rw e (offset-below p.lanes i h))) ∙ dealt-put p.lanes i ws h e)

module _ {T : Type 0} where
  -- a lane of a pool, from its ends
  pub in-range : (ends : List ℕ) (block : List T) (lanes : List (List T)) (i : ℕ) → cut 0 ends block ≡ lanes → i < length lanes → i < length ends
  in-range ends block lanes i e h = let size : length lanes ≡ length ends = rw (sym e) (length-cut 0 ends block) in omega arith

  pub lane-is : (ends : List ℕ) (block : List T) (lanes : List (List T)) (i from to : ℕ) → cut 0 ends block ≡ lanes → i < length lanes → from ≡ start 0 ends i → to ≡ get_or ends i to → slice_range block from to ≡ get_or lanes i []
  lane-is ends block lanes i from to e h f t =
      let within = in-range ends block lanes i e h in
      let end : to ≡ start 0 ends (suc i) = t ∙ start-is 0 ends i to within in
      rw (sym e, f, end) (sym (cut-get 0 ends block i within))

  -- one more element of a part, copied to the end
  pub grown : (old now : List T) (from i : ℕ) (x : T) → from ≤ i → i < length old → now ≡ old ++ slice_range old from i → x ≡ get_or old i x → now ++ x ∷ [] ≡ old ++ slice_range old from (i + 1)
  grown old now from i x le h e v =
      let more : slice_range old from (i + 1) ≡ slice_range old from i ++ x ∷ [] = between_more old from i x le h ∙ ap (λ y. slice_range old from i ++ y ∷ []) (sym v) in
      rw (e, more) (append_assoc old (slice_range old from i) (x ∷ []))

  -- what a pool holds after one more lane
  pub cut-taken : (ends ends' : List ℕ) (block block' more : List T) (end : ℕ) → Ascend 0 ends (length block) → block' ≡ block ++ more → end ≡ length block' → ends' ≡ ends ++ end ∷ [] → cut 0 ends' block' ≡ cut 0 ends block ++ more ∷ []
  cut-taken ends ends' block block' more end asc b e l =
      rw (l, b) (cut-more 0 ends block more end asc (e ∙ ap length b ∙ length-append block more))

  pub ascend-taken : (ends ends' : List ℕ) (block block' more : List T) (end : ℕ) → Ascend 0 ends (length block) → block' ≡ block ++ more → end ≡ length block' → ends' ≡ ends ++ end ∷ [] → Ascend 0 ends' (length block')
  ascend-taken ends ends' block block' more end asc b e l =
      let size : length block' ≡ length block + length more = ap length b ∙ length-append block more in
      subst (λ n. Ascend 0 ends' n) e (rw l (ascend-more 0 ends (length block) end asc (omega arith)))

  pub cut-given : (ends es ends' : List ℕ) (block block' : List T) (end : ℕ) → Ascend 0 ends (length block) → ends ≡ es ++ end ∷ [] → ends' ≡ es → block' ≡ take (start 0 ends (length es)) block → (Ascend 0 ends' (length block')) × (cut 0 ends block ≡ cut 0 ends' block' ++ slice_range block (start 0 ends (length es)) (length block) ∷ [])
  cut-given ends es ends' block block' end asc split e b =
      let asc_split = rw split at asc in
      let less = ascend-less 0 es end (length block) asc_split in
      let same : start 0 ends (length es) ≡ start 0 es (length es) = rw split (start-append 0 es end) in
      let top : start 0 es (length es) ≤ length block = rw same at (start-top 0 ends (length block) (length es) asc) in
      let size : length block' ≡ start 0 es (length es) = ap length b ∙ rw same (length-take-le (start 0 es (length es)) block top) in
      let last : end ≡ length block = ascend-end 0 es end (length block) asc_split in (
        rw (e, size) less,
        rw (e, b, same, split, cut-last 0 es block end, cut-shorter 0 es block (start 0 es (length es)) (start 0 es (length es)) less (omega arith), last) refl,
      )
    where
      start-append : (from : ℕ) (es : List ℕ) (end : ℕ) → start from (es ++ end ∷ []) (length es) ≡ start from es (length es)
      start-append from [] end = refl
      start-append from (e ∷ es) end =
          let size : length (e ∷ es) ≡ suc (length es) = omega arith in
          rw size (start-append e es end)

      ascend-end : (from : ℕ) (es : List ℕ) (end top : ℕ) → Ascend from (es ++ end ∷ []) top → end ≡ top
      ascend-end from [] end top h = h.1
      ascend-end from (e ∷ es) end top h = ascend-end e es end top h.1

  -- the last lane is what stands behind its start
  pub last-is : (ends : List ℕ) (block : List T) (lanes : List (List T)) (from to : ℕ) → cut 0 ends block ≡ lanes → 0 < length lanes → Ascend 0 ends (length block) → from ≡ start 0 ends (length ends - 1) → to ≡ length block → slice_range block from to ≡ last_lane lanes
  last-is ends block lanes from to e h asc f t =
      let size : length lanes ≡ length ends = rw (sym e) (length-cut 0 ends block) in
      let within : length ends - 1 < length ends = omega arith in
      let next : suc (length ends - 1) ≡ length ends = omega arith in
      let end : to ≡ start 0 ends (suc (length ends - 1)) = t ∙ sym (start-last 0 ends (length block) asc) ∙ ap (λ n. start 0 ends n) (sym next) in
      let place : length ends - 1 ≡ length (cut 0 ends block) - 1 = omega (arith, length-cut 0 ends block) in
      let lane : slice_range block from to ≡ get_or (cut 0 ends block) (length ends - 1) [] = rw (f, end) (sym (cut-get 0 ends block (length ends - 1) within)) in
      lane ∙ ap (λ n. get_or (cut 0 ends block) n []) place ∙ ap (λ l. last_lane l) e

  -- the last lane dropped
  pub dropped : (ends ends' : List ℕ) (block block' : List T) (lanes : List (List T)) (from : ℕ) → cut 0 ends block ≡ lanes → 0 < length lanes → Ascend 0 ends (length block) → from ≡ start 0 ends (length ends - 1) → ends' ≡ take (length ends - 1) ends → block' ≡ take from block
      → (Ascend 0 ends' (length block')) × (lanes ≡ cut 0 ends' block' ++ last_lane lanes ∷ []) × (length block' ≡ from) × (from + length (last_lane lanes) ≡ length block) × (length ends' + 1 ≡ length ends)
  dropped ends ends' block block' lanes from e h asc f k b =
      let size : length lanes ≡ length ends = rw (sym e) (length-cut 0 ends block) in
      let last = last-is ends block lanes from (length block) e h asc f refl in
      let es = take (length ends - 1) ends in
      let short : length es ≡ length ends - 1 = length-take-le (length ends - 1) ends (omega arith) in
      let place : start 0 ends (length es) ≡ from = rw short (sym f) in
      let all = cut-given ends es ends' block block' (get_or ends (length ends - 1) 0) asc (last-apart ends 0 (omega arith)) k (rw place b) in
      let top = start-before ends (length block) from asc f in (
        all.0,
        sym e ∙ all.1 ∙ ap (λ l. cut 0 ends' block' ++ l ∷ []) (ap (λ n. slice_range block n (length block)) place ∙ last),
        ap length b ∙ length-take-le from block top,
        omega (arith, ap length (sym last), length-between block from (length block) (omega arith), top),
        omega (arith, ap length k, short, size),
      )

  -- all but the last
  pub front-is : (lanes front : List (List T)) (lane : List T) → lanes ≡ front ++ lane ∷ [] → front ≡ take (length lanes - 1) lanes
  front-is lanes front lane e =
      let size : length front ≡ length lanes - 1 = (let a = ap length e ∙ length-append front (lane ∷ []) in omega (arith, a)) in
      sym (ap (λ l. take (length lanes - 1) l) e ∙ ap (λ n. take n (front ++ lane ∷ [])) (sym size) ∙ take-append_seam front (lane ∷ []))

  -- what is taken can be given back
  pub pool_without_last-pool_with : (p : PoolData T) (l : List T) → length l ≤ p.spare → 1 ≤ p.spare_lanes → pool_without_last (pool_with p l) ≡ p
  pool_without_last-pool_with p l words lanes =
      let count = length-append p.lanes (l ∷ []) in
      let size : length (p.lanes ++ l ∷ []) - 1 ≡ length p.lanes = omega (arith, count) in
      let front : take (length (p.lanes ++ l ∷ []) - 1) (p.lanes ++ l ∷ []) ≡ p.lanes = ap (λ n. take n (p.lanes ++ l ∷ [])) size ∙ take-append_seam p.lanes (l ∷ []) in
      let last : get_or (p.lanes ++ l ∷ []) (length (p.lanes ++ l ∷ []) - 1) [] ≡ l = ap (λ n. get_or (p.lanes ++ l ∷ []) n []) size ∙ get_or_at_end p.lanes l in
      ap (λ (q : List (List T)). let r : PoolData T = record { lanes = q; spare = p.spare - length l + length (last_lane (p.lanes ++ l ∷ [])); spare_lanes = p.spare_lanes - 1 + 1 } in r) front
      ∙ ap (λ (n : ℕ). let r : PoolData T = record { lanes = p.lanes; spare = n; spare_lanes = p.spare_lanes - 1 + 1 } in r) (let e = ap length last in omega (arith, e, words))
      ∙ ap (λ (n : ℕ). let r : PoolData T = record { lanes = p.lanes; spare = p.spare; spare_lanes = n } in r) (omega (arith, lanes))
    where
      get_or_at_end : (xs : List (List T)) (x : List T) → get_or (xs ++ x ∷ []) (length xs) [] ≡ x
      get_or_at_end [] x = refl
      get_or_at_end (y ∷ xs) x = let size : length (y ∷ xs) ≡ suc (length xs) = omega arith in ap (λ n. get_or (y ∷ (xs ++ x ∷ [])) n []) size ∙ get_or_at_end xs x
