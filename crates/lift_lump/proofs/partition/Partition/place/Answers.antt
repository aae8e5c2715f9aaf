use Rattle.std.proofs.Common.{◌≡◌, ◌-◌, ◌+◌, ◌<◌, ◌≤◌, ◌∷◌, [], ◌++◌, ℕ, List, All, length, get_or, set, sym, subst, ap, ◌∙◌, arith}
use Rattle.std.proofs.lemmas.List.{get_or_default, length-set}
use Rattle.std.proofs.lemmas.Result.{on_ok_weaker}
use Rattle.lift_lump.specs.Search.{number_at}
use Rattle.lift_lump.specs.Splitting.{AreInside, list_of}
use Rattle.lift_lump.proofs.Holders.{old_some, left_room}
use Rattle.lift_lump.proofs.Settling.{inside_placed}
use Rattle.lift_lump.proofs.partition.Partition.place.Goals as goal

-- an element that is read with itself as the default
read : (xs : List ℕ) (i x : ℕ) → i < length xs → x ≡ get_or xs i x → x ≡ number_at xs i
read xs i x lt is = is ∙ get_or_default xs i x 0 lt

module _ (labels sizes : List ℕ) (members : List (List ℕ)) (s name : ℕ) (s_in : s < length labels) (name_in : name < length members) (are : AreInside labels sizes members) (old size : ℕ) (old_is : old ≡ number_at labels s) (size_read : size ≡ get_or sizes old size) where
  below : All (λ l. l < length sizes) labels
  below k d lt = let b = are.below k d lt in let same = are.size in omega (arith, b, same)

  in_sizes : name < length sizes
  in_sizes = let same = are.size in omega (arith, same, name_in)

  old_in : old < length sizes
  old_in = subst (λ k. k < length sizes) (sym old_is) (below s 0 s_in)

  size_is : size ≡ number_at sizes old
  size_is = read sizes old size old_in size_read

  some : 1 ≤ size
  some =
      let is : size ≡ number_at sizes (number_at labels s) = size_is ∙ ap (number_at sizes) old_is in
      let most = old_some labels sizes s name s_in are.counted below in_sizes in
      omega (arith, is, most)

  module _ (room : ℕ) (room_read : room ≡ get_or (set sizes old (size - 1)) name room) where
    room_is : room ≡ number_at (set sizes old (size - 1)) name
    room_is = read (set sizes old (size - 1)) name room (let same = length-set sizes old (size - 1) in omega (arith, same, in_sizes)) room_read

    fits : room ≤ length labels
    fits =
        let is : room ≡ number_at (set sizes (number_at labels s) (number_at sizes (number_at labels s) - 1)) name = room_is ∙ ap (λ n. number_at (set sizes old (n - 1)) name) size_is ∙ ap (λ o. number_at (set sizes o (number_at sizes o - 1)) name) old_is in
        let most = left_room labels sizes s name s_in are.counted below in_sizes in
        omega (arith, is, most)

    placed : (new : List (List ℕ)) → new ≡ set members name (list_of members name ++ s ∷ []) → AreInside (set labels s name) (set (set sizes old (size - 1)) name (room + 1)) new
    placed new made =
        subst (AreInside (set labels s name) (set (set sizes old (size - 1)) name (room + 1))) (sym made)
        (subst (λ (ss : List ℕ). AreInside (set labels s name) ss (set members name (list_of members name ++ s ∷ []))) (sym same) (inside_placed labels sizes members s name s_in name_in are))
      where
        same : set (set sizes old (size - 1)) name (room + 1) ≡ set (set sizes (number_at labels s) (number_at sizes (number_at labels s) - 1)) name (number_at (set sizes (number_at labels s) (number_at sizes (number_at labels s) - 1)) name + 1)
        same =
            ap (λ r. set (set sizes old (size - 1)) name (r + 1)) room_is
            ∙ ap (λ n. set (set sizes old (n - 1)) name (number_at (set sizes old (n - 1)) name + 1)) size_is
            ∙ ap (λ o. set (set sizes o (number_at sizes o - 1)) name (number_at (set sizes o (number_at sizes o - 1)) name + 1)) old_is

pub overflow_sub-index_mut : goal.overflow_sub-index_mut
overflow_sub-index_mut c =
    let part = c.args.self.now in
    let old_is = read part.labels.items c.args.s c.index.result.now c.requires.state c.index.ensures in
    some part.labels.items part.sizes.items part.members c.args.s c.args.label c.requires.state c.requires.label c.requires.inside c.index.result.now c.index_mut.result.now old_is c.index_mut.ensures.value

pub overflow_add-index_mut : goal.overflow_add-index_mut
overflow_add-index_mut c =
    let part = c.args.self.now in
    let old_is = read part.labels.items c.args.s c.index.result.now c.requires.state c.index.ensures in
    let most = fits part.labels.items part.sizes.items part.members c.args.s c.args.label c.requires.state c.requires.label c.requires.inside c.index.result.now c.index_mut.result.now old_is c.index_mut.ensures.value c.index_mut-2.result.now c.index_mut-2.ensures.value in
    let states = c.requires.states in
    record { fits = omega (arith, most, states) }

pub returns-clause-inside : goal.returns-clause-inside
returns-clause-inside c =
    let part = c.args.self.now in
    let old_is = read part.labels.items c.args.s c.index.result.now c.requires.state c.index.ensures in
    on_ok_weaker c.push.result (λ made. placed part.labels.items part.sizes.items part.members c.args.s c.args.label c.requires.state c.requires.label c.requires.inside c.index.result.now c.index_mut.result.now old_is c.index_mut.ensures.value c.index_mut-2.result.now c.index_mut-2.ensures.value c.push.new.self made) c.push.ensures
