use Rattle.std.proofs.Common.{rules, ◌≡◌, to_z, of_z, append_assoc, append-nil}
use Rattle.std.specs.Int.{w64, w128}
use Rattle.check_notes.proofs.unsound.write_miss.Goals as goal

pub returns-in-Goal : goal.returns-in-Goal
returns-in-Goal g c =
    let value : to_z w64 (of_z w64 c.in-Goal.value) ≡ c.in-Goal.value = search rules in
    let wide : to_z w128 (of_z w128 c.from-in-Goal.result) ≡ c.from-in-Goal.result = search rules in
    rw c.in-Goal.is (simp append_assoc (rw (append-nil, c.from.ensures, wide, c.from-in-Goal.ensures, value) at c.write_words.ensures))

pub returns-in-Unranked : goal.returns-in-Unranked
returns-in-Unranked g c =
    let value : to_z w64 (of_z w64 c.in-Unranked.value) ≡ c.in-Unranked.value = search rules in
    let wide : to_z w128 (of_z w128 c.from-in-Unranked-2.result) ≡ c.from-in-Unranked-2.result = search rules in
    rw c.in-Unranked.is (simp append_assoc (rw (append-nil, c.from-in-Unranked.ensures, wide, c.from-in-Unranked-2.ensures, value) at c.write_words-in-Unranked.ensures))

pub returns-in-Row : goal.returns-in-Row
returns-in-Row g c =
    let left : to_z w128 (of_z w128 c.in-Row.left) ≡ c.in-Row.left = search rules in
    let right : to_z w128 (of_z w128 c.in-Row.right) ≡ c.in-Row.right = search rules in
    rw c.in-Row.is (simp append_assoc (rw (append-nil, c.from-in-Row.ensures, c.from-in-Row-2.ensures, c.from-in-Row-3.ensures, left, right) at c.write_words-in-Row.ensures))

pub returns-in-Rate : goal.returns-in-Rate
returns-in-Rate g c =
    let weight : to_z w128 (of_z w128 c.in-Rate.weight) ≡ c.in-Rate.weight = search rules in
    let whole : to_z w128 (of_z w128 c.in-Rate.whole) ≡ c.in-Rate.whole = search rules in
    rw c.in-Rate.is (simp append_assoc (rw (append-nil, c.from-in-Rate.ensures, c.from-in-Rate-2.ensures, c.from-in-Rate-3.ensures, c.from-in-Rate-4.ensures, weight, whole) at c.write_words-in-Rate.ensures))

pub returns-in-Limit : goal.returns-in-Limit
returns-in-Limit g c =
    let left : to_z w128 (of_z w128 c.in-Limit.left) ≡ c.in-Limit.left = search rules in
    let right : to_z w128 (of_z w128 c.in-Limit.right) ≡ c.in-Limit.right = search rules in
    rw c.in-Limit.is (simp append_assoc (rw (append-nil, c.relation.ensures, left, right) at c.write_words-in-Limit.ensures))
