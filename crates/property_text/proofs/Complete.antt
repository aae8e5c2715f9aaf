-- What the grammar writes is read.
use Prim.Native.Char.{code}
use Rattle.std.proofs.Common.{◌≡◌, ◌==◌, ◌&&◌, ℕ, suc, Bool, true, false, not, cond, List, [], ◌∷◌, ◌++◌, length, take, drop, Option, Some, None, refl, sym, ap, ap₂, ◌∙◌, arith, append_assoc}
use Rattle.std.specs.Prelude.{codes, option_and_then, IfSome}
use Rattle.std.specs.List.{list_all, take_while}
use Rattle.std.specs.Option.{option_map, option_or}
use Rattle.std.specs.Char.{is_ascii_digit}
use Rattle.std.specs.Str.{bytes_eq}
use Rattle.std.proofs.lemmas.Bool.Decides.{nat_tests}
use Rattle.lift_bytes.specs.Bytes.{is_blank, first_passes, behind}
use Rattle.lift_frac.specs.Written.{cut_at}
use Rattle.lift_grid.specs.Region.{behind_mark}
use Rattle.lift_cert.specs.declared.bound.Bound.{Bound}
use Rattle.property_text.specs.declared.op.Op.{Op}
use Rattle.property_text.specs.declared.op.Op.TheVariants.{AtMost, Below, AtLeast, Above}
use Rattle.property_text.specs.Grammar.{Written, op_text, IsRatio, is_label_byte, IsLabel, quoted, path_parts, Follow, Writes}
use Rattle.property_text.specs.Formula.{bound_of, HasNoBound}
use Rattle.property_text.specs.Reading.{op_at, label_in, label_at, Path, path_to, path_from, path_at, is_bound_byte, closed, from_bound, from_op, written_at}
use Rattle.property_text.proofs.Cuts.{behind_front, front_is, cut_first}
use Rattle.property_text.proofs.Literals.{each_passes, ratio_passes, ratio_starts}

-- a mark behind blanks
mark_front : (mark blanks text : List ℕ) → list_all is_blank blanks ≡ true → first_passes is_blank text ≡ false
    → behind_mark mark (blanks ++ text) ≡ cond (bytes_eq (take (length mark) text) mark) (Some (drop (length mark) text)) None
mark_front mark blanks text h e = ap (λ (rest : List ℕ). cond (bytes_eq (take (length mark) rest) mark) (Some (drop (length mark) rest)) None) (behind_front is_blank blanks text h e)

-- ---- the comparison

abbrev pub chosen : Option (List ℕ) → Option (List ℕ) → Option (List ℕ) → Option (List ℕ) → Option (Op × List ℕ)
chosen a b c d = option_or (option_map (λ rest. (AtMost, rest)) a) (option_or (option_map (λ rest. (Below, rest)) b) (option_or (option_map (λ rest. (AtLeast, rest)) c) (option_map (λ rest. (Above, rest)) d)))

no_equal : (first mark : ℕ) (rest : List ℕ) → first_passes (λ b. b == code "=") rest ≡ false → bytes_eq (take 2 (first ∷ rest)) (mark ∷ codes "=") ≡ false
no_equal first mark [] e = grind (arith, nat_tests)
no_equal first mark (x ∷ rest) e = grind (arith, nat_tests, e)

none_of : (b : Bool) (rest : List ℕ) → b ≡ false → cond b (Some rest) None ≡ None
none_of b rest e = rw e refl

op_there : (op : Op) (blanks rest : List ℕ) → list_all is_blank blanks ≡ true → first_passes (λ b. b == code "=") rest ≡ false → op_at (blanks ++ (op_text op ++ rest)) ≡ Some (op, rest)
op_there AtMost blanks rest h e =
    let t = blanks ++ (codes "<=" ++ rest) in
    ap (λ o. chosen o (behind_mark (codes "<") t) (behind_mark (codes ">=") t) (behind_mark (codes ">") t)) (mark_front (codes "<=") blanks (codes "<=" ++ rest) h refl)
op_there Below blanks rest h e =
    let t = blanks ++ (codes "<" ++ rest) in
    ap (λ o. chosen o (behind_mark (codes "<") t) (behind_mark (codes ">=") t) (behind_mark (codes ">") t)) (mark_front (codes "<=") blanks (codes "<" ++ rest) h refl ∙ none_of _ _ (no_equal (code "<") (code "<") rest e))
    ∙ ap (λ o. chosen None o (behind_mark (codes ">=") t) (behind_mark (codes ">") t)) (mark_front (codes "<") blanks (codes "<" ++ rest) h refl)
op_there AtLeast blanks rest h e =
    let t = blanks ++ (codes ">=" ++ rest) in
    ap (λ o. chosen o (behind_mark (codes "<") t) (behind_mark (codes ">=") t) (behind_mark (codes ">") t)) (mark_front (codes "<=") blanks (codes ">=" ++ rest) h refl)
    ∙ ap (λ o. chosen None o (behind_mark (codes ">=") t) (behind_mark (codes ">") t)) (mark_front (codes "<") blanks (codes ">=" ++ rest) h refl)
    ∙ ap (λ o. chosen None None o (behind_mark (codes ">") t)) (mark_front (codes ">=") blanks (codes ">=" ++ rest) h refl)
op_there Above blanks rest h e =
    let t = blanks ++ (codes ">" ++ rest) in
    ap (λ o. chosen o (behind_mark (codes "<") t) (behind_mark (codes ">=") t) (behind_mark (codes ">") t)) (mark_front (codes "<=") blanks (codes ">" ++ rest) h refl)
    ∙ ap (λ o. chosen None o (behind_mark (codes ">=") t) (behind_mark (codes ">") t)) (mark_front (codes "<") blanks (codes ">" ++ rest) h refl)
    ∙ ap (λ o. chosen None None o (behind_mark (codes ">") t)) (mark_front (codes ">=") blanks (codes ">" ++ rest) h refl ∙ none_of _ _ (no_equal (code ">") (code ">") rest e))
    ∙ ap (λ o. chosen None None None o) (mark_front (codes ">") blanks (codes ">" ++ rest) h refl)

-- ---- labels and paths

no_quote : (b : ℕ) → is_label_byte b ≡ true → not (b == code "\"") ≡ true
no_quote b e = grind (arith, nat_tests)

nonzero : (n : ℕ) → not (suc n == 0) ≡ true
nonzero n = grind (arith, nat_tests)

is_in : (label rest : List ℕ) → IsLabel label → label_in (label, rest) ≡ Some (label, rest)
is_in [] rest is = absurd (omega (arith, is.some))
is_in (x ∷ label) rest is = ap₂ (λ a b. cond {A = Option (List ℕ × List ℕ)} (a && b) (Some (x ∷ label, rest)) None) is.bytes (nonzero (length label))

label_there : (blanks label rest : List ℕ) → list_all is_blank blanks ≡ true → IsLabel label → label_at (blanks ++ (quoted label ++ rest)) ≡ Some (label, rest)
label_there blanks label rest h is =
    ap (λ o. option_and_then label_in (option_and_then (cut_at (code "\"")) o)) (mark_front (codes "\"") blanks (quoted label ++ rest) h refl)
    ∙ ap (λ r. option_and_then label_in (cut_at (code "\"") r)) (append_assoc label (codes "\"") rest)
    ∙ ap (option_and_then label_in) (cut_first (code "\"") label rest (each_passes is_label_byte (λ b. not (b == code "\"")) no_quote label is.bytes) refl)
    ∙ is_in label rest is

path_start : Option (List ℕ) → List ℕ → Option Path
path_start o text = elim o [ Some rest ↦ path_to None rest | None ↦ option_and_then path_from (label_at text) ]

path_there : (safe : Option (List ℕ)) (goal text : List ℕ) (parts : List (List ℕ)) → IfSome safe IsLabel → IsLabel goal → Follow (path_parts safe goal parts) text
    → (rest : List ℕ) × (path_at text ≡ Some (record { safe = safe; goal = goal; rest = rest })) × Follow parts rest
unfolding path_start
path_there None goal text parts is there f =
    let g = f.4 in (
      g.1,
      ap path_at f.3 ∙ ap (λ o. path_start o (f.0 ++ (codes "F" ++ f.1))) (mark_front (codes "F") f.0 (codes "F" ++ f.1) f.2 refl)
          ∙ ap (path_to None) g.3 ∙ ap (option_map (λ (label : List ℕ × List ℕ). record { safe = None; goal = label.0; rest = label.1 })) (label_there g.0 goal g.1 g.2 there),
      g.4,
    )
path_there (Some safe) goal text parts is there f =
    let g = f.4 in
    let k = g.4 in (
      k.1,
      ap path_at f.3 ∙ ap (λ o. path_start o (f.0 ++ (quoted safe ++ f.1))) (mark_front (codes "F") f.0 (quoted safe ++ f.1) f.2 refl)
          ∙ ap (option_and_then path_from) (label_there f.0 safe f.1 f.2 is)
          ∙ ap (λ t. option_and_then (path_to (Some safe)) (behind_mark (codes "U") t)) g.3
          ∙ ap (option_and_then (path_to (Some safe))) (mark_front (codes "U") g.0 (codes "U" ++ g.1) g.2 refl)
          ∙ ap (path_to (Some safe)) k.3 ∙ ap (option_map (λ (label : List ℕ × List ℕ). record { safe = Some safe; goal = label.0; rest = label.1 })) (label_there k.0 goal k.1 k.2 there),
      k.4,
    )

-- ---- the whole

closed_there : (op : Op) (bound : List ℕ) (path : Path) → Follow (codes "]" ∷ []) path.rest → closed op bound path ≡ Some (record { op = op; bound = bound; safe = path.safe; goal = path.goal })
closed_there op bound path f =
    ap (λ rest. closed op bound (record { safe = path.safe; goal = path.goal; rest = rest })) (f.3 ∙ ap (λ r. f.0 ++ (codes "]" ++ r)) f.4)
    ∙ ap (λ o. end_at o) (mark_front (codes "]") f.0 (codes "]") f.2 refl)
  where
    end_at : Option (List ℕ) → Option Written
    end_at o = elim o [ Some rest ↦ cond (length rest == 0) (Some (record { op = op; bound = bound; safe = path.safe; goal = path.goal })) None | None ↦ None ]

digit_is_no_blank : (text rest : List ℕ) → first_passes is_ascii_digit text ≡ true → first_passes is_blank (text ++ rest) ≡ false
digit_is_no_blank [] rest h = cc
digit_is_no_blank (x ∷ text) rest h = grind (arith, nat_tests, h)

digit_is_no_equal : (text rest : List ℕ) → first_passes is_ascii_digit text ≡ true → first_passes (λ b. b == code "=") (text ++ rest) ≡ false
digit_is_no_equal [] rest h = cc
digit_is_no_equal (x ∷ text) rest h = grind (arith, nat_tests, h)

first_blank : (p : ℕ → Bool) (blanks rest : List ℕ) → ((b : ℕ) → is_blank b ≡ true → p b ≡ false) → list_all is_blank blanks ≡ true → first_passes p rest ≡ false → first_passes p (blanks ++ rest) ≡ false
first_blank p [] rest f h e = e
first_blank p (x ∷ blanks) rest f h e = f x (first_of (is_blank x) (list_all is_blank blanks) h)
  where
    first_of : (a b : Bool) → (a && b) ≡ true → a ≡ true
    first_of true b h = refl
    first_of false b h = cc

from_bound_there : (w : Written) (text : List ℕ) → IsRatio w.bound → IfSome w.safe IsLabel → IsLabel w.goal → Follow (w.bound ∷ codes "[" ∷ path_parts w.safe w.goal (codes "]" ∷ [])) text → from_bound w.op (behind is_blank text) ≡ Some w
from_bound_there w text ratio safe goal f =
    let g = f.4 in
    let start : behind is_blank text ≡ w.bound ++ f.1 = ap (behind is_blank) f.3 ∙ behind_front is_blank f.0 (w.bound ++ f.1) f.2 (digit_is_no_blank w.bound f.1 (ratio_starts w.bound ratio)) in
    let ends : first_passes is_bound_byte f.1 ≡ false = ap (first_passes is_bound_byte) g.3 ∙ first_blank is_bound_byte g.0 (codes "[" ++ g.1) (λ b e. grind (arith, nat_tests)) g.2 refl in
    let bound : take_while is_bound_byte (behind is_blank text) ≡ w.bound = ap (take_while is_bound_byte) start ∙ front_is is_bound_byte w.bound f.1 (ratio_passes w.bound ratio) ends in
    let rest : behind is_bound_byte (behind is_blank text) ≡ f.1 = ap (behind is_bound_byte) start ∙ behind_front is_bound_byte w.bound f.1 (ratio_passes w.bound ratio) ends in
    let path = path_there w.safe w.goal g.1 (codes "]" ∷ []) safe goal g.4 in
    ap₂ (λ b r. option_and_then (closed w.op b) (option_and_then path_at (behind_mark (codes "[") r))) bound (rest ∙ g.3)
    ∙ ap (λ o. option_and_then (closed w.op w.bound) (option_and_then path_at o)) (mark_front (codes "[") g.0 (codes "[" ++ g.1) g.2 refl)
    ∙ ap (option_and_then (closed w.op w.bound)) path.1
    ∙ closed_there w.op w.bound (record { safe = w.safe; goal = w.goal; rest = path.0 }) path.2

pub complete : (text : List ℕ) (w : Written) → Writes text w → written_at text ≡ Some w
complete text w h =
    let f = h.parts.2 in
    let g = f.4 in
    let next : first_passes (λ b. b == code "=") f.1 ≡ false = ap (first_passes (λ b. b == code "=")) g.3 ∙ first_blank (λ b. b == code "=") g.0 (w.bound ++ g.1) (λ b e. grind (arith, nat_tests)) g.2 (digit_is_no_equal w.bound g.1 (ratio_starts w.bound h.bound)) in
    ap written_at h.parts.1
    ∙ ap (λ t. option_and_then from_op (op_at t)) f.3
    ∙ ap (option_and_then from_op) (op_there w.op f.0 f.1 f.2 next)
    ∙ from_bound_there w f.1 h.bound h.safe h.goal g

-- a text writes one formula at most
pub writes_one : (text : List ℕ) (a b : Written) → Writes text a → Writes text b → a ≡ b
writes_one text a b u v = ap (λ o. elim o [ Some w ↦ w | None ↦ a ]) (sym (complete text a u) ∙ complete text b v)

-- where a bound is given, none is missing
pub is_bounded : (text : List ℕ) (w : Written) (bound : Bound) → Writes text w → bound_of w.bound ≡ Some bound → HasNoBound text → ⊥
is_bounded text w bound writes some h =
    let same = ap (λ (o : Written). bound_of o.bound) (writes_one text h.written w h.writes writes) in
    apart (sym h.none ∙ same ∙ some)
  where
    apart : None ≡ Some bound → ⊥
    apart e = cc
