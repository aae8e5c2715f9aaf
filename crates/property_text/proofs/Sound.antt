-- What is read is what the grammar writes.
use Prim.Native.Char.{code}
use Rattle.std.proofs.Common.{◌≡◌, ◌==◌, ◌&&◌, ◌<◌, ℕ, suc, Bool, true, false, not, cond, List, [], ◌∷◌, ◌++◌, length, take, drop, Option, Some, None, refl, sym, ap, ap₂, ◌∙◌, subst, arith, append_assoc}
use Rattle.std.specs.Prelude.{codes, option_and_then, IfSome}
use Rattle.std.specs.List.{list_all, take_while}
use Rattle.std.specs.Option.{option_map, unwrap_or}
use Rattle.std.specs.Str.{bytes_eq}
use Rattle.std.proofs.lemmas.Bool.Decides.{nat_tests}
use Rattle.std.proofs.lemmas.List.{take-append-drop}
use Rattle.std.proofs.lemmas.Slice.Eq.{bytes_eq-Decides}
use Rattle.lift_bytes.specs.Bytes.{is_blank, behind}
use Rattle.lift_frac.specs.Written.{cut_at}
use Rattle.lift_grid.specs.Region.{behind_mark}
use Rattle.property_text.specs.declared.op.Op.{Op}
use Rattle.property_text.specs.declared.op.Op.TheVariants.{AtMost, Below, AtLeast, Above}
use Rattle.property_text.specs.Grammar.{Written, op_text, IsRatio, is_label_byte, IsLabel, quoted, path_parts, parts_of, Follow, Writes}
use Rattle.property_text.specs.Reading.{op_at, label_in, label_at, Path, path_to, path_from, path_at, is_bound_byte, closed, from_op, written_at}
use Rattle.property_text.proofs.Cuts.{front_passes, parted, cut_back}
use Rattle.property_text.proofs.Complete.{chosen}

-- ---- options

bind_back : {A B : Type 0} (f : A → Option B) (o : Option A) (y : B) → option_and_then f o ≡ Some y → (x : A) × (o ≡ Some x) × (f x ≡ Some y)
bind_back f (Some x) y h = (x, refl, h)
bind_back f None y h = cc

some_same : {A : Type 0} (x y : A) → Some x ≡ Some y → x ≡ y
some_same x y h = ap (λ o. unwrap_or o x) h

map_back : {A B : Type 0} (f : A → B) (o : Option A) (y : B) → option_map f o ≡ Some y → (x : A) × (o ≡ Some x) × (f x ≡ y)
map_back f (Some x) y h = (x, refl, some_same (f x) y h)
map_back f None y h = cc

if_back : {A : Type 0} (b : Bool) (x y : A) → cond b (Some x) None ≡ Some y → (b ≡ true) × (x ≡ y)
if_back true x y h = (refl, some_same x y h)
if_back false x y h = cc

-- ---- parts

-- a part behind blanks
record Behind (part text rest : List ℕ) : Type 0 where
  blanks : List ℕ
  blank : list_all is_blank blanks ≡ true
  is : text ≡ blanks ++ (part ++ rest)

mark_back : (mark text rest : List ℕ) → behind_mark mark text ≡ Some rest → Behind mark text rest
mark_back mark text rest h =
    let r = behind is_blank text in
    let is = if_back (bytes_eq (take (length mark) r) mark) (drop (length mark) r) rest h in
    let same : take (length mark) r ≡ mark = (bytes_eq-Decides (take (length mark) r) mark).0 is.0 in
    record {
      blanks = take_while is_blank text;
      blank = front_passes is_blank text;
      is = parted is_blank text ∙ ap (λ t. take_while is_blank text ++ t) (sym (take-append-drop (length mark) r) ∙ ap₂ ◌++◌ same is.1);
    }

chosen_back : (P : Op → List ℕ → Type 0) (a b c d : Option (List ℕ)) (op : Op) (rest : List ℕ)
    → ((r : List ℕ) → a ≡ Some r → P AtMost r) → ((r : List ℕ) → b ≡ Some r → P Below r) → ((r : List ℕ) → c ≡ Some r → P AtLeast r) → ((r : List ℕ) → d ≡ Some r → P Above r)
    → chosen a b c d ≡ Some (op, rest) → P op rest
chosen_back P (Some r) b c d op rest f g h k e = subst (λ (p : Op × List ℕ). P p.0 p.1) (some_same (AtMost, r) (op, rest) e) (f r refl)
chosen_back P None (Some r) c d op rest f g h k e = subst (λ (p : Op × List ℕ). P p.0 p.1) (some_same (Below, r) (op, rest) e) (g r refl)
chosen_back P None None (Some r) d op rest f g h k e = subst (λ (p : Op × List ℕ). P p.0 p.1) (some_same (AtLeast, r) (op, rest) e) (h r refl)
chosen_back P None None None (Some r) op rest f g h k e = subst (λ (p : Op × List ℕ). P p.0 p.1) (some_same (Above, r) (op, rest) e) (k r refl)
chosen_back P None None None None op rest f g h k e = cc

op_back : (text : List ℕ) (op : Op) (rest : List ℕ) → op_at text ≡ Some (op, rest) → Behind (op_text op) text rest
op_back text op rest e =
    chosen_back (λ o r. Behind (op_text o) text r) (behind_mark (codes "<=") text) (behind_mark (codes "<") text) (behind_mark (codes ">=") text) (behind_mark (codes ">") text) op rest
    (λ r h. mark_back (codes "<=") text r h) (λ r h. mark_back (codes "<") text r h) (λ r h. mark_back (codes ">=") text r h) (λ r h. mark_back (codes ">") text r h) e

some_bytes : (label : List ℕ) (b : Bool) → (b && not (length label == 0)) ≡ true → (b ≡ true) × (0 < length label)
some_bytes [] true h = cc
some_bytes [] false h = cc
some_bytes (x ∷ label) true h = (refl, omega arith)
some_bytes (x ∷ label) false h = cc

record LabelBehind (label text rest : List ℕ) : Type 0 where
  is : IsLabel label
  behind : Behind (quoted label) text rest

label_back : (text : List ℕ) (found : List ℕ × List ℕ) → label_at text ≡ Some found → LabelBehind found.0 text found.1
label_back text found e =
    let outer = bind_back label_in (option_and_then (cut_at (code "\"")) (behind_mark (codes "\"") text)) found e in
    let inner = bind_back (cut_at (code "\"")) (behind_mark (codes "\"") text) outer.0 outer.1 in
    let is = if_back (list_all is_label_byte outer.0.0 && not (length outer.0.0 == 0)) outer.0 found outer.2 in
    let has = some_bytes outer.0.0 (list_all is_label_byte outer.0.0) is.0 in
    let mark = mark_back (codes "\"") text inner.0 inner.1 in
    let cut = cut_back (code "\"") inner.0 outer.0.0 outer.0.1 inner.2 in
    subst (λ (p : List ℕ × List ℕ). LabelBehind p.0 text p.1) is.1 (record {
      is = record { some = has.1; bytes = has.0 };
      behind = record {
        blanks = mark.blanks;
        blank = mark.blank;
        is = mark.is ∙ ap (λ r. mark.blanks ++ (codes "\"" ++ r)) (cut ∙ sym (append_assoc outer.0.0 (codes "\"") outer.0.1));
      };
    })

-- ---- the path

record IsPath (text : List ℕ) (path : Path) : Type 0 where
  safe : IfSome path.safe IsLabel
  goal : IsLabel path.goal
  follow : (parts : List (List ℕ)) → Follow parts path.rest → Follow (path_parts path.safe path.goal parts) text

to_back : (safe : Option (List ℕ)) (text : List ℕ) (path : Path) → path_to safe text ≡ Some path → (LabelBehind path.goal text path.rest) × (safe ≡ path.safe)
to_back safe text path e =
    let found = map_back (λ (label : List ℕ × List ℕ). let p : Path = record { safe = safe; goal = label.0; rest = label.1 } in p) (label_at text) path e in
    subst (λ (p : Path). (LabelBehind p.goal text p.rest) × (safe ≡ p.safe)) found.2 (label_back text found.0 found.1, refl)

path_cases : (text : List ℕ) (path : Path) (o : Option (List ℕ)) → behind_mark (codes "F") text ≡ o → elim o [ Some rest ↦ path_to None rest | None ↦ option_and_then path_from (label_at text) ] ≡ Some path → IsPath text path
path_cases text path (Some rest) at e =
    let mark = mark_back (codes "F") text rest at in
    let found = to_back None rest path e in
    let label = found.0 in
    record {
      safe = subst (λ (s : Option (List ℕ)). IfSome s IsLabel) found.1 tt;
      goal = label.is;
      follow = λ parts f. subst (λ (s : Option (List ℕ)). Follow (path_parts s path.goal parts) text) found.1 (mark.blanks, rest, mark.blank, mark.is, (label.behind.blanks, path.rest, label.behind.blank, label.behind.is, f));
    }
path_cases text path None at e =
    let first = bind_back path_from (label_at text) path e in
    let safe = label_back text first.0 first.1 in
    let second = bind_back (path_to (Some first.0.0)) (behind_mark (codes "U") first.0.1) path first.2 in
    let mark = mark_back (codes "U") first.0.1 second.0 second.1 in
    let found = to_back (Some first.0.0) second.0 path second.2 in
    let label = found.0 in
    record {
      safe = subst (λ (s : Option (List ℕ)). IfSome s IsLabel) found.1 safe.is;
      goal = label.is;
      follow = λ parts f. subst (λ (s : Option (List ℕ)). Follow (path_parts s path.goal parts) text) found.1 (safe.behind.blanks, first.0.1, safe.behind.blank, safe.behind.is, (mark.blanks, second.0, mark.blank, mark.is, (label.behind.blanks, path.rest, label.behind.blank, label.behind.is, f)));
    }

path_back : (text : List ℕ) (path : Path) → path_at text ≡ Some path → IsPath text path
path_back text path e = path_cases text path (behind_mark (codes "F") text) refl e

-- ---- the whole

no_zero : (n : ℕ) → (suc n == 0) ≡ true → ⊥
no_zero n h = grind (arith, nat_tests)

nothing : (rest : List ℕ) → (length rest == 0) ≡ true → rest ≡ []
nothing [] h = refl
nothing (x ∷ rest) h = absurd (no_zero (length rest) h)

record IsClosed (op : Op) (bound : List ℕ) (path : Path) (w : Written) : Type 0 where
  end : Follow (codes "]" ∷ []) path.rest
  is : record { op = op; bound = bound; safe = path.safe; goal = path.goal } ≡ w

closed_cases : (op : Op) (bound : List ℕ) (path : Path) (w : Written) (o : Option (List ℕ)) → behind_mark (codes "]") path.rest ≡ o
    → elim o [ Some rest ↦ cond (length rest == 0) (Some (let v : Written = record { op = op; bound = bound; safe = path.safe; goal = path.goal } in v)) None | None ↦ None ] ≡ Some w → IsClosed op bound path w
closed_cases op bound path w (Some rest) at e =
    let mark = mark_back (codes "]") path.rest rest at in
    let is = if_back (length rest == 0) (let v : Written = record { op = op; bound = bound; safe = path.safe; goal = path.goal } in v) w e in
    record { end = (mark.blanks, rest, mark.blank, mark.is, nothing rest is.0); is = is.1 }
closed_cases op bound path w None at e = cc

letter : (text : List ℕ) → bytes_eq (take 1 text) (codes "P") ≡ true → text ≡ codes "P" ++ drop 1 text
letter text e = sym (take-append-drop 1 text) ∙ ap (λ t. t ++ drop 1 text) ((bytes_eq-Decides (take 1 text) (codes "P")).0 e)

pub sound : (text : List ℕ) (w : Written) → written_at text ≡ Some w → IsRatio w.bound → Writes text w
sound text w e ratio =
    let a = bind_back from_op (option_and_then op_at (cond (bytes_eq (take 1 text) (codes "P")) (Some (drop 1 text)) None)) w e in
    let b = bind_back op_at (cond (bytes_eq (take 1 text) (codes "P")) (Some (drop 1 text)) None) a.0 a.1 in
    let start = if_back (bytes_eq (take 1 text) (codes "P")) (drop 1 text) b.0 b.1 in
    let op = op_back b.0 a.0.0 a.0.1 b.2 in
    let t = behind is_blank a.0.1 in
    let rest = behind is_bound_byte t in
    let c = bind_back (closed a.0.0 (take_while is_bound_byte t)) (option_and_then path_at (behind_mark (codes "[") rest)) w a.2 in
    let d = bind_back path_at (behind_mark (codes "[") rest) c.0 c.1 in
    let bracket = mark_back (codes "[") rest d.0 d.1 in
    let path = path_back d.0 c.0 d.2 in
    let end = closed_cases a.0.0 (take_while is_bound_byte t) c.0 w (behind_mark (codes "]") c.0.rest) refl c.2 in
    let same : a.0.1 ≡ take_while is_blank a.0.1 ++ (take_while is_bound_byte t ++ rest) = parted is_blank a.0.1 ∙ ap (λ r. take_while is_blank a.0.1 ++ r) (parted is_bound_byte t) in
    let v : Written = record { op = a.0.0; bound = take_while is_bound_byte t; safe = c.0.safe; goal = c.0.goal } in
    let follow : Follow (parts_of v) b.0 = (op.blanks, a.0.1, op.blank, op.is, (take_while is_blank a.0.1, rest, front_passes is_blank a.0.1, same, (bracket.blanks, d.0, bracket.blank, bracket.is, path.follow (codes "]" ∷ []) end.end))) in
    record {
      bound = ratio;
      safe = subst (λ (o : Written). IfSome o.safe IsLabel) end.is path.safe;
      goal = subst (λ (o : Written). IsLabel o.goal) end.is path.goal;
      parts = (b.0, letter text start.0 ∙ ap (λ r. codes "P" ++ r) start.1, subst (λ (o : Written). Follow (parts_of o) b.0) end.is follow);
    }
