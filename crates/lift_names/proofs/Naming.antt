-- Names as the texts of vectors: where one stands, and what a new one leaves.
use Rattle.std.proofs.Common.{◌≡◌, ◌≢◌, ◌+◌, ◌<◌, ℕ, List, [], ◌∷◌, ◌++◌, map, Bool, false, refl, sym, ap, ◌∙◌, length, position, Contains, arith, Vec, length-append}
use Rattle.std.specs.List.{list_any, position_or_len}
use Rattle.std.specs.Str.{bytes_eq}
use Rattle.std.specs.Bool.{Decides}
use Rattle.std.specs.declared.alloc.Global.{Global}
use Rattle.std.proofs.lemmas.List.{length-map, map-append, get_or_default}
use Rattle.std.proofs.lemmas.Cmp.{nat_list_eq_equiv}
use Rattle.std.proofs.lemmas.List.Quantifiers.{all_pairs_push}
use Rattle.std.proofs.lemmas.Map.Views.{Contains-from_any, list_any-from_Contains}
use Rattle.std.proofs.lemmas.Slice.Eq.{bytes_eq-Decides}
use Rattle.indexmap.specs.IndexSet.{insert_key}
use Rattle.lift_names.specs.Names.{names_limit, AreNames, texts}

position_or_len-map : {X Y : Type 0} (p : Y → Bool) (f : X → Y) (xs : List X) → position_or_len p (map f xs) ≡ position_or_len (λ x. p (f x)) xs
position_or_len-map p f [] = refl
position_or_len-map p f (x ∷ xs) = simp (position_or_len-map p f xs)

list_any-map : {X Y : Type 0} (p : Y → Bool) (f : X → Y) (xs : List X) → list_any p (map f xs) ≡ list_any (λ x. p (f x)) xs
list_any-map p f [] = refl
list_any-map p f (x ∷ xs) = simp (list_any-map p f xs)

-- a name's place among the texts
pub place_of : (name : List ℕ) (keys : List (Vec ℕ Global)) (view : List (List ℕ)) → texts keys ≡ view
    → position (λ k. bytes_eq name k.items) keys ≡ position (bytes_eq name) view
place_of name keys view e =
    let same : position (bytes_eq name) (texts keys) ≡ position (λ k. bytes_eq name k.items) keys
    = rw (position_or_len-map (bytes_eq name) (λ (v : Vec ℕ Global). v.items) keys, length-map keys (λ (v : Vec ℕ Global). v.items)) refl in
    sym same ∙ ap (position (bytes_eq name)) e

-- whether a vector holds the name
pub there : (name : List ℕ) (keys : List (Vec ℕ Global)) (view : List (List ℕ)) → texts keys ≡ view
    → Decides (list_any (λ k. bytes_eq name k.items) keys) (Contains view name)
there name keys view e =
    let same : list_any (bytes_eq name) view ≡ list_any (λ k. bytes_eq name k.items) keys = ap (list_any (bytes_eq name)) (sym e) ∙ list_any-map (bytes_eq name) (λ (v : Vec ℕ Global). v.items) keys in (
      λ h. Contains-from_any (λ x y. (bytes_eq-Decides x y).0) name view (same ∙ h),
      λ h. sym same ∙ list_any-from_Contains nat_list_eq_equiv name view h,
    )

-- a new name goes last
pub goes_last : (name : Vec ℕ Global) (text : List ℕ) (keys : List (Vec ℕ Global)) (view : List (List ℕ)) → texts keys ≡ view → name.items ≡ text
    → list_any (λ k. bytes_eq text k.items) keys ≡ false → texts (insert_key (λ x y. bytes_eq x.items y.items) keys name) ≡ view ++ text ∷ []
goes_last name text keys view e is absent =
    let none : list_any (λ k. bytes_eq name.items k.items) keys ≡ false = rw is absent in
    rw (none, map-append (λ (v : Vec ℕ Global). v.items) keys (name ∷ []), e, is) refl

-- the names and one that isn't among them
pub one_more_name : (view : List (List ℕ)) (text : List ℕ) → AreNames view → length view + 1 < names_limit → (Contains view text → ⊥) → AreNames (view ++ text ∷ [])
one_more_name view text names few absent = record {
  distinct = all_pairs_push (λ a b. a ≢ b) view text names.distinct (λ k d h e. absent (k, h, get_or_default view k text d h ∙ e));
  places = omega (arith, length-append view (text ∷ []));
}
