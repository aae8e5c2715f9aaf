-- A head, part by part: what is left to be read behind each part.
use Rattle.std.proofs.Common.{◌≡◌, ◌∙◌, ◌+◌, ℕ, Bool, List, length, Option, None, Some, true, false, Result, Ok, Err, codes, ap, sym, refl}
use Rattle.std.specs.Prelude.{pos}
use Rattle.lift_model.specs.declared.kind.Kind.{Kind}
use Rattle.lift_model.specs.declared.entry.Entry.{Entry}
use Rattle.lift_model.specs.Valid.{most_states, most_choices, most_transitions, common_limit}
use Rattle.lift_frac.specs.Limits.{size_limit}
use Rattle.corner_lift.specs.Case.{case_of, most_halvings, most_precision}
use Rattle.lift_cert.specs.declared.bound.Bound.{Bound}
use Rattle.line_text.specs.declared.error.TextError.{TextError}
use Rattle.line_text.specs.Reading.{◌>>=◌, Cursor, Reader, line_at}
use Rattle.line_text.specs.Parts.{number_in}
use Rattle.cert_text.specs.declared.head_parts.Sizes.{Sizes}
use Rattle.cert_text.specs.declared.head_parts.Asked.{Asked}
use Rattle.cert_text.specs.Lines.{version_of, kind_of, parameters_of, goal_of, bound_of, box_of}
use Rattle.cert_text.specs.Head.{HeadData, head_at, states_at, from_at}
use Rattle.cert_text.specs.HeadParts.{sizes_at, asked_at}

-- ---- steps in turn

-- the first step is the same, and so is what follows it
same_then : {A B : Type 0} (r : Result (A × Cursor) TextError) (f g : A × Cursor → Result (B × Cursor) TextError) → ((x : A × Cursor) → f x ≡ g x) → (r >>= f) ≡ (r >>= g)
same_then (Ok x) f g same = same x
same_then (Err e) f g same = refl

-- what follows two steps follows the second
then_on : {A B C : Type 0} (r : Result (A × Cursor) TextError) (f : A × Cursor → Result (B × Cursor) TextError) (g : B × Cursor → Result (C × Cursor) TextError) → ((r >>= f) >>= g) ≡ (r >>= λ x. f x >>= g)
then_on (Ok x) f g = refl
then_on (Err e) f g = refl

-- where what follows the second step is known, so is what follows both
on_through : {A B C : Type 0} (r : Result (A × Cursor) TextError) (f : A × Cursor → Result (B × Cursor) TextError) (g : B × Cursor → Result (C × Cursor) TextError) (h : A × Cursor → Result (C × Cursor) TextError)
    → ((x : A × Cursor) → (f x >>= g) ≡ h x) → ((r >>= f) >>= g) ≡ (r >>= h)
on_through r f g h same = then_on r f g ∙ same_then r (λ x. f x >>= g) h same

-- ---- the numbers of a model

abbrev pub behind_states : ℕ → ℕ → Reader Sizes
behind_states common states c = line_at (number_in (codes "init") 0 states) c >>= λ init. Ok (record { common = common; states = states; init = init.0 }, init.1)

abbrev pub behind_common : ℕ → Reader Sizes
behind_common common c = line_at (number_in (codes "states") 1 (most_states + 1)) c >>= λ states. behind_states common states.0 states.1

pub sizes_are : (c : Cursor) → sizes_at c ≡ (line_at (number_in (codes "common") 1 common_limit) c >>= λ common. behind_common common.0 common.1)
unfolding sizes_at
sizes_are c = refl

-- ---- what is asked of it

abbrev pub behind_grid : ℕ → Bound → ℕ → Option ℕ → ℕ → ℕ → Reader Asked
behind_grid parameters bound w from depth grid c =
    line_at (box_of parameters depth) c >>= λ root. Ok (record { bound = bound; precisions = record { from = from; w = w }; depth = depth; d = grid; root = root.0 }, root.1)

abbrev pub behind_depth : ℕ → Bound → ℕ → Option ℕ → ℕ → Reader Asked
behind_depth parameters bound w from depth c = line_at (number_in (codes "grid") 1 size_limit) c >>= λ grid. behind_grid parameters bound w from depth grid.0 grid.1

abbrev pub behind_from : ℕ → Bound → ℕ → Option ℕ → Reader Asked
behind_from parameters bound w from c = line_at (number_in (codes "depth") 0 (most_halvings + 1)) c >>= λ depth. behind_depth parameters bound w from depth.0 depth.1

abbrev pub behind_w : Bool → ℕ → Bound → ℕ → Reader Asked
behind_w second parameters bound w c = from_at second w c >>= λ from. behind_from parameters bound w from.0 from.1

abbrev pub behind_bound : Bool → ℕ → Bound → Reader Asked
behind_bound second parameters bound c = line_at (number_in (codes "precision") 1 (most_precision + 1)) c >>= λ w. behind_w second parameters bound w.0 w.1

pub asked_is : (second : Bool) (parameters : ℕ) (c : Cursor) → asked_at second parameters c ≡ (line_at bound_of c >>= λ bound. behind_bound second parameters bound.0 bound.1)
unfolding asked_at
asked_is second parameters c = refl

-- ---- the head

abbrev pub behind_asked : Kind → List (List ℕ) → Sizes → List Bool → List (List (List Entry)) → Asked → Reader HeadData
behind_asked kind names sizes goal rows asked c = Ok (
  record {
    asked = case_of
        (record { kind = kind; common = pos sizes.common; names = names; goal = goal; init = sizes.init; states = rows })
        (record { d = pos asked.d; depth = asked.depth; spans = asked.root })
        asked.precisions.w;
    from = asked.precisions.from;
    bound = asked.bound;
  },
  c,
)

abbrev pub behind_rows : Bool → Kind → List (List ℕ) → ℕ → Sizes → List Bool → List (List (List Entry)) → Reader HeadData
behind_rows second kind names parameters sizes goal rows c = asked_at second parameters c >>= λ asked. behind_asked kind names sizes goal rows asked.0 asked.1

abbrev pub behind_goal : Bool → Kind → List (List ℕ) → ℕ → Sizes → List Bool → Reader HeadData
behind_goal second kind names parameters sizes goal c =
    states_at kind sizes.states parameters sizes.states most_choices most_transitions 0 c >>= λ rows. behind_rows second kind names parameters sizes goal rows.0 rows.1

abbrev pub behind_sizes : Bool → Kind → List (List ℕ) → ℕ → Sizes → Reader HeadData
behind_sizes second kind names parameters sizes c = line_at (goal_of sizes.states) c >>= λ goal. behind_goal second kind names parameters sizes goal.0 goal.1

abbrev pub behind_names : Bool → Kind → List (List ℕ) → ℕ → Reader HeadData
behind_names second kind names parameters c = sizes_at c >>= λ sizes. behind_sizes second kind names parameters sizes.0 sizes.1

abbrev pub behind_kind : Bool → Kind → Reader HeadData
behind_kind second kind c = line_at parameters_of c >>= λ names. behind_names second kind names.0 (length names.0) names.1

abbrev pub behind_version : Bool → Reader HeadData
behind_version second c = line_at kind_of c >>= λ kind. behind_kind second kind.0 kind.1

-- what is asked, and what follows it, line by line
asked_then : {A : Type 0} (second : Bool) (parameters : ℕ) (next : Asked → Reader A) (c : Cursor) → (asked_at second parameters c >>= λ asked. next asked.0 asked.1)
    ≡ (line_at bound_of c >>= λ bound. line_at (number_in (codes "precision") 1 (most_precision + 1)) bound.1 >>= λ w. from_at second w.0 w.1 >>= λ from.
    line_at (number_in (codes "depth") 0 (most_halvings + 1)) from.1 >>= λ depth. line_at (number_in (codes "grid") 1 size_limit) depth.1 >>= λ grid. line_at (box_of parameters depth.0) grid.1 >>= λ root.
    next (record { bound = bound.0; precisions = record { from = from.0; w = w.0 }; depth = depth.0; d = grid.0; root = root.0 }) root.1)
asked_then {A} second parameters next c =
    let g = λ (asked : Asked × Cursor). next asked.0 asked.1 in
    ap (λ (r : Result (Asked × Cursor) TextError). r >>= g) (asked_is second parameters c)
    ∙ on_through (line_at bound_of c) (λ bound. behind_bound second parameters bound.0 bound.1) g _ (λ bound.
    on_through (line_at (number_in (codes "precision") 1 (most_precision + 1)) bound.1) (λ w. behind_w second parameters bound.0 w.0 w.1) g _ (λ w.
    on_through (from_at second w.0 w.1) (λ from. behind_from parameters bound.0 w.0 from.0 from.1) g _ (λ from.
    on_through (line_at (number_in (codes "depth") 0 (most_halvings + 1)) from.1) (λ depth. behind_depth parameters bound.0 w.0 from.0 depth.0 depth.1) g _ (λ depth.
    on_through (line_at (number_in (codes "grid") 1 size_limit) depth.1) (λ grid. behind_grid parameters bound.0 w.0 from.0 depth.0 grid.0 grid.1) g _ (λ grid.
    then_on (line_at (box_of parameters depth.0) grid.1) (λ root. Ok (record { bound = bound.0; precisions = record { from = from.0; w = w.0 }; depth = depth.0; d = grid.0; root = root.0 }, root.1)) g)))))

-- the numbers of a model, and what follows them, line by line
sizes_then : {A : Type 0} (next : Sizes → Reader A) (c : Cursor) → (sizes_at c >>= λ sizes. next sizes.0 sizes.1)
    ≡ (line_at (number_in (codes "common") 1 common_limit) c >>= λ common. line_at (number_in (codes "states") 1 (most_states + 1)) common.1 >>= λ states.
    line_at (number_in (codes "init") 0 states.0) states.1 >>= λ init. next (record { common = common.0; states = states.0; init = init.0 }) init.1)
sizes_then {A} next c =
    let g = λ (sizes : Sizes × Cursor). next sizes.0 sizes.1 in
    ap (λ (r : Result (Sizes × Cursor) TextError). r >>= g) (sizes_are c)
    ∙ on_through (line_at (number_in (codes "common") 1 common_limit) c) (λ common. behind_common common.0 common.1) g _ (λ common.
    on_through (line_at (number_in (codes "states") 1 (most_states + 1)) common.1) (λ states. behind_states common.0 states.0 states.1) g _ (λ states.
    then_on (line_at (number_in (codes "init") 0 states.0) states.1) (λ init. Ok (record { common = common.0; states = states.0; init = init.0 }, init.1)) g))

pub head_is_read : (c : Cursor) → head_at c ≡ (line_at version_of c >>= λ version. behind_version version.0 version.1)
unfolding head_at
head_is_read c =
    same_then (line_at version_of c) _ _ (λ version. same_then (line_at kind_of version.1) _ _ (λ kind. same_then (line_at parameters_of kind.1) _ _ (λ names.
    sym (sizes_then (behind_sizes version.0 kind.0 names.0 (length names.0)) names.1
    ∙ same_then (line_at (number_in (codes "common") 1 common_limit) names.1) _ _ (λ common. same_then (line_at (number_in (codes "states") 1 (most_states + 1)) common.1) _ _ (λ states.
    same_then (line_at (number_in (codes "init") 0 states.0) states.1) _ _ (λ init. same_then (line_at (goal_of states.0) init.1) _ _ (λ goal.
    same_then (states_at kind.0 states.0 (length names.0) states.0 most_choices most_transitions 0 goal.1) _ _ (λ rows.
    asked_then version.0 (length names.0) (behind_asked kind.0 names.0 (record { common = common.0; states = states.0; init = init.0 }) goal.0 rows.0) rows.1)))))))))

-- ---- the line of the least precision

pub from_none : (w : ℕ) (c : Cursor) → from_at false w c ≡ Ok (None, c)
unfolding from_at
from_none w c = refl

pub from_reported : (w : ℕ) (c : Cursor) → from_at true w c ≡ (line_at (number_in (codes "from") 1 (w + 1)) c >>= λ v. Ok (Some v.0, v.1))
unfolding from_at
from_reported w c = refl
