-- The slice that is asked for, step by step.
use Rattle.std.proofs.Common.{◌≡◌, ℕ, ◌+◌, ◌<◌, ◌≤◌, List, [], ◌∷◌, ◌++◌, length, map, drop, get_or, Ok, Err, Result, refl, sym, ap, ◌∙◌, subst, IsErrAnd}
use Rattle.std.proofs.lemmas.List.{at_drop_more, at_drop_all}
use Rattle.std.specs.Borrow.{Bor}
use Rattle.lift_model.specs.Model.{live}
use Rattle.cert_text.specs.Head.{HeadData}
use Rattle.view_map.specs.Slice.{CutData, SliceData}
use Rattle.view_map.specs.Choice.{axes_of, slice_of}
use Rattle.view_words.specs.Words.{WishData}
use Rattle.view_words.specs.declared.job.Cause.{Cause}
use Rattle.view_words.specs.declared.job.Usage.{Usage}
use Rattle.view_words.specs.declared.job.Usage.TheVariants.{At}
use Rattle.view_top.specs.Choice.{Axes, axes_for, cut_for, cuts_for, slice_by, slice_for, slice_on}
use Rattle.view_top.specs.Given.{Gives}
use Rattle.view_top.specs.declared.refusal.Refusal.{Refusal}
use Rattle.view_top.specs.declared.refusal.Refusal.TheVariants as refusal

-- ---- the values

module _ (h : HeadData) (axes : Axes) (given : List CutData) (place : ℕ) where
  -- a text at fault, and one that gives a value
  stops : (text : List ℕ) (texts : List (List ℕ)) (cause : Cause) → cut_for h axes given text ≡ Err cause → cuts_for h axes given place (text ∷ texts) ≡ Err (At place cause)
  stops text texts cause e = rw (e, cuts_for) refl

  goes : (text : List ℕ) (texts : List (List ℕ)) (c : CutData) → cut_for h axes given text ≡ Ok c → cuts_for h axes given place (text ∷ texts) ≡ cuts_for h axes (given ++ c ∷ []) (place + 1) texts
  goes text texts c e = rw (e, cuts_for) refl

  module _ (texts : List (Bor (List ℕ))) (i : ℕ) where
    due : (d : Bor (List ℕ)) → i < length texts → cuts_for h axes given place (map (λ (t : Bor (List ℕ)). t.now) (drop i texts)) ≡ cuts_for h axes given place ((get_or texts i d).now ∷ map (λ (t : Bor (List ℕ)). t.now) (drop (i + 1) texts))
    due d less = at_drop_more (λ (ts : List (Bor (List ℕ))). cuts_for h axes given place (map (λ (t : Bor (List ℕ)). t.now) ts)) texts i d less

    pub at_fault : (d : Bor (List ℕ)) (cause : Cause) → i < length texts → Err cause ≡ cut_for h axes given (get_or texts i d).now
        → cuts_for h axes given place (map (λ (t : Bor (List ℕ)). t.now) (drop i texts)) ≡ Err (At place cause)
    at_fault d cause less e = due d less ∙ stops (get_or texts i d).now (map (λ (t : Bor (List ℕ)). t.now) (drop (i + 1) texts)) cause (sym e)

    pub one_more : (d : Bor (List ℕ)) (c : CutData) (more : List CutData) → i < length texts → Ok c ≡ cut_for h axes given (get_or texts i d).now → more ≡ given ++ c ∷ []
        → cuts_for h axes given place (map (λ (t : Bor (List ℕ)). t.now) (drop i texts)) ≡ cuts_for h axes more (place + 1) (map (λ (t : Bor (List ℕ)). t.now) (drop (i + 1) texts))
    one_more d c more less e f =
        due d less ∙ goes (get_or texts i d).now (map (λ (t : Bor (List ℕ)). t.now) (drop (i + 1) texts)) c (sym e)
        ∙ ap (λ (g : List CutData). cuts_for h axes g (place + 1) (map (λ (t : Bor (List ℕ)). t.now) (drop (i + 1) texts))) (sym f)

    pub all_given : length texts ≤ i → cuts_for h axes given place (map (λ (t : Bor (List ℕ)). t.now) (drop i texts)) ≡ Ok given
    all_given all = at_drop_all (λ (ts : List (Bor (List ℕ))). cuts_for h axes given place (map (λ (t : Bor (List ℕ)). t.now) ts)) texts i all

-- ---- the slice

-- want of memory
pub no_memory : {X Y : Type 0} (view : X → Y) (asked : Result Y Usage) (result : Result X Refusal) → IsErrAnd result (λ r. r ≡ refusal.Memory) → Gives view asked result
no_memory view asked (Ok x) is = absurd is
no_memory view asked (Err r) is = subst (λ (r : Refusal). Gives view asked (Err r)) (sym is) tt

-- a name at fault
pub no_axes : (h : HeadData) (w : WishData) (fault : Usage) (result : Result SliceData Refusal) → IsErrAnd result (λ r. r ≡ refusal.Usage fault) → Err fault ≡ axes_for h.asked.model.names w → Gives (λ s. s) (slice_for h w) result
no_axes h w fault (Ok x) is e = absurd is
no_axes h w fault (Err r) is e = subst (λ (r : Refusal). Gives {X = SliceData} (λ s. s) (slice_for h w) (Err r)) (sym is) (ap (slice_on h w.at) (sym e))

module _ (h : HeadData) (w : WishData) (axes chosen : Axes) (same : Ok axes ≡ axes_for h.asked.model.names w) (chose : chosen ≡ axes_of (live h.asked.model) axes.0 axes.1) where
  by_values : slice_for h w ≡ slice_by h axes (cuts_for h chosen [] 1 w.at)
  by_values = ap (slice_on h w.at) (sym same) ∙ ap (λ (k : Axes). slice_by h axes (cuts_for h k [] 1 w.at)) (sym chose)

  -- a value at fault
  pub no_values : {X : Type 0} (view : X → List CutData) (texts : List (List ℕ)) (e : Refusal) (result : Result SliceData Refusal) → IsErrAnd result (λ r. r ≡ e) → texts ≡ w.at → Gives view (cuts_for h chosen [] 1 texts) (Err e) → Gives (λ s. s) (slice_for h w) result
  no_values view texts e (Ok x) is these f = absurd is
  no_values view texts e (Err r) is these f = subst (λ (r : Refusal). Gives {X = SliceData} (λ s. s) (slice_for h w) (Err r)) (sym is) (go e f)
    where
      go : (e : Refusal) → Gives view (cuts_for h chosen [] 1 texts) (Err e) → Gives {X = SliceData} (λ s. s) (slice_for h w) (Err e)
      go (refusal.Usage fault) f = by_values ∙ ap (λ (ts : List (List ℕ)). slice_by h axes (cuts_for h chosen [] 1 ts)) (sym these) ∙ ap (slice_by h axes) f
      go refusal.Memory f = tt
      go refusal.ReadFault f = absurd f
      go refusal.WriteFault f = absurd f
      go refusal.TooLong f = absurd f
      go (refusal.Unsound error) f = absurd f

  -- the slice
  pub has_slice : (given : List CutData) (s : SliceData) → cuts_for h chosen [] 1 w.at ≡ Ok given → s ≡ slice_of h axes.0 axes.1 given → slice_for h w ≡ Ok s
  has_slice given s f is = by_values ∙ ap (slice_by h axes) f ∙ ap Ok (sym is)
