-- A sound file of the first version, in the second.
use Rattle.std.proofs.Common.{◌≡◌, ℕ, ◌≤◌, Option, Some, None, List, refl, sym, ap, ◌∙◌, arith, if◌then◌else◌}
use Rattle.std.specs.Prelude.{is_some}
use Rattle.std.specs.Option.{unwrap_or}
use Rattle.lift_grid.specs.Tree.{Tree}
use Rattle.lift_grid.specs.Tree.Tree.{split, accept, reject, unknown}
use Rattle.cert_text.specs.Head.{HeadData, least_precision, version}
use Rattle.cert_text.specs.Forms.{IsHead, IsPrecision, IsTree, IsReport}
use Rattle.cert_text.specs.Laws.{text_of}
use Rattle.cert_text.specs.Migrated.{MigratesTo, migrated}
use Rattle.cert_check.specs.declared.summary.Summary.{Summary}
use Rattle.cert_check.specs.Sound.{IsSound, IsSoundFile}
use Rattle.cert_check.specs.Laws.{SoundFilesMigrate}

only_first : (from : Option ℕ) → ◌≡◌ {A = ℕ} (if is_some from then 2 else 1) 1 → from ≡ None
only_first None e = refl
only_first (Some v) e = absurd (omega (arith, e))

-- the least precision of the first version is the only one
least_is : (h : HeadData) → h.from ≡ None → least_precision h ≡ h.asked.w
least_is h first = ap (λ (from : Option ℕ). unwrap_or from h.asked.w) first

precision : (h : HeadData) (u : ℕ) → h.from ≡ None → IsPrecision h u → IsPrecision (migrated h) u
precision h u first (low, high) = (omega (arith, least_is h first, low), high)

tree_migrated : (h : HeadData) (t : Tree) → h.from ≡ None → IsTree h t → IsTree (migrated h) t
tree_migrated h (split axis lower upper) first (axis_is, low, high) = (axis_is, tree_migrated h lower first low, tree_migrated h upper first high)
tree_migrated h (accept u x) first (ranged, numbers) = (precision h u first ranged, numbers)
tree_migrated h (reject u r) first (ranged, data_is) = (precision h u first ranged, data_is)
tree_migrated h unknown first fit = fit

head_migrated : (h : HeadData) → h.from ≡ None → IsHead h → IsHead (migrated h)
head_migrated h first k = record {
  asked = k.asked;
  names = k.names;
  entries = k.entries;
  bound = k.bound;
  range = (omega (arith, least_is h first, k.range.0), omega arith);
}

sound_migrated : (h : HeadData) (t : Tree) → h.from ≡ None → IsSound h t → IsSound (migrated h) t
sound_migrated h t first s = record {
  report = record { head = head_migrated h first s.report.head; nodes = tree_migrated h t first s.report.nodes };
  admitted = s.admitted;
  tree = s.tree;
}

pub sound_migrate : SoundFilesMigrate
sound_migrate old leaves file one =
    let h = file.head in
    let t = file.tree in
    let first : h.from ≡ None = only_first h.from (sym (ap (λ (l : Summary). l.version) file.counts) ∙ one) in (
      text_of (migrated h) t,
      record { head = h; tree = t; report = file.sound.report; first = first; before = file.text; after = refl },
      record { head = migrated h; tree = t; sound = sound_migrated h t first file.sound; text = refl; counts = ap (λ (l : Summary). record l { version = 2 }) file.counts },
    )
