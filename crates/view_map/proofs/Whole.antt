-- The head and the nodes of a sound file.
use Rattle.std.proofs.Common.{◌≡◌, ℕ, ◌+◌, List, length, Result, Ok, sym, ap, ◌∙◌, subst}
use Rattle.std.specs.List.{concat}
use Rattle.line_text.specs.Reading.{Cursor}
use Rattle.line_text.specs.declared.error.TextError.{TextError}
use Rattle.cert_text.specs.Head.{HeadData, head_at}
use Rattle.cert_text.specs.Report.{tree_lines}
use Rattle.cert_text.specs.Laws.{reported_lines, text_of, HeadsAreReadBack}
use Rattle.cert_check.specs.Sound.{IsSound, IsSoundFile}
use Rattle.cert_check.specs.declared.summary.Summary.{Summary}
use Rattle.view_map.specs.Parts.{MapData, PartData, parts}
use Rattle.view_map.specs.Share.{total_share}
use Rattle.view_map.specs.Mapping.{AreNodes, HasNodes, IsMapOf, IsMapped}
use Rattle.view_map.proofs.Shares.{total_of_sound}

ok_is : {A : Type 0} (x y : A) → ◌≡◌ {A = Result A TextError} (Ok x) (Ok y) → x ≡ y
ok_is x y e = cc

-- the head that is read is the file's, and what is left its nodes
parts_of : HeadsAreReadBack → (text : List ℕ) (leaves : Summary) (file : IsSoundFile text leaves) (h : HeadData) (m : ℕ) (left : List ℕ) → head_at (1, text) ≡ Ok (h, (m, left))
    → (h ≡ file.head) × (left ≡ concat (tree_lines file.head.from file.head.asked.model.init file.tree))
parts_of back text leaves file h m left read =
    let g = file.head in
    let trees = concat (tree_lines g.from g.asked.model.init file.tree) in
    let there = ap (λ b. head_at (1, b)) file.text ∙ back g 1 trees file.sound.report.head in
    let pairs = ok_is (h, (m, left)) (g, (1 + length (reported_lines g), trees)) (sym read ∙ there) in
    (ap (λ (p : HeadData × Cursor). p.0) pairs, ap (λ (p : HeadData × Cursor). p.1.1) pairs)

nodes_of : HeadsAreReadBack → (text : List ℕ) (leaves : Summary) (file : IsSoundFile text leaves) (h : HeadData) (m : ℕ) (left : List ℕ) → head_at (1, text) ≡ Ok (h, (m, left)) → AreNodes h left file.tree
nodes_of back text leaves file h m left read =
    let p = parts_of back text leaves file h m left read in
    record {
      sound = subst (λ g. IsSound g file.tree) (sym p.0) file.sound;
      lines = p.1 ∙ ap (λ (g : HeadData). concat (tree_lines g.from g.asked.model.init file.tree)) (sym p.0);
    }

pub found : HeadsAreReadBack → (text : List ℕ) (leaves : Summary) → IsSoundFile text leaves → (h : HeadData) (m : ℕ) (left : List ℕ) → head_at (1, text) ≡ Ok (h, (m, left)) → HasNodes h left
found back text leaves file h m left read = (file.tree, nodes_of back text leaves file h m left read)

-- so the leaves behind it are those of the file
pub made : HeadsAreReadBack → (text : List ℕ) (leaves : Summary) → IsSoundFile text leaves → (h : HeadData) (m : ℕ) (left : List ℕ) → head_at (1, text) ≡ Ok (h, (m, left)) → (map : MapData) → IsMapped h left map → IsMapOf text map.head map.parts
made back text leaves file h m left read map is =
    let same = (parts_of back text leaves file h m left read).0 in
    let nodes = nodes_of back text leaves file h m left read in
    let ps : map.parts ≡ parts h file.tree = is.leaves file.tree nodes in
    let of : IsMapOf text h map.parts = record {
      tree = file.tree;
      sound = nodes.sound;
      text = file.text ∙ ap (λ g. text_of g file.tree) (sym same);
      leaves = ps;
      shares = ap (λ (qs : List PartData). total_share qs) ps ∙ total_of_sound h.asked h.bound file.tree nodes.sound.report.head.asked.depth nodes.sound.tree;
    } in
    subst (λ g. IsMapOf text g map.parts) (sym is.head) of
