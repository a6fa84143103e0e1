use Rattle.std.proofs.Common.{◌≡◌, ℕ, ◌+◌, ◌-◌, true, length, get_or, sym, ap, ap₂, ◌∙◌, subst, arith}
use Rattle.std.proofs.lemmas.List.{get_or_read}
use Rattle.mesh_definitions.specs.Field.{Field}
use Rattle.mesh_definitions.specs.Mesh.{has_cell}
use Rattle.mesh_definitions.specs.Pieces.{pieces_of}
use Rattle.mesh_definitions.specs.declared.Rect.{Rect}
use Rattle.mesh_definitions.specs.declared.Tri.{Tri}
use Rattle.face_fill.specs.BandTableView.{field_by}
use Rattle.face_fill.specs.Numbered.{first_band}
use Rattle.face_fill.specs.Items.{piece_by}
use Rattle.tri_mesh.specs.TriNumbers.{tri_at}
use Rattle.face_fill.specs.Places.{tri_inside}
use Rattle.face_fill.proofs.Runs.{few_triangles}
use Rattle.face_fill.proofs.tables.PieceTable.spot.Goals as goal

pub numbered_tri-requires-clause-number : goal.numbered_tri-requires-clause-number
numbered_tri-requires-clause-number c =
    let s = c.args.self.now in
    let o : c.index.result.now ≡ get_or s.items.owners.items c.args.item 0 = get_or_read s.items.owners.items c.args.item c.index.result.now c.requires.item c.index.ensures 0 in
    omega (arith, o, c.requires.whole.items.below c.args.item c.requires.item, few_triangles (field_by s.nodes) s.nodes.rect s.nodes.bands.items c.requires.whole.nodes)

pub index-requires-2 : goal.index-requires-2
index-requires-2 c =
    let s = c.args.self.now in
    let o : c.index.result.now ≡ get_or s.items.owners.items c.args.item 0 = get_or_read s.items.owners.items c.args.item c.index.result.now c.requires.item c.index.ensures 0 in
    omega (arith, o, c.requires.whole.items.below c.args.item c.requires.item, c.requires.whole.items.each_start, s.items.starts.ok.0)

pub overflow_sub-result : goal.overflow_sub-result
overflow_sub-result c =
    let s = c.args.self.now in
    let o : c.index.result.now ≡ get_or s.items.owners.items c.args.item 0 = get_or_read s.items.owners.items c.args.item c.index.result.now c.requires.item c.index.ensures 0 in
    let below = c.requires.whole.items.below c.args.item c.requires.item in
    let b : c.index-2.result.now ≡ get_or s.items.starts.items (get_or s.items.owners.items c.args.item 0) 0 =
    get_or_read s.items.starts.items c.index.result.now c.index-2.result.now (omega (arith, o, below, c.requires.whole.items.each_start)) c.index-2.ensures 0 ∙ ap (λ k. get_or s.items.starts.items k 0) o in
    omega (arith, b, c.requires.whole.items.from c.args.item c.requires.item)

pub returns-clause-inside : goal.returns-clause-inside
returns-clause-inside c =
    let s = c.args.self.now in
    let r : Rect = s.nodes.rect in
    let o : c.index.result.now ≡ get_or s.items.owners.items c.args.item 0 = get_or_read s.items.owners.items c.args.item c.index.result.now c.requires.item c.index.ensures 0 in
    let below = c.requires.whole.items.below c.args.item c.requires.item in
    subst (λ t. has_cell r t.row t.col ≡ true) (sym c.numbered_tri.ensures) (tri_inside r c.index.result.now (omega (arith, o, below)))

pub returns-clause-below : goal.returns-clause-below
returns-clause-below c =
    let s = c.args.self.now in
    let f : Field = field_by s.nodes in
    let r : Rect = s.nodes.rect in
    let o : c.index.result.now ≡ get_or s.items.owners.items c.args.item 0 = get_or_read s.items.owners.items c.args.item c.index.result.now c.requires.item c.index.ensures 0 in
    let below = c.requires.whole.items.below c.args.item c.requires.item in
    let b : c.index-2.result.now ≡ get_or s.items.starts.items (get_or s.items.owners.items c.args.item 0) 0 =
    get_or_read s.items.starts.items c.index.result.now c.index-2.result.now (omega (arith, o, below, c.requires.whole.items.each_start)) c.index-2.ensures 0 ∙ ap (λ k. get_or s.items.starts.items k 0) o in
    let n : length (pieces_of f c.numbered_tri.result) ≡ length (pieces_of f (tri_at r (get_or s.items.owners.items c.args.item 0))) = ap (λ t. length (pieces_of f t)) (c.numbered_tri.ensures ∙ ap (tri_at r) o) in
    omega (arith, b, n, c.requires.whole.items.from c.args.item c.requires.item, c.requires.whole.items.to c.args.item c.requires.item)

pub returns-clause-piece : goal.returns-clause-piece
returns-clause-piece c =
    let s = c.args.self.now in
    let f : Field = field_by s.nodes in
    let r : Rect = s.nodes.rect in
    let o : c.index.result.now ≡ get_or s.items.owners.items c.args.item 0 = get_or_read s.items.owners.items c.args.item c.index.result.now c.requires.item c.index.ensures 0 in
    let below = c.requires.whole.items.below c.args.item c.requires.item in
    let b : c.index-2.result.now ≡ get_or s.items.starts.items (get_or s.items.owners.items c.args.item 0) 0 =
    get_or_read s.items.starts.items c.index.result.now c.index-2.result.now (omega (arith, o, below, c.requires.whole.items.each_start)) c.index-2.ensures 0 ∙ ap (λ k. get_or s.items.starts.items k 0) o in
    let t : c.numbered_tri.result ≡ tri_at r (get_or s.items.owners.items c.args.item 0) = c.numbered_tri.ensures ∙ ap (tri_at r) o in
    sym (ap₂ (λ (t : Tri) (k : ℕ). piece_by t (first_band f t + (c.args.item - k))) t b)
