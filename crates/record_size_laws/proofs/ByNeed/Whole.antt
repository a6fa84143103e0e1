-- In blocks by need each face and each block has a boundary of at most 12,000 steps.
use Rattle.std.proofs.Common.{◌≡◌, ℕ, ◌<◌, ◌≤◌, Bool, true, eqb, Contains, length, refl, sym, ap, ◌∙◌, arith}
use Rattle.std.proofs.lemmas.Bool.{eqb-true, eq-eqb}
use Rattle.mesh_definitions.specs.Blocks.Asks.{Face, Outline}
use Rattle.mesh_definitions.specs.Blocks.{AreByNeed, IsBlocks, IsSubRect, alone}
use Rattle.mesh_definitions.specs.Faces.{NumbersFaces, boundary}
use Rattle.mesh_definitions.specs.Field.{Field}
use Rattle.mesh_definitions.specs.Mesh.{all_cells, has_cell}
use Rattle.mesh_definitions.specs.Pieces.{whole_mesh}
use Rattle.mesh_definitions.specs.declared.Class.{Class}
use Rattle.mesh_definitions.specs.declared.Piece.{Piece}
use Rattle.mesh_definitions.specs.declared.Rect.{Rect}
use Rattle.face_fill.specs.Legs.{has_it, in_rect}
use Rattle.face_fill.specs.Numbered.{face_in}
use Rattle.mesh_laws.proofs.FaceKinds.{faces_have_kinds}
use Rattle.record_size_laws.proofs.ByNeed.BlockAlone.{HasBlock, faces_alone, in_part, no_longer_alone}
use Rattle.record_size_laws.proofs.ByNeed.Carried.{cell_of}
use Rattle.record_size_laws.proofs.ByNeed.Kept.{kept_short}
use Rattle.record_size_laws.specs.ByNeed.{FacesAreShort, OutlinesAreShort, SmallIsShort}

-- a cell of a rectangle inside another is one of that
cell_inside : (r all : Rect) → IsSubRect r all → (i j : ℕ) → has_cell r i j ≡ true → has_cell all i j ≡ true
cell_inside r all n i j h =
    let c = in_rect r i j h in
    has_it all i j (record {
      north = omega (arith, c.north, n.north);
      south = omega (arith, c.south, n.south);
      west = omega (arith, c.west, n.west);
      east = omega (arith, c.east, n.east);
    })

-- the rectangle of a block has exactly the block's cells
block_cells : (all : Rect) (count : ℕ) (rect : ℕ → Rect) (block : ℕ → ℕ → ℕ) → IsBlocks all count rect block → (b : ℕ) → b < count → HasBlock all (rect b) block b
block_cells all count rect block h b l =
    let inside = cell_inside (rect b) all (h.inside b l) in
    record {
      inside = inside;
      has = λ i j c e. (h.holds i j b c l).1 e;
      is = λ i j c. (h.holds i j b (inside i j c) l).0 c;
    }

module _ (f : Field) (count : ℕ) (rect : ℕ → Rect) (block : ℕ → ℕ → ℕ) (small : SmallIsShort f) (h : AreByNeed f count rect block) where
  module _ (b : ℕ) (l : b < count) where
    abbrev cells : HasBlock (all_cells f) (rect b) block b
    cells = block_cells (all_cells f) count rect block h.blocks b l

    -- the outline of a block
    outline_short : length (boundary (whole_mesh f block) (λ p. eqb (block p.tri.row p.tri.col) b)) ≤ 12000
    outline_short =
        let F : Piece → Bool = λ p. eqb (block p.tri.row p.tri.col) b in
        let whole = no_longer_alone f (all_cells f) (rect b) block b cells F (λ p. true)
        (λ q i e. eqb-true (block q.tri.row q.tri.col) b e)
        (λ q i. eq-eqb (block q.tri.row q.tri.col) b (cells.is q.tri.row q.tri.col (cell_of f (rect b) (λ i j. 0) q i))) in
        let part = kept_short f (rect b) (length (boundary (alone f (rect b)) (λ p. true))) small (h.each b l).kept (h.blocks.inside b l) Outline in
        omega (arith, whole, part)

    -- the boundary of the face of a piece in the block
    face_short : (face : Piece → ℕ) (p : Piece) (k : ℕ) → NumbersFaces (whole_mesh f block) face → Contains (whole_mesh f block).pieces p → face p ≡ k → block p.tri.row p.tri.col ≡ b
        → length (boundary (whole_mesh f block) (λ q. eqb (face q) k)) ≤ 12000
    face_short face p k numbers i e g =
        let F : Piece → Bool = λ q. eqb (face q) k in
        let G : Piece → Bool = λ q. eqb (face q) (face p) in
        let whole = no_longer_alone f (all_cells f) (rect b) block b cells F G
        (λ q j t. let s = faces_have_kinds (whole_mesh f block) face numbers q p j i (eqb-true (face q) k t ∙ sym e) in ap (λ (k : Class × ℕ). k.1) s ∙ g)
        (λ q j. ap (eqb (face q)) (sym e)) in
        let asks = Face face (faces_alone f (all_cells f) (rect b) block b cells face numbers) p (in_part f (all_cells f) (rect b) block b cells p i g) in
        let part = kept_short f (rect b) (length (boundary (alone f (rect b)) G)) small (h.each b l).kept (h.blocks.inside b l) asks in
        omega (arith, whole, part)

pub outlines_are_short : OutlinesAreShort
outlines_are_short f count rect block small h b l = outline_short f count rect block small h b l

pub faces_are_short : FacesAreShort
faces_are_short f count rect block v small h faces k l =
    let u = faces.gapless.used k l in
    let p = u.0 in
    let b = block p.tri.row p.tri.col in
    let below = h.blocks.below p.tri.row p.tri.col (cell_of f (all_cells f) block p u.1) in
    face_short f count rect block small h b below (face_in f v) p k faces.faces u.1 u.2 refl
