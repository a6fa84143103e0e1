-- A block of a mesh against the mesh of its rectangle by itself: the boundary of a set of pieces within the block is no longer than it is there, and the faces within the block are the faces there.
use Rattle.std.proofs.Common.{◌≡◌, ℕ, ◌≤◌, Bool, true, false, not, ◌&&◌, Option, Some, None, Contains, length, refl, sym, ap, ap₂, ◌∙◌}
use Rattle.std.proofs.lemmas.Bool.{and_parts}
use Rattle.mesh_definitions.specs.Blocks.{alone}
use Rattle.mesh_definitions.specs.Faces.Joined.{Here, Over}
use Rattle.mesh_definitions.specs.Faces.{IsAdjacent, Joined, NumbersFaces, boundary, steps_of}
use Rattle.mesh_definitions.specs.Field.{Field}
use Rattle.mesh_definitions.specs.Mesh.{has_cell}
use Rattle.mesh_definitions.specs.Pieces.{Mesh, back, mesh_of}
use Rattle.mesh_definitions.specs.declared.Class.{Class}
use Rattle.mesh_definitions.specs.declared.Piece.{Piece}
use Rattle.mesh_definitions.specs.declared.Rect.{Rect}
use Rattle.mesh_definitions.specs.declared.Step.{Step}
use Rattle.mesh_laws.proofs.Once.{pieces_once, step_sub}
use Rattle.plane_laws.proofs.Lists.{distinct_filter, from_filter, no_longer, in_filter}
use Rattle.record_size_laws.proofs.ByNeed.Carried.{Carried, carried, cell_of, piece_carried}
use Rattle.mesh_laws.proofs.Subs.{distinct_steps, step_in}
use Rattle.plane_laws.proofs.Members.{In, contains, is_in}
use Rattle.plane_laws.specs.Borders.{within}

-- a rectangle r has exactly the cells of another that are in block b
pub record HasBlock (all r : Rect) (block : ℕ → ℕ → ℕ) (b : ℕ) : Type 0 where
  pub inside : (i j : ℕ) → has_cell r i j ≡ true → has_cell all i j ≡ true
  pub has : (i j : ℕ) → has_cell all i j ≡ true → block i j ≡ b → has_cell r i j ≡ true
  pub is : (i j : ℕ) → has_cell r i j ≡ true → block i j ≡ b

-- the piece that a test finds on a side
found : (F : Piece → Bool) (o : Option Piece) → within F o ≡ true → (q : Piece) × (o ≡ Some q) × (F q ≡ true)
found F None e = absurd (cc (e))
found F (Some q) e = (q, refl, e)

finds : (F : Piece → Bool) (o : Option Piece) (q : Piece) → o ≡ Some q → F q ≡ true → within F o ≡ true
finds F o q e p = ap (within F) e ∙ p

true_only : (x : Bool) → not x ≡ true → x ≡ true → ⊥
true_only true n e = absurd (cc (n))
true_only false n e = absurd (cc (e))

not_true : (x : Bool) → (x ≡ true → ⊥) → not x ≡ true
not_true true n = absurd (n refl)
not_true false n = refl

-- what lies on the right of a step is a piece of the mesh
side_piece : (f : Field) (r : Rect) (block : ℕ → ℕ → ℕ) (x : Step) (q : Piece) → Contains (mesh_of f r block).subs x.sub → (mesh_of f r block).right_of x ≡ Some q → Contains (mesh_of f r block).pieces q
side_piece f r block x q i e =
    let m = mesh_of f r block in
    (pieces_once f r block).sides x q (contains (steps_of m) x (step_in m x.sub x.forward (is_in m.subs x.sub i))) e

module _ (f : Field) (all r : Rect) (block : ℕ → ℕ → ℕ) (b : ℕ) (h : HasBlock all r block b) where
  abbrev whole : Mesh
  whole = mesh_of f all block

  abbrev part : Mesh
  part = alone f r

  abbrev none : ℕ → ℕ → ℕ
  none i j = 0

  -- a piece of the whole mesh that is in the block is a piece of the rectangle
  pub in_part : (q : Piece) → Contains whole.pieces q → block q.tri.row q.tri.col ≡ b → Contains part.pieces q
  in_part q i e = piece_carried f all r block none q i (h.has q.tri.row q.tri.col (cell_of f all block q i) e)

  in_whole : (q : Piece) → Contains part.pieces q → Contains whole.pieces q
  in_whole q i = piece_carried f r all none block q i (h.inside q.tri.row q.tri.col (cell_of f r none q i))

  -- a step beside a piece in the block is a step of the rectangle by itself
  into_part : (x : Step) (q : Piece) → Contains whole.subs x.sub → whole.right_of x ≡ Some q → block q.tri.row q.tri.col ≡ b → Carried f all r block none x q
  into_part x q i e g = carried f all r block none x q i e (h.has q.tri.row q.tri.col (cell_of f all block q (side_piece f all block x q i e)) g)

  into_whole : (x : Step) (q : Piece) → Contains part.subs x.sub → part.right_of x ≡ Some q → Carried f r all none block x q
  into_whole x q i e = carried f r all none block x q i e (h.inside q.tri.row q.tri.col (cell_of f r none q (side_piece f r none x q i e)))

  -- ---- boundaries

  module _ (F G : Piece → Bool) (in_block : (q : Piece) → Contains whole.pieces q → F q ≡ true → block q.tri.row q.tri.col ≡ b) (agree : (q : Piece) → Contains part.pieces q → F q ≡ G q) where
    abbrev whole_test : Step → Bool
    whole_test x = within F (whole.right_of x) && not (within F (whole.right_of (back x)))

    abbrev part_test : Step → Bool
    part_test x = within G (part.right_of x) && not (within G (part.right_of (back x)))

    -- a step of the boundary in the whole mesh is one of the boundary in the rectangle
    step_carried : (x : Step) → In (boundary whole F) x → In (boundary part G) x
    step_carried x i =
        let k = from_filter whole_test (steps_of whole) x i in
        let t = and_parts (within F (whole.right_of x)) (not (within F (whole.right_of (back x)))) k.1 in
        let s : Contains whole.subs x.sub = contains whole.subs x.sub (step_sub whole.subs x k.0) in
        let o = found F (whole.right_of x) t.0 in
        let there = side_piece f all block x o.0 s o.1 in
        let mine = in_block o.0 there o.2 in
        let n = into_part x o.0 s o.1 mine in
        let right : within G (part.right_of x) ≡ true = finds G (part.right_of x) o.0 n.right (sym (agree o.0 (in_part o.0 there mine)) ∙ o.2) in
        let left : not (within G (part.right_of (back x))) ≡ true = not_true (within G (part.right_of (back x))) (λ e.
        let u = found G (part.right_of (back x)) e in
        let m = into_whole (back x) u.0 n.there u.1 in
        true_only (within F (whole.right_of (back x))) t.1 (finds F (whole.right_of (back x)) u.0 m.right (agree u.0 (side_piece f r none (back x) u.0 n.there u.1) ∙ u.2))) in
        in_filter part_test (steps_of part) x (step_in part x.sub x.forward (is_in part.subs x.sub n.there)) (ap₂ (λ p q. p && q) right left)

    pub no_longer_alone : length (boundary whole F) ≤ length (boundary part G)
    no_longer_alone = no_longer (boundary whole F) (boundary part G) (distinct_filter whole_test (steps_of whole) (distinct_steps f all block)) step_carried

  -- ---- faces

  -- what is adjacent to a piece in the block is in the block, and adjacent in the rectangle by itself
  adjacent_part : (p q : Piece) → block p.tri.row p.tri.col ≡ b → IsAdjacent whole p q → (block q.tri.row q.tri.col ≡ b) × IsAdjacent part p q
  adjacent_part p q e a =
      let g : block q.tri.row q.tri.col ≡ b = sym (ap (λ (k : Class × ℕ). k.1) a.alike) ∙ e in
      let n = into_part a.across p a.there a.right e in
      let m = into_part (back a.across) q a.there a.left g in
      (g, record { across = a.across; there = n.there; right = n.right; left = m.right; alike = ap (λ (k : Class × ℕ). let j : Class × ℕ = (k.0, 0) in j) a.alike })

  chain_part : (p q : Piece) → block p.tri.row p.tri.col ≡ b → Joined whole p q → Joined part p q
  chain_part p q e Here = Here
  chain_part p q e (Over {q = n} a j) = let k = adjacent_part p n e a in Over k.1 (chain_part n q k.0 j)

  -- and the other way round
  adjacent_whole : (p q : Piece) → IsAdjacent part p q → IsAdjacent whole p q
  adjacent_whole p q a =
      let n = into_whole a.across p a.there a.right in
      let m = into_whole (back a.across) q a.there a.left in
      let i : block p.tri.row p.tri.col ≡ b = h.is p.tri.row p.tri.col (cell_of f r none p (side_piece f r none a.across p a.there a.right)) in
      let k : block q.tri.row q.tri.col ≡ b = h.is q.tri.row q.tri.col (cell_of f r none q (side_piece f r none (back a.across) q a.there a.left)) in
      record { across = a.across; there = n.there; right = n.right; left = m.right; alike = ap₂ (λ (c : Class) (d : ℕ). let j : Class × ℕ = (c, d) in j) (ap (λ (k : Class × ℕ). k.0) a.alike) (i ∙ sym k) }

  chain_whole : (p q : Piece) → Joined part p q → Joined whole p q
  chain_whole p q Here = Here
  chain_whole p q (Over {q = n} a j) = Over (adjacent_whole p n a) (chain_whole n q j)

  -- a numbering of the faces of the whole mesh numbers those of the rectangle by itself
  pub faces_alone : (face : Piece → ℕ) → NumbersFaces whole face → NumbersFaces part face
  faces_alone face numbers p q i j =
      let both = numbers p q (in_whole p i) (in_whole q j) in (
        λ e. chain_part p q (h.is p.tri.row p.tri.col (cell_of f r none p i)) (both.0 e),
        λ c. both.1 (chain_whole p q c),
      )
