-- A piece that counts at a node is unsurveyed or of the node's band.
use Rattle.std.proofs.Common.{◌≡◌, ◌≢◌, ⊎_elim, inl, inr, ℕ, ℤ, pos, Bool, true, false, cond, not, ◌&&◌, eqb, Option, Some, None, List, [], ◌∷◌, map, filter, refl, sym, ap, ap₂, subst, ◌∙◌, arith}
use Rattle.std.proofs.lemmas.Bool.Decides.{nat_tests}
use Rattle.std.proofs.lemmas.Bool.{cases_order, and_parts}
use Rattle.mesh_definitions.specs.Faces.{borders, boundary}
use Rattle.mesh_definitions.specs.Field.{Field, IsField, point, band_at}
use Rattle.mesh_definitions.specs.Laws.{WalksBothWays, piece_count}
use Rattle.mesh_definitions.specs.Mesh.{all_cells, surveyed}
use Rattle.mesh_definitions.specs.Pieces.{whole_mesh, walked, same_piece, left_of}
use Rattle.mesh_definitions.specs.declared.Piece.{Piece}
use Rattle.mesh_definitions.specs.declared.Step.{Step}
use Rattle.tiling_laws.specs.Depths.{IsNode, IsOfNode}
use Rattle.depth_grid.specs.declared.node.NodeId.{NodeId}
use Rattle.mesh_laws.proofs.Closed.{outline_falls}
use Rattle.mesh_laws.proofs.Legs.{fall}
use Rattle.mesh_laws.proofs.Listed.{piece, piece_there}
use Rattle.mesh_laws.proofs.Once.{step_sub}
use Rattle.mesh_laws.proofs.Triangles.{same_tri, tri_is}
use Rattle.plane_geom.specs.Geom.{turn_of}
use Rattle.plane_laws.specs.Borders.{within, steps}
use Rattle.plane_laws.specs.SumLaws.{BoundarySum}
use Rattle.plane_laws.proofs.Counts.{count_is}
use Rattle.plane_laws.proofs.Members.{In, is_in}
use Rattle.plane_laws.proofs.Sums.{total-map, total_agree}
use Rattle.mesh_lines_laws.specs.MeshLines.{FieldsKeepNodes}
use Rattle.mesh_lines_laws.proofs.AtNodes.{of_node, named, on_outline}
use Rattle.mesh_lines_laws.proofs.Beside.{Opens, outlines, step_spots, opens}
use Rattle.mesh_lines_laws.proofs.Corner.{height, turn_is}
use Rattle.mesh_lines_laws.proofs.PartEnds.{Touches}

one_more : {X : Type 0} (test : X → Bool) (xs kept : List X) (y x : X) → (In kept x → In xs x × (test x ≡ true)) → (b : Bool) → test y ≡ b → In (cond b (y ∷ kept) kept) x → In (y ∷ xs) x × (test x ≡ true)
one_more test xs kept y x rest true e i = ⊎_elim (λ s. (inl s, subst (λ z. test z ≡ true) s e)) (λ k. let r = rest k in (inr r.0, r.1)) i
one_more test xs kept y x rest false e i = let r = rest i in (inr r.0, r.1)

-- what a filter keeps is on the list and passes
from_filter : {X : Type 0} (test : X → Bool) (xs : List X) (x : X) → In (filter test xs) x → In xs x × (test x ≡ true)
from_filter test [] x i = absurd i
from_filter test (y ∷ xs) x i = one_more test xs (filter test xs) y x (from_filter test xs x) (test y) refl i

num_is : (a b : ℕ) → eqb a b ≡ true → a ≡ b
num_is a b e = grind (arith, nat_tests)

same_is : (p q : Piece) → same_piece p q ≡ true → p ≡ q
same_is p q e =
    let k = and_parts (same_tri p.tri q.tri) (eqb p.band q.band) e in
    ap₂ piece (tri_is p.tri q.tri k.0) (num_is p.band q.band k.1)

beside_is : (q : Piece) (o : Option Piece) → within (same_piece q) o ≡ true → o ≡ Some q
beside_is q None e = absurd (cc (e))
beside_is q (Some p) e = ap Some (sym (same_is q p e))

module _ (sum : BoundarySum Step Piece) (ways : WalksBothWays) (f : Field) (h : IsField f) (block : ℕ → ℕ → ℕ) (n : NodeId) (x : ℤ) (is : IsNode f n x) (q : Piece) where
  module _ (known : surveyed f q.tri ≡ true) (other : q.band ≢ band_at f n) (w : Opens f h n q.tri.row q.tri.col) where
    abbrev turning : Step → ℤ
    turning s = turn_of (walked (whole_mesh f block) s) (point f n)

    abbrev falling : Step → ℤ
    falling s = fall (height w.x w.y (point f n)) (walked (whole_mesh f block) s)

    one_step : (s : Step) → In (boundary (whole_mesh f block) (same_piece q)) s → turning s ≡ falling s
    one_step s i =
        let m = whole_mesh f block in
        let k = from_filter (λ s. within (same_piece q) (m.right_of s) && not (within (same_piece q) (left_of m s))) (steps (borders m)) s i in
        let there = step_sub m.subs s k.0 in
        let right = beside_is q (m.right_of s) (and_parts (within (same_piece q) (m.right_of s)) (not (within (same_piece q) (left_of m s))) k.1).0 in
        let o = outlines f h block s.sub s.forward q there right in
        let e = step_spots f h block s there in
        turn_is w.x w.y (point f n) (walked m s)
        (w.holds (walked m s).a (o.0.in_cell e.a (walked m s).a e.ends_a e.at_a))
        (w.holds (walked m s).b (o.0.in_cell e.b (walked m s).b e.ends_b e.at_b))
        (λ g. other (o.0.of_band n known (subst (Touches f s.sub) (named f h block n x e.a (walked m s).a is e.at_a g) e.ends_a)))
        (λ g. other (o.0.of_band n known (subst (Touches f s.sub) (named f h block n x e.b (walked m s).b is e.at_b g) e.ends_b)))

    nothing : In (whole_mesh f block).pieces q → piece_count (whole_mesh f block) (point f n) q ≡ pos 0
    nothing there =
        let m = whole_mesh f block in
        let outline = boundary m (same_piece q) in
        let k = piece_there f (all_cells f) q there in
        count_is (map (walked m) outline) (point f n)
        ∙ (total-map (λ s. turn_of s (point f n)) (walked m) outline
        ∙ (total_agree turning falling outline one_step
        ∙ outline_falls sum ways f (all_cells f) block (height w.x w.y (point f n)) q k.0 k.1))

  counts_at : In (whole_mesh f block).pieces q → piece_count (whole_mesh f block) (point f n) q ≢ pos 0 → IsOfNode f (whole_mesh f block) n q
  counts_at there some = of_node f h block n q (λ known. ⊎_elim
      (λ e. e)
      (λ far.
      let k = piece_there f (all_cells f) q there in
      let c = k.0 in
      let s = c.south in
      let e = c.east in
      let w = opens f h n q.tri.row q.tri.col is.row_in is.col_in (omega (arith, s)) (omega (arith, e)) in
      absurd (some (nothing known (λ g. ⊎_elim (λ l. omega (arith, g, l)) (λ l. omega (arith, g, l)) far) w there)))
      (cases_order q.band (band_at f n)))

pub fields_keep_nodes : BoundarySum Step Piece → WalksBothWays → FieldsKeepNodes
fields_keep_nodes sum ways f block h = record {
  on_outline = on_outline f h block;
  counts = λ n x q is there some. counts_at sum ways f h block n x is q (is_in (whole_mesh f block).pieces q there) some;
}
