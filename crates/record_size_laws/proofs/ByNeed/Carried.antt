-- The meshes of two rectangles have the same pieces, and the same steps beside them, in the cells that both have.
use Rattle.std.proofs.Common.{◌≡◌, ℕ, ◌-◌, Bool, true, cond, Some, map, ap, subst, sym, ◌∙◌}
use Rattle.std.specs.Prelude.{Contains, flat_map, option_map}
use Rattle.std.proofs.lemmas.List.Elements.{Contains-append_right}
use Rattle.mesh_definitions.specs.Field.{Field}
use Rattle.mesh_definitions.specs.Mesh.{Walk, has_cell, links, right_tri, tris}
use Rattle.mesh_definitions.specs.Pieces.{mesh_of, part_bands, chord_levels, piece_at}
use Rattle.mesh_definitions.specs.declared.Piece.{Piece}
use Rattle.mesh_definitions.specs.declared.Rect.{Rect}
use Rattle.mesh_definitions.specs.declared.Step.{Step}
use Rattle.mesh_definitions.specs.declared.Sub.TheVariants.{Part, Chord}
use Rattle.mesh_definitions.specs.declared.Sub.{Sub}
use Rattle.mesh_definitions.specs.declared.Tri.{Tri}
use Rattle.face_fill.specs.Beside.{of_option_map}
use Rattle.face_fill.specs.Legs.{leg_of_right, right_of_leg}
use Rattle.face_fill.specs.Listed.{in_list, of_list, in_parts, in_tris, leg_in, of_chords, of_parts}
use Rattle.face_fill.specs.Listing.{in_flat_map, in_map}

-- a chord of a triangle is a sub-segment of each mesh that has the triangle
in_chords : (f : Field) (r : Rect) (block : ℕ → ℕ → ℕ) (t : Tri) (k : ℕ) → has_cell r t.row t.col ≡ true → Contains (chord_levels f t) k → Contains (mesh_of f r block).subs (Chord t k)
in_chords f r block t k h c = Contains-append_right (flat_map (λ l. map (Part l) (part_bands f l)) (links r)) (flat_map (λ t. map (Chord t) (chord_levels f t)) (tris r)) (Chord t k)
    (in_flat_map (λ t. map (Chord t) (chord_levels f t)) (tris r) t (Chord t k) (in_tris r t h) (in_map (Chord t) (chord_levels f t) k c))

-- the link of a walk that has a triangle on its right is one of each rectangle that has the triangle, with the triangle on the right there too
record Walked (r : Rect) (w : Walk) (t : Tri) : Type 0 where
  there : Contains (links r) w.link
  right : right_tri r w ≡ Some t

walked_too : (r s : Rect) (w : Walk) (t : Tri) → right_tri r w ≡ Some t → has_cell s t.row t.col ≡ true → Walked s w t
walked_too r s w t e h =
    let l = leg_of_right r w t e in
    subst (λ w. Walked s w t) l.is (record { there = leg_in s t h l.way; right = right_of_leg s t h l.way })

module _ (f : Field) (r s : Rect) (a c : ℕ → ℕ → ℕ) where
  -- a step of the second mesh that has a piece on its right
  pub record Carried (x : Step) (q : Piece) : Type 0 where
    pub there : Contains (mesh_of f s c).subs x.sub
    pub right : (mesh_of f s c).right_of x ≡ Some q

  -- a step of the first mesh is one of the second where the piece on its right lies in a cell of the second, and has that piece on its right there too
  pub carried : (x : Step) (q : Piece) → Contains (mesh_of f r a).subs x.sub → (mesh_of f r a).right_of x ≡ Some q → has_cell s q.tri.row q.tri.col ≡ true → Carried x q
  carried x q i e h = by x.sub x.forward i e
    where
      by : (u : Sub) (forward : Bool) → Contains (mesh_of f r a).subs u → (mesh_of f r a).right_of (record { sub = u; forward = forward }) ≡ Some q → Carried (record { sub = u; forward = forward }) q
      by (Part l b) forward i e =
          let w : Walk = record { link = l; forward = forward } in
          let o = of_option_map (piece_at f b) (right_tri r w) q e in
          let same : q.tri ≡ o.0 = sym (ap (λ (p : Piece). p.tri) o.2) in
          let n = walked_too r s w o.0 o.1 (subst (λ t. has_cell s t.row t.col ≡ true) same h) in
          record {
            there = in_parts f s c l b n.there (of_parts f r a l b i);
            right = ap (option_map (piece_at f b)) n.right ∙ ap Some o.2;
          }
      by (Chord t k) forward i e =
          let p : Piece = record { tri = t; band = cond forward k (k - 1) } in
          let g : p ≡ q = cc (e) in
          let same : q.tri ≡ t = sym (ap (λ (p : Piece). p.tri) g) in
          record {
            there = in_chords f s c t k (subst (λ t. has_cell s t.row t.col ≡ true) same h) (of_chords f r a t k i);
            right = e;
          }

  -- and so with pieces
  pub piece_carried : (q : Piece) → Contains (mesh_of f r a).pieces q → has_cell s q.tri.row q.tri.col ≡ true → Contains (mesh_of f s c).pieces q
  piece_carried q i h = let m = of_list f r a q i in in_list f s c q (record { cell = h; low = m.low; high = m.high })

-- the cell of a piece
pub cell_of : (f : Field) (r : Rect) (a : ℕ → ℕ → ℕ) (q : Piece) → Contains (mesh_of f r a).pieces q → has_cell r q.tri.row q.tri.col ≡ true
cell_of f r a q i = (of_list f r a q i).cell
