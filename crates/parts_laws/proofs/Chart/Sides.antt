-- What lies on the sides of the steps of a trace, by the faces on the sides of its arc.
use Rattle.std.proofs.Common.{◌≡◌, ℕ, true, Option, Some, List, Contains, sym, ap, ap₂, ◌∙◌}
use Rattle.std.specs.Prelude.{option_map}
use Rattle.std.proofs.lemmas.List.Elements.{All-contains}
use Rattle.boundary_arcs.specs.Edges.{RunsAlong, face_on}
use Rattle.mesh_definitions.specs.Edges.{DrawsAll}
use Rattle.boundary_arcs.specs.declared.arc.Arc.{Arc}
use Rattle.boundary_arcs.specs.declared.arc.Side.TheVariants.{Outside, Face}
use Rattle.boundary_arcs.specs.declared.arc.Side.{Side}
use Rattle.mesh_definitions.specs.Faces.{borders, drawn, is_drawn, kind, steps_of}
use Rattle.mesh_definitions.specs.Field.{Field}
use Rattle.mesh_definitions.specs.Pieces.{Mesh, back, left_of, whole_mesh}
use Rattle.mesh_definitions.specs.declared.Class.{Class}
use Rattle.mesh_definitions.specs.declared.Piece.{Piece}
use Rattle.mesh_definitions.specs.declared.Step.{Step}
use Rattle.mesh_definitions.specs.declared.Sub.TheVariants.{Chord}
use Rattle.tiling_laws.proofs.BothSides.{listed}
use Rattle.tiling_laws.proofs.Lines.{step_drawn}
use Rattle.face_fill.specs.Numbered.{AreFaces, FacesView, block_of, class_of, face_in}
use Rattle.mesh_laws.proofs.Once.{mapped}
use Rattle.plane_laws.proofs.Lists.{from_filter}
use Rattle.plane_laws.proofs.Members.{In, contains}
use Rattle.plane_laws.specs.Borders.{HasPieces}

-- a side by the face on it
pub face_side : (s : Side) (k : ℕ) → face_on s ≡ Some k → s ≡ Face k
face_side Outside k e = absurd (cc)
face_side (Face x) k e = let same : x ≡ k = cc in ap Face same

abbrev pub no_step : Step
no_step = record { sub = Chord (record { row = 0; col = 0; upper = true }) 0; forward = true }

module _ (f : Field) (block : ℕ → ℕ → ℕ) (v : FacesView) (faces : AreFaces f block v) (pieces : HasPieces (borders (whole_mesh f block)) (whole_mesh f block).pieces) where
  abbrev pub mesh : Mesh
  mesh = whole_mesh f block

  abbrev pub face : Piece → ℕ
  face = face_in f v

  -- a piece of the mesh on a side, which is of this face and has the face's class and block
  pub record IsOn (side : Option Piece) (k : ℕ) : Type 0 where
    pub piece : Piece
    pub there : Contains mesh.pieces piece
    pub is : side ≡ Some piece
    pub of_face : face piece ≡ k
    pub kind_is : kind mesh piece ≡ (class_of v k, block_of v k)

  on_side : (s : Step) (k : ℕ) → In (drawn mesh) s.sub → option_map face (mesh.right_of s) ≡ Some k → IsOn (mesh.right_of s) k
  on_side s k i e =
      let q = mapped face (mesh.right_of s) k e in
      let there : Contains mesh.pieces q.0 = pieces.sides s q.0 (contains (steps_of mesh) s (listed mesh s (from_filter (is_drawn mesh) mesh.subs s.sub i).0)) q.1 in
      record {
        piece = q.0;
        there = there;
        is = q.1;
        of_face = q.2;
        kind_is = ap₂ (λ (K : Class) (b : ℕ). (K, b)) (sym (faces.classes q.0 there) ∙ ap (class_of v) q.2) (sym (faces.blocks q.0 there) ∙ ap (block_of v) q.2);
      }

  module _ (traces : List (List Step)) (arcs : List Arc) (draws : DrawsAll mesh traces) where
    -- on the right and on the left of each step of an arc's trace lies a piece of the arc's face on that side
    pub right_on : (a : Arc) (trace : List Step) (s : Step) (k : ℕ) → In traces trace → RunsAlong mesh face a trace → In trace s → a.right ≡ Face k → IsOn (mesh.right_of s) k
    right_on a trace s k i r j e = on_side s k (step_drawn mesh traces draws trace s i j) (All-contains (λ t. option_map face (mesh.right_of t) ≡ face_on a.right) trace s r.sides.rights (contains trace s j) ∙ ap face_on e)

    pub left_on : (a : Arc) (trace : List Step) (s : Step) (k : ℕ) → In traces trace → RunsAlong mesh face a trace → In trace s → a.left ≡ Face k → IsOn (left_of mesh s) k
    left_on a trace s k i r j e = on_side (back s) k (step_drawn mesh traces draws trace s i j) (All-contains (λ t. option_map face (left_of mesh t) ≡ face_on a.left) trace s r.sides.lefts (contains trace s j) ∙ ap face_on e)
