-- What lies on the two sides of a drawn sub-segment: it differs.
use Rattle.std.proofs.Common.{◌≡◌, Bool, true, false, ◌&&◌, not, eqb, Option, Some, None, List, refl, ap, ap₂, sym, subst, eq-eqb}
use Rattle.std.proofs.lemmas.Bool.{false≢true}
use Rattle.mesh_definitions.specs.Edges.{DrawsAll}
use Rattle.mesh_definitions.specs.Faces.{is_drawn, kind, same_class, same_kind}
use Rattle.mesh_definitions.specs.Pieces.{Mesh, ahead, left_of}
use Rattle.mesh_definitions.specs.declared.Class.TheVariants.{Unsurveyed, Band}
use Rattle.mesh_definitions.specs.declared.Class.{Class}
use Rattle.mesh_definitions.specs.declared.Piece.{Piece}
use Rattle.mesh_definitions.specs.declared.Step.{Step}
use Rattle.mesh_definitions.specs.declared.Sub.{Sub}
use Rattle.chart_definitions.specs.Contours.{side_kind}
use Rattle.tiling_laws.proofs.Lines.{step_drawn}
use Rattle.tiling_laws.specs.EdgeLines.{SidesDiffer}
use Rattle.plane_laws.proofs.Lists.{from_filter}
use Rattle.plane_laws.proofs.Members.{In}

class_itself : (K : Class) → same_class K K ≡ true
class_itself Unsurveyed = refl
class_itself (Band b) = eq-eqb b b refl

-- pieces whose kinds are the same pass the test
same : (m : Mesh) (x y : Option Piece) → side_kind m x ≡ side_kind m y → same_kind m x y ≡ true
same m None None e = refl
same m None (Some q) e = absurd (cc)
same m (Some p) None e = absurd (cc)
same m (Some p) (Some q) e =
    let k : kind m p ≡ kind m q = cc in
    let class : same_class (m.class p) (m.class q) ≡ true = subst (λ z. same_class (m.class p) z.0 ≡ true) k (class_itself (m.class p)) in
    let block : eqb (m.block p) (m.block q) ≡ true = eq-eqb (m.block p) (m.block q) (ap (λ z. z.1) k) in
    ap₂ (λ a b. a && b) class block

not_true : (b : Bool) → not b ≡ true → b ≡ true → ⊥
not_true true e f = false≢true e
not_true false e f = false≢true f

pub traces_part : (m : Mesh) (traces : List (List Step)) → DrawsAll m traces → (trace : List Step) (s : Step) → In traces trace → In trace s → SidesDiffer m s
traces_part m traces h trace s i j = go s.sub s.forward (from_filter (is_drawn m) m.subs s.sub (step_drawn m traces h trace s i j)).1
  where
    go : (u : Sub) (b : Bool) → is_drawn m u ≡ true → SidesDiffer m (record { sub = u; forward = b })
    go u true d e = not_true (same_kind m (m.right_of (ahead u)) (left_of m (ahead u))) d (same m (m.right_of (ahead u)) (left_of m (ahead u)) e)
    go u false d e = not_true (same_kind m (m.right_of (ahead u)) (left_of m (ahead u))) d (same m (m.right_of (ahead u)) (left_of m (ahead u)) (sym e))
