use Rattle.std.proofs.Common.{◌∙◌, ◌<◌, All, Global, Vec, ap, arith, length, map, subst, sym}
use Rattle.std.specs.List.{range_with_len}
use Rattle.std.proofs.lemmas.List.FromFn.{get_or-range_with_len, length-range_with_len}
use Rattle.std.proofs.lemmas.Result.{IfOk-weaker}
use Rattle.boundary_arcs.specs.Views.{arcs_view}
use Rattle.ring_builder.proofs.Building.{own_number, same_rings}
use Rattle.ring_builder.proofs.Meshes.{bound_faces, faces_have_exteriors}
use Rattle.ring_builder.proofs.sets.rings.Goals as goal
use Rattle.ring_builder.specs.Parts.{numbers}
use Rattle.ring_builder.specs.Rings.{BoundFaces, FacesHaveExteriors, HasRings}
use Rattle.ring_builder.specs.declared.ring.Ring.{Ring}

pub set_rings-requires-clause-as_many : goal.set_rings-requires-clause-as_many
set_rings-requires-clause-as_many c =
    ap length (c.deref.ensures.value ∙ c.in_ok-owners.ensures) ∙ length-range_with_len 0 c.faces-faces.result ∙ c.faces-faces.ensures

pub set_rings-requires-clause-below : goal.set_rings-requires-clause-below
set_rings-requires-clause-below c =
    let n = c.faces-faces.result in
    subst (All (λ o. o < n)) (sym (c.deref.ensures.value ∙ c.in_ok-owners.ensures))
    (λ k d l. let m : k < n = omega (arith, l, length-range_with_len 0 n) in omega (arith, m, get_or-range_with_len 0 n k d m))

pub returns-clause-rings : goal.returns-clause-rings
returns-clause-rings c =
    let v = arcs_view c.args.arcs.now in
    let e = c.faces-faces.ensures in
    let own = c.deref.ensures.value ∙ c.in_ok-owners.ensures ∙ ap (range_with_len 0) e in
    IfOk-weaker c.set_rings.result
    (λ all. HasRings v.arcs (numbers c.deref.result.now) c.faces-faces.result (map (λ (v : Vec Ring Global). v.items) all.items))
    (λ all. HasRings v.arcs (λ face. face) v.faces (map (λ (v : Vec Ring Global). v.items) all.items))
    (λ all h. same_rings v.arcs v.faces (numbers c.deref.result.now) (λ face. face) (λ x l. own_number c.deref.result.now v.faces x own l) c.args.arcs.now.agree.sides v.faces (map (λ (v : Vec Ring Global). v.items) all.items)
    (subst (λ n. HasRings v.arcs (numbers c.deref.result.now) n (map (λ (v : Vec Ring Global). v.items) all.items)) e h))
    c.set_rings.ensures.rings

pub returns-clause-boundaries : goal.returns-clause-boundaries
returns-clause-boundaries c =
    let v = arcs_view c.args.arcs.now in
    IfOk-weaker c.set_rings.result
    (λ all. HasRings v.arcs (λ face. face) v.faces (map (λ (v : Vec Ring Global). v.items) all.items))
    (λ all. BoundFaces v.arcs v.faces (map (λ (v : Vec Ring Global). v.items) all.items))
    (λ all h. bound_faces c.face_laws.ensures.apart v.arcs v.faces (map (λ (v : Vec Ring Global). v.items) all.items) h)
    (returns-clause-rings c)

pub returns-clause-exterior : goal.returns-clause-exterior
returns-clause-exterior c =
    let v = arcs_view c.args.arcs.now in
    IfOk-weaker c.set_rings.result
    (λ all. HasRings v.arcs (λ face. face) v.faces (map (λ (v : Vec Ring Global). v.items) all.items))
    (λ all. FacesHaveExteriors v.arcs v.faces (map (λ (v : Vec Ring Global). v.items) all.items))
    (λ all h. faces_have_exteriors c.exterior_rings.ensures.rings c.face_laws.ensures.apart v.arcs v.faces (map (λ (v : Vec Ring Global). v.items) all.items) h)
    (returns-clause-rings c)
