use Rattle.std.proofs.Common.{◌≡◌, ℕ, cond, sym, ap, ap₂, ◌∙◌}
use Rattle.mesh_definitions.specs.Field.{Field}
use Rattle.mesh_definitions.specs.Mesh.{surveyed}
use Rattle.mesh_definitions.specs.declared.Class.TheVariants.{Unsurveyed, Band}
use Rattle.mesh_definitions.specs.declared.Class.{Class}
use Rattle.face_fill.specs.BandTableView.{field_by}
use Rattle.face_fill.specs.Ends.{count_surveyed}
use Rattle.face_fill.specs.Numbered.{first_band}
use Rattle.face_fill.proofs.Known.{count_from_ends, ends_known}
use Rattle.face_fill.proofs.piece_table.look_at.Goals as goal

pub returns-in-Some-clause-look : goal.returns-in-Some-clause-look
returns-in-Some-clause-look c =
    let f : Field = field_by c.args.nodes.now in
    let t = c.args.tri in
    let e = sym c.ends.ensures ∙ c.in-Some.is in
    let k = ends_known f t c.in-Some.ends e in
    let class : cond (surveyed f t) (Band (first_band f t)) Unsurveyed ≡ Band c.in-Some.ends.least =
    ap (λ s. cond s (Band (first_band f t)) Unsurveyed) k.0 ∙ ap Band ((count_surveyed f t k.0).0 ∙ sym k.1) in
    record {
      count = count_from_ends f t c.in-Some.ends e;
      first = ap₂ (λ a b. let x : Class × ℕ = (a, b) in x) class (sym c.block_of-block.ensures);
    }
