use Rattle.std.proofs.Common.{◌≡◌, get_or, sym, ap, ◌∙◌, arith}
use Rattle.std.proofs.lemmas.List.{get_or_read}
use Rattle.mesh_definitions.specs.Field.{Field}
use Rattle.mesh_definitions.specs.declared.Rect.{Rect}
use Rattle.face_fill.specs.BandTableView.{field_by}
use Rattle.face_fill.specs.Ends.{count_surveyed, count_unsurveyed}
use Rattle.face_fill.specs.Places.{place_below}
use Rattle.tri_mesh.specs.TriNumbers.{place_in}
use Rattle.face_fill.proofs.Known.{ends_known, ends_unknown}
use Rattle.face_fill.proofs.tables.PieceTable.seat.Goals as goal

pub index-start-requires : goal.index-start-requires
index-start-requires c =
    let p = c.args.self.now in
    omega (arith, c.tri_number-place.ensures, place_below p.nodes.rect c.args.tri c.requires.inside, c.requires.whole.items.each_start, p.items.starts.ok.0)

pub returns-in-Some-clause-seat : goal.returns-in-Some-clause-seat
returns-in-Some-clause-seat c =
    let p = c.args.self.now in
    let f : Field = field_by p.nodes in
    let r : Rect = p.nodes.rect in
    let l = place_below r c.args.tri c.requires.inside in
    let start : c.index-start.result.now ≡ get_or p.items.starts.items (place_in r c.args.tri) 0 = get_or_read p.items.starts.items c.tri_number-place.result c.index-start.result.now (omega (arith, c.tri_number-place.ensures, l, c.requires.whole.items.each_start)) c.index-start.ensures 0 ∙ ap (λ k. get_or p.items.starts.items k 0) c.tri_number-place.ensures in
    let k = ends_known f c.args.tri c.in-Some.ends (sym c.ends.ensures ∙ c.in-Some.is) in
    record {
      inside = c.requires.inside;
      start = start;
      first = k.1 ∙ sym (count_surveyed f c.args.tri k.0).0;
      surveyed = sym k.0;
    }

pub returns-in-None-clause-seat : goal.returns-in-None-clause-seat
returns-in-None-clause-seat c =
    let p = c.args.self.now in
    let f : Field = field_by p.nodes in
    let r : Rect = p.nodes.rect in
    let l = place_below r c.args.tri c.requires.inside in
    let start : c.index-start.result.now ≡ get_or p.items.starts.items (place_in r c.args.tri) 0 = get_or_read p.items.starts.items c.tri_number-place.result c.index-start.result.now (omega (arith, c.tri_number-place.ensures, l, c.requires.whole.items.each_start)) c.index-start.ensures 0 ∙ ap (λ k. get_or p.items.starts.items k 0) c.tri_number-place.ensures in
    let k = ends_unknown f c.args.tri (sym c.ends.ensures ∙ c.in-None.is) in
    record {
      inside = c.requires.inside;
      start = start;
      first = sym (count_unsurveyed f c.args.tri k).0;
      surveyed = sym k;
    }
