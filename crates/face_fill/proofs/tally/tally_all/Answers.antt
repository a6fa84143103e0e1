use Rattle.std.proofs.Common.{◌+◌, ◌++◌, sym, ap₂}
use Rattle.mesh_definitions.specs.declared.Rect.{Rect}
use Rattle.mesh_definitions.specs.declared.Way.TheVariants.{Across, Down, Slant}
use Rattle.std.specs.Prelude.{true, false, ◌∷◌, []}
use Rattle.face_fill.specs.Items.{tri_of}
use Rattle.face_fill.specs.TallyView.{mesh_by, number_by, parts_of, way_parts, chords_of, all_chords}
use Rattle.face_fill.proofs.Adding.{adds_then, adds_same, all_links, each_place_flat}
use Rattle.face_fill.proofs.tally.tally_all.Goals as goal

pub returns : goal.returns
returns c =
    let p = c.args.table.now in
    let r : Rect = p.nodes.rect in
    let m = mesh_by p in
    let number = number_by p c.args.numbers.now in
    let across = way_parts p Across (r.rows + 1) r.cols in
    let down = way_parts p Down r.rows (r.cols + 1) in
    let slant = way_parts p Slant r.rows r.cols in
    let chords = all_chords p r.rows in
    let all = adds_then m number ((across ++ down) ++ slant) chords c.args.tally.now c.tally_way-3.new.tally c.tally_chords.new.tally
    (adds_then m number (across ++ down) slant c.args.tally.now c.tally_way-2.new.tally c.tally_way-3.new.tally
    (adds_then m number across down c.args.tally.now c.tally_way.new.tally c.tally_way-2.new.tally c.tally_way.ensures c.tally_way-2.ensures) c.tally_way-3.ensures) c.tally_chords.ensures in
    adds_same m number (((across ++ down) ++ slant) ++ chords) m.subs c.args.tally.now c.tally_chords.new.tally
    (sym (ap₂ (λ a b. a ++ b) (all_links (parts_of p) r) (each_place_flat (chords_of p) (λ i j. tri_of i j true ∷ tri_of i j false ∷ []) r.row r.rows r.col r.cols))) all
