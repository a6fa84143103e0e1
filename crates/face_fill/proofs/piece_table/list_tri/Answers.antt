use Rattle.std.proofs.Common.{◌≡◌, ◌+◌, ◌-◌, [], ◌∷◌, ◌++◌, length, refl, sym, ap, ap₂, ◌∙◌, subst, arith}
use Rattle.std.specs.Prelude.{replicate, vec_len}
use Rattle.std.proofs.lemmas.List.{take_all}
use Rattle.mesh_definitions.specs.Field.{Field}
use Rattle.face_fill.specs.BandTableView.{field_by}
use Rattle.face_fill.specs.Items.{AreItems, count_at}
use Rattle.face_fill.specs.PieceTableView.{block_by}
use Rattle.face_fill.specs.Places.{place_below, tri_placed}
use Rattle.mesh_definitions.specs.Pieces.{pieces_of}
use Rattle.tri_mesh.specs.TriNumbers.{tri_at}
use Rattle.face_fill.proofs.Runs.{few_triangles, items_more, run_on}
use Rattle.face_fill.proofs.piece_table.list_tri.Goals as goal

pub overflow_cast-next : goal.overflow_cast-next
overflow_cast-next c =
    let n = c.args.nodes.now in
    omega (arith, c.len-next.ensures, c.args.items.now.owners.ok.0, c.requires.listed.few, c.requires.place, place_below n.rect c.args.tri c.requires.inside, few_triangles (field_by n) n.rect n.bands.items c.requires.nodes)

pub overflow_cast-next-else-goes_on : goal.overflow_cast-next-else-goes_on
overflow_cast-next-else-goes_on c =
    let n = c.args.nodes.now in
    omega (arith, c.len-next.ensures, c.args.items.now.owners.ok.0, c.requires.listed.few, c.requires.place, place_below n.rect c.args.tri c.requires.inside, few_triangles (field_by n) n.rect n.bands.items c.requires.nodes)

pub overflow_cast-place : goal.overflow_cast-place
overflow_cast-place c =
    let n = c.args.nodes.now in
    omega (arith, c.requires.place, place_below n.rect c.args.tri c.requires.inside, few_triangles (field_by n) n.rect n.bands.items c.requires.nodes)

pub returns-in_ok-push-2-clause-listed : goal.returns-in_ok-push-2-clause-listed
returns-in_ok-push-2-clause-listed c =
    let n = c.args.nodes.now in
    let f : Field = field_by n in
    let block = block_by c.args.blocks in
    let items = c.args.items.now in
    let size : c.len-next.result ≡ length items.owners.items = omega (arith, c.len-next.ensures, items.owners.ok.0) in
    let h = run_on f n.rect block c.args.place items c.args.before c.args.tri c.look_at-look.result c.requires.listed c.requires.inside c.requires.place c.requires.before (c.if-goes_on.ensures refl) c.look_at-look.ensures.look in
    subst (λ ss. AreItems f n.rect block (c.args.place + 1) ss c.push.new.self.items items.owners.items) (sym c.in_ok-push-2.ensures.items)
    (subst (λ cs. AreItems f n.rect block (c.args.place + 1) (items.starts.items ++ (c.len-next.result - 1) ∷ []) cs items.owners.items) (sym c.in_ok-push.ensures.items)
    (subst (λ k. AreItems f n.rect block (c.args.place + 1) (items.starts.items ++ (k - 1) ∷ []) (items.counts.items ++ c.look_at-look.result.count ∷ []) items.owners.items) (sym size) h))

pub returns-in_ok-resize-clause-listed : goal.returns-in_ok-resize-clause-listed
returns-in_ok-resize-clause-listed c =
    let n = c.args.nodes.now in
    let f : Field = field_by n in
    let block = block_by c.args.blocks in
    let items = c.args.items.now in
    let count = c.look_at-look.result.count in
    let size : c.len-next.result ≡ length items.owners.items = omega (arith, c.len-next.ensures, items.owners.ok.0) in
    let here : tri_at n.rect c.args.place ≡ c.args.tri = ap (tri_at n.rect) c.requires.place ∙ tri_placed n.rect c.args.tri c.requires.inside in
    let same : count ≡ count_at f n.rect c.args.place = c.look_at-look.ensures.look.count ∙ sym (ap (λ t. length (pieces_of f t)) here) in
    let owners : c.resize.new.self.items ≡ items.owners.items ++ replicate count c.args.place =
    c.in_ok-resize.ensures.items ∙ ap₂ (λ a b. a ++ b) (take_all (c.len-next.result + count) items.owners.items (omega (arith, size))) (ap (λ k. replicate k c.args.place) (let e : c.len-next.result + count - vec_len items.owners ≡ count = omega (arith, c.len-next.ensures) in e)) in
    let h = items_more f n.rect block c.args.place items.starts.items items.counts.items items.owners.items c.requires.listed count same c.look_at-look.ensures.few in
    subst (λ ss. AreItems f n.rect block (c.args.place + 1) ss c.push.new.self.items c.resize.new.self.items) (sym c.in_ok-push-3.ensures.items)
    (subst (λ cs. AreItems f n.rect block (c.args.place + 1) (items.starts.items ++ c.len-next.result ∷ []) cs c.resize.new.self.items) (sym c.in_ok-push.ensures.items)
    (subst (λ os. AreItems f n.rect block (c.args.place + 1) (items.starts.items ++ c.len-next.result ∷ []) (items.counts.items ++ count ∷ []) os) (sym owners)
    (subst (λ k. AreItems f n.rect block (c.args.place + 1) (items.starts.items ++ k ∷ []) (items.counts.items ++ count ∷ []) (items.owners.items ++ replicate count c.args.place)) (sym size) h)))
