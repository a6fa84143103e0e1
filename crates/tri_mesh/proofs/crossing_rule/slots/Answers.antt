use Rattle.std.proofs.Common.{◌≡◌, ℕ, ◌≤◌, ◌+◌, ◌<◌, List, true, false, length, sym, ◌∙◌, subst}
use Rattle.std.specs.Prelude.{slice_index}
use Rattle.mesh_definitions.specs.Cuts.{Slope, slope, falls, slot_of, lattice_steps}
use Rattle.mesh_definitions.specs.Field.{Field}
use Rattle.depth_rounding.specs.Views.{levels_view}
use Rattle.tri_mesh.specs.Fields.{field_in, upwards, crossed}
use Rattle.tri_mesh.proofs.Crossings.{AreSlots, are_slots, crossing_few, falling, rising}
use Rattle.tri_mesh.proofs.crossing_rule.slots.Goals as goal

-- the slots of one slope are those of another that is the same
same : (f : Field) (s t : Slope) (count : ℕ) (into : List ℕ) → s ≡ t → length f.levels ≤ 20 → count ≡ crossed f s → count ≤ 20 → 32 ≤ lattice_steps f s → ((i : ℕ) → i < count → slice_index into i ≡ slot_of f s (i + 1)) → AreSlots f t count into
same f s t count into e most counted few several each = subst (λ r. AreSlots f r count into) e (are_slots f s count into counted few (crossing_few f s most) several each)

pub returns-then-is_deeper : goal.returns-then-is_deeper
returns-then-is_deeper c =
    let f : Field = field_in c.args.ch.now c.args.levels.now in
    let e : falls f c.args.edge.a c.args.edge.b ≡ true = sym (c.is_deeper.ensures (levels_view c.args.levels.now)) ∙ c.if-is_deeper.true in
    let k = c.slots_between in
    let s = same f (upwards c.args.edge.b c.args.edge.a) (slope f c.args.edge.a c.args.edge.b) k.result k.new.into (falling f c.args.edge.a c.args.edge.b e) c.args.levels.now.are_levels.few k.ensures.count k.ensures.few k.ensures.several k.ensures.each in
    record { count = s.counted; few = k.ensures.few; each = s.each; first = s.first; last = s.last; rising = s.rise }

pub returns-else-is_deeper : goal.returns-else-is_deeper
returns-else-is_deeper c =
    let f : Field = field_in c.args.ch.now c.args.levels.now in
    let e : falls f c.args.edge.a c.args.edge.b ≡ false = sym (c.is_deeper.ensures (levels_view c.args.levels.now)) ∙ c.if-is_deeper.false in
    let k = c.slots_between-else-is_deeper in
    let s = same f (upwards c.args.edge.a c.args.edge.b) (slope f c.args.edge.a c.args.edge.b) k.result k.new.into (rising f c.args.edge.a c.args.edge.b e) c.args.levels.now.are_levels.few k.ensures.count k.ensures.few k.ensures.several k.ensures.each in
    record { count = s.counted; few = k.ensures.few; each = s.each; first = s.first; last = s.last; rising = s.rise }
