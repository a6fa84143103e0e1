use Rattle.std.proofs.Common.{◌≡◌, ◌++◌, ◌∷◌, [], length, take, drop, set, sym, ap, ap₂, subst₂, ◌∙◌, subst, arith}
use Rattle.std.proofs.lemmas.Grind.{common_steps}
use Rattle.mesh_definitions.specs.Blocks.{first_part, second_part}
use Rattle.mesh_definitions.specs.declared.Rect.{Rect}
use Rattle.tri_mesh.specs.Cells.{AreBlocks, BlocksView, view_of, rect_of, Renumbers}
use Rattle.tri_mesh.specs.Views.{blocks_view}
use Rattle.tri_mesh.proofs.Splitting.{few_blocks, splits, cut_rects, are_blocks}
use Rattle.tri_mesh.proofs.blocks.Blocks.halve.Goals as goal

pub overflow_cast-number : goal.overflow_cast-number
overflow_cast-number c = let k = few_blocks (blocks_view c.args.self.now) c.args.self.now.agree in omega (arith, k, c.len-number.ensures)

pub invariant_of-self-2 : goal.invariant_of-self-2
invariant_of-self-2 c =
    let v : BlocksView = blocks_view c.args.self.now in
    let h : AreBlocks v = c.args.self.now.agree in
    let k = c.args.block in
    let r : Rect = rect_of v k in
    let inside = h.blocks.inside k c.requires.known in
    let s = splits r inside.some_rows inside.some_cols c.requires.long in
    let found : c.index.result.now ≡ r = grind (arith, common_steps) in
    let first : c.halves.result.0 ≡ first_part r = c.halves.ensures.first ∙ ap first_part found in
    let second : c.halves.result.1 ≡ second_part r = c.halves.ensures.second ∙ ap second_part found in
    let items : c.push.new.self.items ≡ v.rects ++ second_part r ∷ [] = c.in_ok-push.ensures.items ∙ ap (λ x. v.rects ++ x ∷ []) second in
    let rects : set c.push.new.self.items k c.halves.result.0 ≡ cut_rects v.rects k (first_part r) (second_part r) = ap₂ (λ xs x. set xs k x) items first in
    let len : length c.renumber.new.numbers ≡ length v.numbers = c.renumber.ensures.len ∙ ap length c.deref_mut.ensures.value in
    let numbers : take c.args.self.now.numbers.len (c.renumber.new.numbers ++ drop (length c.renumber.new.numbers) c.args.self.now.numbers.items) ≡ c.renumber.new.numbers = grind (arith, common_steps, len) in
    let count : c.len-number.result ≡ length v.rects = omega (arith, c.len-number.ensures) in
    let cells : Renumbers v.numbers v.cols (second_part r) (length v.rects) c.renumber.new.numbers =
    subst (λ n. Renumbers v.numbers v.cols (second_part r) n c.renumber.new.numbers) count
    (subst (λ x. Renumbers v.numbers v.cols x c.len-number.result c.renumber.new.numbers) second
    (subst (λ ns. Renumbers ns v.cols c.halves.result.1 c.len-number.result c.renumber.new.numbers) c.deref_mut.ensures.value c.renumber.ensures.cells)) in
    record { agree = subst₂ (λ xs ns. AreBlocks (view_of v.rows v.cols xs ns)) (sym rects) (sym numbers) (are_blocks v h k c.requires.known (first_part r) (second_part r) s c.renumber.new.numbers len cells) }

pub returns-clause-cut : goal.returns-clause-cut
returns-clause-cut c =
    let v : BlocksView = blocks_view c.args.self.now in
    let k = c.args.block in
    let r : Rect = rect_of v k in
    let found : c.index.result.now ≡ r = grind (arith, common_steps) in
    let first : c.halves.result.0 ≡ first_part r = c.halves.ensures.first ∙ ap first_part found in
    let second : c.halves.result.1 ≡ second_part r = c.halves.ensures.second ∙ ap second_part found in
    let items : c.push.new.self.items ≡ v.rects ++ second_part r ∷ [] = c.in_ok-push.ensures.items ∙ ap (λ x. v.rects ++ x ∷ []) second in
    ap₂ (λ xs x. set xs k x) items first
