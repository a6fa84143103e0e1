-- Areas are of two kinds, and no sounding is deeper than its node.
use Rattle.std.proofs.Common.{◌≡◌, ℕ, ℤ, pos, ◌+◌, ◌*◌, ◌*ℤ◌, ◌<◌, ◌≤◌, ◌≤ℤ◌, List, Option, Some, None, length, flat_map, get_or, Contains, ap, sym, subst, refl, inl, inr, ⊎_elim}
use Rattle.std.proofs.lemmas.Bool.{cases_lt}
use Rattle.std.proofs.lemmas.List.{get_or_past}
use Rattle.std.proofs.lemmas.List.Elements.{All-map, Contains-get_or}
use Rattle.std.specs.Prelude.{All, unwrap_or}
use Rattle.mesh_definitions.specs.Field.{IsGeneralised, field_of}
use Rattle.mesh_definitions.specs.Pieces.{Mesh}
use Rattle.mesh_definitions.specs.declared.Class.TheVariants.{Unsurveyed, Band}
use Rattle.mesh_definitions.specs.declared.Class.{Class}
use Rattle.mesh_definitions.specs.declared.Piece.{Piece}
use Rattle.chart_definitions.specs.Areas.{HasAreas, IsAreaOf}
use Rattle.chart_definitions.specs.Soundings.{HasSoundings, sounding_at}
use Rattle.chart_definitions.specs.Truth.{IsDepthOrUnsurveyed, IsNoDeeper, IsSource}
use Rattle.chart_model.specs.Areas.{areas}
use Rattle.chart_model.specs.Tally.{soundings_of}
use Rattle.chart_model.specs.declared.records.Feature.{Feature}
use Rattle.chart_model.specs.declared.records.Parts.{Parts}
use Rattle.depth_grid.specs.Grid.{GridView}
use Rattle.depth_grid.specs.declared.node.NodeId.{NodeId}
use Rattle.rule_sheet.specs.Values.{SheetView}
use Rattle.shoal_buffer.specs.Charted.{ChartedView, AreShoaled, IsShoaled, IsShoaledAt}
use Rattle.sounding_select.specs.Selection.{charted_depth}

of_kind : (v : ChartedView) (levels : List ℤ) (K : Class) (a : Feature) → IsAreaOf v levels K a → IsDepthOrUnsurveyed a
of_kind v levels Unsurveyed a h = inr h
of_kind v levels (Band b) a h = inl (h.0, h.1, h.3)

pub areas_have_kinds : (v : ChartedView) (levels : List ℤ) (m : Mesh) (face : Piece → ℕ) (c : Parts) → HasAreas v levels m face c → All IsDepthOrUnsurveyed (areas c)
areas_have_kinds v levels m face c have k d l =
    let p = have.one_each.used k l in
    subst (λ n. IsDepthOrUnsurveyed (get_or (areas c) n d)) p.2 (of_kind v levels (m.class p.0) (get_or (areas c) (face p.0) d) (have.classes p.0 d p.1))

-- what is found in a list stands below its end
pub found_below : (xs : List (Option ℤ)) (k : ℕ) (x : ℤ) → get_or xs k None ≡ Some x → k < length xs
found_below xs k x e = ⊎_elim (λ l. l) (λ (past : length xs ≤ k). absurd (let none : get_or xs k None ≡ None = get_or_past xs k None past in cc)) (cases_lt k (length xs))

-- an opened depth is charted no deeper
pub charted_from : (step_from steps : List ℤ) (opened charted : List (Option ℤ)) (k : ℕ) (m : ℤ) → AreShoaled step_from steps opened charted → get_or opened k None ≡ Some m → (x : ℤ) × (get_or charted k None ≡ Some x) × IsShoaled step_from steps m x
charted_from step_from steps opened charted k m h e = subst (λ o. IsShoaledAt step_from steps o (get_or charted k None)) e (h.each k (found_below opened k m e))

sounding_no_deeper : (g : GridView) (s : SheetView) (v : ChartedView) (c : Parts) (n : NodeId) → IsGeneralised g s.aspect s.disc_radius s.step_from s.steps v → (have : HasSoundings v s c) → Contains have.chosen n → IsNoDeeper g (field_of v s.levels) (sounding_at v s n)
sounding_no_deeper g s v c n gen have i =
    let candidate = ((have.selected.exactly n).0 i).0 in
    let d = candidate.kept.0 in
    let source : IsSource v.grid n d = record { row_in = candidate.row_in; col_in = candidate.col_in; depth = candidate.kept.1 } in
    let x = charted_from s.step_from s.steps v.opened v.charted (n.row * length v.grid.xs + n.col) d gen.charted candidate.kept.2 in
    let same : charted_depth v n ≡ x.0 = ap (λ o. unwrap_or o (pos 0)) x.1 in
    record { node = n; found = d; source = subst (λ z. IsSource z n d) gen.grid source; stands = refl; no_deeper = subst (λ z. (pos 100 *ℤ z) ≤ℤ d) (sym same) x.2.shoalest.no_deeper }

pub soundings_no_deeper : (g : GridView) (s : SheetView) (v : ChartedView) (c : Parts) → IsGeneralised g s.aspect s.disc_radius s.step_from s.steps v → HasSoundings v s c → All (IsNoDeeper g (field_of v s.levels)) (flat_map soundings_of c.isolated)
soundings_no_deeper g s v c gen have =
    let each : All (λ n. IsNoDeeper g (field_of v s.levels) (sounding_at v s n)) have.chosen = λ k d l. sounding_no_deeper g s v c (get_or have.chosen k d) gen have (Contains-get_or have.chosen k d l) in
    subst (All (IsNoDeeper g (field_of v s.levels))) (sym have.points) (All-map (IsNoDeeper g (field_of v s.levels)) (sounding_at v s) have.chosen each)
