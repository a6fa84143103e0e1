-- The clauses of a chart tried on the smallest one: edges but for the list of nodes, coverage, contours, pointers and the rest.
use Rattle.std.proofs.Common.{◌≡◌, ◌≢◌, ℕ, zero, suc, ◌<◌, pos, true, false, cond, eqb, List, [], ◌∷◌, length, get_or, AllPairs, Contains, refl, ap, sym, subst, arith, inl, inr, ⊎_elim}
use Rattle.std.proofs.lemmas.Int.{ints}
use Rattle.std.proofs.lemmas.List.Elements.{All-from_recursion}
use Rattle.std.specs.Prelude.{All, IsTrue, IsFalse, ◌≤◌}
use Rattle.mesh_definitions.specs.Edges.{IsFirstOf, IsJunction}
use Rattle.mesh_definitions.specs.Field.{Field, field_of}
use Rattle.mesh_definitions.specs.Rings.{is_exterior}
use Rattle.mesh_definitions.specs.declared.Step.{Step}
use Rattle.mesh_definitions.specs.declared.Sub.TheVariants.{Chord}
use Rattle.mesh_definitions.specs.declared.Way.TheVariants.{Down}
use Rattle.chart_definitions.specs.Areas.{HasOutline}
use Rattle.chart_definitions.specs.ChartOf.{mesh_in}
use Rattle.chart_definitions.specs.Contours.{HasContours, PartsBands, PartsBandsAt}
use Rattle.chart_definitions.specs.Coverage.{HasCoverage, HasText}
use Rattle.chart_definitions.specs.Edges.{FollowsTrace}
use Rattle.chart_definitions.specs.Meaning.{of_code}
use Rattle.chart_definitions.specs.Pointers.{HasPointers, HasRings, IsMarked, IsRingOf, IsRingPointer, run_along, run_of}
use Rattle.chart_definitions.specs.Rest.{HasTheRest, IsBeside, IsFeatureOf}
use Rattle.chart_definitions.specs.SoundEdges.{IsBorderOf, IsParted, OnOutline, times}
use Rattle.chart_definitions.specs.SoundEdges.IsParted.{Border}
use Rattle.chart_definitions.specs.SoundEdges.OnOutline.{West, East, North, South}
use Rattle.chart_definitions.proofs.Tries.{view, sheet, mesh, at, edge, border, covers, deep, sounding, chart, step, trace, head, order, outline, sloping, levelled}
use Rattle.chart_model.specs.Lines.{edge_segments}
use Rattle.chart_model.specs.declared.records.Connected.{Connected}
use Rattle.chart_model.specs.declared.records.Edge.{Edge}
use Rattle.chart_model.specs.declared.records.Feature.{Feature}
use Rattle.chart_model.specs.declared.records.Isolated.{Isolated}
use Rattle.plane_geom.specs.declared.Point.{Point}
use Rattle.s57_codes.specs.Catalogue.{objl_m_covr, prim_area, prim_line, prim_point}

abbrev traces : List (List Step)
traces = trace ∷ []

follows : FollowsTrace mesh chart edge trace
follows = record {
  first = at 0 0;
  begins = refl;
  last = at 0 0;
  ends = refl;
  along = record {
    some = omega arith;
    follows = refl;
    no_junction = All-from_recursion (λ p. ¬ (IsJunction mesh p)) edge.inner (two, (two, (two, tt)));
    ends = inr (refl, All-from_recursion (IsFirstOf (at 0 0)) edge.inner (refl, (refl, (refl, tt))));
  };
}
  where
    two : 3 ≤ 2 → ⊥
    two h = absurd (omega arith)

coverage : HasCoverage sheet.catzoc mesh 1 chart
coverage = record {
  one_each = refl;
  outlines = covered;
  available = All-from_recursion (HasText 18 (49 ∷ [])) (covers ∷ []) (refl, tt);
  quality = refl;
}
  where
    covered : (k : ℕ) (d : Feature) → k < 1 → HasOutline mesh chart mesh.block k (get_or (of_code objl_m_covr chart) k d)
    covered zero d l = outline
    covered (suc k) d l = absurd (omega arith)

rest : HasTheRest sheet chart
rest = record {
  header = head;
  order = order;
  features = All-from_recursion (IsFeatureOf sheet) chart.features (record { version = refl; agency = refl; name = (refl, refl) }, (record { version = refl; agency = refl; name = (refl, refl) }, (record { version = refl; agency = refl; name = (refl, refl) }, tt)));
  covers = All-from_recursion (IsBeside prim_area) (covers ∷ []) (record { prim_is = refl; group = refl }, tt);
  contours = All-from_recursion (IsBeside prim_line) [] tt;
  soundings = All-from_recursion (λ (f : Feature). IsBeside prim_point f × (f.attributes ≡ [])) (sounding ∷ []) ((record { prim_is = refl; group = refl }, refl), tt);
  isolated_versions = All-from_recursion (λ (n : Isolated). n.rver ≡ 1) chart.isolated (refl, tt);
  connected_versions = All-from_recursion (λ (k : Connected). k.rver ≡ 1) chart.connected (refl, tt);
  edge_versions = All-from_recursion (λ (e : Edge). e.rver ≡ 1) chart.edges (refl, tt);
  isolated_count = refl;
  connected_count = refl;
  edge_count = refl;
  feature_count = refl;
}

-- the first step of the one trace has nothing on its left
no_contour : (e : Edge) (b : ℕ) → ¬ (PartsBandsAt mesh traces chart b e)
no_contour e b h =
    let one : (edge, trace) ≡ (e, h.trace) = only h.there in
    let each : All (PartsBands mesh b) trace = subst (All (PartsBands mesh b)) (sym (ap (λ z. z.1) one)) h.each in
    none (each 0 (step Down 0 0 false) four)
  where
    only : {z : Edge × List Step} → Contains ((edge, trace) ∷ []) z → (edge, trace) ≡ z
    only {z} c = by_place c.0 c.1 c.2
      where
        by_place : (k : ℕ) → k < 1 → get_or ((edge, trace) ∷ []) k z ≡ z → (edge, trace) ≡ z
        by_place zero l e = e
        by_place (suc k) l e = absurd (omega arith)

    four : 0 < length trace
    four = omega arith

    none : PartsBands mesh b (step Down 0 0 false) → ⊥
    none k = ⊎_elim (λ a. let l = a.on_left in absurd (cc)) (λ a. let l = a.on_left in absurd (cc)) k.1

contours : HasContours sheet.levels mesh traces chart
contours = record {
  each = λ e b h. absurd (no_contour e b h);
  only = λ f h. absurd (omega (arith, h.1));
  once = λ i j d l m. absurd (omega arith);
}

four_points : AllPairs ◌≢◌ (at 0 0 ∷ at 0 32000 ∷ at 32000 32000 ∷ at 32000 0 ∷ [])
four_points i zero d l b = absurd (omega arith)
four_points zero (suc zero) d l b = λ e. let y : pos 0 ≡ pos 32000 = ap (λ (p : Point). p.y) e in absurd (omega (arith, ints, y))
four_points zero (suc (suc zero)) d l b = λ e. let y : pos 0 ≡ pos 32000 = ap (λ (p : Point). p.y) e in absurd (omega (arith, ints, y))
four_points zero (suc (suc (suc zero))) d l b = λ e. let x : pos 0 ≡ pos 32000 = ap (λ (p : Point). p.x) e in absurd (omega (arith, ints, x))
four_points (suc zero) (suc zero) d l b = absurd (omega arith)
four_points (suc zero) (suc (suc zero)) d l b = λ e. let x : pos 0 ≡ pos 32000 = ap (λ (p : Point). p.x) e in absurd (omega (arith, ints, x))
four_points (suc zero) (suc (suc (suc zero))) d l b = λ e. let x : pos 0 ≡ pos 32000 = ap (λ (p : Point). p.x) e in absurd (omega (arith, ints, x))
four_points (suc (suc zero)) (suc (suc (suc zero))) d l b = λ e. let y : pos 32000 ≡ pos 0 = ap (λ (p : Point). p.y) e in absurd (omega (arith, ints, y))
four_points i j d l b = absurd (omega arith)

ring : IsRingOf mesh traces chart (border ∷ [])
ring = record {
  closed = record { some = omega arith; closed = refl; simple = four_points };
  pointers = All-from_recursion (IsRingPointer mesh traces chart 1) (border ∷ []) (
    record {
      edge = edge;
      trace = trace;
      there = (0, omega arith, refl);
      record_is = refl;
      number = refl;
      way = inl refl;
      marked = All-from_recursion (λ s. IsMarked 1 border (run_of mesh s)) trace ((refl, refl), ((refl, refl), ((refl, refl), ((refl, refl), tt))));
    },
    tt,
  );
}

rings : (f : Feature) → f.pointers ≡ border ∷ [] → HasRings mesh traces chart f
rings f e = record {
  exterior = (border ∷ []) ∷ [];
  interior = [];
  in_order = e;
  outer = All-from_recursion (λ r. IsTrue (is_exterior (run_along chart r))) ((border ∷ []) ∷ []) (refl, tt);
  inner = All-from_recursion (λ r. IsFalse (is_exterior (run_along chart r))) [] tt;
  rings = All-from_recursion (IsRingOf mesh traces chart) ((border ∷ []) ∷ []) (ring, tt);
}

pointers : HasPointers mesh traces chart
pointers = record { areas = All-from_recursion (HasRings mesh traces chart) (deep ∷ []) (rings deep refl, tt); covers = All-from_recursion (HasRings mesh traces chart) (covers ∷ []) (rings covers refl, tt) }

-- the one edge runs along the outline of the coverage, and is the border of the one area
sides : All (IsParted (field_of view sheet.levels) mesh (λ p. 0) chart) chart.edges
sides = All-from_recursion (IsParted field mesh (λ p. 0) chart) chart.edges (Border along true 0 of_one, tt)
  where
    field : Field
    field = field_of view sheet.levels

    along : All (OnOutline field) (edge_segments chart edge)
    along = All-from_recursion (OnOutline field) (edge_segments chart edge) (West refl refl, (North refl refl, (East refl refl, (South refl refl, tt))))

    once : (i : ℕ) (d : Feature) → i < 1 → times true edge (get_or (deep ∷ []) i d) ≡ cond (eqb 0 i) 1 0
    once zero d l = refl
    once (suc i) d l = absurd (omega arith)

    never : (i : ℕ) (d : Feature) → i < 1 → times false edge (get_or (deep ∷ []) i d) ≡ 0
    never zero d l = refl
    never (suc i) d l = absurd (omega arith)

    of_one : IsBorderOf chart edge true 0
    of_one = record { first = omega arith; once = once; never = never }

-- a chord with an end on the outline doesn't run along it
inner_chord : ¬ (OnOutline (field_of sloping levelled.levels) ((mesh_in sloping levelled (λ i j. 0)).ends (Chord (record { row = 0; col = 0; upper = true }) 1)))
inner_chord (West a b) = let x : pos 16000 ≡ pos 0 = a in absurd (omega (arith, ints, x))
inner_chord (East a b) = let x : pos 16000 ≡ pos 32000 = a in absurd (omega (arith, ints, x))
inner_chord (North a b) = let y : pos 16000 ≡ pos 32000 = a in absurd (omega (arith, ints, y))
inner_chord (South a b) = let y : pos 16000 ≡ pos 0 = a in absurd (omega (arith, ints, y))
