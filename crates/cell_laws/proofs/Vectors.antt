-- A record of a node or an edge that is written adds that node or edge.
use Rattle.std.proofs.Common.{◌≡◌, ℕ, true, false, ◌&&◌, ◌||◌, eqb, List, [], ◌∷◌, ◌++◌, map, Some, Ok, refl, ap, ap₂, ◌∙◌, arith}
use Rattle.std.specs.Prelude.{IsTrue}
use Rattle.std.proofs.lemmas.Bool.{and_from, false≢true}
use Rattle.std.proofs.lemmas.List.Elements.{All-cons}
use Rattle.chart_model.specs.Whole.{has_some}
use Rattle.chart_model.specs.declared.records.Connected.{Connected}
use Rattle.chart_model.specs.declared.records.Edge.{Edge}
use Rattle.chart_model.specs.declared.records.Isolated.{Isolated}
use Rattle.chart_model.specs.declared.records.Shape.{Shape}
use Rattle.chart_model.specs.declared.records.Shape.TheVariants.{One, Soundings}
use Rattle.chart_model.specs.declared.records.Sounding.{Sounding}
use Rattle.iso8211_codec.specs.Reading.{Seen, seen}
use Rattle.plane_geom.specs.declared.Point.{Point}
use Rattle.s57_records.specs.Fields.{vrid, vrpt, vrpt_values, sg2d}
use Rattle.readings.specs.Finds.{◌>>=◌}
use Rattle.s57_records.specs.Formats.{field_of, AllFit}
use Rattle.s57_records.specs.Law.{FieldLaws}
use Rattle.s57_records.specs.declared.pointer.Vrpt.{Vrpt}
use Rattle.s57_codes.specs.Catalogue.{tag_0001, tag_sg2d, tag_sg3d, tag_vrid, tag_vrpt}
use Rattle.record_values.specs.Fields.{are_whole, only, the_one}
use Rattle.record_values.specs.Groups.{points, soundings, ends}
use Rattle.record_values.specs.Vectors.{shape_of, is_known, isolated_of, connected_of, edge_of}
use Rattle.cell_reader.specs.Identifiers.{vector_identifier, vector_in}
use Rattle.cell_reader.specs.Records.{ReadRecords, vector, add_vector, after_record}
use Rattle.cell_writer.specs.Layout.{id, vector as vector_part, isolated_parts, connected_parts, edge_parts, vector_values, point_values}
use Rattle.cell_writer.specs.Sized.{IsolatedFits, ConnectedFits, EdgeFits, ShapeFits}
use Rattle.s57_records.specs.declared.vrid.Vrid.{Vrid}
use Rattle.cell_laws.proofs.Seeing.{with_body, id_body, led}
use Rattle.cell_laws.proofs.Places.{Gives, AreFitting, place_parts, places_give}

-- a body of VRID that is read as this identifier
pub record Identifies (body : List ℕ) (v : Vrid) : Type 0 where
  pub known : is_known body ≡ true
  pub read : vector_in body ≡ Some v

-- the identifier that is written
abbrev identifier : ℕ → ℕ → ℕ → Vrid
identifier rcnm rcid rver = record { rcnm = rcnm; rcid = rcid; rver = rver; ruin = 1 }

-- the tests of vector records, one after the other
tests_pass : (at : ℕ) (fields : List Seen) (d : ReadRecords) (id body : List ℕ) (v : Vrid) → only tag_0001 fields ≡ Some id → only tag_vrid fields ≡ Some body → Identifies body v
    → (are_whole 9 tag_vrpt fields && (are_whole 8 tag_sg2d fields && are_whole 12 tag_sg3d fields)) ≡ true → vector at fields d ≡ add_vector at v fields d
unfolding vector
tests_pass at fields d id body v i b says whole = rw (i, b, says.known, says.read, whole) refl

-- what is seen of a vector record: 0001, VRID and the others
abbrev fields_with : List ℕ → List ℕ → List Seen → List Seen
fields_with id body rest = with_body tag_0001 id ∷ with_body tag_vrid body ∷ rest

-- a vector record passes the tests of its kind and values, and what is left is to place it
vector_taken : (at : ℕ) (id body : List ℕ) (v : Vrid) (rest : List Seen) (d : ReadRecords) (es : List Vrpt) (ps : List Point) (ss : List Sounding) → Identifies body v → Gives rest es ps ss
    → after_record at (fields_with id body rest) d ≡ add_vector at v (fields_with id body rest) d
unfolding after_record
vector_taken at id body v rest d es ps ss says g =
    tests_pass at (fields_with id body rest) d id body v (ap (λ l. the_one (id ∷ l)) g.no_id) (ap (λ l. the_one (body ∷ l)) g.no_identifier) says
    (and_from (are_whole 9 tag_vrpt rest) _ g.whole_ends (and_from (are_whole 8 tag_sg2d rest) (are_whole 12 tag_sg3d rest) g.whole_points g.whole_soundings))

-- ---- what a record adds, by its RCNM

isolated_placed : (at : ℕ) (v : Vrid) (fields : List Seen) (d : ReadRecords) (node : Isolated) → eqb v.rcnm 110 ≡ true → isolated_of v (points fields) (soundings fields) ≡ Some node
    → add_vector at v fields d ≡ Ok (record d { isolated = d.isolated ++ node ∷ [] })
unfolding add_vector
isolated_placed at v fields d node kind of = rw (kind, of) refl

connected_placed : (at : ℕ) (v : Vrid) (fields : List Seen) (d : ReadRecords) (node : Connected) → eqb v.rcnm 110 ≡ false → eqb v.rcnm 120 ≡ true → connected_of v (points fields) (soundings fields) ≡ Some node
    → add_vector at v fields d ≡ Ok (record d { connected = d.connected ++ node ∷ [] })
unfolding add_vector
connected_placed at v fields d node other kind of = rw (other, kind, of) refl

edge_placed : (at : ℕ) (v : Vrid) (fields : List Seen) (d : ReadRecords) (edge : Edge) → eqb v.rcnm 110 ≡ false → eqb v.rcnm 120 ≡ false → edge_of v (ends fields) (points fields) (soundings fields) ≡ Some edge
    → add_vector at v fields d ≡ Ok (record d { edges = d.edges ++ edge ∷ [] })
unfolding add_vector
edge_placed at v fields d edge other others of = rw (other, others, of) refl

-- ---- the records that are written

-- a VRID that is written is read as it was written
identifies : (laws : FieldLaws) (rcnm rcid rver : ℕ) → (eqb rcnm 110 || (eqb rcnm 120 || eqb rcnm 130)) ≡ true → AllFit vrid (vector_values rcnm rcid rver) → Identifies (field_of vrid (vector_values rcnm rcid rver)) (identifier rcnm rcid rver)
identifies laws rcnm rcid rver known fit = record { known = known; read = ap (λ o. o >>= vector_identifier) (laws.reads_back vrid (vector_values rcnm rcid rver) fit) }

-- an isolated node with a shape
isolated_by : (v : Vrid) (ps : List Point) (ss : List Sounding) (shape : Shape) → shape_of ps ss ≡ Some shape → isolated_of v ps ss ≡ Some (record { rcid = v.rcid; rver = v.rver; shape = shape })
isolated_by v ps ss shape is = rw is refl

-- the end of an edge that a pointer names
abbrev end_for : ℕ → ℕ → Vrpt
end_for topi rcid = record { rcnm = 120; rcid = rcid; ornt = 255; usag = 255; topi = topi; mask = 255 }

-- what is seen of a record that is written with this identifier, and with these pointers, points and soundings
abbrev written : ℕ → ℕ → ℕ → ℕ → List Vrpt → List Point → List Sounding → List Seen
written n rcnm rcid rver es ps ss = fields_with (id_body n) (field_of vrid (vector_values rcnm rcid rver)) (map seen (place_parts es ps ss))

-- the lists of a node with one point
one_point : (p : Point) → AllFit sg2d (point_values p) → AreFitting [] (p ∷ []) []
one_point p fit = record { ends = λ k e h. absurd (omega arith); points = All-cons (λ (q : Point). AllFit sg2d (point_values q)) p [] fit (λ k q h. absurd (omega arith)); soundings = λ k s h. absurd (omega arith) }

module _ (laws : FieldLaws) (at n : ℕ) where
  -- the record that is written is added by its identifier
  vector_read : (rcnm rcid rver : ℕ) (es : List Vrpt) (ps : List Point) (ss : List Sounding) (d : ReadRecords) → (eqb rcnm 110 || (eqb rcnm 120 || eqb rcnm 130)) ≡ true → AllFit vrid (vector_values rcnm rcid rver) → AreFitting es ps ss
      → after_record at (map seen (id n ∷ vector_part rcnm rcid rver ∷ place_parts es ps ss)) d ≡ add_vector at (identifier rcnm rcid rver) (written n rcnm rcid rver es ps ss) d
  vector_read rcnm rcid rver es ps ss d known fit fits =
      ap (λ fields. after_record at fields d) (led tag_vrid vrid (vector_values rcnm rcid rver) n (place_parts es ps ss) refl)
      ∙ vector_taken at (id_body n) (field_of vrid (vector_values rcnm rcid rver)) (identifier rcnm rcid rver) (map seen (place_parts es ps ss)) d es ps ss (identifies laws rcnm rcid rver known fit) (places_give laws es ps ss fits)

  -- where the lists are those of a shape, it is an isolated node
  isolated_read : (rcid rver : ℕ) (shape : Shape) (ps : List Point) (ss : List Sounding) (d : ReadRecords) → AllFit vrid (vector_values 110 rcid rver) → AreFitting [] ps ss → shape_of ps ss ≡ Some shape
      → after_record at (map seen (id n ∷ vector_part 110 rcid rver ∷ place_parts [] ps ss)) d ≡ Ok (record d { isolated = d.isolated ++ record { rcid = rcid; rver = rver; shape = shape } ∷ [] })
  isolated_read rcid rver shape ps ss d fit fits is =
      let v = identifier 110 rcid rver in
      let g = places_give laws [] ps ss fits in
      vector_read 110 rcid rver [] ps ss d refl fit fits
      ∙ isolated_placed at v (written n 110 rcid rver [] ps ss) d (record { rcid = rcid; rver = rver; shape = shape }) refl (ap₂ (isolated_of v) g.points_are g.soundings_are ∙ isolated_by v ps ss shape is)

  -- one point, or soundings
  by_shape : (rcid rver : ℕ) (shape : Shape) (d : ReadRecords) → AllFit vrid (vector_values 110 rcid rver) → ShapeFits shape → IsTrue (has_some (record { rcid = rcid; rver = rver; shape = shape }))
      → after_record at (map seen (isolated_parts n (record { rcid = rcid; rver = rver; shape = shape }))) d ≡ Ok (record d { isolated = d.isolated ++ record { rcid = rcid; rver = rver; shape = shape } ∷ [] })
  by_shape rcid rver (One p) d fit fits some = isolated_read rcid rver (One p) (p ∷ []) [] d fit (one_point p fits) refl
  by_shape rcid rver (Soundings []) d fit fits some = absurd (false≢true some)
  by_shape rcid rver (Soundings (s ∷ ss)) d fit fits some =
      let fitting : AreFitting [] [] (s ∷ ss) = record { ends = λ k e h. absurd (omega arith); points = λ k p h. absurd (omega arith); soundings = fits } in
      isolated_read rcid rver (Soundings (s ∷ ss)) [] (s ∷ ss) d fit fitting refl

  -- the record of an isolated node adds the node
  pub isolated_taken : (node : Isolated) (d : ReadRecords) → IsolatedFits node → IsTrue (has_some node) → after_record at (map seen (isolated_parts n node)) d ≡ Ok (record d { isolated = d.isolated ++ node ∷ [] })
  isolated_taken node d fits some = by_shape node.rcid node.rver node.shape d fits.identifier fits.shape some

  -- the record of a connected node adds the node
  pub connected_taken : (node : Connected) (d : ReadRecords) → ConnectedFits node → after_record at (map seen (connected_parts n node)) d ≡ Ok (record d { connected = d.connected ++ node ∷ [] })
  connected_taken node d fits =
      let v = identifier 120 node.rcid node.rver in
      let ps = node.at ∷ [] in
      let g = places_give laws [] ps [] (one_point node.at fits.place) in
      vector_read 120 node.rcid node.rver [] ps [] d refl fits.identifier (one_point node.at fits.place)
      ∙ connected_placed at v (written n 120 node.rcid node.rver [] ps []) d node refl refl (ap₂ (connected_of v) g.points_are g.soundings_are)

  -- the record of an edge adds the edge
  pub edge_taken : (e : Edge) (d : ReadRecords) → EdgeFits e → after_record at (map seen (edge_parts n e)) d ≡ Ok (record d { edges = d.edges ++ e ∷ [] })
  edge_taken e d fits =
      let v = identifier 130 e.rcid e.rver in
      let es = end_for 1 e.first ∷ end_for 2 e.last ∷ [] in
      let P = λ (q : Vrpt). AllFit vrpt (vrpt_values q) in
      let ends_fit = All-cons P (end_for 1 e.first) (end_for 2 e.last ∷ []) fits.first (All-cons P (end_for 2 e.last) [] fits.last (λ k q h. absurd (omega arith))) in
      let fitting : AreFitting es e.inner [] = record { ends = ends_fit; points = fits.inner; soundings = λ k s h. absurd (omega arith) } in
      let g = places_give laws es e.inner [] fitting in
      let fields = written n 130 e.rcid e.rver es e.inner [] in
      vector_read 130 e.rcid e.rver es e.inner [] d refl fits.identifier fitting
      ∙ edge_placed at v fields d e refl refl (ap (λ l. edge_of v l (points fields) (soundings fields)) g.ends_are ∙ ap₂ (edge_of v es) g.points_are g.soundings_are)
