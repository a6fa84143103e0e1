-- What the fields of a vector record after its identifier give: pointers, points and soundings.
use Rattle.std.proofs.Common.{◌≡◌, ℕ, ◌%◌, true, false, eqb, List, [], ◌++◌, length, map, refl, ap, ap₂, ◌∙◌, append-nil, arith}
use Rattle.std.specs.Prelude.{All, bytes_eq}
use Rattle.std.specs.List.{flat_map, list_all}
use Rattle.chart_model.specs.declared.records.Sounding.{Sounding}
use Rattle.iso8211_codec.specs.Reading.{Part, Seen, seen}
use Rattle.plane_geom.specs.declared.Point.{Point}
use Rattle.s57_records.specs.Fields.{sg2d, sg3d, vrpt, vrpt_values}
use Rattle.s57_records.specs.Formats.{AllFit}
use Rattle.s57_records.specs.Law.{FieldLaws}
use Rattle.s57_records.specs.declared.pointer.Vrpt.{Vrpt}
use Rattle.s57_codes.specs.Catalogue.{tag_0001, tag_sg2d, tag_sg3d, tag_vrid, tag_vrpt}
use Rattle.record_values.specs.Fields.{bodies, are_whole}
use Rattle.record_values.specs.Groups.{point_of, sounding_of, end_of, points_in, soundings_in, ends_in, points, soundings, ends}
use Rattle.cell_writer.specs.Layout.{some_groups, point_values, sounding_values}
use Rattle.cell_laws.proofs.Repeats.{IsGroup, groups_are, groups_whole}
use Rattle.cell_laws.proofs.Seeing.{bodies_of_two, some_body, same_tag, other_tag, of_some, all_some}

-- fields that give these pointers, points and soundings, and have neither of the tags that stand first
pub record Gives (fields : List Seen) (es : List Vrpt) (ps : List Point) (ss : List Sounding) : Type 0 where
  pub no_id : bodies tag_0001 fields ≡ []
  pub no_identifier : bodies tag_vrid fields ≡ []
  pub whole_ends : are_whole 9 tag_vrpt fields ≡ true
  pub whole_points : are_whole 8 tag_sg2d fields ≡ true
  pub whole_soundings : are_whole 12 tag_sg3d fields ≡ true
  pub ends_are : ends fields ≡ es
  pub points_are : points fields ≡ ps
  pub soundings_are : soundings fields ≡ ss

-- pointers, points and soundings whose values fit their fields
pub record AreFitting (es : List Vrpt) (ps : List Point) (ss : List Sounding) : Type 0 where
  pub ends : All (λ (e : Vrpt). AllFit vrpt (vrpt_values e)) es
  pub points : All (λ (p : Point). AllFit sg2d (point_values p)) ps
  pub soundings : All (λ (s : Sounding). AllFit sg3d (sounding_values s)) ss

-- ---- the fields that are written

abbrev sounding_parts : List Sounding → List Part
sounding_parts ss = some_groups tag_sg3d sg3d (map sounding_values ss)

abbrev end_parts : List Vrpt → List Part
end_parts es = some_groups tag_vrpt vrpt (map vrpt_values es)

abbrev point_parts : List Point → List Part
point_parts ps = some_groups tag_sg2d sg2d (map point_values ps)

-- a record of a node or an edge has a field for each of the three lists that has an element
abbrev pub place_parts : List Vrpt → List Point → List Sounding → List Part
place_parts es ps ss = sounding_parts ss ++ (end_parts es ++ point_parts ps)

-- ---- what is read of them

point_group : IsGroup sg2d point_values point_of
point_group = record { undoes = λ p. refl; fixed = refl; some = omega arith }

sounding_group : IsGroup sg3d sounding_values sounding_of
sounding_group = record { undoes = λ s. refl; fixed = refl; some = omega arith }

end_group : IsGroup vrpt vrpt_values end_of
end_group = record { undoes = λ e. refl; fixed = refl; some = omega arith }

-- what is written of the three lists gives the three lists
pub places_give : (laws : FieldLaws) (es : List Vrpt) (ps : List Point) (ss : List Sounding) → AreFitting es ps ss → Gives (map seen (place_parts es ps ss)) es ps ss
places_give laws es ps ss fit = record {
  no_id = among tag_0001 ∙ ap₂ ◌++◌ (no_sounding tag_0001 refl) (ap₂ ◌++◌ (no_end tag_0001 refl) (no_point tag_0001 refl));
  no_identifier = among tag_vrid ∙ ap₂ ◌++◌ (no_sounding tag_vrid refl) (ap₂ ◌++◌ (no_end tag_vrid refl) (no_point tag_vrid refl));
  whole_ends = ap (list_all (λ body. eqb (length body % 9) 0)) end_bodies ∙ all_some vrpt vrpt_values _ es (groups_whole laws end_group es fit.ends);
  whole_points = ap (list_all (λ body. eqb (length body % 8) 0)) point_bodies ∙ all_some sg2d point_values _ ps (groups_whole laws point_group ps fit.points);
  whole_soundings = ap (list_all (λ body. eqb (length body % 12) 0)) sounding_bodies ∙ all_some sg3d sounding_values _ ss (groups_whole laws sounding_group ss fit.soundings);
  ends_are = ap (flat_map ends_in) end_bodies ∙ of_some vrpt vrpt_values ends_in es (groups_are laws end_group es fit.ends);
  points_are = ap (flat_map points_in) point_bodies ∙ of_some sg2d point_values points_in ps (groups_are laws point_group ps fit.points);
  soundings_are = ap (flat_map soundings_in) sounding_bodies ∙ of_some sg3d sounding_values soundings_in ss (groups_are laws sounding_group ss fit.soundings);
}
  where
    -- the bodies with a tag are those of the three fields, of which only one has the tag
    among : (tag : List ℕ) → bodies tag (map seen (place_parts es ps ss)) ≡ bodies tag (map seen (sounding_parts ss)) ++ (bodies tag (map seen (end_parts es)) ++ bodies tag (map seen (point_parts ps)))
    among tag = bodies_of_two tag (sounding_parts ss) (end_parts es ++ point_parts ps) ∙ ap (λ l. bodies tag (map seen (sounding_parts ss)) ++ l) (bodies_of_two tag (end_parts es) (point_parts ps))

    no_sounding : (tag : List ℕ) → bytes_eq tag_sg3d tag ≡ false → bodies tag (map seen (sounding_parts ss)) ≡ []
    no_sounding tag differ = other_tag tag_sg3d sg3d refl tag differ (map sounding_values ss)

    no_end : (tag : List ℕ) → bytes_eq tag_vrpt tag ≡ false → bodies tag (map seen (end_parts es)) ≡ []
    no_end tag differ = other_tag tag_vrpt vrpt refl tag differ (map vrpt_values es)

    no_point : (tag : List ℕ) → bytes_eq tag_sg2d tag ≡ false → bodies tag (map seen (point_parts ps)) ≡ []
    no_point tag differ = other_tag tag_sg2d sg2d refl tag differ (map point_values ps)

    sounding_bodies : bodies tag_sg3d (map seen (place_parts es ps ss)) ≡ some_body sg3d (map sounding_values ss)
    sounding_bodies = among tag_sg3d ∙ ap₂ ◌++◌ (same_tag tag_sg3d sg3d refl refl (map sounding_values ss)) (ap₂ ◌++◌ (no_end tag_sg3d refl) (no_point tag_sg3d refl)) ∙ append-nil _

    end_bodies : bodies tag_vrpt (map seen (place_parts es ps ss)) ≡ some_body vrpt (map vrpt_values es)
    end_bodies = among tag_vrpt ∙ ap₂ ◌++◌ (no_sounding tag_vrpt refl) (ap₂ ◌++◌ (same_tag tag_vrpt vrpt refl refl (map vrpt_values es)) (no_point tag_vrpt refl)) ∙ append-nil _

    point_bodies : bodies tag_sg2d (map seen (place_parts es ps ss)) ≡ some_body sg2d (map point_values ps)
    point_bodies = among tag_sg2d ∙ ap₂ ◌++◌ (no_sounding tag_sg2d refl) (ap₂ ◌++◌ (no_end tag_sg2d refl) (same_tag tag_sg2d sg2d refl refl (map point_values ps)))
