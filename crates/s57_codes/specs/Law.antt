-- That the constants of the code are the numbers and tags of the catalogue.
use Rattle.std.specs.Prelude.{◌≡◌}
use Rattle.s57_codes.specs.Catalogue.{objl_depare, objl_depcnt, objl_soundg, objl_unsare, objl_m_covr, objl_m_qual, attl_catcov, attl_catzoc, attl_drval1, attl_drval2, attl_valdco, rcnm_data_set, rcnm_parameters, rcnm_feature, rcnm_isolated_node, rcnm_connected_node, rcnm_edge, prim_point, prim_line, prim_area, grup_skin, ornt_forward, ornt_reverse, usag_exterior, usag_interior, usag_truncated, mask_hidden, mask_shown, topi_beginning, topi_end, null, inserted, deleted, modified, expp_revision, dstr_chain_node, duni_metres, coun_degrees, comf_degree_parts, somf_metre_parts, tag_0001, tag_dsid, tag_dssi, tag_dspm, tag_vrid, tag_vrpt, tag_vrpc, tag_sgcc, tag_sg2d, tag_sg3d, tag_frid, tag_foid, tag_attf, tag_fspt, tag_fspc}
use Rattle.s57_codes.specs.declared.code.TheConstants.{DEPARE, DEPCNT, SOUNDG, UNSARE, M_COVR, M_QUAL, CATCOV, CATZOC, DRVAL1, DRVAL2, VALDCO, DATA_SET, PARAMETERS, FEATURE, ISOLATED_NODE, CONNECTED_NODE, EDGE, POINT, LINE, AREA, SKIN, FORWARD, REVERSE, EXTERIOR, INTERIOR, TRUNCATED, HIDDEN, SHOWN, BEGINNING, END, NULL, INSERT, DELETE, MODIFY, REVISION, CHAIN_NODE, METRES, DEGREES, DEGREE_PARTS, METRE_PARTS}
use Rattle.s57_codes.specs.declared.tag.TheConstants.{ID, DSID, DSSI, DSPM, VRID, VRPT, VRPC, SGCC, SG2D, SG3D, FRID, FOID, ATTF, FSPT, FSPC}

pub record AreObjects : Type 0 where
  pub depare : DEPARE ≡ objl_depare
  pub depcnt : DEPCNT ≡ objl_depcnt
  pub soundg : SOUNDG ≡ objl_soundg
  pub unsare : UNSARE ≡ objl_unsare
  pub m_covr : M_COVR ≡ objl_m_covr
  pub m_qual : M_QUAL ≡ objl_m_qual

pub record AreAttributes : Type 0 where
  pub catcov : CATCOV ≡ attl_catcov
  pub catzoc : CATZOC ≡ attl_catzoc
  pub drval1 : DRVAL1 ≡ attl_drval1
  pub drval2 : DRVAL2 ≡ attl_drval2
  pub valdco : VALDCO ≡ attl_valdco

pub record AreRecordNames : Type 0 where
  pub data_set : DATA_SET ≡ rcnm_data_set
  pub parameters : PARAMETERS ≡ rcnm_parameters
  pub feature : FEATURE ≡ rcnm_feature
  pub isolated : ISOLATED_NODE ≡ rcnm_isolated_node
  pub connected : CONNECTED_NODE ≡ rcnm_connected_node
  pub edge : EDGE ≡ rcnm_edge

-- PRIM and GRUP of a feature
pub record AreGeometries : Type 0 where
  pub point : POINT ≡ prim_point
  pub line : LINE ≡ prim_line
  pub area : AREA ≡ prim_area
  pub skin : SKIN ≡ grup_skin

-- ORNT, USAG, MASK and TOPI of a pointer, and 255 in any of them
pub record AreMarks : Type 0 where
  pub forward : FORWARD ≡ ornt_forward
  pub reverse : REVERSE ≡ ornt_reverse
  pub exterior : EXTERIOR ≡ usag_exterior
  pub interior : INTERIOR ≡ usag_interior
  pub truncated : TRUNCATED ≡ usag_truncated
  pub hidden : HIDDEN ≡ mask_hidden
  pub shown : SHOWN ≡ mask_shown
  pub beginning : BEGINNING ≡ topi_beginning
  pub end : END ≡ topi_end
  pub nothing : NULL ≡ null

pub record AreInstructions : Type 0 where
  pub insert : INSERT ≡ inserted
  pub delete : DELETE ≡ deleted
  pub modify : MODIFY ≡ modified

-- EXPP and DSTR of the data set, and DUNI, COUN, COMF and SOMF of its parameters
pub record AreUnits : Type 0 where
  pub revision : REVISION ≡ expp_revision
  pub chain_node : CHAIN_NODE ≡ dstr_chain_node
  pub metres : METRES ≡ duni_metres
  pub degrees : DEGREES ≡ coun_degrees
  pub degree_parts : DEGREE_PARTS ≡ comf_degree_parts
  pub metre_parts : METRE_PARTS ≡ somf_metre_parts

pub record AreTags : Type 0 where
  pub id : ID ≡ tag_0001
  pub dsid : DSID ≡ tag_dsid
  pub dssi : DSSI ≡ tag_dssi
  pub dspm : DSPM ≡ tag_dspm
  pub vrid : VRID ≡ tag_vrid
  pub vrpt : VRPT ≡ tag_vrpt
  pub vrpc : VRPC ≡ tag_vrpc
  pub sgcc : SGCC ≡ tag_sgcc
  pub sg2d : SG2D ≡ tag_sg2d
  pub sg3d : SG3D ≡ tag_sg3d
  pub frid : FRID ≡ tag_frid
  pub foid : FOID ≡ tag_foid
  pub attf : ATTF ≡ tag_attf
  pub fspt : FSPT ≡ tag_fspt
  pub fspc : FSPC ≡ tag_fspc
