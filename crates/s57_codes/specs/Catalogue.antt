-- The numbers and tags of IHO S-57 Edition 3.1 that definitions name, written out here and taken from no code. Each has its
-- acronym and where the standard gives it.
use Rattle.std.specs.Prelude.{codes, ℕ, List}

-- ---- OBJL, object classes (Appendix A, Chapter 1)

-- DEPARE, depth area
abbrev pub objl_depare : ℕ
objl_depare = 42

-- DEPCNT, depth contour
abbrev pub objl_depcnt : ℕ
objl_depcnt = 43

-- SOUNDG, sounding
abbrev pub objl_soundg : ℕ
objl_soundg = 129

-- UNSARE, unsurveyed area
abbrev pub objl_unsare : ℕ
objl_unsare = 154

-- M_COVR, coverage
abbrev pub objl_m_covr : ℕ
objl_m_covr = 302

-- M_QUAL, quality of data
abbrev pub objl_m_qual : ℕ
objl_m_qual = 308

-- ---- ATTL, attributes (Appendix A, Chapter 2)

-- CATCOV, category of coverage
abbrev pub attl_catcov : ℕ
attl_catcov = 18

-- CATZOC, category of zone of confidence in data
abbrev pub attl_catzoc : ℕ
attl_catzoc = 72

-- DRVAL1, depth range value 1, the shoaler one
abbrev pub attl_drval1 : ℕ
attl_drval1 = 87

-- DRVAL2, depth range value 2, the deeper one
abbrev pub attl_drval2 : ℕ
attl_drval2 = 88

-- VALDCO, value of depth contour
abbrev pub attl_valdco : ℕ
attl_valdco = 174

-- ---- RCNM, record names (Part 3, 2.2.1)

-- DS, data set general information
abbrev pub rcnm_data_set : ℕ
rcnm_data_set = 10

-- DP, data set geographic reference
abbrev pub rcnm_parameters : ℕ
rcnm_parameters = 20

-- FE, feature
abbrev pub rcnm_feature : ℕ
rcnm_feature = 100

-- VI, isolated node
abbrev pub rcnm_isolated_node : ℕ
rcnm_isolated_node = 110

-- VC, connected node
abbrev pub rcnm_connected_node : ℕ
rcnm_connected_node = 120

-- VE, edge
abbrev pub rcnm_edge : ℕ
rcnm_edge = 130

-- ---- PRIM, object geometric primitive (Part 3, 4.2.1 and 7.6.1)

abbrev pub prim_point : ℕ
prim_point = 1

abbrev pub prim_line : ℕ
prim_line = 2

abbrev pub prim_area : ℕ
prim_area = 3

-- ---- GRUP, group (Part 3, 7.6.1; product specification 2.0 for electronic navigational charts, 3.10.1)

-- group 1, the skin of the earth: areas that cover the ground without overlap
abbrev pub grup_skin : ℕ
grup_skin = 1

-- ---- ORNT, orientation (Part 3, 7.6.8)

abbrev pub ornt_forward : ℕ
ornt_forward = 1

abbrev pub ornt_reverse : ℕ
ornt_reverse = 2

-- ---- USAG, usage indicator (Part 3, 7.6.8)

abbrev pub usag_exterior : ℕ
usag_exterior = 1

abbrev pub usag_interior : ℕ
usag_interior = 2

-- an exterior boundary that the data limit cuts
abbrev pub usag_truncated : ℕ
usag_truncated = 3

-- ---- MASK, masking indicator (Part 3, 7.6.8)

abbrev pub mask_hidden : ℕ
mask_hidden = 1

abbrev pub mask_shown : ℕ
mask_shown = 2

-- ---- TOPI, topology indicator (Part 3, 7.7.1.4)

abbrev pub topi_beginning : ℕ
topi_beginning = 1

abbrev pub topi_end : ℕ
topi_end = 2

-- ---- 255: NULL of ORNT, USAG, TOPI and MASK, and no geometry of PRIM

abbrev pub null : ℕ
null = 255

-- ---- RUIN, FSUI and CCUI, update instructions (Part 3, 8.4.2)

abbrev pub inserted : ℕ
inserted = 1

abbrev pub deleted : ℕ
deleted = 2

abbrev pub modified : ℕ
modified = 3

-- ---- EXPP, exchange purpose (Part 3, 7.3.1.1)

-- R, a revision of a data set
abbrev pub expp_revision : ℕ
expp_revision = 2

-- ---- DSTR, data structure (Part 3, 7.3.1.2)

-- CN, chain-node topology
abbrev pub dstr_chain_node : ℕ
dstr_chain_node = 2

-- ---- units of depths and positions (Part 3, 7.3.2.1; product specification 2.0 for electronic navigational charts, 4.4)

-- DUNI, units of depth measurement: metres
abbrev pub duni_metres : ℕ
duni_metres = 1

-- COUN, coordinate units: latitude and longitude in degrees
abbrev pub coun_degrees : ℕ
coun_degrees = 1

-- COMF, coordinate multiplication factor: positions count ten-millionths of a degree
abbrev pub comf_degree_parts : ℕ
comf_degree_parts = 10000000

-- SOMF, sounding multiplication factor: depths count tenths of a metre
abbrev pub somf_metre_parts : ℕ
somf_metre_parts = 10

-- ---- tags of fields (Part 3, 7.3, 7.6 and 7.7)

-- the record identifier of ISO/IEC 8211
abbrev pub tag_0001 : List ℕ
tag_0001 = codes "0001"

abbrev pub tag_dsid : List ℕ
tag_dsid = codes "DSID"

abbrev pub tag_dssi : List ℕ
tag_dssi = codes "DSSI"

abbrev pub tag_dspm : List ℕ
tag_dspm = codes "DSPM"

abbrev pub tag_vrid : List ℕ
tag_vrid = codes "VRID"

abbrev pub tag_vrpt : List ℕ
tag_vrpt = codes "VRPT"

abbrev pub tag_vrpc : List ℕ
tag_vrpc = codes "VRPC"

abbrev pub tag_sgcc : List ℕ
tag_sgcc = codes "SGCC"

abbrev pub tag_sg2d : List ℕ
tag_sg2d = codes "SG2D"

abbrev pub tag_sg3d : List ℕ
tag_sg3d = codes "SG3D"

abbrev pub tag_frid : List ℕ
tag_frid = codes "FRID"

abbrev pub tag_foid : List ℕ
tag_foid = codes "FOID"

abbrev pub tag_attf : List ℕ
tag_attf = codes "ATTF"

abbrev pub tag_fspt : List ℕ
tag_fspt = codes "FSPT"

abbrev pub tag_fspc : List ℕ
tag_fspc = codes "FSPC"
