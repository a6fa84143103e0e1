-- The formats of the fields (S-57 Edition 3.1, Part 3, 7.3, 7.6 and 7.7), and the values of their subfields in order.
use Rattle.std.specs.Prelude.{ℕ, ℤ, List, [], ◌∷◌, ◌++◌}
use Rattle.s57_records.specs.declared.control.Fspc.{Fspc}
use Rattle.s57_records.specs.declared.control.Sgcc.{Sgcc}
use Rattle.s57_records.specs.declared.dsid.Dsid.{Dsid}
use Rattle.s57_records.specs.declared.dsid.Product.{Product}
use Rattle.s57_records.specs.declared.dspm.Dspm.{Dspm}
use Rattle.s57_records.specs.declared.dssi.Dssi.{Dssi}
use Rattle.s57_records.specs.declared.feature.Foid.{Foid}
use Rattle.s57_records.specs.declared.feature.Frid.{Frid}
use Rattle.s57_records.specs.declared.pointer.Fspt.{Fspt}
use Rattle.s57_records.specs.declared.pointer.Vrpt.{Vrpt}
use Rattle.s57_records.specs.declared.vrid.Vrid.{Vrid}
use Rattle.s57_records.specs.Formats.{Format, b11, b12, b14, b24, A, As, Value, N, Z, T}

-- ---- DSID: (b11,b14,2b11,3A,2A(8),R(4),b11,2A,b11,b12,A), in two parts

abbrev pub product : List Format
product = b11 ∷ A ∷ A ∷ b11 ∷ b12 ∷ A ∷ []

abbrev pub data_set : List Format
data_set = b11 ∷ b14 ∷ b11 ∷ b11 ∷ A ∷ A ∷ A ∷ As 8 ∷ As 8 ∷ As 4 ∷ []

abbrev pub dsid : List Format
dsid = data_set ++ product

abbrev pub product_values : Product → List Value
product_values p = N p.prsp ∷ T p.psdn.now ∷ T p.pred.now ∷ N p.prof ∷ N p.agen ∷ T p.comt.now ∷ []

abbrev pub data_set_values : Dsid → List Value
data_set_values d = N d.rcnm ∷ N d.rcid ∷ N d.expp ∷ N d.intu ∷ T d.dsnm.now ∷ T d.edtn.now ∷ T d.updn.now ∷ T d.uadt ∷ T d.isdt ∷ T d.sted ∷ []

abbrev pub product_part : Dsid → List Value
product_part d = N d.prsp ∷ T d.psdn.now ∷ T d.pred.now ∷ N d.prof ∷ N d.agen ∷ T d.comt.now ∷ []

abbrev pub dsid_values : Dsid → List Value
dsid_values d = data_set_values d ++ product_part d

-- the texts that 0x1F ends
abbrev pub dsid_texts : Dsid → List (List ℕ)
dsid_texts d = d.dsnm.now ∷ d.edtn.now ∷ d.updn.now ∷ d.psdn.now ∷ d.pred.now ∷ d.comt.now ∷ []

-- ---- DSSI: (3b11,8b14)

abbrev pub dssi : List Format
dssi = b11 ∷ b11 ∷ b11 ∷ b14 ∷ b14 ∷ b14 ∷ b14 ∷ b14 ∷ b14 ∷ b14 ∷ b14 ∷ []

abbrev pub dssi_values : Dssi → List Value
dssi_values d = N d.dstr ∷ N d.aall ∷ N d.nall ∷ N d.nomr ∷ N d.nocr ∷ N d.nogr ∷ N d.nolr ∷ N d.noin ∷ N d.nocn ∷ N d.noed ∷ N d.nofa ∷ []

-- ---- DSPM: (b11,b14,3b11,b14,4b11,2b14,A), in two parts

abbrev pub numbers : List Format
numbers = b11 ∷ b14 ∷ b11 ∷ b11 ∷ b11 ∷ b14 ∷ b11 ∷ b11 ∷ b11 ∷ b11 ∷ b14 ∷ b14 ∷ []

abbrev pub dspm : List Format
dspm = numbers ++ A ∷ []

abbrev pub number_values : Dspm → List Value
number_values d = N d.rcnm ∷ N d.rcid ∷ N d.hdat ∷ N d.vdat ∷ N d.sdat ∷ N d.cscl ∷ N d.duni ∷ N d.huni ∷ N d.puni ∷ N d.coun ∷ N d.comf ∷ N d.somf ∷ []

abbrev pub dspm_values : Dspm → List Value
dspm_values d = number_values d ++ T d.comt.now ∷ []

-- ---- VRID: (b11,b14,b12,b11)

abbrev pub vrid : List Format
vrid = b11 ∷ b14 ∷ b12 ∷ b11 ∷ []

abbrev pub vrid_values : Vrid → List Value
vrid_values v = N v.rcnm ∷ N v.rcid ∷ N v.rver ∷ N v.ruin ∷ []

-- ---- VRPT, one group: (B(40),4b11), where B(40) is a b11 and a b14

abbrev pub vrpt : List Format
vrpt = b11 ∷ b14 ∷ b11 ∷ b11 ∷ b11 ∷ b11 ∷ []

abbrev pub vrpt_values : Vrpt → List Value
vrpt_values p = N p.rcnm ∷ N p.rcid ∷ N p.ornt ∷ N p.usag ∷ N p.topi ∷ N p.mask ∷ []

-- ---- SG2D, one group: (2b24); SG3D, one group: (3b24)

abbrev pub sg2d : List Format
sg2d = b24 ∷ b24 ∷ []

abbrev pub sg2d_values : ℤ × ℤ → List Value
sg2d_values p = Z p.0 ∷ Z p.1 ∷ []

abbrev pub sg3d : List Format
sg3d = b24 ∷ b24 ∷ b24 ∷ []

abbrev pub sg3d_values : ℤ × ℤ × ℤ → List Value
sg3d_values p = Z p.0 ∷ Z p.1 ∷ Z p.2 ∷ []

-- ---- FRID: (b11,b14,2b11,2b12,b11)

abbrev pub frid : List Format
frid = b11 ∷ b14 ∷ b11 ∷ b11 ∷ b12 ∷ b12 ∷ b11 ∷ []

abbrev pub frid_values : Frid → List Value
frid_values f = N f.rcnm ∷ N f.rcid ∷ N f.prim ∷ N f.grup ∷ N f.objl ∷ N f.rver ∷ N f.ruin ∷ []

-- ---- FOID: (b12,b14,b12)

abbrev pub foid : List Format
foid = b12 ∷ b14 ∷ b12 ∷ []

abbrev pub foid_values : Foid → List Value
foid_values f = N f.agen ∷ N f.fidn ∷ N f.fids ∷ []

-- ---- ATTF, one attribute: (b12,A)

abbrev pub attribute : List Format
attribute = b12 ∷ A ∷ []

-- ---- FSPT, one group: (B(40),3b11)

abbrev pub fspt : List Format
fspt = b11 ∷ b14 ∷ b11 ∷ b11 ∷ b11 ∷ []

abbrev pub fspt_values : Fspt → List Value
fspt_values p = N p.rcnm ∷ N p.rcid ∷ N p.ornt ∷ N p.usag ∷ N p.mask ∷ []

-- ---- FSPC and SGCC: (b11,2b12)

abbrev pub fspc : List Format
fspc = b11 ∷ b12 ∷ b12 ∷ []

abbrev pub fspc_values : Fspc → List Value
fspc_values f = N f.fsui ∷ N f.fsix ∷ N f.nspt ∷ []

abbrev pub sgcc : List Format
sgcc = b11 ∷ b12 ∷ b12 ∷ []

abbrev pub sgcc_values : Sgcc → List Value
sgcc_values s = N s.ccui ∷ N s.ccix ∷ N s.ccnc ∷ []
