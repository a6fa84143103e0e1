-- What the data set record and the parameter record say of a chart (S-57 Edition 3.1, Part 3, 7.3.1 and 7.3.2).
use Rattle.std.specs.Prelude.{ℕ, Bool, ◌&&◌, false, eqb, cond, List, [], ◌∷◌, Option, Some, None}
use Rattle.chart_model.specs.declared.records.Header.{Header}
use Rattle.s57_records.specs.Fields.{dssi, dspm}
use Rattle.readings.specs.Finds.{◌>>=◌}
use Rattle.s57_records.specs.Formats.{Value, N, T, values_in}
use Rattle.s57_records.specs.declared.dssi.Dssi.{Dssi}
use Rattle.s57_codes.specs.Catalogue.{coun_degrees, comf_degree_parts, dstr_chain_node, duni_metres, rcnm_parameters, somf_metre_parts}

-- a data set record: what DSID and DSSI say
pub record DataSet : Type 0 where
  pub identity : List Value
  pub structure : Dssi

-- DSSI of chain-node topology
abbrev pub structure_of : List Value → Option Dssi
structure_of (N dstr ∷ N aall ∷ N nall ∷ N nomr ∷ N nocr ∷ N nogr ∷ N nolr ∷ N noin ∷ N nocn ∷ N noed ∷ N nofa ∷ []) =
    cond (eqb dstr dstr_chain_node) (Some (record { dstr = dstr; aall = aall; nall = nall; nomr = nomr; nocr = nocr; nogr = nogr; nolr = nolr; noin = noin; nocn = nocn; noed = noed; nofa = nofa })) None
structure_of _ = None

abbrev pub structure_in : List ℕ → Option Dssi
structure_in body = values_in dssi body >>= structure_of

-- DSPM of the record of parameters, with the units of a chart: depths in tenths of a metre, positions in ten-millionths of a degree
abbrev pub are_units : List Value → Bool
are_units (N rcnm ∷ N rcid ∷ N hdat ∷ N vdat ∷ N sdat ∷ N cscl ∷ N duni ∷ N huni ∷ N puni ∷ N coun ∷ N comf ∷ N somf ∷ T comt ∷ []) =
    eqb rcnm rcnm_parameters && (eqb duni duni_metres && (eqb coun coun_degrees && (eqb comf comf_degree_parts && eqb somf somf_metre_parts)))
are_units _ = false

abbrev pub units_in : List ℕ → Option (List Value)
units_in body = do
  values ← values_in dspm body
  cond (are_units values) (Some values) None

-- the header of a chart
abbrev pub header_of : List Value → Dssi → List Value → Option Header
header_of (N rcnm ∷ N rcid ∷ N expp ∷ N intu ∷ T dsnm ∷ T edtn ∷ T updn ∷ T uadt ∷ T isdt ∷ T sted ∷ N prsp ∷ T psdn ∷ T pred ∷ N prof ∷ N agen ∷ T comt ∷ []) s units = go units
  where
    go : List Value → Option Header
    go (N rcnm ∷ N rcid ∷ N hdat ∷ N vdat ∷ N sdat ∷ N cscl ∷ N duni ∷ N huni ∷ N puni ∷ N coun ∷ N comf ∷ N somf ∷ T note ∷ []) = Some (record {
      expp = expp;
      intu = intu;
      dsnm = dsnm;
      edtn = edtn;
      updn = updn;
      uadt = uadt;
      isdt = isdt;
      sted = sted;
      prsp = prsp;
      psdn = psdn;
      pred = pred;
      prof = prof;
      agen = agen;
      comt = comt;
      aall = s.aall;
      nall = s.nall;
      hdat = hdat;
      vdat = vdat;
      sdat = sdat;
      cscl = cscl;
      huni = huni;
      puni = puni;
      note = note;
    })
    go _ = None
header_of _ s units = None
