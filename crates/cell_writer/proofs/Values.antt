-- The values of the data set's fields fit where its numbers do.
use Rattle.std.proofs.Common.{◌≡◌, ◌<◌, ◌^◌, Result, Ok, Err, length, arith}
use Rattle.std.specs.Result.{OnOk}
use Rattle.cell_writer.specs.Layout.{dsid_of, dspm_of, dssi_of, objects, geo_objects}
use Rattle.cell_writer.proofs.Texts.{is_text_from}
use Rattle.chart_model.specs.Whole.{HasTexts}
use Rattle.chart_model.specs.declared.records.Header.{Header}
use Rattle.chart_model.specs.declared.records.Parts.{Parts}
use Rattle.s57_records.specs.Fields.{dsid, dspm, dssi}
use Rattle.s57_records.specs.Formats.{AllFit}

-- what holds anyhow holds on Ok
pub on_ok : {T E : Type 0} (r : Result T E) {P : Type 0} → P → OnOk r P
on_ok (Ok x) p = p
on_ok (Err e) p = tt

pub dsid_fits : (h : Header) → HasTexts h → h.expp < 2 ^ 8 → h.intu < 2 ^ 8 → h.prsp < 2 ^ 8 → h.prof < 2 ^ 8 → h.agen < 2 ^ 16
    → length h.uadt ≡ 8 → length h.isdt ≡ 8 → length h.sted ≡ 4 → AllFit dsid (dsid_of h)
dsid_fits h t expp intu prsp prof agen uadt isdt sted = (
  omega arith,
  (
    omega arith,
    (
      expp,
      (
        intu,
        (
          is_text_from h.dsnm t.dsnm,
          (
            is_text_from h.edtn t.edtn,
            (
              is_text_from h.updn t.updn,
              (
                uadt,
                (
                  isdt,
                  (
                    sted,
                    (prsp, (is_text_from h.psdn t.psdn, (is_text_from h.pred t.pred, (prof, (agen, (is_text_from h.comt t.comt, tt)))))),
                  ),
                ),
              ),
            ),
          ),
        ),
      ),
    ),
  ),
)

pub dspm_fits : (h : Header) → HasTexts h → h.hdat < 2 ^ 8 → h.vdat < 2 ^ 8 → h.sdat < 2 ^ 8 → h.cscl < 2 ^ 32 → h.huni < 2 ^ 8 → h.puni < 2 ^ 8 → AllFit dspm (dspm_of h)
dspm_fits h t hdat vdat sdat cscl huni puni =
    (omega arith, (omega arith, (hdat, (vdat, (sdat, (cscl, (omega arith, (huni, (puni, (omega arith, (omega arith, (omega arith, (is_text_from h.note t.note, tt)))))))))))))

pub dssi_fits : (c : Parts) → c.header.aall < 2 ^ 8 → c.header.nall < 2 ^ 8
    → objects 300 400 c.features < 2 ^ 32 → objects 500 600 c.features < 2 ^ 32 → geo_objects c.features < 2 ^ 32 → objects 400 500 c.features < 2 ^ 32
    → length c.isolated < 2 ^ 32 → length c.connected < 2 ^ 32 → length c.edges < 2 ^ 32 → AllFit dssi (dssi_of c)
dssi_fits c aall nall meta collections geo cartographic isolated connected edges =
    (omega arith, (aall, (nall, (meta, (collections, (geo, (cartographic, (isolated, (connected, (edges, (omega arith, tt)))))))))))
