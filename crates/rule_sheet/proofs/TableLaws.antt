-- A table reads as a sheet exactly where it is that sheet's table.
use Rattle.std.proofs.Common.{◌≡◌, ℕ, pos, length, Option, Some, None, Ok, true, ◌⊎◌, inl, inr, refl, sym, ap, subst, ◌∙◌, arith}
use Rattle.depth_grid.specs.declared.disc.Reach.{Reach}
use Rattle.toml.specs.Data.{Members}
use Rattle.rule_sheet.specs.declared.fault.SheetFault.TheVariants as fault
use Rattle.rule_sheet.specs.declared.key.Key.{Key}
use Rattle.rule_sheet.specs.declared.key.Key.TheVariants.{Version, Aspect, DiscRadius, Name, Edition, Issued, Agency, Scale, Usage, VerticalDatum, SoundingDatum}
use Rattle.rule_sheet.specs.Keys.{keys_of, all_known}
use Rattle.rule_sheet.specs.Values.{SheetView, Within, is_cell_name, is_day}
use Rattle.rule_sheet.specs.Rows.{Read, number_of, levels_of, step_from_of, steps_of, radii_of, sense_of, cell_name_of, issued_of, catzoc_of}
use Rattle.rule_sheet.specs.Sheet.{at_key, HasNumber, IsTableOf, StepLists, step_lists_of, disc_of, version_of, sheet_of}
use Rattle.rule_sheet.proofs.ReadLaws.{each_step, along, checked-passed, passes-checked, number-read, number-stands, stands-number, default-number}
use Rattle.rule_sheet.proofs.RowLaws.{levels-read, from-read, steps-read, are-steps, from-steps, radii-read, sense-read, text-read, zone-read, reads-levels, reads-from, reads-steps, reads-radii, reads-sense, reads-text, reads-zone}

ok-same : {X : Type 0} (x y : X) → (let r : Read X = Ok x in r) ≡ Ok y → x ≡ y
ok-same x y h = cc

version-within : (zone : Option ℕ) → Within 1 2 (version_of zone)
version-within None = (omega arith, omega arith)
version-within (Some n) = (omega arith, omega arith)

-- a number that stands or is the default
number-either : (key : Key) (low high default : ℕ) (ms : Members) (n : ℕ) → number_of key low high (Some (pos default)) ms ≡ Ok n → (HasNumber ms key n ⊎ ((at_key ms key ≡ None) × (n ≡ default))) × Within low high n
number-either key low high default ms n h =
    let r = number-read key low high (Some (pos default)) ms n h in
    (elim r.stands [ inl s ↦ inl s | inr d ↦ inr (d.0, (let e : Some (pos default) ≡ Some (pos n) = d.1 in cc)) ], r.within)

either-number : (key : Key) (low high default : ℕ) (ms : Members) (n : ℕ) → HasNumber ms key n ⊎ ((at_key ms key ≡ None) × (n ≡ default)) → Within low high n → number_of key low high (Some (pos default)) ms ≡ Ok n
either-number key low high default ms n o w = elim o [ inl h ↦ stands-number key low high (Some (pos default)) ms n h w | inr d ↦ ap (λ m. number_of key low high (Some (pos m)) ms) (sym d.1) ∙ default-number key low high ms n d.0 w ]

-- the rows of a table that was read
pub record AreRead (ms : Members) (v : ℕ) (sheet : SheetView) : Type 0 where
  pub version : number_of Version 1 2 None ms ≡ Ok v
  pub positive : sense_of ms ≡ Ok sheet.positive
  pub levels : levels_of ms ≡ Ok sheet.levels
  pub step_from : step_from_of ms ≡ Ok sheet.step_from
  pub steps : steps_of sheet.step_from ms ≡ Ok sheet.steps
  pub aspect : number_of Aspect 100 1000 (Some (pos 1000)) ms ≡ Ok sheet.aspect
  pub disc_radius : number_of DiscRadius 0 64000 (Some (pos 0)) ms ≡ Ok sheet.disc_radius
  pub sounding_radius : radii_of (length sheet.levels) ms ≡ Ok sheet.sounding_radius
  pub name : cell_name_of ms ≡ Ok sheet.name
  pub edition : number_of Edition 1 999 None ms ≡ Ok sheet.edition
  pub issued : issued_of ms ≡ Ok sheet.issued
  pub agency : number_of Agency 1 65535 None ms ≡ Ok sheet.agency
  pub scale : number_of Scale 1 100000000 None ms ≡ Ok sheet.scale
  pub usage : number_of Usage 1 6 None ms ≡ Ok sheet.usage
  pub vertical_datum : number_of VerticalDatum 1 254 None ms ≡ Ok sheet.vertical_datum
  pub sounding_datum : number_of SoundingDatum 1 254 None ms ≡ Ok sheet.sounding_datum
  pub catzoc : catzoc_of v ms ≡ Ok sheet.catzoc
  pub known : all_known (keys_of v) ms ≡ true

pub rows-table : (ms : Members) (version : ℕ) (sheet : SheetView) → AreRead ms version sheet → IsTableOf ms sheet
rows-table ms version sheet r =
    let version_read = number-stands Version 1 2 ms version r.version in
    let zone = zone-read version ms sheet.catzoc version_read.1 r.catzoc in
    let levels = levels-read ms sheet.levels r.levels in
    let from = from-read ms sheet.step_from r.step_from in
    let steps = steps-read sheet.step_from ms sheet.steps r.steps in
    let aspect = number-either Aspect 100 1000 1000 ms sheet.aspect r.aspect in
    let disc = number-either DiscRadius 0 64000 0 ms sheet.disc_radius r.disc_radius in
    let radii = radii-read (length sheet.levels) ms sheet.sounding_radius r.sounding_radius in
    let name = text-read Name is_cell_name ms sheet.name r.name in
    let edition = number-stands Edition 1 999 ms sheet.edition r.edition in
    let issued = text-read Issued is_day ms sheet.issued r.issued in
    let agency = number-stands Agency 1 65535 ms sheet.agency r.agency in
    let scale = number-stands Scale 1 100000000 ms sheet.scale r.scale in
    let usage = number-stands Usage 1 6 ms sheet.usage r.usage in
    let vertical = number-stands VerticalDatum 1 254 ms sheet.vertical_datum r.vertical_datum in
    let sounding = number-stands SoundingDatum 1 254 ms sheet.sounding_datum r.sounding_datum in
    record {
      version = subst (HasNumber ms Version) zone.version_is version_read.0;
      positive = sense-read ms sheet.positive r.positive;
      levels = levels.0;
      step_from = from.stands;
      steps = steps.stands;
      aspect = aspect.0;
      disc_radius = disc.0;
      sounding_radius = radii.0;
      name = name.0;
      edition = edition.0;
      issued = issued.0;
      agency = agency.0;
      scale = scale.0;
      usage = usage.0;
      vertical_datum = vertical.0;
      sounding_datum = sounding.0;
      catzoc = zone.stands;
      known = subst (λ v. all_known (keys_of v) ms ≡ true) zone.version_is r.known;
      is_sheet = record {
        levels = levels.1;
        steps = are-steps sheet.step_from sheet.steps from.is_from steps.known steps.fit;
        aspect = aspect.1;
        disc_radius = disc.1.1;
        sounding_radius = radii.1.small;
        one_or_each = radii.1.fits;
        name = name.1;
        edition = edition.1;
        issued = issued.1;
        agency = agency.1;
        scale = scale.1;
        usage = usage.1;
        vertical_datum = vertical.1;
        sounding_datum = sounding.1;
        catzoc = zone.within;
      };
    }

pub lists-read : (ms : Members) (lists : StepLists) → step_lists_of ms ≡ Ok lists → (step_from_of ms ≡ Ok lists.step_from) × (steps_of lists.step_from ms ≡ Ok lists.steps)
lists-read ms lists h =
    each_step (step_from_of ms) _ lists h (λ step_from f g.
    each_step (steps_of step_from ms) _ lists g (λ steps s e.
    let same : record { step_from = step_from; steps = steps } ≡ lists = ok-same _ lists e in
    subst (λ (ls : StepLists). (step_from_of ms ≡ Ok ls.step_from) × (steps_of ls.step_from ms ≡ Ok ls.steps)) same (f, s)))

pub disc-read : (ms : Members) (disc : Reach) → disc_of ms ≡ Ok disc → (number_of Aspect 100 1000 (Some (pos 1000)) ms ≡ Ok disc.aspect) × (number_of DiscRadius 0 64000 (Some (pos 0)) ms ≡ Ok disc.radius)
disc-read ms disc h =
    each_step (number_of Aspect 100 1000 (Some (pos 1000)) ms) _ disc h (λ aspect a g.
    each_step (number_of DiscRadius 0 64000 (Some (pos 0)) ms) _ disc g (λ radius r e.
    let same : record { aspect = aspect; radius = radius } ≡ disc = ok-same _ disc e in
    subst (λ (d : Reach). (number_of Aspect 100 1000 (Some (pos 1000)) ms ≡ Ok d.aspect) × (number_of DiscRadius 0 64000 (Some (pos 0)) ms ≡ Ok d.radius)) same (a, r)))

pub table-read : (ms : Members) (sheet : SheetView) → sheet_of ms ≡ Ok sheet → IsTableOf ms sheet
unfolding sheet_of
table-read ms sheet h =
    each_step (number_of Version 1 2 None ms) _ sheet h (λ version v h1.
    each_step (sense_of ms) _ sheet h1 (λ positive p h2.
    each_step (levels_of ms) _ sheet h2 (λ levels l h3.
    each_step (step_lists_of ms) _ sheet h3 (λ lists ls h4.
    each_step (disc_of ms) _ sheet h4 (λ disc d h6.
    each_step (radii_of (length levels) ms) _ sheet h6 (λ sounding_radius r h7.
    each_step (cell_name_of ms) _ sheet h7 (λ name n h8.
    each_step (number_of Edition 1 999 None ms) _ sheet h8 (λ edition e h9.
    each_step (issued_of ms) _ sheet h9 (λ issued i h10.
    each_step (number_of Agency 1 65535 None ms) _ sheet h10 (λ agency ag h11.
    each_step (number_of Scale 1 100000000 None ms) _ sheet h11 (λ scale sc h12.
    each_step (number_of Usage 1 6 None ms) _ sheet h12 (λ usage u h13.
    each_step (number_of VerticalDatum 1 254 None ms) _ sheet h13 (λ vertical_datum vd h14.
    each_step (number_of SoundingDatum 1 254 None ms) _ sheet h14 (λ sounding_datum sd h15.
    each_step (catzoc_of version ms) _ sheet h15 (λ catzoc z h16.
    let steps_read = lists-read ms lists ls in
    let disc_read = disc-read ms disc d in
    let end = checked-passed (all_known (keys_of version) ms) fault.Unknown _ sheet h16 in
    let built : SheetView = record { positive = positive; levels = levels; step_from = lists.step_from; steps = lists.steps; aspect = disc.aspect; disc_radius = disc.radius; sounding_radius = sounding_radius; name = name; edition = edition; issued = issued; agency = agency; scale = scale; usage = usage; vertical_datum = vertical_datum; sounding_datum = sounding_datum; catzoc = catzoc } in
    let rows : AreRead ms version built = record { version = v; positive = p; levels = l; step_from = steps_read.0; steps = steps_read.1; aspect = disc_read.0; disc_radius = disc_read.1; sounding_radius = r; name = n; edition = e; issued = i; agency = ag; scale = sc; usage = u; vertical_datum = vd; sounding_datum = sd; catzoc = z; known = end.0 } in
    subst (IsTableOf ms) end.1 (rows-table ms version built rows))))))))))))))))

lists-of : (ms : Members) (sheet : SheetView) → step_from_of ms ≡ Ok sheet.step_from → steps_of sheet.step_from ms ≡ Ok sheet.steps → step_lists_of ms ≡ Ok (record { step_from = sheet.step_from; steps = sheet.steps })
lists-of ms sheet f s = along (step_from_of ms) _ sheet.step_from _ f (along (steps_of sheet.step_from ms) _ sheet.steps _ s refl)

disc-of : (ms : Members) (sheet : SheetView) → number_of Aspect 100 1000 (Some (pos 1000)) ms ≡ Ok sheet.aspect → number_of DiscRadius 0 64000 (Some (pos 0)) ms ≡ Ok sheet.disc_radius → disc_of ms ≡ Ok (record { aspect = sheet.aspect; radius = sheet.disc_radius })
disc-of ms sheet a r = along (number_of Aspect 100 1000 (Some (pos 1000)) ms) _ sheet.aspect _ a (along (number_of DiscRadius 0 64000 (Some (pos 0)) ms) _ sheet.disc_radius _ r refl)

pub table-reads : (ms : Members) (sheet : SheetView) → IsTableOf ms sheet → sheet_of ms ≡ Ok sheet
unfolding sheet_of
table-reads ms sheet t =
    let s = t.is_sheet in
    let zone = reads-zone ms sheet.catzoc t.catzoc s.catzoc in
    let lists = lists-of ms sheet (reads-from ms sheet.step_from t.step_from (from-steps sheet.step_from sheet.steps s.steps)) (reads-steps sheet.step_from ms sheet.steps t.steps s.steps) in
    along (number_of Version 1 2 None ms) _ (version_of sheet.catzoc) sheet (stands-number Version 1 2 None ms (version_of sheet.catzoc) t.version (version-within sheet.catzoc)) (
    along (sense_of ms) _ sheet.positive sheet (reads-sense ms sheet.positive t.positive) (
    along (levels_of ms) _ sheet.levels sheet (reads-levels ms sheet.levels t.levels s.levels) (
    along (step_lists_of ms) _ (record { step_from = sheet.step_from; steps = sheet.steps }) sheet lists (
    along (disc_of ms) _ (record { aspect = sheet.aspect; radius = sheet.disc_radius }) sheet (disc-of ms sheet (either-number Aspect 100 1000 1000 ms sheet.aspect t.aspect s.aspect) (either-number DiscRadius 0 64000 0 ms sheet.disc_radius t.disc_radius (omega arith, s.disc_radius))) (
    along (radii_of (length sheet.levels) ms) _ sheet.sounding_radius sheet (reads-radii (length sheet.levels) ms sheet.sounding_radius s.levels.few t.sounding_radius (record { small = s.sounding_radius; fits = s.one_or_each })) (
    along (cell_name_of ms) _ sheet.name sheet (reads-text Name is_cell_name ms sheet.name t.name s.name) (
    along (number_of Edition 1 999 None ms) _ sheet.edition sheet (stands-number Edition 1 999 None ms sheet.edition t.edition s.edition) (
    along (issued_of ms) _ sheet.issued sheet (reads-text Issued is_day ms sheet.issued t.issued s.issued) (
    along (number_of Agency 1 65535 None ms) _ sheet.agency sheet (stands-number Agency 1 65535 None ms sheet.agency t.agency s.agency) (
    along (number_of Scale 1 100000000 None ms) _ sheet.scale sheet (stands-number Scale 1 100000000 None ms sheet.scale t.scale s.scale) (
    along (number_of Usage 1 6 None ms) _ sheet.usage sheet (stands-number Usage 1 6 None ms sheet.usage t.usage s.usage) (
    along (number_of VerticalDatum 1 254 None ms) _ sheet.vertical_datum sheet (stands-number VerticalDatum 1 254 None ms sheet.vertical_datum t.vertical_datum s.vertical_datum) (
    along (number_of SoundingDatum 1 254 None ms) _ sheet.sounding_datum sheet (stands-number SoundingDatum 1 254 None ms sheet.sounding_datum t.sounding_datum s.sounding_datum) (
    along (catzoc_of (version_of sheet.catzoc) ms) _ sheet.catzoc sheet zone (
    passes-checked (all_known (keys_of (version_of sheet.catzoc)) ms) fault.Unknown sheet t.known)))))))))))))))
