use Rattle.cell_writer.specs.Layout.{feature_parts}
use Rattle.cell_writer.specs.Sized.{FeatureFits}
use Rattle.cell_writer.proofs.Loops.{all_through, one_more}
use Rattle.cell_writer.proofs.Numbered.{appended, short}
use Rattle.cell_writer.proofs.Rooms.{kept_through}
use Rattle.cell_writer.proofs.feature.write_features.Goals as goal

pub loop-index-preserved : goal.loop-index-preserved
loop-index-preserved c =
    let k = c.loop-index.index in
    record {
      items = appended feature_parts c.args.first k c.args.features.now c.index-features-index.result _ _ _ c.loop-index-test.true c.index-features-index.is c.in_ok-write_feature.ensures.items c.loop-index.invariant.items;
      room = kept_through c.args.out.now c.loop-index.out c.write_feature.new.out _ c.in_ok-write_feature.ensures.items c.loop-index.invariant.room c.in_ok-write_feature.ensures.room;
      short = (short feature_parts c.args.first k c.args.features.now c.index-features-index.result c.loop-index-test.true c.index-features-index.is c.loop-index.invariant.short).1;
      fits = one_more FeatureFits c.args.features.now k c.index-features-index.result c.loop-index-test.true c.index-features-index.is c.loop-index.invariant.fits c.in_ok-write_feature.ensures.fits;
    }

pub returns-clause-fits : goal.returns-clause-fits
returns-clause-fits c = all_through FeatureFits c.args.features.now c.loop-index.index c.loop-index-test.false c.loop-index.invariant.fits
