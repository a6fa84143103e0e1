use Rattle.s57_records.proofs.Again.{reads_back}
use Rattle.s57_records.proofs.Written.{is_written}
use Rattle.s57_records.proofs.Repeats.{groups_back, attribute_back}
use Rattle.s57_records.proofs.law.field_laws.Goals as goal

pub returns : goal.returns
returns c = record {
  reads_back = reads_back;
  is_written = is_written;
  groups_back = groups_back;
  attribute_back = attribute_back;
}
