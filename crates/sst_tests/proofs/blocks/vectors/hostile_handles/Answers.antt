use Rattle.std.proofs.Common.{refl}
use Rattle.sst_base.specs.Varint.{varint, varint_within, varint_up_to, varint_at}
use Rattle.sst_base.specs.Reading.{number_at, length_prefixed_at}
use Rattle.sst_block_core.specs.Body.{body, items_at}
use Rattle.sst_block_core.specs.Trailer.{trailer_from}
use Rattle.sst_block_core.specs.Stages.{items_by}
use Rattle.sst_block_core.specs.Handles.{fields, fields_at, full, full_at, truncated, truncated_at}
use Rattle.sst_block_core.specs.Checks.{index_check}
use Rattle.sst_tests.proofs.blocks.vectors.hostile_handles.Goals as goal

pub returns : goal.returns
unfolding index_check trailer_from items_by items_at full_at truncated_at fields_at number_at length_prefixed_at varint_at varint_up_to varint varint_within body full truncated fields
returns c = record { far = refl; near = refl; marker = refl; at_2 = refl; at_0 = refl; prefix = refl }
