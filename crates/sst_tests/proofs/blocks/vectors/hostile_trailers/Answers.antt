use Rattle.std.proofs.Common.{refl}
use Rattle.sst_base.specs.Varint.{varint, varint_within, varint_up_to, varint_at}
use Rattle.sst_base.specs.Reading.{number_at, length_prefixed_at}
use Rattle.sst_block_core.specs.Body.{body, items_at}
use Rattle.sst_block_core.specs.Trailer.{trailer, trailer_from}
use Rattle.sst_block_core.specs.Pointers.{index_bytes}
use Rattle.sst_block_core.specs.Buckets.{buckets}
use Rattle.sst_block_core.specs.Payload.{trailer_of}
use Rattle.sst_block_core.specs.Stages.{items_by}
use Rattle.sst_block_core.specs.Entries.{full, full_at, truncated, truncated_form_at, truncated_at}
use Rattle.sst_block_core.specs.Checks.{data_check}
use Rattle.sst_tests.proofs.blocks.vectors.hostile_trailers.Goals as goal

pub returns : goal.returns
unfolding data_check trailer_from items_by items_at full_at truncated_at truncated_form_at number_at length_prefixed_at varint_at varint_up_to varint varint_within body full truncated trailer index_bytes buckets trailer_of
returns c = record { pointer = refl; interval = refl; width = refl; fourth = refl; fifth = refl }
