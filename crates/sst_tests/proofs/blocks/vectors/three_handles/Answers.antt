use Rattle.std.proofs.Common.{refl}
use Rattle.sst_base.specs.Varint.{varint, varint_within}
use Rattle.sst_block_core.specs.Body.{body}
use Rattle.sst_block_core.specs.Pointers.{index_bytes}
use Rattle.sst_block_core.specs.Buckets.{buckets}
use Rattle.sst_block_core.specs.Payload.{trailer_of}
use Rattle.sst_block_core.specs.Trailer.{trailer}
use Rattle.sst_block_core.specs.Handles.{full, truncated, fields}
use Rattle.sst_tests.proofs.blocks.vectors.three_handles.Goals as goal

pub returns : goal.returns
unfolding varint varint_within body index_bytes buckets trailer_of trailer full truncated fields
returns c = record { at_1 = refl; at_2 = refl; at_3 = refl; lengths = (refl, refl, refl); prefixes = refl }
