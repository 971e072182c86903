use Rattle.std.proofs.Common.{refl}
use Rattle.sst_base.specs.Varint.{varint, varint_within}
use Rattle.sst_block_core.specs.Body.{body}
use Rattle.sst_block_core.specs.Pointers.{index_bytes}
use Rattle.sst_block_core.specs.Buckets.{buckets}
use Rattle.sst_block_core.specs.Payload.{trailer_of}
use Rattle.sst_block_core.specs.Trailer.{trailer}
use Rattle.sst_block_core.specs.Entries.{full, truncated}
use Rattle.sst_tests.proofs.blocks.vectors.truncated_pair.Goals as goal

pub returns : goal.returns
unfolding varint varint_within body index_bytes buckets trailer_of trailer full truncated
returns c = record { block = refl; hash_block = refl; hash_at_1 = refl }
