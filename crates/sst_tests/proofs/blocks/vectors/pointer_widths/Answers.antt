use Rattle.std.proofs.Common.{refl}
use Rattle.sst_base.specs.Varint.{varint, varint_within}
use Rattle.sst_block_core.specs.Body.{body}
use Rattle.sst_block_core.specs.Pointers.{index_bytes}
use Rattle.sst_block_core.specs.Buckets.{buckets}
use Rattle.sst_block_core.specs.Payload.{trailer_of}
use Rattle.sst_block_core.specs.Trailer.{trailer}
use Rattle.sst_block_core.specs.Entries.{full, truncated}
use Rattle.sst_tests.proofs.blocks.vectors.pointer_widths.Goals as goal

pub returns : goal.returns
unfolding varint varint_within body index_bytes buckets trailer_of trailer full truncated
returns c = record { narrow = refl; narrow_pointers = refl; wide = refl; wide_pointers = refl }
