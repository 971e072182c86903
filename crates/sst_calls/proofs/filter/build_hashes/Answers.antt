use Rattle.std.proofs.Common.{rules, ℕ, List, length}
use Rattle.sstable_blocks.specs.Run.{IsFilterText}
use Rattle.sst_calls.specs.Filters.{CanBuild, IsFilterBuild}
use Rattle.sst_calls.specs.Given.{IsWrittenOut}
use Rattle.sst_calls.specs.declared.codes.Status.{Status}
use Rattle.sst_calls.specs.declared.codes.Status.TheVariants.{Done, Failed, NotFound, BadArgument, NoRoom}
use Rattle.sst_calls.proofs.filter.build_hashes.Goals as goal

-- a payload that is written, or has no room
built : (bits : ℕ) (hashes bytes old new : List ℕ) (len_old len_new : ℕ) (s : Status) → CanBuild (length hashes) bits → IsFilterText hashes bits bytes → IsWrittenOut bytes old new len_new s
    → IsFilterBuild bits hashes old new len_old len_new s
built bits hashes bytes old new len_old len_new Done can is written = (can, (bytes, is, written))
built bits hashes bytes old new len_old len_new NoRoom can is written = (can, (bytes, is, written))
built bits hashes bytes old new len_old len_new NotFound can is written = absurd written
built bits hashes bytes old new len_old len_new BadArgument can is written = absurd written
built bits hashes bytes old new len_old len_new (Failed e) can is written = absurd written

pub returns-in-Ok : goal.returns-in-Ok
returns-in-Ok c = built _ _ c.in-Ok.payload.items _ _ _ _ c.write_bytes.result (search rules) c.in-Ok.ensures.ok (search rules)
