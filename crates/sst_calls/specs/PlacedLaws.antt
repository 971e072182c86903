-- The order of entries of runs.
use Rattle.std.specs.Prelude.{◌≡◌, ◌<◌, true, false}
use Rattle.std.specs.Cmp.{IsTotalOrder}
use Rattle.std.specs.Ordering.{is_lt}
use Rattle.sstable_blocks.specs.Prelude.{IsBytes, entries}
use Rattle.sstable_blocks.specs.BlockLaws.{versions_cmp_total}
use Rattle.sst_sources.specs.Fronts.{key_front}
use Rattle.sst_sources.specs.FrontLaws.{entry_tells}
use Rattle.sst_calls.specs.Placed.{PlacedEntry, placed_cmp}

-- it is an order
pub placed_total : IsTotalOrder placed_cmp
placed_total =
    let order = versions_cmp_total entries.key entries.seqno in
    record {
      antisymm = λ x y. order.antisymm x.entry y.entry;
      trans = λ x y z. order.trans x.entry y.entry z.entry;
      congr = λ x y z. order.congr x.entry y.entry z.entry;
    }

-- of two entries whose keys' fronts differ that of the lesser front goes first
pub placed_tells : (x y : PlacedEntry) → IsBytes x.entry.key.user_key → IsBytes y.entry.key.user_key → key_front x.entry.key.user_key < key_front y.entry.key.user_key
    → (is_lt (placed_cmp y x) ≡ false) × (is_lt (placed_cmp x y) ≡ true)
placed_tells x y v w less = entry_tells x.entry y.entry v w less
