-- How many entries a block has.
use Rattle.std.proofs.Common.{◌≡◌, ℕ, ◌<◌, ◌^◌, List, ◌∷◌, ◌++◌, length, ap, arith, length-append}
use Rattle.std.proofs.lemmas.List.Sums.{length-filter, count_by-le-length}
use Rattle.sst_base.specs.Entry.{Entry, IsEntry}
use Rattle.sst_block_core.specs.Body.{body}
use Rattle.sst_block_core.specs.Buckets.{buckets, stored_count}
use Rattle.sst_block_core.specs.Entries.{entries}
use Rattle.sst_block_core.specs.EntryLaws.{IsKind-entries}
use Rattle.sst_block_core.specs.OffsetLaws.{body_long}
use Rattle.sst_block_core.specs.Payload.{IsBlock, trailer_of}
use Rattle.sst_block_core.specs.Pointers.{pointers}
use Rattle.sst_block_core.specs.Trailer.{trailer}
use Rattle.sstable_blocks.specs.Scans.{KeyRange, in_range, within}

-- no more than the bytes of its payload
items_fit : (hash : List ℕ → ℕ) (p : List ℕ) (items : List Entry) (r b : ℕ) → IsBlock entries IsEntry hash p items r b → length p < 2 ^ 32 → length items < 2 ^ 32
items_fit hash p items r b block fits =
    let e = block.encoding in
    let stored = stored_count r (length items) b in
    let after : List ℕ = 255 ∷ (pointers entries r items ++ (buckets entries hash r items stored ++ trailer (trailer_of entries r items stored))) in
    let long = body_long entries r e.interval.some IsEntry IsKind-entries items in
    let whole : length p ≡ length (body entries r items ++ after) = ap length e.whole in
    let parts = length-append (body entries r items) after in
    omega (arith, long, whole, parts, fits)

-- nor in a range
pub few_within : (r : KeyRange) (items left : List Entry) (hash : List ℕ → ℕ) (p : List ℕ) (i b : ℕ) → left ≡ within r items → IsBlock entries IsEntry hash p items i b → length p < 2 ^ 32 → length left < 2 ^ 32
unfolding within
few_within r items left hash p i b is block fits =
    let all = items_fit hash p items i b block fits in
    let same : length left ≡ length (within r items) = ap length is in
    let count = length-filter (λ (x : Entry). in_range r x.key.user_key) items in
    let most = count_by-le-length (λ (x : Entry). in_range r x.key.user_key) items in
    omega (arith, all, same, count, most)
