-- What a read by a table counts, in terms of the run's bytes.
use Rattle.std.proofs.Common.{◌≡◌, ◌≢◌, ℕ, ◌+◌, Bool, List, length, arith, sym, ◌∙◌, ap, subst, Option, Some, None, IfSome, IfOk, IfErr, Result, Ok, Err}
use Rattle.std.specs.Option.{option_map}
use Rattle.sst_base.specs.Block.{BlockParts}
use Rattle.sst_base.specs.BlockHandle.{HandleParts}
use Rattle.sst_base.specs.Bytes.{IsBytes}
use Rattle.sst_base.specs.Counted.{Counted, CountsBetween}
use Rattle.sst_base.specs.declared.error.Error.{Error}
use Rattle.sst_base.specs.declared.error.Error.TheVariants.{Io, Memory}
use Rattle.sst_base.specs.declared.table.block.block_type.BlockType.{BlockType}
use Rattle.sst_base.specs.declared.table.block.block_type.BlockType.TheVariants as types
use Rattle.sst_block_core.specs.Entries.{entries}
use Rattle.sst_block_core.specs.Intervals.{digits}
use Rattle.sst_block_core.specs.Pointers.{head_count}
use Rattle.sst_block_core.specs.Stages.{items_in}
use Rattle.sst_block_core.specs.Trailer.{trailer_in}
use Rattle.sst_block_core.specs.Checks.{index_check, IndexVerdict}
use Rattle.sst_block_core.specs.DataBlock.{DataBlockParts, data_block_of}
use Rattle.sst_block_core.specs.Handles.{Handle, handles}
use Rattle.sst_block_core.specs.IndexBlock.{IndexBlockParts, index_block_of}
use Rattle.sst_block_core.specs.PointReads.{read_most}
use Rattle.sstable_blocks.specs.Opened.{range_of, payload_in, index_in}
use Rattle.sstable_blocks.specs.ReadCosts.{heads_at, entries_at, heads_most_by, entries_most_by, heads_most_in, entries_most_in}
use Rattle.sstable_blocks.specs.RunReading.{Hashes, payload_at}
use Rattle.sstable_blocks.specs.Tables.{IsBlockIn, IsIndexIn, IsKeptOf}
use Rattle.sstable_blocks.specs.declared.run.RunHandles.{RunHandles}
use Rattle.sstable_blocks.specs.MeaningLaws.{payload_at_takes}
use Rattle.sstable_blocks.specs.OpeningLaws.{frame_range}
use Rattle.sstable_blocks.specs.PointLaws.{some_range, block_heads, block_entries}

-- nothing was counted
pub nothing_counted : (o : Option (List ℕ)) (s : Counted) (most : List ℕ → ℕ × ℕ) → IfSome o (λ all. CountsBetween s s (0, 0) (most all))
nothing_counted None s most = tt
nothing_counted (Some all) s most = record { heads_least = omega arith; heads_most = omega arith; entries_least = omega arith; entries_most = omega arith }

-- a payload that was read is in the range of its frame
pub placed : (c : Hashes) (t : BlockType) (o : Option (List ℕ)) (k : HandleParts) (p : List ℕ) → IfSome o IsBytes → IfSome o (λ all. payload_at c t all k ≡ Ok p) → IfSome o (λ all. payload_in all k ≡ p)
placed c t None k p cells read = tt
placed c t (Some all) k p cells read = (frame_range c t all p k (payload_at_takes c t all k p cells read)).1

-- so are the handles of an index and its interval
pub index_placed : (c : Hashes) (o : Option (List ℕ)) (k : HandleParts) (b : BlockParts) (heads : Bool) (d : IndexBlockParts) → d ≡ index_block_of b heads → IfSome o IsBytes → IfSome o (λ all. payload_at c types.Index all k ≡ Ok b.payload)
    → IfSome o (λ all. IsIndexIn all k d.items d.interval)
index_placed c None k b heads d is cells read = tt
index_placed c (Some all) k b heads d is cells read =
    let at : payload_in all k ≡ b.payload = placed c types.Index (Some all) k b.payload cells read in
    record {
      index_is = ap (λ (x : IndexBlockParts). x.items) is ∙ ap (λ q. items_in handles q) (sym at);
      interval_is = ap (λ (x : IndexBlockParts). x.interval) is ∙ ap (λ q. (trailer_in q).interval) (sym at);
    }

pub index_placed_ok : (c : Hashes) (o : Option (List ℕ)) (k : HandleParts) (b : BlockParts) (heads : Bool) (r : Result IndexBlockParts Error) → IfOk r (λ d. d ≡ index_block_of b heads) → IfSome o IsBytes → IfSome o (λ all. payload_at c types.Index all k ≡ Ok b.payload)
    → IfOk r (λ d. IfSome o (λ all. IsIndexIn all k d.items d.interval))
index_placed_ok c o k b heads (Ok d) is cells read = index_placed c o k b heads d is cells read
index_placed_ok c o k b heads (Err e) is cells read = tt

-- so are the entries of a data block and its interval
pub block_placed_ok : (c : Hashes) (o : Option (List ℕ)) (k : HandleParts) (b : BlockParts) (heads : Bool) (r : Result DataBlockParts Error) → IfOk r (λ d. d ≡ data_block_of b heads) → IfSome o IsBytes → IfSome o (λ all. payload_at c types.Data all k ≡ Ok b.payload)
    → IfOk r (λ d. IfSome o (λ all. IsBlockIn all k d.items d.interval))
block_placed_ok c o k b heads (Err e) is cells read = tt
block_placed_ok c None k b heads (Ok d) is cells read = tt
block_placed_ok c (Some all) k b heads (Ok d) is cells read =
    let at : payload_in all k ≡ b.payload = placed c types.Data (Some all) k b.payload cells read in
    record {
      items_is = ap (λ (x : DataBlockParts). x.items) is ∙ ap (λ q. items_in entries q) (sym at);
      interval_is = ap (λ (x : DataBlockParts). x.interval) is ∙ ap (λ q. (trailer_in q).interval) (sym at);
    }

-- the check of an index never reports a source that failed
pub check_not_io : {X : Type 0} (p : List ℕ) (r : Result X Error) (P : Type 0) → IndexVerdict (trailer_in p) p (index_check p) → IfErr r (λ e. e ≢ Memory → index_check p ≡ Err e) → IfErr r (λ e. e ≡ Io → P)
check_not_io p (Ok x) P verdict refused = tt
check_not_io p (Err e) P verdict refused = λ io.
    let other : e ≢ Memory = (λ m. let wrong : Io ≡ Memory = sym io ∙ m in cc) in
    let is : index_check p ≡ Err Io = refused other ∙ ap (λ x. Err x) io in
    absurd (subst (IndexVerdict (trailer_in p) p) is verdict)

-- a point read of a block that was read counts at most what that block's bytes say
pub block_counted : (c : Hashes) (o : Option (List ℕ)) (r : Option HandleParts) (k : HandleParts) (b : BlockParts) (made : Bool) (d : DataBlockParts) (needle : List ℕ) (s t : Counted) (least : ℕ × ℕ) → r ≡ Some k → d ≡ data_block_of b made → IfSome o IsBytes
    → IfSome o (λ all. payload_at c types.Data all k ≡ Ok b.payload) → CountsBetween s t least (read_most c.hash64 d needle)
    → IfSome o (λ all. (h : Option Handle) → r ≡ option_map range_of h → CountsBetween s t (0, 0) (digits (heads_at all h), entries_at all h))
block_counted c None r k b made d needle s t least at_k is cells read counts = tt
block_counted c (Some all) r k b made d needle s t least at_k is cells read counts = λ h e.
    let g = some_range h k (sym e ∙ at_k) in
    let at : payload_in all k ≡ b.payload = placed c types.Data (Some all) k b.payload cells read in
    let here : payload_in all (range_of g.0) ≡ b.payload = ap (payload_in all) g.2 ∙ at in
    let heads : digits (head_count d.interval (length d.items)) ≡ digits (heads_at all h) =
    ap (λ (x : DataBlockParts). digits (head_count x.interval (length x.items))) is ∙ ap (λ q. digits (head_count (trailer_in q).interval (length (items_in entries q)))) (sym here) ∙ ap (λ o. digits (heads_at all o)) (sym g.1) in
    let items : d.interval + 1 ≡ entries_at all h = ap (λ (x : DataBlockParts). x.interval + 1) is ∙ ap (λ q. (trailer_in q).interval + 1) (sym here) ∙ ap (entries_at all) (sym g.1) in
    let few = block_heads c.hash64 d needle in
    let most = block_entries c.hash64 d needle in
    record { heads_least = omega arith; heads_most = omega arith; entries_least = omega arith; entries_most = omega arith }

-- what was counted by the handles and the interval that were kept is at most what the run's bytes say
pub kept_counts : (c : Hashes) (o : Option (List ℕ)) (h : RunHandles) (filter : Option (List ℕ)) (index : List Handle) (interval : ℕ) (needle : List ℕ) (seqno : ℕ) (s t : Counted) → IfSome o (IsKeptOf c h filter index interval)
    → IfSome o (λ all. CountsBetween s t (0, 0) (heads_most_by all index interval needle seqno, entries_most_by all index interval needle seqno))
    → IfSome o (λ all. CountsBetween s t (0, 0) (heads_most_in all h needle seqno, entries_most_in all h needle seqno))
kept_counts c None h filter index interval needle seqno s t k counts = tt
kept_counts c (Some all) h filter index interval needle seqno s t k counts =
    let P : List Handle → ℕ → Type 0 = λ (hs : List Handle) (n : ℕ). CountsBetween s t (0, 0) (heads_most_by all hs n needle seqno, entries_most_by all hs n needle seqno) in
    subst (P (index_in all h.index)) k.place.interval_is (subst (λ hs. P hs interval) k.place.index_is counts)
