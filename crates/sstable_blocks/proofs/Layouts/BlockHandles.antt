-- The handles of a run's blocks: as many as blocks, ordered, and within their limits.
use Rattle.std.proofs.Common.{◌≡◌, ℕ, suc, ◌+◌, ◌<◌, ◌≤◌, ◌^◌, List, [], ◌∷◌, length, refl, arith, sym, ap, subst, length-append}
use Rattle.std.specs.List.{AllZip, AllByRecursion}
use Rattle.sst_base.specs.Key.{Key}
use Rattle.sst_base.specs.Entry.{Entry, IsEntry}
use Rattle.sst_base.specs.FrameLaws.{length-frame}
use Rattle.sst_base.specs.declared.table.block.block_type.BlockType.TheVariants.{Data}
use Rattle.sst_block_core.specs.Kind.{IsOrdered}
use Rattle.sst_block_core.specs.Entries.{entries}
use Rattle.sst_block_core.specs.Handles.{IsHandle, handles, EndFits}
use Rattle.sstable_blocks.specs.Blocks.{joined, IsNotEmpty}
use Rattle.sstable_blocks.specs.Lookup.{IsEnd}
use Rattle.sstable_blocks.specs.Run.{Form, block_payload, block_frame, block_frames, handles_from, IsFramed, IsRun}
use Rattle.sstable_blocks.specs.EndLaws.{ends_in_order, all_front, all_back}
use Rattle.sstable_blocks.specs.SummaryLaws.{end_parts}

module _ (f : Form) where
  -- each handle has the key and the sequence number of the last entry of its block
  pub handles_end : (blocks : List (List Entry)) (offset : ℕ) → AllByRecursion IsNotEmpty blocks → AllZip (IsEnd entries handles) blocks (handles_from f offset blocks)
  handles_end [] offset h = tt
  handles_end (b ∷ bs) offset h =
      let e = end_parts b h.0 in (
        record { front = e.0; last = e.1; whole = e.2; key = ap (λ (k : Key). k.user_key) e.3; seqno = ap (λ (k : Key). k.seqno) e.3 },
        handles_end bs (offset + length (block_frame f b)) h.1,
      )

  -- there are as many handles as blocks
  pub length-handles_from : (blocks : List (List Entry)) (offset : ℕ) → length (handles_from f offset blocks) ≡ length blocks
  length-handles_from [] offset = refl
  length-handles_from (b ∷ bs) offset = ap suc (length-handles_from bs (offset + length (block_frame f b)))

  -- the handles are within their limits
  pub handles_valid : (blocks : List (List Entry)) (offset : ℕ) → AllByRecursion IsNotEmpty blocks → AllByRecursion IsEntry (joined blocks) → AllByRecursion (λ block. IsFramed (block_payload f block)) blocks
      → offset + length (block_frames f blocks) < 2 ^ 64 → AllByRecursion IsHandle (handles_from f offset blocks) × AllByRecursion EndFits (handles_from f offset blocks)
  handles_valid [] offset s v fits end = (tt, tt)
  handles_valid (b ∷ bs) offset s v fits end =
      let e = end_parts b s.0 in
      let valid : IsEntry e.1 = (all_back IsEntry e.0 (e.1 ∷ []) (subst (AllByRecursion IsEntry) e.2 (all_front IsEntry b (joined bs) v))).0 in
      let size : length (block_frame f b) ≡ 33 + length (block_payload f b) = length-frame f.hash128 Data (block_payload f b) in
      let both = length-append (block_frame f b) (block_frames f bs) in
      let small : IsFramed (block_payload f b) = fits.0 in
      let more = handles_valid bs (offset + length (block_frame f b)) s.1 (all_back IsEntry b (joined bs) v) fits.1 (omega arith) in (
        (
          record {
            offset = omega arith;
            size = omega arith;
            seqno = subst (λ (k : Key). k.seqno < 2 ^ 64) (sym e.3) valid.seqno;
            end_key = subst (λ (k : Key). length k.user_key ≤ 65535) (sym e.3) valid.user_key;
          },
          more.0,
        ),
        (omega arith, more.1),
      )

  -- the handles are what an index block is made of
  pub handles_ready : (blocks : List (List Entry)) → IsRun f blocks → AllByRecursion (λ block. IsFramed (block_payload f block)) blocks → length (block_frames f blocks) < 2 ^ 64
      → (length (handles_from f 0 blocks) ≡ length blocks) × IsOrdered handles (handles_from f 0 blocks) × AllByRecursion IsHandle (handles_from f 0 blocks) × AllByRecursion EndFits (handles_from f 0 blocks)
  handles_ready blocks run framed end =
      let valid = handles_valid blocks 0 run.all_some run.valid framed (omega arith) in
      (length-handles_from blocks 0, ends_in_order entries handles blocks (handles_from f 0 blocks) (handles_end blocks 0 run.all_some) run.ordered, valid.0, valid.1)
