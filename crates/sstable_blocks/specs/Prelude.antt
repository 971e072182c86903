-- The library's words that contracts of callers name, in one place, beside std's own prelude; each is defined where its line
-- says. `Results` has those of errors, `BlockTypes` and `ValueTypes` have the types, and `BlockLaws` laws of blocks.
-- ghost use Rattle.sstable_blocks.specs.Prelude.{..}

-- bytes, numbers and keys
pub use Rattle.sst_base.specs.Bytes.{IsBytes}
unfoldable pub use Rattle.sst_base.specs.Varint.{varint}
pub use Rattle.sst_base.specs.Reading.{◌>>=◌}
pub use Rattle.sst_base.specs.Hashes.{poly31}
pub use Rattle.sst_base.specs.Key.{Key}
pub use Rattle.sst_base.specs.Order.{IsInOrder, key_cmp, versions_cmp}
pub use Rattle.sst_base.specs.Counted.{Counted, CountsBetween, found_item}
-- entries, handles and frames
pub use Rattle.sst_base.specs.Entry.{Entry, IsEntry, plain, plain_value}
pub use Rattle.sst_base.specs.ValueType.{value_type_byte, value_type_of}
pub use Rattle.sst_base.specs.Block.{BlockParts}
pub use Rattle.sst_base.specs.BlockHandle.{HandleParts}
pub use Rattle.sst_base.specs.BlockType.{block_type_byte, block_type_of}
pub use Rattle.sst_base.specs.declared.table.block.header.Header.{Header}
unfoldable pub use Rattle.sst_base.specs.Header.{header, header_at, header_start}
pub use Rattle.sst_base.specs.Frame.{demand, header_for}
unfoldable pub use Rattle.sst_base.specs.Frame.{frame, frame_in, payload_of_type}
pub use Rattle.sst_base.specs.declared.config.HashRatio.{HashRatio}
-- blocks
pub use Rattle.sst_block_core.specs.Kind.{IsOrdered, item_cmp}
pub use Rattle.sst_block_core.specs.Entries.{data_payload, entries, value_part}
unfoldable pub use Rattle.sst_block_core.specs.Entries.{full, truncated}
pub use Rattle.sst_block_core.specs.Handles.{Handle, IsHandle, EndFits, handles, index_payload}
pub use Rattle.sst_block_core.specs.Handles.{IsIndexBlock, IndexPasses, IndexPassesBy}
pub use Rattle.sst_block_core.specs.ParsedEntry.{IsParsedEntry, entry_of}
pub use Rattle.sst_block_core.specs.ParsedHandle.{IsParsedHandle, parsed_handle}
pub use Rattle.sst_block_core.specs.Tombstones.{is_tombstone}
pub use Rattle.sst_block_core.specs.Body.{item_form, place_offset, truncated_against}
unfoldable pub use Rattle.sst_block_core.specs.Body.{body}
pub use Rattle.sst_block_core.specs.Buckets.{bucket_count}
pub use Rattle.sst_block_core.specs.Pointers.{head_count}
pub use Rattle.sst_block_core.specs.Trailer.{trailer_in}
unfoldable pub use Rattle.sst_block_core.specs.Heads.{front}
pub use Rattle.sst_block_core.specs.Payload.{IsBlock}
pub use Rattle.sst_block_core.specs.DataBlock.{DataBlockParts, DataRefParts, data_ref_of}
pub use Rattle.sst_block_core.specs.Encoders.{IsRefusal}
pub use Rattle.sst_block_core.specs.Stages.{Passes, items_in}
unfoldable pub use Rattle.sst_block_core.specs.Disorder.{disorder_from}
pub use Rattle.sst_block_core.specs.Checks.{DataVerdict, IndexVerdict, is_in_order}
unfoldable pub use Rattle.sst_block_core.specs.Checks.{data_check, index_check}
pub use Rattle.sst_block_core.specs.declared.table.data_block.parsed_item.DataBlockParsedItem.{DataBlockParsedItem}
pub use Rattle.sst_block_core.specs.declared.table.index_block.parsed_item.IndexBlockParsedItem.{IndexBlockParsedItem}
-- reads, windows and scans
pub use Rattle.sst_block_core.specs.Window.{Window, Step, Answer, whole, items_left, next, next_back, seek, seek_upper}
pub use Rattle.sst_block_core.specs.Window.{item, passes, some_left, first_left, last_left, is_version}
unfoldable pub use Rattle.sst_block_core.specs.Window.{count_passed, first_match}
pub use Rattle.sst_block_core.specs.Intervals.{digits}
pub use Rattle.sst_block_core.specs.Candidates.{GivesNextHeld, scan_cost}
pub use Rattle.sst_block_core.specs.Found.{IsOptionalRange, optional_range}
pub use Rattle.sst_block_core.specs.Scan.{Scan, GivesScanned}
-- runs
pub use Rattle.sstable_blocks.specs.Blocks.{blocks_of, joined, CutsFit}
pub use Rattle.sstable_blocks.specs.Callers.{IsEncodable, newest, GivesNewest, FailsAsEncoding}
pub use Rattle.sstable_blocks.specs.Run.{IsWritable}
pub use Rattle.sstable_blocks.specs.RunReading.{hashes}
pub use Rattle.sstable_blocks.specs.Scans.{KeyRange}
unfoldable pub use Rattle.sstable_blocks.specs.Scans.{within}
pub use Rattle.sstable_blocks.specs.Sound.{IsSound}
