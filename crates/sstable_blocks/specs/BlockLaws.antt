-- Laws of bytes, keys and blocks that proofs of crates above name; each is shown where its line says.
pub use Rattle.sst_base.specs.BytesLaws.{IsBytes-drop, IsBytes-take}
pub use Rattle.sst_base.specs.TestLaws.{and_parts, eq_is, is_not_lt, lt_is, lt_test, none_from, not_false, not_lt, not_true, some_is}
pub use Rattle.sst_base.specs.NumberLaws.{big_number-cons, number_past_end, numbers_decide, pow_256}
pub use Rattle.sst_base.specs.VarintLaws.{varint_within_more, varint_within_small}
pub use Rattle.sst_base.specs.ReadingLaws.{bind_some, value_type_of-byte}
pub use Rattle.sst_base.specs.HeaderLaws.{bind_ok, guard_ok, header_at-type, refuse_ok}
pub use Rattle.sst_base.specs.FrameLaws.{length-frame, length-header}
pub use Rattle.sst_base.specs.FrameErrorLaws.{NotIo}
pub use Rattle.sst_base.specs.KeyOrderLaws.{slice_cmp-equal, versions_cmp_total}
pub use Rattle.sst_block_core.specs.ListLaws.{all_reverse, first_filter, push_reverse}
pub use Rattle.sst_block_core.specs.ListSteps.{took_some}
pub use Rattle.sst_block_core.specs.OffsetLaws.{body-append}
pub use Rattle.sst_block_core.specs.HandleRanges.{handle_range}
pub use Rattle.sst_block_core.specs.PlaceLaws.{next_in_interval}
pub use Rattle.sst_block_core.specs.PointReads.{read_most}
pub use Rattle.sst_block_core.specs.VersionLaws.{keys_equal}
pub use Rattle.sst_block_core.specs.WindowLaws.{item_same, items_left-whole, next_none, next_some}
