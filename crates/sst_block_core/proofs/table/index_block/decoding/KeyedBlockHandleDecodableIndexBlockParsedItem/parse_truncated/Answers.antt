use Rattle.std.proofs.Common.{◌≡◌, ◌∙◌, ◌++◌, take, drop, sym, ap, subst, Some}
use Rattle.sst_base.specs.SharedPrefix.{shared_prefix_length}
use Rattle.sst_base.specs.declared.table.util.SliceIndexes.{SliceIndexes}
use Rattle.sst_block_core.specs.Handles.{handle_with, truncated_at}
use Rattle.sst_block_core.specs.Found.{range_len, range_bytes}
use Rattle.sst_block_core.specs.ParsedHandle.{parsed_handle, fields_by}
use Rattle.sst_block_core.specs.declared.table.index_block.parsed_item.IndexBlockParsedItem.{IndexBlockParsedItem}
use Rattle.sst_block_core.proofs.Items.EntryReads.{no_reading}
use Rattle.sst_block_core.proofs.Items.HandleReads.{truncated_no_front, truncated_no_shared, truncated_no_rest, truncated_found, truncated_read, marker_ends}
use Rattle.sst_block_core.proofs.Items.OwnPrefixes.{own_base, own_encoded, own_longest}
use Rattle.sst_block_core.proofs.table.index_block.decoding.KeyedBlockHandleDecodableIndexBlockParsedItem.parse_truncated.Goals as goal

pub returns-in_err-fields-clause-item : goal.returns-in_err-fields-clause-item
returns-in_err-fields-clause-item c = λ base encoded x rest e.
    let bytes = drop c.args.offset c.args.payload.now in
    absurd (no_reading (truncated_at base bytes) (x, rest) e (truncated_no_front base bytes c.in_err-fields.ensures))

pub returns-in_err-shared-clause-item : goal.returns-in_err-shared-clause-item
returns-in_err-shared-clause-item c = λ base encoded x rest e.
    let bytes = drop c.args.offset c.args.payload.now in
    absurd (no_reading (truncated_at base bytes) (x, rest) e (truncated_no_shared bytes _ _ c.in_ok-fields.ensures.1 base c.in_err-shared.ensures.exact))

pub returns-in_err-key-clause-item : goal.returns-in_err-key-clause-item
returns-in_err-key-clause-item c = λ base encoded x rest e.
    let bytes = drop c.args.offset c.args.payload.now in
    absurd (no_reading (truncated_at base bytes) (x, rest) e (truncated_no_rest bytes _ _ c.in_ok-fields.ensures.1 base _ _ c.in_ok-shared.ensures.exact.1 c.in_err-key.ensures.exact))

pub returns-in_err-prefix-clause-item : goal.returns-in_err-prefix-clause-item
returns-in_err-prefix-clause-item c = λ base encoded x rest e.
    let f = truncated_found c.args.payload.now (drop c.args.offset c.args.payload.now) base c.args.base_key_offset c.in_ok-key.end c.in_ok-shared.shared (fields_by c.in_ok-fields.fields) _ _ c.in_ok-key.key
    encoded c.in_ok-key.ensures.range c.in_ok-fields.ensures.1 c.in_ok-shared.ensures.exact.1 c.in_ok-key.ensures.exact.1 x rest e in
    absurd (c.in_err-prefix.ensures.none f.0 f.1)

pub returns-clause-item : goal.returns-clause-item
returns-clause-item c = λ base encoded x rest e.
    let p = c.args.payload.now in
    let fields = fields_by c.in_ok-fields.fields in
    let f = truncated_found p (drop c.args.offset p) base c.args.base_key_offset c.in_ok-key.end c.in_ok-shared.shared fields _ _ c.in_ok-key.key
    encoded c.in_ok-key.ensures.range c.in_ok-fields.ensures.1 c.in_ok-shared.ensures.exact.1 c.in_ok-key.ensures.exact.1 x rest e in (
      c.in_ok-key.ensures.exact.0,
      ap (parsed_handle p) c.with_key.ensures ∙ ap (λ (q : SliceIndexes). handle_with fields (range_bytes p q ++ range_bytes p c.in_ok-key.key)) c.in_ok-prefix.ensures.found.0 ∙ f.2,
      f.3,
    )

pub returns-clause-read : goal.returns-clause-read
returns-clause-read c = λ base encoded.
    let p = c.args.payload.now in
    let bytes = drop c.args.offset p in
    let P : IndexBlockParsedItem → Type 0 = λ q. range_len q.prefix ≡ shared_prefix_length base (parsed_handle p q).end_key
    → ◌≡◌ (truncated_at base bytes) (Some (parsed_handle p q, drop c.in_ok-key.end p)) in
    subst P (sym c.with_key.ensures) (truncated_read p bytes base c.args.base_key_offset c.in_ok-key.end c.in_ok-shared.shared (fields_by c.in_ok-fields.fields) _ _ c.in_ok-key.key
    encoded c.in_ok-key.ensures.range c.in_ok-fields.ensures.1 c.in_ok-shared.ensures.exact.1 c.in_ok-key.ensures.exact.1 c.in_ok-prefix.prefix c.in_ok-prefix.ensures.found.0 c.in_ok-prefix.ensures.found.2)

pub returns-clause-marker : goal.returns-clause-marker
returns-clause-marker c = λ encoded. absurd (marker_ends c.args.payload.now c.args.offset _ encoded c.in_ok-fields.ensures.1)

pub returns-clause-encoded : goal.returns-clause-encoded
returns-clause-encoded c =
    let p = c.args.payload.now in
    let bytes = drop c.args.offset p in
    let found = c.in_ok-prefix.ensures.found in
    let base = c.args.base_key_offset in
    let n = c.in_ok-shared.shared in
    let prefix = c.in_ok-prefix.prefix in
    let key = range_bytes p c.in_ok-key.key in
    let P : IndexBlockParsedItem → Type 0 = λ q. ◌≡◌ (truncated_at (take (range_len q.prefix) (drop base p)) bytes) (Some (parsed_handle p q, drop c.in_ok-key.end p)) in
    subst P (sym c.with_key.ensures) (truncated_read p bytes (own_base p base n prefix found.0 found.1) base c.in_ok-key.end n (fields_by c.in_ok-fields.fields) _ _ c.in_ok-key.key
    (own_encoded p base n prefix found.0 found.1) c.in_ok-key.ensures.range c.in_ok-fields.ensures.1 c.in_ok-shared.ensures.exact.1 c.in_ok-key.ensures.exact.1 prefix found.0 found.2 (own_longest p base n prefix found.0 found.1 key))
