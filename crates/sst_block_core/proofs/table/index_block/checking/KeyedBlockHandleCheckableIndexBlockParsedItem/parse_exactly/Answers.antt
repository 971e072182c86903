use Rattle.std.proofs.Common.{◌++◌, ◌∙◌, ap, refl, sym, length, drop, Some, arith, rules}
use Rattle.sst_base.specs.declared.table.util.SliceIndexes.{SliceIndexes}
use Rattle.sst_base.specs.BytesLaws.{length_part}
use Rattle.sst_block_core.specs.Found.{range_bytes}
use Rattle.sst_block_core.specs.Handles.{handle_with}
use Rattle.sst_block_core.specs.ParsedHandle.{parsed_handle, fields_by}
use Rattle.sst_block_core.proofs.Items.HandleReads.{truncated_no_front, truncated_no_shared, truncated_no_rest}
use Rattle.sst_block_core.proofs.Items.ExactHandles.{not_longest, not_key, found_exactly}
use Rattle.sst_block_core.proofs.table.index_block.checking.KeyedBlockHandleCheckableIndexBlockParsedItem.parse_exactly.Goals as goal

pub returns-in_err-fields-clause-exact : goal.returns-in_err-fields-clause-exact
returns-in_err-fields-clause-exact c =
    let n = truncated_no_front (range_bytes c.args.payload.now c.args.base.now) (drop c.args.offset c.args.payload.now) c.in_err-fields.ensures in
    search (rules, n)

pub returns-in_err-shared-clause-exact : goal.returns-in_err-shared-clause-exact
returns-in_err-shared-clause-exact c =
    let n = truncated_no_shared (drop c.args.offset c.args.payload.now) _ _ c.in_ok-fields.ensures.1 (range_bytes c.args.payload.now c.args.base.now) c.in_err-shared.ensures.exact in
    search (rules, n)

pub returns-in_err-key-clause-exact : goal.returns-in_err-key-clause-exact
returns-in_err-key-clause-exact c =
    let n = truncated_no_rest (drop c.args.offset c.args.payload.now) _ _ c.in_ok-fields.ensures.1 (range_bytes c.args.payload.now c.args.base.now) _ _ c.in_ok-shared.ensures.exact.1 c.in_err-key.ensures.exact in
    search (rules, n)

pub returns-then-not-is_greatest-clause-exact : goal.returns-then-not-is_greatest-clause-exact
returns-then-not-is_greatest-clause-exact c =
    not_longest c.args.payload.now (drop c.args.offset c.args.payload.now) c.args.base.now c.in_ok-key.key c.in_ok-shared.shared c.in_ok-key.end (fields_by c.in_ok-fields.fields) _ _ _ _
    c.requires.base c.in_ok-key.ensures.range c.bytes_of.ensures c.bytes_of-2.ensures c.in_ok-fields.ensures.1 c.in_ok-shared.ensures.exact.1 c.in_ok-key.ensures.exact.1 c.if-not-is_greatest.ensures.greatest

pub returns-in_err-prefix-clause-exact : goal.returns-in_err-prefix-clause-exact
returns-in_err-prefix-clause-exact c =
    let n = not_key c.args.payload.now (drop c.args.offset c.args.payload.now) c.args.base.now c.in_ok-key.key c.in_ok-shared.shared c.in_ok-key.end (fields_by c.in_ok-fields.fields) _ _ _ _
    c.requires.base c.in_ok-key.ensures.range c.bytes_of.ensures c.bytes_of-2.ensures c.in_ok-fields.ensures.1 c.in_ok-shared.ensures.exact.1 c.in_ok-key.ensures.exact.1 c.if-not-is_greatest.ensures.greatest
    (λ inside. c.in_err-prefix.ensures.none) in
    search (rules, n)

pub returns-clause-exact : goal.returns-clause-exact
returns-clause-exact c =
    let p = c.args.payload.now in
    let f = found_exactly p (drop c.args.offset p) c.args.base.now c.in_ok-key.key c.in_ok-shared.shared c.in_ok-key.end (fields_by c.in_ok-fields.fields) _ _ _ _
    c.requires.base c.in_ok-key.ensures.range c.bytes_of.ensures c.bytes_of-2.ensures c.in_ok-fields.ensures.1 c.in_ok-shared.ensures.exact.1 c.in_ok-key.ensures.exact.1 c.if-not-is_greatest.ensures.greatest
    c.in_ok-prefix.ensures.found.2 in (
      c.in_ok-key.ensures.exact.0,
      f ∙ ap (λ (q : SliceIndexes). Some (handle_with (fields_by c.in_ok-fields.fields) (range_bytes p q ++ range_bytes p c.in_ok-key.key), drop c.in_ok-key.end p)) (sym c.in_ok-prefix.ensures.found.0)
          ∙ ap (λ q. Some (parsed_handle p q, drop c.in_ok-key.end p)) (sym c.with_key.ensures),
    )

pub prefix_within-requires-clause-inside : goal.prefix_within-requires-clause-inside
prefix_within-requires-clause-inside c =
    let base = c.args.base.now in
    let e = ap length c.bytes_of.ensures in
    let l = length_part c.args.payload.now base.0 base.1 c.requires.base.inside in
    let inside = c.if-not-is_greatest.ensures.inside refl in
    omega (arith, e, l, inside)
