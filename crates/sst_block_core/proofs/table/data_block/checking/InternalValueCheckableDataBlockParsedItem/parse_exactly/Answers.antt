use Rattle.std.proofs.Common.{◌∙◌, ap, refl, sym, length, drop, Some, arith, rules}
use Rattle.sst_base.specs.declared.table.util.SliceIndexes.{SliceIndexes}
use Rattle.sst_base.specs.BytesLaws.{length_part}
use Rattle.sst_block_core.specs.Found.{range_bytes}
use Rattle.sst_block_core.specs.ParsedEntry.{entry_of}
use Rattle.sst_block_core.proofs.Items.ExactEntries.{no_form, not_longest, not_key, found_exactly}
use Rattle.sst_block_core.proofs.table.data_block.checking.InternalValueCheckableDataBlockParsedItem.parse_exactly.Goals as goal

pub returns-in_err-form-clause-exact : goal.returns-in_err-form-clause-exact
returns-in_err-form-clause-exact c =
    let n = no_form (range_bytes c.args.payload.now c.args.base.now) (drop c.args.offset c.args.payload.now) c.in_err-form.ensures.exact in
    search (rules, n)

pub returns-then-not-is_greatest-clause-exact : goal.returns-then-not-is_greatest-clause-exact
returns-then-not-is_greatest-clause-exact c =
    not_longest c.args.payload.now _ c.args.base.now c.in_ok-form.form c.in_ok-form.end _ _ c.requires.base c.in_ok-form.ensures.key c.bytes_of.ensures c.bytes_of-key.ensures c.in_ok-form.ensures.exact.1
    c.if-not-is_greatest.ensures.greatest

pub returns-in_err-prefix-clause-exact : goal.returns-in_err-prefix-clause-exact
returns-in_err-prefix-clause-exact c =
    let n = not_key c.args.payload.now _ c.args.base.now c.in_ok-form.form c.in_ok-form.end _ _ c.requires.base c.in_ok-form.ensures.key c.bytes_of.ensures c.bytes_of-key.ensures c.in_ok-form.ensures.exact.1
    c.if-not-is_greatest.ensures.greatest c.in_err-prefix.ensures.none in
    search (rules, n)

pub returns-clause-exact : goal.returns-clause-exact
returns-clause-exact c =
    let form = c.in_ok-form.form in
    let f = found_exactly c.args.payload.now _ c.args.base.now form c.in_ok-form.end _ _ c.requires.base c.in_ok-form.ensures.key c.bytes_of.ensures c.bytes_of-key.ensures c.in_ok-form.ensures.exact.1
    c.if-not-is_greatest.ensures.greatest c.in_ok-prefix.ensures.found.2 in (
      c.in_ok-form.ensures.exact.0,
      f ∙ ap (λ (p : SliceIndexes). Some (entry_of c.args.payload.now (record { value_type = form.value_type; seqno = form.seqno; prefix = Some p; key = form.key; value = form.value }), drop c.in_ok-form.end c.args.payload.now)) (sym c.in_ok-prefix.ensures.found.0),
    )

pub entry_prefix_within-requires-clause-inside : goal.entry_prefix_within-requires-clause-inside
entry_prefix_within-requires-clause-inside c =
    let base = c.args.base.now in
    let e = ap length c.bytes_of.ensures in
    let l = length_part c.args.payload.now base.0 base.1 c.requires.base.inside in
    let inside = c.if-not-is_greatest.ensures.inside refl in
    omega (arith, e, l, inside)
