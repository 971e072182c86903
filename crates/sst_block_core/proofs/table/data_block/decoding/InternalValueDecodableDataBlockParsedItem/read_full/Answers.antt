use Rattle.std.proofs.Common.{◌++◌, sym, subst, drop, arith}
use Rattle.sst_block_core.specs.Found.{IsOptionalRange, IsEncodedAt, optional_range, range_bytes}
use Rattle.sst_block_core.specs.ParsedEntry.{entry_of}
use Rattle.sst_block_core.specs.FoundLaws.{range_encoded}
use Rattle.sst_block_core.proofs.Items.EncodedForms.{full_fits}
use Rattle.sst_block_core.proofs.table.data_block.decoding.InternalValueDecodableDataBlockParsedItem.read_full.Goals as goal

pub returns-clause-found : goal.returns-clause-found
returns-clause-found c =
    let p = c.args.payload.now in
    let item = c.read_full_form.result.0 in
    record {
      prefix = subst (λ o. IsOptionalRange p o) (sym c.read_full_form.ensures.prefix) tt;
      key = c.read_full_form.ensures.key;
      value = c.read_full_form.ensures.value;
      fits = full_fits p c.args.offset (entry_of p item) (drop c.read_full_form.result.1 p) (λ k. let h = c.type_inv.payload k in omega arith) c.read_full_form.ensures.exact.1;
    }

pub returns-clause-key : goal.returns-clause-key
returns-clause-key c =
    let p = c.args.payload.now in
    let item = c.read_full_form.result.0 in
    let k = c.read_full_form.ensures.key in
    subst (λ o. IsEncodedAt p item.key.0 (optional_range p o ++ range_bytes p item.key)) (sym c.read_full_form.ensures.prefix) (range_encoded p item.key k.order k.inside)
