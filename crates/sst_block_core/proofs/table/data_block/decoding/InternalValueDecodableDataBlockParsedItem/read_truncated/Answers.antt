use Rattle.std.proofs.Common.{drop, sym, subst, arith, rules}
use Rattle.sst_base.specs.Entry.{IsEntry}
use Rattle.sst_block_core.specs.Entries.{truncated_at}
use Rattle.sst_block_core.specs.ParsedEntry.{truncated_of}
use Rattle.sst_base.specs.ReadingLaws.{some_value}
use Rattle.sst_block_core.proofs.Items.EntryReads.{truncated_found}
use Rattle.sst_block_core.proofs.Items.EncodedForms.{form_some, form_key, truncated_fits}
use Rattle.sst_block_core.proofs.table.data_block.decoding.InternalValueDecodableDataBlockParsedItem.read_truncated.Goals as goal

pub read_truncated_form-end-requires : goal.read_truncated_form-end-requires
read_truncated_form-end-requires c = form_some c.requires.0 (drop c.args.offset c.args.payload.now) c.requires.2

pub overflow_add-prefix : goal.overflow_add-prefix
overflow_add-prefix c =
    let r = c.requires in
    let p = c.args.payload.now in
    let v = some_value (truncated_at r.0 (drop c.args.offset p)) r.2 in
    let t = c.read_truncated_form-end in
    let f = truncated_found p (drop c.args.offset p) r.0 c.args.base_key_offset t.result.1 t.result.0 v.0.0 v.0.1 r.1 t.ensures.key v.1 t.ensures.exact.1 in
    search (rules, f.0)

pub returns-clause-item : goal.returns-clause-item
returns-clause-item c = λ base x rest encoded e.
    let p = c.args.payload.now in
    let t = c.read_truncated_form-end in
    let f = truncated_found p (drop c.args.offset p) base c.args.base_key_offset t.result.1 t.result.0 x rest encoded t.ensures.key e t.ensures.exact.1 in
    let shares = (form_key base (drop c.args.offset p) (truncated_of p t.result.0) (drop t.result.1 p) x rest t.ensures.exact.1 e).0 in
    (f.2, f.3, omega (arith, shares))

pub returns-clause-found : goal.returns-clause-found
returns-clause-found c =
    let r = c.requires in
    let p = c.args.payload.now in
    let v = some_value (truncated_at r.0 (drop c.args.offset p)) r.2 in
    let t = c.read_truncated_form-end in
    let f = truncated_found p (drop c.args.offset p) r.0 c.args.base_key_offset t.result.1 t.result.0 v.0.0 v.0.1 r.1 t.ensures.key v.1 t.ensures.exact.1 in
    record {
      prefix = record { order = omega arith; inside = f.0 };
      key = t.ensures.key;
      value = t.ensures.value;
      fits = subst IsEntry (sym f.2) (truncated_fits p c.args.offset r.0 v.0.0 v.0.1 (λ k. let h = c.type_inv.payload k in omega arith) v.1);
    }
