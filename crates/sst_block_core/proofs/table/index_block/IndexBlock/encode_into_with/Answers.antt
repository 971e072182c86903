use Rattle.std.proofs.Common.{◌≡◌, ◌≤◌, ◌^◌, ◌∙◌, Result, Ok, Err, OnOk, IfErr, None, length, subst, arith}
use Rattle.sst_block_core.specs.Encoders.{IsRefusal}
use Rattle.sst_block_core.specs.Handles.{index_payload}
use Rattle.sst_block_core.proofs.Items.IndexBlocks.{no_buckets_hashed, written_block}
use Rattle.sst_block_core.proofs.table.index_block.IndexBlock.encode_into_with.Goals as goal

when_ok : {T E : Type 0} (r : Result T E) (P Q : Type 0) → OnOk r P → (P → Q) → OnOk r Q
when_ok (Ok x) P Q p f = f p
when_ok (Err e) P Q p f = tt

pub returns-clause-written : goal.returns-clause-written
returns-clause-written c =
    let interval = c.type_inv in
    when_ok c.encode_all.result _ _ c.encode_all.ensures.written (λ w.
    let whole : c.encode_all.new.writer.items ≡ index_payload c.args.items.now c.args.restart_interval = w.payload ∙ no_buckets_hashed _ c.args.restart_interval c.args.items.now in
    record {
      payload = whole;
      block = written_block c.encode_all.new.writer.items c.args.items.now c.args.restart_interval (record { some = c.requires.interval; most = omega arith }) c.requires.some c.requires.ordered c.requires.ends w.are_valid whole;
      fits = w.fits;
    })

pub returns-clause-cause : goal.returns-clause-cause
returns-clause-cause c =
    subst (λ p. IfErr c.encode_all.result (IsRefusal None (2 ^ 32 ≤ length p))) (no_buckets_hashed _ c.args.restart_interval c.args.items.now) c.encode_all.ensures.cause
