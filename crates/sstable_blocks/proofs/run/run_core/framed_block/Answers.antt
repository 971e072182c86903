use Rattle.std.proofs.Common.{◌≡◌, ◌≤◌, ◌^◌, None, arith, refl, inl, inr, length, map, subst, sym}
use Rattle.std.proofs.lemmas.List.{length-map}
use Rattle.sst_base.specs.Entry.{IsEntry}
use Rattle.sst_block_core.specs.Buckets.{bucket_count}
use Rattle.sst_block_core.specs.Encoders.{IsBlockPayload, IsRefusal}
use Rattle.sst_block_core.specs.Entries.{entries, data_payload}
use Rattle.sst_block_core.specs.Payload.{IsBlock}
use Rattle.sstable_blocks.specs.Run.{form, block_payload}
use Rattle.sstable_blocks.proofs.Layouts.Kept.{data_refused, frame_refused, framed}
use Rattle.sstable_blocks.proofs.run.run_core.framed_block.Goals as goal

pub returns-in-Err-clause-cause : goal.returns-in-Err-clause-cause
unfolding block_payload
returns-in-Err-clause-cause g c =
    let k = c.args.config.now in
    let block = map g.T.AsEntry.entry c.args.items.now in
    let cause = subst (λ n. IsRefusal None (2 ^ 32 ≤ length (data_payload g.H.BlockHash.hash64 block k.restart_interval (bucket_count k.ratio.num k.ratio.den n))) c.in-Err.e) (sym (length-map c.args.items.now g.T.AsEntry.entry)) c.in-Err.ensures.cause in
    data_refused (form g.H.BlockHash.hash64 g.H.BlockHash.hash128 k) _ _ _ cause

pub returns-in-Some-clause-ok : goal.returns-in-Some-clause-ok
unfolding block_payload
returns-in-Some-clause-ok g c =
    let k = c.args.config.now in
    let block = map g.T.AsEntry.entry c.args.items.now in
    let bytes = c.encode_into.new.writer.items in
    let hash = g.H.BlockHash.hash64 in
    let written = subst (λ n. IsBlockPayload (IsBlock entries IsEntry hash bytes block k.restart_interval (bucket_count k.ratio.num k.ratio.den n)) (data_payload hash block k.restart_interval (bucket_count k.ratio.num k.ratio.den n)) bytes) (sym (length-map c.args.items.now g.T.AsEntry.entry)) c.in-Ok.ensures.written in
    let f = written.fits in let n = c.in-Some.ensures.framed in let s = c.in-Some.ensures.size in let e = c.in-Some.ensures.end in
    framed (form g.H.BlockHash.hash64 g.H.BlockHash.hash128 k) _ _ _ _ _ written.payload (omega arith) (omega arith) (omega arith) (omega arith) written.block.encoding.are_valid

pub returns-in-None-clause-cause : goal.returns-in-None-clause-cause
unfolding block_payload
returns-in-None-clause-cause g c =
    let k = c.args.config.now in
    let block = map g.T.AsEntry.entry c.args.items.now in
    let bytes = c.encode_into.new.writer.items in
    let payload = subst (λ n. bytes ≡ data_payload g.H.BlockHash.hash64 block k.restart_interval (bucket_count k.ratio.num k.ratio.den n)) (sym (length-map c.args.items.now g.T.AsEntry.entry)) c.in-Ok.ensures.written.payload in
    frame_refused (form g.H.BlockHash.hash64 g.H.BlockHash.hash128 k) _ _ _ payload (elim (c.in-None.ensures.none refl) [ inl long ↦ inl (omega arith) | inr long ↦ inr (omega arith) ])
