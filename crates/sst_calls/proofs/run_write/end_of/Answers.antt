use Rattle.std.proofs.Common.{◌∙◌, ◌+◌, List, [], ℕ, subst, ap, length}
use Rattle.std.proofs.lemmas.Result.{err_from_is_err_and}
use Rattle.sstable_blocks.specs.BlockTypes.{Index}
use Rattle.sstable_blocks.specs.RunReading.{hashes}
use Rattle.sst_calls.specs.Runs.{run_form}
use Rattle.sst_calls.specs.RunWrites.{IsPartAppended}
use Rattle.sst_calls.proofs.Lists.RunEnds.{ended, filter_appended_some, filter_fits_end, index_fits, refused_on}
use Rattle.sst_calls.proofs.run_write.end_of.Goals as goal

pub returns-in_err-index-clause-cause : goal.returns-in_err-index-clause-cause
returns-in_err-index-clause-cause g c =
    let p = err_from_is_err_and c.from_residual-in_err-index.result c.from_residual-in_err-index.ensures.1 in
    let text = c.deref.ensures.value ∙ c.in_ok-payload.ensures.payload in
    rw (p.1, p.2) (refused_on _ _ c.in_err-index.field-0.0 (index_fits (run_form (hashes g.H.BlockHash.hash64 g.H.BlockHash.hash128) c.args.config.now) c.args.items.now (length c.args.hashes.now) c.args.offset c.deref.result.now c.requires.offset text) c.in_err-index.ensures.cause)

pub returns-in_err-filter-clause-cause : goal.returns-in_err-filter-clause-cause
returns-in_err-filter-clause-cause g c =
    let p = err_from_is_err_and c.from_residual-in_err-filter.result c.from_residual-in_err-filter.ensures.1 in
    let text = c.deref.ensures.value ∙ c.in_ok-payload.ensures.payload in
    rw (p.1, p.2) (refused_on _ _ c.in_err-filter.field-0.0
    (filter_fits_end (run_form (hashes g.H.BlockHash.hash64 g.H.BlockHash.hash128) c.args.config.now) c.args.items.now (length c.args.hashes.now) c.args.offset c.in_ok-index.end c.deref.result.now c.requires.offset text c.in_ok-index.ensures.end) c.in_err-filter.ensures.cause)

pub returns-clause-ok : goal.returns-clause-ok
returns-clause-ok g c =
    let config = c.args.config.now in
    let hs = c.args.items.now in
    let text = c.deref.ensures.value ∙ c.in_ok-payload.ensures.payload in
    let mid = c.append_frame.new.bytes.items in
    let index = subst (λ (xs : List ℕ). IsPartAppended g.H.BlockHash.hash128 Index c.args.offset xs [] mid c.in_ok-index.index) text
    (subst (λ (xs : List ℕ). IsPartAppended g.H.BlockHash.hash128 Index c.args.offset c.deref.result.now xs mid c.in_ok-index.index) c.new-bytes.ensures.items c.in_ok-index.ensures.appended) in
    ended (hashes g.H.BlockHash.hash64 g.H.BlockHash.hash128) config hs c.args.hashes.now c.args.offset c.in_ok-index.end mid c.append_filter.new.bytes.items c.in_ok-index.index c.in_ok-filter.filter c.requires.offset
    (c.in_ok-index.ensures.end ∙ ap (λ (xs : List ℕ). c.args.offset + (33 + length xs)) text) index c.in_ok-filter.ensures.appended

pub returns-clause-filter : goal.returns-clause-filter
returns-clause-filter g c = filter_appended_some g.H.BlockHash.hash128 c.args.config.now.bits_per_key c.args.hashes.now c.in_ok-index.end c.append_frame.new.bytes.items c.append_filter.new.bytes.items c.in_ok-filter.filter c.in_ok-filter.ensures.appended
