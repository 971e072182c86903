use Rattle.std.proofs.Common.{◌∙◌, ap, refl, rules}
use Rattle.sst_base.specs.declared.error.Error.TheVariants.{BadEntry}
use Rattle.sst_block_core.specs.Entries.{entries}
use Rattle.sst_block_core.specs.Stages.{HasForms, HasOrder, HasPointers, HasBuckets}
use Rattle.sst_block_core.specs.Trailer.{Trailer}
use Rattle.sst_block_core.specs.Passes.{trailer_by, IsPassRefusal}
use Rattle.sst_block_core.proofs.Items.CheckRefusals.{Any, moved, data_parts, data_refused, data_passes, data_passed, data_block, items_counted}
use Rattle.sst_block_core.proofs.table.data_block.block_ref.DataBlockRef.check_stages.Goals as goal

pub returns-in_err-numbers-clause-refused : goal.returns-in_err-numbers-clause-refused
returns-in_err-numbers-clause-refused g c =
    let r = data_parts g.H.BlockHash.hash64 c.args.payload.now _ c.in_err-numbers.ensures.refused in
    search (rules, r)

pub returns-in_err-check_items_and_buckets-clause-refused : goal.returns-in_err-check_items_and_buckets-clause-refused
returns-in_err-check_items_and_buckets-clause-refused g c =
    let p = c.args.payload.now in
    let hash = g.H.BlockHash.hash64 in
    let n = c.in_ok-numbers.ensures in
    let same = refl in
    let e = c.in_err-check_items_and_buckets.field-0.0 in
    let r = data_refused hash p n.long n.parts e
    (moved (trailer_by c.in_ok-numbers.numbers) p _ n.trailer same (λ s x. IsPassRefusal entries Any BadEntry hash s x e) c.in_err-check_items_and_buckets.ensures.refused) in
    search (rules, r)

pub returns-clause-checked : goal.returns-clause-checked
returns-clause-checked g c =
    let p = c.args.payload.now in
    let hash = g.H.BlockHash.hash64 in
    let n = c.in_ok-numbers.ensures in
    let t = trailer_by c.in_ok-numbers.numbers in
    let i = c.in_ok-check_items_and_buckets.ensures in
    let same = refl in
    data_passed hash p (data_passes hash p n.long n.parts
    (moved t p _ n.trailer same (HasForms entries) i.forms) (moved t p _ n.trailer same (HasOrder entries) i.order) (moved t p _ n.trailer same (HasPointers entries) i.pointers)
    (moved t p _ n.trailer same (HasBuckets entries hash) i.buckets))

pub returns-clause-block : goal.returns-clause-block
returns-clause-block g c =
    let p = c.args.payload.now in
    let hash = g.H.BlockHash.hash64 in
    let n = c.in_ok-numbers.ensures in
    let t = trailer_by c.in_ok-numbers.numbers in
    let i = c.in_ok-check_items_and_buckets.ensures in
    let same = refl in
    data_block hash p c.parts_of.ensures.bytes (data_passes hash p n.long n.parts
    (moved t p _ n.trailer same (HasForms entries) i.forms) (moved t p _ n.trailer same (HasOrder entries) i.order) (moved t p _ n.trailer same (HasPointers entries) i.pointers)
    (moved t p _ n.trailer same (HasBuckets entries hash) i.buckets))

pub returns-clause-count : goal.returns-clause-count
returns-clause-count g c =
    let p = c.args.payload.now in
    let n = c.in_ok-numbers.ensures in
    let t = trailer_by c.in_ok-numbers.numbers in
    let same = refl in
    ap (λ (u : Trailer). u.item_count) n.trailer ∙ items_counted entries p (moved t p _ n.trailer same (HasForms entries) c.in_ok-check_items_and_buckets.ensures.forms)
