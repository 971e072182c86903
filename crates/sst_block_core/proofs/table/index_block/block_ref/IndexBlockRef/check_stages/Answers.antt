use Rattle.std.proofs.Common.{◌∙◌, ap, refl, sym, rules}
use Rattle.std.specs.List.{AllByRecursion}
use Rattle.sst_base.specs.declared.error.Error.TheVariants.{BadHandle}
use Rattle.sst_block_core.specs.Handles.{handles, EndFits}
use Rattle.sst_block_core.specs.Stages.{items_by, HasForms, HasOrder, HasPointers}
use Rattle.sst_block_core.specs.Trailer.{Trailer}
use Rattle.sst_block_core.specs.Passes.{trailer_by, IsItemsRefusal}
use Rattle.sst_block_core.proofs.Items.CheckRefusals.{moved, index_parts_refused, index_some_buckets, index_items, index_passes, index_passed, index_block, items_counted}
use Rattle.sst_block_core.proofs.table.index_block.block_ref.IndexBlockRef.check_stages.Goals as goal

pub returns-in_err-numbers-clause-refused : goal.returns-in_err-numbers-clause-refused
returns-in_err-numbers-clause-refused c =
    let r = index_parts_refused c.args.payload.now _ c.in_err-numbers.ensures.refused in
    search (rules, r)

pub returns-then-numbers-ne0-clause-refused : goal.returns-then-numbers-ne0-clause-refused
returns-then-numbers-ne0-clause-refused c =
    let n = c.in_ok-numbers.ensures in
    index_some_buckets c.args.payload.now n.long (λ none. c.if-numbers-ne0.true (ap (λ (t : Trailer). t.hash_len) n.trailer ∙ none))

pub returns-in_err-check_items-clause-refused : goal.returns-in_err-check_items-clause-refused
returns-in_err-check_items-clause-refused c =
    let p = c.args.payload.now in
    let n = c.in_ok-numbers.ensures in
    let none = sym (ap (λ (t : Trailer). t.hash_len) n.trailer) ∙ c.if-numbers-ne0.false in
    let same = refl in
    let e = c.in_err-check_items.field-0.0 in
    let r = index_items p n.long n.parts none e
    (moved (trailer_by c.in_ok-numbers.numbers) p _ n.trailer same (λ s x. IsItemsRefusal handles EndFits BadHandle s x e) c.in_err-check_items.ensures.refused) in
    search (rules, r)

pub returns-clause-checked : goal.returns-clause-checked
returns-clause-checked c =
    let p = c.args.payload.now in
    let n = c.in_ok-numbers.ensures in
    let t = trailer_by c.in_ok-numbers.numbers in
    let none = sym (ap (λ (t : Trailer). t.hash_len) n.trailer) ∙ c.if-numbers-ne0.false in
    let i = c.in_ok-check_items.ensures in
    let same = refl in
    index_passed p (index_passes p n.long n.parts none
    (moved t p _ n.trailer same (HasForms handles) i.forms) (moved t p _ n.trailer same (λ s x. AllByRecursion EndFits (items_by handles s x)) i.fit)
    (moved t p _ n.trailer same (HasOrder handles) i.order) (moved t p _ n.trailer same (HasPointers handles) i.pointers))

pub returns-clause-block : goal.returns-clause-block
returns-clause-block c =
    let p = c.args.payload.now in
    let n = c.in_ok-numbers.ensures in
    let t = trailer_by c.in_ok-numbers.numbers in
    let none = sym (ap (λ (t : Trailer). t.hash_len) n.trailer) ∙ c.if-numbers-ne0.false in
    let i = c.in_ok-check_items.ensures in
    let same = refl in
    index_block p c.parts_of.ensures.bytes (index_passes p n.long n.parts none
    (moved t p _ n.trailer same (HasForms handles) i.forms) (moved t p _ n.trailer same (λ s x. AllByRecursion EndFits (items_by handles s x)) i.fit)
    (moved t p _ n.trailer same (HasOrder handles) i.order) (moved t p _ n.trailer same (HasPointers handles) i.pointers))

pub returns-clause-count : goal.returns-clause-count
returns-clause-count c =
    let p = c.args.payload.now in
    let n = c.in_ok-numbers.ensures in
    let t = trailer_by c.in_ok-numbers.numbers in
    let same = refl in
    ap (λ (u : Trailer). u.item_count) n.trailer ∙ items_counted handles p (moved t p _ n.trailer same (HasForms handles) c.in_ok-check_items.ensures.forms)
