use Rattle.std.proofs.Common.{◌≡◌, ◌∙◌, take, drop, arith, sym, ap, true, refl, inl, inr}
use Rattle.std.proofs.lemmas.Bool.{false≢true}
use Rattle.sst_block_core.specs.Stages.{body_in, buckets_in}
use Rattle.sst_block_core.specs.Passes.{trailer_by}
use Rattle.sst_block_core.proofs.Check.BucketTallies.{tally_none, buckets_to, buckets_from}
use Rattle.sst_block_core.proofs.table.block.check.buckets.check_items_and_buckets.Goals as goal

pub returns-clause-buckets : goal.returns-clause-buckets
returns-clause-buckets g c =
    let kind = g.Item.BlockItem.kind in
    let hash = g.H.BlockHash.hash64 in
    let t = trailer_by c.args.t.now in
    let p = c.args.payload.now in
    let found = c.in_ok-check_items_with.ensures in
    let tally = c.check_items_with.new.sink in
    let taken = found.taken t.hash_len (tally_none kind hash t.interval t.hash_len c.requires.interval (body_in t p) c.in_ok-tally.tally c.in_ok-tally.ensures.buckets c.in_ok-tally.ensures.heads c.in_ok-tally.ensures.keys) in
    let memory : tally.has_memory ≡ true = sym c.has_memory.ensures ∙ c.if-not-has_memory.false in
    let stored : c.split_at-2.result.0.now ≡ buckets_in t p = c.split_at-2.ensures.front ∙ ap (take t.hash_len) (c.split_at.ensures.back ∙ ap (λ o. drop o p) (c.requires.hash_offset (omega arith))) in
    buckets_from kind hash t p c.requires (omega arith) found.forms tally taken memory
    (c.has_buckets.ensures.0 c.if-not-has_buckets.false ∙ stored)

pub returns-then-not-has_buckets-clause-refused : goal.returns-then-not-has_buckets-clause-refused
returns-then-not-has_buckets-clause-refused g c =
    let kind = g.Item.BlockItem.kind in
    let hash = g.H.BlockHash.hash64 in
    let t = trailer_by c.args.t.now in
    let p = c.args.payload.now in
    let found = c.in_ok-check_items_with.ensures in
    let tally = c.check_items_with.new.sink in
    let taken = found.taken t.hash_len (tally_none kind hash t.interval t.hash_len c.requires.interval (body_in t p) c.in_ok-tally.tally c.in_ok-tally.ensures.buckets c.in_ok-tally.ensures.heads c.in_ok-tally.ensures.keys) in
    let memory : tally.has_memory ≡ true = sym c.has_memory.ensures ∙ c.if-not-has_memory.false in
    let stored : c.split_at-2.result.0.now ≡ buckets_in t p = c.split_at-2.ensures.front ∙ ap (take t.hash_len) (c.split_at.ensures.back ∙ ap (λ o. drop o p) (c.requires.hash_offset (omega arith))) in
    inr (inl (
      refl,
      found.forms,
      found.fit,
      found.order,
      found.pointers,
      λ h.
          let same = c.has_buckets.ensures.1 (buckets_to kind hash t p c.requires (omega arith) found.forms tally taken memory h ∙ sym stored) in
          false≢true (sym c.if-not-has_buckets.true ∙ same),
    ))
