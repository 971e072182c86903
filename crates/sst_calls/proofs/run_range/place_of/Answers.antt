use Rattle.std.proofs.Common.{◌≡◌, ◌∙◌, List, length, refl, sym, ap, arith, subst, inl, inr}
use Rattle.std.specs.declared.ops.Bound.TheVariants.{Included}
use Rattle.std.proofs.lemmas.List.Sums.{count_by-le-length}
use Rattle.std.proofs.lemmas.Option.{same_Some, slice_get_within}
use Rattle.sstable_blocks.specs.Prelude.{Entry, Handle, entries, handles}
use Rattle.sstable_blocks.specs.BoundLaws.{before_included}
use Rattle.sstable_blocks.specs.RisingLaws.{counted}
use Rattle.sstable_blocks.specs.Opened.{index_in}
use Rattle.sstable_blocks.specs.Scans.{is_before}
use Rattle.sst_calls.specs.Windows.{blocks_in}
use Rattle.sst_calls.proofs.Lists.KeyPlaces.{IsCounted, run_counted}
use Rattle.sst_calls.proofs.Lists.RunBlockLists.{blocks_count}
use Rattle.sst_calls.proofs.run_range.place_of.Goals as goal

pub returns-then-block-len-clause-before : goal.returns-then-block-len-clause-before
returns-then-block-len-clause-before c =
    let bytes = c.args.bytes.now in
    let h = c.args.handles.now in
    let key = c.args.key.now in
    let blocks = blocks_in bytes h in
    let sound = c.requires in
    let count = ap (λ (xs : List Handle). length xs) c.index_of-index.ensures.items in
    let all = run_counted sound.0 sound.1.0 bytes h key sound.1.1 (c.sound_opens.ensures sound.0 sound.1.0 bytes h sound.1.1) (λ r p items short is. (c.index_block_is_read.ensures r p items short is).1) in
    let pos : c.position-block.result ≡ counted handles.key (is_before (Included key)) (index_in bytes h.index) =
    before_included c.index_of-index.result.items c.position-block.result c.below.result.needle.now key c.below.result.from (Included key) c.position-block.ensures.value c.below.ensures.needle c.below.ensures.from refl
    ∙ ap (λ (xs : List Handle). counted handles.key (is_before (Included key)) xs) c.index_of-index.ensures.items in
    let there = subst (λ n. IsCounted (is_before (Included key)) blocks n) (sym pos) all in
    elim there [
      | inl whole ↦ c.end_of.ensures.all ∙ sym whole.1
      | inr found ↦ absurd (omega (arith, slice_get_within blocks c.position-block.result found.0 found.1, blocks_count bytes h, count, c.len.ensures.count, c.if-block-len.true))
    ]

pub block_at-requires-clause-inside : goal.block_at-requires-clause-inside
block_at-requires-clause-inside c = omega (arith, ap (λ (xs : List Handle). length xs) c.index_of-index.ensures.items, c.len.ensures.count, c.if-block-len.false)

pub returns-clause-place : goal.returns-clause-place
returns-clause-place c =
    let items = c.block_at.result.block.items in
    record {
      items = items;
      there = c.block_at.ensures.items;
      inside = omega (arith, c.keys_before.ensures, count_by-le-length (λ (x : Entry). is_before (Included c.args.key.now) (entries.key x)) items);
    }

pub returns-clause-before : goal.returns-clause-before
returns-clause-before c =
    let bytes = c.args.bytes.now in
    let h = c.args.handles.now in
    let key = c.args.key.now in
    let blocks = blocks_in bytes h in
    let sound = c.requires in
    let count = ap (λ (xs : List Handle). length xs) c.index_of-index.ensures.items in
    let all = run_counted sound.0 sound.1.0 bytes h key sound.1.1 (c.sound_opens.ensures sound.0 sound.1.0 bytes h sound.1.1) (λ r p items short is. (c.index_block_is_read.ensures r p items short is).1) in
    let pos : c.position-block.result ≡ counted handles.key (is_before (Included key)) (index_in bytes h.index) =
    before_included c.index_of-index.result.items c.position-block.result c.below.result.needle.now key c.below.result.from (Included key) c.position-block.ensures.value c.below.ensures.needle c.below.ensures.from refl
    ∙ ap (λ (xs : List Handle). counted handles.key (is_before (Included key)) xs) c.index_of-index.ensures.items in
    let there = subst (λ n. IsCounted (is_before (Included key)) blocks n) (sym pos) all in
    elim there [
      | inl whole ↦ absurd (omega (arith, whole.0, blocks_count bytes h, count, c.len.ensures.count, c.if-block-len.false))
      | inr found ↦ (
          let same : found.0 ≡ c.block_at.result.block.items = same_Some found.0 c.block_at.result.block.items (sym found.1 ∙ c.block_at.ensures.items) in
          omega (arith, found.2, ap (λ (xs : List Entry). counted entries.key (is_before (Included key)) xs) same, c.keys_before.ensures))
    ]
