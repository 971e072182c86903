use Rattle.std.proofs.Common.{◌≡◌, ◌∙◌, ℕ, ◌≤◌, List, [], ◌∷◌, Some, refl, sym, ap, arith, subst}
use Rattle.std.specs.Prelude.{length, slice_get}
use Rattle.std.proofs.lemmas.List.{append-nil}
use Rattle.sstable_blocks.specs.Prelude.{DataRefParts, Entry, IsOrdered, KeyRange, entries, items_in, items_left, within}
use Rattle.sstable_blocks.specs.Blocks.{joined}
use Rattle.sstable_blocks.specs.KeyRangeLaws.{within_between}
use Rattle.sstable_blocks.specs.RisingLaws.{counted}
use Rattle.sstable_blocks.specs.Scans.{is_before, is_up_to}
use Rattle.sst_calls.specs.Ranges.{IsBlockRange, key_given, keys_between}
use Rattle.sst_calls.specs.Windows.{IsPlaceIn, count_before}
use Rattle.sst_calls.proofs.run_range.write_block_range.Goals as goal

pub returns : goal.returns
returns c =
    let a = c.args in
    let p = a.payload.now in
    let items = items_in entries p in
    let blocks = items ∷ [] in
    let range = keys_between (key_given a.has_from a.from.now) (key_given a.has_to a.to.now) in
    let is = c.requires in
    let e = is.1.encoding in
    let order : IsOrdered entries items = (c.data_block_is_read.ensures is.0 p e.0 e.1 e.2 is.1.fits e.3).0.order in
    let same : c.new-block.result.items ≡ items = ap (λ (b : DataRefParts). b.items) c.new-block.ensures.parts in
    let lo = c.first_in.result in
    let hi = c.last_in.result in
    let first : lo ≡ counted entries.key (is_before range.from) items = subst (λ (xs : List Entry). lo ≡ counted entries.key (is_before range.from) xs) same c.first_in.ensures.before in
    let last : hi ≡ counted entries.key (is_up_to range.to) items = subst (λ (xs : List Entry). hi ≡ counted entries.key (is_up_to range.to) xs) same c.last_in.ensures.before in
    let place : (n : ℕ) → n ≤ length c.new-block.result.items → IsPlaceIn blocks 0 n = λ n inside. record { items = items; there = refl; inside = subst (λ (xs : List Entry). n ≤ length xs) same inside } in
    let one = place lo c.first_in.ensures.inside in
    let other = place hi c.last_in.ensures.inside in
    let all : joined blocks ≡ items = append-nil items in
    let at_lo : count_before blocks 0 lo ≡ lo = omega arith in
    let at_hi : count_before blocks 0 hi ≡ hi = omega arith in
    record {
      window = c.window_between.ensures.window blocks one other;
      left = c.window_between.ensures.left blocks one other
          ∙ ap (λ n. items_left (record { list = joined blocks; lo = n; hi = count_before blocks 0 hi })) at_lo
          ∙ ap (λ n. items_left (record { list = joined blocks; lo = lo; hi = n })) at_hi
          ∙ ap (λ (xs : List Entry). items_left (record { list = xs; lo = lo; hi = hi })) all
          ∙ ap (λ n. items_left (record { list = items; lo = n; hi = hi })) first
          ∙ ap (λ n. items_left (record { list = items; lo = counted entries.key (is_before range.from) items; hi = n })) last
          ∙ sym (within_between range items order);
    }
