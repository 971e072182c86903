-- A point read of a run, by what a reader finds in it.
use Rattle.std.proofs.Common.{◌≡◌, ℕ, ◌+◌, ◌-◌, ◌≤◌, List, length, take, drop, refl, arith, sym, ◌∙◌, ap, subst, Option, Some, None, Result, Ok}
use Rattle.std.specs.List.{slice_get}
use Rattle.std.specs.Option.{option_map}
use Rattle.sst_base.specs.BlockHandle.{HandleParts}
use Rattle.sst_base.specs.declared.error.Error.{Error}
use Rattle.sst_block_core.specs.DataBlock.{DataBlockParts, DataRefParts}
use Rattle.sst_block_core.specs.Entries.{entries}
use Rattle.sst_block_core.specs.Handles.{Handle, handles}
use Rattle.sst_block_core.specs.Intervals.{digits}
use Rattle.sst_block_core.specs.PointReads.{lookup, ref_lookup, heads_most, entries_most, read_heads, read_entries, ref_read_most}
use Rattle.sst_block_core.specs.Pointers.{head_count}
use Rattle.sst_block_core.specs.Stages.{items_in}
use Rattle.sst_block_core.specs.Window.{first_match}
use Rattle.sst_block_core.specs.declared.table.block.hash_index.reader.Lookup.{Lookup}
use Rattle.sst_block_core.specs.declared.table.block.hash_index.reader.Lookup.TheVariants.{Nowhere, Interval, Anywhere}
use Rattle.sst_base.specs.Entry.{Entry}
use Rattle.sstable_blocks.specs.Blocks.{joined}
use Rattle.sstable_blocks.specs.Filter.{Filter, MayContain}
use Rattle.sstable_blocks.specs.Lookup.{first_in, place_for}
use Rattle.sstable_blocks.specs.Opened.{range_of, payload_in, index_in, IsDenied, IsFilterIn, IsOpen, Opened, RulesOut}
use Rattle.sstable_blocks.specs.ReadCosts.{handle_in}
use Rattle.sstable_blocks.specs.declared.run.RunHandles.{RunHandles}

-- the range of a payload
pub payload_range : (xs : List ℕ) (offset size : ℕ) → 33 ≤ size → take (offset + size - (offset + 33)) (drop (offset + 33) xs) ≡ take (size - 33) (drop (offset + 33) xs)
payload_range xs offset size h = let e : offset + size - (offset + 33) ≡ size - 33 = omega arith in ap (λ n. take n (drop (offset + 33) xs)) e

-- a point read examines no more heads than a search over all
pub heads_by : (l : Lookup) (n : ℕ) → heads_most l n ≤ digits n
heads_by Nowhere n = omega arith
heads_by (Interval i) n = omega arith
heads_by Anywhere n = omega arith

pub block_heads : (hash : List ℕ → ℕ) (d : DataBlockParts) (key : List ℕ) → read_heads hash d key ≤ digits (head_count d.interval (length d.items))
block_heads hash d key = heads_by (lookup hash d key) (head_count d.interval (length d.items))

-- and decodes no more entries than after one
pub entries_by : (l : Lookup) (n : ℕ) → entries_most l n ≤ n + 1
entries_by Nowhere n = omega arith
entries_by (Interval i) n = omega arith
entries_by Anywhere n = omega arith

pub block_entries : (hash : List ℕ → ℕ) (d : DataBlockParts) (key : List ℕ) → read_entries hash d key ≤ d.interval + 1
block_entries hash d key = entries_by (lookup hash d key) d.interval

-- the same where the payload is borrowed
pub ref_heads : (hash : List ℕ → ℕ) (d : DataRefParts) (key : List ℕ) → (ref_read_most hash d key).0 ≤ digits (head_count d.interval (length d.items))
ref_heads hash d key = heads_by (ref_lookup hash d key) (head_count d.interval (length d.items))

pub ref_entries : (hash : List ℕ → ℕ) (d : DataRefParts) (key : List ℕ) → (ref_read_most hash d key).1 ≤ d.interval + 1
ref_entries hash d key = entries_by (ref_lookup hash d key) d.interval

pub some_range : (x : Option Handle) (k : HandleParts) → option_map range_of x ≡ Some k → (g : Handle) × (x ≡ Some g) × (range_of g ≡ k)
some_range None k e = cc
some_range (Some g) k e = (g, refl, cc)

no_range : (x : Option Handle) → option_map range_of x ≡ None → x ≡ None
no_range None e = refl
no_range (Some g) e = cc

module _ (hash64 : List ℕ → ℕ) (blocks : List (List Entry)) (bytes : List ℕ) (h : RunHandles) (needle : List ℕ) (s : ℕ) (o : Opened hash64 blocks bytes h) where
  -- what the search in the index returns
  abbrev pub IsIndexAnswer : Option HandleParts → Type 0
  IsIndexAnswer r = r ≡ option_map range_of (handle_in bytes h needle s)

  -- the block that it leads to
  pub chosen : (r : Option HandleParts) (k : HandleParts) → IsIndexAnswer r → r ≡ Some k → (block : List Entry) × (slice_get blocks (place_for handles needle s (index_in bytes h.index)) ≡ Some block) × IsOpen hash64 bytes k block
  chosen r k e is =
      let g = some_range (handle_in bytes h needle s) k (sym e ∙ is) in
      let b = o.block_open (place_for handles needle s (index_in bytes h.index)) g.0 g.1 in
      (b.0, b.1, subst (λ x. IsOpen hash64 bytes x b.0) g.2 b.2)

  -- where it leads to none, there is no match
  pub found_none : (r : Option HandleParts) → IsIndexAnswer r → r ≡ None → None ≡ first_match entries needle s (joined blocks)
  found_none r e is =
      let none = no_range (handle_in bytes h needle s) (sym e ∙ is) in
      sym (o.found needle s ∙ ap (first_in entries needle s) (o.none_open (place_for handles needle s (index_in bytes h.index)) none))

  -- nor where the filter rules the key out
  pub found_denied : (hash : ℕ) → hash ≡ hash64 needle → IsDenied bytes h.filter hash → None ≡ first_match entries needle s (joined blocks)
  found_denied hash same denied = sym (o.filter_denies needle s (subst (IsDenied bytes h.filter) same denied))

  -- the first match of that block is that of the run
  pub found_some : (r : Option HandleParts) (k : HandleParts) → IsIndexAnswer r → r ≡ Some k → first_match entries needle s (items_in entries (payload_in bytes k)) ≡ first_match entries needle s (joined blocks)
  found_some r k e is =
      let b = chosen r k e is in
      b.2.first needle s ∙ sym (o.found needle s ∙ ap (first_in entries needle s) b.1)

-- what a filter that was read rules out
pub rules_out : (bytes : List ℕ) (h : Option HandleParts) (filter : Option Filter) (hash : ℕ) → IsFilterIn bytes h filter → (IsDenied bytes h hash → RulesOut filter hash) × (RulesOut filter hash → IsDenied bytes h hash)
rules_out bytes None filter hash is = ((λ d. absurd d), λ no. let none = subst (λ f. RulesOut f hash) is no in absurd none)
rules_out bytes (Some h) None hash is = ((λ d. absurd (is d.0 d.1)), λ no. absurd no)
rules_out bytes (Some h) (Some f) hash is = (
  (λ d. let e : ◌≡◌ {A = Result Filter Error} (Ok d.0) (Ok f) = sym d.1 ∙ is in let same : d.0 ≡ f = cc in subst (λ x. MayContain x hash → ⊥) same d.2),
  λ no. (f, is, no),
)

-- the block of the handle at an index of an index
pub cut_at : (hash64 : List ℕ → ℕ) (blocks : List (List Entry)) (bytes : List ℕ) (h : RunHandles) (o : Opened hash64 blocks bytes h) (hs : List Handle) → hs ≡ index_in bytes h.index
    → (n : ℕ) (k : HandleParts) → Some k ≡ option_map range_of (slice_get hs n) → (block : List Entry) × IsOpen hash64 bytes k block
cut_at hash64 blocks bytes h o hs same n k is =
    let g = some_range (slice_get hs n) k (sym is) in
    let b = o.block_open n g.0 (ap (λ xs. slice_get xs n) (sym same) ∙ g.1) in
    (b.0, subst (λ x. IsOpen hash64 bytes x b.0) g.2 b.2)
