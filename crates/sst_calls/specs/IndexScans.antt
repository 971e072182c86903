-- Where the handles of an index block are, by their indexes.
use Rattle.std.specs.Prelude.{◌≡◌, ℕ, ◌+◌, ◌-◌, ◌≤◌, ◌<◌, List, ◌++◌, length, take, drop, min}
use Rattle.sstable_blocks.specs.Prelude.{Handle, handles, items_in}
use Rattle.sst_calls.specs.Blocks.{bytes_behind}
use Rattle.sst_calls.specs.Listing.{AreAt}
use Rattle.sst_calls.specs.declared.codes.Status.{Status}
use Rattle.sst_calls.specs.declared.codes.Status.TheVariants.{Done, BadArgument}
use Rattle.sst_calls.specs.declared.index_scan.SstHandlePlace.{SstHandlePlace}

-- a place says where the end key of this handle is in a payload, and the rest of the handle
pub record IsHandlePlace (p : List ℕ) (f : SstHandlePlace) (h : Handle) : Type 0 where
  pub seqno : f.seqno ≡ h.seqno
  pub offset : f.offset ≡ h.offset
  pub size : f.size ≡ h.size
  pub key : bytes_behind p f.prefix_offset f.prefix_len ++ bytes_behind p f.key_offset f.key_len ≡ h.end_key
  pub prefix_inside : f.prefix_offset + f.prefix_len ≤ length p
  pub key_inside : f.key_offset + f.key_len ≤ length p

-- the handles of an index block from an index on were listed: as many as there is room for
pub record IsHandleBatch (p : List ℕ) (from : ℕ) (old new : List SstHandlePlace) (count : ℕ) : Type 0 where
  pub inside : from ≤ length (items_in handles p)
  pub count_is : count ≡ min (length old) (length (items_in handles p) - from)
  pub listed : AreAt (IsHandlePlace p) (take count (drop from (items_in handles p))) old new

-- what a scan of an index block from an index on says: a batch, or that there are fewer handles, and all is left
abbrev pub IsHandleScan : List ℕ → ℕ → List SstHandlePlace → List SstHandlePlace → ℕ → ℕ → Status → Type 0
IsHandleScan p from old new count_old count_new Done = IsHandleBatch p from old new count_new
IsHandleScan p from old new count_old count_new BadArgument = (length (items_in handles p) < from) × (new ≡ old) × (count_new ≡ count_old)
IsHandleScan p from old new count_old count_new _ = ⊥
