-- Index blocks, and the handle that leads to a key.
use Rattle.std.specs.Prelude.{◌≡◌, ◌⊎◌, ℕ, ◌≤◌, ◌<◌, ◌^◌, List, length, map, slice_get, Option, Some, None}
use Rattle.std.specs.List.{AllByRecursion}
use Rattle.sstable_blocks.specs.Prelude.{HandleParts, IsOrdered, count_passed, Handle, handles, items_in, index_payload, EndFits, IsIndexBlock}
use Rattle.sstable_blocks.specs.Results.{Error, TooLong, Memory}
use Rattle.sst_calls.specs.Given.{AreKept, IsWrittenOut}
use Rattle.sst_calls.specs.declared.codes.Status.{Status}
use Rattle.sst_calls.specs.declared.codes.Status.TheVariants.{Done, Failed, NotFound, BadArgument}
use Rattle.sst_calls.specs.declared.index_block.SstHandle.{SstHandle}
use Rattle.sst_calls.specs.declared.handles.SstKeyedHandle.{SstKeyedHandle}

-- bytes are an index block: the encoding of some ordered, non-empty list of handles, shorter than 2^32
pub record IsIndexPayload (p : List ℕ) : Type 0 where
  pub fits : length p < 2 ^ 32
  pub encoding : (items : List Handle) × (r : ℕ) × IsIndexBlock p items r

-- the index of the first handle whose block can hold an entry of a key below a sequence number, or the number of handles
abbrev pub index_for : List ℕ → ℕ → List Handle → ℕ
index_for needle seqno items = count_passed handles needle (Some seqno) items

-- that handle
abbrev pub first_for : List ℕ → ℕ → List Handle → Option Handle
first_for needle seqno items = slice_get items (index_for needle seqno items)

-- a range, if there is one, is that of this handle, if there is one
abbrev pub IsHandleAnswer : Option HandleParts → Option Handle → Type 0
IsHandleAnswer None None = Unit {0}
IsHandleAnswer (Some r) (Some h) = (r.offset ≡ h.offset) × (r.size ≡ h.size)
IsHandleAnswer None (Some h) = ⊥
IsHandleAnswer (Some r) None = ⊥

-- what a search says: the range of the handle, or that there is none
abbrev pub IsHandleFind : Option Handle → SstHandle → SstHandle → Status → Type 0
IsHandleFind (Some h) old new Done = (new.offset ≡ h.offset) × (new.size ≡ h.size)
IsHandleFind None old new NotFound = new ≡ old
IsHandleFind h old new _ = ⊥

-- what a seek in an index block says, and what a search does
abbrev pub IsIndexSeek : List ℕ → List ℕ → ℕ → ℕ → Type 0
IsIndexSeek p key below index = index ≡ index_for key below (items_in handles p)

abbrev pub IsIndexFind : List ℕ → List ℕ → ℕ → SstHandle → SstHandle → Status → Type 0
IsIndexFind p key below old new s = IsHandleFind (first_for key below (items_in handles p)) old new s

-- the handle that is given
abbrev pub handle_given : SstKeyedHandle → Handle
handle_given g = record { offset = g.offset; size = g.size; seqno = g.seqno; end_key = g.end_key.now }

-- the end key that is given is not too long
abbrev pub HasEndKey : SstKeyedHandle → Type 0
HasEndKey g = length g.end_key.now ≤ 65535

-- the handles that are given can be encoded
pub record CanEncodeHandles (given : List SstKeyedHandle) (interval : ℕ) : Type 0 where
  pub some : 1 ≤ length given
  pub end_keys : AllByRecursion HasEndKey given
  pub ordered : IsOrdered handles (map handle_given given)
  pub ends : AllByRecursion EndFits (map handle_given given)
  pub some_interval : 1 ≤ interval

-- an encoding failed: the block is too long, or an allocation failed
pub record IsIndexFailure (given : List SstKeyedHandle) (interval : ℕ) (old new : List ℕ) (len_old len_new : ℕ) (e : Error) : Type 0 where
  pub cause : (e ≡ Memory) ⊎ ((e ≡ TooLong) × CanEncodeHandles given interval × (2 ^ 32 ≤ length (index_payload (map handle_given given) interval)))
  pub kept : AreKept old new len_old len_new

-- what becomes of an encoding: an argument is refused exactly if the handles can't be encoded
abbrev pub IsIndexEncode : List SstKeyedHandle → ℕ → List ℕ → List ℕ → ℕ → ℕ → Status → Type 0
IsIndexEncode given interval old new len_old len_new BadArgument = (CanEncodeHandles given interval → ⊥) × AreKept old new len_old len_new
IsIndexEncode given interval old new len_old len_new (Failed e) = IsIndexFailure given interval old new len_old len_new e
IsIndexEncode given interval old new len_old len_new s = CanEncodeHandles given interval × IsWrittenOut (index_payload (map handle_given given) interval) old new len_new s
