-- Blocks that are known to be one, and where the parts of an entry are.
use Rattle.std.specs.Prelude.{◌≡◌, ℕ, ◌+◌, ◌≤◌, ◌<◌, ◌^◌, List, ◌++◌, length, take, drop, Option, Some, None, IfSome}
use Rattle.sstable_blocks.specs.Prelude.{Entry, IsEntry, value_type_byte, entries, IsBlock, first_match, items_in}
use Rattle.sst_calls.specs.declared.codes.Status.{Status}
use Rattle.sst_calls.specs.declared.codes.Status.TheVariants.{Done, NotFound}
use Rattle.sst_calls.specs.declared.data_block.SstPlace.{SstPlace}
use Rattle.sst_calls.specs.Hashing.{IsHashed, hash64_of, hash_given}

-- bytes are a data block by a hash function: the encoding of some ordered, non-empty list of entries, shorter than 2^32
pub record IsDataBlock (hash : List ℕ → ℕ) (p : List ℕ) : Type 0 where
  pub fits : length p < 2 ^ 32
  pub encoding : (items : List Entry) × (r : ℕ) × (b : ℕ) × IsBlock entries IsEntry hash p items r b

-- bytes are a data block by some hash function
abbrev pub IsSomeDataBlock : List ℕ → Type 0
IsSomeDataBlock p = (hash : List ℕ → ℕ) × IsDataBlock hash p

-- so many bytes of a payload, from an offset on
abbrev pub bytes_behind : List ℕ → ℕ → ℕ → List ℕ
bytes_behind p offset len = take len (drop offset p)

-- bytes have these in them, from an offset on
pub record IsPartAt (bytes : List ℕ) (start : ℕ) (p : List ℕ) : Type 0 where
  pub is : bytes_behind bytes start (length p) ≡ p
  pub inside : start + length p ≤ length bytes

-- a place says where the parts of this entry are in a payload
pub record IsPlaceOf (p : List ℕ) (f : SstPlace) (e : Entry) : Type 0 where
  pub seqno : f.seqno ≡ e.key.seqno
  pub value_type : f.value_type ≡ value_type_byte e.key.value_type
  pub key : bytes_behind p f.prefix_offset f.prefix_len ++ bytes_behind p f.key_offset f.key_len ≡ e.key.user_key
  pub value : bytes_behind p f.value_offset f.value_len ≡ e.value
  pub prefix_inside : f.prefix_offset + f.prefix_len ≤ length p
  pub key_inside : f.key_offset + f.key_len ≤ length p
  pub value_inside : f.value_offset + f.value_len ≤ length p

-- an answer, if there is one, is this entry, if there is one
abbrev pub IsAnswer : List ℕ → Option SstPlace → Option Entry → Type 0
IsAnswer p None None = Unit {0}
IsAnswer p (Some f) (Some e) = IsPlaceOf p f e
IsAnswer p None (Some e) = ⊥
IsAnswer p (Some f) None = ⊥

-- what a search of a key below a sequence number says: where the first match is, or that there is none
abbrev pub IsFind : List ℕ → Option Entry → SstPlace → SstPlace → Status → Type 0
IsFind p (Some e) old new Done = IsPlaceOf p new e
IsFind p None old new NotFound = new ≡ old
IsFind p match old new _ = ⊥

-- bytes are a data block by the hash function of a number, if it is one's
abbrev pub IsBlockBy : ℕ → List ℕ → Type 0
IsBlockBy number p = IfSome (hash_given number) (λ h. IsDataBlock (hash64_of h) p)

-- what a find by the hash function of a number says
abbrev pub IsFindBy : ℕ → List ℕ → List ℕ → ℕ → SstPlace → SstPlace → Status → Type 0
IsFindBy number p key below old new s = IsHashed (hash_given number) s (new ≡ old) (λ _. IsFind p (first_match entries key below (items_in entries p)) old new s)
