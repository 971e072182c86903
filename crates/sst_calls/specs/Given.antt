-- Entries as C gives them, and what becomes of their encoding.
use Rattle.std.specs.Prelude.{◌≡◌, ◌⊎◌, ℕ, ◌≤◌, ◌<◌, ◌^◌, List, ◌++◌, length, map, drop}
use Rattle.std.specs.List.{AllByRecursion}
use Rattle.sstable_blocks.specs.Prelude.{Entry, IsEntry, value_type_byte, bucket_count, entries, data_payload, IsOrdered}
use Rattle.sstable_blocks.specs.Results.{Error, TooLong, Memory}
use Rattle.sst_calls.specs.declared.codes.Status.{Status}
use Rattle.sst_calls.specs.declared.codes.Status.TheVariants.{Done, Failed, BadArgument, NoRoom}
use Rattle.sst_calls.specs.declared.entries.SstEntry.{SstEntry}
use Rattle.sst_calls.specs.Hashing.{IsHashed, hash64_of, hash_given}

-- what is given of an entry: key, value, sequence number, and the byte of the type
pub record Parts : Type 0 where
  pub key : List ℕ
  pub value : List ℕ
  pub seqno : ℕ
  pub byte : ℕ

abbrev pub parts_given : SstEntry → Parts
parts_given e = record { key = e.key.now; value = e.value.now; seqno = e.seqno; byte = e.value_type }

abbrev pub entry_parts : Entry → Parts
entry_parts e = record { key = e.key.user_key; value = e.value; seqno = e.key.seqno; byte = value_type_byte e.key.value_type }

-- this entry is the one given
abbrev pub IsGiven : SstEntry → Entry → Type 0
IsGiven given e = IsEntry e × (entry_parts e ≡ parts_given given)

-- these entries are the ones given
abbrev pub AreGiven : List SstEntry → List Entry → Type 0
AreGiven given items = AllByRecursion IsEntry items × (map entry_parts items ≡ map parts_given given)

-- these entries are the ones given, and can be encoded
pub record CanEncode (given : List SstEntry) (interval den : ℕ) (items : List Entry) : Type 0 where
  pub are : AreGiven given items
  pub some : 1 ≤ length items
  pub ordered : IsOrdered entries items
  pub some_interval : 1 ≤ interval
  pub some_den : 1 ≤ den

-- the payload of a data block by a hash function, at an interval and a hash ratio of num to den
abbrev pub given_payload : (List ℕ → ℕ) → List Entry → ℕ → ℕ → ℕ → List ℕ
given_payload hash items interval num den = data_payload hash items interval (bucket_count num den (length items))

-- a buffer and the length that a call writes are left as they were
abbrev pub AreKept : List ℕ → List ℕ → ℕ → ℕ → Type 0
AreKept old new len_old len_new = (new ≡ old) × (len_new ≡ len_old)

-- bytes were written at the front of a buffer, or it has no room for them; in both cases their length is told
abbrev pub IsWrittenOut : List ℕ → List ℕ → List ℕ → ℕ → Status → Type 0
IsWrittenOut bytes old new len Done = (len ≡ length bytes) × (length bytes ≤ length old) × (new ≡ bytes ++ drop (length bytes) old)
IsWrittenOut bytes old new len NoRoom = (len ≡ length bytes) × (length old < length bytes) × (new ≡ old)
IsWrittenOut bytes old new len _ = ⊥

-- an encoding failed: the block is too long, or an allocation failed
pub record IsEncodeFailure (hash : List ℕ → ℕ) (given : List SstEntry) (interval num den : ℕ) (old new : List ℕ) (len_old len_new : ℕ) (e : Error) : Type 0 where
  pub cause : (e ≡ Memory) ⊎ ((e ≡ TooLong) × ((items : List Entry) × CanEncode given interval den items × (2 ^ 32 ≤ length (given_payload hash items interval num den))))
  pub kept : AreKept old new len_old len_new

-- what becomes of an encoding: an argument is refused exactly if the entries can't be encoded
abbrev pub IsEncode : (List ℕ → ℕ) → List SstEntry → ℕ → ℕ → ℕ → List ℕ → List ℕ → ℕ → ℕ → Status → Type 0
IsEncode hash given interval num den old new len_old len_new BadArgument = ((items : List Entry) → CanEncode given interval den items → ⊥) × AreKept old new len_old len_new
IsEncode hash given interval num den old new len_old len_new (Failed e) = IsEncodeFailure hash given interval num den old new len_old len_new e
IsEncode hash given interval num den old new len_old len_new s =
    (items : List Entry) × CanEncode given interval den items × IsWrittenOut (given_payload hash items interval num den) old new len_new s

-- what becomes of an encoding by the hash function of a number
abbrev pub IsEncodeBy : ℕ → List SstEntry → ℕ → ℕ → ℕ → List ℕ → List ℕ → ℕ → ℕ → Status → Type 0
IsEncodeBy number given interval num den old new len_old len_new s =
    IsHashed (hash_given number) s (AreKept old new len_old len_new) (λ h. IsEncode (hash64_of h) given interval num den old new len_old len_new s)
