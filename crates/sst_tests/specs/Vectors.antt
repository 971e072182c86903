-- Test vectors: lists, and their bytes, which are given in hex elsewhere.
use Rattle.std.specs.Prelude.{ℕ, zero, suc, ◌+◌, List, [], ◌∷◌, replicate, Some, None, Bool}
use Rattle.std.specs.Ordering.{nat_cmp, is_lt}
use Rattle.std.specs.Cmp.Lexicographic.{slice_cmp}
use Rattle.sst_base.specs.declared.value_type.ValueType.TheVariants.{Value, Tombstone}
use Rattle.sst_base.specs.Entry.{Entry}
use Rattle.sst_block_core.specs.Handles.{Handle}
use Rattle.sst_block_core.specs.Window.{Answer, item}

abbrev pub put : List ℕ → List ℕ → ℕ → Entry
put key value seqno = record { key = record { user_key = key; seqno = seqno; value_type = Value }; value = value }

abbrev pub deleted : List ℕ → List ℕ → ℕ → Entry
deleted key value seqno = record { key = record { user_key = key; seqno = seqno; value_type = Tombstone }; value = value }

abbrev pub handle : List ℕ → ℕ → ℕ → ℕ → Handle
handle end_key seqno offset size = record { offset = offset; size = size; seqno = seqno; end_key = end_key }

-- the results that are an item, and those that are none
abbrev pub gives : {X : Type 0} → X → Answer X
gives x = item (Some x)

abbrev pub nothing : {X : Type 0} → Answer X
nothing = item None

-- a, ab, abc, ac, b, c, d, e, z, bcdef, def, zzz
abbrev pub a : List ℕ
a = 97 ∷ []

abbrev pub ab : List ℕ
ab = 97 ∷ 98 ∷ []

abbrev pub abc : List ℕ
abc = 97 ∷ 98 ∷ 99 ∷ []

abbrev pub ac : List ℕ
ac = 97 ∷ 99 ∷ []

abbrev pub b : List ℕ
b = 98 ∷ []

abbrev pub c : List ℕ
c = 99 ∷ []

abbrev pub d : List ℕ
d = 100 ∷ []

abbrev pub e : List ℕ
e = 101 ∷ []

abbrev pub z : List ℕ
z = 122 ∷ []

abbrev pub bcdef : List ℕ
bcdef = 98 ∷ 99 ∷ 100 ∷ 101 ∷ 102 ∷ []

abbrev pub def : List ℕ
def = 100 ∷ 101 ∷ 102 ∷ []

abbrev pub zzz : List ℕ
zzz = 122 ∷ 122 ∷ 122 ∷ []

abbrev pub x : List ℕ
x = 120 ∷ []

abbrev pub y : List ℕ
y = 121 ∷ []

-- (b, b, 0)
abbrev pub one_entry : List Entry
one_entry = put b b 0 ∷ []

-- its block at interval 1: 000001620162 ff 0000 0102 ..
abbrev pub one_entry_block : List ℕ
one_entry_block = 0 ∷ 0 ∷ 1 ∷ 98 ∷ 1 ∷ 98 ∷ 255 ∷ 0 ∷ 0 ∷ 1 ∷ 2 ∷ 1 ∷ 0 ∷ 0 ∷ 0 ∷ 7 ∷ 0 ∷ 0 ∷ 0 ∷ 0 ∷ 0 ∷ 0 ∷ 0 ∷ 0 ∷ 0 ∷ 0 ∷ 0 ∷ 1 ∷ 0 ∷ 0 ∷ 0 ∷ 0 ∷ 0 ∷ 0 ∷ 0 ∷ 0 ∷ 1 ∷ 0 ∷ 0 ∷ 0 ∷ []

-- (ab, x, 2), (ab, zz, 1, tombstone), (ac, y, 300)
abbrev pub truncated_pair : List Entry
truncated_pair = put ab x 2 ∷ deleted ab (122 ∷ 122 ∷ []) 1 ∷ put ac y 300 ∷ []

-- its block at interval 2
abbrev pub truncated_pair_block : List ℕ
truncated_pair_block = 0 ∷ 2 ∷ 2 ∷ 97 ∷ 98 ∷ 1 ∷ 120 ∷ 1 ∷ 1 ∷ 2 ∷ 0 ∷ 0 ∷ 172 ∷ 2 ∷ 2 ∷ 97 ∷ 99 ∷ 1 ∷ 121 ∷ 255 ∷ 0 ∷ 0 ∷ 11 ∷ 0 ∷ 2 ∷ 2 ∷ 2 ∷ 0 ∷ 0 ∷ 0 ∷ 20 ∷ 0 ∷ 0 ∷ 0 ∷ 0 ∷ 0 ∷ 0 ∷ 0 ∷ 0 ∷ 0 ∷ 0 ∷ 0 ∷ 1 ∷ 0 ∷ 0 ∷ 0 ∷ 0 ∷ 0 ∷ 0 ∷ 0 ∷ 0 ∷ 3 ∷ 0 ∷ 0 ∷ 0 ∷ []

-- the same with three buckets
abbrev pub hash_pair_block : List ℕ
hash_pair_block = 0 ∷ 2 ∷ 2 ∷ 97 ∷ 98 ∷ 1 ∷ 120 ∷ 1 ∷ 1 ∷ 2 ∷ 0 ∷ 0 ∷ 172 ∷ 2 ∷ 2 ∷ 97 ∷ 99 ∷ 1 ∷ 121 ∷ 255 ∷ 0 ∷ 0 ∷ 11 ∷ 0 ∷ 0 ∷ 1 ∷ 254 ∷ 2 ∷ 2 ∷ 2 ∷ 0 ∷ 0 ∷ 0 ∷ 20 ∷ 0 ∷ 0 ∷ 0 ∷ 3 ∷ 0 ∷ 0 ∷ 0 ∷ 24 ∷ 0 ∷ 0 ∷ 0 ∷ 1 ∷ 0 ∷ 0 ∷ 0 ∷ 0 ∷ 0 ∷ 0 ∷ 0 ∷ 0 ∷ 3 ∷ 0 ∷ 0 ∷ 0 ∷ []

-- (a, x, 2 ^ 64 - 1)
abbrev pub largest_seqno : List Entry
largest_seqno = put a x 18446744073709551615 ∷ []

abbrev pub largest_seqno_body : List ℕ
largest_seqno_body = 0 ∷ 255 ∷ 255 ∷ 255 ∷ 255 ∷ 255 ∷ 255 ∷ 255 ∷ 255 ∷ 255 ∷ 1 ∷ 1 ∷ 97 ∷ 1 ∷ 120 ∷ []

-- (a, v, 0), (b, empty, 0), v of n bytes
abbrev pub long_value : ℕ → List Entry
long_value n = put a (replicate n 120) 0 ∷ put b [] 0 ∷ []

-- one-byte keys from i on, n of them
abbrev pub byte_keys : ℕ → ℕ → List Entry
byte_keys i zero = []
byte_keys i (suc n) = put (i ∷ []) [] 0 ∷ byte_keys (i + 1) n

abbrev pub numbers : ℕ → ℕ → List ℕ
numbers i zero = []
numbers i (suc n) = i ∷ numbers (i + 1) n

-- (a, x, 0), (ab, empty, 0), (abc, empty, 0)
abbrev pub prefixes : List Entry
prefixes = put a x 0 ∷ put ab [] 0 ∷ put abc [] 0 ∷ []

-- its block at interval 16: the third entry shares 1 byte with the head
abbrev pub prefixes_block : List ℕ
prefixes_block = 0 ∷ 0 ∷ 1 ∷ 97 ∷ 1 ∷ 120 ∷ 0 ∷ 0 ∷ 1 ∷ 1 ∷ 98 ∷ 0 ∷ 0 ∷ 0 ∷ 1 ∷ 2 ∷ 98 ∷ 99 ∷ 0 ∷ 255 ∷ 0 ∷ 0 ∷ 16 ∷ 2 ∷ 1 ∷ 0 ∷ 0 ∷ 0 ∷ 20 ∷ 0 ∷ 0 ∷ 0 ∷ 0 ∷ 0 ∷ 0 ∷ 0 ∷ 0 ∷ 0 ∷ 0 ∷ 0 ∷ 1 ∷ 0 ∷ 0 ∷ 0 ∷ 0 ∷ 0 ∷ 0 ∷ 0 ∷ 0 ∷ 3 ∷ 0 ∷ 0 ∷ 0 ∷ []

-- keys a to e, empty values, sequence number 0
abbrev pub letters : List Entry
letters = put a [] 0 ∷ put b [] 0 ∷ put c [] 0 ∷ put d [] 0 ∷ put e [] 0 ∷ []

-- two entries from a bug in an older version: both ends in blocks of interval 1
abbrev pub older : Entry
older = put (111 ∷ []) (119 ∷ []) 8602264972526186597

abbrev pub newer : Entry
newer = put (121 ∷ 120 ∷ 99 ∷ []) (replicate 11 101) 11426548769907

-- (b, empty, 0), (a, empty, 0)
abbrev pub falling : List Entry
falling = put b [] 0 ∷ put a [] 0 ∷ []

-- the one entry with a number encoded in two bytes, and the index offset that follows
abbrev pub loose_block : List ℕ
loose_block = 0 ∷ 128 ∷ 0 ∷ 1 ∷ 98 ∷ 1 ∷ 98 ∷ 255 ∷ 0 ∷ 0 ∷ 1 ∷ 2 ∷ 1 ∷ 0 ∷ 0 ∷ 0 ∷ 8 ∷ 0 ∷ 0 ∷ 0 ∷ 0 ∷ 0 ∷ 0 ∷ 0 ∷ 0 ∷ 0 ∷ 0 ∷ 0 ∷ 1 ∷ 0 ∷ 0 ∷ 0 ∷ 0 ∷ 0 ∷ 0 ∷ 0 ∷ 0 ∷ 1 ∷ 0 ∷ 0 ∷ 0 ∷ []

-- handles b (0, 6000), bcdef (6000, 7000), def (13000, 5000), sequence number 0
abbrev pub three_handles : List Handle
three_handles = handle b 0 0 6000 ∷ handle bcdef 0 6000 7000 ∷ handle def 0 13000 5000 ∷ []

abbrev pub three_handles_block_1 : List ℕ
three_handles_block_1 = 0 ∷ 0 ∷ 240 ∷ 46 ∷ 0 ∷ 1 ∷ 98 ∷ 0 ∷ 240 ∷ 46 ∷ 216 ∷ 54 ∷ 0 ∷ 5 ∷ 98 ∷ 99 ∷ 100 ∷ 101 ∷ 102 ∷ 0 ∷ 200 ∷ 101 ∷ 136 ∷ 39 ∷ 0 ∷ 3 ∷ 100 ∷ 101 ∷ 102 ∷ 255 ∷ 0 ∷ 0 ∷ 7 ∷ 0 ∷ 19 ∷ 0 ∷ 1 ∷ 2 ∷ 3 ∷ 0 ∷ 0 ∷ 0 ∷ 30 ∷ 0 ∷ 0 ∷ 0 ∷ 0 ∷ 0 ∷ 0 ∷ 0 ∷ 0 ∷ 0 ∷ 0 ∷ 0 ∷ 1 ∷ 0 ∷ 0 ∷ 0 ∷ 0 ∷ 0 ∷ 0 ∷ 0 ∷ 0 ∷ 3 ∷ 0 ∷ 0 ∷ 0 ∷ []

abbrev pub three_handles_block_2 : List ℕ
three_handles_block_2 = 0 ∷ 0 ∷ 240 ∷ 46 ∷ 0 ∷ 1 ∷ 98 ∷ 0 ∷ 240 ∷ 46 ∷ 216 ∷ 54 ∷ 0 ∷ 1 ∷ 4 ∷ 99 ∷ 100 ∷ 101 ∷ 102 ∷ 0 ∷ 200 ∷ 101 ∷ 136 ∷ 39 ∷ 0 ∷ 3 ∷ 100 ∷ 101 ∷ 102 ∷ 255 ∷ 0 ∷ 0 ∷ 19 ∷ 0 ∷ 2 ∷ 2 ∷ 2 ∷ 0 ∷ 0 ∷ 0 ∷ 30 ∷ 0 ∷ 0 ∷ 0 ∷ 0 ∷ 0 ∷ 0 ∷ 0 ∷ 0 ∷ 0 ∷ 0 ∷ 0 ∷ 1 ∷ 0 ∷ 0 ∷ 0 ∷ 0 ∷ 0 ∷ 0 ∷ 0 ∷ 0 ∷ 3 ∷ 0 ∷ 0 ∷ 0 ∷ []

abbrev pub three_handles_block_3 : List ℕ
three_handles_block_3 = 0 ∷ 0 ∷ 240 ∷ 46 ∷ 0 ∷ 1 ∷ 98 ∷ 0 ∷ 240 ∷ 46 ∷ 216 ∷ 54 ∷ 0 ∷ 1 ∷ 4 ∷ 99 ∷ 100 ∷ 101 ∷ 102 ∷ 0 ∷ 200 ∷ 101 ∷ 136 ∷ 39 ∷ 0 ∷ 0 ∷ 3 ∷ 100 ∷ 101 ∷ 102 ∷ 255 ∷ 0 ∷ 0 ∷ 3 ∷ 2 ∷ 1 ∷ 0 ∷ 0 ∷ 0 ∷ 31 ∷ 0 ∷ 0 ∷ 0 ∷ 0 ∷ 0 ∷ 0 ∷ 0 ∷ 0 ∷ 0 ∷ 0 ∷ 0 ∷ 1 ∷ 0 ∷ 0 ∷ 0 ∷ 0 ∷ 0 ∷ 0 ∷ 0 ∷ 0 ∷ 3 ∷ 0 ∷ 0 ∷ 0 ∷ []

-- handles a, ab, abc, each of block (0, 1) and sequence number 0
abbrev pub prefix_handles : List Handle
prefix_handles = handle a 0 0 1 ∷ handle ab 0 0 1 ∷ handle abc 0 0 1 ∷ []

abbrev pub prefix_handles_body : List ℕ
prefix_handles_body = 0 ∷ 0 ∷ 1 ∷ 0 ∷ 1 ∷ 97 ∷ 0 ∷ 0 ∷ 1 ∷ 0 ∷ 1 ∷ 1 ∷ 98 ∷ 0 ∷ 0 ∷ 1 ∷ 0 ∷ 1 ∷ 2 ∷ 98 ∷ 99 ∷ []

-- handles (a, 3), (a, 1), (b, 4)
abbrev pub version_handles : List Handle
version_handles = handle a 3 0 73 ∷ handle a 1 73 73 ∷ handle b 4 146 73 ∷ []

-- the predicate over heads: whether the key is below this one
abbrev pub is_below : List ℕ → List ℕ → ℕ → Bool
is_below needle key seqno = is_lt (slice_cmp nat_cmp key needle)

-- one handle a (1, 2 ^ 64 - 1, 1): its block's end passes 64 bits; 00ffffffffffffffffff0101000161 ff 0000 0102 ..
abbrev pub far_handle_block : List ℕ
far_handle_block = 0 ∷ 255 ∷ 255 ∷ 255 ∷ 255 ∷ 255 ∷ 255 ∷ 255 ∷ 255 ∷ 255 ∷ 1 ∷ 1 ∷ 0 ∷ 1 ∷ 97 ∷ 255 ∷ 0 ∷ 0 ∷ 1 ∷ 2 ∷ 1 ∷ 0 ∷ 0 ∷ 0 ∷ 16 ∷ 0 ∷ 0 ∷ 0 ∷ 0 ∷ 0 ∷ 0 ∷ 0 ∷ 0 ∷ 0 ∷ 0 ∷ 0 ∷ 1 ∷ 0 ∷ 0 ∷ 0 ∷ 0 ∷ 0 ∷ 0 ∷ 0 ∷ 0 ∷ 1 ∷ 0 ∷ 0 ∷ 0 ∷ []

-- b, bcdef, def at interval 2, the second with shared length 0 where the longest is 1, and the numbers that follow
abbrev pub short_prefix_block : List ℕ
short_prefix_block = 0 ∷ 0 ∷ 240 ∷ 46 ∷ 0 ∷ 1 ∷ 98 ∷ 0 ∷ 240 ∷ 46 ∷ 216 ∷ 54 ∷ 0 ∷ 0 ∷ 5 ∷ 98 ∷ 99 ∷ 100 ∷ 101 ∷ 102 ∷ 0 ∷ 200 ∷ 101 ∷ 136 ∷ 39 ∷ 0 ∷ 3 ∷ 100 ∷ 101 ∷ 102 ∷ 255 ∷ 0 ∷ 0 ∷ 20 ∷ 0 ∷ 2 ∷ 2 ∷ 2 ∷ 0 ∷ 0 ∷ 0 ∷ 31 ∷ 0 ∷ 0 ∷ 0 ∷ 0 ∷ 0 ∷ 0 ∷ 0 ∷ 0 ∷ 0 ∷ 0 ∷ 0 ∷ 1 ∷ 0 ∷ 0 ∷ 0 ∷ 0 ∷ 0 ∷ 0 ∷ 0 ∷ 0 ∷ 3 ∷ 0 ∷ 0 ∷ 0 ∷ []
