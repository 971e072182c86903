-- The checks of blocks as functions of the bytes: the first stage that fails names the error.
use Rattle.std.specs.Prelude.{◌≡◌, ℕ, zero, suc, ◌+◌, ◌-◌, ◌*◌, ◌&&◌, ◌||◌, nat_le, nat_lt, nat_eq, ◌^◌, if◌then◌else◌, not, Bool, true, List, [], ◌∷◌, length, take, drop, slice_index, Result, Ok, Err}
use Rattle.std.specs.List.{list_all}
use Rattle.std.specs.declared.cmp.Ordering.{Ordering}
use Rattle.std.specs.Ordering.{is_lt}
use Rattle.std.specs.Cmp.Lexicographic.{pointwise}
use Rattle.byteorder.specs.Endian.{little_number}
use Rattle.sst_base.specs.Entry.{Entry}
use Rattle.sst_base.specs.Frame.{demand}
use Rattle.sst_base.specs.Header.{◌>>=◌}
use Rattle.sst_base.specs.declared.error.Error.{Error}
use Rattle.sst_base.specs.declared.error.Error.TheVariants.{Truncated, BadTrailer, BadEntry, OutOfOrder, BadIndex, BadHashIndex, BadHandle}
use Rattle.sst_block_core.specs.Kind.{Kind, item_cmp}
use Rattle.sst_block_core.specs.Body.{place_offset, items_at}
use Rattle.sst_block_core.specs.Trailer.{Trailer, reserved, trailer_bytes, trailer_in}
use Rattle.sst_block_core.specs.Pointers.{head_count, pointer_width}
use Rattle.sst_block_core.specs.Buckets.{bucket}
use Rattle.sst_block_core.specs.Entries.{entries}
use Rattle.sst_block_core.specs.Handles.{Handle, handles, HasIndexParts, HasEnds, IndexPassesBy}
use Rattle.sst_block_core.specs.Stages.{body_in, pointer_bytes, buckets_in, reads_all, items_by, HasTrailer, HasParts, HasForms, HasOrder, HasPointers, HasBuckets, PassesBy}

-- does a test hold of all numbers below n?
abbrev pub all_below : ℕ → (ℕ → Bool) → Bool
all_below zero test = true
all_below (suc n) test = all_below n test && test n

-- does no item sort before its predecessor?
abbrev pub is_in_order : {X : Type 0} → (X → X → Ordering) → List X → Bool
is_in_order cmp [] = true
is_in_order cmp (x ∷ []) = true
is_in_order cmp (x ∷ y ∷ xs) = not (is_lt (cmp y x)) && is_in_order cmp (y ∷ xs)

-- stage 2: are the numbers of the trailer consistent with each other and with the payload?
abbrev pub has_parts : Trailer → List ℕ → Bool
has_parts t p =
    nat_le 1 t.interval && (nat_eq t.width 2 || nat_eq t.width 4) && nat_le 1 t.item_count
    && nat_eq t.heads (head_count t.interval t.item_count)
    && pointwise nat_eq (take 9 (drop 18 (trailer_bytes p))) reserved
    && nat_le 1 t.index_offset && nat_eq (slice_index p (t.index_offset - 1)) 255
    && nat_eq (t.index_offset + t.heads * t.width + t.hash_len + 31) (length p)
    && (if nat_eq t.hash_len 0 then nat_eq t.hash_offset 0
    else nat_le t.heads 254 && nat_eq t.hash_offset (t.index_offset + t.heads * t.width))

-- stage 3: is the body as many forms as the trailer says, and nothing after them?
abbrev pub has_forms : {X : Type 0} → Kind X → Trailer → List ℕ → Bool
has_forms kind t p = reads_all (items_at kind t.interval 0 t.item_count [] (body_in t p))

-- stage 4: does no item sort before its predecessor?
abbrev pub has_order : {X : Type 0} → Kind X → Trailer → List ℕ → Bool
has_order kind t p = is_in_order (item_cmp kind) (items_by kind t p)

-- stage 5: is each pointer the offset of its head, and the pointer width the smallest that suffices?
abbrev pub has_pointers : {X : Type 0} → Kind X → Trailer → List ℕ → Bool
has_pointers kind t p =
    all_below t.heads (λ j. nat_eq (little_number t.width (drop (j * t.width) (pointer_bytes t p))) (place_offset kind t.interval (items_by kind t p) (j * t.interval)))
    && nat_eq t.width (pointer_width kind t.interval (items_by kind t p))

-- stage 6: does each stored bucket say in which intervals its keys are?
abbrev pub has_buckets : {X : Type 0} → Kind X → (List ℕ → ℕ) → Trailer → List ℕ → Bool
has_buckets kind hash t p = all_below t.hash_len (λ q. nat_eq (slice_index (buckets_in t p) q) (bucket kind hash t.interval (items_by kind t p) t.hash_len q))

-- the entries of a data block's payload, by the numbers of a trailer, or the error of the first stage that fails
abbrev pub data_check_by : (List ℕ → ℕ) → Trailer → List ℕ → Result (List Entry) Error
data_check_by hash64 t p = do
  trailer ← demand (nat_le 31 (length p)) Truncated
  parts ← demand (has_parts t p) BadTrailer
  forms ← demand (has_forms entries t p) BadEntry
  order ← demand (has_order entries t p) OutOfOrder
  pointers ← demand (has_pointers entries t p) BadIndex
  buckets ← demand (has_buckets entries hash64 t p) BadHashIndex
  Ok (items_by entries t p)

-- the entries of a data block's payload, or the error of the first stage that fails
unfoldable pub data_check : (List ℕ → ℕ) → List ℕ → Result (List Entry) Error
data_check hash64 p = data_check_by hash64 (trailer_in p) p

-- does a handle's block end within 64 bits?
abbrev pub end_fits : Handle → Bool
end_fits h = nat_lt (h.offset + h.size) (2 ^ 64)

-- the handles of an index block's payload, by the numbers of a trailer, or the error of the first stage that fails
abbrev pub index_check_by : Trailer → List ℕ → Result (List Handle) Error
index_check_by t p = do
  trailer ← demand (nat_le 31 (length p)) Truncated
  parts ← demand (has_parts t p && nat_eq t.hash_len 0) BadTrailer
  forms ← demand (has_forms handles t p) BadEntry
  ends ← demand (list_all end_fits (items_by handles t p)) BadHandle
  order ← demand (has_order handles t p) OutOfOrder
  pointers ← demand (has_pointers handles t p) BadIndex
  Ok (items_by handles t p)

-- the handles of an index block's payload, at any interval, or the error of the first stage that fails
unfoldable pub index_check : List ℕ → Result (List Handle) Error
index_check p = index_check_by (trailer_in p) p

-- why a check refuses the payload of a data block: the stage of the error fails, and all before it hold
abbrev pub DataRefusal : (List ℕ → ℕ) → Trailer → List ℕ → Error → Type 0
DataRefusal hash64 t p Truncated = HasTrailer p → ⊥
DataRefusal hash64 t p BadTrailer = HasTrailer p × (HasParts t p → ⊥)
DataRefusal hash64 t p BadEntry = HasTrailer p × HasParts t p × (HasForms entries t p → ⊥)
DataRefusal hash64 t p OutOfOrder = HasTrailer p × HasParts t p × HasForms entries t p × (HasOrder entries t p → ⊥)
DataRefusal hash64 t p BadIndex = HasTrailer p × HasParts t p × HasForms entries t p × HasOrder entries t p × (HasPointers entries t p → ⊥)
DataRefusal hash64 t p BadHashIndex = HasTrailer p × HasParts t p × HasForms entries t p × HasOrder entries t p × HasPointers entries t p × (HasBuckets entries hash64 t p → ⊥)
DataRefusal hash64 t p _ = ⊥

-- a result is the one that the stages give: the entries where all hold, else the error of the first that fails
abbrev pub DataVerdict : (List ℕ → ℕ) → Trailer → List ℕ → Result (List Entry) Error → Type 0
DataVerdict hash64 t p (Ok items) = PassesBy entries hash64 t p × (items ≡ items_by entries t p)
DataVerdict hash64 t p (Err e) = DataRefusal hash64 t p e

-- why a check refuses the payload of an index block: the stage of the error fails, and all before it hold
abbrev pub IndexRefusal : Trailer → List ℕ → Error → Type 0
IndexRefusal t p Truncated = HasTrailer p → ⊥
IndexRefusal t p BadTrailer = HasTrailer p × (HasIndexParts t.interval t p → ⊥)
IndexRefusal t p BadEntry = HasTrailer p × HasIndexParts t.interval t p × (HasForms handles t p → ⊥)
IndexRefusal t p BadHandle = HasTrailer p × HasIndexParts t.interval t p × HasForms handles t p × (HasEnds t p → ⊥)
IndexRefusal t p OutOfOrder = HasTrailer p × HasIndexParts t.interval t p × HasForms handles t p × HasEnds t p × (HasOrder handles t p → ⊥)
IndexRefusal t p BadIndex = HasTrailer p × HasIndexParts t.interval t p × HasForms handles t p × HasEnds t p × HasOrder handles t p × (HasPointers handles t p → ⊥)
IndexRefusal t p _ = ⊥

-- a result is the one that the stages give: the handles where all hold, else the error of the first that fails
abbrev pub IndexVerdict : Trailer → List ℕ → Result (List Handle) Error → Type 0
IndexVerdict t p (Ok items) = IndexPassesBy t.interval t p × (items ≡ items_by handles t p)
IndexVerdict t p (Err e) = IndexRefusal t p e
