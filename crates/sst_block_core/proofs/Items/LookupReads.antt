-- What the hash index of a data block says of a key.
use Rattle.std.proofs.Common.{◌≡◌, ℕ, ◌+◌, ◌*◌, ◌%◌, ◌<◌, ◌≤◌, inl, inr, List, length, slice_get, slice_index, Some, sym, ap, ◌∙◌, arith}
use Rattle.std.proofs.lemmas.Bool.{cases_eq, eq-eqb, ne_eqb}
use Rattle.sst_base.specs.Entry.{Entry}
use Rattle.sst_block_core.specs.Entries.{entries}
use Rattle.sst_block_core.specs.Buckets.{bucket, buckets}
use Rattle.sst_block_core.specs.Pointers.{head_count}
use Rattle.sst_block_core.specs.DataBlock.{DataRefParts}
use Rattle.sst_block_core.specs.Lookups.{lookup_of}
use Rattle.sst_block_core.specs.PointReads.{ref_lookup}
use Rattle.sst_block_core.specs.declared.table.block.hash_index.reader.Lookup.{Lookup}
use Rattle.sst_block_core.specs.declared.table.block.hash_index.reader.Lookup.TheVariants.{Nowhere, Interval, Anywhere}
use Rattle.sst_block_core.specs.PointerLaws.{length-each}
use Rattle.sst_block_core.specs.BucketReadLaws.{free_bucket, bucket_interval, interval_exists}

-- a free bucket has the byte 254
nowhere_byte : (byte : ℕ) → lookup_of byte ≡ Nowhere → byte ≡ 254
nowhere_byte byte h = elim (cases_eq byte 254) [
  | inl e ↦ e
  | inr n ↦ elim (cases_eq byte 255) [
    | inl e ↦ (let q = rw (ne_eqb byte 254 n, eq-eqb byte 255 e) at h in cc (q))
    | inr m ↦ (let q = rw (ne_eqb byte 254 n, ne_eqb byte 255 m) at h in cc (q))
  ]
]

-- an interval's number is the bucket's byte, which is then neither 254 nor 255
interval_byte : (byte n : ℕ) → lookup_of byte ≡ Interval n → (byte ≡ n) × (n ≡ 254 → ⊥) × (n ≡ 255 → ⊥)
interval_byte byte n h = elim (cases_eq byte 254) [
  | inl e ↦ (let q = rw (eq-eqb byte 254 e) at h in cc (q))
  | inr p ↦ elim (cases_eq byte 255) [
    | inl e ↦ (let q = rw (ne_eqb byte 254 p, eq-eqb byte 255 e) at h in cc (q))
    | inr m ↦ (
        let q : ◌≡◌ {A = Lookup} (Interval byte) (Interval n) = rw (ne_eqb byte 254 p, ne_eqb byte 255 m) at h in
        let same : byte ≡ n = cc in
        (same, (λ k. p (same ∙ k)), (λ k. m (same ∙ k))))
  ]
]

module _ (hash : List ℕ → ℕ) (d : DataRefParts) (needle : List ℕ) (pos : 0 < d.interval) (few : 0 < d.stored → head_count d.interval (length d.items) ≤ 254) where
  abbrev byte : ℕ
  byte = slice_index (buckets entries hash d.interval d.items d.stored) (hash needle % d.stored)

  table_length : length (buckets entries hash d.interval d.items d.stored) ≡ d.stored
  unfolding buckets
  table_length = length-each (bucket entries hash d.interval d.items d.stored) 0 d.stored

  -- a bucket is read only where there is one
  stored_some : (l : Lookup) → (l ≡ Anywhere → ⊥) → ref_lookup hash d needle ≡ l → (0 < d.stored) × (lookup_of byte ≡ l)
  stored_some l told h = elim (cases_eq d.stored 0) [
    | inl e ↦ (let q = rw (eq-eqb d.stored 0 e) at h in absurd (told (sym q)))
    | inr n ↦ (
        let q = rw (ne_eqb d.stored 0 n) at h in
        (omega (arith, n), ap (λ m. lookup_of (slice_index (buckets entries hash d.interval d.items d.stored) (hash needle % m))) (sym table_length) ∙ q))
  ]

  -- where it says that the key is nowhere, no entry has the key
  pub nowhere_none : ref_lookup hash d needle ≡ Nowhere → (i : ℕ) (x : Entry) → slice_get d.items i ≡ Some x → x.key.user_key ≡ needle → ⊥
  nowhere_none h =
      let s = stored_some Nowhere (λ e. cc) h in
      free_bucket entries hash d.interval d.stored d.items needle (omega (arith, pos)) s.0 (few s.0) (nowhere_byte byte s.1)

  -- where it gives an interval, this interval exists, and all entries with the key are in it
  pub interval_alone : (n : ℕ) → ref_lookup hash d needle ≡ Interval n
      → (n * d.interval < length d.items) × ((i : ℕ) (x : Entry) → slice_get d.items i ≡ Some x → x.key.user_key ≡ needle → (n * d.interval ≤ i) × (i < (n + 1) * d.interval))
  interval_alone n h =
      let s = stored_some (Interval n) (λ e. cc) h in
      let b = interval_byte byte n s.1 in (
        interval_exists entries hash d.interval d.stored d.items needle (omega (arith, pos)) s.0 (few s.0) n b.0 b.1 b.2,
        (λ i x at same. let k = bucket_interval entries hash d.interval d.stored d.items needle (omega (arith, pos)) s.0 (few s.0) n b.0 b.1 b.2 i x at same in (k.1, k.2)),
      )
