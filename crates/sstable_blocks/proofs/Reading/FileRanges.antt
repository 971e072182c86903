-- The range of a handle, read from a file.
use Rattle.std.proofs.Common.{◌≡◌, ◌^◌, IfSome, None, ℕ, ◌+◌, ◌<◌, ◌≤◌, List, ◌++◌, length, take, drop, arith, refl, sym, ap, ◌∙◌, Option, Some, Result, Ok, Err, length-append, length-drop, inl, inr}
use lib.Seq.{take-append_seam}
use Rattle.std.proofs.lemmas.Bool.{le-leb, lt-leb, cases_lt}
use Rattle.sst_base.specs.BlockHandle.{HandleParts}
use Rattle.sst_base.specs.Header.{bytes_at}
use Rattle.sst_base.specs.HeaderLaws.{bytes_at_takes}
use Rattle.sst_base.specs.Inputs.{ReadsAllocating}
use Rattle.sst_base.specs.declared.error.Error.{Error}
use Rattle.sst_base.specs.declared.error.Error.TheVariants.{Io, Truncated, Memory, BadHandle}
use Rattle.sstable_blocks.specs.RunReading.{range_at}
use Rattle.sstable_blocks.specs.Sources.{IsRangeRead, IsRangeRefused}
use Rattle.sst_base.specs.TestLaws.{lt_test, ge_test}

-- bytes that cannot be read have ended
only_io : (n : ℕ) (bytes : List ℕ) (e : Error) → bytes_at n bytes ≡ Err e → e ≡ Io
only_io n bytes e read = elim (cases_lt (length bytes) n) [
  | inl less ↦ (let short : bytes_at n bytes ≡ Err Io = rw (lt_test _ _ less) refl in cc (short, read))
  | inr enough ↦ absurd (let whole : bytes_at n bytes ≡ Ok (take n bytes, drop n bytes) = rw (ge_test _ _ enough) refl in cc (whole, read))
]

module _ (all : List ℕ) (h : HandleParts) where
  inside : h.offset + h.size ≤ length all → range_at all h ≡ Ok (take h.size (drop h.offset all))
  unfolding range_at
  inside le = rw (le-leb (h.offset + h.size) (length all) le) refl

  -- a range that ends after the bytes isn't inside
  pub outside : length all < h.offset + h.size → range_at all h ≡ Err BadHandle
  unfolding range_at
  outside less = rw (lt-leb (h.offset + h.size) (length all) less) refl

  found_inside : (s rest : List ℕ) → (h.size ≡ 0 → h.offset ≤ length all) → bytes_at h.size (drop h.offset all) ≡ Ok (s, rest) → range_at all h ≡ Ok s
  found_inside s rest none e =
      let cut = bytes_at_takes h.size (drop h.offset all) (s, rest) e in
      let l = ap length cut.0 ∙ length-append s rest in
      let d = length-drop h.offset all in
      let front : take h.size (drop h.offset all) ≡ s = ap (take h.size) cut.0 ∙ ap (λ n. take n (s ++ rest)) (sym cut.1) ∙ take-append_seam s rest in
      let le : h.offset + h.size ≤ length all = elim (cases_lt 0 h.size) [
        | inl some ↦ omega (arith, l, d, cut.1)
        | inr zero ↦ (let low = none (omega arith) in omega arith)
      ] in
      inside le ∙ ap (λ xs. Ok xs) front

  short_outside : bytes_at h.size (drop h.offset all) ≡ Err Io → (range_at all h ≡ Err BadHandle) × (0 < h.size)
  short_outside e = elim (cases_lt (length (drop h.offset all)) h.size) [
    | inl less ↦ (outside (let d = length-drop h.offset all in omega arith), omega arith)
    | inr enough ↦ absurd (let whole : bytes_at h.size (drop h.offset all) ≡ Ok (take h.size (drop h.offset all), drop h.size (drop h.offset all)) = rw (ge_test _ _ enough) refl in cc (whole, e))
  ]

  -- what a reader that was moved to the offset gives
  pub read_range : (m n : Type 0) (r : Result (List ℕ) Error) (left : Option (List ℕ)) → (m → n) → (h.size ≡ 0 → h.offset ≤ length all)
      → ReadsAllocating n r left (bytes_at h.size (drop h.offset all)) → IsRangeRead m h.size r (range_at all h)
  read_range m n (Ok s) left k none read = found_inside s read.0 none read.2
  read_range m n (Err Memory) left k none read = tt
  read_range m n (Err Io) left k none read = λ over. short_outside (read (k over))
  read_range m n (Err e) left k none read = absurd (let io : e ≡ Io = only_io h.size (drop h.offset all) e read in cc)

-- where the bytes are known: a range that ends at 2^64 or above
pub long_range : (o : Option (List ℕ)) (h : HandleParts) (m : Type 0) (len : ℕ) → 2 ^ 64 ≤ h.offset + h.size → len < 2 ^ 64 → IfSome o (λ all. len ≡ length all) → IfSome o (λ all. IsRangeRefused m h.size BadHandle (range_at all h))
long_range None h m len long short is = tt
long_range (Some all) h m len long short is = outside all h (omega arith)

-- and one of no bytes, after the end
pub past_range : (o : Option (List ℕ)) (h : HandleParts) (m : Type 0) (len : ℕ) → h.size ≡ 0 → len < h.offset → IfSome o (λ all. len ≡ length all) → IfSome o (λ all. IsRangeRefused m h.size Truncated (range_at all h))
past_range None h m len none past is = tt
past_range (Some all) h m len none past is = (outside all h (omega arith), none)

pub file_range : (o : Option (List ℕ)) (h : HandleParts) (m n : Type 0) (r : Result (List ℕ) Error) (moved left : Option (List ℕ)) → (m → n) → IfSome o (λ all. h.size ≡ 0 → h.offset ≤ length all)
    → IfSome o (λ all. moved ≡ Some (drop h.offset all)) → ((bytes : List ℕ) → moved ≡ Some bytes → ReadsAllocating n r left (bytes_at h.size bytes)) → IfSome o (λ all. IsRangeRead m h.size r (range_at all h))
file_range None h m n r moved left k none is read = tt
file_range (Some all) h m n r moved left k none is read = read_range all h m n r left k none (read (drop h.offset all) is)

pub some_size : (o : Option (List ℕ)) (h : HandleParts) → 0 < h.size → IfSome o (λ all. h.size ≡ 0 → h.offset ≤ length all)
some_size None h some = tt
some_size (Some all) h some = λ none. absurd (omega arith)

pub no_size : (o : Option (List ℕ)) (h : HandleParts) (len : ℕ) → h.offset ≤ len → IfSome o (λ all. len ≡ length all) → IfSome o (λ all. h.size ≡ 0 → h.offset ≤ length all)
no_size None h len low is = tt
no_size (Some all) h len low is = λ none. omega arith
