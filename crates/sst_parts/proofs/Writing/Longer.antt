-- A sound run is one with more bytes after it too, and its footer is read there.
use Rattle.std.proofs.Common.{◌≡◌, ℕ, ◌+◌, ◌-◌, ◌^◌, ◌<◌, ◌≤◌, List, [], ◌∷◌, ◌++◌, length, take, drop, refl, arith, sym, ◌∙◌, ap, append_assoc, length-append, Option, Some, None, IfSome, Ok, cond, eqb, inl, inr}
use Rattle.std.proofs.lemmas.Bool.{cases_Bool, eqb-true}
use Rattle.std.proofs.lemmas.List.{length-drop, drop-append-le, take-append-le, drop_at, append-nil}
use Rattle.std.specs.List.{AllZip}
use Rattle.byteorder.specs.Endian.{little_bytes, little_number}
use Rattle.byteorder.specs.Numbers.{little_number-reads_back}
use Rattle.sstable_blocks.specs.Prelude.{HandleParts, Entry, Handle}
use Rattle.sstable_blocks.specs.BlockTypes.{BlockType}
use Rattle.sstable_blocks.specs.Blocks.{joined}
use Rattle.sstable_blocks.specs.Footer.{footer, footer_handles, parts_at, parts_bytes, parts_of, filter_of, table_handles}
use Rattle.sstable_blocks.specs.RunReading.{Hashes, IsFramedAt}
use Rattle.sstable_blocks.specs.Sound.{IsSound, IsStoredBlock, IsStoredFilter}
use Rattle.sstable_blocks.specs.declared.run.RunHandles.{RunHandles}

-- a range inside is the same with more bytes after it
pub longer : (xs ys : List ℕ) (o n : ℕ) → o + n ≤ length xs → take n (drop o (xs ++ ys)) ≡ take n (drop o xs)
longer xs ys o n h =
    let l = length-drop o xs in
    ap (take n) (drop-append-le o xs ys (omega arith)) ∙ take-append-le n (drop o xs) ys (omega arith)

module _ (c : Hashes) (bytes more : List ℕ) where
  framed : (t : BlockType) (h : HandleParts) (p : List ℕ) → IsFramedAt c t bytes h p → IsFramedAt c t (bytes ++ more) h p
  framed t h p s =
      let i = s.inside in
      let l = length-append bytes more in
      record { inside = omega arith; whole = longer bytes more h.offset h.size s.inside ∙ s.whole }

  blocks_stored : (blocks : List (List Entry)) (hs : List Handle) → AllZip (IsStoredBlock c bytes) blocks hs → AllZip (IsStoredBlock c (bytes ++ more)) blocks hs
  blocks_stored [] [] s = tt
  blocks_stored [] (h ∷ hs) s = absurd s
  blocks_stored (b ∷ bs) [] s = absurd s
  blocks_stored (b ∷ bs) (h ∷ hs) s =
      let x = s.0 in (
        record { payload = x.payload; frame = framed _ _ x.payload x.frame; interval = x.interval; buckets = x.buckets; is_block = x.is_block; end = x.end },
        blocks_stored bs hs s.1,
      )

  filter_stored : (items : List Entry) (h : Option HandleParts) → IfSome h (IsStoredFilter c bytes items) → IfSome h (IsStoredFilter c (bytes ++ more) items)
  filter_stored items None s = tt
  filter_stored items (Some h) s = record { payload = s.payload; frame = framed _ _ s.payload s.frame; framed = s.framed; filter = s.filter; reads = s.reads; contains = s.contains }

  pub sound_longer : (blocks : List (List Entry)) (h : RunHandles) → IsSound c blocks bytes h → IsSound c blocks (bytes ++ more) h
  sound_longer blocks h s =
      let i = s.index in
      record {
        handles = s.handles;
        index = record { payload = i.payload; frame = framed _ _ i.payload i.frame; framed = i.framed; interval = i.interval; is_block = i.is_block };
        stored = blocks_stored blocks s.handles s.stored;
        contiguous = s.contiguous;
        ordered = s.ordered;
        filter = filter_stored (joined blocks) h.filter s.filter;
      }

-- a handle's numbers fit their bytes
pub record PartsFit (h : HandleParts) : Type 0 where
  pub offset : h.offset < 2 ^ 64
  pub size : h.size < 2 ^ 32

-- the handle of index or filter is read again
parts_again : (h : HandleParts) (rest : List ℕ) → PartsFit h → parts_at (parts_bytes h ++ rest) ≡ h
parts_again h rest f =
    let big : h.offset < 256 ^ 8 = f.offset in
    let small : h.size < 256 ^ 4 = f.size in
    let whole = append_assoc (little_bytes 8 h.offset) (little_bytes 4 h.size) rest in
    let offset : little_number 8 (parts_bytes h ++ rest) ≡ h.offset = ap (little_number 8) whole ∙ little_number-reads_back 8 h.offset (little_bytes 4 h.size ++ rest) big in
    let size : little_number 4 (drop 8 (parts_bytes h ++ rest)) ≡ h.size =
    ap (λ xs. little_number 4 (drop 8 xs)) whole ∙ ap (little_number 4) (drop_at (little_bytes 8 h.offset) (little_bytes 4 h.size ++ rest) 8 refl) ∙ little_number-reads_back 4 h.size rest small in
    ap (λ (n : ℕ). record { offset = n; size = little_number 4 (drop 8 (parts_bytes h ++ rest)) }) offset ∙ ap (λ (n : ℕ). record { offset = h.offset; size = n }) size

-- where a filter is: its frame is not empty
abbrev pub FilterFits : Option HandleParts → Type 0
FilterFits None = Unit {0}
FilterFits (Some h) = PartsFit h × (1 ≤ h.size)

filter_again : (h : Option HandleParts) → FilterFits h → PartsFit (parts_of h) × (filter_of (parts_of h) ≡ h)
filter_again None f = (record { offset = omega arith; size = omega arith }, refl)
filter_again (Some h) f = (
  f.0,
  elim (cases_Bool (eqb h.size 0)) [
    | inl none ↦ (let zero : h.size ≡ 0 = eqb-true h.size 0 none in let some = f.1 in absurd (omega arith))
    | inr some ↦ ap (λ b. cond b None (Some h)) some
  ],
)

-- a footer at the end of bytes is read
pub footer_reads : (text : List ℕ) (h : RunHandles) → PartsFit h.index → FilterFits h.filter → table_handles (text ++ footer h) ≡ Ok h
unfolding table_handles footer_handles footer
footer_reads text h index filter =
    let last = parts_bytes h.index ++ parts_bytes (parts_of h.filter) in
    let long : length last ≡ 24 = refl in
    let l = length-append text last in
    let start : length (text ++ last) - 24 ≡ length text = omega arith in
    let at : drop (length (text ++ last) - 24) (text ++ last) ≡ last = ap (λ n. drop n (text ++ last)) start ∙ drop_at text last (length text) refl in
    let second = filter_again h.filter filter in
    let place : parts_at last ≡ h.index = parts_again h.index (parts_bytes (parts_of h.filter)) index in
    let rest : parts_at (drop 12 last) ≡ parts_of h.filter =
    ap parts_at (drop_at (parts_bytes h.index) (parts_bytes (parts_of h.filter)) 12 refl ∙ sym (append-nil (parts_bytes (parts_of h.filter)))) ∙ parts_again (parts_of h.filter) [] second.0 in
    let found : footer_handles last ≡ Ok h =
    ap (λ (x : HandleParts). Ok (record { index = x; filter = filter_of (parts_at (drop 12 last)) })) place
    ∙ ap (λ (x : HandleParts). Ok (record { index = h.index; filter = filter_of x })) rest
    ∙ ap (λ (x : Option HandleParts). Ok (record { index = h.index; filter = x })) second.1 in
    ap footer_handles at ∙ found
