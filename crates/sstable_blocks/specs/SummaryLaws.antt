-- What is counted of a list of entries, in front and after: its last key, the least and the greatest sequence number.
use Rattle.std.proofs.Common.{◌≡◌, ℕ, ◌≤◌, min, max, List, [], ◌∷◌, ◌++◌, length, refl, arith, sym, ◌∙◌, ap, length-append}
use Rattle.std.specs.List.{AllZip}
use Rattle.sst_base.specs.Entry.{Entry}
use Rattle.sst_base.specs.Key.{Key}
use Rattle.sst_block_core.specs.Entries.{entries}
use Rattle.sst_block_core.specs.Handles.{Handle, handles}
use Rattle.sstable_blocks.specs.Blocks.{joined, IsNotEmpty}
use Rattle.sstable_blocks.specs.Lookup.{IsEnd}
use Rattle.sstable_blocks.specs.OpeningLaws.{stored_ends}
use Rattle.sstable_blocks.specs.Run.{end_key_of}
use Rattle.sstable_blocks.specs.RunChecks.{first_of, least_from, greatest_from, last_of}
use Rattle.sstable_blocks.specs.RunReading.{Hashes}
use Rattle.sstable_blocks.specs.Sound.{IsSound}
use Rattle.sstable_blocks.specs.declared.run.RunHandles.{RunHandles}
use Rattle.sstable_blocks.specs.declared.run.checking.RunSummary.{RunSummary}

-- the last key of two lists is that of the second, if that is not empty
pub end_of-append : (xs ys : List Entry) → 1 ≤ length ys → end_key_of (xs ++ ys) ≡ end_key_of ys
end_of-append [] ys h = refl
end_of-append (x ∷ []) [] h = absurd (omega arith)
end_of-append (x ∷ []) (y ∷ ys) h = refl
end_of-append (x ∷ z ∷ xs) ys h = end_of-append (z ∷ xs) ys h

pub end_of-push : (front : List Entry) (last : Entry) → end_key_of (front ++ last ∷ []) ≡ last.key
end_of-push front last = end_of-append front (last ∷ []) (omega arith)

-- the last entry of a list that is not empty
pub end_parts : (block : List Entry) → IsNotEmpty block → (front : List Entry) × (last : Entry) × (block ≡ front ++ last ∷ []) × (end_key_of block ≡ last.key)
end_parts [] h = absurd (omega arith)
end_parts (x ∷ []) h = ([], x, refl, refl)
end_parts (x ∷ y ∷ ys) h =
    let r = end_parts (y ∷ ys) (omega arith) in
    (x ∷ r.0, r.1, ap (λ xs. x ∷ xs) r.2, r.3)

-- the first of two lists has their first entry, if it is not empty
pub first_of-append : (xs ys : List Entry) → 1 ≤ length xs → first_of (xs ++ ys) ≡ first_of xs
first_of-append [] ys h = absurd (omega arith)
first_of-append (x ∷ xs) ys h = refl

pub last_of-append : (xs ys : List Entry) → 1 ≤ length ys → last_of (xs ++ ys) ≡ last_of ys
last_of-append xs ys h = ap (λ (k : Key). (k.user_key, k.seqno)) (end_of-append xs ys h)

-- a list with an end is not empty, and the end has the last key
pub end_some : (b : List Entry) (h : Handle) → IsEnd entries handles b h → 1 ≤ length b
end_some b h i = let l = ap length i.whole in let m = length-append i.front (i.last ∷ []) in omega arith

pub end_is_last : (b : List Entry) (h : Handle) → IsEnd entries handles b h → last_of b ≡ (h.end_key, h.seqno)
end_is_last b h i =
    ap last_of i.whole ∙ ap (λ (k : Key). (k.user_key, k.seqno)) (end_of-push i.front i.last)
    ∙ ap (λ (k : List ℕ). (k, i.last.key.seqno)) (sym i.key) ∙ ap (λ (n : ℕ). (h.end_key, n)) (sym i.seqno)

-- a handle with the last key of a list that is not empty has its end
pub last_is_end : (b : List Entry) (h : Handle) → 1 ≤ length b → h.end_key ≡ (last_of b).0 → h.seqno ≡ (last_of b).1 → IsEnd entries handles b h
last_is_end b h some key seqno =
    let e = end_parts b some in
    record { front = e.0; last = e.1; whole = e.2; key = key ∙ ap (λ (k : Key). k.user_key) e.3; seqno = seqno ∙ ap (λ (k : Key). k.seqno) e.3 }

-- the sequence numbers of two lists
pub least_append : (n : ℕ) (xs ys : List Entry) → least_from n (xs ++ ys) ≡ least_from (least_from n xs) ys
least_append n [] ys = refl
least_append n (x ∷ xs) ys = least_append (min n x.key.seqno) xs ys

pub greatest_append : (n : ℕ) (xs ys : List Entry) → greatest_from n (xs ++ ys) ≡ greatest_from (greatest_from n xs) ys
greatest_append n [] ys = refl
greatest_append n (x ∷ xs) ys = greatest_append (max n x.key.seqno) xs ys

-- the least of a number and of others is the lesser one
pub least_of_both : (m n : ℕ) (xs : List Entry) → least_from (min m n) xs ≡ min m (least_from n xs)
least_of_both m n [] = refl
least_of_both m n (x ∷ xs) =
    let k = x.key.seqno in
    let same : min (min m n) k ≡ min m (min n k) = omega arith in
    ap (λ a. least_from a xs) same ∙ least_of_both m (min n k) xs

pub greatest_of_both : (m n : ℕ) (xs : List Entry) → greatest_from (max m n) xs ≡ max m (greatest_from n xs)
greatest_of_both m n [] = refl
greatest_of_both m n (x ∷ xs) =
    let k = x.key.seqno in
    let same : max (max m n) k ≡ max m (max n k) = omega arith in
    ap (λ a. greatest_from a xs) same ∙ greatest_of_both m (max n k) xs

pub least_under : (n : ℕ) (xs : List Entry) → least_from n xs ≤ n
least_under n [] = omega arith
least_under n (x ∷ xs) = let less = least_under (min n x.key.seqno) xs in omega arith

-- summaries are the same where their parts are
pub same_summary : (a b : RunSummary) → a.blocks ≡ b.blocks → a.entries ≡ b.entries → a.first_key ≡ b.first_key → a.first_seqno ≡ b.first_seqno → a.last_key ≡ b.last_key → a.last_seqno ≡ b.last_seqno
    → a.least_seqno ≡ b.least_seqno → a.greatest_seqno ≡ b.greatest_seqno → a ≡ b
same_summary a b blocks entries first first_at last last_at least greatest i = record {
  blocks = blocks i;
  entries = entries i;
  first_key = first i;
  first_seqno = first_at i;
  last_key = last i;
  last_seqno = last_at i;
  least_seqno = least i;
  greatest_seqno = greatest i;
}

-- a sound run has an entry
some_joined : (blocks : List (List Entry)) (hs : List Handle) → 1 ≤ length hs → AllZip (IsEnd entries handles) blocks hs → 1 ≤ length (joined blocks)
some_joined blocks [] some ends = absurd (omega arith)
some_joined [] (h ∷ hs) some ends = absurd ends
some_joined (b ∷ bs) (h ∷ hs) some ends = let s = end_some b h ends.0 in let l = length-append b (joined bs) in omega arith

pub sound_some : (c : Hashes) (blocks : List (List Entry)) (bytes : List ℕ) (h : RunHandles) → IsSound c blocks bytes h → 1 ≤ length (joined blocks)
sound_some c blocks bytes h s = some_joined blocks s.handles s.index.is_block.block.encoding.some (stored_ends c bytes blocks s.handles s.stored)
