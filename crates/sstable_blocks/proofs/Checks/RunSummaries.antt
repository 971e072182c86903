-- What a check of a run counts, block by block, is the summary of its blocks.
use Rattle.std.proofs.Common.{◌≡◌, ℕ, suc, ◌+◌, ◌-◌, ◌≤◌, ◌^◌, min, List, [], ◌∷◌, ◌++◌, length, refl, arith, sym, ◌∙◌, ap, Option, Some, None, length-append}
use Rattle.std.proofs.lemmas.List.{append-nil}
use Rattle.std.specs.List.{AllZip}
use Rattle.sst_base.specs.Entry.{Entry}
use Rattle.sst_block_core.specs.Entries.{entries}
use Rattle.sst_block_core.specs.Handles.{Handle, handles}
use Rattle.sstable_blocks.specs.Blocks.{joined}
use Rattle.sstable_blocks.specs.Lookup.{IsEnd}
use Rattle.sstable_blocks.specs.RunChecks.{first_after, passed_on, none_passed, end_or, summary_by, first_of, last_of, least_from, greatest_from, summary_of}
use Rattle.sstable_blocks.specs.SummaryLaws.{end_is_last, end_some, greatest_append, last_of-append, least_append, same_summary}
use Rattle.sstable_blocks.specs.declared.run.checking.Passed.{Passed}

-- what is known after a block more, by its entries
abbrev pub passed_block : Passed → Handle → List Entry → Passed
passed_block s h items = passed_on s h items (least_from s.least items, greatest_from s.greatest items)

-- and after all blocks
abbrev pub passed_all : Passed → List Handle → List (List Entry) → Passed
passed_all s [] blocks = s
passed_all s (h ∷ hs) [] = s
passed_all s (h ∷ hs) (b ∷ bs) = passed_all (passed_block s h b) hs bs

abbrev AllEnd : List (List Entry) → List Handle → Type 0
AllEnd blocks hs = AllZip (IsEnd entries handles) blocks hs

least_all : (s : Passed) (blocks : List (List Entry)) (hs : List Handle) → AllEnd blocks hs → (passed_all s hs blocks).least ≡ least_from s.least (joined blocks)
least_all s [] [] ends = refl
least_all s [] (h ∷ hs) ends = absurd ends
least_all s (b ∷ bs) [] ends = absurd ends
least_all s (b ∷ bs) (h ∷ hs) ends = least_all (passed_block s h b) bs hs ends.1 ∙ sym (least_append s.least b (joined bs))

greatest_all : (s : Passed) (blocks : List (List Entry)) (hs : List Handle) → AllEnd blocks hs → (passed_all s hs blocks).greatest ≡ greatest_from s.greatest (joined blocks)
greatest_all s [] [] ends = refl
greatest_all s [] (h ∷ hs) ends = absurd ends
greatest_all s (b ∷ bs) [] ends = absurd ends
greatest_all s (b ∷ bs) (h ∷ hs) ends = greatest_all (passed_block s h b) bs hs ends.1 ∙ sym (greatest_append s.greatest b (joined bs))

-- the number of entries
count_more : (n k l : ℕ) → min (min (n + k) (2 ^ 64 - 1) + l) (2 ^ 64 - 1) ≡ min (n + (k + l)) (2 ^ 64 - 1)
count_more n k l = omega arith

entries_all : (s : Passed) (blocks : List (List Entry)) (hs : List Handle) → s.entries ≤ 2 ^ 64 - 1 → AllEnd blocks hs → (passed_all s hs blocks).entries ≡ min (s.entries + length (joined blocks)) (2 ^ 64 - 1)
entries_all s [] [] small ends = omega arith
entries_all s [] (h ∷ hs) small ends = absurd ends
entries_all s (b ∷ bs) [] small ends = absurd ends
entries_all s (b ∷ bs) (h ∷ hs) small ends =
    entries_all (passed_block s h b) bs hs (omega arith) ends.1 ∙ count_more s.entries (length b) (length (joined bs))
    ∙ ap (λ n. min (s.entries + n) (2 ^ 64 - 1)) (sym (length-append b (joined bs)))

-- the first entry
first_kept : (s : Passed) (g : Handle) (blocks : List (List Entry)) (hs : List Handle) → s.last ≡ Some g → (passed_all s hs blocks).first ≡ s.first
first_kept s g blocks [] e = refl
first_kept s g [] (h ∷ hs) e = refl
first_kept s g (b ∷ bs) (h ∷ hs) e = first_kept (passed_block s h b) h bs hs refl ∙ ap (λ (o : Option Handle). first_after o s.first b) e

-- the last entry of a list, or the one before
abbrev last_from : List ℕ × ℕ → List Entry → List ℕ × ℕ
last_from place [] = place
last_from place (x ∷ xs) = last_of (x ∷ xs)

last_of_rest : (b rest : List Entry) (h : Handle) → IsEnd entries handles b h → last_from (h.end_key, h.seqno) rest ≡ last_of (b ++ rest)
last_of_rest b [] h i = sym (end_is_last b h i) ∙ ap last_of (sym (append-nil b))
last_of_rest b (y ∷ ys) h i = sym (last_of-append b (y ∷ ys) (omega arith))

is_last : (place : List ℕ × ℕ) (b rest : List Entry) → 1 ≤ length b → last_of (b ++ rest) ≡ last_from place (b ++ rest)
is_last place [] rest some = absurd (omega arith)
is_last place (x ∷ xs) rest some = refl

last_all : (s : Passed) (g : Handle) (blocks : List (List Entry)) (hs : List Handle) → s.last ≡ Some g → AllEnd blocks hs
    → end_or (passed_all s hs blocks).last (passed_all s hs blocks).first ≡ last_from (g.end_key, g.seqno) (joined blocks)
last_all s g [] [] e ends = ap (λ (o : Option Handle). end_or o s.first) e
last_all s g [] (h ∷ hs) e ends = absurd ends
last_all s g (b ∷ bs) [] e ends = absurd ends
last_all s g (b ∷ bs) (h ∷ hs) e ends = last_all (passed_block s h b) h bs hs refl ends.1 ∙ last_of_rest b (joined bs) h ends.0 ∙ is_last (g.end_key, g.seqno) b (joined bs) (end_some b h ends.0)

-- the first and the last entry, by the first block
first_of_block : (b rest : List Entry) (h : Handle) → IsEnd entries handles b h → first_after None ([], 0) b ≡ first_of (b ++ rest)
first_of_block [] rest h i = absurd (let some = end_some [] h i in omega arith)
first_of_block (x ∷ xs) rest h i = refl

as_many : (blocks : List (List Entry)) (hs : List Handle) → AllEnd blocks hs → length hs ≡ length blocks
as_many [] [] ends = refl
as_many [] (h ∷ hs) ends = absurd ends
as_many (b ∷ bs) [] ends = absurd ends
as_many (b ∷ bs) (h ∷ hs) ends = ap suc (as_many bs hs ends.1)

pub summary_all : (blocks : List (List Entry)) (hs : List Handle) → 1 ≤ length blocks → AllEnd blocks hs → summary_by (length hs) (passed_all none_passed hs blocks) ≡ summary_of blocks
summary_all [] hs some ends = absurd (omega arith)
summary_all (b ∷ bs) [] some ends = absurd ends
summary_all (b ∷ bs) (h ∷ hs) some ends =
    let s = passed_block none_passed h b in
    let first = first_kept s h bs hs refl ∙ first_of_block b (joined bs) h ends.0 in
    let last = last_all s h bs hs refl ends.1 ∙ last_of_rest b (joined bs) h ends.0 in
    same_summary (summary_by (length (h ∷ hs)) (passed_all none_passed (h ∷ hs) (b ∷ bs))) (summary_of (b ∷ bs))
    (as_many (b ∷ bs) (h ∷ hs) ends)
    (entries_all none_passed (b ∷ bs) (h ∷ hs) (omega arith) ends ∙ ap (λ n. min n (2 ^ 64 - 1)) (let e : 0 + length (b ++ joined bs) ≡ length (b ++ joined bs) = omega arith in e))
    (ap (λ (p : List ℕ × ℕ). p.0) first) (ap (λ (p : List ℕ × ℕ). p.1) first)
    (ap (λ (p : List ℕ × ℕ). p.0) last) (ap (λ (p : List ℕ × ℕ). p.1) last)
    (least_all none_passed (b ∷ bs) (h ∷ hs) ends)
    (greatest_all none_passed (b ∷ bs) (h ∷ hs) ends)
