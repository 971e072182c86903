-- Laws of reads over several runs.
use Rattle.std.proofs.Common.{◌≡◌, ℕ, Bool, true, false, cond, List, [], ◌∷◌, map, filter, slice_get, Option, Some, None, refl, sym, ap, ◌∙◌}
use Rattle.std.specs.Option.{option_map}
use Rattle.std.specs.Ordering.{is_lt, is_eq, nat_cmp}
use Rattle.std.specs.Cmp.Lexicographic.{slice_cmp}
use Rattle.std.specs.List.{AllByRecursion}
use Rattle.sstable_blocks.specs.Prelude.{Entry, plain, entries, IsOrdered, first_match, is_version, is_tombstone}
use Rattle.sstable_blocks.specs.BlockLaws.{versions_cmp_total}
use Rattle.sst_sources.specs.Merge.{merge, merged, lesser, least_match, entry_cmp}
use Rattle.sst_sources.specs.MergeLaws.{merge-ordered}
use Rattle.sst_sources.specs.MergeReads.{merge-first_match}
use Rattle.sst_merge.specs.PlainLaws.{snapshot-shown}
use Rattle.sst_merge.specs.Snapshot.{seen, shown, snapshot}
use Rattle.sst_merge.specs.SnapshotReads.{unless_hidden, snapshot-first_match}

lesser_by : (a b : Entry) (t : Bool) → option_map plain (cond t (Some b) (Some a)) ≡ cond t (Some (plain b)) (Some (plain a))
lesser_by a b true = refl
lesser_by a b false = refl

-- the lesser of two, as decoded
lesser_plain : (a b : Option Entry) → option_map plain (lesser entry_cmp a b) ≡ lesser entry_cmp (option_map plain a) (option_map plain b)
lesser_plain None b = refl
lesser_plain (Some a) None = refl
lesser_plain (Some a) (Some b) = lesser_by a b (is_lt (entry_cmp b a))

-- the first match of a merge is the lesser of two first matches
pub merge_match : (needle : List ℕ) (s : ℕ) (xs ys : List Entry) → IsOrdered entries xs → IsOrdered entries ys → first_match entries needle s (merge entry_cmp xs ys) ≡ lesser entry_cmp (first_match entries needle s xs) (first_match entries needle s ys)
unfolding first_match
merge_match needle s xs ys a b =
    ap (option_map plain) (merge-first_match entry_cmp (versions_cmp_total entries.key entries.seqno) (is_version entries needle s) xs ys a b)
    ∙ lesser_plain (slice_get (filter (is_version entries needle s) xs) 0) (slice_get (filter (is_version entries needle s) ys) 0)

-- a merge of ordered lists is ordered
pub merge_order : (xs ys : List Entry) → IsOrdered entries xs → IsOrdered entries ys → IsOrdered entries (merge entry_cmp xs ys)
merge_order xs ys a b = merge-ordered entry_cmp (versions_cmp_total entries.key entries.seqno) xs ys a b

no_match : (needle : List ℕ) (s : ℕ) → ◌≡◌ {A = Option Entry} (first_match entries needle s []) None
unfolding first_match
no_match needle s = refl

-- a merge of ordered lists is ordered
pub merged_order : (xss : List (List Entry)) → AllByRecursion (IsOrdered entries) xss → IsOrdered entries (merged entry_cmp xss)
merged_order [] all = tt
merged_order (xs ∷ xss) all = merge_order xs (merged entry_cmp xss) all.0 (merged_order xss all.1)

-- its first match is the least of theirs
pub merged_match : (needle : List ℕ) (s : ℕ) (xss : List (List Entry)) → AllByRecursion (IsOrdered entries) xss
    → first_match entries needle s (merged entry_cmp xss) ≡ least_match entry_cmp (map (first_match entries needle s) xss)
merged_match needle s [] all = no_match needle s
merged_match needle s (xs ∷ xss) all =
    merge_match needle s xs (merged entry_cmp xss) all.0 (merged_order xss all.1)
    ∙ ap (lesser entry_cmp (first_match entries needle s xs)) (merged_match needle s xss all.1)

hidden_is : (k : List ℕ) (r : ℕ) (o : Option Entry) → unless_hidden (λ (e : Entry). e) k r o ≡ seen o
hidden_is k r None = refl
hidden_is k r (Some e) = refl

seen_by : (e : Entry) (t : Bool) → cond t None (Some (plain e)) ≡ option_map plain (cond t None (Some e))
seen_by e true = refl
seen_by e false = refl

seen_plain : (o : Option Entry) → seen (option_map plain o) ≡ option_map plain (seen o)
seen_plain None = refl
seen_plain (Some e) = seen_by e (is_tombstone e.key.value_type)

-- a snapshot has of a key what a read of the list sees
pub snapshot_match : (needle : List ℕ) (s : ℕ) (items : List Entry) → IsOrdered entries items
    → option_map plain (slice_get (filter (λ (e : Entry). is_eq (slice_cmp nat_cmp e.key.user_key needle)) (snapshot (λ (e : Entry). e) s items)) 0) ≡ seen (first_match entries needle s items)
unfolding first_match
snapshot_match needle s items up =
    let b = slice_get (filter (is_version entries needle s) items) 0 in
    ap (option_map plain) (snapshot-first_match (λ (e : Entry). e) needle s items up ∙ hidden_is needle s b) ∙ sym (seen_plain b)

-- a snapshot of an ordered list has the versions that pass a test
pub snapshot_plain : (s : ℕ) (items : List Entry) → IsOrdered entries items → snapshot (λ (e : Entry). e) s items ≡ shown (λ (e : Entry). e) s items
snapshot_plain s items up = snapshot-shown (λ (e : Entry). e) s items up
