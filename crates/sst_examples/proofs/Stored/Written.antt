-- Merges of tables, and the one table that a source is written as.
use Rattle.std.proofs.Common.{◌≡◌, ℕ, suc, ◌<◌, ◌≤◌, List, [], ◌∷◌, ◌++◌, length, map, take, drop, get_or, append-nil, arith, Option, Some, None, refl, sym, ap, subst, ◌∙◌}
use Rattle.std.proofs.Math.Seq.{take-suc}
use Rattle.std.proofs.lemmas.List.{drop_all, map-append, take_all}
use Rattle.std.specs.List.{AllZip}
use Rattle.std.specs.Option.{option_map, IfSome}
use Rattle.sstable_blocks.specs.Prelude.{Entry}
use Rattle.sstable_blocks.specs.BlockLaws.{some_is}
use Rattle.sst_sources.specs.Merge.{entry_cmp, merged}
use Rattle.sst_sources.specs.Sources.{Left, all_known}
use Rattle.sst_merge.specs.Tables.{IsTableOf as IsWrittenTable}
use Rattle.sst_merge.specs.declared.writing.Sizes.{Sizes}
use Rattle.sst_parts.specs.PartKinds.{parted_kind}
use Rattle.sst_parts.specs.PartWriting.{IsPartedLayout, top_handles}
use Rattle.sst_parts.specs.StoredParts.{any_list}
use Rattle.sst_parts.specs.declared.writer.PartSizes.{PartSizes}
use Rattle.sst_examples.specs.Tables.{IsWrittenAs, MemoryTable, merged_tables, table_entries, table_hashes}
use Rattle.sstable_blocks.specs.Blocks.{joined}
use Rattle.sstable_blocks.specs.Run.{Form, IsLayout}
use Rattle.sstable_blocks.specs.Footer.{footer}
use Rattle.sstable_blocks.specs.RunLaws.{joined_push}
use Rattle.sstable_blocks.specs.Sources.{SourceParts}
use Rattle.sstable_blocks.specs.TableKinds.{TableKind}
use Rattle.sstable_blocks.specs.Writing.{AppendsLayout}
use Rattle.sstable_blocks.specs.declared.run.RunHandles.{RunHandles}

-- the lists of sources that have a table's entries each
abbrev pub lists : List (Left Entry) → List (Option (List Entry))
lists heads = map (λ (s : Left Entry). s.list) heads

-- one source more, of the next table
pub lists_more : (heads new : List (Left Entry)) (head : Left Entry) (tables : List MemoryTable) (i j : ℕ) (t : MemoryTable) → lists heads ≡ map table_entries (take i tables) → new ≡ heads ++ head ∷ [] → i < length tables → t ≡ get_or tables i t → head.list ≡ table_entries t → j ≡ suc i
    → lists new ≡ map table_entries (take j tables)
lists_more heads new head tables i j t so_far grown inside is same next =
    ap lists grown
    ∙ map-append (λ (s : Left Entry). s.list) heads (head ∷ [])
    ∙ ap (λ os. os ++ head.list ∷ []) so_far
    ∙ ap (λ o. map table_entries (take i tables) ++ o ∷ []) (same ∙ ap table_entries is)
    ∙ sym (map-append table_entries (take i tables) (get_or tables i t ∷ []))
    ∙ ap (map table_entries) (sym (take-suc tables i t inside))
    ∙ ap (λ k. map table_entries (take k tables)) (sym next)

-- sources of all tables
pub lists_all : (heads : List (Left Entry)) (tables : List MemoryTable) (i : ℕ) → lists heads ≡ map table_entries (take i tables) → length tables ≤ i → option_map (merged entry_cmp) (all_known (lists heads)) ≡ merged_tables tables
lists_all heads tables i so_far end = ap (λ os. option_map (merged entry_cmp) (all_known os)) (so_far ∙ ap (map table_entries) (take_all i tables end))

-- lists that are known, of tables whose merge is known
pub record AreKnown (os : List (Option (List Entry))) (older : List Entry) : Type 0 where
  pub all : List (List Entry)
  pub known : all_known os ≡ Some all
  pub is : merged entry_cmp all ≡ older

known_by : (os : List (Option (List Entry))) (o : Option (List (List Entry))) (older : List Entry) → all_known os ≡ o → option_map (merged entry_cmp) o ≡ Some older → AreKnown os older
known_by os None older e h = absurd (cc)
known_by os (Some all) older e h = record { all = all; known = e; is = some_is (merged entry_cmp all) older h }

pub lists_known : (tables : List MemoryTable) (older : List Entry) → merged_tables tables ≡ Some older → AreKnown (map table_entries tables) older
lists_known tables older h = known_by (map table_entries tables) (all_known (map table_entries tables)) older refl h

all_taken : (items all : List Entry) (after : Option (List Entry)) → Some items ≡ option_map (λ rest. all ++ rest) after → IfSome after (λ xs. xs ≡ []) → all ≡ items
all_taken items all None taken none = absurd (cc)
all_taken items all (Some rest) taken none = sym (some_is items (all ++ rest) taken ∙ ap (λ xs. all ++ xs) none ∙ append-nil all)

-- a table after which nothing is left has all entries
pub all_written : (kind : TableKind) (sizes : Sizes) (start bytes : List ℕ) (h : RunHandles) (items : List Entry) (before after : Option (List Entry)) → IsWrittenTable kind sizes (Some start) (Some bytes) h before after → start ≡ [] → before ≡ Some items → IfSome after (λ xs. xs ≡ []) → IsWrittenAs kind items (Some (h, bytes))
all_written kind sizes start bytes h items before after t empty known none =
    (t.blocks, subst (λ xs. kind.appends t.blocks (Some xs) (Some bytes) h) empty t.layout, all_taken items (joined t.blocks) after (sym known ∙ t.taken) none)

-- the layout of a run that was written into an empty vector
pub run_written : (f : Form) (bytes : List ℕ) (h : RunHandles) (blocks : List (List Entry)) → AppendsLayout f blocks (Some []) (Some bytes) h → IsLayout f blocks bytes h
run_written f bytes h blocks t = subst (λ text. IsLayout f blocks text h) (sym t.2) t.1

-- the parts of a parted table that was written into an empty vector, with a footer after it
pub record IsFileOf (f : Form) (bytes : List ℕ) (h : RunHandles) (items : List Entry) : Type 0 where
  pub parts : List (List (List Entry))
  pub layout : IsPartedLayout f parts bytes h.index
  pub is : joined (joined parts) ≡ items

pub file_written : (f : Form) (sizes : PartSizes) (bytes whole : List ℕ) (h : RunHandles) (items : List Entry) → IsWrittenAs (parted_kind f sizes) items (Some (h, bytes)) → whole ≡ bytes ++ footer h → IsFileOf f whole h items
file_written f sizes bytes whole h items w with_footer =
    let t = w.1 in
    let parts : List (List (List Entry)) = t.closed ++ t.last ∷ [] in
    let top : t.top ≡ h.index = sym (ap (λ (r : RunHandles). r.index) t.handles_are) in
    let text : t.appended.0 ++ footer (top_handles t.top) ≡ whole = ap (λ xs. xs ++ footer (top_handles t.top)) (sym t.appended.2) ∙ ap (λ r. bytes ++ footer r) (sym t.handles_are) ∙ sym with_footer in
    record {
      parts = parts;
      layout = subst (IsPartedLayout f parts whole) top (subst (λ xs. IsPartedLayout f parts xs t.top) text t.appended.1);
      is = ap joined (joined_push t.closed t.last ∙ sym t.cut.whole) ∙ w.2;
    }

-- clones are the same
pub zip_same : {X : Type 0} (xs ys : List X) → AllZip (λ e copy. copy ≡ e) xs ys → ys ≡ xs
zip_same [] [] h = refl
zip_same [] (y ∷ ys) h = absurd h
zip_same (x ∷ xs) [] h = absurd h
zip_same (x ∷ xs) (y ∷ ys) h = ap (λ z. z ∷ ys) h.0 ∙ ap (λ zs. x ∷ zs) (zip_same xs ys h.1)

-- the entries of a table, as a reader knows them
abbrev raw : MemoryTable → Option (List Entry)
raw t = any_list table_hashes (λ (s : SourceParts (List ℕ)). Some s.inner) t

-- lists that are known are those that a reader knows
pub reader_lists : (tables lent : List MemoryTable) (all : List (List Entry)) → lent ≡ tables → all_known (map table_entries tables) ≡ Some all → all_known (map raw lent) ≡ Some all
unfolding table_entries
reader_lists tables lent all same known = ap (λ ts. all_known (map raw ts)) same ∙ known

same_entries : (new lent : List MemoryTable) → map raw new ≡ map raw lent → map table_entries new ≡ map table_entries lent
unfolding table_entries
same_entries new lent e = e

-- a read leaves the entries of all tables
pub tables_kept : (old lent new : List MemoryTable) (n : ℕ) → lent ≡ old → n ≡ length old → length new ≡ length lent → map raw new ≡ map raw lent → merged_tables (take n (new ++ drop (length new) old)) ≡ merged_tables old
tables_kept old lent new n same len kept entries =
    let m : length new ≡ length old = kept ∙ ap length same in
    let none : drop (length new) old ≡ [] = drop_all (length new) old (omega (arith, m)) in
    let whole : take n (new ++ drop (length new) old) ≡ new = ap (λ ts. take n (new ++ ts)) none ∙ ap (take n) (append-nil new) ∙ take_all n new (omega (arith, m, len)) in
    ap merged_tables whole ∙ ap (λ os. option_map (merged entry_cmp) (all_known os)) (same_entries new lent entries ∙ ap (map table_entries) same)
