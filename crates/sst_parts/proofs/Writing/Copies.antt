-- A parted table of blocks alone, as one that may have copies.
use Rattle.std.proofs.Common.{◌≡◌, ℕ, ◌+◌, ◌≤◌, Bool, true, false, cond, List, [], ◌∷◌, ◌++◌, length, refl, arith, sym, ◌∙◌, ap, subst, Option}
use Rattle.std.specs.List.{AllByRecursion}
use Rattle.std.proofs.lemmas.List.{append-nil, length_push, map-append}
use Rattle.sst_parts.specs.PartCopies.{ClosedView, Closes, IsBetween, end_entry, known_blocks, known_so_far, parts_so_far}
use Rattle.sstable_blocks.specs.RunLaws.{joined_push}
use Rattle.sstable_blocks.specs.Writing.{Follows}
use Rattle.sstable_blocks.specs.Run.{IsWritable}
use Rattle.sst_parts.specs.PartCopies.{AppendsOpenCopies, AreClosedFiles, AreCutBlocks, BlockFits, ClosedEnds, ClosedTopFits, ClosesCurrent, CurrentFits, IsMade, PartsSoFar, WritesBlock, closed_before, known_parts, with_current}
use Rattle.sst_parts.specs.PartWriting.{AddsTo, AppendsOpen, AreCut, ArePartFiles, EndFits, NextFits, PartEnds, PartWriting, TopFits, is_full}
use Rattle.sst_parts.specs.declared.closed.PartOrigin.{PartOrigin}
use Rattle.sst_parts.specs.declared.closed.PartOrigin.TheVariants.{Made, Copied}
use Rattle.sst_parts.specs.declared.writer.PartSizes.{PartSizes}
use Rattle.sst_parts.proofs.Writing.Blocks.{cut_next, known_next, known_push, ordered_push}
use Rattle.sstable_blocks.specs.Prelude.{HandleParts, Entry, entries, Handle, IsOrdered}
use Rattle.sstable_blocks.specs.Blocks.{joined}
use Rattle.sstable_blocks.specs.EndLaws.{all_push}
use Rattle.sstable_blocks.specs.Run.{Form}

-- the parts that are closed with a current one that has blocks
pub with_some : (closed : List PartOrigin) (blocks : List (List Entry)) → 1 ≤ length blocks → with_current closed blocks ≡ closed ++ Made blocks ∷ []
with_some closed [] some = absurd (omega arith)
with_some closed (b ∷ bs) some = refl

pub with_some_parts : (closed : List PartOrigin) (blocks : List (List Entry)) → 1 ≤ length blocks → 1 ≤ length (with_current closed blocks)
with_some_parts closed blocks some = let l = ap length (with_some closed blocks some) in let n = length_push closed (Made blocks) in omega (arith, l, n)

module _ (f : Form) where
  -- parts that were made of blocks are their table files
  made_files : (offset : ℕ) (closed : List PartOrigin) (texts : List (List ℕ)) (hs : List Handle) → AllByRecursion IsMade closed → AreClosedFiles f offset closed texts hs → ArePartFiles f offset (known_parts closed) texts hs
  made_files offset [] [] [] m t = tt
  made_files offset [] [] (x ∷ hs) m t = absurd t
  made_files offset [] (x ∷ xs) hs m t = absurd t
  made_files offset (Made b ∷ bs) [] hs m t = absurd t
  made_files offset (Made b ∷ bs) (x ∷ xs) [] m t = absurd t
  made_files offset (Made b ∷ bs) (x ∷ xs) (y ∷ hs) m t = (t.0, t.1, made_files (offset + length x) bs xs hs m.1 t.2)
  made_files offset (Copied bytes end ∷ bs) texts hs m t = absurd m.0

  pub made_ends : (closed : List PartOrigin) (part : List (List Entry)) → AllByRecursion IsMade closed → PartEnds f (known_parts closed) part → ClosedEnds f closed part
  made_ends closed part m ends = λ texts tops t. ends texts tops (made_files 0 closed texts tops m t)

  pub made_top : (closed : List PartOrigin) → AllByRecursion IsMade closed → TopFits f (known_parts closed) → ClosedTopFits f closed
  made_top closed m fits = λ texts tops t. fits texts tops (made_files 0 closed texts tops m t)

  pub made_open : (closed : List PartOrigin) (old new : Option (List ℕ)) (top : HandleParts) → AllByRecursion IsMade closed → IsOrdered entries (joined (joined (known_parts closed))) → AppendsOpenCopies f closed old new top → AppendsOpen f (known_parts closed) old new top
  made_open closed old new top m ordered (bytes, l, grown) = (
    bytes,
    record { texts = l.texts; tops = l.tops; files = made_files 0 closed l.texts l.tops m l.files; ordered = ordered; index = l.index; fits = l.fits; offset = l.offset; size = l.size; text = l.text },
    grown,
  )

known_with : (closed : List PartOrigin) (blocks : List (List Entry)) → joined (known_parts (with_current closed blocks)) ≡ joined (known_parts closed) ++ blocks
known_with closed [] = sym (append-nil (joined (known_parts closed)))
known_with closed (b ∷ bs) = ap joined (known_push closed (b ∷ bs)) ∙ joined_push (known_parts closed) (b ∷ bs)

pub made_push : (closed : List PartOrigin) (blocks : List (List Entry)) → AllByRecursion IsMade closed → AllByRecursion IsMade (closed ++ Made blocks ∷ [])
made_push closed blocks m = all_push IsMade closed (Made blocks) m tt

made_before : (full : Bool) (closed : List PartOrigin) (blocks : List (List Entry)) → AllByRecursion IsMade closed → AllByRecursion IsMade (cond full (closed ++ Made blocks ∷ []) closed)
made_before true closed blocks m = made_push closed blocks m
made_before false closed blocks m = m

pub cut_more : {W : Type 0} (old new : PartsSoFar W) (block : List Entry) → AreCutBlocks old.sizes old.closed old.current → WritesBlock old new block → AreCutBlocks new.sizes new.closed new.current
cut_more old new block k w =
    let full = is_full old.sizes old.current in
    let made = made_before full old.closed old.current k.made in
    let cut = cut_next old.sizes full (known_parts old.closed) old.current block k.cut refl in
    let closed : AreCutBlocks old.sizes (closed_before old.sizes old.closed old.current) (cond full [] old.current ++ block ∷ []) = record { made = made; cut = subst (λ (ps : List (List (List Entry))). AreCut old.sizes ps (cond full [] old.current ++ block ∷ [])) (sym (known_next full old.closed old.current)) cut } in
    subst (λ (z : PartSizes). AreCutBlocks z new.closed new.current) (sym w.sizes)
    (subst (λ (bs : List (List Entry)). AreCutBlocks old.sizes new.closed bs) (sym w.current)
    (subst (λ (ps : List PartOrigin). AreCutBlocks old.sizes ps (cond full [] old.current ++ block ∷ [])) (sym w.closed) closed))

-- what contracts see of a writer of blocks alone, by what they see of one that may copy
abbrev pub writing_of : {W : Type 0} → PartsSoFar W → PartWriting W
writing_of w = record { config = w.config; sizes = w.sizes; parts = known_parts w.closed; current = w.current; start = w.start; writer = w.writer }

pub adds_to : {W : Type 0} (old new : PartsSoFar W) (block : List Entry) → WritesBlock old new block → AddsTo (writing_of old) (writing_of new) block
adds_to old new block w = record {
  config = w.config;
  sizes = w.sizes;
  start = w.start;
  parts = ap known_parts w.closed ∙ known_next (is_full old.sizes old.current) old.closed old.current;
  current = w.current;
}

module _ {W : Type 0} (f : Form) (w : PartsSoFar W) (m : AllByRecursion IsMade w.closed) where
  pub block_fits : (block : List Entry) → NextFits f (writing_of w) block → BlockFits f w block
  block_fits block n = record { closes = λ full. made_ends f w.closed w.current m (n.closes full); frame_fits = n.frame_fits }

  pub current_fits : EndFits f (writing_of w) → CurrentFits f w
  current_fits e = λ some. made_ends f w.closed w.current m e.last

  module _ (some : 1 ≤ length w.current) where
    all_parts : parts_so_far w ≡ w.closed ++ Made w.current ∷ []
    all_parts = with_some w.closed w.current some

    all_known : known_parts (parts_so_far w) ≡ known_parts w.closed ++ w.current ∷ []
    all_known = ap known_parts all_parts ∙ known_push w.closed w.current

    all_made : AllByRecursion IsMade (parts_so_far w)
    all_made = subst (AllByRecursion IsMade) (sym all_parts) (made_push w.closed w.current m)

    pub top_fits : EndFits f (writing_of w) → ClosedTopFits f (parts_so_far w)
    top_fits e = made_top f (parts_so_far w) all_made (subst (TopFits f) (sym all_known) e.top)

    pub all_open : (old new : Option (List ℕ)) (top : HandleParts) → IsOrdered entries (joined (joined (known_parts (parts_so_far w)))) → AppendsOpenCopies f (parts_so_far w) old new top → AppendsOpen f (known_parts w.closed ++ w.current ∷ []) old new top
    all_open old new top ordered a = subst (λ (ps : List (List (List Entry))). AppendsOpen f ps old new top) all_known (made_open f (parts_so_far w) old new top all_made ordered a)

-- the current part is closed
pub closes_core : {W : Type 0} (old new : ClosedView) (w : PartsSoFar W) (now : Option (List ℕ)) → w.config ≡ old.config → w.start ≡ old.start → w.closed ≡ old.parts → 1 ≤ length w.current → IsWritable old.config
    → IsOrdered entries (joined (joined (known_parts old.parts) ++ w.current)) → Closes old (Made w.current) new now → ClosesCurrent w new now
closes_core old new w now config start closed some writable ordered k =
    let parts : new.parts ≡ parts_so_far w = k.parts ∙ ap (λ (ps : List PartOrigin). ps ++ Made w.current ∷ []) (sym closed) ∙ sym (with_some w.closed w.current some) in
    let known : known_parts new.parts ≡ known_parts old.parts ++ w.current ∷ [] = ap known_parts k.parts ∙ known_push old.parts w.current in
    record {
      config = k.config ∙ sym config;
      start = k.start ∙ sym start;
      parts = parts;
      between = record {
        writable = subst IsWritable (sym k.config) writable;
        after = k.after;
        ordered = subst (λ (ps : List (List (List Entry))). IsOrdered entries (joined (joined ps))) (sym known) (ordered_push (known_parts old.parts) w.current ordered);
      };
    }

-- a copy is closed after the current part
pub copied_between : (old new : ClosedView) (bytes : List ℕ) (end : Handle) (now : Option (List ℕ)) → IsWritable old.config → Follows (joined (known_parts old.parts)) (end_entry end ∷ []) → Closes old (Copied bytes end) new now → IsBetween new now
copied_between old new bytes end now writable follows k =
    let known : known_parts new.parts ≡ known_parts old.parts ++ ((end_entry end ∷ []) ∷ []) ∷ [] = ap known_parts k.parts ∙ map-append known_blocks old.parts (Copied bytes end ∷ []) in
    record {
      writable = subst IsWritable (sym k.config) writable;
      after = k.after;
      ordered = subst (λ (ps : List (List (List Entry))). IsOrdered entries (joined (joined ps))) (sym known) (ordered_push (known_parts old.parts) ((end_entry end ∷ []) ∷ []) follows.ordered);
    }

-- what is known of all parts is known of those closed, once the current one is
pub known_all : {W : Type 0} (w : PartsSoFar W) → joined (known_parts (parts_so_far w)) ≡ known_so_far w
known_all w = known_with w.closed w.current
