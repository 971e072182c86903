-- What a copier holds after blocks and parts are added to it.
use Rattle.std.proofs.Common.{◌≡◌, ◌∷◌, [], ◌++◌, Bool, true, false, cond, List, Option, refl, sym, ap, subst, ◌∙◌, append_assoc, append-nil}
use Rattle.std.specs.List.{AllZip}
use Rattle.sstable_blocks.specs.Blocks.{joined}
use Rattle.sstable_blocks.specs.Prelude.{Entry, Handle, plain}
use Rattle.sstable_blocks.specs.RunLaws.{joined_push}
use Rattle.sstable_blocks.specs.RunReading.{Hashes}
use Rattle.sst_parts.specs.PartCopies.{IsPartFrom, PartsSoFar, WritesBlock, WritesPart, with_current}
use Rattle.sst_parts.specs.PartMerges.{AddsEntries, Holds, IsPartBytes, IsSameCopier, Merges, MergesTo, decoded, with_block}
use Rattle.sst_parts.specs.PartWriting.{is_full}
use Rattle.sst_parts.specs.declared.closed.PartOrigin.{PartOrigin}
use Rattle.sst_parts.specs.declared.closed.PartOrigin.TheVariants.{Made, Copied}
use Rattle.sst_parts.proofs.Merged.Lists.{decoded-append, merges_more, merges_on}
use Rattle.sst_parts.proofs.Reading.CopiedTables.{zip-append}
use Rattle.sst_parts.proofs.Writing.Joins.{joined-append}

-- a block more in the current part
held_push : (parts : List (List (List Entry))) (current : List (List Entry)) (block : List Entry) → decoded (joined (joined parts ++ (current ++ block ∷ []))) ≡ decoded (joined (joined parts ++ current)) ++ decoded block
held_push parts current block =
    ap (λ bs. decoded (joined bs)) (sym (append_assoc (joined parts) current (block ∷ [])))
    ∙ ap decoded (joined_push (joined parts ++ current) block)
    ∙ decoded-append (joined (joined parts ++ current)) block

module _ (c : Hashes) where
  -- blocks are those of the parts closed with the current one, where that has blocks
  record IsZipped (closed : List PartOrigin) (parts : List (List (List Entry))) (current : List (List Entry)) : Type 0 where
    all : List (List (List Entry))
    zip : AllZip (IsPartFrom c) all closed
    whole : joined all ≡ joined parts ++ current

  zip_made : (parts : List (List (List Entry))) (closed : List PartOrigin) (current : List (List Entry)) → AllZip (IsPartFrom c) parts closed → IsZipped (closed ++ Made current ∷ []) parts current
  zip_made parts closed current z = record {
    all = parts ++ current ∷ [];
    zip = zip-append (IsPartFrom c) parts (current ∷ []) closed (Made current ∷ []) z (refl, tt);
    whole = joined_push parts current;
  }

  zip_so_far : (parts : List (List (List Entry))) (closed : List PartOrigin) (current : List (List Entry)) → AllZip (IsPartFrom c) parts closed → IsZipped (with_current closed current) parts current
  zip_so_far parts closed [] z = record { all = parts; zip = z; whole = sym (append-nil (joined parts)) }
  zip_so_far parts closed (b ∷ bs) z = zip_made parts closed (b ∷ bs) z

module _ {W : Type 0} (c : Hashes) where
  pub adds_on : (a b d : PartsSoFar W) (xs ys : List Entry) → AddsEntries c a b xs → AddsEntries c b d ys → AddsEntries c a d (xs ++ ys)
  adds_on a b d xs ys p q = λ before held. subst (Holds c d) (append_assoc before xs ys) (q (before ++ xs) (p before held))

  -- a step that adds nothing
  pub adds_none : (a b d : PartsSoFar W) (xs : List Entry) → AddsEntries c a b xs → AddsEntries c b d [] → AddsEntries c a d xs
  adds_none a b d xs p q = subst (AddsEntries c a d) (append-nil xs) (adds_on a b d xs [] p q)

  pub adds_same : (a : PartsSoFar W) → AddsEntries c a a []
  adds_same a = λ before held. subst (Holds c a) (sym (append-nil before)) held

  -- a block is begun
  pub block_begun : (w : PartsSoFar W) → AddsEntries c w (with_block w []) []
  block_begun w = λ before held. (held.0, held.1, held_push held.0 w.current [] ∙ ap (λ xs. xs ++ []) held.2)

  -- an entry more is in it
  pub block_grown : (w : PartsSoFar W) (block : List Entry) (x : Entry) → AddsEntries c (with_block w block) (with_block w (block ++ x ∷ [])) (plain x ∷ [])
  block_grown w block x = λ before held.
      let front = decoded (joined (joined held.0 ++ w.current)) in (
        held.0,
        held.1,
        held_push held.0 w.current (block ++ x ∷ [])
            ∙ ap (λ xs. front ++ xs) (decoded-append block (x ∷ []))
            ∙ sym (append_assoc front (decoded block) (plain x ∷ []))
            ∙ ap (λ xs. xs ++ plain x ∷ []) (sym (held_push held.0 w.current block) ∙ held.2),
      )

  -- it is written
  pub block_written : (w new : PartsSoFar W) (block : List Entry) → AddsEntries c w new (decoded block) → AddsEntries c (with_block w block) new []
  block_written w new block added = λ before held.
      let front = decoded (joined (joined held.0 ++ w.current)) in
      let is : front ++ decoded block ≡ before = sym (held_push held.0 w.current block) ∙ held.2 in
      subst (Holds c new) (is ∙ sym (append-nil before)) (added front (held.0, held.1, refl))

  -- a block is written, to the current part or to a next one
  block_at : (full : Bool) (closed : List PartOrigin) (current : List (List Entry)) (new : PartsSoFar W) (block : List Entry) (parts : List (List (List Entry))) → AllZip (IsPartFrom c) parts closed
      → new.closed ≡ cond full (closed ++ Made current ∷ []) closed → new.current ≡ cond full [] current ++ block ∷ [] → Holds c new (decoded (joined (joined parts ++ current)) ++ decoded block)
  block_at true closed current new block parts z is at =
      let k = zip_made c parts closed current z in (
        k.all,
        subst (AllZip (IsPartFrom c) k.all) (sym is) k.zip,
        ap (λ bs. decoded (joined (joined k.all ++ bs))) at ∙ held_push k.all [] block
            ∙ ap (λ bs. decoded (joined bs) ++ decoded block) (append-nil (joined k.all) ∙ k.whole),
      )
  block_at false closed current new block parts z is at = (
    parts,
    subst (AllZip (IsPartFrom c) parts) (sym is) z,
    ap (λ bs. decoded (joined (joined parts ++ bs))) at ∙ held_push parts current block,
  )

  pub block_added : (old new : PartsSoFar W) (block : List Entry) → WritesBlock old new block → AddsEntries c old new (decoded block)
  block_added old new block w = λ before held.
      subst (λ (xs : List Entry). Holds c new (xs ++ decoded block)) held.2 (block_at (is_full old.sizes old.current) old.closed old.current new block held.0 held.1 w.closed w.current)

  -- a part is copied
  pub part_added : (old new : PartsSoFar W) (bytes : List _) (end : Handle) (blocks : List (List Entry)) → WritesPart old new bytes end → IsPartBytes c bytes blocks end → AddsEntries c old new (decoded (joined blocks))
  part_added old new bytes end blocks w is = λ before held.
      let k = zip_so_far c held.0 old.closed old.current held.1 in
      let all = k.all ++ blocks ∷ [] in
      let zip = zip-append (IsPartFrom c) k.all (blocks ∷ []) (with_current old.closed old.current) (Copied bytes end ∷ []) k.zip (is.stored, tt) in
      let whole : joined all ++ new.current ≡ (joined held.0 ++ old.current) ++ blocks = ap (λ bs. joined all ++ bs) w.current ∙ append-nil (joined all) ∙ joined_push k.all blocks ∙ ap (λ bs. bs ++ blocks) k.whole in (
        all,
        subst (AllZip (IsPartFrom c) all) (sym w.closed) zip,
        ap (λ bs. decoded (joined bs)) whole
            ∙ ap decoded (joined-append (joined held.0 ++ old.current) blocks)
            ∙ decoded-append (joined (joined held.0 ++ old.current)) (joined blocks)
            ∙ ap (λ xs. xs ++ decoded (joined blocks)) held.2,
      )

  -- nothing is taken yet
  pub merges_none : (w : PartsSoFar W) (newer : Option (List Entry)) (ys : List Entry) → Merges c w w newer newer ys ys
  merges_none w newer ys = λ xs is. record { written = []; left = xs; left_is = is; added = adds_same w; merged = λ after. refl }

  -- one step after the other
  pub merges_both : (a b d : PartsSoFar W) (n n' n'' : Option (List Entry)) (ys ys' ys'' : List Entry) → Merges c a b n n' ys ys' → Merges c b d n' n'' ys' ys'' → Merges c a d n n'' ys ys''
  merges_both a b d n n' n'' ys ys' ys'' p q = λ xs is.
      let one = p xs is in
      let two = q one.left one.left_is in
      record {
        written = one.written ++ two.written;
        left = two.left;
        left_is = two.left_is;
        added = adds_on a b d one.written two.written one.added two.added;
        merged = merges_on (decoded xs) (decoded ys) one.written (decoded one.left) (decoded ys') two.written (decoded two.left) (decoded ys'') one.merged two.merged;
      }

  -- steps that add nothing, before and after
  pub merges_begun : (a b d : PartsSoFar W) (n n' : Option (List Entry)) (ys ys' : List Entry) → AddsEntries c a b [] → Merges c b d n n' ys ys' → Merges c a d n n' ys ys'
  merges_begun a b d n n' ys ys' p q = λ xs is.
      let k = q xs is in
      record { written = k.written; left = k.left; left_is = k.left_is; added = adds_on a b d [] k.written p k.added; merged = k.merged }

  pub merges_ended : (a b d : PartsSoFar W) (n n' : Option (List Entry)) (ys ys' : List Entry) → Merges c a b n n' ys ys' → AddsEntries c b d [] → Merges c a d n n' ys ys'
  merges_ended a b d n n' ys ys' p q = λ xs is.
      let k = p xs is in
      record { written = k.written; left = k.left; left_is = k.left_is; added = adds_none a b d k.written k.added q; merged = k.merged }

  -- what comes after may be more of the second list
  pub merges_part : (a b : PartsSoFar W) (n n' : Option (List Entry)) (ys zs : List Entry) → Merges c a b n n' ys [] → Merges c a b n n' (ys ++ zs) zs
  merges_part a b n n' ys zs p = λ xs is.
      let k = p xs is in
      record {
        written = k.written;
        left = k.left;
        left_is = k.left_is;
        added = k.added;
        merged = subst (λ (vs : List Entry). MergesTo (decoded xs) vs k.written (decoded k.left) (decoded zs)) (sym (decoded-append ys zs)) (merges_more (decoded xs) (decoded ys) k.written (decoded k.left) (decoded zs) k.merged);
      }

pub same_on : {W : Type 0} (never_fails : W → Type 0) (a b d : PartsSoFar W) → IsSameCopier never_fails a b → IsSameCopier never_fails b d → IsSameCopier never_fails a d
same_on never_fails a b d p q = record {
  config = q.config ∙ p.config;
  sizes = q.sizes ∙ p.sizes;
  start = q.start ∙ p.start;
  reliable = λ n. q.reliable (p.reliable n);
}

pub same_self : {W : Type 0} (never_fails : W → Type 0) (a : PartsSoFar W) → IsSameCopier never_fails a a
same_self never_fails a = record { config = refl; sizes = refl; start = refl; reliable = λ n. n }
