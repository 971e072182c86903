-- What is kept of the blocks accepted, one block more.
use Rattle.std.proofs.Common.{◌≡◌, ◌≢◌, ℕ, suc, ◌+◌, ◌-◌, ◌<◌, ◌≤◌, ◌^◌, ◌⊎◌, List, [], ◌∷◌, ◌++◌, length, get_or, refl, arith, sym, ◌∙◌, ap, subst, append_assoc, length-append, inl, inr, Some, None, ◌↔◌}
use Rattle.std.proofs.lemmas.List.{append-nil, map-append}
use Rattle.std.specs.List.{AllByRecursion}
use Rattle.sst_base.specs.Entry.{Entry, IsEntry}
use Rattle.sst_block_core.specs.Entries.{entries}
use Rattle.sst_block_core.specs.Handles.{Handle}
use Rattle.sst_block_core.specs.Kind.{IsOrdered, item_cmp}
use Rattle.std.specs.declared.cmp.Ordering.{Ordering}
use Rattle.std.specs.declared.cmp.Ordering.TheVariants.{Less, Equal, Greater}
use Rattle.std.specs.Bool.{IsTrue}
use Rattle.std.specs.List.{slice_get}
use Rattle.std.specs.Ordering.{is_ge, nat_cmp, ordering_then}
use Rattle.std.specs.Cmp.Lexicographic.{slice_cmp}
use Rattle.sst_base.specs.Key.{Key}
use Rattle.sstable_blocks.specs.Blocks.{joined, IsNotEmpty}
use Rattle.sstable_blocks.specs.Run.{Form, block_payload, block_frame, block_frames, end_key_of, handle_of, handles_from, key_hashes, IsFramed}
use Rattle.sst_base.specs.FrameLaws.{length-frame}
use Rattle.sst_base.specs.declared.error.Error.{Error}
use Rattle.sst_base.specs.declared.error.Error.TheVariants.{TooLong}
use Rattle.sst_base.specs.declared.table.block.block_type.BlockType.TheVariants.{Data}
use Rattle.std.proofs.SliceLists.{all_by_recursion_push}
use Rattle.sst_block_core.specs.Encoders.{IsRefusal}
use Rattle.sstable_blocks.specs.EndLaws.{back_in_order}
use Rattle.sstable_blocks.specs.Writing.{Follows, IsKept, FollowsLast, FrameFits, IsFramedBlock, IsWriteRefusal}
use Rattle.sst_block_core.specs.ListLaws.{all_append}
use Rattle.sstable_blocks.specs.RunLaws.{joined_push}
use Rattle.sstable_blocks.specs.SummaryLaws.{end_of-append, end_of-push, end_parts}

-- the last entry's key is the end key
pub end_of-last : (b : List Entry) (x : Entry) → 1 ≤ length b → x ≡ get_or b (length b - 1) x → end_key_of b ≡ x.key
end_of-last [] x h e = absurd (omega arith)
end_of-last (y ∷ []) x h e = sym (ap (λ (z : Entry). z.key) e)
end_of-last (y ∷ z ∷ zs) x h e =
    let n : length (y ∷ z ∷ zs) - 1 ≡ suc (length (z ∷ zs) - 1) = omega arith in
    end_of-last (z ∷ zs) x (omega arith) (e ∙ ap (λ k. get_or (y ∷ z ∷ zs) k x) n)

-- a list after a list in order, whose first item does not sort before the last of that, is in order
pub ordered_append : (xs : List Entry) (y : Entry) (ys : List Entry) → IsOrdered entries xs → IsOrdered entries (y ∷ ys) → ((front : List Entry) (last : Entry) → xs ≡ front ++ last ∷ [] → item_cmp entries y last ≢ Less) → IsOrdered entries (xs ++ y ∷ ys)
ordered_append [] y ys o p h = p
ordered_append (x ∷ []) y ys o p h = (h [] x refl, p)
ordered_append (x ∷ z ∷ xs) y ys o p h = (o.0, ordered_append (z ∷ xs) y ys o.1 p (λ front last e. h (x ∷ front) last (ap (λ ws. x ∷ ws) e)))

-- and the other way round
pub behind_last : (xs : List Entry) (y : Entry) (ys : List Entry) → IsOrdered entries (xs ++ y ∷ ys) → (front : List Entry) (last : Entry) → xs ≡ front ++ last ∷ [] → item_cmp entries y last ≢ Less
behind_last xs y ys o front last e =
    let whole : xs ++ y ∷ ys ≡ front ++ (last ∷ y ∷ ys) = ap (λ zs. zs ++ y ∷ ys) e ∙ append_assoc front (last ∷ []) (y ∷ ys) in
    (back_in_order (item_cmp entries) front (last ∷ y ∷ ys) (subst (IsOrdered entries) whole o)).0

-- entries can be a next block exactly if there is a first one, they are in order, and the first is after the others
pub follows_from : (blocks : List (List Entry)) (items : List Entry) (first : Entry) → slice_get items 0 ≡ Some first → IsOrdered entries (joined blocks) → IsOrdered entries items → FollowsLast blocks first → Follows blocks items
follows_from blocks [] first s o p behind = cc
follows_from blocks (x ∷ xs) first s o p behind =
    let same : x ≡ first = cc in
    record {
      some = omega arith;
      ordered = subst (IsOrdered entries) (sym (joined_push blocks (x ∷ xs))) (ordered_append (joined blocks) x xs o p (subst (FollowsLast blocks) (sym same) behind));
    }

pub follows_ordered : (blocks : List (List Entry)) (items : List Entry) → Follows blocks items → IsOrdered entries items
follows_ordered blocks items follows = back_in_order (item_cmp entries) (joined blocks) items (subst (IsOrdered entries) (joined_push blocks items) follows.ordered)

pub follows_behind : (blocks : List (List Entry)) (items : List Entry) (first : Entry) → slice_get items 0 ≡ Some first → Follows blocks items → FollowsLast blocks first
follows_behind blocks [] first s follows = cc
follows_behind blocks (x ∷ xs) first s follows =
    let same : x ≡ first = cc in
    subst (FollowsLast blocks) same (behind_last (joined blocks) x xs (subst (IsOrdered entries) (joined_push blocks (x ∷ xs)) follows.ordered))

pub joined_some : (blocks : List (List Entry)) → 1 ≤ length blocks → AllByRecursion IsNotEmpty blocks → 1 ≤ length (joined blocks)
joined_some [] n h = n
joined_some (b ∷ bs) n h = (let k = h.0 in let l = length-append b (joined bs) in omega arith)

last_some : {X : Type 0} (x : X) (xs : List X) → slice_get (x ∷ xs) (length (x ∷ xs) - 1) ≡ None → ⊥
last_some x [] e = cc
last_some x (y ∷ ys) e =
    let n : length (x ∷ y ∷ ys) - 1 ≡ suc (length (y ∷ ys) - 1) = omega arith in
    last_some y ys (sym (ap (slice_get (x ∷ y ∷ ys)) n) ∙ e)

ge_is : (o : Ordering) → IsTrue (is_ge o) → o ≢ Less
ge_is Less h = cc
ge_is Equal h = λ e. cc
ge_is Greater h = λ e. cc

is_ge_of : (o : Ordering) → o ≢ Less → IsTrue (is_ge o)
is_ge_of Less h = absurd (h refl)
is_ge_of Equal h = refl
is_ge_of Greater h = refl

module _ (f : Form) where
  -- the last handle has the key and the sequence number of the last entry
  last_handle : (offset : ℕ) (blocks : List (List Entry)) (h : Handle) → AllByRecursion IsNotEmpty blocks → slice_get (handles_from f offset blocks) (length (handles_from f offset blocks) - 1) ≡ Some h
      → (h.end_key ≡ (end_key_of (joined blocks)).user_key) × (h.seqno ≡ (end_key_of (joined blocks)).seqno)
  last_handle offset [] h s e = cc
  last_handle offset (b ∷ []) h s e =
      let is : handle_of f offset b ≡ h = cc in
      let same : end_key_of b ≡ end_key_of (b ++ []) = ap end_key_of (sym (append-nil b)) in
      (ap (λ (x : Handle). x.end_key) (sym is) ∙ ap (λ (x : Key). x.user_key) same, ap (λ (x : Handle). x.seqno) (sym is) ∙ ap (λ (x : Key). x.seqno) same)
  last_handle offset (b ∷ c ∷ bs) h s e =
      let hs = handles_from f (offset + length (block_frame f b)) (c ∷ bs) in
      let n : length (handle_of f offset b ∷ hs) - 1 ≡ suc (length hs - 1) = omega arith in
      let r = last_handle (offset + length (block_frame f b)) (c ∷ bs) h s.1 (sym (ap (slice_get (handle_of f offset b ∷ hs)) n) ∙ e) in
      let same : end_key_of (b ++ joined (c ∷ bs)) ≡ end_key_of (joined (c ∷ bs)) = end_of-append b (joined (c ∷ bs)) (joined_some (c ∷ bs) (omega arith) s.1) in
      (r.0 ∙ ap (λ (x : Key). x.user_key) (sym same), r.1 ∙ ap (λ (x : Key). x.seqno) (sym same))

  -- without blocks there is no last entry
  pub no_last : (blocks : List (List Entry)) (item : Entry) → slice_get (handles_from f 0 blocks) (length (handles_from f 0 blocks) - 1) ≡ None → FollowsLast blocks item
  no_last [] item e [] last j = cc
  no_last [] item e (x ∷ front) last j = cc
  no_last (b ∷ bs) item e front last j = absurd (last_some (handle_of f 0 b) (handles_from f (0 + length (block_frame f b)) bs) e)

  handles_some : (blocks : List (List Entry)) (n : ℕ) (h : Handle) → slice_get (handles_from f 0 blocks) n ≡ Some h → 1 ≤ length blocks
  handles_some [] n h e = cc
  handles_some (b ∷ bs) n h e = omega arith

  -- an entry does not sort before the last one exactly if it does not sort before the last handle's end
  pub is_behind : (blocks : List (List Entry)) (item : Entry) (h : Handle) (o : Ordering) → AllByRecursion IsNotEmpty blocks → slice_get (handles_from f 0 blocks) (length (handles_from f 0 blocks) - 1) ≡ Some h
      → o ≡ ordering_then (slice_cmp nat_cmp item.key.user_key h.end_key) (nat_cmp h.seqno item.key.seqno) → IsTrue (is_ge o) ↔ FollowsLast blocks item
  is_behind blocks item h o s e is =
      let end = last_handle 0 blocks h s e in
      let at : (k : Key) → end_key_of (joined blocks) ≡ k → o ≡ ordering_then (slice_cmp nat_cmp item.key.user_key k.user_key) (nat_cmp k.seqno item.key.seqno) = λ k x.
      is ∙ ap (λ u. ordering_then (slice_cmp nat_cmp item.key.user_key u) (nat_cmp h.seqno item.key.seqno)) (end.0 ∙ ap (λ (y : Key). y.user_key) x)
      ∙ ap (λ n. ordering_then (slice_cmp nat_cmp item.key.user_key k.user_key) (nat_cmp n item.key.seqno)) (end.1 ∙ ap (λ (y : Key). y.seqno) x) in (
        (λ ge front last j. subst (λ c. c ≢ Less) (at last.key (ap end_key_of j ∙ end_of-push front last)) (ge_is o ge)),
        (λ behind. let p = end_parts (joined blocks) (joined_some blocks (handles_some blocks _ h e) s) in is_ge_of o (subst (λ c. c ≢ Less) (sym (at p.1.key p.3)) (behind p.0 p.1 p.2))),
      )

  pub block_frames-push : (blocks : List (List Entry)) (b : List Entry) → block_frames f (blocks ++ b ∷ []) ≡ block_frames f blocks ++ block_frame f b
  block_frames-push [] b = append-nil (block_frame f b)
  block_frames-push (c ∷ cs) b = ap (λ xs. block_frame f c ++ xs) (block_frames-push cs b) ∙ sym (append_assoc (block_frame f c) (block_frames f cs) (block_frame f b))

  handles_from-push : (offset : ℕ) (blocks : List (List Entry)) (b : List Entry) → handles_from f offset (blocks ++ b ∷ []) ≡ handles_from f offset blocks ++ handle_of f (offset + length (block_frames f blocks)) b ∷ []
  handles_from-push offset [] b = ap (λ n. handle_of f n b ∷ []) (let e : offset ≡ offset + 0 = omega arith in e)
  handles_from-push offset (c ∷ cs) b =
      let e : offset + length (block_frame f c) + length (block_frames f cs) ≡ offset + length (block_frames f (c ∷ cs)) = omega (arith, length-append (block_frame f c) (block_frames f cs)) in
      ap (λ hs. handle_of f offset c ∷ hs) (handles_from-push (offset + length (block_frame f c)) cs b ∙ ap (λ n. handles_from f (offset + length (block_frame f c)) cs ++ handle_of f n b ∷ []) e)

  pub kept_push : (blocks : List (List Entry)) (b : List Entry) (hs : List Handle) (hashes : List ℕ) (next : ℕ) (h : Handle) (end : ℕ) (hashed : List Entry) → IsKept f blocks hs hashes next
      → (1 ≤ f.config.bits_per_key → hashed ≡ b) → IsNotEmpty b → AllByRecursion IsEntry b → IsOrdered entries (joined (blocks ++ b ∷ [])) → IsFramed (block_payload f b) → h ≡ handle_of f next b → end ≡ next + length (block_frame f b) → end < 2 ^ 64
      → IsKept f (blocks ++ b ∷ []) (hs ++ h ∷ []) (hashes ++ key_hashes f.hash64 hashed) end
  kept_push blocks b hs hashes next h end hashed k all some valid ordered framed is at fits =
      let j = joined_push blocks b in
      let frames = ap length (block_frames-push blocks b) ∙ length-append (block_frames f blocks) (block_frame f b) in
      let start : next ≡ 0 + length (block_frames f blocks) = (let o = k.offset in omega arith) in
      record {
        interval = k.interval;
        index_interval = k.index_interval;
        all_some = all_by_recursion_push IsNotEmpty blocks b k.all_some some;
        valid = subst (AllByRecursion IsEntry) (sym j) (all_append IsEntry (joined blocks) b k.valid valid);
        ordered = ordered;
        framed = all_by_recursion_push (λ block. IsFramed (block_payload f block)) blocks b k.framed framed;
        handles = ap (λ xs. xs ++ h ∷ []) k.handles ∙ ap (λ x. handles_from f 0 blocks ++ x ∷ []) (is ∙ ap (λ n. handle_of f n b) start) ∙ sym (handles_from-push 0 blocks b);
        hashed = λ bits. ap (λ xs. hashes ++ key_hashes f.hash64 xs) (all bits) ∙ ap (λ xs. xs ++ key_hashes f.hash64 b) (k.hashed bits) ∙ sym (map-append _ (joined blocks) b) ∙ ap (key_hashes f.hash64) (sym j);
        offset = (let o = k.offset in omega arith);
        fits = fits;
      }

  pub length-block_frame : (b : List Entry) → length (block_frame f b) ≡ 33 + length (block_payload f b)
  length-block_frame b = length-frame f.hash128 Data (block_payload f b)

  pub data_refused : (at : ℕ) (b : List Entry) (e : Error) → IsRefusal None (2 ^ 32 ≤ length (block_payload f b)) e → IsWriteRefusal (FrameFits f at b → ⊥) e
  data_refused at b e (inl long) = inr (inl (long.0, λ (fits : FrameFits f at b). let h : length (block_payload f b) ≤ 4294967262 = fits.framed in let k = long.1 in absurd (omega arith)))
  data_refused at b e (inr memory) = inr (inr memory)

  pub frame_refused : (at : ℕ) (b : List Entry) (p : List ℕ) → p ≡ block_payload f b → (4294967262 < length p) ⊎ (2 ^ 64 ≤ at + (33 + length p)) → IsWriteRefusal (FrameFits f at b → ⊥) TooLong
  frame_refused at b p e (inl long) = inr (inl (refl, λ (fits : FrameFits f at b). let h : length (block_payload f b) ≤ 4294967262 = fits.framed in let k = ap length e in absurd (omega arith)))
  frame_refused at b p e (inr long) = inr (inl (refl, λ (fits : FrameFits f at b). let h = fits.end in let l = length-block_frame b in let k = ap length e in absurd (omega arith)))

  pub framed : (at : ℕ) (b : List Entry) (p : List ℕ) (size end : ℕ) → p ≡ block_payload f b → length p ≤ 4294967262 → size ≡ 33 + length p → end ≡ at + (33 + length p) → end < 2 ^ 64 → AllByRecursion IsEntry b → IsFramedBlock f at b p size end
  framed at b p size end e small s n fits valid =
      let k = ap length e in
      let l = length-block_frame b in
      record { payload = e; size = omega arith; end = omega arith; fits = record { framed = (let h : length (block_payload f b) ≤ 4294967262 = omega arith in h); end = omega arith }; valid = valid }

  pub handle_is : (at : ℕ) (b : List Entry) (offset size seqno : ℕ) (key : List ℕ) → offset ≡ at → size ≡ length (block_frame f b) → seqno ≡ (end_key_of b).seqno → key ≡ (end_key_of b).user_key → record { offset = offset; size = size; seqno = seqno; end_key = key } ≡ handle_of f at b
  handle_is at b offset size seqno key o s n k = λ i. record { offset = o i; size = s i; seqno = n i; end_key = k i }
