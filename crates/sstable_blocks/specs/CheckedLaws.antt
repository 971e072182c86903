-- Reading frames of any bytes: which errors do not come, and what a filter says.
use Rattle.std.proofs.Common.{◌≡◌, ◌≢◌, ℕ, zero, suc, ◌<◌, ◌≤◌, List, arith, refl, sym, ap, subst, ◌∙◌, inl, inr, Bool, true, false, if◌then◌else◌, Option, Some, None, Result, Ok, Err, IfOk, IfErr, IfSome, IsTrue, ◌↔◌}
use Rattle.std.proofs.lemmas.Bool.{eqb-true, eq-eqb, and_parts, and_from, cases_lt}
use Rattle.sst_base.specs.FrameErrorLaws.{NotIo}
use Rattle.sst_base.specs.declared.error.Error.{Error}
use Rattle.sst_base.specs.declared.error.Error.TheVariants.{Io}
use Rattle.std.specs.Option.{option_map}
use Rattle.sst_base.specs.BlockHandle.{HandleParts}
use Rattle.sst_base.specs.declared.table.block.block_type.BlockType.TheVariants as types
use Rattle.sst_block_core.specs.Handles.{handles}
use Rattle.sstable_blocks.specs.Lookup.{handle_for}
use Rattle.sstable_blocks.specs.Opened.{range_of}
use Rattle.sstable_blocks.specs.RunReading.{Hashes, payload_at, filter_says, read_block, read_blocks, read_checked}
use Rattle.sstable_blocks.specs.declared.run.RunHandles.{RunHandles}
use Rattle.sstable_blocks.specs.SourceLaws.{source_fails}
use Rattle.sstable_blocks.specs.Sources.{GivesOr}
use Rattle.sst_base.specs.Entry.{Entry}
use Rattle.sst_block_core.specs.Checks.{all_below, index_check}
use Rattle.sst_block_core.specs.Handles.{Handle}
use Rattle.sstable_blocks.specs.Bits.{has_bit}
use Rattle.sstable_blocks.specs.Probes.{probe}
use Rattle.sst_base.specs.Header.{◌>>=◌}
use Rattle.sstable_blocks.specs.FilterLaws.{filter_not_io}
use Rattle.sstable_blocks.specs.Filter.{Filter, MayContain, may_contain, filter_at}
use Rattle.sstable_blocks.specs.RunReading.{filter_answer}

-- a test that holds of all numbers below n
pub all_below_to : (n : ℕ) (test : ℕ → Bool) → ((i : ℕ) → i < n → test i ≡ true) → all_below n test ≡ true
all_below_to zero test h = refl
all_below_to (suc n) test h = and_from (all_below n test) (test n) (all_below_to n test (λ i less. h i (omega arith))) (h n (omega arith))

pub all_below_from : (n : ℕ) (test : ℕ → Bool) → all_below n test ≡ true → (i : ℕ) → i < n → test i ≡ true
all_below_from zero test e i less = absurd (omega arith)
all_below_from (suc n) test e i less =
    let both = and_parts (all_below n test) (test n) e in
    elim (cases_lt i n) [
      | inl below ↦ all_below_from n test both.0 i below
      | inr more ↦ (let same : n ≡ i = omega arith in subst (λ k. test k ≡ true) same both.1)
    ]

-- the test of a filter is the bit of each probe
pub may_contain_to : (f : Filter) (hash : ℕ) → MayContain f hash → may_contain f hash ≡ true
may_contain_to f hash h = all_below_to f.k (λ i. has_bit f.bits (probe f.m hash i)) (λ i less. eq-eqb _ _ (h i less))

pub may_contain_from : (f : Filter) (hash : ℕ) → may_contain f hash ≡ true → MayContain f hash
may_contain_from f hash e = λ i less. eqb-true _ _ (all_below_from f.k (λ i. has_bit f.bits (probe f.m hash i)) e i less)

pub says_is : (f : Filter) (hash : ℕ) (b : Bool) → (IsTrue b ↔ MayContain f hash) → may_contain f hash ≡ b
says_is f hash true says = may_contain_to f hash (says.0 refl)
says_is f hash false says = elim (may_contain f hash) as (λ c. may_contain f hash ≡ c → c ≡ false) [
  | true ↦ (λ e. let wrong : IsTrue false = says.1 (may_contain_from f hash e) in cc)
  | false ↦ (λ e. refl)
] refl

-- a result of a filter, and its errors
pub asked : (p : List ℕ) (hash : ℕ) (r : Result Bool Error) → IfOk r (λ b. (f : Filter) × (filter_at p ≡ Ok f) × (IsTrue b ↔ MayContain f hash)) → IfErr r (λ e. filter_at p ≡ Err e) → r ≡ filter_answer p hash
asked p hash (Ok b) says err = sym (ap (λ q. q >>= (λ f. Ok (may_contain f hash))) says.1 ∙ ap (λ c. Ok c) (says_is says.0 hash b says.2))
asked p hash (Err e) says err = sym (ap (λ q. q >>= (λ f. Ok (may_contain f hash))) err)

pub asked_not_io : (p : List ℕ) (r : Result Bool Error) → IfErr r (λ e. filter_at p ≡ Err e) → IfErr r (λ e. e ≢ Io)
asked_not_io p (Ok b) err = tt
asked_not_io p (Err e) err = subst NotIo err (filter_not_io p)

-- a source that failed later failed, and what a reading after others meets they meet
pub gives_or_later : {X Y : Type 0} (P Q R T : Type 0) (view : X → Y) (r : Result X Error) (read : Result Y Error) → (P → Q) → (T → R) → GivesOr P R view r read → GivesOr Q T view r read
gives_or_later P Q R T view (Ok x) read f k h = h
gives_or_later P Q R T view (Err e) read f k h = λ other. elim (h other) [
  | inl failed ↦ inl (source_fails f k (λ bad. bad) failed)
  | inr same ↦ inr same
]

-- the read by an index whose block was read and checked is that of the block of its handle
pub by_index : (c : Hashes) (before after : Option (List ℕ)) (old mid new : ℕ) (R T : Type 0) (index : HandleParts) (p : List ℕ) (items : List Handle) (o : Option HandleParts) (needle : List ℕ) (seqno : ℕ) (r : Result (Option Entry) Error)
    → after ≡ before → old ≤ mid → (T → R) → IfSome before (λ all. payload_at c types.Index all index ≡ Ok p) → index_check p ≡ Ok items → o ≡ option_map range_of (handle_for handles needle seqno items)
    → IfSome after (λ all. (h : Option Handle) → o ≡ option_map range_of h → GivesOr (mid < new) R (λ x. x) r (read_block c all h needle seqno))
    → IfSome before (λ all. GivesOr (old < new) T (λ x. x) r (read_blocks c all index needle seqno))
by_index c None after old mid new R T index p items o needle seqno r same le kept at checked is read = tt
by_index c (Some all) after old mid new R T index p items o needle seqno r same le kept at checked is read =
    let here = subst (λ b. IfSome b (λ all. (h : Option Handle) → o ≡ option_map range_of h → GivesOr (mid < new) R (λ x. x) r (read_block c all h needle seqno))) same read in
    let given = gives_or_later (mid < new) (old < new) R T (λ x. x) r (read_block c all (handle_for handles needle seqno items) needle seqno) (λ less. omega arith) kept (here (handle_for handles needle seqno items) is) in
    let go : List Handle → Result (Option Entry) Error = λ (hs : List Handle). read_block c all (handle_for handles needle seqno hs) needle seqno in
    let whole : read_blocks c all index needle seqno ≡ go items = ap (λ q. q >>= (λ (x : List ℕ). index_check x >>= go)) at ∙ ap (λ q. q >>= go) checked in
    subst (GivesOr (old < new) T (λ x. x) r) (sym whole) given

-- the read by a filter that allows the needle is that by the index
pub by_filter : (c : Hashes) (before after : Option (List ℕ)) (old mid new : ℕ) (R T : Type 0) (h : RunHandles) (needle : List ℕ) (seqno : ℕ) (may : Bool) (r : Result (Option Entry) Error)
    → after ≡ before → old ≤ mid → (T → R) → may ≡ true → IfSome before (λ all. filter_says c all h.filter needle ≡ Ok may)
    → IfSome after (λ all. GivesOr (mid < new) R (λ x. x) r (read_blocks c all h.index needle seqno))
    → IfSome before (λ all. GivesOr (old < new) T (λ x. x) r (read_checked c all h needle seqno))
unfolding read_checked
by_filter c None after old mid new R T h needle seqno may r same le kept allows says read = tt
by_filter c (Some all) after old mid new R T h needle seqno may r same le kept allows says read =
    let here = subst (λ b. IfSome b (λ all. GivesOr (mid < new) R (λ x. x) r (read_blocks c all h.index needle seqno))) same read in
    let whole : read_checked c all h needle seqno ≡ read_blocks c all h.index needle seqno =
    ap (λ q. q >>= (λ (b : Bool). if b then read_blocks c all h.index needle seqno else Ok None)) (says ∙ ap (λ b. Ok b) allows) in
    subst (GivesOr (old < new) T (λ x. x) r) (sym whole) (gives_or_later (mid < new) (old < new) R T (λ x. x) r (read_blocks c all h.index needle seqno) (λ less. omega arith) kept here)
