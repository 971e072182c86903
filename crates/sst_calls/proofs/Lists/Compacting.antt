-- Compactions of runs: the entries of windows as sources, what stays of their merge, and the run that is written of it.
use Rattle.std.proofs.Common.{◌≡◌, ◌∙◌, ℕ, zero, suc, ◌-◌, ◌^◌, ◌≤◌, ◌<◌, Bool, List, [], ◌∷◌, ◌++◌, length, map, take, get_or, refl, sym, ap, subst, arith, inl, inr, Option, Some, None, Result, Ok, Err, append-nil}
use Rattle.std.proofs.Math.Seq.{take-suc}
use Rattle.std.proofs.lemmas.List.{map-append, take_all}
use Rattle.std.specs.List.{AllByRecursion, AllZip}
use Rattle.std.specs.Option.{option_map}
use Rattle.std.specs.Prelude.{IfErr, IfOk, IfSome, IsOkUnless}
use Rattle.sstable_blocks.specs.BlockLaws.{some_is}
use Rattle.sstable_blocks.specs.Blocks.{joined}
use Rattle.sstable_blocks.specs.BoundLaws.{joined_plain}
use Rattle.sstable_blocks.specs.Opened.{Opened}
use Rattle.sstable_blocks.specs.Prelude.{Entry, KeyRange, plain, within}
use Rattle.sstable_blocks.specs.Results.{Error, TooLong, Memory}
use Rattle.sstable_blocks.specs.Run.{Form, IsLayout, IsWritable}
use Rattle.sstable_blocks.specs.RunReading.{Hashes}
use Rattle.sstable_blocks.specs.Sound.{IsSound}
use Rattle.sstable_blocks.specs.TableKinds.{run_kind}
use Rattle.sstable_blocks.specs.Writing.{AppendsLayout}
use Rattle.sstable_blocks.specs.declared.run.RunConfig.{RunConfig}
use Rattle.sstable_blocks.specs.declared.run.RunHandles.{RunHandles}
use Rattle.sst_merge.specs.MappedLaws.{entries_themselves}
use Rattle.sst_sources.specs.Sources.{Left, IsAmong, MayGive, MayMeet, MeetsNoMore, all_left, before, left_as, all_known, errors_of, step_errors}
use Rattle.sst_merge.specs.Tables.{IsFilled, IsTableOf, IsTooLong, MayNotWrite, entries_in}
use Rattle.sst_merge.specs.declared.writing.Sizes.{Sizes}
use Rattle.sst_calls.specs.Compactions.{IsCompact, IsCutBy, IsCutRun, IsTooMuch, entries_within, left_of, run_entries}
use Rattle.sst_calls.specs.Given.{IsWrittenOut}
use Rattle.sst_calls.specs.Hashing.{IsHashed, hashes_of}
use Rattle.sst_calls.specs.Ranges.{IsWindowOf}
use Rattle.sst_calls.specs.Runs.{AreTold, ForRuns, ForSomeRun, IsGivenRun, IsSomeRun, handles_given, run_form}
use Rattle.sst_calls.specs.Windows.{IsWindow, blocks_in, left_in, stored}
use Rattle.sst_calls.specs.declared.codes.Status.{Status}
use Rattle.sst_calls.specs.declared.codes.Status.TheVariants.{Done, Failed, NotFound, BadArgument, NoRoom}
use Rattle.sst_calls.specs.declared.hash.Hash.{Hash}
use Rattle.sst_calls.specs.declared.run.SstRun.{SstRun}
use Rattle.sst_calls.specs.declared.run.SstRunHandles.{SstRunHandles}
use Rattle.sst_calls.specs.declared.window.SstWindow.{SstWindow}
use Rattle.sst_calls.proofs.Lists.Passing.{Moves}
use Rattle.sst_calls.proofs.Lists.RunBlockLists.{blocks_stored}

-- sound runs open
abbrev pub Opens : Type 0
Opens = (c : Hashes) (blocks : List (List Entry)) (bytes : List ℕ) (h : RunHandles) → IsSound c blocks bytes h → Opened c.hash64 blocks bytes h

-- the entries of a run with keys in a range, by a window of them
pub entries_by_window : (run : SstRun) (range : KeyRange) (w : SstWindow) (h : RunHandles) → h ≡ handles_given run.handles → IsSomeRun run.bytes.now h → Opens → ForSomeRun run.bytes.now h (λ blocks. IsWindowOf blocks range w)
    → Moves (blocks_in run.bytes.now h) w (run_entries range run)
entries_by_window run range w h given sound opens windows =
    let bytes = run.bytes.now in
    let blocks = sound.1.0 in
    let of = windows sound.0 blocks sound.1.1 in
    let same : blocks_in bytes h ≡ stored blocks = blocks_stored sound.0.hash64 blocks bytes h (opens sound.0 blocks bytes h sound.1.1) in
    let all : joined (blocks_in bytes h) ≡ map plain (joined blocks) = ap (λ (v : List (List Entry)). joined v) same ∙ joined_plain blocks in
    record {
      window = subst (λ (v : List (List Entry)). IsWindow v w) (sym same) of.window;
      is = ap (λ (v : List (List Entry)). left_in v w) same ∙ of.left ∙ ap (λ (v : List Entry). within range v) (sym all) ∙ ap (λ g. within range (joined (blocks_in bytes g))) given;
    }

-- the entries of runs with keys in a range, by their blocks
pub all_within : (range : KeyRange) (runs : List SstRun) (all : List (List (List Entry))) → AllZip IsGivenRun runs all → Opens → map (run_entries range) runs ≡ map (entries_within range) all
all_within range [] [] zip opens = refl
all_within range [] (b ∷ all) zip opens = absurd zip
all_within range (r ∷ runs) [] zip opens = absurd zip
all_within range (r ∷ runs) (b ∷ all) zip opens =
    let bytes = r.bytes.now in
    let h = handles_given r.handles in
    let given = zip.0 in
    let same : blocks_in bytes h ≡ stored b = blocks_stored given.0.hash64 b bytes h (opens given.0 b bytes h given.1) in
    let here : run_entries range r ≡ entries_within range b = ap (λ (v : List Entry). within range v) (ap (λ (v : List (List Entry)). joined v) same ∙ joined_plain b) in
    ap (λ (v : List Entry). v ∷ map (run_entries range) runs) here ∙ ap (λ (v : List (List Entry)). entries_within range b ∷ v) (all_within range runs all zip.1 opens)

-- the lists of sources
abbrev pub lists : List (Left Entry) → List (Option (List Entry))
lists heads = map (λ (s : Left Entry). s.list) heads

-- a source gives no error
abbrev pub IsSafe : Left Entry → Type 0
IsSafe s = step_errors s ≡ Some []

-- sources have the entries of the runs before an index
abbrev pub AreHeads : KeyRange → List SstRun → ℕ → List (Left Entry) → Type 0
AreHeads range runs i heads = lists heads ≡ map (λ (r : SstRun). Some (run_entries range r)) (take i runs)

-- one source more, of the next run
pub heads_more : (range : KeyRange) (runs : List SstRun) (i j : ℕ) (d : SstRun) (heads new : List (Left Entry)) (head : Left Entry) → AreHeads range runs i heads → new ≡ heads ++ head ∷ [] → i < length runs
    → head.list ≡ Some (run_entries range (get_or runs i d)) → j ≡ suc i → AreHeads range runs j new
heads_more range runs i j d heads new head so_far grown inside same next =
    let f = λ (r : SstRun). Some (run_entries range r) in
    ap lists grown
    ∙ map-append (λ (s : Left Entry). s.list) heads (head ∷ [])
    ∙ ap (λ os. os ++ head.list ∷ []) so_far
    ∙ ap (λ o. map f (take i runs) ++ o ∷ []) same
    ∙ sym (map-append f (take i runs) (get_or runs i d ∷ []))
    ∙ ap (map f) (sym (take-suc runs i d inside))
    ∙ ap (λ k. map f (take k runs)) (sym next)

-- what holds of all holds of the one at an index
pub all_or : {X : Type 0} (P : X → Type 0) (xs : List X) (i : ℕ) (d : X) → AllByRecursion P xs → i < length xs → P (get_or xs i d)
all_or P [] i d all inside = absurd (omega (arith, inside))
all_or P (x ∷ xs) zero d all inside = all.0
all_or P (x ∷ xs) (suc i) d all inside = all_or P xs i d all.1 (omega (arith, inside))

all_of : {A X : Type 0} (f : X → A) (xs : List X) → all_known (map (λ x. Some (f x)) xs) ≡ Some (map f xs)
all_of f [] = refl
all_of f (x ∷ xs) = ap (option_map (λ rest. f x ∷ rest)) (all_of f xs)

-- sources of all runs
pub heads_all : (range : KeyRange) (runs : List SstRun) (i : ℕ) (heads : List (Left Entry)) → AreHeads range runs i heads → length runs ≤ i → all_known (lists heads) ≡ Some (map (run_entries range) runs)
heads_all range runs i heads so_far end =
    let f = λ (r : SstRun). Some (run_entries range r) in
    ap all_known (so_far ∙ ap (map f) (take_all i runs end)) ∙ all_of (run_entries range) runs

-- no error may be met where none is among known ones
pub none_met : (o : Option (List Error)) → ((e : Error) → IfSome o (IsAmong e) → ⊥) → o ≡ Some []
none_met None h = absurd (h Memory tt)
none_met (Some []) h = refl
none_met (Some (x ∷ xs)) h = absurd (h x (inl refl))

pub safe_push : (heads : List (Left Entry)) (head : Left Entry) → AllByRecursion IsSafe heads → IsSafe head → AllByRecursion IsSafe (heads ++ head ∷ [])
safe_push [] head all one = (one, tt)
safe_push (s ∷ heads) head all one = (all.0, safe_push heads head all.1 one)

abbrev none_of : Left Entry → List Error
none_of s = []

none_known : (heads : List (Left Entry)) → AllByRecursion IsSafe heads → all_known (map (λ (s : Left Entry). step_errors s) heads) ≡ Some (map none_of heads)
none_known [] all = refl
none_known (s ∷ heads) all =
    ap (λ o. all_known (o ∷ map (λ (t : Left Entry). step_errors t) heads)) all.0 ∙ ap (option_map (λ rest. [] ∷ rest)) (none_known heads all.1)

none_joined : (heads : List (Left Entry)) → joined (map none_of heads) ≡ []
none_joined [] = refl
none_joined (s ∷ heads) = none_joined heads

-- sources that give no error give none together
pub safe_together : (heads : List (Left Entry)) → AllByRecursion IsSafe heads → errors_of (map (λ (s : Left Entry). step_errors s) heads) ≡ Some []
safe_together heads all = ap (option_map joined) (none_known heads all) ∙ ap Some (none_joined heads)

-- nor does a compaction of them
pub kept_safe : (f : List (List Entry) → List Entry) (g : List Entry → List Entry) (heads : List (Left Entry)) (merge kept : Left Entry) → AllByRecursion IsSafe heads → merge ≡ all_left f None heads → kept ≡ left_as g None merge → IsSafe kept
kept_safe f g heads merge kept all made changed =
    ap (λ (s : Left Entry). step_errors s) changed ∙ ap (option_map (before None)) (ap (λ (s : Left Entry). step_errors s) made ∙ ap (option_map (before None)) (safe_together heads all))

-- what may be met of what gives no error
pub safe_meets : (o : Option (List Error)) (e : Error) → o ≡ Some [] → IfSome o (IsAmong e) → ⊥
safe_meets o e none met = subst (λ p. IfSome p (IsAmong e)) none met

-- a known list is what was taken of it and what is left
pub taken_known : (items all : List Entry) (after : Option (List Entry)) → Some items ≡ option_map (λ rest. all ++ rest) after → (rest : List Entry) × (after ≡ Some rest) × (items ≡ all ++ rest)
taken_known items all None taken = absurd (cc)
taken_known items all (Some rest) taken = (rest, refl, some_is items (all ++ rest) taken)

all_cut : (r size : ℕ) (after : Option (List Entry)) (blocks : List (List Entry)) → AllByRecursion (IsFilled r size after) blocks → AllByRecursion (IsCutBy r size) blocks
all_cut r size after [] all = tt
all_cut r size after (b ∷ blocks) all = (all.0.below, all_cut r size after blocks all.1)

-- the layout of a run that was written into an empty vector
run_layout : (f : Form) (blocks : List (List Entry)) (start bytes : List ℕ) (h : RunHandles) → AppendsLayout f blocks (Some start) (Some bytes) h → start ≡ [] → IsLayout f blocks bytes h
run_layout f blocks start bytes h layout empty =
    let run : AppendsLayout f blocks (Some []) (Some bytes) h = subst (λ xs. AppendsLayout f blocks (Some xs) (Some bytes) h) empty layout in
    subst (λ text. IsLayout f blocks text h) (sym run.2) run.1

-- a table of what was left of a source was written, if these are its handles
abbrev pub IsWrittenIf : Form → Sizes → List ℕ → List ℕ → Left Entry → Left Entry → Option RunHandles → Type 0
IsWrittenIf f sizes start bytes before after o =
    IfSome o (λ h. IsTableOf (run_kind f) sizes (Some start) (Some bytes) h (entries_in (λ e. e) before.list) (entries_in (λ e. e) after.list))

module _ (f : Form) (sizes : Sizes) (start bytes : List ℕ) (before after : Left Entry) (o : Option RunHandles) (h : RunHandles) (written : IsWrittenIf f sizes start bytes before after o) (is : o ≡ Some h) where
  the_table : IsTableOf (run_kind f) sizes (Some start) (Some bytes) h (entries_in (λ e. e) before.list) (entries_in (λ e. e) after.list)
  the_table = subst (λ p. IsWrittenIf f sizes start bytes before after p) is written

  -- it is a run
  pub table_layout : start ≡ [] → (blocks : List (List Entry)) × IsLayout f blocks bytes h
  table_layout empty = (the_table.blocks, run_layout f the_table.blocks start bytes h the_table.layout empty)

  known_taken : (items : List Entry) → before.list ≡ Some items → (rest : List Entry) × (after.list ≡ Some rest) × (items ≡ joined the_table.blocks ++ rest)
  known_taken items known =
      let t = the_table in
      taken_known items (joined t.blocks) after.list (sym known ∙ sym (entries_themselves before.list) ∙ t.taken ∙ ap (option_map (λ rest. joined t.blocks ++ rest)) (entries_themselves after.list))

  -- that of all where nothing is left
  pub cut_run : (items : List Entry) → start ≡ [] → before.list ≡ Some items → IfSome after.list (λ xs. xs ≡ []) → IsCutRun f sizes.block items bytes h
  cut_run items empty known none =
      let t = the_table in
      let k = known_taken items known in
      let nothing : k.0 ≡ [] = subst (λ p. IfSome p (λ xs. xs ≡ [])) k.1 none in
      record {
        blocks = t.blocks;
        entries_are = sym (k.2 ∙ ap (λ xs. joined t.blocks ++ xs) nothing ∙ append-nil (joined t.blocks));
        layout = run_layout f t.blocks start bytes h t.layout empty;
        cut = all_cut f.config.restart_interval sizes.block (entries_in (λ e. e) after.list) t.blocks t.filled;
      }

  -- where something is left it reaches its size
  pub cut_short : (items : List Entry) → sizes.table ≡ 2 ^ 64 - 1 → before.list ≡ Some items → IfSome after.list (λ xs. 1 ≤ length xs) → IsTooMuch f sizes.block items
  cut_short items size known some =
      let t = the_table in
      let k = known_taken items known in
      let more : 1 ≤ length k.0 = subst (λ p. IfSome p (λ xs. 1 ≤ length xs)) k.1 some in
      elim t.reaches [
        | inl reached ↦ inr (t.blocks, k.0, k.2, omega (arith, size, reached))
        | inr none ↦ (
            let nothing : k.0 ≡ [] = subst (λ p. IfSome p (λ xs. xs ≡ [])) (entries_themselves after.list ∙ k.1) none in
            absurd (omega (arith, more, ap (λ (xs : List Entry). length xs) nothing)))
      ]

-- a table that is too long is one because what is left does not fit, where its source gives no error
too_long_here : (f : Form) (W : Type 0) (size : ℕ) (s : Left Entry) (items : List Entry) → MayNotWrite (λ _. ⊥) W (λ e. e) (run_kind f) size s TooLong → ((e : Error) → MayMeet s e → ⊥) → entries_in (λ e. e) s.list ≡ Some items
    → IsTooMuch f size items
too_long_here f W size s items (inl (inl memory)) safe known = absurd (cc)
too_long_here f W size s items (inl (inr (inl fails))) safe known = absurd fails
too_long_here f W size s items (inl (inr (inr met))) safe known = absurd (safe TooLong met)
too_long_here f W size s items (inr (inl io)) safe known = absurd (let no = io.0 in cc)
too_long_here f W size s items (inr (inr (inl long))) safe known = inl (subst (λ o. IsTooLong (run_kind f) size o) known long.1)
too_long_here f W size s items (inr (inr (inr order))) safe known = absurd (let no = order.0 in cc)

pub too_long : {R : Type 0} (f : Form) (W : Type 0) (size : ℕ) (s : Left Entry) (items : List Entry) (r : Result R Error) (e : Error) → IfErr r (MayNotWrite (λ _. ⊥) W (λ x. x) (run_kind f) size s) → r ≡ Err e → e ≡ TooLong → ((d : Error) → MayMeet s d → ⊥) → s.list ≡ Some items
    → IsTooMuch f size items
too_long f W size s items r e cause is long safe known =
    too_long_here f W size s items (subst (λ d. MayNotWrite (λ _. ⊥) W (λ x. x) (run_kind f) size s d) long (subst (λ o. IfErr o (MayNotWrite (λ _. ⊥) W (λ x. x) (run_kind f) size s)) is cause)) safe (entries_themselves s.list ∙ known)

-- what is held of a source that gives no error gives none
pub held_safe : (s : Left Entry) (r : Result (Left Entry) Error) → IsSafe s → IfOk r (λ head. MeetsNoMore s head) → IfOk r (λ head. (e : Error) → MayMeet head e → ⊥)
held_safe s (Ok head) safe less = λ e met. safe_meets (step_errors s) e safe (less e met)
held_safe s (Err e) safe less = tt

pub held_fails : (s : Left Entry) (r : Result (Left Entry) Error) → IsSafe s → IfErr r (MayGive (λ _. ⊥) s) → IsOkUnless r Memory
held_fails s (Ok head) safe gives = tt
held_fails s (Err e) safe (inl memory) = memory
held_fails s (Err e) safe (inr (inl fails)) = absurd fails
held_fails s (Err e) safe (inr (inr met)) = absurd (safe_meets (step_errors s) e safe met)

-- a run that was told is what a compaction makes
pub compact_told : (c : Hashes) (config : RunConfig) (size : ℕ) (items : List Entry) (bytes : List ℕ) (h : RunHandles) (old new : List ℕ) (len_old len_new : ℕ) (h_old h_new : SstRunHandles) (s : Status)
    → IsWritable config → IsCutRun (run_form c config) size items bytes h → IsWrittenOut bytes old new len_new s → AreTold h h_old h_new s → IsCompact c config size items old new len_old len_new h_old h_new s
compact_told c config size items bytes h old new len_old len_new h_old h_new Done can run written told = (can, (bytes, h, run, written, told))
compact_told c config size items bytes h old new len_old len_new h_old h_new NoRoom can run written told = (can, (bytes, h, run, written, told))
compact_told c config size items bytes h old new len_old len_new h_old h_new NotFound can run written told = absurd written
compact_told c config size items bytes h old new len_old len_new h_old h_new BadArgument can run written told = absurd written
compact_told c config size items bytes h old new len_old len_new h_old h_new (Failed e) can run written told = absurd written

-- what is said of the entries that the bytes of runs have is said of those of their blocks
module _ (config : RunConfig) (size : ℕ) (range : KeyRange) (snapshots : List ℕ) (bottom : Bool) (runs : List SstRun) (old new : List ℕ) (len_old len_new : ℕ) (h_old h_new : SstRunHandles) (s : Status) (left : Type 0) (opens : Opens) where
  abbrev pub SaysOf : Hash → List (List Entry) → Type 0
  SaysOf hash lists = IsCompact (hashes_of hash) config size (left_of snapshots bottom lists) old new len_old len_new h_old h_new s

  pub said_of_blocks : (hash given : Option Hash) (by : RunConfig) → hash ≡ given → config ≡ by → IsHashed hash s left (λ h. SaysOf h (map (run_entries range) runs))
      → IsHashed given s left (λ h. ForRuns runs (λ all. IsCompact (hashes_of h) by size (left_of snapshots bottom (map (entries_within range) all)) old new len_old len_new h_old h_new s))
  said_of_blocks hash given by is same said =
      subst (λ k. IsHashed given s left (λ h. ForRuns runs (λ all. IsCompact (hashes_of h) k size (left_of snapshots bottom (map (entries_within range) all)) old new len_old len_new h_old h_new s))) same
      (subst (λ o. IsHashed o s left (λ h. ForRuns runs (λ all. SaysOf h (map (entries_within range) all)))) is (each hash said))
    where
      each : (hash : Option Hash) → IsHashed hash s left (λ h. SaysOf h (map (run_entries range) runs)) → IsHashed hash s left (λ h. ForRuns runs (λ all. SaysOf h (map (entries_within range) all)))
      each None said = said
      each (Some h) said = λ all zip. subst (SaysOf h) (all_within range runs all zip opens) said
