-- The heads of what windows of runs have left, one after the other, and windows one for each run.
use Rattle.std.proofs.Common.{◌≡◌, ◌∙◌, ℕ, zero, suc, ◌+◌, ◌≤◌, ◌<◌, List, [], ◌∷◌, ◌++◌, length, take, map, get_or, refl, sym, ap, subst, arith, Option, None, Some}
use Rattle.std.specs.List.{AllZip}
use Rattle.std.specs.Option.{option_map}
use Rattle.std.proofs.lemmas.List.{map-append, take_all}
use Rattle.sst_sources.specs.Sources.{Left, all_known, lists_left}
use Rattle.sst_sources.specs.SourceLaws.{known_split}
use Rattle.sstable_blocks.specs.BlockLaws.{some_is}
use Rattle.sstable_blocks.specs.Prelude.{Entry}
use Rattle.sst_calls.specs.MergeBatches.{AreWindows}
use Rattle.sst_calls.specs.Placed.{PlacedEntry, placed_left, placed_lists, run_blocks}
use Rattle.sst_calls.specs.Runs.{IsGivenRun, IsSomeRun, handles_given}
use Rattle.sst_calls.specs.Windows.{IsWindow, blocks_in, stored}
use Rattle.sstable_blocks.specs.Opened.{Opened}
use Rattle.sstable_blocks.specs.RunReading.{Hashes}
use Rattle.sstable_blocks.specs.Sound.{IsSound}
use Rattle.sstable_blocks.specs.declared.run.RunHandles.{RunHandles}
use Rattle.sst_calls.proofs.Lists.RunBlockLists.{blocks_stored}
use Rattle.sst_calls.specs.declared.run.SstRun.{SstRun}
use Rattle.sst_calls.specs.declared.window.SstWindow.{SstWindow}

-- what is known of lists, and one more
known_push : {A : Type 0} (os : List (Option A)) (all : List A) (a : A) → all_known os ≡ Some all → all_known (os ++ Some a ∷ []) ≡ Some (all ++ a ∷ [])
known_push [] all a e = ap (λ v. Some (v ++ a ∷ [])) (some_is [] all e)
known_push (None ∷ os) all a e = absurd (cc (e))
known_push (Some b ∷ os) all a e =
    let k = known_split b (all_known os) all e in
    ap (option_map (λ rest. b ∷ rest)) (known_push os k.rest a k.known) ∙ ap (λ v. Some (v ++ a ∷ [])) (sym k.is)

-- what heads of sources have left, and one more
lists_push : (heads : List (Left PlacedEntry)) (xss : List (List PlacedEntry)) (h : Left PlacedEntry) (xs : List PlacedEntry) → lists_left heads ≡ Some xss → h.list ≡ Some xs → lists_left (heads ++ h ∷ []) ≡ Some (xss ++ xs ∷ [])
lists_push heads xss h xs known here =
    ap all_known (map-append (λ (s : Left PlacedEntry). s.list) heads (h ∷ []))
    ∙ ap (λ o. all_known (map (λ (s : Left PlacedEntry). s.list) heads ++ o ∷ [])) here
    ∙ known_push (map (λ (s : Left PlacedEntry). s.list) heads) xss xs known

take_none : {A : Type 0} (xs : List A) → take 0 xs ≡ []
take_none [] = refl
take_none (x ∷ xs) = refl

-- the lists of the first runs, and of one more
lists_more : (k : ℕ) (runs : List SstRun) (ws : List SstWindow) (i : ℕ) (r : SstRun) (w : SstWindow) → i < length runs → i < length ws
    → take (i + 1) (placed_lists k runs ws) ≡ take i (placed_lists k runs ws) ++ placed_left (k + i) (get_or runs i r).bytes.now (run_blocks (get_or runs i r)) (get_or ws i w) ∷ []
lists_more k [] ws i r w less within = absurd (omega (arith, less))
lists_more k (s ∷ runs) [] i r w less within = absurd (omega (arith, within))
lists_more k (s ∷ runs) (v ∷ ws) zero r w less within =
    let n : k ≡ k + 0 = omega arith in
    let one : zero + 1 ≡ suc zero = omega arith in
    ap (λ m. take m (placed_lists k (s ∷ runs) (v ∷ ws))) one
    ∙ ap (λ q. placed_left k s.bytes.now (run_blocks s) v ∷ q) (take_none (placed_lists (suc k) runs ws))
    ∙ ap (λ m. placed_left m s.bytes.now (run_blocks s) v ∷ []) n
lists_more k (s ∷ runs) (v ∷ ws) (suc i) r w less within =
    let n : suc k + i ≡ k + suc i = omega arith in
    let m : suc i + 1 ≡ suc (i + 1) = omega arith in
    ap (λ j. take j (placed_lists k (s ∷ runs) (v ∷ ws))) m
    ∙ ap (λ q. placed_left k s.bytes.now (run_blocks s) v ∷ q) (lists_more (suc k) runs ws i r w (omega (arith, less)) (omega (arith, within)))
    ∙ ap (λ j. placed_left k s.bytes.now (run_blocks s) v ∷ (take i (placed_lists (suc k) runs ws) ++ placed_left j (get_or runs i r).bytes.now (run_blocks (get_or runs i r)) (get_or ws i w) ∷ [])) n

-- the heads of the first runs, and of one more
pub heads_more : (runs : List SstRun) (ws : List SstWindow) (i : ℕ) (r : SstRun) (w : SstWindow) (heads : List (Left PlacedEntry)) (h : Left PlacedEntry) → i < length runs → i < length ws → lists_left heads ≡ Some (take i (placed_lists 0 runs ws))
    → h.list ≡ Some (placed_left i (get_or runs i r).bytes.now (run_blocks (get_or runs i r)) (get_or ws i w)) → lists_left (heads ++ h ∷ []) ≡ Some (take (i + 1) (placed_lists 0 runs ws))
heads_more runs ws i r w heads h less within known here =
    let n : 0 + i ≡ i = omega arith in
    let run = get_or runs i r in
    lists_push heads (take i (placed_lists 0 runs ws)) h (placed_left i run.bytes.now (run_blocks run) (get_or ws i w)) known here
    ∙ ap (λ m. Some (take i (placed_lists 0 runs ws) ++ placed_left m run.bytes.now (run_blocks run) (get_or ws i w) ∷ [])) (sym n)
    ∙ ap Some (sym (lists_more 0 runs ws i r w less within))

-- handles that are the same
pub run_by : (bytes : List ℕ) (g h : RunHandles) → g ≡ h → IsSomeRun bytes h → IsSomeRun bytes g
run_by bytes g h same sound = subst (IsSomeRun bytes) (sym same) sound

pub window_by : (bytes : List ℕ) (g h : RunHandles) (w : SstWindow) → g ≡ h → IsWindow (blocks_in bytes h) w → IsWindow (blocks_in bytes g) w
window_by bytes g h w same window = subst (λ k. IsWindow (blocks_in bytes k) w) (sym same) window

pub window_from : (bytes : List ℕ) (g h : RunHandles) (w : SstWindow) → g ≡ h → IsWindow (blocks_in bytes g) w → IsWindow (blocks_in bytes h) w
window_from bytes g h w same window = subst (λ k. IsWindow (blocks_in bytes k) w) same window

-- there are as many lists as runs
lists_count : (k : ℕ) (runs : List SstRun) (ws : List SstWindow) → length runs ≡ length ws → length (placed_lists k runs ws) ≡ length runs
lists_count k [] ws same = refl
lists_count k (r ∷ runs) [] same = absurd (omega (arith, same))
lists_count k (r ∷ runs) (w ∷ ws) same = ap suc (lists_count (suc k) runs ws (omega (arith, same)))

pub lists_all : (runs : List SstRun) (ws : List SstWindow) (n : ℕ) → length runs ≡ length ws → length runs ≤ n → take n (placed_lists 0 runs ws) ≡ placed_lists 0 runs ws
lists_all runs ws n same all = take_all n (placed_lists 0 runs ws) (omega (arith, all, lists_count 0 runs ws same))

-- as many windows as runs
pub windows_count : (runs : List SstRun) (ws : List SstWindow) → AreWindows (map run_blocks runs) ws → length runs ≡ length ws
windows_count [] [] are = refl
windows_count [] (w ∷ ws) are = absurd are
windows_count (r ∷ runs) [] are = absurd are
windows_count (r ∷ runs) (w ∷ ws) are = ap suc (windows_count runs ws are.1)

-- the window of a run
pub window_of : (runs : List SstRun) (ws : List SstWindow) (i : ℕ) (r : SstRun) (w : SstWindow) → AreWindows (map run_blocks runs) ws → i < length runs → IsWindow (run_blocks (get_or runs i r)) (get_or ws i w)
window_of [] ws i r w are less = absurd (omega (arith, less))
window_of (s ∷ runs) [] i r w are less = absurd are
window_of (s ∷ runs) (v ∷ ws) zero r w are less = are.0
window_of (s ∷ runs) (v ∷ ws) (suc i) r w are less = window_of runs ws i r w are.1 (omega (arith, less))

-- the windows of the first runs, and of one more
pub windows_more : (runs : List SstRun) (ws : List SstWindow) (i : ℕ) (r : SstRun) (w : SstWindow) → i < length runs → i < length ws
    → AreWindows (map run_blocks (take i runs)) (take i ws) → IsWindow (run_blocks (get_or runs i r)) (get_or ws i w) → AreWindows (map run_blocks (take (i + 1) runs)) (take (i + 1) ws)
windows_more [] ws i r w less within are one = absurd (omega (arith, less))
windows_more (s ∷ runs) [] i r w less within are one = absurd (omega (arith, within))
windows_more (s ∷ runs) (v ∷ ws) zero r w less within are one =
    let n : zero + 1 ≡ suc zero = omega arith in
    subst (λ m. AreWindows (map run_blocks (take m (s ∷ runs))) (take m (v ∷ ws))) (sym n)
    (one, subst (λ q. AreWindows (map run_blocks q) (take 0 ws)) (sym (take_none runs)) (subst (λ q. AreWindows [] q) (sym (take_none ws)) tt))
windows_more (s ∷ runs) (v ∷ ws) (suc i) r w less within are one =
    let n : suc i + 1 ≡ suc (i + 1) = omega arith in
    subst (λ m. AreWindows (map run_blocks (take m (s ∷ runs))) (take m (v ∷ ws))) (sym n)
    (are.0, windows_more runs ws i r w (omega (arith, less)) (omega (arith, within)) are.1 one)

-- the blocks of runs are stored as they were written
pub runs_stored : ((k : Hashes) (blocks : List (List Entry)) (bytes : List ℕ) (h : RunHandles) → IsSound k blocks bytes h → Opened k.hash64 blocks bytes h) → (runs : List SstRun) (each : List (List (List Entry))) → AllZip IsGivenRun runs each
    → map run_blocks runs ≡ map stored each
runs_stored opens [] [] are = refl
runs_stored opens [] (b ∷ each) are = absurd are
runs_stored opens (r ∷ runs) [] are = absurd are
runs_stored opens (r ∷ runs) (b ∷ each) are =
    let h = handles_given r.handles in
    let first = blocks_stored are.0.0.hash64 b r.bytes.now h (opens are.0.0 b r.bytes.now h are.0.1) in
    ap (λ v. v ∷ map run_blocks runs) first ∙ ap (λ v. stored b ∷ v) (runs_stored opens runs each are.1)
