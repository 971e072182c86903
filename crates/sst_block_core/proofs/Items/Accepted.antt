-- What the check of an encoding returns.
use Rattle.std.proofs.Common.{◌≡◌, ◌≢◌, ℕ, ◌<◌, ◌^◌, List, length, map, refl, ◌∙◌, ap, Result, Ok, Err}
use Rattle.std.proofs.lemmas.List.{length-map}
use Rattle.std.specs.Result.{OnOk, IfOk, IfErr, MatchResult}
use Rattle.sst_base.specs.Bytes.{IsBytes}
use Rattle.sst_base.specs.Entry.{Entry, IsEntry, plain}
use Rattle.sst_base.specs.declared.error.Error.{Error}
use Rattle.sst_base.specs.declared.error.Error.TheVariants.{Memory}
use Rattle.sst_block_core.specs.Entries.{entries}
use Rattle.sst_block_core.specs.Payload.{IsBlock}
use Rattle.sst_block_core.specs.Stages.{items_in}
use Rattle.sst_block_core.specs.Checks.{data_check, index_check}
use Rattle.sst_block_core.specs.Handles.{Handle, handles, IsIndexBlock}
use Rattle.sst_block_core.proofs.Items.CheckAnswers.{data_accepts, index_accepts}

-- a check that gives these items returns Ok, or Memory
accepted : {X : Type 0} (check : Result (List X) Error) (found items : List X) (r : Result ℕ Error) → check ≡ Ok items
    → OnOk r (check ≡ Ok found) → IfOk r (λ n. n ≡ length found) → IfErr r (λ e. e ≢ Memory → check ≡ Err e) → MatchResult r (λ n. n ≡ length items) (λ e. e ≡ Memory)
accepted check found items (Ok n) is checked count refused =
    let same : found ≡ items = cc (is, checked) in
    count ∙ ap length same
accepted check found items (Err Memory) is checked count refused = refl
accepted check found items (Err e) is checked count refused = absurd (let wrong = refused (λ same. cc (same)) in cc (is, wrong))

-- of two lists of the same length
same_length : {X Y : Type 0} (xs : List X) (ys : List Y) → length xs ≡ length ys → (r : Result ℕ Error) → MatchResult r (λ n. n ≡ length xs) (λ e. e ≡ Memory) → MatchResult r (λ n. n ≡ length ys) (λ e. e ≡ Memory)
same_length xs ys same (Ok n) h = h ∙ same
same_length xs ys same (Err e) h = h

always : {A : Type 0} (P : Error → Type 0) (r : Result A Error) → IfErr r P → IfErr r (λ e. e ≢ Memory → P e)
always P (Ok x) h = tt
always P (Err e) h = λ _. h

pub data_accepted : (hash : List ℕ → ℕ) (p : List ℕ) (items : List Entry) (r b : ℕ) (answer : Result ℕ Error) → IsBytes p → length p < 2 ^ 32 → IsBlock entries IsEntry hash p items r b
    → OnOk answer (data_check hash p ≡ Ok (items_in entries p)) → IfOk answer (λ n. n ≡ length (items_in entries p)) → IfErr answer (λ e. e ≢ Memory → data_check hash p ≡ Err e)
    → MatchResult answer (λ n. n ≡ length items) (λ e. e ≡ Memory)
data_accepted hash p items r b answer bytes room encoded checked count refused =
    let is = (data_accepts hash p (map plain items) bytes room).1 (items, r, b, encoded, refl) in
    same_length (map plain items) items (length-map items plain) answer (accepted (data_check hash p) (items_in entries p) (map plain items) answer is checked count refused)

pub index_accepted : (p : List ℕ) (items : List Handle) (r : ℕ) (answer : Result ℕ Error) → IsBytes p → length p < 2 ^ 32 → IsIndexBlock p items r
    → OnOk answer (index_check p ≡ Ok (items_in handles p)) → IfOk answer (λ n. n ≡ length (items_in handles p)) → IfErr answer (λ e. index_check p ≡ Err e)
    → MatchResult answer (λ n. n ≡ length items) (λ e. e ≡ Memory)
index_accepted p items r answer bytes room encoded checked count refused =
    let is = (index_accepts p items bytes room).1 (r, encoded) in
    accepted (index_check p) (items_in handles p) items answer is checked count (always (λ e. index_check p ≡ Err e) answer refused)
